-- What the Done steps of an isolating order put at its points.
use Rattle.std.proofs.Common.{◌≡◌, ◌⊎◌, inl, inr, ℕ, Bool, true, false, ◌&&◌, ◌||◌, List, [], ◌∷◌, Option, Some, None, map, find, filter, Contains, refl, sym, ◌∙◌, ap, subst, arith, Less}
use Rattle.clr_rules.proofs.Common.{list_any, IsStrictlySortedBy, and_parts, both_ways, false≢true, or_cases, or_left, or_right, nat_list_cmp_total, tied_itself, FenceRows, fence_of, in_fence, Grid}
use Rattle.clr_rules.proofs.Common.{name_cmp, same_name, has_name, PointRow, one_name, some_from, actions_at, Action, StepState, Waiting, Done, Contains-cases, Contains-here, Contains-later, put_by}
use Rattle.clr_rules.proofs.Common.{puts, all_waiting, go_in_turn, has_name-row}
use Rattle.std.proofs.lemmas.List.Elements.{All-contains, All-contains_itself, All-filter}
use Rattle.std.proofs.lemmas.Map.Keys.{sorted_tail}
use Rattle.std.proofs.lemmas.Map.Views.{All-after_first}
use Rattle.clr_order.specs.Isolating.{IsSoundOrder, is_border_point, needed_at, touching_row}
use Rattle.clr_order.specs.Needed.{needed}
use Rattle.clr_rules.specs.Prelude.{Instructed, Repeated, HoldKind, HeldOpen, Block, Control, Tag, StepRow, all_done, is_done, is_some_step, is_waiting, points_of, tasks_of, first_of_each}
use Rattle.clr_order.proofs.Finds.{found_passes}
use Rattle.clr_rules.proofs.live.FenceCuts.{has_name-once}
use Rattle.clr_rules.proofs.lists.RoundSteps.{some_step_there}
use Rattle.clr_order.specs.declared.action.Action.TheVariants as actions

-- ---- rows by name

-- what is found is there
pub found_there : {X : Type 0} (p : X → Bool) (xs : List X) (y : X) → find p xs ≡ Some y → Contains xs y
found_there p [] y h = absurd (cc)
found_there {X = X} p (x ∷ xs) y h = at (p x) refl (found_there p xs y)
  where
    at : (b : Bool) → p x ≡ b → (find p xs ≡ Some y → Contains xs y) → Contains (x ∷ xs) y
    at true e more = let k = rw e at h in let same : x ≡ y = cc in subst (λ (z : X). Contains (x ∷ xs) z) same (Contains-here x xs)
    at false e more = Contains-later x y xs (more (rw e at h))

-- what a filter keeps was there
pub kept_there : {X : Type 0} (q : X → Bool) (xs : List X) (x : X) → Contains (filter q xs) x → Contains xs x
kept_there q xs x there = All-contains (Contains xs) (filter q xs) x (All-filter q (Contains xs) xs (All-contains_itself xs)) there

-- where names rise, rows of one name are one row
pub one_of_name : {X : Type 0} (name_of : X → List ℕ) (rows : List X) → IsStrictlySortedBy name_cmp (map name_of rows)
    → (a b : X) → Contains rows a → Contains rows b → name_of a ≡ name_of b → a ≡ b
one_of_name name_of [] rising a b a_there b_there same = absurd (let (k, within, is) = a_there in omega arith)
one_of_name {X = X} name_of (row ∷ rows) rising a b a_there b_there same =
    at (one_of_name name_of rows (sorted_tail name_cmp (name_of row) (map name_of rows) rising) a b) (Contains-cases row a rows a_there) (Contains-cases row b rows b_there)
  where
    later_differs : (x : X) → Contains rows x → name_of row ≡ name_of x → ⊥
    later_differs x there equal =
        let (q, among, named) = some_from (same_name (name_of x)) (map name_of rows) (has_name-row name_of rows x there) in
        let above = All-contains (λ q. name_cmp (name_of row) q ≡ Less) (map name_of rows) q (All-after_first name_cmp (name_of row) (map name_of rows) rising) among in
        let less : name_cmp (name_of row) (name_of row) ≡ Less = ap (name_cmp (name_of row)) (equal ∙ one_name (name_of x) q named) ∙ above in
        let ties = tied_itself nat_list_cmp_total (name_of row) in
        absurd (cc)

    at : (Contains rows a → Contains rows b → name_of a ≡ name_of b → a ≡ b) → (row ≡ a) ⊎ Contains rows a → (row ≡ b) ⊎ Contains rows b → a ≡ b
    at more (inl a_here) (inl b_here) = sym a_here ∙ b_here
    at more (inl a_here) (inr b_later) = absurd (later_differs b b_later (ap name_of a_here ∙ same))
    at more (inr a_later) (inl b_here) = absurd (later_differs a a_later (ap name_of b_here ∙ sym same))
    at more (inr a_later) (inr b_later) = more a_later b_later same

-- ---- what is put

module _ (kind : HoldKind) (p : List ℕ) where
  -- what is put at a point, is put at a point of the order
  pub put_at_points : (rows : List StepRow) → put_by rows kind p ≡ true → has_name (points_of rows) p ≡ true
  put_at_points [] put = put
  put_at_points (row ∷ rows) put = at (put_at_points rows) (or_cases ((is_done row.step.state && puts row.step.action kind) && same_name p row.step.point) (put_by rows kind p) put)
    where
      at : (put_by rows kind p ≡ true → has_name (points_of rows) p ≡ true)
          → (((is_done row.step.state && puts row.step.action kind) && same_name p row.step.point) ≡ true) ⊎ (put_by rows kind p ≡ true)
          → has_name (points_of (row ∷ rows)) p ≡ true
      at more (inl here) = or_left (same_name p row.step.point) (has_name (points_of rows) p) (and_parts (is_done row.step.state && puts row.step.action kind) (same_name p row.step.point) here).1
      at more (inr later) = or_right (same_name p row.step.point) (has_name (points_of rows) p) (more later)

  -- steps that wait put nothing
  pub waiting_put_nothing : (rows : List StepRow) → all_waiting rows ≡ true → put_by rows kind p ≡ false
  waiting_put_nothing [] waits = refl
  waiting_put_nothing (row ∷ rows) waits =
      let parts = and_parts (is_waiting row.step.state) (all_waiting rows) waits in
      at row.step.state refl parts.0 (waiting_put_nothing rows parts.1)
    where
      at : (state : StepState) → row.step.state ≡ state → is_waiting row.step.state ≡ true → put_by rows kind p ≡ false → put_by (row ∷ rows) kind p ≡ false
      at Waiting is wait more = rw is more
      at Instructed is wait more = absurd (false≢true (sym (ap is_waiting is) ∙ wait))
      at Repeated is wait more = absurd (false≢true (sym (ap is_waiting is) ∙ wait))
      at Done is wait more = absurd (false≢true (sym (ap is_waiting is) ∙ wait))

  -- where all steps are Done, each action at a point has put what it puts
  pub all_put : (rows : List StepRow) → all_done rows ≡ true → put_by rows kind p ≡ list_any (λ action. puts action kind) (actions_at (tasks_of rows) p)
  all_put [] done = refl
  all_put (row ∷ rows) done =
      let parts = and_parts (is_done row.step.state) (all_done rows) done in
      at (same_name p row.step.point) refl (puts row.step.action kind) refl parts.0 (all_put rows parts.1)
    where
      at : (b : Bool) → same_name p row.step.point ≡ b → (d : Bool) → puts row.step.action kind ≡ d → is_done row.step.state ≡ true
          → put_by rows kind p ≡ list_any (λ action. puts action kind) (actions_at (tasks_of rows) p)
          → put_by (row ∷ rows) kind p ≡ list_any (λ action. puts action kind) (actions_at (tasks_of (row ∷ rows)) p)
      at true e true f is_done more = rw (e, f, is_done) refl
      at true e false f is_done more = rw (e, f, is_done) more
      at false e true f is_done more = rw (e, f, is_done) more
      at false e false f is_done more = rw (e, f, is_done) more

  -- steps that go in turn, and open the point first, have opened it where they have put anything there
  pub opened_first : (rows : List StepRow) (more : List Action) → go_in_turn rows ≡ true → actions_at (tasks_of rows) p ≡ actions.Open ∷ more
      → put_by rows kind p ≡ true → put_by rows HeldOpen p ≡ true
  opened_first [] more turns opens put = absurd (false≢true put)
  opened_first (row ∷ rows) more turns opens put =
      let parts = and_parts (is_done row.step.state || all_waiting rows) (go_in_turn rows) turns in
      at (same_name p row.step.point) refl (is_done row.step.state) refl parts.0 (opened_first rows more parts.1)
    where
      at : (b : Bool) → same_name p row.step.point ≡ b → (d : Bool) → is_done row.step.state ≡ d → (is_done row.step.state || all_waiting rows) ≡ true
          → (actions_at (tasks_of rows) p ≡ actions.Open ∷ more → put_by rows kind p ≡ true → put_by rows HeldOpen p ≡ true)
          → put_by (row ∷ rows) HeldOpen p ≡ true
      at true e true f head later =
          let first = rw e at opens in
          let action : row.step.action ≡ actions.Open = cc in
          rw (f, action, e) refl
      at b e false f head later =
          let waits : all_waiting rows ≡ true = rw f at head in
          let none : put_by (row ∷ rows) kind p ≡ false = rw f (waiting_put_nothing rows waits) in
          absurd (both_ways (put_by (row ∷ rows) kind p) none put)
      at false e true f head later =
          elim (or_cases ((is_done row.step.state && puts row.step.action kind) && same_name p row.step.point) (put_by rows kind p) put) [
            | inl here ↦ absurd (both_ways (same_name p row.step.point) e (and_parts (is_done row.step.state && puts row.step.action kind) (same_name p row.step.point) here).1)
            | inr there ↦ or_right ((is_done row.step.state && puts row.step.action HeldOpen) && same_name p row.step.point) (put_by rows HeldOpen p) (later (rw e at opens) there)
          ]

-- ---- the points of a sound order

-- an isolating order has a step
pub some_isolating : (g : Grid) (work : List ℕ) (rows : List StepRow) → IsSoundOrder g work (first_of_each (points_of rows)) (tasks_of rows) → is_some_step rows ≡ true
unfolding first_of_each
some_isolating g work [] sound = let some = sound.some_point in absurd (omega arith)
some_isolating g work (row ∷ rows) sound = some_step_there row rows

-- at each point of a sound order, which the network has, the needed steps are taken
pub needed_there : (g : Grid) (work : List ℕ) (rows : List StepRow) → IsSoundOrder g work (first_of_each (points_of rows)) (tasks_of rows)
    → (p : List ℕ) → has_name (points_of rows) p ≡ true
    → (row : PointRow) × Contains (Grid.points g) row × (p ≡ row.name) × (actions_at (tasks_of rows) p ≡ needed row)
needed_there g work rows sound p known = at (touching_row fence p) refl
  where
    fence : FenceRows
    fence = fence_of g work (first_of_each (points_of rows))

    among : Contains (first_of_each (points_of rows)) p
    among =
        let (q, there, same) = some_from (same_name p) (first_of_each (points_of rows)) (has_name-once (points_of rows) p ∙ known) in
        rw (one_name p q same) there

    at : (o : Option PointRow) → touching_row (fence_of g work (first_of_each (points_of rows))) p ≡ o
        → (row : PointRow) × Contains (Grid.points g) row × (p ≡ row.name) × (actions_at (tasks_of rows) p ≡ needed row)
    at None e =
        let border = All-contains (λ p. is_border_point (fence_of g work (first_of_each (points_of rows))) p ≡ true) (first_of_each (points_of rows)) p sound.on_border among in
        absurd (false≢true (rw e at border))
    at (Some row) e =
        let steps = All-contains (λ p. actions_at (tasks_of rows) p ≡ needed_at (fence_of g work (first_of_each (points_of rows))) p) (first_of_each (points_of rows)) p sound.isolated among in
        let here = found_there (λ (r : PointRow). same_name p r.name) (fence_of g work (first_of_each (points_of rows))).touching row e in (
          row,
          kept_there (λ p. in_fence g work (first_of_each (points_of rows)) p.from_end || in_fence g work (first_of_each (points_of rows)) p.to_end) g.points row here,
          one_name p row.name (found_passes (λ (r : PointRow). same_name p r.name) (fence_of g work (first_of_each (points_of rows))).touching row e),
          rw e at steps,
        )

-- what the needed steps put: the point is held open and tagged, and blocked and controlled where its design permits it
pub needed_open : (row : PointRow) → list_any (λ action. puts action HeldOpen) (needed row) ≡ true
needed_open row = refl

pub needed_tag : (row : PointRow) → list_any (λ action. puts action Tag) (needed row) ≡ true
needed_tag row = at row.lockable refl row.remote refl
  where
    at : (a : Bool) → row.lockable ≡ a → (b : Bool) → row.remote ≡ b → list_any (λ action. puts action Tag) (needed row) ≡ true
    at true e true f = rw (e, f) refl
    at true e false f = rw (e, f) refl
    at false e true f = rw (e, f) refl
    at false e false f = rw (e, f) refl

pub needed_block : (row : PointRow) → row.lockable ≡ true → list_any (λ action. puts action Block) (needed row) ≡ true
needed_block row lockable = rw lockable refl

pub needed_control : (row : PointRow) → row.remote ≡ true → list_any (λ action. puts action Control) (needed row) ≡ true
needed_control row remote = at row.lockable refl
  where
    at : (a : Bool) → row.lockable ≡ a → list_any (λ action. puts action Control) (needed row) ≡ true
    at true e = rw (e, remote) refl
    at false e = rw (e, remote) refl

-- at the points of a sound order whose steps go in turn, a HeldOpen is there where anything was put
pub put_beside_open : (g : Grid) (work : List ℕ) (rows : List StepRow) → IsSoundOrder g work (first_of_each (points_of rows)) (tasks_of rows) → go_in_turn rows ≡ true
    → (kind : HoldKind) (p : List ℕ) → put_by rows kind p ≡ true → put_by rows HeldOpen p ≡ true
put_beside_open g work rows sound turns kind p put =
    let (row, there, named, steps) = needed_there g work rows sound p (put_at_points kind p rows put) in
    opened_first kind p rows _ turns steps put
