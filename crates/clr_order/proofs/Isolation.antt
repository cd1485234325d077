-- A sound order leaves no way from a source to its work section but over points that it makes safe; the least source is named.
use Rattle.std.proofs.Common.{◌≡◌, ◌∙◌, ℕ, zero, suc, ◌<◌, Bool, true, false, ◌||◌, IsTrue, Option, Some, None, List, [], ◌∷◌, length, filter, find, All, Contains, refl, ap, sym, arith, get_or}
use Rattle.std.proofs.Common.{option_map, Greater, Less}
use Rattle.std.specs.List.Sorted.{IsStrictlySortedBy}
use Rattle.std.proofs.lemmas.Bool.{both_ways, or_left, or_right, false≢true, false_from_ne_true}
use Rattle.std.proofs.lemmas.Cmp.{nat_list_cmp_total}
use Rattle.std.proofs.lemmas.List.Elements.{All-contains, All-cons, All-head, All-nil, All-tail}
use Rattle.std.proofs.lemmas.Map.Keys.{sorted_tail}
use Rattle.std.proofs.lemmas.Map.Views.{All-after_first}
use Rattle.clr_net.specs.Prelude.{FenceRows, fence_of, in_fence, Grid, IsNetwork, point_names, section_names, name_cmp, same_name, has_name}
use Rattle.clr_net.specs.Walk.{Walk}
use Rattle.clr_net.specs.Walk.Walk.{goes_on, stays}
use Rattle.clr_net.proofs.Walks.{fence_is_walks, one_name, some_from}
use Rattle.clr_order.specs.Isolating.{IsSoundOrder, is_border_point, needed_at, touching_row}
use Rattle.clr_order.specs.Laws.{is_made_safe, safe_points}
use Rattle.clr_order.specs.Needed.{needed}
use Rattle.clr_order.specs.Step.{Task, actions_at}
use Rattle.clr_order.proofs.Actions.{same_actions-Decides}
use Rattle.clr_order.proofs.Finds.{found_passes}
use Rattle.clr_net.specs.declared.point.PointRow.{PointRow}
use Rattle.clr_net.specs.declared.section.SectionRow.{SectionRow}

-- a row that is found among some rows under a name, and which passes a test, is named among those that pass it
found_among : (name : List ℕ) (near safe : PointRow → Bool) (rows : List PointRow) (row : PointRow)
    → find (λ r. same_name name r.name) (filter near rows) ≡ Some row → safe row ≡ true → has_name (point_names (filter safe rows)) name ≡ true
found_among name near safe [] row found passes = absurd (cc)
found_among name near safe (x ∷ rows) row found passes = at (near x) refl (same_name name x.name) refl (safe x) refl (found_among name near safe rows row)
  where
    at : (b : Bool) → near x ≡ b → (c : Bool) → same_name name x.name ≡ c → (d : Bool) → safe x ≡ d
        → (find (λ r. same_name name r.name) (filter near rows) ≡ Some row → safe row ≡ true → has_name (point_names (filter safe rows)) name ≡ true)
        → has_name (point_names (filter safe (x ∷ rows))) name ≡ true
    at true e true f true g more = rw g (or_left (same_name name x.name) _ f)
    at true e true f false g more =
        let k = rw (e, f) at found in
        let same : x ≡ row = cc in
        absurd (both_ways (safe x) g (rw same passes))
    at true e false f true g more = rw g (or_right (same_name name x.name) _ (more (rw (e, f) at found) passes))
    at true e false f false g more = rw g (more (rw (e, f) at found) passes)
    at false e c f true g more = rw g (or_right (same_name name x.name) _ (more (rw e at found) passes))
    at false e c f false g more = rw g (more (rw e at found) passes)

-- a point of a sound order is one that it makes safe
made_safe : (g : Grid) (work : List ℕ) (points : List (List ℕ)) (tasks : List Task) → IsSoundOrder g work points tasks
    → (name : List ℕ) → has_name points name ≡ true → has_name (safe_points g tasks) name ≡ true
made_safe g work points tasks sound name there = with_row (touching_row fence name) refl
  where
    fence : FenceRows
    fence = fence_of g work points

    among : Contains points name
    among = let (x, has, same) = some_from (same_name name) points there in rw (one_name name x same) has

    with_row : (o : Option PointRow) → touching_row (fence_of g work points) name ≡ o → has_name (safe_points g tasks) name ≡ true
    with_row None e =
        let border = All-contains (λ p. IsTrue (is_border_point (fence_of g work points) p)) points name sound.on_border among in
        absurd (false≢true (rw e at border))
    with_row (Some row) e =
        let done = All-contains (λ p. actions_at tasks p ≡ needed_at (fence_of g work points) p) points name sound.isolated among in
        let needed_here : actions_at tasks name ≡ needed row = rw e at done in
        let named = one_name name row.name (found_passes (λ (r : PointRow). same_name name r.name) (fence_of g work points).touching row e) in
        found_among name (λ p. in_fence g work points p.from_end || in_fence g work points p.to_end) (is_made_safe tasks) g.points row e
        ((same_actions-Decides (actions_at tasks row.name) (needed row)).1 (ap (actions_at tasks) (sym named) ∙ needed_here))

-- a walk over points that the order does not make safe passes none of its points
uncut : (g : Grid) (work : List ℕ) (points : List (List ℕ)) (tasks : List Task) → IsSoundOrder g work points tasks
    → (s : List ℕ) → Walk g.points (safe_points g tasks) work s → Walk g.points points work s
uncut g work points tasks sound s (stays s' same) = stays s' same
uncut g work points tasks sound s (goes_on p a b walk there unsafe joined) =
    goes_on p a b (uncut g work points tasks sound a walk) there
    (false_from_ne_true (has_name points p.name) (λ inside. both_ways _ unsafe (made_safe g work points tasks sound p.name inside)))
    joined

-- what holds of the rows that a filter keeps, holds of a row that passes
kept_holds : {X : Type 0} (P : X → Type 0) (q : X → Bool) (xs : List X) (x : X) (k : ℕ) → k < length xs → get_or xs k x ≡ x → q x ≡ true → All P (filter q xs) → P x
kept_holds P q [] x k inside is passes all = absurd (omega arith)
kept_holds P q (y ∷ ys) x zero inside is passes all =
    let kept : q y ≡ true = rw is passes in
    let head = All-head P y (filter q ys) (rw kept at all) in
    rw (← is) head
kept_holds P q (y ∷ ys) x (suc k) inside is passes all = at (q y) refl (kept_holds P q ys x k (omega arith) is passes)
  where
    at : (b : Bool) → q y ≡ b → (All P (filter q ys) → P x) → P x
    at true e more = more (All-tail P y (filter q ys) (rw e at all))
    at false e more = more (rw e at all)

pub sound_orders_isolate : (g : Grid) → IsNetwork g → (work : List ℕ) (points : List (List ℕ)) (tasks : List Task)
    → IsTrue (has_name (section_names g.sections) work) → IsSoundOrder g work points tasks
    → (source : SectionRow) → Contains g.sections source → source.source ≡ true → Walk g.points (safe_points g tasks) work source.name → ⊥
sound_orders_isolate g net work points tasks known sound source there fed walk =
    let inside = (fence_is_walks g net work points source.name).1 (known, uncut g work points tasks sound source.name walk) in
    let (k, below, is) = there in
    both_ways source.source (kept_holds (λ (s : SectionRow). s.source ≡ false) (λ s. in_fence g work points s.name) g.sections source k below is inside sound.no_source) fed

-- no name comes after itself
not_after_itself : (n : List ℕ) → name_cmp n n ≡ Greater → ⊥
not_after_itself n e = let back = nat_list_cmp_total.antisymm n n in absurd (cc)

-- the sections after the first come after it
all_after : (name : List ℕ) (sections : List SectionRow) → All (λ q. name_cmp name q ≡ Less) (section_names sections) → All (λ (s : SectionRow). s.source ≡ true → name_cmp name s.name ≡ Greater → ⊥) sections
all_after name [] h = All-nil (λ (s : SectionRow). s.source ≡ true → name_cmp name s.name ≡ Greater → ⊥)
all_after name (s ∷ sections) h =
    let less = All-head (λ q. name_cmp name q ≡ Less) s.name (section_names sections) h in
    All-cons (λ (s : SectionRow). s.source ≡ true → name_cmp name s.name ≡ Greater → ⊥) s sections (λ _ g. absurd (cc))
    (all_after name sections (All-tail (λ q. name_cmp name q ≡ Less) s.name (section_names sections) h))

pub least_source : (name : List ℕ) (sections : List SectionRow) → IsStrictlySortedBy name_cmp (section_names sections) → option_map (λ (s : SectionRow). s.name) (find (λ (s : SectionRow). s.source) sections) ≡ Some name
    → All (λ (s : SectionRow). s.source ≡ true → name_cmp name s.name ≡ Greater → ⊥) sections
least_source name [] rising h = absurd (cc)
least_source name (x ∷ sections) rising h = at x.source refl (least_source name sections (sorted_tail name_cmp x.name (section_names sections) rising))
  where
    at : (b : Bool) → x.source ≡ b
        → (option_map (λ (s : SectionRow). s.name) (find (λ (s : SectionRow). s.source) sections) ≡ Some name → All (λ (s : SectionRow). s.source ≡ true → name_cmp name s.name ≡ Greater → ⊥) sections)
        → All (λ (s : SectionRow). s.source ≡ true → name_cmp name s.name ≡ Greater → ⊥) (x ∷ sections)
    at true e more =
        let k = rw e at h in
        let same : x.name ≡ name = cc in
        rw (← same) (All-cons (λ (s : SectionRow). s.source ≡ true → name_cmp x.name s.name ≡ Greater → ⊥) x sections (λ _ g. not_after_itself x.name g) (all_after x.name sections (All-after_first name_cmp x.name (section_names sections) rising)))
    at false e more =
        All-cons (λ (s : SectionRow). s.source ≡ true → name_cmp name s.name ≡ Greater → ⊥) x sections (λ fed _. both_ways x.source e fed) (more (rw e at h))
