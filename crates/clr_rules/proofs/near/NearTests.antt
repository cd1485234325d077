-- What the tests of the near part say, in words: in the fence of a clearance, at a point of a switch order, own.
use Rattle.std.proofs.Common.{◌≡◌, ℕ, Bool, true, false, List, map, Option, None, Some, refl, sym, ◌∙◌, ap, subst, filter, Contains}
use Rattle.clr_rules.proofs.Common.{false≢true, none-some, same_Some, in_fence, Grid, section_names, has_name, Task, task, is_fenced, one_id, own_id, record_id, Contains-filter}
use Rattle.clr_rules.specs.Fences.{clearance_fence, found_fence, found_order_fence, order_fence, record_fence, work_fence}
use Rattle.clr_rules.specs.Prelude.{HoldKind, Crew, Record, StepRow, Id, same_id, Register, record_of, points_of, steps_in, steps_of, is_crew}
use Rattle.clr_rules.specs.Near.{switched_by, switched_in}
use Rattle.clr_rules.specs.laws.Near.{InFence, InOrderFence, IsStepPoint, IsSwitchPoint, IsWithin}
use Rattle.clr_rules.proofs.live.FenceCuts.{named_in_fence}
use Rattle.clr_rules.proofs.lists.Filters.{Says, and_says, itself_says, kept_there, mapped_from, name_says, says_as, says_like, there_mapped}

-- ---- a clearance that is meant

pub own_says : (c d : Id) → Says (same_id c d) (c ≡ d)
own_says c d = (one_id c d, λ is. subst (λ (e : Id). same_id c e ≡ true) is (own_id c))

crew_from : (kind : HoldKind) → is_crew kind ≡ true → kind ≡ Crew
crew_from Crew is = refl
crew_from _ is = cc is

pub crew_says : (kind : HoldKind) → Says (is_crew kind) (kind ≡ Crew)
crew_says kind = (crew_from kind, λ is. ap is_crew is)

-- ---- fences

-- the fence of a work section
pub within_says : (g : Grid) (work : List ℕ) (cut : List (List ℕ)) (s : List ℕ) → Says (has_name (work_fence g (Some work) cut) s) (IsWithin g work cut s)
within_says g work cut s = says_as (named_in_fence g work cut s)
    (says_like (and_says (in_fence g work cut s) (has_name (section_names g.sections) s) (in_fence g work cut s ≡ true) (Contains (section_names g.sections) s)
    (itself_says (in_fence g work cut s)) (name_says (section_names g.sections) s))
    (λ both. record { known = both.1; inside = both.0 })
    (λ words. (words.inside, words.known)))

-- a section in the fence of a work section, if there is one
abbrev InWork : Grid → Option (List ℕ) → List (List ℕ) → List ℕ → Type 0
InWork g o cut s = (work : List ℕ) × (o ≡ Some work) × IsWithin g work cut s

work_says : (g : Grid) (o : Option (List ℕ)) (cut : List (List ℕ)) (s : List ℕ) → Says (has_name (work_fence g o cut) s) (InWork g o cut s)
work_says g None cut s = (λ passes. absurd (false≢true passes), λ words. absurd (none-some words.0 words.1))
work_says g (Some work) cut s = (
  λ passes. (work, refl, (within_says g work cut s).0 passes),
  λ words. (within_says g work cut s).1 (rw (same_Some work words.0 words.1) words.2),
)

module _ (R : Register) (c : Id) (s : List ℕ) where
  -- the fence of a record in a phase that has one
  fence-fenced : (r : Record) → r.id ≡ c → is_fenced r.phase ≡ true
      → has_name (record_fence R.net R.steps r) s ≡ has_name (work_fence R.net r.work (points_of (steps_in R.steps c 1))) s
  fence-fenced r own fenced = rw fenced (ap (λ (d : Id). has_name (work_fence R.net r.work (points_of (steps_in R.steps d 1))) s) own)

  -- and of one in a phase that has none
  not_fenced : (r : Record) → is_fenced r.phase ≡ false → has_name (record_fence R.net R.steps r) s ≡ true → ⊥
  not_fenced r unfenced passes = false≢true (rw unfenced at passes)

  in_fence_from : (r : Record) → record_of R.records c ≡ Some r → (b : Bool) → is_fenced r.phase ≡ b → has_name (record_fence R.net R.steps r) s ≡ true → InFence R c s
  in_fence_from r read true fenced passes =
      let words = (work_says R.net r.work (points_of (steps_in R.steps c 1)) s).0 (sym (fence-fenced r (record_id R.records c r read) fenced) ∙ passes) in
      record { r = r; work = words.0; read = read; fenced = fenced; works = words.1; within = words.2 }
  in_fence_from r read false unfenced passes = absurd (not_fenced r unfenced passes)

  found_from : (o : Option Record) → record_of R.records c ≡ o → has_name (found_fence R.net R.steps o) s ≡ true → InFence R c s
  found_from None read passes = absurd (false≢true passes)
  found_from (Some r) read passes = in_fence_from r read (is_fenced r.phase) refl passes

  -- a name is among those of a clearance's fence where the section is in it
  pub fence_says : Says (has_name (clearance_fence R c) s) (InFence R c s)
  fence_says = (
    found_from (record_of R.records c) refl,
    λ words. rw words.read (fence-fenced words.r (record_id R.records c words.r words.read) words.fenced
        ∙ (work_says R.net words.r.work (points_of (steps_in R.steps c 1)) s).1 (words.work, words.works, words.within)),
  )

  module _ (points : List (List ℕ)) where
    order_from : (o : Option Record) → record_of R.records c ≡ o → has_name (found_order_fence R.net points o) s ≡ true → InOrderFence R c points s
    order_from None read passes = absurd (false≢true passes)
    order_from (Some r) read passes =
        let words = (work_says R.net r.work points s).0 passes in
        record { r = r; work = words.0; read = read; works = words.1; within = words.2 }

    -- and among those of the fence that an order would make where the section is in that
    pub order_says : Says (has_name (order_fence R c points) s) (InOrderFence R c points s)
    order_says = (
      order_from (record_of R.records c) refl,
      λ words. rw words.read ((work_says R.net words.r.work points s).1 (words.work, words.works, words.within)),
    )

-- ---- the points of a switch order

module _ (R : Register) (c : Id) (p : List ℕ) where
  -- the points of a clearance's steps
  pub step_point_says : Says (has_name (points_of (steps_of R.steps c)) p) (IsStepPoint R c p)
  unfolding steps_of
  step_point_says =
      let own = λ (row : StepRow). same_id c row.id in
      let tasks = λ (row : StepRow). task row.step in
      let place = λ (t : Task). t.point in (
        λ passes.
            let at_task = mapped_from place (map tasks (filter own R.steps)) p ((name_says (points_of (steps_of R.steps c)) p).0 passes) in
            let at_row = mapped_from tasks (filter own R.steps) at_task.0 at_task.1 in
            let kept = kept_there own R.steps at_row.0 at_row.1 in
            record { row = at_row.0; there = kept.0; own = (own_says c (StepRow.id at_row.0)).0 kept.1; named = ap place at_row.2 ∙ at_task.2 },
        λ words.
            let kept = Contains-filter own R.steps words.row words.there ((own_says c words.row.id).1 words.own) in
            let at_task = there_mapped tasks (filter own R.steps) words.row kept in
            (name_says (points_of (steps_of R.steps c)) p).1 (subst (λ (n : List ℕ). Contains (points_of (steps_of R.steps c)) n) words.named
            (there_mapped place (map tasks (filter own R.steps)) (task words.row.step) at_task)),
      )

  switched_from : (r : Record) → record_of R.records c ≡ Some r → (o : Option (List ℕ)) → r.work ≡ o → has_name (switched_by R c (Some r)) p ≡ true → IsSwitchPoint R c p
  switched_from r read None no_work passes =
      record { r = r; read = read; no_work = no_work; at_step = step_point_says.0 (rw no_work at passes) }
  switched_from r read (Some work) works passes = absurd (false≢true (rw works at passes))

  found_switched : (o : Option Record) → record_of R.records c ≡ o → has_name (switched_by R c o) p ≡ true → IsSwitchPoint R c p
  found_switched None read passes = absurd (false≢true passes)
  found_switched (Some r) read passes = switched_from r read r.work refl passes

  -- a name is among those of a switch order that is named where it is a point of its steps
  pub switched_says : Says (has_name (switched_in R (Some c)) p) (IsSwitchPoint R c p)
  switched_says = (
    found_switched (record_of R.records c) refl,
    λ words. rw (words.read, words.no_work) (step_point_says.1 words.at_step),
  )
