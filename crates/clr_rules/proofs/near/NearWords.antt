-- What the tests for points and holds near a set say, in words.
use Rattle.std.proofs.Common.{◌≡◌, ◌↔◌, ◌⊎◌, inl, inr, ⊎_elim, ℕ, Bool, true, ◌&&◌, ◌||◌, List, subst, Option, None, IsTrue, filter, Contains}
use Rattle.clr_rules.proofs.Common.{false≢true, Grid, has_name, PointRow, touching_names, touches, is_near_hold, is_own, Contains-filter}
use Rattle.clr_rules.specs.Prelude.{Edit, SetPosition, SetHand, PutHold, TakeHold, AddSection, AddPoint, Hold, Id, is_crew, is_point_kind, is_section_kind}
use Rattle.clr_rules.specs.laws.Marks.{HasEndIn, IsEditAmong, StandsAmong}
use Rattle.clr_rules.specs.Shown.{is_mark}
use Rattle.clr_rules.proofs.lists.Filters.{Says, and_says, itself_says, kept_there, mapped_from, name_says, or_says, there_mapped}

module _ (g : Grid) (inside : List ℕ → Bool) (Among : List ℕ → Type 0) (says : (s : List ℕ) → Says (inside s) (Among s)) where
  touches_says : (row : PointRow) → Says (touches inside row) (Among row.from_end ⊎ Among row.to_end)
  touches_says row = or_says (inside row.from_end) (inside row.to_end) (Among row.from_end) (Among row.to_end) (says row.from_end) (says row.to_end)

  -- a name is among those of the points that touch a set exactly where a point of this name has an end in it
  pub touching_says : (p : List ℕ) → Says (has_name (touching_names g inside) p) (HasEndIn g Among p)
  unfolding touching_names
  touching_says p = (
    λ passes.
        let found = mapped_from (λ (row : PointRow). row.name) (filter (touches inside) g.points) p ((name_says (touching_names g inside) p).0 passes) in
        let kept = kept_there (touches inside) g.points found.0 found.1 in
        record { row = found.0; there = kept.0; named = found.2; an_end = (touches_says found.0).0 kept.1 },
    λ words.
        (name_says (touching_names g inside) p).1 (subst (λ (n : List ℕ). Contains (touching_names g inside) n) words.named
        (there_mapped (λ (row : PointRow). row.name) (filter (touches inside) g.points) words.row
        (Contains-filter (touches inside) g.points words.row words.there ((touches_says words.row).1 words.an_end)))),
  )

-- a hold is near where it is at a point beside, at a section inside, or is a crew of its own clearance
pub near_hold_says : (inside beside : List ℕ → Bool) (own : Option Id) (AtSection AtPoint : List ℕ → Type 0) (Own : Id → Type 0)
    → ((s : List ℕ) → Says (inside s) (AtSection s)) → ((p : List ℕ) → Says (beside p) (AtPoint p)) → ((d : Id) → Says (is_own own d) (Own d))
    → (h : Hold) → Says (is_near_hold inside beside own h)
    (((is_point_kind h.kind ≡ true) × AtPoint h.place) ⊎ (((is_section_kind h.kind ≡ true) × AtSection h.place) ⊎ ((is_crew h.kind ≡ true) × Own h.id)))
near_hold_says inside beside own AtSection AtPoint Own in_says beside_says own_says h =
    or_says (is_point_kind h.kind && beside h.place) ((is_section_kind h.kind && inside h.place) || (is_crew h.kind && is_own own h.id))
    ((is_point_kind h.kind ≡ true) × AtPoint h.place) (((is_section_kind h.kind ≡ true) × AtSection h.place) ⊎ ((is_crew h.kind ≡ true) × Own h.id))
    (and_says (is_point_kind h.kind) (beside h.place) (is_point_kind h.kind ≡ true) (AtPoint h.place) (itself_says (is_point_kind h.kind)) (beside_says h.place))
    (or_says (is_section_kind h.kind && inside h.place) (is_crew h.kind && is_own own h.id)
    ((is_section_kind h.kind ≡ true) × AtSection h.place) ((is_crew h.kind ≡ true) × Own h.id)
    (and_says (is_section_kind h.kind) (inside h.place) (is_section_kind h.kind ≡ true) (AtSection h.place) (itself_says (is_section_kind h.kind)) (in_says h.place))
    (and_says (is_crew h.kind) (is_own own h.id) (is_crew h.kind ≡ true) (Own h.id) (itself_says (is_crew h.kind)) (own_says h.id)))

-- nothing is own where nobody is meant
pub none_is_own : (d : Id) → Says (is_own None d) ⊥
none_is_own d = (λ passes. absurd (false≢true passes), λ never. absurd never)

pub standing_says : (inside beside : List ℕ → Bool) (AtSection AtPoint : List ℕ → Type 0)
    → ((s : List ℕ) → Says (inside s) (AtSection s)) → ((p : List ℕ) → Says (beside p) (AtPoint p))
    → (h : Hold) → Says (is_near_hold inside beside None h) (StandsAmong AtPoint AtSection h)
standing_says inside beside AtSection AtPoint in_says beside_says h =
    let says = near_hold_says inside beside None AtSection AtPoint (λ d. ⊥) in_says beside_says none_is_own h in (
      λ passes. ⊎_elim (λ at_point. inl at_point) (λ other. ⊎_elim (λ at_section. inr at_section) (λ crew. absurd crew.1) other) (says.0 passes),
      λ words. ⊎_elim (λ at_point. says.1 (inl at_point)) (λ at_section. says.1 (inr (inl at_section))) words,
    )

-- a mark concerns a section inside, or a point with an end inside
pub mark_says : (g : Grid) (inside : List ℕ → Bool) (edit : Edit)
    → IsTrue (is_mark g inside edit) ↔ IsEditAmong (HasEndIn g (λ s. IsTrue (inside s))) (λ s. IsTrue (inside s)) edit
mark_says g inside (SetPosition point position) = touching_says g inside (λ s. IsTrue (inside s)) (λ s. itself_says (inside s)) point
mark_says g inside (SetHand point hand) = touching_says g inside (λ s. IsTrue (inside s)) (λ s. itself_says (inside s)) point
mark_says g inside (PutHold h) = standing_says inside (has_name (touching_names g inside)) (λ s. IsTrue (inside s)) (HasEndIn g (λ s. IsTrue (inside s)))
    (λ s. itself_says (inside s)) (touching_says g inside (λ s. IsTrue (inside s)) (λ s. itself_says (inside s))) h
mark_says g inside (TakeHold h) = standing_says inside (has_name (touching_names g inside)) (λ s. IsTrue (inside s)) (HasEndIn g (λ s. IsTrue (inside s)))
    (λ s. itself_says (inside s)) (touching_says g inside (λ s. IsTrue (inside s)) (λ s. itself_says (inside s))) h
mark_says g inside (AddSection row) = itself_says (inside row.name)
mark_says g inside (AddPoint p) = touches_says g inside (λ s. IsTrue (inside s)) (λ s. itself_says (inside s)) p
mark_says g inside _ = (λ passes. absurd (false≢true passes), λ never. absurd never)
