-- A fence depends on the rows of its sections and of the points that touch them, and on nothing else.
use Rattle.std.proofs.Common.{◌≡◌, ◌∙◌, ℕ, Bool, true, false, ◌||◌, List, map, filter, Contains, refl, sym, ap, subst, true≢false}
use Rattle.std.proofs.lemmas.Bool.{and_parts, both_ways, false_from_ne_true}
use Rattle.clr_net.specs.Prelude.{FenceRows, fence_of, in_fence, touches, Grid, IsNetwork, section_names, unplaced, has_name, PointRow, SectionRow}
use Rattle.clr_net.specs.Laws.{FencesAreLocal, SameRowsAt}
use Rattle.clr_net.specs.Walk.{IsClosed}
use Rattle.clr_net.proofs.Walks.{fence_is_closed, fence_is_least, same_tests}
use Rattle.clr_net.proofs.KeptRows.{Contains-filter, has_name-kept, kept_there, mapped_from, there_mapped}

-- a point of one network that has an end inside is a point of the other, but for its position
other_point : (inside : List ℕ → Bool) (g h : Grid) → map unplaced (filter (touches inside) g.points) ≡ map unplaced (filter (touches inside) h.points)
    → (p : PointRow) → Contains g.points p → touches inside p ≡ true → (q : PointRow) × Contains h.points q × (unplaced q ≡ unplaced p)
other_point inside g h same p there touching =
    let (q, among, is) = mapped_from unplaced (filter (touches inside) h.points) (unplaced p)
    (subst (λ (points : List PointRow). Contains points (unplaced p)) same (there_mapped unplaced (filter (touches inside) g.points) p (Contains-filter (touches inside) g.points p there touching))) in
    (q, (kept_there (touches inside) h.points q among).0, is)

-- a point of the other network with an end inside joins sections that are both inside, or none, if a walk may go over it
ends_alike : (inside : List ℕ → Bool) (cut : List (List ℕ)) (g h : Grid) → map unplaced (filter (touches inside) h.points) ≡ map unplaced (filter (touches inside) g.points)
    → IsClosed g.points cut inside → (p : PointRow) → Contains h.points p → has_name cut p.name ≡ false → touches inside p ≡ true → inside p.from_end ≡ inside p.to_end
ends_alike inside cut g h same closed p there uncut touching =
    let (q, found, is) = other_point inside h g same p there touching in
    ap (λ (r : PointRow). inside r.from_end) (sym is) ∙ closed q found (ap (λ (r : PointRow). has_name cut r.name) is ∙ uncut) ∙ ap (λ (r : PointRow). inside r.to_end) is

-- a point without an end inside has both ends outside
both_outside : (a b : Bool) → (a || b) ≡ false → a ≡ b
both_outside true b e = absurd (true≢false e)
both_outside false b e = sym e

or_false : (a b : Bool) → (a || b) ≡ false → (a ≡ false) × (b ≡ false)
or_false true b e = absurd (true≢false e)
or_false false b e = (refl, e)

module _ (g h : Grid) (g_net : IsNetwork g) (h_net : IsNetwork h) (work : List ℕ) (cut : List (List ℕ)) (known : has_name (section_names g.sections) work ≡ true)
    (same : SameRowsAt (in_fence g work cut) g h) where
  work_inside : in_fence g work cut work ≡ true
  work_inside = (fence_is_closed g g_net work cut).0 known

  -- the other network has the work section too
  work_known : has_name (section_names h.sections) work ≡ true
  work_known =
      let kept = λ (sections : List SectionRow). has_name (section_names (filter (λ row. in_fence g work cut row.name) sections)) work in
      let here : kept g.sections ≡ true = has_name-kept (λ (row : SectionRow). row.name) (in_fence g work cut) g.sections work ∙ rw (work_inside, known) refl in
      let there : kept h.sections ≡ true = sym (ap (λ (rows : List SectionRow). has_name (section_names rows) work) same.sections) ∙ here in
      (and_parts (in_fence g work cut work) (has_name (section_names h.sections) work) (sym (has_name-kept (λ (row : SectionRow). row.name) (in_fence g work cut) h.sections work) ∙ there)).1

  -- no point of the other network leaves the first one's fence
  closed_there : IsClosed h.points cut (in_fence g work cut)
  closed_there p there uncut = at (touches (in_fence g work cut) p) refl
    where
      at : (b : Bool) → touches (in_fence g work cut) p ≡ b → in_fence g work cut p.from_end ≡ in_fence g work cut p.to_end
      at true e = ends_alike (in_fence g work cut) cut g h (sym same.points) ((fence_is_closed g g_net work cut).1) p there uncut e
      at false e = both_outside (in_fence g work cut p.from_end) (in_fence g work cut p.to_end) e

  -- so the other one's fence lies within the first one's
  inside_from_there : (s : List ℕ) → in_fence h work cut s ≡ true → in_fence g work cut s ≡ true
  inside_from_there s inside = fence_is_least h h_net work cut (in_fence g work cut) work_inside closed_there s inside

  -- and no point of the first one leaves the other one's fence
  closed_here : IsClosed g.points cut (in_fence h work cut)
  closed_here p there uncut = at (touches (in_fence g work cut) p) refl
    where
      at : (b : Bool) → touches (in_fence g work cut) p ≡ b → in_fence h work cut p.from_end ≡ in_fence h work cut p.to_end
      at true e =
          let (q, found, is) = other_point (in_fence g work cut) g h same.points p there e in
          ap (λ (r : PointRow). in_fence h work cut r.from_end) (sym is)
          ∙ (fence_is_closed h h_net work cut).1 q found (ap (λ (r : PointRow). has_name cut r.name) is ∙ uncut) ∙ ap (λ (r : PointRow). in_fence h work cut r.to_end) is
      at false e =
          let (from_out, to_out) = or_false (in_fence g work cut p.from_end) (in_fence g work cut p.to_end) e in
          false_from_ne_true (in_fence h work cut p.from_end) (λ inside. both_ways (in_fence g work cut p.from_end) from_out (inside_from_there p.from_end inside))
          ∙ sym (false_from_ne_true (in_fence h work cut p.to_end) (λ inside. both_ways (in_fence g work cut p.to_end) to_out (inside_from_there p.to_end inside)))

  inside_there : (s : List ℕ) → in_fence g work cut s ≡ true → in_fence h work cut s ≡ true
  inside_there s inside = fence_is_least g g_net work cut (in_fence h work cut) ((fence_is_closed h h_net work cut).0 work_known) closed_here s inside

  -- the two fences have the same sections
  pub same_fence : (s : List ℕ) → in_fence g work cut s ≡ in_fence h work cut s
  same_fence s = same_tests (in_fence g work cut s) (in_fence h work cut s) (inside_there s) (inside_from_there s)

  same_sections : FenceRows.sections (fence_of g work cut) ≡ FenceRows.sections (fence_of h work cut)
  same_sections = same.sections ∙ ap (λ (inside : List ℕ → Bool). filter (λ (row : SectionRow). inside row.name) h.sections) (λ i s. same_fence s i)

  same_touching : map unplaced (FenceRows.touching (fence_of g work cut)) ≡ map unplaced (FenceRows.touching (fence_of h work cut))
  same_touching = same.points ∙ ap (λ (inside : List ℕ → Bool). map unplaced (filter (touches inside) h.points)) (λ i s. same_fence s i)

pub fences_are_local : FencesAreLocal
fences_are_local g h g_net h_net work cut known same =
    record { sections = same_sections g h g_net h_net work cut known same; touching = same_touching g h g_net h_net work cut known same }
