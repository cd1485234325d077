-- A network with a section or a point more is a network, and has the fences that it had where the point crosses none.
use Rattle.std.proofs.Common.{◌≡◌, ◌∙◌, ℕ, suc, ◌<◌, Bool, true, false, ◌&&◌, not, nat_lt, List, ◌∷◌, ◌⊎◌, inl, inr, length, filter, refl, sym, subst, arith, Contains, IsTrue, IsPermutation}
use Rattle.std.proofs.lemmas.Bool.{and_from, and_parts, both_ways, false_from_ne_true, ltb-true, not-true, or_right}
use Rattle.std.proofs.lemmas.List.Elements.{All-cons, All-contains, All-weaker}
use Rattle.std.proofs.lemmas.List.Sorted.{Contains-permutation, IsPermutation-refl, IsPermutation-sym, list_any-IsPermutation}
use Rattle.clr_net.specs.Additions.{fits_point, fits_section, with_named, with_point, with_section}
use Rattle.clr_net.specs.Prelude.{in_fence, touches, same_name, has_name, PointRow, SectionRow}
use Rattle.clr_net.specs.Grid.{Grid, IsNetwork, has_ends, has_one_section, point_names, section_names}
use Rattle.clr_net.specs.Laws.{AdditionsKeepFences, KeepsFence, PointsAreAdded, SectionsAreAdded, touching_with}
use Rattle.clr_net.specs.Walk.{IsClosed}
use Rattle.clr_net.proofs.BuildFacts.{has_ends-IsPermutation, names_permuted, network_from}
use Rattle.clr_net.proofs.ByName.{filter-with_named, filter-with_named_inside, moved_with_named, rises_with_named}
use Rattle.clr_net.proofs.KeptRows.{first_or_later}
use Rattle.clr_net.proofs.Walks.{fence_is_closed, fence_is_least, same_tests}

-- what a section that can be added has
pub section_fits : (g : Grid) (row : SectionRow) → IsTrue (fits_section g row) → (has_name (section_names g.sections) row.name ≡ false) × (length g.sections < 5000)
section_fits g row fits =
    let (new, room) = and_parts (not (has_name (section_names g.sections) row.name)) (nat_lt (length g.sections) 5000) fits in
    (not-true _ new, ltb-true _ _ room)

-- what a point that can be added has
pub record PointFits (g : Grid) (p : PointRow) : Type 0 where
  pub new : has_name (point_names g.points) p.name ≡ false
  pub room : length g.points < 10000
  pub known : IsTrue (has_ends (section_names g.sections) p)
  pub differ : has_one_section p ≡ false

pub point_fits : (g : Grid) (p : PointRow) → IsTrue (fits_point g p) → PointFits g p
point_fits g p fits =
    let known_differ = has_ends (section_names g.sections) p && not (has_one_section p) in
    let (new, rest) = and_parts (not (has_name (point_names g.points) p.name)) (nat_lt (length g.points) 10000 && known_differ) fits in
    let (room, ends) = and_parts (nat_lt (length g.points) 10000) known_differ rest in
    let (known, differ) = and_parts (has_ends (section_names g.sections) p) (not (has_one_section p)) ends in
    record { new = not-true _ new; room = ltb-true _ _ room; known = known; differ = not-true _ differ }

-- a section more leaves known ends known
ends_stay : (names : List (List ℕ)) (n : List ℕ) (p : PointRow) → IsTrue (has_ends names p) → IsTrue (has_ends (n ∷ names) p)
ends_stay names n p known =
    let (from, to) = and_parts (has_name names p.from_end) (has_name names p.to_end) known in
    and_from (has_name (n ∷ names) p.from_end) (has_name (n ∷ names) p.to_end)
    (or_right (same_name p.from_end n) (has_name names p.from_end) from) (or_right (same_name p.to_end n) (has_name names p.to_end) to)

sections_moved : (g : Grid) (row : SectionRow) → IsTrue (fits_section g row) → IsPermutation (row ∷ g.sections) (with_section row g).sections
sections_moved g row fits = moved_with_named (λ (other : SectionRow). other.name) row g.sections (section_fits g row fits).0

pub sections_are_added : SectionsAreAdded
sections_are_added g net row fits =
    let moved = sections_moved g row fits in
    let names = names_permuted (row ∷ g.sections) (with_section row g).sections moved in
    let room = (section_fits g row fits).1 in
    record {
      all_sections = moved;
      all_points = IsPermutation-refl g.points;
      network = network_from (row ∷ g.sections) (with_section row g).sections g.points g.points moved (IsPermutation-refl g.points)
          (omega arith) (omega arith) net.points_fit
          (rises_with_named (λ (other : SectionRow). other.name) row g.sections net.sections_rise) net.points_rise
          (All-weaker (λ p. IsTrue (has_ends (section_names g.sections) p)) (λ p. IsTrue (has_ends (section_names (with_section row g).sections) p))
          (λ p known. has_ends-IsPermutation (section_names (row ∷ g.sections)) (section_names (with_section row g).sections) names p ∙ ends_stay (section_names g.sections) row.name p known)
          g.points net.ends_known)
          net.ends_differ;
    }

pub points_are_added : PointsAreAdded
points_are_added g net p fits =
    let f = point_fits g p fits in
    let room = f.room in
    let moved = moved_with_named (λ (other : PointRow). other.name) p g.points f.new in
    record {
      all_sections = IsPermutation-refl g.sections;
      all_points = moved;
      network = network_from g.sections g.sections (p ∷ g.points) (with_point p g).points (IsPermutation-refl g.sections) moved
          net.some_section net.sections_fit (omega arith) net.sections_rise
          (rises_with_named (λ (other : PointRow). other.name) p g.points net.points_rise)
          (All-cons (λ q. IsTrue (has_ends (section_names g.sections) q)) p g.points f.known net.ends_known)
          (All-cons (λ q. has_one_section q ≡ false) p g.points f.differ net.ends_differ);
    }

-- rows to which a section, or a point, was put by its name
pub network_with_section : (sections : List SectionRow) (points : List PointRow) → IsNetwork (record { sections = sections; points = points }) → (row : SectionRow)
    → IsTrue (fits_section (record { sections = sections; points = points }) row) → (more : List SectionRow) → more ≡ with_named (λ other. other.name) row sections
    → IsNetwork (record { sections = more; points = points })
network_with_section sections points net row fits more is = rw is (sections_are_added (record { sections = sections; points = points }) net row fits).network

pub network_with_point : (sections : List SectionRow) (points : List PointRow) → IsNetwork (record { sections = sections; points = points }) → (p : PointRow)
    → IsTrue (fits_point (record { sections = sections; points = points }) p) → (more : List PointRow) → more ≡ with_named (λ other. other.name) p points
    → IsNetwork (record { sections = sections; points = more })
network_with_point sections points net p fits more is = rw is (points_are_added (record { sections = sections; points = points }) net p fits).network

-- h has the sections of g and its points; a point more joins sections that are both in a fence of g, or none
record IsMore (g h : Grid) (inside : List ℕ → Bool) : Type 0 where
  pub sections : (s : List ℕ) → has_name (section_names g.sections) s ≡ true → has_name (section_names h.sections) s ≡ true
  pub kept : (q : PointRow) → Contains g.points q → Contains h.points q
  pub added : (q : PointRow) → Contains h.points q → (inside q.from_end ≡ inside q.to_end) ⊎ Contains g.points q

module _ (g h : Grid) (g_net : IsNetwork g) (h_net : IsNetwork h) (work : List ℕ) (cut : List (List ℕ))
    (known : has_name (section_names g.sections) work ≡ true) (more : IsMore g h (in_fence g work cut)) where
  closed_there : IsClosed h.points cut (in_fence g work cut)
  closed_there q there uncut = elim (more.added q there) [
    | inl alike ↦ alike
    | inr old ↦ (fence_is_closed g g_net work cut).1 q old uncut
  ]

  closed_here : IsClosed g.points cut (in_fence h work cut)
  closed_here q there uncut = (fence_is_closed h h_net work cut).1 q (more.kept q there) uncut

  same_inside : (s : List ℕ) → in_fence g work cut s ≡ in_fence h work cut s
  same_inside s = same_tests (in_fence g work cut s) (in_fence h work cut s)
      (λ inside. fence_is_least g g_net work cut (in_fence h work cut) ((fence_is_closed h h_net work cut).0 (more.sections work known)) closed_here s inside)
      (λ inside. fence_is_least h h_net work cut (in_fence g work cut) ((fence_is_closed g g_net work cut).0 known) closed_there s inside)

  -- so it has the same rows of sections, where the new section, if there is one, is not inside
  keeps_fence : (touching : List PointRow) → filter (λ (row : SectionRow). in_fence g work cut row.name) h.sections ≡ filter (λ (row : SectionRow). in_fence g work cut row.name) g.sections
      → filter (touches (in_fence g work cut)) h.points ≡ touching → KeepsFence g h work cut touching
  keeps_fence touching rows touch =
      let alike : in_fence h work cut ≡ in_fence g work cut = λ i s. sym (same_inside s) i in
      record {
        inside = same_inside;
        fence = (λ i. record { sections = filter (λ (row : SectionRow). alike i row.name) h.sections; touching = filter (touches (alike i)) h.points })
            ∙ (λ i. record { sections = rows i; touching = touch i });
      }

-- the fence of a known section has known sections alone
known_inside : (g : Grid) → IsNetwork g → (work : List ℕ) (cut : List (List ℕ)) → has_name (section_names g.sections) work ≡ true
    → (s : List ℕ) → in_fence g work cut s ≡ true → has_name (section_names g.sections) s ≡ true
known_inside g net work cut known s inside =
    fence_is_least g net work cut (has_name (section_names g.sections)) known
    (λ p there uncut. let (from, to) = and_parts (has_name (section_names g.sections) p.from_end) (has_name (section_names g.sections) p.to_end) (All-contains (λ p. IsTrue (has_ends (section_names g.sections) p)) g.points p net.ends_known there) in from ∙ sym to)
    s inside

-- the points that touch a set of sections, and a point more
touching_more : (inside : List ℕ → Bool) (p : PointRow) (g : Grid) → IsNetwork g → has_name (point_names g.points) p.name ≡ false
    → filter (touches inside) (with_point p g).points ≡ touching_with inside p (filter (touches inside) g.points)
touching_more inside p g net new = at (touches inside p) refl
  where
    at : (b : Bool) → touches inside p ≡ b → filter (touches inside) (with_point p g).points ≡ touching_with inside p (filter (touches inside) g.points)
    at true e = rw e (filter-with_named_inside (λ (other : PointRow). other.name) p (touches inside) g.points e)
    at false e = rw e (filter-with_named (λ (other : PointRow). other.name) p (touches inside) g.points net.points_rise new e)

pub additions_keep_fences : AdditionsKeepFences
additions_keep_fences = record {
  section = λ g net row fits work cut known.
      let moved = names_permuted (row ∷ g.sections) (with_section row g).sections (sections_moved g row fits) in
      let new = (section_fits g row fits).0 in
      let outside = false_from_ne_true (in_fence g work cut row.name) (λ inside. both_ways _ new (known_inside g net work cut known row.name inside)) in
      keeps_fence g (with_section row g) net (sections_are_added g net row fits).network work cut known (record {
        sections = λ s there. sym (list_any-IsPermutation (same_name s) (section_names (row ∷ g.sections)) (section_names (with_section row g).sections) moved)
            ∙ or_right (same_name s row.name) (has_name (section_names g.sections) s) there;
        kept = λ q there. there;
        added = λ q there. inr there;
      }) (filter (touches (in_fence g work cut)) g.points)
      (filter-with_named (λ (other : SectionRow). other.name) row (λ other. in_fence g work cut other.name) g.sections net.sections_rise new outside) refl;
  point = λ g net p fits work cut known alike.
      let sum = points_are_added g net p fits in
      let inside = in_fence g work cut in
      keeps_fence g (with_point p g) net sum.network work cut known (record {
        sections = λ s there. there;
        kept = λ q there. Contains-permutation (p ∷ g.points) (with_point p g).points q sum.all_points (later p q g.points there);
        added = λ q there. elim (first_or_later p q g.points (Contains-permutation (with_point p g).points (p ∷ g.points) q (IsPermutation-sym (p ∷ g.points) (with_point p g).points sum.all_points) there)) [
          | inl same ↦ inl (subst (λ (r : PointRow). inside r.from_end ≡ inside r.to_end) same alike)
          | inr old ↦ inr old
        ];
      }) (touching_with inside p (filter (touches inside) g.points)) refl (touching_more inside p g net (point_fits g p fits).new);
}
  where
    later : (x y : PointRow) (xs : List PointRow) → Contains xs y → Contains (x ∷ xs) y
    later x y xs (k, within, here) = (suc k, omega arith, here)
