-- What it means that nothing is in the way of an update.
use Rattle.std.proofs.Common.{◌≡◌, ◌∙◌, ◌⊎◌, inl, inr, ℕ, Bool, true, false, ◌&&◌, not, List, [], ◌∷◌, Contains, Option, None, Some, refl, sym, ap}
use Rattle.clr_rules.specs.Checks.{is_field, is_operator}
use Rattle.clr_rules.specs.Edits.{fit}
use Rattle.clr_rules.specs.Staffed.{fits_holder, has_some_role}
use Rattle.clr_update.proofs.Common.{Contains-cases, Contains-filter, Id, Record, Register, Update, false≢true, fence_points, fence_sections, first_named, first_needed, first_obstacle, has}
use Rattle.clr_update.proofs.Common.{in_the_way, is_known_work, is_open, is_operators, is_some_step, is_standing, its_holder, its_requester, kept, names_in, needs_field, obstacles, open_records}
use Rattle.clr_update.proofs.Common.{same_flag, section_names, Grid, standing_records, step_points, unless, updated, where_so, work_section, id_cmp, id_cmp_total, record_key, record_of, member-row_of}
use Rattle.clr_update.proofs.Rows.{flag_same, no_member}
use Rattle.clr_update.specs.declared.obstacle.Obstacle.{Obstacle}
use Rattle.clr_update.specs.declared.obstacle.Obstacle.TheVariants as in_way

-- what nothing in the way comes to
pub record Free (R : Register) (u : Update) (S : Register) : Type 0 where
  pub fits : fit u.net (kept R u) ≡ true
  pub sections : (c : Id) (r : Record) → record_of R.records c ≡ Some r → is_standing r.phase ≡ true → fence_sections R S r ≡ []
  pub points : (c : Id) (r : Record) → record_of R.records c ≡ Some r → is_standing r.phase ≡ true → fence_points R S r ≡ []
  pub steps : (c : Id) (r : Record) → record_of R.records c ≡ Some r → is_open r.phase ≡ true → step_points R S r ≡ []
  pub work : (c : Id) (r : Record) → record_of R.records c ≡ Some r → is_open r.phase ≡ true
      → is_known_work (section_names (Grid.sections S.net)) r.work ≡ true
  pub holder : (c : Id) (r : Record) → record_of R.records c ≡ Some r → is_open r.phase ≡ true → has S (fits_holder r.work) r.holder ≡ true
  pub requester : (c : Id) (r : Record) → record_of R.records c ≡ Some r → is_open r.phase ≡ true → is_operators R r.id.requester ≡ is_operators S r.id.requester
  pub operator : is_some_step R.steps ≡ true → has_some_role S.staff is_operator ≡ true
  pub field : needs_field R ≡ true → has_some_role S.staff is_field ≡ true

abbrev AllNone : List (Option Obstacle) → Type 0
AllNone [] = Unit {0}
AllNone (o ∷ rest) = (o ≡ None) × AllNone rest

all_none : (obstacles : List (Option Obstacle)) → first_obstacle obstacles ≡ None → AllNone obstacles
all_none [] none = tt
all_none (None ∷ rest) none = (refl, all_none rest none)
all_none (Some obstacle ∷ rest) none = absurd cc

pub named_none : (obstacle : List ℕ → Obstacle) (names : List (List ℕ)) (rest : Option Obstacle) → first_named obstacle names rest ≡ None → (names ≡ []) × (rest ≡ None)
named_none obstacle [] rest none = (refl, none)
named_none obstacle (name ∷ names) rest none = absurd cc

needed_none : (obstacle : List ℕ → Id → Obstacle) (rows : Record → List (List ℕ)) (records : List Record) → first_needed obstacle rows records ≡ None
    → (r : Record) → Contains records r → rows r ≡ []
unfolding first_needed
needed_none obstacle rows [] none r there = absurd (no_member r there)
needed_none obstacle rows (first ∷ records) none r there =
    let (here, rest) = named_none (λ name. obstacle name first.id) (rows first) (first_needed obstacle rows records) none in
    at here (needed_none obstacle rows records rest r) (Contains-cases first r records there)
  where
    at : rows first ≡ [] → (Contains records r → rows r ≡ []) → (first ≡ r) ⊎ Contains records r → rows r ≡ []
    at here more (inl same) = ap rows (sym same) ∙ here
    at here more (inr later) = more later

so_none : (so : Bool) (obstacle : Obstacle) → where_so so obstacle ≡ None → so ≡ false
so_none true obstacle none = absurd cc
so_none false obstacle none = refl

pub not_so : (b : Bool) → not b ≡ false → b ≡ true
not_so true is = refl
not_so false is = sym is

needs : (a b : Bool) → (a && not b) ≡ false → a ≡ true → b ≡ true
needs true b none is = not_so b none
needs false b none is = absurd (false≢true is)

unless_none : (b : Bool) (name : List ℕ) → unless b (name ∷ []) ≡ [] → b ≡ true
unless_none true name none = refl
unless_none false name none = absurd cc

work_none : (sections : List (List ℕ)) (work : Option (List ℕ)) → unless (is_known_work sections work) (names_in work) ≡ [] → is_known_work sections work ≡ true
work_none sections None none = refl
work_none sections (Some work) none = unless_none (is_known_work sections (Some work)) work none

module _ (R : Register) (u : Update) where
  abbrev S : Register
  S = updated R u

  there : (c : Id) (r : Record) → record_of R.records c ≡ Some r → Contains R.records r
  there c r found = (member-row_of id_cmp record_key id_cmp_total c r R.records found).0

  pub free_of : in_the_way R u ≡ None → Free R u (updated R u)
  unfolding obstacles
  free_of none =
      let (_, (_, (large, (sections, (points, (steps, (work, (holder, (_, (requester, (operator, (field, _)))))))))))) = all_none (obstacles R u S) none in
      let standing : (c : Id) (r : Record) → record_of R.records c ≡ Some r → is_standing r.phase ≡ true → Contains (standing_records R) r =
      λ c r found is. Contains-filter (λ (r : Record). is_standing r.phase) R.records r (there c r found) is in
      let unclosed : (c : Id) (r : Record) → record_of R.records c ≡ Some r → is_open r.phase ≡ true → Contains (open_records R) r =
      λ c r found is. Contains-filter (λ (r : Record). is_open r.phase) R.records r (there c r found) is in
      record {
        fits = not_so (fit u.net (kept R u)) (so_none (not (fit u.net (kept R u))) in_way.TooLarge large);
        sections = λ c r found is. needed_none in_way.Section (fence_sections R S) (standing_records R) sections r (standing c r found is);
        points = λ c r found is. needed_none in_way.Point (fence_points R S) (standing_records R) points r (standing c r found is);
        steps = λ c r found is. needed_none in_way.Step (step_points R S) (open_records R) steps r (unclosed c r found is);
        work = λ c r found is. work_none (section_names (Grid.sections S.net)) r.work (needed_none in_way.Work (work_section R S) (open_records R) work r (unclosed c r found is));
        holder = λ c r found is. unless_none (has S (fits_holder r.work) r.holder) r.holder (needed_none in_way.Holder (its_holder R S) (open_records R) holder r (unclosed c r found is));
        requester = λ c r found is. flag_same (is_operators R r.id.requester) (is_operators S r.id.requester)
            (unless_none (same_flag (is_operators R r.id.requester) (is_operators S r.id.requester)) r.id.requester
            (needed_none in_way.Requester (its_requester R S) (open_records R) requester r (unclosed c r found is)));
        operator = needs (is_some_step R.steps) (has_some_role S.staff is_operator) (so_none (is_some_step R.steps && not (has_some_role S.staff is_operator)) in_way.NoOperator operator);
        field = needs (needs_field R) (has_some_role S.staff is_field) (so_none (needs_field R && not (has_some_role S.staff is_field)) in_way.NoField field);
      }
