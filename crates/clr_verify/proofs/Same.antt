-- Registers whose rows are the same, table by table, have the same tables.
use Rattle.std.proofs.Common.{◌≡◌, ◌∙◌, subst, List, [], ◌∷◌, map, Option, None, Some, slice_get, refl, ap, sym}
use Rattle.std.specs.declared.cmp.Ordering.{Ordering}
use Rattle.sqlite.specs.Order.{Row}
use Rattle.clr_net.specs.Grid.{Grid}
use Rattle.clr_rules.specs.Register.{Register}
use Rattle.clr_load.proofs.SameTables.{same_tables_same_register}
use Rattle.clr_load.specs.Tables.{clearance_row, hold_row, jumper_row, section_row, staff_row, state_at, step_row, tables_of, version_row}
use Rattle.clr_verify.specs.Differences.{AreApart, DiffersAt}
use Rattle.clr_verify.specs.Laws.{DifferencesAreSeen}
use Rattle.clr_verify.specs.Registers.{point_now, points_now}
use Rattle.clr_verify.specs.declared.registers.Difference.TheVariants.{Section, Point, Staff, Clearance, Step, Hold}
use Rattle.clr_verify.specs.declared.table_row.PointNow.{PointNow}

abbrev row_of : PointNow → Row
row_of p = jumper_row p.row p.state

rows_of : {X Y Z : Type 0} (f : Y → Z) (g : X → Y) (xs : List X) → map (λ x. f (g x)) xs ≡ map f (map g xs)
rows_of f g [] = refl
rows_of f g (x ∷ xs) = ap (λ rest. f (g x) ∷ rest) (rows_of f g xs)

pub all_same : (R S : Register) → Grid.sections R.net ≡ Grid.sections S.net → points_now R ≡ points_now S → R.staff ≡ S.staff
    → R.records ≡ S.records → R.steps ≡ S.steps → R.holds ≡ S.holds → tables_of R ≡ tables_of S
all_same R S sections points staff records steps holds =
    let table : map (λ p. jumper_row p (state_at R.states p)) (Grid.points R.net) ≡ map (λ p. jumper_row p (state_at S.states p)) (Grid.points S.net) =
    rows_of row_of (point_now R) (Grid.points R.net) ∙ ap (map row_of) points ∙ sym (rows_of row_of (point_now S) (Grid.points S.net)) in
    λ i. record {
      meta = version_row 2 ∷ [];
      sections = map section_row (sections i);
      points = table i;
      staff = map staff_row (staff i);
      clearances = map clearance_row (records i);
      steps = map step_row (steps i);
      holds = map hold_row (holds i);
    }

-- a list does not differ from itself
row_apart : {X K : Type 0} (key_of : X → K) (compare : K → K → Ordering) (row : Option X) (key : K) → AreApart key_of compare row row key → ⊥
row_apart key_of compare None key apart = apart
row_apart key_of compare (Some x) key apart = apart.0 refl

apart : {X K : Type 0} (key_of : X → K) (compare : K → K → Ordering) (xs ys : List X) (key : K) → DiffersAt key_of compare xs ys key → xs ≡ ys → ⊥
apart key_of compare xs ys key differs same =
    row_apart key_of compare (slice_get ys differs.place) key
    (subst (λ rows. AreApart key_of compare (slice_get rows differs.place) (slice_get ys differs.place) key) same differs.here)

pub differences_are_seen : DifferencesAreSeen
differences_are_seen R S R_told S_told (Section key) differs same = apart _ _ _ _ key differs (ap (λ Q. Grid.sections (Register.net Q)) (same_tables_same_register R S R_told S_told same))
differences_are_seen R S R_told S_told (Point key) differs same = apart _ _ _ _ key differs.1 (ap points_now (same_tables_same_register R S R_told S_told same))
differences_are_seen R S R_told S_told (Staff key) differs same = apart _ _ _ _ key differs.1 (ap Register.staff (same_tables_same_register R S R_told S_told same))
differences_are_seen R S R_told S_told (Clearance key) differs same = apart _ _ _ _ key differs.1 (ap Register.records (same_tables_same_register R S R_told S_told same))
differences_are_seen R S R_told S_told (Step key) differs same = apart _ _ _ _ key differs.1 (ap Register.steps (same_tables_same_register R S R_told S_told same))
differences_are_seen R S R_told S_told (Hold key) differs same = apart _ _ _ _ key differs.1 (ap Register.holds (same_tables_same_register R S R_told S_told same))
