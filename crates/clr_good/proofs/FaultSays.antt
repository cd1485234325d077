-- No list is at fault exactly where the register is good and staffed.
use Rattle.std.proofs.Common.{◌≡◌, ◌↔◌, Bool, true, false, ◌&&◌, None, refl, sym}
use Rattle.clr_rules.proofs.Common.{false≢true, none-some, IsGood, Register}
use Rattle.clr_good.specs.Points.{points_fit}
use Rattle.clr_good.specs.Clearances.{clearances_fit}
use Rattle.clr_good.specs.Steps.{steps_fit}
use Rattle.clr_good.specs.Holds.{holds_fit}
use Rattle.clr_good.specs.Fault.{list_at_fault, unless_fits}
use Rattle.clr_good.specs.Whole.{IsKept}
use Rattle.clr_good.specs.declared.fault.ListAtFault.TheVariants.{Points, Clearances, Steps, Holds}
use Rattle.clr_good.specs.Staffed.{holders_fit, holds_staffed, steps_staffed}
use Rattle.clr_rules.specs.Staffed.{IsStaffed}
use Rattle.clr_good.proofs.StaffedSay.{staffed_test_is_exact}
use Rattle.clr_good.proofs.TestIsExact.{test_is_exact}

-- the tests of each list, and all tests of one kind
all_from_none : (a b h c s d f : Bool) → unless_fits a Points (unless_fits (b && h) Clearances (unless_fits (c && s) Steps (unless_fits (d && f) Holds None))) ≡ None
    → ((a && (b && (c && d))) ≡ true) × ((h && (s && f)) ≡ true)
all_from_none true true true true true true true none = (refl, refl)
all_from_none false b h c s d f none = absurd (none-some Points (sym none))
all_from_none true false h c s d f none = absurd (none-some Clearances (sym none))
all_from_none true true false c s d f none = absurd (none-some Clearances (sym none))
all_from_none true true true false s d f none = absurd (none-some Steps (sym none))
all_from_none true true true true false d f none = absurd (none-some Steps (sym none))
all_from_none true true true true true false f none = absurd (none-some Holds (sym none))
all_from_none true true true true true true false none = absurd (none-some Holds (sym none))

none_from_all : (a b h c s d f : Bool) → (a && (b && (c && d))) ≡ true → (h && (s && f)) ≡ true
    → unless_fits a Points (unless_fits (b && h) Clearances (unless_fits (c && s) Steps (unless_fits (d && f) Holds None))) ≡ None
none_from_all true true true true true true true all staffed = refl
none_from_all false b h c s d f all staffed = absurd (false≢true all)
none_from_all true false h c s d f all staffed = absurd (false≢true all)
none_from_all true true h false s d f all staffed = absurd (false≢true all)
none_from_all true true h true s false f all staffed = absurd (false≢true all)
none_from_all true true false true s true f all staffed = absurd (false≢true staffed)
none_from_all true true true true false true f all staffed = absurd (false≢true staffed)
none_from_all true true true true true true false all staffed = absurd (false≢true staffed)

pub none_where_good : (R : Register) → IsKept R → (list_at_fault R ≡ None) ↔ (IsGood R × IsStaffed R)
none_where_good R kept =
    let exact = test_is_exact R kept in (
      λ none.
          let all = all_from_none (points_fit R) (clearances_fit R) (holders_fit R) (steps_fit R) (steps_staffed R) (holds_fit R) (holds_staffed R) none in
          let good = exact.0 all.0 in
          (good, (staffed_test_is_exact R good).0 all.1),
      λ both. none_from_all (points_fit R) (clearances_fit R) (holders_fit R) (steps_fit R) (steps_staffed R) (holds_fit R) (holds_staffed R) (exact.1 both.0)
          ((staffed_test_is_exact R both.0).1 both.1),
    )
