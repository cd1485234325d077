-- That the tests say what a good register is, and a staffed one.
use Rattle.std.specs.Prelude.{◌≡◌, ◌↔◌, true}
use Rattle.clr_rules.specs.Good.{IsGood}
use Rattle.clr_rules.specs.Prelude.{Register}
use Rattle.clr_rules.specs.Staffed.{IsStaffed}
use Rattle.clr_good.specs.Staffed.{lists_staffed}
use Rattle.clr_good.specs.Whole.{IsKept, lists_fit}

-- THE TEST IS EXACT: of a register that is kept, its lists fit exactly where it is good
abbrev pub TestIsExact : Type 0
TestIsExact = (R : Register) → IsKept R → (lists_fit R ≡ true) ↔ IsGood R

-- THE SECOND TEST IS EXACT: of a good register, its lists are staffed exactly where it is
abbrev pub StaffedTestIsExact : Type 0
StaffedTestIsExact = (R : Register) → IsGood R → (lists_staffed R ≡ true) ↔ IsStaffed R
