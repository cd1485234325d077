-- FIT REGISTERS: what an opening asks of a register.
use Rattle.clr_rules.specs.Good.{IsGood}
use Rattle.clr_rules.specs.Register.{Register}
use Rattle.clr_rules.specs.Staffed.{IsStaffed}

-- it is good, and its staff can end each clearance
abbrev pub IsFit : Register → Type 0
IsFit R = IsGood R × IsStaffed R
