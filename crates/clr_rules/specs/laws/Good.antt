-- That a good register is the same thing by its parts and phase by phase.
use Rattle.std.specs.Prelude.{◌↔◌}
use Rattle.clr_rules.specs.Good.{IsGood}
use Rattle.clr_rules.specs.GoodByPhase.{IsGoodByPhase}
use Rattle.clr_rules.specs.Register.{Register}

-- THE TWO FORMS ARE ONE: a register is good in each of its parts exactly where each clearance is as
-- its phase wants it
abbrev pub GoodFormsAreOne : Type 0
GoodFormsAreOne = (R : Register) → IsGood R ↔ IsGoodByPhase R
