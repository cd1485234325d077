-- Bounds of what runs make, as a law of reached registers: the rules ask for no more than it says,
-- so good does not ask for it.
use Rattle.std.specs.Prelude.{◌≡◌, ◌≤◌, All, ◌⊎◌}
use Rattle.clr_rules.specs.Prelude.{Register}
use Rattle.clr_rules.specs.Run.{IsReached}

-- no clearance has a number over 9,999, and each step is of the first round or the second
pub record IsBounded (R : Register) : Type 0 where
  pub numbers : All (λ r. r.id.number ≤ 9999) R.records
  pub rounds : All (λ row. (row.round ≡ 1) ⊎ (row.round ≡ 2)) R.steps

abbrev pub ReachedRegistersAreBounded : Type 0
ReachedRegistersAreBounded = (R : Register) → IsReached R → IsBounded R
