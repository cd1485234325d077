-- When a tag is taken, as laws of good registers: by the restoring order of its own clearance, and
-- after that was given back. 1910.269(m)(3)(xii)
use Rattle.std.specs.Prelude.{◌≡◌, ℕ, true, false, List, Some, ◌⊎◌}
use Rattle.clr_order.specs.declared.action.Action.TheVariants.{Untag}
use Rattle.clr_rules.specs.Good.{IsGood}
use Rattle.clr_rules.specs.Prelude.{Command, Tag, Ordered, Granted, Released, Restoring, Record}
use Rattle.clr_rules.specs.Prelude.{StepRow, Id, Register, record_of, present_steps, step_at}
use Rattle.clr_rules.specs.Prelude.{has_any_hold, has_hold, Cancel, Release, Report}
use Rattle.clr_rules.specs.Run.{after}

-- a command that reports an Untag of a clearance at a point done, while the clearance is Restoring
pub record IsUntag (R : Register) (c : Id) (p : List ℕ) (q : Command) : Type 0 where
  pub n : ℕ
  pub clearance : Record
  pub row : StepRow
  pub reported : q.kind ≡ Report c n true
  pub recorded : record_of R.records c ≡ Some clearance
  pub restoring : clearance.phase ≡ Restoring
  pub found : step_at (present_steps R.steps c) n ≡ Some row
  pub untags : row.step.action ≡ Untag
  pub there : row.step.point ≡ p

-- A TAG IS TAKEN only by the report of an Untag of its own clearance, which is Restoring
abbrev pub TagsAreUntagged : Type 0
TagsAreUntagged =
    (R : Register) (q : Command) (c : Id) (p : List ℕ) → IsGood R → has_hold R.holds c Tag p ≡ true
    → has_hold (Register.holds (after R q)) c Tag p ≡ false → IsUntag R c p q

-- ONLY A RELEASED CLEARANCE IS RESTORED: what is Restoring after a command was so before it, or was
-- Released
abbrev pub OnlyReleasedAreRestored : Type 0
OnlyReleasedAreRestored =
    (R : Register) (q : Command) (c : Id) (s : Record)
    → record_of (Register.records (after R q)) c ≡ Some s → s.phase ≡ Restoring
    → (r : Record) × (record_of R.records c ≡ Some r)
    × ((r.phase ≡ Restoring) ⊎ (r.phase ≡ Released))

-- A CLEARANCE IS RELEASED by its release, where all are notified and clear, or by a cancel of an
-- order that has holds
abbrev pub ReleasedAreGivenBack : Type 0
ReleasedAreGivenBack =
    (R : Register) (q : Command) (c : Id) (s : Record)
    → record_of (Register.records (after R q)) c ≡ Some s → s.phase ≡ Released
    → (r : Record) × (record_of R.records c ≡ Some r)
    × ((r.phase ≡ Released) ⊎ ((r.phase ≡ Granted) × (q.kind ≡ Release c true true))
    ⊎ ((r.phase ≡ Ordered) × (q.kind ≡ Cancel c) × (has_any_hold R.holds c ≡ true)))
