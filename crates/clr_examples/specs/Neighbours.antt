-- EXAMPLES OF NEIGHBOURS: two clearances whose fences overlap. JONES has L2, cut at S2 and S3; KIM
-- has L2 and L3, cut at S2, S4 and T1. Each tests, grounds and releases for itself, and both hold
-- S2.
use Rattle.std.specs.Prelude.{◌≡◌, true, List, [], ◌∷◌, ◌++◌, codes, Some, None, refl}
use Rattle.clr_rules.specs.Prelude.{Instructed, hold_of}
use Rattle.clr_examples.specs.Worked.{C1, JONES, KIM, L2, L3, OPS, S2, S3, Saying, accepted}
use Rattle.clr_examples.specs.Worked.{answer_after, does, jones_1, kim_1, kim_has_both, l2_granted}
use Rattle.clr_examples.specs.Worked.{l2_released, ops_1, refused, restoring_l2, says, step_runs}
use Rattle.clr_examples.specs.Worked.{the_rules}
use Rattle.clr_examples.specs.WorkedRows.{jones_card, jones_record, ops_card, ops_record, step_row}
use Rattle.clr_rules.specs.declared.command.Kind.TheVariants.{Instruct, Test, Ground as LayGround}
use Rattle.clr_rules.specs.declared.command.Kind.TheVariants.{SignOn, Release, Restore, Switch}
use Rattle.clr_rules.specs.declared.change.Edit.TheVariants.{SetHand, PutHold, TakeHold, PutRecord}
use Rattle.clr_rules.specs.declared.change.Edit.TheVariants.{PutStep}
use Rattle.clr_rules.specs.declared.hold_kind.HoldKind.TheVariants.{HeldOpen, Tested, Ground}
use Rattle.clr_rules.specs.declared.phase.Phase.TheVariants.{Granted, Released, Switching}
use Rattle.clr_rules.specs.declared.refusal.Refusal.TheVariants.{Held, NotTested, NotGrounded}
use Rattle.clr_order.specs.declared.action.Action.TheVariants as actions

-- KIM has tested and grounded L2, and JONES has done neither
abbrev pub kim_grounds_l2 : List Saying
kim_grounds_l2 =
    l2_granted ++ kim_has_both ++ says KIM (Test kim_1 L2 true) ∷ says KIM (LayGround kim_1 L2) ∷ []

-- each tests, grounds and releases for itself
pub work :
    -- KIM's test does not serve JONES
    (answer_after kim_grounds_l2 (says JONES (LayGround jones_1 L2)) ≡ refused NotTested)
    -- nor does KIM's ground: JONES's crew works under JONES's own
    × (answer_after (kim_grounds_l2 ++ says JONES (Test jones_1 L2 true)
    ∷ []) (says JONES (SignOn jones_1 C1)) ≡ refused NotGrounded)
    -- which JONES lays beside it
    × (answer_after (kim_grounds_l2 ++ says JONES (Test jones_1 L2 true)
    ∷ []) (says JONES (LayGround jones_1 L2)) ≡ accepted (jones_card Granted 1 6 6)
    (PutHold (hold_of jones_1 Ground L2) ∷ PutRecord (jones_record Granted 154) ∷ []))
    -- JONES releases under KIM's ground, and KIM's test stays
    × (answer_after (kim_grounds_l2 ++ says JONES (Test jones_1 L2 true)
    ∷ []) (says JONES (Release jones_1 true true)) ≡ accepted (jones_card Released 1 6 6)
    (TakeHold (hold_of jones_1 Tested L2) ∷ PutRecord (jones_record Released 154) ∷ []))
unfolding the_rules
work = (refl, refl, refl, refl)

-- what is at a point of both, and at one inside
pub points :
    -- both hold S2: of two clearances the lesser is named
    (answer_after (l2_granted ++ kim_has_both ++ says OPS (Switch (does actions.Close S2 ∷ []))
    ∷ []) (says OPS (Instruct ops_1 1))
    ≡ refused (Held jones_1 HeldOpen))
    -- JONES's own hold does not hinder JONES's order, and KIM's does
    × (answer_after (l2_released ++ kim_has_both ++ says OPS (Restore jones_1 restoring_l2)
    ∷ step_runs jones_1 1 (codes "UNTAG S2")
    ++ step_runs jones_1 2 (codes "UNBLOCK S2")) (says OPS (Instruct jones_1 3))
    ≡ refused (Held kim_1 HeldOpen))
    -- S3 lies inside KIM's fence, and KIM holds it not: grounds on both sides of it do not forbid
    -- that it is closed
    × (answer_after (kim_has_both ++ says KIM (Test kim_1 L2 true) ∷ says KIM (LayGround kim_1 L2)
    ∷ says KIM (Test kim_1 L3 true)
    ∷ says KIM (LayGround kim_1 L3) ∷ says OPS (Switch (does actions.Close S3 ∷ []))
    ∷ []) (says OPS (Instruct ops_1 1))
    ≡ accepted (ops_card Switching 1 0 1)
    (SetHand S3 (Some ops_1) ∷ PutRecord (ops_record Switching 135)
    ∷ PutStep (step_row ops_1 1 1 (does actions.Close S3) Instructed None) ∷ []))
unfolding the_rules
points = (refl, refl, refl)
