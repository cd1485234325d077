-- Deeds keep a register good and staffed, and commands alone are a run.
use Rattle.std.proofs.Common.{◌≡◌, List, [], ◌∷◌, map, refl}
use Rattle.clr_changes.proofs.Kept.{archives_keep_good}
use Rattle.clr_rules.proofs.keeps.EveryKind.{commands_keep_good}
use Rattle.clr_rules.proofs.staffed.EveryKind.{commands_keep_staffed}
use Rattle.clr_rules.specs.Good.{IsGood}
use Rattle.clr_rules.specs.Register.{Register}
use Rattle.clr_rules.specs.Run.{after, after_all}
use Rattle.clr_rules.specs.Staffed.{IsStaffed}
use Rattle.clr_rules.specs.declared.command.Command.{Command}
use Rattle.clr_update.proofs.Made.{changes_keep_good}
use Rattle.clr_changes.specs.Deeds.{Deed, after_deed, after_deeds, archive, command, update}
use Rattle.clr_changes.specs.DeedLaws.{CommandsAreARun, DeedsKeepGood}

pub deed_keeps_good : (R : Register) (deed : Deed) → IsGood R → IsGood (after_deed R deed)
deed_keeps_good R (command q) good = commands_keep_good R q good
deed_keeps_good R (update of) good = changes_keep_good.good R of good
deed_keeps_good R (archive before) good = archives_keep_good.good before R good

deed_keeps_staffed : (R : Register) (deed : Deed) → IsGood R → IsStaffed R → IsStaffed (after_deed R deed)
deed_keeps_staffed R (command q) good staffed = commands_keep_staffed R q good staffed
deed_keeps_staffed R (update of) good staffed = changes_keep_good.staffed R of good staffed
deed_keeps_staffed R (archive before) good staffed = archives_keep_good.staffed before R staffed

pub deeds_good : (deeds : List Deed) (R : Register) → IsGood R → IsGood (after_deeds R deeds)
unfolding after_deeds
deeds_good [] R good = good
deeds_good (deed ∷ deeds) R good = deeds_good deeds (after_deed R deed) (deed_keeps_good R deed good)

deeds_staffed : (deeds : List Deed) (R : Register) → IsGood R → IsStaffed R → IsStaffed (after_deeds R deeds)
unfolding after_deeds
deeds_staffed [] R good staffed = staffed
deeds_staffed (deed ∷ deeds) R good staffed = deeds_staffed deeds (after_deed R deed) (deed_keeps_good R deed good) (deed_keeps_staffed R deed good staffed)

pub deeds_keep_good : DeedsKeepGood
deeds_keep_good = record { good = λ R deeds good. deeds_good deeds R good; staffed = λ R deeds good staffed. deeds_staffed deeds R good staffed }

run_of : (commands : List Command) (R : Register) → after_deeds R (map command commands) ≡ after_all R commands
unfolding after_deeds after_all
run_of [] R = refl
run_of (q ∷ commands) R = run_of commands (after R q)

pub commands_are_a_run : CommandsAreARun
commands_are_a_run R commands = run_of commands R
