-- The headline's second half over deeds: no deed of others takes anything of a clearance but the steps of a closed one.
use Rattle.std.proofs.Common.{◌≡◌, true, false, Some, refl}
use Rattle.std.proofs.lemmas.Bool.{false≢true}
use Rattle.clr_changes.proofs.Kept.{archives_take_closed_steps, are_closed}
use Rattle.clr_rules.proofs.isolation.OthersEdits.{others_left_alone}
use Rattle.clr_rules.specs.Good.{IsGood}
use Rattle.clr_rules.specs.Isolation.{LeftAlone}
use Rattle.clr_rules.specs.Prelude.{Id, Register, record_of}
use Rattle.clr_rules.specs.Records.{is_open}
use Rattle.clr_update.proofs.Made.{changes_keep_good}
use Rattle.clr_changes.proofs.Deeds.{deeds_good}
use Rattle.clr_changes.specs.Deeds.{Deed, after_deed, after_deeds, archive, command, update}
use Rattle.clr_changes.specs.DeedLaws.{NoDeedTakesAway}
use Rattle.clr_changes.specs.Sights.{StepsAloneGo, gives_up_by, is_others_deed}
use Rattle.clr_rules.specs.declared.hold_kind.HoldKind.TheVariants.{HeldOpen}
use Rattle.clr_rules.specs.declared.record.Record.{Record}

left_by : (R : Register) (c : Id) (deed : Deed) → IsGood R → is_others_deed c R deed ≡ true → gives_up_by deed R c ≡ false → LeftAlone c R (after_deed R deed)
left_by R c (command q) good others kept = others_left_alone R c q good others
left_by R c (update of) good others kept = (changes_keep_good.nothing R of good).left c
left_by R c (archive before) good others kept = archives_take_closed_steps.left before R c good kept

-- an open record gives up nothing
open_keeps : (R : Register) (c : Id) (deed : Deed) (r : Record) → record_of R.records c ≡ Some r → is_open r.phase ≡ true → gives_up_by deed R c ≡ false
open_keeps R c (command q) r found unclosed = refl
open_keeps R c (update of) r found unclosed = refl
open_keeps R c (archive before) r found unclosed = archives_take_closed_steps.keeps_open before R c r found unclosed

steps_go : (R : Register) (c : Id) (deed : Deed) → IsGood R → gives_up_by deed R c ≡ true → StepsAloneGo c R (after_deed R deed)
steps_go R c (command q) good is = absurd (false≢true is)
steps_go R c (update of) good is = absurd (false≢true is)
steps_go R c (archive before) good is = record {
  closed = are_closed before R c is;
  gone = archives_take_closed_steps.gone before R c is;
  rest = refl;
  held_open = λ p held. good.said.held_points_are_open.open_there c HeldOpen p refl held;
  same_fence = archives_take_closed_steps.fences before R c;
}

pub no_deed_takes_away : NoDeedTakesAway
no_deed_takes_away = record {
  left = λ R deeds c deed good others kept. left_by (after_deeds R deeds) c deed (deeds_good deeds R good) others kept;
  open_left = λ R deeds c deed good others r found unclosed. left_by (after_deeds R deeds) c deed (deeds_good deeds R good) others
      (open_keeps (after_deeds R deeds) c deed r found unclosed);
  steps_alone = λ R deeds c deed good is. steps_go (after_deeds R deeds) c deed (deeds_good deeds R good) is;
}
