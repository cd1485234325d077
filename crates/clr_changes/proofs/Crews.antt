-- Crews work safely over deeds: each leaves a good register good, and no update and no archive takes a hold.
use Rattle.std.proofs.Common.{◌≡◌, ◌∙◌, ◌++◌, List, ◌∷◌, map, ap, subst, sym}
use Rattle.std.proofs.lemmas.Bool.{false≢true}
use Rattle.std.proofs.lemmas.List.{map-append}
use Rattle.clr_rules.proofs.good.CrewSafety.{crews_are_safe}
use Rattle.clr_rules.proofs.good.Tags.{tags_are_untagged}
use Rattle.clr_rules.proofs.isolation.Sparing.{has_hold-same}
use Rattle.clr_rules.specs.CrewSafety.{CrewsAreSafe, TagsStay}
use Rattle.clr_rules.specs.Good.{IsGood}
use Rattle.clr_rules.specs.Prelude.{Register}
use Rattle.clr_rules.specs.Run.{after_all}
use Rattle.clr_rules.specs.declared.command.Command.{Command}
use Rattle.clr_rules.specs.declared.hold_kind.HoldKind.TheVariants.{Tag}
use Rattle.clr_update.proofs.Made.{changes_keep_good}
use Rattle.clr_changes.proofs.Deeds.{commands_are_a_run, deeds_good}
use Rattle.clr_changes.specs.Deeds.{Deed, after_deed, after_deeds, archive, command, update}
use Rattle.clr_changes.specs.DeedLaws.{AreSafeOverDeeds, CrewsWorkSafelyOverDeeds, SafeOverCommands, TagsStayOver}

tags_stay : (R : Register) (deed : Deed) → IsGood R → TagsStayOver R deed
tags_stay R (command q) good c p has gone = tags_are_untagged R q c p good has gone
tags_stay R (update of) good c p has gone =
    absurd (false≢true (sym gone ∙ has_hold-same R.holds (Register.holds (after_deed R (update of))) c Tag p ((changes_keep_good.nothing R of good).left c).frame.same_holds ∙ has))
tags_stay R (archive before) good c p has gone = absurd (false≢true (sym gone ∙ has))

safe_after : (R : Register) (deeds : List Deed) → IsGood R → CrewsAreSafe (after_deeds R deeds)
safe_after R deeds good = crews_are_safe (after_deeds R deeds) (IsGood.said (deeds_good deeds R good))

pub crews_work_safely_over_deeds : CrewsWorkSafelyOverDeeds
crews_work_safely_over_deeds R deeds good = record {
  each_place = λ earlier later split. safe_after R earlier good;
  left = safe_after R deeds good;
  tags = λ earlier deed later split. tags_stay (after_deeds R earlier) deed (deeds_good earlier R good);
}

-- commands alone, and those of a part of them
module _ (R : Register) (commands : List Command) (safe : AreSafeOverDeeds R (map command commands)) where
  safe_at : (earlier later : List Command) → commands ≡ earlier ++ later → CrewsAreSafe (after_all R earlier)
  safe_at earlier later split = subst CrewsAreSafe (commands_are_a_run R earlier)
      (safe.each_place (map command earlier) (map command later) (ap (map command) split ∙ map-append command earlier later))

  tags_at : (earlier : List Command) (q : Command) (later : List Command) → commands ≡ earlier ++ q ∷ later → TagsStay (after_all R earlier) q
  tags_at earlier q later split = subst (λ (S : Register). TagsStay S q) (commands_are_a_run R earlier)
      (safe.tags (map command earlier) (command q) (map command later) (ap (map command) split ∙ map-append command earlier (q ∷ later)))

pub safe_over_commands : SafeOverCommands
safe_over_commands R commands safe = record {
  each_place = safe_at R commands safe;
  left = subst CrewsAreSafe (commands_are_a_run R commands) safe.left;
  tags = tags_at R commands safe;
}
