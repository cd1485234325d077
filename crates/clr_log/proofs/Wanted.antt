-- The commands that are wanted, one deed after the other.
use Rattle.std.proofs.Common.{◌≡◌, ℕ, Bool, true, false, List, [], ◌∷◌, ◌++◌, Option, refl, ap, sym}
use Rattle.std.proofs.lemmas.List.{append-nil}
use Rattle.serde_json.specs.Data.{Data}
use Rattle.clr_changes.specs.Deeds.{Deed, archive, command, commands_among, onto_commands, update}
use Rattle.clr_rules.specs.Id.{Id}
use Rattle.clr_rules.specs.declared.command.Command.{Command}
use Rattle.clr_wayback.specs.Text.{command_line}
use Rattle.clr_log.specs.About.{clearance_of, is_wanted}
use Rattle.clr_log.specs.Commands.{commands_text, wanted_of}
use Rattle.clr_log.specs.Log.{if_wanted}

-- the text of a deed, if it is a command
abbrev pub text_of_deed : Deed → List ℕ
text_of_deed deed = commands_text (commands_among (deed ∷ []))

deed_first : (deed : Deed) (commands : List Command) → commands_text (onto_commands deed commands) ≡ text_of_deed deed ++ commands_text commands
unfolding commands_among
deed_first (command q) commands = ap (λ text. text ++ commands_text commands) (sym (append-nil (command_line q)))
deed_first (update of) commands = refl
deed_first (archive before) commands = refl

pub one_wanted : (wanted : Option Id) (deed : Deed) (reply : Data) (pairs : List (Deed × Data))
    → commands_text (wanted_of wanted ((deed, reply) ∷ pairs)) ≡ if_wanted (is_wanted wanted (clearance_of deed reply)) (text_of_deed deed) ++ commands_text (wanted_of wanted pairs)
unfolding commands_among
one_wanted wanted deed reply pairs = at (is_wanted wanted (clearance_of deed reply)) refl
  where
    at : (b : Bool) → is_wanted wanted (clearance_of deed reply) ≡ b
        → commands_text (wanted_of wanted ((deed, reply) ∷ pairs)) ≡ if_wanted (is_wanted wanted (clearance_of deed reply)) (text_of_deed deed) ++ commands_text (wanted_of wanted pairs)
    at true e = rw e (deed_first deed (wanted_of wanted pairs))
    at false e = rw e refl
