-- Runs: what every command keeps, a run keeps; and a run that goes on where another ended.
use Rattle.std.proofs.Common.{◌≡◌, ◌∙◌, suc, List, [], ◌∷◌, ◌++◌, length, refl, sym, ap, subst}
use Rattle.clr_rules.proofs.Common.{Grid, IsNetwork, StaffRow, Answer, answer, ListsAreInOrder, Register, opening, IsReached, after, after_all, replies, Command}
use Rattle.clr_staff.specs.Staff.{IsStaff}
use Rattle.clr_rules.specs.laws.Runs.{GoesOn}
use Rattle.clr_rules.proofs.edits.EditedLists.{edited_all-in_order}
use Rattle.clr_rules.proofs.good.Opening.{opening_is_in_order}

-- what each command keeps, a run keeps
pub kept_by_run : (P : Register → Type 0) → ((R : Register) (q : Command) → P R → P (after R q)) → (R : Register) (commands : List Command) → P R → P (after_all R commands)
unfolding after_all
kept_by_run P step R [] h = h
kept_by_run P step R (q ∷ commands) h = kept_by_run P step (after R q) commands (step R q h)

-- and what opening registers have besides, every reached register has
pub reached_have : (P : Register → Type 0) → ((g : Grid) (staff : List StaffRow) → IsNetwork g → IsStaff staff → P (opening g staff))
    → ((R : Register) (q : Command) → P R → P (after R q)) → (R : Register) → IsReached R → P R
reached_have P first step R reached =
    subst P (sym reached.reached) (kept_by_run P step (opening reached.net reached.staff) reached.commands (first reached.net reached.staff reached.is_network reached.is_staff))

pub reached_lists_are_in_order : (R : Register) → IsReached R → ListsAreInOrder R
reached_lists_are_in_order = reached_have ListsAreInOrder (λ g staff net _. opening_is_in_order g staff net)
    (λ R q h. edited_all-in_order R (Answer.edits (answer R q)) h)

pub commands_are_replied : (R : Register) (commands : List Command) → length (replies R commands) ≡ length commands
unfolding replies
commands_are_replied R [] = refl
commands_are_replied R (q ∷ commands) = ap suc (commands_are_replied (after R q) commands)

after_all-append : (R : Register) (earlier later : List Command) → after_all R (earlier ++ later) ≡ after_all (after_all R earlier) later
unfolding after_all
after_all-append R [] later = refl
after_all-append R (q ∷ earlier) later = after_all-append (after R q) earlier later

replies-append : (R : Register) (earlier later : List Command) → replies R (earlier ++ later) ≡ replies R earlier ++ replies (after_all R earlier) later
unfolding replies after_all
replies-append R [] later = refl
replies-append R (q ∷ earlier) later = ap (λ rest. Answer.reply (answer R q) ∷ rest) (replies-append (after R q) earlier later)

pub runs_go_on : (R : Register) (earlier later : List Command) → GoesOn R earlier later
runs_go_on R earlier later = record { register = after_all-append R earlier later; replied = replies-append R earlier later }

pub opening_is_reached : (g : Grid) (staff : List StaffRow) → IsNetwork g → IsStaff staff → IsReached (opening g staff)
unfolding after_all
opening_is_reached g staff net is_staff = record { net = g; staff = staff; commands = []; is_network = net; is_staff = is_staff; reached = refl }

pub reached_go_on : (R : Register) → IsReached R → (commands : List Command) → IsReached (after_all R commands)
reached_go_on R h commands = record {
  net = h.net;
  staff = h.staff;
  commands = h.commands ++ commands;
  is_network = h.is_network;
  is_staff = h.is_staff;
  reached = ap (λ S. after_all S commands) h.reached ∙ sym (after_all-append (opening h.net h.staff) h.commands commands);
}
