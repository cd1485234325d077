-- A REGISTER THAT LIVES FOR YEARS: commands and updates, one after the other; what they show a
-- clearance, and what its own commands are answered.
use Rattle.std.specs.Prelude.{ℕ, Bool, true, ◌&&◌, not, if◌then◌else◌, List, [], ◌∷◌}
use Rattle.std.specs.Prelude.{◌++◌, map}
use Rattle.clr_rules.specs.Answer.{Answer}
use Rattle.clr_rules.specs.Fences.{clearance_fence}
use Rattle.clr_rules.specs.Good.{is_operators}
use Rattle.clr_rules.specs.Isolation.{is_others}
use Rattle.clr_rules.specs.Prelude.{Id, Register}
use Rattle.clr_rules.specs.Run.{after}
use Rattle.clr_rules.specs.Shown.{Item, covers, includes, items_shown, own_answers}
use Rattle.clr_update.specs.Changes.{Changes, are_none, changes, near_set}
use Rattle.clr_update.specs.Update.{IsRead, Update, after_update}
use Rattle.clr_rules.specs.declared.command.Command.{Command}

pub data Entry : Type 0 where
  command : Command → Entry
  update : Update → Entry

-- the files of an update are a network and a staff
abbrev pub IsReadable : Entry → Type 0
IsReadable (command q) = Unit {0}
IsReadable (update u) = IsRead u

unfoldable pub AllReadable : List Entry → Type 0
AllReadable [] = Unit {0}
AllReadable (entry ∷ entries) = IsReadable entry × AllReadable entries

-- the register after a command that is answered, or an update that is carried out or refused
abbrev pub after_entry : Register → Entry → Register
after_entry R (command q) = after R q
after_entry R (update u) = after_update R u

unfoldable pub after_entries : Register → List Entry → Register
after_entries R [] = R
after_entries R (entry ∷ entries) = after_entries (after_entry R entry) entries

-- whether an entry is another's: a command about another clearance, or an update
abbrev pub is_others_entry : Id → Register → Entry → Bool
is_others_entry c R (command q) = is_others c R q
is_others_entry c R (update u) = true

-- WHAT IS SHOWN: what a command shows, or what an update changes near the set, if anything
pub data Sight : Type 0 where
  item : Item → Sight
  changed : Changes → Sight

abbrev pub where_some_change : Changes → List Sight
where_some_change of = if are_none of then [] else changed of ∷ []

abbrev pub shown_by : Id → (List ℕ → Bool) → Register → Entry → List Sight
shown_by c inside R (command q) = map item (items_shown c inside R (q ∷ []))
shown_by c inside R (update u) = where_some_change (near_set inside (changes R (after_update R u)))

unfoldable pub sights : Id → (List ℕ → Bool) → Register → List Entry → List Sight
sights c inside R [] = []
sights c inside R (entry ∷ entries) =
    shown_by c inside R entry ++ sights c inside (after_entry R entry) entries

-- the answers to its own commands
abbrev pub answers_to : Id → Register → Entry → List Answer
answers_to c R (command q) = own_answers c R (q ∷ [])
answers_to c R (update u) = []

unfoldable pub all_answers : Id → Register → List Entry → List Answer
all_answers c R [] = []
all_answers c R (entry ∷ entries) =
    answers_to c R entry ++ all_answers c (after_entry R entry) entries

-- A SET COVERS ALL: at each place it includes the clearance's fence, and the fence that an order of
-- it would make
abbrev pub covers_entry : Id → (List ℕ → Bool) → Register → Entry → Bool
covers_entry c inside R (command q) = covers c inside R (q ∷ [])
covers_entry c inside R (update u) = includes inside (clearance_fence R c)

unfoldable pub covers_all : Id → (List ℕ → Bool) → Register → List Entry → Bool
covers_all c inside R [] = includes inside (clearance_fence R c)
covers_all c inside R (entry ∷ entries) =
    covers_entry c inside R entry && covers_all c inside (after_entry R entry) entries

-- at no place is the requester of a clearance an operator
unfoldable pub is_never_operators : Id → Register → List Entry → Bool
is_never_operators c R [] = not (is_operators R c.requester)
is_never_operators c R (entry ∷ entries) =
    not (is_operators R c.requester) && is_never_operators c (after_entry R entry) entries
