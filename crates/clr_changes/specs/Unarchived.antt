-- A REGISTER THAT IS ARCHIVED NOW AND THEN, beside one that never is: commands, updates and archives,
-- one after the other, and what the commands among them are answered.
use Rattle.std.specs.Prelude.{◌⊎◌, ◌≡◌, Bool, true, false, ◌||◌, List, [], ◌∷◌}
use Rattle.clr_rules.specs.Answer.{Answer, answer}
use Rattle.clr_rules.specs.Checks.{is_operator}
use Rattle.clr_rules.specs.Command.{named_clearance}
use Rattle.clr_rules.specs.Prelude.{Id, Register}
use Rattle.clr_rules.specs.Run.{after}
use Rattle.clr_rules.specs.Staffed.{has_some_role}
use Rattle.clr_rules.specs.laws.ClosedSteps.{NamesNoneOf}
use Rattle.clr_update.specs.Delta.{after_changes, can_be_made, staff_of}
use Rattle.clr_changes.specs.Archive.{archived, gives_up}
use Rattle.clr_changes.specs.Deeds.{Deed, archive, command, update}
use Rattle.clr_changes.specs.Sights.{all_along}
use Rattle.clr_rules.specs.declared.command.Kind.{Kind}
use Rattle.clr_rules.specs.declared.command.Kind.TheVariants.{Show}

-- the answers to the commands among deeds
abbrev pub answered : Register → Deed → List Answer
answered R (command q) = answer R q ∷ []
answered R (update of) = []
answered R (archive before) = []

abbrev pub answers_among : Register → List Deed → List Answer
answers_among = all_along answered

-- the same deeds where nothing is archived
unfoldable pub unarchived : List Deed → List Deed
unarchived [] = []
unarchived (command q ∷ deeds) = command q ∷ unarchived deeds
unarchived (update of ∷ deeds) = update of ∷ unarchived deeds
unarchived (archive before ∷ deeds) = unarchived deeds

abbrev pub is_show : Kind → Bool
is_show (Show c) = true
is_show kind = false

-- a command shows none of these clearances
abbrev pub ShowsNoneOf : (Id → Bool) → Kind → Type 0
ShowsNoneOf gone kind = (is_show kind ≡ false) ⊎ NamesNoneOf gone (named_clearance kind)

-- NONE OF THEM SHOWS A CLEARANCE that gave up its steps before: these, or those of an archive
-- among them
unfoldable pub ShowNoneGone : (Id → Bool) → Register → List Deed → Type 0
ShowNoneGone gone R [] = Unit {0}
ShowNoneGone gone R (command q ∷ deeds) =
    ShowsNoneOf gone q.kind × ShowNoneGone gone (after R q) deeds
ShowNoneGone gone R (update of ∷ deeds) = ShowNoneGone gone (after_changes R of) deeds
ShowNoneGone gone R (archive before ∷ deeds) =
    ShowNoneGone (λ c. gone c || gives_up before R c) (archived before R) deeds

-- EACH UPDATE AMONG THEM CAN BE MADE at its place, and leaves an operator. A step needs one, and an
-- archive may take the last
unfoldable pub AreMade : Register → List Deed → Type 0
AreMade R [] = Unit {0}
AreMade R (command q ∷ deeds) = AreMade (after R q) deeds
AreMade R (update of ∷ deeds) = (can_be_made R of ≡ true)
    × (has_some_role (staff_of R of) is_operator ≡ true) × AreMade (after_changes R of) deeds
AreMade R (archive before ∷ deeds) = AreMade (archived before R) deeds

abbrev pub is_update : Deed → Bool
is_update (command q) = false
is_update (update of) = true
is_update (archive before) = false
