-- LAWS: changes that are written and read again.
use Rattle.std.specs.Prelude.{◌≡◌, ◌≤◌, true, Some}
use Rattle.serde_json.specs.Data.{depth}
use Rattle.clr_text.specs.CommandLaws.{is_plain}
use Rattle.clr_update.specs.Changes.{Changes}
use Rattle.clr_journal.specs.Delta.{can_be_said, changes_data, changes_in}

-- CHANGES THAT CAN BE SAID are read from their value, wherever that is
abbrev pub ChangesReadBack : Type 0
ChangesReadBack = (of : Changes) → can_be_said of ≡ true → changes_in (changes_data of) ≡ Some of

-- AND THEIR VALUE IS PLAIN, so a text of which it is a part reads back too: it has texts, flags and
-- null, in lists of rows
abbrev pub ChangeValuesArePlain : Type 0
ChangeValuesArePlain = (of : Changes) → can_be_said of ≡ true
    → (is_plain (changes_data of) ≡ true) × (depth (changes_data of) ≤ 4)
