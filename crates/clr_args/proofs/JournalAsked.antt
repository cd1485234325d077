-- What `journal` is asked for: to print a journal, or to begin its next part.
use Rattle.std.proofs.Common.{◌≡◌, List, [], ◌∷◌, Option, None, Some, MatchOption, codes, subst}
use Rattle.clap.specs.Words.{Row, Text}
use Rattle.clr_args.specs.Parsed.{Asks, AsksJournalOver, AsksOfJournal}
use Rattle.clr_args.specs.declared.asked.Asked.{Asked}
use Rattle.clr_args.specs.declared.asked.Asked.TheVariants as asked

abbrev IsOfJournal : Asked → Type 0
IsOfJournal (asked.Journal args) = Unit {0}
IsOfJournal (asked.NextPart args) = Unit {0}
IsOfJournal what = ⊥

no_other : (rows : List Row) (next database : Option Text) (parts : List Text) (what : Asked) → AsksJournalOver rows next database parts what → IsOfJournal what
no_other rows None None parts (asked.Journal args) asks = tt
no_other rows None None parts _ asks = absurd asks
no_other rows (Some next) (Some database) [] (asked.NextPart args) asks = tt
no_other rows (Some next) (Some database) [] _ asks = absurd asks
no_other rows (Some next) (Some database) (part ∷ parts) what asks = absurd asks
no_other rows None (Some database) parts what asks = absurd asks
no_other rows (Some next) None parts what asks = absurd asks

by_kind : (name : Text) (rows : List Row) (what : Asked) → name ≡ codes "journal" → IsOfJournal what → AsksOfJournal rows what → Asks name rows what
by_kind name rows (asked.Journal args) is kind asks = (is, asks)
by_kind name rows (asked.NextPart args) is kind asks = (is, asks)
by_kind name rows _ is kind asks = absurd kind

-- either is asked for by the subcommand `journal`
asks_journal : (name : Text) (rows : List Row) (what : Asked) → name ≡ codes "journal" → AsksOfJournal rows what → Asks name rows what
asks_journal name rows what is asks = by_kind name rows what is (no_other rows _ _ _ what asks) asks

pub asks_found : (name : Text) (rows : List Row) (none : Type 0) (found : Option Asked) (what : Asked) → name ≡ codes "journal" → found ≡ Some what
    → MatchOption found none (AsksOfJournal rows) → Asks name rows what
asks_found name rows none found what is is_found asks =
    let P : Option Asked → Type 0 = λ o. MatchOption o none (AsksOfJournal rows) in
    asks_journal name rows what is (subst P is_found asks)
