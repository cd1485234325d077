use Rattle.std.proofs.Common.{refl}
use Rattle.clr_args.proofs.JournalAsked.{asks_found}
use Rattle.clr_args.proofs.parsing.journal_parsed.Goals as goal

-- a journal is to be printed, or its next part begun
pub returns-in-Some : goal.returns-in-Some
returns-in-Some c = asks_found _ _ _ _ c.in-Some.asked refl c.in-Some.is c.in_ok-asked.ensures
