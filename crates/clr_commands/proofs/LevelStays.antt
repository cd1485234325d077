-- What was done over a desk with a journal keeps register and journal level, and its lines safe.
use Rattle.std.proofs.Common.{ℕ, List}
use Rattle.sqlite.specs.State.{State}
use Rattle.clr_journal.specs.declared.journal.Journal as append
use Rattle.clr_desk.specs.Given.{LeadsTo}
use Rattle.clr_desk.specs.Placing.{Placing}
use Rattle.clr_desk.specs.Taking.{Taking}
use Rattle.clr_desk.specs.declared.desk.Desk.{Desk}
use Rattle.clr_level.specs.Journaling.{Journals}
use Rattle.clr_level.specs.Levelling.{LevelIsKept, SoundIsKept}
use Rattle.clr_level.specs.Restarting.{SafeIsKept}
use Rattle.clr_level.specs.declared.keeper.Keeper.{Keeper}
use Rattle.clr_keeping.specs.Keeping.{StaysOne}

pub level_stays : {K J C : Type 0} (takes : Taking K) (kept : K → State) (has_place : Placing) (shows : C → ℕ → Type 0) (log : append.Ghosts J)
    → LevelIsKept K J C takes kept has_place shows log.text log.found log.may_leave log.is_usable
    → SoundIsKept K J C takes kept has_place shows log.text log.found log.may_leave log.is_usable
    → SafeIsKept K J C takes kept has_place shows log.text log.found log.may_leave log.is_usable
    → (keeps : Keeper K J C → State) (old new : Desk (Keeper K J C))
    → LeadsTo keeps (Journals takes kept has_place shows log.text log.found log.may_leave log.is_usable) old new
    → StaysOne kept has_place log old new
level_stays takes kept has_place shows log level sound safe keeps old new led = (
  λ first start good holds. level first old.book.register new.book.register start old.store new.store led.given good holds led.are_given,
  λ holds. sound old.book.register new.book.register old.store new.store led.given holds led.are_given,
  λ first start good holds was. safe first old.book.register new.book.register start old.store new.store led.given good holds was led.are_given,
)
