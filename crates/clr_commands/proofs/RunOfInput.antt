-- The run of an input's commands, from what a desk's run of them answers.
use Rattle.std.proofs.Common.{◌≡◌, ◌<◌, ℕ, List, length, subst}
use Rattle.std.specs.Prelude.{IfNone, IfSome}
use Rattle.sqlite.specs.State.{HasCleanDisk, State}
use Rattle.clr_rules.specs.CrewSafety.{CrewsWorkSafely}
use Rattle.clr_rules.specs.Good.{IsGood}
use Rattle.clr_rules.specs.RunHeadline.{IsRun, OthersChangeNoReply, OthersTakeNothing, OwnStandAlone, with_reply}
use Rattle.clr_rules.specs.declared.command.Command.{Command}
use Rattle.clr_desk.specs.Crash.{LeavesSome}
use Rattle.clr_desk.specs.Faults.{IsOfKeeper}
use Rattle.clr_desk.specs.declared.desk_fault.DeskFault.{DeskFault}
use Rattle.clr_desk.specs.Kept.{Keeps}
use Rattle.clr_desk.specs.NearRun.{IsNearRun}
use Rattle.clr_desk.specs.Taking.{Taking, TakesRun}
use Rattle.clr_desk.specs.declared.desk.Desk.{Desk}
use Rattle.clr_desk.specs.declared.run.Run.{Run}
use Rattle.clr_commands.specs.Replies.{AnswersOver, PrintsAnswers, answers, asked_commands, asked_lines, readings_of}
use Rattle.clr_commands.specs.Run.{PutsInput}
use Rattle.clr_commands.specs.declared.replies.Printed.{Printed}
use Rattle.clr_commands.specs.declared.replies.Reading.{Reading}
use Rattle.clr_commands.proofs.AnsweredLines.{answers_are}

-- what a desk's run of commands answers
pub record RunsAll {K : Type 0} (fails : DeskFault → Type 0) (kept : K → State) (takes : Taking K) (old new : Desk K) (run : Run) (commands : List Command)
    : Type 0 where
  pub cause : IfSome run.fault (IsOfKeeper fails)
  pub ends : IfNone run.fault (length run.replies.items ≡ length commands)
  pub stops : IfSome run.fault (λ _. length run.replies.items < length commands)
  pub near : IsNearRun old.book.register (with_reply commands run.replies.items) run.replies.items new.book.register
  pub ran : IsGood old.book.register
      → IsRun old.book.register (with_reply commands run.replies.items) run.replies.items new.book.register
  pub headline : OthersChangeNoReply old.book.register (with_reply commands run.replies.items) run.replies.items new.book.register
  pub untouched : OthersTakeNothing old.book.register (with_reply commands run.replies.items)
  pub alone : OwnStandAlone old.book.register (with_reply commands run.replies.items) run.replies.items
  pub safe : CrewsWorkSafely old.book.register (with_reply commands run.replies.items) new.book.register
  pub taken : TakesRun takes new.book.register old.store commands run.replies.items run.fault new.store
  pub keeps : Keeps (kept old.store) old.book.register (kept new.store) new.book.register
  pub crash : HasCleanDisk (kept new.store)
      → LeavesSome (kept old.store) (kept new.store) old.book.register commands (length run.replies.items)

-- its commands are those of the input, and its answers are printed
pub answers_over : {K : Type 0} (fails : DeskFault → Type 0) (kept : K → State) (takes : Taking K) (old new : Desk K) (input : List ℕ) (run : Run)
    (commands : List Command) (readings : List Reading) (printed : Printed)
    → commands ≡ asked_commands input → readings ≡ readings_of (asked_lines input)
    → RunsAll fails kept takes old new run commands → PrintsAnswers (answers readings run.replies.items) run.fault printed
    → (over : AnswersOver fails (kept old.store) (kept new.store) old.book.register new.book.register input printed)
    × PutsInput takes new.book.register old.store input over.told over.run.ended new.store
answers_over fails kept takes old new input run commands readings printed asked read all prints =
    let on = subst (λ (cs : List Command). RunsAll fails kept takes old new run cs) asked all in (
      record {
        told = run.replies.items;
        run = record {
          ended = run.fault;
          cause = on.cause;
          ends = on.ends;
          stops = on.stops;
          near = on.near;
          ran = on.ran;
          headline = on.headline;
          untouched = on.untouched;
          alone = on.alone;
          safe = on.safe;
          prints = subst (λ (rs : List Reading). PrintsAnswers (answers rs run.replies.items) run.fault printed) read prints;
          lines = λ good. answers_are old.book.register new.book.register (asked_lines input) run.replies.items (on.ran good);
        };
        keeps = on.keeps;
        crash = on.crash;
      },
      on.taken,
    )
