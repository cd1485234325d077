use Rattle.std.proofs.Common.{ap, ◌∙◌, ◌++◌}
use Rattle.std.specs.Prelude.{string_bytes}
use Rattle.clr_commands.proofs.AnsweredLines.{fault_next, is_cut, is_empty_list, no_line_left, no_reply_left, printed_next, replied_next}
use Rattle.clr_commands.specs.Replies.{as_lines}
use Rattle.clr_commands.proofs.replies.add_answers.Goals as goal
use Rattle.clr_commands.proofs.replies.add_answers.Goals.{in-Command+in-Some+in_ok-reply_text-in-Command+in_ok-add_line-in-Command, in-NoCommand+in_ok-fault_text-in-NoCommand+in_ok-add_line-in-NoCommand}

-- no reply is left for a command
pub returns-in_default-clause-whole : goal.returns-in_default-clause-whole
returns-in_default-clause-whole c =
    c.loop-reading.invariant.printed
    ∙ ap (λ texts. string_bytes c.args.text.now ++ as_lines texts)
    (no_reply_left _ c.args.readings.now c.loop-reading.reading-index _ _ c.loop-reading-test.true c.in-Command.is
    (is_empty_list _ c.in_default.ensures.cases) c.loop-reading.invariant.same)

-- memory ran out
pub returns-in_err-reply_text-in-Command-clause-cut : goal.returns-in_err-reply_text-in-Command-clause-cut
returns-in_err-reply_text-in-Command-clause-cut c =
    let next = replied_next _ c.args.readings.now c.loop-reading.reading-index _ _ _ _ c.loop-reading-test.true c.in-Command.is
    c.in-Some.ensures.cases.0 c.loop-reading.invariant.same in
    is_cut _ _ _ _ _ next.within (c.loop-reading.invariant.printed)

pub returns-in_err-add_line-in-Command-clause-cut : goal.returns-in_err-add_line-in-Command-clause-cut
returns-in_err-add_line-in-Command-clause-cut c =
    let next = replied_next _ c.args.readings.now c.loop-reading.reading-index _ _ _ _ c.loop-reading-test.true c.in-Command.is
    c.in-Some.ensures.cases.0 c.loop-reading.invariant.same in
    is_cut _ _ _ _ _ next.within (c.in_err-add_line-in-Command.ensures.none ∙ c.loop-reading.invariant.printed)

pub returns-in_err-fault_text-in-NoCommand-clause-cut : goal.returns-in_err-fault_text-in-NoCommand-clause-cut
returns-in_err-fault_text-in-NoCommand-clause-cut c =
    let next = fault_next _ c.args.readings.now c.loop-reading.reading-index _ _ _ c.loop-reading-test.true c.in-NoCommand.is
    c.loop-reading.invariant.same in
    is_cut _ _ _ _ _ next.within (c.loop-reading.invariant.printed)

pub returns-in_err-add_line-in-NoCommand-clause-cut : goal.returns-in_err-add_line-in-NoCommand-clause-cut
returns-in_err-add_line-in-NoCommand-clause-cut c =
    let next = fault_next _ c.args.readings.now c.loop-reading.reading-index _ _ _ c.loop-reading-test.true c.in-NoCommand.is
    c.loop-reading.invariant.same in
    is_cut _ _ _ _ _ next.within (c.in_err-add_line-in-NoCommand.ensures.none ∙ c.loop-reading.invariant.printed)

-- an answer more
pub loop-reading-preserved : goal.loop-reading-preserved
loop-reading-preserved c = elim c.match-reading.branch [
  | in-Command+in-Some+in_ok-reply_text-in-Command+in_ok-add_line-in-Command w ↦
      let next = replied_next _ c.args.readings.now c.loop-reading.reading-index _ _ _ _ c.loop-reading-test.true w.in-Command.is
      w.in-Some.ensures.cases.0 c.loop-reading.invariant.same in
      rw (w.text-is, w.left-is) (record {
        same = next.left;
        printed = printed_next _ _ _ _ _ _ _ _ next w.in_ok-reply_text-in-Command.ensures w.in_ok-add_line-in-Command.ensures.added c.loop-reading.invariant.printed;
      })
  | in-NoCommand+in_ok-fault_text-in-NoCommand+in_ok-add_line-in-NoCommand w ↦
      let next = fault_next _ c.args.readings.now c.loop-reading.reading-index _ _ _ c.loop-reading-test.true w.in-NoCommand.is
      c.loop-reading.invariant.same in
      rw (w.text-is, w.left-is) (record {
        same = next.left;
        printed = printed_next _ _ _ _ _ _ _ _ next w.in_ok-fault_text-in-NoCommand.ensures w.in_ok-add_line-in-NoCommand.ensures.added c.loop-reading.invariant.printed;
      })
]

-- each line has its answer
pub returns-clause-whole : goal.returns-clause-whole
returns-clause-whole c =
    c.loop-reading.invariant.printed
    ∙ ap (λ texts. string_bytes c.args.text.now ++ as_lines texts)
    (no_line_left _ c.args.readings.now c.loop-reading.reading-index _ c.loop-reading-test.false c.loop-reading.invariant.same)
