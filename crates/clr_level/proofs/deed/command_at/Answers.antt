use Rattle.std.proofs.Common.{◌≡◌, true}
use Rattle.clr_answer.specs.Decision.{is_accepted}
use Rattle.clr_rules.specs.Answer.{Answer, answer}
use Rattle.clr_rules.specs.Run.{after}
use Rattle.clr_rules.specs.declared.reply.Reply.{Reply}
use Rattle.clr_desk.specs.Faults.{IsOfKeeper}
use Rattle.clr_level.specs.Crash.{KeepsTables}
use Rattle.clr_level.specs.Placing.{ComesTo, StaysShown}
use Rattle.clr_level.proofs.Deeds.{command_done, command_missed}
use Rattle.clr_level.proofs.Forwarding.{if_err, if_ok, on_err, on_ok}
use Rattle.clr_level.proofs.deed.command_at.Goals as goal

pub returns-in-Ok-clause-carried : goal.returns-in-Ok-clause-carried
returns-in-Ok-clause-carried g c =
    let kept = g.K.Commit.kept in
    let old = c.args.desk in
    let new = c.carry_at-came.result.1 in
    let came = c.carry_at-came.result.0 in
    let carry = c.carry_at-came.ensures in
    let reply = c.in-Ok._reply in
    command_done kept g.K.Commit.takes g.K.CommitAt.has_place g.K.Commit.fails old new c.args.command c.args.place reply
    (λ good. if_ok came reply (λ (r : Reply). r ≡ Answer.reply (answer old.book.register c.args.command)) c.in-Ok.is (carry.reply good))
    (λ good. on_ok came reply (new.book.register ≡ after old.book.register c.args.command) c.in-Ok.is (carry.register good))
    (if_ok came reply (λ (r : Reply). is_accepted r ≡ true → ComesTo g.K.CommitAt.has_place (kept old.store) (kept new.store) c.args.place) c.in-Ok.is carry.placed)
    (on_ok came reply (KeepsTables kept old new) c.in-Ok.is carry.tables) carry.left carry.led

pub returns-in-Err-clause-carried : goal.returns-in-Err-clause-carried
returns-in-Err-clause-carried g c =
    let kept = g.K.Commit.kept in
    let old = c.args.desk in
    let new = c.carry_at-came.result.1 in
    let came = c.carry_at-came.result.0 in
    let carry = c.carry_at-came.ensures in
    command_missed kept g.K.Commit.takes g.K.CommitAt.has_place g.K.Commit.fails old new c.args.command c.args.place c.in-Err.fault
    (on_err came c.in-Err.fault (new.book.register ≡ old.book.register) c.in-Err.is carry.unchanged)
    (on_err came c.in-Err.fault (StaysShown (kept old.store) (kept new.store)) c.in-Err.is carry.stays) carry.left carry.led
    (if_err came c.in-Err.fault (IsOfKeeper g.K.Commit.fails) c.in-Err.is carry.fault)
