use Rattle.std.proofs.Common.{refl, subst}
use Rattle.clap.specs.Words.{App}
use Rattle.clr_args.specs.Syntax.{IsWritten, archive, board, check, fence, init, journal, migrate, order, run, serve, update, verify, wayback}
use Rattle.clr_args.proofs.syntax.command.Goals as goal

-- each subcommand is a plain one, so it has no global argument
pub returns : goal.returns
returns c =
    let began = subst (λ (a : App). IsWritten a c.of.result.command) c.top.ensures c.of.ensures in
    let with_fence = c.subcommand.ensures _ fence refl began c.fence.ensures in
    let with_check = c.subcommand-2.ensures _ check refl with_fence c.check.ensures in
    let with_init = c.subcommand-3.ensures _ init refl with_check c.init.ensures in
    let with_run = c.subcommand-4.ensures _ run refl with_init c.run.ensures in
    let with_order = c.subcommand-5.ensures _ order refl with_run c.order.ensures in
    let with_board = c.subcommand-6.ensures _ board refl with_order c.board.ensures in
    let with_wayback = c.subcommand-7.ensures _ wayback refl with_board c.wayback.ensures in
    let with_serve = c.subcommand-8.ensures _ serve refl with_wayback c.serve.ensures in
    let with_journal = c.subcommand-9.ensures _ journal refl with_serve c.journal.ensures in
    let with_verify = c.subcommand-10.ensures _ verify refl with_journal c.verify.ensures in
    let with_update = c.subcommand-11.ensures _ update refl with_verify c.update.ensures in
    let with_archive = c.subcommand-12.ensures _ archive refl with_update c.archive.ensures in
    let with_migrate = c.subcommand-13.ensures _ migrate refl with_archive c.migrate.ensures in
    c.end.ensures _ with_migrate
