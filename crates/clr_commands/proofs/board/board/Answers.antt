use Rattle.std.proofs.Common.{◌≡◌, Ok, ap, subst}
use Rattle.clr_book.specs.Book.{Shelved}
use Rattle.clr_rules.specs.Register.{Register}
use Rattle.clr_print.specs.Printed.{board_text}
use Rattle.clr_commands.specs.Answers.{GivesText, IsMemory}
use Rattle.clr_commands.proofs.Databases.{GivesText-text, unvisited, visited}
use Rattle.clr_commands.proofs.Faults.{each_plain, memory_plain, passed, taking_up_plain}
use Rattle.clr_commands.proofs.board.board.Goals as goal

-- the board of the register of the database at the path
pub returns-clause-visit : goal.returns-clause-visit
returns-clause-visit g c =
    let same : c.end-2.result ≡ c.in_ok-desk.desk.store = cc in
    let register : c.book.result.now.register ≡ c.in_ok-desk.desk.book.register = ap (λ (b : Shelved). b.register) c.book.ensures in
    visited g.R.Tables.Store g.R.Databases.opens g.R.Databases.shuts g.R.Databases.ends c.args.args.now.database.now (λ fault. IsMemory fault) (λ (Q : Register) known. Ok (board_text Q c.args.args.now.offset.minutes) ≡ known) c.board_of-printed.result c.args.rt.now c.open_desk.new.rt
    c.close-closed.new.rt c.in_ok-desk.desk c.end-2.result c.close-closed.result c.in_ok-desk.ensures.up same c.close-closed.ensures
    (subst (λ (Q : Register). GivesText IsMemory (Ok (board_text Q c.args.args.now.offset.minutes)) c.board_of-printed.result) register
    (GivesText-text _ c.board_of-printed.result c.board_of-printed.ensures.text c.board_of-printed.ensures.fault))
    c.board_of-printed.ensures.fault

pub returns-clause-faults : goal.returns-clause-faults
returns-clause-faults g c = each_plain c.board_of-printed.result (λ fault. IsMemory fault) memory_plain c.board_of-printed.ensures.fault

-- it was not taken up
pub returns-in_err-desk-clause-visit : goal.returns-in_err-desk-clause-visit
returns-in_err-desk-clause-visit g c =
    unvisited g.R.Tables.Store g.R.Databases.opens g.R.Databases.shuts g.R.Databases.ends c.args.args.now.database.now (λ fault. IsMemory fault) (λ (Q : Register) known. Ok (board_text Q c.args.args.now.offset.minutes) ≡ known) _ c.args.rt.now c.open_desk.new.rt _ c.from_residual.ensures.1
    c.in_err-desk.ensures.none

pub returns-in_err-desk-clause-faults : goal.returns-in_err-desk-clause-faults
returns-in_err-desk-clause-faults g c = passed _ _ c.from_residual.ensures.1 (taking_up_plain _ c.in_err-desk.ensures.fault)
