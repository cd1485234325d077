use Rattle.std.proofs.Common.{◌≡◌, ◌∙◌, List, [], ap, rules, ℕ}
use Rattle.std.specs.Prelude.{pos}
use Rattle.clr_chain.specs.Sums.{Files}
use Rattle.clr_print.specs.Printed.{board_text}
use Rattle.clr_commands.specs.First.{first_place, made_at}
use Rattle.clr_commands.proofs.Migrates.{board_files-is}
use Rattle.clr_commands.proofs.migrate.first_of.Goals as goal

-- the printed board takes the place of the files
pub returns-clause-place : goal.returns-clause-place
returns-clause-place c =
    let R = c.args.book.now.register in
    let made = made_at c.args.moment c.args.path.now c.args.journal.now in
    let sections : c.in_ok-sections.sections.items ≡ board_text R (pos 0) = c.in_ok-sections.ensures.items ∙ c.as_bytes.ensures.value ∙ c.in_ok-board.ensures in
    let points : c.new-points.result.items ≡ [] = search rules in
    let staff : c.new-staff.result.items ≡ [] = search rules in
    c.in_ok-place.ensures ∙ ap (λ (files : Files). first_place files made) (board_files-is R _ _ _ sections points staff)
