use Rattle.std.proofs.Common.{◌≡◌, List, [], None, rules, subst, sym}
use Rattle.clr_rules.specs.Checks.{employee}
use Rattle.clr_staff.specs.declared.employee.StaffRow.{StaffRow}
use Rattle.clr_wayback.specs.Answer.{GivesBack, IsTried}
use Rattle.clr_wayback.proofs.Callers.{nobody_is_nameless}
use Rattle.clr_wayback.proofs.Closing.{answer_is_tried, gives_back}
use Rattle.clr_wayback.proofs.answer.way_back.Goals as goal

pub answer_of-requires : goal.answer_of-requires
answer_of-requires g c =
    let staff : c.rows.result.now ≡ c.args.book.now.register.staff = search rules in
    subst (λ (rows : List StaffRow). employee rows [] ≡ None) staff (nobody_is_nameless c.rows.result.now c.all_named.ensures)

pub returns-clause-tried : goal.returns-clause-tried
returns-clause-tried g c good =
    subst (IsTried c.args.book.now.register c.args.id.now) (sym (c.in_ok-answer.ensures good)) (answer_is_tried c.args.book.now.register c.args.id.now)

pub returns-clause-closes : goal.returns-clause-closes
returns-clause-closes g c fit =
    let R = c.args.book.now.register in
    let id = c.args.id.now in
    let staff : c.rows.result.now ≡ R.staff = search rules in
    subst (GivesBack R id) (sym (c.in_ok-answer.ensures fit.0))
    (gives_back R fit id (subst (λ (rows : List StaffRow). employee rows [] ≡ None) staff (nobody_is_nameless c.rows.result.now c.all_named.ensures)))
