use Rattle.std.proofs.Common.{◌≡◌, ◌↔◌, ◌∙◌, None, Option, ap, subst, sym}
use Rattle.std.specs.Prelude.{option_map}
use Rattle.clr_rules.specs.Fit.{IsFit}
use Rattle.clr_load.specs.declared.table_name.TableName.{TableName}
use Rattle.clr_edge.specs.AtFault.{table_of_list}
use Rattle.clr_edge.proofs.AtFault.{none_told}
use Rattle.clr_edge.proofs.at_fault.table_in.Goals as goal

pub returns-clause-good : goal.returns-clause-good
returns-clause-good c =
    subst (λ (table : Option TableName). (table ≡ None) ↔ IsFit c.args.book.now.register) (sym c.table_of.ensures)
    (none_told c.in_ok-list.list (IsFit c.args.book.now.register) c.in_ok-list.ensures.good)

pub returns-clause-first : goal.returns-clause-first
returns-clause-first c = c.table_of.ensures ∙ ap (option_map table_of_list) c.in_ok-list.ensures.first
