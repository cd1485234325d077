use Rattle.std.proofs.Common.{◌≤◌, arith, length, subst, sym, List, ℕ}
use Rattle.clr_load.specs.TableText.{table_text}
use Rattle.clr_load.specs.declared.table_name.TableName.{TableName}
use Rattle.clr_load.specs.declared.table_name.TableName.TheVariants.{Meta, Section, Point, Staff, Clearance, Step, Hold, NetworkPoint, Journal}
use Rattle.clr_edge.proofs.line.table_word.Goals as goal

table_text-short : (table : TableName) → length (table_text table) ≤ 13
table_text-short Meta = omega arith
table_text-short Section = omega arith
table_text-short Point = omega arith
table_text-short Staff = omega arith
table_text-short Clearance = omega arith
table_text-short Step = omega arith
table_text-short Hold = omega arith
table_text-short NetworkPoint = omega arith
table_text-short Journal = omega arith

-- no table has a longer name
pub returns-clause-short : goal.returns-clause-short
returns-clause-short c = subst (λ (t : List ℕ). length t ≤ 13) (sym c.text.ensures) (table_text-short c.args.table)
