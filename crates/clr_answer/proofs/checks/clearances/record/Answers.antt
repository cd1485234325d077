use Rattle.std.proofs.Common.{◌≡◌, List, Option, Some, None, Bor, rules, sym}
use Rattle.std.specs.Prelude.{IfSome, option_copied}
use Rattle.clr_rules.specs.Id.{Id}
use Rattle.clr_rules.specs.Records.{record_of}
use Rattle.clr_rules.specs.declared.record.Record.{Record}
use Rattle.clr_rules.proofs.lists.RoundSteps.{record_id}
use Rattle.clr_answer.proofs.checks.clearances.record.Goals as goal

own : (records : List Record) (id : Id) (found : Option (Bor Record)) → option_copied found ≡ record_of records id → IfSome found (λ r. r.now.id ≡ id)
own records id None is = tt
own records id (Some r) is = record_id records id r.now (sym is)

pub find_row-requires : goal.find_row-requires
find_row-requires c = rw c.deref.ensures.value c.near.invariant.5

pub returns-clause-own : goal.returns-clause-own
returns-clause-own c = own c.args.near.now.rows.records c.args.id c.find_row.result (search rules)
