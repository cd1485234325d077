use Rattle.std.proofs.Common.{rules}
use Rattle.std.specs.Prelude.{ok_or}
use Rattle.clr_rules.specs.HoldKind.{hold_kind_named}
use Rattle.clr_load.specs.declared.table_name.TableName.TheVariants.{Hold}
use Rattle.clr_load.proofs.TextsRead.{kind_by_text, then_fails, then_gives}
use Rattle.clr_load.proofs.reading.kind_at.Goals as goal

pub returns-in_err-word : goal.returns-in_err-word
returns-in_err-word c =
    let read = then_fails (λ word. ok_or (hold_kind_named word) Hold) Hold c.in_err-word.field-0.0 c.args.place c.args.row.now _ (kind_by_text Hold c.args.place c.args.row.now) c.in_err-word.ensures in
    search rules

pub returns : goal.returns
returns c =
    let read = then_gives (λ word. ok_or (hold_kind_named word) Hold) Hold _ c.args.place c.args.row.now _ (kind_by_text Hold c.args.place c.args.row.now) c.in_ok-word.ensures in
    search rules
