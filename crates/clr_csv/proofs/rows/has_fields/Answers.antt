use Rattle.std.proofs.Common.{sym, ◌∙◌, arith}
use Rattle.csv.specs.Records.{fields_of}
use Rattle.clr_csv.proofs.FieldLemmas.{same_fields-agree, same_fields-differ, same_fields-end}
use Rattle.clr_csv.proofs.rows.has_fields.Goals as goal

pub loop-place-preserved : goal.loop-place-preserved
loop-place-preserved c =
    c.loop-place.invariant
    ∙ same_fields-agree c.args.fields.now (fields_of c.args.found.now) c.loop-place.place c.get.result _ c.loop-place-test.true c.get.ensures.value (sym c.ne.ensures ∙ c.if-ne.false)

pub returns-then-ne : goal.returns-then-ne
returns-then-ne c =
    sym (c.loop-place.invariant
    ∙ same_fields-differ c.args.fields.now (fields_of c.args.found.now) c.loop-place.place c.get.result _ c.loop-place-test.true c.get.ensures.value (sym c.ne.ensures ∙ c.if-ne.true))

pub returns : goal.returns
returns c =
    same_fields-end c.args.fields.now (fields_of c.args.found.now) c.loop-place.place (omega arith) (omega arith)
    ∙ sym c.loop-place.invariant
