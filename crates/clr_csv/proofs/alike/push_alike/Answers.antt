use Rattle.std.proofs.Common.{◌∙◌, ◌++◌, ◌+◌, ap, sym, append-nil, map, filter}
use Rattle.std.proofs.lemmas.List.{drop_all}
use Rattle.clr_csv.specs.Alike.{differ_by_one_letter}
use Rattle.clr_csv.specs.declared.warning.Warning.TheVariants.{Alike}
use Rattle.clr_csv.proofs.Pairs.{all_after, pairs_more, pairs_none}
use Rattle.clr_csv.proofs.alike.push_alike.Goals as goal

pub loop-place-preserved : goal.loop-place-preserved
loop-place-preserved c =
    pairs_more c.args.of c.args.names.now c.loop-place.place c.index-names-place.result c.index-names-place.is c.loop-place-test.true c.loop-place.warnings.items
    c.push_alike_to.new.warnings.items _ c.loop-place.invariant
    (c.in_ok-push_alike_to.ensures ∙ ap (λ later. c.loop-place.warnings.items ++ map (Alike c.args.of c.index-names-place.result) (filter (differ_by_one_letter c.index-names-place.result) later)) (all_after (c.loop-place.place + 1) c.args.names.now))

pub returns : goal.returns
returns c =
    let none = drop_all c.loop-place.place c.args.names.now c.loop-place-test.false in
    sym (append-nil c.loop-place.warnings.items) ∙ ap (λ l. c.loop-place.warnings.items ++ l) (sym (pairs_none c.args.of c.args.names.now c.loop-place.place none))
    ∙ c.loop-place.invariant
