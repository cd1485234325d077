use Rattle.std.proofs.Common.{refl, ◌∙◌, map, arith}
use Rattle.std.proofs.lemmas.List.{length-map}
use Rattle.clr_net.proofs.Places.{distinct_from_unrepeated, name_at, repeat_found, repeat_none, repeat_seen, seen_more, unrepeated_more}
use Rattle.clr_net.proofs.named.repeat_place.Goals as goal

pub returns-then-not-branch-clause-place : goal.returns-then-not-branch-clause-place
returns-then-not-branch-clause-place g c =
    let names = map g.R.Named.name_of c.args.rows.now in
    let size = length-map c.args.rows.now g.R.Named.name_of in
    let here = name_at g.R.Named.name_of c.args.rows.now c.loop-place.place c.index-rows-place.result c.name.result (omega arith) c.index-rows-place.is c.name.ensures in
    repeat_found names c.loop-place.place (omega arith) c.loop-place.invariant.none
    (repeat_seen names c.loop-place.place c.name.result c.loop-place.seen c.in_ok-insert.field-0 here c.loop-place.invariant.seen c.in_ok-insert.ensures.added ∙ rw c.if-not-branch.true refl)

pub loop-place-preserved : goal.loop-place-preserved
loop-place-preserved g c =
    let names = map g.R.Named.name_of c.args.rows.now in
    let size = length-map c.args.rows.now g.R.Named.name_of in
    let here = name_at g.R.Named.name_of c.args.rows.now c.loop-place.place c.index-rows-place.result c.name.result (omega arith) c.index-rows-place.is c.name.ensures in
    record {
      seen = seen_more c.loop-place.seen c.insert.new.self names c.loop-place.place c.name.result (omega arith) here c.loop-place.invariant.seen c.in_ok-insert.ensures.updates;
      none = unrepeated_more names c.loop-place.place c.loop-place.invariant.none (repeat_seen names c.loop-place.place c.name.result c.loop-place.seen c.in_ok-insert.field-0 here c.loop-place.invariant.seen c.in_ok-insert.ensures.added ∙ rw c.if-not-branch.false refl);
    }

pub returns-clause-place : goal.returns-clause-place
returns-clause-place g c =
    let names = map g.R.Named.name_of c.args.rows.now in
    let size = length-map c.args.rows.now g.R.Named.name_of in
    repeat_none names (λ k lower. c.loop-place.invariant.none k (omega arith))

pub returns-clause-once : goal.returns-clause-once
returns-clause-once g c =
    let names = map g.R.Named.name_of c.args.rows.now in
    let size = length-map c.args.rows.now g.R.Named.name_of in
    distinct_from_unrepeated names (λ k lower. c.loop-place.invariant.none k (omega arith))
