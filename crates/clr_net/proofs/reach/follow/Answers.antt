use Rattle.std.proofs.Common.{◌∙◌, [], ◌∷◌, arith, get_or, sym, take}
use Rattle.std.proofs.lemmas.Bool.{both_ways}
use Rattle.std.proofs.lemmas.List.{map-append, take_more}
use Rattle.clr_net.specs.declared.ways.Out.{Out}
use Rattle.clr_net.proofs.SearchSteps.{follows_skip, follows_mark}
use Rattle.clr_net.proofs.reach.follow.Goals as goal
use Rattle.clr_net.proofs.reach.follow.Goals.{then-not-has_place+then-not-marked-way+in_ok-push, else-not-has_place, else-not-has_place-via-then-not-has_place+else-not-marked-way, else-not-has_place-via-else-not-has_place}

pub loop-out-preserved : goal.loop-out-preserved
loop-out-preserved c =
    let no_way : Out = record { from = 0; way = record { point = 0; to = 0 } } in
    let out = get_or c.args.ways.now c.loop-out.out-index no_way in
    let way = out.way in
    let more = take_more c.args.ways.now c.loop-out.out-index no_way c.loop-out-test.true in
    let whole = map-append (λ (o : Out). o.way) (take c.loop-out.out-index c.args.ways.now) (out ∷ []) in
    let fits = c.requires.fit c.loop-out.out-index no_way c.loop-out-test.true in
    elim c.if-not-has_place.branch [
      | then-not-has_place+then-not-marked-way+in_ok-push w ↦
          rw (more, whole, w.marked-is, w.queue-is, w.in_ok-push.ensures.items)
          (follows_mark _ way _ _ _ _ _ c.loop-out.invariant (omega arith) (sym c.has_place.ensures ∙ w.if-not-has_place.true) w.if-not-marked-way.true)
      | else-not-has_place w ↦ elim w.else-not-has_place.branch [
        | else-not-has_place-via-then-not-has_place+else-not-marked-way w' ↦
            rw (more, whole, w.marked-is, w.queue-is) (follows_skip _ way _ _ _ _ _ c.loop-out.invariant (λ _. w'.if-not-marked-way.false))
        | else-not-has_place-via-else-not-has_place w' ↦
            rw (more, whole, w.marked-is, w.queue-is) (follows_skip _ way _ _ _ _ _ c.loop-out.invariant (λ passes. absurd (both_ways _ passes (sym c.has_place.ensures ∙ w'.if-not-has_place.false))))
      ]
    ]
