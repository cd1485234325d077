use Rattle.std.proofs.Common.{◌≡◌, ◌∙◌, Bool, ap, sym, true}
use Rattle.clr_chain.specs.First.{read_first}
use Rattle.clr_chain.specs.Walking.{part_of}
use Rattle.clr_checking.proofs.Checked.{part_checked, part_checked_from}
use Rattle.clr_checking.proofs.checking.Checking.part.Goals as goal

pub returns-then-goes-clause-went : goal.returns-then-goes-clause-went
returns-then-goes-clause-went c = λ began first place R texts to.
    let old = c.args.self.now in
    let walk = c.next_part.new.self in
    let part : (true, walk.end) ≡ part_of old.walk.id old.walk.end (read_first c.args.text.now) =
    ap (λ (b : Bool). (b, walk.end)) (sym c.if-goes.true) ∙ c.in_ok-goes.ensures.part in
    part_checked began R first place texts old walk (read_first c.args.text.now) part c.next_part.ensures.id to

pub returns-then-goes-clause-went_from : goal.returns-then-goes-clause-went_from
returns-then-goes-clause-went_from c = λ copied at first place R texts to.
    let old = c.args.self.now in
    let walk = c.next_part.new.self in
    let part : (true, walk.end) ≡ part_of old.walk.id old.walk.end (read_first c.args.text.now) =
    ap (λ (b : Bool). (b, walk.end)) (sym c.if-goes.true) ∙ c.in_ok-goes.ensures.part in
    part_checked_from copied R at first place texts old walk (read_first c.args.text.now) part c.next_part.ensures.id to
