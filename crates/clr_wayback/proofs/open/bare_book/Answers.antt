use Rattle.std.proofs.Common.{◌≡◌, ◌∙◌, ap, map, rules}
use Rattle.clr_desk.proofs.Filling.{hands_taken}
use Rattle.clr_desk.specs.Filling.{grid_now, hand_edit}
use Rattle.clr_rules.specs.Edits.{after_edits, fit}
use Rattle.clr_rules.specs.Register.{opening}
use Rattle.clr_wayback.proofs.OpenPart.{bare_is}
use Rattle.clr_wayback.proofs.open.bare_book.Goals as goal

pub apply-requires-clause-fits : goal.apply-requires-clause-fits
apply-requires-clause-fits g c =
    ap (fit c.reserve.new.self.register.net) c.in_ok-hand_edits.ensures ∙ hands_taken c.reserve.new.self.register.net c.deref.result.now

pub returns : goal.returns
returns g c good =
    let R = c.args.book.now.register in
    let states : c.deref.result.now ≡ R.states = search rules in
    let edits : c.in_ok-hand_edits.field-0.items ≡ map hand_edit R.states = c.in_ok-hand_edits.ensures ∙ ap (map hand_edit) states in
    let network : c.in_ok-network.network ≡ grid_now R = c.in_ok-network.ensures good in
    let staff : c.in_ok-staff.staff ≡ R.staff = c.in_ok-staff.ensures good in
    let opened : c.reserve.new.self.register ≡ opening (grid_now R) R.staff =
    c.reserve.ensures.register ∙ c.in_ok-made.ensures.register ∙ (λ i. opening (network i) (staff i)) in
    c.apply.ensures.register ∙ (λ i. after_edits (edits i) (opened i)) ∙ bare_is R good
