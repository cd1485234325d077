use Rattle.std.proofs.Common.{◌≡◌, ◌∙◌, All, Bool, List, filter, map, rules, subst, sym, arith}
use Rattle.clr_net.proofs.SearchSteps.{put_back}
use Rattle.clr_net.specs.Grid.{Grid}
use Rattle.clr_net.specs.declared.point.PointRow.{PointRow}
use Rattle.clr_rules.proofs.good.Opening.{unplaced_is_network}
use Rattle.clr_rules.specs.Live.{is_closed_point, is_live}
use Rattle.clr_rules.specs.Register.{unplaced_net}
use Rattle.clr_view.proofs.LiveMarks.{links_are_there, links_unplaced, marks_are_live}
use Rattle.clr_view.specs.Live.{AreMarksOf, closed_links, link_of, source_marks}
use Rattle.clr_view.specs.Spread.{IsThere, NoneLeaves, Spreads, is_marked}
use Rattle.clr_view.specs.declared.spread.Link.{Link}
use Rattle.clr_view.proofs.live.live_marks.Goals as goal

pub spread-requires : goal.spread-requires
spread-requires g c =
    let N = c.network-network.result.now in
    let S = c.args.book.now.register.states in
    let G = unplaced_net N in
    let net = unplaced_is_network N c.sections.ensures.network in
    let placed : c.deref.result.now ≡ map (link_of N.sections) (filter (λ (p : PointRow). is_closed_point S p.name) N.points) = search rules in
    let links : c.deref.result.now ≡ closed_links G S = placed ∙ sym (links_unplaced N.sections S N.points) in
    let marks : c.deref_mut.result.now ≡ source_marks G = search rules in
    subst (λ (ls : List Link). All (IsThere c.deref_mut.result.now) ls) (sym links)
    (subst (λ (ms : List Bool). All (IsThere ms) (closed_links G S)) (sym marks) (links_are_there G net S))

pub returns : goal.returns
returns g c =
    let R = c.args.book.now.register in
    let N = c.network-network.result.now in
    let S = R.states in
    let G = unplaced_net N in
    let net = unplaced_is_network N c.sections.ensures.network in
    let new = c.spread.new.marks in
    let placed : c.deref.result.now ≡ map (link_of N.sections) (filter (λ (p : PointRow). is_closed_point S p.name) N.points) = search rules in
    let links : c.deref.result.now ≡ closed_links G S = placed ∙ sym (links_unplaced N.sections S N.points) in
    let marks : c.deref_mut.result.now ≡ source_marks G = search rules in
    let same : G ≡ R.net = search rules in
    let size = c.spread.ensures.spreads.size in
    let whole = put_back new c.in_ok-marks.marks.items c.in_ok-marks.marks.len (omega (arith, size, c.deref_mut.ensures.len)) (omega (arith, size, c.deref_mut.ensures.len)) in
    let spreads : Spreads (closed_links G S) (source_marks G) new =
    subst (λ (ms : List Bool). Spreads (closed_links G S) ms new) marks (subst (λ (ls : List Link). Spreads ls c.deref_mut.result.now new) links c.spread.ensures.spreads) in
    let ended : NoneLeaves (closed_links G S) (is_marked new) = subst (λ (ls : List Link). NoneLeaves ls (is_marked new)) links c.spread.ensures.ended in
    let are : AreMarksOf (is_live G S) G.sections new = marks_are_live G net S new spreads ended in
    subst (λ (ms : List Bool). AreMarksOf (is_live R.net S) R.net.sections ms) (sym whole)
    (subst (λ (h : Grid). AreMarksOf (is_live h S) h.sections new) same are)
