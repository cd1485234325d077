use Rattle.std.proofs.Common.{◌≡◌, ◌∙◌, Some, ap₂, bytes_eq, sym, true}
use Rattle.std.proofs.lemmas.Result.{IfOk-weaker}
use Rattle.clr_chain.proofs.Cutting.{found_by_links, found_no_first}
use Rattle.clr_chain.specs.Finding.{first_of}
use Rattle.clr_chain.specs.Reading.{seen_sought}
use Rattle.clr_chain.proofs.finding.found_in.Goals as goal

pub returns : goal.returns
returns c =
    let first = c.in-Some.first in
    let is : first_of c.args.bytes.now ≡ Some first = sym c.in_ok-first.ensures ∙ c.in-Some.is in
    let same : bytes_eq first.id c.args.place.now.id ≡ true =
    sym (c.is_same.ensures ∙ ap₂ bytes_eq (c.as_bytes.ensures.value ∙ c.as_str.ensures) (c.as_bytes-2.ensures.value ∙ c.as_str-2.ensures)) ∙ c.if-not-is_same.false in
    IfOk-weaker c.found_by.result _ _
    (λ found h. found_by_links c.args.place.now first c.args.bytes.now c.links_of-links.result.now (seen_sought c.in_ok-sought.sought) found is same
    c.links_of-links.ensures.lines c.links_of-links.ensures.rest c.in_ok-sought.ensures.found h) c.found_by.ensures

pub returns-in_default : goal.returns-in_default
returns-in_default c =
    found_no_first c.args.place.now c.args.bytes.now c.found_unread.result c.in_ok-other.other (sym c.in_ok-first.ensures ∙ c.in_default.is) c.in_ok-other.ensures
    c.found_unread.ensures
