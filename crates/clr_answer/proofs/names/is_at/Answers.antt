use Rattle.std.proofs.Common.{◌∙◌, ap, sym}
use Rattle.std.specs.Prelude.{option_copied}
use Rattle.std.proofs.lemmas.Cmp.{nat_list_eq_equiv}
use Rattle.std.proofs.lemmas.Map.Keys.{any_passes_from_place}
use Rattle.clr_net.proofs.PlaceLists.{got_is}
use Rattle.clr_net.specs.Name.{same_name}
use Rattle.clr_answer.proofs.names.is_at.Goals as goal

pub returns-in-Some : goal.returns-in-Some
returns-in-Some c is =
    let name = c.args.name in
    let other = c.in-Some.other.now in
    any_passes_from_place (same_name name) c.args.names.now c.args.at other
    (got_is c.args.names.now c.args.at c.get.result c.get.ensures.lookup ∙ ap option_copied c.in-Some.is)
    (nat_list_eq_equiv.symm name other ∙ sym c.eq.ensures ∙ is)
