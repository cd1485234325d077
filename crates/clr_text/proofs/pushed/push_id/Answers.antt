use Rattle.std.proofs.Common.{◌≡◌, true, append_assoc, refl, rules}
use Rattle.clr_net.specs.Name.{is_name}
use Rattle.clr_text.proofs.Unescaped.{id_is_kept}
use Rattle.clr_text.proofs.pushed.push_id.Goals as goal

pub returns : goal.returns
returns c =
    let name : c.as_str.result.now ≡ c.args.id.requester = search rules in
    let known : is_name c.args.id.requester ≡ true = search rules in
    let kept = id_is_kept c.args.id known in
    rw (c.in_ok-push_str-4.ensures.bytes, c.in_ok-push_whole.ensures, c.in_ok-push_str-3.ensures.bytes, c.in_ok-push_str-2.ensures.bytes, c.in_ok-push_str.ensures.bytes, c.from.ensures, c.number.ensures.value, name, kept)
    (simp append_assoc refl)
