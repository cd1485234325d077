use Rattle.std.proofs.Common.{◌≡◌, ◌∙◌, refl, ap, rules, arith, length, vec_len}
use Rattle.clr_http.proofs.Heads.{none_at_first, exhausted}
use Rattle.clr_http.proofs.head.read_head.Goals as goal

pub loop-reader-init : goal.loop-reader-init
loop-reader-init g c = record {
  taken = search rules;
  none = rw c.requires.empty none_at_first;
  within = let e : vec_len c.args.buffer.now ≡ length c.args.buffer.now.items = c.args.buffer.now.ok.0 in omega (arith, e ∙ ap length c.requires.empty);
  room = c.requires.room;
  calm = refl;
}

pub returns-clause-found : goal.returns-clause-found
returns-clause-found g c =
    let inv = c.loop-reader.invariant in
    let e : vec_len c.loop-reader.buffer ≡ length c.loop-reader.buffer.items = c.loop-reader.buffer.ok.0 in
    exhausted _ _ _ inv.taken inv.none (omega (arith, e))
