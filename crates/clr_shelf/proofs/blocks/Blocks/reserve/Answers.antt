use Rattle.std.proofs.Common.{◌≡◌, ℕ, ◌-◌, ◌*◌, [], ◌++◌, length, sym, ◌∙◌, ap, subst, vec_len, arith, ◌≤◌, replicate, vec_capacity}
use Rattle.clr_shelf.specs.Blocks.{joined, parts_of, IsSpread}
use Rattle.clr_shelf.specs.declared.block.TheConstants.{SIZE}
use Rattle.std.proofs.lemmas.List.{length-replicate, take_all}
use Rattle.clr_shelf.proofs.Parts.{length-parts, parts-spares, joined-spares, size-spares}
use Rattle.clr_shelf.proofs.Starts.{more_starts}
use Rattle.clr_shelf.proofs.blocks.Blocks.reserve.Goals as goal

pub invariant_of-self-2 : goal.invariant_of-self-2
invariant_of-self-2 g c =
    let list = c.args.self.now in
    let more = 2 * c.in-Some.pairs - c.len.result in
    let after : c.append.new.self.items ≡ list.blocks.items ++ c.in_ok-empty.empty.items =
    c.in-Ok.ensures.items ∙ ap (λ xs. xs ++ c.in_ok-empty.empty.items) c.reserve.ensures.items
    in
    let parts = parts-spares list.blocks.items c.append.new.self.items c.in_ok-empty.empty.items
    more after c.in_ok-empty.ensures in
    let same = ap joined parts ∙ joined-spares (parts_of list.blocks.items) more in
    let made : length c.in_ok-empty.empty.items ≡ more =
    sym (length-parts c.in_ok-empty.empty.items) ∙ ap length c.in_ok-empty.ensures
    ∙ length-replicate more [] in
    let room = c.in-Some.ensures.room in
    let fits = c.in-Some.ensures.fits in
    let long : vec_len c.append.new.self ≡ 2 * c.in-Some.pairs = omega
    (arith, c.in-Ok.ensures.len, c.reserve.ensures.len, made, room, c.in_ok-empty.empty.ok.0) in
    let starts = c.reserve-2.new.self in
    let had : vec_len starts ≡ vec_len list.blocks = omega (
      arith,
      c.reserve-2.ensures.len,
      list.starts.ok.0,
      list.begun.each_has,
      length-parts list.blocks.items,
      list.blocks.ok.0,
    ) in
    let missing : c.len-2.result - vec_len starts ≡ more = omega
    (arith, had, long, c.len-2.ensures, c.len.ensures) in
    let whole : length starts.items ≤ c.len-2.result = omega
    (arith, starts.ok.0, had, long, c.len-2.ensures, room, list.held) in
    let fitted : c.len-2.result ≤ vec_capacity starts = omega
    (arith, c.in_ok-reserve-2.ensures.ok, missing, c.reserve-2.ensures.len) in
    let done = c.resize.ensures.succeeds fitted in
    let resized = rw done at c.resize.ensures.items in
    let grown : c.resize.new.self.items ≡ list.starts.items ++ replicate more 0 =
    resized ∙ (λ i. take_all c.len-2.result starts.items whole i ++ replicate (missing i) 0)
    ∙ ap (λ xs. xs ++ replicate more 0) c.reserve-2.ensures.items in
    record {
      spread = rw parts (subst (λ (sizes : ℕ → ℕ). IsSpread SIZE sizes)
          (λ i k. sym (size-spares (parts_of list.blocks.items) more k) i) list.spread);
      begun = rw (parts, grown) (more_starts list.used more list.starts.items
          (parts_of list.blocks.items) list.begun);
      ended = rw parts (size-spares (parts_of list.blocks.items) more list.used ∙ list.ended);
      counted = list.counted ∙ sym (ap length same);
      held = rw long (omega (arith, room));
      bounded = rw long (omega (arith, fits));
    }
