use Rattle.std.proofs.Common.{◌≡◌, ◌+◌, ◌-◌, ◌/◌, ◌<◌, true, false, length, get_or, refl, subst, inl, inr, sym, arith}
use Rattle.std.specs.Fn.{FnReturnsAt}
use Rattle.std.proofs.lemmas.Bool.{cases_lt}
use Rattle.std.proofs.lemmas.Fn.{says_at}
use Rattle.std.proofs.lemmas.List.{get_or_read}
use Rattle.clr_shelf.specs.Blocks.{parts_of, size_at}
use Rattle.clr_shelf.specs.Items.{items_of}
use Rattle.clr_shelf.proofs.Listed.{block_inside, block_ends, first_begins, next_begins, last_ends, in_blocks, some_used}
use Rattle.clr_shelf.proofs.Parts.{size_read}
use Rattle.clr_shelf.proofs.blocks.Blocks.partition_point.Goals.{then-block-eq0, else-block-eq0}
use Rattle.clr_shelf.proofs.blocks.Blocks.partition_point.Goals as goal

pub loop-block-init : goal.loop-block-init
loop-block-init g c =
    let list = c.args.self.now in
    record {
      rises = some_used list (omega (arith, list.counted));
      within = omega arith;
      before = λ d later. absurd (omega arith);
      after = λ d inside. absurd (omega arith);
    }

pub at_in-requires-clause-to : goal.at_in-requires-clause-to
at_in-requires-clause-to g c =
    let list = c.args.self.now in
    let k = c.loop-block.block + (c.loop-block.behind - c.loop-block.block) / 2 in
    let within : k < list.used = omega (arith, c.loop-block.invariant.within) in
    let there : k < length list.starts.items =
    omega (arith, within, list.begun.within, list.begun.each_has) in
    let begins = get_or_read list.starts.items k c.index-start.result.now there
    c.index-start.ensures 0 in
    omega (arith, begins, list.begun.some k within)

pub loop-block-preserved-then-passes : goal.loop-block-preserved-then-passes
loop-block-preserved-then-passes g c =
    let list = c.args.self.now in
    let k = c.loop-block.block + (c.loop-block.behind - c.loop-block.block) / 2 in
    let start = c.index-start.result.now in
    let within : k < list.used = omega (arith, c.loop-block.invariant.within) in
    let there : k < length list.starts.items =
    omega (arith, within, list.begun.within, list.begun.each_has) in
    let begins = get_or_read list.starts.items k start there c.index-start.ensures 0 in
    let some : start < length (items_of list) = omega (arith, begins, block_inside list k within) in
    let said = says_at g.F.Fn c.if-passes.ensures refl in
    record {
      rises = omega arith;
      within = c.loop-block.invariant.within;
      before = λ d later.
          subst (λ n. FnReturnsAt g.F.Fn c.args.passes (get_or (items_of list) n d) true) begins
          (subst (λ x. FnReturnsAt g.F.Fn c.args.passes x true)
          (get_or_read (items_of list) start c.at_in.result.now some c.at_in.ensures d) said);
      after = c.loop-block.invariant.after;
    }

pub loop-block-preserved : goal.loop-block-preserved
loop-block-preserved g c =
    let list = c.args.self.now in
    let k = c.loop-block.block + (c.loop-block.behind - c.loop-block.block) / 2 in
    let start = c.index-start.result.now in
    let within : k < list.used = omega (arith, c.loop-block.invariant.within) in
    let there : k < length list.starts.items =
    omega (arith, within, list.begun.within, list.begun.each_has) in
    let begins = get_or_read list.starts.items k start there c.index-start.ensures 0 in
    let some : start < length (items_of list) = omega (arith, begins, block_inside list k within) in
    let said = says_at g.F.Fn c.if-passes.ensures refl in
    record {
      rises = omega arith;
      within = omega arith;
      before = c.loop-block.invariant.before;
      after = λ d inside.
          subst (λ n. FnReturnsAt g.F.Fn c.args.passes (get_or (items_of list) n d) false) begins
          (subst (λ x. FnReturnsAt g.F.Fn c.args.passes x false)
          (get_or_read (items_of list) start c.at_in.result.now some c.at_in.ensures d) said);
    }

pub overflow_add-low : goal.overflow_add-low
overflow_add-low g c =
    let list = c.args.self.now in
    let k = c.loop-block.block in
    let within : k < list.used =
    omega (arith, c.loop-block.invariant.rises, c.loop-block.invariant.within) in
    let there : k < length list.starts.items =
    omega (arith, within, list.begun.within, list.begun.each_has) in
    let begins = get_or_read list.starts.items k c.index-begin.result.now there
    c.index-begin.ensures 0 in
    omega (arith, begins, block_inside list k within, list.counted, list.held, list.bounded)

pub overflow_add-high : goal.overflow_add-high
overflow_add-high g c =
    let list = c.args.self.now in
    let k = c.loop-block.block in
    let within : k < list.used =
    omega (arith, c.loop-block.invariant.rises, c.loop-block.invariant.within) in
    let there : k < length list.starts.items =
    omega (arith, within, list.begun.within, list.begun.each_has) in
    let begins = get_or_read list.starts.items k c.index-begin.result.now there
    c.index-begin.ensures 0 in
    let size = size_read list.blocks.items k c.index.result.now
    (omega (arith, in_blocks list k within, list.blocks.ok.0)) c.index.ensures in
    omega (arith, begins, size, c.len.ensures, block_ends list k within, list.counted)

pub loop-low-init : goal.loop-low-init
loop-low-init g c =
    let list = c.args.self.now in
    let items = items_of list in
    let k = c.loop-block.block in
    let start = get_or list.starts.items k 0 in
    let size = size_at (parts_of list.blocks.items) k in
    let within : k < list.used =
    omega (arith, c.loop-block.invariant.rises, c.loop-block.invariant.within) in
    let there : k < length list.starts.items =
    omega (arith, within, list.begun.within, list.begun.each_has) in
    let begins : c.index-begin.result.now ≡ start =
    get_or_read list.starts.items k c.index-begin.result.now there c.index-begin.ensures 0 in
    let high : start + size ≡ c.index-begin.result.now + c.len.result = omega (
      arith,
      begins,
      size_read list.blocks.items k c.index.result.now
          (omega (arith, in_blocks list k within, list.blocks.ok.0)) c.index.ensures,
      c.len.ensures,
    ) in
    let after = λ (d : g.row.T.Denot) (more : start + size < length items).
    let next : k + 1 < list.used = elim (cases_lt (k + 1) list.used) [
      | inl sooner ↦ sooner
      | inr last ↦ absurd (omega (arith, more, last_ends list k within (omega arith)))
    ] in
    let behind : c.loop-block.behind ≡ k + 1 = omega (
      arith,
      c.loop-block.invariant.rises,
      c.loop-block-test.false,
    ) in
    let ends : get_or list.starts.items c.loop-block.behind 0 ≡ start + size =
    subst (λ n. get_or list.starts.items n 0 ≡ start + size) (sym behind)
    (sym (next_begins list k within next)) in
    subst (λ n. FnReturnsAt g.F.Fn c.args.passes (get_or items n d) false) ends
    (c.loop-block.invariant.after d (omega (arith, behind, next))) in
    elim c.if-block-eq0.branch [
      | then-block-eq0 w ↦ record {
        begins = omega (arith, first_begins list k (omega arith));
        rises = omega arith;
        ends = omega (arith, high);
        within = block_ends list k within;
        before = λ j d is. absurd (omega (arith, is, w.low-is));
        after = λ d more.
            subst (λ n. FnReturnsAt g.F.Fn c.args.passes (get_or items n d) false) high
            (after d (omega (arith, more, high)));
      }
      | else-block-eq0 w ↦
          let later : 0 < k = omega arith in
          let some = list.begun.some k within in
          record {
            begins = omega (arith, begins, w.low-is);
            rises = omega (arith, begins, high, some, w.low-is);
            ends = omega (arith, high);
            within = block_ends list k within;
            before = λ j d is.
                let here : start ≡ j = omega (arith, begins, is, w.low-is) in
                subst (λ n. FnReturnsAt g.F.Fn c.args.passes (get_or items n d) true) here
                (c.loop-block.invariant.before d later);
            after = λ d more.
                subst (λ n. FnReturnsAt g.F.Fn c.args.passes (get_or items n d) false) high
                (after d (omega (arith, more, high)));
          }
    ]

pub loop-low-preserved-then-passes-2 : goal.loop-low-preserved-then-passes-2
loop-low-preserved-then-passes-2 g c =
    let items = items_of c.args.self.now in
    let middle = c.loop-low.low + (c.loop-low.high - c.loop-low.low) / 2 in
    let held = c.loop-low.invariant in
    let below : middle < c.loop-low.high = omega arith in
    let within : middle < length items = omega (arith, below, held.ends, held.within) in
    let said = says_at g.F.Fn c.if-passes-2.ensures refl in
    record {
      begins = omega (arith, held.begins);
      rises = omega (arith, below);
      ends = held.ends;
      within = held.within;
      before = λ k d is.
          let here : middle ≡ k = omega (arith, is) in
          subst (λ n. FnReturnsAt g.F.Fn c.args.passes (get_or items n d) true) here
          (subst (λ x. FnReturnsAt g.F.Fn c.args.passes x true)
          (get_or_read items middle c.at_in-in-loop-low.result.now within
          c.at_in-in-loop-low.ensures d) said);
      after = held.after;
    }

pub loop-low-preserved : goal.loop-low-preserved
loop-low-preserved g c =
    let items = items_of c.args.self.now in
    let middle = c.loop-low.low + (c.loop-low.high - c.loop-low.low) / 2 in
    let held = c.loop-low.invariant in
    let below : middle < c.loop-low.high = omega arith in
    let within : middle < length items = omega (arith, below, held.ends, held.within) in
    let said = says_at g.F.Fn c.if-passes-2.ensures refl in
    record {
      begins = held.begins;
      rises = omega arith;
      ends = omega (arith, below, held.ends);
      within = held.within;
      before = held.before;
      after = λ d some. subst (λ x. FnReturnsAt g.F.Fn c.args.passes x false)
          (get_or_read items middle c.at_in-in-loop-low.result.now within
          c.at_in-in-loop-low.ensures d) said;
    }

pub returns-clause-after : goal.returns-clause-after
returns-clause-after g c = λ d some.
    let end : c.loop-low.high ≡ c.loop-low.low = omega arith in
    subst (λ n. FnReturnsAt g.F.Fn c.args.passes (get_or (items_of c.args.self.now) n d) false) end
    (c.loop-low.invariant.after d (omega (arith, end, some)))
