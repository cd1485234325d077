use Rattle.std.proofs.Common.{◌≡◌, ◌∙◌, ap, sym, true, false}
use Rattle.clr_csv.specs.Alike.{differ_by_one_letter}
use Rattle.clr_csv.specs.declared.warning.Warning.TheVariants.{Alike}
use Rattle.clr_csv.proofs.Pairs.{found_none, found_one}
use Rattle.clr_csv.proofs.alike.push_alike_to.Goals.{then-differ_by_one_letter+in_ok-push, else-differ_by_one_letter}
use Rattle.clr_csv.proofs.alike.push_alike_to.Goals as goal

pub loop-other-preserved : goal.loop-other-preserved
loop-other-preserved c =
    let name = c.args.name in
    let other = c.other-item.result in
    let found = c.loop-other.warnings.items in
    let test : c.differ_by_one_letter.result ≡ differ_by_one_letter name other =
    c.differ_by_one_letter.ensures.test ∙ (λ i. differ_by_one_letter (c.as_str-text.ensures.text i) (c.as_str.ensures.text i)) in
    elim c.if-differ_by_one_letter.branch [
      | then-differ_by_one_letter+in_ok-push w ↦
          found_one (Alike c.args.of name) (differ_by_one_letter name) c.args.later.now c.loop-other.other-index other c.other-item.is c.loop-other-test.true found _
          c.loop-other.invariant (sym test ∙ w.if-differ_by_one_letter.true) c.if-differ_by_one_letter.warnings.items
          (ap (λ v. v.items) w.warnings-is ∙ w.in_ok-push.ensures.items)
      | else-differ_by_one_letter w ↦
          found_none (Alike c.args.of name) (differ_by_one_letter name) c.args.later.now c.loop-other.other-index other c.other-item.is c.loop-other-test.true found _
          c.loop-other.invariant (sym test ∙ w.if-differ_by_one_letter.false) c.if-differ_by_one_letter.warnings.items (ap (λ v. v.items) w.warnings-is)
    ]
