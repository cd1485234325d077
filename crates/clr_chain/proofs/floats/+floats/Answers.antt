use Rattle.std.proofs.Common.{◌≡◌, ◌∙◌, [], ◌∷◌, ◌++◌, ap, sym, append_assoc}
use Rattle.serde_json.proofs.Views.{Entry}
use Rattle.serde_json.specs.View.{items_view, members_view}
use Rattle.serde_json.specs.Written.{items_have_float, members_have_float}
use Rattle.clr_chain.proofs.FloatsFound.{none_at_more, none_more, some_item, some_member}
use Rattle.clr_chain.proofs.floats.+floats.Goals as goal

pub items_have_float-returns-then-has_float : goal.items_have_float-returns-then-has_float
items_have_float-returns-then-has_float t c =
    sym (ap (λ vs. items_have_float (items_view vs)) (sym c.deref-item-items.ensures.value)
    ∙ some_item c.deref-item-items.result.now c.loop-item.item-index c.item-item.result c.loop-item-test.true c.item-item.is (sym c.has_float.ensures ∙ c.if-has_float.true))

pub items_have_float-loop-item-preserved : goal.items_have_float-loop-item-preserved
items_have_float-loop-item-preserved t c =
    none_at_more c.deref-item-items.result.now c.loop-item.item-index c.item-item.result c.loop-item-test.true c.item-item.is c.loop-item.invariant (sym c.has_float.ensures ∙ c.if-has_float.false)

pub members_have_float-returns-then-has_float : goal.members_have_float-returns-then-has_float
members_have_float-returns-then-has_float t c =
    let l = c.loop-key in
    let e : Entry = (c.in-Some._key.now, c.in-Some.member.now) in
    let all : c.args.members.now.entries ≡ l.invariant.0 ++ e ∷ c.next.new.self = l.invariant.1 ∙ ap (λ es. l.invariant.0 ++ es) c.in-Some.ensures.steps in
    sym (ap (λ es. members_have_float (members_view es)) all ∙ some_member l.invariant.0 e c.next.new.self (sym c.has_float.ensures ∙ c.if-has_float.true))

pub members_have_float-loop-key-preserved : goal.members_have_float-loop-key-preserved
members_have_float-loop-key-preserved t c =
    let l = c.loop-key in
    let e : Entry = (c.in-Some._key.now, c.in-Some.member.now) in
    let all : c.args.members.now.entries ≡ l.invariant.0 ++ e ∷ c.next.new.self = l.invariant.1 ∙ ap (λ es. l.invariant.0 ++ es) c.in-Some.ensures.steps in
    (l.invariant.0 ++ e ∷ [], all ∙ sym (append_assoc l.invariant.0 (e ∷ []) c.next.new.self), none_more l.invariant.0 e l.invariant.2 (sym c.has_float.ensures ∙ c.if-has_float.false))
