use Rattle.std.proofs.Common.{◌≡◌, ◌++◌, List, false, take}
use Rattle.serde_json.proofs.Views.{Entry}
use Rattle.serde_json.specs.View.{items_view, members_view}
use Rattle.serde_json.specs.Written.{items_have_float, members_have_float}
use Rattle.clr_chain.proofs.floats.+floats.Given as goal

-- none was found so far
abbrev pub invariant-items_have_float-loop-item : goal.invariant-items_have_float-loop-item
invariant-items_have_float-loop-item l = items_have_float (items_view (take l.item-index l.item-items)) ≡ false

abbrev pub invariant-members_have_float-loop-key : goal.invariant-members_have_float-loop-key
invariant-members_have_float-loop-key l =
    (done : List Entry) × (l.members.entries ≡ done ++ l._key-iterator) × (members_have_float (members_view done) ≡ false)
