-- THE ORDER OF EDITS: by kind, and those of a kind by their keys.
use Rattle.std.specs.Prelude.{◌≡◌, ℕ, Bool, true, List}
use Rattle.std.specs.Ordering.{nat_cmp, ordering_then}
use Rattle.std.specs.declared.cmp.Ordering.{Ordering}
use Rattle.std.specs.declared.cmp.Ordering.TheVariants.{Equal}
use Rattle.clr_rules.specs.Prelude.{name_cmp, in_key_order, Edit, SetPosition, SetHand, PutHold}
use Rattle.clr_rules.specs.Prelude.{TakeHold, PutRecord, PutStep, AddSection, AddPoint, Command}
use Rattle.clr_rules.specs.Prelude.{id_cmp, Register, step_key, step_key_cmp, hold_cmp}
use Rattle.clr_rules.specs.Answer.{Answer, answer}
use Rattle.clr_rules.specs.Good.{ListsAreInOrder}

-- the place of an edit's kind; putting and taking a hold are one kind
abbrev pub edit_rank : Edit → ℕ
edit_rank (SetPosition p position) = 0
edit_rank (SetHand p hand) = 1
edit_rank (PutHold h) = 2
edit_rank (TakeHold h) = 2
edit_rank (PutRecord r) = 3
edit_rank (PutStep row) = 4
edit_rank (AddSection row) = 5
edit_rank (AddPoint p) = 6

-- how the keys of two edits of one kind compare; edits of two kinds have no keys to compare
abbrev pub edit_key_cmp : Edit → Edit → Ordering
edit_key_cmp (SetPosition p there) (SetPosition q here) = name_cmp p q
edit_key_cmp (SetHand p hand) (SetHand q other) = name_cmp p q
edit_key_cmp (PutHold g) (PutHold h) = hold_cmp g h
edit_key_cmp (PutHold g) (TakeHold h) = hold_cmp g h
edit_key_cmp (TakeHold g) (PutHold h) = hold_cmp g h
edit_key_cmp (TakeHold g) (TakeHold h) = hold_cmp g h
edit_key_cmp (PutRecord r) (PutRecord s) = id_cmp r.id s.id
edit_key_cmp (PutStep a) (PutStep b) = step_key_cmp (step_key a) (step_key b)
edit_key_cmp (AddSection a) (AddSection b) = name_cmp a.name b.name
edit_key_cmp (AddPoint p) (AddPoint q) = name_cmp p.name q.name
edit_key_cmp (SetPosition p there) _ = Equal
edit_key_cmp (SetHand p hand) _ = Equal
edit_key_cmp (PutHold h) _ = Equal
edit_key_cmp (TakeHold h) _ = Equal
edit_key_cmp (PutRecord r) _ = Equal
edit_key_cmp (PutStep row) _ = Equal
edit_key_cmp (AddSection row) _ = Equal
edit_key_cmp (AddPoint p) _ = Equal

abbrev pub edit_cmp : Edit → Edit → Ordering
edit_cmp a b = ordering_then (nat_cmp (edit_rank a) (edit_rank b)) (edit_key_cmp a b)

-- each edit comes before all edits after it, so no key comes twice
abbrev pub are_in_order : List Edit → Bool
are_in_order edits = in_key_order edit_cmp (λ edit. edit) edits

-- AN ANSWER'S EDITS ARE IN ORDER, where the register's lists are
abbrev pub AnswersEditsInOrder : Type 0
AnswersEditsInOrder =
    (R : Register) (q : Command) → ListsAreInOrder R
    → are_in_order (Answer.edits (answer R q)) ≡ true
