-- No command makes a number over 9,999, or a step of a third round.
use Rattle.std.proofs.Common.{◌≡◌, ℕ, ◌+◌, ◌≤◌, List, [], ◌∷◌, Option, Some, None, refl, sym, subst, arith, ◌⊎◌, inl, inr, ⊎_elim, ◌==◌}
use Rattle.clr_rules.proofs.Common.{All-contains, All-nil, Answer, Grid, IsReached, Known, StaffRow, Task, after, answer_by_checks, checks, edits_of, known_of, member-row_of, named_clearance, opening}
use Rattle.clr_rules.proofs.Common.{refusal_of}
use Rattle.std.proofs.lemmas.Bool.{eqb-false}
use Rattle.clr_shelf.proofs.Groups.{All-with_row}
use Rattle.clr_rules.specs.Answer.{requester_for}
use Rattle.clr_rules.specs.laws.Bounds.{IsBounded}
use Rattle.clr_rules.specs.Checks.{too_many_clearances}
use Rattle.clr_rules.specs.Prelude.{Edit, PutRecord, PutStep, Command, Kind, Record, Refusal, StepRow, Id, id_cmp, id_cmp_total, Register, greatest_number, record_key, step_key}
use Rattle.clr_rules.specs.Prelude.{step_key_cmp, step_key_cmp_total, after_edit, after_edits, TooManyClearances}
use Rattle.clr_rules.proofs.lists.FoundSteps.{present_step}
use Rattle.clr_rules.proofs.lists.Greatest.{greatest_is_greatest}
use Rattle.clr_rules.proofs.edits.Passing.{Pass, all_pass, not_refused}
use Rattle.clr_rules.proofs.edits.PutRows.{AllPutSuch}
use Rattle.clr_rules.proofs.edits.Runs.{reached_have}
use Rattle.clr_rules.proofs.edits.Shapes.{GivesRound, RecordPut, StepPut, edits_of_accepted, puts_such}
use Rattle.clr_rules.proofs.edits.Shapes.GivesRound.{order, restore, switch}
use Rattle.clr_rules.proofs.edits.Shapes.RecordPut.{requested, switched, written}
use Rattle.clr_rules.proofs.edits.Shapes.StepPut.{given, moved}

abbrev IsNumber : Record → Type 0
IsNumber r = r.id.number ≤ 9999

abbrev IsRound : StepRow → Type 0
IsRound row = (row.round ≡ 1) ⊎ (row.round ≡ 2)

abbrev PutInBounds : List Edit → Type 0
PutInBounds edits = AllPutSuch IsNumber IsRound edits

of_round : (k : Known) (by : List ℕ) (kind : Kind) (c : Id) (round : ℕ) (tasks : List Task) → GivesRound k by kind c round tasks → (round ≡ 1) ⊎ (round ≡ 2)
of_round k by _ _ _ _ (order c points tasks) = inl refl
of_round k by _ _ _ _ (restore c tasks) = inr refl
of_round k by _ _ _ _ (switch tasks) = inl refl

-- a number after one that is not the last
next_number : (greatest : ℕ) → greatest ≤ 9999 → too_many_clearances greatest ≡ None → greatest + 1 ≤ 9999
next_number greatest small passed = let other = eqb-false greatest 9999 (not_refused (greatest == 9999) TooManyClearances passed) in omega (arith, other)

module _ (R : Register) (bounded : IsBounded R) where
  greatest_in_bounds : (requester : List ℕ) → greatest_number R.records requester ≤ 9999
  greatest_in_bounds requester = ⊎_elim (λ none. subst (λ n. n ≤ 9999) (sym none) (omega arith))
      (λ some. subst (λ n. n ≤ 9999) some.3 (All-contains IsNumber R.records some.0 bounded.numbers some.1)) (greatest_is_greatest R.records requester).1

  module _ (k : Known) (small : k.greatest ≤ 9999) (by : List ℕ) (at : ℕ) where
    number_of : (kind : Kind) (s : Record) → RecordPut k R by at kind s → Pass (checks k R by at kind) → IsNumber s
    number_of _ _ (requested section) passed = next_number k.greatest small (search passed)
    number_of _ _ (switched tasks) passed = next_number k.greatest small (search passed)
    number_of _ _ (written c r named no_show found held comes) passed = All-contains IsNumber R.records r bounded.numbers (member-row_of id_cmp record_key id_cmp_total c r R.records found).0

    round_of : (kind : Kind) (row : StepRow) → StepPut k R by kind row → IsRound row
    round_of kind _ (given c round tasks gives n t there few) = of_round k by kind c round tasks gives
    round_of _ _ (moved c n r row found moves) = All-contains IsRound R.steps row bounded.rounds (present_step R.steps c n row found.step).there

    all_in_bounds : (kind : Kind) → Pass (checks k R by at kind) → PutInBounds (edits_of k.greatest R by at kind)
    all_in_bounds kind passed = puts_such k R by at kind IsNumber IsRound (λ s put. number_of kind s put passed) (round_of kind) (edits_of k.greatest R by at kind)
        (edits_of_accepted k R by at kind passed)

-- edits that put in bounds
edited_all_bounded : (edits : List Edit) (R : Register) → PutInBounds edits → IsBounded R → IsBounded (after_edits edits R)
unfolding after_edits
edited_all_bounded [] R such bounded = bounded
edited_all_bounded (PutRecord r ∷ edits) R such bounded = edited_all_bounded edits (after_edit (PutRecord r) R) such.1
    (record { numbers = All-with_row id_cmp record_key id_cmp_total IsNumber r R.records such.0 bounded.numbers; rounds = bounded.rounds })
edited_all_bounded (PutStep row ∷ edits) R such bounded = edited_all_bounded edits (after_edit (PutStep row) R) such.1
    (record { numbers = bounded.numbers; rounds = All-with_row step_key_cmp step_key step_key_cmp_total IsRound row R.steps such.0 bounded.rounds })
edited_all_bounded (edit ∷ edits) R such bounded =
    edited_all_bounded edits (after_edit edit R) such (record { numbers = bounded.numbers; rounds = bounded.rounds })

commands_bounded : (R : Register) (q : Command) → IsBounded R → IsBounded (after R q)
commands_bounded R q bounded = at (refusal_of R q) refl
  where
    at : (refused : Option Refusal) → refusal_of R q ≡ refused → IsBounded (after_edits (Answer.edits (answer_by_checks (known_of R q) R q refused)) R)
    at None passed = edited_all_bounded (edits_of (known_of R q).greatest R q.caller q.moment q.kind) R
        (all_in_bounds R bounded (known_of R q) (greatest_in_bounds R bounded (requester_for q.caller (named_clearance q.kind))) q.caller q.moment q.kind (all_pass (checks (known_of R q) R q.caller q.moment q.kind) passed)) bounded
    at (Some refusal) is = edited_all_bounded [] R tt bounded

opening_is_bounded : (g : Grid) (staff : List StaffRow) → IsBounded (opening g staff)
opening_is_bounded g staff = record { numbers = All-nil IsNumber; rounds = All-nil IsRound }

pub reached_are_bounded : (R : Register) → IsReached R → IsBounded R
reached_are_bounded = reached_have IsBounded (λ g staff net is_staff. opening_is_bounded g staff) commands_bounded
