-- No command but a jumper adds to the network, and a run without jumpers keeps it.
use Rattle.std.proofs.Common.{◌≡◌, ℕ, true, false, List, [], ◌∷◌, ◌++◌, map, not, Some, None, Option, refl, ◌∙◌}
use Rattle.clr_rules.proofs.Common.{AddPoint, AddSection, Answer, Command, Edit, Id, Kind, Known, PointRow, Refusal, Register, SectionRow, StepRow, TakeHold, Tested, adds, adds_nothing, after}
use Rattle.clr_rules.proofs.Common.{after_all, and_parts, answer, answer_by_checks, answer_with, both_ways, checks, edits_of, first_refusal, hold_of, is_jumper, known_of, list_all, not-true, put_steps}
use Rattle.clr_rules.proofs.edits.EditedLists.{edited_all-net}
use Rattle.clr_rules.proofs.edits.Passing.{all_pass}
use Rattle.clr_rules.proofs.edits.Shapes.{IsEditOf, PointAdded, SectionAdded, each_passes, edits_of_accepted}
use Rattle.clr_rules.proofs.edits.Shapes.PointAdded.{jumps}
use Rattle.clr_rules.proofs.edits.Shapes.SectionAdded.{far_end}

abbrev Plain : List Edit → Type 0
Plain edits = adds_nothing edits ≡ true

pub steps_plain : (rows : List StepRow) → Plain (put_steps rows)
steps_plain [] = refl
steps_plain (row ∷ rows) = steps_plain rows

pub takes_plain : (d : Id) (places : List (List ℕ)) (rest : List Edit) → Plain rest → Plain (map (λ place. TakeHold (hold_of d Tested place)) places ++ rest)
takes_plain d [] rest plain = plain
takes_plain d (place ∷ places) rest plain = takes_plain d places rest plain

-- what is added is a jumper's
section_of_jumper : (kind : Kind) (row : SectionRow) → SectionAdded kind row → is_jumper kind ≡ true
section_of_jumper _ _ (far_end point from to lockable remote) = refl

pub point_of_jumper : (kind : Kind) (p : PointRow) → PointAdded kind p → is_jumper kind ≡ true
point_of_jumper _ _ (jumps point from to lockable remote) = refl

edit_plain : (k : Known) (R : Register) (by : List ℕ) (at : ℕ) (kind : Kind) → is_jumper kind ≡ false → (edit : Edit) → IsEditOf k R by at kind edit → not (adds edit) ≡ true
edit_plain k R by at kind no_jumper (AddSection row) is = absurd (both_ways (is_jumper kind) no_jumper (section_of_jumper kind row is))
edit_plain k R by at kind no_jumper (AddPoint p) is = absurd (both_ways (is_jumper kind) no_jumper (point_of_jumper kind p is))
edit_plain k R by at kind no_jumper _ is = refl

-- no answer to another command adds anything, whatever rows it is made from
pub answers_with_plain : (k : Known) (R : Register) (q : Command) → is_jumper q.kind ≡ false → Plain (Answer.edits (answer_with k R q))
answers_with_plain k R q no_jumper = at (first_refusal (checks k R q.caller q.moment q.kind)) refl
  where
    at : (found : Option Refusal) → first_refusal (checks k R q.caller q.moment q.kind) ≡ found → Plain (Answer.edits (answer_by_checks k R q found))
    at None passed = each_passes k R q.caller q.moment q.kind (λ edit. not (adds edit)) (edit_plain k R q.caller q.moment q.kind no_jumper) (edits_of k.greatest R q.caller q.moment q.kind)
        (edits_of_accepted k R q.caller q.moment q.kind (all_pass (checks k R q.caller q.moment q.kind) passed))
    at (Some refusal) is = refl

pub answers_plain : (R : Register) (q : Command) → is_jumper q.kind ≡ false → Plain (Answer.edits (answer R q))
answers_plain R q no_jumper = answers_with_plain (known_of R q) R q no_jumper

pub plain_runs_keep_network : (R : Register) (commands : List Command) → list_all (λ q. not (is_jumper q.kind)) commands ≡ true
    → Register.net (after_all R commands) ≡ R.net
unfolding after_all
plain_runs_keep_network R [] plain = refl
plain_runs_keep_network R (q ∷ commands) plain =
    let (one, others) = and_parts (not (is_jumper q.kind)) (list_all (λ q. not (is_jumper q.kind)) commands) plain in
    plain_runs_keep_network (after R q) commands others ∙ edited_all-net R (Answer.edits (answer R q)) (answers_plain R q (not-true (is_jumper q.kind) one))
