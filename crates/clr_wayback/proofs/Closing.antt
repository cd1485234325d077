-- What an answer says of a good register, and what it comes to in a staffed one.
use Rattle.std.proofs.Common.{◌≡◌, ◌⊎◌, Bool, true, false, List, [], ◌∷◌, Option, Some, None, inl, inr, ⊎_elim, refl}
use Rattle.clr_rules.proofs.way_back.EachPhase.{there_is_a_way_back}
use Rattle.clr_rules.specs.Checks.{employee, is_field}
use Rattle.clr_rules.specs.Fit.{IsFit}
use Rattle.clr_rules.specs.Id.{Id}
use Rattle.clr_rules.specs.Records.{record_of}
use Rattle.clr_rules.specs.Register.{Register}
use Rattle.clr_rules.specs.Run.{after}
use Rattle.clr_rules.specs.Staffed.{has_some_role}
use Rattle.clr_rules.specs.Steps.{some_active, steps_of}
use Rattle.clr_rules.specs.WayBack.{way_back}
use Rattle.clr_rules.specs.declared.command.Command.{Command}
use Rattle.clr_rules.specs.declared.record.Record.{Record}
use Rattle.clr_rules.specs.laws.WayBack.{AreMoves, ClosesAlone}
use Rattle.clr_wayback.proofs.Hanging.{hanging_is_refused}
use Rattle.clr_wayback.specs.Answer.{GivesBack, IsTried, are_accepted, of_record, way_back_answer}

-- moves are accepted
moves_are_accepted : (R : Register) (commands : List Command) → AreMoves R commands → are_accepted R commands ≡ true
unfolding AreMoves are_accepted
moves_are_accepted R [] moves = refl
moves_are_accepted R (q ∷ commands) moves = rw (moves.0).accepted (moves_are_accepted (after R q) commands moves.1)

-- an answer says what its definition says
pub answer_is_tried : (R : Register) (c : Id) → IsTried R c (way_back_answer R c)
answer_is_tried R c = at (record_of R.records c) refl
  where
    by : (r : Record) (b : Bool) → are_accepted R (way_back R c) ≡ b → IsTried R c (of_record R c (Some r))
    by r true e = rw e (refl, e)
    by r false e = rw e e

    at : (o : Option Record) → record_of R.records c ≡ o → IsTried R c (of_record R c o)
    at None e = e
    at (Some r) e = by r (are_accepted R (way_back R c)) refl

-- a step that hangs is given out, and nobody can repeat it; others do not hinder
by_hanging : (a b : Bool) → ((a ≡ true) × (b ≡ false)) ⊎ ((b ≡ true) ⊎ (a ≡ false))
by_hanging true true = inr (inl refl)
by_hanging true false = inl (refl, refl)
by_hanging false b = inr (inr refl)

pub gives_back : (R : Register) → IsFit R → (c : Id) → employee R.staff [] ≡ None → GivesBack R c (way_back_answer R c)
gives_back R fit c nameless = at (record_of R.records c) refl
  where
    free_of : (r : Record) → record_of R.records c ≡ Some r → (has_some_role R.staff is_field ≡ true) ⊎ (some_active (steps_of R.steps c) ≡ false)
        → GivesBack R c (of_record R c (Some r))
    free_of r found free =
        let alone : ClosesAlone R c (way_back R c) = there_is_a_way_back R fit.0 fit.1 c r found free in
        rw (moves_are_accepted R (way_back R c) alone.moves) alone

    hangs_of : (r : Record) → record_of R.records c ≡ Some r → (some_active (steps_of R.steps c) ≡ true) × (has_some_role R.staff is_field ≡ false)
        → GivesBack R c (of_record R c (Some r))
    hangs_of r found hangs = rw (hanging_is_refused R fit c r found nameless hangs.0 hangs.1) hangs

    at : (o : Option Record) → record_of R.records c ≡ o → GivesBack R c (of_record R c o)
    at None e = e
    at (Some r) e = ⊎_elim (hangs_of r e) (free_of r e) (by_hanging (some_active (steps_of R.steps c)) (has_some_role R.staff is_field))
