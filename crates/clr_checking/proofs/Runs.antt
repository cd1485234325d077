-- Lines whose replies are those of a run are a run.
use Rattle.std.proofs.Common.{◌≡◌, ◌==◌, ◌&&◌, ◌+◌, ℕ, Bool, true, false, not, cond, List, [], ◌∷◌, ◌++◌, None, Some, refl, ap, ap₂, sym, subst}
use Rattle.std.proofs.lemmas.Bool.{and_from, and_parts, true≢false}
use Rattle.std.specs.List.{AllByRecursion}
use Rattle.serde_json.specs.Data.{Data}
use Rattle.clr_changes.specs.Deeds.{Deed, after_deed, after_deeds}
use Rattle.clr_journal.specs.Answered.{deed_replies, deed_reply}
use Rattle.clr_rules.specs.Register.{Register}
use Rattle.clr_journal.specs.Journals.{carried_out, in_turn, is_next, onto_some, own_pair, turn_after, withdraws}
use Rattle.clr_journal.specs.Laws.{IsShallow, turn_behind}
use Rattle.clr_journal.specs.Line.{Entry, carried, withdrawn}
use Rattle.clr_journal.specs.declared.reading.Turn.{Turn}
use Rattle.clr_rules.specs.declared.place.Place.{Place}
use Rattle.clr_chain.specs.First.{first_turn_at}
use Rattle.clr_chain.specs.Level.{IsRunOf}
use Rattle.clr_checking.specs.Checking.{AreAnswered, IsLevelByTables, none, refused, gone, done}
use Rattle.clr_checking.specs.CheckingOn.{IsMet}

run_of_none : (R : Register) → IsRunOf R (carried_out []) R
unfolding carried_out after_deeds deed_replies
run_of_none R = record { register = refl; replied = refl }

passed_over : (R S : Register) (entry : Entry) (rest : List Entry) → own_pair entry rest ≡ None → IsRunOf R (carried_out rest) S → IsRunOf R (carried_out (entry ∷ rest)) S
unfolding carried_out
passed_over R S entry rest own run = subst (λ o. IsRunOf R (onto_some o (carried_out rest)) S) (sym own) run

one_first : (R S : Register) (q : Deed) (reply : Data) (entry : Entry) (rest : List Entry) → own_pair entry rest ≡ Some (q, reply) → reply ≡ deed_reply R q
    → IsRunOf (after_deed R q) (carried_out rest) S → IsRunOf R (carried_out (entry ∷ rest)) S
unfolding carried_out after_deeds deed_replies
one_first R S q reply entry rest own is run =
    subst (λ o. IsRunOf R (onto_some o (carried_out rest)) S) (sym own) (record { register = run.register; replied = ap₂ (λ (d : Data) (ds : List Data). d ∷ ds) is run.replied })

-- replies that nest no deeper than they may are exactly those of the run
pub is_run : {R S : Register} {lines : List Entry} → AllByRecursion IsShallow lines → AreAnswered R lines S → IsRunOf R (carried_out lines) S
is_run shallow (none R) = run_of_none R
is_run shallow (refused R S receipt q reply rest not_accepted own are) =
    passed_over R S (carried receipt q reply) rest (ap (λ (b : Bool). cond (b && not (withdraws rest)) (Some (q, reply)) None) not_accepted) (is_run shallow.1 are)
is_run shallow (gone R S receipt q reply n rest accepted are) =
    passed_over R S (carried receipt q reply) (withdrawn n ∷ rest) (ap (λ (b : Bool). cond (b && false) (Some (q, reply)) None) accepted)
    (passed_over R S (withdrawn n) rest refl (is_run shallow.1.1 are))
is_run shallow (done R S receipt q reply rest accepted stays own are) =
    one_first R S q reply (carried receipt q reply) rest
    (ap₂ (λ (b c : Bool). cond (b && not c) (Some (q, reply)) None) accepted stays) (own shallow.0) (is_run shallow.1 are)

-- ---- parts of lines

pub each_front : {A : Type 0} (P : A → Type 0) (xs ys : List A) → AllByRecursion P (xs ++ ys) → AllByRecursion P xs
each_front P [] ys each = tt
each_front P (x ∷ xs) ys each = (each.0, each_front P xs ys each.1)

pub each_end : {A : Type 0} (P : A → Type 0) (xs ys : List A) → AllByRecursion P (xs ++ ys) → AllByRecursion P ys
each_end P [] ys each = each
each_end P (x ∷ xs) ys each = each_end P xs ys each.1

pub turns_end : (turn : Turn) (xs ys : List Entry) → in_turn turn (xs ++ ys) ≡ true → in_turn (turn_behind turn xs) ys ≡ true
unfolding in_turn
turns_end turn [] ys turns = turns
turns_end turn (x ∷ xs) ys turns = turns_end (turn_after x) xs ys (and_parts (is_next turn x) (in_turn (turn_after x) (xs ++ ys)) turns).1

-- whether a deed is open is nothing to lines that begin with one
pub turns_closed : (turn : Turn) (number : ℕ) (lines : List Entry) → number ≡ turn.last → withdraws lines ≡ false → in_turn turn lines ≡ true
    → in_turn (record { last = number; is_open = false }) lines ≡ true
unfolding in_turn
turns_closed turn number [] is kept turns = refl
turns_closed turn number (carried receipt q reply ∷ rest) is kept turns =
    let parts = and_parts (receipt.number == turn.last + 1) (in_turn (turn_after (carried receipt q reply)) rest) turns in
    and_from _ _ (subst (λ (n : ℕ). (receipt.number == n + 1) ≡ true) (sym is) parts.0) parts.1
turns_closed turn number (withdrawn n ∷ rest) is kept turns = absurd (true≢false kept)

-- ---- the yes

pub is_level : (began R : Register) (first place : Place) (entries : List Entry) → in_turn (first_turn_at first) entries ≡ true → AllByRecursion IsShallow entries
    → IsMet began first entries place R → IsLevelByTables began first entries place R
is_level began R first place entries turns shallow it = record {
  register = it.register;
  level = record {
    had = it.had;
    more = it.more;
    all = it.all;
    turns = turns;
    is_at = it.is_at;
    kept = it.kept;
    run = is_run (each_front IsShallow it.had it.more (subst (λ (es : List Entry). AllByRecursion IsShallow es) it.all shallow)) it.answered;
  };
  tables = it.is;
}
