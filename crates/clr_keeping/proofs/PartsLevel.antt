-- Parts are one journal, and an opening that stops leaves the register level.
use Rattle.std.proofs.Common.{◌≡◌, ◌∙◌, ◌&&◌, ◌==◌, ◌+◌, ℕ, Bool, true, false, List, [], ◌∷◌, ◌++◌, refl, ap, sym, subst, append_assoc}
use Rattle.std.proofs.lemmas.Bool.{and_from, and_parts}
use Rattle.sqlite.specs.State.{State}
use Rattle.clr_rules.specs.declared.place.Place.{Place}
use Rattle.clr_journal.specs.Journals.{carried_out, in_turn, is_next, turn_after, withdraws}
use Rattle.clr_journal.specs.Laws.{turn_behind}
use Rattle.clr_journal.specs.Line.{Entry, carried, withdrawn}
use Rattle.clr_journal.specs.declared.reading.Turn.{Turn}
use Rattle.clr_chain.proofs.LevelKept.{carried_out-append}
use Rattle.clr_chain.specs.First.{first_turn_at}
use Rattle.clr_chain.specs.Level.{IsLevel, IsRunOf, place_after}
use Rattle.clr_level.proofs.Chains.{front_kept, place_on, run_on}
use Rattle.clr_level.specs.Forward.{HasStopped, open_entries}
use Rattle.clr_level.specs.Placing.{IsAt}
use Rattle.clr_desk.specs.Placing.{Placing}
use Rattle.clr_level.specs.Restarting.{HasLines}
use Rattle.clr_keeping.specs.Laws.{PartsAreOne, StoppedIsLevel}

-- ---- parts

-- lines in turn where nothing is open are in turn where something is
opened_turn : (a b : Turn) (entries : List Entry) → a.last ≡ b.last → b.is_open ≡ false → in_turn b entries ≡ true → in_turn a entries ≡ true
unfolding in_turn
opened_turn a b [] same closed turns = refl
opened_turn a b (carried receipt q reply ∷ rest) same closed turns =
    subst (λ (n : ℕ). ((receipt.number == n + 1) && in_turn (turn_after (carried receipt q reply)) rest) ≡ true) (sym same) turns
opened_turn a b (withdrawn n ∷ rest) same closed turns =
    let next = and_parts (b.is_open && (n == b.last)) (in_turn (turn_after (withdrawn n)) rest) turns in
    cc (closed, (and_parts b.is_open (n == b.last) next.0).0)

turns_join : (turn next : Turn) (xs ys : List Entry) → in_turn turn xs ≡ true → (turn_behind turn xs).last ≡ next.last → next.is_open ≡ false
    → in_turn next ys ≡ true → in_turn turn (xs ++ ys) ≡ true
unfolding in_turn
turns_join turn next [] ys turns same closed more = opened_turn turn next ys same closed more
turns_join turn next (one ∷ xs) ys turns same closed more =
    let both = and_parts (is_next turn one) (in_turn (turn_after one) xs) turns in
    and_from _ _ both.0 (turns_join (turn_after one) next xs ys both.1 same closed more)

-- a part begins with no withdrawal
first_kept : (turn : Turn) (entries : List Entry) → turn.is_open ≡ false → in_turn turn entries ≡ true → withdraws entries ≡ false
unfolding in_turn
first_kept turn [] closed turns = refl
first_kept turn (carried receipt q reply ∷ rest) closed turns = refl
first_kept turn (withdrawn n ∷ rest) closed turns =
    let next = and_parts (turn.is_open && (n == turn.last)) (in_turn (turn_after (withdrawn n)) rest) turns in
    cc (closed, (and_parts turn.is_open (n == turn.last) next.0).0)

pub parts_level : PartsAreOne
parts_level first middle R start place part next had level =
    let begins : Place = place_after start part in
    let none : withdraws next ≡ false = first_kept (first_turn_at begins) next refl level.turns in
    let kept : withdraws level.had ≡ false = front_kept level.had level.more (subst (λ es. withdraws es ≡ false) level.all none) in
    record {
      had = part ++ level.had;
      more = level.more;
      all = ap (λ es. part ++ es) level.all ∙ sym (append_assoc part level.had level.more);
      turns = turns_join (first_turn_at start) (first_turn_at begins) part next had.turns refl refl level.turns;
      is_at = level.is_at ∙ place_on start part level.had;
      kept = level.kept;
      run = subst (λ pairs. IsRunOf first pairs R) (sym (carried_out-append part level.had kept)) (run_on first middle R (carried_out part) (carried_out level.had) had.run level.run);
    }

-- ---- an opening that stops

pub stopped_level : (has_place : Placing) (s : State) → StoppedIsLevel has_place s
stopped_level has_place s first R S start place entries level stopped =
    let come = stopped.come in
    let back : place_after place come.had ≡ place_after start (level.had ++ come.had) =
    ap (λ p. place_after p come.had) level.is_at ∙ place_on start level.had come.had in
    let kept : withdraws come.had ≡ false = front_kept come.had _ (subst (λ es. withdraws es ≡ false) come.all_is level.kept) in
    let more : List Entry = (come.idle ++ open_entries stopped.open_one) ++ stopped.rest in (
      place_after place come.had,
      record {
        had = level.had ++ come.had;
        more = more;
        all = level.all ∙ ap (λ es. level.had ++ es) come.all_is ∙ sym (append_assoc level.had come.had more);
        turns = level.turns;
        is_at = back;
        kept = come.begins;
        run = subst (λ pairs. IsRunOf first pairs S) (sym (carried_out-append level.had come.had kept)) (run_on first R S (carried_out level.had) (carried_out come.had) level.run come.run);
      },
      come.placed,
    )
