-- Where lines begin that are run: at the first line, or at the place of a copy.
use Rattle.std.proofs.Common.{◌≡◌, ◌≢◌, ◌⊎◌, ◌∙◌, ℕ, true, false, List, [], ◌∷◌, ◌++◌, Option, None, Some, IfSome, IsSome, refl, ap, sym, subst, inl, inr}
use Rattle.std.proofs.lemmas.Bool.{true≢false}
use Rattle.clr_rules.specs.Register.{Register}
use Rattle.clr_rules.specs.declared.place.Place.{Place}
use Rattle.clr_load.specs.Tables.{tables_of}
use Rattle.clr_journal.specs.Journals.{turn_after}
use Rattle.clr_journal.specs.Line.{Entry}
use Rattle.clr_journal.specs.declared.reading.Turn.{Turn}
use Rattle.clr_chain.specs.First.{first_turn_at}
use Rattle.clr_chain.specs.Level.{place_after}
use Rattle.clr_checking.specs.CheckingOn.{ComesFrom, IsAfter, IsAt, IsMissed, IsOf, Ran, RanOver, RunsFrom, RunsOn, Waits}
use Rattle.clr_checking.specs.declared.checking.Checking.{Checking}
use Rattle.clr_checking.proofs.Places.{turn_more}
use Rattle.clr_checking.proofs.Ran.{begins, begins_missed, ran_as, ran_none}
use Rattle.clr_checking.proofs.Steps.{MetAt, UnmetAt, expected_of, met_of, unmet_of}

-- ---- where the chain has come to

pub line_here : (first place : Place) (entry : Entry) (sum : List ℕ) (entries : List Entry) → IsAfter first place sum entry entries
    → IsAt first place (turn_after entry).last sum (entries ++ entry ∷ [])
line_here first place entry sum entries is =
    let number : (place_after first (entries ++ entry ∷ [])).number ≡ (turn_after entry).last =
    ap (λ (t : Turn). t.last) (turn_more (first_turn_at first) entries entry) in
    record {
      here = λ i. record { id = first.id; number = number i; sum = sym is.sum_is i };
      same_id = is.same_id;
    }

-- the same, of a line that is known
pub line_at : (first place : Place) (entry other : Entry) (number : ℕ) (sum : List ℕ) (entries : List Entry) → entry ≡ other → (turn_after other).last ≡ number
    → IsAfter first place sum entry entries → IsAt first place number sum (entries ++ entry ∷ [])
line_at first place entry other number sum entries same number_is is =
    subst (λ (n : ℕ). IsAt first place n sum (entries ++ entry ∷ [])) (ap (λ (e : Entry). (turn_after e).last) same ∙ number_is)
    (line_here first place entry sum entries is)

-- the register's place is there
pub place_there : (first place : Place) (number : ℕ) (sum : List ℕ) (entries : List Entry) → IsAt first place number sum entries
    → (number ≡ place.number → place.sum ≡ sum) → number ≡ place.number → place ≡ place_after first entries
place_there first place number sum entries it expected at =
    let here : place ≡ record { id = first.id; number = number; sum = sum } = λ i. record { id = it.same_id i; number = sym at i; sum = expected at i } in
    here ∙ sym it.here

-- ---- from the first line

pub of_from : (place : Place) (R : Register) (old mid : Checking) → mid ≡ record old { from = mid.from } → IsOf place R old → IsOf place R mid
of_from place R old mid mids of = record { place_is = ap (λ (x : Checking). x.place) mids ∙ of.place_is; book_is = ap (λ (x : Checking). x.book.now.register) mids ∙ of.book_is }

pub ran_from : (began R : Register) (first place : Place) (old mid : Checking) → mid ≡ record old { from = mid.from } → RanOver began first place R old []
    → RanOver began first place R mid []
ran_from began R first place old mid mids over =
    let made : Checking = record old { from = mid.from } in
    let all : RanOver began first place R made [] = record { of = record { place_is = over.of.place_is; book_is = over.of.book_is }; ran = over.ran } in
    subst (λ (x : Checking). RanOver began first place R x []) (sym mids) all

same_sum : (old mid : Checking) → mid ≡ record old { from = mid.from } → old.walk.end.sum ≡ mid.walk.end.sum
same_sum old mid mids = sym (ap (λ (x : Checking). x.walk.end.sum) mids)

-- the tables are compared where nothing was run
compared : (began R : Register) (first place : Place) (number : ℕ) (mid new : Checking) → (number ≡ place.number → place ≡ first)
    → new ≡ record mid { is_met = new.is_met } → MetAt number mid new.is_met → (mid.is_met ≡ true → new.is_met ≡ true)
    → RanOver began first place R mid [] → RanOver began first place R new []
compared began R first place number mid new here same now stays over =
    let newly : new.is_met ≡ true → mid.is_met ≡ false → (place ≡ first) × (tables_of R ≡ tables_of mid.desk.book.register) = λ sure before_it.
    let met = met_of place R mid number new.is_met over.of now sure before_it in (here met.0, met.1) in
    let ran : Ran began first place R mid.last mid.missed mid.desk.book.register mid.count new.is_met [] =
    begins began mid.desk.book.register R first place mid.last mid.missed mid.count mid.is_met new.is_met newly stays over.ran in
    let made : Checking = record mid { is_met = new.is_met } in
    let all : RanOver began first place R made [] = record { of = record { place_is = over.of.place_is; book_is = over.of.book_is }; ran = ran } in
    subst (λ (x : Checking). RanOver began first place R x []) (sym same) all

-- so the run begins
begun_runs : (began R : Register) (first place : Place) (number : ℕ) (new : Checking) → number ≡ first.number → (new.is_met ≡ false → number ≢ place.number)
    → RanOver began first place R new [] → RunsOn began first place R new []
begun_runs began R first place number new is later over = record { over = over; shut = λ closed. refl; later = λ unmet. inl (λ same. later unmet (is ∙ same)) }

first_number : (first place : Place) (number : ℕ) (sum : List ℕ) → IsAt first place number sum [] → number ≡ first.number
first_number first place number sum it = ap (λ (p : Place). p.number) (sym it.here)

pub ran_begun : (began R : Register) (first place : Place) (number : ℕ) (old mid new : Checking) → mid ≡ record old { from = mid.from } → mid.from ≡ None
    → (number ≡ mid.place.number → mid.place.sum ≡ mid.walk.end.sum) → new ≡ record mid { is_met = new.is_met } → MetAt number mid new.is_met
    → UnmetAt number mid new.is_met → (mid.is_met ≡ true → new.is_met ≡ true)
    → IsAt first place number old.walk.end.sum [] → RanOver began first place R old [] → RunsOn began first place R new []
ran_begun began R first place number old mid new mids none expected same now unmet stays it over =
    let over' = ran_from began R first place old mid mids over in
    let it' : IsAt first place number mid.walk.end.sum [] = subst (λ (sum : List ℕ). IsAt first place number sum []) (same_sum old mid mids) it in
    begun_runs began R first place number new (first_number first place number mid.walk.end.sum it')
    (unmet_of place R mid number new.is_met over'.of none unmet)
    (compared began R first place number mid new
    (place_there first place number mid.walk.end.sum [] it' (expected_of place R mid number over'.of expected)) same now stays over')

-- or the place's sum is another there
missed_begun : (began R : Register) (first place : Place) (number : ℕ) (mid new : Checking) → number ≡ first.number → number ≡ mid.place.number → mid.place.sum ≢ first.sum
    → new ≡ record mid { missed = new.missed } → new.missed ≡ Some number → RanOver began first place R mid [] → RunsOn began first place R new []
missed_begun began R first place number mid new is number_is other same some over =
    let here : IsMissed first [] place number = record {
      number_is = number_is ∙ ap (λ (p : Place). p.number) over.of.place_is;
      there = sym is;
      other = λ its. other (ap (λ (p : Place). p.sum) over.of.place_is ∙ its);
    } in
    let made : Checking = record mid { missed = new.missed } in
    let all : RanOver began first place R made [] = record {
      of = record { place_is = over.of.place_is; book_is = over.of.book_is };
      ran = ran_as began mid.desk.book.register R first place mid.last mid.last (Some number) new.missed mid.count mid.is_met [] refl (sym some)
          (begins_missed began mid.desk.book.register R first place mid.last mid.missed mid.count number mid.is_met here over.ran);
    } in
    record {
      over = subst (λ (x : Checking). RanOver began first place R x []) (sym same) all;
      shut = λ closed. refl;
      later = λ unmet. inr (refl, subst (λ (o : Option ℕ). IsSome o) (sym some) refl);
    }

sum_there : (first place : Place) (number : ℕ) (sum : List ℕ) → IsAt first place number sum [] → sum ≡ first.sum
sum_there first place number sum it = ap (λ (p : Place). p.sum) (sym it.here)

pub ran_missed : (began R : Register) (first place : Place) (number : ℕ) (old mid new : Checking) → mid ≡ record old { from = mid.from }
    → number ≡ mid.place.number → mid.place.sum ≢ mid.walk.end.sum → new ≡ record mid { missed = new.missed } → new.missed ≡ Some number
    → IsAt first place number old.walk.end.sum [] → RanOver began first place R old [] → RunsOn began first place R new []
ran_missed began R first place number old mid new mids number_is other same some it over =
    missed_begun began R first place number mid new (first_number first place number old.walk.end.sum it) number_is
    (λ its. other (its ∙ sym (sum_there first place number old.walk.end.sum it) ∙ same_sum old mid mids)) same some
    (ran_from began R first place old mid mids over)

-- ---- from the place of a copy

-- nothing is known of a sum that is not another
pub waits_settled : (copied R : Register) (at first place : Place) (it : Checking) (before more : List Entry) → it.missed ≡ None → Waits copied at first place R it before
    → Waits copied at first place R it more
waits_settled copied R at first place it before more settled w = record {
  of = w.of;
  same_id = w.same_id;
  from = w.from;
  last = w.last;
  register = w.register;
  count = w.count;
  met = w.met;
  missed = subst (λ (o : Option ℕ). IfSome o (IsMissed first more at)) (sym settled) tt;
}

-- nor of one that is forgotten
pub waits_off : (copied R : Register) (at first place : Place) (it : Checking) (before more : List Entry) → Waits copied at first place R it before
    → Waits copied at first place R (record it { missed = None }) more
waits_off copied R at first place it before more w = record {
  of = record { place_is = w.of.place_is; book_is = w.of.book_is };
  same_id = w.same_id;
  from = w.from;
  last = w.last;
  register = w.register;
  count = w.count;
  met = w.met;
  missed = tt;
}

pub waits_on : (copied R : Register) (at first place : Place) (old new : Checking) (before : List Entry) → new ≡ record old { from = new.from } → new.from ≡ Some at
    → Waits copied at first place R old before → Waits copied at first place R new before
waits_on copied R at first place old new before same from w = record {
  of = of_from place R old new same w.of;
  same_id = w.same_id;
  from = from;
  last = ap (λ (x : Checking). x.last) same ∙ w.last;
  register = ap (λ (x : Checking). x.desk.book.register) same ∙ w.register;
  count = ap (λ (x : Checking). x.count) same ∙ w.count;
  met = ap (λ (x : Checking). x.is_met) same ∙ w.met;
  missed = subst (λ (o : Option ℕ). IfSome o (IsMissed first before at)) (sym (ap (λ (x : Checking). x.missed) same)) w.missed;
}

-- the run has come to the copy's place: nothing was run
pub come_here : (first at : Place) (number : ℕ) (sum : List ℕ) (place : Place) (before : List Entry) → at.id ≡ first.id → number ≡ at.number → at.sum ≡ sum
    → IsAt first place number sum before → at ≡ place_after first before
come_here first at number sum place before same_id number_is sum_is it =
    let here : at ≡ record { id = first.id; number = number; sum = sum } = λ i. record { id = same_id i; number = sym number_is i; sum = sum_is i } in
    here ∙ sym it.here

pub nothing_ran : (copied R : Register) (at first place : Place) (old mid : Checking) (before : List Entry) → mid ≡ record old { from = mid.from } → old.missed ≡ None
    → Waits copied at first place R old before → RanOver copied at place R mid []
nothing_ran copied R at first place old mid before mids settled w = record {
  of = of_from place R old mid mids w.of;
  ran = ran_none copied mid.desk.book.register R at place mid.last mid.missed mid.count mid.is_met
      (ap (λ (x : Checking). x.last) mids ∙ w.last) (ap (λ (x : Checking). x.missed) mids ∙ settled) (ap (λ (x : Checking). x.desk.book.register) mids ∙ w.register)
      (ap (λ (x : Checking). x.count) mids ∙ w.count) (ap (λ (x : Checking). x.is_met) mids ∙ w.met);
}

pub runs_from : (copied R : Register) (at first place : Place) (number : ℕ) (old mid new : Checking) (before : List Entry) → mid ≡ record old { from = mid.from }
    → old.missed ≡ None → mid.from ≡ None → number ≡ at.number → at.sum ≡ old.walk.end.sum
    → (number ≡ mid.place.number → mid.place.sum ≡ mid.walk.end.sum) → new ≡ record mid { is_met = new.is_met } → MetAt number mid new.is_met
    → UnmetAt number mid new.is_met → (mid.is_met ≡ true → new.is_met ≡ true)
    → IsAt first place number old.walk.end.sum before → Waits copied at first place R old before → RunsFrom copied at first place R new before []
runs_from copied R at first place number old mid new before mids settled none number_is sum_is expected same now unmet stays it w =
    let of : IsOf place R mid = of_from place R old mid mids w.of in
    let is_at : at ≡ place_after first before = come_here first at number old.walk.end.sum place before w.same_id number_is sum_is it in
    let it' : IsAt first place number mid.walk.end.sum before = subst (λ (sum : List ℕ). IsAt first place number sum before) (same_sum old mid mids) it in
    let there : number ≡ place.number → place ≡ at = λ e.
    place_there first place number mid.walk.end.sum before it' (expected_of place R mid number of expected) e ∙ sym is_at in
    record {
      begun = ap (λ (x : Checking). x.from) same ∙ none;
      is_at = is_at;
      kept = refl;
      ran = begun_runs copied R at place number new number_is (unmet_of place R mid number new.is_met of none unmet)
          (compared copied R at place number mid new there same now stays (nothing_ran copied R at first place old mid before mids settled w));
    }

-- the run has come to it, and the sum of the register's place is another there
missed_from : (copied R : Register) (at first place : Place) (number : ℕ) (old mid new : Checking) (before : List Entry) → mid ≡ record old { from = mid.from }
    → old.missed ≡ None → mid.from ≡ None → number ≡ at.number → at.sum ≡ old.walk.end.sum
    → number ≡ mid.place.number → mid.place.sum ≢ mid.walk.end.sum → new ≡ record mid { missed = new.missed } → new.missed ≡ Some number
    → IsAt first place number old.walk.end.sum before → Waits copied at first place R old before → RunsFrom copied at first place R new before []
missed_from copied R at first place number old mid new before mids settled none number_is sum_is here other same some it w = record {
  begun = ap (λ (x : Checking). x.from) same ∙ none;
  is_at = come_here first at number old.walk.end.sum place before w.same_id number_is sum_is it;
  kept = refl;
  ran = missed_begun copied R at place number mid new number_is here (λ its. other (its ∙ sum_is ∙ same_sum old mid mids)) same some
      (nothing_ran copied R at first place old mid before mids settled w);
}

-- ---- what the copy's place is to a number

abbrev pub Waited : Place → ℕ → Checking → Checking → Type 0
Waited at number old mid = (mid.from ≡ Some at) ⊎ ((mid.from ≡ None) × (number ≡ at.number) × (at.sum ≡ old.walk.end.sum))

pub still_waits : (copied R : Register) (at first place : Place) (number : ℕ) (old mid : Checking) (before : List Entry) → mid ≡ record old { from = mid.from }
    → IsSome mid.from → Waited at number old mid → Waits copied at first place R old before → ComesFrom copied at first place R mid before []
still_waits copied R at first place number old mid before mids some (inl still) w = inl (refl, waits_on copied R at first place old mid before mids still w)
still_waits copied R at first place number old mid before mids some (inr met) w = absurd (true≢false (sym (subst (λ (o : Option Place). IsSome o) met.0 some)))

pub comes : (copied R : Register) (at first place : Place) (number : ℕ) (old mid new : Checking) (before : List Entry) → mid ≡ record old { from = mid.from }
    → old.missed ≡ None → mid.from ≡ None → Waited at number old mid
    → (number ≡ mid.place.number → mid.place.sum ≡ mid.walk.end.sum) → new ≡ record mid { is_met = new.is_met } → MetAt number mid new.is_met
    → UnmetAt number mid new.is_met → (mid.is_met ≡ true → new.is_met ≡ true)
    → IsAt first place number old.walk.end.sum before → Waits copied at first place R old before → ComesFrom copied at first place R new before []
comes copied R at first place number old mid new before mids settled none (inl still) expected same now unmet stays it w = absurd (cc (sym still ∙ none))
comes copied R at first place number old mid new before mids settled none (inr met) expected same now unmet stays it w =
    inr (runs_from copied R at first place number old mid new before mids settled none met.1 met.2 expected same now unmet stays it w)

pub comes_missed : (copied R : Register) (at first place : Place) (number : ℕ) (old mid new : Checking) (before : List Entry) → mid ≡ record old { from = mid.from }
    → old.missed ≡ None → mid.from ≡ None → Waited at number old mid
    → number ≡ mid.place.number → mid.place.sum ≢ mid.walk.end.sum → new ≡ record mid { missed = new.missed } → new.missed ≡ Some number
    → IsAt first place number old.walk.end.sum before → Waits copied at first place R old before → ComesFrom copied at first place R new before []
comes_missed copied R at first place number old mid new before mids settled none (inl still) here other same some it w = absurd (cc (sym still ∙ none))
comes_missed copied R at first place number old mid new before mids settled none (inr met) here other same some it w =
    inr (missed_from copied R at first place number old mid new before mids settled none met.1 met.2 here other same some it w)

-- its own sum is another there
pub copy_missed : (copied R : Register) (at first place : Place) (number : ℕ) (old mid new : Checking) (before : List Entry) → mid ≡ record old { from = mid.from }
    → mid.from ≡ old.from → number ≡ at.number → at.sum ≢ old.walk.end.sum → new ≡ record mid { missed = new.missed } → new.missed ≡ Some number
    → IsAt first place number old.walk.end.sum before → Waits copied at first place R old before → ComesFrom copied at first place R new before []
copy_missed copied R at first place number old mid new before mids stays number_is other same some it w =
    let waits = waits_on copied R at first place old mid before mids (stays ∙ w.from) w in
    let missed : IsMissed first before at number = record {
      number_is = number_is;
      there = ap (λ (p : Place). p.number) it.here;
      other = λ its. other (its ∙ ap (λ (p : Place). p.sum) it.here);
    } in
    inl (
      refl,
      record {
        of = record {
          place_is = ap (λ (x : Checking). x.place) same ∙ waits.of.place_is;
          book_is = ap (λ (x : Checking). x.book.now.register) same ∙ waits.of.book_is;
        };
        same_id = waits.same_id;
        from = ap (λ (x : Checking). x.from) same ∙ waits.from;
        last = ap (λ (x : Checking). x.last) same ∙ waits.last;
        register = ap (λ (x : Checking). x.desk.book.register) same ∙ waits.register;
        count = ap (λ (x : Checking). x.count) same ∙ waits.count;
        met = ap (λ (x : Checking). x.is_met) same ∙ waits.met;
        missed = subst (λ (o : Option ℕ). IfSome o (IsMissed first before at)) (sym some) missed;
      },
    )
