-- What comes of a line that is run.
use Rattle.std.proofs.Common.{◌≡◌, ◌≢◌, ◌⊎◌, ◌∙◌, ◌+◌, ℕ, Bool, true, false, List, [], ◌∷◌, ◌++◌, Option, None, Some, IfSome, IsSome, refl, ap, sym, subst, inl, inr}
use Rattle.std.proofs.lemmas.Bool.{true≢false}
use Rattle.serde_json.specs.View.{view}
use Rattle.clr_changes.specs.Deeds.{after_deed, deed_of}
use Rattle.clr_journal.specs.Answered.{deed_reply}
use Rattle.clr_rules.specs.Register.{Register}
use Rattle.clr_rules.specs.declared.place.Place.{Place}
use Rattle.clr_load.specs.Tables.{tables_of}
use Rattle.clr_journal.specs.Line.{Entry, carried, withdrawn, is_accepted}
use Rattle.clr_journal.specs.declared.line.Carried.{Carried}
use Rattle.clr_checking.specs.Brief.{IsDeedTaken}
use Rattle.clr_checking.specs.CheckingOn.{IsAfter, IsMissed, IsOf, IsOpenAt, Ran, RanOver, RunsOn}
use Rattle.clr_chain.specs.First.{first_turn_at}
use Rattle.clr_checking.proofs.Places.{open_more}
use Rattle.clr_verify.specs.Replay.{IsAccepted}
use Rattle.clr_verify.specs.Replies.{IsReply}
use Rattle.clr_checking.specs.declared.checking.Checking.{Checking}
use Rattle.clr_checking.proofs.Ran.{closes, missed_after, none_open, not_before, place_here, ran_as, takes_accepted, takes_refused, withdraws_one}

abbrev pub line_of : Carried → Entry
line_of one = carried one.receipt (deed_of one.deed) (view one.reply)

-- the tables are the same, at the number of the register's place
abbrev pub MetAt : ℕ → Checking → Bool → Type 0
MetAt number it met = met ≡ true → it.is_met ≡ false → (number ≡ it.place.number) × (it.from ≡ None) × (tables_of it.book.now.register ≡ tables_of it.desk.book.register)

-- or they were not compared there
abbrev pub UnmetAt : ℕ → Checking → Bool → Type 0
UnmetAt number it met = met ≡ false → it.from ≡ None → number ≢ it.place.number

pub unmet_of : (place : Place) (R : Register) (it : Checking) (number : ℕ) (met : Bool) → IsOf place R it → it.from ≡ None → UnmetAt number it met
    → met ≡ false → number ≢ place.number
unmet_of place R it number met of begun unmet now is = unmet now begun (is ∙ ap (λ (p : Place). p.number) (sym of.place_is))

pub expected_of : (place : Place) (R : Register) (it : Checking) (number : ℕ) → IsOf place R it → (number ≡ it.place.number → it.place.sum ≡ it.walk.end.sum)
    → number ≡ place.number → place.sum ≡ it.walk.end.sum
expected_of place R it number of expected = subst (λ (p : Place). number ≡ p.number → p.sum ≡ it.walk.end.sum) of.place_is expected

pub met_of : (place : Place) (R : Register) (it : Checking) (number : ℕ) (met : Bool) → IsOf place R it → MetAt number it met
    → met ≡ true → it.is_met ≡ false → (number ≡ place.number) × (tables_of R ≡ tables_of it.desk.book.register)
met_of place R it number met of now sure before_it =
    let all = now sure before_it in
    (all.0 ∙ ap (λ (p : Place). p.number) of.place_is, sym (ap tables_of of.book_is) ∙ all.2)

-- what is found at the line of an open deed
abbrev pub FoundAt : ℕ → Checking → Option ℕ → Type 0
FoundAt number it None = number ≡ it.place.number → it.place.sum ≡ it.walk.end.sum
FoundAt number it (Some missed) = (missed ≡ number) × (missed ≡ it.place.number) × (it.place.sum ≢ it.walk.end.sum)

pub found_at : (number : ℕ) (it : Checking) (missed : Option ℕ) → (missed ≡ None → number ≡ it.place.number → it.place.sum ≡ it.walk.end.sum)
    → IfSome missed (λ other. (other ≡ number) × (other ≡ it.place.number) × (it.place.sum ≢ it.walk.end.sum)) → FoundAt number it missed
found_at number it None expected is = expected refl
found_at number it (Some other) expected is = is

open_on : (first place : Place) (R : Register) (it : Checking) (one : Carried) (missed : Option ℕ) (entries : List Entry) → IsOf place R it → FoundAt one.receipt.number it missed
    → IsAfter first place it.walk.end.sum (line_of one) entries → IsOpenAt first place (entries ++ line_of one ∷ []) (Some one) missed
open_on first place R it one None entries of found is =
    place_here first place entries (line_of one) it.walk.end.sum is (expected_of place R it one.receipt.number of found)
open_on first place R it one (Some other) entries of found is =
    subst (λ (n : ℕ). IsMissed first (entries ++ line_of one ∷ []) place n) (sym found.0)
    (missed_after first place entries (line_of one) it.walk.end.sum is (sym found.0 ∙ found.1 ∙ ap (λ (p : Place). p.number) of.place_is)
    (λ same. found.2 (ap (λ (p : Place). p.sum) of.place_is ∙ same)))

pub accepted_on : (began R : Register) (first place : Place) (old new : Checking) (one : Carried) (entries : List Entry) → old.last ≡ None → old.missed ≡ None
    → new.last ≡ Some one → new ≡ record old { last = new.last; missed = new.missed } → FoundAt one.receipt.number old new.missed
    → IsAfter first place old.walk.end.sum (line_of one) entries → RanOver began first place R old entries
    → RanOver began first place R new (entries ++ line_of one ∷ [])
accepted_on began R first place old new one entries closed settled some same found is over =
    let made : Checking = record old { last = new.last; missed = new.missed } in
    let ran : Ran began first place R (Some one) new.missed old.desk.book.register old.count old.is_met (entries ++ line_of one ∷ []) =
    takes_accepted began old.desk.book.register R first place one new.missed old.count old.is_met entries (open_on first place R old one new.missed entries over.of found is)
    (ran_as began old.desk.book.register R first place old.last None old.missed None old.count old.is_met entries closed settled over.ran) in
    let all : RanOver began first place R made (entries ++ line_of one ∷ []) = record {
      of = record { place_is = over.of.place_is; book_is = over.of.book_is };
      ran = ran_as began old.desk.book.register R first place (Some one) new.last new.missed new.missed old.count old.is_met (entries ++ line_of one ∷ []) (sym some) refl ran;
    } in
    subst (λ (x : Checking). RanOver began first place R x (entries ++ line_of one ∷ [])) (sym same) all

pub refused_on : (began R : Register) (first place : Place) (old new : Checking) (one : Carried) (entries : List Entry) → old.last ≡ None → old.missed ≡ None
    → is_accepted (view one.reply) ≡ false
    → IsDeedTaken old.desk.book.register (deed_of one.deed) (view one.reply)
    → (one.receipt.number ≡ old.place.number → old.place.sum ≡ old.walk.end.sum) → old.from ≡ None → MetAt one.receipt.number old new.is_met
    → UnmetAt one.receipt.number old new.is_met → (old.is_met ≡ true → new.is_met ≡ true) → new ≡ record old { is_met = new.is_met }
    → IsAfter first place old.walk.end.sum (line_of one) entries → RanOver began first place R old entries
    → RanOver began first place R new (entries ++ line_of one ∷ [])
refused_on began R first place old new one entries closed settled not own expected begun now unmet stays same is over =
    let ran : Ran began first place R None None old.desk.book.register old.count new.is_met (entries ++ line_of one ∷ []) =
    takes_refused began old.desk.book.register R first place one.receipt (deed_of one.deed) (view one.reply) old.count old.is_met new.is_met entries not own
    (place_here first place entries (line_of one) old.walk.end.sum is (expected_of place R old one.receipt.number over.of expected))
    (met_of place R old one.receipt.number new.is_met over.of now) stays (unmet_of place R old one.receipt.number new.is_met over.of begun unmet)
    (ran_as began old.desk.book.register R first place old.last None old.missed None old.count old.is_met entries closed settled over.ran) in
    let made : Checking = record old { is_met = new.is_met } in
    let all : RanOver began first place R made (entries ++ line_of one ∷ []) = record {
      of = record { place_is = over.of.place_is; book_is = over.of.book_is };
      ran = ran_as began old.desk.book.register R first place None old.last None old.missed old.count new.is_met (entries ++ line_of one ∷ []) (sym closed) (sym settled) ran;
    } in
    subst (λ (x : Checking). RanOver began first place R x (entries ++ line_of one ∷ [])) (sym same) all

pub of_mid : (place : Place) (R : Register) (old mid : Checking) (left_open : Option Carried) → mid ≡ record old { last = left_open; desk = mid.desk; count = mid.count }
    → IsOf place R old → IsOf place R mid
of_mid place R old mid left_open mids of = record {
  place_is = ap (λ (x : Checking). x.place) mids ∙ of.place_is;
  book_is = ap (λ (x : Checking). x.book.now.register) mids ∙ of.book_is;
}

pub closed_on : (began R : Register) (first place : Place) (old mid new : Checking) (left_open : Option Carried) (one : Carried) (entries : List Entry) → left_open ≡ None → old.last ≡ Some one → old.missed ≡ None → IfSome old.last IsAccepted
    → IsReply (view one.reply) (deed_reply old.desk.book.register (deed_of one.deed)) → mid.desk.book.register ≡ after_deed old.desk.book.register (deed_of one.deed)
    → mid.count ≡ old.count + 1 → mid ≡ record old { last = left_open; desk = mid.desk; count = mid.count } → old.from ≡ None → MetAt one.receipt.number mid new.is_met
    → UnmetAt one.receipt.number mid new.is_met → (mid.is_met ≡ true → new.is_met ≡ true) → new ≡ record mid { is_met = new.is_met } → RanOver began first place R old entries → RanOver began first place R new entries
closed_on began R first place old mid new left_open one entries left some settled accepted own after_is next_is mids begun now unmet stays same over =
    let of : IsOf place R mid = of_mid place R old mid left_open mids over.of in
    let met : mid.is_met ≡ old.is_met = ap (λ (x : Checking). x.is_met) mids in
    let ran : Ran began first place R None None mid.desk.book.register mid.count new.is_met entries =
    closes began old.desk.book.register mid.desk.book.register R first place one old.count mid.count old.is_met new.is_met entries
    (subst (λ (o : Option Carried). IfSome o IsAccepted) some accepted) own after_is next_is
    (λ sure before_it. met_of place R mid one.receipt.number new.is_met of now sure (met ∙ before_it))
    (λ was. stays (met ∙ was)) (unmet_of place R mid one.receipt.number new.is_met of (ap (λ (x : Checking). x.from) mids ∙ begun) unmet)
    (ran_as began old.desk.book.register R first place old.last (Some one) old.missed None old.count old.is_met entries some settled over.ran) in
    let made : Checking = record mid { is_met = new.is_met } in
    let last : mid.last ≡ None = ap (λ (x : Checking). x.last) mids ∙ left in
    let missed : mid.missed ≡ None = ap (λ (x : Checking). x.missed) mids ∙ settled in
    let all : RanOver began first place R made entries = record {
      of = record { place_is = of.place_is; book_is = of.book_is };
      ran = ran_as began mid.desk.book.register R first place None mid.last None mid.missed mid.count new.is_met entries (sym last) (sym missed) ran;
    } in
    subst (λ (x : Checking). RanOver began first place R x entries) (sym same) all

-- the tables are the same at the number of the register's place
abbrev pub SameAt : ℕ → Checking → Type 0
SameAt number it = number ≡ it.place.number → it.from ≡ None → tables_of it.book.now.register ≡ tables_of it.desk.book.register

same_of : (place : Place) (R : Register) (it : Checking) (number : ℕ) → IsOf place R it → it.from ≡ None → SameAt number it
    → number ≡ place.number → tables_of R ≡ tables_of it.desk.book.register
same_of place R it number of begun same at = sym (ap tables_of of.book_is) ∙ same (at ∙ ap (λ (p : Place). p.number) (sym of.place_is)) begun

by_last : (began R : Register) (first place : Place) (old : Checking) (n : ℕ) (met : Bool) (entries : List Entry) (last : Option Carried) → IsSome last → IfSome last IsAccepted
    → old.from ≡ None → (n ≡ old.place.number → old.place.sum ≡ old.walk.end.sum) → SameAt n old → MetAt n old met → UnmetAt n old met → (old.is_met ≡ true → met ≡ true)
    → IsAfter first place old.walk.end.sum (withdrawn n) entries → IsOf place R old
    → Ran began first place R last old.missed old.desk.book.register old.count old.is_met entries
    → Ran began first place R None None old.desk.book.register old.count met (entries ++ withdrawn n ∷ [])
by_last began R first place old n met entries None some accepted begun expected same now unmet stays is of ran = absurd (true≢false (sym some))
by_last began R first place old n met entries (Some one) some accepted begun expected same now unmet stays is of ran =
    withdraws_one began old.desk.book.register R first place one old.missed old.count n old.is_met met entries accepted is.last
    (place_here first place entries (withdrawn n) old.walk.end.sum is (expected_of place R old n of expected))
    (λ sure. same_of place R old n of begun same) (λ sure before_it. (met_of place R old n met of now sure before_it).0) stays
    (unmet_of place R old n met of begun unmet) ran

-- the state in which the tables are compared, once no deed is open any more
abbrev pub with_none : Checking → Checking
with_none it = record it { last = None; missed = None }

pub withdrawn_on : (began R : Register) (first place : Place) (old new : Checking) (n : ℕ) (entries : List Entry) → IsSome old.last → IfSome old.last IsAccepted
    → old.from ≡ None → (n ≡ old.place.number → old.place.sum ≡ old.walk.end.sum) → SameAt n old → MetAt n old new.is_met → UnmetAt n old new.is_met
    → (old.is_met ≡ true → new.is_met ≡ true) → new ≡ record (with_none old) { is_met = new.is_met }
    → IsAfter first place old.walk.end.sum (withdrawn n) entries → RanOver began first place R old entries
    → RanOver began first place R new (entries ++ withdrawn n ∷ [])
withdrawn_on began R first place old new n entries some accepted begun expected same now unmet stays is_new is over =
    let made : Checking = record (with_none old) { is_met = new.is_met } in
    let all : RanOver began first place R made (entries ++ withdrawn n ∷ []) = record {
      of = record { place_is = over.of.place_is; book_is = over.of.book_is };
      ran = by_last began R first place old n new.is_met entries old.last some accepted begun expected same now unmet stays is over.of over.ran;
    } in
    subst (λ (x : Checking). RanOver began first place R x (entries ++ withdrawn n ∷ [])) (sym is_new) all

-- a line that withdraws is never the first that is run
none_by : (began R : Register) (first place : Place) (old : Checking) (last : Option Carried) → IsSome last
    → Ran began first place R last old.missed old.desk.book.register old.count old.is_met [] → ⊥
none_by began R first place old None some ran = true≢false (sym some)
none_by began R first place old (Some one) some ran = none_open began old.desk.book.register R first place one old.missed old.count old.is_met ran

pub never_first : (began R : Register) (first place : Place) (old : Checking) → IsSome old.last → RanOver began first place R old [] → ⊥
never_first began R first place old some over = none_by began R first place old old.last some over.ran

-- ---- between two lines

-- no line makes that a place was not met
pub later_on : (first place : Place) (old new : Bool) (entries : List Entry) (missed : Option ℕ) → (old ≡ true → new ≡ true) → (entries ≡ [] → IsSome missed → ⊥)
    → (old ≡ false → (first.number ≢ place.number) ⊎ ((entries ≡ []) × IsSome missed)) → new ≡ false → first.number ≢ place.number
later_on first place old new entries missed stays never later unmet = by (later (not_before old new stays unmet))
  where
    by : (first.number ≢ place.number) ⊎ ((entries ≡ []) × IsSome missed) → first.number ≢ place.number
    by (inl other) = other
    by (inr none) = absurd (never none.0 none.1)

pub not_missed : (missed : Option ℕ) → missed ≡ None → IsSome missed → ⊥
not_missed missed settled some = true≢false (sym (subst (λ (o : Option ℕ). IsSome o) settled some))

pub withdrawn_runs : (began R : Register) (first place : Place) (old new : Checking) (n : ℕ) (entries : List Entry) → IsSome old.last → IfSome old.last IsAccepted
    → old.from ≡ None → (n ≡ old.place.number → old.place.sum ≡ old.walk.end.sum) → SameAt n old → MetAt n old new.is_met → UnmetAt n old new.is_met
    → (old.is_met ≡ true → new.is_met ≡ true) → new ≡ record (with_none old) { is_met = new.is_met }
    → IsAfter first place old.walk.end.sum (withdrawn n) entries → RunsOn began first place R old entries
    → RunsOn began first place R new (entries ++ withdrawn n ∷ [])
withdrawn_runs began R first place old new n entries some accepted begun expected same now unmet stays is_new is runs = record {
  over = withdrawn_on began R first place old new n entries some accepted begun expected same now unmet stays is_new is runs.over;
  shut = λ closed. open_more (first_turn_at first) entries (withdrawn n);
  later = λ not. inl (later_on first place old.is_met new.is_met entries old.missed stays
      (λ none missed. never_first began R first place old some (subst (λ (es : List Entry). RanOver began first place R old es) none runs.over)) runs.later not);
}

pub carried_runs : (began R : Register) (first place : Place) (old new : Checking) (one : Carried) (entries : List Entry) → old.missed ≡ None
    → (new.last ≡ None → is_accepted (view one.reply) ≡ false)
    → (old.is_met ≡ true → new.is_met ≡ true) → RanOver began first place R new (entries ++ line_of one ∷ []) → RunsOn began first place R old entries
    → RunsOn began first place R new (entries ++ line_of one ∷ [])
carried_runs began R first place old new one entries settled shut stays over runs = record {
  over = over;
  shut = λ closed. open_more (first_turn_at first) entries (line_of one) ∙ shut closed;
  later = λ not. inl (later_on first place old.is_met new.is_met entries old.missed stays (λ none. not_missed old.missed settled) runs.later not);
}
