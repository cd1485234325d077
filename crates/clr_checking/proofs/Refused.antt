-- Why there is no yes: what each stage of a check says of its fault.
use Rattle.std.proofs.Common.{◌≡◌, ◌≢◌, ◌⊎◌, ◌∙◌, ◌+◌, arith, ℕ, Bool, true, false, List, [], ◌∷◌, ◌++◌, Option, None, Some, IfSome, IsSome, refl, ap, sym, subst, inl, inr, append_assoc, append-nil}
use Rattle.std.proofs.lemmas.Bool.{true≢false}
use Rattle.serde_json.specs.View.{view}
use Rattle.clr_changes.specs.Deeds.{after_deed, deed_of}
use Rattle.clr_journal.specs.Answered.{deed_reply}
use Rattle.clr_rules.specs.Register.{Register}
use Rattle.clr_rules.specs.declared.place.Place.{Place}
use Rattle.clr_journal.specs.Journals.{turn_after, withdraws}
use Rattle.clr_journal.specs.Laws.{turn_behind}
use Rattle.clr_journal.specs.Line.{Entry, carried, withdrawn, is_accepted}
use Rattle.clr_journal.specs.declared.line.Carried.{Carried}
use Rattle.clr_journal.specs.declared.reading.Turn.{Turn}
use Rattle.clr_chain.specs.First.{first_turn_at}
use Rattle.clr_chain.specs.Level.{place_after}
use Rattle.clr_checking.specs.Brief.{IsDeedTaken, is_brief_deed}
use Rattle.clr_checking.specs.Checking.{AreAnswered, HasOtherSum, Meets, RefusesFrom, RefusesRun}
use Rattle.clr_checking.specs.CheckingOn.{AnswersElse, ComparesElse, IsAfter, IsAt, IsMissed, IsOf, IsOfOpen, Ran, RanOver, RunsOn, Settles, Waits}
use Rattle.clr_checking.specs.declared.checking.Checking.{Checking}
use Rattle.clr_checking.specs.declared.fault.CheckFault.{CheckFault}
use Rattle.clr_checking.specs.declared.fault.CheckFault.TheVariants.{BadLine, Differs, NoMemory, OtherRegister, Reply, Tables, TooShort}
use Rattle.clr_verify.specs.Registers.{IsFirstDifference}
use Rattle.clr_verify.specs.declared.registers.Difference.{Difference}
use Rattle.clr_verify.specs.Replay.{IsAccepted}
use Rattle.clr_verify.specs.Replies.{IsReply}
use Rattle.clr_checking.proofs.Coming.{Waited, come_here, nothing_ran, of_from, place_there}
use Rattle.clr_checking.proofs.Places.{kept_more}
use Rattle.clr_checking.proofs.Ran.{closed_meets, met_here, met_more, missed_after, missed_here, nothing_answers, place_here, ran_as, refused_answers, withdrawn_meets}
use Rattle.clr_checking.proofs.Steps.{expected_of, line_of, of_mid, with_none}

-- ---- a line more, which does not withdraw

module _ (began R : Register) (first place : Place) (entries : List Entry) (entry : Entry) (stays : withdraws (entry ∷ []) ≡ false) where
  pub refuses_more : (fault : CheckFault) → RefusesRun began first entries place R fault → RefusesRun began first (entries ++ entry ∷ []) place R fault
  refuses_more OtherRegister is = is
  refuses_more (BadLine n) is = is
  refuses_more (Reply n) is = record {
    had = is.had;
    receipt = is.receipt;
    deed = is.deed;
    reply = is.reply;
    more = is.more ++ entry ∷ [];
    all = ap (λ (es : List Entry). es ++ entry ∷ []) is.all ∙ append_assoc is.had (carried is.receipt is.deed is.reply ∷ is.more) (entry ∷ []);
    number_is = is.number_is;
    kept = kept_more is.more entry is.kept (λ none. stays);
    register = is.register;
    whole = is.whole;
    answered = is.answered;
    other = is.other;
  }
  refuses_more (Differs n) (inl is) = inl (record {
    had = is.had;
    more = is.more ++ entry ∷ [];
    all = ap (λ (es : List Entry). es ++ entry ∷ []) is.all ∙ append_assoc is.had is.more (entry ∷ []);
    kept = kept_more is.more entry is.kept (λ none. stays);
    number_is = is.number_is;
    there = is.there;
    other = is.other;
  })
  refuses_more (Differs n) (inr is) = inr (record {
    more = is.more ++ entry ∷ [];
    all = ap (λ (es : List Entry). es ++ entry ∷ []) is.all;
  })
  refuses_more (Tables found) is = met_more began first place entries entry (λ S. IsFirstDifference R S (Some found)) (λ at. stays) is
  refuses_more TooShort is = is
  refuses_more NoMemory is = tt

-- ---- a reply

-- that of the open deed
open_replies : (began S R : Register) (first place : Place) (one : Carried) (missed : Option ℕ) (count : ℕ) (met : Bool) (entries : List Entry) (fault : CheckFault)
    → is_accepted (view one.reply) ≡ true → AnswersElse S one fault → Ran began first place R (Some one) missed S count met entries
    → RefusesRun began first entries place R fault
open_replies began S R first place one missed count met entries OtherRegister accepted else ran = absurd else
open_replies began S R first place one missed count met entries (BadLine n) accepted else ran = absurd else
open_replies began S R first place one missed count met entries (Reply n) accepted else ran = record {
  had = ran.done;
  receipt = one.receipt;
  deed = deed_of one.deed;
  reply = view one.reply;
  more = [];
  all = ran.entries_are;
  number_is = else.0;
  kept = refl;
  register = S;
  whole = λ not. absurd (true≢false (sym accepted ∙ not));
  answered = ran.answered;
  other = else.1;
}
open_replies began S R first place one missed count met entries (Differs n) accepted else ran = absurd else
open_replies began S R first place one missed count met entries (Tables found) accepted else ran = absurd else
open_replies began S R first place one missed count met entries TooShort accepted else ran = absurd else
open_replies began S R first place one missed count met entries NoMemory accepted else ran = tt

pub carried_else : (began R : Register) (first place : Place) (old : Checking) (one : Carried) (entries : List Entry) (fault : CheckFault) → old.last ≡ Some one
    → IsAccepted one → AnswersElse old.desk.book.register one fault → RanOver began first place R old entries → RefusesRun began first entries place R fault
carried_else began R first place old one entries fault some accepted else over =
    open_replies began old.desk.book.register R first place one old.missed old.count old.is_met entries fault accepted else
    (ran_as began old.desk.book.register R first place old.last (Some one) old.missed old.missed old.count old.is_met entries some refl over.ran)

-- that of a deed that was refused
refused_replies : (began S R : Register) (first place : Place) (one : Carried) (count : ℕ) (met : Bool) (entries : List Entry) (fault : CheckFault)
    → (fault ≡ Reply one.receipt.number → is_brief_deed S (deed_of one.deed) (view one.reply) ≡ false) → AnswersElse S one fault → Ran began first place R None None S count met entries
    → RefusesRun began first (entries ++ line_of one ∷ []) place R fault
refused_replies began S R first place one count met entries OtherRegister whole else ran = absurd else
refused_replies began S R first place one count met entries (BadLine n) whole else ran = absurd else
refused_replies began S R first place one count met entries (Reply n) whole else ran = record {
  had = entries;
  receipt = one.receipt;
  deed = deed_of one.deed;
  reply = view one.reply;
  more = [];
  all = refl;
  number_is = else.0;
  kept = refl;
  register = S;
  whole = λ not. whole (ap Reply else.0);
  answered = subst (λ (es : List Entry). AreAnswered began es S) (sym (ran.entries_are ∙ append-nil ran.done)) ran.answered;
  other = else.1;
}
refused_replies began S R first place one count met entries (Differs n) whole else ran = absurd else
refused_replies began S R first place one count met entries (Tables found) whole else ran = absurd else
refused_replies began S R first place one count met entries TooShort whole else ran = absurd else
refused_replies began S R first place one count met entries NoMemory whole else ran = tt

pub refused_else : (began R : Register) (first place : Place) (old : Checking) (one : Carried) (entries : List Entry) (fault : CheckFault) → old.last ≡ None → old.missed ≡ None
    → (fault ≡ Reply one.receipt.number → is_brief_deed old.desk.book.register (deed_of one.deed) (view one.reply) ≡ false) → AnswersElse old.desk.book.register one fault → RanOver began first place R old entries
    → RefusesRun began first (entries ++ line_of one ∷ []) place R fault
refused_else began R first place old one entries fault closed settled whole else over =
    refused_replies began old.desk.book.register R first place one old.count old.is_met entries fault whole else
    (ran_as began old.desk.book.register R first place old.last None old.missed None old.count old.is_met entries closed settled over.ran)

-- ---- the tables

-- where the run meets the place
abbrev MeetsThen : Register → Place → List Entry → Place → Register → Register → Type 0
MeetsThen began first entries place R T = (found : Difference) → IsFirstDifference R T (Some found)
    → Meets began first entries place (λ S. IsFirstDifference R S (Some found))

compares_else : (began R : Register) (first place : Place) (entries : List Entry) (it : Checking) (number : ℕ) (fault : CheckFault) → IsOf place R it
    → ComparesElse it number fault → (number ≡ place.number → MeetsThen began first entries place R it.desk.book.register)
    → RefusesRun began first entries place R fault
compares_else began R first place entries it number OtherRegister of else meets = absurd else
compares_else began R first place entries it number (BadLine n) of else meets = absurd else
compares_else began R first place entries it number (Reply n) of else meets = absurd else
compares_else began R first place entries it number (Differs n) of else meets = absurd else
compares_else began R first place entries it number (Tables found) of else meets =
    meets (else.0 ∙ ap (λ (p : Place). p.number) of.place_is) found
    (subst (λ (X : Register). IsFirstDifference X it.desk.book.register (Some found)) of.book_is else.2)
compares_else began R first place entries it number TooShort of else meets = absurd else
compares_else began R first place entries it number NoMemory of else meets = tt

-- once the open deed was carried out
pub closed_else : (began R : Register) (first place : Place) (old mid : Checking) (left_open : Option Carried) (one : Carried) (entries : List Entry) (fault : CheckFault)
    → old.last ≡ Some one → old.missed ≡ None → IsAccepted one → IsReply (view one.reply) (deed_reply old.desk.book.register (deed_of one.deed))
    → mid.desk.book.register ≡ after_deed old.desk.book.register (deed_of one.deed) → mid ≡ record old { last = left_open; desk = mid.desk; count = mid.count }
    → ComparesElse mid one.receipt.number fault → RanOver began first place R old entries → RefusesRun began first entries place R fault
closed_else began R first place old mid left_open one entries fault some settled accepted own after_is mids else over =
    compares_else began R first place entries mid one.receipt.number fault (of_mid place R old mid left_open mids over.of) else (λ here found is.
    closed_meets began old.desk.book.register mid.desk.book.register R first place one old.count old.is_met entries (λ S. IsFirstDifference R S (Some found)) accepted own after_is
    (ran_as began old.desk.book.register R first place old.last (Some one) old.missed None old.count old.is_met entries some settled over.ran) here is)

-- at the line of a deed that was refused
pub refused_tables : (began R : Register) (first place : Place) (old : Checking) (one : Carried) (entries : List Entry) (fault : CheckFault) → old.last ≡ None → old.missed ≡ None
    → is_accepted (view one.reply) ≡ false → IsDeedTaken old.desk.book.register (deed_of one.deed) (view one.reply)
    → (one.receipt.number ≡ old.place.number → old.place.sum ≡ old.walk.end.sum) → ComparesElse old one.receipt.number fault
    → IsAfter first place old.walk.end.sum (line_of one) entries → RanOver began first place R old entries
    → RefusesRun began first (entries ++ line_of one ∷ []) place R fault
refused_tables began R first place old one entries fault closed settled not own expected else is over =
    compares_else began R first place (entries ++ line_of one ∷ []) old one.receipt.number fault over.of else (λ here found given.
    met_here began old.desk.book.register first place (entries ++ line_of one ∷ []) (λ S. IsFirstDifference R S (Some found))
    (place_here first place entries (line_of one) old.walk.end.sum is (expected_of place R old one.receipt.number over.of expected) here)
    (refused_answers began old.desk.book.register R first place one.receipt (deed_of one.deed) (view one.reply) old.count old.is_met entries not own
    (ran_as began old.desk.book.register R first place old.last None old.missed None old.count old.is_met entries closed settled over.ran)) given)

-- at the line that withdraws the open deed
withdrawn_by : (began R : Register) (first place : Place) (old : Checking) (n : ℕ) (entries : List Entry) (last : Option Carried) (Is : Register → Type 0) → IsSome last
    → IfSome last IsAccepted → place ≡ place_after first (entries ++ withdrawn n ∷ []) → Is old.desk.book.register
    → Ran began first place R last old.missed old.desk.book.register old.count old.is_met entries → Meets began first (entries ++ withdrawn n ∷ []) place Is
withdrawn_by began R first place old n entries None Is some accepted here is ran = absurd (true≢false (sym some))
withdrawn_by began R first place old n entries (Some one) Is some accepted here is ran =
    withdrawn_meets began old.desk.book.register R first place one old.missed old.count n old.is_met entries Is accepted ran here is

pub withdrawn_tables : (began R : Register) (first place : Place) (old : Checking) (n : ℕ) (entries : List Entry) (fault : CheckFault) → IsSome old.last → IfSome old.last IsAccepted
    → (n ≡ old.place.number → old.place.sum ≡ old.walk.end.sum) → ComparesElse (with_none old) n fault → IsAfter first place old.walk.end.sum (withdrawn n) entries
    → RunsOn began first place R old entries → RefusesRun began first (entries ++ withdrawn n ∷ []) place R fault
withdrawn_tables began R first place old n entries fault some accepted expected else is runs =
    let of : IsOf place R (with_none old) = record { place_is = runs.over.of.place_is; book_is = runs.over.of.book_is } in
    compares_else began R first place (entries ++ withdrawn n ∷ []) (with_none old) n fault of else (λ here found given.
    withdrawn_by began R first place old n entries old.last (λ S. IsFirstDifference R S (Some found)) some accepted
    (place_here first place entries (withdrawn n) old.walk.end.sum is (expected_of place R old n runs.over.of expected) here) given runs.over.ran)

-- ---- a place

-- at a line the sum is another
pub sum_else : (began R : Register) (first place : Place) (old : Checking) (entry : Entry) (entries : List Entry) → (turn_after entry).last ≡ old.place.number
    → old.place.sum ≢ old.walk.end.sum → IsAfter first place old.walk.end.sum entry entries → IsOf place R old
    → RefusesRun began first (entries ++ entry ∷ []) place R (Differs (turn_after entry).last)
sum_else began R first place old entry entries number other is of =
    inl (missed_here first (entries ++ entry ∷ []) place (turn_after entry).last
    (missed_after first place entries entry old.walk.end.sum is (number ∙ ap (λ (p : Place). p.number) of.place_is)
    (λ same. other (ap (λ (p : Place). p.sum) of.place_is ∙ same))))

-- it was, and the lines do not go on with a withdrawal
missed_by : (began S R : Register) (first place : Place) (last : Option Carried) (missed : Option ℕ) (count number : ℕ) (met : Bool) (entries : List Entry) → missed ≡ Some number
    → Ran began first place R last missed S count met entries → IsMissed first entries place number
missed_by began S R first place last missed count number met entries some ran =
    (ran_as began S R first place last last missed (Some number) count met entries refl some ran).open_at

pub missed_else : (began R : Register) (first place : Place) (old : Checking) (number : ℕ) (entries : List Entry) → old.missed ≡ Some number
    → RanOver began first place R old entries → IsMissed first entries place number
missed_else began R first place old number entries some over =
    missed_by began old.desk.book.register R first place old.last old.missed old.count number old.is_met entries some over.ran

-- with a deed after them
missed_more : (first : Place) (entries : List Entry) (one : Carried) (place : Place) (number : ℕ) → IsMissed first entries place number
    → HasOtherSum first (entries ++ line_of one ∷ []) place number
missed_more first entries one place number it = record {
  had = entries;
  more = line_of one ∷ [];
  all = refl;
  kept = refl;
  number_is = it.number_is;
  there = it.there;
  other = it.other;
}

pub copy_else : (copied R : Register) (at first place : Place) (old : Checking) (number : ℕ) (before : List Entry) → old.missed ≡ Some number
    → Waits copied at first place R old before → IsMissed first before at number
copy_else copied R at first place old number before some w = subst (λ (o : Option ℕ). IfSome o (IsMissed first before at)) some w.missed

-- the deed after that has another number
never_same : (n m last : ℕ) → n ≡ last + 1 → last ≡ m → n ≡ m → ⊥
never_same n m last is same wrong = omega arith

later_settles : (first at : Place) (one : Carried) (number : ℕ) (sum : List ℕ) (entries : List Entry) → IsMissed first entries at number
    → (place : Place) → IsAfter first place sum (line_of one) entries → Settles (turn_after (line_of one)) (Differs number)
later_settles first at one number sum entries missed place is =
    λ same. absurd (never_same one.receipt.number number (place_after first entries).number is.last missed.there same)

-- what a line is refused with: its cause, which no line more takes back
abbrev pub RefusesRunning : Register → Place → Place → Register → List Entry → Entry → CheckFault → Type 0
RefusesRunning began first place R entries entry fault = RefusesRun began first (entries ++ entry ∷ []) place R fault × Settles (turn_after entry) fault

abbrev pub RefusesWaiting : Register → Place → Place → Place → Register → List Entry → Entry → CheckFault → Type 0
RefusesWaiting copied at first place R before entry fault = RefusesFrom copied at first (before ++ entry ∷ []) [] place R fault × Settles (turn_after entry) fault

pub run_later : (began R : Register) (first place : Place) (old : Checking) (one : Carried) (number : ℕ) (entries : List Entry) → old.missed ≡ Some number
    → IsAfter first place old.walk.end.sum (line_of one) entries → RunsOn began first place R old entries
    → RefusesRunning began first place R entries (line_of one) (Differs number)
run_later began R first place old one number entries some is runs =
    let missed = missed_else began R first place old number entries some runs.over in
    (inl (missed_more first entries one place number missed), later_settles first place one number old.walk.end.sum entries missed place is)

pub copy_later : (copied R : Register) (at first place : Place) (old : Checking) (one : Carried) (number : ℕ) (before : List Entry) → old.missed ≡ Some number
    → IsAfter first place old.walk.end.sum (line_of one) before → Waits copied at first place R old before
    → RefusesWaiting copied at first place R before (line_of one) (Differs number)
copy_later copied R at first place old one number before some is w =
    let missed = copy_else copied R at first place old number before some w in (
      inl (subst (λ (es : List Entry). HasOtherSum first es at number) (sym (append-nil (before ++ line_of one ∷ [])))
          (missed_more first before one at number missed)),
      later_settles first at one number old.walk.end.sum before missed place is,
    )

-- ---- what no line more takes back

-- a line that withdraws leaves nothing open, nor does one that was refused
pub shut_settles : (turn : Turn) (fault : CheckFault) → turn.is_open ≡ false → Settles turn fault
shut_settles turn OtherRegister shut = tt
shut_settles turn (BadLine n) shut = tt
shut_settles turn (Reply n) shut = tt
shut_settles turn (Differs n) shut = λ same. shut
shut_settles turn (Tables found) shut = tt
shut_settles turn TooShort shut = tt
shut_settles turn NoMemory shut = tt

pub answers_settle : (R : Register) (one : Carried) (fault : CheckFault) → AnswersElse R one fault → (turn : Turn) → Settles turn fault
answers_settle R one OtherRegister else turn = tt
answers_settle R one (BadLine n) else turn = tt
answers_settle R one (Reply n) else turn = tt
answers_settle R one (Differs n) else turn = absurd else
answers_settle R one (Tables found) else turn = tt
answers_settle R one TooShort else turn = tt
answers_settle R one NoMemory else turn = tt

pub compares_settle : (it : Checking) (number : ℕ) (fault : CheckFault) → ComparesElse it number fault → (turn : Turn) → Settles turn fault
compares_settle it number OtherRegister else turn = tt
compares_settle it number (BadLine n) else turn = tt
compares_settle it number (Reply n) else turn = tt
compares_settle it number (Differs n) else turn = absurd else
compares_settle it number (Tables found) else turn = tt
compares_settle it number TooShort else turn = tt
compares_settle it number NoMemory else turn = tt

-- ---- a deed is withdrawn

nothing_open : (first : Place) (entries : List Entry) (n : ℕ) → (turn_behind (first_turn_at first) entries).is_open ≡ false → IsOfOpen (withdrawn n) first entries → entries ≡ []
nothing_open first [] n shut opens = refl
nothing_open first (entry ∷ entries) n shut opens = absurd (true≢false (sym opens ∙ shut))

-- where none is open, it is that after which the run begins
pub withdrawn_else : (began R : Register) (first place : Place) (old : Checking) (n : ℕ) (entries : List Entry) → old.last ≡ None
    → IsAfter first place old.walk.end.sum (withdrawn n) entries → RunsOn began first place R old entries
    → RefusesRun began first (entries ++ withdrawn n ∷ []) place R (Differs n)
withdrawn_else began R first place old n entries closed is runs = inr (record {
  more = [];
  all = ap (λ (es : List Entry). es ++ withdrawn n ∷ []) (nothing_open first entries n (runs.shut closed) is.opens);
})

-- ---- where lines begin that are run

-- at a number before which nothing is run
first_sum_else : (first at : Place) (number : ℕ) (sum : List ℕ) (before : List Entry) → number ≡ at.number → at.sum ≢ sum → IsAt first at number sum before
    → HasOtherSum first before at number
first_sum_else first at number sum before same other it = missed_here first before at number (record {
  number_is = same;
  there = ap (λ (p : Place). p.number) it.here;
  other = λ is. other (is ∙ ap (λ (p : Place). p.sum) it.here);
})

same_place : (first a b : Place) (number : ℕ) (sum : List ℕ) (before : List Entry) → b.id ≡ first.id → IsAt first a number sum before → IsAt first b number sum before
same_place first a b number sum before same it = record { here = it.here; same_id = same }

pub begun_sum_else : (began R : Register) (first place : Place) (old mid : Checking) (number : ℕ) → mid ≡ record old { from = mid.from }
    → number ≡ mid.place.number → mid.place.sum ≢ mid.walk.end.sum → IsAt first place number old.walk.end.sum [] → RanOver began first place R old []
    → RefusesRun began first [] place R (Differs number)
begun_sum_else began R first place old mid number mids same other it over =
    let of = of_from place R old mid mids over.of in
    inl (first_sum_else first place number old.walk.end.sum [] (same ∙ ap (λ (p : Place). p.number) of.place_is)
    (λ is. other (ap (λ (p : Place). p.sum) of.place_is ∙ is ∙ ap (λ (x : Checking). x.walk.end.sum) (sym mids))) it)

-- the tables of the register that the run begins with
begun_meets : (began R : Register) (first place : Place) (it : Checking) (number : ℕ) → (number ≡ place.number → place ≡ first) → RanOver began first place R it []
    → number ≡ place.number → MeetsThen began first [] place R it.desk.book.register
begun_meets began R first place it number here over same found is =
    met_here began it.desk.book.register first place [] (λ S. IsFirstDifference R S (Some found)) (here same)
    (nothing_answers began it.desk.book.register R first place it.last it.missed it.count it.is_met over.ran) is

pub begun_tables : (began R : Register) (first place : Place) (old mid : Checking) (number : ℕ) (fault : CheckFault) → mid ≡ record old { from = mid.from }
    → (number ≡ mid.place.number → mid.place.sum ≡ mid.walk.end.sum) → ComparesElse mid number fault → IsAt first place number old.walk.end.sum []
    → RanOver began first place R mid [] → RefusesRun began first [] place R fault
begun_tables began R first place old mid number fault mids expected else it over =
    let it' : IsAt first place number mid.walk.end.sum [] =
    subst (λ (sum : List ℕ). IsAt first place number sum []) (ap (λ (x : Checking). x.walk.end.sum) (sym mids)) it in
    compares_else began R first place [] mid number fault over.of else
    (begun_meets began R first place mid number
    (place_there first place number mid.walk.end.sum [] it' (expected_of place R mid number over.of expected)) over)

-- ---- the place of a copy

pub copy_sum_else : (copied R : Register) (at first place : Place) (old : Checking) (number : ℕ) (before : List Entry) → number ≡ at.number → at.sum ≢ old.walk.end.sum
    → IsAt first place number old.walk.end.sum before → Waits copied at first place R old before
    → RefusesFrom copied at first before [] place R (Differs number)
copy_sum_else copied R at first place old number before same other it w =
    inl (subst (λ (es : List Entry). HasOtherSum first es at number) (sym (append-nil before))
    (first_sum_else first at number old.walk.end.sum before same other (same_place first place at number old.walk.end.sum before w.same_id it)))

-- the run comes to it, and the register's place is there
at_copy : (first at place : Place) (number : ℕ) (sum : List ℕ) (before : List Entry) → at ≡ place_after first before → number ≡ at.number → at.sum ≡ sum
    → IsAt first place number sum before → IsAt at place number sum []
at_copy first at place number sum before is_at number_is sum_is it = record {
  here = λ i. record { id = at.id; number = sym number_is i; sum = sum_is i };
  same_id = it.same_id ∙ ap (λ (p : Place). p.id) (sym is_at);
}

pub come_sum_else : (copied R : Register) (at first place : Place) (old mid : Checking) (number : ℕ) (before : List Entry) → mid ≡ record old { from = mid.from }
    → number ≡ at.number → at.sum ≡ old.walk.end.sum → number ≡ mid.place.number → mid.place.sum ≢ mid.walk.end.sum
    → IsAt first place number old.walk.end.sum before → Waits copied at first place R old before
    → RefusesFrom copied at first before [] place R (Differs number)
come_sum_else copied R at first place old mid number before mids number_is sum_is same other it w =
    let is_at : at ≡ place_after first before = come_here first at number old.walk.end.sum place before w.same_id number_is sum_is it in
    let of = of_from place R old mid mids w.of in
    inr (
      is_at,
      inl (first_sum_else at place number old.walk.end.sum [] (same ∙ ap (λ (p : Place). p.number) of.place_is)
          (λ is. other (ap (λ (p : Place). p.sum) of.place_is ∙ is ∙ ap (λ (x : Checking). x.walk.end.sum) (sym mids)))
          (at_copy first at place number old.walk.end.sum before is_at number_is sum_is it)),
    )

pub come_tables : (copied R : Register) (at first place : Place) (old mid : Checking) (number : ℕ) (before : List Entry) (fault : CheckFault) → mid ≡ record old { from = mid.from }
    → old.missed ≡ None → number ≡ at.number → at.sum ≡ old.walk.end.sum → (number ≡ mid.place.number → mid.place.sum ≡ mid.walk.end.sum) → ComparesElse mid number fault
    → IsAt first place number old.walk.end.sum before → Waits copied at first place R old before
    → RefusesFrom copied at first before [] place R fault
come_tables copied R at first place old mid number before fault mids settled number_is sum_is expected else it w =
    let is_at : at ≡ place_after first before = come_here first at number old.walk.end.sum place before w.same_id number_is sum_is it in
    inr (
      is_at,
      begun_tables copied R at place old mid number fault mids expected else
          (at_copy first at place number old.walk.end.sum before is_at number_is sum_is it) (nothing_ran copied R at first place old mid before mids settled w),
    )

-- the lines come to the copy's place, since they were still to come to it
pub coming_sum : (copied R : Register) (at first place : Place) (old mid : Checking) (number : ℕ) (before : List Entry) → mid ≡ record old { from = mid.from } → mid.from ≡ None
    → Waited at number old mid → number ≡ mid.place.number → mid.place.sum ≢ mid.walk.end.sum
    → IsAt first place number old.walk.end.sum before → Waits copied at first place R old before
    → RefusesFrom copied at first before [] place R (Differs number)
coming_sum copied R at first place old mid number before mids none (inl still) same other it w = absurd (cc (sym still ∙ none))
coming_sum copied R at first place old mid number before mids none (inr met) same other it w =
    come_sum_else copied R at first place old mid number before mids met.1 met.2 same other it w

pub coming_tables : (copied R : Register) (at first place : Place) (old mid : Checking) (number : ℕ) (before : List Entry) (fault : CheckFault) → mid ≡ record old { from = mid.from }
    → old.missed ≡ None → mid.from ≡ None → Waited at number old mid → (number ≡ mid.place.number → mid.place.sum ≡ mid.walk.end.sum) → ComparesElse mid number fault
    → IsAt first place number old.walk.end.sum before → Waits copied at first place R old before
    → RefusesFrom copied at first before [] place R fault
coming_tables copied R at first place old mid number before fault mids settled none (inl still) expected else it w = absurd (cc (sym still ∙ none))
coming_tables copied R at first place old mid number before fault mids settled none (inr met) expected else it w =
    come_tables copied R at first place old mid number before fault mids settled met.1 met.2 expected else it w

-- where none is sought, the lines are at none that they should come to
pub none_coming : (old : Checking) (b : Bool) → (b ≡ false → IsSome old.from) → b ≡ false → old.from ≡ None → ⊥
none_coming old b some other none = true≢false (sym (subst (λ (o : Option Place). IsSome o) none (some other)))

-- ---- another register's journal

pub other_else : (began R : Register) (first place : Place) (it : Checking) → it.walk.id ≡ first.id → it.from ≡ None
    → (it.place.id ≢ it.walk.id) ⊎ ((at : Place) × (it.from ≡ Some at) × (at.id ≢ it.walk.id)) → RanOver began first place R it []
    → RefusesRun began first [] place R OtherRegister
other_else began R first place it ids none (inl other) over = λ same. other (ap (λ (p : Place). p.id) over.of.place_is ∙ same ∙ sym ids)
other_else began R first place it ids none (inr (at, some, other)) over = absurd (cc (sym none ∙ some))

pub other_copy : (copied R : Register) (at first place : Place) (it : Checking) → it.walk.id ≡ first.id → it.from ≡ Some at → it.place ≡ place
    → (it.place.id ≢ it.walk.id) ⊎ ((from : Place) × (it.from ≡ Some from) × (from.id ≢ it.walk.id))
    → RefusesFrom copied at first [] [] place R OtherRegister
other_copy copied R at first place it ids some here (inl other) = inl (inr (λ same. other (ap (λ (p : Place). p.id) here ∙ same ∙ sym ids)))
other_copy copied R at first place it ids some here (inr (from, is, other)) =
    let one : Some from ≡ Some at = sym is ∙ some in
    let same : from ≡ at = cc one in
    inl (inl (λ its. other (ap (λ (p : Place). p.id) same ∙ its ∙ sym ids)))
