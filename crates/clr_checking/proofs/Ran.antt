-- The lines that were run, and one more.
use Rattle.std.proofs.Common.{◌≡◌, ◌≢◌, ◌⊎◌, ◌∙◌, ◌+◌, ◌==◌, inl, inr, ℕ, suc, Bool, true, false, cond, List, [], ◌∷◌, ◌++◌, Option, None, Some, length, map, refl, ap, sym, subst, append_assoc, append-nil, length-append}
use Rattle.std.proofs.lemmas.Bool.{true≢false}
use Rattle.std.proofs.lemmas.Bool.Decides.{eqb_tells}
use Rattle.serde_json.specs.Data.{Data}
use Rattle.serde_json.specs.View.{view}
use Rattle.clr_changes.specs.Deeds.{Deed, after_deed, deed_of}
use Rattle.clr_journal.specs.Answered.{deed_reply}
use Rattle.clr_rules.specs.Register.{Register}
use Rattle.clr_rules.specs.declared.place.Place.{Place}
use Rattle.clr_load.specs.Tables.{tables_of}
use Rattle.clr_journal.proofs.JournalsRead.{deeds_grow, withdrawn_is_left_out}
use Rattle.clr_journal.specs.Journals.{carried_out, deeds_of, turn_after, withdraws}
use Rattle.clr_journal.specs.Laws.{turn_behind}
use Rattle.clr_journal.specs.Line.{Entry, carried, withdrawn, is_accepted}
use Rattle.clr_journal.specs.declared.line.Carried.{Carried}
use Rattle.clr_journal.specs.declared.line.Receipt.{Receipt}
use Rattle.clr_journal.specs.declared.reading.Turn.{Turn}
use Rattle.clr_chain.specs.First.{first_turn_at}
use Rattle.clr_chain.specs.Level.{place_after}
use Rattle.clr_chain.specs.Sums.{sum_behind}
use Rattle.clr_checking.specs.Brief.{IsDeedTaken}
use Rattle.clr_checking.specs.Checking.{AreAnswered, HasOtherSum, Meets, NoneHas, none, refused, gone, done}
use Rattle.clr_checking.specs.CheckingOn.{IsAfter, IsMet, IsMissed, IsOpenAt, Ran}
use Rattle.clr_verify.specs.Replay.{open_entries}
use Rattle.clr_verify.specs.Replies.{IsReply}
use Rattle.clr_checking.proofs.Answering.{answered_then}
use Rattle.clr_checking.proofs.Places.{kept_more, none_more, turn_more}

-- ---- the place of the register

pub met_more : (began : Register) (first place : Place) (entries : List Entry) (entry : Entry) (Is : Register → Type 0) → (place ≡ place_after first entries → withdraws (entry ∷ []) ≡ false)
    → Meets began first entries place Is → Meets began first (entries ++ entry ∷ []) place Is
met_more began first place entries entry Is stays it = record {
  had = it.had;
  more = it.more ++ entry ∷ [];
  all = ap (λ es. es ++ entry ∷ []) it.all ∙ append_assoc it.had it.more (entry ∷ []);
  is_at = it.is_at;
  kept = kept_more it.more entry it.kept
      (λ before_it. stays (it.is_at ∙ ap (place_after first) (sym (it.all ∙ ap (λ more. it.had ++ more) before_it ∙ append-nil it.had))));
  register = it.register;
  answered = it.answered;
  is = it.is;
}

pub met_here : (began S : Register) (first place : Place) (entries : List Entry) (Is : Register → Type 0) → place ≡ place_after first entries → AreAnswered began entries S
    → Is S → Meets began first entries place Is
met_here began S first place entries Is is_at answered is = record {
  had = entries;
  more = [];
  all = sym (append-nil entries);
  is_at = is_at;
  kept = refl;
  register = S;
  answered = answered;
  is = is;
}

-- it was met before, or is met now
met_by : (M : Type 0) (met met' : Bool) → (met ≡ true → M) → (met' ≡ true → met ≡ false → M) → met' ≡ true → M
met_by M true met' was newly sure = was refl
met_by M false met' was newly sure = newly sure refl

-- it was not met before, where it is not now
pub not_before : (met met' : Bool) → (met ≡ true → met' ≡ true) → met' ≡ false → met ≡ false
not_before true met' stays unmet = absurd (true≢false (sym (stays refl) ∙ unmet))
not_before false met' stays unmet = refl

-- it was met before, where it cannot be met first now
met_then : (met : Bool) → (met ≡ false → ⊥) → met ≡ true
met_then true never = refl
met_then false never = absurd (never refl)

-- the same, for the register's tables
abbrev Same : Register → Register → Type 0
Same R S = tables_of R ≡ tables_of S

-- what is open, or was missed, is known
pub ran_as : (began S R : Register) (first place : Place) (last last' : Option Carried) (missed missed' : Option ℕ) (count : ℕ) (met : Bool) (entries : List Entry) → last ≡ last' → missed ≡ missed'
    → Ran began first place R last missed S count met entries → Ran began first place R last' missed' S count met entries
ran_as began S R first place last last' missed missed' count met entries one other ran =
    subst (λ (o : Option Carried). Ran began first place R o missed' S count met entries) one
    (subst (λ (m : Option ℕ). Ran began first place R last m S count met entries) other ran)

-- so the sum at the number of a place is another
pub missed_here : (first : Place) (entries : List Entry) (place : Place) (number : ℕ) → IsMissed first entries place number → HasOtherSum first entries place number
missed_here first entries place number it = record {
  had = entries;
  more = [];
  all = sym (append-nil entries);
  kept = refl;
  number_is = it.number_is;
  there = it.there;
  other = it.other;
}

-- ---- how many deeds were carried out

many : (pairs : List (Deed × Data)) → length (map (λ (pair : Deed × Data). pair.0) pairs) ≡ length pairs
many [] = refl
many (pair ∷ pairs) = ap suc (many pairs)

counted : (lines : List Entry) (receipt : Receipt) (q : Deed) (reply : Data) → is_accepted reply ≡ true
    → length (deeds_of (lines ++ carried receipt q reply ∷ [])) ≡ length (deeds_of lines) + 1
counted lines receipt q reply accepted =
    let out : carried_out (lines ++ carried receipt q reply ∷ []) ≡ carried_out lines ++ (q, reply) ∷ [] =
    deeds_grow lines receipt q reply ∙ ap (λ (b : Bool). carried_out lines ++ cond b ((q, reply) ∷ []) []) accepted in
    many (carried_out (lines ++ carried receipt q reply ∷ [])) ∙ ap length out ∙ length-append (carried_out lines) ((q, reply) ∷ [])
    ∙ ap (λ n. n + 1) (sym (many (carried_out lines)))

not_counted : (lines : List Entry) (receipt : Receipt) (q : Deed) (reply : Data) → is_accepted reply ≡ false
    → deeds_of (lines ++ carried receipt q reply ∷ []) ≡ deeds_of lines
not_counted lines receipt q reply not =
    ap (map (λ (pair : Deed × Data). pair.0))
    (deeds_grow lines receipt q reply ∙ ap (λ (b : Bool). carried_out lines ++ cond b ((q, reply) ∷ []) []) not ∙ append-nil (carried_out lines))

gone_not_counted : (lines : List Entry) (receipt : Receipt) (q : Deed) (reply : Data) (n : ℕ)
    → deeds_of (lines ++ carried receipt q reply ∷ withdrawn n ∷ []) ≡ deeds_of lines
gone_not_counted lines receipt q reply n = ap (map (λ (pair : Deed × Data). pair.0)) (withdrawn_is_left_out lines receipt q reply n)

-- ---- a line more

-- the place after it
pub place_here : (first place : Place) (entries : List Entry) (entry : Entry) (sum : List ℕ) → IsAfter first place sum entry entries → ((turn_after entry).last ≡ place.number → place.sum ≡ sum)
    → (turn_after entry).last ≡ place.number → place ≡ place_after first (entries ++ entry ∷ [])
place_here first place entries entry sum is expected at =
    let number : place.number ≡ (turn_behind (first_turn_at first) (entries ++ entry ∷ [])).last = sym at ∙ ap (λ (t : Turn). t.last) (sym (turn_more (first_turn_at first) entries entry)) in
    let sums : place.sum ≡ sum_behind first.sum (entries ++ entry ∷ []) = expected at ∙ is.sum_is in
    λ i. record { id = is.same_id i; number = number i; sum = sums i }

-- or it is not that of the place
pub missed_after : (first place : Place) (entries : List Entry) (entry : Entry) (sum : List ℕ) → IsAfter first place sum entry entries → (turn_after entry).last ≡ place.number
    → place.sum ≢ sum → IsMissed first (entries ++ entry ∷ []) place (turn_after entry).last
missed_after first place entries entry sum is number other = record {
  number_is = number;
  there = ap (λ (t : Turn). t.last) (turn_more (first_turn_at first) entries entry);
  other = λ same. other (same ∙ sym is.sum_is);
}

-- the open deed is carried out
pub closed_answers : (began S T R : Register) (first place : Place) (one : Carried) (count : ℕ) (met : Bool) (entries : List Entry)
    → is_accepted (view one.reply) ≡ true → IsReply (view one.reply) (deed_reply S (deed_of one.deed)) → T ≡ after_deed S (deed_of one.deed)
    → (ran : Ran began first place R (Some one) None S count met entries) → AreAnswered began (ran.done ++ carried one.receipt (deed_of one.deed) (view one.reply) ∷ []) T
closed_answers began S T R first place one count met entries accepted own after_is ran =
    let entry : Entry = carried one.receipt (deed_of one.deed) (view one.reply) in
    let line : AreAnswered S (entry ∷ []) T =
    subst (λ (X : Register). AreAnswered S (entry ∷ []) X) (sym after_is)
    (done S (after_deed S (deed_of one.deed)) one.receipt (deed_of one.deed) (view one.reply) [] accepted refl own (none (after_deed S (deed_of one.deed)))) in
    answered_then (entry ∷ []) T refl ran.answered line

-- so the register's place is met, if it is there
pub closed_meets : (began S T R : Register) (first place : Place) (one : Carried) (count : ℕ) (met : Bool) (entries : List Entry) (Is : Register → Type 0)
    → is_accepted (view one.reply) ≡ true → IsReply (view one.reply) (deed_reply S (deed_of one.deed)) → T ≡ after_deed S (deed_of one.deed)
    → Ran began first place R (Some one) None S count met entries → one.receipt.number ≡ place.number → Is T → Meets began first entries place Is
closed_meets began S T R first place one count met entries Is accepted own after_is ran here is =
    met_here began T first place entries Is (ran.open_at here)
    (subst (λ (es : List Entry). AreAnswered began es T) (sym ran.entries_are) (closed_answers began S T R first place one count met entries accepted own after_is ran)) is

pub closes : (began S T R : Register) (first place : Place) (one : Carried) (count next : ℕ) (met met' : Bool) (entries : List Entry)
    → is_accepted (view one.reply) ≡ true → IsReply (view one.reply) (deed_reply S (deed_of one.deed)) → T ≡ after_deed S (deed_of one.deed) → next ≡ count + 1
    → (met' ≡ true → met ≡ false → (one.receipt.number ≡ place.number) × (tables_of R ≡ tables_of T))
    → (met ≡ true → met' ≡ true) → (met' ≡ false → one.receipt.number ≢ place.number)
    → Ran began first place R (Some one) None S count met entries → Ran began first place R None None T next met' entries
closes began S T R first place one count next met met' entries accepted own after_is next_is now stays other ran =
    let entry : Entry = carried one.receipt (deed_of one.deed) (view one.reply) in
    record {
      done = ran.done ++ entry ∷ [];
      entries_are = ran.entries_are ∙ sym (append-nil (ran.done ++ entry ∷ []));
      answered = closed_answers began S T R first place one count met entries accepted own after_is ran;
      count_is = next_is ∙ ap (λ (n : ℕ). n + 1) ran.count_is ∙ sym (counted ran.done one.receipt (deed_of one.deed) (view one.reply) accepted);
      open_at = tt;
      met = met_by (IsMet began first entries place R) met met' ran.met (λ sure before_it.
          closed_meets began S T R first place one count met entries (Same R) accepted own after_is ran (now sure before_it).0 (now sure before_it).1);
      unmet = λ unmet. none_more place.number ran.done entry (ran.unmet (not_before met met' stays unmet)) (other unmet, tt);
    }

-- the open deed is withdrawn
pub withdrawn_answers : (began S R : Register) (first place : Place) (one : Carried) (missed : Option ℕ) (count n : ℕ) (met : Bool) (entries : List Entry) → is_accepted (view one.reply) ≡ true
    → (ran : Ran began first place R (Some one) missed S count met entries)
    → AreAnswered began (ran.done ++ carried one.receipt (deed_of one.deed) (view one.reply) ∷ withdrawn n ∷ []) S
withdrawn_answers began S R first place one missed count n met entries accepted ran =
    answered_then (carried one.receipt (deed_of one.deed) (view one.reply) ∷ withdrawn n ∷ []) S refl ran.answered
    (gone S S one.receipt (deed_of one.deed) (view one.reply) n [] accepted (none S))

withdrawn_lines : (began S R : Register) (first place : Place) (one : Carried) (missed : Option ℕ) (count n : ℕ) (met : Bool) (entries : List Entry)
    → (ran : Ran began first place R (Some one) missed S count met entries)
    → entries ++ withdrawn n ∷ [] ≡ ran.done ++ carried one.receipt (deed_of one.deed) (view one.reply) ∷ withdrawn n ∷ []
withdrawn_lines began S R first place one missed count n met entries ran =
    ap (λ (es : List Entry). es ++ withdrawn n ∷ []) ran.entries_are
    ∙ append_assoc ran.done (carried one.receipt (deed_of one.deed) (view one.reply) ∷ []) (withdrawn n ∷ [])

-- so the register's place is met, if it is there
pub withdrawn_meets : (began S R : Register) (first place : Place) (one : Carried) (missed : Option ℕ) (count n : ℕ) (met : Bool) (entries : List Entry) (Is : Register → Type 0)
    → is_accepted (view one.reply) ≡ true → Ran began first place R (Some one) missed S count met entries → place ≡ place_after first (entries ++ withdrawn n ∷ []) → Is S
    → Meets began first (entries ++ withdrawn n ∷ []) place Is
withdrawn_meets began S R first place one missed count n met entries Is accepted ran here is =
    met_here began S first place (entries ++ withdrawn n ∷ []) Is here
    (subst (λ (es : List Entry). AreAnswered began es S) (sym (withdrawn_lines began S R first place one missed count n met entries ran))
    (withdrawn_answers began S R first place one missed count n met entries accepted ran)) is

pub withdraws_one : (began S R : Register) (first place : Place) (one : Carried) (missed : Option ℕ) (count n : ℕ) (met met' : Bool) (entries : List Entry)
    → is_accepted (view one.reply) ≡ true → n ≡ (place_after first entries).number → (n ≡ place.number → place ≡ place_after first (entries ++ withdrawn n ∷ []))
    → (met' ≡ true → n ≡ place.number → tables_of R ≡ tables_of S) → (met' ≡ true → met ≡ false → n ≡ place.number)
    → (met ≡ true → met' ≡ true) → (met' ≡ false → n ≢ place.number)
    → Ran began first place R (Some one) missed S count met entries → Ran began first place R None None S count met' (entries ++ withdrawn n ∷ [])
withdraws_one began S R first place one missed count n met met' entries accepted last here same now stays other ran =
    let entry : Entry = carried one.receipt (deed_of one.deed) (view one.reply) in
    let lines : List Entry = entry ∷ withdrawn n ∷ [] in
    let number : n ≡ one.receipt.number =
    last ∙ ap (λ (es : List Entry). (place_after first es).number) ran.entries_are ∙ ap (λ (t : Turn). t.last) (turn_more (first_turn_at first) ran.done entry) in
    record {
      done = ran.done ++ lines;
      entries_are = withdrawn_lines began S R first place one missed count n met entries ran ∙ sym (append-nil (ran.done ++ lines));
      answered = withdrawn_answers began S R first place one missed count n met entries accepted ran;
      count_is = ran.count_is ∙ ap length (sym (gone_not_counted ran.done one.receipt (deed_of one.deed) (view one.reply) n));
      open_at = tt;
      met = λ sure. by sure (eqb_tells n place.number);
      unmet = λ unmet.
          subst (λ (es : List Entry). NoneHas place.number es) (append_assoc ran.done (entry ∷ []) (withdrawn n ∷ []))
          (none_more place.number (ran.done ++ entry ∷ []) (withdrawn n)
          (none_more place.number ran.done entry (ran.unmet (not_before met met' stays unmet)) (λ is. other unmet (number ∙ is), tt)) (other unmet, tt));
    }
  where
    -- at the place's number it is met here; elsewhere it was met before
    by : met' ≡ true → (((n == place.number) ≡ true) × (n ≡ place.number)) ⊎ (((n == place.number) ≡ false) × (n ≢ place.number))
        → IsMet began first (entries ++ withdrawn n ∷ []) place R
    by sure (inl at) = withdrawn_meets began S R first place one missed count n met entries (Same R) accepted ran (here at.1) (same sure at.1)
    by sure (inr at) =
        met_more began first place entries (withdrawn n) (Same R) (λ is. absurd (at.1 (last ∙ ap (λ (p : Place). p.number) (sym is))))
        (ran.met (met_then met (λ before_it. at.1 (now sure before_it))))

-- a deed that was accepted is the open one
pub takes_accepted : (began S R : Register) (first place : Place) (one : Carried) (missed : Option ℕ) (count : ℕ) (met : Bool) (entries : List Entry)
    → IsOpenAt first place (entries ++ carried one.receipt (deed_of one.deed) (view one.reply) ∷ []) (Some one) missed
    → Ran began first place R None None S count met entries
    → Ran began first place R (Some one) missed S count met (entries ++ carried one.receipt (deed_of one.deed) (view one.reply) ∷ [])
takes_accepted began S R first place one missed count met entries here ran =
    let entry : Entry = carried one.receipt (deed_of one.deed) (view one.reply) in
    record {
      done = ran.done;
      entries_are = ap (λ (es : List Entry). es ++ entry ∷ []) (ran.entries_are ∙ append-nil ran.done);
      answered = ran.answered;
      count_is = ran.count_is;
      open_at = here;
      met = λ sure. met_more began first place entries entry (Same R) (λ at. refl) (ran.met sure);
      unmet = ran.unmet;
    }

-- one that was refused is passed over
pub refused_answers : (began S R : Register) (first place : Place) (receipt : Receipt) (q : Deed) (reply : Data) (count : ℕ) (met : Bool) (entries : List Entry)
    → is_accepted reply ≡ false → IsDeedTaken S q reply
    → Ran began first place R None None S count met entries → AreAnswered began (entries ++ carried receipt q reply ∷ []) S
refused_answers began S R first place receipt q reply count met entries not own ran =
    let entry : Entry = carried receipt q reply in
    subst (λ (es : List Entry). AreAnswered began (es ++ entry ∷ []) S) (sym (ran.entries_are ∙ append-nil ran.done))
    (answered_then (entry ∷ []) S refl ran.answered (refused S S receipt q reply [] not own (none S)))

pub takes_refused : (began S R : Register) (first place : Place) (receipt : Receipt) (q : Deed) (reply : Data) (count : ℕ) (met met' : Bool) (entries : List Entry)
    → is_accepted reply ≡ false → IsDeedTaken S q reply
    → (receipt.number ≡ place.number → place ≡ place_after first (entries ++ carried receipt q reply ∷ []))
    → (met' ≡ true → met ≡ false → (receipt.number ≡ place.number) × (tables_of R ≡ tables_of S))
    → (met ≡ true → met' ≡ true) → (met' ≡ false → receipt.number ≢ place.number)
    → Ran began first place R None None S count met entries → Ran began first place R None None S count met' (entries ++ carried receipt q reply ∷ [])
takes_refused began S R first place receipt q reply count met met' entries not own here now stays other ran =
    let entry : Entry = carried receipt q reply in
    let all : entries ++ entry ∷ [] ≡ ran.done ++ entry ∷ [] = ap (λ (es : List Entry). es ++ entry ∷ []) (ran.entries_are ∙ append-nil ran.done) in
    let answered : AreAnswered began (entries ++ entry ∷ []) S = refused_answers began S R first place receipt q reply count met entries not own ran in
    record {
      done = ran.done ++ entry ∷ [];
      entries_are = all ∙ sym (append-nil (ran.done ++ entry ∷ []));
      answered = subst (λ (es : List Entry). AreAnswered began es S) all answered;
      count_is = ran.count_is ∙ ap length (sym (not_counted ran.done receipt q reply not));
      open_at = tt;
      met = met_by (IsMet began first (entries ++ entry ∷ []) place R) met met' (λ sure. met_more began first place entries entry (Same R) (λ at. refl) (ran.met sure))
          (λ sure before_it.
          met_here began S first place (entries ++ entry ∷ []) (Same R) (here (now sure before_it).0) answered (now sure before_it).1);
      unmet = λ unmet. none_more place.number ran.done entry (ran.unmet (not_before met met' stays unmet)) (other unmet, tt);
    }

-- ---- before the first line that is run

nothing_done : (lines more : List Entry) → [] ≡ lines ++ more → (lines ≡ []) × (more ≡ [])
nothing_done [] more is = (refl, sym is)
nothing_done (entry ∷ lines) more is = absurd (cc is)

pub nothing_answers : (began S R : Register) (first place : Place) (last : Option Carried) (missed : Option ℕ) (count : ℕ) (met : Bool) → Ran began first place R last missed S count met []
    → AreAnswered began [] S
nothing_answers began S R first place last missed count met ran =
    subst (λ (es : List Entry). AreAnswered began es S) (nothing_done ran.done (open_entries last) ran.entries_are).0 ran.answered

-- the place of the register may be the one that the lines begin at
pub begins : (began S R : Register) (first place : Place) (last : Option Carried) (missed : Option ℕ) (count : ℕ) (met met' : Bool)
    → (met' ≡ true → met ≡ false → (place ≡ first) × (tables_of R ≡ tables_of S)) → (met ≡ true → met' ≡ true)
    → Ran began first place R last missed S count met [] → Ran began first place R last missed S count met' []
begins began S R first place last missed count met met' now stays ran = record {
  done = ran.done;
  entries_are = ran.entries_are;
  answered = ran.answered;
  count_is = ran.count_is;
  open_at = ran.open_at;
  met = met_by (IsMet began first [] place R) met met' ran.met (λ sure before_it.
      met_here began S first place [] (Same R) (now sure before_it).0 (nothing_answers began S R first place last missed count met ran) (now sure before_it).1);
  unmet = λ unmet. ran.unmet (not_before met met' stays unmet);
}

-- its sum may be another
pub begins_missed : (began S R : Register) (first place : Place) (last : Option Carried) (missed : Option ℕ) (count number : ℕ) (met : Bool) → IsMissed first [] place number
    → Ran began first place R last missed S count met [] → Ran began first place R last (Some number) S count met []
begins_missed began S R first place last missed count number met other ran = record {
  done = ran.done;
  entries_are = ran.entries_are;
  answered = ran.answered;
  count_is = ran.count_is;
  open_at = other;
  met = ran.met;
  unmet = ran.unmet;
}

-- no deed is open where no line was run
pub none_open : (began S R : Register) (first place : Place) (one : Carried) (missed : Option ℕ) (count : ℕ) (met : Bool) → Ran began first place R (Some one) missed S count met [] → ⊥
none_open began S R first place one missed count met ran = cc (nothing_done ran.done (open_entries (Some one)) ran.entries_are).1

-- over the register of a copy nothing was run
pub ran_none : (copied S R : Register) (at place : Place) (last : Option Carried) (missed : Option ℕ) (count : ℕ) (met : Bool) → last ≡ None → missed ≡ None → S ≡ copied → count ≡ 0
    → met ≡ false → Ran copied at place R last missed S count met []
unfolding carried_out
ran_none copied S R at place last missed count met last_is none_missed is count_is met_is =
    ran_as copied S R at place None last None missed count met [] (sym last_is) (sym none_missed) (record {
      done = [];
      entries_are = refl;
      answered = subst (λ (X : Register). AreAnswered copied [] X) (sym is) (none copied);
      count_is = count_is;
      open_at = tt;
      met = λ sure. absurd (true≢false (sym sure ∙ met_is));
      unmet = λ unmet. tt;
    })
