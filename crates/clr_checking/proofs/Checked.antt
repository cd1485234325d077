-- How far a register was checked, after a line more, and after all.
use Rattle.std.proofs.Common.{◌≡◌, ◌≢◌, ◌⊎◌, ◌∙◌, ℕ, true, false, List, [], ◌∷◌, ◌++◌, Option, None, Some, IfSome, IsSome, length, refl, ap, sym, subst, inl, inr, append_assoc, append-nil}
use Rattle.std.proofs.lemmas.Bool.{true≢false}
use Rattle.std.specs.List.{AllByRecursion}
use Rattle.clr_rules.specs.Register.{Register}
use Rattle.clr_rules.specs.declared.place.Place.{Place}
use Rattle.clr_journal.specs.Journals.{deeds_of, in_turn, turn_after, withdraws}
use Rattle.clr_journal.specs.Line.{Entry, carried, withdrawn}
use Rattle.clr_journal.specs.declared.line.Carried.{Carried}
use Rattle.clr_journal.specs.declared.reading.Turn.{Turn}
use Rattle.clr_journal.specs.Laws.{IsShallow, turn_behind}
use Rattle.clr_chain.proofs.Shallow.{read_are_shallow}
use Rattle.clr_chain.specs.Chain.{read_on}
use Rattle.clr_chain.specs.First.{end_at, first_turn_at}
use Rattle.clr_chain.specs.Level.{place_after}
use Rattle.clr_chain.specs.Walking.{bad, holds, part_of, step_of}
use Rattle.clr_chain.specs.declared.chain_end.ChainEnd.{ChainEnd}
use Rattle.clr_chain.specs.declared.walk.Walk.{Walk}
use Rattle.clr_checking.specs.Checking.{AreAnswered, AreLines, EndsAt, IsBadAfter, HasOtherSum, IsChecked, IsCheckedFrom, IsNotThere, IsRefused, IsRefusedFrom, IsSettled, NoneHas}
use Rattle.clr_checking.specs.Checking.{Refuses, RefusesCopy, RefusesFrom, RefusesLine, RefusesOfCopy, RefusesRun}
use Rattle.clr_checking.specs.CheckingOn.{CheckedTo, CheckedToFrom, ComesFrom, GoesOver, IsAfter, IsAt, IsMissed, IsOfLast, RanOver, RunsFrom, RunsOn, Settles, Waits}
use Rattle.clr_verify.specs.Replay.{open_entries}
use Rattle.clr_checking.specs.declared.checking.Checking.{Checking}
use Rattle.clr_checking.specs.declared.fault.CheckFault.{CheckFault}
use Rattle.clr_checking.specs.declared.fault.CheckFault.TheVariants.{BadLine, Differs, NoMemory, OtherRegister, Reply, Tables, TooShort}
use Rattle.clr_checking.proofs.Chained.{held, is_after, is_read, line_more, not_held, part_ends, turn_there}
use Rattle.clr_checking.proofs.Places.{kept_more, none_more, opens_after, place_on}
use Rattle.clr_checking.proofs.Ran.{missed_here, ran_none}
use Rattle.clr_checking.proofs.Refused.{copy_else, missed_else}
use Rattle.clr_checking.proofs.Steps.{later_on, not_missed}
use Rattle.clr_checking.proofs.Runs.{each_end, is_level, turns_closed, turns_end}

-- ---- the chain goes on, and the rest stays

ran_walk : (began R : Register) (first place : Place) (old : Checking) (walk : Walk) (entries : List Entry) → RanOver began first place R old entries
    → RanOver began first place R (record old { walk = walk }) entries
ran_walk began R first place old walk entries over = record { of = record { place_is = over.of.place_is; book_is = over.of.book_is }; ran = over.ran }

runs_walk : (began R : Register) (first place : Place) (old : Checking) (walk : Walk) (entries : List Entry) → RunsOn began first place R old entries
    → RunsOn began first place R (record old { walk = walk }) entries
runs_walk began R first place old walk entries runs = record { over = ran_walk began R first place old walk entries runs.over; shut = runs.shut; later = runs.later }

waits_walk : (copied R : Register) (at first place : Place) (old : Checking) (walk : Walk) (before : List Entry) → Waits copied at first place R old before
    → Waits copied at first place R (record old { walk = walk }) before
waits_walk copied R at first place old walk before w = record {
  of = record { place_is = w.of.place_is; book_is = w.of.book_is };
  same_id = w.same_id;
  from = w.from;
  last = w.last;
  register = w.register;
  count = w.count;
  met = w.met;
  missed = w.missed;
}

over_more : (first place : Place) (texts : List (List ℕ)) (text : List ℕ) (entries : List Entry) (entry : Entry) (old new : Checking) (walk : Walk)
    → (holds entry, walk.end) ≡ step_of old.walk.end text → walk.id ≡ old.walk.id → new.walk ≡ walk
    → GoesOver first place old texts entries → GoesOver first place new (texts ++ text ∷ []) (entries ++ entry ∷ [])
over_more first place texts text entries entry old new walk step ids walks over =
    let both = held old.walk.end walk.end text entry step in
    let more = line_more first texts entries old.walk.end text entry over.lines over.end_is both.0 in
    record {
      same_id = over.same_id;
      lines = more.0;
      end_is = subst (λ (e : ChainEnd). EndsAt e (read_on (end_at first) (texts ++ text ∷ [])).end) (sym (ap (λ (w : Walk). w.end) walks ∙ both.1)) more.1;
      id_is = ap (λ (w : Walk). w.id) walks ∙ ids ∙ over.id_is;
    }

after_over : (first place : Place) (texts : List (List ℕ)) (text : List ℕ) (entries : List Entry) (entry : Entry) (old : Checking) (walk : Walk)
    → (holds entry, walk.end) ≡ step_of old.walk.end text → GoesOver first place old texts entries → IsAfter first place walk.end.sum entry entries
after_over first place texts text entries entry old walk step over =
    let both = held old.walk.end walk.end text entry step in
    subst (λ (e : ChainEnd). IsAfter first place e.sum entry entries) (sym both.1)
    (is_after first place texts entries old.walk.end text entry over.same_id over.lines over.end_is both.0)

-- ---- the first line

goes_first : (first place : Place) (old new : Checking) → old.walk.id ≡ first.id → old.walk.end ≡ end_at first → place.id ≡ first.id → new.walk ≡ old.walk
    → GoesOver first place new [] []
unfolding read_on
goes_first first place old new ids ends same walks = record {
  same_id = same;
  lines = record { read = refl; all = refl };
  end_is = subst (λ (e : ChainEnd). EndsAt e (end_at first)) (sym (ap (λ (w : Walk). w.end) walks ∙ ends)) (record { number = refl; sum = refl; closed = λ sure. sure });
  id_is = ap (λ (w : Walk). w.id) walks ∙ ids;
}

pub at_first : (first place : Place) (old : Checking) → old.walk.end ≡ end_at first → place.id ≡ first.id
    → IsAt first place old.walk.end.turn.last old.walk.end.sum []
at_first first place old ends same =
    subst (λ (e : ChainEnd). IsAt first place e.turn.last e.sum []) (sym ends) (record { here = refl; same_id = same })

pub begun_checked : (began R : Register) (first place : Place) (old new : Checking) → old.walk.id ≡ first.id → old.walk.end ≡ end_at first → old.place.id ≡ old.walk.id
    → new.walk ≡ old.walk → (old.from ≡ None → new.from ≡ None)
    → (IsAt first place old.walk.end.turn.last old.walk.end.sum [] → old.from ≡ None → RanOver began first place R old [] → RunsOn began first place R new [])
    → old.from ≡ None → RanOver began first place R old [] → CheckedTo began first place R new []
begun_checked began R first place old new ids ends own walks begun went none over =
    let same : place.id ≡ first.id = ap (λ (p : Place). p.id) (sym over.of.place_is) ∙ own ∙ ids in
    record {
      entries = [];
      over = goes_first first place old new ids ends same walks;
      begun = begun none;
      ran = went (at_first first place old ends same) none over;
    }

pub begun_checked_from : (copied R : Register) (at first place : Place) (old new : Checking) → old.walk.id ≡ first.id → old.walk.end ≡ end_at first
    → old.place.id ≡ old.walk.id → at.id ≡ old.walk.id → new.walk ≡ old.walk
    → (IsAt first place old.walk.end.turn.last old.walk.end.sum [] → Waits copied at first place R old [] → ComesFrom copied at first place R new [] [])
    → (new.from ≡ Some at → new.missed ≡ None → old.walk.end.turn.last ≢ at.number)
    → (at.id ≡ first.id → Waits copied at first place R old []) → CheckedToFrom copied at first place R new []
begun_checked_from copied R at first place old new ids ends own own_from walks waited passed waits =
    let w = waits (own_from ∙ ids) in
    let same : place.id ≡ first.id = ap (λ (p : Place). p.id) (sym w.of.place_is) ∙ own ∙ ids in
    record {
      before = [];
      entries = [];
      over = goes_first first place old new ids ends same walks;
      come = waited (at_first first place old ends same) w;
      sought = λ some settled. (λ is. passed some settled (ap (λ (e : ChainEnd). e.turn.last) ends ∙ is), tt);
    }

-- nothing was run yet
pub fresh : (first : Place) (it : Checking) → it.last ≡ None → it.missed ≡ None → it.count ≡ 0 → it.is_met ≡ false
    → RanOver it.desk.book.register first it.place it.book.now.register it []
fresh first it last settled count met = record {
  of = record { place_is = refl; book_is = refl };
  ran = ran_none it.desk.book.register it.desk.book.register it.book.now.register first it.place it.last it.missed it.count it.is_met last settled refl count met;
}

-- ---- a line more

-- what comes of a line that is run, and of one that is not
abbrev pub Goes : Checking → Walk → Entry → Checking → Type 0
Goes old walk entry new = (began : Register) (first place : Place) (R : Register) (entries : List Entry) → old.from ≡ None
    → IsAfter first place walk.end.sum entry entries → RunsOn began first place R (record old { walk = walk }) entries
    → RunsOn began first place R new (entries ++ entry ∷ [])

abbrev pub StaysKept : Checking → Walk → Entry → Type 0
StaysKept old walk entry = (began : Register) (first place : Place) (R : Register) → old.from ≡ None
    → RunsOn began first place R (record old { walk = walk }) [] → withdraws (entry ∷ []) ≡ false

-- the line is not that of the copy's place, where that is still sought
abbrev pub Passed : Entry → Checking → Type 0
Passed entry new = (at : Place) → new.from ≡ Some at → new.missed ≡ None → NoneHas at.number (entry ∷ [])

-- where a sum was another, the line has to withdraw
abbrev pub SettledBy : Checking → Entry → Type 0
SettledBy old entry = (old.missed ≡ None) ⊎ (withdraws (entry ∷ []) ≡ true)

-- one that does withdraws a deed whose number is that of the copy's place
missed_number : (first at : Place) (before : List Entry) (entry : Entry) (missed : Option ℕ) → withdraws (entry ∷ []) ≡ true → IsOfLast entry (place_after first before).number
    → NoneHas at.number (entry ∷ []) → IfSome missed (IsMissed first before at) → (missed ≡ None → IsNotThere first before at) → IsNotThere first before at
missed_number first at before (carried receipt q reply) missed takes last passed is there = absurd (true≢false (sym takes))
missed_number first at before (withdrawn n) None takes last passed is there = there refl
missed_number first at before (withdrawn n) (Some number) takes last passed is there = absurd (passed.0 (last ∙ is.there ∙ is.number_is))

sought_on : (first at place : Place) (before : List Entry) (entry : Entry) (sum : List ℕ) (old new : Checking) → SettledBy old entry → IsAfter first place sum entry before
    → Passed entry new → IfSome old.missed (IsMissed first before at) → (old.missed ≡ None → IsNotThere first before at)
    → new.from ≡ Some at → new.missed ≡ None → IsNotThere first (before ++ entry ∷ []) at
sought_on first at place before entry sum old new settles is passed missed there some settled =
    let here : NoneHas at.number (entry ∷ []) = passed at some settled in
    let not : IsNotThere first before at = by here settles in
    (not.0, none_more at.number before entry not.1 here)
  where
    by : NoneHas at.number (entry ∷ []) → SettledBy old entry → IsNotThere first before at
    by here (inl none) = there none
    by here (inr takes) = missed_number first at before entry old.missed takes is.last here missed there

abbrev pub Waited : Checking → Walk → Entry → Checking → Type 0
Waited old walk entry new = (copied : Register) (at first place : Place) (R : Register) (before : List Entry)
    → IsAfter first place walk.end.sum entry before → Waits copied at first place R (record old { walk = walk }) before
    → ComesFrom copied at first place R new (before ++ entry ∷ []) []

pub line_checked : (began R : Register) (first place : Place) (texts : List (List ℕ)) (text : List ℕ) (entry : Entry) (old new : Checking) (walk : Walk)
    → (holds entry, walk.end) ≡ step_of old.walk.end text → walk.id ≡ old.walk.id → new.walk ≡ walk → (old.from ≡ None → new.from ≡ None) → Goes old walk entry new
    → CheckedTo began first place R old texts → CheckedTo began first place R new (texts ++ text ∷ [])
line_checked began R first place texts text entry old new walk step ids walks begun goes it = record {
  entries = it.entries ++ entry ∷ [];
  over = over_more first place texts text it.entries entry old new walk step ids walks it.over;
  begun = begun it.begun;
  ran = goes began first place R it.entries it.begun (after_over first place texts text it.entries entry old walk step it.over)
      (runs_walk began R first place old walk it.entries it.ran);
}

-- lines after a place are after it
after_place : (first at place : Place) (sum : List ℕ) (entry : Entry) (before entries : List Entry) → at ≡ place_after first before
    → IsAfter first place sum entry (before ++ entries) → IsAfter at place sum entry entries
after_place first at place sum entry before entries is_at is =
    let here : place_after at entries ≡ place_after first (before ++ entries) = ap (λ (s : Place). place_after s entries) is_at ∙ place_on first before entries in
    let there : place_after at (entries ++ entry ∷ []) ≡ place_after first ((before ++ entries) ++ entry ∷ []) =
    ap (λ (s : Place). place_after s (entries ++ entry ∷ [])) is_at ∙ place_on first before (entries ++ entry ∷ [])
    ∙ ap (place_after first) (sym (append_assoc before entries (entry ∷ []))) in
    record {
      last = subst (λ (p : Place). IsOfLast entry p.number) (sym here) is.last;
      opens = opens_after first at before entries entry is.opens;
      sum_is = is.sum_is ∙ ap (λ (p : Place). p.sum) (sym there);
      same_id = is.same_id ∙ ap (λ (p : Place). p.id) (sym is_at);
    }

waited_on : (copied R : Register) (at first place : Place) (texts : List (List ℕ)) (text : List ℕ) (entry : Entry) (old new : Checking) (walk : Walk) (before entries : List Entry)
    → (holds entry, walk.end) ≡ step_of old.walk.end text → walk.id ≡ old.walk.id → new.walk ≡ walk → Waited old walk entry new → Passed entry new → SettledBy old entry
    → GoesOver first place old texts (before ++ entries) → (old.from ≡ Some at → old.missed ≡ None → IsNotThere first before at) → entries ≡ []
    → Waits copied at first place R old before → CheckedToFrom copied at first place R new (texts ++ text ∷ [])
waited_on copied R at first place texts text entry old new walk before entries step ids walks waited passed settles over sought none w =
    let all : before ++ entries ≡ before = ap (λ (es : List Entry). before ++ es) none ∙ append-nil before in
    let so_far : GoesOver first place old texts before = subst (λ (es : List Entry). GoesOver first place old texts es) all over in
    record {
      before = before ++ entry ∷ [];
      entries = [];
      over = subst (λ (es : List Entry). GoesOver first place new (texts ++ text ∷ []) es) (sym (append-nil (before ++ entry ∷ [])))
          (over_more first place texts text before entry old new walk step ids walks so_far);
      come = waited copied at first place R before (after_over first place texts text before entry old walk step so_far)
          (waits_walk copied R at first place old walk before w);
      sought = sought_on first at place before entry walk.end.sum old new settles (after_over first place texts text before entry old walk step so_far) passed w.missed
          (sought w.from);
    }

run_on : (copied R : Register) (at first place : Place) (texts : List (List ℕ)) (text : List ℕ) (entry : Entry) (old new : Checking) (walk : Walk) (before entries : List Entry)
    → (holds entry, walk.end) ≡ step_of old.walk.end text → walk.id ≡ old.walk.id → new.walk ≡ walk → (old.from ≡ None → new.from ≡ None)
    → Goes old walk entry new → StaysKept old walk entry
    → GoesOver first place old texts (before ++ entries) → RunsFrom copied at first place R old before entries
    → CheckedToFrom copied at first place R new (texts ++ text ∷ [])
run_on copied R at first place texts text entry old new walk before entries step ids walks begun goes stays over runs =
    let is = after_place first at place walk.end.sum entry before entries runs.is_at
    (after_over first place texts text (before ++ entries) entry old walk step over) in
    let ran = runs_walk copied R at place old walk entries runs.ran in
    record {
      before = before;
      entries = entries ++ entry ∷ [];
      over = subst (λ (es : List Entry). GoesOver first place new (texts ++ text ∷ []) es) (append_assoc before entries (entry ∷ []))
          (over_more first place texts text (before ++ entries) entry old new walk step ids walks over);
      come = inr (record {
        begun = begun runs.begun;
        is_at = runs.is_at;
        kept = kept_more entries entry runs.kept (λ none.
            stays copied at place R runs.begun (subst (λ (es : List Entry). RunsOn copied at place R (record old { walk = walk }) es) none ran));
        ran = goes copied at place R entries runs.begun is ran;
      });
      sought = λ some settled. absurd (cc (sym (begun runs.begun) ∙ some));
    }

pub line_checked_from : (copied R : Register) (at first place : Place) (texts : List (List ℕ)) (text : List ℕ) (entry : Entry) (old new : Checking) (walk : Walk)
    → (holds entry, walk.end) ≡ step_of old.walk.end text → walk.id ≡ old.walk.id → new.walk ≡ walk → (old.from ≡ None → new.from ≡ None)
    → Goes old walk entry new → StaysKept old walk entry → Waited old walk entry new → Passed entry new → SettledBy old entry
    → CheckedToFrom copied at first place R old texts → CheckedToFrom copied at first place R new (texts ++ text ∷ [])
line_checked_from copied R at first place texts text entry old new walk step ids walks begun goes stays waited passed settles it = by it.come
  where
    by : ComesFrom copied at first place R old it.before it.entries → CheckedToFrom copied at first place R new (texts ++ text ∷ [])
    by (inl w) = waited_on copied R at first place texts text entry old new walk it.before it.entries step ids walks waited passed settles it.over it.sought w.0 w.1
    by (inr runs) = run_on copied R at first place texts text entry old new walk it.before it.entries step ids walks begun goes stays it.over runs

-- ---- a line that does not hold its sum

pub bad_over : (first place : Place) (texts : List (List ℕ)) (text : List ℕ) (entries : List Entry) (old : Checking) (after : ChainEnd) (n : ℕ)
    → (bad n, after) ≡ step_of old.walk.end text → GoesOver first place old texts entries → IsBadAfter first texts text n
bad_over first place texts text entries old after n step over =
    let both = not_held old.walk.end after text n step in
    record { entries = entries; lines = over.lines; end = old.walk.end; end_is = over.end_is; bad = both.0; number = both.1 }

-- ---- why there is no yes

line_else : (first : Place) (texts : List (List ℕ)) (text : List ℕ) (turn : Turn) (Is : CheckFault → Type 0) (fault : CheckFault)
    → (read_on (end_at first) (texts ++ text ∷ [])).end.turn ≡ turn → Settles turn fault → ((n : ℕ) → fault ≡ BadLine n → ⊥)
    → (fault ≡ TooShort → ⊥) → Is fault → RefusesLine first texts text Is fault
line_else first texts text turn Is OtherRegister same settles never_bad never_short is = is
line_else first texts text turn Is (BadLine n) same settles never_bad never_short is = absurd (never_bad n refl)
line_else first texts text turn Is (Reply n) same settles never_bad never_short is = is
line_else first texts text turn Is (Differs n) same settles never_bad never_short is = (is, subst (λ (t : Turn). IsSettled t n) (sym same) settles)
line_else first texts text turn Is (Tables found) same settles never_bad never_short is = is
line_else first texts text turn Is TooShort same settles never_bad never_short is = absurd (never_short refl)
line_else first texts text turn Is NoMemory same settles never_bad never_short is = tt

-- what comes of a line that is run, and of one that is not
abbrev pub RunRefuses : Checking → Walk → Entry → CheckFault → Type 0
RunRefuses old walk entry fault = (began : Register) (first place : Place) (R : Register) (entries : List Entry) → old.from ≡ None
    → IsAfter first place walk.end.sum entry entries → RunsOn began first place R (record old { walk = walk }) entries
    → RefusesRun began first (entries ++ entry ∷ []) place R fault × Settles (turn_after entry) fault

abbrev pub WaitRefuses : Checking → Walk → Entry → CheckFault → Type 0
WaitRefuses old walk entry fault = (copied : Register) (at first place : Place) (R : Register) (before : List Entry)
    → IsAfter first place walk.end.sum entry before → Waits copied at first place R (record old { walk = walk }) before
    → RefusesFrom copied at first (before ++ entry ∷ []) [] place R fault × Settles (turn_after entry) fault

lines_on : (first place : Place) (texts : List (List ℕ)) (text : List ℕ) (entries : List Entry) (entry : Entry) (old : Checking) (walk : Walk)
    → (holds entry, walk.end) ≡ step_of old.walk.end text → GoesOver first place old texts entries → AreLines first (texts ++ text ∷ []) (entries ++ entry ∷ [])
lines_on first place texts text entries entry old walk step over =
    (line_more first texts entries old.walk.end text entry over.lines over.end_is (held old.walk.end walk.end text entry step).0).0

turn_on_text : (first place : Place) (texts : List (List ℕ)) (text : List ℕ) (entries : List Entry) (entry : Entry) (old : Checking) (walk : Walk)
    → (holds entry, walk.end) ≡ step_of old.walk.end text → GoesOver first place old texts entries
    → (read_on (end_at first) (texts ++ text ∷ [])).end.turn ≡ turn_after entry
turn_on_text first place texts text entries entry old walk step over =
    turn_there first texts entries old.walk.end text entry over.lines over.end_is (held old.walk.end walk.end text entry step).0

pub line_refused : (began R : Register) (first place : Place) (texts : List (List ℕ)) (text : List ℕ) (entry : Entry) (old : Checking) (walk : Walk) (fault : CheckFault)
    → (holds entry, walk.end) ≡ step_of old.walk.end text → RunRefuses old walk entry fault → CheckedTo began first place R old texts
    → Refuses began first texts text place R fault
line_refused began R first place texts text entry old walk fault step refuses it =
    let why : RefusesRun began first (it.entries ++ entry ∷ []) place R fault × Settles (turn_after entry) fault =
    refuses began first place R it.entries it.begun (after_over first place texts text it.entries entry old walk step it.over)
    (runs_walk began R first place old walk it.entries it.ran) in
    let cause = why.0 in
    line_else first texts text (turn_after entry) (IsRefused began first (texts ++ text ∷ []) place R) fault
    (turn_on_text first place texts text it.entries entry old walk step it.over) why.1
    (λ n is. subst (λ (f : CheckFault). RefusesRun began first (it.entries ++ entry ∷ []) place R f) is cause)
    (λ is. subst (λ (f : CheckFault). RefusesRun began first (it.entries ++ entry ∷ []) place R f) is cause) (record {
      entries = it.entries ++ entry ∷ [];
      lines = lines_on first place texts text it.entries entry old walk step it.over;
      cause = inl cause;
    })

-- from a copy, with these lines after its place
pub record RefusedWith (copied R : Register) (at first place : Place) (texts : List (List ℕ)) (fault : CheckFault) : Type 0 where
  pub before : List Entry
  pub entries : List Entry
  pub lines : AreLines first texts (before ++ entries)
  pub cause : RefusesFrom copied at first before entries place R fault

never_from : (copied R : Register) (at first place : Place) (before entries : List Entry) (fault other : CheckFault)
    → (RefusesCopy first (before ++ entries) at place other → ⊥) → (RefusesRun copied at entries place R other → ⊥)
    → RefusesFrom copied at first before entries place R fault → fault ≡ other → ⊥
never_from copied R at first place before entries fault other copy run (inl is) same = copy (subst (λ (f : CheckFault). RefusesCopy first (before ++ entries) at place f) same is)
never_from copied R at first place before entries fault other copy run (inr is) same = run (subst (λ (f : CheckFault). RefusesRun copied at entries place R f) same is.1)

from_else : (copied R : Register) (at first place : Place) (texts : List (List ℕ)) (text : List ℕ) (turn : Turn) (fault : CheckFault)
    → (read_on (end_at first) (texts ++ text ∷ [])).end.turn ≡ turn → Settles turn fault → RefusedWith copied R at first place (texts ++ text ∷ []) fault → RefusesOfCopy copied at first texts text place R fault
from_else copied R at first place texts text turn fault same settles it =
    line_else first texts text turn (IsRefusedFrom copied at first (texts ++ text ∷ []) place R) fault same settles
    (λ n is. never_from copied R at first place it.before it.entries fault (BadLine n) (λ never. never) (λ never. never) it.cause is)
    (λ is. never_from copied R at first place it.before it.entries fault TooShort (λ never. never) (λ never. never) it.cause is)
    (record { before = it.before; entries = it.entries; lines = it.lines; cause = inl it.cause })

pub line_refused_from : (copied R : Register) (at first place : Place) (texts : List (List ℕ)) (text : List ℕ) (entry : Entry) (old : Checking) (walk : Walk) (fault : CheckFault)
    → (holds entry, walk.end) ≡ step_of old.walk.end text → RunRefuses old walk entry fault → WaitRefuses old walk entry fault
    → CheckedToFrom copied at first place R old texts → RefusesOfCopy copied at first texts text place R fault
line_refused_from copied R at first place texts text entry old walk fault step refuses waits it =
    let why = by it.come in
    from_else copied R at first place texts text (turn_after entry) fault (turn_on_text first place texts text (it.before ++ it.entries) entry old walk step it.over) why.1 why.0
  where
    waiting : (entries : List Entry) → GoesOver first place old texts (it.before ++ entries) → entries ≡ [] → Waits copied at first place R old it.before
        → RefusedWith copied R at first place (texts ++ text ∷ []) fault × Settles (turn_after entry) fault
    waiting entries over none w =
        let so_far : GoesOver first place old texts it.before =
        subst (λ (es : List Entry). GoesOver first place old texts es) (ap (λ (es : List Entry). it.before ++ es) none ∙ append-nil it.before) over in
        let why : RefusesFrom copied at first (it.before ++ entry ∷ []) [] place R fault × Settles (turn_after entry) fault =
        waits copied at first place R it.before (after_over first place texts text it.before entry old walk step so_far)
        (waits_walk copied R at first place old walk it.before w) in (
          record {
            before = it.before ++ entry ∷ [];
            entries = [];
            lines = subst (λ (es : List Entry). AreLines first (texts ++ text ∷ []) es) (sym (append-nil (it.before ++ entry ∷ [])))
                (lines_on first place texts text it.before entry old walk step so_far);
            cause = why.0;
          },
          why.1,
        )

    running : RunsFrom copied at first place R old it.before it.entries
        → RefusedWith copied R at first place (texts ++ text ∷ []) fault × Settles (turn_after entry) fault
    running runs =
        let is = after_place first at place walk.end.sum entry it.before it.entries runs.is_at
        (after_over first place texts text (it.before ++ it.entries) entry old walk step it.over) in
        let why : RefusesRun copied at (it.entries ++ entry ∷ []) place R fault × Settles (turn_after entry) fault =
        refuses copied at place R it.entries runs.begun is (runs_walk copied R at place old walk it.entries runs.ran) in (
          record {
            before = it.before;
            entries = it.entries ++ entry ∷ [];
            lines = subst (λ (es : List Entry). AreLines first (texts ++ text ∷ []) es) (append_assoc it.before it.entries (entry ∷ []))
                (lines_on first place texts text (it.before ++ it.entries) entry old walk step it.over);
            cause = inr (runs.is_at, why.0);
          },
          why.1,
        )

    by : ComesFrom copied at first place R old it.before it.entries → RefusedWith copied R at first place (texts ++ text ∷ []) fault × Settles (turn_after entry) fault
    by (inl w) = waiting it.entries it.over w.0 w.1
    by (inr runs) = running runs

-- ---- a further part

over_part : (first place : Place) (texts : List (List ℕ)) (entries : List Entry) (old : Checking) (walk : Walk) (found : Option Place)
    → (true, walk.end) ≡ part_of old.walk.id old.walk.end found → walk.id ≡ old.walk.id
    → GoesOver first place old texts entries → GoesOver first place (record old { walk = walk }) texts entries
over_part first place texts entries old walk found part ids over = record {
  same_id = over.same_id;
  lines = over.lines;
  end_is = part_ends old.walk.id old.walk.end walk.end (read_on (end_at first) texts).end found part over.end_is;
  id_is = ids ∙ over.id_is;
}

pub part_checked : (began R : Register) (first place : Place) (texts : List (List ℕ)) (old : Checking) (walk : Walk) (found : Option Place)
    → (true, walk.end) ≡ part_of old.walk.id old.walk.end found → walk.id ≡ old.walk.id
    → CheckedTo began first place R old texts → CheckedTo began first place R (record old { walk = walk }) texts
part_checked began R first place texts old walk found part ids it = record {
  entries = it.entries;
  over = over_part first place texts it.entries old walk found part ids it.over;
  begun = it.begun;
  ran = runs_walk began R first place old walk it.entries it.ran;
}

pub part_checked_from : (copied R : Register) (at first place : Place) (texts : List (List ℕ)) (old : Checking) (walk : Walk) (found : Option Place)
    → (true, walk.end) ≡ part_of old.walk.id old.walk.end found → walk.id ≡ old.walk.id
    → CheckedToFrom copied at first place R old texts → CheckedToFrom copied at first place R (record old { walk = walk }) texts
part_checked_from copied R at first place texts old walk found part ids it = record {
  before = it.before;
  entries = it.entries;
  over = over_part first place texts (it.before ++ it.entries) old walk found part ids it.over;
  come = by it.come;
  sought = it.sought;
}
  where
    by : ComesFrom copied at first place R old it.before it.entries → ComesFrom copied at first place R (record old { walk = walk }) it.before it.entries
    by (inl w) = inl (w.0, waits_walk copied R at first place old walk it.before w.1)
    by (inr runs) = inr (record {
      begun = runs.begun;
      is_at = runs.is_at;
      kept = runs.kept;
      ran = runs_walk copied R at place old walk it.entries runs.ran;
    })

-- ---- the end

ran_all : (began R : Register) (first place : Place) (new : Checking) (entries : List Entry) → new.last ≡ None → (ran : RanOver began first place R new entries)
    → ran.ran.done ≡ entries
ran_all began R first place new entries closed over =
    sym (over.ran.entries_are ∙ ap (λ (o : Option Carried). over.ran.done ++ open_entries o) closed ∙ append-nil over.ran.done)

pub all_checked : (began R : Register) (first place : Place) (texts : List (List ℕ)) (old new : Checking) → new.last ≡ None → new.is_met ≡ true
    → (old.from ≡ None → (entries : List Entry) → RanOver began first place R old entries → RanOver began first place R new entries)
    → CheckedTo began first place R old texts → IsChecked began first texts place R new.count
all_checked began R first place texts old new closed met close it =
    let over = close it.begun it.entries it.ran.over in
    let done = ran_all began R first place new it.entries closed over in
    let turns : in_turn (first_turn_at first) it.entries ≡ true =
    subst (λ (es : List Entry). in_turn (first_turn_at first) es ≡ true) it.over.lines.read (is_read texts (end_at first)).turns in
    let shallow : AllByRecursion IsShallow it.entries = subst (λ (es : List Entry). AllByRecursion IsShallow es) it.over.lines.read (read_are_shallow texts (end_at first)) in
    record {
      entries = it.entries;
      lines = it.over.lines;
      level = is_level began R first place it.entries turns shallow (over.ran.met met);
      left = new.desk.book.register;
      answered = subst (λ (es : List Entry). AreAnswered began es new.desk.book.register) done over.ran.answered;
      count_is = over.ran.count_is ∙ ap (λ (es : List Entry). length (deeds_of es)) done;
    }

pub all_checked_from : (copied R : Register) (at first place : Place) (texts : List (List ℕ)) (old new : Checking) → new.last ≡ None → new.is_met ≡ true → old.from ≡ None
    → ((entries : List Entry) → RanOver copied at place R old entries → RanOver copied at place R new entries)
    → CheckedToFrom copied at first place R old texts → IsCheckedFrom copied at first texts place R new.count
all_checked_from copied R at first place texts old new closed met begun close it = by it.come
  where
    all_run : RunsFrom copied at first place R old it.before it.entries → IsCheckedFrom copied at first texts place R new.count
    all_run runs =
        let over = close it.entries runs.ran.over in
        let done = ran_all copied R at place new it.entries closed over in
        let whole : in_turn (first_turn_at first) (it.before ++ it.entries) ≡ true =
        subst (λ (es : List Entry). in_turn (first_turn_at first) es ≡ true) it.over.lines.read (is_read texts (end_at first)).turns in
        let turns : in_turn (first_turn_at at) it.entries ≡ true =
        turns_closed (turn_behind (first_turn_at first) it.before) at.number it.entries (ap (λ (p : Place). p.number) runs.is_at) runs.kept
        (turns_end (first_turn_at first) it.before it.entries whole) in
        let shallow : AllByRecursion IsShallow it.entries =
        each_end IsShallow it.before it.entries (subst (λ (es : List Entry). AllByRecursion IsShallow es) it.over.lines.read (read_are_shallow texts (end_at first))) in
        record {
          before = it.before;
          entries = it.entries;
          lines = it.over.lines;
          is_at = runs.is_at;
          kept = runs.kept;
          level = is_level copied R at place it.entries turns shallow (over.ran.met met);
          left = new.desk.book.register;
          answered = subst (λ (es : List Entry). AreAnswered copied es new.desk.book.register) done over.ran.answered;
          count_is = over.ran.count_is ∙ ap (λ (es : List Entry). length (deeds_of es)) done;
        }

    by : ComesFrom copied at first place R old it.before it.entries → IsCheckedFrom copied at first texts place R new.count
    by (inl w) = let none : Some at ≡ None = sym w.1.from ∙ begun in absurd (cc none)
    by (inr runs) = all_run runs

-- ---- why there is none at the end

-- the sum of a place is another, and the lines end there
pub end_missed : (began R : Register) (first place : Place) (texts : List (List ℕ)) (old : Checking) (number : ℕ) → old.missed ≡ Some number
    → CheckedTo began first place R old texts → IsRefused began first texts place R (Differs number)
end_missed began R first place texts old number some it = record {
  entries = it.entries;
  lines = it.over.lines;
  cause = inl (inl (missed_here first it.entries place number (missed_else began R first place old number it.entries some it.ran.over)));
}

pub end_missed_from : (copied R : Register) (at first place : Place) (texts : List (List ℕ)) (old : Checking) (number : ℕ) → old.missed ≡ Some number
    → CheckedToFrom copied at first place R old texts → IsRefusedFrom copied at first texts place R (Differs number)
end_missed_from copied R at first place texts old number some it =
    record { before = it.before; entries = it.entries; lines = it.over.lines; cause = inl (by it.come) }
  where
    by : ComesFrom copied at first place R old it.before it.entries → RefusesFrom copied at first it.before it.entries place R (Differs number)
    by (inl w) = inl (subst (λ (es : List Entry). HasOtherSum first es at number)
        (sym (ap (λ (es : List Entry). it.before ++ es) w.0 ∙ append-nil it.before))
        (missed_here first it.before at number (copy_else copied R at first place old number it.before some w.1)))
    by (inr runs) = inr (runs.is_at, inl (missed_here at it.entries place number (missed_else copied R at place old number it.entries some runs.ran.over)))

-- the place was not met
not_there : (began R : Register) (first place : Place) (old new : Checking) (entries : List Entry) → new.last ≡ None → old.missed ≡ None → (old.is_met ≡ true → new.is_met ≡ true) → new.is_met ≡ false
    → RanOver began first place R new entries → RunsOn began first place R old entries → IsNotThere first entries place
not_there began R first place old new entries closed settled stays unmet over runs = (
  later_on first place old.is_met new.is_met entries old.missed stays (λ none. not_missed old.missed settled) runs.later unmet,
  subst (λ (es : List Entry). NoneHas place.number es) (ran_all began R first place new entries closed over) (over.ran.unmet unmet),
)

pub end_unmet : (began R : Register) (first place : Place) (texts : List (List ℕ)) (old new : Checking) → new.last ≡ None → old.missed ≡ None → (old.is_met ≡ true → new.is_met ≡ true)
    → new.is_met ≡ false
    → (old.from ≡ None → (entries : List Entry) → RanOver began first place R old entries → RanOver began first place R new entries)
    → CheckedTo began first place R old texts → IsRefused began first texts place R TooShort
end_unmet began R first place texts old new closed settled stays unmet close it = record {
  entries = it.entries;
  lines = it.over.lines;
  cause = inr (refl, not_there began R first place old new it.entries closed settled stays unmet (close it.begun it.entries it.ran.over) it.ran);
}

-- nor is the place of a copy
abbrev NotThereFrom : Place → Place → List Entry → List Entry → Place → Type 0
NotThereFrom at first before entries place = IsNotThere first (before ++ entries) at ⊎ ((at ≡ place_after first before) × IsNotThere at entries place)

refused_short : (copied R : Register) (at first place : Place) (texts : List (List ℕ)) (old : Checking) (it : CheckedToFrom copied at first place R old texts)
    → NotThereFrom at first it.before it.entries place → IsRefusedFrom copied at first texts place R TooShort
refused_short copied R at first place texts old it there = record { before = it.before; entries = it.entries; lines = it.over.lines; cause = inr (refl, there) }

still_sought : (copied R : Register) (at first place : Place) (texts : List (List ℕ)) (old : Checking) (it : CheckedToFrom copied at first place R old texts)
    → old.missed ≡ None → it.entries ≡ [] → Waits copied at first place R old it.before → NotThereFrom at first it.before it.entries place
still_sought copied R at first place texts old it settled none w =
    inl (subst (λ (es : List Entry). IsNotThere first es at) (sym (ap (λ (es : List Entry). it.before ++ es) none ∙ append-nil it.before)) (it.sought w.from settled))

pub end_unmet_from : (copied R : Register) (at first place : Place) (texts : List (List ℕ)) (old new : Checking) → new.last ≡ None → old.missed ≡ None → (old.is_met ≡ true → new.is_met ≡ true)
    → new.is_met ≡ false
    → (old.from ≡ None → (entries : List Entry) → RanOver copied at place R old entries → RanOver copied at place R new entries)
    → CheckedToFrom copied at first place R old texts → IsRefusedFrom copied at first texts place R TooShort
end_unmet_from copied R at first place texts old new closed settled stays unmet close it = refused_short copied R at first place texts old it (by it.come)
  where
    by : ComesFrom copied at first place R old it.before it.entries → NotThereFrom at first it.before it.entries place
    by (inl w) = still_sought copied R at first place texts old it settled w.0 w.1
    by (inr runs) =
        inr (runs.is_at, not_there copied R at place old new it.entries closed settled stays unmet (close runs.begun it.entries runs.ran.over) runs.ran)

-- it is still sought
pub end_sought : (copied R : Register) (at first place : Place) (texts : List (List ℕ)) (old : Checking) → IsSome old.from → old.missed ≡ None
    → CheckedToFrom copied at first place R old texts → IsRefusedFrom copied at first texts place R TooShort
end_sought copied R at first place texts old some settled it = refused_short copied R at first place texts old it (by it.come)
  where
    by : ComesFrom copied at first place R old it.before it.entries → NotThereFrom at first it.before it.entries place
    by (inl w) = still_sought copied R at first place texts old it settled w.0 w.1
    by (inr runs) = absurd (true≢false (sym (subst (λ (o : Option Place). IsSome o) runs.begun some)))

-- the open deed had another reply, or the tables differ
pub end_else : (began R : Register) (first place : Place) (texts : List (List ℕ)) (old : Checking) (fault : CheckFault)
    → (old.from ≡ None → (entries : List Entry) → RanOver began first place R old entries → RefusesRun began first entries place R fault)
    → CheckedTo began first place R old texts → IsRefused began first texts place R fault
end_else began R first place texts old fault close it = record { entries = it.entries; lines = it.over.lines; cause = inl (close it.begun it.entries it.ran.over) }

pub end_else_from : (copied R : Register) (at first place : Place) (texts : List (List ℕ)) (old : Checking) (fault : CheckFault) → IsSome old.last
    → (old.from ≡ None → (entries : List Entry) → RanOver copied at place R old entries → RefusesRun copied at entries place R fault)
    → CheckedToFrom copied at first place R old texts → IsRefusedFrom copied at first texts place R fault
end_else_from copied R at first place texts old fault some close it = by it.come
  where
    by : ComesFrom copied at first place R old it.before it.entries → IsRefusedFrom copied at first texts place R fault
    by (inl w) = absurd (true≢false (sym (subst (λ (o : Option Carried). IsSome o) w.1.last some)))
    by (inr runs) = record {
      before = it.before;
      entries = it.entries;
      lines = it.over.lines;
      cause = inl (inr (runs.is_at, close runs.begun it.entries runs.ran.over));
    }
