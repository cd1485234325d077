-- The lines that a chain holds, and one more.
use Rattle.std.proofs.Common.{◌≡◌, ◌∙◌, ◌==◌, ◌&&◌, ◌+◌, ℕ, Bool, true, false, cond, List, [], ◌∷◌, ◌++◌, Option, None, Some, refl, ap, sym, subst, option_and_then, bytes_eq}
use Rattle.std.proofs.lemmas.Bool.{and_from, and_parts, eqb-true, true≢false}
use Rattle.std.proofs.lemmas.Slice.Eq.{bytes_eq-Decides}
use Rattle.clr_journal.specs.Journals.{in_turn, is_next, next_place, turn_after}
use Rattle.clr_journal.specs.Laws.{turn_behind}
use Rattle.clr_journal.specs.Line.{Entry, carried, withdrawn, read_line}
use Rattle.clr_journal.specs.declared.reading.Turn.{Turn}
use Rattle.clr_rules.specs.declared.place.Place.{Place}
use Rattle.clr_chain.proofs.ReadingOn.{reads}
use Rattle.clr_chain.specs.Chain.{ReadOn, onto, read_on}
use Rattle.clr_chain.specs.First.{end_at, first_turn_at}
use Rattle.clr_chain.specs.Level.{place_after}
use Rattle.clr_chain.specs.Link.{end_after, if_holds, is_own, next_link}
use Rattle.clr_chain.specs.Sums.{sum_after, sum_behind}
use Rattle.clr_chain.specs.Walking.{Step, bad, goes_on, holds, part_at, part_of, step_by, step_of}
use Rattle.clr_chain.specs.declared.chain_end.ChainEnd.{ChainEnd}
use Rattle.clr_checking.specs.Checking.{AreLines, EndsAt}
use Rattle.clr_checking.specs.CheckingOn.{IsAfter, IsOfLast, IsOfOpen}
use Rattle.clr_checking.proofs.Places.{opens_here, sum_more}

-- ---- a line that holds its sum

pub record Holds (end : ChainEnd) (text : List ℕ) (entry : Entry) : Type 0 where
  pub next : is_next end.turn entry ≡ true
  pub own : is_own entry (sum_after end.sum entry) text ≡ true
  pub reads : read_line text ≡ Some entry

by_test : (end : ChainEnd) (text : List ℕ) (one entry : Entry) (b : Bool) → (is_next end.turn one && is_own one (sum_after end.sum one) text) ≡ b
    → read_line text ≡ Some one → cond b (Some one) None ≡ Some entry → Holds end text entry
by_test end text one entry true test is found =
    let same : one ≡ entry = cc in
    subst (λ (e : Entry). Holds end text e) same (record { next = (and_parts _ _ test).0; own = (and_parts _ _ test).1; reads = is })
by_test end text one entry false test is found = absurd (cc found)

by_line : (end : ChainEnd) (text : List ℕ) (entry : Entry) (line : Option Entry) → read_line text ≡ line → option_and_then (if_holds end text) line ≡ Some entry
    → Holds end text entry
by_line end text entry None is found = absurd (cc found)
by_line end text entry (Some one) is found =
    by_test end text one entry (is_next end.turn one && is_own one (sum_after end.sum one) text) refl is found

pub line_holds : (end : ChainEnd) (text : List ℕ) (entry : Entry) → next_link end text ≡ Some entry → Holds end text entry
unfolding next_link
line_holds end text entry is = by_line end text entry (read_line text) refl is

pub holds_line : (end : ChainEnd) (text : List ℕ) (entry : Entry) → Holds end text entry → next_link end text ≡ Some entry
unfolding next_link
holds_line end text entry it =
    ap (option_and_then (if_holds end text)) it.reads ∙ ap (λ (b : Bool). cond b (Some entry) None) (and_from _ _ it.next it.own)

-- ---- an end of a chain, and where a walk has come to

next_there : (walked read : ChainEnd) (entry : Entry) → EndsAt walked read → is_next walked.turn entry ≡ true → is_next read.turn entry ≡ true
next_there walked read (carried receipt q reply) ends next = subst (λ (n : ℕ). (receipt.number == n + 1) ≡ true) ends.number next
next_there walked read (withdrawn n) ends next =
    let parts = and_parts walked.turn.is_open (n == walked.turn.last) next in
    and_from _ _ (ends.closed parts.0) (subst (λ (m : ℕ). (n == m) ≡ true) ends.number parts.1)

-- a line that holds its sum in a walk does so among all lines
pub holds_there : (walked read : ChainEnd) (text : List ℕ) (entry : Entry) → EndsAt walked read → Holds walked text entry → Holds read text entry
holds_there walked read text entry ends it = record {
  next = next_there walked read entry ends it.next;
  own = subst (λ (sum : List ℕ). is_own entry (sum_after sum entry) text ≡ true) ends.sum it.own;
  reads = it.reads;
}

pub ends_after : (walked read : ChainEnd) (entry : Entry) → EndsAt walked read → EndsAt (end_after walked entry) (end_after read entry)
ends_after walked read entry ends = record { number = refl; sum = ap (λ (sum : List ℕ). sum_after sum entry) ends.sum; closed = λ sure. sure }

-- ---- reading on

abbrev pub grown : ReadOn → Entry → ReadOn
grown read entry = record { entries = read.entries ++ entry ∷ []; end = end_after read.end entry; left = [] }

-- a line more of lines that all hold their sums
pub read_more : (e : ChainEnd) (texts : List (List ℕ)) (text : List ℕ) (entry : Entry) → (read_on e texts).left ≡ [] → next_link (read_on e texts).end text ≡ Some entry
    → read_on e (texts ++ text ∷ []) ≡ grown (read_on e texts) entry
unfolding read_on
read_more e [] text entry all is = reads e text [] (Some entry) is
read_more e (t ∷ texts) text entry all is = by (next_link e t) refl (λ (e' : ChainEnd). read_more e' texts text entry)
  where
    by : (found : Option Entry) → next_link e t ≡ found
        → ((e' : ChainEnd) → (read_on e' texts).left ≡ [] → next_link (read_on e' texts).end text ≡ Some entry → read_on e' (texts ++ text ∷ []) ≡ grown (read_on e' texts) entry)
        → read_on e (t ∷ texts ++ text ∷ []) ≡ grown (read_on e (t ∷ texts)) entry
    by None none more =
        let left : t ∷ texts ≡ [] = sym (ap (λ (r : ReadOn). r.left) (reads e t texts None none)) ∙ all in
        absurd (cc left)
    by (Some one) some more =
        let here : read_on e (t ∷ texts) ≡ onto one (read_on (end_after e one) texts) = reads e t texts (Some one) some in
        reads e t (texts ++ text ∷ []) (Some one) some
        ∙ ap (onto one) (more (end_after e one) (sym (ap (λ (r : ReadOn). r.left) here) ∙ all)
        (ap (λ (r : ReadOn). next_link r.end text) (sym here) ∙ is))
        ∙ ap (λ (r : ReadOn). grown r entry) (sym here)

-- what lines that are read on are
pub record IsRead (e : ChainEnd) (read : ReadOn) : Type 0 where
  pub turns : in_turn e.turn read.entries ≡ true
  pub turn : read.end.turn ≡ turn_behind e.turn read.entries
  pub sum : read.end.sum ≡ sum_behind e.sum read.entries

none_read : (e : ChainEnd) (texts : List (List ℕ)) → IsRead e (record { entries = []; end = e; left = texts })
unfolding in_turn
none_read e texts = record { turns = refl; turn = refl; sum = refl }

one_read : (e : ChainEnd) (entry : Entry) (read : ReadOn) → is_next e.turn entry ≡ true → IsRead (end_after e entry) read → IsRead e (onto entry read)
unfolding in_turn
one_read e entry read next it = record { turns = and_from _ _ next it.turns; turn = it.turn; sum = it.sum }

pub is_read : (texts : List (List ℕ)) (e : ChainEnd) → IsRead e (read_on e texts)
unfolding read_on
is_read [] e = none_read e []
is_read (t ∷ texts) e = by (next_link e t) refl (λ (e' : ChainEnd). is_read texts e')
  where
    by : (found : Option Entry) → next_link e t ≡ found → ((e' : ChainEnd) → IsRead e' (read_on e' texts)) → IsRead e (read_on e (t ∷ texts))
    by None none more = subst (λ (r : ReadOn). IsRead e r) (sym (reads e t texts None none)) (none_read e (t ∷ texts))
    by (Some one) some more =
        subst (λ (r : ReadOn). IsRead e r) (sym (reads e t texts (Some one) some))
        (one_read e one (read_on (end_after e one) texts) (line_holds e t one some).next (more (end_after e one)))

-- ---- all lines of texts, and one more

pub line_more : (first : Place) (texts : List (List ℕ)) (entries : List Entry) (walked : ChainEnd) (text : List ℕ) (entry : Entry)
    → AreLines first texts entries → EndsAt walked (read_on (end_at first) texts).end → next_link walked text ≡ Some entry
    → AreLines first (texts ++ text ∷ []) (entries ++ entry ∷ []) × EndsAt (end_after walked entry) (read_on (end_at first) (texts ++ text ∷ [])).end
line_more first texts entries walked text entry lines ends is =
    let read : ReadOn = read_on (end_at first) texts in
    let there : next_link read.end text ≡ Some entry =
    holds_line read.end text entry (holds_there walked read.end text entry ends (line_holds walked text entry is)) in
    let more : read_on (end_at first) (texts ++ text ∷ []) ≡ grown read entry = read_more (end_at first) texts text entry lines.all there in (
      record {
        read = ap (λ (r : ReadOn). r.entries) more ∙ ap (λ (es : List Entry). es ++ entry ∷ []) lines.read;
        all = ap (λ (r : ReadOn). r.left) more;
      },
      subst (λ (r : ReadOn). EndsAt (end_after walked entry) r.end) (sym more) (ends_after walked read.end entry ends),
    )

-- and where they have come to with it
pub turn_there : (first : Place) (texts : List (List ℕ)) (entries : List Entry) (walked : ChainEnd) (text : List ℕ) (entry : Entry)
    → AreLines first texts entries → EndsAt walked (read_on (end_at first) texts).end → next_link walked text ≡ Some entry
    → (read_on (end_at first) (texts ++ text ∷ [])).end.turn ≡ turn_after entry
turn_there first texts entries walked text entry lines ends is =
    let read : ReadOn = read_on (end_at first) texts in
    let there : next_link read.end text ≡ Some entry =
    holds_line read.end text entry (holds_there walked read.end text entry ends (line_holds walked text entry is)) in
    ap (λ (r : ReadOn). r.end.turn) (read_more (end_at first) texts text entry lines.all there)

number_there : (read : ChainEnd) (entry : Entry) (number : ℕ) → read.turn.last ≡ number → is_next read.turn entry ≡ true → IsOfLast entry number
number_there read (carried receipt q reply) number is next = eqb-true receipt.number (read.turn.last + 1) next ∙ ap (λ (n : ℕ). n + 1) is
number_there read (withdrawn n) number is next = eqb-true n read.turn.last (and_parts read.turn.is_open (n == read.turn.last) next).1 ∙ is

opens_there : (first : Place) (entries : List Entry) (turn : Turn) (entry : Entry) → turn ≡ turn_behind (first_turn_at first) entries → is_next turn entry ≡ true
    → IsOfOpen entry first entries
opens_there first entries turn (carried receipt q reply) same next = tt
opens_there first entries turn (withdrawn n) same next =
    opens_here first entries n (ap (λ (t : Turn). t.is_open) (sym same) ∙ (and_parts turn.is_open (n == turn.last) next).0)

-- the line comes after them
pub is_after : (first place : Place) (texts : List (List ℕ)) (entries : List Entry) (walked : ChainEnd) (text : List ℕ) (entry : Entry) → place.id ≡ first.id
    → AreLines first texts entries → EndsAt walked (read_on (end_at first) texts).end → next_link walked text ≡ Some entry
    → IsAfter first place (end_after walked entry).sum entry entries
is_after first place texts entries walked text entry same lines ends is =
    let read : ReadOn = read_on (end_at first) texts in
    let it = is_read texts (end_at first) in
    let there = holds_there walked read.end text entry ends (line_holds walked text entry is) in
    let number : read.end.turn.last ≡ (place_after first entries).number =
    ap (λ (t : Turn). t.last) it.turn ∙ ap (λ (es : List Entry). (place_after first es).number) lines.read in
    let sum : walked.sum ≡ sum_behind first.sum entries = ends.sum ∙ it.sum ∙ ap (sum_behind first.sum) lines.read in
    record {
      last = number_there read.end entry (place_after first entries).number number there.next;
      opens = opens_there first entries read.end.turn entry (it.turn ∙ ap (turn_behind (first_turn_at first)) lines.read) there.next;
      sum_is = ap (λ (s : List ℕ). sum_after s entry) sum ∙ sym (sum_more first.sum entries entry);
      same_id = same;
    }

-- ---- the step of a walk

pub held : (walked after : ChainEnd) (text : List ℕ) (entry : Entry) → (holds entry, after) ≡ step_of walked text
    → (next_link walked text ≡ Some entry) × (after ≡ end_after walked entry)
held walked after text entry is = by (next_link walked text) refl is
  where
    by : (found : Option Entry) → next_link walked text ≡ found → (holds entry, after) ≡ step_by walked text found
        → (next_link walked text ≡ Some entry) × (after ≡ end_after walked entry)
    by None none step =
        let seen : holds entry ≡ bad (next_place walked.turn.last) = ap (λ (p : Step × ChainEnd). p.0) step in
        absurd (cc seen)
    by (Some one) some step =
        let seen : holds entry ≡ holds one = ap (λ (p : Step × ChainEnd). p.0) step in
        let same : entry ≡ one = cc seen in
        (some ∙ ap (λ (e : Entry). Some e) (sym same), ap (λ (p : Step × ChainEnd). p.1) step ∙ ap (end_after walked) (sym same))

pub not_held : (walked after : ChainEnd) (text : List ℕ) (n : ℕ) → (bad n, after) ≡ step_of walked text
    → (next_link walked text ≡ None) × (n ≡ next_place walked.turn.last)
not_held walked after text n is = by (next_link walked text) refl is
  where
    by : (found : Option Entry) → next_link walked text ≡ found → (bad n, after) ≡ step_by walked text found
        → (next_link walked text ≡ None) × (n ≡ next_place walked.turn.last)
    by None none step =
        let seen : bad n ≡ bad (next_place walked.turn.last) = ap (λ (p : Step × ChainEnd). p.0) step in
        (none, cc seen)
    by (Some one) some step =
        let seen : bad n ≡ holds one = ap (λ (p : Step × ChainEnd). p.0) step in
        absurd (cc seen)

-- ---- a further part

pub part_ends : (id : List ℕ) (walked after read : ChainEnd) (found : Option Place) → (true, after) ≡ part_of id walked found → EndsAt walked read → EndsAt after read
part_ends id walked after read None is ends = absurd (true≢false (ap (λ (p : Bool × ChainEnd). p.0) is))
part_ends id walked after read (Some first) is ends = by (goes_on id walked first) refl is
  where
    by : (b : Bool) → goes_on id walked first ≡ b → (true, after) ≡ part_at walked b first → EndsAt after read
    by false goes step = absurd (true≢false (ap (λ (p : Bool × ChainEnd). p.0) step))
    by true goes step =
        let same : after ≡ end_at first = ap (λ (p : Bool × ChainEnd). p.1) step in
        let parts = and_parts (bytes_eq first.id id) (first.number == walked.turn.last && bytes_eq first.sum walked.sum) goes in
        let two = and_parts (first.number == walked.turn.last) (bytes_eq first.sum walked.sum) parts.1 in
        subst (λ (e : ChainEnd). EndsAt e read) (sym same) (record {
          number = eqb-true first.number walked.turn.last two.0 ∙ ends.number;
          sum = (bytes_eq-Decides first.sum walked.sum).0 two.1 ∙ ends.sum;
          closed = λ sure. absurd (true≢false (sym sure));
        })
