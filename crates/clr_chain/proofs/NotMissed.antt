-- What comes after the last line that holds its sum may be other lines, if they say nothing.
use Rattle.std.proofs.Common.{◌≡◌, ◌∙◌, ◌+◌, ◌<◌, ◌≤◌, ℕ, zero, suc, Bool, true, false, cond, List, [], ◌∷◌, ◌++◌, length, take, drop, Option, None, Some, refl, ap, ap₂, sym, subst, arith, append-nil, length-append, take-append-drop}
use Rattle.std.proofs.lemmas.Bool.{or_parts}
use Rattle.std.specs.List.{list_any}
use Rattle.std.specs.Prelude.{bytes_eq, nat_lt, ◌==◌, ⊤}
use Rattle.clr_journal.specs.Journals.{next_place, turn_after, withdraws}
use Rattle.clr_journal.specs.Line.{Entry, carried, read_line, withdrawn}
use Rattle.clr_chain.proofs.Cutting.{EndsWith, read_on-ends}
use Rattle.clr_chain.proofs.ReadingOn.{reads}
use Rattle.clr_chain.specs.Chain.{ReadOn, onto, read_on}
use Rattle.clr_chain.specs.Finding.{Found, Sought, ahead, bad_line, differs, end_of, found_after, found_at_first, found_by, found_short, met, or_earlier, passed, says_accepted, sought, sought_at, sought_below, sought_here, too_short, unmet}
use Rattle.clr_chain.specs.First.{end_at}
use Rattle.clr_chain.specs.Link.{end_after, is_own, next_link}
use Rattle.clr_chain.specs.Near.{SayNothing, is_unmet, stopped}
use Rattle.clr_chain.specs.declared.chain_end.ChainEnd.{ChainEnd}
use Rattle.clr_rules.specs.declared.place.Place.{Place}

-- the same lines, with other texts after them
abbrev pub with_left : List (List ℕ) → ReadOn → ReadOn
with_left left read = record { entries = read.entries; end = read.end; left = left }

-- ---- what is read on

no_longer : (texts left : List (List ℕ)) → EndsWith texts left → length left ≤ length texts
no_longer texts left ends =
    let n = length-append ends.kept left in
    let size = ap length ends.is in omega (arith, n, size)

stops_by : (e : ChainEnd) (text : List ℕ) (rest : List (List ℕ)) (found : Option Entry) → next_link e text ≡ found → (read_on e (text ∷ rest)).left ≡ text ∷ rest
    → read_on e (text ∷ rest) ≡ stopped e (text ∷ rest)
stops_by e text rest None is same = reads e text rest None is
stops_by e text rest (Some entry) is same =
    let inner : ReadOn = read_on (end_after e entry) rest in
    let all : length inner.left ≡ length (text ∷ rest) = ap (λ (r : ReadOn). length r.left) (sym (reads e text rest (Some entry) is)) ∙ ap length same in
    let short = no_longer rest inner.left (read_on-ends rest (end_after e entry)) in
    absurd (omega (arith, all, short))

-- where all texts are left, nothing is read on
stops_at : (left : List (List ℕ)) (e : ChainEnd) → (read_on e left).left ≡ left → read_on e left ≡ stopped e left
unfolding read_on
stops_at [] e same = refl
stops_at (text ∷ rest) e same = stops_by e text rest (next_link e text) refl same

abbrev StopsWell : ChainEnd → List (List ℕ) → Type 0
StopsWell e texts = read_on e texts ≡ stopped e texts

abbrev Swaps : List (List ℕ) → List (List ℕ) → List (List ℕ) → Type 0
Swaps left others mid = (e : ChainEnd) (read : ReadOn) → read_on e (mid ++ left) ≡ read → read.left ≡ left → StopsWell read.end others
    → read_on e (mid ++ others) ≡ with_left others read

swap_by : (left others : List (List ℕ)) (m : List ℕ) (ms : List (List ℕ)) (e : ChainEnd) (read : ReadOn) (found : Option Entry) → next_link e m ≡ found
    → Swaps left others ms → read_on e (m ∷ (ms ++ left)) ≡ read → read.left ≡ left → StopsWell read.end others
    → read_on e (m ∷ (ms ++ others)) ≡ with_left others read
swap_by left others m ms e read None at more is same next =
    let whole : length (m ∷ (ms ++ left)) ≡ length left =
    ap (λ (r : ReadOn). length r.left) (sym (reads e m (ms ++ left) None at) ∙ is) ∙ ap length same in
    let n = length-append ms left in
    absurd (omega (arith, whole, n))
swap_by left others m ms e read (Some entry) at more is same next =
    let inner : ReadOn = read_on (end_after e entry) (ms ++ left) in
    let whole : onto entry inner ≡ read = sym (reads e m (ms ++ left) (Some entry) at) ∙ is in
    let stays : StopsWell inner.end others = subst (λ (r : ReadOn). StopsWell r.end others) (sym whole) next in
    let rest : read_on (end_after e entry) (ms ++ others) ≡ with_left others inner =
    more (end_after e entry) inner refl (ap (λ (r : ReadOn). r.left) whole ∙ same) stays in
    reads e m (ms ++ others) (Some entry) at ∙ ap (onto entry) rest ∙ ap (with_left others) whole

swapped : (left others mid : List (List ℕ)) → Swaps left others mid
swapped left others [] e read is same next =
    let whole : read ≡ stopped e left = sym is ∙ stops_at left e (ap (λ (r : ReadOn). r.left) is ∙ same) in
    subst (λ (r : ReadOn). StopsWell r.end others → read_on e others ≡ with_left others r) (sym whole) (λ (h : StopsWell e others). h) next
swapped left others (m ∷ ms) e read is same next = swap_by left others m ms e read (next_link e m) refl (swapped left others ms) is same next

abbrev StopsThere : ReadOn → Type 0
StopsThere read = StopsWell read.end read.left

there_by : (e : ChainEnd) (text : List ℕ) (rest : List (List ℕ)) (found : Option Entry) → next_link e text ≡ found → ((e' : ChainEnd) → StopsThere (read_on e' rest))
    → StopsThere (read_on e (text ∷ rest))
there_by e text rest None is more = subst StopsThere (sym (reads e text rest None is)) (reads e text rest None is)
there_by e text rest (Some entry) is more = subst StopsThere (sym (reads e text rest (Some entry) is)) (more (end_after e entry))

-- what is left is not read on
stops_there : (texts : List (List ℕ)) (e : ChainEnd) → StopsThere (read_on e texts)
unfolding read_on
stops_there [] e = refl
stops_there (text ∷ rest) e = there_by e text rest (next_link e text) refl (stops_there rest)

-- ---- what is sought

neither : (a b : Sought) → or_earlier a b ≡ unmet → (a ≡ unmet) × (b ≡ unmet)
neither (met is_own turn after) b h = cc h
neither (passed number after) b h = cc h
neither unmet b h = (refl, h)

-- that a line is none of those that are looked for does not rest on the texts after it
below_by : (b : Bool) (number : ℕ) (rest rest' : List (List ℕ)) → cond b (passed number rest) unmet ≡ unmet → cond b (passed number rest') unmet ≡ unmet
below_by true number rest rest' h = cc h
below_by false number rest rest' h = refl

either_by : (b : Bool) (m m' s s' : Sought) → (m ≡ unmet → m' ≡ unmet) → (s ≡ unmet → s' ≡ unmet) → cond b m s ≡ unmet → cond b m' s' ≡ unmet
either_by true m m' s s' one two h = one h
either_by false m m' s s' one two h = two h

here_unmet : (b : Bool) (entry : Entry) (rest rest' : List (List ℕ)) → sought_here b entry rest ≡ unmet → sought_here b entry rest' ≡ unmet
here_unmet true entry rest rest' h = cc h
here_unmet false (carried receipt q reply) rest rest' h = cc h
here_unmet false (withdrawn n) rest rest' h = refl

at_unmet : (place : Place) (text : List ℕ) (rest rest' : List (List ℕ)) (found : Option Entry) → sought_at place text rest found ≡ unmet → sought_at place text rest' found ≡ unmet
at_unmet place text rest rest' None h = refl
at_unmet place text rest rest' (Some entry) h =
    let number = (turn_after entry).last in
    let own = is_own entry place.sum text in
    either_by (number == place.number) (sought_here own entry rest) (sought_here own entry rest') (sought_below place number rest) (sought_below place number rest')
    (here_unmet own entry rest rest') (below_by (nat_lt number place.number) number rest rest') h

unmet_swap : (place : Place) (kept left others : List (List ℕ)) → sought place (kept ++ left) ≡ unmet → sought place others ≡ unmet → sought place (kept ++ others) ≡ unmet
unfolding sought
unmet_swap place [] left others h none = none
unmet_swap place (k ∷ kept) left others h none =
    let both = neither (sought place (kept ++ left)) (sought_at place k (kept ++ left) (read_line k)) h in
    ap₂ or_earlier (unmet_swap place kept left others both.0 none) (at_unmet place k (kept ++ left) (kept ++ others) (read_line k) both.1)

-- a front of texts that are not looked for is not either
pub unmet_front : (place : Place) (texts : List (List ℕ)) (k : ℕ) → sought place texts ≡ unmet → sought place (take k texts) ≡ unmet
unfolding sought
unmet_front place texts k h =
    ap (sought place) (sym (append-nil (take k texts)))
    ∙ unmet_swap place (take k texts) (drop k texts) [] (ap (sought place) (take-append-drop k texts) ∙ h) refl

-- what is met is met whatever comes before
pub stays_met : (place : Place) (kept left : List (List ℕ)) (s : Sought) → sought place left ≡ s → is_unmet s ≡ false → sought place (kept ++ left) ≡ s
unfolding sought
stays_met place [] left s is some = is
stays_met place (k ∷ kept) left (met is_own turn after) is some =
    ap (λ t. or_earlier t (sought_at place k (kept ++ left) (read_line k))) (stays_met place kept left (met is_own turn after) is some)
stays_met place (k ∷ kept) left (passed number after) is some =
    ap (λ t. or_earlier t (sought_at place k (kept ++ left) (read_line k))) (stays_met place kept left (passed number after) is some)
stays_met place (k ∷ kept) left unmet is some = cc some

-- ---- with other texts after what is looked for

abbrev SoughtSwaps : List (List ℕ) → List (List ℕ) → Sought → Sought → Type 0
SoughtSwaps left others (met is_own turn after) s = (mid : List (List ℕ)) × (after ≡ mid ++ left) × (s ≡ met is_own turn (mid ++ others))
SoughtSwaps left others (passed number after) s = ⊤
SoughtSwaps left others unmet s = s ≡ unmet

below_swaps : (left others : List (List ℕ)) (b : Bool) (number : ℕ) (rest rest' : List (List ℕ)) → SoughtSwaps left others (cond b (passed number rest) unmet) (cond b (passed number rest') unmet)
below_swaps left others true number rest rest' = tt
below_swaps left others false number rest rest' = refl

either_swaps : (left others : List (List ℕ)) (b : Bool) (m m' s s' : Sought) → SoughtSwaps left others m m' → SoughtSwaps left others s s' → SoughtSwaps left others (cond b m s) (cond b m' s')
either_swaps left others true m m' s s' one two = one
either_swaps left others false m m' s s' one two = two

here_swaps : (left others : List (List ℕ)) (b : Bool) (entry : Entry) (kept : List (List ℕ)) → SoughtSwaps left others (sought_here b entry (kept ++ left)) (sought_here b entry (kept ++ others))
here_swaps left others true entry kept = (kept, refl, refl)
here_swaps left others false (carried receipt q reply) kept = (kept, refl, refl)
here_swaps left others false (withdrawn n) kept = refl

at_swaps : (left others : List (List ℕ)) (place : Place) (text : List ℕ) (kept : List (List ℕ)) (found : Option Entry)
    → SoughtSwaps left others (sought_at place text (kept ++ left) found) (sought_at place text (kept ++ others) found)
at_swaps left others place text kept None = refl
at_swaps left others place text kept (Some entry) =
    let number = (turn_after entry).last in
    let own = is_own entry place.sum text in
    either_swaps left others (number == place.number) (sought_here own entry (kept ++ left)) (sought_here own entry (kept ++ others))
    (sought_below place number (kept ++ left)) (sought_below place number (kept ++ others)) (here_swaps left others own entry kept)
    (below_swaps left others (nat_lt number place.number) number (kept ++ left) (kept ++ others))

later_swaps : (left others : List (List ℕ)) (s s' h h' : Sought) → SoughtSwaps left others s s' → SoughtSwaps left others h h'
    → SoughtSwaps left others (or_earlier s h) (or_earlier s' h')
later_swaps left others (met is_own turn after) s' h h' (mid, is, e) here = (mid, is, ap (λ t. or_earlier t h') e)
later_swaps left others (passed number after) s' h h' more here = tt
later_swaps left others unmet s' h h' e here = subst (λ t. SoughtSwaps left others h (or_earlier t h')) (sym e) here

sought_swaps : (place : Place) (left others kept : List (List ℕ)) → sought place left ≡ unmet → sought place others ≡ unmet
    → SoughtSwaps left others (sought place (kept ++ left)) (sought place (kept ++ others))
unfolding sought
sought_swaps place left others [] none none' = subst (λ s. SoughtSwaps left others s (sought place others)) (sym none) none'
sought_swaps place left others (k ∷ kept) none none' =
    later_swaps left others (sought place (kept ++ left)) (sought place (kept ++ others)) (sought_at place k (kept ++ left) (read_line k))
    (sought_at place k (kept ++ others) (read_line k)) (sought_swaps place left others kept none none') (at_swaps left others place k kept (read_line k))

-- ---- what is met leaves fewer texts

abbrev LeavesFewer : ℕ → Sought → Type 0
LeavesFewer n (met is_own turn after) = length after < n
LeavesFewer n (passed number after) = ⊤
LeavesFewer n unmet = ⊤

either_fewer : (n : ℕ) (b : Bool) (s t : Sought) → LeavesFewer n s → LeavesFewer n t → LeavesFewer n (cond b s t)
either_fewer n true s t one two = one
either_fewer n false s t one two = two

below_fewer : (n : ℕ) (place : Place) (number : ℕ) (rest : List (List ℕ)) → LeavesFewer n (sought_below place number rest)
below_fewer n place number rest = either_fewer n (nat_lt number place.number) (passed number rest) unmet tt tt

here_fewer : (b : Bool) (entry : Entry) (text : List ℕ) (rest : List (List ℕ)) → LeavesFewer (length (text ∷ rest)) (sought_here b entry rest)
here_fewer true entry text rest = omega arith
here_fewer false (carried receipt q reply) text rest = omega arith
here_fewer false (withdrawn n) text rest = tt

at_fewer : (place : Place) (text : List ℕ) (rest : List (List ℕ)) (found : Option Entry) → LeavesFewer (length (text ∷ rest)) (sought_at place text rest found)
at_fewer place text rest None = tt
at_fewer place text rest (Some entry) =
    let number = (turn_after entry).last in
    let own = is_own entry place.sum text in
    either_fewer (length (text ∷ rest)) (number == place.number) (sought_here own entry rest) (sought_below place number rest)
    (here_fewer own entry text rest) (below_fewer (length (text ∷ rest)) place number rest)

later_fewer : (text : List ℕ) (rest : List (List ℕ)) (later here : Sought) → LeavesFewer (length rest) later → LeavesFewer (length (text ∷ rest)) here
    → LeavesFewer (length (text ∷ rest)) (or_earlier later here)
later_fewer text rest (met is_own turn after) here more one = omega (arith, more)
later_fewer text rest (passed number after) here more one = tt
later_fewer text rest unmet here more one = one

leaves_fewer : (place : Place) (texts : List (List ℕ)) → LeavesFewer (length texts) (sought place texts)
unfolding sought
leaves_fewer place [] = tt
leaves_fewer place (text ∷ rest) =
    later_fewer text rest (sought place rest) (sought_at place text rest (read_line text)) (leaves_fewer place rest) (at_fewer place text rest (read_line text))

-- ---- what is found

record GoesOn (number : ℕ) (from read : ReadOn) : Type 0 where
  is : from ≡ read
  keeps : withdraws from.entries ≡ false
  none : list_any says_accepted from.left ≡ false

goes_by : (number : ℕ) (from read : ReadOn) (b c : Bool) → withdraws from.entries ≡ b → list_any says_accepted from.left ≡ c
    → cond b (differs number) (cond c (bad_line (next_place from.end.turn.last)) (ahead from)) ≡ ahead read → GoesOn number from read
goes_by number from read true c e f h = cc h
goes_by number from read false true e f h = cc h
goes_by number from read false false e f h = let same : from ≡ read = cc h in record { is = same; keeps = e; none = f }

goes_on : (number : ℕ) (from read : ReadOn) → found_after number from ≡ ahead read → GoesOn number from read
goes_on number from read h = goes_by number from read (withdraws from.entries) (list_any says_accepted from.left) refl refl h

ahead_by : (number : ℕ) (read : ReadOn) (b c : Bool) → b ≡ false → c ≡ false → cond b (differs number) (cond c (bad_line (next_place read.end.turn.last)) (ahead read)) ≡ ahead read
ahead_by number read true c e f = cc e
ahead_by number read false true e f = cc f
ahead_by number read false false e f = refl

is_ahead : (number : ℕ) (read : ReadOn) → withdraws read.entries ≡ false → list_any says_accepted read.left ≡ false → found_after number read ≡ ahead read
is_ahead number read keeps none = ahead_by number read (withdraws read.entries) (list_any says_accepted read.left) keeps none

short_by : (number : ℕ) (b : Bool) (read : ReadOn) → cond b (bad_line number) too_short ≡ ahead read → ⊥
short_by number true read h = cc h
short_by number false read h = cc h

never_short : (number : ℕ) (after : List (List ℕ)) (read : ReadOn) → found_short number after ≡ ahead read → ⊥
never_short number after read h = short_by (next_place number) (list_any says_accepted after) read h

-- at the first line
first_by : (number : ℕ) (from : ReadOn) (b c : Bool) (other : Found) (read : ReadOn) → ((r : ReadOn) → other ≡ ahead r → ⊥)
    → cond b (cond c (found_after number from) (differs number)) other ≡ ahead read → (b ≡ true) × (c ≡ true) × (found_after number from ≡ ahead read)
first_by number from true true other read never h = (refl, refl, h)
first_by number from true false other read never h = cc h
first_by number from false c other read never h = absurd (never read h)

lower_by : (b : Bool) (number : ℕ) (after : List (List ℕ)) (read : ReadOn) → cond b (found_short number after) too_short ≡ ahead read → ⊥
lower_by true number after read h = never_short number after read h
lower_by false number after read h = cc h

record AtFirst (place first : Place) (links : List (List ℕ)) (read : ReadOn) : Type 0 where
  number : (first.number == place.number) ≡ true
  sum : bytes_eq first.sum place.sum ≡ true
  found : found_after place.number (read_on (end_at place) links) ≡ ahead read

at_first : (place first : Place) (links : List (List ℕ)) (read : ReadOn) → found_at_first place first links ≡ ahead read → AtFirst place first links read
at_first place first links read h =
    let all = first_by place.number (read_on (end_at place) links) (first.number == place.number) (bytes_eq first.sum place.sum)
    (cond (nat_lt first.number place.number) (found_short first.number links) too_short) read
    (lower_by (nat_lt first.number place.number) first.number links) h in
    record { number = all.0; sum = all.1; found = all.2 }

pub from_first : (place first : Place) (links : List (List ℕ)) (found : Found) → (first.number == place.number) ≡ true → bytes_eq first.sum place.sum ≡ true
    → found_after place.number (read_on (end_at place) links) ≡ found → found_at_first place first links ≡ found
from_first place first links found number sum is =
    ap₂ (λ b c. cond b (cond c (found_after place.number (read_on (end_at place) links)) (differs place.number))
    (cond (nat_lt first.number place.number) (found_short first.number links) too_short)) number sum ∙ is

-- ---- no line that is left is looked for

left_by : (place first : Place) (kept left : List (List ℕ)) (read : ReadOn) (s : Sought) → sought place left ≡ s
    → found_by place first (kept ++ left) (sought place (kept ++ left)) ≡ ahead read → read.left ≡ left → sought place left ≡ unmet
left_by place first kept left read (met true turn after) is h same =
    let met_so = stays_met place kept left (met true turn after) is refl in
    let found : found_after place.number (read_on (end_of place turn) after) ≡ ahead read =
    ap (found_by place first (kept ++ left)) (sym met_so) ∙ h in
    let on = goes_on place.number (read_on (end_of place turn) after) read found in
    let fewer : length after < length left = subst (LeavesFewer (length left)) is (leaves_fewer place left) in
    let short = no_longer after (read_on (end_of place turn) after).left (read_on-ends after (end_of place turn)) in
    let size : length (read_on (end_of place turn) after).left ≡ length left = ap (λ (r : ReadOn). length r.left) on.is ∙ ap length same in
    absurd (omega (arith, fewer, short, size))
left_by place first kept left read (met false turn after) is h same =
    let met_so = stays_met place kept left (met false turn after) is refl in
    let found : differs place.number ≡ ahead read = ap (found_by place first (kept ++ left)) (sym met_so) ∙ h in cc found
left_by place first kept left read (passed number after) is h same =
    let met_so = stays_met place kept left (passed number after) is refl in
    absurd (never_short number after read (ap (found_by place first (kept ++ left)) (sym met_so) ∙ h))
left_by place first kept left read unmet is h same = is

pub left_unmet : (place first : Place) (kept left : List (List ℕ)) (read : ReadOn) → found_by place first (kept ++ left) (sought place (kept ++ left)) ≡ ahead read
    → read.left ≡ left → sought place left ≡ unmet
left_unmet place first kept left read h same = left_by place first kept left read (sought place left) refl h same

-- ---- so the same is found with others

swapped_by : (place first : Place) (left others kept : List (List ℕ)) (read : ReadOn) (s s' : Sought) → SoughtSwaps left others s s' → found_by place first (kept ++ left) s ≡ ahead read
    → read.left ≡ left → SayNothing place read.end others → found_by place first (kept ++ others) s' ≡ ahead (with_left others read)
swapped_by place first left others kept read (met true turn after) s' (mid, is, e) h same nothing =
    let on = goes_on place.number (read_on (end_of place turn) after) read h in
    let read_mid : read_on (end_of place turn) (mid ++ left) ≡ read = ap (read_on (end_of place turn)) (sym is) ∙ on.is in
    let read_so : read_on (end_of place turn) (mid ++ others) ≡ with_left others read =
    swapped left others mid (end_of place turn) read read_mid same nothing.next in
    let keeps : withdraws read.entries ≡ false = ap (λ (r : ReadOn). withdraws r.entries) (sym on.is) ∙ on.keeps in
    ap (found_by place first (kept ++ others)) e ∙ ap (found_after place.number) read_so ∙ is_ahead place.number (with_left others read) keeps nothing.none
swapped_by place first left others kept read (met false turn after) s' swaps h same nothing = cc h
swapped_by place first left others kept read (passed number after) s' swaps h same nothing = absurd (never_short number after read h)
swapped_by place first left others kept read unmet s' e h same nothing =
    let first_is = at_first place first (kept ++ left) read h in
    let on = goes_on place.number (read_on (end_at place) (kept ++ left)) read first_is.found in
    let read_so : read_on (end_at place) (kept ++ others) ≡ with_left others read =
    swapped left others kept (end_at place) read on.is same nothing.next in
    let keeps : withdraws read.entries ≡ false = ap (λ (r : ReadOn). withdraws r.entries) (sym on.is) ∙ on.keeps in
    ap (found_by place first (kept ++ others)) e
    ∙ from_first place first (kept ++ others) (ahead (with_left others read)) first_is.number first_is.sum
    (ap (found_after place.number) read_so ∙ is_ahead place.number (with_left others read) keeps nothing.none)

pub same_found : (place first : Place) (left others kept : List (List ℕ)) (read : ReadOn) → found_by place first (kept ++ left) (sought place (kept ++ left)) ≡ ahead read
    → read.left ≡ left → SayNothing place read.end others → found_by place first (kept ++ others) (sought place (kept ++ others)) ≡ ahead (with_left others read)
same_found place first left others kept read h same nothing =
    swapped_by place first left others kept read (sought place (kept ++ left)) (sought place (kept ++ others))
    (sought_swaps place left others kept (left_unmet place first kept left read h same) nothing.others) h same nothing

-- ---- what is left says nothing

says_by : (place first : Place) (links : List (List ℕ)) (read : ReadOn) (s : Sought) → found_by place first links s ≡ ahead read
    → StopsThere read × (list_any says_accepted read.left ≡ false)
says_by place first links read (met true turn after) h =
    let on = goes_on place.number (read_on (end_of place turn) after) read h in
    (subst StopsThere on.is (stops_there after (end_of place turn)), ap (λ (r : ReadOn). list_any says_accepted r.left) (sym on.is) ∙ on.none)
says_by place first links read (met false turn after) h = cc h
says_by place first links read (passed number after) h = absurd (never_short number after read h)
says_by place first links read unmet h =
    let first_is = at_first place first links read h in
    let on = goes_on place.number (read_on (end_at place) links) read first_is.found in
    (subst StopsThere on.is (stops_there links (end_at place)), ap (λ (r : ReadOn). list_any says_accepted r.left) (sym on.is) ∙ on.none)

-- what is ahead was read on from an end of a chain, and its first line does not withdraw
pub record IsReadOn (read : ReadOn) : Type 0 where
  pub end : ChainEnd
  pub texts : List (List ℕ)
  pub is : read_on end texts ≡ read
  pub begins : withdraws read.entries ≡ false

from_end : (number : ℕ) (end : ChainEnd) (texts : List (List ℕ)) (read : ReadOn) → found_after number (read_on end texts) ≡ ahead read → IsReadOn read
from_end number end texts read h =
    let on = goes_on number (read_on end texts) read h in
    record { end = end; texts = texts; is = on.is; begins = ap (λ (r : ReadOn). withdraws r.entries) (sym on.is) ∙ on.keeps }

read_by : (place first : Place) (links : List (List ℕ)) (read : ReadOn) (s : Sought) → found_by place first links s ≡ ahead read → IsReadOn read
read_by place first links read (met true turn after) h = from_end place.number (end_of place turn) after read h
read_by place first links read (met false turn after) h = cc h
read_by place first links read (passed number after) h = absurd (never_short number after read h)
read_by place first links read unmet h = from_end place.number (end_at place) links read (at_first place first links read h).found

pub ahead_is_read : (place first : Place) (links : List (List ℕ)) (read : ReadOn) → found_by place first links (sought place links) ≡ ahead read → IsReadOn read
ahead_is_read place first links read h = read_by place first links read (sought place links) h

none_before : (k : ℕ) (texts : List (List ℕ)) → list_any says_accepted texts ≡ false → list_any says_accepted (take k texts) ≡ false
none_before zero texts h = refl
none_before (suc k) [] h = refl
none_before (suc k) (t ∷ texts) h =
    let parts = or_parts (says_accepted t) (list_any says_accepted texts) h in rw parts.0 (none_before k texts parts.1)

stops_front_by : (e : ChainEnd) (k : ℕ) (t : List ℕ) (ts : List (List ℕ)) (found : Option Entry) → next_link e t ≡ found → StopsWell e (t ∷ ts) → StopsWell e (t ∷ take k ts)
stops_front_by e k t ts None is h = reads e t (take k ts) None is
stops_front_by e k t ts (Some entry) is h =
    let inner : ReadOn = read_on (end_after e entry) ts in
    let all : length inner.left ≡ length (t ∷ ts) = ap (λ (r : ReadOn). length r.left) (sym (reads e t ts (Some entry) is) ∙ h) in
    let short = no_longer ts inner.left (read_on-ends ts (end_after e entry)) in
    absurd (omega (arith, all, short))

stops_front : (e : ChainEnd) (k : ℕ) (texts : List (List ℕ)) → StopsWell e texts → StopsWell e (take k texts)
unfolding read_on
stops_front e zero texts h = refl
stops_front e (suc k) [] h = refl
stops_front e (suc k) (t ∷ ts) h = stops_front_by e k t ts (next_link e t) refl h

-- nor does a front of it
pub front_says_nothing : (place first : Place) (left kept : List (List ℕ)) (read : ReadOn) (k : ℕ) → found_by place first (kept ++ left) (sought place (kept ++ left)) ≡ ahead read
    → read.left ≡ left → SayNothing place read.end (take k left)
front_says_nothing place first left kept read k h same =
    let says = says_by place first (kept ++ left) read (sought place (kept ++ left)) h in
    record {
      others = unmet_front place left k (left_unmet place first kept left read h same);
      next = stops_front read.end k left (subst (λ (ts : List (List ℕ)). StopsWell read.end ts) same says.0);
      none = none_before k left (ap (list_any says_accepted) (sym same) ∙ says.1);
    }

pub nothing_says_nothing : (place : Place) (end : ChainEnd) → SayNothing place end []
unfolding sought read_on
nothing_says_nothing place end = record { others = refl; next = refl; none = refl }
