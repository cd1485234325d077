-- Lines more, and the place after them.
use Rattle.std.proofs.Common.{◌≡◌, ◌∙◌, ℕ, true, false, List, [], ◌∷◌, ◌++◌, refl, ap}
use Rattle.clr_journal.specs.Journals.{turn_after, withdraws}
use Rattle.clr_journal.specs.Laws.{turn_behind}
use Rattle.clr_journal.specs.Line.{Entry, carried, withdrawn}
use Rattle.clr_journal.specs.declared.reading.Turn.{Turn}
use Rattle.clr_rules.specs.declared.place.Place.{Place}
use Rattle.clr_chain.specs.First.{first_turn_at}
use Rattle.clr_chain.specs.Level.{place_after}
use Rattle.clr_chain.specs.Sums.{sum_after, sum_behind}
use Rattle.clr_checking.specs.Checking.{NoneHas}
use Rattle.clr_checking.specs.CheckingOn.{IsOfOpen}

pub sum_more : (sum : List ℕ) (entries : List Entry) (entry : Entry) → sum_behind sum (entries ++ entry ∷ []) ≡ sum_after (sum_behind sum entries) entry
sum_more sum [] entry = refl
sum_more sum (one ∷ rest) entry = sum_more (sum_after sum one) rest entry

pub turn_more : (turn : Turn) (entries : List Entry) (entry : Entry) → turn_behind turn (entries ++ entry ∷ []) ≡ turn_after entry
turn_more turn [] entry = refl
turn_more turn (one ∷ rest) entry = turn_more (turn_after one) rest entry

pub sum_on : (sum : List ℕ) (xs ys : List Entry) → sum_behind (sum_behind sum xs) ys ≡ sum_behind sum (xs ++ ys)
sum_on sum [] ys = refl
sum_on sum (one ∷ xs) ys = sum_on (sum_after sum one) xs ys

pub turn_on : (turn : Turn) (xs ys : List Entry) → turn_behind (turn_behind turn xs) ys ≡ turn_behind turn (xs ++ ys)
turn_on turn [] ys = refl
turn_on turn (one ∷ xs) ys = turn_on (turn_after one) xs ys

same_last : (a b : Turn) (ys : List Entry) → a.last ≡ b.last → (turn_behind a ys).last ≡ (turn_behind b ys).last
same_last a b [] is = is
same_last a b (one ∷ ys) is = refl

-- the lines after a place go on from it
pub place_on : (start : Place) (xs ys : List Entry) → place_after (place_after start xs) ys ≡ place_after start (xs ++ ys)
place_on start xs ys =
    let number : (turn_behind (first_turn_at (place_after start xs)) ys).last ≡ (turn_behind (first_turn_at start) (xs ++ ys)).last =
    same_last (first_turn_at (place_after start xs)) (turn_behind (first_turn_at start) xs) ys refl
    ∙ ap (λ (t : Turn). t.last) (turn_on (first_turn_at start) xs ys) in
    let sum : sum_behind (sum_behind start.sum xs) ys ≡ sum_behind start.sum (xs ++ ys) = sum_on start.sum xs ys in
    λ i. record { id = start.id; number = number i; sum = sum i }

-- ---- which line is the first

pub same_withdraws : (xs ys : List Entry) → withdraws ys ≡ false → withdraws (xs ++ ys) ≡ withdraws xs
same_withdraws [] ys kept = kept
same_withdraws (carried receipt q reply ∷ xs) ys kept = refl
same_withdraws (withdrawn n ∷ xs) ys kept = refl

-- a line more withdraws what was before these lines only where there is none
pub kept_more : (xs : List Entry) (entry : Entry) → withdraws xs ≡ false → (xs ≡ [] → withdraws (entry ∷ []) ≡ false) → withdraws (xs ++ entry ∷ []) ≡ false
kept_more [] entry kept none = none refl
kept_more (carried receipt q reply ∷ xs) entry kept none = refl
kept_more (withdrawn n ∷ xs) entry kept none = kept

-- ---- numbers

-- none of these lines has a number, nor has one more
pub none_more : (number : ℕ) (xs : List Entry) (entry : Entry) → NoneHas number xs → NoneHas number (entry ∷ []) → NoneHas number (xs ++ entry ∷ [])
none_more number [] entry none one = one
none_more number (carried receipt q reply ∷ xs) entry none one = (none.0, none_more number xs entry none.1 one)
none_more number (withdrawn n ∷ xs) entry none one = (none.0, none_more number xs entry none.1 one)

-- ---- whether a deed is open

-- at the end of lines: it is that of the last
pub open_more : (turn : Turn) (xs : List Entry) (entry : Entry) → (turn_behind turn (xs ++ entry ∷ [])).is_open ≡ (turn_after entry).is_open
open_more turn xs entry = ap (λ (t : Turn). t.is_open) (turn_more turn xs entry)

opens_on : (first at : Place) (before entries : List Entry) (entry : Entry) (n : ℕ) → IsOfOpen (withdrawn n) first (before ++ entry ∷ entries)
    → IsOfOpen (withdrawn n) at (entry ∷ entries)
opens_on first at [] entries entry n opens = opens
opens_on first at (x ∷ before) entries entry n opens =
    ap (λ (t : Turn). t.is_open) (turn_on (turn_after x) before (entry ∷ entries)) ∙ opens

-- a line after others is after the last of them
pub opens_after : (first at : Place) (before entries : List Entry) (entry : Entry) → IsOfOpen entry first (before ++ entries) → IsOfOpen entry at entries
opens_after first at before entries (carried receipt q reply) opens = tt
opens_after first at before [] (withdrawn n) opens = tt
opens_after first at before (entry ∷ entries) (withdrawn n) opens = opens_on first at before entries entry n opens

-- lines of which the last is open
pub opens_here : (first : Place) (entries : List Entry) (n : ℕ) → (turn_behind (first_turn_at first) entries).is_open ≡ true → IsOfOpen (withdrawn n) first entries
opens_here first [] n is = tt
opens_here first (entry ∷ entries) n is = is
