-- Tests over whole lists, and tests that ask for one thing where another holds.
use Rattle.std.proofs.Common.{◌≡◌, Bool, true, false, not, ◌||◌, List, All, refl}
use Rattle.clr_rules.proofs.Common.{list_all, false≢true, All-contains, list_all-contains, list_all-from_each, All-from_each}
use Rattle.clr_rules.specs.declared.phase.Phase.{Phase}
use Rattle.clr_rules.specs.declared.phase.Phase.TheVariants.{Closed}
use Rattle.clr_rules.specs.Records.{is_closed, is_open}

pub All_from_list_all : {X : Type 0} (p : X → Bool) (xs : List X) → list_all p xs ≡ true → All (λ x. p x ≡ true) xs
All_from_list_all p xs all = All-from_each (λ x. p x ≡ true) xs (λ x there. list_all-contains p xs x all there)

pub list_all_from_All : {X : Type 0} (p : X → Bool) (xs : List X) → All (λ x. p x ≡ true) xs → list_all p xs ≡ true
list_all_from_All p xs all = list_all-from_each p xs (λ x there. All-contains (λ x. p x ≡ true) xs x all there)

-- one thing is asked for where another holds
pub asked : (a b : Bool) → (not a || b) ≡ true → a ≡ true → b ≡ true
asked true b h is = h
asked false b h is = absurd (false≢true is)

pub asked_from : (a b : Bool) → (a ≡ true → b ≡ true) → (not a || b) ≡ true
asked_from true b h = h refl
asked_from false b h = refl

-- what is asked of an open record alone
pub unless_closed : (phase : Phase) (b : Bool) → (is_closed phase || b) ≡ true → is_open phase ≡ true → b ≡ true
unless_closed Closed b h unclosed = absurd (false≢true unclosed)
unless_closed _ b h unclosed = h

pub unless_closed_from : (phase : Phase) (b : Bool) → (is_open phase ≡ true → b ≡ true) → (is_closed phase || b) ≡ true
unless_closed_from Closed b h = refl
unless_closed_from _ b h = h refl
