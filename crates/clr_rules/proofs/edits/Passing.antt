-- What follows where no check of a command applies.
use Rattle.std.proofs.Common.{◌≡◌, ℕ, Bool, true, false, not, List, [], ◌∷◌, ◌++◌, Option, Some, None, is_some, refl, sym, ◌∙◌, ap, subst}
use Rattle.std.proofs.lemmas.Bool.{not-false}
use Rattle.clr_rules.proofs.Common.{Known, checks, first_refusal, named_clearance, has_record, Request, Switch, Jumper}
use Rattle.clr_rules.specs.Checks.{refuse, unknown_clearance, where_some, wrong_phase}
use Rattle.clr_rules.specs.Prelude.{Kind, Phase, Closed, Record, Refusal, Id, Register, record_of, is_granted, is_ordered, is_restoring, is_running, UnknownClearance, WrongPhase}
use Rattle.clr_rules.specs.Prelude.{Order, Instruct, Repeat, Report, Grant, Transfer, Cancel, Restore, Amend, Show}
use Rattle.clr_rules.specs.Records.{is_cancellable, is_open, is_released, is_requested, is_transferable}
use Rattle.clr_rules.proofs.lists.OpenPhases.{open_where}

-- each of these checks says nothing
abbrev pub Pass : List (Option Refusal) → Type 0
Pass [] = Unit {0}
Pass (check ∷ rest) = (check ≡ None) × Pass rest

pub all_pass : (list : List (Option Refusal)) → first_refusal list ≡ None → Pass list
all_pass [] h = tt
all_pass (None ∷ rest) h = (refl, all_pass rest h)
all_pass (Some refusal ∷ rest) h = cc

-- checks that come after others count where those pass
pub first_after : (early first second : List (Option Refusal)) → (first_refusal early ≡ None → first_refusal first ≡ first_refusal second)
    → first_refusal (early ++ first) ≡ first_refusal (early ++ second)
first_after [] first second alike = alike refl
first_after (None ∷ early) first second alike = first_after early first second alike
first_after (Some refusal ∷ early) first second alike = refl

-- and not where one of those applies
pub first_stops : (early later : List (Option Refusal)) (refusal : Refusal) → first_refusal early ≡ Some refusal → first_refusal (early ++ later) ≡ Some refusal
first_stops [] later refusal h = cc h
first_stops (None ∷ early) later refusal h = first_stops early later refusal h
first_stops (Some first ∷ early) later refusal h = h

pub not_refused : (b : Bool) (refusal : Refusal) → refuse b refusal ≡ None → b ≡ false
not_refused true refusal h = cc
not_refused false refusal h = refl

pub not_refused_true : (b : Bool) (refusal : Refusal) → refuse (not b) refusal ≡ None → b ≡ true
not_refused_true b refusal h = not-false b (not_refused (not b) refusal h)

is_recorded : (R : Register) (c : Id) → unknown_clearance R c ≡ None → has_record R.records c ≡ true
is_recorded R c h = not_refused_true (has_record R.records c) UnknownClearance h

-- the clearance that is meant, if one is, has a record
abbrev pub IsRecorded : Register → Option Id → Type 0
IsRecorded R None = Unit {0}
IsRecorded R (Some c) = has_record R.records c ≡ true

pub named_is_recorded : (k : Known) (R : Register) (by : List ℕ) (at : ℕ) (kind : Kind)
    → first_refusal (checks k R by at kind) ≡ None → IsRecorded R (named_clearance kind)
named_is_recorded k R by at kind h = recorded kind (all_pass (checks k R by at kind) h)
  where
    -- most commands begin with their caller's role, and then name the clearance
    third : (c : Id) {A B Rest : Type 0} → A × (B × ((unknown_clearance R c ≡ None) × Rest)) → has_record R.records c ≡ true
    third c passed = is_recorded R c passed.1.1.0

    recorded : (kind : Kind) → Pass (checks k R by at kind) → IsRecorded R (named_clearance kind)
    recorded (Request section) passed = tt
    recorded (Switch tasks) passed = tt
    recorded (Jumper point from to lockable remote) passed = tt
    recorded (Transfer c to emergency) passed = is_recorded R c (search passed)
    recorded (Show c) passed = is_recorded R c (search passed)
    recorded _ passed = third _ passed

-- the clearance that a command names, if it names one, has a record
pub named_recorded : (k : Known) (R : Register) (by : List ℕ) (at : ℕ) (kind : Kind) (c : Id)
    → first_refusal (checks k R by at kind) ≡ None → named_clearance kind ≡ Some c → has_record R.records c ≡ true
named_recorded k R by at kind c passed names = subst (IsRecorded R) names (named_is_recorded k R by at kind passed)

-- the record of a clearance that is known, and what a check of it says
pub record_there : (R : Register) (c : Id) → unknown_clearance R c ≡ None → (r : Record) × (record_of R.records c ≡ Some r)
record_there R c passed = at (record_of R.records c) refl (is_recorded R c passed)
  where
    at : (o : Option Record) → record_of R.records c ≡ o → is_some o ≡ true → (r : Record) × (record_of R.records c ≡ Some r)
    at None none there = cc
    at (Some r) found there = (r, found)

pub check_of_found : {X : Type 0} (o : Option X) (x : X) (check : X → Option Refusal) → o ≡ Some x → where_some o check ≡ None → check x ≡ None
check_of_found o x check found passed = sym (ap (λ found. where_some found check) found) ∙ passed

pub phase_fits : (R : Register) (c : Id) (r : Record) (fits : Phase → Bool) → record_of R.records c ≡ Some r → wrong_phase R c fits ≡ None → fits r.phase ≡ true
phase_fits R c r fits found passed =
    not_refused_true (fits r.phase) WrongPhase (check_of_found (record_of R.records c) r (λ r. refuse (not (fits r.phase)) WrongPhase) found passed)

abbrev pub is_show : Kind → Bool
is_show (Show c) = true
is_show _ = false

-- the clearance that is meant, if one is, has an open record
abbrev pub IsOpenIfNamed : Register → Option Id → Type 0
IsOpenIfNamed R None = Unit {0}
IsOpenIfNamed R (Some c) = (r : Record) → record_of R.records c ≡ Some r → is_open r.phase ≡ true

open_if_fits : (R : Register) (c : Id) (fits : Phase → Bool) → fits Closed ≡ false → wrong_phase R c fits ≡ None → IsOpenIfNamed R (Some c)
open_if_fits R c fits none passed r found = open_where fits none r.phase (phase_fits R c r fits found passed)

-- where no check applies, a command that names a record names an open one, but for a show
open_if_named : (k : Known) (R : Register) (by : List ℕ) (at : ℕ) (kind : Kind) → is_show kind ≡ false → Pass (checks k R by at kind) → IsOpenIfNamed R (named_clearance kind)
open_if_named k R by at (Request section) no_show passed = tt
open_if_named k R by at (Switch tasks) no_show passed = tt
open_if_named k R by at (Jumper point from to lockable remote) no_show passed = tt
open_if_named k R by at (Show c) no_show passed = cc no_show
open_if_named k R by at (Order c points tasks) no_show passed = open_if_fits R c is_requested refl (search passed)
open_if_named k R by at (Instruct c n) no_show passed = open_if_fits R c is_running refl (search passed)
open_if_named k R by at (Repeat c n text) no_show passed = open_if_fits R c is_running refl (search passed)
open_if_named k R by at (Report c n done) no_show passed = open_if_fits R c is_running refl (search passed)
open_if_named k R by at (Grant c) no_show passed = open_if_fits R c is_ordered refl (search passed)
open_if_named k R by at (Transfer c to emergency) no_show passed = open_if_fits R c is_transferable refl (search passed)
open_if_named k R by at (Cancel c) no_show passed = open_if_fits R c is_cancellable refl (search passed)
open_if_named k R by at (Restore c tasks) no_show passed = open_if_fits R c is_released refl (search passed)
open_if_named k R by at (Amend c n) no_show passed = open_if_fits R c is_restoring refl (search passed)
open_if_named k R by at _ no_show passed = open_if_fits R _ is_granted refl (search passed)

pub named_is_open : (k : Known) (R : Register) (by : List ℕ) (at : ℕ) (kind : Kind) → is_show kind ≡ false → Pass (checks k R by at kind)
    → (c : Id) → named_clearance kind ≡ Some c → (r : Record) → record_of R.records c ≡ Some r → is_open r.phase ≡ true
named_is_open k R by at kind no_show passed c named r found = subst (IsOpenIfNamed R) named (open_if_named k R by at kind no_show passed) r found

-- WHERE A COMMAND HAS BEGUN: its clearance has a record, whose phase fits, and its own checks pass
abbrev pub HasBegun : Register → Id → (Phase → Bool) → Type 0 → Type 0
HasBegun R c phases Own = (r : Record) × (record_of R.records c ≡ Some r) × (phases r.phase ≡ true) × Own

begun : (R : Register) (c : Id) (phases : Phase → Bool) {Own : Type 0} → unknown_clearance R c ≡ None → wrong_phase R c phases ≡ None → Own → HasBegun R c phases Own
begun R c phases known right own = let (r, found) = record_there R c known in (r, found, phase_fits R c r phases found right, own)

-- a command of an operator or of the field
pub role_begun : (R : Register) (c : Id) (phases : Phase → Bool) {A B D Own : Type 0}
    → A × (B × ((unknown_clearance R c ≡ None) × (D × ((wrong_phase R c phases ≡ None) × Own)))) → HasBegun R c phases Own
role_begun R c phases passed = begun R c phases passed.1.1.0 passed.1.1.1.1.0 passed.1.1.1.1.1

-- a command of the holder
pub holder_begun : (R : Register) (c : Id) (phases : Phase → Bool) {A B D E Own : Type 0}
    → A × (B × ((unknown_clearance R c ≡ None) × (D × (E × ((wrong_phase R c phases ≡ None) × Own))))) → HasBegun R c phases Own
holder_begun R c phases passed = begun R c phases passed.1.1.0 passed.1.1.1.1.1.0 passed.1.1.1.1.1.1
