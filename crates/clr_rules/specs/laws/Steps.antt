-- How agreement near a clearance goes on from command to command, as laws.
use Rattle.std.specs.Prelude.{◌≡◌, ℕ, Bool, true, false, List, [], ◌∷◌, All, Some}
use Rattle.clr_rules.specs.Agreement.{Agree}
use Rattle.clr_rules.specs.laws.Agreement.{is_about, is_new_of}
use Rattle.clr_rules.specs.Answer.{Answer, answer}
use Rattle.clr_rules.specs.Command.{is_jumper}
use Rattle.clr_rules.specs.laws.Frame.{HandsMatchToReport}
use Rattle.clr_rules.specs.Good.{ListsAreInOrder, is_operators}
use Rattle.clr_rules.specs.Prelude.{Command, Record, Id, Register, record_of}
use Rattle.clr_rules.specs.Records.{is_switch_order}
use Rattle.clr_rules.specs.Isolation.{AreAlike, PointsAreKnownToJumper}
use Rattle.clr_rules.specs.Near.{near_of}
use Rattle.clr_rules.specs.laws.Near.{is_order}
use Rattle.clr_rules.specs.Run.{after}
use Rattle.clr_rules.specs.Shown.{asked_row, found_phase_requested, is_own_command}

-- THE EDITS OF A COMMAND OF OTHERS are not about the clearance, and give its requester no new
-- clearance. The requester is no operator
pub record AreOfOthers (c : Id) (R : Register) (q : Command) : Type 0 where
  pub of_others : All (λ edit. is_about c edit ≡ false) (Answer.edits (answer R q))
  pub no_new_number : All (λ edit. is_new_of R.records c.requester edit
      ≡ false) (Answer.edits (answer R q))

abbrev pub OthersEditsAreOfOthers : Type 0
OthersEditsAreOfOthers =
    (R : Register) (c : Id) (q : Command) → HandsMatchToReport R q → PointsAreKnownToJumper R q
    → is_operators R c.requester ≡ false
    → is_own_command c q ≡ false → AreOfOthers c R q

-- registers that agree and answer a command alike agree again after it, whatever it is about, where
-- it adds nothing
abbrev pub SameAnswersKeepAgreement : Type 0
SameAnswersKeepAgreement =
    (R S : Register) (c : Id) (inside : List ℕ → Bool) (q : Command) → is_jumper q.kind ≡ false
    → ListsAreInOrder R → ListsAreInOrder S
    → answer R q ≡ answer S q → Agree c inside R S → Agree c inside (after R q) (after S q)

-- the record of a clearance is no switch order, if there is one. So it is of each open record whose
-- requester is no operator; a closed one may be older than its requester's role
abbrev pub IsNoSwitchOrder : Register → Id → Type 0
IsNoSwitchOrder R c = (r : Record) → record_of R.records c ≡ Some r → is_switch_order r ≡ false

-- registers that agree near a clearance on a set that covers its fence are one to its own commands:
-- these look at the same in both. An order does so while the clearance is Requested, and a request
-- where it asks for the same row in both. A switch order has the points of its steps near, wherever
-- they are
abbrev pub OwnCommandsLookAtTheSame : Type 0
OwnCommandsLookAtTheSame =
    (c : Id) (inside : List ℕ → Bool) (R S : Register) (q : Command)
    → AreAlike c inside R S (q ∷ []) → IsNoSwitchOrder R c
    → is_own_command c q ≡ true → asked_row R q.kind ≡ asked_row S q.kind
    → (is_order q.kind ≡ true → found_phase_requested (record_of R.records c) ≡ true)
    → near_of R q ≡ near_of S q
