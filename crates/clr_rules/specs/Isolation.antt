-- THE STATEMENTS OF ISOLATION. Each is proved, by a law in src/laws.
use Rattle.std.specs.Prelude.{◌≡◌, ℕ, Bool, true, false, not, ◌||◌, List, [], ◌∷◌, filter, Some}
use Rattle.std.specs.Prelude.{Option, None}
use Rattle.clr_rules.specs.Prelude.{list_all, same_name, has_name, Opened, Command, HeldOpen, Id}
use Rattle.clr_rules.specs.Prelude.{same_id, Register, position_of, has_hold}
use Rattle.clr_rules.specs.Agreement.{Agree}
use Rattle.clr_rules.specs.Answer.{Answer, answer}
use Rattle.clr_rules.specs.Command.{is_jumper, named_clearance}
use Rattle.clr_rules.specs.Fences.{clearance_fence}
use Rattle.clr_rules.specs.Footprint.{Frame}
use Rattle.clr_rules.specs.Good.{IsGood, IsGoodAsSaid, OnlySwitchOrdersSwitch, PointsAreKnown}
use Rattle.clr_rules.specs.Good.{SwitchOrdersAreOperators, has_record, is_operators}
use Rattle.clr_rules.specs.Near.{near_of}
use Rattle.clr_rules.specs.Run.{IsReached, after, after_all}
use Rattle.clr_rules.specs.Shown.{Item, added_sections, asked_row, asked_sections, covers}
use Rattle.clr_rules.specs.Shown.{is_own_command, marks_of, own_answers, items_shown}

-- INDEPENDENCE: registers that are good as said, in which only switch orders switch, and that have
-- the same near part for a command, give the same answer to it, the reply and the edits
abbrev pub Independence : Type 0
Independence =
    (R S : Register) (q : Command) → IsGoodAsSaid R → OnlySwitchOrdersSwitch R → IsGoodAsSaid S
    → OnlySwitchOrdersSwitch S → near_of R q ≡ near_of S q
    → answer R q ≡ answer S q

-- whether a command that names this clearance, or none, is about another than c; a command that
-- makes a new clearance of c's requester is so while c has a record
abbrev pub is_about_another : Id → Register → List ℕ → Option Id → Bool
is_about_another c R caller (Some d) = not (same_id c d)
is_about_another c R caller None = not (same_name c.requester caller) || has_record R.records c

-- whether a command is another's: it is about another clearance, or about none, as a jumper is
abbrev pub is_others : Id → Register → Command → Bool
is_others c R q = is_jumper q.kind || is_about_another c R q.caller (named_clearance q.kind)

-- POINTS ARE KNOWN TO A JUMPER: where a command is one, the register's points are those of its
-- network. Of every other command this says nothing
abbrev pub PointsAreKnownToJumper : Register → Command → Type 0
PointsAreKnownToJumper R q = is_jumper q.kind ≡ true → PointsAreKnown R

-- FRAME: a command about another clearance leaves the record, the steps and the holds of a
-- clearance as they are, clears no hand of it, and closes no point that it holds open
abbrev pub OthersSpare : Type 0
OthersSpare =
    (R : Register) (c : Id) (q : Command) → IsGoodAsSaid R → PointsAreKnownToJumper R q
    → is_others c R q ≡ true
    → Frame c R (after R q)

-- two registers that are good as said, in which switch orders are operators', and that agree near a
-- clearance whose requester is no operator, on a set that covers the run of the first
pub record AreAlike (c : Id) (inside : List ℕ
    → Bool) (R S : Register) (commands : List Command) : Type 0 where
  pub first_good : IsGoodAsSaid R
  pub second_good : IsGoodAsSaid S
  pub first_orders : SwitchOrdersAreOperators R
  pub second_orders : SwitchOrdersAreOperators S
  pub no_operator : is_operators R c.requester ≡ false
  pub agree : Agree c inside R S
  pub covered : covers c inside R commands ≡ true

-- STEP, own commands: the same own command is answered alike in both, and they agree again. A
-- request asks for the same row, or for none, in both
abbrev pub OwnStep : Type 0
OwnStep =
    (c : Id) (inside : List ℕ → Bool) (R S : Register) (q : Command)
    → AreAlike c inside R S (q ∷ [])
    → is_own_command c q ≡ true → asked_row R q.kind ≡ asked_row S q.kind
    → (answer R q ≡ answer S q) × Agree c inside (after R q) (after S q)

-- STEP, other commands: they agree again after one on each side with the same marks
abbrev pub OthersStep : Type 0
OthersStep =
    (c : Id) (inside : List ℕ → Bool) (R S : Register) (q p : Command)
    → AreAlike c inside R S (q ∷ []) → PointsAreKnownToJumper R q → PointsAreKnownToJumper S p
    → is_own_command c q ≡ false → is_own_command c p ≡ false
    → marks_of R.net inside (Answer.edits (answer R q))
    ≡ marks_of S.net inside (Answer.edits (answer S p))
    → Agree c inside (after R q) (after S p)

-- or after one on one side that leaves no marks
abbrev pub LoneStep : Type 0
LoneStep = (c : Id) (inside : List ℕ → Bool) (R S : Register) (q : Command)
    → is_own_command c q ≡ false
    → (AreAlike c inside R S (q ∷ []) → PointsAreKnownToJumper R q
    → marks_of R.net inside (Answer.edits (answer R q)) ≡ [] → Agree c inside (after R q) S)
    × (AreAlike c inside R S [] → PointsAreKnownToJumper S q
    → marks_of S.net inside (Answer.edits (answer S q)) ≡ [] → Agree c inside R (after S q))

-- what the headline asks for: two good registers agree near a clearance whose requester is no
-- operator, on a set that covers the run of the first, and two lists of commands show it the same
-- own commands and marks
pub record ShowTheSame (c : Id) (inside : List ℕ → Bool) (R : Register) (commands : List Command)
    (S : Register) (others : List Command) : Type 0 where
  pub first_good : IsGood R
  pub second_good : IsGood S
  pub no_operator : is_operators R c.requester ≡ false
  pub agree : Agree c inside R S
  pub covered : covers c inside R commands ≡ true
  pub same_shown : items_shown c inside R commands ≡ items_shown c inside S others

-- THE HEADLINE, FIRST HALF: where two registers and two lists of commands show a clearance the
-- same, every reply about it and every change in its fence are equal, and the registers agree again
abbrev pub SameShownSameAnswers : Type 0
SameShownSameAnswers =
    (c : Id) (inside : List ℕ → Bool) (R S : Register) (commands others : List Command)
    → ShowTheSame c inside R commands S others
    → (own_answers c R commands ≡ own_answers c S others)
    × Agree c inside (after_all R commands) (after_all S others)

-- the points that a clearance holds are open
abbrev pub HeldStayOpen : Id → Register → Type 0
HeldStayOpen c R =
    (p : List ℕ) → has_hold R.holds c HeldOpen p ≡ true → position_of R.states p ≡ Some Opened

-- what is left alone of a clearance from one register to the next: its record, its steps and its
-- holds are as they were, no hand of it is cleared, the points that it holds are open, and its
-- fence has the sections that it had
pub record LeftAlone (c : Id) (R S : Register) : Type 0 where
  pub frame : Frame c R S
  pub held_open : HeldStayOpen c S
  pub same_fence : clearance_fence S c ≡ clearance_fence R c

-- THE HEADLINE, SECOND HALF: at each place of a run, no command about another clearance closes a
-- point that a clearance holds, or takes away its tags, grounds, order or record
abbrev pub NothingIsTakenAway : Type 0
NothingIsTakenAway = (R : Register) (commands : List Command) (c : Id) (q : Command) → IsGood R
    → is_others c (after_all R commands) q ≡ true
    → LeftAlone c (after_all R commands) (after (after_all R commands) q)

abbrev pub is_own_item : Item → Bool
is_own_item (Item.own q row) = true
is_own_item (Item.marks edit edits) = false

-- what the consequence asks for: the requester of a clearance is no operator, a set covers the run
-- of a good register, no command of others marks the set, and none adds a section that an own
-- request asks for
pub record ShowsOwnAlone (c : Id) (inside : List ℕ → Bool) (R : Register)
    (commands : List Command) : Type 0 where
  pub good : IsGood R
  pub no_operator : is_operators R c.requester ≡ false
  pub covered : covers c inside R commands ≡ true
  pub own_alone : list_all is_own_item (items_shown c inside R commands) ≡ true
  pub none_added : list_all (λ section. not (has_name (asked_sections c commands) section))
      (added_sections R commands)
      ≡ true

-- THE CONSEQUENCE: where no command of others marks the set, or adds a section that it asks for, a
-- clearance is answered as if its own commands were alone
abbrev pub OwnCommandsAlone : Type 0
OwnCommandsAlone = (c : Id) (inside : List ℕ → Bool) (R : Register) (commands : List Command)
    → ShowsOwnAlone c inside R commands
    → own_answers c R commands ≡ own_answers c R (filter (is_own_command c) commands)

-- OF REACHED REGISTERS: two that agree near a clearance whose requester is no operator, and two
-- lists that show it the same, are what the headline asks for, since a reached register is good
abbrev pub ReachedShowTheSame : Type 0
ReachedShowTheSame =
    (c : Id) (inside : List ℕ → Bool) (R S : Register) (commands others : List Command)
    → IsReached R → IsReached S → is_operators R c.requester ≡ false → Agree c inside R S
    → covers c inside R commands ≡ true
    → items_shown c inside R commands ≡ items_shown c inside S others
    → ShowTheSame c inside R commands S others
