-- LAWS OF DEEDS
use Rattle.std.specs.Prelude.{◌≡◌, ℕ, Bool, List, [], ◌∷◌, ◌++◌, Some, false, map, true}
use Rattle.clr_rules.specs.Agreement.{Agree}
use Rattle.clr_rules.specs.CrewSafety.{AreSafeThroughout, CrewsAreSafe}
use Rattle.clr_rules.specs.Fences.{clearance_fence}
use Rattle.clr_rules.specs.Good.{IsGood, is_operators}
use Rattle.clr_rules.specs.Isolation.{LeftAlone, ShowTheSame}
use Rattle.clr_rules.specs.Prelude.{Id, has_hold, record_of}
use Rattle.clr_rules.specs.Records.{is_open}
use Rattle.clr_rules.specs.Register.{Register}
use Rattle.clr_rules.specs.Run.{after_all}
use Rattle.clr_rules.specs.Shown.{includes}
use Rattle.clr_rules.specs.Staffed.{IsStaffed}
use Rattle.clr_rules.specs.declared.command.Command.{Command}
use Rattle.clr_rules.specs.laws.Tags.{IsUntag}
use Rattle.clr_changes.specs.Deeds.{Deed, after_deed, after_deeds, archive, command, update}
use Rattle.clr_changes.specs.Sights.{StepsAloneGo, all_answers, covers_all, gives_up_by}
use Rattle.clr_changes.specs.Sights.{is_never_operators, is_others_deed, keeps_its_steps, shown_by}
use Rattle.clr_changes.specs.Sights.{sights}
use Rattle.clr_rules.specs.declared.hold_kind.HoldKind.TheVariants.{Tag}
use Rattle.clr_rules.specs.declared.record.Record.{Record}

-- GOOD AND STAFFED AGAIN, whatever the deeds are and whoever says them
pub record DeedsKeepGood : Type 0 where
  pub good : (R : Register) (deeds : List Deed) → IsGood R → IsGood (after_deeds R deeds)
  pub staffed : (R : Register) (deeds : List Deed) → IsGood R → IsStaffed R
      → IsStaffed (after_deeds R deeds)

-- COMMANDS ALONE ARE A RUN
abbrev pub CommandsAreARun : Type 0
CommandsAreARun = (R : Register) (commands : List Command)
    → after_deeds R (map command commands) ≡ after_all R commands

-- A DEED IS AN UNTAG of a clearance at a point: a command that is one, while the clearance is
-- Restoring. No update and no archive is
abbrev pub IsUntagDeed : Register → Id → List ℕ → Deed → Type 0
IsUntagDeed R c p (command q) = IsUntag R c p q
IsUntagDeed R c p (update of) = ⊥
IsUntagDeed R c p (archive before) = ⊥

-- TAGS STAY over a deed, but for those that their own clearance's Untag takes
abbrev pub TagsStayOver : Register → Deed → Type 0
TagsStayOver R deed =
    (c : Id) (p : List ℕ) → has_hold R.holds c Tag p ≡ true
    → has_hold (Register.holds (after_deed R deed)) c Tag p ≡ false → IsUntagDeed R c p deed

-- AT EACH PLACE OF A LIST crews are safe, before and after each deed; and over each deed tags stay
pub record AreSafeOverDeeds (R : Register) (deeds : List Deed) : Type 0 where
  pub each_place : (earlier later : List Deed) → deeds ≡ earlier ++ later
      → CrewsAreSafe (after_deeds R earlier)
  pub left : CrewsAreSafe (after_deeds R deeds)
  pub tags : (earlier : List Deed) (deed : Deed) (later : List Deed)
      → deeds ≡ earlier ++ deed ∷ later → TagsStayOver (after_deeds R earlier) deed

-- CREWS WORK SAFELY over commands, updates and archives from a good register, whoever says them
abbrev pub CrewsWorkSafelyOverDeeds : Type 0
CrewsWorkSafelyOverDeeds =
    (R : Register) (deeds : List Deed) → IsGood R → AreSafeOverDeeds R deeds

-- and of commands alone this says all that is said of a run
abbrev pub SafeOverCommands : Type 0
SafeOverCommands =
    (R : Register) (commands : List Command) → AreSafeOverDeeds R (map command commands)
    → AreSafeThroughout R commands (after_all R commands)

-- what the headline asks for: two good registers agree near a clearance, on a set that covers the
-- first list; the clearance's requester is never an operator; it gives up its steps in neither
-- list; and both lists show it the same
pub record ShowAlike (c : Id) (inside : List ℕ → Bool) (R : Register) (deeds : List Deed)
    (S : Register) (others : List Deed) : Type 0 where
  pub first_good : IsGood R
  pub second_good : IsGood S
  pub never_operators : is_never_operators c R deeds ≡ true
  pub agree : Agree c inside R S
  pub covered : covers_all c inside R deeds ≡ true
  pub first_kept : keeps_its_steps c R deeds ≡ true
  pub second_kept : keeps_its_steps c S others ≡ true
  pub same_shown : sights c inside R deeds ≡ sights c inside S others

-- THE HEADLINE, FIRST HALF, over commands, updates and archives: where two registers and two lists
-- show a clearance the same, every reply about it and every change in its fence are equal, and the
-- registers agree again
abbrev pub SameSightsSameAnswers : Type 0
SameSightsSameAnswers =
    (c : Id) (inside : List ℕ → Bool) (R S : Register) (deeds others : List Deed)
    → ShowAlike c inside R deeds S others
    → (all_answers c R deeds ≡ all_answers c S others)
    × Agree c inside (after_deeds R deeds) (after_deeds S others)

-- all this is met where the headline over commands is: they are deeds
abbrev pub CommandsShowAlike : Type 0
CommandsShowAlike =
    (c : Id) (inside : List ℕ → Bool) (R S : Register) (commands others : List Command)
    → ShowTheSame c inside R commands S others
    → ShowAlike c inside R (map command commands) S (map command others)

-- and a deed that shows nothing, by which the clearance does not give up its steps, may come
-- between: an update elsewhere, or an archive while it is open. The register agrees with itself
abbrev pub UnseenDeedsAgree : Type 0
UnseenDeedsAgree =
    (c : Id) (inside : List ℕ → Bool) (R : Register) (deed : Deed) → IsGood R
    → is_operators R c.requester ≡ false → includes inside (clearance_fence R c) ≡ true
    → gives_up_by deed R c ≡ false → shown_by c inside R deed ≡ []
    → Agree c inside R (after_deed R deed)

-- SECOND HALF: at each place, no command about another clearance, no update and no archive closes a
-- point that a clearance holds, or takes away its tags, grounds, order or record. Of one that is
-- closed an archive may take the steps, and these alone
pub record NoDeedTakesAway : Type 0 where
  pub left : (R : Register) (deeds : List Deed) (c : Id) (deed : Deed) → IsGood R
      → is_others_deed c (after_deeds R deeds) deed ≡ true
      → gives_up_by deed (after_deeds R deeds) c ≡ false
      → LeftAlone c (after_deeds R deeds) (after_deed (after_deeds R deeds) deed)
  -- so one with an open record is left alone by every deed of others
  pub open_left : (R : Register) (deeds : List Deed) (c : Id) (deed : Deed) → IsGood R
      → is_others_deed c (after_deeds R deeds) deed ≡ true
      → (r : Record) → record_of (Register.records (after_deeds R deeds)) c ≡ Some r
      → is_open r.phase ≡ true
      → LeftAlone c (after_deeds R deeds) (after_deed (after_deeds R deeds) deed)
  pub steps_alone : (R : Register) (deeds : List Deed) (c : Id) (deed : Deed) → IsGood R
      → gives_up_by deed (after_deeds R deeds) c ≡ true
      → StepsAloneGo c (after_deeds R deeds) (after_deed (after_deeds R deeds) deed)
