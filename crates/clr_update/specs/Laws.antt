-- THE LAWS OF UPDATES. Each is proved, by a law in src/laws.rt.
use Rattle.std.specs.Prelude.{◌≡◌, ℕ, Bool, true, List, None, Some, is_some}
use Rattle.clr_net.specs.Prelude.{Grid, has_name, point_names}
use Rattle.clr_rules.specs.Agreement.{Agree}
use Rattle.clr_rules.specs.CrewSafety.{CrewsAreSafe}
use Rattle.clr_rules.specs.Fences.{clearance_fence}
use Rattle.clr_rules.specs.Good.{IsGood}
use Rattle.clr_rules.specs.Isolation.{LeftAlone}
use Rattle.clr_rules.specs.Live.{IsLive}
use Rattle.clr_rules.specs.Prelude.{Id, Register, has_in_hand, is_granted, is_standing}
use Rattle.clr_rules.specs.Prelude.{hand_of, record_of, state_of}
use Rattle.clr_rules.specs.Records.{is_open}
use Rattle.clr_rules.specs.Staffed.{IsStaffed}
use Rattle.clr_rules.specs.WayBack.{way_back}
use Rattle.clr_rules.specs.laws.WayBack.{ClosesAlone}
use Rattle.clr_update.specs.Changes.{are_none, changes, near_set, net_stays}
use Rattle.clr_update.specs.Entries.{AllReadable, Entry, IsReadable, after_entries, after_entry}
use Rattle.clr_update.specs.Entries.{all_answers, covers_all, is_never_operators}
use Rattle.clr_update.specs.Entries.{is_others_entry, sights}
use Rattle.clr_update.specs.Update.{IsRead, Update, after_update, in_the_way, updated}
use Rattle.clr_rules.specs.declared.record.Record.{Record}

-- AN UPDATE IS ACCEPTED by a good register: its files are a network and a staff, and nothing is in
-- its way
pub record IsAccepted (R : Register) (u : Update) : Type 0 where
  pub good : IsGood R
  pub read : IsRead u
  pub free : in_the_way R u ≡ None

-- GOOD AND STAFFED AGAIN: accepted or refused, an update keeps a good register good, and a staffed
-- one staffed
pub record UpdatesKeepGood : Type 0 where
  pub good : (R : Register) (u : Update) → IsGood R → IsRead u → IsGood (after_update R u)
  pub staffed : (R : Register) (u : Update) → IsGood R → IsStaffed R → IsRead u
      → IsStaffed (after_update R u)

-- A POINT THAT STAYS keeps its position and its hand, and one that is new is in nobody's hand
pub record PointsKeepTheirStates : Type 0 where
  pub stays : (R : Register) (u : Update) → IsAccepted R u → (p : List ℕ)
      → has_name (point_names (Grid.points (Register.net (updated R u)))) p ≡ true
      → is_some (state_of R.states p) ≡ true
      → state_of (Register.states (updated R u)) p ≡ state_of R.states p
  pub new : (R : Register) (u : Update) → IsAccepted R u → (p : List ℕ)
      → state_of R.states p ≡ None
      → hand_of (Register.states (updated R u)) p ≡ None

-- NOTHING IS TAKEN AWAY from one register to the next: of each clearance record, steps, holds,
-- hands and fence are as they were, and each point that it holds is open; crews are safe, and no
-- section in the fence of a granted clearance is live
pub record IsAllLeft (R S : Register) : Type 0 where
  pub left : (c : Id) → LeftAlone c R S
  pub hands : (c : Id) (p : List ℕ) → has_in_hand S.states c p ≡ has_in_hand R.states c p
  pub crews : CrewsAreSafe S
  pub dead : (c : Id) (r : Record) → record_of S.records c ≡ Some r → is_granted r.phase ≡ true
      → (s : List ℕ) → has_name (clearance_fence S c) s ≡ true → IsLive S.net S.states s → ⊥

-- AN UPDATE TAKES NOTHING AWAY
abbrev pub UpdatesTakeNothing : Type 0
UpdatesTakeNothing = (R : Register) (u : Update) → IsGood R → IsRead u
    → IsAllLeft R (after_update R u)

-- NEAR A STANDING CLEARANCE the network stays: no section of its fence comes, goes or changes, and
-- no point with an end in it
abbrev pub StandingFencesStay : Type 0
StandingFencesStay =
    (R : Register) (u : Update) → IsGood R → IsRead u → (c : Id) (r : Record)
    → record_of R.records c ≡ Some r → is_standing r.phase ≡ true
    → net_stays (near_set (has_name (clearance_fence R c)) (changes R (after_update R u))) ≡ true

-- AN UPDATE THAT CHANGES NOTHING NEAR a set keeps agreement
abbrev pub UnseenUpdatesAgree : Type 0
UnseenUpdatesAgree =
    (c : Id) (inside : List ℕ → Bool) (R : Register) (u : Update) → IsGood R → IsRead u
    → are_none (near_set inside (changes R (after_update R u))) ≡ true
    → Agree c inside R (after_update R u)

-- so where the staff stays, the register agrees with itself near each standing clearance
abbrev pub SameStaffAgrees : Type 0
SameStaffAgrees =
    (R : Register) (u : Update) → IsGood R → IsRead u → u.staff ≡ R.staff
    → (c : Id) (r : Record) → record_of R.records c ≡ Some r → is_standing r.phase ≡ true
    → Agree c (has_name (clearance_fence R c)) R (after_update R u)

-- UPDATES THAT CHANGE THE SAME near a set keep agreement
abbrev pub SameChangesAgree : Type 0
SameChangesAgree =
    (c : Id) (inside : List ℕ → Bool) (R S : Register) (u v : Update)
    → IsGood R → IsGood S → IsRead u → IsRead v
    → near_set inside (changes R (after_update R u))
    ≡ near_set inside (changes S (after_update S v))
    → Agree c inside R S → Agree c inside (after_update R u) (after_update S v)

-- what the headline asks for: two good registers agree near a clearance, on a set that covers the
-- first list; the files of all updates are a network and a staff; the clearance's requester is
-- never an operator; and both lists show it the same
pub record ShowAlike (c : Id) (inside : List ℕ → Bool) (R : Register) (entries : List Entry)
    (S : Register) (others : List Entry) : Type 0 where
  pub first_good : IsGood R
  pub second_good : IsGood S
  pub first_read : AllReadable entries
  pub second_read : AllReadable others
  pub never_operators : is_never_operators c R entries ≡ true
  pub agree : Agree c inside R S
  pub covered : covers_all c inside R entries ≡ true
  pub same_shown : sights c inside R entries ≡ sights c inside S others

-- THE HEADLINE, FIRST HALF, over commands and updates: where two registers and two lists show a
-- clearance the same, every reply about it and every change in its fence are equal, and the
-- registers agree again
abbrev pub SameSightsSameAnswers : Type 0
SameSightsSameAnswers =
    (c : Id) (inside : List ℕ → Bool) (R S : Register) (entries others : List Entry)
    → ShowAlike c inside R entries S others
    → (all_answers c R entries ≡ all_answers c S others)
    × Agree c inside (after_entries R entries) (after_entries S others)

-- SECOND HALF: at each place, no command about another clearance, and no update, closes a point
-- that a clearance holds, or takes away its tags, grounds, order or record
abbrev pub NoEntryTakesAway : Type 0
NoEntryTakesAway =
    (R : Register) (entries : List Entry) (c : Id) (entry : Entry) → IsGood R → AllReadable entries
    → IsReadable entry
    → is_others_entry c (after_entries R entries) entry ≡ true
    → LeftAlone c (after_entries R entries) (after_entry (after_entries R entries) entry)

-- every register that commands and updates reach from a good and staffed one is good and staffed
abbrev pub EntriesKeepGood : Type 0
EntriesKeepGood =
    (R : Register) (entries : List Entry) → IsGood R → AllReadable entries
    → IsGood (after_entries R entries) × (IsStaffed R → IsStaffed (after_entries R entries))

-- EVERY OPEN RECORD HAS A WAY BACK after an accepted update: the staff has a field employee where
-- one is needed
abbrev pub UpdatesLeaveAWayBack : Type 0
UpdatesLeaveAWayBack =
    (R : Register) (u : Update) → IsAccepted R u → IsStaffed R → (c : Id) (r : Record)
    → record_of R.records c ≡ Some r → is_open r.phase ≡ true
    → ClosesAlone (updated R u) c (way_back (updated R u) c)
