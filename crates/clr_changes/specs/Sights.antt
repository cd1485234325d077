-- DEEDS AND A CLEARANCE: which deeds are another's, and which take its steps; what a list of deeds
-- shows it, and what its own commands are answered.
use Rattle.std.specs.Prelude.{◌≡◌, ℕ, Bool, true, false, ◌&&◌, not, List, [], ◌∷◌, ◌++◌, map, Some}
use Rattle.clr_rules.specs.Answer.{Answer}
use Rattle.clr_rules.specs.Fences.{clearance_fence}
use Rattle.clr_rules.specs.Good.{is_operators}
use Rattle.clr_rules.specs.Isolation.{HeldStayOpen, is_others}
use Rattle.clr_rules.specs.Prelude.{Id, Register, record_of, steps_of}
use Rattle.clr_rules.specs.Records.{is_closed}
use Rattle.clr_rules.specs.Shown.{fence_to_come, includes, items_shown, own_answers}
use Rattle.clr_changes.specs.Archive.{gives_up}
use Rattle.clr_update.specs.Changes.{changes, near_set}
use Rattle.clr_update.specs.Delta.{after_changes}
use Rattle.clr_update.specs.Entries.{Sight, item, where_some_change}
use Rattle.clr_changes.specs.Deeds.{Deed, after_deed, archive, command, update}
use Rattle.clr_rules.specs.declared.record.Record.{Record}

-- WHETHER A DEED IS ANOTHER'S: a command about another clearance; changes, whoever says them; an
-- archive
abbrev pub is_others_deed : Id → Register → Deed → Bool
is_others_deed c R (command q) = is_others c R q
is_others_deed c R (update of) = true
is_others_deed c R (archive before) = true

-- whether a clearance gives up its steps by a deed
abbrev pub gives_up_by : Deed → Register → Id → Bool
gives_up_by (command q) R c = false
gives_up_by (update of) R c = false
gives_up_by (archive before) R c = gives_up before R c

-- ITS STEPS ALONE GO: its record is Closed, and with the steps that went the register would be the
-- one before. Its fence has the sections that it had, and the points that it holds are open
pub record StepsAloneGo (c : Id) (R S : Register) : Type 0 where
  pub closed : (r : Record) × (record_of R.records c ≡ Some r) × (is_closed r.phase ≡ true)
  pub gone : steps_of S.steps c ≡ []
  pub rest : record S { steps = R.steps } ≡ R
  pub held_open : HeldStayOpen c S
  pub same_fence : clearance_fence S c ≡ clearance_fence R c

-- WHAT IS SHOWN: what a command shows, or what changes change near the set, if anything. An archive
-- shows nothing
abbrev pub shown_by : Id → (List ℕ → Bool) → Register → Deed → List Sight
shown_by c inside R (command q) = map item (items_shown c inside R (q ∷ []))
shown_by c inside R (update of) =
    where_some_change (near_set inside (changes R (after_changes R of)))
shown_by c inside R (archive before) = []

-- the answers to its own commands
abbrev pub answers_to : Id → Register → Deed → List Answer
answers_to c R (command q) = own_answers c R (q ∷ [])
answers_to c R (update of) = []
answers_to c R (archive before) = []

-- what each deed of a list adds at its place
unfoldable pub all_along : {X : Type 0} → (Register → Deed → List X) → Register → List Deed
    → List X
all_along adds R [] = []
all_along adds R (deed ∷ deeds) = adds R deed ++ all_along adds (after_deed R deed) deeds

abbrev pub sights : Id → (List ℕ → Bool) → Register → List Deed → List Sight
sights c inside = all_along (shown_by c inside)

abbrev pub all_answers : Id → Register → List Deed → List Answer
all_answers c = all_along (answers_to c)

-- whether each register of a list is so, that at its end too; and each deed at its place
unfoldable pub everywhere : (Register → Bool) → Register → List Deed → Bool
everywhere so R [] = so R
everywhere so R (deed ∷ deeds) = so R && everywhere so (after_deed R deed) deeds

unfoldable pub each_is : (Register → Deed → Bool) → Register → List Deed → Bool
each_is so R [] = true
each_is so R (deed ∷ deeds) = so R deed && each_is so (after_deed R deed) deeds

-- its requester is never an operator
abbrev pub is_never_operators : Id → Register → List Deed → Bool
is_never_operators c = everywhere (λ R. not (is_operators R c.requester))

-- it never gives up its steps
abbrev pub keeps_its_steps : Id → Register → List Deed → Bool
keeps_its_steps c = each_is (λ R deed. not (gives_up_by deed R c))

-- A SET COVERS ALL: at each place it includes the clearance's fence, and the fence that an order of
-- it would make
abbrev pub fence_made_by : Id → Register → Deed → List (List ℕ)
fence_made_by c R (command q) = fence_to_come c R q.kind
fence_made_by c R (update of) = []
fence_made_by c R (archive before) = []

abbrev pub covers_all : Id → (List ℕ → Bool) → Register → List Deed → Bool
covers_all c inside R deeds = everywhere (λ S. includes inside (clearance_fence S c)) R deeds
    && each_is (λ S deed. includes inside (fence_made_by c S deed)) R deeds
