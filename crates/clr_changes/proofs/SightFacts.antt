-- What one deed shows and is answered, and what it comes to in two registers that agree.
use Rattle.std.proofs.Common.{◌≡◌, ◌∙◌, inl, inr, ℕ, Bool, true, false, cond, List, [], ◌∷◌, map, refl, sym, ap, subst}
use Rattle.std.proofs.lemmas.Bool.{and_from}
use Rattle.clr_changes.proofs.Agreeing.{archives_keep_agreement}
use Rattle.clr_changes.specs.Archive.{archived}
use Rattle.clr_rules.proofs.isolation.Agreement.{agrees_back, agrees_on, agrees_with_itself}
use Rattle.clr_rules.specs.Agreement.{Agree}
use Rattle.clr_rules.specs.Fences.{clearance_fence}
use Rattle.clr_rules.specs.Good.{IsGood}
use Rattle.clr_rules.specs.Prelude.{Id, Register}
use Rattle.clr_rules.specs.Shown.{Item, covers, includes, items_shown}
use Rattle.clr_rules.specs.declared.command.Command.{Command}
use Rattle.clr_update.proofs.Agreeing.{same_step, step_of, unseen_updates_agree}
use Rattle.clr_update.proofs.EntryFacts.{Abreast, Shows, entries_meet, first_silent as entry_first, second_silent as entry_second, shows, silent_answer as entry_silent}
use Rattle.clr_update.proofs.Made.{made_changes_are_updates}
use Rattle.clr_update.proofs.Near.{IsStep, agree_after}
use Rattle.clr_update.specs.Changes.{Changes, are_none, changes, near_set}
use Rattle.clr_update.specs.Delta.{after_changes, can_be_made, update_of}
use Rattle.clr_update.specs.Entries.{Entry, Sight, where_some_change}
use Rattle.clr_update.specs.Update.{IsRead, Update, after_update, unless_obstacle, updated}
use Rattle.clr_changes.specs.Deeds.{Deed, after_deed, archive, command, update}
use Rattle.clr_changes.specs.DeedLaws.{UnseenDeedsAgree}
use Rattle.clr_changes.specs.Sights.{answers_to, fence_made_by, gives_up_by, shown_by}

-- ---- after changes

-- changes that can be made are an update, and others leave the register
module _ (R : Register) (of : Changes) (good : IsGood R) (P : Register → Type 0) (before : P R) (after : (u : Update) → IsRead u → P (after_update R u)) where
  either : (b : Bool) → can_be_made R of ≡ b → P (cond b (updated R (update_of R of)) R)
  either true made =
      let it = made_changes_are_updates R of good made in
      subst P (ap (λ o. unless_obstacle o R (updated R (update_of R of))) it.free) (after (update_of R of) it.read)
  either false is = before

  after_any : P (after_changes R of)
  after_any = either (can_be_made R of) refl

changes_step : (R : Register) (of : Changes) → IsGood R → IsStep R (after_changes R of)
changes_step R of good = after_any R of good (IsStep R) (same_step R good) (λ u read. step_of R u good read)

-- changes near a set
abbrev pub changes_near : (List ℕ → Bool) → Register → Changes → Changes
changes_near inside R of = near_set inside (changes R (after_changes R of))

unseen_changes_agree : (c : Id) (inside : List ℕ → Bool) (R : Register) (of : Changes) → IsGood R → are_none (changes_near inside R of) ≡ true → Agree c inside R (after_changes R of)
unseen_changes_agree c inside R of good = after_any R of good (λ U. are_none (near_set inside (changes R U)) ≡ true → Agree c inside R U)
    (λ none. agrees_with_itself c inside R)
    (λ u read none. unseen_updates_agree c inside R u good read none)

-- ---- what one deed shows: nothing, or one sight

one_is_none : {X : Type 0} (x : X) → x ∷ [] ≡ [] → ⊥
one_is_none x same = cc

first_sight : (a : Sight) (rest : List Sight) (b : Sight) → a ∷ rest ≡ b ∷ [] → a ≡ b
first_sight a rest b same = cc

same_changed : (a b : Changes) → Sight.changed a ≡ Sight.changed b → a ≡ b
same_changed a b same = cc

item_is_no_change : (a : Item) (b : Changes) → Sight.item a ≡ Sight.changed b → ⊥
item_is_no_change a b same = cc

change_shows : (of : Changes) → Shows (where_some_change of)
change_shows of = at (are_none of)
  where
    at : (b : Bool) → Shows (cond b [] (Sight.changed of ∷ []))
    at true = inl refl
    at false = inr (Sight.changed of, refl)

no_change : (of : Changes) → where_some_change of ≡ [] → are_none of ≡ true
no_change of none = at (are_none of) refl
  where
    at : (b : Bool) → are_none of ≡ b → b ≡ true
    at true is = refl
    at false is = absurd (one_is_none (Sight.changed of) (sym (ap (λ b. cond b [] (Sight.changed of ∷ [])) is) ∙ none))

changed_is : (of : Changes) (sight : Sight) → where_some_change of ≡ sight ∷ [] → Sight.changed of ≡ sight
changed_is of sight is = at (are_none of) is
  where
    at : (b : Bool) → cond b [] (Sight.changed of ∷ []) ≡ sight ∷ [] → Sight.changed of ≡ sight
    at true none = absurd (one_is_none sight (sym none))
    at false some = first_sight (Sight.changed of) [] sight some

-- no item is a change
item_or_change : (items : List Item) (sight : Sight) → map Sight.item items ≡ sight ∷ [] → (of : Changes) → where_some_change of ≡ sight ∷ [] → ⊥
item_or_change [] sight shown of is = one_is_none sight (sym shown)
item_or_change (item ∷ items) sight shown of is = item_is_no_change item of (first_sight (Sight.item item) (map Sight.item items) sight shown ∙ sym (changed_is of sight is))

pub deed_shows : (c : Id) (inside : List ℕ → Bool) (R : Register) (deed : Deed) → Shows (shown_by c inside R deed)
deed_shows c inside R (command q) = shows c inside R (Entry.command q)
deed_shows c inside R (update of) = change_shows (changes_near inside R of)
deed_shows c inside R (archive before) = inl refl

-- ---- what it comes to

-- a set that covers a deed: the fence before it, the fence that it would make, and the fence after
pub record IsCovered (c : Id) (inside : List ℕ → Bool) (R : Register) (deed : Deed) : Type 0 where
  pub here : includes inside (clearance_fence R c) ≡ true
  pub made : includes inside (fence_made_by c R deed) ≡ true
  pub next : includes inside (clearance_fence (after_deed R deed) c) ≡ true

covered_run : (c : Id) (inside : List ℕ → Bool) (R : Register) (q : Command) → IsCovered c inside R (command q) → covers c inside R (q ∷ []) ≡ true
unfolding covers
covered_run c inside R q covered = and_from _ _ (and_from _ _ covered.here covered.made) covered.next

module _ (c : Id) (inside : List ℕ → Bool) (R S : Register) (near : Abreast c inside R S) where
  pub silent_answer : (T : Register) (deed : Deed) → shown_by c inside T deed ≡ [] → answers_to c T deed ≡ []
  silent_answer T (command q) none = entry_silent c inside R S near T (Entry.command q) none
  silent_answer T (update of) none = refl
  silent_answer T (archive before) none = refl

  pub first_silent : (deed : Deed) → IsCovered c inside R deed → gives_up_by deed R c ≡ false → shown_by c inside R deed ≡ [] → Agree c inside (after_deed R deed) S
  first_silent (command q) covered kept none = entry_first c inside R S near (Entry.command q) tt (covered_run c inside R q covered) none
  first_silent (update of) covered kept none = agrees_on c inside (after_changes R of) R S
      (agrees_back c inside R (after_changes R of) (unseen_changes_agree c inside R of near.first_good (no_change (changes_near inside R of) none))) near.agree
  first_silent (archive before) covered kept none = archives_keep_agreement.first c inside before R S kept near.agree

  pub second_silent : (deed : Deed) → includes inside (clearance_fence R c) ≡ true → gives_up_by deed S c ≡ false → shown_by c inside S deed ≡ [] → Agree c inside R (after_deed S deed)
  second_silent (command q) covered kept none = entry_second c inside R S near (Entry.command q) tt covered none
  second_silent (update of) covered kept none = agrees_on c inside R S (after_changes S of)
      near.agree (unseen_changes_agree c inside S of near.second_good (no_change (changes_near inside S of) none))
  second_silent (archive before) covered kept none = agrees_on c inside R S (archived before S) near.agree (archives_keep_agreement.alone c inside before S kept)

  -- both are answered alike, and the registers agree again
  pub record Meet (first second : Deed) : Type 0 where
    pub answers : answers_to c R first ≡ answers_to c S second
    pub agree : Agree c inside (after_deed R first) (after_deed S second)

  -- DEEDS THAT SHOW THE SAME meet
  pub deeds_meet : (first second : Deed) → IsCovered c inside R first → (sight : Sight) → shown_by c inside R first ≡ sight ∷ [] → shown_by c inside S second ≡ sight ∷ [] → Meet first second
  deeds_meet (command q) (command p) covered sight first second =
      let meet = entries_meet c inside R S near (Entry.command q) (Entry.command p) tt tt (covered_run c inside R q covered) sight first second in
      record { answers = meet.answers; agree = meet.agree }
  deeds_meet (update of) (update other) covered sight first second = record {
    answers = refl;
    agree = agree_after c inside R (after_changes R of) S (after_changes S other) (changes_step R of near.first_good) (changes_step S other near.second_good)
        near.first_good.said.network near.second_good.said.network near.agree
        (same_changed (changes_near inside R of) (changes_near inside S other)
        (changed_is (changes_near inside R of) sight first ∙ sym (changed_is (changes_near inside S other) sight second)));
  }
  deeds_meet (command q) (update of) covered sight first second = absurd (item_or_change (items_shown c inside R (q ∷ [])) sight first (changes_near inside S of) second)
  deeds_meet (update of) (command p) covered sight first second = absurd (item_or_change (items_shown c inside S (p ∷ [])) sight second (changes_near inside R of) first)
  deeds_meet (archive before) second covered sight none is = absurd (one_is_none sight (sym none))
  deeds_meet (command q) (archive before) covered sight first none = absurd (one_is_none sight (sym none))
  deeds_meet (update of) (archive before) covered sight first none = absurd (one_is_none sight (sym none))

-- a deed that shows nothing may come between
pub unseen_deeds_agree : UnseenDeedsAgree
unseen_deeds_agree c inside R deed good none covered kept silent = second_silent c inside R R (record {
  first_good = good;
  second_good = good;
  no_operator = none;
  agree = agrees_with_itself c inside R;
}) deed covered kept silent
