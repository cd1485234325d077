-- Deeds go as if nothing were archived.
use Rattle.std.proofs.Common.{◌≡◌, ◌∙◌, ⊎_elim, ℕ, Bool, true, false, not, ◌||◌, if◌then◌else◌, List, [], ◌∷◌, refl, sym, ap, subst}
use Rattle.clr_rules.proofs.isolation.GivenUp.{closed_steps_may_go}
use Rattle.clr_rules.proofs.keeps.EveryKind.{commands_keep_good}
use Rattle.clr_changes.proofs.ArchiveAnswers.{Alike, alike}
use Rattle.clr_changes.proofs.ArchiveCommon.{AreOneBut, Id, IsGood, Register, StepRow, after, archived, both_ways, false≢true, false_from_ne_true, filter-filter_wider, gives_up, not-true}
use Rattle.clr_changes.proofs.ArchiveCommon.{or_cases, or_left, or_right, without_steps_of}
use Rattle.clr_changes.proofs.Kept.{archives_keep_good, are_closed}
use Rattle.clr_rules.specs.Prelude.{list_any}
use Rattle.clr_update.proofs.Made.{changes_keep_good}
use Rattle.clr_update.specs.Changes.{Changes}
use Rattle.clr_update.specs.Delta.{after_changes, can_be_made, update_of}
unfoldable use Rattle.clr_update.specs.Update.{filed}
use Rattle.clr_update.specs.Update.{updated}
use Rattle.clr_changes.proofs.UpdatesAlike.{made_in_both}
use Rattle.clr_changes.specs.ArchiveLaws.{DeedsGoAsUnarchived, OnlyShowsDiffer, WithoutUpdatesAreMade}
use Rattle.clr_changes.specs.Deeds.{Deed, archive, command, update}
unfoldable use Rattle.clr_changes.specs.Deeds.{after_deeds}
unfoldable use Rattle.clr_changes.specs.Sights.{all_along}
unfoldable use Rattle.clr_changes.specs.Unarchived.{AreMade, ShowNoneGone, unarchived}
use Rattle.clr_changes.specs.Unarchived.{answers_among, is_update}

pub only_shows_differ : OnlyShowsDiffer
only_shows_differ before R q good free =
    let gone = gives_up before R in
    let one = closed_steps_may_go.one_but gone R (are_closed before R) in
    sym (Alike.answers (alike gone R (archived before R) good (archives_keep_good.good before R good) one q free))

-- ---- one archive more

module _ (gone : Id → Bool) (before : ℕ) (R S : Register) (one : AreOneBut gone R S) where
  abbrev more : Id → Bool
  more c = gone c || gives_up before R c

  wider : (test : Id → Bool) → ((c : Id) → test c ≡ true → (gone c || gives_up before R c) ≡ true) → (row : StepRow) → not (gone row.id || gives_up before R row.id) ≡ true → not (test row.id) ≡ true
  wider test implies row kept = ap not (false_from_ne_true (test row.id) (λ is.
      both_ways (gone row.id || gives_up before R row.id) (not-true (gone row.id || gives_up before R row.id) kept) (implies row.id is)))

  without_more : (T : Register) → without_steps_of more (without_steps_of gone T) ≡ without_steps_of more T
  without_more T = λ i. record T {
    steps = filter-filter_wider (λ (row : StepRow). not (more row.id)) (λ row. not (gone row.id)) (wider gone (λ c is. or_left (gone c) (gives_up before R c) is)) T.steps i;
  }

  without_archived : without_steps_of more (archived before R) ≡ without_steps_of more R
  without_archived = λ i. record R {
    steps = filter-filter_wider (λ (row : StepRow). not (more row.id)) (λ row. not (gives_up before R row.id))
        (wider (gives_up before R) (λ c is. or_right (gone c) (gives_up before R c) is)) R.steps i;
  }

  widened : AreOneBut (λ c. gone c || gives_up before R c) (archived before R) S
  widened = record {
    closed = λ c is. ⊎_elim (λ first. one.closed c first) (λ second. are_closed before R c second) (or_cases (gone c) (gives_up before R c) is);
    rest = without_archived ∙ sym (without_more R) ∙ ap (without_steps_of more) one.rest ∙ without_more S;
  }

-- ---- changes that are made

made_so : (R : Register) (of : Changes) → can_be_made R of ≡ true → after_changes R of ≡ updated R (update_of R of)
made_so R of can = ap (λ (b : Bool). if b then updated R (update_of R of) else R) can

-- an update looks at no step
without_updated : (gone : Id → Bool) (T : Register) (of : Changes)
    → without_steps_of gone (updated T (update_of T of)) ≡ updated (without_steps_of gone T) (update_of (without_steps_of gone T) of)
unfolding filed
without_updated gone T of = refl

made_alike : (gone : Id → Bool) (R S : Register) (of : Changes) → AreOneBut gone R S → can_be_made R of ≡ true → can_be_made S of ≡ true
    → AreOneBut gone (after_changes R of) (after_changes S of)
made_alike gone R S of one first second =
    subst (λ (T : Register). AreOneBut gone T (after_changes S of)) (sym (made_so R of first))
    (subst (AreOneBut gone (updated R (update_of R of))) (sym (made_so S of second)) (record {
      closed = one.closed;
      rest = without_updated gone R of ∙ ap (λ (T : Register). updated T (update_of T of)) one.rest ∙ sym (without_updated gone S of);
    }))

-- ---- all of them

-- two registers that are one but for steps of closed records, of which the second is not archived
record GoAlike (R S : Register) (deeds : List Deed) : Type 0 where
  answers : answers_among R deeds ≡ answers_among S (unarchived deeds)
  gone : Id → Bool
  rest : AreOneBut gone (after_deeds R deeds) (after_deeds S (unarchived deeds))

go_alike : (deeds : List Deed) (gone : Id → Bool) (R S : Register) → IsGood R → IsGood S → AreOneBut gone R S → ShowNoneGone gone R deeds
    → AreMade R deeds → GoAlike R S deeds
unfolding ShowNoneGone AreMade all_along unarchived after_deeds
go_alike [] gone R S good other one free made = record { answers = refl; gone = gone; rest = one }
go_alike (command q ∷ deeds) gone R S good other one free made =
    let both = alike gone R S good other one q free.0 in
    let later = go_alike deeds gone (after R q) (after S q) (commands_keep_good R q good) (commands_keep_good S q other) both.again free.1 made in
    record { answers = λ i. both.answers i ∷ later.answers i; gone = later.gone; rest = later.rest }
go_alike (update of ∷ deeds) gone R S good other one free made =
    let later = go_alike deeds gone (after_changes R of) (after_changes S of) (changes_keep_good.good R of good) (changes_keep_good.good S of other)
    (made_alike gone R S of one made.0 (made_in_both gone R S of good other one made.1 made.0)) free made.2 in
    record { answers = later.answers; gone = later.gone; rest = later.rest }
go_alike (archive before ∷ deeds) gone R S good other one free made =
    let later = go_alike deeds (λ c. gone c || gives_up before R c) (archived before R) S (archives_keep_good.good before R good) other
    (widened gone before R S one) free made in
    record { answers = later.answers; gone = later.gone; rest = later.rest }

nothing_gone : (R : Register) → AreOneBut (λ c. false) R R
nothing_gone R = record { closed = λ c is. absurd (false≢true is); rest = refl }

pub deeds_go_as_unarchived : DeedsGoAsUnarchived
deeds_go_as_unarchived R deeds good free made =
    let all = go_alike deeds (λ c. false) R R good good (nothing_gone R) free made in
    record { answers = all.answers; gone = all.gone; rest = all.rest }

-- ---- without updates

none_to_make : (deeds : List Deed) (R : Register) → list_any is_update deeds ≡ false → AreMade R deeds
unfolding AreMade
none_to_make [] R none = tt
none_to_make (command q ∷ deeds) R none = none_to_make deeds (after R q) none
none_to_make (update of ∷ deeds) R none = absurd (false≢true (sym none))
none_to_make (archive before ∷ deeds) R none = none_to_make deeds (archived before R) none

pub without_updates_are_made : WithoutUpdatesAreMade
without_updates_are_made R deeds none = none_to_make deeds R none
