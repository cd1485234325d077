-- The headline's first half over deeds: by the first list, and for each sight of it the place in the second that shows the same.
use Rattle.std.proofs.Common.{◌≡◌, ◌∙◌, inl, inr, ℕ, Bool, true, false, not, ◌++◌, List, [], ◌∷◌, refl, sym, ap, subst}
use Rattle.std.proofs.lemmas.Bool.{and_parts, not-true}
use Rattle.clr_rules.specs.Agreement.{Agree}
use Rattle.clr_rules.specs.Fences.{clearance_fence}
use Rattle.clr_rules.specs.Good.{is_operators}
use Rattle.clr_rules.specs.Prelude.{Id, Register}
use Rattle.clr_rules.specs.Shown.{includes}
use Rattle.clr_update.proofs.EntryFacts.{Abreast, Shows}
use Rattle.clr_update.specs.Entries.{Sight}
use Rattle.clr_changes.proofs.Deeds.{deed_keeps_good}
use Rattle.clr_changes.proofs.SightFacts.{IsCovered, deed_shows, deeds_meet, first_silent, second_silent, silent_answer}
use Rattle.clr_changes.specs.Deeds.{Deed, after_deed, after_deeds}
use Rattle.clr_changes.specs.DeedLaws.{SameSightsSameAnswers}
use Rattle.clr_changes.specs.Sights.{all_along, all_answers, answers_to, each_is, everywhere, fence_made_by, gives_up_by, is_never_operators, keeps_its_steps, shown_by, sights}

-- ---- lists of deeds

is_here : (so : Register → Bool) (R : Register) (deeds : List Deed) → everywhere so R deeds ≡ true → so R ≡ true
unfolding everywhere
is_here so R [] is = is
is_here so R (deed ∷ deeds) is = (and_parts _ _ is).0

is_after : (so : Register → Bool) (R : Register) (deed : Deed) (deeds : List Deed) → everywhere so R (deed ∷ deeds) ≡ true → everywhere so (after_deed R deed) deeds ≡ true
unfolding everywhere
is_after so R deed deeds is = (and_parts _ _ is).1

first_is : (so : Register → Deed → Bool) (R : Register) (deed : Deed) (deeds : List Deed) → each_is so R (deed ∷ deeds) ≡ true → so R deed ≡ true
unfolding each_is
first_is so R deed deeds is = (and_parts _ _ is).0

rest_is : (so : Register → Deed → Bool) (R : Register) (deed : Deed) (deeds : List Deed) → each_is so R (deed ∷ deeds) ≡ true → each_is so (after_deed R deed) deeds ≡ true
unfolding each_is
rest_is so R deed deeds is = (and_parts _ _ is).1

along : {X : Type 0} (adds : Register → Deed → List X) (R : Register) (deed : Deed) (deeds : List Deed) (first : List X) → adds R deed ≡ first
    → all_along adds R (deed ∷ deeds) ≡ first ++ all_along adds (after_deed R deed) deeds
unfolding all_along
along adds R deed deeds first is = ap (λ xs. xs ++ all_along adds (after_deed R deed) deeds) is

along_none : {X : Type 0} (adds : Register → Deed → List X) (R : Register) → all_along adds R [] ≡ []
unfolding all_along
along_none adds R = refl

none_is_some : (sight : Sight) (rest : List Sight) → sight ∷ rest ≡ [] → ⊥
none_is_some sight rest same = cc

same_head : (a b : Sight) (xs ys : List Sight) → a ∷ xs ≡ b ∷ ys → a ≡ b
same_head a b xs ys same = cc

same_tail : (a b : Sight) (xs ys : List Sight) → a ∷ xs ≡ b ∷ ys → xs ≡ ys
same_tail a b xs ys same = cc

module _ (c : Id) (inside : List ℕ → Bool) where
  abbrev is_covered : Register → Bool
  is_covered R = includes inside (clearance_fence R c)

  abbrev is_order_covered : Register → Deed → Bool
  is_order_covered R deed = includes inside (fence_made_by c R deed)

  abbrev is_kept : Register → Deed → Bool
  is_kept R deed = not (gives_up_by deed R c)

  -- ---- the second list, from a register that agrees with one that stays

  module _ (R : Register) (covered : is_covered R ≡ true) where
    -- after a deed of the second list that shows nothing
    past_silent : (S : Register) (deed : Deed) (rest : List Deed) → Abreast c inside R S → keeps_its_steps c S (deed ∷ rest) ≡ true → shown_by c inside S deed ≡ [] → Abreast c inside R (after_deed S deed)
    past_silent S deed rest near kept none = record {
      first_good = near.first_good;
      second_good = deed_keeps_good S deed near.second_good;
      no_operator = near.no_operator;
      agree = second_silent c inside R S near deed covered (not-true (gives_up_by deed S c) (first_is is_kept S deed rest kept)) none;
    }

    -- its answers are those after it
    silent_along : (S : Register) (deed : Deed) (rest : List Deed) → Abreast c inside R S → shown_by c inside S deed ≡ [] → all_answers c S (deed ∷ rest) ≡ all_answers c (after_deed S deed) rest
    silent_along S deed rest near none = along (answers_to c) S deed rest [] (silent_answer c inside R S near S deed none)

    -- where nothing more is shown, nothing more is answered
    record Ended (S : Register) (others : List Deed) : Type 0 where
      answers : all_answers c S others ≡ []
      agree : Agree c inside R (after_deeds S others)

    ended_on : (deed : Deed) (rest : List Deed) → ((T : Register) → Abreast c inside R T → keeps_its_steps c T rest ≡ true → sights c inside T rest ≡ [] → Ended T rest)
        → (S : Register) → Abreast c inside R S → keeps_its_steps c S (deed ∷ rest) ≡ true → sights c inside S (deed ∷ rest) ≡ [] → Shows (shown_by c inside S deed) → Ended S (deed ∷ rest)
    unfolding after_deeds
    ended_on deed rest later S near kept none (inl silent) =
        let end = later (after_deed S deed) (past_silent S deed rest near kept silent) (rest_is is_kept S deed rest kept) (sym (along (shown_by c inside) S deed rest [] silent) ∙ none) in
        record { answers = silent_along S deed rest near silent ∙ end.answers; agree = end.agree }
    ended_on deed rest later S near kept none (inr found) =
        absurd (none_is_some found.0 (sights c inside (after_deed S deed) rest) (sym (along (shown_by c inside) S deed rest (found.0 ∷ []) found.1) ∙ none))

    ended : (others : List Deed) (S : Register) → Abreast c inside R S → keeps_its_steps c S others ≡ true → sights c inside S others ≡ [] → Ended S others
    unfolding after_deeds
    ended [] S near kept none = record { answers = along_none (answers_to c) S; agree = near.agree }
    ended (deed ∷ rest) S near kept none = ended_on deed rest (λ T on keeps silent. ended rest T on keeps silent) S near kept none (deed_shows c inside S deed)

    -- the place where the next sight is shown
    record Shown (S : Register) (others : List Deed) (sight : Sight) (later : List Sight) : Type 0 where
      place : Register
      deed : Deed
      rest : List Deed
      near : Abreast c inside R place
      kept : keeps_its_steps c (after_deed place deed) rest ≡ true
      is : shown_by c inside place deed ≡ sight ∷ []
      more : later ≡ sights c inside (after_deed place deed) rest
      answers : all_answers c S others ≡ answers_to c place deed ++ all_answers c (after_deed place deed) rest
      ends : after_deeds S others ≡ after_deeds (after_deed place deed) rest

    module _ (sight : Sight) (later : List Sight) where
      shown_on : (deed : Deed) (rest : List Deed) → ((T : Register) → Abreast c inside R T → keeps_its_steps c T rest ≡ true → sight ∷ later ≡ sights c inside T rest → Shown T rest sight later)
          → (S : Register) → Abreast c inside R S → keeps_its_steps c S (deed ∷ rest) ≡ true → sight ∷ later ≡ sights c inside S (deed ∷ rest) → Shows (shown_by c inside S deed) → Shown S (deed ∷ rest) sight later
      unfolding after_deeds
      shown_on deed rest further S near kept same (inl silent) =
          let it = further (after_deed S deed) (past_silent S deed rest near kept silent) (rest_is is_kept S deed rest kept) (same ∙ along (shown_by c inside) S deed rest [] silent) in
          record {
            place = it.place;
            deed = it.deed;
            rest = it.rest;
            near = it.near;
            kept = it.kept;
            is = it.is;
            more = it.more;
            answers = silent_along S deed rest near silent ∙ it.answers;
            ends = it.ends;
          }
      shown_on deed rest further S near kept same (inr found) =
          let both : sight ∷ later ≡ found.0 ∷ sights c inside (after_deed S deed) rest = same ∙ along (shown_by c inside) S deed rest (found.0 ∷ []) found.1 in
          record {
            place = S;
            deed = deed;
            rest = rest;
            near = near;
            kept = rest_is is_kept S deed rest kept;
            is = found.1 ∙ ap (λ (x : Sight). x ∷ []) (sym (same_head sight found.0 later (sights c inside (after_deed S deed) rest) both));
            more = same_tail sight found.0 later (sights c inside (after_deed S deed) rest) both;
            answers = along (answers_to c) S deed rest (answers_to c S deed) refl;
            ends = refl;
          }

      shown_at : (others : List Deed) (S : Register) → Abreast c inside R S → keeps_its_steps c S others ≡ true → sight ∷ later ≡ sights c inside S others → Shown S others sight later
      shown_at [] S near kept same = absurd (none_is_some sight later (same ∙ along_none (shown_by c inside) S))
      shown_at (deed ∷ rest) S near kept same = shown_on deed rest (λ T on keeps further. shown_at rest T on keeps further) S near kept same (deed_shows c inside S deed)

  -- ---- the first list

  -- what is asked of it
  record Fits (R : Register) (deeds : List Deed) : Type 0 where
    never : is_never_operators c R deeds ≡ true
    covered : everywhere is_covered R deeds ≡ true
    orders : each_is is_order_covered R deeds ≡ true
    kept : keeps_its_steps c R deeds ≡ true

  -- the replies are the same, and the registers agree at the end
  record EndAlike (R : Register) (deeds : List Deed) (S : Register) (others : List Deed) : Type 0 where
    answers : all_answers c R deeds ≡ all_answers c S others
    agree : Agree c inside (after_deeds R deeds) (after_deeds S others)

  abbrev HoldsFor : List Deed → Type 0
  HoldsFor deeds = (R S : Register) (others : List Deed) → Abreast c inside R S → Fits R deeds → keeps_its_steps c S others ≡ true → sights c inside R deeds ≡ sights c inside S others
      → EndAlike R deeds S others

  never_here : (R : Register) (deeds : List Deed) → is_never_operators c R deeds ≡ true → is_operators R c.requester ≡ false
  never_here R deeds never = not-true (is_operators R c.requester) (is_here (λ T. not (is_operators T c.requester)) R deeds never)

  at_the_end : HoldsFor []
  unfolding after_deeds
  at_the_end R S others near fits kept same =
      let end = ended R (is_here is_covered R [] fits.covered) others S near kept (sym same ∙ along_none (shown_by c inside) R) in
      record { answers = along_none (answers_to c) R ∙ sym end.answers; agree = end.agree }

  module _ (deed : Deed) (rest : List Deed) (later : HoldsFor rest) (R : Register) (fits : Fits R (deed ∷ rest)) where
    abbrev next : Register
    next = after_deed R deed

    fits_later : Fits next rest
    fits_later = record {
      never = is_after (λ T. not (is_operators T c.requester)) R deed rest fits.never;
      covered = is_after is_covered R deed rest fits.covered;
      orders = rest_is is_order_covered R deed rest fits.orders;
      kept = rest_is is_kept R deed rest fits.kept;
    }

    covered_here : IsCovered c inside R deed
    covered_here = record {
      here = is_here is_covered R (deed ∷ rest) fits.covered;
      made = first_is is_order_covered R deed rest fits.orders;
      next = is_here is_covered next rest fits_later.covered;
    }

    goes_on : (S : Register) (others : List Deed) → Abreast c inside R S → keeps_its_steps c S others ≡ true → sights c inside R (deed ∷ rest) ≡ sights c inside S others
        → Shows (shown_by c inside R deed) → EndAlike R (deed ∷ rest) S others
    unfolding after_deeds
    goes_on S others near kept same (inl silent) =
        let on : Abreast c inside next S = record {
          first_good = deed_keeps_good R deed near.first_good;
          second_good = near.second_good;
          no_operator = never_here next rest fits_later.never;
          agree = first_silent c inside R S near deed covered_here (not-true (gives_up_by deed R c) (first_is is_kept R deed rest fits.kept)) silent;
        } in
        let end = later next S others on fits_later kept (sym (along (shown_by c inside) R deed rest [] silent) ∙ same) in
        record { answers = along (answers_to c) R deed rest [] (silent_answer c inside R S near R deed silent) ∙ end.answers; agree = end.agree }
    goes_on S others near kept same (inr found) =
        let it = shown_at R covered_here.here found.0 (sights c inside next rest) others S near kept (sym (along (shown_by c inside) R deed rest (found.0 ∷ []) found.1) ∙ same) in
        let meet = deeds_meet c inside R it.place it.near deed it.deed covered_here found.0 found.1 it.is in
        let on : Abreast c inside next (after_deed it.place it.deed) = record {
          first_good = deed_keeps_good R deed it.near.first_good;
          second_good = deed_keeps_good it.place it.deed it.near.second_good;
          no_operator = never_here next rest fits_later.never;
          agree = meet.agree;
        } in
        let end = later next (after_deed it.place it.deed) it.rest on fits_later it.kept it.more in
        record {
          answers = along (answers_to c) R deed rest (answers_to c R deed) refl ∙ (λ i. meet.answers i ++ end.answers i) ∙ sym it.answers;
          agree = subst (λ (T : Register). Agree c inside (after_deeds next rest) T) (sym it.ends) end.agree;
        }

  all_alike : (deeds : List Deed) → HoldsFor deeds
  all_alike [] = at_the_end
  all_alike (deed ∷ rest) = λ R S others near fits kept same.
      goes_on deed rest (all_alike rest) R fits S others near kept same (deed_shows c inside R deed)

-- THE HEADLINE, FIRST HALF
pub same_sights_same_answers : SameSightsSameAnswers
same_sights_same_answers c inside R S deeds others shown =
    let covered = and_parts _ _ shown.covered in
    let end = all_alike c inside deeds R S others (record {
      first_good = shown.first_good;
      second_good = shown.second_good;
      no_operator = never_here c inside R deeds shown.never_operators;
      agree = shown.agree;
    }) (record {
      never = shown.never_operators;
      covered = covered.0;
      orders = covered.1;
      kept = shown.first_kept;
    }) shown.second_kept shown.same_shown in
    (end.answers, end.agree)
