-- The headline over commands and updates: by the first list, and inside it by the second, past what shows nothing.
use Rattle.std.proofs.Common.{◌≡◌, ◌∙◌, ◌⊎◌, inl, inr, ℕ, Bool, true, false, ◌++◌, List, [], ◌∷◌, refl, sym, ap, subst}
use Rattle.clr_rules.proofs.isolation.OthersEdits.{others_left_alone}
use Rattle.clr_rules.specs.Agreement.{Agree}
use Rattle.clr_rules.specs.Answer.{Answer}
use Rattle.clr_rules.specs.Fences.{clearance_fence}
use Rattle.clr_rules.specs.Isolation.{LeftAlone}
use Rattle.clr_rules.specs.Shown.{covers, includes}
use Rattle.clr_rules.specs.Staffed.{IsStaffed}
use Rattle.clr_rules.proofs.staffed.EveryKind.{commands_keep_staffed}
use Rattle.clr_update.proofs.Common.{Id, IsGood, Register, and_parts, is_operators, not-true}
use Rattle.clr_update.proofs.EntryFacts.{Abreast, entries_meet, entry_keeps_good, first_silent, second_silent, shows, silent_answer}
use Rattle.clr_update.proofs.Good.{updates_keep_good}
use Rattle.clr_update.proofs.Left.{updates_take_nothing}
use Rattle.clr_update.specs.Entries.{AllReadable, Entry, IsReadable, Sight, after_entries, after_entry, all_answers, answers_to, covers_all, covers_entry, is_never_operators, is_others_entry, shown_by, sights}
use Rattle.clr_update.specs.Laws.{EntriesKeepGood, NoEntryTakesAway, SameSightsSameAnswers}

none_is_some : (sight : Sight) (rest : List Sight) → [] ≡ sight ∷ rest → ⊥
none_is_some sight rest same = cc

same_head : (a b : Sight) (xs ys : List Sight) → a ∷ xs ≡ b ∷ ys → a ≡ b
same_head a b xs ys same = cc

same_tail : (a b : Sight) (xs ys : List Sight) → a ∷ xs ≡ b ∷ ys → xs ≡ ys
same_tail a b xs ys same = cc

module _ (c : Id) (inside : List ℕ → Bool) where
  -- ---- lists of entries

  covers_first : (R : Register) (entry : Entry) (entries : List Entry) → covers_all c inside R (entry ∷ entries) ≡ true → covers_entry c inside R entry ≡ true
  unfolding covers_all
  covers_first R entry entries covered = (and_parts _ _ covered).0

  covers_rest : (R : Register) (entry : Entry) (entries : List Entry) → covers_all c inside R (entry ∷ entries) ≡ true → covers_all c inside (after_entry R entry) entries ≡ true
  unfolding covers_all
  covers_rest R entry entries covered = (and_parts _ _ covered).1

  entry_covers_fence : (R : Register) (entry : Entry) → covers_entry c inside R entry ≡ true → includes inside (clearance_fence R c) ≡ true
  unfolding covers
  entry_covers_fence R (Entry.command q) covered = (and_parts _ _ (and_parts _ _ covered).0).0
  entry_covers_fence R (Entry.update u) covered = covered

  covers_fence : (R : Register) (entries : List Entry) → covers_all c inside R entries ≡ true → includes inside (clearance_fence R c) ≡ true
  unfolding covers_all
  covers_fence R [] covered = covered
  covers_fence R (entry ∷ entries) covered = entry_covers_fence R entry (covers_first R entry entries covered)

  never_here : (R : Register) (entries : List Entry) → is_never_operators c R entries ≡ true → is_operators R c.requester ≡ false
  unfolding is_never_operators
  never_here R [] never = not-true (is_operators R c.requester) never
  never_here R (entry ∷ entries) never = not-true (is_operators R c.requester) (and_parts _ _ never).0

  never_rest : (R : Register) (entry : Entry) (entries : List Entry) → is_never_operators c R (entry ∷ entries) ≡ true → is_never_operators c (after_entry R entry) entries ≡ true
  unfolding is_never_operators
  never_rest R entry entries never = (and_parts _ _ never).1

  seen : (R : Register) (entry : Entry) (entries : List Entry) (shown : List Sight) → shown_by c inside R entry ≡ shown
      → sights c inside R (entry ∷ entries) ≡ shown ++ sights c inside (after_entry R entry) entries
  unfolding sights
  seen R entry entries shown is = ap (λ (first : List Sight). first ++ sights c inside (after_entry R entry) entries) is

  answered : (R : Register) (entry : Entry) (entries : List Entry) → all_answers c R (entry ∷ entries) ≡ answers_to c R entry ++ all_answers c (after_entry R entry) entries
  unfolding all_answers
  answered R entry entries = refl

  all_read : (entry : Entry) (entries : List Entry) → AllReadable (entry ∷ entries) → IsReadable entry × AllReadable entries
  unfolding AllReadable
  all_read entry entries read = read

  -- ---- two lists

  -- the replies are the same, and the registers agree at the end
  record EndAlike (R : Register) (entries : List Entry) (S : Register) (others : List Entry) : Type 0 where
    answers : all_answers c R entries ≡ all_answers c S others
    agree : Agree c inside (after_entries R entries) (after_entries S others)

  module _ (R : Register) (entries : List Entry) (covered : includes inside (clearance_fence R c) ≡ true) (items : List Sight) where
    -- what is owed where the second list ends, and where its next entry shows something
    record Owed : Type 0 where
      at_end : (S : Register) → Abreast c inside R S → items ≡ [] → EndAlike R entries S []
      at_sight : (S : Register) (entry : Entry) (rest : List Entry) → Abreast c inside R S → IsReadable entry → AllReadable rest
          → (sight : Sight) → shown_by c inside S entry ≡ sight ∷ [] → items ≡ sight ∷ sights c inside (after_entry S entry) rest
          → EndAlike R entries S (entry ∷ rest)

    module _ (owed : Owed) where
      past_one : (S : Register) (entry : Entry) (rest : List Entry)
          → ((T : Register) → Abreast c inside R T → items ≡ sights c inside T rest → EndAlike R entries T rest)
          → Abreast c inside R S → IsReadable entry → AllReadable rest → items ≡ sights c inside S (entry ∷ rest)
          → (shown_by c inside S entry ≡ []) ⊎ ((sight : Sight) × (shown_by c inside S entry ≡ sight ∷ [])) → EndAlike R entries S (entry ∷ rest)
      unfolding after_entries
      past_one S entry rest later near readable read same (inl none) =
          let on : Abreast c inside R (after_entry S entry) = record {
            first_good = near.first_good;
            second_good = entry_keeps_good S entry near.second_good readable;
            no_operator = near.no_operator;
            agree = second_silent c inside R S near entry readable covered none;
          } in
          let end = later (after_entry S entry) on (same ∙ seen S entry rest [] none) in
          record {
            answers = end.answers ∙ sym (answered S entry rest ∙ ap (λ (first : List Answer). first ++ all_answers c (after_entry S entry) rest) (silent_answer c inside R S near S entry none));
            agree = end.agree;
          }
      past_one S entry rest later near readable read same (inr found) =
          owed.at_sight S entry rest near readable read found.0 found.1 (same ∙ seen S entry rest (found.0 ∷ []) found.1)

      past : (others : List Entry) (S : Register) → Abreast c inside R S → AllReadable others → items ≡ sights c inside S others → EndAlike R entries S others
      unfolding sights
      past [] S near read same = owed.at_end S near same
      past (entry ∷ rest) S near read same =
          let both = all_read entry rest read in
          past_one S entry rest (λ T along more. past rest T along both.1 more) near both.0 both.1 same (shows c inside S entry)

  abbrev HoldsFor : List Entry → Type 0
  HoldsFor entries = (R S : Register) (others : List Entry) → Abreast c inside R S → AllReadable entries → AllReadable others
      → is_never_operators c R entries ≡ true → covers_all c inside R entries ≡ true → sights c inside R entries ≡ sights c inside S others → EndAlike R entries S others

  at_the_end : HoldsFor []
  unfolding sights all_answers after_entries
  at_the_end R S others near read others_read never covered same = past R [] (covers_fence R [] covered) [] (record {
    at_end = λ T along none. record { answers = refl; agree = along.agree };
    at_sight = λ T entry rest along readable rest_read sight is there. absurd (none_is_some _ _ there);
  }) others S near others_read same

  module _ (entry : Entry) (rest : List Entry) (later : HoldsFor rest) (R : Register) (readable : IsReadable entry) (read : AllReadable rest)
      (never : is_never_operators c R (entry ∷ rest) ≡ true) (covered : covers_all c inside R (entry ∷ rest) ≡ true) where
    abbrev next : Register
    next = after_entry R entry

    next_no_operator : is_operators next c.requester ≡ false
    next_no_operator = never_here next rest (never_rest R entry rest never)

    goes_on : (S : Register) (others : List Entry) → Abreast c inside R S → AllReadable others
        → (shown_by c inside R entry ≡ []) ⊎ ((sight : Sight) × (shown_by c inside R entry ≡ sight ∷ []))
        → sights c inside R (entry ∷ rest) ≡ sights c inside S others → EndAlike R (entry ∷ rest) S others
    unfolding after_entries
    goes_on S others near others_read (inl none) same =
        let on : Abreast c inside next S = record {
          first_good = entry_keeps_good R entry near.first_good readable;
          second_good = near.second_good;
          no_operator = next_no_operator;
          agree = first_silent c inside R S near entry readable (covers_first R entry rest covered) none;
        } in
        let end = later next S others on read others_read (never_rest R entry rest never) (covers_rest R entry rest covered) (sym (seen R entry rest [] none) ∙ same) in
        record {
          answers = answered R entry rest ∙ ap (λ (first : List Answer). first ++ all_answers c next rest) (silent_answer c inside R S near R entry none) ∙ end.answers;
          agree = end.agree;
        }
    goes_on S others near others_read (inr found) same = past R (entry ∷ rest) (covers_fence R (entry ∷ rest) covered) (found.0 ∷ sights c inside next rest) (record {
      at_end = λ T along none. absurd (none_is_some _ _ (sym none));
      at_sight = λ T other more along other_readable more_read sight is there.
          let equal : sight ≡ found.0 = sym (same_head found.0 sight _ _ there) in
          let meet = entries_meet c inside R T along entry other readable other_readable (covers_first R entry rest covered) found.0 found.1
          (subst (λ (x : Sight). shown_by c inside T other ≡ x ∷ []) equal is) in
          let on : Abreast c inside next (after_entry T other) = record {
            first_good = entry_keeps_good R entry along.first_good readable;
            second_good = entry_keeps_good T other along.second_good other_readable;
            no_operator = next_no_operator;
            agree = meet.agree;
          } in
          let end = later next (after_entry T other) more on read more_read (never_rest R entry rest never) (covers_rest R entry rest covered) (same_tail found.0 sight _ _ there) in
          record {
            answers = answered R entry rest ∙ (λ i. meet.answers i ++ end.answers i) ∙ sym (answered T other more);
            agree = end.agree;
          };
    }) others S near others_read (sym (seen R entry rest (found.0 ∷ []) found.1) ∙ same)

  all_alike : (entries : List Entry) → HoldsFor entries
  all_alike [] = at_the_end
  all_alike (entry ∷ rest) = λ R S others near read others_read never covered same.
      let both = all_read entry rest read in
      goes_on entry rest (all_alike rest) R both.0 both.1 never covered S others near others_read (shows c inside R entry) same

-- THE HEADLINE, FIRST HALF
pub same_sights_same_answers : SameSightsSameAnswers
same_sights_same_answers c inside R S entries others shown =
    let end = all_alike c inside entries R S others (record {
      first_good = shown.first_good;
      second_good = shown.second_good;
      no_operator = never_here c inside R entries shown.never_operators;
      agree = shown.agree;
    }) shown.first_read shown.second_read shown.never_operators shown.covered shown.same_shown in
    (end.answers, end.agree)

-- ---- good throughout, and nothing taken away

entries_good : (entries : List Entry) (R : Register) → IsGood R → AllReadable entries → IsGood (after_entries R entries)
unfolding after_entries AllReadable
entries_good [] R good read = good
entries_good (entry ∷ entries) R good read = entries_good entries (after_entry R entry) (entry_keeps_good R entry good read.0) read.1

entry_staffed : (R : Register) (entry : Entry) → IsGood R → IsStaffed R → IsReadable entry → IsStaffed (after_entry R entry)
entry_staffed R (Entry.command q) good staffed readable = commands_keep_staffed R q good staffed
entry_staffed R (Entry.update u) good staffed readable = updates_keep_good.staffed R u good staffed readable

entries_staffed : (entries : List Entry) (R : Register) → IsGood R → AllReadable entries → IsStaffed R → IsStaffed (after_entries R entries)
unfolding after_entries AllReadable
entries_staffed [] R good read staffed = staffed
entries_staffed (entry ∷ entries) R good read staffed =
    entries_staffed entries (after_entry R entry) (entry_keeps_good R entry good read.0) read.1 (entry_staffed R entry good staffed read.0)

pub entries_keep_good : EntriesKeepGood
entries_keep_good R entries good read = (entries_good entries R good read, entries_staffed entries R good read)

left_alone : (R : Register) (c : Id) (entry : Entry) → IsGood R → IsReadable entry → is_others_entry c R entry ≡ true → LeftAlone c R (after_entry R entry)
left_alone R c (Entry.command q) good readable others = others_left_alone R c q good others
left_alone R c (Entry.update u) good readable others = (updates_take_nothing R u good readable).left c

-- THE HEADLINE, SECOND HALF
pub no_entry_takes_away : NoEntryTakesAway
no_entry_takes_away R entries c entry good read readable others =
    left_alone (after_entries R entries) c entry (entries_good entries R good read) readable others
