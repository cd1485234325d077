-- What one entry shows and is answered: at most one sight, and what it comes to in two registers that agree.
use Rattle.std.proofs.Common.{◌≡◌, ◌∙◌, ◌⊎◌, inl, inr, ℕ, Bool, true, false, cond, List, [], ◌∷◌, map, Option, refl, sym, ap, subst}
use Rattle.clr_rules.proofs.edits.EditedLists.{edited_all-staff}
use Rattle.clr_rules.proofs.isolation.Agreement.{agrees_back, agrees_on}
use Rattle.clr_rules.proofs.isolation.Headline.{answered_others, answered_own, shown_heard, shown_own}
use Rattle.clr_rules.proofs.isolation.OthersSteps.{first_step, others_step, second_step}
use Rattle.clr_rules.proofs.isolation.OwnSteps.{own_step}
use Rattle.clr_rules.proofs.keeps.EveryKind.{commands_keep_good}
use Rattle.clr_rules.specs.Agreement.{Agree}
use Rattle.clr_rules.specs.Answer.{Answer, answer}
use Rattle.clr_rules.specs.Checks.{employee, has_role, is_operator}
use Rattle.clr_rules.specs.Fences.{clearance_fence}
use Rattle.clr_rules.specs.Isolation.{AreAlike}
use Rattle.clr_rules.specs.Run.{after}
use Rattle.clr_rules.specs.Shown.{Item, asked_row, covers, includes, is_own_command, items_shown, marks_of, own_answers, with_marks}
use Rattle.clr_net.specs.declared.section.SectionRow.{SectionRow}
use Rattle.clr_update.proofs.Agreeing.{same_changes_agree, unseen_updates_agree}
use Rattle.clr_update.proofs.Common.{Changes, Command, Edit, Id, IsGood, Register, StaffRow, Update, after_update, are_none, changes, is_operators, near_set}
use Rattle.clr_update.proofs.Good.{updates_keep_good}
use Rattle.clr_update.specs.Entries.{Entry, IsReadable, Sight, after_entry, answers_to, covers_entry, shown_by, where_some_change}

-- two good registers that agree near a clearance whose requester is no operator
pub record Abreast (c : Id) (inside : List ℕ → Bool) (R S : Register) : Type 0 where
  pub first_good : IsGood R
  pub second_good : IsGood S
  pub no_operator : is_operators R c.requester ≡ false
  pub agree : Agree c inside R S

-- an entry keeps a good register good
pub entry_keeps_good : (R : Register) (entry : Entry) → IsGood R → IsReadable entry → IsGood (after_entry R entry)
entry_keeps_good R (Entry.command q) good readable = commands_keep_good R q good
entry_keeps_good R (Entry.update u) good readable = updates_keep_good.good R u good readable

alike : (c : Id) (inside : List ℕ → Bool) (R S : Register) (commands : List Command) → Abreast c inside R S → covers c inside R commands ≡ true
    → AreAlike c inside R S commands
alike c inside R S commands near covered = record {
  first_good = near.first_good.said;
  second_good = near.second_good.said;
  first_orders = near.first_good.besides.switch_orders;
  second_orders = near.second_good.besides.switch_orders;
  no_operator = near.no_operator;
  agree = near.agree;
  covered = covered;
}

-- ---- what one entry shows: nothing, or one sight

abbrev pub Shows : List Sight → Type 0
Shows shown = (shown ≡ []) ⊎ ((sight : Sight) × (shown ≡ sight ∷ []))

-- no more than one
marks_show : (c : Id) (inside : List ℕ → Bool) (R : Register) (q : Command) → is_own_command c q ≡ false
    → (marks : List Edit) → marks_of R.net inside (Answer.edits (answer R q)) ≡ marks → items_shown c inside R (q ∷ []) ≡ with_marks marks []
unfolding items_shown
marks_show c inside R q is marks are = shown_heard c inside R q [] is marks are

own_shows : (c : Id) (inside : List ℕ → Bool) (R : Register) (q : Command) → is_own_command c q ≡ true → items_shown c inside R (q ∷ []) ≡ Item.own q (asked_row R q.kind) ∷ []
unfolding items_shown
own_shows c inside R q is = shown_own c inside R q [] is

own_answered : (c : Id) (R : Register) (q : Command) → is_own_command c q ≡ true → own_answers c R (q ∷ []) ≡ answer R q ∷ []
unfolding own_answers
own_answered c R q is = answered_own c R q [] is

others_answered : (c : Id) (R : Register) (q : Command) → is_own_command c q ≡ false → own_answers c R (q ∷ []) ≡ []
unfolding own_answers
others_answered c R q is = answered_others c R q [] is

pub shows : (c : Id) (inside : List ℕ → Bool) (R : Register) (entry : Entry) → Shows (shown_by c inside R entry)
shows c inside R (Entry.command q) = at (is_own_command c q) refl
  where
    by_marks : is_own_command c q ≡ false → (marks : List Edit) → marks_of R.net inside (Answer.edits (answer R q)) ≡ marks → Shows (map Sight.item (items_shown c inside R (q ∷ [])))
    by_marks is [] are = subst (λ (items : List Item). Shows (map Sight.item items)) (sym (marks_show c inside R q is [] are)) (inl refl)
    by_marks is (edit ∷ edits) are = subst (λ (items : List Item). Shows (map Sight.item items)) (sym (marks_show c inside R q is (edit ∷ edits) are)) (inr (Sight.item (Item.marks edit edits), refl))

    at : (b : Bool) → is_own_command c q ≡ b → Shows (map Sight.item (items_shown c inside R (q ∷ [])))
    at true is = subst (λ (items : List Item). Shows (map Sight.item items)) (sym (own_shows c inside R q is)) (inr (Sight.item (Item.own q (asked_row R q.kind)), refl))
    at false is = by_marks is (marks_of R.net inside (Answer.edits (answer R q))) refl
shows c inside R (Entry.update u) = at (are_none of)
  where
    of : Changes
    of = near_set inside (changes R (after_update R u))

    at : (b : Bool) → Shows (cond b [] (Sight.changed of ∷ []))
    at true = inl refl
    at false = inr (Sight.changed of, refl)

-- ---- what it comes to

one_is_none : {X : Type 0} (x : X) → x ∷ [] ≡ [] → ⊥
one_is_none x same = cc

-- no command makes the requester an operator
still_none : (c : Id) (R : Register) (q : Command) → is_operators R c.requester ≡ false → is_operators (after R q) c.requester ≡ false
still_none c R q none = ap (λ (staff : List StaffRow). has_role is_operator (employee staff c.requester)) (edited_all-staff R (Answer.edits (answer R q))) ∙ none

module _ (c : Id) (inside : List ℕ → Bool) (R S : Register) (near : Abreast c inside R S) where
  no_mark : (T : Register) (q : Command) → map Sight.item (items_shown c inside T (q ∷ [])) ≡ [] → is_own_command c q ≡ false
      → marks_of T.net inside (Answer.edits (answer T q)) ≡ []
  no_mark T q none is = at (marks_of T.net inside (Answer.edits (answer T q))) refl
    where
      at : (marks : List Edit) → marks_of T.net inside (Answer.edits (answer T q)) ≡ marks → marks ≡ []
      at [] are = refl
      at (edit ∷ edits) are = absurd (one_is_none (Sight.item (Item.marks edit edits)) (ap (map Sight.item) (sym (marks_show c inside T q is (edit ∷ edits) are)) ∙ none))

  not_own : (T : Register) (q : Command) → map Sight.item (items_shown c inside T (q ∷ [])) ≡ [] → (b : Bool) → is_own_command c q ≡ b → b ≡ false
  not_own T q none true is = absurd (one_is_none (Sight.item (Item.own q (asked_row T q.kind))) (ap (map Sight.item) (sym (own_shows c inside T q is)) ∙ none))
  not_own T q none false is = refl

  nothing_near : (T : Register) (u : Update) → where_some_change (near_set inside (changes T (after_update T u))) ≡ [] → are_none (near_set inside (changes T (after_update T u))) ≡ true
  nothing_near T u none = at (are_none of) refl
    where
      of : Changes
      of = near_set inside (changes T (after_update T u))

      at : (b : Bool) → are_none of ≡ b → b ≡ true
      at true is = refl
      at false is = absurd (one_is_none (Sight.changed of) (sym (ap (λ b. cond b [] (Sight.changed of ∷ [])) is) ∙ none))

  pub silent_answer : (T : Register) (entry : Entry) → shown_by c inside T entry ≡ [] → answers_to c T entry ≡ []
  silent_answer T (Entry.command q) none = others_answered c T q (not_own T q none (is_own_command c q) refl)
  silent_answer T (Entry.update u) none = refl

  pub first_silent : (entry : Entry) → IsReadable entry → covers_entry c inside R entry ≡ true → shown_by c inside R entry ≡ [] → Agree c inside (after_entry R entry) S
  first_silent (Entry.command q) readable covered none =
      let is = not_own R q none (is_own_command c q) refl in
      first_step c inside R S (q ∷ []) (alike c inside R S (q ∷ []) near covered) q (λ _. near.first_good.besides.points_known) is (no_mark R q none is)
  first_silent (Entry.update u) readable covered none =
      agrees_on c inside (after_update R u) R S (agrees_back c inside R (after_update R u) (unseen_updates_agree c inside R u near.first_good readable (nothing_near R u none))) near.agree

  pub second_silent : (entry : Entry) → IsReadable entry → includes inside (clearance_fence R c) ≡ true → shown_by c inside S entry ≡ [] → Agree c inside R (after_entry S entry)
  unfolding covers
  second_silent (Entry.command q) readable covered none =
      let is = not_own S q none (is_own_command c q) refl in
      second_step c inside R S [] (alike c inside R S [] near covered) q (λ _. near.second_good.besides.points_known) is (no_mark S q none is)
  second_silent (Entry.update u) readable covered none =
      agrees_on c inside R S (after_update S u) near.agree (unseen_updates_agree c inside S u near.second_good readable (nothing_near S u none))

  -- ---- entries that show the same

  same_item : (a b : Item) → Sight.item a ≡ Sight.item b → a ≡ b
  same_item a b same = cc

  same_changed : (a b : Changes) → Sight.changed a ≡ Sight.changed b → a ≡ b
  same_changed a b same = cc

  item_is_no_change : (a : Item) (b : Changes) → Sight.item a ≡ Sight.changed b → ⊥
  item_is_no_change a b same = cc

  own_is_no_mark : (q : Command) (row : Option SectionRow) (edit : Edit) (edits : List Edit) → Item.own q row ≡ Item.marks edit edits → ⊥
  own_is_no_mark q row edit edits same = cc

  same_command : (q p : Command) (row other : Option SectionRow) → Item.own q row ≡ Item.own p other → q ≡ p
  same_command q p row other same = cc

  same_row : (q p : Command) (row other : Option SectionRow) → Item.own q row ≡ Item.own p other → row ≡ other
  same_row q p row other same = cc

  same_marks : (edit mark : Edit) (edits marks : List Edit) → Item.marks edit edits ≡ Item.marks mark marks → edit ∷ edits ≡ mark ∷ marks
  same_marks edit mark edits marks same = cc

  first_sight : (a : Sight) (rest : List Sight) (b : Sight) → a ∷ rest ≡ b ∷ [] → a ≡ b
  first_sight a rest b same = cc

  only_one : {X : Type 0} (x y : X) → x ∷ [] ≡ y ∷ [] → x ≡ y
  only_one x y same = cc

  -- both are answered alike, and the registers agree again
  pub record Meet (first second : Entry) : Type 0 where
    pub answers : answers_to c R first ≡ answers_to c S second
    pub agree : Agree c inside (after_entry R first) (after_entry S second)

  own_meets : (q : Command) → covers c inside R (q ∷ []) ≡ true → is_own_command c q ≡ true → asked_row R q.kind ≡ asked_row S q.kind → Meet (Entry.command q) (Entry.command q)
  own_meets q covered is row =
      let step = own_step c inside R S q (alike c inside R S (q ∷ []) near covered) is row in
      record { answers = own_answered c R q is ∙ ap (λ (a : Answer). a ∷ []) step.0 ∙ sym (own_answered c S q is); agree = step.1 }

  -- the items of two commands
  commands_meet : (q p : Command) → covers c inside R (q ∷ []) ≡ true → (sight : Sight) → map Sight.item (items_shown c inside R (q ∷ [])) ≡ sight ∷ []
      → map Sight.item (items_shown c inside S (p ∷ [])) ≡ sight ∷ [] → Meet (Entry.command q) (Entry.command p)
  commands_meet q p covered sight first second = by_first (is_own_command c q) refl
    where
      -- what each shows is one sight
      item_of : (T : Register) (x : Command) (a : Item) → items_shown c inside T (x ∷ []) ≡ a ∷ [] → map Sight.item (items_shown c inside T (x ∷ [])) ≡ sight ∷ [] → Sight.item a ≡ sight
      item_of T x a shown is = only_one (Sight.item a) sight (ap (map Sight.item) (sym shown) ∙ is)

      both_own : is_own_command c q ≡ true → is_own_command c p ≡ true → Meet (Entry.command q) (Entry.command p)
      both_own q_is p_is =
          let same = same_item (Item.own q (asked_row R q.kind)) (Item.own p (asked_row S p.kind))
          (item_of R q _ (own_shows c inside R q q_is) first ∙ sym (item_of S p _ (own_shows c inside S p p_is) second)) in
          let equal = same_command q p _ _ same in
          subst (λ (x : Command). Meet (Entry.command q) (Entry.command x)) equal
          (own_meets q covered q_is (same_row q p _ _ same ∙ ap (λ (x : Command). asked_row S x.kind) (sym equal)))

      both_marks : is_own_command c q ≡ false → is_own_command c p ≡ false → (marks others : List Edit) → marks_of R.net inside (Answer.edits (answer R q)) ≡ marks
          → marks_of S.net inside (Answer.edits (answer S p)) ≡ others → Meet (Entry.command q) (Entry.command p)
      both_marks q_is p_is [] others q_are p_are = absurd (one_is_none sight (sym (ap (map Sight.item) (sym (marks_show c inside R q q_is [] q_are)) ∙ first)))
      both_marks q_is p_is (edit ∷ edits) [] q_are p_are = absurd (one_is_none sight (sym (ap (map Sight.item) (sym (marks_show c inside S p p_is [] p_are)) ∙ second)))
      both_marks q_is p_is (edit ∷ edits) (mark ∷ marks) q_are p_are =
          let same = same_item (Item.marks edit edits) (Item.marks mark marks)
          (item_of R q _ (marks_show c inside R q q_is (edit ∷ edits) q_are) first ∙ sym (item_of S p _ (marks_show c inside S p p_is (mark ∷ marks) p_are) second)) in
          record {
            answers = others_answered c R q q_is ∙ sym (others_answered c S p p_is);
            agree = others_step c inside R S q p (alike c inside R S (q ∷ []) near covered) (λ _. near.first_good.besides.points_known) (λ _. near.second_good.besides.points_known)
                q_is p_is (q_are ∙ same_marks edit mark edits marks same ∙ sym p_are);
          }

      -- an own command meets no marks
      mixed : (a b : Register) (x y : Command) → is_own_command c x ≡ true → is_own_command c y ≡ false → map Sight.item (items_shown c inside a (x ∷ [])) ≡ sight ∷ []
          → map Sight.item (items_shown c inside b (y ∷ [])) ≡ sight ∷ [] → (marks : List Edit) → marks_of b.net inside (Answer.edits (answer b y)) ≡ marks → ⊥
      mixed a b x y x_is y_is x_shows y_shows [] are = one_is_none sight (sym (ap (map Sight.item) (sym (marks_show c inside b y y_is [] are)) ∙ y_shows))
      mixed a b x y x_is y_is x_shows y_shows (edit ∷ edits) are = own_is_no_mark x (asked_row a x.kind) edit edits
          (same_item (Item.own x (asked_row a x.kind)) (Item.marks edit edits)
          (item_of a x _ (own_shows c inside a x x_is) x_shows ∙ sym (item_of b y _ (marks_show c inside b y y_is (edit ∷ edits) are) y_shows)))

      by_second : (b d : Bool) → is_own_command c q ≡ b → is_own_command c p ≡ d → Meet (Entry.command q) (Entry.command p)
      by_second true true q_is p_is = both_own q_is p_is
      by_second false false q_is p_is = both_marks q_is p_is _ _ refl refl
      by_second true false q_is p_is = absurd (mixed R S q p q_is p_is first second _ refl)
      by_second false true q_is p_is = absurd (mixed S R p q p_is q_is second first _ refl)

      by_first : (b : Bool) → is_own_command c q ≡ b → Meet (Entry.command q) (Entry.command p)
      by_first b is = by_second b (is_own_command c p) is refl

  -- a change that is shown is what changes near
  changed_is : (T : Register) (u : Update) (sight : Sight) → where_some_change (near_set inside (changes T (after_update T u))) ≡ sight ∷ []
      → Sight.changed (near_set inside (changes T (after_update T u))) ≡ sight
  changed_is T u sight is = at (are_none (near_set inside (changes T (after_update T u)))) is
    where
      at : (b : Bool) → cond b [] (Sight.changed (near_set inside (changes T (after_update T u))) ∷ []) ≡ sight ∷ [] → Sight.changed (near_set inside (changes T (after_update T u))) ≡ sight
      at true none = absurd (one_is_none sight (sym none))
      at false some = only_one _ sight some

  command_item : (T : Register) (q : Command) (sight : Sight) → map Sight.item (items_shown c inside T (q ∷ [])) ≡ sight ∷ [] → (a : Changes) → Sight.changed a ≡ sight → ⊥
  command_item T q sight shown a is = at (items_shown c inside T (q ∷ [])) shown
    where
      at : (items : List Item) → map Sight.item items ≡ sight ∷ [] → ⊥
      at [] none = one_is_none sight (sym none)
      at (item ∷ items) some = item_is_no_change item a (first_sight (Sight.item item) (map Sight.item items) sight some ∙ sym is)

  -- ENTRIES THAT SHOW THE SAME meet
  pub entries_meet : (first second : Entry) → IsReadable first → IsReadable second → covers_entry c inside R first ≡ true
      → (sight : Sight) → shown_by c inside R first ≡ sight ∷ [] → shown_by c inside S second ≡ sight ∷ [] → Meet first second
  entries_meet (Entry.command q) (Entry.command p) q_read p_read covered sight first second = commands_meet q p covered sight first second
  entries_meet (Entry.update u) (Entry.update v) u_read v_read covered sight first second = record {
    answers = refl;
    agree = same_changes_agree c inside R S u v near.first_good near.second_good u_read v_read
        (same_changed _ _ (changed_is R u sight first ∙ sym (changed_is S v sight second))) near.agree;
  }
  entries_meet (Entry.command q) (Entry.update v) q_read v_read covered sight first second = absurd (command_item R q sight first _ (changed_is S v sight second))
  entries_meet (Entry.update u) (Entry.command p) u_read p_read covered sight first second = absurd (command_item S p sight second _ (changed_is R u sight first))
