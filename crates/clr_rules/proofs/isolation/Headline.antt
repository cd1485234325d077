-- The headline's first half, from the steps: by the first list of commands, and inside it by the second, past what shows nothing.
use Rattle.std.proofs.Common.{◌≡◌, ℕ, Bool, true, false, cond, ◌||◌, ◌++◌, not, List, [], ◌∷◌, Option, refl, sym, ◌∙◌, ap, subst, if◌then◌else◌, filter, find}
use Rattle.clr_rules.proofs.Common.{list_all, nat_list_cmp_total, nat_list_eq_equiv, texts_ties, Grid, name_cmp, same_name, has_name, one_name, same_itself, row_of, SectionRow, StaffRow, Agree}
use Rattle.clr_rules.proofs.Common.{Answer, answer, clearance_fence, IsGood, ListsAreInOrder, is_operators, Edit, AddSection, Command, Kind, Id, Register, after_edit, after_edits, after, after_all}
use Rattle.clr_rules.proofs.Common.{Request}
use Rattle.std.proofs.lemmas.Bool.{and_from, and_parts, both_ways, false≢true, false_from_ne_true, not-true, or_left, or_parts, or_right}
use Rattle.std.proofs.lemmas.List.Folds.{list_any-append}
use Rattle.clr_net.specs.Additions.{with_named}
use Rattle.clr_shelf.proofs.Reading.{row_of-with_other}
use Rattle.clr_rules.proofs.edits.PlainEdits.{answers_plain}
use Rattle.clr_rules.specs.Checks.{employee, has_role, is_operator}
use Rattle.clr_rules.specs.Isolation.{AreAlike, OwnCommandsAlone, ReachedShowTheSame, SameShownSameAnswers, is_own_item}
use Rattle.clr_rules.specs.Shown.{Item, added_sections, asked_of, asked_row, asked_sections, section_of, sections_of, covers, with_marks, includes, is_own_command, marks_of, own_answers, items_shown}
use Rattle.clr_rules.proofs.isolation.Agreement.{agrees_with_itself}
use Rattle.clr_rules.proofs.edits.EditedLists.{edited_all-in_order, edited_all-network, edited_all-staff}
use Rattle.clr_rules.proofs.keeps.EveryKind.{commands_keep_good, reached_are_good}
use Rattle.clr_rules.proofs.isolation.OthersSteps.{first_step, others_step, second_step}
use Rattle.clr_rules.proofs.isolation.OwnSteps.{own_is_no_jumper, own_step}
use Rattle.clr_rules.proofs.edits.Growing.{named_is_put}

-- ---- what a first command shows and is answered

module _ (c : Id) (inside : List ℕ → Bool) (R : Register) (q : Command) (rest : List Command) where
  pub shown_own : is_own_command c q ≡ true → items_shown c inside R (q ∷ rest) ≡ Item.own q (asked_row R q.kind) ∷ items_shown c inside (after R q) rest
  unfolding items_shown
  shown_own is = ap (λ b. if b then Item.own q (asked_row R q.kind) ∷ items_shown c inside (after R q) rest
      else with_marks (marks_of R.net inside (Answer.edits (answer R q))) (items_shown c inside (after R q) rest)) is

  pub shown_heard : is_own_command c q ≡ false → (marks : List Edit) → marks_of R.net inside (Answer.edits (answer R q)) ≡ marks
      → items_shown c inside R (q ∷ rest) ≡ with_marks marks (items_shown c inside (after R q) rest)
  unfolding items_shown
  shown_heard is marks are = ap (λ b. if b then Item.own q (asked_row R q.kind) ∷ items_shown c inside (after R q) rest
      else with_marks (marks_of R.net inside (Answer.edits (answer R q))) (items_shown c inside (after R q) rest)) is
      ∙ ap (λ (edits : List Edit). with_marks edits (items_shown c inside (after R q) rest)) are

module _ (c : Id) (R : Register) (q : Command) (rest : List Command) where
  pub answered_own : is_own_command c q ≡ true → own_answers c R (q ∷ rest) ≡ answer R q ∷ own_answers c (after R q) rest
  unfolding own_answers
  answered_own is = ap (λ b. if b then answer R q ∷ own_answers c (after R q) rest else own_answers c (after R q) rest) is

  pub answered_others : is_own_command c q ≡ false → own_answers c R (q ∷ rest) ≡ own_answers c (after R q) rest
  unfolding own_answers
  answered_others is = ap (λ b. if b then answer R q ∷ own_answers c (after R q) rest else own_answers c (after R q) rest) is

-- ---- equal items

none_is_none : (item : Item) (items : List Item) → [] ≡ item ∷ items → ⊥
none_is_none item items same = cc

own_is_no_marks : (q : Command) (row : Option SectionRow) (edit : Edit) (edits : List Edit) (items others : List Item)
    → Item.own q row ∷ items ≡ Item.marks edit edits ∷ others → ⊥
own_is_no_marks q row edit edits items others same = cc

module _ (q p : Command) (asked found : Option SectionRow) (items others : List Item) (same : Item.own q asked ∷ items ≡ Item.own p found ∷ others) where
  same_command : q ≡ p
  same_command = cc

  same_row : asked ≡ found
  same_row = cc

  same_after_own : items ≡ others
  same_after_own = cc

module _ (edit mark : Edit) (edits marks : List Edit) (items others : List Item) (same : Item.marks edit edits ∷ items ≡ Item.marks mark marks ∷ others) where
  same_marks : edit ∷ edits ≡ mark ∷ marks
  same_marks = cc

  same_after_marks : items ≡ others
  same_after_marks = cc

-- ---- two registers side by side

-- two good registers that agree near a clearance whose requester is no operator
pub record Alongside (c : Id) (inside : List ℕ → Bool) (R S : Register) : Type 0 where
  pub first_good : IsGood R
  pub second_good : IsGood S
  pub no_operator : is_operators R c.requester ≡ false
  pub agree : Agree c inside R S

alike : (c : Id) (inside : List ℕ → Bool) (R S : Register) (commands : List Command) → Alongside c inside R S → covers c inside R commands ≡ true
    → AreAlike c inside R S commands
alike c inside R S commands near covered = record {
  first_good = near.first_good.said;
  second_good = near.second_good.said;
  first_orders = near.first_good.besides.switch_orders;
  second_orders = near.second_good.besides.switch_orders;
  no_operator = near.no_operator;
  agree = near.agree;
  covered = covered;
}

-- no command makes the requester an operator
still_no_operator : (c : Id) (R : Register) (q : Command) → IsGood R → is_operators R c.requester ≡ false → is_operators (after R q) c.requester ≡ false
still_no_operator c R q good none =
    ap (λ (staff : List StaffRow). has_role is_operator (employee staff c.requester)) (edited_all-staff R (Answer.edits (answer R q))) ∙ none

module _ (c : Id) (inside : List ℕ → Bool) (R S : Register) (near : Alongside c inside R S) where
  both_on : (q p : Command) → Agree c inside (after R q) (after S p) → Alongside c inside (after R q) (after S p)
  both_on q p agree = record {
    first_good = commands_keep_good R q near.first_good;
    second_good = commands_keep_good S p near.second_good;
    no_operator = still_no_operator c R q near.first_good near.no_operator;
    agree = agree;
  }

  first_on : (q : Command) → Agree c inside (after R q) S → Alongside c inside (after R q) S
  first_on q agree = record {
    first_good = commands_keep_good R q near.first_good;
    second_good = near.second_good;
    no_operator = still_no_operator c R q near.first_good near.no_operator;
    agree = agree;
  }

  second_on : (p : Command) → Agree c inside R (after S p) → Alongside c inside R (after S p)
  second_on p agree = record {
    first_good = near.first_good;
    second_good = commands_keep_good S p near.second_good;
    no_operator = near.no_operator;
    agree = agree;
  }

-- ---- a set that covers a run

module _ (c : Id) (inside : List ℕ → Bool) where
  covers_fence : (R : Register) (commands : List Command) → covers c inside R commands ≡ true → includes inside (clearance_fence R c) ≡ true
  unfolding covers
  covers_fence R [] covered = covered
  covers_fence R (q ∷ commands) covered = (and_parts _ _ (and_parts _ _ covered).0).0

  covers_after : (R : Register) (q : Command) (commands : List Command) → covers c inside R (q ∷ commands) ≡ true → covers c inside (after R q) commands ≡ true
  unfolding covers
  covers_after R q commands covered = (and_parts _ _ covered).1

  covers_none : (R : Register) (commands : List Command) → covers c inside R commands ≡ true → covers c inside R [] ≡ true
  unfolding covers
  covers_none R commands covered = covers_fence R commands covered

  -- the first command alone is covered: the fences before it, and the fence after it
  covers_one : (R : Register) (q : Command) (commands : List Command) → covers c inside R (q ∷ commands) ≡ true → covers c inside R (q ∷ []) ≡ true
  unfolding covers
  covers_one R q commands covered = and_from _ _ (and_parts _ _ covered).0 (covers_fence (after R q) commands (and_parts _ _ covered).1)

-- ---- past what shows nothing in the second list

module _ (c : Id) (inside : List ℕ → Bool) (R : Register) (commands : List Command) where
  -- the replies are the same, and the registers agree at the end
  abbrev pub EndAlike : Register → List Command → Type 0
  EndAlike S others = (own_answers c R commands ≡ own_answers c S others) × Agree c inside (after_all R commands) (after_all S others)

  -- what is owed where the second list ends, and where its next command shows something
  record Meets (items : List Item) : Type 0 where
    at_end : (S : Register) → Alongside c inside R S → items ≡ [] → EndAlike S []
    at_own : (S : Register) (p : Command) (rest : List Command) → Alongside c inside R S → is_own_command c p ≡ true
        → items ≡ Item.own p (asked_row S p.kind) ∷ items_shown c inside (after S p) rest → EndAlike S (p ∷ rest)
    at_marks : (S : Register) (p : Command) (rest : List Command) → Alongside c inside R S → is_own_command c p ≡ false
        → (edit : Edit) (edits : List Edit) → marks_of S.net inside (Answer.edits (answer S p)) ≡ edit ∷ edits
        → items ≡ Item.marks edit edits ∷ items_shown c inside (after S p) rest → EndAlike S (p ∷ rest)

  module _ (items : List Item) (meets : Meets items) (covered : covers c inside R [] ≡ true) where
    -- a command of others that shows nothing is passed over; the rest are met
    past_others : (S : Register) (p : Command) (rest : List Command) → ((T : Register) → Alongside c inside R T → items ≡ items_shown c inside T rest → EndAlike T rest)
        → Alongside c inside R S → is_own_command c p ≡ false → (marks : List Edit) → marks_of S.net inside (Answer.edits (answer S p)) ≡ marks
        → items ≡ with_marks marks (items_shown c inside (after S p) rest) → EndAlike S (p ∷ rest)
    unfolding after_all
    past_others S p rest later near is [] none same =
        let end = later (after S p) (second_on c inside R S near p (second_step c inside R S [] (alike c inside R S [] near covered) p (λ _. near.second_good.besides.points_known) is none)) same in
        (end.0 ∙ sym (answered_others c S p rest is), end.1)
    past_others S p rest later near is (edit ∷ edits) are same = meets.at_marks S p rest near is edit edits are same

    past_one : (S : Register) (p : Command) (rest : List Command) → ((T : Register) → Alongside c inside R T → items ≡ items_shown c inside T rest → EndAlike T rest)
        → Alongside c inside R S → (b : Bool) → is_own_command c p ≡ b → items ≡ items_shown c inside S (p ∷ rest) → EndAlike S (p ∷ rest)
    past_one S p rest later near true is same = meets.at_own S p rest near is (same ∙ shown_own c inside S p rest is)
    past_one S p rest later near false is same =
        let marks = marks_of S.net inside (Answer.edits (answer S p)) in
        past_others S p rest later near is marks refl (same ∙ shown_heard c inside S p rest is marks refl)

    past_silent : (others : List Command) (S : Register) → Alongside c inside R S → items ≡ items_shown c inside S others → EndAlike S others
    unfolding items_shown
    past_silent [] S near same = meets.at_end S near same
    past_silent (p ∷ rest) S near same = past_one S p rest (past_silent rest) near (is_own_command c p) refl same

-- ---- the first list

module _ (c : Id) (inside : List ℕ → Bool) where
  abbrev HoldsFor : List Command → Type 0
  HoldsFor commands = (R S : Register) (others : List Command) → Alongside c inside R S → covers c inside R commands ≡ true
      → items_shown c inside R commands ≡ items_shown c inside S others → EndAlike c inside R commands S others

  at_the_end : HoldsFor []
  unfolding items_shown own_answers after_all
  at_the_end R S others near covered same = past_silent c inside R [] [] (record {
    at_end = λ T along none. (refl, along.agree);
    at_own = λ T p rest along is there. absurd (none_is_none _ _ there);
    at_marks = λ T p rest along is edit edits are there. absurd (none_is_none _ _ there);
  }) covered others S near same

  module _ (q : Command) (rest : List Command) (later : HoldsFor rest) (R : Register) (covered : covers c inside R (q ∷ rest) ≡ true) where
    -- an own command meets the same own command, and both are answered alike
    own_meets_own : (S : Register) (others : List Command) → Alongside c inside R S → is_own_command c q ≡ true → asked_row R q.kind ≡ asked_row S q.kind
        → items_shown c inside (after R q) rest ≡ items_shown c inside (after S q) others → EndAlike c inside R (q ∷ rest) S (q ∷ others)
    unfolding after_all
    own_meets_own S others near is row same =
        let step = own_step c inside R S q (alike c inside R S (q ∷ []) near (covers_one c inside R q rest covered)) is row in
        let end = later (after R q) (after S q) others (both_on c inside R S near q q step.1) (covers_after c inside R q rest covered) same in
        (answered_own c R q rest is ∙ (λ i. step.0 i ∷ end.0 i) ∙ sym (answered_own c S q others is), end.1)

    own_meets : is_own_command c q ≡ true → Meets c inside R (q ∷ rest) (Item.own q (asked_row R q.kind) ∷ items_shown c inside (after R q) rest)
    own_meets is = record {
      at_end = λ S near none. absurd (none_is_none _ _ (sym none));
      at_own = λ S p others near p_is same.
          let equal = same_command q p _ _ _ _ same in
          subst (λ (p : Command). EndAlike c inside R (q ∷ rest) S (p ∷ others)) equal
          (own_meets_own S others near is (same_row q p _ _ _ _ same ∙ ap (λ (x : Command). asked_row S x.kind) (sym equal))
          (same_after_own q p _ _ _ _ same ∙ ap (λ (x : Command). items_shown c inside (after S x) others) (sym equal)));
      at_marks = λ S p others near p_is edit edits are same. absurd (own_is_no_marks _ _ _ _ _ _ same);
    }

    -- marks meet equal marks, and the registers agree again
    marks_meet : is_own_command c q ≡ false → (mark : Edit) (marks : List Edit) → marks_of R.net inside (Answer.edits (answer R q)) ≡ mark ∷ marks
        → Meets c inside R (q ∷ rest) (Item.marks mark marks ∷ items_shown c inside (after R q) rest)
    unfolding after_all
    marks_meet is mark marks are = record {
      at_end = λ S near none. absurd (none_is_none _ _ (sym none));
      at_own = λ S p others near p_is same. absurd (own_is_no_marks _ _ _ _ _ _ (sym same));
      at_marks = λ S p others near p_is edit edits p_are same.
          let agree = others_step c inside R S q p (alike c inside R S (q ∷ []) near (covers_one c inside R q rest covered))
          (λ _. near.first_good.besides.points_known) (λ _. near.second_good.besides.points_known) is p_is
          (are ∙ same_marks mark edit marks edits _ _ same ∙ sym p_are) in
          let end = later (after R q) (after S p) others (both_on c inside R S near q p agree) (covers_after c inside R q rest covered)
          (same_after_marks mark edit marks edits _ _ same) in
          (answered_others c R q rest is ∙ end.0 ∙ sym (answered_others c S p others p_is), end.1);
    }

    of_others : (S : Register) (others : List Command) → Alongside c inside R S → is_own_command c q ≡ false
        → (marks : List Edit) → marks_of R.net inside (Answer.edits (answer R q)) ≡ marks
        → with_marks marks (items_shown c inside (after R q) rest) ≡ items_shown c inside S others → EndAlike c inside R (q ∷ rest) S others
    unfolding after_all
    of_others S others near is [] none same =
        let agree = first_step c inside R S (q ∷ []) (alike c inside R S (q ∷ []) near (covers_one c inside R q rest covered)) q (λ _. near.first_good.besides.points_known) is none in
        let end = later (after R q) S others (first_on c inside R S near q agree) (covers_after c inside R q rest covered) same in
        (answered_others c R q rest is ∙ end.0, end.1)
    of_others S others near is (edit ∷ edits) are same =
        past_silent c inside R (q ∷ rest) (Item.marks edit edits ∷ items_shown c inside (after R q) rest) (marks_meet is edit edits are)
        (covers_none c inside R (q ∷ rest) covered) others S near same

    one_more : (S : Register) (others : List Command) → Alongside c inside R S → (b : Bool) → is_own_command c q ≡ b
        → items_shown c inside R (q ∷ rest) ≡ items_shown c inside S others → EndAlike c inside R (q ∷ rest) S others
    one_more S others near true is same =
        past_silent c inside R (q ∷ rest) (Item.own q (asked_row R q.kind) ∷ items_shown c inside (after R q) rest) (own_meets is)
        (covers_none c inside R (q ∷ rest) covered) others S near (sym (shown_own c inside R q rest is) ∙ same)
    one_more S others near false is same =
        let marks = marks_of R.net inside (Answer.edits (answer R q)) in
        of_others S others near is marks refl (sym (shown_heard c inside R q rest is marks refl) ∙ same)

  pub good_alike : (commands : List Command) → HoldsFor commands
  good_alike [] = at_the_end
  good_alike (q ∷ rest) = λ R S others near covered. one_more q rest (good_alike rest) R covered S others near (is_own_command c q) refl

-- THE HEADLINE, FIRST HALF
pub same_shown : SameShownSameAnswers
same_shown c inside R S commands others shown =
    good_alike c inside commands R S others (record {
      first_good = shown.first_good;
      second_good = shown.second_good;
      no_operator = shown.no_operator;
      agree = shown.agree;
    }) shown.covered shown.same_shown

pub reached_show_the_same : ReachedShowTheSame
reached_show_the_same c inside R S commands others first second no_operator agree covered shown = record {
  first_good = reached_are_good R first;
  second_good = reached_are_good S second;
  no_operator = no_operator;
  agree = agree;
  covered = covered;
  same_shown = shown;
}

-- ---- what an own request asks for

or_none : (x y : Bool) → x ≡ false → y ≡ false → (x || y) ≡ false
or_none x y left right = rw left right

-- a row found by its name is the row of that key
found_as_read : (s : List ℕ) (rows : List SectionRow) → find (λ (row : SectionRow). same_name s row.name) rows ≡ row_of name_cmp (λ (row : SectionRow). row.name) s rows
unfolding row_of
found_as_read s rows = λ i. find (λ (row : SectionRow). (nat_list_eq_equiv.symm s row.name ∙ texts_ties row.name s) i) rows

-- a section that is added leaves the rows of other names
row_with_section : (s : List ℕ) (row : SectionRow) (rows : List SectionRow) → same_name s row.name ≡ false
    → find (λ (r : SectionRow). same_name s r.name) (with_named (λ (r : SectionRow). r.name) row rows) ≡ find (λ (r : SectionRow). same_name s r.name) rows
row_with_section s row rows differs =
    found_as_read s (with_named (λ (r : SectionRow). r.name) row rows)
    ∙ ap (row_of name_cmp (λ (r : SectionRow). r.name) s) (named_is_put (λ (r : SectionRow). r.name) row rows)
    ∙ row_of-with_other name_cmp (λ (r : SectionRow). r.name) nat_list_cmp_total s row rows
    (sym (nat_list_eq_equiv.symm s row.name ∙ texts_ties row.name s) ∙ differs)
    ∙ sym (found_as_read s rows)

module _ (s : List ℕ) where
  row_after : (edit : Edit) (R : Register) → has_name (section_of edit) s ≡ false → asked_row (after_edit edit R) (Request s) ≡ asked_row R (Request s)
  row_after (AddSection row) R none = row_with_section s row (Grid.sections R.net) (or_parts (same_name s row.name) false none).0
  row_after _ R none = refl

  rows_stay : (edits : List Edit) (R : Register) → has_name (sections_of edits) s ≡ false → asked_row (after_edits edits R) (Request s) ≡ asked_row R (Request s)
  unfolding after_edits sections_of
  rows_stay [] R none = refl
  rows_stay (edit ∷ edits) R none =
      let parts = or_parts _ _ (sym (list_any-append (same_name s) (section_of edit) (sections_of edits)) ∙ none) in
      rows_stay edits (after_edit edit R) parts.1 ∙ row_after edit R parts.0

-- the rows that are asked for are alike in two registers
abbrev AskedAlike : List (List ℕ) → Register → Register → Type 0
AskedAlike names R S = (s : List ℕ) → has_name names s ≡ true → asked_row R (Request s) ≡ asked_row S (Request s)

-- none of the names that are added is asked for
abbrev NoneAdded : List (List ℕ) → List (List ℕ) → Type 0
NoneAdded asked added = (s : List ℕ) → has_name asked s ≡ true → has_name added s ≡ false

none_added : (asked added : List (List ℕ)) → list_all (λ section. not (has_name asked section)) added ≡ true → NoneAdded asked added
none_added asked [] all s is = refl
none_added asked (name ∷ added) all s is =
    let parts = and_parts (not (has_name asked name)) (list_all (λ section. not (has_name asked section)) added) all in
    or_none (same_name s name) (has_name added s)
    (false_from_ne_true (same_name s name) (λ same. both_ways (has_name asked s)
    (ap (has_name asked) (one_name s name same) ∙ not-true (has_name asked name) parts.0) is))
    (none_added asked added parts.1 s is)

-- ---- own commands alone

-- where all that is shown is own commands, the own commands alone show the same, also to another register in which the sections that they ask for are alike
module _ (c : Id) (inside : List ℕ → Bool) where
  abbrev ShowsAlone : List Command → Type 0
  ShowsAlone commands = (R S : Register) → ListsAreInOrder R → ListsAreInOrder S → AskedAlike (asked_sections c commands) R S
      → NoneAdded (asked_sections c commands) (added_sections R commands) → list_all is_own_item (items_shown c inside R commands) ≡ true
      → items_shown c inside R commands ≡ items_shown c inside S (filter (is_own_command c) commands)

  order_after : (R : Register) (q : Command) → ListsAreInOrder R → ListsAreInOrder (after R q)
  order_after R q ordered = edited_all-in_order R (Answer.edits (answer R q)) ordered

  module _ (q : Command) (rest : List Command) (later : ShowsAlone rest) (R S : Register) (R_order : ListsAreInOrder R) (S_order : ListsAreInOrder S) where
    -- what a command adds is added in the run, and so is what the rest adds
    none_here : (s : List ℕ) → has_name (added_sections R (q ∷ rest)) s ≡ false
        → (has_name (sections_of (Answer.edits (answer R q))) s ≡ false) × (has_name (added_sections (after R q) rest) s ≡ false)
    unfolding added_sections
    none_here s none = or_parts _ _
        (sym (list_any-append (same_name s) (sections_of (Answer.edits (answer R q))) (added_sections (after R q) rest)) ∙ none)

    module _ (asked : (s : List ℕ) → has_name (asked_sections c rest) s ≡ true → has_name (asked_sections c (q ∷ rest)) s ≡ true)
        (alike : AskedAlike (asked_sections c (q ∷ rest)) R S) (none : NoneAdded (asked_sections c (q ∷ rest)) (added_sections R (q ∷ rest))) where
      still_none : NoneAdded (asked_sections c rest) (added_sections (after R q) rest)
      still_none s is = (none_here s (none s (asked s is))).1

      still_alike : AskedAlike (asked_sections c rest) (after R q) S
      still_alike s is = rows_stay s (Answer.edits (answer R q)) R (none_here s (none s (asked s is))).0 ∙ alike s (asked s is)

    alone_others : is_own_command c q ≡ false → AskedAlike (asked_sections c (q ∷ rest)) R S → NoneAdded (asked_sections c (q ∷ rest)) (added_sections R (q ∷ rest))
        → (marks : List Edit) → marks_of R.net inside (Answer.edits (answer R q)) ≡ marks
        → list_all is_own_item (with_marks marks (items_shown c inside (after R q) rest)) ≡ true
        → with_marks marks (items_shown c inside (after R q) rest) ≡ items_shown c inside S (filter (is_own_command c) rest)
    unfolding asked_sections
    alone_others is alike none [] are all =
        let asked : (s : List ℕ) → has_name (asked_sections c rest) s ≡ true → has_name (asked_sections c (q ∷ rest)) s ≡ true =
        λ s there. ap (λ b. has_name (if b then asked_of q.kind ++ asked_sections c rest else asked_sections c rest) s) is ∙ there in
        later (after R q) S (order_after R q R_order) S_order (still_alike asked alike none) (still_none asked alike none) all
    alone_others is alike none (edit ∷ edits) are all = absurd (false≢true all)

    -- an own command adds nothing in either
    asked_alike : (kind : Kind) → ((s : List ℕ) → has_name (asked_of kind) s ≡ true → asked_row R (Request s) ≡ asked_row S (Request s))
        → asked_row R kind ≡ asked_row S kind
    asked_alike (Request section) alike = alike section (or_left (same_name section section) false (same_itself section))
    asked_alike _ alike = refl

    alone_own : is_own_command c q ≡ true → AskedAlike (asked_sections c (q ∷ rest)) R S → NoneAdded (asked_sections c (q ∷ rest)) (added_sections R (q ∷ rest))
        → list_all is_own_item (items_shown c inside (after R q) rest) ≡ true
        → (asked_row R q.kind ≡ asked_row S q.kind) × (items_shown c inside (after R q) rest ≡ items_shown c inside (after S q) (filter (is_own_command c) rest))
    unfolding asked_sections
    alone_own is alike none all =
        let here : (s : List ℕ) → has_name (asked_sections c (q ∷ rest)) s ≡ (has_name (asked_of q.kind) s || has_name (asked_sections c rest) s) =
        λ s. ap (λ b. has_name (if b then asked_of q.kind ++ asked_sections c rest else asked_sections c rest) s) is
        ∙ list_any-append (same_name s) (asked_of q.kind) (asked_sections c rest) in
        let asked : (s : List ℕ) → has_name (asked_sections c rest) s ≡ true → has_name (asked_sections c (q ∷ rest)) s ≡ true =
        λ s there. here s ∙ or_right (has_name (asked_of q.kind) s) _ there in
        let plain = own_is_no_jumper c q.caller q.kind is in
        let net : Register.net (after S q) ≡ S.net = (edited_all-network S (Answer.edits (answer S q)) (answers_plain S q plain) S_order).same_net in (
          asked_alike q.kind (λ s there. alike s (here s ∙ or_left (has_name (asked_of q.kind) s) _ there)),
          later (after R q) (after S q) (order_after R q R_order) (order_after S q S_order)
              (λ s there. still_alike asked alike none s there ∙ ap (λ (g : Grid). find (λ row. same_name s row.name) (Grid.sections g)) (sym net))
              (still_none asked alike none) all,
        )

    alone_one : (b : Bool) → is_own_command c q ≡ b → AskedAlike (asked_sections c (q ∷ rest)) R S → NoneAdded (asked_sections c (q ∷ rest)) (added_sections R (q ∷ rest))
        → list_all is_own_item (items_shown c inside R (q ∷ rest)) ≡ true
        → items_shown c inside R (q ∷ rest) ≡ items_shown c inside S (filter (is_own_command c) (q ∷ rest))
    alone_one true is alike none all =
        let here = shown_own c inside R q rest is in
        let rest_own : list_all is_own_item (items_shown c inside (after R q) rest) ≡ true = ap (list_all is_own_item) (sym here) ∙ all in
        let kept : filter (is_own_command c) (q ∷ rest) ≡ q ∷ filter (is_own_command c) rest =
        ap (λ b. cond b (q ∷ filter (is_own_command c) rest) (filter (is_own_command c) rest)) is in
        let both = alone_own is alike none rest_own in
        here
        ∙ (λ i. Item.own q (both.0 i) ∷ both.1 i)
        ∙ sym (shown_own c inside S q (filter (is_own_command c) rest) is)
        ∙ ap (items_shown c inside S) (sym kept)
    alone_one false is alike none all =
        let marks = marks_of R.net inside (Answer.edits (answer R q)) in
        let here = shown_heard c inside R q rest is marks refl in
        let kept : filter (is_own_command c) (q ∷ rest) ≡ filter (is_own_command c) rest =
        ap (λ b. cond b (q ∷ filter (is_own_command c) rest) (filter (is_own_command c) rest)) is in
        here ∙ alone_others is alike none marks refl (ap (list_all is_own_item) (sym here) ∙ all) ∙ ap (items_shown c inside S) (sym kept)

  shows_alone : (commands : List Command) → ShowsAlone commands
  unfolding items_shown
  shows_alone [] = λ R S R_order S_order alike none all. refl
  shows_alone (q ∷ rest) = λ R S R_order S_order alike none. alone_one q rest (shows_alone rest) R S R_order S_order (is_own_command c q) refl alike none

-- THE CONSEQUENCE
pub own_alone : OwnCommandsAlone
own_alone c inside R commands alone =
    let ordered = alone.good.said.in_order in
    let end = same_shown c inside R R commands (filter (is_own_command c) commands) (record {
      first_good = alone.good;
      second_good = alone.good;
      no_operator = alone.no_operator;
      agree = agrees_with_itself c inside R;
      covered = alone.covered;
      same_shown = shows_alone c inside commands R R ordered ordered (λ s there. refl) (none_added (asked_sections c commands) (added_sections R commands) alone.none_added) alone.own_alone;
    }) in
    end.0
