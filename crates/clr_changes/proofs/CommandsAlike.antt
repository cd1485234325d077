-- What the headline over commands asks for is what that over deeds asks for.
use Rattle.std.proofs.Common.{◌≡◌, ◌∙◌, ℕ, Bool, true, false, cond, not, ◌++◌, List, [], ◌∷◌, map, refl, sym, ap}
use Rattle.std.proofs.lemmas.Bool.{and_from, and_parts}
use Rattle.clr_rules.proofs.edits.EditedLists.{edited_all-staff}
use Rattle.clr_rules.specs.Answer.{Answer, answer}
use Rattle.clr_rules.specs.Checks.{employee, has_role, is_operator}
use Rattle.clr_rules.specs.Fences.{clearance_fence}
use Rattle.clr_rules.specs.Good.{is_operators}
use Rattle.clr_rules.specs.Prelude.{Id, Register}
use Rattle.clr_rules.specs.Run.{after}
use Rattle.clr_rules.specs.Shown.{Item, asked_row, covers, includes, is_own_command, items_shown, marks_of, with_marks}
use Rattle.clr_rules.specs.declared.change.Edit.{Edit}
use Rattle.clr_rules.specs.declared.command.Command.{Command}
use Rattle.clr_update.specs.Entries.{Sight}
use Rattle.clr_changes.specs.Deeds.{command}
use Rattle.clr_changes.specs.DeedLaws.{CommandsShowAlike}
use Rattle.clr_changes.specs.Sights.{all_along, each_is, everywhere, fence_made_by, is_never_operators, keeps_its_steps, sights}

-- no command makes the requester an operator
still_none : (c : Id) (R : Register) (q : Command) → is_operators R c.requester ≡ false → is_operators (after R q) c.requester ≡ false
still_none c R q none = ap (λ staff. has_role is_operator (employee staff c.requester)) (edited_all-staff R (Answer.edits (answer R q))) ∙ none

never : (c : Id) (commands : List Command) (R : Register) → is_operators R c.requester ≡ false → is_never_operators c R (map command commands) ≡ true
unfolding everywhere
never c [] R none = ap not none
never c (q ∷ commands) R none = and_from _ _ (ap not none) (never c commands (after R q) (still_none c R q none))

kept : (c : Id) (commands : List Command) (R : Register) → keeps_its_steps c R (map command commands) ≡ true
unfolding each_is
kept c [] R = refl
kept c (q ∷ commands) R = kept c commands (after R q)

fences_covered : (c : Id) (inside : List ℕ → Bool) (commands : List Command) (R : Register) → covers c inside R commands ≡ true
    → everywhere (λ S. includes inside (clearance_fence S c)) R (map command commands) ≡ true
unfolding covers everywhere
fences_covered c inside [] R is = is
fences_covered c inside (q ∷ commands) R is =
    let both = and_parts _ _ is in
    and_from _ _ (and_parts _ _ both.0).0 (fences_covered c inside commands (after R q) both.1)

orders_covered : (c : Id) (inside : List ℕ → Bool) (commands : List Command) (R : Register) → covers c inside R commands ≡ true
    → each_is (λ S deed. includes inside (fence_made_by c S deed)) R (map command commands) ≡ true
unfolding covers each_is
orders_covered c inside [] R is = refl
orders_covered c inside (q ∷ commands) R is =
    let both = and_parts _ _ is in
    and_from _ _ (and_parts _ _ both.0).1 (orders_covered c inside commands (after R q) both.1)

-- the first item and the others
module _ (own : Item) (marks : List Edit) (items : List Item) where
  by_marks : (l : List Edit) → map Sight.item (with_marks l []) ++ map Sight.item items ≡ map Sight.item (with_marks l items)
  by_marks [] = refl
  by_marks (edit ∷ edits) = refl

  first_item : (b : Bool) → map Sight.item (cond b (own ∷ []) (with_marks marks [])) ++ map Sight.item items ≡ map Sight.item (cond b (own ∷ items) (with_marks marks items))
  first_item true = refl
  first_item false = by_marks marks

shown : (c : Id) (inside : List ℕ → Bool) (commands : List Command) (R : Register) → sights c inside R (map command commands) ≡ map Sight.item (items_shown c inside R commands)
unfolding all_along items_shown
shown c inside [] R = refl
shown c inside (q ∷ commands) R = ap (λ (rest : List Sight). map Sight.item (items_shown c inside R (q ∷ [])) ++ rest) (shown c inside commands (after R q))
    ∙ first_item (Item.own q (asked_row R q.kind)) (marks_of R.net inside (Answer.edits (answer R q))) (items_shown c inside (after R q) commands) (is_own_command c q)

pub commands_show_alike : CommandsShowAlike
commands_show_alike c inside R S commands others same = record {
  first_good = same.first_good;
  second_good = same.second_good;
  never_operators = never c commands R same.no_operator;
  agree = same.agree;
  covered = and_from _ _ (fences_covered c inside commands R same.covered) (orders_covered c inside commands R same.covered);
  first_kept = kept c commands R;
  second_kept = kept c others S;
  same_shown = shown c inside commands R ∙ ap (map Sight.item) same.same_shown ∙ sym (shown c inside others S);
}
