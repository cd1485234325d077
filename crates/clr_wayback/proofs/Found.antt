-- What is found in lists of rows, and in lists of references to rows.
use Rattle.std.proofs.Common.{◌≡◌, ◌∙◌, ◌==◌, Bool, true, false, ◌&&◌, ℕ, List, [], ◌∷◌, ◌++◌, map, filter, find, refl, ap, sym, Bor, option_map, Option, slice_get, is_some, option_copied, length}
use Rattle.std.specs.List.{list_any, flat_map}
use Rattle.std.proofs.lemmas.List.{map-append}
use Rattle.clr_order.proofs.Finds.{find_behind}
use Rattle.clr_order.specs.Step.{Task, task}
use Rattle.clr_order.specs.declared.held.Held.{Held}
use Rattle.clr_rules.proofs.lists.Filters.{filter-kept}
use Rattle.clr_rules.specs.Id.{Id, same_id}
use Rattle.clr_rules.specs.Holds.{places_of, same_kind}
use Rattle.clr_book.proofs.NearFacts.{filter_shown, first_points_are}
use Rattle.clr_net.proofs.ListFacts.{map-map}
use Rattle.std.proofs.lemmas.List.{length-map}
use Rattle.clr_rules.specs.Steps.{is_of_round, points_of, steps_in, steps_of}
use Rattle.clr_order.specs.Needed.{undoing}
use Rattle.clr_order.specs.Texts.{waiting_step}
use Rattle.clr_order.specs.declared.action.Action.TheVariants.{Leave}
use Rattle.clr_rules.specs.WayBack.{at_held_point, undoing_steps}
use Rattle.clr_rules.specs.declared.hold.Hold.{Hold}
use Rattle.clr_rules.specs.declared.hold_kind.HoldKind.{HoldKind}
use Rattle.clr_rules.specs.declared.step_row.StepRow.{StepRow}
use Rattle.clr_wayback.specs.Answer.{first_place}
use Rattle.clr_wayback.specs.Undoing.{leaving}

-- where something passes, something is found
pub some_found : {X : Type 0} (p : X → Bool) (xs : List X) → is_some (find p xs) ≡ list_any p xs
some_found p [] = refl
some_found p (x ∷ xs) = at (p x) refl (some_found p xs)
  where
    at : (b : Bool) → p x ≡ b → is_some (find p xs) ≡ list_any p xs → is_some (find p (x ∷ xs)) ≡ list_any p (x ∷ xs)
    at true e more = rw e refl
    at false e more = rw e more

-- a search of the items that pass
pub find-filter : {X : Type 0} (p q : X → Bool) (xs : List X) → find (λ x. q x && p x) xs ≡ find p (filter q xs)
find-filter p q [] = refl
find-filter p q (x ∷ xs) = at (q x) refl (p x) refl (find-filter p q xs)
  where
    at : (a : Bool) → q x ≡ a → (b : Bool) → p x ≡ b → find (λ x. q x && p x) xs ≡ find p (filter q xs) → find (λ x. q x && p x) (x ∷ xs) ≡ find p (filter q (x ∷ xs))
    at true e true f more = rw (e, f) refl
    at true e false f more = rw (e, f) more
    at false e b f more = rw e more

-- the first of what a map gives of the items that pass
pub first-filter : {X Y : Type 0} (f : X → Y) (q : X → Bool) (xs : List X) → option_map f (find q xs) ≡ slice_get (map f (filter q xs)) 0
first-filter f q [] = refl
first-filter f q (x ∷ xs) = at (q x) refl (first-filter f q xs)
  where
    at : (b : Bool) → q x ≡ b → option_map f (find q xs) ≡ slice_get (map f (filter q xs)) 0 → option_map f (find q (x ∷ xs)) ≡ slice_get (map f (filter q (x ∷ xs))) 0
    at true e more = rw e refl
    at false e more = rw e more

-- of two that hold the first
first_true : (a b : Bool) → (a && b) ≡ true → a ≡ true
first_true true b e = refl
first_true false b e = e

-- the place of the first hold of a kind, of references to holds
pub first_of_places : (c : Id) (kind : HoldKind) (lent : List (Bor Hold)) (holds : List Hold) (found : Option (Bor Hold))
    → found ≡ find (λ h. same_id c h.now.id && same_kind kind h.now.kind) lent → map (λ (h : Bor Hold). h.now) lent ≡ holds
    → option_map (λ h. h.place) (option_copied found) ≡ first_place holds c kind
unfolding places_of
first_of_places c kind lent holds found is shown =
    let p = λ (h : Hold). same_id c h.id && same_kind kind h.kind in
    ap (λ o. option_map (λ h. h.place) (option_copied o)) is
    ∙ ap (option_map (λ h. h.place)) (find_behind p lent ∙ ap (find p) shown)
    ∙ first-filter (λ h. h.place) p holds

-- a round of a clearance's steps
pub round_of : (steps : List StepRow) (c : Id) (round : ℕ) → filter (is_of_round c round) (steps_of steps c) ≡ steps_in steps c round
unfolding steps_in steps_of
round_of steps c round =
    filter-kept (is_of_round c round) (λ row. same_id c row.id) steps
    (λ row there e. first_true (same_id c row.id) (row.round == round) e)

-- the tasks of steps that wait
waiting_tasks : (tasks : List Task) → map task (map waiting_step tasks) ≡ tasks
waiting_tasks [] = refl
waiting_tasks (t ∷ tasks) = ap (λ more. t ∷ more) (waiting_tasks tasks)

-- the steps that undo what is held, each as one that waits
pub steps_undoing : (held : List Held) → map task (flat_map leaving held) ≡ undoing_steps held
unfolding undoing_steps
steps_undoing [] = refl
steps_undoing (h ∷ held) =
    map-append task (leaving h) (flat_map leaving held)
    ∙ ap (λ later. map task (leaving h) ++ later) (steps_undoing held)
    ∙ ap (λ first. first ++ undoing_steps held) (waiting_tasks (at_held_point h (undoing h Leave)))

-- the points of the first round of a clearance's steps, of which there are references
pub points_lent : (lent : List (Bor StepRow)) (steps : List StepRow) (c : Id) → map (λ (row : Bor StepRow). row.now) lent ≡ steps_of steps c
    → map (λ (row : Bor StepRow). row.now.step.point) (filter (λ row. row.now.round == 1) lent) ≡ points_of (steps_in steps c 1)
unfolding steps_of
points_lent lent steps c shown =
    sym (map-map (λ (row : StepRow). row.step.point) (λ (row : Bor StepRow). row.now) (filter (λ row. row.now.round == 1) lent))
    ∙ ap (map (λ (row : StepRow). row.step.point)) (filter_shown (λ (row : Bor StepRow). row.now) (λ row. row.round == 1) lent ∙ ap (filter (λ row. row.round == 1)) shown)
    ∙ first_points_are steps c

-- how many of a clearance's steps, of which there are references, are of a round
pub round_length : (lent : List (Bor StepRow)) (steps : List StepRow) (c : Id) (round : ℕ) → map (λ (row : Bor StepRow). row.now) lent ≡ steps_of steps c
    → length (filter (λ row. is_of_round c round row.now) lent) ≡ length (steps_in steps c round)
round_length lent steps c round shown =
    sym (length-map (filter (λ row. is_of_round c round row.now) lent) (λ (row : Bor StepRow). row.now))
    ∙ ap length (filter_shown (λ (row : Bor StepRow). row.now) (is_of_round c round) lent ∙ ap (filter (is_of_round c round)) shown ∙ round_of steps c round)
