-- Facts that the code rests on: rows behind references, positions that play no part, and rows of a group.
use Rattle.std.proofs.Common.{◌≡◌, ℕ, Bool, true, false, not, ◌&&◌, ◌==◌, arith, length, Bor, List, [], ◌∷◌, map, filter, find, option_copied, Option, Some, None, is_some, refl, sym, ◌∙◌, ap, is_ok}
use Rattle.std.proofs.Common.{ne_eqb}
use Rattle.clr_rules.proofs.Common.{list_any, and_parts, not_from_false, FenceRows, fence_of, in_fence, touches, Grid, section_names, unplaced, same_name, has_name, PointRow, SectionRow}
use Rattle.clr_rules.proofs.Common.{isolating_fault, Task, task, work_fence, hinders, Id, first_of_each, is_point_kind, is_some_step, points_of, tasks_of, unplaced_net}
use Rattle.std.proofs.lemmas.Map.Views.{any-filter_same}
use Rattle.clr_order.specs.OrderFault.{answer_of}
use Rattle.clr_order.specs.declared.order_fault.OrderFault.{OrderFault}
use Rattle.clr_rules.specs.Hold.{is_in_hold_group}
use Rattle.clr_rules.specs.declared.hold.HoldGroup.TheVariants.{AtPoint}
use Rattle.clr_rules.proofs.lists.RoundSteps.{some_step_there}
use Rattle.clr_book.proofs.NearFacts.{fence_unplaced, in_fence_unplaced}
use Rattle.clr_answer.proofs.OrderPositions.{fault_unplaced, touching_unplaced}
use Rattle.clr_good.specs.Steps.{isolates}
use Rattle.clr_rules.specs.declared.hold.Hold.{Hold}
use Rattle.clr_rules.specs.declared.step_row.StepRow.{StepRow}

-- whether a row of a name is found, is whether the name is among them
pub found_named : {X : Type 0} (name_of : X → List ℕ) (rows : List X) (n : List ℕ) → is_some (find (λ row. same_name n (name_of row)) rows) ≡ has_name (map name_of rows) n
found_named name_of [] n = refl
found_named name_of (row ∷ rows) n = at (same_name n (name_of row)) refl (found_named name_of rows n)
  where
    at : (b : Bool) → same_name n (name_of row) ≡ b → is_some (find (λ row. same_name n (name_of row)) rows) ≡ has_name (map name_of rows) n
        → is_some (find (λ row. same_name n (name_of row)) (row ∷ rows)) ≡ has_name (map name_of (row ∷ rows)) n
    at true is more = rw is refl
    at false is more = rw is more

-- the holds at a point are all that may hinder there
pub hinders_there : (c : Id) (p : List ℕ) (holds : List Hold) → list_any (hinders c p) (filter (is_in_hold_group (AtPoint p)) holds) ≡ list_any (hinders c p) holds
hinders_there c p holds = any-filter_same (hinders c p) (is_in_hold_group (AtPoint p)) true
    (λ h stands. (and_parts (is_point_kind h.kind && same_name p h.place) _ stands).0) holds

-- what the steps behind references do, and where
pub points_behind : {X : Type 0} (shows : X → StepRow) (items : List X) → map (λ item. (shows item).step.point) items ≡ points_of (map shows items)
points_behind shows [] = refl
points_behind shows (item ∷ items) = ap (λ points. (shows item).step.point ∷ points) (points_behind shows items)

pub tasks_behind : {X : Type 0} (shows : X → StepRow) (items : List X) → map task (map (λ item. (shows item).step) items) ≡ tasks_of (map shows items)
tasks_behind shows [] = refl
tasks_behind shows (item ∷ items) = ap (λ tasks. task ((shows item).step) ∷ tasks) (tasks_behind shows items)

pub names_behind : {X Y : Type 0} (shows : X → Y) (name_of : Y → List ℕ) (items : List X) → map (λ item. name_of (shows item)) items ≡ map name_of (map shows items)
names_behind shows name_of [] = refl
names_behind shows name_of (item ∷ items) = ap (λ names. name_of (shows item) ∷ names) (names_behind shows name_of items)

-- the refusal of an order does not hang on the positions of points
pub fault_of_network : (g : Grid) (work : List ℕ) (points : List (List ℕ)) (tasks : List Task)
    → isolating_fault (fence_of g work points) points tasks ≡ isolating_fault (fence_of (unplaced_net g) work points) points tasks
fault_of_network g work points tasks =
    let inside = in_fence g work points in
    fault_unplaced (filter (λ (row : SectionRow). inside row.name) g.sections) (filter (touches inside) g.points) points tasks
    ∙ ap (λ (rows : List PointRow). isolating_fault (record { sections = filter (λ (row : SectionRow). inside row.name) g.sections; touching = rows }) points tasks) (sym (touching_unplaced inside g.points))
    ∙ ap (λ (in_it : List ℕ → Bool). isolating_fault (record { sections = filter (λ (row : SectionRow). in_it row.name) g.sections; touching = filter (touches in_it) (map unplaced g.points) }) points tasks)
    (λ i s. sym (in_fence_unplaced g work points s) i)

-- what is behind a reference is there where the reference is
pub is_there : {X : Type 0} (found : Option (Bor X)) → is_some found ≡ is_some (option_copied found)
is_there None = refl
is_there (Some row) = refl

-- a check is passed where no fault is reported
pub no_fault_told : (o : Option OrderFault) → is_ok (answer_of o) ≡ not (is_some o)
no_fault_told None = refl
no_fault_told (Some fault) = refl

-- there is no step exactly where there are none
pub some_step_behind : {X : Type 0} (shows : X → StepRow) (items : List X) → not (length items == 0) ≡ is_some_step (map shows items)
some_step_behind shows [] = refl
some_step_behind shows (item ∷ items) =
    let size : not (length (item ∷ items) == 0) ≡ true = not_from_false (length (item ∷ items) == 0) (ne_eqb (length (item ∷ items)) 0 (λ none. omega arith)) in
    size ∙ sym (some_step_there (shows item) (map shows items))

-- whether an order is sound, by the network's rows
pub sound_told : (g net : Grid) (work : List ℕ) (rows : List StepRow) (fence : FenceRows) (cut points : List (List ℕ)) (tasks : List Task)
    → unplaced_net g ≡ net → fence ≡ fence_of g work cut → cut ≡ first_of_each (points_of rows) → points ≡ first_of_each (points_of rows) → tasks ≡ tasks_of rows
    → not (is_some (isolating_fault fence points tasks)) ≡ isolates net (Some work) rows
sound_told g net work rows fence cut points tasks same fence_is cut_is points_are tasks_are =
    let all = first_of_each (points_of rows) in
    let one : isolating_fault fence points tasks ≡ isolating_fault (fence_of g work cut) all (tasks_of rows) = λ i. isolating_fault (fence_is i) (points_are i) (tasks_are i) in
    let two : isolating_fault (fence_of g work cut) all (tasks_of rows) ≡ isolating_fault (fence_of g work all) all (tasks_of rows) =
    λ i. isolating_fault (fence_of g work (cut_is i)) all (tasks_of rows) in
    let three : isolating_fault (fence_of g work all) all (tasks_of rows) ≡ isolating_fault (fence_of net work all) all (tasks_of rows) =
    fault_of_network g work all (tasks_of rows) ∙ ap (λ (n : Grid). isolating_fault (fence_of n work all) all (tasks_of rows)) same in
    ap (λ (o : Option OrderFault). not (is_some o)) (one ∙ two ∙ three)

-- and which sections lie inside
pub cut_told : (g net : Grid) (work : List ℕ) (rows : List StepRow) (fence : FenceRows) (cut : List (List ℕ))
    → unplaced_net g ≡ net → fence ≡ fence_of g work cut → cut ≡ points_of rows
    → section_names (FenceRows.sections fence) ≡ work_fence net (Some work) (points_of rows)
cut_told g net work rows fence cut same fence_is cut_is =
    ap (λ (f : FenceRows). section_names (FenceRows.sections f)) fence_is ∙ ap section_names (fence_unplaced g work cut)
    ∙ ap (λ (n : Grid). section_names (FenceRows.sections (fence_of n work cut))) same
    ∙ ap (λ (c : List (List ℕ)). section_names (FenceRows.sections (fence_of net work c))) cut_is
