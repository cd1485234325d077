-- What is given, and the definitions.
use Rattle.std.proofs.Common.{◌≡◌, ◌∙◌, ◌==◌, ◌&&◌, ◌||◌, ℕ, zero, suc, Bool, true, false, Some, ◌++◌, List, [], ◌∷◌, map, filter, length, refl, sym, ap}
use Rattle.std.proofs.lemmas.List.Folds.{list_any-append}
use Rattle.clr_net.specs.Fence.{FenceRows, fence_of, in_fence, leads, reaches, touches}
use Rattle.clr_net.specs.Grid.{Grid, point_names, section_names, unplaced}
use Rattle.clr_net.specs.Name.{same_name}
use Rattle.clr_net.specs.Names.{has_name}
use Rattle.clr_net.specs.declared.point.PointRow.{PointRow}
use Rattle.clr_net.specs.declared.section.SectionRow.{SectionRow}
use Rattle.clr_rules.specs.Commands.{Known}
use Rattle.clr_rules.specs.GoodByPhase.{of_round}
use Rattle.clr_rules.specs.Id.{Id, same_id}
use Rattle.clr_order.specs.Step.{task, task_points}
use Rattle.clr_order.specs.declared.step.Step.{Step}
use Rattle.clr_rules.specs.Fences.{touching_names}
use Rattle.clr_rules.specs.Near.{Near, switched_in}
use Rattle.clr_rules.specs.Records.{is_switch_order, record_of}
use Rattle.clr_rules.specs.declared.record.Record.{Record}
use Rattle.clr_rules.specs.Register.{Register, unplaced_net}
use Rattle.clr_rules.specs.Steps.{points_of, steps_in, steps_of}
use Rattle.clr_rules.specs.declared.step_row.StepRow.{StepRow}
use Rattle.clr_rules.proofs.lists.NamedRows.{list_any-map}
use Rattle.clr_rules.proofs.good.Opening.{unplaced_names}
use Rattle.clr_answer.proofs.OrderPositions.{touching_unplaced}
use Rattle.clr_rules.proofs.lists.RoundSteps.{of_round_is}

-- whether a walk leads to a section does not hang on positions
reaches_unplaced : (points : List PointRow) (cut : List (List ℕ)) (work : List ℕ) (n : ℕ) (s : List ℕ)
    → reaches (map unplaced points) cut work n s ≡ reaches points cut work n s
unfolding reaches
reaches_unplaced points cut work zero s = refl
reaches_unplaced points cut work (suc n) s =
    let same : reaches (map unplaced points) cut work n ≡ reaches points cut work n = λ i t. reaches_unplaced points cut work n t i in
    rw same (ap (λ further. reaches points cut work n s || further) (list_any-map (leads (reaches points cut work n) cut s) unplaced points))

-- nor does a fence
pub in_fence_unplaced : (g : Grid) (work : List ℕ) (cut : List (List ℕ)) (s : List ℕ) → in_fence (unplaced_net g) work cut s ≡ in_fence g work cut s
unfolding in_fence
in_fence_unplaced g work cut s = ap (λ reached. has_name (section_names g.sections) work && reached) (reaches_unplaced g.points cut work (length g.sections) s)

pub fence_unplaced : (g : Grid) (work : List ℕ) (cut : List (List ℕ))
    → FenceRows.sections (fence_of g work cut) ≡ FenceRows.sections (fence_of (unplaced_net g) work cut)
fence_unplaced g work cut =
    ap (λ (inside : List ℕ → Bool). filter (λ (row : SectionRow). inside row.name) g.sections) (λ i s. sym (in_fence_unplaced g work cut s) i)

-- the points of the rows of a round
points_map : (rows : List StepRow) → map (λ row. row.step.point) rows ≡ points_of rows
points_map [] = refl
points_map (row ∷ rows) = ap (λ points. row.step.point ∷ points) (points_map rows)

pub first_points_are : (steps : List StepRow) (c : Id)
    → map (λ row. row.step.point) (filter (λ row. row.round == 1) (filter (λ row. same_id c row.id) steps)) ≡ points_of (steps_in steps c 1)
unfolding of_round steps_of
first_points_are steps c = points_map (of_round (steps_of steps c) 1) ∙ ap points_of (of_round_is steps c 1)

-- rows that are kept by what they show
pub filter_shown : {X Y : Type 0} (shows : X → Y) (test : Y → Bool) (items : List X) → map shows (filter (λ item. test (shows item)) items) ≡ filter test (map shows items)
filter_shown shows test [] = refl
filter_shown shows test (item ∷ items) = at (test (shows item)) refl (filter_shown shows test items)
  where
    at : (b : Bool) → test (shows item) ≡ b → map shows (filter (λ item. test (shows item)) items) ≡ filter test (map shows items)
        → map shows (filter (λ item. test (shows item)) (item ∷ items)) ≡ filter test (map shows (item ∷ items))
    at true e more = rw e (ap (λ rest. shows item ∷ rest) more)
    at false e more = rw e more

pub points_shown : {X : Type 0} (shows : X → StepRow) (items : List X) → map (λ item. (shows item).step.point) items ≡ points_of (map shows items)
points_shown shows [] = refl
points_shown shows (item ∷ items) = ap (λ points. (shows item).step.point ∷ points) (points_shown shows items)

pub task_points_are : (steps : List Step) → map (λ step. step.point) steps ≡ task_points (map task steps)
task_points_are [] = refl
task_points_are (step ∷ steps) = ap (λ points. step.point ∷ points) (task_points_are steps)

-- which points touch a fence does not hang on positions
pub touching_are : (inside : List ℕ → Bool) (g : Grid) → point_names (filter (touches inside) g.points) ≡ touching_names (unplaced_net g) inside
unfolding touching_names
touching_are inside g = sym (ap point_names (touching_unplaced inside g.points) ∙ unplaced_names (filter (touches inside) g.points))

-- the points of a switch order that was found
pub switched_found : (R : Register) (c : Id) (r : Record) (steps : List StepRow) → record_of R.records c ≡ Some r → is_switch_order r ≡ true
    → steps ≡ filter (λ row. same_id c row.id) R.steps → points_of steps ≡ switched_in R (Some c)
unfolding steps_of
switched_found R c r steps found switches rows = rw (found, switches) (ap points_of rows)

pub has_name-append : (first rest : List (List ℕ)) (p : List ℕ) → has_name (first ++ rest) p ≡ (has_name first p || has_name rest p)
has_name-append first rest p = list_any-append (same_name p) first rest

-- what is given is a register with what is known of it, if each of its parts is
pub lent_whole : (near : Near) (known : Known) (R : Register)
    → Known.greatest near.known ≡ known.greatest → Known.fence near.known ≡ known.fence → Known.crossed near.known ≡ known.crossed
    → Grid.sections (Register.net near.rows) ≡ Grid.sections R.net → Grid.points (Register.net near.rows) ≡ Grid.points R.net
    → Register.staff near.rows ≡ R.staff → Register.states near.rows ≡ R.states → Register.records near.rows ≡ R.records
    → Register.steps near.rows ≡ R.steps → Register.holds near.rows ≡ R.holds
    → near ≡ record { known = known; rows = R }
lent_whole near known R greatest fence crossed sections points staff states records steps holds i = record {
  known = record { greatest = greatest i; fence = fence i; crossed = crossed i };
  rows = record {
    net = record { sections = sections i; points = points i };
    staff = staff i;
    states = states i;
    records = records i;
    steps = steps i;
    holds = holds i;
  };
}
