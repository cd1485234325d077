-- What changes of the rows of a record: in its fence, and at its steps.
use Rattle.std.specs.Prelude.{ℕ, List, [], ◌∷◌, ◌++◌, filter, Option, None, Some}
use Rattle.clr_net.specs.Prelude.{has_name, point_names, section_names, touches}
use Rattle.clr_rules.specs.Fences.{record_fence}
use Rattle.clr_rules.specs.Prelude.{Register, points_of, steps_of}
use Rattle.clr_rules.specs.declared.record.Record.{Record}
use Rattle.clr_update.specs.Changes.{Changes}

-- the sections of its fence that go or change
abbrev pub sections_inside : Register → Record → Changes → List (List ℕ)
sections_inside R r of = section_names
    (filter (λ row. has_name (record_fence R.net R.steps r) row.name) of.sections_go)

-- the points with an end in its fence that go, come or change
abbrev pub points_touching : Register → Record → Changes → List (List ℕ)
points_touching R r of = point_names
    (filter (touches (has_name (record_fence R.net R.steps r))) (of.points_go ++ of.points_come))

-- the points of its steps that go or change
abbrev pub points_of_steps : Register → Record → Changes → List (List ℕ)
points_of_steps R r of = point_names
    (filter (λ p. has_name (points_of (steps_of R.steps r.id)) p.name) of.points_go)

-- the first of rows, if there is one
abbrev pub first_of : {X : Type 0} → List X → Option X
first_of [] = None
first_of (x ∷ xs) = Some x
