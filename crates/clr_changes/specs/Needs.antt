-- WHAT RECORDS NEED as it is, one kind of row after the other: what an update would change of it.
use Rattle.std.specs.Prelude.{ℕ, List, [], ◌∷◌, Option, None, Some}
use Rattle.clr_rules.specs.Prelude.{Id, Register}
use Rattle.clr_rules.specs.declared.record.Record.{Record}
use Rattle.clr_update.specs.Changes.{Changes}
use Rattle.clr_update.specs.Update.{first_needed, its_holder, its_readers, its_requester}
use Rattle.clr_update.specs.Update.{work_section}
use Rattle.clr_update.specs.declared.obstacle.Obstacle.{Obstacle}
use Rattle.clr_update.specs.declared.obstacle.Obstacle.TheVariants as in_way
use Rattle.clr_changes.specs.Touched.{points_of_steps, points_touching, sections_inside}
use Rattle.clr_changes.specs.declared.needs.Need.{Need}
use Rattle.clr_changes.specs.declared.needs.Need.TheVariants.{Section, Point, Step, Work, Holder}
use Rattle.clr_changes.specs.declared.needs.Need.TheVariants.{Reader, Requester}

-- a register, the one after it, and what changes
pub record Renewal : Type 0 where
  pub before : Register
  pub after : Register
  pub changes : Changes

-- the rows that a record needs, and that the update changes
abbrev pub rows_needed : Renewal → Need → Record → List (List ℕ)
rows_needed V Section r = sections_inside V.before r V.changes
rows_needed V Point r = points_touching V.before r V.changes
rows_needed V Step r = points_of_steps V.before r V.changes
rows_needed V Work r = work_section V.before V.after r
rows_needed V Holder r = its_holder V.before V.after r
rows_needed V Reader r = its_readers V.before V.after r
rows_needed V Requester r = its_requester V.before V.after r

-- what such a row is in the way of
abbrev pub obstacle_of : Need → List ℕ → Id → Obstacle
obstacle_of Section name c = in_way.Section name c
obstacle_of Point name c = in_way.Point name c
obstacle_of Step name c = in_way.Step name c
obstacle_of Work name c = in_way.Work name c
obstacle_of Holder name c = in_way.Holder name c
obstacle_of Reader name c = in_way.Reader name c
obstacle_of Requester name c = in_way.Requester name c

-- the first row of this kind that one of the records needs
abbrev pub first_row : Renewal → Need → List Record → Option Obstacle
first_row V need records = first_needed (obstacle_of need) (rows_needed V need) records
