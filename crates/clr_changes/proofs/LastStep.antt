-- A clearance has steps where it has a last one.
use Rattle.std.proofs.Common.{◌≡◌, ◌∙◌, true, is_some, List, [], ◌∷◌, Some, None, refl, sym}
use Rattle.std.specs.List.{last_or}
use Rattle.clr_rules.proofs.lists.RoundSteps.{some_step_there}
use Rattle.clr_changes.proofs.ArchiveCommon.{StepRow, is_some_step}

last_there : (row : StepRow) (rows : List StepRow) → is_some (last_or (Some row) rows) ≡ true
last_there row [] = refl
last_there row (next ∷ rows) = last_there next rows

pub some_last : (rows : List StepRow) → is_some (last_or None rows) ≡ is_some_step rows
some_last [] = refl
some_last (row ∷ rows) = last_there row rows ∙ sym (some_step_there row rows)
