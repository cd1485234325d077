-- The fence around the work section of a clearance.
use Rattle.std.specs.Prelude.{◌≡◌, ℕ, List, Some}
use Rattle.clr_rules.specs.Prelude.{FenceRows, section_names, Id, Register, points_of, steps_of}
use Rattle.clr_rules.specs.Fences.{work_fence}
use Rattle.clr_rules.specs.GoodByPhase.{of_round}
use Rattle.clr_good.specs.declared.around.Around.{Around}

-- the sections of the fence that the first round of a clearance cuts out around a work section
abbrev pub fence_cut : Register → Id → List ℕ → List (List ℕ)
fence_cut R c work = work_fence R.net (Some work) (points_of (of_round (steps_of R.steps c) 1))

-- the fence is that of the clearance and the work section
abbrev pub IsAround : Register → Around → Type 0
IsAround R around =
    section_names (FenceRows.sections around.fence) ≡ fence_cut R around.id around.work
