use Rattle.std.proofs.Common.{take, flat_map}
use Rattle.clr_view.specs.Tokens.{Adds, data_tokens}
use Rattle.clr_view.specs.View.{section_data}
use Rattle.clr_view.proofs.view.Drawing.push_section_list.Given as goal

-- the sections before the place are written
abbrev pub invariant-loop-section : goal.invariant-loop-section
invariant-loop-section g l = Adds (flat_map (λ s. data_tokens (section_data l.self s)) (take l.section-index l.sections)) l.initial.out l.out
