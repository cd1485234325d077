-- The texts of phases.
use Rattle.std.specs.Prelude.{ℕ, List, [], ◌∷◌, codes, find, Option, bytes_eq}
use Rattle.clr_rules.specs.Prelude.{Phase, Requested, Ordered, Granted, Released, Restoring}
use Rattle.clr_rules.specs.Prelude.{Switching, Closed}

abbrev pub phase_text : Phase → List ℕ
phase_text Requested = codes "Requested"
phase_text Ordered = codes "Ordered"
phase_text Granted = codes "Granted"
phase_text Released = codes "Released"
phase_text Restoring = codes "Restoring"
phase_text Switching = codes "Switching"
phase_text Closed = codes "Closed"

abbrev pub all_phases : List Phase
all_phases = Requested ∷ Ordered ∷ Granted ∷ Released ∷ Restoring ∷ Switching ∷ Closed ∷ []

-- the phase that a text names
abbrev pub phase_named : List ℕ → Option Phase
phase_named text = find (λ phase. bytes_eq (phase_text phase) text) all_phases
