-- A line whose reply has whole numbers alone has no others.
use Rattle.std.proofs.Common.{◌≡◌, ℕ, false, List, refl}
use Rattle.serde_json.specs.Data.{string}
use Rattle.serde_json.specs.Written.{has_float}
use Rattle.clr_changes.specs.Deeds.{archive, command, update}
use Rattle.clr_journal.proofs.NoFloats.{in_changes}
use Rattle.clr_text.proofs.NoFloats.{in_command, in_optional}
use Rattle.clr_journal.specs.Line.{Entry, carried, withdrawn, entry_data}
use Rattle.clr_chain.specs.Link.{has_fraction, link_data}

pub entry_has_none : (entry : Entry) → has_fraction entry ≡ false → has_float (entry_data entry) ≡ false
entry_has_none (carried receipt (command q) reply) h = rw (in_command q, in_optional string (λ s. refl) receipt.login, h) refl
entry_has_none (carried receipt (update of) reply) h = rw (in_changes of) refl
entry_has_none (carried receipt (archive before) reply) h = refl
entry_has_none (withdrawn n) h = refl

pub link_has_none : (entry : Entry) (sum : List ℕ) → has_fraction entry ≡ false → has_float (link_data entry sum) ≡ false
link_has_none (carried receipt (command q) reply) sum h = rw (in_command q, in_optional string (λ s. refl) receipt.login, h) refl
link_has_none (carried receipt (update of) reply) sum h = rw (in_changes of) refl
link_has_none (carried receipt (archive before) reply) sum h = refl
link_has_none (withdrawn n) sum h = refl
