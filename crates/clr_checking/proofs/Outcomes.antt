-- What changes are answered, and what they lead to, by whether they can be made.
use Rattle.std.proofs.Common.{◌≡◌, Bool, false, if◌then◌else◌, Option, None, Some, ap, sym}
use Rattle.std.specs.Prelude.{is_some}
use Rattle.clr_rules.specs.Register.{Register}
use Rattle.clr_update.specs.Changes.{Changes}
use Rattle.clr_update.specs.Delta.{after_changes, can_be_made, update_of}
use Rattle.clr_update.specs.Update.{updated}
use Rattle.clr_changes.specs.Made.{IsMade}
use Rattle.clr_changes.specs.declared.outcome.After.{After}

pub is_made_of : (R : Register) (of : Changes) (made : Option After) → IsMade R of made → is_some made ≡ can_be_made R of
is_made_of R of None is = sym is
is_made_of R of (Some after) is = sym is.0

pub stays : (R : Register) (of : Changes) → can_be_made R of ≡ false → R ≡ after_changes R of
stays R of is = ap (λ (b : Bool). if b then updated R (update_of R of) else R) (sym is)
