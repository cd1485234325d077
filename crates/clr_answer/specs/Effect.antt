-- What an accepted command changes, as its edits.
use Rattle.std.specs.Prelude.{◌≡◌, Bool, true, false, List}
use Rattle.std.specs.List.{list_all}
use Rattle.clr_shelf.specs.Rows.{in_key_order}
use Rattle.clr_rules.specs.Id.{Id}
use Rattle.clr_rules.specs.StepKey.{step_key, step_key_cmp}
use Rattle.clr_rules.specs.declared.change.Edit.{Edit}
use Rattle.clr_rules.specs.declared.change.Edit.TheVariants.{SetPosition, SetHand, PutHold}
use Rattle.clr_rules.specs.declared.change.Edit.TheVariants.{TakeHold, PutRecord, PutStep}
use Rattle.clr_rules.specs.declared.change.Edit.TheVariants.{AddSection, AddPoint}
use Rattle.clr_answer.specs.Decision.{all_edits}
use Rattle.clr_answer.specs.declared.effect.Effect.{Effect}

abbrev pub edits_in : Effect → List Edit
edits_in e = all_edits e.lead.items e.clearance e.steps.items

-- edits of the network, of points and of holds
abbrev pub leaves_rows : Edit → Bool
leaves_rows (SetPosition point position) = true
leaves_rows (SetHand point hand) = true
leaves_rows (PutHold h) = true
leaves_rows (TakeHold h) = true
leaves_rows (PutRecord r) = false
leaves_rows (PutStep row) = false
leaves_rows (AddSection row) = true
leaves_rows (AddPoint p) = true

-- an effect on a clearance: the record is its own, and the steps are in key order
pub record IsOf (c : Id) (e : Effect) : Type 0 where
  pub own : e.clearance.id ≡ c
  pub lead : list_all leaves_rows e.lead.items ≡ true
  pub rising : in_key_order step_key_cmp step_key e.steps.items ≡ true
