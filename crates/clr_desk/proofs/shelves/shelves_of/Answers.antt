use Rattle.std.proofs.Common.{◌∙◌, ap, sym}
use Rattle.clr_rules.specs.Hold.{hold_cmp}
use Rattle.clr_rules.specs.Holds.{hold_key}
use Rattle.clr_rules.specs.Id.{id_cmp}
use Rattle.clr_rules.specs.Records.{record_key}
use Rattle.clr_rules.specs.Register.{Register}
use Rattle.clr_rules.specs.StepKey.{step_key, step_key_cmp}
use Rattle.clr_desk.specs.Shelving.{shelved}
use Rattle.clr_desk.proofs.shelves.shelves_of.Goals as goal

pub returns-clause-records : goal.returns-clause-records
returns-clause-records g c = c.in_ok-records.ensures.rows ∙ ap (λ (r : Register). r.records) (sym c.shelves.ensures)

pub returns-clause-steps : goal.returns-clause-steps
returns-clause-steps g c = c.in_ok-steps.ensures.rows ∙ ap (λ (r : Register). r.steps) (sym c.shelves.ensures)

pub returns-clause-holds : goal.returns-clause-holds
returns-clause-holds g c = c.in_ok-holds.ensures.rows ∙ ap (λ (r : Register). r.holds) (sym c.shelves.ensures)

pub returns-clause-put_records : goal.returns-clause-put_records
returns-clause-put_records g c = c.in_ok-records.ensures.put ∙ ap (λ (r : Register). shelved id_cmp record_key r.records) (sym c.shelves.ensures)

pub returns-clause-put_steps : goal.returns-clause-put_steps
returns-clause-put_steps g c = c.in_ok-steps.ensures.put ∙ ap (λ (r : Register). shelved step_key_cmp step_key r.steps) (sym c.shelves.ensures)

pub returns-clause-put_holds : goal.returns-clause-put_holds
returns-clause-put_holds g c = c.in_ok-holds.ensures.put ∙ ap (λ (r : Register). shelved hold_cmp hold_key r.holds) (sym c.shelves.ensures)
