use Rattle.std.proofs.Common.{subst}
use Rattle.clr_rules.specs.Register.{Register}
use Rattle.clr_rules.proofs.good.Opening.{unplaced_is_network, unplaced_once}
use Rattle.clr_good.specs.Whole.{IsKept}
use Rattle.clr_good.proofs.shelves.Shelves.is_kept.Goals as goal

pub returns : goal.returns
returns g c =
    subst (λ (R : Register). IsKept R) c.self.view_is
    (record {
      network = unplaced_is_network c.self.inside.network.now c.is_network.ensures;
      staff = c.is_staff.ensures;
      placed = unplaced_once c.self.inside.network.now;
      in_order = record {
        states = g.met.P.Shelf.in_order c.self.inside.states.now;
        records = g.met.C.Shelf.in_order c.self.inside.records.now;
        steps = g.met.T.Shelf.in_order c.self.inside.steps.now;
        holds = g.met.H.Shelf.in_order c.self.inside.holds.now;
      };
    })
