use Rattle.std.proofs.Common.{◌∙◌, subst, sym}
use Rattle.sqlite.specs.Held.{Held, state}
use Rattle.sqlite.specs.State.{HasCleanDisk}
use Rattle.clr_load.specs.Stored.{HasTables}
use Rattle.clr_rules.proofs.staffed.EveryKind.{reached_are_staffed}
use Rattle.clr_load.specs.Tables.{tables_of}
use Rattle.clr_known.specs.Known.{jones_register}
use Rattle.clr_known.proofs.databases.jones_made.Goals as goal

pub returns-in-Ok-clause-register : goal.returns-in-Ok-clause-register
returns-in-Ok-clause-register g c clean =
    let same = c.end-in-Ok.ensures.connection ∙ c.end.ensures in record {
      good = c.in-Ok.ensures.good;
      staffed = reached_are_staffed jones_register c.in-Ok.ensures.reached;
      typed = c.in-Ok.ensures.typed;
      tables = subst (λ (h : Held g.row.S.Denot). HasTables (state g.S.Store h).now (tables_of jones_register)) (sym same)
          (c.in-Ok.ensures.tables (subst (λ (h : Held g.row.S.Denot). HasCleanDisk (state g.S.Store h)) same clean));
    }
