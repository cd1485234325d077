use Rattle.std.proofs.Common.{subst, sym}
use Rattle.sqlite.specs.Held.{state}
use Rattle.clr_load.specs.Stored.{HasTables}
use Rattle.clr_examples.specs.Worked.{worked_opening}
use Rattle.clr_rules.proofs.edits.Runs.{reached_go_on}
use Rattle.clr_rules.specs.Good.{IsGood}
use Rattle.clr_rules.specs.Register.{Register}
use Rattle.clr_load.specs.Tables.{tables_of}
use Rattle.clr_load.specs.TypedRows.{IsTyped}
use Rattle.clr_text.specs.Lines.{commands_in}
use Rattle.clr_known.specs.Known.{jones_lines, jones_register}
use Rattle.clr_known.proofs.JonesRegister.{left_by_run, when_none}
use Rattle.clr_known.proofs.databases.jones_desk.Goals as goal

pub returns-in-None-clause-good : goal.returns-in-None-clause-good
returns-in-None-clause-good g c =
    let opened = c.in_ok-desk.ensures.register in
    let good = subst (λ (R : Register). IsGood R) (sym opened) c.in_ok-desk.ensures.good in
    let left = left_by_run _ _ _ _ opened c.in_ok-commands.ensures (when_none _ _ c.in-None.is c.run.ensures.ends) (c.run.ensures.ran good) in
    subst (λ (R : Register). IsGood R) left (c.run.ensures.keeps.good good)

pub returns-in-None-clause-reached : goal.returns-in-None-clause-reached
unfolding jones_register
returns-in-None-clause-reached g c = reached_go_on worked_opening c.in_ok-desk.ensures.reached (commands_in jones_lines)

pub returns-in-None-clause-typed : goal.returns-in-None-clause-typed
returns-in-None-clause-typed g c =
    let opened = c.in_ok-desk.ensures.register in
    let good = subst (λ (R : Register). IsGood R) (sym opened) c.in_ok-desk.ensures.good in
    let typed = subst (λ (R : Register). IsTyped R) (sym opened) c.in_ok-desk.ensures.typed in
    let left = left_by_run _ _ _ _ opened c.in_ok-commands.ensures (when_none _ _ c.in-None.is c.run.ensures.ends) (c.run.ensures.ran good) in
    subst (λ (R : Register). IsTyped R) left (c.run.ensures.keeps.typed good typed)

pub returns-in-None-clause-tables : goal.returns-in-None-clause-tables
returns-in-None-clause-tables g c clean =
    let opened = c.in_ok-desk.ensures.register in
    let good = subst (λ (R : Register). IsGood R) (sym opened) c.in_ok-desk.ensures.good in
    let left = left_by_run _ _ _ _ opened c.in_ok-commands.ensures (when_none _ _ c.in-None.is c.run.ensures.ends) (c.run.ensures.ran good) in
    let (saved, made) = c.in_ok-desk.ensures.made (c.run.ensures.keeps.clean clean) in
    let has = subst (λ (R : Register). HasTables (state g.S.Store c.in_ok-desk.desk.store).now (tables_of R)) (sym opened) made in
    let still = when_none _ _ c.in-None.is (c.run.ensures.saved clean saved) in
    subst (λ (R : Register). HasTables (state g.S.Store c.run.new.self.store).now (tables_of R)) left
    (c.run.ensures.keeps.tables clean still.0 good has)
