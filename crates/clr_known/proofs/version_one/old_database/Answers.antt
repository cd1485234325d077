use Rattle.clr_known.proofs.version_one.old_database.Goals as goal

-- its disk is always clean
pub returns-in-Ok-clause-tables : goal.returns-in-Ok-clause-tables
returns-in-Ok-clause-tables g c = c.in-Ok.ensures.tables (g.met.B.Blank.clean c.in-Ok.connection)
