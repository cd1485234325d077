use Rattle.clr_known.proofs.databases.jones_database.Goals as goal

-- THE REGISTER IS KNOWN: it is good, its values are of their types, and the database has its tables,
-- since its disk is always clean
pub returns-in-Ok-clause-register : goal.returns-in-Ok-clause-register
returns-in-Ok-clause-register g c = c.in-Ok.ensures.register (g.met.B.Blank.clean c.in-Ok.connection)
