use Rattle.clr_store.proofs.store.Store.create_with_place.Goals as goal

pub returns-in-Ok-clause-made : goal.returns-in-Ok-clause-made
returns-in-Ok-clause-made g c clean = (c.in-Ok.ensures.saved clean, (c.in-Ok.ensures.made clean).0, (c.in-Ok.ensures.made clean).1)

pub returns-in-Ok-clause-crash_made : goal.returns-in-Ok-clause-crash_made
returns-in-Ok-clause-crash_made g c = c.make_logged_register.ensures.crash

pub returns-in-Err-clause-crash_none : goal.returns-in-Err-clause-crash_none
returns-in-Err-clause-crash_none g c = c.make_logged_register.ensures.crash
