use Rattle.std.proofs.Common.{inl}
use Rattle.clr_disk.proofs.create.open_held.Goals as goal

-- what a connection that was just opened shows
pub returns-in-Ok-clause-over : goal.returns-in-Ok-clause-over
returns-in-Ok-clause-over g c = record {
  new = c.in-Ok.ensures.fresh;
  opened = c.in-Ok.ensures.opened;
  found = λ clean. let found = c.in-Ok.ensures.found clean in record { holds = found.holds; reads = inl found.reads };
  guarded = c.in-Ok.ensures.guarded;
}
