use Rattle.std.proofs.Common.{arith}
use Rattle.clr_net.proofs.Grown.{network_with_section}
use Rattle.clr_net.proofs.network.Network.add_section.Goals as goal

pub refill-requires-clause-network : goal.refill-requires-clause-network
refill-requires-clause-network c =
    rw (c.deref.ensures.value, c.deref-2.ensures.value)
    (network_with_section c.self.inside.sections.items c.self.inside.points.items c.self.invariant.0 c.args.section (rw (← c.self.view_is) at c.requires.fits)
    c.insert_by_name.new.rows.items c.insert_by_name.ensures.rows)

pub invariant_of-self : goal.invariant_of-self
invariant_of-self c = let room = c.self.invariant.3 in (
  network_with_section c.self.inside.sections.items c.self.inside.points.items c.self.invariant.0 c.args.section (rw (← c.self.view_is) at c.requires.fits)
      c.insert_by_name.new.rows.items c.insert_by_name.ensures.rows,
  rw (c.deref.ensures.value, c.deref-2.ensures.value) at c.refill.ensures.index,
  c.refill.ensures.room,
  omega (arith, room, c.insert_by_name.ensures.room),
  c.self.invariant.4,
)
