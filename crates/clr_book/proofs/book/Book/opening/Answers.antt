use Rattle.std.proofs.Common.{rules}
use Rattle.clr_book.proofs.Opening.{reached_at_once, states_in_order}
use Rattle.clr_book.proofs.book.Book.opening.Goals as goal

pub opening_states-requires : goal.opening_states-requires
opening_states-requires g c = rw c.points.ensures.rows (states_in_order c.args.network.points c.points.ensures.network.points_rise)

pub returns-clause-reached : goal.returns-clause-reached
returns-clause-reached g c = reached_at_once _ c.args.network c.args.staff c.is_network.ensures c.is_staff.ensures (search rules)
