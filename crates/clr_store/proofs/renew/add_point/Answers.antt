use Rattle.clr_store.proofs.renew.add_point.Goals as goal

pub returns-in-Some : goal.returns-in-Some
returns-in-Some g c = rw c.in-Some.is (rw (c.handed_values-row.ensures.row, c.requester-requester.ensures, c.number.ensures.value) at c.insert_row.ensures)

pub returns-in-None : goal.returns-in-None
returns-in-None g c = rw c.in-None.is (rw c.point_values-row.ensures.row at c.insert_row-in-None.ensures)
