use Rattle.std.proofs.Common.{◌≡◌, ◌∙◌, Some, sym}
use Rattle.clr_edge.proofs.database.MachineDatabases.end.Goals as goal

-- the files that it left came back
pub returns-clause-ends : goal.returns-clause-ends
returns-clause-ends g c =
    let is : c.args.place.now ≡ Some c.in-Some.connection = sym c.take.ensures.value ∙ c.in-Some.is in
    rw is (c.close_over-closed.result.1, c.close_over-closed.ensures, c.let_go.ensures)
