use Rattle.std.proofs.Common.{ℕ, All, List, subst}
use Rattle.std.proofs.lemmas.List.{take_all}
use Rattle.std.proofs.lemmas.List.Elements.{All-map}
use Rattle.std.specs.Borrow.{Bor}
use Rattle.clr_command_line.proofs.own_files.expect_parts.Goals as goal

-- no part is a file of the database
pub returns-clause-others : goal.returns-clause-others
returns-clause-others g c =
    let spares : List ℕ → Type 0 = λ path. g.O.Opens.spares c.args.paths.now c.args.database.now path in
    let now : Bor (List ℕ) → List ℕ = λ path. path.now in
    All-map spares now c.args.parts.now
    (subst (λ (front : List (Bor (List ℕ))). All (λ path. spares (now path)) front) (take_all c.loop-path.path-index c.args.parts.now c.loop-path-test.false) c.loop-path.invariant)
