use Rattle.std.proofs.Common.{◌≡◌, ◌≤◌, ◌∙◌, ◌+◌, ◌∷◌, ◌++◌, length, map, arith, refl, sym, ap, subst, drop, List}
use Rattle.clr_net.specs.Name.{name_cmp}
use Rattle.clr_net.specs.declared.point.PointRow.{PointRow}
use Rattle.clr_shelf.specs.Rows.{in_key_order}
use Rattle.clr_rules.specs.Register.{first_state}
use Rattle.clr_rules.specs.States.{state_key}
use Rattle.clr_answer.proofs.RowLoops.{drop_step}
use Rattle.clr_book.proofs.BookEdits.{state_step}
use Rattle.clr_book.proofs.states.opening_states.Goals as goal

pub loop-point-preserved : goal.loop-point-preserved
loop-point-preserved g c =
    let points = c.args.points.now in
    let i = c.loop-point.point-index in
    let point = c.point-item.result in
    let rows = g.P.Shelf.rows c.loop-point.states in
    let step : drop i points ≡ point ∷ drop (i + 1) points = drop_step points points i point refl c.point-item.is c.loop-point-test.true in
    let left : length (point ∷ drop (i + 1) points) ≤ g.P.Shelf.room c.loop-point.states =
    subst (λ (rest : List PointRow). length rest ≤ g.P.Shelf.room c.loop-point.states) step c.loop-point.invariant.1 in
    let room : g.P.Shelf.room c.loop-point.states ≤ g.P.Shelf.room c.put.new.self + 1 = c.put.ensures.room in
    let all : rows ++ first_state point ∷ map first_state (drop (i + 1) points) ≡ map first_state points =
    ap (λ (left : List PointRow). rows ++ map first_state left) (sym step) ∙ c.loop-point.invariant.0 in
    let put = state_step rows (map first_state (drop (i + 1) points)) (first_state point) (ap (in_key_order name_cmp state_key) all ∙ c.requires) in
    (ap (λ found. found ++ map first_state (drop (i + 1) points)) c.put.ensures.rows ∙ put ∙ all, omega arith)
