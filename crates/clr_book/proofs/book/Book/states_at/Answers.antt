use Rattle.std.proofs.Common.{◌≡◌, true, ◌∙◌, ◌+◌, ◌++◌, ◌∷◌, [], ℕ, List, Bor, map, filter, drop, sym, ap, subst, refl}
use Rattle.std.specs.List.Sorted.{IsStrictlySortedBy}
use Rattle.std.specs.Option.{option_copied}
use Rattle.std.proofs.lemmas.List.{append-nil, append_assoc, drop_all, drop_more, map-append}
use Rattle.clr_net.specs.Name.{name_cmp}
use Rattle.clr_net.specs.Names.{has_name}
use Rattle.clr_rules.specs.declared.point_state.PointState.{PointState}
use Rattle.clr_rules.specs.States.{state_key}
use Rattle.clr_shelf.specs.Rows.{in_key_order}
use Rattle.clr_book.specs.Book.{Shelved}
use Rattle.clr_book.proofs.Lent.{points_rest, states_done, states_more}
use Rattle.clr_book.proofs.LookedUp.{listed}
use Rattle.clr_book.proofs.book.Book.states_at.Goals as goal
use Rattle.clr_book.proofs.book.Book.states_at.Goals.{in-Some+in_ok-push, in_default}

pub loop-k-init : goal.loop-k-init
loop-k-init g c = rw c.in_ok-found.ensures.items (c.requires, refl)

pub loop-k-preserved : goal.loop-k-preserved
loop-k-preserved g c =
    let points = c.args.points.now in
    let states = c.args.self.now.register.states in
    let k = c.loop-k.k in
    let point = c.index-points-k.result in
    let rest = drop (k + 1) points in
    let shows = λ (row : Bor PointState). row.now in
    let found = map shows c.loop-k.found.items in
    let step : drop k points ≡ point ∷ rest = drop_more points k point c.loop-k-test.true ∙ ap (λ y. y ∷ rest) (sym c.index-points-k.is) in
    let rise : IsStrictlySortedBy name_cmp (point ∷ rest) = subst (λ (left : List (List ℕ)). IsStrictlySortedBy name_cmp left) step c.loop-k.invariant.0 in
    let ordered : in_key_order name_cmp state_key states ≡ true = subst (λ (v : Shelved). in_key_order name_cmp state_key v.register.states ≡ true) c.self.view_is (g.met.P.Shelf.in_order c.self.inside.states) in
    let more : found ++ (listed (option_copied c.state_at.result) ++ filter (λ state. has_name rest state.point) states) ≡ filter (λ state. has_name points state.point) states =
    ap (λ (one : List PointState). found ++ one)
    (ap (λ row. listed row ++ filter (λ state. has_name rest state.point) states) c.state_at.ensures
    ∙ sym (states_more point rest states rise ordered)
    ∙ ap (λ (left : List (List ℕ)). filter (λ (state : PointState). has_name left state.point) states) (sym step))
    ∙ c.loop-k.invariant.1 in
    let now_found : map shows c.match-state_at.found.items ≡ found ++ listed (option_copied c.state_at.result) = elim c.match-state_at.branch [
      | in-Some+in_ok-push w ↦ rw (w.found-is, w.in_ok-push.ensures.items, w.in-Some.is) (map-append shows c.loop-k.found.items (w.in-Some.state ∷ []))
      | in_default w ↦ rw (w.found-is, w.in_default.is) (sym (append-nil found))
    ] in (
      points_rest point rest rise,
      ap (λ (all : List PointState). all ++ filter (λ state. has_name rest state.point) states) now_found
          ∙ append_assoc found (listed (option_copied c.state_at.result)) (filter (λ state. has_name rest state.point) states) ∙ more,
    )

pub returns : goal.returns
returns g c =
    let points = c.args.points.now in
    let states = c.args.self.now.register.states in
    let shows = λ (row : Bor PointState). row.now in
    let found = map shows c.loop-k.found.items in
    let none : drop c.loop-k.k points ≡ [] = drop_all c.loop-k.k points c.loop-k-test.false in
    sym (append-nil found)
    ∙ ap (λ more. found ++ more) (sym (states_done states) ∙ ap (λ (left : List (List ℕ)). filter (λ (state : PointState). has_name left state.point) states) (sym none))
    ∙ c.loop-k.invariant.1
