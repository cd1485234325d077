use Rattle.std.proofs.Common.{◌≡◌, ◌∙◌, ◌+◌, ◌++◌, ◌∷◌, [], List, true, false, filter, map, refl, sym, ap, rules, subst, take, Bor, Global, Vec, slice_get, Some, option_copied}
use Rattle.std.specs.List.Sorted.{IsPermutation, IsSortedByKey}
use Rattle.std.specs.Ordering.{is_lt}
use Rattle.std.proofs.lemmas.Fn.{always_returns_same}
use Rattle.std.proofs.lemmas.List.{append-nil, map-append, take_all, take_more}
use Rattle.std.proofs.lemmas.List.Elements.{filter-append}
use Rattle.std.proofs.lemmas.List.Sorted.{IsPermutation-map, IsPermutation-trans, ranks_by}
use Rattle.std.proofs.lemmas.Option.{get_or_from_slice_get, slice_get_within}
use Rattle.clr_answer.proofs.SortedRows.{same_from_sorted, sorted-map}
use Rattle.clr_rules.specs.Hold.{hold_cmp, hold_cmp_total}
use Rattle.clr_rules.specs.Holds.{hold_key}
use Rattle.clr_rules.specs.Id.{same_id}
use Rattle.clr_rules.specs.declared.hold.Hold.{Hold}
use Rattle.clr_shelf.proofs.KeyOrder.{in_key_order-filter}
use Rattle.clr_book.proofs.Picked.{permutation_of_passed}
use Rattle.clr_book.proofs.own.own_holds.Goals as goal
use Rattle.clr_book.proofs.own.own_holds.Goals.{then-eq+in_ok-push, else-eq}

pub loop-place-preserved : goal.loop-place-preserved
loop-place-preserved g c =
    let places = g.H.Shelf.places c.args.shelf.now in
    let own = λ (h : Hold). same_id c.args.id h.id in
    let shows = λ (row : Bor Hold). row.now in
    let i = c.loop-place.place in
    let row = c.in-Some.row.now in
    let here : slice_get places i ≡ Some row = sym (sym (ap option_copied c.in-Some.is) ∙ c.at.ensures) in
    let more : take (i + 1) places ≡ take i places ++ row ∷ [] =
    take_more places i row (slice_get_within places i row here) ∙ ap (λ (next : Hold). take i places ++ next ∷ []) (get_or_from_slice_get places i row row here) in
    let picked : filter own (take (i + 1) places) ≡ filter own (take i places) ++ filter own (row ∷ []) =
    ap (filter own) more ∙ filter-append own (take i places) (row ∷ []) in
    elim c.if-eq.branch [
      | then-eq+in_ok-push w ↦
          let counts : own row ≡ true = sym c.eq.ensures ∙ w.if-eq.true in
          let one : filter own (row ∷ []) ≡ row ∷ [] = rw counts refl in
          ap (λ (v : Vec (Bor Hold) Global). map shows v.items) w.found-is
          ∙ ap (map shows) w.in_ok-push.ensures.items
          ∙ map-append shows c.loop-place.found.items (c.in-Some.row ∷ [])
          ∙ ap (λ (rows : List Hold). rows ++ row ∷ []) c.loop-place.invariant
          ∙ ap (λ (last : List Hold). filter own (take i places) ++ last) (sym one)
          ∙ sym picked
      | else-eq w ↦
          let counts : own row ≡ false = sym c.eq.ensures ∙ w.if-eq.false in
          let none : filter own (row ∷ []) ≡ [] = rw counts refl in
          ap (λ (v : Vec (Bor Hold) Global). map shows v.items) w.found-is
          ∙ c.loop-place.invariant
          ∙ sym (append-nil (filter own (take i places)))
          ∙ ap (λ (last : List Hold). filter own (take i places) ++ last) (sym none)
          ∙ sym picked
    ]

pub returns : goal.returns
returns g c =
    let places = g.H.Shelf.places c.args.shelf.now in
    let rows = g.H.Shelf.rows c.args.shelf.now in
    let own = λ (h : Hold). same_id c.args.id h.id in
    let found = c.loop-place.found.items in
    let sorted = c.sort_unstable_by.new.self.items in
    let shows = λ (row : Bor Hold). row.now in
    let all : map shows found ≡ filter own places = c.loop-place.invariant ∙ ap (filter own) (take_all c.loop-place.place places (rw (sym c.len-place-end.ensures.places) c.loop-place-test.false)) in
    let moved : IsPermutation (filter own rows) (map shows sorted) =
    IsPermutation-trans (filter own rows) (filter own places) (map shows sorted) (permutation_of_passed own rows places (g.met.H.Shelf.each_once c.args.shelf.now))
    (subst (λ (here : List Hold). IsPermutation here (map shows sorted)) all (IsPermutation-map shows found sorted c.sort_unstable_by.ensures.permutation)) in
    let up : IsSortedByKey (λ (row : Bor Hold). hold_key row.now) hold_cmp sorted =
    c.sort_unstable_by.ensures.sorted (λ a b. is_lt (hold_cmp a.now b.now)) (ranks_by hold_cmp_total (λ (row : Bor Hold). hold_key row.now))
    (always_returns_same _ _ _ (λ a r f' h. search rules)) in
    same_from_sorted hold_cmp hold_key hold_cmp_total (filter own rows) (map shows sorted)
    (in_key_order-filter hold_cmp hold_key hold_cmp_total own rows (g.met.H.Shelf.in_order c.args.shelf.now)) moved
    (sorted-map hold_cmp hold_key shows sorted up)
