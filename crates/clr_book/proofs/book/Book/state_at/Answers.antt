use Rattle.std.proofs.Common.{◌≡◌, ◌∙◌, ◌<◌, ℕ, List, length, get_or, ap, sym, Some}
use Rattle.std.specs.Option.{option_copied}
use Rattle.std.specs.Prelude.{slice_get, Contains}
use Rattle.std.proofs.lemmas.Cmp.{nat_list_cmp_total}
use Rattle.std.proofs.lemmas.List.Sorted.{Contains-permutation, IsPermutation-sym}
use Rattle.std.proofs.lemmas.Option.{same_Some, slice_get-get_or, slice_get_within}
use Rattle.clr_net.proofs.Walks.{one_name}
use Rattle.clr_net.specs.Name.{name_cmp}
use Rattle.clr_rules.specs.States.{state_key, state_of}
use Rattle.clr_shelf.proofs.Members.{row_of-member}
use Rattle.clr_shelf.specs.Rows.{row_of}
use Rattle.clr_book.specs.Book.{Shelved}
use Rattle.clr_book.proofs.book.Book.state_at.Goals as goal

-- what is read at a place is there
contains_read : {X : Type 0} (xs : List X) (k : ℕ) (x : X) → slice_get xs k ≡ Some x → Contains xs x
contains_read xs k x read =
    let within : k < length xs = slice_get_within xs k x read in
    (k, within, same_Some (get_or xs k x) x (sym (slice_get-get_or xs k x within) ∙ read))

pub returns-then-eq : goal.returns-then-eq
returns-then-eq g c =
    let state = c.in-Some-at.state.now in
    let rows = g.P.Shelf.rows c.self.inside.states in
    let places = g.P.Shelf.places c.self.inside.states in
    let there = Contains-permutation places rows state (IsPermutation-sym rows places (g.met.P.Shelf.each_once c.self.inside.states))
    (contains_read places c.in-Some.place.now state (sym c.at.ensures ∙ ap option_copied c.in-Some-at.is)) in
    sym (row_of-member name_cmp state_key nat_list_cmp_total state rows (g.met.P.Shelf.in_order c.self.inside.states) there)
    ∙ ap (λ (name : List ℕ). row_of name_cmp state_key name rows) (one_name state.point c.args.point.now (sym c.eq.ensures ∙ c.if-eq.true))
    ∙ ap (λ (v : Shelved). state_of v.register.states c.args.point.now) c.self.view_is
