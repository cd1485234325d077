use Rattle.std.proofs.Common.{◌∙◌, ◌++◌, ◌∷◌, [], None, Some, ap, filter, map, refl, sym, Bor, List}
use Rattle.std.specs.Option.{option_copied}
use Rattle.clr_rules.specs.Holds.{is_own}
use Rattle.clr_rules.specs.declared.record.Record.{Record}
use Rattle.clr_rules.proofs.lists.Filters.{filter-nothing}
use Rattle.clr_book.specs.Book.{Shelved}
use Rattle.clr_book.proofs.LookedUp.{own_lent}
use Rattle.clr_book.proofs.book.Book.own_records.Goals as goal

pub returns-in_default : goal.returns-in_default
returns-in_default g c =
    rw c.in_default.is
    (ap (map (λ (row : Bor Record). row.now)) c.new.ensures.items ∙ sym (filter-nothing (λ (r : Record). is_own None r.id) c.args.self.now.register.records (λ r. refl)))

pub returns-in_default-get : goal.returns-in_default-get
returns-in_default-get g c =
    rw c.in-Some.is
    (ap (map (λ (row : Bor Record). row.now)) c.new-in_default-get.ensures.items
    ∙ own_lent c.in-Some.id (g.C.Shelf.rows c.self.inside.records) None (g.met.C.Shelf.in_order c.self.inside.records) (sym (ap option_copied c.in_default-get.is) ∙ c.get.ensures)
    ∙ ap (λ (v : Shelved). filter (λ r. is_own (Some c.in-Some.id) r.id) v.register.records) c.self.view_is)

pub returns : goal.returns
returns g c =
    rw c.in-Some.is
    (ap (map (λ (row : Bor Record). row.now)) (c.in_ok-push.ensures.items ∙ ap (λ (rows : List (Bor Record)). rows ++ c.in-Some-get.record ∷ []) c.new-found.ensures.items)
    ∙ own_lent c.in-Some.id (g.C.Shelf.rows c.self.inside.records) (Some c.in-Some-get.record.now) (g.met.C.Shelf.in_order c.self.inside.records) (sym (ap option_copied c.in-Some-get.is) ∙ c.get.ensures)
    ∙ ap (λ (v : Shelved). filter (λ r. is_own (Some c.in-Some.id) r.id) v.register.records) c.self.view_is)
