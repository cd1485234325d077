use Rattle.std.proofs.Common.{◌≡◌, ◌∙◌, ◌||◌, Bool, true, false, List, ℕ, ap, filter, refl, sym}
use Rattle.std.specs.Prelude.{slice_get}
use Rattle.std.specs.List.{filter_map}
use Rattle.clr_net.specs.Names.{has_name}
use Rattle.clr_net.specs.declared.section.SectionRow.{SectionRow}
use Rattle.clr_rules.specs.Near.{is_asked}
use Rattle.clr_rules.specs.declared.command.Kind.{Kind}
use Rattle.clr_rules.specs.declared.command.Kind.TheVariants.{Request}
use Rattle.clr_book.specs.Book.{Shelved}
use Rattle.clr_book.proofs.book.Book.sections_near.Goals as goal

or_none : (b : Bool) → b ≡ (b || false)
or_none true = refl
or_none false = refl

not_asked : (kind : Kind) (s : List ℕ) → ((section : List ℕ) → kind ≡ Request section → ⊥) → false ≡ is_asked kind s
not_asked (Request section) s other = absurd (other section refl)
not_asked kind s other = refl

pub returns-in_ok-found-in_default : goal.returns-in_ok-found-in_default
returns-in_ok-found-in_default g c =
    let kind = c.args.kind.now in
    let names = c.args.fence.now.sections.items in
    c.in_ok-found-in_default.ensures
    ∙ (λ i. filter_map (slice_get ((c.sections.ensures.rows ∙ ap (λ (v : Shelved). v.network.sections) c.self.view_is) i)) (c.deref-in_default.ensures.value i))
    ∙ c.requires.sections
    ∙ (λ i. filter (λ (row : SectionRow). (or_none (has_name names row.name) ∙ ap (λ asked. has_name names row.name || asked) (not_asked kind row.name c.in_default.not-Request)) i) c.args.self.now.network.sections)
    ∙ ap (λ (v : Shelved). filter (λ row. has_name names row.name || is_asked kind row.name) v.network.sections) (sym c.self.view_is)
    ∙ ap (λ (v : Shelved). filter (λ row. has_name names row.name || is_asked kind row.name) v.register.net.sections) c.self.view_is
