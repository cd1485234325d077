use Rattle.std.proofs.Common.{rules, ◌≡◌, ◌≤◌, arith, length, position, None, ◌∙◌, refl, ℕ, List, Some, sym}
use Rattle.std.proofs.lemmas.Bool.{cases_lt, lt-ltb}
use Rattle.std.proofs.lemmas.List.{length-map}
use Rattle.std.proofs.lemmas.List.Sums.{prefix_len-le-length}
use Rattle.std.proofs.Common.{inl, inr, not}
use Rattle.clr_net.specs.Grid.{section_names}
use Rattle.clr_net.specs.Index.{place_in}
use Rattle.clr_net.specs.Name.{same_name}
use Rattle.clr_net.specs.declared.section.SectionRow.{SectionRow}
use Rattle.clr_view.proofs.live.place_in.Goals as goal

past_all : (names : List (List ℕ)) (n : List ℕ) → position (same_name n) names ≡ None → place_in names n ≡ length names
past_all names n none = elim (cases_lt (place_in names n) (length names)) [
  | inl inside ↦
      let some : position (same_name n) names ≡ Some (place_in names n) = rw (lt-ltb (place_in names n) (length names) inside) refl in
      absurd (cc (sym some ∙ none))
  | inr past ↦
      let within : place_in names n ≤ length names = prefix_len-le-length (λ m. not (same_name n m)) names in
      omega (arith, within, past)
]

pub returns-in-None : goal.returns-in-None
returns-in-None c =
    let names = section_names c.args.sections.now in
    let none : position (same_name c.args.name.now) names ≡ None = search rules in
    let place = past_all names c.args.name.now none in
    let size = length-map c.args.sections.now (λ (row : SectionRow). row.name) in
    omega (arith, place, size)
