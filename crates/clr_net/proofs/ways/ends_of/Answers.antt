use Rattle.std.proofs.Common.{◌≡◌, ◌∙◌, Bool, true, false, ◌&&◌, sym, ap, refl, is_some}
use Rattle.clr_net.specs.Prelude.{section_names, same_name, has_name}
use Rattle.clr_net.proofs.Places.{is_some-position}
use Rattle.clr_net.proofs.ways.ends_of.Goals as goal

neither_first : (b : Bool) → false ≡ (false && b)
neither_first b = refl

neither_second : (a : Bool) → false ≡ (a && false)
neither_second true = refl
neither_second false = refl

pub returns-in_default-clause-known : goal.returns-in_default-clause-known
returns-in_default-clause-known c =
    let names = section_names c.args.sections.now in
    let p = c.args.point.now in
    let none : false ≡ has_name names p.from_end = ap is_some (sym c.in_default.is ∙ c.place_of.ensures) ∙ is_some-position (same_name p.from_end) names in
    rw (← none) (neither_first (has_name names p.to_end))

pub returns-in_default-place_of-clause-known : goal.returns-in_default-place_of-clause-known
returns-in_default-place_of-clause-known c =
    let names = section_names c.args.sections.now in
    let p = c.args.point.now in
    let none : false ≡ has_name names p.to_end = ap is_some (sym c.in_default-place_of.is ∙ c.place_of-2.ensures) ∙ is_some-position (same_name p.to_end) names in
    rw (← none) (neither_second (has_name names p.from_end))

pub returns-clause-known : goal.returns-clause-known
returns-clause-known c =
    let names = section_names c.args.sections.now in
    let p = c.args.point.now in
    let from : true ≡ has_name names p.from_end = ap is_some (sym c.in-Some.is ∙ c.place_of.ensures) ∙ is_some-position (same_name p.from_end) names in
    let to : true ≡ has_name names p.to_end = ap is_some (sym c.in-Some-place_of.is ∙ c.place_of-2.ensures) ∙ is_some-position (same_name p.to_end) names in
    rw (← from, ← to) refl
