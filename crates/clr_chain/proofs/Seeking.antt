-- The line of a number is looked for, line by line.
use Rattle.std.proofs.Common.{◌≡◌, ◌∙◌, ℕ, List, [], ◌∷◌, refl, ap, sym}
use Rattle.clr_journal.specs.Lines.{ended_lines}
use Rattle.clr_journal.specs.Line.{read_line}
use Rattle.clr_chain.specs.Finding.{Sought, met, or_earlier, passed, sought, sought_at, unmet}
use Rattle.clr_rules.specs.declared.place.Place.{Place}

latest : (a b c : Sought) → or_earlier (or_earlier a b) c ≡ or_earlier a (or_earlier b c)
latest (met is_own turn after) b c = refl
latest (passed number after) b c = refl
latest unmet b c = refl

pub seeks_on : (place : Place) (rest text after : List ℕ) (last last' here whole : Sought)
    → ended_lines rest ≡ text ∷ ended_lines after → here ≡ sought_at place text (ended_lines after) (read_line text) → last' ≡ or_earlier here last
    → or_earlier (sought place (ended_lines rest)) last ≡ whole → or_earlier (sought place (ended_lines after)) last' ≡ whole
unfolding sought
seeks_on place rest text after last last' here whole first is later so_far =
    ap (or_earlier (sought place (ended_lines after))) (later ∙ ap (λ h. or_earlier h last) is)
    ∙ sym (latest (sought place (ended_lines after)) (sought_at place text (ended_lines after) (read_line text)) last)
    ∙ ap (λ texts. or_earlier (sought place texts) last) (sym first)
    ∙ so_far

none_earlier : (s : Sought) → or_earlier s unmet ≡ s
none_earlier (met is_own turn after) = refl
none_earlier (passed number after) = refl
none_earlier unmet = refl

pub begins : (place : Place) (texts : List (List ℕ)) → or_earlier (sought place texts) unmet ≡ sought place texts
begins place texts = none_earlier (sought place texts)
