-- WHAT AN OPENING FINDS BY THE END of a journal; and what may come after the last line that holds
-- its sum.
use Rattle.std.specs.Prelude.{◌≡◌, ℕ, Bool, true, false, List, [], Option, None, Some}
use Rattle.std.specs.Prelude.{if◌then◌else◌}
use Rattle.std.specs.List.{list_any}
use Rattle.clr_chain.specs.Chain.{ReadOn, links_of, read_on}
use Rattle.clr_chain.specs.Finding.{Found, Sought, found_by, met, passed, says_accepted, sought}
use Rattle.clr_chain.specs.Finding.{unmet}
use Rattle.clr_chain.specs.declared.chain_end.ChainEnd.{ChainEnd}
use Rattle.clr_rules.specs.declared.place.Place.{Place}

abbrev pub is_unmet : Sought → Bool
is_unmet (met is_own turn after) = false
is_unmet (passed number after) = false
is_unmet unmet = true

-- WHAT THE END SAYS, if it has a line of the register's number or a lower one. Its first line may
-- be a part of one, and is passed over
unfoldable pub found_near : Place → Place → List ℕ → Option Found
found_near place first tail =
    if is_unmet (sought place (links_of tail)) then None
    else Some (found_by place first (links_of tail) (sought place (links_of tail)))

-- nothing is read on
abbrev pub stopped : ChainEnd → List (List ℕ) → ReadOn
stopped end texts = record { entries = []; end = end; left = texts }

-- TEXTS THAT SAY NOTHING after this end of a chain: none is a line of the place's number or of a
-- lower one, the first of them does not hold its sum, and none says that a deed was accepted
pub record SayNothing (place : Place) (end : ChainEnd) (texts : List (List ℕ)) : Type 0 where
  pub others : sought place texts ≡ unmet
  pub next : read_on end texts ≡ stopped end texts
  pub none : list_any says_accepted texts ≡ false
