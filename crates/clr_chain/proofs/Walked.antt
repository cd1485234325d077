-- A walk reads on.
use Rattle.std.proofs.Common.{◌≡◌, ◌∙◌, ◌+◌, ◌-◌, ℕ, Bool, true, false, if◌then◌else◌, List, [], ◌∷◌, ◌++◌, drop, length, map, take, Option, None, Some, refl, ap, ap₂, arith, sym}
use Rattle.std.proofs.lemmas.List.{drop-take}
use Rattle.std.proofs.lemmas.Str.{IsUtf8-from_is_utf8, is_utf8-from_IsUtf8}
use Rattle.std.specs.Str.{IsUtf8, is_utf8}
use Rattle.clr_journal.specs.Line.{Entry}
use Rattle.clr_chain.proofs.ReadingOn.{reads}
use Rattle.clr_chain.specs.Chain.{ReadOn, read_on}
use Rattle.clr_chain.specs.Laws.{WalksReadOn}
use Rattle.clr_chain.specs.Link.{end_after, next_link}
use Rattle.clr_chain.specs.Walking.{Step, holds, step_by, sum_bytes, walk}
use Rattle.clr_chain.specs.declared.chain_end.ChainEnd.{ChainEnd}

-- the steps of a chain that is read on so far
abbrev steps_of : ReadOn → List Step
steps_of read = map holds read.entries ++ walk read.end read.left

walked : (end : ChainEnd) (text : List ℕ) (rest : List (List ℕ)) (found : Option Entry) → next_link end text ≡ found
    → walk end (text ∷ rest) ≡ (step_by end text found).0 ∷ walk (step_by end text found).1 rest
unfolding walk
walked end text rest found is = ap (λ (o : Option Entry). (step_by end text o).0 ∷ walk (step_by end text o).1 rest) is

by_next : (end : ChainEnd) (text : List ℕ) (rest : List (List ℕ)) (found : Option Entry) → next_link end text ≡ found
    → ((e : ChainEnd) → walk e rest ≡ steps_of (read_on e rest)) → walk end (text ∷ rest) ≡ steps_of (read_on end (text ∷ rest))
by_next end text rest None is more = ap steps_of (sym (reads end text rest None is))
by_next end text rest (Some entry) is more =
    walked end text rest (Some entry) is ∙ ap (λ steps. holds entry ∷ steps) (more (end_after end entry))
    ∙ ap steps_of (sym (reads end text rest (Some entry) is))

walks_from : (texts : List (List ℕ)) (end : ChainEnd) → walk end texts ≡ steps_of (read_on end texts)
unfolding walk read_on
walks_from [] end = refl
walks_from (text ∷ rest) end = by_next end text rest (next_link end text) refl (walks_from rest)

pub walks : WalksReadOn
walks end texts = walks_from texts end

-- ---- the sum where a line that cannot be read has it

pub text_there : (bytes before : List ℕ) → IsUtf8 bytes → (if is_utf8 bytes then bytes else before) ≡ bytes
text_there bytes before utf8 = rw (is_utf8-from_IsUtf8 bytes utf8) refl

pub no_text : (bytes before : List ℕ) → ¬ IsUtf8 bytes → (if is_utf8 bytes then bytes else before) ≡ before
no_text bytes before isnt = at (is_utf8 bytes) refl
  where
    at : (b : Bool) → is_utf8 bytes ≡ b → (if b then bytes else before) ≡ before
    at false e = refl
    at true e = absurd (isnt (IsUtf8-from_is_utf8 bytes e))

pub sum_there : (bytes : List ℕ) (at end : ℕ) → at ≡ length bytes - 66 → end ≡ length bytes - 2 → take (end - at) (drop at bytes) ≡ sum_bytes bytes
sum_there bytes at end is ends =
    let all : end ≡ at + (end - at) = omega (arith, is, ends) in
    sym (ap (λ n. drop at (take n bytes)) all ∙ drop-take at (end - at) bytes) ∙ ap₂ (λ n k. drop n (take k bytes)) is ends
