-- Lines that line feeds end, in bytes that were read and bytes that are still to be read.
use Rattle.std.proofs.Common.{◌≡◌, ◌∙◌, ◌+◌, ◌-◌, ◌<◌, ◌≤◌, ℕ, Bool, true, false, cond, List, [], ◌∷◌, ◌++◌, length, take, drop, get_or, None, Option, Some, Vec, nat_lt}
use Rattle.std.proofs.Common.{refl, ap, sym, subst, arith, length-take, length-drop, ltb-true, append_assoc, length-append}
use Rattle.std.proofs.lemmas.List.{append-nil, drop-append-le, drop-drop, get_or-take}
use Rattle.std.proofs.lemmas.List.Folds.{list_any_none}
use Rattle.std.proofs.lemmas.List.Sums.{fails_before_first, passes_at_first, split_at_first}
use borrow.Author.Tests.{eqb-true}
use Rattle.std.specs.Io.KnownBytes.{Consumes, IsAtEnd, Keeps, prepend_known}
use Rattle.std.specs.List.{list_any, position_or_len}
use Rattle.std.specs.Option.{option_map_or}
use Rattle.std.specs.Prelude.{IfSome, position, slice_get}
use Rattle.std.specs.declared.alloc.Global.{Global}
use Rattle.clr_journal.specs.Lines.{ended_lines, is_line_feed}
use Rattle.clr_journal.proofs.Pieces.{line_first}
use Rattle.clr_edge.specs.Lines.{EndsAs, IsNextLine, IsTooLong, ends_whole}

-- ---- the first line feed

abbrev place : List ℕ → ℕ
place xs = position_or_len is_line_feed xs

-- what comes before the first line feed, and after it
pub record IsSplit (n : ℕ) (xs : List ℕ) : Type 0 where
  pub whole : xs ≡ take n xs ++ 10 ∷ drop (n + 1) xs
  pub none : list_any is_line_feed (take n xs) ≡ false
  pub inside : n < length xs

at_place : (xs : List ℕ) → place xs < length xs → IsSplit (place xs) xs
at_place xs inside =
    let feed : get_or xs (place xs) 0 ≡ 10 = eqb-true _ _ (passes_at_first is_line_feed xs 0 inside) in
    let before : (k d : ℕ) → k < length (take (place xs) xs) → is_line_feed (get_or (take (place xs) xs) k d) ≡ false = λ k d below.
    let size = length-take (place xs) xs in
    let lt : k < place xs = omega (arith, size, below) in
    ap is_line_feed (get_or-take (place xs) xs k d lt) ∙ fails_before_first is_line_feed xs k d lt in
    record {
      whole = split_at_first is_line_feed xs 0 inside ∙ ap (λ b. take (place xs) xs ++ (b ∷ drop (place xs + 1) xs)) feed;
      none = list_any_none is_line_feed (take (place xs) xs) before;
      inside = inside;
    }

pub split : (xs : List ℕ) (n : ℕ) → position is_line_feed xs ≡ Some n → IsSplit n xs
split xs n is = by_test (nat_lt (place xs) (length xs)) refl is
  where
    by_test : (b : Bool) → nat_lt (place xs) (length xs) ≡ b → cond b (Some (place xs)) None ≡ Some n → IsSplit n xs
    by_test true e h = let same : place xs ≡ n = cc in subst (λ (k : ℕ). IsSplit k xs) same (at_place xs (ltb-true _ _ e))
    by_test false e h = cc

-- the line that is held first, and what is held after it
pub held-line : (items rest line : List ℕ) (given end : ℕ) → rest ≡ drop given items → position is_line_feed rest ≡ Some end → line ≡ take end rest
    → drop given items ≡ line ++ 10 ∷ drop (given + (end + 1)) items
held-line items rest line given end same at is =
    let parts : IsSplit end rest = split rest end at in
    sym same ∙ parts.whole ∙ ap (λ t. t ++ 10 ∷ drop (end + 1) rest) (sym is) ∙ ap (λ t. line ++ 10 ∷ t) (ap (drop (end + 1)) same ∙ drop-drop (end + 1) given items)

-- ---- what is read is held

pub held-read : (given : ℕ) (items piece now : List ℕ) → given ≤ length items → now ≡ items ++ piece → drop given now ≡ drop given items ++ piece
held-read given items piece now within is = ap (drop given) is ∙ drop-append-le given items piece within

pub left-read : (held now piece : List ℕ) (a b : Option (List ℕ)) → now ≡ held ++ piece → Consumes a b piece → Keeps (prepend_known held a) (prepend_known now b)
left-read held now piece None b is took = tt
left-read held now piece (Some xs) None is took = absurd took
left-read held now piece (Some xs) (Some ys) is took = ap (λ t. t ++ ys) is ∙ append_assoc held piece ys ∙ ap (λ t. held ++ t) (sym took)

-- ---- the next line of all that is left

pub next-line : (line : Vec ℕ Global) (held rest : List ℕ) (first known : Option (List ℕ)) → Keeps first (prepend_known held known)
    → held ≡ line.items ++ 10 ∷ rest → list_any is_line_feed line.items ≡ false → IfSome first (IsNextLine (Some line) (prepend_known rest known))
next-line line held rest None known keeps is none = tt
next-line line held rest (Some bytes) None keeps is none = absurd keeps
next-line line held rest (Some bytes) (Some xs) keeps is none =
    ap ended_lines (sym keeps ∙ ap (λ t. t ++ xs) is ∙ append_assoc line.items (10 ∷ rest) xs) ∙ (line_first line.items (rest ++ xs) none).0

pub no-line : (held : List ℕ) (first known after : Option (List ℕ)) → Keeps first (prepend_known held known) → IsAtEnd known
    → ended_lines held ≡ [] → IfSome first (IsNextLine None after)
no-line held None known after keeps end none = tt
no-line held (Some bytes) None after keeps end none = absurd keeps
no-line held (Some bytes) (Some xs) after keeps end none = ap ended_lines (sym keeps ∙ ap (λ t. held ++ t) end ∙ append-nil held) ∙ none

pub too-long : (held : List ℕ) (first known : Option (List ℕ)) → Keeps first (prepend_known held known)
    → ended_lines held ≡ [] → 4194304 < length held → IfSome first IsTooLong
too-long held None known keeps none more = tt
too-long held (Some bytes) None keeps none more = absurd keeps
too-long held (Some bytes) (Some xs) keeps none more = (held, xs, sym keeps, none, more)

-- ---- how a file ends

ends-after : (line rest : List ℕ) → ends_whole (line ++ 10 ∷ rest) ≡ ends_whole rest
ends-after [] [] = refl
ends-after [] (b ∷ rest) = refl
ends-after (a ∷ []) rest = ends-after [] rest
ends-after (a ∷ b ∷ line) rest = ends-after (b ∷ line) rest

-- by its last byte
ends-at : (b : ℕ) (rest : List ℕ) → ends_whole (b ∷ rest) ≡ option_map_or is_line_feed (slice_get (b ∷ rest) (length rest)) true
ends-at b [] = refl
ends-at b (c ∷ rest) = ends-at c rest

pub ends-last : (bytes : List ℕ) → ends_whole bytes ≡ option_map_or is_line_feed (slice_get bytes (length bytes - 1)) true
ends-last [] = refl
ends-last (b ∷ rest) =
    let last : length rest ≡ length (b ∷ rest) - 1 = omega (arith) in
    ends-at b rest ∙ ap (λ (n : ℕ). option_map_or is_line_feed (slice_get (b ∷ rest) n) true) last

-- after a line it ends as before
pub line-ends : (line held rest : List ℕ) (first known : Option (List ℕ)) → Keeps first (prepend_known held known) → held ≡ line ++ 10 ∷ rest
    → IfSome first (EndsAs (prepend_known rest known))
line-ends line held rest None known keeps is = tt
line-ends line held rest (Some bytes) None keeps is = absurd keeps
line-ends line held rest (Some bytes) (Some xs) keeps is =
    ap ends_whole (sym keeps ∙ ap (λ t. t ++ xs) is ∙ append_assoc line (10 ∷ rest) xs) ∙ ends-after line (rest ++ xs)
