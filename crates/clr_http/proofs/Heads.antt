-- A head and the bytes that were read so far.
use Rattle.std.proofs.Common.{◌≡◌, ◌∙◌, sym, ap, ℕ, ◌+◌, ◌≤◌, ◌<◌, List, [], ◌++◌, length, take, drop, Option, Some, None, arith, length-append}
use Rattle.std.proofs.lemmas.List.{take-append-le, take-append-drop}
use Rattle.std.proofs.Math.Seq.{take-append_seam}
use Rattle.std.specs.Io.KnownBytes.{Consumes}
use Rattle.httparse.specs.Grammar.{RequestHead, print_request, HasNoRequest}
use Rattle.clr_http.specs.Head.{HasHead}

some_bytes : (h : RequestHead) → 0 < length (print_request h)
unfolding print_request
some_bytes h = simp length-append (omega arith)

-- no head is empty
pub none_at_first : HasNoRequest []
none_at_first h rest r =
    let e : length (print_request h) + length rest ≡ 0 = sym (length-append (print_request h) rest) ∙ ap length (sym r.1) in
    omega (arith, some_bytes h)

front_of : (taken ys p rest : List ℕ) → taken ++ ys ≡ p ++ rest → length p ≤ length taken → taken ≡ p ++ drop (length p) taken
front_of taken ys p rest e le =
    let one : take (length p) (taken ++ ys) ≡ take (length p) taken = take-append-le (length p) taken ys le in
    let front : take (length p) taken ≡ p = sym one ∙ ap (take (length p)) e ∙ take-append_seam p rest in
    sym (take-append-drop (length p) taken) ∙ ap (λ (f : List ℕ). f ++ drop (length p) taken) front

-- where the limit was read and no head is there, the input does not begin with one
pub exhausted : (known new : Option (List ℕ)) (taken : List ℕ) → Consumes known new taken → HasNoRequest taken → 8192 ≤ length taken → HasHead known → ⊥
exhausted None new taken c none le h = h
exhausted (Some xs) None taken c none le h = c
exhausted (Some xs) (Some ys) taken c none le (h, rest, b) =
    let e : taken ++ ys ≡ print_request h ++ rest = sym c ∙ b.reads.1 in
    let short : length (print_request h) ≤ length taken = omega (arith, b.bytes) in
    none h _ (b.reads.0, front_of taken ys (print_request h) rest e short)
