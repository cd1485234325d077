-- What a posted body asks: its head is one, and the body is whole.
use Rattle.std.proofs.Common.{◌≡◌, ◌∙◌, ◌≤◌, ℕ, ap, Bool, true, false, nat_le, List, [], ◌∷◌, All, codes, decimal, length, map, reverse, Option, None, Some, Ok, refl, sym, arith, rules, inl, length-append, leb-true}
use mathlib.Core.List.{reverse_aux}
use Rattle.std.specs.Prelude.{IsTrue}
use Rattle.std.specs.Char.{is_ascii_digit}
use Rattle.std.proofs.lemmas.Bool.{le-leb}
use Rattle.std.proofs.lemmas.Fmt.{decimal_nonempty, length-decimal-le, digits_decimal, digits_value-decimal}
use Rattle.std.proofs.lemmas.List.{reverse-reverse, take_all}
use Rattle.std.proofs.lemmas.List.Elements.{All-cons, All-nil}
use Rattle.std.proofs.lemmas.Str.Parse.{IsNumeralModel, numerals_by_value}
use Rattle.std.specs.Str.Parse.{digits_value}
use Rattle.httparse.specs.Grammar.{IsField, IsRequestHead, RequestHead, is_ows, is_token_byte, is_uri_byte, is_value_byte, print_request, skip_ows, trim_ows}
use Rattle.httparse.specs.Spans.{name_and_value}
use Rattle.matchit.proofs.OnLiterals.{matchit_on_literals}
use Rattle.clr_rules.proofs.Common.{list_all, and_parts, list_all-contains, All-from_each}
use Rattle.clr_http.proofs.Parts.{ascii_from_test}
use Rattle.std.proofs.lemmas.Str.{IsUtf8-from_ascii}
use Rattle.clr_text.specs.Reading.{read_command}
use Rattle.clr_rules.specs.declared.command.Command.{Command as Asked}
use Rattle.clr_http.specs.Asked.{asked_in, body_asks, reading_asks}
use Rattle.clr_http.specs.Callers.{caller_checked, login_of, may_ask}
use Rattle.clr_http.specs.Fields.{fields_of}
use Rattle.clr_http.specs.Options.{plain}
use Rattle.clr_http.specs.Request.{Reading, head_read}
use Rattle.clr_http.specs.Head.{BeginsWith}
use Rattle.clr_http.specs.Length.{body_length, is_length}
use Rattle.clr_http.specs.Target.{target_of, the_routes}
use Rattle.clr_http.specs.declared.target.Target.TheVariants.{Command}
use Rattle.clr_http.specs.Posted.{PostedBodiesAsk, post_head, posted}

-- a test of each byte, as a fact of each
each : (p : ℕ → Bool) (xs : List ℕ) → list_all p xs ≡ true → All (λ b. IsTrue (p b)) xs
each p xs all = All-from_each (λ x. p x ≡ true) xs (λ x there. list_all-contains p xs x all there)

-- ---- a length as digits

own : IsNumeralModel (λ ds. list_all is_ascii_digit ds ≡ true) (digits_value 10)
own = numerals_by_value (λ ds. list_all is_ascii_digit ds ≡ true) (search rules)

digits : (n : ℕ) → n ≤ 65536 → list_all is_ascii_digit (decimal n) ≡ true
digits n le = digits_decimal own n (omega (arith, le))

value : (n : ℕ) → n ≤ 65536 → digits_value 10 (decimal n) ≡ n
value n le = digits_value-decimal own n (omega (arith, le))

digit_range : (d : ℕ) → is_ascii_digit d ≡ true → (48 ≤ d) × (d ≤ 57)
digit_range d is = let (low, high) = and_parts (nat_le 48 d) (nat_le d 57) is in (leb-true 48 d low, leb-true d 57 high)

no_blank : (d : ℕ) → is_ascii_digit d ≡ true → is_ows d ≡ false
no_blank d is = let (low, high) = digit_range d is in grind (arith, low, high)

is_value : (d : ℕ) → is_ascii_digit d ≡ true → is_value_byte d ≡ true
is_value d is = let (low, high) = digit_range d is in grind (arith, low, high)

none_skipped : (ds : List ℕ) → list_all is_ascii_digit ds ≡ true → skip_ows ds ≡ ds
none_skipped [] all = refl
none_skipped (d ∷ ds) all = rw (no_blank d (and_parts (is_ascii_digit d) (list_all is_ascii_digit ds) all).0) refl

trimmed : (ds : List ℕ) → list_all is_ascii_digit ds ≡ true → list_all is_ascii_digit (reverse ds) ≡ true → trim_ows (32 ∷ ds) ≡ ds
unfolding trim_ows
trimmed ds all back = rw (none_skipped ds all, none_skipped (reverse ds) back) (reverse-reverse ds)

reversed_onto : (ds after : List ℕ) → list_all is_ascii_digit ds ≡ true → list_all is_ascii_digit after ≡ true → list_all is_ascii_digit (reverse_aux ds after) ≡ true
reversed_onto [] after all more = more
reversed_onto (d ∷ ds) after all more =
    let (here, later) = and_parts (is_ascii_digit d) (list_all is_ascii_digit ds) all in reversed_onto ds (d ∷ after) later (rw (here, more) refl)

reversed : (ds : List ℕ) → list_all is_ascii_digit ds ≡ true → list_all is_ascii_digit (reverse ds) ≡ true
reversed ds all = reversed_onto ds [] all refl

few : (n : ℕ) → n ≤ 65536 → length (decimal n) ≤ 10
few n le = length-decimal-le 10 n (omega arith) (omega (arith, le)) (omega (arith, le))

is_a_length : (n : ℕ) → n ≤ 65536 → is_length (decimal n) ≡ true
is_a_length n le =
    rw (le-leb 1 (length (decimal n)) (decimal_nonempty n (omega (arith, le))), le-leb (length (decimal n)) 10 (few n le), digits n le) refl

trimmed_length : (n : ℕ) → n ≤ 65536 → trim_ows (32 ∷ decimal n) ≡ decimal n
trimmed_length n le = trimmed (decimal n) (digits n le) (reversed (decimal n) (digits n le))

length_read : (n : ℕ) → n ≤ 65536 → body_length (map name_and_value (RequestHead.fields (post_head n))) ≡ Ok n
length_read n le = rw (trimmed_length n le, is_a_length n le, value n le, le-leb n 65536 le) refl

-- ---- the head

of_digits : (ds : List ℕ) → list_all is_ascii_digit ds ≡ true → list_all is_value_byte ds ≡ true
of_digits [] all = refl
of_digits (d ∷ ds) all =
    let (here, later) = and_parts (is_ascii_digit d) (list_all is_ascii_digit ds) all in rw (is_value d here, of_digits ds later) refl

value_bytes : (n : ℕ) → n ≤ 65536 → list_all is_value_byte (32 ∷ decimal n) ≡ true
value_bytes n le = of_digits (decimal n) (digits n le)

is_head : (n : ℕ) → n ≤ 65536 → IsRequestHead (post_head n)
unfolding is_token_byte
is_head n le = record {
  method = (omega arith, each is_token_byte (codes "POST") refl);
  target = (omega arith, each is_uri_byte (codes "/command") refl);
  target_text = IsUtf8-from_ascii (codes "/command") (ascii_from_test (codes "/command") refl);
  minor = omega arith;
  fields = All-cons IsField _ [] (record { name = (omega arith, each is_token_byte (codes "Content-Length") refl); raw = each is_value_byte (32 ∷ decimal n) (value_bytes n le) }) (All-nil IsField);
}

short : (n : ℕ) → n ≤ 65536 → length (print_request (post_head n)) ≤ 8192
unfolding print_request
short n le = simp length-append (omega (arith, few n le))

begins : (body : List ℕ) → length body ≤ 65536 → BeginsWith (posted body) (post_head (length body)) body
begins body le = record {
  reads = (is_head (length body) le, refl);
  bytes = short (length body) le;
  fields = omega arith;
}

route : target_of false (codes "/command") ≡ Some Command
unfolding matchit_on_literals the_routes
route = refl

-- the plain service checks no caller
any_may : (login : Option (List ℕ)) (asked : Option Asked) → may_ask None login asked ≡ true
any_may login None = refl
any_may login (Some q) = refl

pub unchecked : (login : Option (List ℕ)) (r : Reading) → caller_checked None login r ≡ r
unchecked login r = rw (any_may login (reading_asks r)) refl

read_so : (body : List ℕ) → length body ≤ 65536 → reading_asks (head_read plain (post_head (length body)) body) ≡ body_asks (read_command body)
read_so body le =
    rw (route, length_read (length body) le, le-leb (length body) (length body) (omega arith), take_all (length body) body (omega arith)) refl

asked : (body : List ℕ) → length body ≤ 65536 → asked_in (post_head (length body)) body ≡ body_asks (read_command body)
asked body le = ap reading_asks (unchecked (login_of (fields_of (post_head (length body)))) (head_read plain (post_head (length body)) body)) ∙ read_so body le

pub posted_bodies_ask : PostedBodiesAsk
posted_bodies_ask body le = inl (post_head (length body), body, begins body le, sym (asked body le))
