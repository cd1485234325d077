-- A text names a clearance exactly where it is the text that the clearance is written as.
use Rattle.std.proofs.Common.{◌≡◌, ℕ, ◌<◌, ◌≤◌, ◌^◌, Bool, true, false, ◌&&◌, nat_le, nat_lt, IsTrue, Option, Some, None, List, [], ◌∷◌, ◌++◌, length, get_or, refl, sym, ◌∙◌, ap, subst, arith, rules}
use Rattle.std.proofs.Common.{length-drop, Result, Ok, Err, IfOk, ok_or, ◌==◌, if◌then◌else◌, unwrap_or, decimal, eqb-true, leb-true, le-leb, le-ltb, ltb-false}
use Rattle.std.specs.Result.{result_ok}
use Rattle.std.specs.Char.{is_ascii_digit}
use Rattle.std.specs.List.{after_first, before_first, list_all, position_or_len}
use Rattle.std.specs.Str.Parse.{digits_value, ParsesUnsigned}
use Rattle.clr_rules.proofs.Common.{and_parts, and_from}
use Rattle.std.proofs.lemmas.Bool.Decides.{nat_tests}
use Rattle.std.proofs.lemmas.Fmt.{decimal-digits_value, decimal_nonempty, digits_decimal, digits_value-decimal, first_decimal, length-decimal-le}
use Rattle.std.proofs.lemmas.List.Sums.{split_at_first, passes_at_first}
use Rattle.std.proofs.Math.Seq.{take-append_seam, drop-append-add}
use Rattle.std.proofs.lemmas.Str.Parse.{IsNumeralModel, numerals_by_value, digits_value_short, parse_gives}
use Rattle.clr_net.specs.Name.{is_name, is_name_byte}
use Rattle.clr_net.specs.NameText.{bad_byte, read_name, unless_bad_byte}
use Rattle.clr_net.specs.declared.name.NameFault.{NameFault}
use Rattle.clr_net.specs.declared.name.NameFault.TheVariants.{TooLong}
use Rattle.clr_net.proofs.Names.{is_name_from, name_has_none, name_parts}
use Rattle.clr_rules.specs.Id.{Id, id_text, is_clearance_number, is_id, new_id}
use Rattle.clr_rules.specs.IdText.{id_of, is_numeral, is_slash, read_id, read_number}
use Rattle.clr_rules.specs.declared.clearance_id.IdFault.{IdFault}
use Rattle.clr_rules.specs.declared.clearance_id.IdFault.TheVariants.{BadId}

-- texts of digits, and the numbers that they are
own : IsNumeralModel (λ ds. list_all is_ascii_digit ds ≡ true) (digits_value 10)
own = numerals_by_value (λ ds. list_all is_ascii_digit ds ≡ true) (search rules)

numeral_parts : (text : List ℕ) → is_numeral text ≡ true → (list_all is_ascii_digit text ≡ true) × (0 < length text) × (length text ≤ 4) × (48 < get_or text 0 0)
numeral_parts [] h = cc
numeral_parts (d ∷ ds) h =
    let outer = and_parts (nat_le 49 d && nat_le d 57) (nat_le (length ds) 3 && list_all is_ascii_digit ds) h in
    let first = and_parts (nat_le 49 d) (nat_le d 57) outer.0 in
    let rest = and_parts (nat_le (length ds) 3) (list_all is_ascii_digit ds) outer.1 in
    let low = leb-true 49 d first.0 in
    let high = leb-true d 57 first.1 in
    let few = leb-true (length ds) 3 rest.0 in
    (and_from (is_ascii_digit d) (list_all is_ascii_digit ds) (and_from (nat_le 48 d) (nat_le d 57) (le-leb 48 d (omega arith)) first.1) rest.1, omega arith, omega arith, omega arith)

-- what `parse` gives of one to four digits
pub parsed : {E : Type 0} (text : List ℕ) (r : Result ℕ E) → is_numeral text ≡ true → ParsesUnsigned 16 10 text r → r ≡ Ok (digits_value 10 text)
parsed text r h p =
    let parts = numeral_parts text h in
    let small = digits_value_short own text 4 parts.0 parts.2 in
    parse_gives own 16 text r p parts.0 parts.1 (omega arith)

numeral_from : (text : List ℕ) → list_all is_ascii_digit text ≡ true → 0 < length text → length text ≤ 4 → 48 < get_or text 0 0 → is_numeral text ≡ true
numeral_from [] digits some few first = absurd (omega arith)
numeral_from (d ∷ ds) digits some few first =
    let parts = and_parts (is_ascii_digit d) (list_all is_ascii_digit ds) digits in
    let range = and_parts (nat_le 48 d) (nat_le d 57) parts.0 in
    and_from (nat_le 49 d && nat_le d 57) (nat_le (length ds) 3 && list_all is_ascii_digit ds)
    (and_from (nat_le 49 d) (nat_le d 57) (le-leb 49 d (omega arith)) range.1)
    (and_from (nat_le (length ds) 3) (list_all is_ascii_digit ds) (le-leb (length ds) 3 (omega arith)) parts.1)

same_in_some : {A : Type 0} (x y : A) → Some x ≡ Some y → x ≡ y
same_in_some x y e = ap (λ o. unwrap_or o x) e

-- a number that was read is written as the text
numbered : (text : List ℕ) (number : ℕ) → read_number text ≡ Some number → (decimal number ≡ text) × (0 < length text)
numbered text number h = at (is_numeral text) refl
  where
    at : (b : Bool) → is_numeral text ≡ b → (decimal number ≡ text) × (0 < length text)
    at true e =
        let parts = numeral_parts text e in
        let value : digits_value 10 text ≡ number = same_in_some (digits_value 10 text) number (sym (rw e refl) ∙ h) in
        let small = digits_value_short own text 4 parts.0 parts.2 in
        (ap decimal (sym value) ∙ decimal-digits_value own text parts.0 parts.1 (λ zero_first. absurd (omega arith)) (omega arith), parts.1)
    at false e = cc (rw e at h)

-- a number in range is read from its text
number_read : (number : ℕ) → is_clearance_number number ≡ true → read_number (decimal number) ≡ Some number
number_read number h =
    let parts = and_parts (nat_le 1 number) (nat_le number 9999) h in
    let low = leb-true 1 number parts.0 in
    let high = leb-true number 9999 parts.1 in
    let small : number < 2 ^ 64 = omega arith in
    let numeral = numeral_from (decimal number) (digits_decimal own number small) (decimal_nonempty number small)
    (length-decimal-le 4 number (omega arith) (omega arith) small) (first_decimal number (omega arith) small) in
    rw numeral (ap Some (digits_value-decimal own number small))

-- a name that was read is the text
named : (text name : List ℕ) → read_name text ≡ Ok name → IsTrue (is_name name) × (text ≡ name)
named text name h = at_none (length text == 0) refl
  where
    at_bad : 0 < length text → length text ≤ 24 → (place : Option ℕ) → bad_byte text ≡ place → unless_bad_byte text place ≡ Ok name → IsTrue (is_name name) × (text ≡ name)
    at_bad some few None e g =
        let same : text ≡ name = ap (λ r. unwrap_or (result_ok r) text) g in
        (subst (λ n. IsTrue (is_name n)) same (is_name_from text some few e), same)
    at_bad some few (Some place) e g = cc

    at_long : 0 < length text → (b : Bool) → nat_lt 24 (length text) ≡ b → (if b then Err TooLong else unless_bad_byte text (bad_byte text)) ≡ Ok name → IsTrue (is_name name) × (text ≡ name)
    at_long some true e g = cc
    at_long some false e g = at_bad some (ltb-false 24 (length text) e) (bad_byte text) refl g

    at_none : (b : Bool) → (length text == 0) ≡ b → IsTrue (is_name name) × (text ≡ name)
    at_none true e = cc (rw e at h)
    at_none false e = at_long (grind (arith, nat_tests)) (nat_lt 24 (length text)) refl (sym (rw e refl) ∙ h)

-- a name is read from its text
name_read : (name : List ℕ) → IsTrue (is_name name) → read_name name ≡ Ok name
name_read name h =
    let parts = name_parts name h in
    let none : (length name == 0) ≡ false = grind (arith, nat_tests) in
    let short : nat_lt 24 (length name) ≡ false = le-ltb 24 (length name) parts.1 in
    let good = name_has_none name h in
    rw (none, short, good) refl

not_slash : (b : ℕ) → is_name_byte b ≡ true → (b == 47) ≡ false
not_slash b h = grind (arith, nat_tests)

-- no name has a slash, so what follows it begins with the first
slash_after : (name rest : List ℕ) → list_all is_name_byte name ≡ true → position_or_len is_slash (name ++ 47 ∷ rest) ≡ length name
slash_after [] rest h = refl
slash_after (b ∷ bs) rest h =
    let parts = and_parts (is_name_byte b) (list_all is_name_byte bs) h in
    rw (not_slash b parts.0, slash_after bs rest parts.1) (omega arith)

-- a text with something after its first slash
split : (text : List ℕ) → 0 < length (after_first is_slash text) → before_first is_slash text ++ 47 ∷ after_first is_slash text ≡ text
split text some =
    let inside : position_or_len is_slash text < length text = omega (arith, length-drop {A = ℕ}) in
    let slash : get_or text (position_or_len is_slash text) 0 ≡ 47 = eqb-true _ 47 (passes_at_first is_slash text 0 inside) in
    sym (split_at_first is_slash text 0 inside ∙ ap (λ b. before_first is_slash text ++ b ∷ after_first is_slash text) slash)

made : (requester : List ℕ) (number : ℕ) (id : Id) → new_id requester number ≡ Some id
    → (is_clearance_number number ≡ true) × (requester ≡ id.requester) × (number ≡ id.number)
made requester number id h = at (is_clearance_number number) refl
  where
    at : (b : Bool) → is_clearance_number number ≡ b → (is_clearance_number number ≡ true) × (requester ≡ id.requester) × (number ≡ id.number)
    at true e =
        let made_id : Id = record { requester = requester; number = number } in
        let same : made_id ≡ id = same_in_some made_id id (sym (rw e refl) ∙ h) in
        (e, ap (λ i. i.requester) same, ap (λ i. i.number) same)
    at false e = cc (rw e at h)

-- a clearance that a text names is written as the text
pub reads_written : (text : List ℕ) (id : Id) → read_id text ≡ Some id → IsTrue (is_id id) × (id_text id ≡ text)
reads_written text id h = at (read_name (before_first is_slash text)) refl (read_number (after_first is_slash text)) refl h
  where
    at : (r : Result (List ℕ) NameFault) → read_name (before_first is_slash text) ≡ r → (n : Option ℕ) → read_number (after_first is_slash text) ≡ n → id_of r n ≡ Some id → IsTrue (is_id id) × (id_text id ≡ text)
    at (Ok requester) er (Some number) en e =
        let name = named (before_first is_slash text) requester er in
        let digits = numbered (after_first is_slash text) number en in
        let parts = made requester number id e in (
          and_from (is_name id.requester) (is_clearance_number id.number) (subst (λ n. IsTrue (is_name n)) parts.1 name.0) (subst (λ n. is_clearance_number n ≡ true) parts.2 parts.0),
          (λ i. sym (name.1 ∙ parts.1) i ++ 47 ∷ (ap decimal (sym parts.2) ∙ digits.0) i) ∙ split text digits.1,
        )
    at (Ok requester) er None en e = cc
    at (Err fault) er n en e = cc

-- and a clearance is read from the text that it is written as
pub written_reads : (id : Id) → IsTrue (is_id id) → read_id (id_text id) ≡ Some id
written_reads id h =
    let parts = and_parts (is_name id.requester) (is_clearance_number id.number) h in
    let slash = slash_after id.requester (decimal id.number) (name_parts id.requester parts.0).2 in
    let before : before_first is_slash (id_text id) ≡ id.requester = rw slash (take-append_seam id.requester (47 ∷ decimal id.number)) in
    let after : after_first is_slash (id_text id) ≡ decimal id.number = rw slash (drop-append-add id.requester (47 ∷ decimal id.number) 1) in
    rw (before, after, name_read id.requester parts.0, number_read id.number parts.1) (rw parts.1 refl)

-- what reading answers: the clearance, where the text names one
pub read_if_ok : (text : List ℕ) (o : Option Id) (r : Result Id IdFault) → read_id text ≡ o → r ≡ ok_or o BadId → IfOk r (λ id. IsTrue (is_id id) × (id_text id ≡ text))
read_if_ok text None r found is = subst (λ v. IfOk v (λ id. IsTrue (is_id id) × (id_text id ≡ text))) (sym is) tt
read_if_ok text (Some id) r found is = subst (λ v. IfOk v (λ id. IsTrue (is_id id) × (id_text id ≡ text))) (sym is) (reads_written text id found)

-- and an error only where no clearance is written so
pub read_if_bad : (text : List ℕ) (r : Result Id IdFault) → r ≡ ok_or (read_id text) BadId → r ≡ Err BadId → (id : Id) → IsTrue (is_id id) → id_text id ≡ text → ⊥
read_if_bad text r is bad id good written =
    let found : read_id text ≡ Some id = ap read_id (sym written) ∙ written_reads id good in
    let wrong : Err BadId ≡ Ok id = sym bad ∙ is ∙ ap (λ o. ok_or o BadId) found in
    cc
