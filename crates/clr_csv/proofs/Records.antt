-- The records of a text: each read takes one, and they are all the records however many are asked for.
use Rattle.std.proofs.Common.{◌≡◌, ℕ, zero, suc, ◌+◌, ◌<◌, ◌≤◌, ◌==◌, ◌&&◌, ◌||◌, Bool, true, false, if◌then◌else◌, List, [], ◌∷◌, ◌++◌, length, Option, Some, None, refl, ap, subst, arith, add-suc}
use Rattle.std.specs.Str.{is_utf8}
use Rattle.std.proofs.lemmas.Str.{IsUtf8-from_is_utf8, is_utf8-from_IsUtf8}
use Rattle.csv.specs.Machine.{Read, after_end, ends_at_end, field_after, fields_after, in_field, is_end, next_record, start_field, start_record, step}
use Rattle.csv.specs.Reading.{default_config, records, records_from, records_next}
use Rattle.csv.specs.Records.{AllText}
use Rattle.csv.specs.declared.parser.Action.{Action}
use Rattle.csv.specs.declared.parser.State.{State}
use Rattle.csv.specs.declared.parser.State.TheVariants as st
use Rattle.csv.specs.declared.parser.Terminator.TheVariants as term
use Rattle.clr_csv.specs.Rows.{Fields, is_text}
use Rattle.clr_csv.specs.Table.{records_at}

-- a byte that ends a record leaves a state in which the end of the text ends none
abbrev pub EndsBetween : State × Action → Type 0
EndsBetween after = is_end after.1 ≡ true → ends_at_end after.0 ≡ false

if-between : (b : Bool) (x y : State × Action) → EndsBetween x → EndsBetween y → EndsBetween (if b then x else y)
if-between true x y h g = h
if-between false x y h g = g

after_end-between : (c : ℕ) → ends_at_end (after_end term.CRLF c) ≡ false
after_end-between c = elim (c == 13) as (λ b. ends_at_end (if b then st.AfterCr else st.StartRecord) ≡ false) [ true ↦ refl | false ↦ refl ]

in_field-between : (c : ℕ) → EndsBetween (in_field default_config c)
in_field-between c = if-between (c == 44) _ _ (λ e. cc e) (if-between ((c == 13) || (c == 10)) _ _ (λ e. after_end-between c) (λ e. cc e))

start_field-between : (c : ℕ) → EndsBetween (start_field default_config c)
start_field-between c = if-between (c == 34) _ _ (λ e. cc e) (in_field-between c)

start_record-between : (c : ℕ) → EndsBetween (start_record default_config c)
start_record-between c = if-between ((c == 13) || (c == 10)) _ _ (λ e. cc) (start_field-between c)

step-between : (s : State) (c : ℕ) → EndsBetween (step default_config s c)
step-between st.StartRecord c = start_record-between c
step-between st.StartField c = start_field-between c
step-between st.InField c = in_field-between c
step-between st.InQuoted c = if-between (c == 34) _ _ (λ e. cc e) (λ e. cc e)
step-between st.InEscape c = λ e. cc e
step-between st.AfterQuote c = if-between (c == 34) _ _ (λ e. cc e) (in_field-between c)
step-between st.InComment c = if-between (c == 10) _ _ (λ e. cc) (λ e. cc)
step-between st.AfterCr c = if-between (c == 10) _ _ (λ e. cc) (start_record-between c)

-- a record that was read leaves a state between two records, and no more bytes than there were
pub record Leaves (xs : List ℕ) (p : Read) : Type 0 where
  pub between : ends_at_end p.1 ≡ false
  pub shorter : length p.2 ≤ length xs

leaves-known : (xs : List ℕ) (q p : Read) → Some q ≡ Some p → Leaves xs q → Leaves xs p
leaves-known xs q p e h = let same : q ≡ p = cc in subst (λ (r : Read). Leaves xs r) same h

next_record-leaves : (s : State) (fields : Fields) (field xs : List ℕ) (p : Read)
    → next_record default_config s fields field xs ≡ Some p → Leaves xs p
unfolding next_record
next_record-leaves s fields field [] p read = at_end (ends_at_end s) read
  where
    at_end : (b : Bool) → (if b then Some (fields ++ (field ∷ []), st.StartRecord, []) else None) ≡ Some p → Leaves [] p
    at_end true e = leaves-known [] _ p e (record { between = refl; shorter = omega arith })
    at_end false e = cc e
next_record-leaves s fields field (c ∷ rest) p read =
    by (is_end (step default_config s c).1) refl read (next_record-leaves (step default_config s c).0 (fields_after (step default_config s c).1 fields field) (field_after (step default_config s c).1 c field) rest p)
  where
    by : (b : Bool) → is_end (step default_config s c).1 ≡ b
        → (if b then Some (fields_after (step default_config s c).1 fields field, (step default_config s c).0, rest)
        else next_record default_config (step default_config s c).0 (fields_after (step default_config s c).1 fields field) (field_after (step default_config s c).1 c field) rest) ≡ Some p
        → (next_record default_config (step default_config s c).0 (fields_after (step default_config s c).1 fields field) (field_after (step default_config s c).1 c field) rest ≡ Some p → Leaves rest p)
        → Leaves (c ∷ rest) p
    by true ends e more = leaves-known (c ∷ rest) _ p e (record { between = step-between s c ends; shorter = omega arith })
    by false ends e more = record { between = (more e).between; shorter = omega (arith, (more e).shorter) }

-- a record takes a byte, where the state is between two records
next_record-shorter : (s : State) (xs : List ℕ) (p : Read) → ends_at_end s ≡ false
    → next_record default_config s [] [] xs ≡ Some p → length p.2 < length xs
unfolding next_record
next_record-shorter s [] p between read = cc (rw between at read)
next_record-shorter s (c ∷ rest) p between read = by (is_end (step default_config s c).1) read
  where
    by : (b : Bool)
        → (if b then Some (fields_after (step default_config s c).1 [] [], (step default_config s c).0, rest)
        else next_record default_config (step default_config s c).0 (fields_after (step default_config s c).1 [] []) (field_after (step default_config s c).1 c []) rest) ≡ Some p
        → length p.2 < length (c ∷ rest)
    by true e = let same : rest ≡ p.2 = cc in omega (arith, ap length same)
    by false e = omega (arith, (next_record-leaves (step default_config s c).0 _ _ rest p e).shorter)

-- however many records are asked for, they are the same, where there are enough
records_from-enough : (n m : ℕ) (s : State) (xs : List ℕ) → ends_at_end s ≡ false → length xs < n → length xs < m
    → records_from default_config n s xs ≡ records_from default_config m s xs
unfolding records_from
records_from-enough zero m s xs between big bigger = absurd (omega arith)
records_from-enough (suc n) zero s xs between big bigger = absurd (omega arith)
records_from-enough (suc n) (suc m) s xs between big bigger = by (next_record default_config s [] [] xs) refl (records_from-enough n m)
  where
    by : (o : Option Read) → next_record default_config s [] [] xs ≡ o
        → ((s2 : State) (ys : List ℕ) → ends_at_end s2 ≡ false → length ys < n → length ys < m
        → records_from default_config n s2 ys ≡ records_from default_config m s2 ys)
        → records_next (records_from default_config n) o ≡ records_next (records_from default_config m) o
    by None e more = refl
    by (Some p) e more =
        let shorter = next_record-shorter s xs p between e in
        ap (λ (rows : List Fields). p.0 ∷ rows) (more p.1 p.2 (next_record-leaves s [] [] xs p e).between (omega arith) (omega arith))

-- a text's records, as a reader over it has them left
pub records_at-start : (xs : List ℕ) → records_at st.StartRecord (Some xs) ≡ records default_config xs
unfolding records_at
records_at-start xs = records_from-enough (length xs + 2) (length xs + 1) st.StartRecord xs refl (omega arith) (omega arith)

-- the records that are left: the next, and those after it
pub records_at-more : (s : State) (xs : List ℕ) (p : Read) → next_record default_config s [] [] xs ≡ Some p
    → records_at s (Some xs) ≡ p.0 ∷ records_at p.1 (Some p.2)
unfolding records_at records_from
records_at-more s xs p e =
    let leaves = next_record-leaves s [] [] xs p e in
    let more = records_from-enough (length xs + 1) (length p.2 + 2) p.1 p.2 leaves.between (omega (arith, leaves.shorter)) (omega arith) in
    rw (add-suc (length xs) 1, e) (ap (λ (rows : List Fields). p.0 ∷ rows) more)

-- none is left where the next read finds none
pub records_at-none : (s : State) (xs : List ℕ) → next_record default_config s [] [] xs ≡ None → records_at s (Some xs) ≡ []
unfolding records_at records_from
records_at-none s xs e = rw (add-suc, e)

-- there are no more records than are asked for
pub length-records_from : (n : ℕ) (s : State) (xs : List ℕ) → length (records_from default_config n s xs) ≤ n
unfolding records_from
length-records_from zero s xs = omega arith
length-records_from (suc n) s xs = by (next_record default_config s [] [] xs) (length-records_from n)
  where
    by : (o : Option Read) → ((s2 : State) (ys : List ℕ) → length (records_from default_config n s2 ys) ≤ n)
        → length (records_next (records_from default_config n) o) ≤ suc n
    by None more = omega arith
    by (Some p) more = omega (arith, more p.1 p.2)

-- the test for text
pub is_text-from_AllText : (fields : Fields) → AllText fields → is_text fields ≡ true
unfolding AllText
is_text-from_AllText [] h = refl
is_text-from_AllText (f ∷ fs) h = rw (is_utf8-from_IsUtf8 f h.0, is_text-from_AllText fs h.1)

AllText-from_is_text : (fields : Fields) → is_text fields ≡ true → AllText fields
unfolding AllText
AllText-from_is_text [] h = tt
AllText-from_is_text (f ∷ fs) h = by (is_utf8 f) refl h (AllText-from_is_text fs)
  where
    by : (b : Bool) → is_utf8 f ≡ b → (b && is_text fs) ≡ true → (is_text fs ≡ true → AllText fs) → AllText (f ∷ fs)
    by true e rest more = (IsUtf8-from_is_utf8 f e, more rest)
    by false e rest more = cc rest

pub is_text-from_no_text : (fields : Fields) → ¬ AllText fields → is_text fields ≡ false
is_text-from_no_text fields h = by (is_text fields) refl
  where
    by : (b : Bool) → is_text fields ≡ b → b ≡ false
    by true e = absurd (h (AllText-from_is_text fields e))
    by false e = refl
