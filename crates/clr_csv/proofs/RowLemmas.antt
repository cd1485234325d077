-- Rows read one by one, and what the rest reads as.
use Rattle.std.proofs.Common.{◌≡◌, ◌≢◌, ℕ, zero, suc, ◌+◌, ◌<◌, ◌==◌, ◌&&◌, nat_lt, Bool, true, false, if◌then◌else◌, List, [], ◌∷◌, ◌++◌, length, Result, Ok, Err, refl, sym, ap, ◌∙◌, append_assoc}
use Rattle.std.proofs.Common.{add-one, arith, ltb-true, append-nil}
use Rattle.clr_net.specs.Prelude.{list_all}
use Rattle.std.specs.Str.{IsAscii, is_utf8}
use Rattle.std.proofs.lemmas.Str.{IsUtf8-from_ascii, is_utf8-from_IsUtf8}
use Rattle.std.proofs.lemmas.Slice.Eq.{bytes_eq-Decides, slice_eq-Decides}
use Rattle.clr_csv.specs.declared.columns.ColumnFault.{ColumnFault}
use Rattle.clr_csv.specs.declared.fault.CsvFault.{CsvFault}
use Rattle.clr_csv.specs.declared.fault.CsvFault.TheVariants.{FieldCount, Header, NotText, ReadFailed}
use Rattle.clr_net.specs.Results.{◌>>=◌}
use Rattle.clr_csv.specs.Rows.{Fields, as_many_as, in_row, is_ascii, is_text, row_of, rows_from, rows_in, same_fields, text_in, under_header}
use Rattle.clr_csv.specs.Table.{BeginsWithoutText}
use Rattle.clr_csv.specs.declared.columns.ColumnFault.TheVariants as column

-- these rows, and then those that the rest reads as
abbrev pub rows_after : {A : Type 0} → List A → Result (List A) CsvFault → Result (List A) CsvFault
rows_after done (Ok rows) = Ok (done ++ rows)
rows_after done (Err fault) = Err fault

-- one more row has been read
pub rows_from-read : {A : Type 0} (read : ℕ → Fields → Result A CsvFault) (row : ℕ) (fields : Fields) (old new : List Fields) (done : List A) (value : A)
    → old ≡ fields ∷ new → read row fields ≡ Ok value
    → rows_after done (rows_from read row old) ≡ rows_after (done ++ value ∷ []) (rows_from read (row + 1) new)
unfolding rows_from
rows_from-read {A = A} read row fields old new done value taken e = rw (taken, e) (by (rows_from read (row + 1) new))
  where
    by : (rest : Result (List A) CsvFault) → rows_after done (rest >>= (λ rows. Ok (value ∷ rows))) ≡ rows_after (done ++ value ∷ []) rest
    by (Ok rows) = rw append_assoc
    by (Err fault) = refl

-- one record less is left
pub length-taken : (fields : Fields) (old new : List Fields) → old ≡ fields ∷ new → length old ≡ length new + 1
length-taken fields old new taken = rw (taken, add-one)

-- a row that does not read ends the reading
pub rows_from-fault : {A : Type 0} (read : ℕ → Fields → Result A CsvFault) (row : ℕ) (fields : Fields) (old new : List Fields) (done : List A) (fault : CsvFault)
    → old ≡ fields ∷ new → read row fields ≡ Err fault → rows_after done (rows_from read row old) ≡ Err fault
unfolding rows_from
rows_from-fault read row fields old new done fault taken e = rw (taken, e)

-- no record is left
pub rows_from-nil : {A : Type 0} (read : ℕ → Fields → Result A CsvFault) (row : ℕ) (old : List Fields) (done : List A)
    → old ≡ [] → rows_after done (rows_from read row old) ≡ Ok done
unfolding rows_from
rows_from-nil read row old done ended = rw (ended, append-nil)

-- a row that is not text
pub rows_from-without_text : {A : Type 0} (header : Fields) (columns : Fields → Result A ColumnFault) (row : ℕ) (table : List Fields) (done : List A)
    → BeginsWithoutText table → rows_after done (rows_from (row_of header columns) row table) ≡ Err (NotText row)
unfolding row_of
rows_from-without_text header columns row [] done none = absurd none
rows_from-without_text header columns row (fields ∷ table) done none =
    rows_from-fault (row_of header columns) row fields (fields ∷ table) table done (NotText row) refl (rw none refl)

-- two records with the same fields are the same
same_fields-≡ : (a b : Fields) → same_fields a b ≡ true → a ≡ b
same_fields-≡ a b same = (slice_eq-Decides bytes_eq-Decides a b (same_fields a b) refl).0 same

-- what is of ASCII is text
IsAscii-cons : (b : ℕ) (bytes : List ℕ) → b < 128 → IsAscii bytes → IsAscii (b ∷ bytes)
IsAscii-cons b bytes low rest zero = low
IsAscii-cons b bytes low rest (suc i) = rest i

IsAscii-from_all : (bytes : List ℕ) → list_all (λ byte. nat_lt byte 128) bytes ≡ true → IsAscii bytes
IsAscii-from_all [] all = λ i. omega arith
IsAscii-from_all (b ∷ bytes) all = by (nat_lt b 128) refl all (IsAscii-from_all bytes)
  where
    by : (low : Bool) → nat_lt b 128 ≡ low → (low && list_all (λ byte. nat_lt byte 128) bytes) ≡ true
        → (list_all (λ byte. nat_lt byte 128) bytes ≡ true → IsAscii bytes) → IsAscii (b ∷ bytes)
    by true low rest more = IsAscii-cons b bytes (ltb-true b 128 low) (more rest)
    by false low rest more = cc rest

is_text-from_ascii : (fields : Fields) → is_ascii fields ≡ true → is_text fields ≡ true
is_text-from_ascii [] all = refl
is_text-from_ascii (f ∷ fs) all = by (list_all (λ byte. nat_lt byte 128) f) refl all (is_text-from_ascii fs)
  where
    by : (here : Bool) → list_all (λ byte. nat_lt byte 128) f ≡ here → (here && is_ascii fs) ≡ true → (is_ascii fs ≡ true → is_text fs ≡ true)
        → (is_utf8 f && is_text fs) ≡ true
    by true here rest more = rw (is_utf8-from_IsUtf8 f (IsUtf8-from_ascii f (IsAscii-from_all f here)), more rest)
    by false here rest more = cc rest

-- a first record that is not text is not the header
pub under_header-without_text : (header : Fields) (table : List Fields) → is_ascii header ≡ true → BeginsWithoutText table
    → under_header header table ≡ Err Header
under_header-without_text header [] ascii none = absurd none
under_header-without_text header (first ∷ table) ascii none = by (same_fields header first) refl
  where
    by : (b : Bool) → same_fields header first ≡ b → (if b then Ok table else Err Header) ≡ Err Header
    by true same = cc (sym (is_text-from_ascii header ascii) ∙ ap is_text (same_fields-≡ header first same) ∙ none)
    by false same = refl

-- an answer that is no failure of the reader
abbrev pub IsNoFailure : {A : Type 0} → Result A CsvFault → Type 0
IsNoFailure answer = answer ≢ Err ReadFailed

>>=-no_failure : {A B : Type 0} (answer : Result A CsvFault) (next : A → Result B CsvFault)
    → IsNoFailure answer → ((value : A) → IsNoFailure (next value)) → IsNoFailure (answer >>= next)
>>=-no_failure (Ok value) next first after = after value
>>=-no_failure (Err fault) next first after = λ same. let e : fault ≡ ReadFailed = cc in first (ap Err e)

if-no_failure : {A : Type 0} (b : Bool) (value : A) (fault : CsvFault) → fault ≢ ReadFailed → IsNoFailure {A = A} (if b then Ok value else Err fault)
if-no_failure true value fault other = λ same. cc same
if-no_failure false value fault other = λ same. let e : fault ≡ ReadFailed = cc in other e

in_row-no_failure : {A : Type 0} (row : ℕ) (read : Result A ColumnFault) → IsNoFailure (in_row row read)
in_row-no_failure row (Ok value) = λ same. cc same
in_row-no_failure row (Err (column.BadName place)) = λ same. cc same
in_row-no_failure row (Err (column.BadWord place)) = λ same. cc same

row_of-no_failure : {A : Type 0} (header : Fields) (columns : Fields → Result A ColumnFault) (row : ℕ) (fields : Fields)
    → IsNoFailure (row_of header columns row fields)
unfolding row_of
row_of-no_failure header columns row fields =
    >>=-no_failure (text_in row fields) _ (if-no_failure (is_text fields) fields (NotText row) (λ e. cc e)) (λ texts.
    >>=-no_failure (as_many_as header row texts) _ (if-no_failure (length texts == length header) texts (FieldCount row) (λ e. cc e)) (λ counted.
    in_row-no_failure row (columns counted)))

rows_from-no_failure : {A : Type 0} (header : Fields) (columns : Fields → Result A ColumnFault) (row : ℕ) (table : List Fields)
    → IsNoFailure (rows_from (row_of header columns) row table)
unfolding rows_from
rows_from-no_failure header columns row [] = λ same. cc same
rows_from-no_failure header columns row (fields ∷ table) =
    >>=-no_failure (row_of header columns row fields) _ (row_of-no_failure header columns row fields) (λ first.
    >>=-no_failure (rows_from (row_of header columns) (row + 1) table) _ (rows_from-no_failure header columns (row + 1) table) (λ rows same. cc same))

under_header-no_failure : (header : Fields) (table : List Fields) → IsNoFailure (under_header header table)
under_header-no_failure header [] = λ same. cc same
under_header-no_failure header (first ∷ table) = if-no_failure (same_fields header first) table Header (λ e. cc e)

-- no file of rows reads as a failure of the reader
pub rows_in-no_failure : {A : Type 0} (header : Fields) (columns : Fields → Result A ColumnFault) (table : List Fields)
    → IsNoFailure (rows_in header columns table)
unfolding rows_in
rows_in-no_failure header columns table =
    >>=-no_failure (under_header header table) _ (under_header-no_failure header table) (rows_from-no_failure header columns 1)

-- an answer has one fault
pub one_fault : {A : Type 0} (answer : Result A CsvFault) (a b : CsvFault) → answer ≡ Err a → answer ≡ Err b → a ≡ b
one_fault answer a b first second = cc
