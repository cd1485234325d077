-- What a read of a record does to the records that a reader over a slice has left.
use Rattle.std.proofs.Common.{◌≡◌, ℕ, ◌+◌, ◌≤◌, ◌==◌, ◌&&◌, not, if◌then◌else◌, Bool, true, false, List, [], ◌∷◌, length, Option, Some, None, Ok, refl, sym, inl, subst, ◌∙◌, arith}
use Rattle.std.specs.Prelude.{IsSome, option_map}
use Rattle.std.specs.Borrow.{Bor}
use Rattle.csv.specs.Machine.{Read, next_record}
use Rattle.csv.specs.Reading.{NextIs, Ready, ReadRecord, ReadsNext, ExplainsRead, buffered_of, default_config, has_failed, is_bom, is_flexible, pending_of, reader_state, records, reader_trim, strip_bom, took_first}
use Rattle.csv.specs.Records.{AllText}
use Rattle.csv.specs.declared.error.ErrorKind.TheVariants as kind
use Rattle.csv.specs.declared.error.Utf8Error.{Utf8Error}
use Rattle.csv.specs.declared.record.Position.{Position}
use Rattle.csv.specs.declared.parser.State.{State}
use Rattle.csv.specs.declared.parser.State.TheVariants as st
use Rattle.csv.specs.declared.reader.Reader.{Reader}
use Rattle.csv.specs.declared.reader.Trim.TheVariants as trim
use Rattle.clr_csv.specs.declared.fault.CsvFault.{CsvFault}
use Rattle.clr_csv.specs.Rows.{Fields}
use Rattle.clr_csv.specs.Table.{BeginsWithoutText, IsSetUp, IsSetUpOrFailed, TakesRecord, bytes_left, records_at, records_left}
use Rattle.clr_csv.proofs.Records.{is_text-from_AllText, is_text-from_no_text, length-records_from, records_at-more, records_at-none, records_at-start}

-- the bytes of a slice are known
abbrev pub slice_bytes : Bor (List ℕ) → Option (List ℕ)
slice_bytes slice = Some slice.now

bytes_left-known : (a : Reader (Bor (List ℕ))) → has_failed a ≡ false → IsSome (bytes_left a)
bytes_left-known a going = rw going (by (not a.bom_checked && (a.at == 0) && (a.filled == 0)))
  where
    by : (b : Bool) → IsSome (if b then option_map strip_bom (slice_bytes a.rdr) else buffered_of (slice_bytes a.rdr) a)
    by true = refl
    by false = refl

next-some : (o : Option Read) (fields : Fields) (s : State) (rest : List ℕ) → NextIs o true fields s rest
    → (p : Read) × (o ≡ Some p) × (fields ≡ p.0) × (s ≡ p.1) × (rest ≡ p.2)
next-some None fields s rest h = cc h
next-some (Some p) fields s rest h = (p, refl, h.1, h.2, h.3)

next-none : (o : Option Read) (fields : Fields) (s : State) (rest : List ℕ) → NextIs o false fields s rest → o ≡ None
next-none None fields s rest h = refl
next-none (Some p) fields s rest h = cc h.0

-- a record was read from known bytes
records_at-taken : (s s2 : State) (before after : Option (List ℕ)) (fields : Fields) → IsSome before
    → ReadsNext default_config s before after true fields s2 → records_at s before ≡ fields ∷ records_at s2 after
records_at-taken s s2 None after fields known h = cc known
records_at-taken s s2 (Some xs) None fields known h = absurd h
records_at-taken s s2 (Some xs) (Some ys) fields known h =
    let n = next-some (next_record default_config s [] [] xs) fields s2 ys h in
    records_at-more s xs n.0 n.1 ∙ (λ i. sym n.2 i ∷ records_at (sym n.3 i) (Some (sym n.4 i)))

records_at-ended : (s s2 : State) (before after : Option (List ℕ)) (fields : Fields) → IsSome before
    → ReadsNext default_config s before after false fields s2 → records_at s before ≡ []
records_at-ended s s2 None after fields known h = cc known
records_at-ended s s2 (Some xs) None fields known h = absurd h
records_at-ended s s2 (Some xs) (Some ys) fields known h = records_at-none s xs (next-none _ fields s2 ys h)

-- once the start of the text was looked at, what is pending is what is left
bytes_left-pending : (b : Reader (Bor (List ℕ))) → b.bom_checked ≡ true → pending_of (slice_bytes b.rdr) b ≡ bytes_left b
bytes_left-pending b begun = rw begun refl

-- a reader that has failed has no record left
pub records_left-failed : (a : Reader (Bor (List ℕ))) → has_failed a ≡ true → records_left a ≡ []
unfolding records_at
records_left-failed a failed = rw failed refl

-- what a read of a reader that has not failed takes
takes-going : (a b : Reader (Bor (List ℕ))) (not_text : CsvFault) (fields : Fields) (found : Bool) → has_failed a ≡ false → IsSetUp a
    → ReadRecord slice_bytes a b found fields → AllText fields
    → TakesRecord (records_left a) (records_left b) not_text fields (Ok found)
takes-going a b not_text fields true going set read text =
    let reads = rw set.config at read.0 in
    (rw (← bytes_left-pending b read.1) (records_at-taken a.state b.state _ _ fields (bytes_left-known a going) reads), is_text-from_AllText fields text)
takes-going a b not_text fields false going set read text =
    let reads = rw set.config at read.0 in
    records_at-ended a.state b.state _ _ fields (bytes_left-known a going) reads

-- what a read that answered takes
pub takes-read : (a b : Reader (Bor (List ℕ))) (old : List Fields) (not_text : CsvFault) (fields : Fields) (found : Bool)
    → records_left a ≡ old → IsSetUpOrFailed a → (has_failed a ≡ true → found ≡ false)
    → (reader_trim a ≡ trim.None → Ready a → ReadRecord slice_bytes a b found fields)
    → (reader_trim a ≡ trim.None → AllText fields)
    → TakesRecord old (records_left b) not_text fields (Ok found)
takes-read a b old not_text fields found was set stops read text = subst (λ (o : List Fields). TakesRecord o (records_left b) not_text fields (Ok found)) was (by (has_failed a) refl)
  where
    by : (failed : Bool) → has_failed a ≡ failed → TakesRecord (records_left a) (records_left b) not_text fields (Ok found)
    by true e = subst (λ (f : Bool). TakesRecord (records_left a) (records_left b) not_text fields (Ok f)) (sym (stops e)) (records_left-failed a e)
    by false e = let s = set e in takes-going a b not_text fields found e s (read s.trim s.ready) (text s.trim)

-- such a read leaves the reader set up
pub stays-set_up : (a b : Reader (Bor (List ℕ))) (fields : Fields) (found : Bool) → IsSetUpOrFailed a
    → (reader_trim a ≡ trim.None → Ready a → ReadRecord slice_bytes a b found fields)
    → has_failed b ≡ has_failed a → is_flexible b ≡ is_flexible a → (reader_trim a ≡ trim.None → took_first b ≡ true) → IsSetUpOrFailed b
stays-set_up a b fields found set read goes flexible first = λ going.
    let s = set (sym goes ∙ going) in
    let r = read s.trim s.ready in
    record { config = r.2 ∙ s.config; trim = r.3 ∙ s.trim; flexible = flexible ∙ s.flexible; ready = inl (first s.trim) }

-- a read that found a record which is not text
pub begins-without_text : (a b : Reader (Bor (List ℕ))) (old : List Fields) (pos : Option Position) (err : Utf8Error)
    → records_left a ≡ old → IsSetUpOrFailed a → ¬ (has_failed a ≡ true)
    → (reader_trim a ≡ trim.None → Ready a → ExplainsRead slice_bytes a b true (kind.Utf8 pos err))
    → BeginsWithoutText old
begins-without_text a b old pos err was set going why = subst BeginsWithoutText was (by (has_failed a) refl)
  where
    by : (failed : Bool) → has_failed a ≡ failed → BeginsWithoutText (records_left a)
    by true e = absurd (going e)
    by false e =
        let s = set e in
        let w = why s.trim s.ready in
        let took = rw s.config at w.2 in
        subst BeginsWithoutText (sym (records_at-taken a.state b.state _ _ w.1 (bytes_left-known a e) took)) (is_text-from_no_text w.1 w.3)

length-strip_bom : (xs : List ℕ) → length (strip_bom xs) ≤ length xs
unfolding strip_bom
length-strip_bom [] = omega arith
length-strip_bom (a ∷ []) = omega arith
length-strip_bom (a ∷ b ∷ []) = omega arith
length-strip_bom (a ∷ b ∷ c ∷ rest) = by (is_bom a b c)
  where
    by : (mark : Bool) → length (if mark then rest else a ∷ b ∷ c ∷ rest) ≤ length (a ∷ b ∷ c ∷ rest)
    by true = omega arith
    by false = omega arith

-- a reader that begins has all records of the text left
pub records_left-start : (a : Reader (Bor (List ℕ))) (xs : List ℕ) → reader_state a ≡ st.StartRecord
    → bytes_left a ≡ Some (strip_bom xs) → records_left a ≡ records default_config (strip_bom xs)
records_left-start a xs start left =
    let f : State → Option (List ℕ) → List Fields = records_at in
    (λ i. f (start i) (left i)) ∙ records_at-start (strip_bom xs)

-- a text has no more records than bytes, and one more
pub length-records : (xs : List ℕ) → length (records default_config (strip_bom xs)) ≤ length xs + 1
length-records xs = omega (arith, length-records_from (length (strip_bom xs) + 1) st.StartRecord (strip_bom xs), length-strip_bom xs)
