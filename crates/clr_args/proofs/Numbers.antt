-- The numbers that words say, as `parse` reads them.
use Rattle.std.proofs.Common.{◌≡◌, ◌≤◌, ◌<◌, ◌≤ℤ◌, arith, refl, subst, ℕ, ℤ, Bool, true, false, List, FitsSigned, w16, w64}
use Rattle.std.proofs.lemmas.Bool.{leb-true}
use Rattle.std.specs.Prelude.{Some, neg_ℤ, pos, negsuc, if◌then◌else◌, ◌^◌}
use Rattle.std.specs.Str.Parse.{IsNumeral, digits_value, signed_digits_value, without_leading_plus, without_leading_sign}
use lib.Dec.{T}
use Rattle.clap.specs.ValueTests.{is_signed_in, is_unsigned_in}
use Rattle.clap.specs.declared.builder.value_parser.ValueParser.TheVariants as vp
use Rattle.clap.proofs.ValueTestLemmas.{Accepts-accepts, accepts-Accepts}
use Rattle.clr_args.specs.ArgumentWords.{moment_in, number_in, offset_in}

passed : (b : Bool) → T b → b ≡ true
passed true t = refl
passed false t = absurd t

small_fits : (z : ℤ) → neg_ℤ (pos 720) ≤ℤ z → z ≤ℤ pos 840 → FitsSigned w64 z
small_fits (pos n) low high = record { sfits = let h : n ≤ 840 = leb-true _ _ (passed _ high.le) in omega (arith, h) }
small_fits (negsuc n) low high = record { sfits = let h : n ≤ 719 = leb-true _ _ (passed _ low.le) in omega (arith, h) }

-- and at 16 bits
small_fits_short : (z : ℤ) → neg_ℤ (pos 720) ≤ℤ z → z ≤ℤ pos 840 → FitsSigned w16 z
small_fits_short (pos n) low high = record { sfits = let h : n ≤ 840 = leb-true _ _ (passed _ high.le) in omega (arith, h) }
small_fits_short (negsuc n) low high = record { sfits = let h : n ≤ 719 = leb-true _ _ (passed _ low.le) in omega (arith, h) }

-- minutes that were read of a word
pub offset_in-read : (word : List ℕ) (minutes : ℤ) → IsNumeral 10 (without_leading_sign word) → minutes ≡ signed_digits_value 10 word
    → neg_ℤ (pos 720) ≤ℤ minutes → minutes ≤ℤ pos 840 → minutes ≡ offset_in (Some word)
offset_in-read word minutes numeral same low high =
    let P : ℤ → Type 0 = λ z. neg_ℤ (pos 720) ≤ℤ z in
    let Q : ℤ → Type 0 = λ z. z ≤ℤ pos 840 in
    let low_too : neg_ℤ (pos 720) ≤ℤ signed_digits_value 10 word = subst P same low in
    let high_too : signed_digits_value 10 word ≤ℤ pos 840 = subst Q same high in
    let test : is_signed_in (neg_ℤ (pos 720)) (pos 840) word ≡ true =
    Accepts-accepts false (vp.Signed (neg_ℤ (pos 720)) (pos 840)) word (numeral, small_fits _ low_too high_too, low_too, high_too) in
    rw test same

-- a word of which none are read
pub offset_in-unread : (word : List ℕ) → (IsNumeral 10 (without_leading_sign word) × FitsSigned w16 (signed_digits_value 10 word) → ⊥)
    → pos 0 ≡ offset_in (Some word)
offset_in-unread word unread = by_test (is_signed_in (neg_ℤ (pos 720)) (pos 840) word) refl
  where
    by_test : (b : Bool) → is_signed_in (neg_ℤ (pos 720)) (pos 840) word ≡ b
        → pos 0 ≡ (if b then signed_digits_value 10 word else pos 0)
    by_test true test =
        let is = accepts-Accepts false (vp.Signed (neg_ℤ (pos 720)) (pos 840)) word test in
        absurd (unread (is.0, small_fits_short _ is.2 is.3))
    by_test false test = refl

-- a number that was read of a word
pub number_in-read : (most number : ℕ) (word : List ℕ) → IsNumeral 10 (without_leading_plus word)
    → number ≡ digits_value 10 (without_leading_plus word) → number < 2 ^ 64 → 1 ≤ number → number ≤ most
    → number ≡ number_in most (Some word)
number_in-read most number word numeral same fits low high =
    let test : is_unsigned_in 1 most word ≡ true =
    Accepts-accepts false (vp.Unsigned 1 most) word (
      numeral,
      let P : ℕ → Type 0 = λ n. n < 2 ^ 64 in subst P same fits,
      let P : ℕ → Type 0 = λ n. 1 ≤ n in subst P same low,
      let P : ℕ → Type 0 = λ n. n ≤ most in subst P same high,
    ) in
    rw test same

-- a word of which none is read within the range
pub number_in-unread : (most : ℕ) (word : List ℕ)
    → (IsNumeral 10 (without_leading_plus word) → 1 ≤ digits_value 10 (without_leading_plus word)
    → digits_value 10 (without_leading_plus word) ≤ most → ⊥)
    → 1 ≡ number_in most (Some word)
number_in-unread most word unread = by_test (is_unsigned_in 1 most word) refl
  where
    by_test : (b : Bool) → is_unsigned_in 1 most word ≡ b
        → 1 ≡ (if b then digits_value 10 (without_leading_plus word) else 1)
    by_test true test =
        let is = accepts-Accepts false (vp.Unsigned 1 most) word test in
        absurd (unread is.0 is.2 is.3)
    by_test false test = refl

-- a moment that was read of a word
pub moment_in-read : (seconds : ℕ) (word : List ℕ) → IsNumeral 10 (without_leading_plus word)
    → seconds ≡ digits_value 10 (without_leading_plus word) → seconds ≤ 4102444799 → seconds ≡ moment_in (Some word)
moment_in-read seconds word numeral same high =
    let test : is_unsigned_in 0 4102444799 word ≡ true =
    Accepts-accepts false (vp.Unsigned 0 4102444799) word (
      numeral,
      let P : ℕ → Type 0 = λ n. n < 2 ^ 64 in subst P same (omega (arith, high)),
      omega arith,
      let P : ℕ → Type 0 = λ n. n ≤ 4102444799 in subst P same high,
    ) in
    rw test same

-- a word of which none is read within the range
pub moment_in-unread : (word : List ℕ)
    → (IsNumeral 10 (without_leading_plus word) → digits_value 10 (without_leading_plus word) ≤ 4102444799 → ⊥)
    → 0 ≡ moment_in (Some word)
moment_in-unread word unread = by_test (is_unsigned_in 0 4102444799 word) refl
  where
    by_test : (b : Bool) → is_unsigned_in 0 4102444799 word ≡ b
        → 0 ≡ (if b then digits_value 10 (without_leading_plus word) else 0)
    by_test true test =
        let is = accepts-Accepts false (vp.Unsigned 0 4102444799) word test in
        absurd (unread is.0 is.3)
    by_test false test = refl
