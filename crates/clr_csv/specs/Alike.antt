-- Names that differ by one letter. Names have no small letters, so a name has no other case.
use Rattle.std.specs.Prelude.{◌≡◌, ℕ, Bool, false, ◌&&◌, ◌||◌, ◌==◌, nat_le, IsTrue}
use Rattle.std.specs.Prelude.{if◌then◌else◌, List, [], ◌∷◌, ◌++◌}
use Rattle.clr_net.specs.Name.{same_name}

-- the letters of names are A to Z: S1 and S2, which count points, differ by no letter
abbrev pub is_letter : ℕ → Bool
is_letter b = nat_le 65 b && nat_le b 90

-- they begin with two bytes of which one is a letter, and are the same after it
abbrev pub has_letter_replaced : List ℕ → List ℕ → Bool
has_letter_replaced (x ∷ a) (y ∷ b) = (is_letter x || is_letter y) && same_name a b
has_letter_replaced _ _ = false

-- the first begins with a letter, after which it is the second
abbrev pub has_letter_more : List ℕ → List ℕ → Bool
has_letter_more [] b = false
has_letter_more (x ∷ a) b = is_letter x && same_name a b

-- one begins with a letter in place of the other's byte, or with a letter more
abbrev pub part_by_one_letter : List ℕ → List ℕ → Bool
part_by_one_letter a b = has_letter_replaced a b || has_letter_more a b || has_letter_more b a

-- TWO NAMES DIFFER BY ONE LETTER: they part by one letter after what both begin with
unfoldable pub differ_by_one_letter : List ℕ → List ℕ → Bool
differ_by_one_letter (x ∷ a) (y ∷ b) =
    if x == y then differ_by_one_letter a b else part_by_one_letter (x ∷ a) (y ∷ b)
differ_by_one_letter [] b = part_by_one_letter [] b
differ_by_one_letter (x ∷ a) [] = part_by_one_letter (x ∷ a) []

-- what that means: the names are the same before a place and after it, and at the place both have a
-- byte, which differ, or one of them alone; and one of these bytes is a letter
pub data AreOneLetterApart (a b : List ℕ) : Type 0 where
  replaced : (before after : List ℕ) (x y : ℕ) → a ≡ before ++ x ∷ after → b ≡ before ++ y ∷ after
      → (x == y) ≡ false → IsTrue (is_letter x || is_letter y) → AreOneLetterApart a b
  left_out : (before after : List ℕ) (x : ℕ) → a ≡ before ++ x ∷ after → b ≡ before ++ after
      → IsTrue (is_letter x) → AreOneLetterApart a b
  added : (before after : List ℕ) (y : ℕ) → a ≡ before ++ after → b ≡ before ++ y ∷ after
      → IsTrue (is_letter y) → AreOneLetterApart a b
