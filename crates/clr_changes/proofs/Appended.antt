-- Texts put after a text, one after the other.
use Rattle.std.proofs.Common.{◌≡◌, ◌∙◌, ◌++◌, ℕ, List, ap, append_assoc}

pub two_appended : (text a b : List ℕ) → text ++ a ++ b ≡ text ++ (a ++ b)
two_appended text a b = append_assoc text a b

pub three_appended : (text a b c : List ℕ) → text ++ a ++ b ++ c ≡ text ++ (a ++ b ++ c)
three_appended text a b c = ap (λ l. l ++ c) (two_appended text a b) ∙ append_assoc text (a ++ b) c

pub four_appended : (text a b c d : List ℕ) → text ++ a ++ b ++ c ++ d ≡ text ++ (a ++ b ++ c ++ d)
four_appended text a b c d = ap (λ l. l ++ d) (three_appended text a b c) ∙ append_assoc text (a ++ b ++ c) d

pub five_appended : (text a b c d e : List ℕ) → text ++ a ++ b ++ c ++ d ++ e ≡ text ++ (a ++ b ++ c ++ d ++ e)
five_appended text a b c d e = ap (λ l. l ++ e) (four_appended text a b c d) ∙ append_assoc text (a ++ b ++ c ++ d) e
