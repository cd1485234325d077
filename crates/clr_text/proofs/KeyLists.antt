-- A test of the keys that a command has.
use Rattle.std.proofs.Common.{◌≡◌, ℕ, Bool, true, false, ◌&&◌, ◌||◌, List, [], ◌∷◌, refl, ap, filter}
use Rattle.std.specs.List.{list_any}
use Rattle.std.specs.Str.{bytes_eq}
use Rattle.clr_text.specs.Keys.{every_key, key_text}
use Rattle.clr_text.specs.Kinds.{has_key, keys_of}
use Rattle.clr_text.specs.Reading.{is_key_of}
use Rattle.clr_text.specs.declared.key.Key.{Key}
use Rattle.clr_text.specs.declared.kinds.Word.{Word}

step : (p q : Key → Bool) (key : Key) (keys : List Key) (has : Bool) → p key ≡ has
    → list_any q (filter p keys) ≡ list_any (λ k. p k && q k) keys
    → list_any q (filter p (key ∷ keys)) ≡ list_any (λ k. p k && q k) (key ∷ keys)
step p q key keys true is later = rw is (ap (λ b. q key || b) later)
step p q key keys false is later = rw is later

any_of_filter : (p q : Key → Bool) (keys : List Key) → list_any q (filter p keys) ≡ list_any (λ k. p k && q k) keys
any_of_filter p q [] = refl
any_of_filter p q (key ∷ keys) = step p q key keys (p key) refl (any_of_filter p q keys)

-- a text is one of a command's keys
pub any_of_keys : (w : Word) (text : List ℕ) → list_any (λ key. bytes_eq text (key_text key)) (keys_of w) ≡ is_key_of w text
unfolding keys_of
any_of_keys w text = any_of_filter (has_key w) (λ key. bytes_eq text (key_text key)) every_key
