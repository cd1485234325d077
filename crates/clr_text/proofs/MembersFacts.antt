-- The keys of an object, as a map lists them.
use Rattle.std.proofs.Common.{◌≡◌, ℕ, List, [], ◌∷◌, Bool, ◌&&◌, map, refl, ap, String, string_bytes}
use Rattle.std.specs.List.{list_all}
use Rattle.std.specs.declared.alloc.Global.{Global}
use Rattle.serde_json.specs.View.{members_view}
use Rattle.serde_json.specs.declared.value.Value.{Value}
use Rattle.clr_text.specs.Reading.{all_keys}

pub all_keys-view : (test : List ℕ → Bool) (es : List (String Global × Value)) → all_keys test (members_view es) ≡ list_all (λ k. test (string_bytes k)) (map (λ e. e.0) es)
all_keys-view test [] = refl
all_keys-view test (e ∷ es) = ap (λ b. test (string_bytes e.0) && b) (all_keys-view test es)
