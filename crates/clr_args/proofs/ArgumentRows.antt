-- The values of an argument, as the rows of a parse have them.
use Rattle.std.proofs.Common.{◌≡◌, refl, sym, ℕ, Bool, true, false, List, [], ◌∷◌, map}
use Rattle.std.specs.Prelude.{Option, option_map, option_and_then, find, slice_get, if◌then◌else◌, Some}
use Rattle.std.specs.Borrow.{Bor}
use Rattle.std.specs.Str.{bytes_eq}
use Rattle.clap.specs.Walk.{all_of, first_of, row_of, rows_of}
use Rattle.clap.specs.Facts.{Entry}
use Rattle.clap.specs.Matches.{first_value, matched_of, raw_values}
use Rattle.clap.specs.declared.parser.matches.Found.{Found}
use Rattle.clap.specs.declared.parser.matches.MatchedArg.{MatchedArg}

-- the entry of an id
abbrev pub entry_in : List Entry → List ℕ → Option MatchedArg
entry_in entries id = option_map (λ e. e.1) (find (λ e. bytes_eq e.0.now id) entries)

first_text : (texts : List (Bor (List ℕ))) → slice_get (map (λ t. t.now) texts) 0 ≡ option_map (λ t. t.now) (slice_get texts 0)
first_text [] = refl
first_text (text ∷ texts) = refl

first_in : (entries : List Entry) (id : List ℕ) → first_of id (map row_of entries)
    ≡ option_and_then (λ a. option_map (λ s. s.now) (slice_get a.vals.items 0)) (entry_in entries id)
first_in [] id = refl
first_in (e ∷ entries) id = by_test (bytes_eq e.0.now id) (first_in entries id)
  where
    by_test : (same : Bool)
        → first_of id (map row_of entries)
        ≡ option_and_then (λ a. option_map (λ s. s.now) (slice_get a.vals.items 0)) (entry_in entries id)
        → option_and_then (λ r. slice_get r.values 0) (if same then Some (row_of e) else find (λ r. bytes_eq r.id id) (map row_of entries))
        ≡ option_and_then (λ a. option_map (λ s. s.now) (slice_get a.vals.items 0))
        (option_map (λ f. f.1) (if same then Some e else find (λ f. bytes_eq f.0.now id) entries))
    by_test true rest = first_text e.1.vals.items
    by_test false rest = rest

-- the first value of an argument
pub first_value-rows : (found : Found) (id : List ℕ) → first_value found id ≡ first_of id (rows_of found)
first_value-rows found id = sym (first_in found.entries.items id)

all_in : (entries : List Entry) (id : List ℕ) → all_of id (map row_of entries) ≡ option_map raw_values (entry_in entries id)
all_in [] id = refl
all_in (e ∷ entries) id = by_test (bytes_eq e.0.now id) (all_in entries id)
  where
    by_test : (same : Bool) → all_of id (map row_of entries) ≡ option_map raw_values (entry_in entries id)
        → option_map (λ r. r.values) (if same then Some (row_of e) else find (λ r. bytes_eq r.id id) (map row_of entries))
        ≡ option_map raw_values (option_map (λ f. f.1) (if same then Some e else find (λ f. bytes_eq f.0.now id) entries))
    by_test true rest = refl
    by_test false rest = rest

-- all values of an argument
pub raw_values-rows : (found : Found) (id : List ℕ) → option_map raw_values (matched_of found id) ≡ all_of id (rows_of found)
raw_values-rows found id = sym (all_in found.entries.items id)
