-- The points that words name, one by one from the left.
use Rattle.std.proofs.Common.{◌≡◌, ◌∙◌, ap, sym, ℕ, List, [], ◌∷◌, ◌++◌, Result, Ok, Err, refl, append_assoc}
use Rattle.std.specs.Prelude.{IsErrAnd}
use Rattle.std.proofs.lemmas.List.{append-nil}
use Rattle.clr_net.specs.Grid.{Grid}
use Rattle.clr_edge.specs.declared.fault.Fault.{Fault}
use Rattle.clr_net.specs.Results.{◌>>=◌}
use Rattle.clr_commands.specs.Answers.{Gives, IsMemory}
use Rattle.clr_commands.specs.Fence.{point_named, points_named}

-- these names, and then those of the other words
abbrev pub names_after : List (List ℕ) → Result (List (List ℕ)) Fault → Result (List (List ℕ)) Fault
names_after names (Ok more) = Ok (names ++ more)
names_after names (Err fault) = Err fault

-- before the first word, the other words are all of them
pub names_after-nil : (rest : Result (List (List ℕ)) Fault) → names_after [] rest ≡ rest
names_after-nil (Ok names) = refl
names_after-nil (Err fault) = refl

-- one more word names a point
pub points_named-more : (g : Grid) (word : List ℕ) (words names : List (List ℕ)) (name : List ℕ)
    → point_named g word ≡ Ok name
    → names_after names (points_named g (word ∷ words)) ≡ names_after (names ++ name ∷ []) (points_named g words)
unfolding points_named
points_named-more g word words names name e = rw e (by (points_named g words))
  where
    by : (rest : Result (List (List ℕ)) Fault) → names_after names (rest >>= (λ more. Ok (name ∷ more))) ≡ names_after (names ++ name ∷ []) rest
    by (Ok more) = rw append_assoc
    by (Err fault) = refl

-- a word that names none ends the reading
pub points_named-fault : (g : Grid) (word : List ℕ) (words names : List (List ℕ)) (fault : Fault)
    → point_named g word ≡ Err fault → names_after names (points_named g (word ∷ words)) ≡ Err fault
unfolding points_named
points_named-fault g word words names fault e = rw e

-- no word is left
pub points_named-nil : (g : Grid) (names : List (List ℕ)) → names_after names (points_named g []) ≡ Ok names
unfolding points_named
points_named-nil g names = rw append-nil

-- what is answered where a fault ends the reading
pub gives-fault : {A T : Type 0} (view : T → A) (told : Result A Fault) (result : Result T Fault) (fault : Fault)
    → told ≡ Err fault → IsErrAnd result (λ cause. cause ≡ fault) → Gives IsMemory view told result
gives-fault view told (Ok value) fault e is = absurd is
gives-fault view told (Err cause) fault e is = λ _. e ∙ ap Err (sym is)
