-- Lists that are made of other lists, place by place.
use Rattle.std.proofs.Common.{◌≡◌, ◌∙◌, ℕ, suc, ◌+◌, ◌<◌, ◌≤◌, List, [], ◌∷◌, ◌++◌, length, map, take, get_or, refl, ap, sym, arith}
use Rattle.std.specs.List.{flat_map}
use Rattle.std.proofs.lemmas.List.{get_or-map, map_more, take_all}
use Rattle.std.proofs.Math.Seq.{take-suc}
use Rattle.sqlite_tied.specs.Compute.{everything}
use Rattle.clr_load.specs.declared.table_name.TableName.{TableName}
use Rattle.clr_load.specs.declared.table_name.TableName.TheVariants.{Meta, Section, Point, Staff, Clearance, Step, Hold, NetworkPoint, Journal}
use Rattle.clr_load.specs.Forms.{index_at, index_in, index_text}
use Rattle.clr_load.specs.Layout.{AsMade, AsMadeLogged, AsMoved, AsMovedLogged, Layout, OfOne, names_in, tree_in}
use Rattle.clr_load.specs.Schema.{indexes_at, schema_in}
use Rattle.sqlite.specs.Schema.{Schema}

-- one place more is the same
pub more_alike : {X Y : Type 0} (f : Y → X) (xs : List X) (ys : List Y) (n : ℕ) (x : X) (y : Y) → n < length xs → n < length ys → take n xs ≡ map f (take n ys)
    → x ≡ get_or xs n x → y ≡ get_or ys n y → x ≡ f y → take (n + 1) xs ≡ map f (take (n + 1) ys)
more_alike f xs ys n x y in_xs in_ys before at_x at_y same =
    let next : n + 1 ≡ suc n = omega arith in
    rw next (take-suc xs n x in_xs) ∙ (λ i. before i ++ (sym at_x ∙ same ∙ ap f at_y) i ∷ []) ∙ sym (map_more f ys n y in_ys)

-- lists of one length that are the same at each place
pub all_alike : {X Y : Type 0} (f : Y → X) (xs : List X) (ys : List Y) (n : ℕ) → length xs ≡ n → length ys ≡ n → take n xs ≡ map f (take n ys) → xs ≡ map f ys
all_alike f xs ys n long_x long_y same = sym (take_all n xs (omega (arith, long_x))) ∙ same ∙ ap (map f) (take_all n ys (omega (arith, long_y)))

-- where lists are the same, they are so at each place
pub alike_at : {X Y : Type 0} (f : Y → X) (xs : List X) (ys : List Y) (n : ℕ) (x : X) (y : Y) → n < length ys → x ≡ get_or xs n x → y ≡ get_or ys n y → xs ≡ map f ys → x ≡ f y
alike_at f xs ys n x y in_ys at_x at_y same = at_x ∙ ap (λ l. get_or l n x) same ∙ get_or-map f ys n y x in_ys ∙ ap f (sym at_y)

pub only_one : {X : Type 0} (xs : List X) (x : X) → 1 ≤ length xs → length xs < 2 → x ≡ get_or xs 0 x → xs ≡ x ∷ []
only_one [] x some few at = absurd (omega (arith, some))
only_one (y ∷ []) x some few at = ap (λ z. z ∷ []) (sym at)
only_one (y ∷ z ∷ more) x some few at = absurd (omega (arith, few))

-- the indexes of a layout, each that of its table's key
pub indexes_are : (l : Layout) → flat_map (λ name. indexes_at (tree_in l name) name) (names_in l) ≡ map (index_in l) (names_in l)
indexes_are OfOne = refl
indexes_are AsMade = refl
indexes_are AsMoved = refl
indexes_are AsMadeLogged = refl
indexes_are AsMovedLogged = refl

-- a schema that is none of the five is of no layout
pub none_of : (s : Schema) → (s ≡ schema_in AsMade → ⊥) → (s ≡ schema_in AsMoved → ⊥) → (s ≡ schema_in AsMadeLogged → ⊥) → (s ≡ schema_in AsMovedLogged → ⊥) → (s ≡ schema_in OfOne → ⊥) → (l : Layout) → s ≡ schema_in l → ⊥
none_of s made moved made_logged moved_logged one OfOne is = one is
none_of s made moved made_logged moved_logged one AsMade is = made is
none_of s made moved made_logged moved_logged one AsMoved is = moved is
none_of s made moved made_logged moved_logged one AsMadeLogged is = made_logged is
none_of s made moved made_logged moved_logged one AsMovedLogged is = moved_logged is

-- the name of the index of a key, as it is made
pub index_named : (tree : ℕ) (name : TableName) → (index_at tree name).name ≡ index_text name
unfolding everything
index_named tree Meta = refl
index_named tree Section = refl
index_named tree Point = refl
index_named tree Staff = refl
index_named tree Clearance = refl
index_named tree Step = refl
index_named tree Hold = refl
index_named tree NetworkPoint = refl
index_named tree Journal = refl
