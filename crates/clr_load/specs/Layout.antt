-- HOW THE TABLES OF A REGISTER LIE IN A DATABASE: which there are, and in which order they were made.
use Rattle.std.specs.Prelude.{ℕ, ◌*◌, Bool, true, false, not, ◌&&◌, List, [], ◌∷◌, take}
use Rattle.clr_load.specs.declared.table_name.TableName.{TableName}
use Rattle.clr_load.specs.declared.table_name.TableName.TheVariants.{Meta, Section, Point, Staff}
use Rattle.clr_load.specs.declared.table_name.TableName.TheVariants.{Clearance, Step, Hold}
use Rattle.clr_load.specs.declared.table_name.TableName.TheVariants.{NetworkPoint, Journal}
pub use Rattle.clr_load.specs.declared.layout.Layout.{Layout}
pub use Rattle.clr_load.specs.declared.layout.Layout.TheVariants.{OfOne, AsMade, AsMoved}
pub use Rattle.clr_load.specs.declared.layout.Layout.TheVariants.{AsMadeLogged, AsMovedLogged}

-- the version that `meta` has
abbrev pub version_of : Layout → ℕ
version_of OfOne = 1
version_of AsMade = 2
version_of AsMoved = 2
version_of AsMadeLogged = 2
version_of AsMovedLogged = 2

abbrev pub is_two : Layout → Bool
is_two OfOne = false
is_two AsMade = true
is_two AsMoved = true
is_two AsMadeLogged = true
is_two AsMovedLogged = true

abbrev pub is_one : Layout → Bool
is_one l = not (is_two l)

-- the `point` of version 1 is there, and empty
abbrev pub is_moved : Layout → Bool
is_moved OfOne = false
is_moved AsMade = false
is_moved AsMoved = true
is_moved AsMadeLogged = false
is_moved AsMovedLogged = true

-- the tables, in the order in which they are made. That of the journal comes last
abbrev pub names_in : Layout → List TableName
names_in OfOne = Meta ∷ Section ∷ Point ∷ Staff ∷ Clearance ∷ Step ∷ Hold ∷ []
names_in AsMade = Meta ∷ Section ∷ NetworkPoint ∷ Staff ∷ Clearance ∷ Step ∷ Hold ∷ []
names_in AsMoved = Meta ∷ Section ∷ Point ∷ Staff ∷ Clearance ∷ Step ∷ Hold ∷ NetworkPoint ∷ []
names_in AsMadeLogged =
    Meta ∷ Section ∷ NetworkPoint ∷ Staff ∷ Clearance ∷ Step ∷ Hold ∷ Journal ∷ []
names_in AsMovedLogged =
    Meta ∷ Section ∷ Point ∷ Staff ∷ Clearance ∷ Step ∷ Hold ∷ NetworkPoint ∷ Journal ∷ []

abbrev pub has_table : Layout → TableName → Bool
has_table l Meta = true
has_table l Section = true
has_table OfOne Point = true
has_table AsMade Point = false
has_table AsMoved Point = true
has_table AsMadeLogged Point = false
has_table AsMovedLogged Point = true
has_table l Staff = true
has_table l Clearance = true
has_table l Step = true
has_table l Hold = true
has_table OfOne NetworkPoint = false
has_table AsMade NetworkPoint = true
has_table AsMoved NetworkPoint = true
has_table AsMadeLogged NetworkPoint = true
has_table AsMovedLogged NetworkPoint = true
has_table OfOne Journal = false
has_table AsMade Journal = false
has_table AsMoved Journal = false
has_table AsMadeLogged Journal = true
has_table AsMovedLogged Journal = true

-- whether a table has rows of the register. That of the journal has its place there, and nothing of
-- the register itself
abbrev pub is_of_register : TableName → Bool
is_of_register Meta = true
is_of_register Section = true
is_of_register Point = true
is_of_register Staff = true
is_of_register Clearance = true
is_of_register Step = true
is_of_register Hold = true
is_of_register NetworkPoint = true
is_of_register Journal = false

-- the tables of the register itself
abbrev pub has_rows : Layout → TableName → Bool
has_rows l name = is_of_register name && has_table l name

-- the place of a table among them
abbrev pub place_in : Layout → TableName → ℕ
place_in l Meta = 0
place_in l Section = 1
place_in l Point = 2
place_in l Staff = 3
place_in l Clearance = 4
place_in l Step = 5
place_in l Hold = 6
place_in OfOne NetworkPoint = 7
place_in AsMade NetworkPoint = 2
place_in AsMoved NetworkPoint = 7
place_in AsMadeLogged NetworkPoint = 2
place_in AsMovedLogged NetworkPoint = 7
place_in OfOne Journal = 8
place_in AsMade Journal = 8
place_in AsMoved Journal = 8
place_in AsMadeLogged Journal = 7
place_in AsMovedLogged Journal = 8

-- the tree that has its rows. The tree after it is that of the index of its key
abbrev pub tree_in : Layout → TableName → ℕ
tree_in l name = 2 * place_in l name

-- the tables that are made before a table
abbrev pub names_before : Layout → TableName → List TableName
names_before l name = take (place_in l name) (names_in l)
