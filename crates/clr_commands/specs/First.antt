-- THE FIRST PLACE OF A REGISTER in a journal that is begun.
use Rattle.std.specs.Prelude.{ℕ, List, [], ◌++◌, codes, decimal}
use Rattle.clr_rules.specs.Register.{Register}
use Rattle.clr_rules.specs.declared.place.Place.{Place}
use Rattle.clr_chain.specs.Sums.{Files, first_sum}
use Rattle.clr_print.specs.Printed.{board_text}
use Rattle.std.specs.Prelude.{pos}
use Rattle.clr_commands.specs.Import.{Contents}

abbrev pub files_of : Contents → Files
files_of texts =
    record { sections = texts.sections; points = texts.points; staff = texts.staff }

-- when and where it is begun
abbrev pub made_at : ℕ → List ℕ → List ℕ → List ℕ
made_at moment database journal =
    decimal moment ++ (codes " " ++ (database ++ (codes " " ++ journal)))

-- the id is a sum as that of a first line is, of the files and of when and where; the number is 0,
-- and the sum that of the first line
abbrev pub first_place : Files → List ℕ → Place
first_place files made = record {
  id = first_sum files made;
  number = 0;
  sum = first_sum files (first_sum files made);
}

-- of a register that had no journal, its printed board takes the place of the files
abbrev pub board_files : Register → Files
board_files R = record { sections = board_text R (pos 0); points = []; staff = [] }
