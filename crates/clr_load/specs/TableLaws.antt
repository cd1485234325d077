-- The tables of a register as laws: edits change them as they change the register.
use Rattle.std.specs.Prelude.{◌≡◌, IsTrue, List, map, not, Ok}
use Rattle.std.specs.Str.{is_utf8}
use Rattle.std.specs.List.{list_all}
use Rattle.clr_net.specs.Grid.{Grid, point_names}
use Rattle.clr_staff.specs.declared.employee.StaffRow.{StaffRow}
use Rattle.clr_rules.specs.Edits.{after_edits}
use Rattle.clr_rules.specs.Good.{IsGood, ListsAreInOrder, NetworkIsUnplaced}
use Rattle.clr_rules.specs.Register.{Register, opening}
use Rattle.clr_rules.specs.Run.{after}
use Rattle.clr_rules.specs.States.{state_key}
use Rattle.clr_rules.specs.declared.change.Edit.{Edit}
use Rattle.clr_rules.specs.declared.command.Command.{Command}
use Rattle.clr_rules.specs.declared.place.Place.{Place}
use Rattle.clr_load.specs.RowsRead.{Rows, read_place, rows_of, rows_read}
use Rattle.clr_load.specs.TableEdits.{tables_edited, tables_moved}
use Rattle.clr_load.specs.Tables.{place_row, tables_by, tables_of, version_one}
use Rattle.clr_load.specs.TypedRows.{IsTyped, is_typed_command, is_typed_employee, is_typed_point}
use Rattle.clr_load.specs.TypedRows.{is_typed_section}

-- the points of the network are those that have a state, as in every good register
abbrev pub StatesAreThePoints : Register → Type 0
StatesAreThePoints R = map state_key R.states ≡ point_names (Grid.points R.net)

-- what tables do not say of a register: that its states are those of the points, that its lists are
-- in order, and that its network has no positions
pub record IsToldByTables (R : Register) : Type 0 where
  pub states : StatesAreThePoints R
  pub in_order : ListsAreInOrder R
  pub no_positions : NetworkIsUnplaced R

-- SUCH REGISTERS WITH THE SAME TABLES ARE THE SAME
abbrev pub SameTablesSameRegister : Type 0
SameTablesSameRegister = (R S : Register) → IsToldByTables R → IsToldByTables S
    → tables_of R ≡ tables_of S → R ≡ S

-- and good registers are such
abbrev pub GoodAreToldByTables : Type 0
GoodAreToldByTables = (R : Register) → IsGood R → IsToldByTables R

-- THE TABLES OF A REGISTER READ AS ITS ROWS, where each value is of its type,
abbrev pub TablesAreRead : Type 0
TablesAreRead = (R : Register) → StatesAreThePoints R → ListsAreInOrder R → IsTyped R
    → rows_read (tables_of R) ≡ Ok (rows_of R)

-- as in an opening register of rows that are so,
abbrev pub OpeningsAreTyped : Type 0
OpeningsAreTyped = (g : Grid) (staff : List StaffRow)
    → IsTrue (list_all is_typed_section g.sections) → IsTrue (list_all is_typed_point g.points)
    → IsTrue (list_all is_typed_employee staff) → IsTyped (opening g staff)

-- and after commands whose values are so;
abbrev pub CommandsKeepTyped : Type 0
CommandsKeepTyped = (R : Register) (q : Command) → IsTyped R → IsTrue (is_typed_command q)
    → IsTyped (after R q)

-- and as no other rows, whatever the values
abbrev pub TablesReadAsNoOthers : Type 0
TablesReadAsNoOthers = (R : Register) (rows : Rows) → StatesAreThePoints R → ListsAreInOrder R
    → rows_read (tables_of R) ≡ Ok rows → rows ≡ rows_of R

-- no point of the network is a jumper, as in every register that was kept in version 1
abbrev pub HasNoJumper : Register → Type 0
HasNoJumper R = IsTrue (list_all (λ p. not p.jumper) (Grid.points R.net))

-- THE TABLES OF VERSION 1, MOVED, are the tables of the register
abbrev pub TablesAreMoved : Type 0
TablesAreMoved = (R : Register) → HasNoJumper R
    → tables_moved (tables_by version_one R) ≡ tables_of R

-- THE TABLES OF THE EDITED REGISTER are the edited tables
abbrev pub TablesFollowEdits : Type 0
TablesFollowEdits = (R : Register) (edits : List Edit) → ListsAreInOrder R → StatesAreThePoints R
    → tables_of (after_edits edits R) ≡ tables_edited edits (tables_of R)

-- THE ROW OF A PLACE READS AS THE PLACE, where its texts are those of characters
abbrev pub PlacesAreRead : Type 0
PlacesAreRead = (p : Place) → IsTrue (is_utf8 p.id) → IsTrue (is_utf8 p.sum)
    → read_place (place_row p) ≡ Ok p
