-- The statements, as texts.
use Rattle.std.specs.Prelude.{ℕ, List, codes}
use Rattle.clr_load.specs.declared.table_name.TableName.{TableName}
use Rattle.clr_load.specs.declared.table_name.TableName.TheVariants.{Meta, Section, Point, Staff}
use Rattle.clr_load.specs.declared.table_name.TableName.TheVariants.{Clearance, Step, Hold}
use Rattle.clr_load.specs.declared.table_name.TableName.TheVariants.{NetworkPoint, Journal}

abbrev pub create_sql : TableName → List ℕ
create_sql Meta = codes "CREATE TABLE meta (name TEXT NOT NULL, value INTEGER NOT NULL, PRIMARY KEY (name)) STRICT"
create_sql Section = codes
    "CREATE TABLE section (name TEXT NOT NULL, source INTEGER NOT NULL, PRIMARY KEY (name)) STRICT"
create_sql Point =
    codes "CREATE TABLE point (name TEXT NOT NULL, from_end TEXT NOT NULL, to_end TEXT NOT NULL, lockable INTEGER NOT NULL, remote INTEGER NOT NULL, position INTEGER NOT NULL, hand_requester TEXT, hand_number INTEGER, PRIMARY KEY (name)) STRICT"
create_sql Staff = codes "CREATE TABLE staff (name TEXT NOT NULL, role TEXT NOT NULL, supervisor TEXT, PRIMARY KEY (name)) STRICT"
create_sql Clearance =
    codes "CREATE TABLE clearance (requester TEXT NOT NULL, number INTEGER NOT NULL, holder TEXT NOT NULL, work TEXT, phase TEXT NOT NULL, last_at INTEGER NOT NULL, PRIMARY KEY (requester, number)) STRICT"
create_sql Step =
    codes "CREATE TABLE step (requester TEXT NOT NULL, number INTEGER NOT NULL, round INTEGER NOT NULL, ordinal INTEGER NOT NULL, action TEXT NOT NULL, point TEXT NOT NULL, state TEXT NOT NULL, reader TEXT, PRIMARY KEY (requester, number, round, ordinal)) STRICT"
create_sql Hold =
    codes "CREATE TABLE hold (kind TEXT NOT NULL, place TEXT NOT NULL, requester TEXT NOT NULL, number INTEGER NOT NULL, PRIMARY KEY (kind, place, requester, number)) STRICT"
create_sql NetworkPoint =
    codes "CREATE TABLE network_point (name TEXT NOT NULL, from_end TEXT NOT NULL, to_end TEXT NOT NULL, lockable INTEGER NOT NULL, remote INTEGER NOT NULL, position INTEGER NOT NULL, hand_requester TEXT, hand_number INTEGER, jumper INTEGER NOT NULL, PRIMARY KEY (name)) STRICT"
create_sql Journal = codes
    "CREATE TABLE journal (id TEXT NOT NULL, number INTEGER NOT NULL, sum TEXT NOT NULL, PRIMARY KEY (id)) STRICT"

abbrev pub insert_sql : TableName → List ℕ
insert_sql Meta = codes "INSERT INTO meta VALUES (?1, ?2)"
insert_sql Section = codes "INSERT INTO section VALUES (?1, ?2)"
insert_sql Point = codes "INSERT INTO point VALUES (?1, ?2, ?3, ?4, ?5, ?6, ?7, ?8)"
insert_sql Staff = codes "INSERT INTO staff VALUES (?1, ?2, ?3)"
insert_sql Clearance = codes "INSERT INTO clearance VALUES (?1, ?2, ?3, ?4, ?5, ?6)"
insert_sql Step = codes "INSERT INTO step VALUES (?1, ?2, ?3, ?4, ?5, ?6, ?7, ?8)"
insert_sql Hold = codes "INSERT INTO hold VALUES (?1, ?2, ?3, ?4)"
insert_sql NetworkPoint =
    codes "INSERT INTO network_point VALUES (?1, ?2, ?3, ?4, ?5, ?6, ?7, ?8, ?9)"
insert_sql Journal = codes "INSERT INTO journal VALUES (?1, ?2, ?3)"

-- the row of a key taken away
abbrev pub delete_sql : TableName → List ℕ
delete_sql Meta = codes "DELETE FROM meta WHERE name = ?1"
delete_sql Section = codes "DELETE FROM section WHERE name = ?1"
delete_sql Point = codes "DELETE FROM point WHERE name = ?1"
delete_sql Staff = codes "DELETE FROM staff WHERE name = ?1"
delete_sql Clearance = codes "DELETE FROM clearance WHERE requester = ?1 AND number = ?2"
delete_sql Step = codes "DELETE FROM step WHERE requester = ?1 AND number = ?2 AND round = ?3 AND ordinal = ?4"
delete_sql Hold = codes "DELETE FROM hold WHERE kind = ?1 AND place = ?2 AND requester = ?3 AND number = ?4"
delete_sql NetworkPoint = codes "DELETE FROM network_point WHERE name = ?1"
delete_sql Journal = codes "DELETE FROM journal WHERE id = ?1"

-- the row of a key replaced by one that has it
abbrev pub replace_sql : TableName → List ℕ
replace_sql Meta = codes "UPDATE meta SET name = ?1, value = ?2 WHERE name = ?1"
replace_sql Section = codes "UPDATE section SET name = ?1, source = ?2 WHERE name = ?1"
replace_sql Point =
    codes "UPDATE point SET name = ?1, from_end = ?2, to_end = ?3, lockable = ?4, remote = ?5, position = ?6, hand_requester = ?7, hand_number = ?8 WHERE name = ?1"
replace_sql Staff = codes "UPDATE staff SET name = ?1, role = ?2, supervisor = ?3 WHERE name = ?1"
replace_sql Clearance =
    codes "UPDATE clearance SET requester = ?1, number = ?2, holder = ?3, work = ?4, phase = ?5, last_at = ?6 WHERE requester = ?1 AND number = ?2"
replace_sql Step =
    codes "UPDATE step SET requester = ?1, number = ?2, round = ?3, ordinal = ?4, action = ?5, point = ?6, state = ?7, reader = ?8 WHERE requester = ?1 AND number = ?2 AND round = ?3 AND ordinal = ?4"
replace_sql Hold =
    codes "UPDATE hold SET kind = ?1, place = ?2, requester = ?3, number = ?4 WHERE kind = ?1 AND place = ?2 AND requester = ?3 AND number = ?4"
replace_sql NetworkPoint =
    codes "UPDATE network_point SET name = ?1, from_end = ?2, to_end = ?3, lockable = ?4, remote = ?5, position = ?6, hand_requester = ?7, hand_number = ?8, jumper = ?9 WHERE name = ?1"
replace_sql Journal = codes "UPDATE journal SET id = ?1, number = ?2, sum = ?3 WHERE id = ?1"

-- all rows, in the order of the whole key
abbrev pub select_sql : TableName → List ℕ
select_sql Meta = codes "SELECT name, value FROM meta ORDER BY name"
select_sql Section = codes "SELECT name, source FROM section ORDER BY name"
select_sql Point =
    codes "SELECT name, from_end, to_end, lockable, remote, position, hand_requester, hand_number FROM point ORDER BY name"
select_sql Staff = codes "SELECT name, role, supervisor FROM staff ORDER BY name"
select_sql Clearance = codes "SELECT requester, number, holder, work, phase, last_at FROM clearance ORDER BY requester, number"
select_sql Step =
    codes "SELECT requester, number, round, ordinal, action, point, state, reader FROM step ORDER BY requester, number, round, ordinal"
select_sql Hold = codes "SELECT kind, place, requester, number FROM hold ORDER BY kind, place, requester, number"
select_sql NetworkPoint =
    codes "SELECT name, from_end, to_end, lockable, remote, position, hand_requester, hand_number, jumper FROM network_point ORDER BY name"
select_sql Journal = codes "SELECT id, number, sum FROM journal ORDER BY id"

abbrev pub set_position_sql : List ℕ
set_position_sql = codes "UPDATE network_point SET position = ?2 WHERE name = ?1"

abbrev pub set_hand_sql : List ℕ
set_hand_sql =
    codes "UPDATE network_point SET hand_requester = ?2, hand_number = ?3 WHERE name = ?1"

-- each point of version 1 put among those of version 2, as no jumper
abbrev pub copy_sql : List ℕ
copy_sql = codes "INSERT INTO network_point SELECT name, from_end, to_end, lockable, remote, position, hand_requester, hand_number, 0 FROM point"

-- all points of version 1 taken away
abbrev pub empty_sql : List ℕ
empty_sql = codes "DELETE FROM point"
