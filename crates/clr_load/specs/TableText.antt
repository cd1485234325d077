-- The names of the tables.
use Rattle.std.specs.Prelude.{ℕ, List, codes}
use Rattle.clr_load.specs.declared.table_name.TableName.{TableName}
use Rattle.clr_load.specs.declared.table_name.TableName.TheVariants.{Meta, Section, Point, Staff}
use Rattle.clr_load.specs.declared.table_name.TableName.TheVariants.{Clearance, Step, Hold}
use Rattle.clr_load.specs.declared.table_name.TableName.TheVariants.{NetworkPoint, Journal}

abbrev pub table_text : TableName → List ℕ
table_text Meta = codes "meta"
table_text Section = codes "section"
table_text Point = codes "point"
table_text Staff = codes "staff"
table_text Clearance = codes "clearance"
table_text Step = codes "step"
table_text Hold = codes "hold"
table_text NetworkPoint = codes "network_point"
table_text Journal = codes "journal"
