-- How a refusal is written: its number, its name in capitals, and what it names.
use Rattle.std.specs.Prelude.{Option, None, Some, codes}
use Rattle.serde_json.specs.Data.{Data, member, no_members, object, string}
use Rattle.clr_rules.specs.HoldKind.{hold_kind_text}
use Rattle.clr_rules.specs.Refusal.{number_of, refusal_name}
use Rattle.clr_rules.specs.declared.refusal.Refusal.{Refusal}
use Rattle.clr_rules.specs.declared.refusal.Refusal.TheVariants.{InHand, Held, CrossesFence}
use Rattle.clr_rules.specs.declared.refusal.Refusal.TheVariants.{NotOnFence, StepsWrong}
use Rattle.clr_rules.specs.declared.refusal.Refusal.TheVariants.{SourceInside, UnknownPoint}
use Rattle.clr_text.specs.Json.{id_data, member_if, name_data, whole_data}

-- the clearance that a refusal names, if it names one
abbrev pub by_of : Refusal → Option Data
by_of (InHand by) = Some (id_data by)
by_of (Held by kind) = Some (id_data by)
by_of (CrossesFence by) = Some (id_data by)
by_of _ = None

-- the kind of hold
abbrev pub kind_of : Refusal → Option Data
kind_of (Held by kind) = Some (string (hold_kind_text kind))
kind_of _ = None

-- the switching point
abbrev pub point_of : Refusal → Option Data
point_of (NotOnFence point) = Some (name_data point)
point_of (StepsWrong point) = Some (name_data point)
point_of (UnknownPoint point) = Some (name_data point)
point_of _ = None

-- the section
abbrev pub section_of : Refusal → Option Data
section_of (SourceInside section) = Some (name_data section)
section_of _ = None

abbrev pub refusal_data : Refusal → Data
refusal_data r =
    object (member_if (codes "by") (by_of r)
    (member_if (codes "kind") (kind_of r) (member (codes "number") (whole_data (number_of r))
    (member_if (codes "point") (point_of r) (member (codes "refusal") (string (refusal_name r))
    (member (codes "reply") (string (codes "refused"))
    (member_if (codes "section") (section_of r) no_members)))))))
