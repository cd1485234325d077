-- What names, clearances, holds, points, roles and steps are as JSON values.
use Rattle.std.specs.Prelude.{ℕ, List, Option, None, Some, codes, map}
use Rattle.serde_json.specs.Data.{Data, Members, array, member, no_members, null, number, object}
use Rattle.serde_json.specs.Data.{string, unsigned}
use Rattle.serde_json.specs.View.{items_of}
use Rattle.clr_rules.specs.Prelude.{Position, Step}
use Rattle.clr_net.specs.declared.point.Position.TheVariants.{Closed, Opened}
use Rattle.clr_staff.specs.declared.employee.Role.{Role}
use Rattle.clr_staff.specs.declared.employee.Role.TheVariants.{Charge, Field, Operator}
use Rattle.clr_order.specs.Step.{state_text, task}
use Rattle.clr_order.specs.Texts.{step_text}
use Rattle.clr_rules.specs.HoldKind.{hold_kind_text}
use Rattle.clr_rules.specs.Id.{Id, id_text}
use Rattle.clr_rules.specs.declared.hold.Hold.{Hold}
use Rattle.clr_rules.specs.declared.point_state.PointState.{PointState}

abbrev pub whole_data : ℕ → Data
whole_data n = number (unsigned n)

abbrev pub name_data : List ℕ → Data
name_data name = string name

abbrev pub id_data : Id → Data
id_data id = string (id_text id)

-- what there is, or null
abbrev pub optional_data : {A : Type 0} → (A → Data) → Option A → Data
optional_data seen None = null
optional_data seen (Some x) = seen x

abbrev pub list_data : {A : Type 0} → (A → Data) → List A → Data
list_data seen xs = array (items_of (map seen xs))

-- a key and its value, where there is one
abbrev pub member_if : List ℕ → Option Data → Members → Members
member_if key None others = others
member_if key (Some d) others = member key d others

abbrev pub position_text : Position → List ℕ
position_text Opened = codes "open"
position_text Closed = codes "closed"

abbrev pub role_text : Role → List ℕ
role_text Operator = codes "operator"
role_text Field = codes "field"
role_text Charge = codes "charge"

abbrev pub hold_data : Hold → Data
hold_data hold =
    object (member (codes "by") (id_data hold.id)
    (member (codes "kind") (string (hold_kind_text hold.kind))
    (member (codes "place") (name_data hold.place) no_members)))

abbrev pub point_data : PointState → Data
point_data state =
    object (member (codes "hand") (optional_data id_data state.hand)
    (member (codes "point") (name_data state.point)
    (member (codes "position") (string (position_text state.position)) no_members)))

abbrev pub step_data : Step → Data
step_data step =
    object (member (codes "reader") (optional_data name_data step.reader)
    (member (codes "state") (string (state_text step.state))
    (member (codes "text") (string (step_text (task step))) no_members)))
