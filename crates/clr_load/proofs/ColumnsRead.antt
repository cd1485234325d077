-- What the columns of a row read as: the value that was written, where it is of its type.
use Rattle.std.proofs.Common.{◌≡◌, ℕ, ◌<◌, Bool, true, false, nat_eq, nat_lt, List, [], ◌∷◌, length, Option, Some, None, Ok, Err, refl, sym, arith}
use Rattle.std.proofs.lemmas.Bool.{both_ways, eqb-false, false≢true, le-ltb, ltb-false, ne_eqb}
use Rattle.clr_net.specs.Name.{is_name}
use Rattle.clr_net.specs.NameText.{bad_byte, read_name}
use Rattle.clr_net.proofs.Names.{is_name_from, name_has_none, name_parts}
use Rattle.clr_net.specs.declared.point.Position.{Position}
use Rattle.clr_net.specs.declared.point.Position.TheVariants.{Opened, Closed}
use Rattle.clr_staff.specs.declared.employee.Role.{Role}
use Rattle.clr_staff.specs.declared.employee.Role.TheVariants.{Operator, Field, Charge}
use Rattle.clr_order.specs.declared.action.Action.{Action}
use Rattle.clr_order.specs.declared.action.Action.TheVariants as actions
use Rattle.clr_order.specs.declared.step.StepState.{StepState}
use Rattle.clr_order.specs.declared.step.StepState.TheVariants.{Waiting, Instructed, Repeated, Done}
use Rattle.clr_rules.specs.HoldKind.{hold_kind_named, hold_kind_text}
use Rattle.clr_rules.specs.Phase.{phase_named, phase_text}
use Rattle.clr_rules.specs.declared.hold_kind.HoldKind.{HoldKind}
use Rattle.clr_rules.specs.declared.hold_kind.HoldKind.TheVariants.{HeldOpen, Block, Control, Tag, Tested, Ground, Crew}
use Rattle.clr_rules.specs.declared.phase.Phase.{Phase}
use Rattle.clr_rules.specs.declared.phase.Phase.TheVariants as phases
use Rattle.clr_load.specs.RowsRead.{flag_at, name_if_read, name_unless_null, position_at}
use Rattle.clr_load.specs.Tables.{flag_value, name_or_null, position_value}
use Rattle.clr_load.specs.TypedRows.{is_name_or_none}
use Rattle.clr_load.specs.Words.{action_name, action_named, role_word, role_worded, state_name, state_named}
use Rattle.clr_load.specs.declared.table_name.TableName.{TableName}

-- ---- names

pub name_is_read : (t : TableName) (s : List ℕ) → is_name s ≡ true → name_if_read t (read_name s) ≡ Ok s
name_is_read t s is =
    let (some, few, bytes) = name_parts s is in
    let not_empty : nat_eq (length s) 0 ≡ false = ne_eqb (length s) 0 (λ none. let h : 0 < length s = some in omega (arith, none)) in
    rw (not_empty, le-ltb 24 (length s) few, name_has_none s is) refl

pub name_is_not_read : (t : TableName) (s : List ℕ) → is_name s ≡ false → name_if_read t (read_name s) ≡ Err t
name_is_not_read t s isnt = at (nat_eq (length s) 0) refl (nat_lt 24 (length s)) refl (bad_byte s) refl
  where
    at : (a : Bool) → nat_eq (length s) 0 ≡ a → (b : Bool) → nat_lt 24 (length s) ≡ b → (o : Option ℕ) → bad_byte s ≡ o → name_if_read t (read_name s) ≡ Err t
    at true e b f o g = rw e refl
    at false e true f o g = rw (e, f) refl
    at false e false f (Some place) g = rw (e, f, g) refl
    at false e false f None g =
        let differs = eqb-false (length s) 0 e in
        absurd (both_ways (is_name s) isnt (is_name_from s (omega (arith, differs)) (ltb-false 24 (length s) f) g))

-- a name, or none
pub name_or_none_is_read : (t : TableName) (o : Option (List ℕ)) → is_name_or_none o ≡ true → name_unless_null t (name_or_null o) ≡ Ok o
name_or_none_is_read t None is = refl
name_or_none_is_read t (Some s) is = let name = name_is_read t s is in rw name refl

pub name_or_none_is_not_read : (t : TableName) (o : Option (List ℕ)) → is_name_or_none o ≡ false → name_unless_null t (name_or_null o) ≡ Err t
name_or_none_is_not_read t None isnt = absurd (false≢true (sym isnt))
name_or_none_is_not_read t (Some s) isnt = let name = name_is_not_read t s isnt in rw name refl

-- ---- numbers

pub flag_back : (t : TableName) (b : Bool) → flag_at t 0 (flag_value b ∷ []) ≡ Ok b
flag_back t true = refl
flag_back t false = refl

pub position_back : (t : TableName) (position : Position) → position_at t 0 (position_value position ∷ []) ≡ Ok position
position_back t Opened = refl
position_back t Closed = refl

-- ---- words

pub role_back : (role : Role) → role_worded (role_word role) ≡ Some role
role_back Operator = refl
role_back Field = refl
role_back Charge = refl

pub action_back : (action : Action) → action_named (action_name action) ≡ Some action
action_back actions.Open = refl
action_back actions.Block = refl
action_back actions.Control = refl
action_back actions.Tag = refl
action_back actions.Untag = refl
action_back actions.Uncontrol = refl
action_back actions.Unblock = refl
action_back actions.Close = refl
action_back actions.Leave = refl

pub state_back : (state : StepState) → state_named (state_name state) ≡ Some state
state_back Waiting = refl
state_back Instructed = refl
state_back Repeated = refl
state_back Done = refl

pub phase_back : (phase : Phase) → phase_named (phase_text phase) ≡ Some phase
phase_back phases.Requested = refl
phase_back phases.Ordered = refl
phase_back phases.Granted = refl
phase_back phases.Released = refl
phase_back phases.Restoring = refl
phase_back phases.Switching = refl
phase_back phases.Closed = refl

pub kind_back : (kind : HoldKind) → hold_kind_named (hold_kind_text kind) ≡ Some kind
kind_back HeldOpen = refl
kind_back Block = refl
kind_back Control = refl
kind_back Tag = refl
kind_back Tested = refl
kind_back Ground = refl
kind_back Crew = refl
