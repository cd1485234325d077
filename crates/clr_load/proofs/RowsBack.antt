-- What a row of a table reads as: the row of the register that was written, where its values are of their types.
use Rattle.std.proofs.Common.{◌≡◌, Bool, true, false, cond, ◌&&◌, nat_le, List, [], ◌∷◌, ◌++◌, map, Option, Some, None, Result, Ok, Err, refl, ap}
use Rattle.std.specs.List.{list_all}
use Rattle.sqlite.specs.Order.{Row}
use Rattle.clr_net.specs.Name.{is_name}
use Rattle.clr_net.specs.NameText.{read_name}
use Rattle.clr_net.specs.declared.point.PointRow.{PointRow}
use Rattle.clr_net.specs.declared.point.Position.{Position}
use Rattle.clr_net.specs.declared.section.SectionRow.{SectionRow}
use Rattle.clr_net.specs.Results.{◌>>=◌}
use Rattle.clr_staff.specs.declared.employee.StaffRow.{StaffRow}
use Rattle.clr_rules.specs.HoldKind.{hold_kind_named, hold_kind_text}
use Rattle.clr_rules.specs.Id.{Id, is_clearance_number, is_id}
use Rattle.clr_rules.specs.Moment.{is_moment}
use Rattle.clr_rules.specs.Phase.{phase_named, phase_text}
use Rattle.clr_rules.specs.declared.hold.Hold.{Hold}
use Rattle.clr_rules.specs.declared.point_state.PointState.{PointState}
use Rattle.clr_rules.specs.declared.record.Record.{Record}
use Rattle.clr_rules.specs.declared.step_row.StepRow.{StepRow}
use Rattle.clr_load.specs.RowsRead.{PointRead, all_read, flag_at, marked, name_if_read, position_at, read_clearance, read_hold, read_placed, read_point, read_section, read_staff, read_step}
use Rattle.clr_load.specs.Tables.{clearance_row, flag_value, hold_row, jumper_row, point_row, position_value, section_row, staff_row, step_row}
use Rattle.clr_load.specs.TypedRows.{is_id_or_none, is_name_or_none, is_typed_employee, is_typed_hold, is_typed_point, is_typed_record, is_typed_section, is_typed_step}
use Rattle.clr_load.specs.Words.{action_name, action_named, role_word, role_worded, state_name, state_named}
use Rattle.clr_load.specs.declared.table_name.TableName.{TableName}
use Rattle.clr_load.specs.declared.table_name.TableName.TheVariants as table
use Rattle.clr_load.proofs.ColumnsRead.{action_back, flag_back, kind_back, name_is_not_read, name_is_read, name_or_none_is_not_read, name_or_none_is_read, phase_back, position_back, role_back, state_back}

-- ---- sections

pub section_reads : (s : SectionRow) → read_section (section_row s) ≡ cond (is_typed_section s) (Ok s) (Err table.Section)
unfolding read_section
section_reads s = at (is_name s.name) refl
  where
    at : (b : Bool) → is_name s.name ≡ b → read_section (section_row s) ≡ cond (is_name s.name) (Ok s) (Err table.Section)
    at true is = let name = name_is_read table.Section s.name is in let flag = flag_back table.Section s.source in rw (name, is, flag) refl
    at false isnt = let name = name_is_not_read table.Section s.name isnt in rw (name, isnt) refl

-- ---- points

-- a point with its state, as it reads
abbrev pub point_said : PointRow → PointState → PointRead
point_said p state = record {
  point = record p { position = state.position };
  state = record { point = p.name; position = state.position; hand = state.hand };
}

-- the columns of version 1, in a table with more after them
module _ (t : TableName) (more : Row) (p : PointRow) (position : Position) where
  abbrev with_hand : Option Id → PointState
  with_hand hand = record { point = p.name; position = position; hand = hand }

  pub placed_reads : (hand : Option Id) → read_placed t (point_row p (with_hand hand) ++ more)
      ≡ cond (is_typed_point p && is_id_or_none hand) (Ok (marked false (point_said p (with_hand hand)))) (Err t)
  unfolding read_placed
  placed_reads hand = at (is_name p.name) refl (is_name p.from_end) refl (is_name p.to_end) refl hand
    where
      lockable : flag_at t 0 (flag_value p.lockable ∷ []) ≡ Ok p.lockable
      lockable = flag_back t p.lockable

      remote : flag_at t 0 (flag_value p.remote ∷ []) ≡ Ok p.remote
      remote = flag_back t p.remote

      stands : position_at t 0 (position_value position ∷ []) ≡ Ok position
      stands = position_back t position

      at : (a : Bool) → is_name p.name ≡ a → (b : Bool) → is_name p.from_end ≡ b → (c : Bool) → is_name p.to_end ≡ c → (hand : Option Id)
          → read_placed t (point_row p (with_hand hand) ++ more) ≡ cond (is_typed_point p && is_id_or_none hand) (Ok (marked false (point_said p (with_hand hand)))) (Err t)
      at false e b f c g hand = let name = name_is_not_read t p.name e in rw (name, e) refl
      at true e false f c g hand =
          let name = name_is_read t p.name e in let from_end = name_is_not_read t p.from_end f in rw (name, from_end, e, f) refl
      at true e true f false g hand =
          let name = name_is_read t p.name e in let from_end = name_is_read t p.from_end f in
          let to_end = name_is_not_read t p.to_end g in rw (name, from_end, to_end, e, f, g) refl
      at true e true f true g None =
          let name = name_is_read t p.name e in let from_end = name_is_read t p.from_end f in
          let to_end = name_is_read t p.to_end g in rw (name, from_end, to_end, lockable, remote, stands, e, f, g) refl
      at true e true f true g (Some c) = in_hand (is_name c.requester) refl (is_clearance_number c.number) refl
        where
          name : name_if_read t (read_name p.name) ≡ Ok p.name
          name = name_is_read t p.name e

          from_end : name_if_read t (read_name p.from_end) ≡ Ok p.from_end
          from_end = name_is_read t p.from_end f

          to_end : name_if_read t (read_name p.to_end) ≡ Ok p.to_end
          to_end = name_is_read t p.to_end g

          in_hand : (d : Bool) → is_name c.requester ≡ d → (n : Bool) → is_clearance_number c.number ≡ n
              → read_placed t (point_row p (with_hand (Some c)) ++ more) ≡ cond (is_typed_point p && is_id c) (Ok (marked false (point_said p (with_hand (Some c))))) (Err t)
          in_hand false h n k = let requester = name_is_not_read t c.requester h in rw (name, from_end, to_end, lockable, remote, stands, requester, e, f, g, h) refl
          in_hand true h false k = let requester = name_is_read t c.requester h in rw (name, from_end, to_end, lockable, remote, stands, requester, e, f, g, h, k) refl
          in_hand true h true k = let requester = name_is_read t c.requester h in rw (name, from_end, to_end, lockable, remote, stands, requester, e, f, g, h, k) refl

pub point_reads : (p : PointRow) (state : PointState)
    → read_point (jumper_row p state) ≡ cond (is_typed_point p && is_id_or_none state.hand) (Ok (point_said p state)) (Err table.NetworkPoint)
unfolding read_point
point_reads p state =
    let placed = placed_reads table.NetworkPoint (flag_value p.jumper ∷ []) p state.position state.hand in
    rw placed (at (is_typed_point p && is_id_or_none state.hand) (flag_at table.NetworkPoint 8 (jumper_row p state)) (mark state.hand))
  where
    mark : (hand : Option Id) → flag_at table.NetworkPoint 8 (jumper_row p (record state { hand = hand })) ≡ Ok p.jumper
    mark None = flag_back table.NetworkPoint p.jumper
    mark (Some c) = flag_back table.NetworkPoint p.jumper

    at : (b : Bool) (flag : Result Bool TableName) → flag ≡ Ok p.jumper
        → (cond b (Ok (marked false (point_said p state))) (Err table.NetworkPoint) >>= λ q. flag >>= λ jumper. Ok (marked jumper q)) ≡ cond b (Ok (point_said p state)) (Err table.NetworkPoint)
    at true flag is = rw is refl
    at false flag is = refl

-- ---- staff

pub employee_reads : (e : StaffRow) → read_staff (staff_row e) ≡ cond (is_typed_employee e) (Ok e) (Err table.Staff)
unfolding read_staff
employee_reads e = at (is_name e.name) refl (is_name_or_none e.supervisor) refl
  where
    role : role_worded (role_word e.role) ≡ Some e.role
    role = role_back e.role

    at : (a : Bool) → is_name e.name ≡ a → (b : Bool) → is_name_or_none e.supervisor ≡ b → read_staff (staff_row e) ≡ cond (is_typed_employee e) (Ok e) (Err table.Staff)
    at false f b g = let name = name_is_not_read table.Staff e.name f in rw (name, f) refl
    at true f false g =
        let name = name_is_read table.Staff e.name f in let supervisor = name_or_none_is_not_read table.Staff e.supervisor g in rw (name, role, supervisor, f, g) refl
    at true f true g =
        let name = name_is_read table.Staff e.name f in let supervisor = name_or_none_is_read table.Staff e.supervisor g in rw (name, role, supervisor, f, g) refl

-- ---- records

pub record_reads : (r : Record) → read_clearance (clearance_row r) ≡ cond (is_typed_record r) (Ok r) (Err table.Clearance)
unfolding read_clearance
record_reads r = at (is_name r.id.requester) refl (is_clearance_number r.id.number) refl (is_name r.holder) refl (is_name_or_none r.work) refl (is_moment r.last) refl
  where
    phase : phase_named (phase_text r.phase) ≡ Some r.phase
    phase = phase_back r.phase

    at : (a : Bool) → is_name r.id.requester ≡ a → (b : Bool) → is_clearance_number r.id.number ≡ b → (c : Bool) → is_name r.holder ≡ c
        → (d : Bool) → is_name_or_none r.work ≡ d → (e : Bool) → is_moment r.last ≡ e → read_clearance (clearance_row r) ≡ cond (is_typed_record r) (Ok r) (Err table.Clearance)
    at false f b g c h d k e l = let requester = name_is_not_read table.Clearance r.id.requester f in rw (requester, f) refl
    at true f false g c h d k e l = let requester = name_is_read table.Clearance r.id.requester f in rw (requester, f, g) refl
    at true f true g false h d k e l =
        let requester = name_is_read table.Clearance r.id.requester f in let holder = name_is_not_read table.Clearance r.holder h in rw (requester, f, g, holder, h) refl
    at true f true g true h false k e l =
        let requester = name_is_read table.Clearance r.id.requester f in let holder = name_is_read table.Clearance r.holder h in
        let work = name_or_none_is_not_read table.Clearance r.work k in rw (requester, f, g, holder, h, work, k) refl
    at true f true g true h true k false l =
        let requester = name_is_read table.Clearance r.id.requester f in let holder = name_is_read table.Clearance r.holder h in
        let work = name_or_none_is_read table.Clearance r.work k in rw (requester, f, g, holder, h, work, k, phase, l) refl
    at true f true g true h true k true l =
        let requester = name_is_read table.Clearance r.id.requester f in let holder = name_is_read table.Clearance r.holder h in
        let work = name_or_none_is_read table.Clearance r.work k in rw (requester, f, g, holder, h, work, k, phase, l) refl

-- ---- steps

pub step_reads : (row : StepRow) → read_step (step_row row) ≡ cond (is_typed_step row) (Ok row) (Err table.Step)
unfolding read_step
step_reads row = at (is_name row.id.requester) refl (is_clearance_number row.id.number) refl (nat_le row.round 255) refl (nat_le row.ordinal 65535) refl
    (is_name row.step.point) refl (is_name_or_none row.step.reader) refl
  where
    action : action_named (action_name row.step.action) ≡ Some row.step.action
    action = action_back row.step.action

    state : state_named (state_name row.step.state) ≡ Some row.step.state
    state = state_back row.step.state

    at : (a : Bool) → is_name row.id.requester ≡ a → (b : Bool) → is_clearance_number row.id.number ≡ b → (c : Bool) → nat_le row.round 255 ≡ c → (d : Bool) → nat_le row.ordinal 65535 ≡ d
        → (e : Bool) → is_name row.step.point ≡ e → (f : Bool) → is_name_or_none row.step.reader ≡ f → read_step (step_row row) ≡ cond (is_typed_step row) (Ok row) (Err table.Step)
    at false g b h c k d l e m f n = let requester = name_is_not_read table.Step row.id.requester g in rw (requester, g) refl
    at true g false h c k d l e m f n = let requester = name_is_read table.Step row.id.requester g in rw (requester, g, h) refl
    at true g true h false k d l e m f n = let requester = name_is_read table.Step row.id.requester g in rw (requester, g, h, k) refl
    at true g true h true k false l e m f n = let requester = name_is_read table.Step row.id.requester g in rw (requester, g, h, k, l) refl
    at true g true h true k true l false m f n =
        let requester = name_is_read table.Step row.id.requester g in let point = name_is_not_read table.Step row.step.point m in rw (requester, g, h, k, l, action, point, m) refl
    at true g true h true k true l true m false n =
        let requester = name_is_read table.Step row.id.requester g in let point = name_is_read table.Step row.step.point m in
        let reader = name_or_none_is_not_read table.Step row.step.reader n in rw (requester, g, h, k, l, action, point, m, state, reader, n) refl
    at true g true h true k true l true m true n =
        let requester = name_is_read table.Step row.id.requester g in let point = name_is_read table.Step row.step.point m in
        let reader = name_or_none_is_read table.Step row.step.reader n in rw (requester, g, h, k, l, action, point, m, state, reader, n) refl

-- ---- holds

pub hold_reads : (h : Hold) → read_hold (hold_row h) ≡ cond (is_typed_hold h) (Ok h) (Err table.Hold)
unfolding read_hold
hold_reads h = at (is_name h.place) refl (is_name h.id.requester) refl (is_clearance_number h.id.number) refl
  where
    kind : hold_kind_named (hold_kind_text h.kind) ≡ Some h.kind
    kind = kind_back h.kind

    at : (a : Bool) → is_name h.place ≡ a → (b : Bool) → is_name h.id.requester ≡ b → (c : Bool) → is_clearance_number h.id.number ≡ c
        → read_hold (hold_row h) ≡ cond (is_typed_hold h) (Ok h) (Err table.Hold)
    at false e b f c g = let place = name_is_not_read table.Hold h.place e in rw (kind, place, e) refl
    at true e false f c g =
        let place = name_is_read table.Hold h.place e in let requester = name_is_not_read table.Hold h.id.requester f in rw (kind, place, e, requester, f) refl
    at true e true f false g =
        let place = name_is_read table.Hold h.place e in let requester = name_is_read table.Hold h.id.requester f in rw (kind, place, e, requester, f, g) refl
    at true e true f true g =
        let place = name_is_read table.Hold h.place e in let requester = name_is_read table.Hold h.id.requester f in rw (kind, place, e, requester, f, g) refl

-- ---- whole tables

pub all_back : {X A : Type 0} (read : Row → Result A TableName) (row_of : X → Row) (value : X → A) (typed : X → Bool) (t : TableName)
    → ((x : X) → read (row_of x) ≡ cond (typed x) (Ok (value x)) (Err t)) → (xs : List X)
    → all_read read (map row_of xs) ≡ cond (list_all typed xs) (Ok (map value xs)) (Err t)
unfolding all_read
all_back read row_of value typed t each [] = refl
all_back read row_of value typed t each (x ∷ xs) = at (typed x) (each x) (list_all typed xs) (all_back read row_of value typed t each xs)
  where
    at : (a : Bool) → read (row_of x) ≡ cond a (Ok (value x)) (Err t) → (b : Bool) → all_read read (map row_of xs) ≡ cond b (Ok (map value xs)) (Err t)
        → all_read read (row_of x ∷ map row_of xs) ≡ cond (a && b) (Ok (value x ∷ map value xs)) (Err t)
    at true e true f = rw (e, f) refl
    at true e false f = rw (e, f) refl
    at false e b f = rw e refl

pub map-same : {X : Type 0} (xs : List X) → map (λ x. x) xs ≡ xs
map-same [] = refl
map-same (x ∷ xs) = ap (λ ys. x ∷ ys) (map-same xs)
