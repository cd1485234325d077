-- The network that grows by what stays, and the register that the files make with it.
use Rattle.std.proofs.Common.{◌≡◌, ◌∙◌, Bool, true, false, ◌&&◌, List, [], ◌∷◌, ◌++◌, map, refl, sym, ap}
use Rattle.clr_net.specs.Grid.{Grid, unplaced}
use Rattle.clr_net.specs.declared.point.PointRow.{PointRow}
use Rattle.clr_net.specs.declared.section.SectionRow.{SectionRow}
use Rattle.clr_staff.specs.declared.employee.StaffRow.{StaffRow}
use Rattle.clr_rules.proofs.edits.Growing.{map-with_named, named_is_put, point_added}
use Rattle.clr_rules.specs.Edits.{after_edit, after_edits, fit, fits_edit, net_after}
use Rattle.clr_rules.specs.Register.{Register, first_state, opening, unplaced_net}
use Rattle.clr_rules.specs.States.{state_key}
use Rattle.clr_rules.specs.declared.change.Edit.{Edit}
use Rattle.clr_rules.specs.declared.change.Edit.TheVariants.{AddPoint, AddSection}
use Rattle.clr_update.specs.Changes.{changes}
use Rattle.clr_update.specs.Update.{Update, filed, joined, kept, kept_state, staying, updated}
use Rattle.clr_changes.specs.Growing.{added, grown}
use Rattle.clr_changes.specs.Outcome.{IsAfter, IsMadeOf, register_after}
use Rattle.clr_changes.specs.declared.outcome.After.{After}

and_first : (x y z : Bool) → (x && (y && z)) ≡ ((x && y) && z)
and_first true y z = refl
and_first false y z = refl

-- what fits and what is made of two lists of edits
pub fit-append : (first rest : List Edit) (g : Grid) → fit g (first ++ rest) ≡ (fit g first && fit (grown first g) rest)
unfolding fit grown
fit-append [] rest g = refl
fit-append (edit ∷ edits) rest g =
    ap (λ more. fits_edit g edit && more) (fit-append edits rest (net_after edit g))
    ∙ and_first (fits_edit g edit) (fit (net_after edit g) edits) (fit (grown edits (net_after edit g)) rest)

pub grown-append : (first rest : List Edit) (g : Grid) → grown (first ++ rest) g ≡ grown rest (grown first g)
unfolding grown
grown-append [] rest g = refl
grown-append (edit ∷ edits) rest g = grown-append edits rest (net_after edit g)

edits-append : (first rest : List Edit) (R : Register) → after_edits (first ++ rest) R ≡ after_edits rest (after_edits first R)
unfolding after_edits
edits-append [] rest R = refl
edits-append (edit ∷ edits) rest R = edits-append edits rest (after_edit edit R)

-- one edit more is made, which fits
pub one_more : (edit : Edit) (rest : List Edit) (g h : Grid) → fits_edit g edit ≡ true → h ≡ net_after edit g
    → (fit h rest ≡ fit g (edit ∷ rest)) × (grown rest h ≡ grown (edit ∷ rest) g)
unfolding fit grown
one_more edit rest g h fits is = (ap (λ n. fit n rest) is ∙ ap (λ b. b && fit (net_after edit g) rest) (sym fits), ap (grown rest) is)

-- or it does not fit
pub not_more : (edit : Edit) (rest : List Edit) (g : Grid) → fits_edit g edit ≡ false → fit g (edit ∷ rest) ≡ false
unfolding fit
not_more edit rest g fits = ap (λ b. b && fit (net_after edit g) rest) fits

-- nothing is added
pub none_more : (g : Grid) → (fit g [] ≡ true) × (grown [] g ≡ g)
unfolding fit grown
none_more g = (refl, refl)

-- ---- an opening register to which rows are added is that of the network with these rows

point_opens : (p : PointRow) (g : Grid) (staff : List StaffRow) → after_edit (AddPoint p) (opening g staff) ≡ opening (net_after (AddPoint p) g) staff
point_opens p g staff =
    let net = sym (point_added (unplaced p) g) in
    let states = sym (named_is_put state_key (first_state (unplaced p)) (map first_state g.points))
    ∙ sym (map-with_named first_state (λ (q : PointRow). q.name) state_key (λ _. refl) (unplaced p) g.points) in
    λ i. record { net = net i; staff = staff; states = states i; records = []; steps = []; holds = [] }

sections_open : (rows : List SectionRow) (g : Grid) (staff : List StaffRow)
    → after_edits (map AddSection rows) (opening g staff) ≡ opening (grown (map AddSection rows) g) staff
unfolding after_edits grown
sections_open [] g staff = refl
sections_open (row ∷ rows) g staff = sections_open rows (net_after (AddSection row) g) staff

points_open : (points : List PointRow) (g : Grid) (staff : List StaffRow)
    → after_edits (map AddPoint points) (opening g staff) ≡ opening (grown (map AddPoint points) g) staff
unfolding after_edits grown
points_open [] g staff = refl
points_open (p ∷ points) g staff =
    ap (after_edits (map AddPoint points)) (point_opens p g staff) ∙ points_open points (net_after (AddPoint p) g) staff

filed_is : (R : Register) (u : Update) → filed R u ≡ opening (grown (kept R u) u.net) u.staff
unfolding filed
filed_is R u =
    let sections = map AddSection (joined R u) in
    let points = map AddPoint (staying R u) in
    edits-append sections points (opening u.net u.staff)
    ∙ ap (after_edits points) (sections_open (joined R u) u.net u.staff)
    ∙ points_open (staying R u) (grown sections u.net) u.staff
    ∙ ap (λ (g : Grid). opening g u.staff) (sym (grown-append sections points u.net))

-- what is made of this network and the staff is what is after the update
pub made_is_after : (R : Register) (u : Update) (after : After) → IsMadeOf R (grown (kept R u) u.net) u.staff after → IsAfter R u after
made_is_after R u after made = record { register = register; changes = made.changes ∙ ap (changes R) register }
  where
    net : unplaced_net after.network ≡ Register.net (updated R u)
    net = ap unplaced_net made.network ∙ sym (ap (λ (F : Register). F.net) (filed_is R u))

    states : after.states.items ≡ Register.states (updated R u)
    states = made.states ∙ sym (ap (λ (F : Register). map (kept_state R.states) F.states) (filed_is R u))

    register : register_after R after ≡ updated R u
    register = λ i. record R { net = net i; staff = made.staff i; states = states i }
