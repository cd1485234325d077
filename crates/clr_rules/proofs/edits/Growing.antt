-- What edits add to a network: positions aside, with the points that have states, and within the limits.
use Rattle.std.proofs.Common.{◌≡◌, ◌∙◌, ℕ, Bool, true, false, cond, ◌&&◌, not, nat_lt, List, [], ◌∷◌, ◌++◌, map, filter, Option, Some, None, refl, sym, ap, is_gt, is_lt}
use Rattle.clr_rules.proofs.Common.{and_from, and_parts, length-map, map-append, name_cmp, has_name, PointRow, with_row, Answer, answer, answer_by_checks, known_of, new_jumper, checks, adds}
use Rattle.clr_rules.proofs.Common.{adds_nothing, refusal_of, Edit, AddSection, AddPoint, Command, Kind, PointState, Refusal, Register, state_key, after_edit, after_edits, first_state, unplaced_net}
use Rattle.clr_rules.proofs.Common.{Jumper}
use Rattle.clr_net.specs.Additions.{with_named, with_point}
use Rattle.clr_net.specs.Grid.{Grid, IsNetwork, has_ends, has_one_section, point_names, section_names, unplaced}
use Rattle.clr_net.proofs.Grown.{points_are_added, sections_are_added}
use Rattle.clr_rules.specs.laws.Additions.{AnswersFit, FittingEditsKeepNetworks, PositionsAreNoPart}
use Rattle.clr_rules.specs.Edits.{fit, fits_edit, net_after, states_after}
use Rattle.clr_rules.proofs.edits.AddedEdits.{added_edits_fit, jumper_can}
use Rattle.clr_rules.proofs.edits.EditedLists.{not_false}
use Rattle.clr_rules.proofs.edits.Passing.{all_pass}
use Rattle.clr_rules.proofs.edits.PlainEdits.{answers_plain}
use Rattle.clr_rules.proofs.good.Opening.{unplaced_names}

-- ---- rows put by name

-- a network puts a row by its name as a shelf puts it by its key
pub named_is_put : {Row : Type 0} (name_of : Row → List ℕ) (row : Row) (rows : List Row) → with_named name_of row rows ≡ with_row name_cmp name_of row rows
unfolding with_named with_row
named_is_put name_of row rows = refl

module _ {A B : Type 0} (f : A → B) (name_of : A → List ℕ) (named : B → List ℕ) (same : (x : A) → named (f x) ≡ name_of x) where
  map-filtered : (test : List ℕ → Bool) (xs : List A) → map f (filter (λ x. test (name_of x)) xs) ≡ filter (λ y. test (named y)) (map f xs)
  map-filtered test [] = refl
  map-filtered test (x ∷ xs) = at (test (name_of x)) (ap test (same x)) (map-filtered test xs)
    where
      at : (b : Bool) → test (named (f x)) ≡ b → map f (filter (λ x. test (name_of x)) xs) ≡ filter (λ y. test (named y)) (map f xs)
          → map f (cond b (x ∷ filter (λ x. test (name_of x)) xs) (filter (λ x. test (name_of x)) xs)) ≡ filter (λ y. test (named y)) (map f (x ∷ xs))
      at true is more = rw is (ap (λ ys. f x ∷ ys) more)
      at false is more = rw is more

  -- rows that are mapped keep the place of one that is put, where they keep their names
  pub map-with_named : (x : A) (xs : List A) → map f (with_named name_of x xs) ≡ with_named named (f x) (map f xs)
  unfolding with_named
  map-with_named x xs =
      map-append f (filter (λ other. is_lt (name_cmp (name_of other) (name_of x))) xs) (x ∷ filter (λ other. is_gt (name_cmp (name_of other) (name_of x))) xs)
      ∙ (λ i. map-filtered (λ n. is_lt (name_cmp n (name_of x))) xs i ++ f x ∷ map-filtered (λ n. is_gt (name_cmp n (name_of x))) xs i)
      ∙ ap (λ n. filter (λ y. is_lt (name_cmp (named y) n)) (map f xs) ++ f x ∷ filter (λ y. is_gt (name_cmp (named y) n)) (map f xs)) (sym (same x))

-- ---- positions aside

pub point_added : (p : PointRow) (g : Grid) → unplaced_net (with_point p g) ≡ with_point (unplaced p) (unplaced_net g)
point_added p g =
    ap (λ points. record { sections = g.sections; points = points }) (map-with_named unplaced (λ (q : PointRow). q.name) (λ q. q.name) (λ _. refl) p g.points)

pub net_after-unplaced : (edit : Edit) (g : Grid) → unplaced_net (net_after edit g) ≡ net_after edit (unplaced_net g)
net_after-unplaced (AddSection row) g = refl
net_after-unplaced (AddPoint p) g = point_added (unplaced p) g
net_after-unplaced _ g = refl

pub fits_edit-unplaced : (edit : Edit) (g : Grid) → fits_edit (unplaced_net g) edit ≡ fits_edit g edit
fits_edit-unplaced (AddPoint p) g = λ i.
    not (has_name (unplaced_names g.points i) p.name)
    && (nat_lt (length-map g.points unplaced i) 10000 && (has_ends (section_names g.sections) p && not (has_one_section p)))
fits_edit-unplaced _ g = refl

pub fit-unplaced : (edits : List Edit) (g : Grid) → fit (unplaced_net g) edits ≡ fit g edits
unfolding fit
fit-unplaced [] g = refl
fit-unplaced (edit ∷ edits) g =
    let rest = ap (λ h. fit h edits) (sym (net_after-unplaced edit g)) ∙ fit-unplaced edits (net_after edit g) in
    λ i. fits_edit-unplaced edit g i && rest i

-- what a book does to its network, with the positions that its rows have, an edit does to the register's
pub positions_are_no_part : PositionsAreNoPart
positions_are_no_part = record {
  section = λ row g. refl;
  point = point_added;
  one_fits = fits_edit-unplaced;
  all_fit = fit-unplaced;
}

-- ---- the points that have states

-- a state comes with each point, and no other
pub states_known : (edit : Edit) (g : Grid) (states : List PointState) → adds edit ≡ true → map state_key states ≡ point_names g.points
    → map state_key (states_after edit states) ≡ point_names (Grid.points (net_after edit g))
states_known (AddSection row) g states grows known = known
states_known (AddPoint p) g states grows known =
    ap (map state_key) (sym (named_is_put state_key (first_state (unplaced p)) states))
    ∙ map-with_named state_key state_key (λ (n : List ℕ). n) (λ _. refl) (first_state (unplaced p)) states
    ∙ ap (with_named (λ (n : List ℕ). n) p.name) known
    ∙ sym (map-with_named (λ (q : PointRow). q.name) (λ q. q.name) (λ (n : List ℕ). n) (λ _. refl) (unplaced p) g.points)
states_known _ g states grows known = absurd cc

-- ---- within the limits

plain_net : (edit : Edit) (g : Grid) → adds edit ≡ false → net_after edit g ≡ g
plain_net (AddSection row) g plain = absurd cc
plain_net (AddPoint p) g plain = absurd cc
plain_net _ g plain = refl

plain_fits : (edit : Edit) (g : Grid) → adds edit ≡ false → fits_edit g edit ≡ true
plain_fits (AddSection row) g plain = absurd cc
plain_fits (AddPoint p) g plain = absurd cc
plain_fits _ g plain = refl

-- edits that add nothing can be made to any network
pub plain_fit : (edits : List Edit) (g : Grid) → adds_nothing edits ≡ true → fit g edits ≡ true
unfolding fit
plain_fit [] g plain = refl
plain_fit (edit ∷ edits) g plain =
    let (one, others) = and_parts (not (adds edit)) (adds_nothing edits) plain in
    let first = not_false (adds edit) one in
    and_from (fits_edit g edit) (fit (net_after edit g) edits) (plain_fits edit g first) (rw (plain_net edit g first) (plain_fit edits g others))

-- the edits of a jumper fit by its checks
module _ (R : Register) (net : IsNetwork R.net) (by : List ℕ) (at : ℕ) (point from to : List ℕ) (lockable remote : Bool) where
  abbrev jumper : Command
  jumper = record { caller = by; moment = at; kind = Jumper point from to lockable remote }

  jumper_settled : (found : Option Refusal) → refusal_of R jumper ≡ found → fit R.net (Answer.edits (answer_by_checks (known_of R jumper) R jumper found)) ≡ true
  unfolding fit
  jumper_settled None passed = added_edits_fit R net (new_jumper point from to lockable remote)
      (jumper_can (known_of R jumper) R by at point from to lockable remote (all_pass (checks (known_of R jumper) R by at (Jumper point from to lockable remote)) passed))
  jumper_settled (Some refusal) is = refl

-- and the other commands add nothing
answers_of_kind_fit : (R : Register) → IsNetwork R.net → (by : List ℕ) (at : ℕ) (kind : Kind)
    → fit R.net (Answer.edits (answer R (record { caller = by; moment = at; kind = kind }))) ≡ true
answers_of_kind_fit R net by at (Jumper point from to lockable remote) = jumper_settled R net by at point from to lockable remote _ refl
answers_of_kind_fit R net by at kind =
    let q : Command = record { caller = by; moment = at; kind = kind } in plain_fit (Answer.edits (answer R q)) R.net (answers_plain R q refl)

pub answers_fit : AnswersFit
answers_fit R q net = answers_of_kind_fit R net q.caller q.moment q.kind

pub net_after-network : (edit : Edit) (g : Grid) → IsNetwork g → fits_edit g edit ≡ true → IsNetwork (net_after edit g)
net_after-network (AddSection row) g net fits = let added = sections_are_added g net row fits in added.network
net_after-network (AddPoint p) g net fits = let added = points_are_added g net (unplaced p) fits in added.network
net_after-network _ g net fits = net

-- edits that fit keep the network one
pub fitting_edits_keep_networks : FittingEditsKeepNetworks
unfolding fit after_edits
fitting_edits_keep_networks R [] net fits = net
fitting_edits_keep_networks R (edit ∷ edits) net fits =
    let (one, others) = and_parts (fits_edit R.net edit) (fit (net_after edit R.net) edits) fits in
    fitting_edits_keep_networks (after_edit edit R) edits (net_after-network edit R.net net one) others
