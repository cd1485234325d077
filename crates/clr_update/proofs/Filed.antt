-- The register that the files make, with what stays: a network, whose points have a state each, in nobody's hand.
use Rattle.std.proofs.Common.{◌≡◌, ◌∙◌, ⊎_elim, true, List, [], ◌∷◌, ◌++◌, map, Contains, None, refl, sym, ap}
use Rattle.clr_rules.proofs.edits.EditedLists.{edited-in_order}
use Rattle.clr_rules.proofs.edits.Growing.{fit-unplaced, fitting_edits_keep_networks, net_after-unplaced, states_known}
use Rattle.clr_rules.proofs.good.Opening.{first_keys, opening_is_in_order, unplaced_is_network, unplaced_names, unplaced_once}
use Rattle.clr_rules.specs.Edits.{after_edit, fit, net_after, states_after}
use Rattle.clr_rules.specs.laws.Edits.{adds}
use Rattle.clr_update.proofs.Common.{AddPoint, AddSection, Edit, Grid, IsNetwork, IsRead, ListsAreInOrder, PointRow, PointState, Register, SectionRow, Update, after_edits, and_parts, filed}
use Rattle.clr_update.proofs.Common.{false≢true, first_state, joined, kept, list_all, mapped_from, member-with_row, name_cmp, nat_list_cmp_total, opening, point_names, state_key, staying, unplaced, unplaced_net}

-- ---- edits that add

added_sections : (rows : List SectionRow) (rest : List Edit) → list_all adds rest ≡ true → list_all adds (map AddSection rows ++ rest) ≡ true
added_sections [] rest all = all
added_sections (row ∷ rows) rest all = added_sections rows rest all

added_points : (points : List PointRow) → list_all adds (map AddPoint points) ≡ true
added_points [] = refl
added_points (p ∷ points) = added_points points

-- what is so of a register whose network was added to
record Adds (R : Register) : Type 0 where
  pub in_order : ListsAreInOrder R
  pub known : map state_key R.states ≡ point_names (Grid.points R.net)
  pub placed : unplaced_net R.net ≡ R.net
  pub free : (state : PointState) → Contains R.states state → state.hand ≡ None

free_after : (R : Register) → ListsAreInOrder R → (edit : Edit) → adds edit ≡ true → ((state : PointState) → Contains R.states state → state.hand ≡ None)
    → (state : PointState) → Contains (states_after edit R.states) state → state.hand ≡ None
free_after R ordered (AddSection row) grows free state there = free state there
free_after R ordered (AddPoint p) grows free state there = ⊎_elim
    (λ same. ap (λ (s : PointState). s.hand) (sym same)) (λ before. free state before)
    (member-with_row name_cmp state_key nat_list_cmp_total (first_state (unplaced p)) state R.states ordered.states there)
free_after R ordered _ grows free state there = absurd (false≢true grows)

adds_one : (R : Register) (edit : Edit) → adds edit ≡ true → Adds R → Adds (after_edit edit R)
adds_one R edit grows h = record {
  in_order = edited-in_order edit R h.in_order;
  known = states_known edit R.net R.states grows h.known;
  placed = net_after-unplaced edit R.net ∙ ap (net_after edit) h.placed;
  free = free_after R h.in_order edit grows h.free;
}

adds_all : (edits : List Edit) (R : Register) → list_all adds edits ≡ true → Adds R → Adds (after_edits edits R)
unfolding after_edits
adds_all [] R all h = h
adds_all (edit ∷ edits) R all h =
    let (one, others) = and_parts (adds edit) (list_all adds edits) all in
    adds_all edits (after_edit edit R) others (adds_one R edit one h)

-- ---- the files

-- what is so of the register of the files
pub record IsFiled (F : Register) : Type 0 where
  pub network : IsNetwork F.net
  pub known : map state_key F.states ≡ point_names (Grid.points F.net)
  pub placed : unplaced_net F.net ≡ F.net
  pub free : (state : PointState) → Contains F.states state → state.hand ≡ None

module _ (u : Update) (read : IsRead u) where
  opened : Adds (opening u.net u.staff)
  opened = record {
    in_order = opening_is_in_order u.net u.staff read.network;
    known = first_keys (Grid.points u.net) ∙ sym (unplaced_names (Grid.points u.net));
    placed = unplaced_once u.net;
    free = λ state there.
        let (p, in_points, same) = mapped_from first_state (Grid.points u.net) state there in
        ap (λ (s : PointState). s.hand) (sym same);
  }

  pub is_filed : (R : Register) → fit u.net (kept R u) ≡ true → IsFiled (filed R u)
  unfolding filed
  is_filed R fits =
      let h = adds_all (kept R u) (opening u.net u.staff) (added_sections (joined R u) (map AddPoint (staying R u)) (added_points (staying R u))) opened in
      record {
        network = fitting_edits_keep_networks (opening u.net u.staff) (kept R u) (unplaced_is_network u.net read.network) (fit-unplaced (kept R u) u.net ∙ fits);
        known = h.known;
        placed = h.placed;
        free = h.free;
      }
