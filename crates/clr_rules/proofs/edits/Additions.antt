-- What runs add to the network: jumpers, and sections without a source.
use Rattle.std.proofs.Common.{◌≡◌, ◌∙◌, ◌⊎◌, inl, inr, ⊎_elim, ℕ, suc, Option, Some, None, Bool, true, false, not, List, [], ◌∷◌, map, Contains, refl, sym, ap, subst, arith, IsPermutation}
use Rattle.clr_rules.proofs.Common.{AllByRecursion, and_parts, Grid, IsNetwork, point_names, unplaced, StaffRow, Answer, answer, answer_by_checks, first_refusal, known_of, new_jumper, checks}
use Rattle.clr_rules.proofs.Common.{edits_of, is_jumper, adds, adds_nothing, ListsAreInOrder, Edit, AddSection, AddPoint, Command, Kind, Refusal, Register, state_key, after_edit, after_edits, opening}
use Rattle.clr_rules.proofs.Common.{unplaced_net, after, after_all, Jumper, IsGood}
use Rattle.std.proofs.lemmas.List.Sorted.{Contains-permutation, IsPermutation-sym}
use Rattle.clr_net.specs.Additions.{with_point, with_section}
use Rattle.clr_net.proofs.Grown.{points_are_added, sections_are_added}
use Rattle.clr_net.proofs.KeptRows.{first_or_later}
use Rattle.clr_rules.specs.Edits.{fit, fits_edit, net_after}
use Rattle.clr_rules.specs.laws.Runs.{HasGrown, OnlyAdds}
use Rattle.clr_rules.proofs.edits.EditedLists.{edited-in_order, edited-network, not_false}
use Rattle.clr_rules.proofs.edits.Growing.{answers_fit, net_after-network, states_known}
use Rattle.clr_rules.proofs.edits.PlainEdits.{answers_plain}
use Rattle.clr_rules.proofs.edits.PutRows.{by_added}
use Rattle.clr_rules.proofs.edits.Runs.{kept_by_run}
use Rattle.clr_rules.proofs.good.Opening.{first_keys, opening_is_in_order, unplaced_is_network, unplaced_names}

-- ---- rows added

module _ {Row : Type 0} (row : Row) (old new : List Row) (moved : IsPermutation (row ∷ old) new) where
  later : (other : Row) → Contains old other → Contains (row ∷ old) other
  later other (k, within, here) = (suc k, omega arith, here)

  stays : (other : Row) → Contains old other → Contains new other
  stays other there = Contains-permutation (row ∷ old) new other moved (later other there)

  old_or_new : (P : Row → Type 0) → P row → (other : Row) → Contains new other → Contains old other ⊎ P other
  old_or_new P is other there = ⊎_elim (λ same. inr (subst P same is)) (λ before. inl before)
      (first_or_later row other old (Contains-permutation new (row ∷ old) other (IsPermutation-sym (row ∷ old) new moved) there))

same_grown : (g : Grid) → HasGrown g g
same_grown g = record { sections_stay = λ row there. there; points_stay = λ p there. there; new_sections = λ row there. inl there; new_points = λ p there. inl there }

grown_twice : (g h k : Grid) → HasGrown g h → HasGrown h k → HasGrown g k
grown_twice g h k first second = record {
  sections_stay = λ row there. second.sections_stay row (first.sections_stay row there);
  points_stay = λ p there. second.points_stay p (first.points_stay p there);
  new_sections = λ row there. ⊎_elim (λ before. first.new_sections row before) (λ new. inr new) (second.new_sections row there);
  new_points = λ p there. ⊎_elim (λ before. first.new_points p before) (λ new. inr new) (second.new_points p there);
}

-- ---- edits that add jumpers alone

abbrev IsJumpers : Edit → Type 0
IsJumpers (AddSection row) = row.source ≡ false
IsJumpers (AddPoint p) = p.jumper ≡ true
IsJumpers _ = Unit {0}

plain_is : (edit : Edit) → adds edit ≡ false → IsJumpers edit
plain_is (AddSection row) plain = absurd cc
plain_is (AddPoint p) plain = absurd cc
plain_is _ plain = tt

plain_are : (edits : List Edit) → adds_nothing edits ≡ true → AllByRecursion IsJumpers edits
plain_are [] plain = tt
plain_are (edit ∷ edits) plain =
    let (one, others) = and_parts (not (adds edit)) (adds_nothing edits) plain in (plain_is edit (not_false (adds edit) one), plain_are edits others)

jumper_settled : (R : Register) (q : Command) (point from to : List ℕ) (lockable remote : Bool) → q.kind ≡ Jumper point from to lockable remote
    → AllByRecursion IsJumpers (Answer.edits (answer R q))
jumper_settled R q point from to lockable remote is = at (first_refusal (checks (known_of R q) R q.caller q.moment q.kind))
  where
    made : AllByRecursion IsJumpers (edits_of (known_of R q).greatest R q.caller q.moment q.kind)
    made = rw is (by_added (AllByRecursion IsJumpers) R (new_jumper point from to lockable remote) (refl, tt) (refl, (refl, tt)))

    at : (found : Option Refusal) → AllByRecursion IsJumpers (Answer.edits (answer_by_checks (known_of R q) R q found))
    at None = made
    at (Some refusal) = tt

answers_are : (R : Register) (q : Command) (kind : Kind) → q.kind ≡ kind → AllByRecursion IsJumpers (Answer.edits (answer R q))
answers_are R q (Jumper point from to lockable remote) is = jumper_settled R q point from to lockable remote is
answers_are R q _ is = plain_are (Answer.edits (answer R q)) (answers_plain R q (ap is_jumper is))

-- ---- what an edit adds

net_grown : (edit : Edit) (g : Grid) → IsNetwork g → fits_edit g edit ≡ true → IsJumpers edit → HasGrown g (net_after edit g)
net_grown (AddSection row) g net fits new =
    let moved = (sections_are_added g net row fits).all_sections in record {
      sections_stay = stays row g.sections (Grid.sections (with_section row g)) moved;
      points_stay = λ p there. there;
      new_sections = old_or_new row g.sections (Grid.sections (with_section row g)) moved (λ row. row.source ≡ false) new;
      new_points = λ p there. inl there;
    }
net_grown (AddPoint p) g net fits new =
    let moved = (points_are_added g net (unplaced p) fits).all_points in record {
      sections_stay = λ row there. there;
      points_stay = stays (unplaced p) g.points (Grid.points (with_point (unplaced p) g)) moved;
      new_sections = λ row there. inl there;
      new_points = old_or_new (unplaced p) g.points (Grid.points (with_point (unplaced p) g)) moved (λ p. p.jumper ≡ true) new;
    }
net_grown _ g net fits new = same_grown g

states_alike : (edit : Edit) (R : Register) → ListsAreInOrder R → map state_key R.states ≡ point_names (Grid.points R.net)
    → map state_key (Register.states (after_edit edit R)) ≡ point_names (Grid.points (Register.net (after_edit edit R)))
states_alike edit R ordered known = at (adds edit) refl
  where
    at : (b : Bool) → adds edit ≡ b → map state_key (Register.states (after_edit edit R)) ≡ point_names (Grid.points (Register.net (after_edit edit R)))
    at true grows = states_known edit R.net R.states grows known
    at false plain = let kept = edited-network edit R plain ordered in kept.same_points ∙ known ∙ ap (λ (g : Grid). point_names g.points) (sym kept.same_net)

-- ---- and a run

-- the order of the lists, and what was added
record Keeps (g : Grid) (staff : List StaffRow) (R : Register) : Type 0 where
  pub in_order : ListsAreInOrder R
  pub adds : OnlyAdds g staff R

edits_add : (g : Grid) (staff : List StaffRow) (edits : List Edit) (R : Register) → Keeps g staff R → fit R.net edits ≡ true → AllByRecursion IsJumpers edits
    → Keeps g staff (after_edits edits R)
unfolding after_edits fit
edits_add g staff [] R h fits jumpers = h
edits_add g staff (edit ∷ edits) R h fits jumpers =
    let (one, others) = and_parts (fits_edit R.net edit) (fit (net_after edit R.net) edits) fits in
    edits_add g staff edits (after_edit edit R) (record {
      in_order = edited-in_order edit R h.in_order;
      adds = record {
        same_staff = h.adds.same_staff;
        network = net_after-network edit R.net h.adds.network one;
        has_grown = grown_twice (unplaced_net g) R.net (net_after edit R.net) h.adds.has_grown (net_grown edit R.net h.adds.network one jumpers.0);
        same_points = states_alike edit R h.in_order h.adds.same_points;
      };
    }) others jumpers.1

keeps_more : (g : Grid) (staff : List StaffRow) (R : Register) (q : Command) → Keeps g staff R → Keeps g staff (after R q)
keeps_more g staff R q h = edits_add g staff (Answer.edits (answer R q)) R h (answers_fit R q h.adds.network) (answers_are R q q.kind refl)

-- a command adds to the network of a good register, and takes nothing from it
pub network_grows : (R : Register) (q : Command) → IsGood R → HasGrown R.net (Register.net (after R q))
network_grows R q good =
    let kept = keeps_more R.net R.staff R q (record {
      in_order = good.said.in_order;
      adds = record {
        same_staff = refl;
        network = good.said.network;
        has_grown = subst (λ (g : Grid). HasGrown g R.net) (sym good.besides.placed) (same_grown R.net);
        same_points = good.besides.points_known.states;
      };
    }) in
    subst (λ (g : Grid). HasGrown g (Register.net (after R q))) good.besides.placed kept.adds.has_grown

pub runs_only_add : (g : Grid) (staff : List StaffRow) → IsNetwork g → (commands : List Command) → OnlyAdds g staff (after_all (opening g staff) commands)
runs_only_add g staff net commands =
    let kept = kept_by_run (Keeps g staff) (keeps_more g staff) (opening g staff) commands (record {
      in_order = opening_is_in_order g staff net;
      adds = record {
        same_staff = refl;
        network = unplaced_is_network g net;
        has_grown = same_grown (unplaced_net g);
        same_points = first_keys g.points ∙ sym (unplaced_names g.points);
      };
    }) in
    kept.adds
