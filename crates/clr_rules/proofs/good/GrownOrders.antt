-- An order that was sound stays so in a network with a section or a point more that leaves its fence as it was.
use Rattle.std.proofs.Common.{◌≡◌, ◌∙◌, ℕ, Bool, true, false, cond, List, find, filter, Contains, Option, Some, None, IsTrue, refl, sym, ap, subst, is_eq}
use Rattle.clr_rules.proofs.Common.{texts_ties, both_ways, false_from_ne_true, false≢true, nat_list_cmp_total, nat_list_eq_equiv, FenceRows, fence_of, in_fence, touches, Grid, IsNetwork, point_names}
use Rattle.clr_rules.proofs.Common.{section_names, name_cmp, same_name, has_name, PointRow, SectionRow, Task, actions_at, equal, same_text, member-row_of, row_of, with_row, kept_there}
use Rattle.std.proofs.lemmas.List.Elements.{All-contains, All-contains_itself, All-weaker}
use Rattle.clr_net.specs.Additions.{fits_point, fits_section, with_named, with_point, with_section}
use Rattle.clr_net.proofs.Grown.{additions_keep_fences, point_fits}
use Rattle.clr_order.specs.Isolating.{IsSoundOrder, IsSoundWithin, is_border_point, is_border_row, needed_at, needed_at_row, touching_row}
use Rattle.clr_shelf.proofs.Reading.{row_of-with_other}
use Rattle.clr_rules.proofs.lists.NamedRows.{has_name-row, row_named}

abbrev name_of : PointRow → List ℕ
name_of q = q.name

-- a row found by its name is the row of that key
found_as_read : (q : List ℕ) (rows : List PointRow) → find (λ (row : PointRow). same_name q row.name) rows ≡ row_of name_cmp name_of q rows
unfolding row_of
found_as_read q rows = λ i. find (λ (row : PointRow). (nat_list_eq_equiv.symm q row.name ∙ texts_ties row.name q) i) rows

-- a row of another name is read as before
other_row : (q : List ℕ) (p : PointRow) (rows : List PointRow) → is_eq (name_cmp p.name q) ≡ false
    → row_of name_cmp name_of q (with_named name_of p rows) ≡ row_of name_cmp name_of q rows
unfolding with_named with_row
other_row q p rows differs = row_of-with_other name_cmp name_of nat_list_cmp_total q p rows differs

-- a fence, and a point of a new name that touches it too, or does not
module _ (fence : FenceRows) (p : PointRow) (new : has_name (point_names fence.touching) p.name ≡ false) (b : Bool) where
  abbrev grown : FenceRows
  grown = record fence { touching = cond b (with_named name_of p fence.touching) fence.touching }

  read_alike : (q : List ℕ) → is_eq (name_cmp p.name q) ≡ false → (b : Bool)
      → row_of name_cmp name_of q (cond b (with_named name_of p fence.touching) fence.touching) ≡ row_of name_cmp name_of q fence.touching
  read_alike q differs true = other_row q p fence.touching differs
  read_alike q differs false = refl

  row_alike : (q : List ℕ) → is_eq (name_cmp p.name q) ≡ false → touching_row grown q ≡ touching_row fence q
  row_alike q differs = found_as_read q grown.touching ∙ read_alike q differs b ∙ sym (found_as_read q fence.touching)

  -- a point on the border has a row, so it is not the new one
  is_old : (q : List ℕ) → IsTrue (is_border_point fence q) → is_eq (name_cmp p.name q) ≡ false
  is_old q border = at (touching_row fence q) refl border
    where
      at : (found : Option PointRow) → touching_row fence q ≡ found → IsTrue (is_border_row fence found) → is_eq (name_cmp p.name q) ≡ false
      at None is never = absurd (false≢true never)
      at (Some row) is here =
          let (there, tied) = member-row_of name_cmp name_of nat_list_cmp_total q row fence.touching (sym (found_as_read q fence.touching) ∙ is) in
          false_from_ne_true _ (λ same. both_ways (has_name (point_names fence.touching) p.name) new
          (ap (has_name (point_names fence.touching)) (same_text p.name q (equal (name_cmp p.name q) same) ∙ sym (same_text row.name q (equal (name_cmp row.name q) tied)))
          ∙ has_name-row name_of fence.touching row there))

  border_alike : (q : List ℕ) → IsTrue (is_border_point fence q) → IsTrue (is_border_point grown q)
  border_alike q border = subst IsTrue (λ i. is_border_row fence (sym (row_alike q (is_old q border)) i)) border

  -- the order stays sound
  pub sound_beside : (points : List (List ℕ)) (tasks : List Task) → IsSoundWithin fence points tasks → IsSoundWithin grown points tasks
  sound_beside points tasks sound = record {
    some_point = sound.some_point;
    points_fit = sound.points_fit;
    steps_fit = sound.steps_fit;
    once = sound.once;
    no_source = sound.no_source;
    on_border = All-weaker (λ q. IsTrue (is_border_point fence q)) (λ q. IsTrue (is_border_point grown q)) border_alike points sound.on_border;
    isolated = All-weaker (Contains points) (λ q. actions_at tasks q ≡ needed_at grown q) (λ q there.
        All-contains (λ q. actions_at tasks q ≡ needed_at fence q) points q sound.isolated there
        ∙ sym (ap needed_at_row (row_alike q (is_old q (All-contains (λ q. IsTrue (is_border_point fence q)) points q sound.on_border there)))))
        points (All-contains_itself points);
    nowhere_else = sound.nowhere_else;
  }

-- rows of which some are kept have no name that none has
none_kept : (q : PointRow → Bool) (rows : List PointRow) (name : List ℕ) → has_name (point_names rows) name ≡ false
    → has_name (point_names (filter q rows)) name ≡ false
none_kept q rows name new = false_from_ne_true _ (λ there.
    let (row, kept, same) = row_named name_of (filter q rows) name there in
    both_ways (has_name (point_names rows) name) new (ap (has_name (point_names rows)) same ∙ has_name-row name_of rows row (kept_there q rows row kept).0))

module _ (g : Grid) (net : IsNetwork g) (work : List ℕ) (known : has_name (section_names g.sections) work ≡ true) (points : List (List ℕ)) (tasks : List Task) where
  pub order_beside_section : (row : SectionRow) → IsTrue (fits_section g row) → IsSoundOrder g work points tasks → IsSoundOrder (with_section row g) work points tasks
  order_beside_section row fits sound =
      subst (λ (fence : FenceRows). IsSoundWithin fence points tasks) (sym (additions_keep_fences.section g net row fits work points known).fence) sound

  pub order_beside_point : (p : PointRow) → IsTrue (fits_point g p) → in_fence g work points p.from_end ≡ in_fence g work points p.to_end
      → IsSoundOrder g work points tasks → IsSoundOrder (with_point p g) work points tasks
  order_beside_point p fits alike sound =
      subst (λ (fence : FenceRows). IsSoundWithin fence points tasks) (sym (additions_keep_fences.point g net p fits work points known alike).fence)
      (sound_beside (fence_of g work points) p (none_kept (touches (in_fence g work points)) g.points p.name (point_fits g p fits).new)
      (touches (in_fence g work points) p) points tasks sound)
