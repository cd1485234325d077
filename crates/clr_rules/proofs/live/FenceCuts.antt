-- A fence depends on which points it is cut at, and neither on their order nor on repeats.
use Rattle.std.proofs.Common.{◌≡◌, ◌∙◌, ℕ, zero, suc, Bool, true, false, ◌&&◌, ◌||◌, not, List, [], ◌∷◌, length, Some, refl, sym}
use Rattle.clr_rules.proofs.Common.{list_any, and_parts, nat_list_eq_equiv, in_fence, reaches, Grid, IsNetwork, section_names, same_name, has_name, PointRow, SectionRow, work_fence, first_of_each}
use Rattle.clr_net.proofs.Walks.{fence_is_walks, reaches_from_walk}
use Rattle.clr_rules.proofs.lists.NamedRows.{has_name-filter, has_name-kept}

-- of names each once there are the same
pub has_name-once : (names : List (List ℕ)) (name : List ℕ) → has_name (first_of_each names) name ≡ has_name names name
unfolding first_of_each
has_name-once [] name = refl
has_name-once (p ∷ names) name =
    rw (has_name-filter (λ q. not (same_name p q)) (first_of_each names) name, has_name-once names name, nat_list_eq_equiv.symm p name) (at (same_name name p) (has_name names name))
  where
    at : (b c : Bool) → (b || (not b && c)) ≡ (b || c)
    at true c = refl
    at false c = refl

module _ (g : Grid) (work : List ℕ) where
  -- a section in a fence is a section of the network
  pub known_in_fence : IsNetwork g → (cut : List (List ℕ)) (s : List ℕ) → in_fence g work cut s ≡ true → has_name (section_names g.sections) s ≡ true
  known_in_fence net cut s inside =
      let (known, walk) = (fence_is_walks g net work cut s).0 inside in
      (reaches_from_walk g.points cut work (section_names g.sections) net.ends_known known s walk).0

  -- the names of a fence's sections
  pub named_in_fence : (cut : List (List ℕ)) (s : List ℕ) → has_name (work_fence g (Some work) cut) s ≡ (in_fence g work cut s && has_name (section_names g.sections) s)
  named_in_fence cut s = has_name-kept (λ (row : SectionRow). row.name) (in_fence g work cut) g.sections s

  pub in_fence_from_named : (cut : List (List ℕ)) (s : List ℕ) → has_name (work_fence g (Some work) cut) s ≡ true → in_fence g work cut s ≡ true
  in_fence_from_named cut s named = (and_parts (in_fence g work cut s) (has_name (section_names g.sections) s) (sym (named_in_fence cut s) ∙ named)).0

  pub named_from_in_fence : IsNetwork g → (cut : List (List ℕ)) (s : List ℕ) → in_fence g work cut s ≡ true → has_name (work_fence g (Some work) cut) s ≡ true
  named_from_in_fence net cut s inside = rw (named_in_fence cut s, inside, known_in_fence net cut s inside) refl

  module _ (cut same : List (List ℕ)) (alike : (p : List ℕ) → has_name cut p ≡ has_name same p) where
    reaches_alike : (n : ℕ) (s : List ℕ) → reaches g.points cut work n s ≡ reaches g.points same work n s
    unfolding reaches
    reaches_alike zero s = refl
    reaches_alike (suc n) s =
        λ i. reaches_alike n s i || list_any (λ (p : PointRow). not (alike p.name i) && ((reaches_alike n p.from_end i && same_name p.to_end s) || (reaches_alike n p.to_end i && same_name p.from_end s))) g.points

    -- cuts at the same points make one fence
    pub in_fence_alike : (s : List ℕ) → in_fence g work cut s ≡ in_fence g work same s
    unfolding in_fence
    in_fence_alike s = rw (reaches_alike (length g.sections) s) refl
