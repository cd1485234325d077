-- A fence has what walks lead to, and its rows are those of the network there.
use Rattle.std.proofs.Common.{◌≡◌, ◌∙◌, ◌&&◌, ℕ, Bool, true, List, sym, ap, subst, filter}
use Rattle.std.proofs.lemmas.Bool.{and_from, and_parts}
use Rattle.clr_net.specs.Fence.{FenceRows, IsFenceByWalks, fence_has, fence_of, in_fence, touches}
use Rattle.clr_net.specs.Prelude.{Grid, IsNetwork, section_names, has_name, SectionRow}
use Rattle.clr_net.proofs.KeptRows.{has_name-kept}
use Rattle.clr_net.proofs.Walks.{fence_is_walks, reaches_from_walk, same_tests}

module _ (g : Grid) (net : IsNetwork g) (work : List ℕ) (cut : List (List ℕ)) where
  -- what is in the fence is a section of the network
  known_inside : (s : List ℕ) → in_fence g work cut s ≡ true → has_name (section_names g.sections) s ≡ true
  known_inside s inside =
      let (known, walk) = (fence_is_walks g net work cut s).0 inside in
      (reaches_from_walk g.points cut work (section_names g.sections) net.ends_known known s walk).0

  -- so the fence has exactly the sections that are in it
  has_inside : (s : List ℕ) → fence_has (fence_of g work cut) s ≡ in_fence g work cut s
  has_inside s = has_name-kept (λ (row : SectionRow). row.name) (in_fence g work cut) g.sections s
      ∙ same_tests (in_fence g work cut s && has_name (section_names g.sections) s) (in_fence g work cut s)
      (λ both. (and_parts (in_fence g work cut s) (has_name (section_names g.sections) s) both).0)
      (λ inside. and_from (in_fence g work cut s) (has_name (section_names g.sections) s) inside (known_inside s inside))

  fence_has_inside : fence_has (fence_of g work cut) ≡ in_fence g work cut
  fence_has_inside i s = has_inside s i

  pub fence_by_walks : (fence : FenceRows) → fence ≡ fence_of g work cut → IsFenceByWalks g work cut fence
  fence_by_walks fence is = subst (IsFenceByWalks g work cut) (sym is) (record {
    walks = λ s. (
      λ has. (fence_is_walks g net work cut s).0 (sym (has_inside s) ∙ has),
      λ led. has_inside s ∙ (fence_is_walks g net work cut s).1 led,
    );
    sections = ap (λ (inside : List ℕ → Bool). filter (λ (row : SectionRow). inside row.name) g.sections) (sym fence_has_inside);
    touching = ap (λ (inside : List ℕ → Bool). filter (touches inside) g.points) (sym fence_has_inside);
  })
