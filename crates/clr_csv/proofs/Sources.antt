-- The sections that a source reaches: a source that an earlier one reaches leads to nothing more.
use Rattle.std.proofs.Common.{◌≡◌, ◌∙◌, ◌<◌, ◌+◌, ◌++◌, ◌&&◌, ◌||◌, Bool, true, false, ℕ, List, [], length, take, get_or, ap, refl, sym}
use Rattle.std.specs.List.{list_any}
use Rattle.std.proofs.lemmas.Bool.{and_from, and_parts}
use Rattle.std.proofs.lemmas.List.Folds.{list_any-append, list_any_more}
use Rattle.clr_net.specs.Fence.{FenceRows, IsFenceByWalks, fence_has, in_fence}
use Rattle.clr_net.specs.Grid.{Grid, IsNetwork, section_names}
use Rattle.clr_net.specs.Name.{same_name}
use Rattle.clr_net.specs.Names.{has_name}
use Rattle.clr_net.specs.declared.section.SectionRow.{SectionRow}
use Rattle.clr_net.proofs.Walks.{any_from, fence_is_closed, fence_is_least, fence_is_walks, same_tests, some_from}

-- whether one of these sections is a source that reaches s
abbrev pub reached_from : Grid → List SectionRow → List ℕ → Bool
reached_from g rows s = list_any (λ row. row.source && in_fence g row.name [] s) rows

-- a fence that is known by its walks
has_in_fence : (g : Grid) → IsNetwork g → (w : List ℕ) (f : FenceRows) → IsFenceByWalks g w [] f → (s : List ℕ) → fence_has f s ≡ in_fence g w [] s
has_in_fence g net w f by s =
    same_tests (fence_has f s) (in_fence g w [] s)
    (λ e. (fence_is_walks g net w [] s).1 ((by.walks s).0 e)) (λ e. (by.walks s).1 ((fence_is_walks g net w [] s).0 e))

-- what a section that is reached leads to is reached
passed_on : (g : Grid) → IsNetwork g → (rows : List SectionRow) (w s : List ℕ) → reached_from g rows w ≡ true → in_fence g w [] s ≡ true → reached_from g rows s ≡ true
passed_on g net rows w s reached inside =
    let (r, there, e) = some_from (λ row. row.source && in_fence g row.name [] w) rows reached in
    let (source, at_w) = and_parts r.source (in_fence g r.name [] w) e in
    any_from (λ row. row.source && in_fence g row.name [] s) rows r there
    (and_from r.source (in_fence g r.name [] s) source (fence_is_least g net w [] (in_fence g r.name []) at_w (fence_is_closed g net r.name []).1 s inside))

-- a test that holds only where another one does adds nothing to it
adds_nothing : (x y : Bool) → (y ≡ true → x ≡ true) → (x || y) ≡ x
adds_nothing true y only = refl
adds_nothing false true only = sym (only refl)
adds_nothing false false only = refl

module _ (g : Grid) (net : IsNetwork g) (rows : List SectionRow) (i : ℕ) (row : SectionRow) (is : row ≡ get_or rows i row) (inside : i < length rows) (names : List (List ℕ))
    (so_far : (s : List ℕ) → has_name names s ≡ reached_from g (take i rows) s) where
  -- one more section
  more : (s : List ℕ) → reached_from g (take (i + 1) rows) s ≡ (has_name names s || (row.source && in_fence g row.name [] s))
  more s =
      list_any_more (λ (r : SectionRow). r.source && in_fence g r.name [] s) rows i row inside
      ∙ (λ k. sym (so_far s) k || ((sym is k).source && in_fence g (sym is k).name [] s))

  -- it is a source, and its fence was added
  pub reached_new : (f : FenceRows) → IsFenceByWalks g row.name [] f → row.source ≡ true → (names' : List (List ℕ)) → names' ≡ names ++ section_names f.sections
      → (s : List ℕ) → has_name names' s ≡ reached_from g (take (i + 1) rows) s
  reached_new f by source names' added s =
      ap (λ all. has_name all s) added ∙ list_any-append (same_name s) names (section_names f.sections)
      ∙ (λ k. has_name names s || has_in_fence g net row.name f by s k)
      ∙ (λ k. has_name names s || (sym source k && in_fence g row.name [] s)) ∙ sym (more s)

  -- it is a source that is reached already
  pub reached_old : has_name names row.name ≡ true → (s : List ℕ) → has_name names s ≡ reached_from g (take (i + 1) rows) s
  reached_old known s =
      sym
      (more s
      ∙ adds_nothing (has_name names s) (row.source && in_fence g row.name [] s)
      (λ e. so_far s ∙ passed_on g net (take i rows) row.name s (sym (so_far row.name) ∙ known) (and_parts row.source (in_fence g row.name [] s) e).1))

  -- it is no source
  pub reached_no : row.source ≡ false → (s : List ℕ) → has_name names s ≡ reached_from g (take (i + 1) rows) s
  reached_no none s =
      sym
      (more s
      ∙ adds_nothing (has_name names s) (row.source && in_fence g row.name [] s)
      (λ e. absurd (cc (none, (and_parts row.source (in_fence g row.name [] s) e).0))))
