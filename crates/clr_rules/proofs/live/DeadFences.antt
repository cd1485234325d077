-- While the points of a sound order are open, no section of its fence is live.
use Rattle.std.proofs.Common.{◌≡◌, ◌∙◌, ℕ, true, false, not, List, All, Contains, Some, sym, ap}
use Rattle.clr_rules.proofs.Common.{both_ways, false_from_ne_true, not-true, not_from_false, All-contains, fence_of, in_fence, Grid, IsNetwork, same_name, has_name, SectionRow, IsSoundOrder, Task}
use Rattle.clr_rules.proofs.Common.{work_fence, PointState, first_of_each, Contains-filter}
use Rattle.clr_net.proofs.Walks.{fence_is_closed, one_name, some_from}
use Rattle.clr_rules.specs.Live.{is_closed_point, is_live}
use Rattle.clr_rules.specs.laws.Live.{CarriesOn}
use Rattle.clr_rules.proofs.live.FenceCuts.{has_name-once, in_fence_alike, in_fence_from_named}
use Rattle.clr_rules.proofs.live.LiveSections.{live_is_least}

module _ (g : Grid) (net : IsNetwork g) (states : List PointState) (work : List ℕ) (points : List (List ℕ)) (tasks : List Task) (sound : IsSoundOrder g work points tasks) where
  -- a source is outside
  source_outside : (source : SectionRow) → Contains g.sections source → source.source ≡ true → in_fence g work points source.name ≡ false
  source_outside source there is_source = false_from_ne_true (in_fence g work points source.name) (λ inside.
      let kept = Contains-filter (λ (row : SectionRow). in_fence g work points row.name) g.sections source there inside in
      both_ways source.source (All-contains (λ (row : SectionRow). row.source ≡ false) (fence_of g work points).sections source sound.no_source kept) is_source)

  -- the sections outside have each source, and no closed point leaves them
  outside_carries_on : ((p : List ℕ) → has_name points p ≡ true → is_closed_point states p ≡ false) → CarriesOn g states (λ s. not (in_fence g work points s))
  outside_carries_on opened = record {
    sources = λ source there is_source. not_from_false (in_fence g work points source.name) (source_outside source there is_source);
    closed = λ p there closed. ap not ((fence_is_closed g net work points).1 p there
        (false_from_ne_true (has_name points p.name) (λ cut. both_ways (is_closed_point states p.name) (opened p.name cut) closed)));
  }

  -- no section of the fence is live
  pub dead_within : ((p : List ℕ) → has_name points p ≡ true → is_closed_point states p ≡ false) → (s : List ℕ) → in_fence g work points s ≡ true → is_live g states s ≡ false
  dead_within opened s inside = false_from_ne_true (is_live g states s) (λ live.
      both_ways (in_fence g work points s) (not-true (in_fence g work points s) (live_is_least g states net (λ n. not (in_fence g work points n)) (outside_carries_on opened) s live)) inside)

  pub dead_fence : All (λ p. is_closed_point states p ≡ false) points → (s : List ℕ) → in_fence g work points s ≡ true → is_live g states s ≡ false
  dead_fence opened = dead_within (λ p cut.
      let (q, there, same) = some_from (same_name p) points cut in
      rw (one_name p q same) (All-contains (λ (p : List ℕ). is_closed_point states p ≡ false) points q opened there))

-- the same of the points of an order that come more than once, and of the names of the sections
pub dead_work_fence : (g : Grid) → IsNetwork g → (states : List PointState) (work : List ℕ) (points : List (List ℕ)) (tasks : List Task) → IsSoundOrder g work (first_of_each points) tasks
    → ((p : List ℕ) → has_name points p ≡ true → is_closed_point states p ≡ false)
    → (s : List ℕ) → has_name (work_fence g (Some work) points) s ≡ true → is_live g states s ≡ false
dead_work_fence g net states work points tasks sound opened s named =
    dead_within g net states work (first_of_each points) tasks sound (λ p cut. opened p (sym (has_name-once points p) ∙ cut)) s
    (in_fence_alike g work (first_of_each points) points (has_name-once points) s ∙ in_fence_from_named g work points s named)
