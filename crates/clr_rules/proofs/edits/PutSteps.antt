-- A step is put over another of its clearance: what the register has of steps, and what it may leave of states and holds.
use Rattle.std.proofs.Common.{◌≡◌, ℕ, Bool, true, false, cond, ◌&&◌, List, ◌∷◌, ◌++◌, Option, Some, None, is_some, Contains, refl, sym, ◌∙◌, ap, subst}
use Rattle.clr_rules.proofs.Common.{AreAtPoints, list_any, false≢true, All-contains, Grid, point_names, same_name, has_name, one_name, in_key_order-filter, in_key_order, with_row, is_closing_at, InPhase}
use Rattle.clr_rules.proofs.Common.{IsGoodByPhase, IsInPlace, outlook_of, HoldKind, PointState, Record, StepRow, Id, same_id, Register, has_in_hand, state_of, step_key, step_key_cmp}
use Rattle.clr_rules.proofs.Common.{step_key_cmp_total, is_active, steps_of, is_hand, is_close}
use Rattle.clr_shelf.proofs.Groups.{All-with_row, filter-with_inside}
use Rattle.clr_rules.specs.declared.step_row.StepKey.{StepKey}
use Rattle.clr_rules.proofs.lists.StateFacts.{hand_of-handed, hand_of-handed_other, with_hand, state_is_known}
use Rattle.clr_rules.proofs.edits.PresentSteps.{IsPresent}
use Rattle.clr_rules.proofs.lists.RoundSteps.{among_own, one_id, own_id}
use Rattle.clr_rules.proofs.isolation.Sparing.{steps_of-others}
use Rattle.clr_rules.proofs.lists.StepSplits.{split_at}

-- the steps with one put
abbrev pub put_step : StepRow → List StepRow → List StepRow
put_step new steps = with_row step_key_cmp step_key new steps

pub own_steps : (c : Id) (new : StepRow) (steps : List StepRow) → same_id c new.id ≡ true → steps_of (put_step new steps) c ≡ put_step new (steps_of steps c)
unfolding steps_of
own_steps c new steps own = filter-with_inside step_key_cmp step_key step_key_cmp_total (λ (row : StepRow). same_id c row.id) new steps own

ordered_own : (c : Id) (steps : List StepRow) → in_key_order step_key_cmp step_key steps ≡ true → in_key_order step_key_cmp step_key (steps_of steps c) ≡ true
unfolding steps_of
ordered_own c steps ordered = in_key_order-filter step_key_cmp step_key step_key_cmp_total (λ (row : StepRow). same_id c row.id) steps ordered

-- the clearance's steps before and after
pub record StepPut (R : Register) (c : Id) (row new : StepRow) : Type 0 where
  pub before : List StepRow
  pub after : List StepRow
  pub was : steps_of R.steps c ≡ before ++ row ∷ after
  pub is : steps_of (put_step new R.steps) c ≡ before ++ new ∷ after

module _ (R : Register) (good : IsGoodByPhase R) (c : Id) (row new : StepRow) (p : IsPresent R c row) (same_key : step_key new ≡ step_key row) where
  new_id : new.id ≡ c
  new_id = ap (λ (k : StepKey). StepKey.id k) same_key ∙ p.own

  pub step_put : StepPut R c row new
  step_put =
      let s = split_at step_key_cmp step_key step_key_cmp_total row new (steps_of R.steps c) (ordered_own c R.steps good.in_order.steps) same_key
      (subst (λ (d : Id). Contains (steps_of R.steps d) row) p.own (among_own R.steps row p.there)) in
      record {
        before = s.before;
        after = s.after;
        was = s.was;
        is = own_steps c new R.steps (ap (same_id c) new_id ∙ own_id c) ∙ s.is;
      }

  -- those of others stay
  pub others_put : (d : Id) → same_id d c ≡ false → steps_of (put_step new R.steps) d ≡ steps_of R.steps d
  others_put d differs = steps_of-others d new R.steps good.in_order.steps (ap (same_id d) new_id ∙ differs)

  -- where the clearance's steps are at points of the network,
  module _ (at_points : AreAtPoints R.net (steps_of R.steps c)) where
    -- that of the step is known
    pub point_known : has_name (point_names (Grid.points R.net)) row.step.point ≡ true
    point_known = All-contains (λ (row : StepRow). has_name (point_names (Grid.points R.net)) row.step.point ≡ true) (steps_of R.steps c) row at_points
        (subst (λ (d : Id). Contains (steps_of R.steps d) row) p.own (among_own R.steps row p.there))

    pub known_put : new.step.point ≡ row.step.point → AreAtPoints R.net (steps_of (put_step new R.steps) c)
    known_put same = subst (AreAtPoints R.net) (sym (own_steps c new R.steps (ap (same_id c) new_id ∙ own_id c)))
        (All-with_row step_key_cmp step_key step_key_cmp_total (λ (row : StepRow). has_name (point_names (Grid.points R.net)) row.step.point ≡ true) new (steps_of R.steps c)
        (ap (has_name (point_names (Grid.points R.net))) same ∙ point_known) at_points)

    -- and has a state
    pub state_known : is_some (state_of R.states row.step.point) ≡ true
    state_known = state_is_known R.states row.step.point ∙ ap (λ names. has_name names row.step.point) good.points_known.states ∙ point_known

-- whether a Close is given out, by the steps of the clearance
abbrev pub closes_at : List ℕ → StepRow → Bool
closes_at p row = (is_active row.step.state && is_close row.step.action) && same_name p row.step.point

pub closing_by : (steps : List StepRow) (c : Id) (p : List ℕ) (rows : List StepRow) → steps_of steps c ≡ rows → is_closing_at steps c p ≡ list_any (closes_at p) rows
unfolding is_closing_at
closing_by steps c p rows is = ap (list_any (closes_at p)) is

-- ---- hands

-- what is read of a hand that was set
pub hand_read : (states : List PointState) (p q : List ℕ) (hand : Option Id) (d : Id) → is_some (state_of states p) ≡ true
    → has_in_hand (with_hand states p hand) d q ≡ cond (same_name p q) (is_hand d hand) (has_in_hand states d q)
hand_read states p q hand d there = at (same_name p q) refl
  where
    at : (b : Bool) → same_name p q ≡ b → has_in_hand (with_hand states p hand) d q ≡ cond b (is_hand d hand) (has_in_hand states d q)
    at true is = subst (λ q. has_in_hand (with_hand states p hand) d q ≡ is_hand d hand) (one_name p q is) (ap (is_hand d) (hand_of-handed states p hand there))
    at false differs = ap (is_hand d) (hand_of-handed_other states p hand q differs)

-- a hand is that of one clearance
pub one_hand : (found : Option Id) (b d : Id) → is_hand b found ≡ true → same_id d b ≡ false → is_hand d found ≡ false
one_hand None b d has differs = absurd (false≢true has)
one_hand (Some by) b d has differs = rw (← one_id b by has) differs

-- the hands of others, where the point was in nobody's hand or the clearance's own, and is so again
pub other_hands : (states : List PointState) (p : List ℕ) (hand : Option Id) (d : Id) → is_some (state_of states p) ≡ true
    → is_hand d hand ≡ false → has_in_hand states d p ≡ false → (q : List ℕ) → has_in_hand (with_hand states p hand) d q ≡ has_in_hand states d q
other_hands states p hand d there none before q = hand_read states p q hand d there ∙ at (same_name p q) refl
  where
    at : (b : Bool) → same_name p q ≡ b → cond b (is_hand d hand) (has_in_hand states d q) ≡ has_in_hand states d q
    at true is = none ∙ sym (ap (λ q. has_in_hand states d q) (sym (one_name p q is)) ∙ before)
    at false differs = refl

-- ---- the clearance's place, by its steps split

pub place_by : (R : Register) (c : Id) (o : Option Record) (steps rows : List StepRow) (has : HoldKind → List ℕ → Bool) (hand : List ℕ → Bool) → steps ≡ rows
    → IsInPlace R.net (record { clearance = o; steps = rows; has = has; hand = hand }) → IsInPlace R.net (record { clearance = o; steps = steps; has = has; hand = hand })
place_by R c o steps rows has hand is place =
    subst (λ (steps : List StepRow). IsInPlace R.net (record { clearance = o; steps = steps; has = has; hand = hand })) (sym is) place

pub phase_by : (R : Register) (c : Id) (r : Record) (rows : List StepRow) → steps_of R.steps c ≡ rows → InPhase R.net r.phase r.work (outlook_of R c)
    → InPhase R.net r.phase r.work (record (outlook_of R c) { steps = rows })
phase_by R c r rows is h = subst (λ (steps : List StepRow). InPhase R.net r.phase r.work (record (outlook_of R c) { steps = steps })) is h
