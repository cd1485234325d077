-- The tables after an update are those of the register after it.
use Rattle.std.proofs.Common.{◌≡◌, ◌∙◌, List, [], ◌∷◌, map, Err, Ok, Option, None, Some, cond, unwrap_or, refl, subst, sym, ap}
use Rattle.std.specs.Prelude.{String}
use Rattle.std.specs.declared.alloc.Global.{Global}
use Rattle.sqlite.specs.Held.{Held, state}
use Rattle.sqlite.specs.State.{Survives}
use Rattle.sqlite.specs.Store.{Ghosts}
use Rattle.sqlite.proofs.StateLemmas.{survives_weaker}
use Rattle.clr_changes.specs.Made.{IsMade}
use Rattle.clr_changes.specs.Outcome.{IsAfter, register_after}
use Rattle.clr_changes.specs.Report.{IsReport}
use Rattle.clr_changes.specs.declared.outcome.After.{After}
use Rattle.clr_changes.specs.declared.report.Report.TheVariants.{Changes, InTheWay}
use Rattle.clr_net.specs.Grid.{Grid, point_names}
use Rattle.clr_rules.proofs.good.Opening.{first_keys, unplaced_names}
use Rattle.clr_rules.proofs.lists.StateFacts.{state_of-point}
use Rattle.clr_rules.specs.Register.{Register, first_state}
use Rattle.clr_rules.specs.States.{state_key, state_of}
use Rattle.clr_rules.specs.declared.point_state.PointState.{PointState}
use Rattle.clr_store.specs.Renewed.{AreStatesOf, tables_renewed}
use Rattle.clr_store.specs.Transaction.{AreTurned, FailsAs, PlacesAs, Transacts}
use Rattle.clr_load.specs.Stored.{AreTables, HasTables}
use Rattle.clr_load.specs.Tables.{Tables, tables_of}
use Rattle.clr_load.specs.declared.fault.StoreFault.{StoreFault}
use Rattle.clr_update.proofs.Delta.{updated_is}
use Rattle.clr_update.proofs.Filed.{is_filed}
use Rattle.clr_update.proofs.Free.{free_of}
use Rattle.clr_update.specs.Changes.{Changes as Said}
use Rattle.clr_update.specs.Delta.{after_changes, network_of, update_of}
use Rattle.clr_update.specs.Update.{IsRead, Update, after_update, filed, in_the_way, kept_state, unless_obstacle, updated}
use Rattle.clr_update.specs.declared.obstacle.Obstacle.{Obstacle}
use Rattle.clr_desk.specs.Faults.{of_store}
use Rattle.clr_desk.specs.Updating.{AreUpdated, UpdatesTables}
use Rattle.clr_desk.specs.declared.desk_fault.DeskFault.TheVariants.{NoMemory}
use Rattle.clr_desk.proofs.OneCommand.{of_command}
use Rattle.clr_desk.proofs.Renewed.{stays_so}

-- ---- a point that stays has its state, under its name
same_point : (states : List PointState) (new : PointState) → PointState.point (kept_state states new) ≡ new.point
same_point states new = at (state_of states new.point) refl
  where
    at : (o : Option PointState) → state_of states new.point ≡ o → PointState.point (unwrap_or o new) ≡ new.point
    at None is = refl
    at (Some state) is = state_of-point states new.point state is

same_keys : (states news : List PointState) → map state_key (map (kept_state states) news) ≡ map state_key news
same_keys states [] = refl
same_keys states (new ∷ news) = λ i. same_point states new i ∷ same_keys states news i

module _ (R : Register) (u : Update) where
  -- the register after it has a state for each point
  known_states : IsRead u → in_the_way R u ≡ None → map state_key (Register.states (updated R u)) ≡ point_names (Grid.points (Register.net (updated R u)))
  known_states read none = same_keys R.states (Register.states (filed R u)) ∙ (is_filed u read R (free_of R u none).fits).known

  pub states_given : (after : After) → IsRead u → in_the_way R u ≡ None → IsAfter R u after → AreStatesOf (Grid.points after.network) after.states.items
  states_given after read none it =
      ap (λ (S : Register). map state_key S.states) it.register ∙ known_states read none
      ∙ sym (ap (λ (S : Register). point_names (Grid.points S.net)) it.register) ∙ unplaced_names (Grid.points after.network)

  pub tables_after : (after : After) → IsAfter R u after → tables_renewed after.network after.staff after.states.items (tables_of R) ≡ tables_of (updated R u)
  tables_after after it = ap tables_of it.register

  -- it is carried out where nothing is in the way, and else changes nothing
  pub is_updated : in_the_way R u ≡ None → updated R u ≡ after_update R u
  is_updated none = sym (ap (λ o. unless_obstacle o R (updated R u)) none)

  pub stays : (obstacle : Obstacle) → in_the_way R u ≡ Some obstacle → R ≡ after_update R u
  stays obstacle some = sym (ap (λ o. unless_obstacle o R (updated R u)) some)

-- what is after changes that are said, whatever register they are made in
module _ (R : Register) (of : Said) (after : After) (it : IsMade R of (Some after)) where
  pub after_said : register_after R after ≡ after_changes R of
  after_said = it.1.register ∙ sym (ap (λ b. cond b (updated R (update_of R of)) R) it.0)

  -- there is a state for each point
  pub states_said : AreStatesOf (Grid.points after.network) after.states.items
  states_said =
      let news = map first_state (Grid.points (network_of R of)) in
      let whole = it.1.register ∙ updated_is R of in
      ap (λ (S : Register). map state_key S.states) whole
      ∙ same_keys R.states news ∙ first_keys (Grid.points (network_of R of)) ∙ sym (unplaced_names (Grid.points (network_of R of)))
      ∙ sym (ap (λ (S : Register). point_names (Grid.points S.net)) whole) ∙ unplaced_names (Grid.points after.network)

-- ---- what is written of an update, where nothing is in the way
module _ {S : Type 0} (g : Ghosts S) (R : Register) (u : Update) (old new : Held S) (turned : Tables → Tables) (none : in_the_way R u ≡ None)
    (same : turned (tables_of R) ≡ tables_of (updated R u)) where
  left : Survives (state g old) (state g new) (AreTurned (PlacesAs None) turned (state g old).now) → Survives (state g old) (state g new) (AreUpdated (state g old).now R u)
  left = survives_weaker (state g old) (state g new) _ _ (λ _ trees may has. (none, subst (AreTables trees) same (may (tables_of R) has).0))

  pub updates : (lines : String Global) → IsReport R u (Changes lines) → Transacts {X = Unit {0}} (PlacesAs None) (FailsAs None) (state g old) (state g new) turned (Ok tt)
      → UpdatesTables g R u old (Ok (Changes lines)) new
  updates lines is it = record {
    report = is;
    updated = λ clean has. subst (HasTables (state g new).now) (same ∙ ap tables_of (is_updated R u none)) (it.made clean (tables_of R) has).0;
    placed = λ clean t has. (it.made clean t has).1;
    saved = it.saved;
    none = λ _ _. tt;
    cause = tt;
    crash = left it.crash;
  }

  pub fails_to_update : (cause : StoreFault) → Transacts {X = Unit {0}} (PlacesAs None) (FailsAs None) (state g old) (state g new) turned (Err cause)
      → UpdatesTables g R u old (Err (of_store cause)) new
  fails_to_update cause it = record {
    report = tt;
    updated = λ _ _. tt;
    placed = λ _. tt;
    saved = tt;
    none = it.none;
    cause = of_command cause _ it.fault.cause refl;
    crash = left it.crash;
  }

-- nothing is written
module _ {S : Type 0} (g : Ghosts S) (R : Register) (u : Update) (old : Held S) where
  pub obstructs : (obstacle : Obstacle) → in_the_way R u ≡ Some obstacle → UpdatesTables g R u old (Ok (InTheWay obstacle)) old
  obstructs obstacle some = record {
    report = some;
    updated = λ _ has. subst (λ (S : Register). HasTables (state g old).now (tables_of S)) (stays R u obstacle some) has;
    placed = λ _ t has place are. are;
    saved = refl;
    none = λ _ _. tt;
    cause = tt;
    crash = stays_so (state g old) _;
  }

  pub not_updated : UpdatesTables g R u old (Err NoMemory) old
  not_updated = record { report = tt; updated = λ _ _. tt; placed = λ _. tt; saved = tt; none = λ _ _. refl; cause = tt; crash = stays_so (state g old) _ }
