-- A part of a journal that is begun at the place of a register: the faults, and what was done.
use Rattle.std.proofs.Common.{◌≡◌, ◌⊎◌, ◌∙◌, ap, inl, inr, refl, subst, sym, ℕ, List, Result, Ok, Err}
use Rattle.std.specs.Prelude.{◌≢◌, IsErrAnd, Option, Some, String, decimal}
use Rattle.std.specs.declared.alloc.Global.{Global}
use Rattle.sqlite.specs.Held.{Held, state}
use Rattle.sqlite_trees.specs.declared.store.Store.{Ghosts}
use Rattle.clr_rules.specs.declared.place.Place.{Place}
use Rattle.clr_level.proofs.BegunLevel.{begun_level}
use Rattle.clr_desk.specs.declared.desk.Desk.{Desk}
use Rattle.clr_keeping.specs.Keeping.{IsNotUp, IsUp, plain}
use Rattle.clr_keeping.specs.TakenUp.{HasPlace, LacksPlace, Logs, StaysRead, store_place}
use Rattle.clr_edge.specs.Visit.{Closed, Done, Ending, Opening, Shutting, first_fault}
use Rattle.clr_edge.specs.declared.fault.Fault.{Fault}
use Rattle.clr_edge.proofs.Databases.{visits-as}
use Rattle.clr_edge.specs.declared.fault.Fault.TheVariants.{Journal, Memory}
use Rattle.clr_edge.specs.declared.fault.JournalFault.TheVariants.{Differs}
use Rattle.clr_rules.specs.Register.{Register}
use Rattle.clr_commands.specs.Faults.{IsOfSubcommand}
use Rattle.clr_commands.specs.PartAfter.{BeginsAfter, IsOtherNumber, PartsFound, PartsOver, PrintsPart}
use Rattle.clr_commands.proofs.Faults.{journal_plain, memory_plain, of_store_plain}

-- a fault that is passed on has what is shown of it
pub err_and : (result : Result (String Global) Fault) (fault : Fault) (P : Fault → Type 0) → IsErrAnd result (λ cause. cause ≡ fault) → P fault → IsErrAnd result P
err_and (Ok text) fault P is shown = absurd is
err_and (Err cause) fault P is shown = subst P (sym is) shown

pub part_told : (place : Place) (result : Result (String Global) Fault) (fault : Fault) → IsErrAnd result (λ cause. cause ≡ fault) → PrintsPart place (Err fault) result
part_told place (Ok text) fault is = absurd is
part_told place (Err cause) fault is = let fails : Fault → Done = λ f. Err f in ap fails (sym is)

-- the faults are those of a subcommand
pub other_number_plain : (place : Place) (after : List ℕ) (fault : Fault) → IsOtherNumber place after fault → IsOfSubcommand fault
other_number_plain place after fault (inl memory) = memory_plain fault memory
other_number_plain place after fault (inr (is, other)) = journal_plain fault _ is

pub lacks_plain : {T : Type 0} (g : Ghosts T) (before : Held T) (fault : Fault) (after : Held T) → LacksPlace g before fault after → IsOfSubcommand fault
lacks_plain g before fault after lacks = subst (λ f. IsOfSubcommand f) (sym lacks.fault_is) (of_store_plain lacks.cause)

-- at the place that was read
pub over_found : {M J C T : Type 0} (g : Ghosts T) (logs : Logs M J C) (path after : List ℕ) (result : Result (String Global) Fault) (old new : M) (read : Held T) (R : Register)
    (held left : Held T) (found : Option Place) → left ≡ held → StaysRead (state g read) (state g held) → HasPlace g read held found
    → PartsFound logs found path after result old new → PartsOver g logs path after result old new read R left
over_found {T = T} g logs path after result old new read R held left found same stays placed begun = (
  subst (λ (h : Held T). StaysRead (state g read) (state g h)) (sym same) stays,
  inr (record {
    found = found;
    placed = subst (λ (h : Held T). HasPlace g read h found) (sym same) placed;
    begun = begun;
    level = λ place is at. begun_level store_place (state g left) R place at;
  }),
)

module _ {M S J C : Type 0} (logs : Logs M J C) (g : Ghosts S) (opens : Opening M S) (shuts : Shutting M) (ends : Ending M S) (path journal after : List ℕ) where
  -- the register of the database at the path was read, and the part begun or not
  pub parts_at : (report result : Result (String Global) Fault) (closed : Closed) (old between later new : M) (desk : Desk (Held S)) (left : Held S)
      → IsUp opens path (plain g) old between desk
      → PartsOver g logs journal after report between later desk.store desk.book.register left
      → ends later left closed new → result ≡ first_fault report closed
      → BeginsAfter logs g opens shuts ends path journal after result old new
  parts_at report result closed old between later new desk left up begun ended is = inr (record {
    before = up.before;
    after = left;
    closed = closed;
    middle = up.middle;
    later = later;
    opened = up.opened;
    mode = up.mode;
    does = record {
      report = report;
      did = inr (
        desk.book.register,
        desk.store,
        up.taken_up.1,
        subst (λ (m : M). PartsOver g logs journal after report m later desk.store desk.book.register left) up.taken_up.0 begun,
      );
      result_is = is;
    };
    ended = ended;
  })

  -- or it was not read
  pub unread_at : (result : Result (String Global) Fault) (old new : M) (fault : Fault) → IsErrAnd result (λ cause. cause ≡ fault)
      → IsNotUp opens shuts ends path (plain g) old new fault
      → BeginsAfter logs g opens shuts ends path journal after result old new
  unread_at (Ok value) old new fault is not = absurd is
  unread_at (Err told) old new fault is (inl (cause, of, shut)) = inl (cause, ap Err (is ∙ of), shut)
  unread_at (Err told) old new fault is (inr visit) =
      inr (visits-as opens ends path _ _ old new (λ middle before after closed later opened it. record { report = Err fault; did = inl (it.1, it.0); result_is = ap Err is }) visit)
