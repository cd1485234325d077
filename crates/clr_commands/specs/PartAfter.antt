-- WHAT `migrate --after` DOES: a part of a journal is begun at the place that the register has. So
-- it is where the register's own journal goes by other rules, and ends there.
use Rattle.std.specs.Prelude.{◌≡◌, ◌≢◌, ◌⊎◌, ℕ, IsErrAnd, List, None, Option, Result, Ok, Err}
use Rattle.std.specs.Prelude.{Some, String, decimal, string_bytes}
use Rattle.std.specs.declared.alloc.Global.{Global}
use Rattle.sqlite.specs.Held.{Held, state}
use Rattle.sqlite_trees.specs.declared.store.Store.{Ghosts}
use Rattle.clr_rules.specs.Register.{Register}
use Rattle.clr_rules.specs.declared.place.Place.{Place}
use Rattle.clr_level.specs.Placing.{IsAt}
use Rattle.clr_keeping.specs.Beginning.{BeginsFirst, BeginsLevel}
use Rattle.clr_keeping.specs.Keeping.{IsNotRead, IsReadFrom}
use Rattle.clr_keeping.specs.TakenUp.{HasPlace, LacksPlace, Logs, StaysRead, store_place}
use Rattle.clr_edge.specs.Visit.{Closed, Comes, Done, Ending, Opening, Shutting, first_fault}
use Rattle.clr_edge.specs.declared.fault.Fault.{Fault}
use Rattle.clr_edge.specs.declared.fault.Fault.TheVariants.{Journal, Memory}
use Rattle.clr_edge.specs.declared.fault.JournalFault.TheVariants.{Differs, OtherRegister}
use Rattle.clr_commands.specs.NextPart.{next_line}

-- what is printed once the part is begun, or why it is not
abbrev pub PrintsPart : Place → Done → Result (String Global) Fault → Type 0
PrintsPart place begun (Ok text) = (begun ≡ Ok tt) × (string_bytes text ≡ next_line place.number)
PrintsPart place begun (Err fault) = begun ≡ Err fault

-- the number that is named is another than that of the place, or memory ran out
abbrev pub IsOtherNumber : Place → List ℕ → Fault → Type 0
IsOtherNumber place after fault = (fault ≡ Memory)
    ⊎ ((fault ≡ Journal (Differs place.number)) × (after ≢ decimal place.number))

-- A PART IS BEGUN AT A PATH with this place as its first line, where the number that is named is
-- the place's; and nothing more is done. Or none is, and why
abbrev pub BeginsPart : {M J C : Type 0} → Logs M J C → Place → List ℕ → List ℕ
    → Result (String Global) Fault → M → M → Type 0
BeginsPart logs place path after result old new =
    (IsErrAnd result (IsOtherNumber place after) × (new ≡ old))
    ⊎ ((after ≡ decimal place.number) × (begun : Done) × PrintsPart place begun result
    × BeginsFirst logs path place (λ outcome middle later. (outcome ≡ Ok tt) × (later ≡ middle)) begun
    old new)

-- at the place of a register, if it has one
abbrev pub PartsFound : {M J C : Type 0} → Logs M J C → Option Place → List ℕ → List ℕ
    → Result (String Global) Fault → M → M → Type 0
PartsFound logs (Some place) path after result old new =
    BeginsPart logs place path after result old new
PartsFound logs None path after result old new =
    (result ≡ Err (Journal OtherRegister)) × (new ≡ old)

-- THE PLACE OF A REGISTER WAS READ, and the database not changed; and the part begun there. Where the
-- register was at that place, it is level with the part. Or its place was not read
pub record IsPartOver {M J C T : Type 0} (g : Ghosts T) (logs : Logs M J C) (path after : List ℕ)
    (result : Result (String Global) Fault) (old new : M) (read : Held T) (R : Register)
    (left : Held T) : Type 0 where
  pub found : Option Place
  pub placed : HasPlace g read left found
  pub begun : PartsFound logs found path after result old new
  pub level : (place : Place) → found ≡ Some place → IsAt store_place (state g left) place
      → BeginsLevel g R place left

abbrev pub PartsOver : {M J C T : Type 0} → Ghosts T → Logs M J C → List ℕ → List ℕ
    → Result (String Global) Fault → M → M → Held T → Register → Held T → Type 0
PartsOver g logs path after result old new read R left =
    StaysRead (state g read) (state g left)
    × ((IsErrAnd result (λ fault. LacksPlace g read fault left) × (new ≡ old))
    ⊎ IsPartOver g logs path after result old new read R left)

-- over a database
pub record PartsIn {M J C T : Type 0} (g : Ghosts T) (logs : Logs M J C) (path after : List ℕ)
    (result : Result (String Global) Fault) (old : M) (before left : Held T) (closed : Closed)
    (new : M) : Type 0 where
  pub report : Result (String Global) Fault
  pub did : (IsErrAnd report (λ fault. IsNotRead g before fault left) × (new ≡ old))
      ⊎ ((R : Register) × (read : Held T) × IsReadFrom g before read R
      × PartsOver g logs path after report old new read R left)
  pub result_is : result ≡ first_fault report closed

-- over the database at a path
abbrev pub BeginsAfter : {M S J C : Type 0} → Logs M J C → Ghosts S → Opening M S → Shutting M
    → Ending M S → List ℕ → List ℕ → List ℕ → Result (String Global) Fault → M → M → Type 0
BeginsAfter logs g opens shuts ends path journal after =
    Comes opens shuts ends path (PartsIn g logs journal after)
