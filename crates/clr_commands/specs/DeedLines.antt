-- THE LINE OF AN UPDATE OR OF AN ARCHIVE of a register with a journal: what a subcommand passes on of
-- `renew` of clr_level.
use Rattle.std.specs.Prelude.{◌≡◌, ◌⊎◌, ℕ, IsErrAnd, Result, Ok, Err}
use Rattle.sqlite.specs.State.{State}
use Rattle.clr_journal.specs.declared.journal.Journal as append
use Rattle.clr_changes.specs.Deeds.{Deed}
use Rattle.clr_desk.specs.Placing.{Placing}
use Rattle.clr_desk.specs.Taking.{Came}
use Rattle.clr_desk.specs.declared.desk.Desk.{Desk}
use Rattle.clr_desk.specs.declared.desk_fault.DeskFault.{DeskFault}
use Rattle.clr_level.specs.Renewing.{RenewsAt}
use Rattle.clr_level.specs.declared.keeper.Keeper.{Keeper}
use Rattle.clr_edge.specs.Fault.{of_desk}
use Rattle.clr_edge.specs.declared.fault.Fault.{Fault}

-- what came of a deed is what is reported
abbrev pub Reports : {T : Type 0} → Came → Result T Fault → Type 0
Reports (Ok done) (Ok value) = Unit {0}
Reports (Err cause) (Err fault) = fault ≡ of_desk cause
Reports (Ok done) (Err fault) = ⊥
Reports (Err cause) (Ok value) = ⊥

-- A DEED HAS ITS LINE, which is durable before anything of it is done; at a fault the line was not
-- written or not synced, or what keeps the tables failed after it
pub record HasLine {K J C T : Type 0} (kept : K → State) (has_place : Placing)
    (fails : DeskFault → Type 0) (shows : C → ℕ → Type 0) (log : append.Ghosts J)
    (taken : Desk (Keeper K J C)) (deed : Deed) (reported : Result T Fault)
    (left : Desk (Keeper K J C)) : Type 0 where
  pub came : Came
  pub reports : Reports came reported
  pub renews : RenewsAt kept has_place fails shows log.text log.found log.may_leave log.is_usable
      taken left deed came

-- or it was not begun, and a fault says why: nothing is done
abbrev pub IsJournaled : {K J C T : Type 0} → (K → State) → Placing → (DeskFault → Type 0)
    → (C → ℕ → Type 0) → append.Ghosts J → Desk (Keeper K J C) → Deed → Result T Fault
    → Desk (Keeper K J C) → Type 0
IsJournaled kept has_place fails shows log taken deed reported left =
    IsErrAnd reported (λ fault. left ≡ taken)
    ⊎ HasLine kept has_place fails shows log taken deed reported left
