use Rattle.std.proofs.Common.{◌∙◌, ap, arith, inl, refl, subst, sym}
use Rattle.sqlite.specs.Held.{state}
use Rattle.sqlite.specs.State.{HasCleanDisk, Survives}
use Rattle.clr_rules.specs.Register.{Register, opening}
use Rattle.clr_rules.specs.Run.{IsReached}
use Rattle.clr_load.specs.Contract.{IsSaved}
use Rattle.clr_load.specs.Stored.{AreTables, HasTables}
use Rattle.clr_load.specs.Tables.{tables_of}
use Rattle.clr_load.specs.TypedRows.{IsTyped}
use Rattle.clr_book.specs.Book.{Shelved}
use Rattle.clr_desk.proofs.OneCommand.{of_command}
use Rattle.clr_desk.proofs.desk.Desk+Store+S.create.Goals as goal

pub returns-in-Ok-create-clause-register : goal.returns-in-Ok-create-clause-register
returns-in-Ok-create-clause-register g c =
    ap (λ (book : Shelved). book.register) c.over.ensures.book ∙ c.in-Ok.ensures.register

pub returns-in-Ok-create-clause-network : goal.returns-in-Ok-create-clause-network
returns-in-Ok-create-clause-network g c =
    ap (λ (book : Shelved). book.network) c.over.ensures.book ∙ c.in-Ok.ensures.network

pub returns-in-Ok-create-clause-reached : goal.returns-in-Ok-create-clause-reached
returns-in-Ok-create-clause-reached g c =
    subst (λ (book : Shelved). IsReached book.register) (sym c.over.ensures.book)
    c.in-Ok.ensures.reached

pub returns-in-Ok-create-clause-typed : goal.returns-in-Ok-create-clause-typed
returns-in-Ok-create-clause-typed g c =
    subst (λ (book : Shelved). IsTyped book.register) (sym c.over.ensures.book)
    c.in-Ok.ensures.typed

pub returns-in-Ok-create-clause-made : goal.returns-in-Ok-create-clause-made
returns-in-Ok-create-clause-made g c =
    let network = c.network_and_staff.ensures.network ∙ c.in-Ok.ensures.network in
    let staff = c.network_and_staff.ensures.staff ∙ ap (λ (R : Register). R.staff) c.in-Ok.ensures.register in
    subst (λ h. HasCleanDisk (state g.S.Store h) → IsSaved (state g.S.Store h)
    × HasTables (state g.S.Store h).now (tables_of (opening c.args.network c.args.staff)))
    (sym c.over.ensures.store)
    (subst (λ (R : Register). HasCleanDisk (state g.S.Store c.in-Ok-create.store)
    → IsSaved (state g.S.Store c.in-Ok-create.store)
    × HasTables (state g.S.Store c.in-Ok-create.store).now (tables_of R))
    (λ i. opening (network i) (staff i)) c.in-Ok-create.ensures.made)

pub returns-in-Ok-create-clause-crash_made : goal.returns-in-Ok-create-clause-crash_made
returns-in-Ok-create-clause-crash_made g c =
    let network = c.network_and_staff.ensures.network ∙ c.in-Ok.ensures.network in
    let staff = c.network_and_staff.ensures.staff ∙ ap (λ (R : Register). R.staff) c.in-Ok.ensures.register in
    subst (λ h. Survives (state g.S.Store c.args.connection) (state g.S.Store h)
    (λ trees. AreTables trees (tables_of (opening c.args.network c.args.staff))))
    (sym c.over.ensures.store)
    (subst (λ (R : Register). Survives (state g.S.Store c.args.connection)
    (state g.S.Store c.in-Ok-create.store) (λ trees. AreTables trees (tables_of R)))
    (λ i. opening (network i) (staff i)) c.in-Ok-create.ensures.crash_made)

pub returns-in-Err-clause-cause : goal.returns-in-Err-clause-cause
returns-in-Err-clause-cause g c =
    of_command c.in-Err.field-0.fault c.from.result c.in-Err.ensures.fault c.from.ensures

pub returns-in-Err-clause-none : goal.returns-in-Err-clause-none
returns-in-Err-clause-none g c = c.in-Err.ensures.none

pub returns-in-Err-clause-crash_none : goal.returns-in-Err-clause-crash_none
returns-in-Err-clause-crash_none g c =
    let network = c.network_and_staff.ensures.network ∙ c.in-Ok.ensures.network in
    let staff = c.network_and_staff.ensures.staff ∙ ap (λ (R : Register). R.staff) c.in-Ok.ensures.register in
    subst (λ (R : Register). Survives (state g.S.Store c.args.connection)
    (state g.S.Store c.in-Err.field-0.connection) (λ trees. AreTables trees (tables_of R)))
    (λ i. opening (network i) (staff i)) c.in-Err.ensures.crash_none

pub returns-in_default-clause-crash_none : goal.returns-in_default-clause-crash_none
returns-in_default-clause-crash_none g c = record {
  clean = omega arith;
  shield = λ shielded. shielded;
  counts = omega arith;
  limit = refl;
  closes = λ _ is_open. inl is_open;
  crash = λ _ db left. inl left;
}
