-- Why a listing of tables that are there fails.
use Rattle.std.proofs.lemmas.Bool.{true≢false}
use Rattle.std.proofs.Common.{◌≡◌, ◌≤◌, ◌∙◌, ◌⊎◌, inl, inr, ℕ, length, Bool, true, false, List, [], IsTrue, None, Ok, refl, sym, ap, subst, arith}
use Rattle.sqlite.specs.Clock.{timed}
use Rattle.sqlite.specs.Effect.{Database, IsShown, RefusesToRead}
use Rattle.sqlite.specs.Listing.{understood, reads_listing, IsSourceOf}
use Rattle.sqlite.specs.Order.{Row}
use Rattle.sqlite.specs.Schema.{Schema}
use Rattle.sqlite.specs.State.{State, HasCleanDisk, Survives, HasCause, FailsToQuery, FailsToShow, IsNotRun, IsTooLate, IsNoStatement, store_error}
use Rattle.sqlite.specs.Tree.{Trees}
use Rattle.sqlite.specs.declared.error.Error.{Error}
use Rattle.sqlite.specs.declared.error.Error.TheVariants.{SqliteFailure}
use Rattle.sqlite.specs.declared.error.ErrorCode.TheVariants as code
use Rattle.sqlite.specs.Held.{Held, state}
use Rattle.sqlite_disk.specs.Disk.{MoreFaults}
use Rattle.sqlite_resolve.specs.declared.compiled.Compiled.{Compiled}
use Rattle.sqlite_schema.specs.declared.command.Command.{Command}
use Rattle.sqlite_tied.specs.Compute.{everything}
use Rattle.sqlite_trees.specs.declared.store.Store.{Ghosts}
use Rattle.sqlite_trees.specs.declared.error.StoreError.{StoreError}
use Rattle.sqlite_trees.specs.declared.error.StoreError.TheVariants as store
use Rattle.clr_load.specs.declared.table_name.TableName.{TableName}
use Rattle.clr_load.specs.declared.table_name.TableName.TheVariants.{Meta, Section, Point, Staff, Clearance, Step, Hold, NetworkPoint, Journal}
use Rattle.clr_load.specs.Cause.{IsAble, SqlHasCause, fault_of}
use Rattle.clr_load.specs.Fault.{IsOfDatabase}
use Rattle.clr_load.specs.Layout.{Layout, OfOne, has_table, place_in}
use Rattle.clr_load.specs.Schema.{behind_meta, schema_in}
use Rattle.clr_load.specs.Sql.{select_sql}
use Rattle.clr_load.specs.declared.fault.StoreFault.{StoreFault}
use Rattle.clr_load.specs.declared.fault.StoreFault.TheVariants.{Sql, WrongVersion, BadRow, NoMemory, OtherTables}
use Rattle.clr_load.proofs.Fronts.{before, everywhere, front, up_to}
use Rattle.clr_load.proofs.Texts.{all_of, listing_at, meta_known, meta_unlisted, select_known, select_unlisted, selecting}

-- ---- what a fault says
pub told_of_database : (e : Error) (fault : StoreFault) → fault ≡ fault_of e → IsOfDatabase fault
told_of_database (SqliteFailure code.OutOfMemory) fault is = rw is tt
told_of_database _ fault is = rw is tt

-- `Sql` has the cause that the error had
pub has_cause : (old new : State) (fault : StoreFault) → (fault ≡ Sql → IsAble old → MoreFaults old.faults new.faults) → SqlHasCause old new fault
has_cause old new Sql so = so refl
has_cause old new NoMemory so = tt
has_cause old new (WrongVersion n) so = tt
has_cause old new (BadRow table) so = tt
has_cause old new OtherTables so = tt

-- ---- what the kit leaves as causes
store_cause : (old new : State) (cause : StoreError) → IsAble old → HasCause old new ⊥ cause → fault_of (store_error cause) ≡ Sql → MoreFaults old.faults new.faults
store_cause old new store.OutOfMemory able h is = absurd cc
store_cause old new store.Io able h is = h
store_cause old new store.Corrupt able h is = h
store_cause old new store.Full able h is = h
store_cause old new store.Broken able h is = absurd (let o = rw h at able.is_open in cc)
store_cause old new store.Unstorable able h is = absurd h

-- a text that is compiled as a statement without parameters is one
is_statement : (s : State) (schema : Schema) (sql : List ℕ) (command : Command) → s.now.schema ≡ schema
    → understood schema sql ≡ Ok (all_of sql 0 command) → (e : Error) → IsNoStatement s sql [] e → ⊥
is_statement s schema sql command has reads e (inl h) =
    let both = sym h.1 ∙ ap (λ x. understood x sql) has ∙ reads in cc
is_statement s schema sql command has reads e (inr h) =
    let both = sym h.1 ∙ ap (λ x. understood x sql) has ∙ reads in
    let same : h.0 ≡ all_of sql 0 command = cc in
    elim h.2 [
      | inl more ↦ more.0 (rw same (omega arith))
      | inr (inl given) ↦ given.0 (rw same refl)
      | inr (inr timed) ↦ timed.0 (rw same refl)
    ]

-- ---- a listing is typed, and sums nothing
abbrev Refuses : Schema → Layout → TableName → Type 0
Refuses schema l name = (db : Database) (e : Error) → db.schema ≡ schema → RefusesToRead None (selecting l name) db [] e → ⊥

abbrev IsMistyped : Schema → ℕ → TableName → Type 0
IsMistyped schema at name = IsShown (λ (r : Row). r) (record { schema = schema; trees = λ _. [] }) (record { lets = []; body = listing_at at name }) [] None

typed_at : (name : TableName) (made : Bool) (others : Schema) → IsMistyped (front (up_to name made) others) (length (before name made)) name → ⊥
unfolding everything
typed_at Meta made others h = true≢false h
typed_at Section made others h = true≢false h
typed_at Point made others h = true≢false h
typed_at Staff true others h = true≢false h
typed_at Staff false others h = true≢false h
typed_at Clearance true others h = true≢false h
typed_at Clearance false others h = true≢false h
typed_at Step true others h = true≢false h
typed_at Step false others h = true≢false h
typed_at Hold true others h = true≢false h
typed_at Hold false others h = true≢false h
typed_at NetworkPoint true others h = true≢false h
typed_at NetworkPoint false others h = true≢false h
typed_at Journal true others h = true≢false h
typed_at Journal false others h = true≢false h

typed : (l : Layout) (name : TableName) → has_table l name ≡ true → IsMistyped (schema_in l) (place_in l name) name → ⊥
typed = everywhere (λ name at under with all. IsMistyped all at name → ⊥) typed_at

if_typed : (l : Layout) (name : TableName) (schema : Schema) → (IsMistyped schema (place_in l name) name → ⊥) → Refuses schema l name
if_typed l name schema typed db e has (inl h) = typed (subst (λ s. IsMistyped s (place_in l name) name) has h.1)
if_typed l name schema typed db e has (inr (inl (_, inl over))) = over
if_typed l name schema typed db e has (inr (inl (_, inr over))) = over.4
if_typed l name schema typed db e has (inr (inr cut)) = absurd (let o = cut.1 in cc)

never_refused : (l : Layout) (name : TableName) → has_table l name ≡ true → Refuses (schema_in l) l name
never_refused l name there = if_typed l name (schema_in l) (typed l name there)

meta_never_refused : (others : Schema) → Refuses (behind_meta others) OfOne Meta
meta_never_refused others = if_typed OfOne Meta (behind_meta others) (typed_at Meta true others)

-- ---- a listing fails for the device alone
module _ (l : Layout) (name : TableName) (schema : Schema) (reads : understood schema (select_sql name) ≡ Ok (all_of (select_sql name) 0 (selecting l name)))
    (unlisted : reads_listing schema (select_sql name) ≡ false) (takes : Refuses schema l name) where
  show_refused : (old new : State) (e : Error) (c : Compiled) (now : ℕ) → old.now.schema ≡ schema → IsAble old → c ≡ all_of (select_sql name) 0 (selecting l name)
      → FailsToShow old new (select_sql name) c (timed [] c.formats now) e c.returning → ⊥
  show_refused old new e c now has able is h =
      let it : FailsToShow old new (select_sql name) (all_of (select_sql name) 0 (selecting l name)) [] e None = rw is at h in
      let here : it.0 ≡ old.now = subst (λ b. IsSourceOf b old.now it.0) (ap (λ s. reads_listing s (select_sql name)) has ∙ unlisted) it.1 in
      takes it.0 e (ap (λ (db : Database). db.schema) here ∙ has) (rw able.unlimited at it.2)

  failed_cause : (old new : State) (e : Error) → old.now.schema ≡ schema → IsAble old
      → FailsToQuery (select_sql name) [] old new e → fault_of e ≡ Sql → MoreFaults old.faults new.faults
  unfolding FailsToQuery IsNotRun
  failed_cause old new e has able (inl (inl h)) is = absurd (is_statement old schema (select_sql name) (selecting l name) has reads e h.0)
  failed_cause old new e has able (inl (inr h)) is = store_cause old new h.0 able h.2 (ap fault_of (sym h.1) ∙ is)
  failed_cause old new e has able (inr h) is =
      let both = sym h.1.is ∙ ap (λ x. understood x (select_sql name)) has ∙ reads in
      let same : h.0 ≡ all_of (select_sql name) 0 (selecting l name) = cc in
      absurd (show_refused old new e h.0 h.1.now has able same h.2)

  query_cause : (old new : State) (e : Error) → old.now.schema ≡ schema → IsTrue old.in_transaction → IsAble old
      → FailsToQuery (select_sql name) [] old new e ⊎ IsTooLate (select_sql name) [] old new e → fault_of e ≡ Sql → MoreFaults old.faults new.faults
  query_cause old new e has inside able (inl h) is = failed_cause old new e has able h is
  query_cause old new e has inside able (inr h) is = absurd (let o = rw h.3 at inside in cc)

  listing_cause : (old new : State) (e : Error) (fault : StoreFault) → old.now.schema ≡ schema → IsTrue old.in_transaction → fault ≡ fault_of e
      → FailsToQuery (select_sql name) [] old new e ⊎ IsTooLate (select_sql name) [] old new e → SqlHasCause old new fault
  listing_cause old new e fault has inside is h = has_cause old new fault (λ sql able. query_cause old new e has inside able h (sym is ∙ sql))

pub list_cause : (l : Layout) (name : TableName) → has_table l name ≡ true → (old new : State) (e : Error) (fault : StoreFault) → old.now.schema ≡ schema_in l → IsTrue old.in_transaction → fault ≡ fault_of e
    → FailsToQuery (select_sql name) [] old new e ⊎ IsTooLate (select_sql name) [] old new e → SqlHasCause old new fault
list_cause l name there = listing_cause l name (schema_in l) (select_known l name there) (select_unlisted l name there) (never_refused l name there)

-- the same outside a transaction
pub read_cause : (l : Layout) (name : TableName) → has_table l name ≡ true → (old new : State) (e : Error) (fault : StoreFault) → old.now.schema ≡ schema_in l → fault ≡ fault_of e
    → FailsToQuery (select_sql name) [] old new e → SqlHasCause old new fault
read_cause l name there old new e fault has is h =
    has_cause old new fault (λ sql able. failed_cause l name (schema_in l) (select_known l name there) (select_unlisted l name there) (never_refused l name there) old new e has able h (sym is ∙ sql))

pub meta_cause : (others : Schema) (old new : State) (e : Error) (fault : StoreFault) → old.now.schema ≡ behind_meta others → IsTrue old.in_transaction → fault ≡ fault_of e
    → FailsToQuery (select_sql Meta) [] old new e ⊎ IsTooLate (select_sql Meta) [] old new e → SqlHasCause old new fault
meta_cause others = listing_cause OfOne Meta (behind_meta others) (meta_known others) (meta_unlisted others) (meta_never_refused others)

-- ---- one call after another
pub able_or_failed : (a b : State) (Commits : Trees → Type 0) → Survives a b Commits → HasCleanDisk b → IsAble a → IsAble b ⊎ MoreFaults a.faults b.faults
able_or_failed a b Commits s clean able = elim (s.closes clean able.is_open) [
  | inl opened ↦ inl (record { is_open = opened; unlimited = s.limit ∙ able.unlimited })
  | inr more ↦ inr more
]

-- the later of two calls had a cause, and so had both
pub then_cause : (a b c : State) (Commits : Trees → Type 0) (fault : StoreFault) → Survives a b Commits → HasCleanDisk b → b.faults ≤ c.faults
    → SqlHasCause b c fault → SqlHasCause a c fault
then_cause a b c Commits fault first clean later cause = has_cause a c fault (λ sql able. elim (able_or_failed a b Commits first clean able) [
  | inl still ↦ let more : MoreFaults b.faults c.faults = subst (SqlHasCause b c) sql cause still in omega (arith, more, first.counts)
  | inr more ↦ omega (arith, more, later)
])

-- and so has what comes after it
pub cause_later : (a b c : State) (Later : Trees → Type 0) (fault : StoreFault) → Survives b c Later → SqlHasCause a b fault → SqlHasCause a c fault
cause_later a b c Later fault later cause = has_cause a c fault (λ sql able. let more : MoreFaults a.faults b.faults = subst (SqlHasCause a b) sql cause able in omega (arith, more, later.counts))

-- a transaction that begins does nothing to the store
pub begun_cause : {S : Type 0} (g : Ghosts S) (old : Held S) (new : State) (fault : StoreFault) → SqlHasCause (state g (record old { in_transaction = true })) new fault
    → SqlHasCause (state g old) new fault
begun_cause g old new fault cause = has_cause (state g old) new fault (λ sql able.
    subst (SqlHasCause (state g (record old { in_transaction = true })) new) sql cause (record { is_open = able.is_open; unlimited = able.unlimited }))
