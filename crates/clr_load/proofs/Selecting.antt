-- A listing is no write, whatever the tables are.
use Rattle.std.proofs.Common.{◌≡◌, ℕ, Bool, true, false, if◌then◌else◌, List, [], None, Result, Ok, Err, refl, sym, subst, inl, inr}
use Rattle.std.specs.Prelude.{⊤, ◌+◌, IfOk, Option}
use Rattle.sqlite.specs.Clock.{timed as timed_row}
use Rattle.sqlite.specs.Given.{HasBegun, HasGiven, Returns}
use Rattle.sqlite.specs.Held.{Held, state}
use Rattle.sqlite.specs.Listing.{if_select, listing_schema, understood, reads_listing, is_select}
use Rattle.sqlite.specs.Order.{Row}
use Rattle.sqlite.specs.Schema.{Schema}
use Rattle.sqlite.specs.State.{State, CommitsShowing, FailsToQuery, FailsToShow, IsUnchanged, Shown, ShowsRows, IsNotRun, Survives}
use Rattle.sqlite.specs.Store.{Ghosts}
use Rattle.sqlite.specs.declared.error.Error.{Error}
use Rattle.sqlite.proofs.StateLemmas.{survives_weaker}
use Rattle.sqlite_resolve.specs.Compile.{command, compiled, first, meaning, planned, returning, small, timed, with_command}
use Rattle.sqlite_resolve.specs.Lowering.{Checked, and_then}
use Rattle.sqlite_resolve.specs.declared.compiled.Compiled.{Compiled}
use Rattle.sqlite_resolve.specs.declared.error.CompileError.{CompileError}
use Rattle.sqlite_resolve.specs.declared.error.CompileError.TheVariants.{NoSuchTable}
use Rattle.sqlite_schema.specs.declared.command.Command.{Command}
use Rattle.sqlite_schema.specs.declared.command.Returning.{Returning}
use Rattle.sqlite_tied.specs.Compute.{everything}
use Rattle.clr_load.specs.declared.table_name.TableName.{TableName}
use Rattle.clr_load.proofs.Texts.{select_returns}
use Rattle.clr_load.proofs.Staying.{unchanged_stays, undone_stays}
use Rattle.clr_load.specs.Loads.{Stays}
use Rattle.clr_load.specs.Sql.{select_sql}

-- what is understood has no RETURNING
abbrev OnlyShows : Result Compiled CompileError → Type 0
OnlyShows (Ok c) = c.returning ≡ None
OnlyShows (Err e) = ⊤

through : {P : Type 0} (r : Checked P) (next : P → Checked Compiled) → IfOk r (λ p. OnlyShows (next p)) → OnlyShows (and_then r next)
through (Ok p) next shows = shows
through (Err e) next shows = tt

ok_then : {P : Type 0} {F G : P → Type 0} (r : Checked P) → ((p : P) → F p → G p) → IfOk r F → IfOk r G
ok_then (Ok p) so h = so p h
ok_then (Err e) so h = tt

-- a text that is a SELECT
if_parsed : {P X : Type 0} (r : Checked P) (f : Schema → ℕ → P → Checked X) (x : Checked X) → ((schema : Schema) (base : ℕ) → and_then r (f schema base) ≡ x)
    → IfOk r (λ p. (schema : Schema) (base : ℕ) → f schema base p ≡ x)
if_parsed (Ok p) f x h = h
if_parsed (Err e) f x h = tt

parsed_shows : (name : TableName) → IfOk (first (select_sql name)) (λ p. (schema : Schema) (base : ℕ) → returning schema base p.statement ≡ Ok None)
parsed_shows name = if_parsed (first (select_sql name)) (λ schema base p. returning schema base p.statement) (Ok None) (select_returns name)

with_none : (r : Checked Command) (formats : List (List ℕ)) (with : List (List ℕ) × (Command × Option Returning) → Compiled) → ((plan : List (List ℕ) × (Command × Option Returning)) → (with plan).returning ≡ plan.1.1)
    → OnlyShows (and_then (and_then (and_then {A = Command} {B = Command × Option Returning} r (λ c. Ok (c, None))) (λ found. Ok (formats, found))) (λ plan. Ok (with plan)))
with_none (Ok c) formats with is = is (formats, (c, None))
with_none (Err e) formats with is = tt

planned_shows : (schema : Schema) (p : _) (with : List (List ℕ) × (Command × Option Returning) → Compiled) → with ≡ with_command p → ((base : ℕ) → returning schema base p.statement ≡ Ok None) → OnlyShows (and_then (planned schema p) (λ plan. Ok (with_command p plan)))
unfolding planned meaning
planned_shows schema p with is none =
    let formats = timed schema p.formats p.statement in
    let base = small p.names + small formats in
    subst (λ shown. OnlyShows (and_then (and_then (and_then shown (λ shown. and_then (command schema p.formats base p.statement) (λ c. Ok (c, shown)))) (λ found. Ok (formats, found))) (λ plan. Ok (with_command p plan))))
    (sym (none base)) (with_none (command schema p.formats base p.statement) formats (with_command p) (λ plan. refl))

compiled_shows : (schema : Schema) (name : TableName) → OnlyShows (compiled schema (select_sql name))
unfolding compiled
compiled_shows schema name = through (first (select_sql name)) _ (ok_then (first (select_sql name)) (λ p none. planned_shows schema p (with_command p) refl (none schema)) (parsed_shows name))

kept_shows : (b : Bool) (c : Compiled) → c.returning ≡ None → OnlyShows (if b then Ok c else Err NoSuchTable)
kept_shows true c h = h
kept_shows false c h = tt

listing_shows : (r : Result Compiled CompileError) → OnlyShows r → OnlyShows (if_select r)
listing_shows (Ok c) h = kept_shows (is_select c.command) c h
listing_shows (Err e) h = tt

only_shows : (schema : Schema) (name : TableName) → OnlyShows (understood schema (select_sql name))
unfolding understood
only_shows schema name = go (reads_listing schema (select_sql name))
  where
    go : (b : Bool) → OnlyShows (if b then if_select (compiled listing_schema (select_sql name)) else compiled schema (select_sql name))
    go true = listing_shows _ (compiled_shows listing_schema name)
    go false = compiled_shows schema name

never : (r : Result Compiled CompileError) → OnlyShows r → Returns r → ⊥
never (Ok c) none some = absurd (let h = rw none at some in cc)
never (Err e) none some = some

module _ (name : TableName) where
  -- no listing commits anything
  pub survives_listed : (old new : State) → Survives old new (CommitsShowing (select_sql name) [] old) → Survives old new (λ _. ⊥)
  unfolding CommitsShowing
  survives_listed old new = survives_weaker old new _ _ (λ _ db h. never _ (only_shows old.now.schema name) (subst Returns (sym h.1.is) h.2))

  -- what is shown leaves everything as it was
  pub shown_rests : (old new : State) (rows : List Row) → Shown (select_sql name) [] old new rows → IsUnchanged old new
  unfolding Shown
  shown_rests old new rows h =
      let none : h.0.returning ≡ None = subst OnlyShows h.1.is (only_shows old.now.schema name) in
      (subst (ShowsRows old new (select_sql name) h.0 (timed_row [] h.0.formats h.1.now) rows) none h.2).3

  -- and so does one that fails, but for a rollback
  pub failed_rests : (old new : State) (e : Error) → FailsToQuery (select_sql name) [] old new e → Stays old new
  unfolding FailsToQuery IsNotRun
  failed_rests old new e (inl (inl h)) = unchanged_stays old new h.1
  failed_rests old new e (inl (inr h)) = undone_stays old new h.3
  failed_rests old new e (inr h) =
      let none : h.0.returning ≡ None = subst OnlyShows h.1.is (only_shows old.now.schema name) in
      unchanged_stays old new (subst (FailsToShow old new (select_sql name) h.0 (timed_row [] h.0.formats h.1.now) e) none h.2).3

  -- a listing that begins is a query
  pub begun_listing : {S : Type 0} (g : Ghosts S) (old new : Held S) → HasBegun g (select_sql name) [] old new
      → HasGiven g (select_sql name) [] new [] × IsUnchanged (state g old) (state g new)
  begun_listing g old new (inl h) = h
  begun_listing g old new (inr h) = absurd (never _ (only_shows old.schema name) h.0)
