-- What `migrate` prints of tables that were not moved, and of a journal that was begun.
use Rattle.std.proofs.Common.{◌≡◌, ◌∙◌, ap, inl, inr, refl, subst, sym, ℕ, List, [], Result, Ok, Err}
use Rattle.std.specs.Prelude.{IsErrAnd, None, Option, Some, String, pos, string_bytes}
use Rattle.std.specs.Borrow.{Bor}
use Rattle.std.specs.declared.alloc.Global.{Global}
use Rattle.sqlite.specs.Held.{Held}
use Rattle.sqlite_trees.specs.declared.store.Store.{Ghosts}
use Rattle.clr_rules.specs.Register.{Register}
use Rattle.clr_rules.specs.declared.place.Place.{Place}
use Rattle.clr_print.specs.Printed.{board_text}
use Rattle.clr_desk.specs.declared.desk.Desk.{Desk}
use Rattle.clr_keeping.specs.Beginning.{IsOfBegun, PlacesAt}
use Rattle.clr_keeping.specs.Keeping.{IsNotUp, IsUp, unlogged}
use Rattle.clr_keeping.specs.TakenUp.{Logs}
use Rattle.clr_edge.specs.Visit.{Alone, Closed, Comes, Done, Ending, MovesRegister, Opening, Shutting, first_fault}
use Rattle.clr_edge.specs.declared.fault.Fault.{Fault}
use Rattle.clr_edge.proofs.Databases.{visits-as}
use Rattle.clr_edge.specs.declared.fault.Fault.TheVariants.{Memory}
use Rattle.clr_args.specs.declared.asked.MigrateArgs.{MigrateArgs}
use Rattle.clr_commands.specs.First.{board_files, first_place, made_at}
use Rattle.clr_commands.specs.Migrate.{BeginsIn, BeginsOver, BeginsWith, MigratesAt, MigratesBy, MovesUnless, PrintsBegun, PrintsMoved, journal_line}

-- the fault is passed on
pub PrintsMoved-fault : (result : Result (String Global) Fault) (fault : Fault) → IsErrAnd result (λ cause. cause ≡ fault)
    → PrintsMoved (Err fault) result
PrintsMoved-fault (Ok text) fault is = absurd is
PrintsMoved-fault (Err cause) fault is = ap Err (sym is)

-- the printed board takes the place of the files
pub board_files-is : (R : Register) (sections points staff : List ℕ) → sections ≡ board_text R (pos 0) → points ≡ [] → staff ≡ []
    → record { sections = sections; points = points; staff = staff } ≡ board_files R
board_files-is R sections points staff s p e = λ i. record { sections = s i; points = p i; staff = e i }

-- a journal was begun over a register, at its first place
pub BeginsOver-placed : {M J C T : Type 0} (g : Ghosts T) (logs : Logs M J C) (first place : Place) (path : List ℕ) (result : Result (String Global) Fault)
    (begun : Done) (old new : M) (read after : Held T) → place ≡ first → PrintsBegun place begun result → PlacesAt g logs path place begun old new read after
    → BeginsOver g logs first path result old new read after
BeginsOver-placed g logs first place path result begun old new read after is prints places =
    subst (λ (p : Place). BeginsOver g logs p path result old new read after) is (inr (begun, prints, places))

module _ {M S J C : Type 0} (logs : Logs M J C) (g : Ghosts S) (opens : Opening M S) (shuts : Shutting M) (ends : Ending M S) (moment : ℕ) (path journal : List ℕ) where
  -- the register of the database at the path got a journal
  pub begun_at : (report result : Result (String Global) Fault) (closed : Closed) (old between later new : M) (desk : Desk (Held S)) (after : Held S)
      → IsUp opens path (unlogged g) old between desk
      → BeginsOver g logs (first_place (board_files desk.book.register) (made_at moment path journal)) journal report between later desk.store after
      → ends later after closed new → result ≡ first_fault report closed
      → Comes opens shuts ends path (BeginsIn g logs moment path journal) result old new
  begun_at report result closed old between later new desk after up begun ended is = inr (record {
    before = up.before;
    after = after;
    closed = closed;
    middle = up.middle;
    later = later;
    opened = up.opened;
    mode = up.mode;
    does = record {
      report = report;
      did = inr (
        desk.book.register,
        desk.store,
        up.taken_up.1,
        subst (λ (m : M). BeginsOver g logs (first_place (board_files desk.book.register) (made_at moment path journal)) journal report m later desk.store after)
            up.taken_up.0 begun,
      );
      result_is = is;
    };
    ended = ended;
  })

  -- or it was not read, or has one
  pub unbegun_at : (result : Result (String Global) Fault) (old new : M) (fault : Fault) → IsErrAnd result (λ cause. cause ≡ fault)
      → IsNotUp opens shuts ends path (unlogged g) old new fault
      → Comes opens shuts ends path (BeginsIn g logs moment path journal) result old new
  unbegun_at (Ok value) old new fault is not = absurd is
  unbegun_at (Err told) old new fault is (inl (cause, of, shut)) = inl (cause, ap Err (is ∙ of), shut)
  unbegun_at (Err told) old new fault is (inr visit) =
      inr (visits-as opens ends path _ _ old new (λ middle before after closed later opened it. record { report = Err fault; did = inl (it.1, it.0); result_is = ap Err is }) visit)

-- what is asked for: the tables moved, or a journal
module _ {M S J C : Type 0} (logs : Logs M J C) (g : Ghosts S) (opens : Opening M S) (shuts : Shutting M) (ends : Ending M S) (args : MigrateArgs)
    (result : Result (String Global) Fault) (old new : M) where
  pub MigratesAt-moved : args.journal ≡ None → MovesUnless (Comes opens shuts ends args.database.now (Alone (MovesRegister g))) args.after result old new
      → MigratesAt logs g opens shuts ends args result old new
  MigratesAt-moved none moves = subst (λ (it : Option (Bor (List ℕ))). MigratesBy logs g opens shuts ends args.database.now it args.after result old new) (sym none) moves

  pub MigratesAt-begun : (journal : Bor (List ℕ)) → args.journal ≡ Some journal
      → BeginsWith logs g opens shuts ends args.database.now journal.now args.after result old new → MigratesAt logs g opens shuts ends args result old new
  MigratesAt-begun journal some begins =
      subst (λ (it : Option (Bor (List ℕ))). MigratesBy logs g opens shuts ends args.database.now it args.after result old new) (sym some) begins
