-- A register that was read with its place: nothing more was changed as the place was read.
use Rattle.std.proofs.Common.{◌≡◌, ◌∙◌, ap, inl, inr, subst, sym, ℕ, List, Result, Ok, Err}
use Rattle.std.specs.Prelude.{IfErr, IfOk, IsErrAnd, None, Some}
use Rattle.sqlite.specs.Held.{Held}
use Rattle.sqlite_trees.specs.declared.store.Store.{Ghosts}
use Rattle.clr_rules.specs.Good.{IsGood}
use Rattle.clr_rules.specs.Register.{Register}
use Rattle.clr_desk.specs.declared.desk.Desk.{Desk}
use Rattle.clr_keeping.specs.Keeping.{IsNotUp, IsReadFrom, IsUp, plain}
use Rattle.clr_keeping.specs.TakenUp.{IsOfTakingUp}
use Rattle.clr_edge.specs.Visit.{Closed, Comes, Ending, Opening, Shutting}
use Rattle.clr_edge.specs.declared.fault.Fault.{Fault}
use Rattle.clr_edge.proofs.Databases.{visits-as}
use Rattle.clr_keeping.proofs.TakenUp.{from_on_stays, place_on_stays, unplaced_on, unsuited_on}
use Rattle.clr_commands.specs.Verify.{IsPlacedRead, IsRead, Placed, ReadsPlaced}

-- ---- the visit

module _ {M S : Type 0} (g : Ghosts S) (opens : Opening M S) (shuts : Shutting M) (ends : Ending M S) (path : List ℕ) where
  -- a register was taken up from the database at a path, its place read, and the database closed
  pub came : (told : Result Placed Fault) (old between new : M) (desk : Desk (Held S)) (after : Held S) (closed : Closed)
      → IsUp opens path (plain g) old between desk → IsPlacedRead g desk.store desk.book.register told after
      → ends between after closed new → Comes opens shuts ends path (ReadsPlaced g) told old new
  came told old between new desk after closed up placed ended = inr (record {
    before = up.before;
    after = after;
    closed = closed;
    middle = up.middle;
    later = between;
    opened = up.opened;
    mode = up.mode;
    does = (up.taken_up.0, by told placed);
    ended = ended;
  })
    where
      read : IsReadFrom g up.before desk.store desk.book.register
      read = up.taken_up.1

      by : (it : Result Placed Fault) → IsPlacedRead g desk.store desk.book.register it after → IsRead g it up.before after
      by (Ok found) (register, has, stays) = (
        subst (λ (R : Register). IsReadFrom g up.before after R) (sym register) (from_on_stays g up.before desk.store desk.book.register read after stays),
        place_on_stays g up.before desk.store after read.read stays (Some found.1) has,
      )
      by (Err fault) (stays, inl lacks) = inr (inl (unplaced_on g up.before desk.store desk.book.register read after fault stays lacks))
      by (Err fault) (stays, inr (is, none)) = inr (inr (is, unsuited_on g up.before desk.store desk.book.register read after None stays none))

  -- it was not taken up
  pub not_came : (result : Result Placed Fault) (old new : M) (fault : Fault) → IsErrAnd result (λ cause. cause ≡ fault)
      → IsNotUp opens shuts ends path (plain g) old new fault → Comes opens shuts ends path (ReadsPlaced g) result old new
  not_came (Ok value) old new fault is not = absurd is
  not_came (Err told) old new fault is (inl (cause, of, shut)) = inl (cause, ap Err (is ∙ of), shut)
  not_came (Err told) old new fault is (inr visit) =
      inr (visits-as opens ends path _ _ old new (λ middle before after closed later opened it.
      (it.0, subst (λ (f : Fault). IsRead g (Err f) before after) (sym is) (inl it.1))) visit)

-- what was read of a good register is good
pub good_read : {S : Type 0} (g : Ghosts S) (desk : Held S) (R : Register) (after : Held S) (told : Result Placed Fault) → IsGood R → IsPlacedRead g desk R told after
    → IfOk told (λ read. IsGood read.0.register)
good_read g desk R after (Ok read) good is = subst (λ (Q : Register). IsGood Q) (sym is.0) good
good_read g desk R after (Err fault) good is = tt

-- a fault of taking up is passed on
pub not_taken : {T : Type 0} (result : Result T Fault) (fault : Fault) → IsErrAnd result (λ cause. cause ≡ fault) → IsOfTakingUp fault → IfErr result IsOfTakingUp
not_taken (Ok value) fault is of = tt
not_taken (Err cause) fault is of = subst (λ (f : Fault). IsOfTakingUp f) (sym is) of
