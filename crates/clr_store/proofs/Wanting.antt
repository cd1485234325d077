-- What a call that only compiles a statement leaves.
use Rattle.std.proofs.Common.{◌∙◌, ℕ, List, [], Result, Ok, Err, IfOk, IfErr, inl, inr, sym}
use Rattle.sqlite.specs.State.{State, IsNotRun, IsRolledBack, IsUnchanged}
use Rattle.sqlite.specs.Order.{Row}
use Rattle.sqlite.specs.declared.error.Error.{Error}
use Rattle.clr_store.specs.Transaction.{StaysSaved}

unchanged_stays : (old new : State) → IsUnchanged old new → StaysSaved old new
unchanged_stays old new same = record {
  was_open = λ _. same.0.was_open;
  saved = λ _ saved. (same.0.is_open, same.0.committed_is ∙ saved.1 ∙ sym same.0.now_is);
  none = λ _ saved. same.0.now_is;
}

rolled_stays : (old new : State) → IsRolledBack old new → StaysSaved old new
rolled_stays old new back = record {
  was_open = back.was_open;
  saved = λ is_open saved. (is_open, (back.undone is_open).1 ∙ sym (back.undone is_open).0);
  none = λ is_open saved. (back.undone is_open).0 ∙ saved.1;
}

not_run_stays : (old new : State) (sql : List ℕ) (params : Row) (e : Error) → IsNotRun old new sql params e → StaysSaved old new
unfolding IsNotRun
not_run_stays old new sql params e (inl none) = unchanged_stays old new none.1
not_run_stays old new sql params e (inr fails) = rolled_stays old new fails.3

pub compiled_stays : {X : Type 0} (Is : X → Type 0) (old new : State) (sql : List ℕ) (result : Result X Error) → IfOk result (λ s. Is s × IsUnchanged old new)
    → IfErr result (λ e. (params : Row) → IsNotRun old new sql params e) → StaysSaved old new
compiled_stays Is old new sql (Ok s) ok err = unchanged_stays old new ok.1
compiled_stays Is old new sql (Err e) ok err = not_run_stays old new sql [] e (err [])
