-- What is kept stays as it is.
use Rattle.std.proofs.Common.{◌∙◌, IsTrue, Result, Ok, Err, arith, inl, refl, subst, sym}
use Rattle.std.specs.Prelude.{IfOk, IsErr, OnErr, OnOk}
use Rattle.sqlite.specs.State.{State, Survives}
use Rattle.sqlite.specs.Tree.{Trees}
use Rattle.sqlite.proofs.StateLemmas.{survives_weaker}
use Rattle.clr_load.specs.Contract.{IsSaved}
use Rattle.clr_desk.specs.Commit.{Stays}

pub stays_itself : (s : State) → Stays s s
stays_itself s = record {
  now = refl;
  committed = refl;
  is_open = refl;
  crash = record {
    clean = omega arith;
    shield = λ shielded. shielded;
    counts = omega arith;
    limit = refl;
    closes = λ _ is_open. inl is_open;
    crash = λ _ trees left. inl left;
  };
}

pub stays_open : (old new : State) → Stays old new → IsTrue new.is_open → IsTrue old.is_open
stays_open old new stays is = subst IsTrue stays.is_open is

pub stays_saved : (old new : State) → Stays old new → IsSaved old → IsSaved new
stays_saved old new stays saved = (subst IsTrue (sym stays.is_open) saved.0, stays.committed ∙ saved.1 ∙ sym stays.now)

pub stays_left : (old new : State) (Left : Trees → Type 0) → Stays old new → Survives old new Left
stays_left old new Left stays = survives_weaker old new (λ _. ⊥) Left (λ clean trees none. absurd none) stays.crash

-- and after a fault too
pub still_saved : {A E : Type 0} (old new : State) (result : Result A E) → Stays old new → IsSaved old → OnErr result (IsSaved new)
still_saved old new (Ok value) stays saved = tt
still_saved old new (Err fault) stays saved = stays_saved old new stays saved

-- ---- what a call that met a fault says

pub if_ok : {A E : Type 0} (result : Result A E) (P : A → Type 0) → IsErr result → IfOk result P
if_ok (Ok value) P err = absurd (cc err)
if_ok (Err fault) P err = tt

pub on_ok : {A E : Type 0} (result : Result A E) (P : Type 0) → IsErr result → OnOk result P
on_ok (Ok value) P err = absurd (cc err)
on_ok (Err fault) P err = tt

pub on_err : {A E : Type 0} (result : Result A E) (P : Type 0) → P → OnErr result P
on_err (Ok value) P is = tt
on_err (Err fault) P is = is
