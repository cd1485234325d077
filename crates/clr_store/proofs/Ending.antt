-- A transaction that is begun, run and ended.
use Rattle.std.proofs.Common.{◌≡◌, ◌∙◌, ◌⊎◌, Err, IfErr, IsTrue, None, Ok, OnOk, Result, ap, arith, inl, inr, is_ok, subst, sym, true}
use Rattle.std.specs.Prelude.{MatchResult}
use Rattle.sqlite.specs.Held.{Held, state}
use Rattle.sqlite.specs.State.{HasCleanDisk, IsRolledBack, KeepsCommit, State, Survives}
use Rattle.sqlite.specs.Store.{Ghosts}
use Rattle.sqlite.specs.Tree.{Trees}
use Rattle.sqlite.specs.declared.transaction.Transaction.{Transaction}
use Rattle.sqlite.proofs.Callers.{survives_begin}
use Rattle.sqlite.proofs.StateLemmas.{survives_then, survives_weaker}
use Rattle.clr_load.specs.Fault.{IsOfDatabase}
use Rattle.clr_load.specs.Inside.{RunsInside}
use Rattle.clr_load.specs.Tables.{Tables}
use Rattle.clr_load.specs.declared.fault.StoreFault.{StoreFault}
use Rattle.clr_load.proofs.Reopened.{left_of}
use Rattle.clr_store.specs.Transaction.{AreTurned, Concludes, FailsAs, Transacts, TurnsInto}

abbrev pub begun : {S : Type 0} → Held S → Held S
begun old = record old { in_transaction = true }

kept_by : {Done Kept : Type 0} (r : Result (Unit {0}) StoreFault) → MatchResult r (λ _. Done) (λ _. Kept) → (Done → Kept) → Kept
kept_by (Ok x) it kept = kept it
kept_by (Err e) it kept = it

done_by : {Done : Type 0} (Kept : Type 0) (r : Result (Unit {0}) StoreFault) → MatchResult r (λ _. Done) (λ _. Kept) → IsTrue (is_ok r) → Done
done_by Kept (Ok x) it ok = it
done_by Kept (Err e) it ok = absurd cc

inside_by : {Done Inside : Type 0} (Kept : Type 0) (r : Result (Unit {0}) StoreFault) → MatchResult r (λ _. Done) (λ _. Kept) → (Done → Inside) → OnOk r Inside
inside_by Kept (Ok x) it inside = inside it
inside_by Kept (Err e) it inside = tt

module _ {S : Type 0} (g : Ghosts S) (old mid end : Held S) (places : Trees → Trees → Type 0) (turned : Tables → Tables) (Done : Type 0) (did : Result (Unit {0}) StoreFault)
    (settled : IsTrue (state g old).is_open → (state g old).now ≡ (state g old).committed)
    (step : HasCleanDisk (state g mid) → MatchResult did (λ _. Done) (λ _. KeepsCommit (state g (begun old)) (state g mid)))
    (survives : Survives (state g (begun old)) (state g mid) (λ _. ⊥)) (kept : Done → KeepsCommit (state g (begun old)) (state g mid))
    (turns : Done → TurnsInto places turned (state g old).now (state g mid).now) where
  early : Survives (state g mid) (state g end) (λ trees. IsTrue (is_ok did) × (trees ≡ (state g mid).now.trees)) → HasCleanDisk (state g end) → HasCleanDisk (state g mid)
  early lands clean = omega (arith, lands.clean)

  keeps : HasCleanDisk (state g mid) → KeepsCommit (state g (begun old)) (state g mid)
  keeps clean = kept_by did (step clean) kept

  leaves : Survives (state g mid) (state g end) (λ trees. IsTrue (is_ok did) × (trees ≡ (state g mid).now.trees)) → Survives (state g old) (state g end) (AreTurned places turned (state g old).now)
  leaves lands =
      survives_then (state g old) (state g mid) (state g end) _ _ (AreTurned places turned (state g old).now) (λ _ db none. absurd none)
      (λ clean db is. subst (AreTurned places turned (state g old).now) (sym is.1) (λ t has.
      let it = turns (done_by _ did (step (early lands clean)) is.0) t has in
      (left_of (state g mid).now (turned t) it.0, it.1)))
      (survives_begin g old (state g mid) _ survives) lands

  ends : (result : Result (Unit {0}) StoreFault) → IfErr did IsOfDatabase → (Done → IsTrue mid.in_transaction) → Concludes g mid end did result
      → Transacts places (FailsAs None) (state g old) (state g end) turned result
  ends (Ok x) fault inside it = record {
    made = λ clean.
        let now = (it.committed clean).0.now_is in
        subst (TurnsInto places turned (state g old).now) (sym now) (turns (done_by _ did (step (early it.survives clean)) it.done));
    saved = λ clean. ((it.committed clean).0.is_open, (it.committed clean).0.committed_is ∙ sym (it.committed clean).0.now_is);
    none = λ _ _. tt;
    fault = tt;
    was_open = λ clean _. (keeps (early it.survives clean)).was_open (it.committed clean).0.was_open;
    crash = leaves it.survives;
  }
  ends (Err e) fault inside it = record {
    made = λ _. tt;
    saved = λ _. tt;
    none = λ clean is_open.
        let was = (back clean).was_open is_open in
        ((back clean).undone is_open).0 ∙ (keeps (early it.survives clean)).committed was ∙ sym (settled ((keeps (early it.survives clean)).was_open was));
    fault = record {
      cause = caused it.fault;
      saved = λ clean is_open. (is_open, ((back clean).undone is_open).1 ∙ sym ((back clean).undone is_open).0);
      stays_open = λ some. absurd cc;
    };
    was_open = λ clean is_open. (keeps (early it.survives clean)).was_open ((back clean).was_open is_open);
    crash = leaves it.survives;
  }
    where
      back : HasCleanDisk (state g end) → IsRolledBack (state g mid) (state g end)
      back clean = it.undone clean (inside_by _ did (step (early it.survives clean)) inside)

      caused : IsOfDatabase e ⊎ (did ≡ Err e) → IsOfDatabase e
      caused (inl is) = is
      caused (inr is) = subst (λ r. IfErr r IsOfDatabase) is fault

-- a call inside the transaction, and its end
pub transacts : {S : Type 0} (g : Ghosts S) (old : Held S) (a b : Transaction S) (end new : Held S) (places : Trees → Trees → Type 0) (turned : Tables → Tables) (Done : Held S → Type 0)
    (did result : Result (Unit {0}) StoreFault) → a.conn.now ≡ begun old → (IsTrue (state g old).is_open → (state g old).now ≡ (state g old).committed)
    → RunsInside g a b IsOfDatabase (λ _. Done a.conn.now) (λ _. KeepsCommit (state g a.conn.now) (state g b.conn.now)) did
    → (Done (begun old) → IsTrue b.conn.now.in_transaction) → (Done (begun old) → KeepsCommit (state g (begun old)) (state g b.conn.now))
    → (Done (begun old) → TurnsInto places turned (state g old).now (state g b.conn.now).now) → end ≡ new → Concludes g b.conn.now end did result
    → Transacts places (FailsAs None) (state g old) (state g new) turned result
transacts {S} g old a b end new places turned Done did result is settled runs inside kept turns same concludes =
    let step : HasCleanDisk (state g b.conn.now) → MatchResult did (λ _. Done (begun old)) (λ _. KeepsCommit (state g (begun old)) (state g b.conn.now)) = λ clean.
    subst (λ h. MatchResult did (λ _. Done h) (λ _. KeepsCommit (state g h) (state g b.conn.now))) is (runs.step clean (ap Held.in_transaction is)) in
    subst (λ h. Transacts places (FailsAs None) (state g old) (state g h) turned result) same
    (ends g old b.conn.now end places turned (Done (begun old)) did settled step (subst (λ h. Survives (state g h) (state g b.conn.now) (λ _. ⊥)) is runs.survives) kept turns
    result runs.fault inside concludes)

pub on_ok : {X P : Type 0} (r : Result X StoreFault) → P → OnOk r P
on_ok (Ok x) is = is
on_ok (Err e) is = tt

-- what was reported of a transaction is so of what is reported now: both succeeded, or both failed
pub transacts_as : {X Y F G : Type 0} {places later : Trees → Trees → Type 0} {fails : State → State → F → Type 0} {left : State → State → G → Type 0} (old new : State) (turned : Tables → Tables)
    (r : Result X F) (s : Result Y G) → is_ok r ≡ is_ok s → ((before after : Trees) → places before after → later before after) → IfErr s (left old new)
    → Transacts places fails old new turned r → Transacts later left old new turned s
transacts_as old new turned (Ok x) (Ok y) same weaker fault it = record {
  made = λ clean t has. let made = it.made clean t has in (made.0, weaker _ _ made.1);
  saved = it.saved;
  none = λ _ _. tt;
  fault = tt;
  was_open = it.was_open;
  crash = survives_weaker old new _ _ (λ _ trees left t has. let made = left t has in (made.0, weaker _ _ made.1)) it.crash;
}
transacts_as old new turned (Err e) (Err f) same weaker fault it = record {
  made = λ _. tt;
  saved = λ _. tt;
  none = it.none;
  fault = fault;
  was_open = it.was_open;
  crash = survives_weaker old new _ _ (λ _ trees left t has. let made = left t has in (made.0, weaker _ _ made.1)) it.crash;
}
transacts_as old new turned (Ok x) (Err f) same weaker fault it = absurd (cc same)
transacts_as old new turned (Err e) (Ok y) same weaker fault it = absurd (cc same)
