-- Calls inside a transaction, one after another.
use Rattle.std.proofs.Common.{◌≡◌, ◌∙◌, ap, Err, IsErrAnd, IsTrue, Ok, Result, arith, inl, refl}
use Rattle.std.specs.Prelude.{IfErr, MatchResult}
use Rattle.sqlite.specs.Held.{state}
use Rattle.sqlite.specs.State.{HasCleanDisk, State, Survives}
use Rattle.sqlite.specs.Store.{Ghosts}
use Rattle.sqlite.specs.Tree.{Trees}
use Rattle.sqlite.specs.declared.transaction.Transaction.{Transaction}
use Rattle.sqlite.proofs.StateLemmas.{survives_then}
use Rattle.clr_load.specs.Inside.{RunsInside}
use Rattle.clr_load.specs.declared.fault.StoreFault.{StoreFault}

pub survives_still : (s : State) → Survives s s (λ _. ⊥)
survives_still s = record { clean = omega arith; shield = λ shielded. shielded; counts = omega arith; limit = refl; closes = λ _ is_open. inl is_open; crash = λ _ db left. inl left }

-- what no call has done
pub runs_none : {S X : Type 0} (g : Ghosts S) (tx : Transaction S) (F : StoreFault → Type 0) (Done : X → Type 0) (Failed : StoreFault → Type 0) (x : X)
    → (IsTrue (state g tx.conn.now).in_transaction → Done x) → RunsInside g tx tx F Done Failed (Ok x)
runs_none g tx F Done Failed x done = record { same_reference = refl; step = λ _ inside. done inside; fault = tt; survives = survives_still (state g tx.conn.now) }

-- the disk is clean after a call only if it was before
pub clean_before : (a b : State) (Commits : Trees → Type 0) → Survives a b Commits → HasCleanDisk b → HasCleanDisk a
clean_before a b Commits survives clean = omega (arith, survives.clean, clean)

-- what `?` returns
pub told_as : {T : Type 0} (result : Result T StoreFault) (fault : StoreFault) → IsErrAnd result (λ it. it ≡ fault) → result ≡ Err fault
told_as (Ok value) fault is = absurd is
told_as (Err it) fault is = ap Err is

-- a crash in one of two calls leaves no more than it would in that call alone
pub both_survive : (a b c : State) → Survives a b (λ _. ⊥) → Survives b c (λ _. ⊥) → Survives a c (λ _. ⊥)
both_survive a b c first second = survives_then a b c (λ _. ⊥) (λ _. ⊥) (λ _. ⊥) (λ _ _ none. none) (λ _ _ none. none) first second

-- one call is done, and then another
pub runs_on : {S X Y Z : Type 0} (g : Ghosts S) (a b c : Transaction S) (F G H : StoreFault → Type 0) (Done : X → Type 0) (Next : Y → Type 0) (All : Z → Type 0)
    (Failed Stops Fails : StoreFault → Type 0) (x : X) (y : Y) (z : Z) → RunsInside g a b F Done Failed (Ok x) → RunsInside g b c G Next Stops (Ok y)
    → (Done x → IsTrue (state g b.conn.now).in_transaction) → (HasCleanDisk (state g b.conn.now) → Done x → Next y → All z)
    → RunsInside g a c H All Fails (Ok z)
runs_on g a b c F G H Done Next All Failed Stops Fails x y z first second inside joined = record {
  same_reference = second.same_reference ∙ first.same_reference;
  step = λ clean started.
      let early : HasCleanDisk (state g b.conn.now) = omega (arith, second.survives.clean) in
      let done = first.step early started in
      joined early done (second.step clean (inside done));
  fault = tt;
  survives = both_survive (state g a.conn.now) (state g b.conn.now) (state g c.conn.now) first.survives second.survives;
}

-- one call is done, and the next is the last
pub then_runs : {S X Y : Type 0} (g : Ghosts S) (a b c : Transaction S) (F G H : StoreFault → Type 0) (Done : X → Type 0) (Next All : Y → Type 0)
    (Failed Stops Fails : StoreFault → Type 0) (x : X) (r : Result Y StoreFault) → RunsInside g a b F Done Failed (Ok x) → RunsInside g b c G Next Stops r
    → (Done x → IsTrue (state g b.conn.now).in_transaction) → (HasCleanDisk (state g b.conn.now) → Done x → MatchResult r Next Stops → MatchResult r All Fails)
    → (IfErr r G → IfErr r H) → RunsInside g a c H All Fails r
then_runs g a b c F G H Done Next All Failed Stops Fails x r first second inside joined wider = record {
  same_reference = second.same_reference ∙ first.same_reference;
  step = λ clean started.
      let early : HasCleanDisk (state g b.conn.now) = omega (arith, second.survives.clean) in
      let done = first.step early started in
      joined early done (second.step clean (inside done));
  fault = wider second.fault;
  survives = both_survive (state g a.conn.now) (state g b.conn.now) (state g c.conn.now) first.survives second.survives;
}

-- one call is done, and then another fails
pub fails_on : {S X Y Z : Type 0} (g : Ghosts S) (a b c : Transaction S) (F G H : StoreFault → Type 0) (Done : X → Type 0) (Next : Y → Type 0) (All : Z → Type 0)
    (Failed Stops Fails : StoreFault → Type 0) (x : X) (e : StoreFault) → RunsInside g a b F Done Failed (Ok x) → RunsInside g b c G Next Stops (Err e)
    → (Done x → IsTrue (state g b.conn.now).in_transaction) → (HasCleanDisk (state g b.conn.now) → Done x → Stops e → Fails e) → (G e → H e)
    → RunsInside g a c H All Fails (Err e)
fails_on g a b c F G H Done Next All Failed Stops Fails x e first second inside joined wider = record {
  same_reference = second.same_reference ∙ first.same_reference;
  step = λ clean started.
      let early : HasCleanDisk (state g b.conn.now) = omega (arith, second.survives.clean) in
      let done = first.step early started in
      joined early done (second.step clean (inside done));
  fault = wider second.fault;
  survives = both_survive (state g a.conn.now) (state g b.conn.now) (state g c.conn.now) first.survives second.survives;
}

-- one call fails at once
pub fails_so : {S X Y : Type 0} (g : Ghosts S) (a b : Transaction S) (F G : StoreFault → Type 0) (Done : X → Type 0) (All : Y → Type 0) (Failed Fails : StoreFault → Type 0) (e : StoreFault)
    → RunsInside g a b F Done Failed (Err e) → (Failed e → Fails e) → (F e → G e) → RunsInside g a b G All Fails (Err e)
fails_so g a b F G Done All Failed Fails e first joined wider = record {
  same_reference = first.same_reference;
  step = λ clean started. joined (first.step clean started);
  fault = wider first.fault;
  survives = first.survives;
}
