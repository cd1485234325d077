use Rattle.std.proofs.Common.{ℕ, Bool, cond, List, ap₂, Result, Ok, Err}
use Rattle.std.specs.Prelude.{IfOk}
use Rattle.sqlite_disk.specs.Events.{Event, replay}
use Rattle.sqlite_wal.specs.Recovery.{Image}
use Rattle.clr_disk.proofs.host.opened.Goals as goal

abbrev image : List ℕ → List ℕ → Image
image log db = record { log = log; db = db }

abbrev seen : List ℕ → List ℕ → Bool → List Event → List ℕ
seen log db is_log history = (replay (cond is_log log db) history).seen

of_ok : {A E : Type 0} {P Q : A → Type 0} (result : Result A E) → ((a : A) → P a → Q a) → IfOk result P → IfOk result Q
of_ok (Ok a) step holds = step a holds
of_ok (Err e) step holds = tt

-- the files hold what they held before they were opened
pub returns-in-Some-clause-has : goal.returns-in-Some-clause-has
returns-in-Some-clause-has g c = of_ok c.open.result (λ files fresh.
    ap₂ image (ap₂ (seen g.S.Start.log g.S.Start.db) fresh.0.0 fresh.0.1) (ap₂ (seen g.S.Start.log g.S.Start.db) fresh.1.0 fresh.1.1))
    c.open.ensures.fresh
