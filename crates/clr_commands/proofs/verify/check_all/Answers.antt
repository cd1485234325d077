use Rattle.std.proofs.Common.{◌≡◌, ap, subst, sym, ℕ, true, List, map, drop, ◌+◌, inl, inr}
use Rattle.std.specs.Borrow.{Bor}
use Rattle.std.proofs.lemmas.Option.{slice_get-get_or}
use Rattle.std.proofs.lemmas.List.{drop_all, drop_more}
use Rattle.clr_chain.specs.First.{read_first}
use Rattle.clr_chain.specs.Walking.{part_of}
use Rattle.clr_keeping.specs.Journal.{all_known}
use Rattle.clr_keeping.specs.Parts.{left_in}
use Rattle.clr_edge.specs.declared.fault.Fault.{Fault}
use Rattle.clr_edge.specs.Paths.{at_paths}
use Rattle.clr_commands.specs.Verify.{FailsFrom, IsRefusedBy}
use Rattle.clr_commands.proofs.CheckedParts.{parts_more, parts_none, parts_said, passed_check}
use Rattle.clr_keeping.proofs.PartLines.{later-part, passed_on}
use Rattle.clr_keeping.proofs.PrintedParts.{fails_any}
use Rattle.clr_keeping.proofs.BrokenParts.{no_next}
use Rattle.clr_commands.proofs.RefusedParts.{check_any, first_by, if_err, next_refused, part_by, part_stops, said_any, said_refused}
use Rattle.clr_commands.proofs.verify.check_all.Goals as goal

-- the first part was checked
pub loop-path-init : goal.loop-path-init
loop-path-init g c =
    parts_none (left_in g.O.File.Read.remaining c.args.part) (all_known (map (λ (path : Bor (List ℕ)). g.O.Opens.bytes_at c.args.paths.now path.now) c.args.parts.now))
    c.args.checking c.in_ok-checking.checking c.in_ok-checking.ensures.ready c.in_ok-checking.ensures.id c.in_ok-checking.ensures.checked

-- one more was
pub loop-path-preserved : goal.loop-path-preserved
loop-path-preserved g c =
    let known = λ (parts : List (Bor (List ℕ))). all_known (map (λ (path : Bor (List ℕ)). g.O.Opens.bytes_at c.args.paths.now path.now) parts) in
    let walk = c.loop-path.checking.walk in
    parts_more (left_in g.O.File.Read.remaining c.args.part) (known c.args.parts.now) (known (drop c.loop-path.path-index c.args.parts.now)) c.args.checking
    c.loop-path.checking c.loop-path.invariant _
    (map (λ (path : Bor (List ℕ)). g.O.Opens.bytes_at c.args.paths.now path.now) (drop (c.loop-path.path-index + 1) c.args.parts.now))
    c.in_ok-part.line (left_in g.O.File.Read.remaining c.in_ok-part.part) c.part.new.self c.in_ok-checking-2.checking
    (ap known (drop_more c.args.parts.now c.loop-path.path-index _ c.loop-path-test.true)) c.in_ok-part.ensures.line
    (subst (λ (t : List ℕ). (true, c.part.new.self.walk.end) ≡ part_of walk.id walk.end (read_first t)) c.deref.ensures.value c.in_default.ensures.goes_on)
    c.part.ensures.id c.in_default.ensures.went c.in_default.ensures.went_from c.in_ok-checking-2.ensures.ready c.in_ok-checking-2.ensures.id
    c.in_ok-checking-2.ensures.checked

-- one was not opened
pub returns-in_err-part-clause-fault : goal.returns-in_err-part-clause-fault
returns-in_err-part-clause-fault g c = passed_check _ _ c.from_residual-in_err-part.ensures.1 (inl c.in_err-part.ensures.fault)

-- or its first line was refused
pub returns-in-Err-clause-fault : goal.returns-in-Err-clause-fault
returns-in-Err-clause-fault g c = inr (inr (c.in-Err.fault, c.of_check.ensures))

-- all were
pub returns-clause-checked : goal.returns-clause-checked
returns-clause-checked g c =
    let known = λ (parts : List (Bor (List ℕ))). all_known (map (λ (path : Bor (List ℕ)). g.O.Opens.bytes_at c.args.paths.now path.now) parts) in
    parts_said (left_in g.O.File.Read.remaining c.args.part) (known c.args.parts.now) (known (drop c.loop-path.path-index c.args.parts.now)) c.args.checking
    c.loop-path.checking c.loop-path.invariant c.end.result c.said.result
    (ap known (drop_all c.loop-path.path-index c.args.parts.now c.loop-path-test.false)) c.said.ensures.yes c.end.ensures.yes c.end.ensures.yes_from

-- why they were not
pub returns-clause-refused : goal.returns-clause-refused
returns-clause-refused g c =
    let known = λ (parts : List (Bor (List ℕ))). all_known (map (λ (path : Bor (List ℕ)). g.O.Opens.bytes_at c.args.paths.now path.now) parts) in
    if_err c.said.result (λ fault no.
    said_refused (left_in g.O.File.Read.remaining c.args.part) (known c.args.parts.now) (known (drop c.loop-path.path-index c.args.parts.now)) c.args.checking
    c.loop-path.checking c.loop-path.invariant c.end.result fault
    (ap known (drop_all c.loop-path.path-index c.args.parts.now c.loop-path-test.false)) no c.end.ensures.refused c.end.ensures.refused_from c.end.ensures.of_run) c.said.ensures.no

pub returns-in_err-checking-clause-refused : goal.returns-in_err-checking-clause-refused
returns-in_err-checking-clause-refused g c =
    let known = λ (parts : List (Bor (List ℕ))). all_known (map (λ (path : Bor (List ℕ)). g.O.Opens.bytes_at c.args.paths.now path.now) parts) in
    let left = left_in g.O.File.Read.remaining c.args.part in
    passed_on _ _ (IsRefusedBy c.args.checking left (known c.args.parts.now)) c.from_residual.ensures.1
    (first_by left (known c.args.parts.now) c.args.checking _ c.in_err-checking.ensures.refused)

pub returns-in_err-part-clause-refused : goal.returns-in_err-part-clause-refused
returns-in_err-part-clause-refused g c =
    let known = λ (parts : List (Bor (List ℕ))). all_known (map (λ (path : Bor (List ℕ)). g.O.Opens.bytes_at c.args.paths.now path.now) parts) in
    let left = left_in g.O.File.Read.remaining c.args.part in
    let walk = c.loop-path.checking.walk in
    passed_on _ _ (IsRefusedBy c.args.checking left (known c.args.parts.now)) c.from_residual-in_err-part.ensures.1
    (next_refused left (known c.args.parts.now) (known (drop c.loop-path.path-index c.args.parts.now)) c.args.checking c.loop-path.checking c.loop-path.invariant _
    (map (λ (path : Bor (List ℕ)). g.O.Opens.bytes_at c.args.paths.now path.now) (drop (c.loop-path.path-index + 1) c.args.parts.now)) _
    (ap known (drop_more c.args.parts.now c.loop-path.path-index _ c.loop-path-test.true))
    (no_next walk.id walk.end _ _ c.in_err-part.ensures.refused))

pub returns-in-Err-clause-refused : goal.returns-in-Err-clause-refused
returns-in-Err-clause-refused g c =
    let known = λ (parts : List (Bor (List ℕ))). all_known (map (λ (path : Bor (List ℕ)). g.O.Opens.bytes_at c.args.paths.now path.now) parts) in
    let left = left_in g.O.File.Read.remaining c.args.part in
    let walk = c.loop-path.checking.walk in
    subst (λ (f : Fault). IsRefusedBy c.args.checking left (known c.args.parts.now) f) (sym c.of_check.ensures)
    (next_refused left (known c.args.parts.now) (known (drop c.loop-path.path-index c.args.parts.now)) c.args.checking c.loop-path.checking c.loop-path.invariant _
    (map (λ (path : Bor (List ℕ)). g.O.Opens.bytes_at c.args.paths.now path.now) (drop (c.loop-path.path-index + 1) c.args.parts.now)) _
    (ap known (drop_more c.args.parts.now c.loop-path.path-index _ c.loop-path-test.true))
    (part_stops walk.id walk.end _ (left_in g.O.File.Read.remaining c.in_ok-part.part) c.in_ok-part.line c.deref.result.now c.in-Err.fault c.deref.ensures.value
    c.in_ok-part.ensures.line c.in_ok-part.ensures.rules c.in-Err.ensures.refused))

pub returns-in_err-checking-2-clause-refused : goal.returns-in_err-checking-2-clause-refused
returns-in_err-checking-2-clause-refused g c =
    let known = λ (parts : List (Bor (List ℕ))). all_known (map (λ (path : Bor (List ℕ)). g.O.Opens.bytes_at c.args.paths.now path.now) parts) in
    let walk = c.loop-path.checking.walk in
    passed_on _ _ (IsRefusedBy c.args.checking (left_in g.O.File.Read.remaining c.args.part) (known c.args.parts.now)) c.from_residual-in_err-checking-2.ensures.1
    (part_by (left_in g.O.File.Read.remaining c.args.part) (known c.args.parts.now) (known (drop c.loop-path.path-index c.args.parts.now)) c.args.checking
    c.loop-path.checking c.loop-path.invariant _
    (map (λ (path : Bor (List ℕ)). g.O.Opens.bytes_at c.args.paths.now path.now) (drop (c.loop-path.path-index + 1) c.args.parts.now))
    c.in_ok-part.line (left_in g.O.File.Read.remaining c.in_ok-part.part) c.part.new.self _
    (ap known (drop_more c.args.parts.now c.loop-path.path-index _ c.loop-path-test.true)) c.in_ok-part.ensures.line
    (subst (λ (t : List ℕ). (true, c.part.new.self.walk.end) ≡ part_of walk.id walk.end (read_first t)) c.deref.ensures.value c.in_default.ensures.goes_on)
    c.in_default.ensures.went c.in_default.ensures.went_from c.in_err-checking-2.ensures.refused)

-- why one was not read
pub returns-clause-unread : goal.returns-clause-unread
returns-clause-unread g c =
    let at = at_paths g.O.File.Read.remaining g.O.File.CountedRead.failure_count (g.O.Opens.bytes_at c.args.paths.now) in
    if_err c.said.result (λ fault no. inr (said_any at c.args.parts.now c.end.result fault no)) c.said.ensures.no

pub returns-in_err-checking-clause-unread : goal.returns-in_err-checking-clause-unread
returns-in_err-checking-clause-unread g c =
    let at = at_paths g.O.File.Read.remaining g.O.File.CountedRead.failure_count (g.O.Opens.bytes_at c.args.paths.now) in
    passed_on _ _ (FailsFrom g.O.File.CountedRead.failure_count c.args.part.source at c.args.parts.now) c.from_residual.ensures.1 (inl c.in_err-checking.ensures.unread)

pub returns-in_err-part-clause-unread : goal.returns-in_err-part-clause-unread
returns-in_err-part-clause-unread g c =
    let at = at_paths g.O.File.Read.remaining g.O.File.CountedRead.failure_count (g.O.Opens.bytes_at c.args.paths.now) in
    let parts = c.args.parts.now in
    let i = c.loop-path.path-index in
    passed_on _ _ (FailsFrom g.O.File.CountedRead.failure_count c.args.part.source at parts) c.from_residual-in_err-part.ensures.1
    (inr (fails_any at parts i _ _ (slice_get-get_or parts i _ c.loop-path-test.true) c.in_err-part.ensures.unread))

pub returns-in-Err-clause-unread : goal.returns-in-Err-clause-unread
returns-in-Err-clause-unread g c =
    let at = at_paths g.O.File.Read.remaining g.O.File.CountedRead.failure_count (g.O.Opens.bytes_at c.args.paths.now) in
    inr (check_any at c.args.parts.now c.in-Err.fault c.of_check.result c.of_check.ensures)

pub returns-in_err-checking-2-clause-unread : goal.returns-in_err-checking-2-clause-unread
returns-in_err-checking-2-clause-unread g c =
    let at = at_paths g.O.File.Read.remaining g.O.File.CountedRead.failure_count (g.O.Opens.bytes_at c.args.paths.now) in
    let parts = c.args.parts.now in
    let i = c.loop-path.path-index in
    passed_on _ _ (FailsFrom g.O.File.CountedRead.failure_count c.args.part.source at parts) c.from_residual-in_err-checking-2.ensures.1
    (inr (fails_any at parts i _ _ (slice_get-get_or parts i _ c.loop-path-test.true)
    (later-part g.O.File.Read.remaining g.O.File.CountedRead.failure_count _ c.in_ok-part.part.source _ c.in_ok-part.ensures.opened c.in_err-checking-2.ensures.unread)))
