use Rattle.std.proofs.Common.{◌+◌, ap, inr, List, drop, map, ℕ}
use Rattle.std.specs.Borrow.{Bor}
use Rattle.std.specs.Prelude.{Option}
use Rattle.std.proofs.lemmas.List.{drop_all, drop_more}
use Rattle.std.proofs.lemmas.Option.{slice_get-get_or}
use Rattle.clr_keeping.specs.Journal.{FailsAny, IsOfPrinting, all_known}
use Rattle.clr_keeping.specs.Parts.{left_in}
use Rattle.clr_edge.specs.Paths.{at_paths}
use Rattle.clr_keeping.specs.Printing.{FailsMore}
use Rattle.clr_keeping.proofs.PartLines.{later-part, passed_on}
use Rattle.clr_keeping.proofs.PrintedParts.{fails_any, parts_all, parts_cut, parts_more, parts_none, parts_stop}
use Rattle.clr_keeping.proofs.PrintedJournal.{part_other}
use Rattle.clr_keeping.proofs.journal.print_parts.Goals as goal

pub loop-path-init : goal.loop-path-init
loop-path-init g c =
    parts_none (all_known (map (λ (path : Bor (List ℕ)). g.O.Opens.bytes_at c.args.paths.now path.now) c.args.parts.now)) c.args.printing (g.W.CountedWrite.stream c.args.output.now)

-- one more was printed
pub loop-path-preserved : goal.loop-path-preserved
loop-path-preserved g c =
    let known : List (Bor (List ℕ)) → Option (List (List ℕ)) = λ l. all_known (map (λ (path : Bor (List ℕ)). g.O.Opens.bytes_at c.args.paths.now path.now) l) in
    let parts = c.args.parts.now in
    let i = c.loop-path.path-index in
    parts_more (known parts) (known (drop i parts)) c.args.printing c.loop-path.printing (g.W.CountedWrite.stream c.args.output.now) (g.W.CountedWrite.stream c.loop-path.output)
    c.loop-path.invariant _ (map (λ (path : Bor (List ℕ)). g.O.Opens.bytes_at c.args.paths.now path.now) (drop (i + 1) parts))
    (ap known (drop_more parts i _ c.loop-path-test.true)) c.next_part.new.walk (left_in g.O.File.Read.remaining c.in_ok-part.part) c.in_ok-part.ensures.goes_on
    _ (g.W.CountedWrite.stream c.print_part.new.output) c.in_ok-printing.ensures.printed c.next_part.ensures.id

-- all were
pub returns-clause-printed : goal.returns-clause-printed
returns-clause-printed g c =
    let known : List (Bor (List ℕ)) → Option (List (List ℕ)) = λ l. all_known (map (λ (path : Bor (List ℕ)). g.O.Opens.bytes_at c.args.paths.now path.now) l) in
    let parts = c.args.parts.now in
    let i = c.loop-path.path-index in
    parts_all (known parts) (known (drop i parts)) c.args.printing c.loop-path.printing (g.W.CountedWrite.stream c.args.output.now) (g.W.CountedWrite.stream c.loop-path.output)
    c.loop-path.invariant (ap known (drop_all i parts c.loop-path-test.false))

-- the next does not go on
pub returns-in_err-part-clause-failed : goal.returns-in_err-part-clause-failed
returns-in_err-part-clause-failed g c =
    let known : List (Bor (List ℕ)) → Option (List (List ℕ)) = λ l. all_known (map (λ (path : Bor (List ℕ)). g.O.Opens.bytes_at c.args.paths.now path.now) l) in
    let parts = c.args.parts.now in
    let old = g.W.CountedWrite.stream c.args.output.now in
    let new = g.W.CountedWrite.stream c.loop-path.output in
    passed_on c.from_residual.result _ (λ fault. FailsMore (known parts) c.args.printing old fault new) c.from_residual.ensures.1
    (parts_stop (known parts) (known (drop c.loop-path.path-index parts)) c.args.printing c.loop-path.printing old new c.loop-path.invariant _
    (map (λ (path : Bor (List ℕ)). g.O.Opens.bytes_at c.args.paths.now path.now) (drop (c.loop-path.path-index + 1) parts)) _
    (ap known (drop_more parts c.loop-path.path-index _ c.loop-path-test.true)) (part_other _ c.in_err-part.ensures.fault) c.in_err-part.ensures.refused)

pub returns-in_err-part-clause-fault : goal.returns-in_err-part-clause-fault
returns-in_err-part-clause-fault g c = passed_on c.from_residual.result _ IsOfPrinting c.from_residual.ensures.1 (inr c.in_err-part.ensures.fault)

pub returns-in_err-part-clause-unread : goal.returns-in_err-part-clause-unread
returns-in_err-part-clause-unread g c =
    let at = at_paths g.O.File.Read.remaining g.O.File.CountedRead.failure_count (g.O.Opens.bytes_at c.args.paths.now) in
    let parts = c.args.parts.now in
    let i = c.loop-path.path-index in
    passed_on c.from_residual.result _ (FailsAny at parts) c.from_residual.ensures.1
    (fails_any at parts i _ _ (slice_get-get_or parts i _ c.loop-path-test.true) c.in_err-part.ensures.unread)

-- it was not printed
pub returns-in_err-printing-clause-failed : goal.returns-in_err-printing-clause-failed
returns-in_err-printing-clause-failed g c =
    let known : List (Bor (List ℕ)) → Option (List (List ℕ)) = λ l. all_known (map (λ (path : Bor (List ℕ)). g.O.Opens.bytes_at c.args.paths.now path.now) l) in
    let parts = c.args.parts.now in
    let i = c.loop-path.path-index in
    let old = g.W.CountedWrite.stream c.args.output.now in
    let new = g.W.CountedWrite.stream c.print_part.new.output in
    passed_on c.from_residual-in_err-printing.result _ (λ fault. FailsMore (known parts) c.args.printing old fault new) c.from_residual-in_err-printing.ensures.1
    (parts_cut (known parts) (known (drop i parts)) c.args.printing c.loop-path.printing old (g.W.CountedWrite.stream c.loop-path.output) c.loop-path.invariant _
    (map (λ (path : Bor (List ℕ)). g.O.Opens.bytes_at c.args.paths.now path.now) (drop (i + 1) parts))
    (ap known (drop_more parts i _ c.loop-path-test.true)) c.next_part.new.walk (left_in g.O.File.Read.remaining c.in_ok-part.part) c.in_ok-part.ensures.goes_on _ new
    c.in_err-printing.ensures.failed)

pub returns-in_err-printing-clause-unread : goal.returns-in_err-printing-clause-unread
returns-in_err-printing-clause-unread g c =
    let at = at_paths g.O.File.Read.remaining g.O.File.CountedRead.failure_count (g.O.Opens.bytes_at c.args.paths.now) in
    let parts = c.args.parts.now in
    let i = c.loop-path.path-index in
    passed_on c.from_residual-in_err-printing.result _ (FailsAny at parts) c.from_residual-in_err-printing.ensures.1
    (fails_any at parts i _ _ (slice_get-get_or parts i _ c.loop-path-test.true)
    (later-part g.O.File.Read.remaining g.O.File.CountedRead.failure_count _ c.in_ok-part.part.source _ c.in_ok-part.ensures.opened c.in_err-printing.ensures.unread))
