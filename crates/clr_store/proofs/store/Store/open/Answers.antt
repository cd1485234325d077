use Rattle.std.proofs.Common.{◌≡◌, ◌∙◌, Ok, ap, arith, pos, rules, sym}
use Rattle.sqlite.specs.Held.{state}
use Rattle.clr_load.specs.RowsRead.{read_version}
use Rattle.clr_load.proofs.Loading.{has_meta}
use Rattle.clr_store.proofs.There.{version_there}
use Rattle.clr_store.proofs.Versions.{never_inside, of_opening, outside, refuses, refuses_opening, two_has}
use Rattle.clr_store.proofs.store.Store.open.Given.{Over}
use Rattle.clr_store.proofs.store.Store.open.Goals as goal

-- the version that was read
is_two : (g : Over) (c : goal.In-Ok-eq2 g) → c.in-Ok-eq2.field-0 ≡ pos 2
is_two g c = search rules

pub returns-in-Err-clause-refused : goal.returns-in-Err-clause-refused
returns-in-Err-clause-refused g c clean t has = refuses_opening t c.in-Err.fault (λ is told. c.in-Err.ensures.other clean is 2 (two_has _ t has told))
    (c.in-Err.ensures.version clean t.meta (has_meta has.layout _ t has.here))

pub returns-in-Err-clause-cause : goal.returns-in-Err-clause-cause
returns-in-Err-clause-cause g c clean out meta has = c.in-Err.ensures.cause out clean meta has

pub returns-in-Err-clause-unread : goal.returns-in-Err-clause-unread
returns-in-Err-clause-unread g c clean meta has = refuses (read_version meta) c.in-Err.fault (c.in-Err.ensures.version clean meta has)

pub returns-in-Err-clause-fault : goal.returns-in-Err-clause-fault
returns-in-Err-clause-fault g c = of_opening c.in-Err.fault c.in-Err.ensures.fault

pub returns-in-Ok-clause-refused : goal.returns-in-Ok-clause-refused
returns-in-Ok-clause-refused g c clean t has =
    let told = c.in-Ok.ensures.version clean t.meta (has_meta has.layout _ t has.here) in
    search rules

pub returns-in-Err-clause-other : goal.returns-in-Err-clause-other
returns-in-Err-clause-other g c clean is has = c.in-Err.ensures.other clean is 2 has

pub returns-in-Ok-eq2-clause-laid_out : goal.returns-in-Ok-eq2-clause-laid_out
returns-in-Ok-eq2-clause-laid_out g c clean = c.in-Ok-eq2.ensures.laid_out clean 2 (is_two g c) (omega arith) (omega arith) (omega arith)

pub returns-in-Ok-eq2-clause-alone : goal.returns-in-Ok-eq2-clause-alone
returns-in-Ok-eq2-clause-alone g c clean meta has = c.in-Ok-eq2.ensures.alone clean 2 (is_two g c) (omega arith) (omega arith) (omega arith) meta has

pub returns-in-Ok-eq2-clause-there : goal.returns-in-Ok-eq2-clause-there
returns-in-Ok-eq2-clause-there g c clean whole =
    let is_open = c.in-Ok-eq2.ensures.was_open clean in
    let laid = c.in-Ok-eq2.ensures.laid_out clean 2 (is_two g c) (omega arith) (omega arith) (omega arith) in
    version_there 2 (state g.S.Store c.args.connection).now laid (c.expect_version.ensures.live is_open).0 whole (λ meta has.
    (c.in-Ok-eq2.ensures.alone clean 2 (is_two g c) (omega arith) (omega arith) (omega arith) meta has, c.in-Ok-eq2.ensures.version clean meta has ∙ ap Ok (is_two g c)))

-- ---- the rest of each clause
pub returns-in-Err-clause-inside : goal.returns-in-Err-clause-inside
returns-in-Err-clause-inside g c inside = absurd (never_inside _ c.if-not-is_autocommit.ensures.value inside)

pub returns-in-Err-clause-mode : goal.returns-in-Err-clause-mode
returns-in-Err-clause-mode g c = c.expect_version.ensures.mode (outside _ c.if-not-is_autocommit.ensures.value) ∙ sym (outside _ c.if-not-is_autocommit.ensures.value)

pub returns-in-Err-clause-bare : goal.returns-in-Err-clause-bare
returns-in-Err-clause-bare g c lacks = let e = c.in-Err.ensures.bare lacks in cc

pub returns-in-Ok-clause-inside : goal.returns-in-Ok-clause-inside
returns-in-Ok-clause-inside g c inside = absurd (never_inside _ c.if-not-is_autocommit.ensures.value inside)

pub returns-in-Ok-clause-mode : goal.returns-in-Ok-clause-mode
returns-in-Ok-clause-mode g c = c.expect_version.ensures.mode (outside _ c.if-not-is_autocommit.ensures.value) ∙ sym (outside _ c.if-not-is_autocommit.ensures.value)

pub returns-in-Ok-clause-bare : goal.returns-in-Ok-clause-bare
returns-in-Ok-clause-bare g c lacks = absurd (let e = c.in-Ok.ensures.bare lacks in cc)

pub returns-in-Ok-eq2-clause-inside : goal.returns-in-Ok-eq2-clause-inside
returns-in-Ok-eq2-clause-inside g c inside = absurd (never_inside _ c.if-not-is_autocommit.ensures.value inside)

pub returns-in-Ok-eq2-clause-mode : goal.returns-in-Ok-eq2-clause-mode
returns-in-Ok-eq2-clause-mode g c = c.expect_version.ensures.mode (outside _ c.if-not-is_autocommit.ensures.value) ∙ sym (outside _ c.if-not-is_autocommit.ensures.value)

pub returns-in-Ok-eq2-clause-bare : goal.returns-in-Ok-eq2-clause-bare
returns-in-Ok-eq2-clause-bare g c lacks = absurd (let e = c.in-Ok-eq2.ensures.bare lacks in cc)

pub returns-in-Err-clause-none : goal.returns-in-Err-clause-none
returns-in-Err-clause-none g c = c.expect_version.ensures.same

pub returns-in-Err-clause-committed : goal.returns-in-Err-clause-committed
returns-in-Err-clause-committed g c = c.expect_version.ensures.committed

pub returns-in-Err-clause-crash_none : goal.returns-in-Err-clause-crash_none
returns-in-Err-clause-crash_none g c = c.expect_version.ensures.survives

pub returns-in-Ok-clause-none : goal.returns-in-Ok-clause-none
returns-in-Ok-clause-none g c = c.expect_version.ensures.same

pub returns-in-Ok-clause-committed : goal.returns-in-Ok-clause-committed
returns-in-Ok-clause-committed g c = c.expect_version.ensures.committed

pub returns-in-Ok-clause-crash_none : goal.returns-in-Ok-clause-crash_none
returns-in-Ok-clause-crash_none g c = c.expect_version.ensures.survives

pub returns-in-Ok-clause-other : goal.returns-in-Ok-clause-other
returns-in-Ok-clause-other g c clean is has = absurd (let e = is in cc)

pub returns-in-Ok-clause-cause : goal.returns-in-Ok-clause-cause
returns-in-Ok-clause-cause g c clean out meta has = tt

pub returns-in-Ok-eq2-clause-opened : goal.returns-in-Ok-eq2-clause-opened
returns-in-Ok-eq2-clause-opened g c = c.expect_version.ensures.same

pub returns-in-Ok-eq2-clause-kept : goal.returns-in-Ok-eq2-clause-kept
returns-in-Ok-eq2-clause-kept g c = c.expect_version.ensures.committed

pub returns-in-Ok-eq2-clause-version : goal.returns-in-Ok-eq2-clause-version
returns-in-Ok-eq2-clause-version g c clean meta has = c.in-Ok-eq2.ensures.version clean meta has ∙ ap Ok (is_two g c)

pub returns-in-Ok-eq2-clause-was_open : goal.returns-in-Ok-eq2-clause-was_open
returns-in-Ok-eq2-clause-was_open g c = c.in-Ok-eq2.ensures.was_open

pub returns-in-Ok-eq2-clause-crash_opened : goal.returns-in-Ok-eq2-clause-crash_opened
returns-in-Ok-eq2-clause-crash_opened g c = c.expect_version.ensures.survives
