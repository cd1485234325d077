use Rattle.std.proofs.Common.{inl, ℕ, subst}
use Rattle.std.specs.Prelude.{IfSome, Option, Some, Vec}
use Rattle.std.specs.declared.alloc.Global.{Global}
use Rattle.clr_keeping.specs.Parts.{IsNoPart, IsOfPart, IsUnreadOr, ReadsLine, left_in}
use Rattle.clr_keeping.proofs.BrokenParts.{names_rules, no_line, unread_kind}
use Rattle.clr_keeping.proofs.PartLines.{passed_on}
use Rattle.clr_keeping.proofs.parts.opened_part.Goals as goal

-- it has a line, by these rules
pub returns-in_ok-expect_rules-in-Some-clause-line : goal.returns-in_ok-expect_rules-in-Some-clause-line
returns-in_ok-expect_rules-in-Some-clause-line g c =
    let bytes = g.O.Opens.bytes_at c.args.paths.now c.args.path.now in
    let after = left_in g.O.File.Read.remaining c.in_ok-part.part in
    subst (λ (o : Option (Vec ℕ Global)). IfSome bytes (ReadsLine o after)) c.in-Some.is c.in_ok-part.ensures.line

-- it was not read
pub returns-in_err-part-clause-fault : goal.returns-in_err-part-clause-fault
returns-in_err-part-clause-fault g c = passed_on c.from_residual.result _ IsOfPart c.from_residual.ensures.1 (unread_kind _ c.in_err-part.ensures.fault)

pub returns-in_err-part-clause-refused : goal.returns-in_err-part-clause-refused
returns-in_err-part-clause-refused g c =
    let bytes = g.O.Opens.bytes_at c.args.paths.now c.args.path.now in
    passed_on c.from_residual.result _ (IsUnreadOr IsNoPart bytes) c.from_residual.ensures.1 (inl c.in_err-part.ensures.fault)

-- its line names other rules
pub returns-in_err-expect_rules-in-Some-clause-refused : goal.returns-in_err-expect_rules-in-Some-clause-refused
returns-in_err-expect_rules-in-Some-clause-refused g c =
    let bytes = g.O.Opens.bytes_at c.args.paths.now c.args.path.now in
    let after = left_in g.O.File.Read.remaining c.in_ok-part.part in
    let reads : IfSome bytes (ReadsLine (Some c.in-Some.line) after) =
    subst (λ (o : Option (Vec ℕ Global)). IfSome bytes (ReadsLine o after)) c.in-Some.is c.in_ok-part.ensures.line in
    passed_on c.from_residual-in_err-expect_rules-in-Some.result _ (IsUnreadOr IsNoPart bytes) c.from_residual-in_err-expect_rules-in-Some.ensures.1
    (names_rules bytes after c.in-Some.line c.deref.result.now _ c.deref.ensures.value reads c.in_err-expect_rules-in-Some.ensures.fault)

-- it has none
pub returns-in-None-clause-refused : goal.returns-in-None-clause-refused
returns-in-None-clause-refused g c =
    let bytes = g.O.Opens.bytes_at c.args.paths.now c.args.path.now in
    let after = left_in g.O.File.Read.remaining c.in_ok-part.part in
    no_line bytes after (subst (λ (o : Option (Vec ℕ Global)). IfSome bytes (ReadsLine o after)) c.in-None.is c.in_ok-part.ensures.line)
