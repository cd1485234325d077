use Rattle.std.proofs.Common.{◌≡◌, ◌∙◌, ℕ, List, Result, Ok, Err, ap, arith, drop, min, subst, sym, take}
use Rattle.std.specs.Prelude.{IsErrAnd}
use Rattle.clr_journal.specs.declared.fault.OpenFault.{OpenFault}
use Rattle.clr_journal.specs.declared.fault.OpenFault.TheVariants.{NoMemory}
use Rattle.clr_chain.specs.Finding.{first_of, other_rules_of}
use Rattle.clr_chain.specs.OnDisk.{CountsFailed}
use Rattle.clr_chain.proofs.Ending.{front_first, front_other}
use Rattle.clr_chain.proofs.looking.first_on.Goals as goal

pub returns-clause-first : goal.returns-clause-first
returns-clause-first g c clean all =
    let seen : List ℕ = g.D.Disk.seen c.args.disk.now in
    let size : c.min.result ≡ min 4096 c.args.len = c.min.ensures in
    let bytes : c.in_ok-front.front.items ≡ take c.min.result (drop 0 seen) = c.in_ok-front.ensures.bytes clean (omega (arith, size, all)) in
    c.in_ok-first.ensures ∙ ap first_of c.deref.ensures.value ∙ front_first seen c.in_ok-front.front.items c.args.len c.min.result all size bytes

pub returns-clause-other : goal.returns-clause-other
returns-clause-other g c clean all =
    let seen : List ℕ = g.D.Disk.seen c.args.disk.now in
    let size : c.min.result ≡ min 4096 c.args.len = c.min.ensures in
    let bytes : c.in_ok-front.front.items ≡ take c.min.result (drop 0 seen) = c.in_ok-front.ensures.bytes clean (omega (arith, size, all)) in
    c.in_ok-other.ensures ∙ ap other_rules_of c.deref-2.ensures.value ∙ front_other seen c.in_ok-front.front.items c.args.len c.min.result all size bytes

pub returns-clause-counts : goal.returns-clause-counts
returns-clause-counts g c all =
    let size : c.min.result ≡ min 4096 c.args.len = c.min.ensures in
    c.in_ok-front.ensures.counts (λ clean. let whole = all clean in omega (arith, size, whole))

-- memory that runs out is no failure of the disk
memory_counts : {T : Type 0} (result : Result T OpenFault) (old new : ℕ) → IsErrAnd result (λ fault. fault ≡ NoMemory) → new ≡ old → CountsFailed result old new
memory_counts (Ok value) old new is same = same
memory_counts {T} (Err fault) old new is same =
    let fails : OpenFault → Result T OpenFault = λ f. Err f in
    subst (λ f. CountsFailed (fails f) old new) (sym is) same

pub returns-in_err-other-clause-counts : goal.returns-in_err-other-clause-counts
returns-in_err-other-clause-counts g c all =
    let size : c.min.result ≡ min 4096 c.args.len = c.min.ensures in
    let same : g.D.Disk.faults c.part_of.new.disk ≡ g.D.Disk.faults c.args.disk.now = c.in_ok-front.ensures.counts (λ clean. let whole = all clean in omega (arith, size, whole)) in
    memory_counts c.from_residual-in_err-other.result (g.D.Disk.faults c.args.disk.now) (g.D.Disk.faults c.part_of.new.disk) c.from_residual-in_err-other.ensures.1 same
