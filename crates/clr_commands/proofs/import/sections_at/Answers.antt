use Rattle.std.proofs.Common.{ap, refl, ℕ}
use Rattle.std.specs.Prelude.{Vec}
use Rattle.std.specs.declared.alloc.Global.{Global}
use Rattle.clr_net.specs.declared.section.SectionRow.{SectionRow}
use Rattle.clr_csv.specs.Sections.{sections_of}
use Rattle.clr_edge.specs.declared.fault.ImportFile.TheVariants.{Sections}
use Rattle.clr_commands.proofs.ReadTexts.{gives-passed, known-bytes, known-fault, known-rows, none-cause, sections-long, told-as, unread-fault}
use Rattle.clr_commands.proofs.RunAnswers.{passed_cause}
use Rattle.clr_commands.proofs.import.sections_at.Goals as goal

-- the bytes could not be read
pub returns-in_err-bytes-clause-rows : goal.returns-in_err-bytes-clause-rows
returns-in_err-bytes-clause-rows g c =
    gives-passed Sections sections_of (λ (read : Vec SectionRow Global × Vec ℕ Global). read.0.items) (g.O.Opens.bytes_at c.args.paths.now c.args.path.now) _ _ c.from_residual.ensures.1
    (unread-fault Sections sections_of (g.O.Opens.bytes_at c.args.paths.now c.args.path.now) _ _ sections-long c.in_err-bytes.ensures.bytes refl)

pub returns-in_err-bytes-clause-cause : goal.returns-in_err-bytes-clause-cause
returns-in_err-bytes-clause-cause g c = passed_cause _ _ _ _ c.in_err-bytes.ensures.cause c.from_residual.ensures.1

-- they give no rows
pub returns-in_err-rows-clause-rows : goal.returns-in_err-rows-clause-rows
returns-in_err-rows-clause-rows g c =
    gives-passed Sections sections_of (λ (read : Vec SectionRow Global × Vec ℕ Global). read.0.items) (g.O.Opens.bytes_at c.args.paths.now c.args.path.now) _ _ c.from_residual-in_err-rows.ensures.1
    (known-fault Sections sections_of (g.O.Opens.bytes_at c.args.paths.now c.args.path.now) c.in_ok-bytes.bytes.items c.as_slice.result.now _ (known-bytes (g.O.Opens.bytes_at c.args.paths.now c.args.path.now) c.in_ok-bytes.bytes.items _ c.in_ok-bytes.ensures.bytes) c.as_slice.ensures.value c.in_err-rows.ensures.rows)

pub returns-in_err-rows-clause-cause : goal.returns-in_err-rows-clause-cause
returns-in_err-rows-clause-cause g c = none-cause _ _ _ _ c.from_residual-in_err-rows.ensures.1 c.in_err-rows.ensures.read

-- or these
pub returns-clause-rows : goal.returns-clause-rows
returns-clause-rows g c =
    known-rows Sections sections_of (g.O.Opens.bytes_at c.args.paths.now c.args.path.now) c.in_ok-bytes.bytes.items c.in_ok-rows.rows.items (known-bytes (g.O.Opens.bytes_at c.args.paths.now c.args.path.now) c.in_ok-bytes.bytes.items _ c.in_ok-bytes.ensures.bytes)
    (told-as Sections sections_of c.as_slice.result.now c.in_ok-bytes.bytes.items _ c.as_slice.ensures.value c.in_ok-rows.ensures.rows)

pub returns-clause-text : goal.returns-clause-text
returns-clause-text g c =
    told-as Sections sections_of c.as_slice.result.now c.in_ok-bytes.bytes.items _ c.as_slice.ensures.value c.in_ok-rows.ensures.rows

pub returns-clause-known : goal.returns-clause-known
returns-clause-known g c = known-bytes (g.O.Opens.bytes_at c.args.paths.now c.args.path.now) c.in_ok-bytes.bytes.items _ c.in_ok-bytes.ensures.bytes
