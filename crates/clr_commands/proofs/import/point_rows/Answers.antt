use Rattle.std.proofs.Common.{◌≡◌, ◌∙◌, ap, subst, sym, ℕ, List}
use Rattle.std.specs.Borrow.{Bor}
use Rattle.clr_stream.specs.Counted.{counted_inner}
use Rattle.clr_csv.specs.Points.{points_of}
use Rattle.clr_edge.specs.Fault.{IsOfFile}
use Rattle.clr_edge.specs.Files.{told_of}
use Rattle.clr_edge.specs.declared.fault.Fault.{Fault}
use Rattle.clr_edge.specs.declared.fault.ImportFile.TheVariants.{Points}
use Rattle.clr_commands.proofs.ReadTexts.{memory-gives, memory-of_file, memory-read, read-as}
use Rattle.clr_commands.proofs.import.point_rows.Goals as goal

pub returns-in-Ok-clause-rows : goal.returns-in-Ok-clause-rows
returns-in-Ok-clause-rows c =
    let same : (counted_inner c.new.result).now ≡ c.args.bytes.now = ap (λ (b : Bor (List ℕ)). b.now) c.new.ensures.inner in
    ap (told_of Points) (read-as points_of _ _ _ same c.in-Ok.ensures.rows)

pub returns-in-Err-clause-rows : goal.returns-in-Err-clause-rows
returns-in-Err-clause-rows c =
    let same : (counted_inner c.new.result).now ≡ c.args.bytes.now = ap (λ (b : Bor (List ℕ)). b.now) c.new.ensures.inner in
    memory-gives Points (points_of c.args.bytes.now) c.in-Err.cause c.of_memory.result c.of_memory.ensures
    (λ read memory. read-as points_of _ _ _ same (c.in-Err.ensures.rows read memory))

pub returns-in-Err-clause-fault : goal.returns-in-Err-clause-fault
returns-in-Err-clause-fault c = subst (λ (f : Fault). IsOfFile Points f) (sym c.of_memory.ensures) (memory-of_file Points c.in-Err.cause)

pub returns-in-Err-clause-read : goal.returns-in-Err-clause-read
returns-in-Err-clause-read c = λ e. memory-read Points Points c.in-Err.cause (sym c.of_memory.ensures ∙ e)
