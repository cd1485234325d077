use Rattle.std.proofs.Common.{refl, sym, ◌∙◌}
use Rattle.csv.specs.Records.{fields_of}
use Rattle.clr_csv.proofs.Readers.{begins-without_text, stays-set_up, takes-read}
use Rattle.clr_csv.proofs.table.Table.next.Goals as goal

pub invariant_of-self : goal.invariant_of-self
invariant_of-self c =
    let e = c.in-Ok.ensures in
    stays-set_up c.self.inside.reader c.read_record.new.self (fields_of c.read_record.new.row) c.in-Ok.found c.self.invariant e.reads e.goes e.flexible e.ready

pub returns-in-Ok : goal.returns-in-Ok
returns-in-Ok c =
    let e = c.in-Ok.ensures in
    takes-read c.self.inside.reader c.read_record.new.self c.args.self.now c.args.not_text (fields_of c.read_record.new.row) c.in-Ok.found
    c.self.view_is c.self.invariant (λ failed. cc (e.failed failed)) e.reads e.text

pub returns-in-Utf8 : goal.returns-in-Utf8
returns-in-Utf8 c = λ want.
    let e = c.in-Err.ensures in (
      refl,
      begins-without_text c.self.inside.reader c.read_record.new.self c.args.self.now c.in-Utf8.pos c.in-Utf8.err
          c.self.view_is c.self.invariant (λ failed. cc (e.failed failed)) (rw (sym c.kind.ensures ∙ c.in-Utf8.is) at e.why),
    )
