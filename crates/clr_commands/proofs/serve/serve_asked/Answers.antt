use Rattle.std.proofs.Common.{◌≡◌, Result, rules, subst}
use Rattle.clr_edge.specs.declared.fault.Fault.{Fault}
use Rattle.clr_commands.specs.Connections.{seen}
use Rattle.clr_commands.specs.Desks.{desk_keeps}
use Rattle.clr_commands.specs.Logins.{terms_of}
use Rattle.clr_commands.specs.Serve.{ServesOn}
use Rattle.clr_commands.specs.declared.serve.Terms.{Terms}
use Rattle.clr_commands.proofs.Connections.{asked_within}
use Rattle.clr_commands.proofs.serve.serve_asked.Goals as goal

-- on the terms that the staff of its register allows
pub returns : goal.returns
returns g c =
    let first = c.args.desk.now in
    let last = c.serve_on.new.desk in
    let terms : c.terms_of-terms.result ≡ terms_of c.args.args.now first.book.register.staff c.args.logins = search rules in
    let serves = subst (λ (t : Result Terms Fault). ServesOn (desk_keeps g.K.Commit) g.L.Loopback
    (seen g.L.Reader.Read.remaining g.L.Reader.CountedRead.failure_count g.L.Writer.CountedWrite.stream)
    (g.W.CountedWrite.stream c.args.output.now) (g.W.CountedWrite.stream c.serve_on.new.output)
    (g.E.CountedWrite.stream c.args.errors.now) (g.E.CountedWrite.stream c.serve_on.new.errors)
    t first last c.serve_on.result c.args.net.now c.serve_on.new.net) terms c.serve_on.ensures.served in
    record {
      serves = serves;
      goes_on = asked_within (desk_keeps g.K.Commit) g.L.Loopback (seen g.L.Reader.Read.remaining g.L.Reader.CountedRead.failure_count g.L.Writer.CountedWrite.stream)
          c.args.args.now c.args.logins (g.W.CountedWrite.stream c.args.output.now) (g.W.CountedWrite.stream c.serve_on.new.output)
          (g.E.CountedWrite.stream c.args.errors.now) (g.E.CountedWrite.stream c.serve_on.new.errors) first last c.serve_on.result
          c.args.net.now c.serve_on.new.net serves;
      led = c.serve_on.ensures.led;
      unserved = c.serve_on.ensures.unserved;
    }
