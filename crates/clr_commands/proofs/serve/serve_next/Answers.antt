use Rattle.std.proofs.Common.{Bool, ℕ, inl, subst}
use Rattle.std.specs.IoError.{error_kind}
use Rattle.clr_commands.proofs.Connections.{missed_last, missed_next}
use Rattle.clr_commands.proofs.serve.serve_next.Goals as goal

pub returns-in-Ok-clause-taken : goal.returns-in-Ok-clause-taken
returns-in-Ok-clause-taken g c = inl (record {
  connection = c.in-Ok.connection;
  answered = c.answered-connection.result.0;
  middle = c.accept.new.self;
  came = c.in-Ok.ensures.comes;
  served = c.answered-connection.ensures.served.0;
  left = subst (λ (is : Bool). g.L.Loopback.hangs_up c.accept.new.self c.answered-connection.result.0 is c.hang_up.new.self) c.answered-connection.ensures.served.1 c.hang_up.ensures;
})

-- none could be taken, and that is reported
pub returns-in-Err-clause-taken : goal.returns-in-Err-clause-taken
returns-in-Err-clause-taken g c =
    let missed = subst (λ (n : ℕ). g.L.Loopback.misses c.args.net.now c.args.listener.now n (error_kind c.in-Err.error) c.accept.new.self)
    c.tries_of.ensures c.in-Err.ensures.misses in
    missed_next _ _ _ _ _ _ _ _ _ _ _ _ c.missed.result missed c.missed.ensures.reported c.missed.ensures.plain

-- or, of a desk, ends its server
pub returns-in-Err-clause-missed : goal.returns-in-Err-clause-missed
returns-in-Err-clause-missed g c =
    let missed = subst (λ (n : ℕ). g.L.Loopback.misses c.args.net.now c.args.listener.now n (error_kind c.in-Err.error) c.accept.new.self)
    c.tries_of.ensures c.in-Err.ensures.misses in
    missed_last g.L.Loopback.misses c.args.terms.now.service.desk c.args.listener.now c.args.desk.now c.args.errors.now c.missed.new.errors
    c.args.net.now c.accept.new.self (error_kind c.in-Err.error) c.missed.result missed c.missed.ensures.ended

-- a desk that was not asked is as it was
pub returns-in-Err-clause-led : goal.returns-in-Err-clause-led
returns-in-Err-clause-led g c = g.met.D.Registrar.stays c.args.desk.now
