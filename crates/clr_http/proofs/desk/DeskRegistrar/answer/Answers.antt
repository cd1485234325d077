use Rattle.std.proofs.Common.{sym}
use Rattle.clr_http.proofs.desk.DeskRegistrar.answer.Goals as goal

pub returns-clause-taken : goal.returns-clause-taken
returns-clause-taken g c = (
  c.one_from.result,
  sym c.ok.ensures.value,
  record {
    reply = c.one_from.ensures.carried.near;
    register = c.one_from.ensures.carried.changed;
    unchanged = c.one_from.ensures.carried.unchanged;
    taken = c.one_from.ensures.taken;
  },
)

pub returns-clause-led : goal.returns-clause-led
returns-clause-led g c = c.one_from.ensures.led
