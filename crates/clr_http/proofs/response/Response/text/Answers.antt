use Rattle.std.proofs.Common.{sym}
use Rattle.clr_http.proofs.response.Response.text.Goals as goal

pub returns-in-Json : goal.returns-in-Json
returns-in-Json c = rw (c.in-Json.is, sym c.deref.ensures) c.with_body.ensures
