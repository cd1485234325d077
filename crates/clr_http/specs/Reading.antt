-- WHAT A REQUEST COMES TO, and which command it asks: none or one, whatever the register.
use Rattle.std.specs.Prelude.{ℕ, List, Option, None, Some, Result, Ok, Err}
use Rattle.clr_rules.specs.declared.command.Command.{Command}
use Rattle.clr_rules.specs.declared.command.Kind.TheVariants.{Show}
use Rattle.clr_text.specs.Reading.{read_command}
use Rattle.clr_text.specs.declared.fault.TextFault.{TextFault}
use Rattle.clr_http.specs.Response.{Content}
use Rattle.clr_http.specs.declared.target.Target.{Target}
use Rattle.clr_http.specs.declared.target.Target.TheVariants as asked
use Rattle.clr_http.specs.declared.target.ViewRequest.{ViewRequest}

-- what a request comes to: a refusal, or what is asked for and the body, which is empty for a GET
pub data Reading : Type 0 where
  refused : Content → Reading
  asks : Target → List ℕ → Reading

-- the command of a body, if it reads as one
abbrev pub body_asks : Result Command TextFault → Option Command
body_asks (Ok q) = Some q
body_asks (Err fault) = None

-- `show` by the caller, which looks at no moment
abbrev pub show_of : ViewRequest → Command
show_of v = record { caller = v.caller; moment = 0; kind = Show v.id }

-- the `show` of a view
abbrev pub view_asks : Option ViewRequest → Option Command
view_asks None = None
view_asks (Some v) = Some (show_of v)

-- what is printed is no command
abbrev pub target_asks : Target → List ℕ → Option Command
target_asks asked.Command body = body_asks (read_command body)
target_asks (asked.Clearance viewing) body = view_asks viewing
target_asks (asked.Order printing) body = None
target_asks asked.Board body = None
target_asks asked.Network body = None
target_asks (asked.WayBack id) body = None

-- nor is a request that is refused
abbrev pub reading_asks : Reading → Option Command
reading_asks (refused c) = None
reading_asks (asks target body) = target_asks target body
