-- WHAT A REQUEST IS ANSWERED at a service and a register, and the register after it: the head, the
-- route, the body and the caller come to a reading (Request), and a reading to an outcome. A fault of
-- the store or of memory is no part of it.
use Rattle.std.specs.Prelude.{◌≡◌, ℕ, if◌then◌else◌, List, Option, None, Some, Result, Ok, Err}
use Rattle.std.specs.Prelude.{pos}
use Rattle.httparse.specs.Grammar.{RequestHead}
use Rattle.clr_rules.specs.Answer.{Answer, answer}
use Rattle.clr_rules.specs.Id.{Id}
use Rattle.clr_rules.specs.Prelude.{Register, record_of, steps_of}
use Rattle.clr_rules.specs.Run.{after}
use Rattle.clr_text.specs.FaultText.{fault_text}
use Rattle.clr_print.specs.Printed.{board_text, order_text}
use Rattle.clr_text.specs.Reading.{read_command}
use Rattle.clr_text.specs.Replies.{reply_text}
use Rattle.clr_text.specs.declared.fault.TextFault.{TextFault}
use Rattle.clr_staff.specs.declared.logins.LoginRow.{LoginRow}
use Rattle.clr_view.specs.View.{network_text}
use Rattle.clr_wayback.specs.Answer.{way_back_answer}
use Rattle.clr_wayback.specs.Text.{way_back_text}
use Rattle.clr_wayback.specs.declared.answer.WayBack.{WayBack}
use Rattle.clr_wayback.specs.declared.answer.WayBack.TheVariants as way
use Rattle.clr_http.specs.Callers.{may_ask}
use Rattle.clr_http.specs.Head.{BeginsWith}
use Rattle.clr_http.specs.Options.{plain}
use Rattle.clr_http.specs.Request.{Reading, asks, refused, request_read_at}
use Rattle.clr_http.specs.Response.{Content, json, printed, fault_response}
use Rattle.clr_http.specs.declared.options.Service.{Service}
use Rattle.clr_http.specs.declared.response.Fault.TheVariants.{NoSuch, NotCaller, NoWay}
use Rattle.clr_http.specs.declared.target.Target.{Target}
use Rattle.clr_http.specs.declared.target.OrderRequest.{OrderRequest}
use Rattle.clr_http.specs.declared.target.ViewRequest.{ViewRequest}
use Rattle.clr_http.specs.declared.target.Target.TheVariants as asked
use Rattle.clr_rules.specs.declared.command.Command.{Command}
use Rattle.clr_rules.specs.declared.reply.Reply.{Reply}
use Rattle.clr_rules.specs.declared.reply.Reply.TheVariants.{Accepted, Added, Refused, Shown}
pub use Rattle.clr_http.specs.Reading.{show_of, target_asks}

-- a response, and the register that it leaves
pub record Outcome : Type 0 where
  pub response : Content
  pub left : Register

-- a response that leaves the register as it is
abbrev pub unchanged : Register → Content → Outcome
unchanged R c = record { response = c; left = R }

-- the status of a reply
abbrev pub reply_status : Reply → ℕ
reply_status (Accepted card) = 200
reply_status (Shown view) = 200
reply_status (Refused refusal) = 409
reply_status (Added point) = 200

abbrev pub reply_response : Reply → Content
reply_response reply = json (reply_status reply) (reply_text reply)

-- a command that is put to the register
abbrev pub command_outcome : Register → Command → Outcome
command_outcome R q = record {
  response = reply_response (Answer.reply (answer R q));
  left = after R q;
}

-- the body of a command, or the fault of its text
abbrev pub body_outcome : Register → Result Command TextFault → Outcome
body_outcome R (Ok q) = command_outcome R q
body_outcome R (Err fault) = unchanged R (json 400 (fault_text fault))

abbrev pub view_outcome : Register → Option ViewRequest → Outcome
view_outcome R None = unchanged R (fault_response NoSuch)
view_outcome R (Some v) = command_outcome R (show_of v)

-- a printed text, where there is one
abbrev pub text_response : Option (List ℕ) → Content
text_response None = fault_response NoSuch
text_response (Some text) = printed text

-- a round of an order, by a clock at offset 0
abbrev pub order_printed : Register → OrderRequest → Option (List ℕ)
order_printed R p = order_text (record_of R.records p.id) (steps_of R.steps p.id) p.round (pos 0)

abbrev pub order_outcome : Register → Option OrderRequest → Outcome
order_outcome R None = unchanged R (fault_response NoSuch)
order_outcome R (Some p) = unchanged R (text_response (order_printed R p))

-- the commands that give a clearance back, each on a line; nothing where it is Closed
abbrev pub way_back_content : WayBack → Content
way_back_content (way.Commands commands) = printed (way_back_text commands)
way_back_content way.NoSuch = fault_response NoSuch
way_back_content way.NoWay = fault_response NoWay

abbrev pub way_back_outcome : Register → Option Id → Outcome
way_back_outcome R None = unchanged R (fault_response NoSuch)
way_back_outcome R (Some c) = unchanged R (way_back_content (way_back_answer R c))

-- what is asked for, with the body of a command
abbrev pub target_outcome : Register → Target → List ℕ → Outcome
target_outcome R asked.Command body = body_outcome R (read_command body)
target_outcome R (asked.Clearance viewing) body = view_outcome R viewing
target_outcome R (asked.Order printing) body = order_outcome R printing
target_outcome R asked.Board body = unchanged R (printed (board_text R (pos 0)))
target_outcome R asked.Network body = unchanged R (json 200 (network_text R))
target_outcome R (asked.WayBack id) body = way_back_outcome R id

-- a command of a request with this login: it is put to the register in a name that the login may use
abbrev pub spoken_outcome : Option (List LoginRow) → Option (List ℕ) → Register → Command → Outcome
spoken_outcome logins login R q = if may_ask logins login (Some q) then command_outcome R q
    else unchanged R (fault_response NotCaller)

-- what such a request asks for
abbrev pub checked_outcome : Option (List LoginRow) → Option (List ℕ) → Register → Target → List ℕ
    → Outcome
checked_outcome logins login R asked body = if may_ask logins login (target_asks asked body)
    then target_outcome R asked body else unchanged R (fault_response NotCaller)

abbrev pub reading_outcome : Register → Reading → Outcome
reading_outcome R (refused c) = unchanged R c
reading_outcome R (asks asked body) = target_outcome R asked body

-- WHAT A HEAD AND THE BYTES AFTER IT ARE ANSWERED at a service
abbrev pub respond_at : Service → Register → RequestHead → List ℕ → Outcome
respond_at service R head rest = reading_outcome R (request_read_at service head rest)

-- WHAT AN INPUT IS ANSWERED: it begins with a head of at most 8,192 bytes and 64 fields, and with
-- one alone
abbrev pub RespondsAt : Service → Register → List ℕ → Outcome → Type 0
RespondsAt service R input o = (head : RequestHead) × (rest : List ℕ) × BeginsWith input head rest
    × (o ≡ respond_at service R head rest)

-- ---- at the plain service

abbrev pub respond_to : Register → RequestHead → List ℕ → Outcome
respond_to = respond_at plain

abbrev pub Responds : Register → List ℕ → Outcome → Type 0
Responds = RespondsAt plain
