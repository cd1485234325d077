-- NO COMMAND IN ANOTHER'S NAME, and none of a page of elsewhere.
use Rattle.std.specs.Prelude.{◌≡◌, ℕ, true, List, Some}
use Rattle.httparse.specs.Grammar.{RequestHead}
use Rattle.clr_staff.specs.Logins.{may_speak}
use Rattle.clr_staff.specs.declared.logins.LoginRow.{LoginRow}
use Rattle.clr_rules.specs.declared.command.Command.{Command}
use Rattle.clr_http.specs.Asked.{AsksAt}
use Rattle.clr_http.specs.Callers.{login_of}
use Rattle.clr_http.specs.Fields.{fields_of}
use Rattle.clr_http.specs.Foreign.{is_foreign}
use Rattle.clr_http.specs.Head.{BeginsWith}
use Rattle.clr_http.specs.Request.{head_read, refused, request_read, request_read_at}
use Rattle.clr_http.specs.Options.{plain}
use Rattle.clr_http.specs.Response.{Content}
use Rattle.clr_http.specs.declared.options.Service.{Service}

-- the login of a head may speak for the caller of a command
abbrev pub IsSpoken : List LoginRow → RequestHead → Command → Type 0
IsSpoken rows head q = (login : List ℕ) × (login_of (fields_of head) ≡ Some login)
    × (may_speak rows login q.caller ≡ true)

-- WHAT IS ASKED of a service with logins, a command or a view, is in a name that the login of the
-- request may use
abbrev pub AskedInOwnName : Type 0
AskedInOwnName = (service : Service) (rows : List LoginRow) (input : List ℕ) (q : Command)
    → service.logins ≡ Some rows → AsksAt service input (Some q)
    → (head : RequestHead) × (rest : List ℕ) × BeginsWith input head rest × IsSpoken rows head q

-- A FOREIGN REQUEST to a service at a desk is refused, whatever its route and its method
abbrev pub ForeignIsRefused : Type 0
ForeignIsRefused = (service : Service) (head : RequestHead) (rest : List ℕ)
    → service.desk ≡ true → is_foreign (fields_of head) ≡ true
    → (c : Content) × (request_read_at service head rest ≡ refused c)

-- THE PLAIN SERVICE looks at no caller
abbrev pub PlainChecksNoCaller : Type 0
PlainChecksNoCaller = (head : RequestHead) (rest : List ℕ)
    → request_read head rest ≡ head_read plain head rest
