-- IN WHOSE NAME A REQUEST MAY SPEAK: in any, or in those that its login may use.
use Rattle.std.specs.Prelude.{ℕ, Bool, true, false, if◌then◌else◌, List, codes}
use Rattle.std.specs.Prelude.{Option, None, Some}
use Rattle.clr_staff.specs.Login.{read_login}
use Rattle.clr_staff.specs.Logins.{may_speak}
use Rattle.clr_staff.specs.declared.logins.LoginRow.{LoginRow}
use Rattle.clr_rules.specs.declared.command.Command.{Command}
use Rattle.clr_http.specs.Fields.{Field, only_field}
use Rattle.clr_http.specs.Reading.{Reading, reading_asks, refused}
use Rattle.clr_http.specs.Response.{fault_response}
use Rattle.clr_http.specs.declared.response.Fault.TheVariants.{NotCaller}

abbrev pub login_in : Option (List ℕ) → Option (List ℕ)
login_in None = None
login_in (Some value) = read_login value

-- the login of a request: the value of its one `X-Forwarded-User`, where that is a login
abbrev pub login_of : List Field → Option (List ℕ)
login_of fields = login_in (only_field (codes "x-forwarded-user") fields)

abbrev pub login_may_speak : List LoginRow → Option (List ℕ) → List ℕ → Bool
login_may_speak rows None caller = false
login_may_speak rows (Some login) caller = may_speak rows login caller

-- the names in which a request may speak, by the rows that the service has, if it has any
abbrev pub may_speak_as : Option (List LoginRow) → Option (List ℕ) → List ℕ → Bool
may_speak_as None login caller = true
may_speak_as (Some rows) login caller = login_may_speak rows login caller

abbrev pub may_ask : Option (List LoginRow) → Option (List ℕ) → Option Command → Bool
may_ask logins login None = true
may_ask logins login (Some q) = may_speak_as logins login q.caller

-- what a login may ask of what is asked
abbrev pub permitted : Option (List LoginRow) → Option (List ℕ) → Option Command → Option Command
permitted logins login asked = if may_ask logins login asked then asked else None

-- A READING ONCE ITS CALLER IS CHECKED: a command in a name that the login may not use is refused
abbrev pub caller_checked : Option (List LoginRow) → Option (List ℕ) → Reading → Reading
caller_checked logins login reading = if may_ask logins login (reading_asks reading) then reading
    else refused (fault_response NotCaller)
