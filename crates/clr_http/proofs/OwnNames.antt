-- In whose name a request asks, and what a page of elsewhere gets.
use Rattle.std.proofs.Common.{◌≡◌, ◌∙◌, ℕ, Bool, true, false, if◌then◌else◌, List, Option, None, Some, refl, ap, subst, inl, inr}
use Rattle.std.specs.Prelude.{nat_eq}
use Rattle.std.specs.Cmp.Lexicographic.{pointwise}
use Rattle.httparse.specs.Grammar.{RequestHead}
use Rattle.clr_staff.specs.Logins.{may_speak}
use Rattle.clr_staff.specs.declared.logins.LoginRow.{LoginRow}
use Rattle.clr_rules.specs.declared.command.Command.{Command}
use Rattle.clr_http.proofs.Posts.{unchecked}
use Rattle.clr_http.specs.Asked.{reading_asks}
use Rattle.clr_http.specs.CallerLaws.{AskedInOwnName, ForeignIsRefused, PlainChecksNoCaller}
use Rattle.clr_http.specs.Callers.{caller_checked, login_may_speak, login_of, may_ask}
use Rattle.clr_http.specs.Fields.{fields_of}
use Rattle.clr_http.specs.Foreign.{is_foreign}
use Rattle.clr_http.specs.Options.{plain}
use Rattle.clr_http.specs.Request.{Reading, head_read, method_of, own_read, refused, route_read}
use Rattle.clr_http.specs.Response.{Content, allow, fault_response, method_word}
use Rattle.clr_http.specs.Target.{target_of}
use Rattle.clr_http.specs.declared.options.Service.{Service}
use Rattle.clr_http.specs.declared.response.Fault.TheVariants.{Foreign, NoRoute, NotCaller}
use Rattle.clr_http.specs.declared.target.Target.{Target}

-- a reading whose caller was checked asks what may be asked
checked_asks : (logins : Option (List LoginRow)) (login : Option (List ℕ)) (r : Reading) (q : Command)
    → Some q ≡ reading_asks (caller_checked logins login r) → may_ask logins login (Some q) ≡ true
checked_asks logins login r q is = by (may_ask logins login (reading_asks r)) refl is
  where
    by : (may : Bool) → may_ask logins login (reading_asks r) ≡ may
        → Some q ≡ reading_asks (if may then r else refused (fault_response NotCaller)) → may_ask logins login (Some q) ≡ true
    by true e is = ap (may_ask logins login) is ∙ e
    by false e is = cc is

spoken : (rows : List LoginRow) (login : Option (List ℕ)) (caller : List ℕ) → login_may_speak rows login caller ≡ true
    → (one : List ℕ) × (login ≡ Some one) × (may_speak rows one caller ≡ true)
spoken rows None caller e = cc e
spoken rows (Some one) caller e = (one, refl, e)

pub asked_in_own_name : AskedInOwnName
asked_in_own_name service rows input q known (inr (none, is)) = cc is
asked_in_own_name service rows input q known (inl (head, rest, begins, is)) =
    let may = checked_asks service.logins (login_of (fields_of head)) (head_read service head rest) q is in
    let own : login_may_speak rows (login_of (fields_of head)) q.caller ≡ true =
    subst (λ (logins : Option (List LoginRow)). may_ask logins (login_of (fields_of head)) (Some q) ≡ true) known may in
    (head, rest, begins, spoken rows (login_of (fields_of head)) q.caller own)

-- ---- foreign requests

IsRefused : Reading → Type 0
IsRefused r = (c : Content) × (r ≡ refused c)

foreign_route : (service : Service) (head : RequestHead) (rest : List ℕ) (o : Option Target) → service.desk ≡ true → is_foreign (fields_of head) ≡ true
    → IsRefused (route_read service o head rest)
unfolding IsRefused
foreign_route service head rest None desk foreign = (fault_response NoRoute, refl)
foreign_route service head rest (Some asked) desk foreign = by (pointwise nat_eq head.method (method_word (method_of asked)))
  where
    own : own_read service asked head rest ≡ refused (fault_response Foreign)
    own = rw (desk, foreign) refl

    by : (same : Bool) → IsRefused (if same then own_read service asked head rest else refused (allow (method_of asked)))
    by true = (fault_response Foreign, own)
    by false = (allow (method_of asked), refl)

pub foreign_is_refused : ForeignIsRefused
unfolding IsRefused
foreign_is_refused service head rest desk foreign =
    let (c, is) = foreign_route service head rest (target_of service.desk head.target) desk foreign in
    (c, ap (caller_checked service.logins (login_of (fields_of head))) is)

pub plain_checks_no_caller : PlainChecksNoCaller
plain_checks_no_caller head rest = unchecked (login_of (fields_of head)) (head_read plain head rest)
