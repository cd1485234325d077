-- The plain service, without an option.
use Rattle.std.specs.Prelude.{false, None}
use Rattle.clr_http.specs.declared.options.Service.{Service}

abbrev pub plain : Service
plain = record { desk = false; logins = None }
