-- REQUESTS THAT A PAGE OF ELSEWHERE MAY HAVE SENT: a browser gives each of them a field `Origin` or
-- `Sec-Fetch-Site`, or the `Host` of the page.
use Rattle.std.specs.Prelude.{ℕ, Bool, true, false, not, ◌&&◌, ◌||◌, ◌==◌, nat_le, List, [], ◌∷◌}
use Rattle.std.specs.Prelude.{codes, drop, length, take, Option, None, Some}
use Rattle.std.specs.Char.{is_ascii_digit}
use Rattle.std.specs.List.{list_all, list_any}
use Rattle.clr_http.specs.Fields.{Field, is_called, only_field, same_word}

-- the names of the machine itself
abbrev pub own_hosts : List (List ℕ)
own_hosts = codes "127.0.0.1" ∷ codes "localhost" ∷ codes "[::1]" ∷ []

-- what may follow the name of a host: nothing, or a colon and a port of 1 to 5 digits
abbrev pub is_port : List ℕ → Bool
is_port [] = true
is_port (b ∷ digits) = (b == 58) && ((nat_le 1 (length digits) && nat_le (length digits) 5)
    && list_all is_ascii_digit digits)

-- a value that begins with the name of a host, without regard to ASCII case, and ends with its port
abbrev pub is_of_host : List ℕ → List ℕ → Bool
is_of_host value name = same_word name (take (length name) value)
    && is_port (drop (length name) value)

abbrev pub is_own_host : List ℕ → Bool
is_own_host value = list_any (is_of_host value) own_hosts

abbrev pub is_own : Option (List ℕ) → Bool
is_own None = false
is_own (Some value) = is_own_host value

-- A REQUEST IS FOREIGN: it has not exactly one `Host`, or the `Host` of another machine, or one of
-- the fields that a browser adds
abbrev pub is_foreign : List Field → Bool
is_foreign fields = not (is_own (only_field (codes "host") fields))
    || (list_any (is_called (codes "origin")) fields
    || list_any (is_called (codes "sec-fetch-site")) fields)
