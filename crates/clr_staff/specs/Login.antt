-- What a login is: 1 to 64 bytes of printable ASCII without the blank. A clause sees a login as the
-- list of its bytes.
use Rattle.std.specs.Prelude.{ℕ, ◌-◌, Bool, ◌&&◌, nat_le, if◌then◌else◌, List, ◌++◌, length}
use Rattle.std.specs.Prelude.{replicate, Option, Some, None}
use Rattle.std.specs.List.{list_all}

-- the bytes that logins are made of: `!` to `~`
abbrev pub is_login_byte : ℕ → Bool
is_login_byte b = nat_le 33 b && nat_le b 126

-- a text that is a login
abbrev pub is_login : List ℕ → Bool
is_login text = (nat_le 1 (length text) && nat_le (length text) 64) && list_all is_login_byte text

-- what a text reads as, where a login is asked for
abbrev pub read_login : List ℕ → Option (List ℕ)
read_login text = if is_login text then Some text else None

-- a login's bytes in a fixed array, the cells past them 0
abbrev pub padded : List ℕ → List ℕ
padded text = text ++ replicate (64 - length text) 0
