-- Moments: seconds since 1970-01-01T00:00:00Z. A clause sees a Moment as its seconds.
use Rattle.std.specs.Prelude.{ℕ, Bool, nat_le, if◌then◌else◌, Option, Some, None}

-- moments end with the year 2099
abbrev pub is_moment : ℕ → Bool
is_moment seconds = nat_le seconds 4102444799

abbrev pub new_moment : ℕ → Option ℕ
new_moment seconds = if is_moment seconds then Some seconds else None
