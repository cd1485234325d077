-- WHO MAY SPEAK FOR WHOM: a login for an employee, where some row has both.
use Rattle.std.specs.Prelude.{ℕ, Bool, ◌&&◌, ◌==◌, List}
use Rattle.std.specs.Cmp.Lexicographic.{pointwise}
use Rattle.std.specs.List.{list_any}
use Rattle.clr_net.specs.Name.{same_name}
use Rattle.clr_staff.specs.declared.logins.LoginRow.{LoginRow}

-- two logins are the same: byte by byte, so that case matters
abbrev pub same_login : List ℕ → List ℕ → Bool
same_login = pointwise ◌==◌

-- a row lets a login speak for an employee
abbrev pub speaks_for : List ℕ → List ℕ → LoginRow → Bool
speaks_for login employee row = same_login row.login login && same_name row.employee employee

-- A LOGIN MAY SPEAK FOR AN EMPLOYEE
abbrev pub may_speak : List LoginRow → List ℕ → List ℕ → Bool
may_speak rows login employee = list_any (speaks_for login employee) rows
