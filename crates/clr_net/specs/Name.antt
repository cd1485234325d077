-- What a name is: 1 to 24 bytes of the alphabet. A clause sees a name as the list of its bytes.
use Rattle.std.specs.Prelude.{ℕ, ◌-◌, Bool, ◌&&◌, ◌||◌, ◌==◌, nat_le, nat_lt, List, ◌++◌, length}
use Rattle.std.specs.Prelude.{replicate}
use Rattle.std.specs.List.{list_all}
use Rattle.std.specs.Cmp.Lexicographic.{pointwise, slice_cmp}
use Rattle.std.specs.declared.cmp.Ordering.{Ordering}
use Rattle.std.specs.Ordering.{nat_cmp}

-- the bytes that names are made of: capital letters, digits and the hyphen
abbrev pub is_name_byte : ℕ → Bool
is_name_byte b = (nat_le 65 b && nat_le b 90) || (nat_le 48 b && nat_le b 57) || (b == 45)

-- a text that is a name
abbrev pub is_name : List ℕ → Bool
is_name text = nat_lt 0 (length text) && nat_le (length text) 24 && list_all is_name_byte text

-- two names are the same
abbrev pub same_name : List ℕ → List ℕ → Bool
same_name = pointwise ◌==◌

-- the order of names: that of their bytes
abbrev pub name_cmp : List ℕ → List ℕ → Ordering
name_cmp = slice_cmp nat_cmp

-- a name's bytes in a fixed array, the cells past them 0
abbrev pub padded : List ℕ → List ℕ
padded text = text ++ replicate (24 - length text) 0
