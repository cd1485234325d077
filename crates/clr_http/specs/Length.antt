-- THE LENGTH of a command's body, as the fields of the head give it.
use Rattle.std.specs.Prelude.{ℕ, Bool, ◌&&◌, nat_le, if◌then◌else◌, List, [], ◌∷◌, codes}
use Rattle.std.specs.Prelude.{filter, length, Result, Ok, Err}
use Rattle.std.specs.Char.{is_ascii_digit}
use Rattle.std.specs.List.{list_all, list_any}
use Rattle.std.specs.Str.Parse.{digits_value}
use Rattle.clr_http.specs.Fields.{Field, is_called}
use Rattle.clr_http.specs.declared.length.LengthFault.{LengthFault}
use Rattle.clr_http.specs.declared.length.LengthFault.TheVariants.{BadLength, BodyTooLarge}
use Rattle.clr_http.specs.declared.length.LengthFault.TheVariants.{NoLength}

-- 1 to 10 digits
abbrev pub is_length : List ℕ → Bool
is_length value = (nat_le 1 (length value) && nat_le (length value) 10)
    && list_all is_ascii_digit value

abbrev pub within_limit : ℕ → Result ℕ LengthFault
within_limit n = if nat_le n 65536 then Ok n else Err BodyTooLarge

abbrev pub read_length : List ℕ → Result ℕ LengthFault
read_length value = if is_length value then within_limit (digits_value 10 value) else Err BadLength

-- one Content-Length gives the length, none is a fault, and so are several, equal ones too
abbrev pub length_of_fields : List Field → Result ℕ LengthFault
length_of_fields [] = Err NoLength
length_of_fields (field ∷ []) = read_length field.1
length_of_fields (field ∷ other ∷ rest) = Err BadLength

-- THE LENGTH OF THE BODY
abbrev pub body_length : List Field → Result ℕ LengthFault
body_length fields =
    if list_any (is_called (codes "transfer-encoding")) fields then Err NoLength
    else length_of_fields (filter (is_called (codes "content-length")) fields)
