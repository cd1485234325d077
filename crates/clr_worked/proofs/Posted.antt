-- All these commands can be posted, by computation: the texts in them are ASCII.
use Rattle.std.proofs.Common.{◌≡◌, Bool, true, ◌&&◌, nat_le, List, [], ◌∷◌, refl, length}
use Rattle.std.specs.Fmt.{digits}
use Rattle.std.proofs.lemmas.Str.{is_utf8-from_IsUtf8}
use Rattle.json.specs.Print.{escape_byte}
use Rattle.json.proofs.Printed.Utf8.{IsUtf8-are_ascii, are_ascii}
use Rattle.clr_rules.specs.declared.command.Command.{Command}
use Rattle.clr_rules.proofs.Common.{and_from, and_parts, list_all}
use Rattle.clr_text.specs.CommandText.{Said, all_said, all_taken, command_text, fits_sort, has_its_moment, is_taken}
use Rattle.clr_text.specs.Keys.{Sort, ValueOf, sort_of, text}
use Rattle.clr_worked.specs.OneClearance.{AllCanBePosted, alone, beside}
use Rattle.clr_worked.specs.Sent.{can_all_be_posted, can_be_posted}

is_plain : (sort : Sort) → ValueOf sort → Bool
is_plain text s = are_ascii s
is_plain sort x = fits_sort sort x

all_plain : List Said → Bool
all_plain list = list_all (λ said. is_plain (sort_of said.0) said.1) list

is_plain_command : Command → Bool
is_plain_command q = (all_plain (all_said q) && has_its_moment q) && nat_le (length (command_text q)) 65536

plain_taken : (sort : Sort) (x : ValueOf sort) → is_plain sort x ≡ true → fits_sort sort x ≡ true
unfolding is_plain
plain_taken text s e = is_utf8-from_IsUtf8 s (IsUtf8-are_ascii s e)
plain_taken sort x e = e

plain_all_taken : (list : List Said) → all_plain list ≡ true → all_taken list ≡ true
unfolding all_plain
plain_all_taken [] e = refl
plain_all_taken (said ∷ rest) e =
    let (here, later) = and_parts (is_plain (sort_of said.0) said.1) (all_plain rest) e in
    and_from (is_taken said) (all_taken rest) (plain_taken (sort_of said.0) said.1 here) (plain_all_taken rest later)

plain_posted : (q : Command) → is_plain_command q ≡ true → can_be_posted q ≡ true
unfolding is_plain_command
plain_posted q e =
    let (can, short) = and_parts (all_plain (all_said q) && has_its_moment q) (nat_le (length (command_text q)) 65536) e in
    let (plain, timed) = and_parts (all_plain (all_said q)) (has_its_moment q) can in
    and_from (all_taken (all_said q) && has_its_moment q) (nat_le (length (command_text q)) 65536)
    (and_from (all_taken (all_said q)) (has_its_moment q) (plain_all_taken (all_said q) plain) timed) short

plain_all_posted : (commands : List Command) → list_all is_plain_command commands ≡ true → can_all_be_posted commands ≡ true
plain_all_posted [] e = refl
plain_all_posted (q ∷ commands) e =
    let (here, later) = and_parts (is_plain_command q) (list_all is_plain_command commands) e in
    and_from (can_be_posted q) (can_all_be_posted commands) (plain_posted q here) (plain_all_posted commands later)

own_are_plain : list_all is_plain_command alone ≡ true
unfolding escape_byte digits is_plain_command all_plain is_plain
own_are_plain = refl

all_are_plain : list_all is_plain_command beside ≡ true
unfolding escape_byte digits is_plain_command all_plain is_plain
all_are_plain = refl

pub posted : AllCanBePosted
posted = record {
  own_ones = plain_all_posted alone own_are_plain;
  all_ones = plain_all_posted beside all_are_plain;
  own_count = refl;
  others_count = refl;
}
