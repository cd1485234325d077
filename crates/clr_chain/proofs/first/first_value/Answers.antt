use Rattle.std.proofs.Common.{rules, subst}
use Rattle.std.proofs.lemmas.Str.{is_utf8-from_IsUtf8}
use Rattle.std.specs.Str.{IsUtf8}
use Rattle.clr_chain.proofs.first.first_value.Goals as goal

-- its texts are texts of the program, and its number is a `u64`
pub returns-in-Ok-json-8-clause-can : goal.returns-in-Ok-json-8-clause-can
returns-in-Ok-json-8-clause-can c = record {
  number = search rules;
  id = is_utf8-from_IsUtf8 c.args.place.now.id (subst IsUtf8 c.as_str.ensures c.as_str.utf8);
  sum = is_utf8-from_IsUtf8 c.args.place.now.sum (subst IsUtf8 c.as_str-2.ensures c.as_str-2.utf8);
}
