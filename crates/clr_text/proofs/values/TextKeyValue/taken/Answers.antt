use Rattle.std.proofs.Common.{IsUtf8, subst}
use Rattle.std.proofs.lemmas.Str.{is_utf8-from_IsUtf8}
use Rattle.clr_text.proofs.values.TextKeyValue.taken.Goals as goal

pub returns : goal.returns
returns c = is_utf8-from_IsUtf8 c.args.self.now (subst IsUtf8 c.as_str-text.ensures c.as_str-text.utf8)
