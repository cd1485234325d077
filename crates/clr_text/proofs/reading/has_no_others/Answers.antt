use Rattle.std.proofs.Common.{◌∙◌, sym}
use Rattle.clr_text.specs.Reading.{is_key_of}
use Rattle.clr_text.proofs.MembersFacts.{all_keys-view}
use Rattle.clr_text.proofs.reading.has_no_others.Goals as goal

pub returns : goal.returns
returns c = c.all_known.ensures ∙ sym (all_keys-view (is_key_of c.args.word) c.args.members.now.entries)
