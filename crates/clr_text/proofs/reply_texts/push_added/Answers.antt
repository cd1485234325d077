use Rattle.clr_text.proofs.ReplyPieces.{added_pieces}
use Rattle.clr_text.proofs.reply_texts.push_added.Goals as goal

pub returns : goal.returns
returns c = rw (c.in_ok-push_str.ensures.bytes, c.in_ok-push_name.ensures) (added_pieces _ _)
