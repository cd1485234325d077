use Rattle.clr_text.proofs.ReplyPieces.{card_pieces}
use Rattle.clr_text.proofs.reply_texts.push_card.Goals as goal

pub returns : goal.returns
returns c = rw (c.in_ok-push_str.ensures.bytes, c.in_ok-push_whole-3.ensures, c.in_ok-push_whole-2.ensures, c.in_ok-push_phase.ensures, c.in_ok-push_name.ensures, c.in_ok-push_whole.ensures, c.in_ok-push_id.ensures, c.from.ensures) (card_pieces _ _ _ _ _ _ _)
