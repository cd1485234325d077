use Rattle.clr_text.proofs.ReplyPieces.{hold_pieces}
use Rattle.clr_text.proofs.refusal_texts.push_of_hold.Goals as goal

pub returns : goal.returns
returns c = rw (c.in_ok-push_str.ensures.bytes, c.in_ok-push_refusal_name.ensures, c.in_ok-push_whole.ensures, c.in_ok-push_kind.ensures, c.in_ok-push_id.ensures, c.from.ensures, c.number.ensures) (hold_pieces _ _ _ _ _)
