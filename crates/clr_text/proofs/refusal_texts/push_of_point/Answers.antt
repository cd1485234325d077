use Rattle.clr_text.proofs.ReplyPieces.{point_pieces}
use Rattle.clr_text.proofs.refusal_texts.push_of_point.Goals as goal

pub returns : goal.returns
returns c = rw (c.in_ok-push_str.ensures.bytes, c.in_ok-push_refusal_name.ensures, c.in_ok-push_name.ensures, c.in_ok-push_whole.ensures, c.from.ensures, c.number.ensures) (point_pieces _ _ _ _)
