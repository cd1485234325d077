use Rattle.clr_text.proofs.ReplyPieces.{bare_pieces}
use Rattle.clr_text.proofs.refusal_texts.push_bare.Goals as goal

pub returns : goal.returns
returns c = rw (c.in_ok-push_str.ensures.bytes, c.in_ok-push_refusal_name.ensures, c.in_ok-push_whole.ensures, c.from.ensures, c.number.ensures) (bare_pieces _ _ _)
