-- A register and the journal that it begins with can be opened.
use Rattle.std.proofs.Common.{[], refl, sym, append-nil}
use Rattle.sqlite.specs.State.{State}
use Rattle.clr_journal.specs.Lines.{with_feed}
use Rattle.clr_changes.specs.Deeds.{after_deeds}
use Rattle.clr_journal.specs.Answered.{deed_replies}
use Rattle.clr_journal.specs.Journals.{carried_out, in_turn}
use Rattle.clr_chain.specs.First.{first_text}
use Rattle.clr_desk.specs.Placing.{Placing}
use Rattle.clr_level.specs.Levelling.{BegunIsLevel}

pub begun_level : (has_place : Placing) (s : State) → BegunIsLevel has_place s
unfolding carried_out after_deeds deed_replies in_turn
begun_level has_place s R start at = record {
  entries = [];
  level = record { had = []; more = []; all = refl; turns = refl; is_at = refl; kept = refl; run = record { register = refl; replied = refl } };
  text_is = sym (append-nil (with_feed (first_text start)));
  more_is = refl;
  placed = at;
  shallow = tt;
}
