-- Commands that put a record alone.
use Rattle.std.proofs.Common.{◌≡◌, true, List, [], ◌∷◌, Option, Some, refl, sym, ◌∙◌, subst}
use Rattle.clr_rules.specs.Changes.{edits_by, with_record}
use Rattle.clr_rules.proofs.Common.{Edit, PutRecord, Record, Id, Register, record_of, after_edits, is_open, record_id}
use Rattle.clr_rules.specs.GoodByPhase.{InPhase, InPlaceAs, IsGoodByPhase, outlook_of}
use Rattle.clr_rules.proofs.good.Keeping.{keeps}
use Rattle.clr_rules.proofs.edits.PutRecords.{put_changes, outlook_with, quiet}

-- the edits of a command that found its record
pub found_edits : (R : Register) (c : Id) (r : Record) (edits : Record → List Edit) → record_of R.records c ≡ Some r
    → IsGoodByPhase (after_edits (edits r) R) → IsGoodByPhase (after_edits (with_record R c edits) R)
found_edits R c r edits found h = subst (λ (o : Option Record). IsGoodByPhase (after_edits (edits_by o edits) R)) (sym found) h

-- the phase that a clearance is in
pub in_phase_of : (R : Register) (c : Id) (r : Record) → IsGoodByPhase R → record_of R.records c ≡ Some r → InPhase R.net r.phase r.work (outlook_of R c)
in_phase_of R c r good found = subst (λ (o : Option Record). InPlaceAs R.net o (outlook_of R c)) found (good.in_place c).phase

-- a record alone, over an open one
pub record_alone : (R : Register) (c : Id) (r new : Record) → IsGoodByPhase R → record_of R.records c ≡ Some r → is_open r.phase ≡ true → new.id ≡ r.id → new.work ≡ r.work
    → InPhase R.net new.phase new.work (outlook_with R c new) → IsGoodByPhase (after_edits (PutRecord new ∷ []) R)
unfolding after_edits
record_alone R c r new good found unclosed same_id same_work phase =
    keeps R (PutRecord new ∷ []) c refl good (put_changes R good c r new found unclosed (same_id ∙ record_id R.records c r found) same_work (after_edits (PutRecord new ∷ []) R) refl
    (quiet R (after_edits (PutRecord new ∷ []) R) c new good (record {
      same_states = refl;
      point_holds = λ d kind p at_point has. has;
      other_holds = λ d differs kind place. refl;
      other_steps = λ d differs. refl;
      own_closing = λ p closing. closing;
      steps_known = good.points_known.steps c r found unclosed;
    }) (record { in_turn = (good.in_place c).in_turn; hands = (good.in_place c).hands; phase = phase })))
