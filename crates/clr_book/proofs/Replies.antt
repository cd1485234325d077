-- Registers with the same records and steps have the same replied of a clearance, whatever holds, hands and network they have.
use Rattle.std.proofs.Common.{◌≡◌, ◌∙◌, false, List, [], ◌∷◌, length, Option, None, Some, count_by, refl, sym, ap}
use Rattle.clr_rules.specs.Answer.{answer_by_checks, card_of, reply_after, reply_clearance, reply_of}
use Rattle.clr_rules.specs.Command.{named_clearance}
use Rattle.clr_rules.specs.Commands.{Known, edits_of}
use Rattle.clr_rules.specs.Edits.{after_edit, after_edits, records_after, steps_after}
use Rattle.clr_rules.specs.Prelude.{Id, Register, is_done, present_round, present_steps, record_of}
use Rattle.clr_rules.proofs.edits.Passing.{is_show}
use Rattle.clr_rules.proofs.near.NearNamed.{no_jumper, reply_named}
use Rattle.clr_rules.specs.declared.change.Edit.{Edit}
use Rattle.clr_rules.specs.declared.command.Command.{Command}
use Rattle.clr_rules.specs.declared.command.Kind.{Kind}
use Rattle.clr_rules.specs.declared.record.Record.{Record}
use Rattle.clr_rules.specs.declared.refusal.Refusal.{Refusal}
use Rattle.clr_rules.specs.declared.step_row.StepRow.{StepRow}
use Rattle.clr_rules.specs.declared.reply.Reply.TheVariants.{Accepted}
use Rattle.clr_rules.specs.declared.command.Kind.TheVariants.{Show}

-- the same records and the same steps
pub record SameLists (A B : Register) : Type 0 where
  pub records : A.records ≡ B.records
  pub steps : A.steps ≡ B.steps

pub edited_alike : (edits : List Edit) (A B : Register) → SameLists A B → SameLists (after_edits edits A) (after_edits edits B)
unfolding after_edits
edited_alike [] A B same = same
edited_alike (edit ∷ edits) A B same =
    edited_alike edits (after_edit edit A) (after_edit edit B) (record { records = ap (records_after edit) same.records; steps = ap (steps_after edit) same.steps })

module _ (A B : Register) (same : SameLists A B) where
  card_alike : (r : Record) → card_of A r ≡ card_of B r
  card_alike r = ap (λ (steps : List StepRow). record {
    clearance = r.id;
    phase = r.phase;
    holder = r.holder;
    round = present_round steps r.id;
    done = count_by (λ row. is_done row.step.state) (present_steps steps r.id);
    steps = length (present_steps steps r.id);
  }) same.steps

  module _ (k l : Known) (kind : Kind) (no_show : is_show kind ≡ false) where
    of_record : (C : Register) (m : Known) (r : Record) → reply_of m C kind (Some r) ≡ Accepted (card_of C r)
    of_record C m r = by_kind kind no_show
      where
        by_kind : (kind : Kind) → is_show kind ≡ false → reply_of m C kind (Some r) ≡ Accepted (card_of C r)
        by_kind (Show c) no_show = cc no_show
        by_kind _ no_show = refl

    found_alike : (o : Option Record) → reply_of k A kind o ≡ reply_of l B kind o
    found_alike None = refl
    found_alike (Some r) = of_record A k r ∙ ap Accepted (card_alike r) ∙ sym (of_record B l r)

    pub replied_alike : (c : Id) → reply_of k A kind (record_of A.records c) ≡ reply_of l B kind (record_of B.records c)
    replied_alike c = found_alike (record_of A.records c) ∙ ap (λ (records : List Record). reply_of l B kind (record_of records c)) same.records

-- so a command that names a clearance is answered alike where its refusal is the same, and its edits are
module _ (A B : Register) (same : SameLists A B) (k l : Known) (q : Command) (c : Id) (named : named_clearance q.kind ≡ Some c) (no_show : is_show q.kind ≡ false)
    (made : edits_of k.greatest A q.caller q.moment q.kind ≡ edits_of l.greatest B q.caller q.moment q.kind) where
  about : (m : Known) (T : Register) → reply_after m T q.caller q.kind ≡ reply_of m T q.kind (record_of T.records c)
  about m T = reply_named m T q.caller q.kind (no_jumper q.kind c named) ∙ ap (λ (o : Option Id). reply_of m T q.kind (record_of T.records (reply_clearance m.greatest q.caller o))) named

  pub settled : (found : Option Refusal) → answer_by_checks k A q found ≡ answer_by_checks l B q found
  settled (Some refusal) = refl
  settled None =
      let edits = edits_of k.greatest A q.caller q.moment q.kind in
      let reply : reply_after k (after_edits edits A) q.caller q.kind ≡ reply_after l (after_edits (edits_of l.greatest B q.caller q.moment q.kind) B) q.caller q.kind =
      about k (after_edits edits A) ∙ replied_alike (after_edits edits A) (after_edits edits B) (edited_alike edits A B same) k l q.kind no_show c ∙ sym (about l (after_edits edits B))
      ∙ ap (λ (list : List Edit). reply_after l (after_edits list B) q.caller q.kind) made in
      λ i. record { reply = reply i; edits = made i }
