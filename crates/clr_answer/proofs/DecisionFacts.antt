-- What a command is answered: its refusal, what it asks for, or the card after its edits.
use Rattle.std.proofs.Common.{◌≡◌, ℕ, Bool, true, false, List, [], ◌∷◌, Some, None, Option, refl, sym, ◌∙◌, ap}
use Rattle.std.proofs.lemmas.Bool.{and_parts}
use Rattle.std.specs.List.{list_all}
use Rattle.clr_rules.specs.Answer.{Answer, answer_with, card_of, reply_clearance, first_refusal, answer_by_checks, reply_of, reply_after}
use Rattle.clr_rules.specs.Changes.{added_edits, new_jumper}
use Rattle.clr_rules.specs.Commands.{Known, checks}
use Rattle.clr_rules.specs.Commands.{edits_of}
use Rattle.clr_rules.specs.Command.{is_jumper, named_clearance}
use Rattle.clr_rules.proofs.near.NearNamed.{reply_named}
use Rattle.clr_rules.specs.Edits.{after_edit, after_edits}
use Rattle.clr_rules.specs.Id.{Id}
use Rattle.clr_rules.specs.Records.{record_of}
use Rattle.clr_rules.specs.Register.{Register}
use Rattle.clr_rules.specs.declared.change.Edit.{Edit}
use Rattle.clr_rules.specs.declared.change.Edit.TheVariants.{SetPosition, SetHand, PutHold, TakeHold, PutRecord, PutStep, AddSection, AddPoint}
use Rattle.clr_rules.specs.declared.command.Command.{Command}
use Rattle.clr_rules.specs.declared.command.Kind.{Kind}
use Rattle.clr_rules.specs.declared.command.Kind.TheVariants.{Show, Jumper}
use Rattle.clr_rules.specs.declared.record.Record.{Record}
use Rattle.clr_rules.specs.declared.refusal.Refusal.{Refusal}
use Rattle.clr_rules.specs.declared.reply.Reply.{Reply}
use Rattle.clr_rules.specs.declared.reply.Reply.TheVariants.{Accepted, Added}
use Rattle.clr_rules.specs.declared.step_row.StepRow.{StepRow}
use Rattle.clr_answer.specs.Decision.{accepted_with, all_edits, has_no_record}
use Rattle.clr_answer.specs.Effect.{leaves_rows}
use Rattle.clr_answer.proofs.CardFacts.{answer_of, record_after}

-- the answer that a first refusal gives, or none
pub settled_by : (k : Known) (R : Register) (q : Command) (refusal : Option Refusal) → first_refusal (checks k R q.caller q.moment q.kind) ≡ refusal
    → answer_with k R q ≡ answer_by_checks k R q refusal
settled_by k R q refusal is = ap (answer_by_checks k R q) is

-- a command that puts a record is no jumper
puts_record : (kind : Kind) → has_no_record kind ≡ false → is_jumper kind ≡ false
puts_record (Jumper point from to lockable remote) changes = cc changes
puts_record _ changes = refl

-- and its reply is the card
tells_card : (k : Known) (S : Register) (kind : Kind) (r : Record) → has_no_record kind ≡ false → reply_of k S kind (Some r) ≡ Accepted (card_of S r)
tells_card k S (Show c) r changes = cc changes
tells_card k S (Jumper point from to lockable remote) r changes = cc changes
tells_card k S _ r changes = refl

-- where its edits end with the record that the command is about, that is the card of the reply
pub accepted : (k : Known) (R : Register) (q : Command) (lead : List Edit) (r : Record) (rows : List StepRow)
    → first_refusal (checks k R q.caller q.moment q.kind) ≡ None → has_no_record q.kind ≡ false
    → edits_of k.greatest R q.caller q.moment q.kind ≡ all_edits lead r rows
    → r.id ≡ reply_clearance k.greatest q.caller (named_clearance q.kind)
    → answer_with k R q ≡ accepted_with R lead r rows
accepted k R q lead r rows passes changes made own =
    let S = after_edits (all_edits lead r rows) R in
    let told_with : List Edit → Answer = λ edits. answer_of (reply_after k (after_edits edits R) q.caller q.kind) edits in
    let found : record_of S.records (reply_clearance k.greatest q.caller (named_clearance q.kind)) ≡ Some r = ap (record_of S.records) (sym own) ∙ record_after lead r rows R in
    ap (answer_by_checks k R q) passes ∙ ap told_with made
    ∙ ap (λ reply. answer_of reply (all_edits lead r rows)) (reply_named k S q.caller q.kind (puts_record q.kind changes) ∙ ap (reply_of k S q.kind) found ∙ tells_card k S q.kind r changes)

-- without edits the register stays
pub edits_end : (R : Register) → after_edits [] R ≡ R
unfolding after_edits
edits_end R = refl

-- one that asks gets the register as it is
pub asked : (k : Known) (R : Register) (q : Command) (c : Id) (reply : Reply) → q.kind ≡ Show c → first_refusal (checks k R q.caller q.moment q.kind) ≡ None
    → reply_of k R (Show c) (record_of R.records c) ≡ reply
    → answer_with k R q ≡ answer_of reply []
asked k R q c reply is passes tells =
    let told_now : Register → Kind → Answer = λ S kind. answer_of (reply_after k S q.caller kind) (edits_of k.greatest R q.caller q.moment kind) in
    ap (answer_by_checks k R q) passes
    ∙ ap (λ kind. answer_of (reply_after k (after_edits (edits_of k.greatest R q.caller q.moment kind) R) q.caller kind) (edits_of k.greatest R q.caller q.moment kind)) is
    ∙ ap (λ S. answer_of (reply_after k S q.caller (Show c)) []) (edits_end R)
    ∙ ap (λ reply. answer_of reply []) tells

-- a jumper gets its point
pub laid : (k : Known) (R : Register) (q : Command) (point from to : List ℕ) (lockable remote : Bool) → q.kind ≡ Jumper point from to lockable remote
    → first_refusal (checks k R q.caller q.moment q.kind) ≡ None
    → answer_with k R q ≡ answer_of (Added point) (added_edits R (new_jumper point from to lockable remote))
laid k R q point from to lockable remote is passes =
    ap (answer_by_checks k R q) passes
    ∙ ap (λ kind. answer_of (reply_after k (after_edits (edits_of k.greatest R q.caller q.moment kind) R) q.caller kind) (edits_of k.greatest R q.caller q.moment kind)) is

-- edits of the network, of points and of holds leave all steps as they are
stays : (edit : Edit) (R : Register) → leaves_rows edit ≡ true → Register.steps (after_edit edit R) ≡ R.steps
stays (SetPosition point position) R leaves = refl
stays (SetHand point hand) R leaves = refl
stays (PutHold h) R leaves = refl
stays (TakeHold h) R leaves = refl
stays (PutRecord r) R leaves = cc
stays (PutStep row) R leaves = cc
stays (AddSection row) R leaves = refl
stays (AddPoint p) R leaves = refl

pub steps_stay : (lead : List Edit) (R : Register) → list_all leaves_rows lead ≡ true → Register.steps (after_edits lead R) ≡ R.steps
unfolding after_edits
steps_stay [] R leaves = refl
steps_stay (edit ∷ lead) R leaves =
    let (first, rest) = and_parts (leaves_rows edit) (list_all leaves_rows lead) leaves in
    steps_stay lead (after_edit edit R) rest ∙ stays edit R first
