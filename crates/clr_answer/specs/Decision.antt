-- What is decided, as an answer.
use Rattle.std.specs.Prelude.{◌≡◌, ℕ, Bool, true, false, List, [], ◌∷◌, ◌++◌, Option}
use Rattle.clr_rules.specs.Answer.{Answer, card_of, first_refusal}
use Rattle.clr_rules.specs.Changes.{put_steps}
use Rattle.clr_rules.specs.Commands.{checks, edits_of}
use Rattle.clr_rules.specs.Edits.{after_edits}
use Rattle.clr_rules.specs.Near.{Near}
use Rattle.clr_rules.specs.Register.{Register}
use Rattle.clr_rules.specs.declared.change.Edit.{Edit}
use Rattle.clr_rules.specs.declared.change.Edit.TheVariants.{PutRecord}
use Rattle.clr_rules.specs.declared.command.Kind.{Kind}
use Rattle.clr_rules.specs.declared.command.Kind.TheVariants.{Show, Jumper}
use Rattle.clr_rules.specs.declared.refusal.Refusal.{Refusal}
use Rattle.clr_rules.specs.declared.record.Record.{Record}
use Rattle.clr_rules.specs.declared.reply.Reply.{Reply}
use Rattle.clr_rules.specs.declared.reply.Reply.TheVariants.{Accepted, Shown, Refused, Added}
use Rattle.clr_rules.specs.declared.step_row.StepRow.{StepRow}
use Rattle.clr_answer.specs.declared.decision.Decision.{Decision}

-- the first check that applies, by what was given
abbrev pub near_refusal : Near → List ℕ → ℕ → Kind → Option Refusal
near_refusal near by at kind = first_refusal (checks near.known near.rows by at kind)

-- and what the command changes where none does
abbrev pub near_edits : Near → List ℕ → ℕ → Kind → List Edit
near_edits near by at kind = edits_of near.known.greatest near.rows by at kind

abbrev pub answer_of_decision : Decision → Answer
answer_of_decision d = record { reply = d.reply; edits = d.change.edits.items }

-- the edits that end with a record and steps of it
abbrev pub all_edits : List Edit → Record → List StepRow → List Edit
all_edits lead r rows = lead ++ PutRecord r ∷ put_steps rows

-- the answer by the card of a record that is put, after other edits, and steps of it
abbrev pub accepted_with : Register → List Edit → Record → List StepRow → Answer
accepted_with R lead r rows =
    record {
      reply = Accepted (card_of (after_edits (all_edits lead r rows) R) r);
      edits = all_edits lead r rows;
    }

-- every reply is asked for, so that a new one that changes the register is not taken for a question
abbrev pub is_accepted : Reply → Bool
is_accepted (Accepted card) = true
is_accepted (Shown view) = false
is_accepted (Refused refusal) = false
is_accepted (Added point) = true

-- a command that is refused, or is shown what it asks for, changes nothing
abbrev pub ChangesIfAccepted : Decision → Type 0
ChangesIfAccepted d = is_accepted d.reply ≡ false → d.change.edits.items ≡ []

-- whether an accepted command puts no record: it asks, or is about no clearance
abbrev pub has_no_record : Kind → Bool
has_no_record (Show c) = true
has_no_record (Jumper point from to lockable remote) = true
has_no_record _ = false
