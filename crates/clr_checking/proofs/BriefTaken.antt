-- A refused command is refused without its lists and its text too, for the same, or for having none.
use Rattle.std.proofs.Common.{◌≡◌, ◌⊎◌, ◌∙◌, ℕ, Bool, true, false, not, List, [], ◌∷◌, ◌++◌, Option, None, Some, refl, ap, sym, inl, inr, bytes_eq, codes}
use Rattle.std.proofs.lemmas.Bool.{and_from}
use Rattle.clr_order.specs.Texts.{step_text}
use Rattle.clr_rules.proofs.edits.Refusing.{refused_by_first_check}
use Rattle.clr_rules.specs.Answer.{Answer, answer, first_refusal, known_of}
use Rattle.clr_rules.specs.Checks.{earlier_moment, is_field, is_operator, no_step, refuse, repeat_differs, too_many_clearances, unknown_caller, unknown_clearance, unsound_order, where_some, wrong_phase, wrong_restoring, wrong_role, wrong_state, wrong_switching}
use Rattle.clr_rules.specs.Commands.{Known}
use Rattle.clr_rules.specs.Prelude.{is_active, is_running, present_steps, step_at, task}
use Rattle.clr_rules.specs.Records.{is_released, is_requested}
use Rattle.clr_rules.specs.Register.{Register}
use Rattle.clr_rules.specs.declared.command.Command.{Command}
use Rattle.clr_rules.specs.declared.command.Kind.{Kind}
use Rattle.clr_rules.specs.declared.command.Kind.TheVariants as kinds
use Rattle.clr_rules.specs.declared.refusal.Refusal.{Refusal}
use Rattle.clr_rules.specs.declared.refusal.Refusal.TheVariants as refusals
use Rattle.clr_rules.specs.declared.reply.Reply.TheVariants.{Refused}
use Rattle.clr_rules.specs.declared.step_row.StepRow.{StepRow}
use Rattle.clr_rules.specs.laws.Edits.{refusal_of}
use Rattle.clr_journal.specs.Line.{says}
use Rattle.clr_text.specs.RefusalText.{refusal_data}
use Rattle.clr_text.specs.Replies.{reply_data}
use Rattle.clr_checking.specs.Brief.{IsTaken, in_brief, is_empty_kind, is_for_empty}
use Rattle.clr_checking.specs.Laws.{BriefLinesAreTaken}

says_refused : (refusal : Refusal) → says (codes "refused") (refusal_data refusal) ≡ true
says_refused refusals.UnknownCaller = refl
says_refused _ = refl

abbrev of : List ℕ → ℕ → Kind → Command
of by at kind = record { caller = by; moment = at; kind = kind }

-- the line in brief is taken with this refusal
abbrev Taken : Register → Command → Refusal → Type 0
Taken R q refusal = IsTaken (in_brief q) (reply_data (Refused refusal)) (Answer.reply (answer R (in_brief q)))

-- ---- the last check of a command

only_one : (check : Option Refusal) → first_refusal (check ∷ []) ≡ check
only_one None = refl
only_one (Some refusal) = refl

-- where the last check is another, the same check before it applies; or none does
by_last : (early : List (Option Refusal)) (last other : Option Refusal) (refusal : Refusal) → first_refusal (early ++ last ∷ []) ≡ Some refusal
    → (first_refusal (early ++ other ∷ []) ≡ Some refusal) ⊎ ((first_refusal (early ++ other ∷ []) ≡ other) × (last ≡ Some refusal))
by_last [] last other refusal h = inr (only_one other, sym (only_one last) ∙ h)
by_last (None ∷ early) last other refusal h = by_last early last other refusal h
by_last (Some first ∷ early) last other refusal h = inl h

-- ---- what is taken

module _ (R : Register) (q : Command) (refusal : Refusal) where
  the_same : refusal_of R (in_brief q) ≡ Some refusal → Taken R q refusal
  the_same is = inr (λ flat. ap reply_data (sym ((refused_by_first_check R (in_brief q) refusal).1 is)))

  for_none : is_empty_kind (Command.kind (in_brief q)) ≡ true → refusal_of R (in_brief q) ≡ Some refusals.EmptyOrder
      → Taken R q refusal
  for_none bare is =
      inl (and_from _ _ (and_from _ _ (says_refused refusal) bare) (ap is_for_empty ((refused_by_first_check R (in_brief q) refusals.EmptyOrder).1 is)))

  by_lists : (early : List (Option Refusal)) (last : Option Refusal) → is_empty_kind (Command.kind (in_brief q)) ≡ true
      → refusal_of R (in_brief q) ≡ first_refusal (early ++ Some refusals.EmptyOrder ∷ [])
      → first_refusal (early ++ last ∷ []) ≡ Some refusal → Taken R q refusal
  by_lists early last bare other h = by (by_last early last (Some refusals.EmptyOrder) refusal h)
    where
      by : (first_refusal (early ++ Some refusals.EmptyOrder ∷ []) ≡ Some refusal)
          ⊎ ((first_refusal (early ++ Some refusals.EmptyOrder ∷ []) ≡ Some refusals.EmptyOrder) × (last ≡ Some refusal))
          → Taken R q refusal
      by (inl same) = the_same (other ∙ same)
      by (inr none) = for_none bare (other ∙ none.0)

  by_text : (early : List (Option Refusal)) (last without : Option Refusal) → refusal_of R (in_brief q) ≡ first_refusal (early ++ without ∷ [])
      → (last ≡ Some refusal → without ≡ Some refusal) → first_refusal (early ++ last ∷ []) ≡ Some refusal
      → Taken R q refusal
  by_text early last without other stays h = by (by_last early last without refusal h)
    where
      by : (first_refusal (early ++ without ∷ []) ≡ Some refusal) ⊎ ((first_refusal (early ++ without ∷ []) ≡ without) × (last ≡ Some refusal))
          → Taken R q refusal
      by (inl same) = the_same (other ∙ same)
      by (inr here) = the_same (other ∙ here.0 ∙ stays here.1)

-- no step has an empty text
some_text : (xs ys : List ℕ) → bytes_eq (xs ++ 32 ∷ ys) [] ≡ false
some_text [] ys = refl
some_text (x ∷ xs) ys = refl

differs_by : (b : Bool) (refusal : Refusal) → refuse b refusals.RepeatDiffers ≡ Some refusal → Some refusals.RepeatDiffers ≡ Some refusal
differs_by true refusal h = h
differs_by false refusal h = absurd (cc h)

differs_too : (found : Option StepRow) (text : List ℕ) (refusal : Refusal)
    → where_some found (λ row. refuse (not (bytes_eq (step_text (task row.step)) text)) refusals.RepeatDiffers) ≡ Some refusal
    → where_some found (λ row. refuse (not (bytes_eq (step_text (task row.step)) [])) refusals.RepeatDiffers) ≡ Some refusal
differs_too None text refusal h = absurd (cc h)
differs_too (Some row) text refusal h =
    ap (λ (b : Bool). refuse (not b) refusals.RepeatDiffers) (some_text _ _) ∙ differs_by (not (bytes_eq (step_text (task row.step)) text)) refusal h

-- ---- each kind

taken : (R : Register) (by : List ℕ) (at : ℕ) (kind : Kind) (refusal : Refusal) → refusal_of R (of by at kind) ≡ Some refusal
    → Taken R (of by at kind) refusal
taken R by at (kinds.Order c points tasks) refusal h =
    by_lists R (of by at (kinds.Order c points tasks)) refusal
    (unknown_caller R by ∷ wrong_role R by is_operator ∷ unknown_clearance R c ∷ earlier_moment R c at ∷ wrong_phase R c is_requested ∷ [])
    (unsound_order R (Known.fence (known_of R (of by at (kinds.Order c points tasks)))) points tasks) refl refl h
taken R by at (kinds.Restore c tasks) refusal h =
    by_lists R (of by at (kinds.Restore c tasks)) refusal
    (unknown_caller R by ∷ wrong_role R by is_operator ∷ unknown_clearance R c ∷ earlier_moment R c at ∷ wrong_phase R c is_released ∷ [])
    (wrong_restoring R c tasks) refl refl h
taken R by at (kinds.Switch tasks) refusal h =
    by_lists R (of by at (kinds.Switch tasks)) refusal
    (unknown_caller R by ∷ wrong_role R by is_operator
    ∷ too_many_clearances (Known.greatest (known_of R (of by at (kinds.Switch tasks)))) ∷ [])
    (wrong_switching R tasks) refl refl h
taken R by at (kinds.Repeat c n text) refusal h =
    by_text R (of by at (kinds.Repeat c n text)) refusal
    (unknown_caller R by ∷ wrong_role R by is_field ∷ unknown_clearance R c ∷ earlier_moment R c at ∷ wrong_phase R c is_running
    ∷ no_step R c n ∷ wrong_state R c n is_active ∷ [])
    (repeat_differs R c n text) (repeat_differs R c n []) refl (differs_too (step_at (present_steps R.steps c) n) text refusal) h
taken R by at kind refusal h = the_same R (of by at kind) refusal h

pub brief_lines_are_taken : BriefLinesAreTaken
brief_lines_are_taken R q refusal h = taken R q.caller q.moment q.kind refusal ((refused_by_first_check R q refusal).0 h)
