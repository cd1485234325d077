-- The text of one more step of a journal.
use Rattle.std.proofs.Common.{◌≡◌, ◌∙◌, ap, refl, subst, sym, ℕ, ℤ, Bool, false, true, List, [], ◌∷◌, ◌++◌, append_assoc, append-nil, if◌then◌else◌}
use Rattle.std.specs.Prelude.{None, Option, Some}
use Rattle.clr_rules.specs.Id.{Id}
use Rattle.clr_journal.specs.Journals.{carried_out}
use Rattle.clr_journal.specs.Line.{Entry}
use Rattle.clr_chain.specs.Walking.{Step, bad, holds}
use Rattle.clr_log.specs.Commands.{commands_about, commands_text, wanted_of}
use Rattle.clr_log.specs.Walked.{Serve, held_entries, holding, older_with, step_text, steps_text, walked_commands, walked_log}
use Rattle.clr_log.specs.declared.walked.WalkedCommands.{WalkedCommands}
use Rattle.clr_log.specs.declared.walked.WalkedLog.{WalkedLog}
use Rattle.clr_verify.specs.Replay.{open_entries}
use Rattle.clr_args.specs.declared.asked.JournalArgs.{JournalArgs}
use Rattle.clr_edge.specs.declared.fault.Fault.{Fault}
use Rattle.clr_edge.specs.declared.fault.Fault.TheVariants.{Journal}
use Rattle.clr_edge.specs.declared.fault.JournalFault.TheVariants.{BadLine}
use Rattle.std.specs.Prelude.{Err, Ok}
use Rattle.clr_keeping.specs.Journal.{ends_as, journal_text}
use Rattle.clr_keeping.specs.Printing.{IsText, bad_with, first_bad, older_after}
use Rattle.clr_keeping.specs.declared.journal.Kind.{Kind}
use Rattle.clr_keeping.specs.declared.journal.Kind.TheVariants.{Commands, Log}

-- ---- lists of steps
older_after-more : (older : List Entry) (steps : List Step) (step : Step) → older_after older (steps ++ step ∷ []) ≡ older_with (older_after older steps) step
unfolding older_after
older_after-more older [] step = refl
older_after-more older (first ∷ rest) step = older_after-more (older_with older first) rest step

steps_text-more : (wanted : Option Id) (offset : ℤ) (older : List Entry) (steps : List Step) (step : Step)
    → steps_text wanted offset older (steps ++ step ∷ []) ≡ steps_text wanted offset older steps ++ step_text wanted offset (older_after older steps) step
unfolding steps_text older_after
steps_text-more wanted offset older [] step = append-nil (step_text wanted offset older step)
steps_text-more wanted offset older (first ∷ rest) step =
    ap (λ (l : List ℕ). step_text wanted offset older first ++ l) (steps_text-more wanted offset (older_with older first) rest step)
    ∙ sym (append_assoc (step_text wanted offset older first) (steps_text wanted offset (older_with older first) rest) (step_text wanted offset (older_after (older_with older first) rest) step))

holding-more : (steps : List Step) (step : Step) (rest : List Entry) → holding (steps ++ step ∷ []) ++ rest ≡ holding steps ++ older_with rest step
unfolding holding
holding-more [] (holds entry) rest = refl
holding-more [] (bad n) rest = refl
holding-more (holds first ∷ steps) step rest = ap (λ (l : List Entry). first ∷ l) (holding-more steps step rest)
holding-more (bad n ∷ steps) step rest = holding-more steps step rest

pub first_bad-more : (steps : List Step) (step : Step) → first_bad (steps ++ step ∷ []) ≡ bad_with (first_bad steps) step
first_bad-more [] (holds entry) = refl
first_bad-more [] (bad n) = refl
first_bad-more (holds first ∷ rest) step = first_bad-more rest step
first_bad-more (bad n ∷ rest) step = refl

-- ---- no step yet
pub log_none : (args : JournalArgs) (wanted : Option Id) (log : WalkedLog) → args.commands ≡ false → log.wanted ≡ wanted → log.clock ≡ args.offset.minutes
    → Serve wanted (held_entries log.held.items) [] → IsText args wanted [] [] (Log log)
unfolding older_after steps_text
log_none args wanted log plain same clock serves = (plain, same, clock, serves, refl)

pub commands_none : (args : JournalArgs) (wanted : Option Id) (it : WalkedCommands) → args.commands ≡ true → it.wanted ≡ wanted → open_entries it.last ≡ []
    → IsText args wanted [] [] (Commands it)
unfolding holding
commands_none args wanted it commands same none = (
  commands,
  same,
  λ rest. ap (λ (l : List Entry). commands_text (commands_about wanted (l ++ rest))) (sym none),
)

-- ---- one more

-- of the log
pub log_more : (args : JournalArgs) (wanted : Option Id) (steps : List Step) (step : Step) (sent before after : List ℕ) (old new : WalkedLog)
    → ((older : List Entry) → Serve old.wanted (held_entries old.held.items) older → after ≡ before ++ step_text old.wanted old.clock older step)
    → ((older : List Entry) → Serve old.wanted (held_entries old.held.items) older → Serve new.wanted (held_entries new.held.items) (older_with older step))
    → new.wanted ≡ old.wanted → new.clock ≡ old.clock
    → IsText args wanted steps (sent ++ before) (Log old) → IsText args wanted (steps ++ step ∷ []) (sent ++ after) (Log new)
log_more args wanted steps step sent before after old new text serve same clock (plain, is_wanted, is_clock, serves, all) =
    let older = older_after [] steps in
    let offset = args.offset.minutes in
    let had : Serve old.wanted (held_entries old.held.items) older = subst (λ (w : Option Id). Serve w (held_entries old.held.items) older) (sym is_wanted) serves in
    let has : Serve wanted (held_entries new.held.items) (older_with older step) = subst (λ (w : Option Id). Serve w (held_entries new.held.items) (older_with older step)) (same ∙ is_wanted) (serve older had) in (
      plain,
      same ∙ is_wanted,
      clock ∙ is_clock,
      subst (λ (l : List Entry). Serve wanted (held_entries new.held.items) l) (sym (older_after-more [] steps step)) has,
      ap (λ (l : List ℕ). sent ++ l) (text older had)
          ∙ sym (append_assoc sent before (step_text old.wanted old.clock older step))
          ∙ (λ i. all i ++ step_text (is_wanted i) (is_clock i) older step)
          ∙ sym (steps_text-more wanted offset [] steps step),
    )

-- of the commands
pub commands_more : (args : JournalArgs) (wanted : Option Id) (steps : List Step) (step : Step) (sent before after : List ℕ) (old new : WalkedCommands)
    → ((rest : List Entry) → before ++ commands_text (wanted_of old.wanted (carried_out (open_entries old.last ++ older_with rest step)))
    ≡ after ++ commands_text (wanted_of new.wanted (carried_out (open_entries new.last ++ rest))))
    → new.wanted ≡ old.wanted
    → IsText args wanted steps (sent ++ before) (Commands old) → IsText args wanted (steps ++ step ∷ []) (sent ++ after) (Commands new)
commands_more args wanted steps step sent before after old new text same (commands, is_wanted, all) = (commands, same ∙ is_wanted, each)
  where
    moved : (rest : List Entry)
        → before ++ commands_text (commands_about wanted (open_entries old.last ++ older_with rest step)) ≡ after ++ commands_text (commands_about wanted (open_entries new.last ++ rest))
    moved rest =
        ap (λ (w : Option Id). before ++ commands_text (wanted_of w (carried_out (open_entries old.last ++ older_with rest step)))) (sym is_wanted)
        ∙ text rest
        ∙ ap (λ (w : Option Id). after ++ commands_text (wanted_of w (carried_out (open_entries new.last ++ rest)))) (same ∙ is_wanted)

    each : (rest : List Entry)
        → commands_text (commands_about wanted (holding (steps ++ step ∷ []) ++ rest)) ≡ (sent ++ after) ++ commands_text (commands_about wanted (open_entries new.last ++ rest))
    each rest =
        ap (λ (l : List Entry). commands_text (commands_about wanted l)) (holding-more steps step rest)
        ∙ all (older_with rest step)
        ∙ append_assoc sent before (commands_text (commands_about wanted (open_entries old.last ++ older_with rest step)))
        ∙ ap (λ (l : List ℕ). sent ++ l) (moved rest)
        ∙ sym (append_assoc sent after (commands_text (commands_about wanted (open_entries new.last ++ rest))))

-- ---- the end
pub log_end : (args : JournalArgs) (wanted : Option Id) (steps : List Step) (text : List ℕ) (log : WalkedLog)
    → IsText args wanted steps text (Log log) → text ≡ journal_text args wanted steps
log_end args wanted steps text log (plain, same, clock, serves, all) =
    all ∙ ap (λ (b : Bool). if b then walked_commands wanted steps else walked_log wanted args.offset.minutes steps) (sym plain)

pub commands_end : (args : JournalArgs) (wanted : Option Id) (steps : List Step) (text : List ℕ) (it : WalkedCommands)
    → IsText args wanted steps text (Commands it) → journal_text args wanted steps ≡ text ++ commands_text (commands_about wanted (open_entries it.last))
commands_end args wanted steps text it (commands, same, all) =
    ap (λ (b : Bool). if b then walked_commands wanted steps else walked_log wanted args.offset.minutes steps) commands
    ∙ ap (λ (l : List Entry). commands_text (commands_about wanted l)) (sym (append-nil (holding steps)))
    ∙ all []
    ∙ ap (λ (l : List Entry). text ++ commands_text (commands_about wanted l)) (append-nil (open_entries it.last))

pub commands_ended : (args : JournalArgs) (wanted : Option Id) (steps : List Step) (sent before after : List ℕ) (it : WalkedCommands)
    → after ≡ before ++ commands_text (wanted_of it.wanted (carried_out (open_entries it.last)))
    → IsText args wanted steps (sent ++ before) (Commands it) → sent ++ after ≡ journal_text args wanted steps
commands_ended args wanted steps sent before after it ends (commands, same, all) =
    ap (λ (l : List ℕ). sent ++ l) (ends ∙ ap (λ (w : Option Id). before ++ commands_text (wanted_of w (carried_out (open_entries it.last)))) same)
    ∙ sym (append_assoc sent before (commands_text (commands_about wanted (open_entries it.last))))
    ∙ sym (commands_end args wanted steps (sent ++ before) it (commands, same, all))

-- what is held is a front of the text of all
pub text_front : (args : JournalArgs) (wanted : Option Id) (steps : List Step) (text : List ℕ) (kind : Kind) → IsText args wanted steps text kind
    → (more : List ℕ) × (journal_text args wanted steps ≡ text ++ more)
text_front args wanted steps text (Log log) is = ([], sym (log_end args wanted steps text log is) ∙ sym (append-nil text))
text_front args wanted steps text (Commands it) is = (commands_text (commands_about wanted (open_entries it.last)), commands_end args wanted steps text it is)

-- how it ends
pub ends_well : (steps : List Step) → None ≡ first_bad steps → Ok tt ≡ ends_as steps
ends_well [] none = refl
ends_well (holds entry ∷ rest) none = ends_well rest none
ends_well (bad n ∷ rest) none = absurd (cc)

pub ends_badly : (steps : List Step) (number : ℕ) → Some number ≡ first_bad steps → Err (Journal (BadLine number)) ≡ ends_as steps
ends_badly [] number some = absurd (cc)
ends_badly (holds entry ∷ rest) number some = ends_badly rest number some
ends_badly (bad n ∷ rest) number some =
    let same : number ≡ n = cc in
    ap (λ (k : ℕ). Err (Journal (BadLine k))) same

-- and what it is not
pub ends_as-bad : (steps : List Step) (fault : Fault) → ends_as steps ≡ Err fault → (number : ℕ) × (fault ≡ Journal (BadLine number))
ends_as-bad [] fault is = absurd (cc)
ends_as-bad (holds entry ∷ rest) fault is = ends_as-bad rest fault is
ends_as-bad (bad n ∷ rest) fault is = (n, cc)
