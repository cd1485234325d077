use Rattle.std.proofs.Common.{◌≡◌, ◌++◌, List, subst, sym, ℕ}
use Rattle.std.specs.Prelude.{OnOk, Option, string_bytes}
use Rattle.clr_rules.specs.Id.{Id}
use Rattle.clr_chain.specs.Walking.{Step}
use Rattle.clr_args.specs.declared.asked.JournalArgs.{JournalArgs}
use Rattle.clr_keeping.specs.Journal.{journal_text}
use Rattle.clr_keeping.specs.Printing.{IsText}
use Rattle.clr_keeping.specs.declared.journal.Kind.{Kind}
use Rattle.clr_keeping.proofs.KindSteps.{commands_over}
use Rattle.clr_keeping.proofs.StepTexts.{log_end}
use Rattle.clr_keeping.proofs.journal.Kind.end.Goals as goal

pub returns-in-Log : goal.returns-in-Log
returns-in-Log c = λ args wanted steps sent is.
    let text = sent ++ string_bytes c.args.out.now in
    log_end args wanted steps text c.in-Log.field-0 (subst (λ (k : Kind). IsText args wanted steps text k) c.in-Log.is is)

pub returns-in-Commands : goal.returns-in-Commands
returns-in-Commands c =
    let before = string_bytes c.args.out.now in
    let after = string_bytes c.end.new.out in
    subst
    (λ (k : Kind). OnOk c.end.result ((args : JournalArgs) (wanted : Option Id) (steps : List Step) (sent : List ℕ)
    → IsText args wanted steps (sent ++ before) k → sent ++ after ≡ journal_text args wanted steps))
    (sym c.in-Commands.is)
    (commands_over c.end.result c.in-Commands.commands before after c.end.ensures.text)
