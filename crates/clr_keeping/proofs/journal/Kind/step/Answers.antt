use Rattle.std.proofs.Common.{◌++◌, ◌∷◌, [], List, subst, sym, ℕ}
use Rattle.std.specs.Prelude.{OnOk, Option, string_bytes}
use Rattle.clr_rules.specs.Id.{Id}
use Rattle.clr_chain.specs.Walking.{Step, seen_step}
use Rattle.clr_args.specs.declared.asked.JournalArgs.{JournalArgs}
use Rattle.clr_keeping.specs.Printing.{IsText}
use Rattle.clr_keeping.specs.declared.journal.Kind.{Kind}
use Rattle.clr_keeping.specs.declared.journal.Kind.TheVariants.{Commands, Log}
use Rattle.clr_keeping.proofs.KindSteps.{commands_stepped, log_stepped}
use Rattle.clr_keeping.proofs.journal.Kind.step.Goals as goal

pub returns-in-Log : goal.returns-in-Log
returns-in-Log c =
    let before = string_bytes c.args.out.now in
    let after = string_bytes c.step.new.out in
    let step = seen_step c.args.step in
    subst
    (λ (k : Kind). OnOk c.step.result ((args : JournalArgs) (wanted : Option Id) (steps : List Step) (sent : List ℕ)
    → IsText args wanted steps (sent ++ before) k → IsText args wanted (steps ++ step ∷ []) (sent ++ after) (Log c.step.new.self)))
    (sym c.in-Log.is)
    (log_stepped c.step.result c.in-Log.log c.step.new.self step before after c.step.ensures.text c.step.ensures.serve c.step.ensures.wanted c.step.ensures.clock)

pub returns-in-Commands : goal.returns-in-Commands
returns-in-Commands c =
    let call = c.step-in-Commands in
    let before = string_bytes c.args.out.now in
    let after = string_bytes call.new.out in
    let step = seen_step c.args.step in
    subst
    (λ (k : Kind). OnOk call.result ((args : JournalArgs) (wanted : Option Id) (steps : List Step) (sent : List ℕ)
    → IsText args wanted steps (sent ++ before) k → IsText args wanted (steps ++ step ∷ []) (sent ++ after) (Commands call.new.self)))
    (sym c.in-Commands.is)
    (commands_stepped call.result c.in-Commands.commands call.new.self step before after call.ensures.text call.ensures.wanted)
