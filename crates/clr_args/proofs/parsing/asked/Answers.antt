use Rattle.clr_args.proofs.AskedByName.{of_name}
use Rattle.clr_args.proofs.parsing.asked.Goals as goal

-- the words of a subcommand come to what they come to by its name
pub returns-in-fence : goal.returns-in-fence
returns-in-fence c = of_name _ _ _ _ c.in-fence.is c.fence_parsed.ensures

pub returns-in-init : goal.returns-in-init
returns-in-init c = of_name _ _ _ _ c.in-init.is c.init_parsed.ensures

pub returns-in-run : goal.returns-in-run
returns-in-run c = of_name _ _ _ _ c.in-run.is c.run_parsed.ensures

pub returns-in-serve : goal.returns-in-serve
returns-in-serve c = of_name _ _ _ _ c.in-serve.is c.serve_parsed.ensures

pub returns-in-journal : goal.returns-in-journal
returns-in-journal c = of_name _ _ _ _ c.in-journal.is c.journal_parsed.ensures

pub returns-in-verify : goal.returns-in-verify
returns-in-verify c = of_name _ _ _ _ c.in-verify.is c.verify_parsed.ensures

pub returns-in-update : goal.returns-in-update
returns-in-update c = of_name _ _ _ _ c.in-update.is c.update_parsed.ensures
