use Rattle.std.proofs.Common.{◌≡◌, rules}
use Rattle.std.specs.Prelude.{Ok}
use Rattle.clr_args.proofs.Drafts.{of_ok, with_plain}
use Rattle.clr_args.proofs.syntax.draft.with.Goals as goal

-- memory ran out for neither
pub returns : goal.returns
returns c = λ app sub plain above below.
    let first : c.args.command ≡ Ok c.in_ok-above.above = search rules in
    let second : c.args.subcommand ≡ Ok c.in_ok-below.below = search rules in
    with_plain _ _ app sub c.subcommand.result c.subcommand.ensures plain (of_ok _ _ app first above) (of_ok _ _ sub second below)
