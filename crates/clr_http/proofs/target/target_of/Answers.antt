use Rattle.std.proofs.Common.{◌∙◌, sym, ap}
use Rattle.matchit.specs.Seek.{first}
use Rattle.clr_http.proofs.Parts.{found_is_ascii}
use Rattle.clr_http.proofs.target.target_of.Goals as goal

pub target_by-requires-clause-text : goal.target_by-requires-clause-text
target_by-requires-clause-text c =
    found_is_ascii c.args.desk c.args.target.now _ (ap (λ rows. first rows c.args.target.now) (sym c.in-Ok.ensures) ∙ c.in-Ok-at.ensures.found)
