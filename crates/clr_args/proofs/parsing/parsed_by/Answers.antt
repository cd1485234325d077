use Rattle.std.specs.Prelude.{Some, None}
use Rattle.clr_args.proofs.ParsedWords.{HasKind-words, IsParsed-read, IsParsed-said, IsParsed-unnamed, fault_of-parsed, subcommand_of-met}
use Rattle.clr_args.proofs.parsing.parsed_by.Goals as goal

-- clap found something to say
pub returns-in-Err : goal.returns-in-Err
returns-in-Err g c =
    IsParsed-said _ _ c.in-Err.error c.unparsed.result (HasKind-words _ _ c.in-Err.error c.requires c.in-Err.ensures.kinds)
    c.unparsed.ensures.memory c.unparsed.ensures.said

-- the words parse, and name a subcommand or none
pub returns-in-Some : goal.returns-in-Some
returns-in-Some g c =
    IsParsed-read _ _ _ _ c.asked.result (fault_of-parsed _ _ c.requires c.in-Ok.ensures.kinds)
    (subcommand_of-met _ _ _ (Some (c.in-Some.name, c.in-Some.matches)) c.requires c.in-Ok.ensures.ok.2
    c.in-Some.ensures.name c.in-Some.ensures.rows) c.asked.ensures

pub returns : goal.returns
returns g c =
    IsParsed-unnamed _ _ _ (fault_of-parsed _ _ c.requires c.in-Ok.ensures.kinds)
    (subcommand_of-met _ _ _ None c.requires c.in-Ok.ensures.ok.2 c.in-None.ensures.name c.in-None.ensures.rows) tt
