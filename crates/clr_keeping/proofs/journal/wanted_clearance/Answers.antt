use Rattle.std.proofs.Common.{◌∙◌, ap, sym, option_map}
use Rattle.std.specs.Result.{result_ok}
use Rattle.clr_rules.specs.IdText.{read_id}
use Rattle.clr_keeping.specs.Journal.{wanted_clearance}
use Rattle.clr_keeping.proofs.NoWord.{names_none}
use Rattle.clr_keeping.proofs.journal.wanted_clearance.Goals as goal

pub returns-in-None-clause-wanted : goal.returns-in-None-clause-wanted
returns-in-None-clause-wanted c =
    let none = ap result_ok (sym c.read.ensures.value) ∙ sym c.ok.ensures.value ∙ c.in-None.is in
    names_none (read_id c.in-Some.word.now) _ none ∙ ap (λ word. wanted_clearance (option_map (λ text. text.now) word)) (sym c.in-Some.is)
