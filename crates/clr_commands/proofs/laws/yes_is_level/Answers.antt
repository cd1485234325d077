use Rattle.clr_commands.proofs.laws.yes_is_level.Goals as goal

pub returns : goal.returns
returns c = λ files began one parts place R text yes. (yes.first, yes.texts, yes.has_lines, yes.of_files, yes.count, yes.text_is, yes.checked)
