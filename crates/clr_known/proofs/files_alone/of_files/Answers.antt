use Rattle.std.proofs.Common.{◌∙◌}
use Rattle.clr_known.proofs.files_alone.of_files.Goals as goal

pub returns-clause-text : goal.returns-clause-text
returns-clause-text g c known = record {
  fence_is = c.fence_of_l2-fenced.ensures;
  warnings_are = c.warnings_of_files-checked.ensures;
  counts_are = c.counts_of_files-counted.ensures.text;
  reply_is = c.reply_over_files-replied.ensures.text known;
}

pub returns-clause-machine : goal.returns-clause-machine
returns-clause-machine g c = c.reply_over_files-replied.ensures.machine ∙ c.counts_of_files-counted.ensures.machine
