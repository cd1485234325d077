use Rattle.std.proofs.Common.{inr}
use Rattle.clr_disk.proofs.database.open_database.Goals as goal

-- it was opened over the files at that path
pub returns-in-Ok-clause-opened : goal.returns-in-Ok-clause-opened
returns-in-Ok-clause-opened g c = record {
  files = c.in_ok-files.files;
  had = c.in_ok-files.ensures.has;
  over = c.in-Ok.ensures.over;
}

-- it was not, and what is left of them was let go
pub returns-in-Err-clause-refused : goal.returns-in-Err-clause-refused
returns-in-Err-clause-refused g c = inr (inr (record {
  files = c.in_ok-files.files;
  middle = c.files_at.new.system;
  had = c.in_ok-files.ensures.has;
  left = c.in-Err.left;
  unharmed = c.in-Err.ensures.unharmed;
  gone = rw (← c.into_files.ensures) c.let_go.ensures;
}))
