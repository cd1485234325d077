-- The logins of a service: what their file gives, and the terms of a server by them.
use Rattle.std.specs.Prelude.{◌≡◌, ℕ, List, None, Option, Some, Result, Ok, IfErr, IfSome}
use Rattle.std.specs.Borrow.{Bor}
use Rattle.clr_net.specs.Results.{◌>>=◌}
use Rattle.clr_staff.specs.declared.employee.StaffRow.{StaffRow}
use Rattle.clr_csv.specs.LoginRows.{logins_of}
use Rattle.clr_staff.specs.declared.logins.LoginRow.{LoginRow}
use Rattle.clr_args.specs.declared.asked.ServeArgs.{ServeArgs}
use Rattle.clr_edge.specs.Fault.{IsOfFile}
use Rattle.clr_edge.specs.Files.{IsUnread, told_of}
use Rattle.clr_edge.specs.Logins.{known_logins}
use Rattle.clr_edge.specs.declared.fault.Fault.{Fault}
use Rattle.clr_edge.specs.declared.fault.ImportFile.TheVariants.{Logins}
use Rattle.clr_commands.specs.Answers.{Gives}
use Rattle.clr_edge.specs.Paths.{AtPaths, HasCauseAt}
use Rattle.clr_commands.specs.declared.serve.Terms.{Terms}

-- what was read of the file of logins at a path: what it gives, as far as its bytes are known; it is
-- reported as unread only where it failed
pub record AreLoginsAt (at : AtPaths) (path : List ℕ) (read : Result (List LoginRow) Fault)
    : Type 0 where
  pub rows : IfSome (at.bytes path) (λ file.
      Gives (IsUnread Logins) (λ rows. rows) (told_of Logins (logins_of file)) read)
  pub cause : HasCauseAt at path Logins read
  pub fault : IfErr read (IsOfFile Logins)

abbrev pub some_rows : Result (List LoginRow) Fault → Result (Option (List LoginRow)) Fault
some_rows read = do
  rows ← read
  Ok (Some rows)

-- the same of the file that is named, if one is
abbrev pub NamesLogins : AtPaths → Option (Bor (List ℕ)) → Result (Option (List LoginRow)) Fault
    → Type 0
NamesLogins at None read = read ≡ Ok None
NamesLogins at (Some path) read = (rows : Result (List LoginRow) Fault)
    × AreLoginsAt at path.now rows × (read ≡ some_rows rows)

-- THE TERMS OF A SERVER that is asked for, with the logins of these rows: none where no file of them
-- is named, and none at all where the staff lacks an employee of theirs
abbrev pub terms_with : ServeArgs → Option (List LoginRow) → Terms
terms_with args logins = record {
  port = args.port;
  count = args.count;
  deadline = args.deadline;
  service = record { desk = args.desk; logins = logins };
}

abbrev pub terms_of : ServeArgs → List StaffRow → Option (List LoginRow) → Result Terms Fault
terms_of args staff None = Ok (terms_with args None)
terms_of args staff (Some rows) = do
  known ← known_logins staff rows
  Ok (terms_with args (Some known))
