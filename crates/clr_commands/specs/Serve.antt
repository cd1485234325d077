-- What `serve` does: it reads the logins that are named, opens a database, listens on a port, answers
-- the connections that come from the register that the database has, and closes it.
use Rattle.std.specs.Prelude.{◌≡◌, ◌⊎◌, ℕ, List, [], ◌∷◌, ◌++◌, codes, decimal}
use Rattle.std.specs.Prelude.{false, IfErr, Option, Result, Ok, Err}
use Rattle.std.specs.Borrow.{Bor}
use Rattle.sqlite_trees.specs.declared.store.Store.{Ghosts}
use Rattle.clr_stream.specs.Streams.{IsCut, Stream, WentOut}
use Rattle.clr_rules.specs.Good.{IsGood}
use Rattle.clr_rules.specs.Staffed.{IsStaffed}
use Rattle.clr_staff.specs.declared.logins.LoginRow.{LoginRow}
use Rattle.clr_desk.specs.Given.{LeadsTo}
use Rattle.clr_desk.specs.declared.commit.Commit as commit
use Rattle.clr_desk.specs.declared.desk.Desk.{Desk}
use Rattle.clr_http.specs.RequestLaws.{ComesWithin}
use Rattle.clr_http.specs.declared.registrar.Registrar as registrar
use Rattle.clr_args.specs.declared.asked.ServeArgs.{ServeArgs}
use Rattle.clr_keeping.specs.Keeping.{WorksWith}
use Rattle.clr_edge.specs.Loopback.{RefusesOn, StandsOn}
use Rattle.clr_keeping.specs.TakenUp.{Logs}
use Rattle.clr_edge.specs.Visit.{Comes, Done, Ending, Opening, Shutting, first_fault}
use Rattle.clr_edge.specs.declared.fault.Fault.{Fault}
use Rattle.clr_edge.specs.declared.fault.Fault.TheVariants.{Output}
use Rattle.clr_edge.specs.declared.loopback.Loopback as loopback
use Rattle.clr_commands.specs.Connections.{Seen, TakesFirst}
use Rattle.clr_commands.specs.ConnectionLaws.{ConnectionsHaveRun, EndsEarly, is_early}
use Rattle.clr_commands.specs.Desks.{desk_keeps}
use Rattle.clr_commands.specs.Logins.{NamesLogins, terms_of}
use Rattle.clr_edge.specs.Paths.{AtPaths}
use Rattle.clr_commands.specs.declared.serve.Terms.{Terms}

-- the line that a server begins with
abbrev pub serving_line : ℕ → List ℕ
serving_line port = (codes "serving 127.0.0.1:" ++ decimal port) ++ 10 ∷ []

-- what went out and what was reported over all, before and after
module _ {M : Type 0} (output output' errors errors' : Stream) where
  -- nothing was done, and nothing was said but this fault
  abbrev pub IsUnserved : Fault → Done → M → M → Type 0
  IsUnserved fault served old new =
      (served ≡ Err fault) × (new ≡ old) × (output' ≡ output) × (errors' ≡ errors)

-- a server, with these
module _ {D M L R W : Type 0} (by : registrar.Ghosts D) (net : loopback.Ghosts M L R W)
    (seen : Seen R W) (output output' errors errors' : Stream) where
  -- A SERVER ON TERMS over one who keeps a register: it listened on the port, said so, and took that
  -- number of connections, which from a good register are a run; or it did not begin, and then the
  -- register is as it was, and all that is kept beside it; or it ended early
  abbrev pub ServesKeeper : Terms → D → D → Done → M → M → Type 0
  ServesKeeper terms d d' (Ok value) old new =
      (listener : L) × (middle : M) × StandsOn net.stands old terms.port listener middle
      × WentOut output output' (serving_line terms.port)
      × TakesFirst by net seen terms listener terms.count d d' errors errors' middle new
      × (IsGood (by.keeper d).register
      → ConnectionsHaveRun by net seen terms listener terms.count d d' errors errors' middle new)
  ServesKeeper terms d d' (Err fault) old new =
      ((d' ≡ d) × (errors' ≡ errors)
      × ((RefusesOn net.refuses old terms.port fault new × (output' ≡ output))
      ⊎ ((listener : L) × StandsOn net.stands old terms.port listener new × (fault ≡ Output)
      × IsCut output output' (serving_line terms.port))))
      ⊎ ((listener : L) × (middle : M)
      × StandsOn net.stands old terms.port listener middle
      × WentOut output output' (serving_line terms.port)
      × EndsEarly by net seen terms listener fault d d' errors errors' middle new)

  -- the same, unless there are no such terms: the staff lacks an employee whom a login names
  abbrev pub ServesOn : Result Terms Fault → D → D → Done → M → M → Type 0
  ServesOn (Ok terms) d d' served old new = ServesKeeper terms d d' served old new
  ServesOn (Err fault) d d' served old new =
      (d' ≡ d) × IsUnserved output output' errors errors' fault served old new

-- a server that is asked for, with the logins of these rows
module _ {M L R W : Type 0} (net : loopback.Ghosts M L R W) (seen : Seen R W) (args : ServeArgs)
    (logins : Option (List LoginRow)) (output output' errors errors' : Stream) where
  -- WHAT A SERVER DID over a desk, on the terms that its staff allows
  pub record ServesDesk {K : Type 0} (keeper : commit.Ghosts K) (served : Done) (old new : M)
      (taken left : Desk K) : Type 0 where
    pub serves : ServesOn (desk_keeps keeper) net seen output output' errors errors'
        (terms_of args taken.book.register.staff logins) taken left served old new
    pub goes_on : IsGood taken.book.register
        → ComesWithin args.count taken.book.register left.book.register
    pub led : LeadsTo keeper.kept keeper.takes taken left
    pub unserved : IfErr served (λ fault. is_early fault ≡ false → left ≡ taken)

  -- what is done over the database at a path, with a journal or without one; where that was not
  -- opened, or the register not taken up, nothing went out
  abbrev pub ServesKept : {S J C : Type 0} → Logs M J C → Ghosts S → Opening M S
      → Shutting M → Ending M S → Option (Bor (List ℕ)) → List ℕ → Done → M → M → Type 0
  ServesKept logs g opens shuts ends journal path = Comes opens
      (λ old path fault new. shuts old path fault new × (output' ≡ output) × (errors' ≡ errors))
      ends path (WorksWith logs g journal ((output' ≡ output) × (errors' ≡ errors))
      (λ K keeper. ServesDesk keeper) first_fault)

-- WHAT `serve` DOES: it reads the file of logins, if one is named, before it opens the database, and
-- opens none where that file has a fault
module _ {M S L R W J C : Type 0} (logs : Logs M J C) (net : loopback.Ghosts M L R W)
    (seen : Seen R W) (at : AtPaths) (args : ServeArgs) (output output' errors errors' : Stream)
    (g : Ghosts S) (opens : Opening M S) (shuts : Shutting M) (ends : Ending M S) where
  abbrev pub ServesRead : Result (Option (List LoginRow)) Fault → Done → M → M → Type 0
  ServesRead (Ok logins) served old new = ServesKept net seen args logins output output' errors
      errors' logs g opens shuts ends args.journal args.database.now served old new
  ServesRead (Err fault) served old new =
      IsUnserved output output' errors errors' fault served old new

  abbrev pub ServesAt : Done → M → M → Type 0
  ServesAt served old new = (read : Result (Option (List LoginRow)) Fault)
      × NamesLogins at args.logins read × ServesRead read served old new
