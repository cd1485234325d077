-- A machine whose databases have a known register, over whose connections the board is asked for, and
-- what it answers.
use Rattle.std.specs.Prelude.{ℕ, ◌==◌, Bool, codes, find, List, [], ◌∷◌, Option, option_map}
use Rattle.std.specs.Prelude.{◌≡◌, ◌⊎◌, None, Some, IfOk, IfSome, Result, Ok, Err, String, false, pos}
use Rattle.std.specs.Prelude.{string_bytes}
use Rattle.std.specs.declared.alloc.Global.{Global}
use Rattle.std.specs.declared.io.ErrorKind.{ErrorKind}
use Rattle.std.specs.Borrow.{Bor}
use Rattle.std.specs.Cmp.Lexicographic.{pointwise}
use Rattle.sqlite.specs.Held.{Held, state}
use Rattle.sqlite.specs.State.{HasCleanDisk}
use Rattle.sqlite_trees.specs.declared.store.Store.{Ghosts}
use Rattle.clr_rules.specs.IdText.{read_id}
use Rattle.clr_rules.specs.Register.{Register}
use Rattle.clr_rules.specs.Run.{after_all}
use Rattle.clr_rules.specs.declared.reply.Reply.{Reply}
use Rattle.clr_examples.specs.Worked.{worked_opening}
use Rattle.clr_stream.specs.Streams.{Stream}
use Rattle.clr_print.specs.Printed.{board_text}
use Rattle.clr_text.specs.Lines.{commands_in}
use Rattle.clr_load.specs.Tables.{tables_of}
use Rattle.clr_load.specs.Stored.{HasTables}
use Rattle.clr_desk.specs.Faults.{FailsAsStore}
use Rattle.clr_http.specs.Answered.{Source}
use Rattle.clr_http.specs.Options.{plain}
use Rattle.clr_http.specs.Response.{json, printed, response_bytes}
use Rattle.clr_args.specs.declared.asked.ServeArgs.{ServeArgs}
use Rattle.clr_edge.specs.Database.{HasRegister, IsDatabaseFault, IsOfStore}
use Rattle.clr_edge.specs.Visit.{Closed, Ending, Opening, Visits}
use Rattle.clr_edge.specs.declared.fault.Fault.{Fault}
use Rattle.clr_edge.specs.declared.fault.Fault.TheVariants.{Journal}
use Rattle.clr_edge.specs.declared.fault.JournalFault.TheVariants.{Missing}
use Rattle.clr_edge.specs.declared.loopback.Connection.{Connection}
use Rattle.clr_edge.specs.declared.loopback.Loopback as loopback
use Rattle.clr_commands.specs.Answers.{GivesText}
use Rattle.clr_commands.specs.Connections.{Seen}
use Rattle.clr_commands.specs.Logins.{terms_with}
use Rattle.clr_commands.specs.Migrate.{version_line}
use Rattle.clr_commands.specs.Order.{order_told}
use Rattle.clr_commands.specs.Replies.{AnswersInput}
use Rattle.clr_commands.specs.Run.{IsOfInput}
use Rattle.clr_commands.specs.WayBack.{way_back_to}
use Rattle.clr_commands.specs.declared.replies.Printed.{Printed}
use Rattle.clr_commands.specs.declared.serve.Terms.{Terms}

-- ---- the register

-- JONES asks for L2, OPS orders it, and REED does the first step
abbrev pub jones_lines : List (List ℕ)
jones_lines =
    codes "{\"at\":100,\"by\":\"JONES\",\"do\":\"request\",\"section\":\"L2\"}"
    ∷ codes "{\"at\":101,\"by\":\"OPS\",\"clearance\":\"JONES/1\",\"do\":\"order\",\"points\":[\"S2\",\"S3\"],\"steps\":[\"OPEN S2\",\"OPEN S3\",\"BLOCK S2\",\"BLOCK S3\",\"TAG S2\",\"TAG S3\"]}"
    ∷ codes "{\"at\":102,\"by\":\"OPS\",\"clearance\":\"JONES/1\",\"do\":\"instruct\",\"step\":1}"
    ∷ codes "{\"at\":103,\"by\":\"REED\",\"clearance\":\"JONES/1\",\"do\":\"repeat\",\"step\":1,\"text\":\"OPEN S2\"}"
    ∷ codes "{\"at\":104,\"by\":\"REED\",\"clearance\":\"JONES/1\",\"do\":\"report\",\"done\":true,\"step\":1}"
    ∷ []

-- the register that these leave, over the opening one of the worked network
unfoldable pub jones_register : Register
jones_register = after_all worked_opening (commands_in jones_lines)

-- ---- the machine

-- each database that it opens has the register
abbrev pub KnowsJones : {M T : Type 0} → Ghosts T → Opening M T → Type 0
KnowsJones {M} {T} g opens = (old new : M) (path : List ℕ) (c : Held T) → opens old path c new
    → HasRegister g jones_register c

-- each connection is over a clean disk
abbrev pub IsAlwaysClean : {T : Type 0} → Ghosts T → Type 0
IsAlwaysClean {T} g = (c : Held T) → HasCleanDisk (state g c)

-- a request for the board
abbrev pub board_request : List ℕ
board_request = codes "GET /board HTTP/1.1\r\n\r\n"

-- IT IS ASKED FOR THE BOARD over each connection, and keeps what went out over the last one
pub record IsAskedForBoard {M T L R W : Type 0} (ends : Ending M T) (net : loopback.Ghosts M L R W)
    (seen : Seen R W) (response : M → List ℕ) : Type 0 where
  pub comes : (old new : M) (l : L) (deadline : Option ℕ) (c : Connection R W)
      → net.comes old l deadline c new
      → (Source.remaining (seen.source c.reader) ≡ Some board_request)
      × (Stream.contents (seen.stream c.writer) ≡ Some [])
  pub misses : (old new : M) (l : L) (tries : ℕ) (kind : ErrorKind) → net.misses old l tries kind new
      → ⊥
  pub keeps : (old new : M) (c : Connection R W) (is_expected : Bool)
      → net.hangs_up old c is_expected new
      → Stream.contents (seen.stream c.writer) ≡ Some (response new)
  pub ended : (old new : M) (database : Held T) (closed : Closed) → ends old database closed new
      → response new ≡ response old

-- ---- files

-- what the file at a path has, of files that are given with their paths
abbrev pub bytes_among : List (Bor (List ℕ) × Bor (List ℕ)) → List ℕ → Option (List ℕ)
bytes_among files path =
    option_map (λ file. file.1.now) (find (λ file. pointwise ◌==◌ file.0.now path) files)

-- the files of the worked network
abbrev pub section_file : List ℕ
section_file = codes "section,source\nG,yes\nL1,no\nL2,no\nL3,no\nH,yes\n"

abbrev pub point_file : List ℕ
point_file =
    codes "point,from,to,lockable,remote,position\nS1,G,L1,yes,no,closed\nS2,L1,L2,yes,no,closed\nS3,L2,L3,yes,no,closed\nS4,L3,H,yes,yes,closed\nT1,L1,L3,no,no,open\n"

abbrev pub staff_file : List ℕ
staff_file =
    codes "employee,role,supervisor\nOPS,operator,\nREED,field,\nDALE,field,\nJONES,charge,BOSS\nKIM,charge,\nBOSS,charge,\n"

-- they are at these paths
pub record HasWorkedFiles (bytes_at : List ℕ → Option (List ℕ)) : Type 0 where
  pub sections : bytes_at (codes "sections.csv") ≡ Some section_file
  pub points : bytes_at (codes "points.csv") ≡ Some point_file
  pub staff : bytes_at (codes "staff.csv") ≡ Some staff_file

-- ---- what goes out of a server

-- the terms of a server of one connection at a port, plainly
abbrev pub once_at : ℕ → Terms
once_at port = record { port = port; count = 1; deadline = None; service = plain }

-- such a server is asked for, without a journal
pub record ServesOnce (args : ServeArgs) : Type 0 where
  pub no_journal : args.journal ≡ None
  pub no_logins : args.logins ≡ None
  pub terms : terms_with args None ≡ once_at args.port

-- a writer to which nothing was written yet
abbrev pub fresh : Stream
fresh = record { contents = Some []; failures = 0; stalls = 0; flushed = false }

-- what is sent for the board of that register, to the last byte; or that it is unavailable
abbrev pub IsBoardResponse : List ℕ → Type 0
IsBoardResponse sent = (sent ≡ response_bytes (printed (board_text jones_register (pos 0))))
    ⊎ (sent ≡ response_bytes (json 503 (codes "{\"fault\":\"Unavailable\"}")))

-- ---- what the other subcommands answer

-- what `migrate` prints of tables that are of the version that is read
abbrev pub IsVersionTwo : Result (String Global) Fault → Type 0
IsVersionTwo (Ok text) = string_bytes text ≡ version_line
IsVersionTwo (Err fault) = IsDatabaseFault fault

-- WHAT A RUN PRINTS FOR AN INPUT over the register, also where its database was not closed; or why
-- nothing: the database is at fault, or has the place of a journal, none of which was named; the
-- input is at fault; or memory ran out
abbrev pub IsRunOfJones : List ℕ → Result Printed Fault → Type 0
IsRunOfJones input (Ok given) = (left : Register) × (told : List Reply) × (whole : Printed)
    × AnswersInput FailsAsStore jones_register left input told whole
    × (given.text ≡ whole.text)
IsRunOfJones input (Err fault) =
    IsOfStore fault ⊎ (fault ≡ Journal Missing) ⊎ IsOfInput (Some input) fault

-- the line of counts of the worked files
abbrev pub worked_counts : List ℕ
worked_counts = codes "sections 5 points 5 staff 6\n"

-- that line, once a database was made at a path that has the tables of the worked network before any
-- command
abbrev pub StoresWorked : {M T : Type 0} → Ghosts T → Opening M T → Ending M T → List ℕ
    → Result (String Global) Fault → M → M → Type 0
StoresWorked {M} g makes ends path result old new = IfOk result (λ text.
    (string_bytes text ≡ worked_counts)
    × Visits makes ends path (λ (middle : M) before after (closed : Closed) (later : M).
    HasTables (state g after).now (tables_of worked_opening)) old new)

-- WHAT THEY ANSWER of that register, and of an input whose bytes may be known
pub record AreAnswers (input : Option (List ℕ))
    (board order way_back moved made : Result (String Global) Fault)
    (ran : Result Printed Fault) : Type 0 where
  pub board_is : GivesText IsDatabaseFault (Ok (board_text jones_register (pos 0))) board
  pub order_is : GivesText IsDatabaseFault
      (order_told jones_register (codes "JONES/1") (codes "1") (pos 0)) order
  pub way_back_is : GivesText IsDatabaseFault
      (way_back_to jones_register (read_id (codes "JONES/1"))) way_back
  pub moved_is : IsVersionTwo moved
  pub made_is : IfOk made (λ text. string_bytes text ≡ worked_counts)
  pub ran_is : IfSome input (λ bytes. IsRunOfJones bytes ran)
