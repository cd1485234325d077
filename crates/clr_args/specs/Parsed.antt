-- What the words of a command line come to. Where clap finds nothing wrong it is what the
-- subcommand that they name is asked for; otherwise help that they ask for, or why they do not fit.
use Rattle.std.specs.Prelude.{◌≡◌, ◌≢◌, ◌⊎◌, Bool, false, List, [], ◌∷◌, Option, Some, None}
use Rattle.std.specs.Prelude.{codes, map, option_map, string_bytes}
use Rattle.clap.specs.Words.{IsAmong, Kinds, Row, Text, fault_of, first_of, subcommand_of}
use Rattle.clap.specs.declared.error.kind.ErrorKind.{ErrorKind}
use Rattle.clap.specs.declared.error.kind.ErrorKind.TheVariants.{DisplayHelp, DisplayVersion}
use Rattle.clr_args.specs.ArgumentWords.{deadline_in, flag_in, moment_in, number_in}
use Rattle.clr_args.specs.ArgumentWords.{offset_in, word_in, words_in}
use Rattle.clr_args.specs.Syntax.{gridclear}
use Rattle.clr_args.specs.declared.asked.ArchiveArgs.{ArchiveArgs}
use Rattle.clr_args.specs.declared.asked.Asked.{Asked}
use Rattle.clr_args.specs.declared.asked.Asked.TheVariants as asked
use Rattle.clr_args.specs.declared.asked.BoardArgs.{BoardArgs}
use Rattle.clr_args.specs.declared.asked.FenceArgs.{FenceArgs}
use Rattle.clr_args.specs.declared.asked.Files.{Files}
use Rattle.clr_args.specs.declared.asked.InitArgs.{InitArgs}
use Rattle.clr_args.specs.declared.asked.JournalArgs.{JournalArgs}
use Rattle.clr_args.specs.declared.asked.MigrateArgs.{MigrateArgs}
use Rattle.clr_args.specs.declared.asked.NextPartArgs.{NextPartArgs}
use Rattle.clr_args.specs.declared.asked.OrderArgs.{OrderArgs}
use Rattle.clr_args.specs.declared.asked.RunArgs.{RunArgs}
use Rattle.clr_args.specs.declared.asked.RunArgs.TheVariants as over
use Rattle.clr_args.specs.declared.asked.ServeArgs.{ServeArgs}
use Rattle.clr_args.specs.declared.asked.StoredArgs.{StoredArgs}
use Rattle.clr_args.specs.declared.asked.UpdateArgs.{UpdateArgs}
use Rattle.clr_args.specs.declared.asked.VerifyArgs.{VerifyArgs}
use Rattle.clr_args.specs.declared.asked.VerifyFromArgs.{VerifyFromArgs}
use Rattle.clr_args.specs.declared.asked.WayBackArgs.{WayBackArgs}
use Rattle.clr_args.specs.declared.parsing.Parsed.{Parsed}
use Rattle.clr_args.specs.declared.parsing.Parsed.TheVariants as parsed

-- ---- what each subcommand is asked for, by the words of its arguments

-- three words are the paths of these files
pub record AreFiles (first second third : Text) (files : Files) : Type 0 where
  pub sections : files.sections.now ≡ first
  pub points : files.points.now ≡ second
  pub staff : files.staff.now ≡ third

pub record AsksFence (rows : List Row) (args : FenceArgs) : Type 0 where
  pub sections : args.sections.now ≡ word_in rows (codes "SECTIONS")
  pub points : args.points.now ≡ word_in rows (codes "POINTS")
  pub work : args.work.now ≡ word_in rows (codes "WORK")
  pub cut : map (λ word. word.now) args.cut.items ≡ words_in rows (codes "CUT")

-- the arguments SECTIONS, POINTS and STAFF are the paths of three files
abbrev pub AsksFiles : List Row → Files → Type 0
AsksFiles rows files = AreFiles (word_in rows (codes "SECTIONS")) (word_in rows (codes "POINTS"))
    (word_in rows (codes "STAFF")) files

-- a register is to be made in a database, with a journal that may go with it, or nowhere
abbrev pub MakesIn : Option Text → Option Text → Option StoredArgs → Type 0
MakesIn (Some database) journal (Some args) =
    (args.database.now ≡ database) × (option_map (λ path. path.now) args.journal ≡ journal)
MakesIn None None None = Unit {0}
MakesIn database journal stored = ⊥

pub record AsksInit (rows : List Row) (args : InitArgs) : Type 0 where
  pub files : AsksFiles rows args.files
  pub stored : MakesIn (first_of (codes "db") rows) (first_of (codes "journal") rows) args.stored

-- no register is asked for: a journal goes with a database alone
abbrev pub IsNoInitWith : Option Text → Option Text → Type 0
IsNoInitWith None (Some journal) = Unit {0}
IsNoInitWith database journal = ⊥

abbrev pub IsNoInit : List Row → Type 0
IsNoInit rows = IsNoInitWith (first_of (codes "db") rows) (first_of (codes "journal") rows)

-- a run is asked for over a database and the journal that may go with it, where no files are named,
-- or over three files
abbrev pub AsksRunOver : Option Text → Option Text → List Text → RunArgs → Type 0
AsksRunOver (Some database) journal [] (over.Stored args) =
    (args.database.now ≡ database) × (option_map (λ path. path.now) args.journal ≡ journal)
AsksRunOver None None (sections ∷ points ∷ staff ∷ []) (over.Files files) =
    AreFiles sections points staff files
AsksRunOver database journal files args = ⊥

abbrev pub AsksRun : List Row → RunArgs → Type 0
AsksRun rows args = AsksRunOver (first_of (codes "db") rows) (first_of (codes "journal") rows)
    (words_in rows (codes "FILES")) args

-- no run is asked for: a database and files are named, or neither, or files that are not three, or a
-- journal without a database
abbrev pub IsNoRunOver : Option Text → Option Text → List Text → Type 0
IsNoRunOver (Some database) journal [] = ⊥
IsNoRunOver None None (sections ∷ points ∷ staff ∷ []) = ⊥
IsNoRunOver database journal files = Unit {0}

abbrev pub IsNoRun : List Row → Type 0
IsNoRun rows = IsNoRunOver (first_of (codes "db") rows) (first_of (codes "journal") rows)
    (words_in rows (codes "FILES"))

pub record AsksOrder (rows : List Row) (args : OrderArgs) : Type 0 where
  pub database : args.database.now ≡ word_in rows (codes "DB")
  pub clearance : args.clearance.now ≡ word_in rows (codes "CLEARANCE")
  pub round : args.round.now ≡ word_in rows (codes "ROUND")
  pub offset : args.offset.minutes ≡ offset_in (first_of (codes "offset") rows)

pub record AsksBoard (rows : List Row) (args : BoardArgs) : Type 0 where
  pub database : args.database.now ≡ word_in rows (codes "DB")
  pub offset : args.offset.minutes ≡ offset_in (first_of (codes "offset") rows)

pub record AsksWayBack (rows : List Row) (args : WayBackArgs) : Type 0 where
  pub database : args.database.now ≡ word_in rows (codes "DB")
  pub clearance : args.clearance.now ≡ word_in rows (codes "CLEARANCE")

-- no service is asked for: a file of logins goes with a desk alone
abbrev pub IsNoServeWith : Option Text → Bool → Type 0
IsNoServeWith (Some logins) false = Unit {0}
IsNoServeWith logins desk = ⊥

abbrev pub IsNoServe : List Row → Type 0
IsNoServe rows =
    IsNoServeWith (first_of (codes "logins") rows) (flag_in (first_of (codes "desk") rows))

pub record AsksServe (rows : List Row) (args : ServeArgs) : Type 0 where
  pub database : args.database.now ≡ word_in rows (codes "DB")
  pub port : args.port ≡ number_in 65535 (first_of (codes "port") rows)
  pub count : args.count ≡ number_in 1000000 (first_of (codes "count") rows)
  pub deadline : args.deadline ≡ deadline_in (first_of (codes "deadline") rows)
  pub desk : args.desk ≡ flag_in (first_of (codes "desk") rows)
  pub logins : option_map (λ path. path.now) args.logins ≡ first_of (codes "logins") rows
  pub journal : option_map (λ path. path.now) args.journal ≡ first_of (codes "journal") rows
  pub paired : IsNoServe rows → ⊥

pub record AsksJournal (rows : List Row) (args : JournalArgs) : Type 0 where
  pub path : args.path.now ≡ word_in rows (codes "FILE")
  pub parts : map (λ word. word.now) args.parts.items ≡ words_in rows (codes "part")
  pub clearance : option_map (λ word. word.now) args.clearance ≡ first_of (codes "CLEARANCE") rows
  pub offset : args.offset.minutes ≡ offset_in (first_of (codes "offset") rows)
  pub commands : args.commands ≡ flag_in (first_of (codes "commands") rows)

-- more is asked for beside a next part, all of which is for printing: a clearance, an offset, or the
-- commands
abbrev pub IsMoreThanNext : Option Text → Option Text → Bool → Type 0
IsMoreThanNext None None false = ⊥
IsMoreThanNext clearance offset commands = Unit {0}

-- the next part of a journal is asked for, with these paths, and nothing beside it
pub record IsNextPart (rows : List Row) (database next : Text) (args : NextPartArgs) : Type 0 where
  pub path : args.path.now ≡ word_in rows (codes "FILE")
  pub database_is : args.database.now ≡ database
  pub next_is : args.next.now ≡ next
  pub alone : IsMoreThanNext (first_of (codes "CLEARANCE") rows) (first_of (codes "offset") rows)
      (flag_in (first_of (codes "commands") rows)) → ⊥

abbrev pub AsksNextPart : List Row → Text → Text → Asked → Type 0
AsksNextPart rows database next (asked.NextPart args) = IsNextPart rows database next args
AsksNextPart rows database next what = ⊥

-- a journal is to be printed, where neither a next part nor a database is named; or its next part is
-- to be begun, where both are, and no further parts
abbrev pub AsksJournalOver : List Row → Option Text → Option Text → List Text → Asked → Type 0
AsksJournalOver rows None None parts (asked.Journal args) = AsksJournal rows args
AsksJournalOver rows (Some next) (Some database) [] what = AsksNextPart rows database next what
AsksJournalOver rows next database parts what = ⊥

abbrev pub AsksOfJournal : List Row → Asked → Type 0
AsksOfJournal rows what = AsksJournalOver rows (first_of (codes "next") rows)
    (first_of (codes "db") rows) (words_in rows (codes "part")) what

-- neither is asked for
abbrev pub IsNoJournalOver : Option Text → Option Text → List Text → Option Text → Option Text
    → Bool → Type 0
IsNoJournalOver None None parts clearance offset commands = ⊥
IsNoJournalOver (Some next) (Some database) [] clearance offset commands =
    IsMoreThanNext clearance offset commands
IsNoJournalOver next database parts clearance offset commands = Unit {0}

abbrev pub IsNoJournal : List Row → Type 0
IsNoJournal rows = IsNoJournalOver (first_of (codes "next") rows) (first_of (codes "db") rows)
    (words_in rows (codes "part")) (first_of (codes "CLEARANCE") rows)
    (first_of (codes "offset") rows) (flag_in (first_of (codes "commands") rows))

-- a run of a journal begins with the register of three files, where no copy is named
abbrev pub BeginsWithFiles : Option Text → List Text → Files → Type 0
BeginsWithFiles None (sections ∷ points ∷ staff ∷ []) files = AreFiles sections points staff files
BeginsWithFiles copy words files = ⊥

pub record AsksVerify (rows : List Row) (args : VerifyArgs) : Type 0 where
  pub database : args.database.now ≡ word_in rows (codes "DB")
  pub journal : args.journal.now ≡ word_in rows (codes "JOURNAL")
  pub parts : map (λ word. word.now) args.parts.items ≡ words_in rows (codes "part")
  pub files : BeginsWithFiles (first_of (codes "from") rows) (words_in rows (codes "FILES"))
      args.files

-- or with that of a copy, where no files are named
abbrev pub BeginsWithCopy : Option Text → List Text → Text → Type 0
BeginsWithCopy (Some copy) [] path = path ≡ copy
BeginsWithCopy copy words path = ⊥

pub record AsksVerifyFrom (rows : List Row) (args : VerifyFromArgs) : Type 0 where
  pub database : args.database.now ≡ word_in rows (codes "DB")
  pub journal : args.journal.now ≡ word_in rows (codes "JOURNAL")
  pub parts : map (λ word. word.now) args.parts.items ≡ words_in rows (codes "part")
  pub copy : BeginsWithCopy (first_of (codes "from") rows) (words_in rows (codes "FILES"))
      args.copy.now

-- either is asked for
abbrev pub AsksVerified : List Row → Asked → Type 0
AsksVerified rows (asked.Verify args) = AsksVerify rows args
AsksVerified rows (asked.VerifyFrom args) = AsksVerifyFrom rows args
AsksVerified rows what = ⊥

-- nothing is verified: a copy and files are named, or neither, or files that are not three
abbrev pub IsNoVerifyOver : Option Text → List Text → Type 0
IsNoVerifyOver (Some copy) [] = ⊥
IsNoVerifyOver None (sections ∷ points ∷ staff ∷ []) = ⊥
IsNoVerifyOver copy files = Unit {0}

abbrev pub IsNoVerify : List Row → Type 0
IsNoVerify rows = IsNoVerifyOver (first_of (codes "from") rows) (words_in rows (codes "FILES"))

pub record AsksUpdate (rows : List Row) (args : UpdateArgs) : Type 0 where
  pub database : args.database.now ≡ word_in rows (codes "DB")
  pub files : AsksFiles rows args.files
  pub journal : option_map (λ path. path.now) args.journal ≡ first_of (codes "journal") rows
  pub dry_run : args.dry_run ≡ flag_in (first_of (codes "dry-run") rows)
  pub without : map (λ word. word.now) args.without.items ≡ words_in rows (codes "without")

pub record AsksArchive (rows : List Row) (args : ArchiveArgs) : Type 0 where
  pub database : args.database.now ≡ word_in rows (codes "DB")
  pub journal : option_map (λ path. path.now) args.journal ≡ first_of (codes "journal") rows
  pub before : args.before ≡ moment_in (first_of (codes "before") rows)

pub record AsksMigrate (rows : List Row) (args : MigrateArgs) : Type 0 where
  pub database : args.database.now ≡ word_in rows (codes "DB")
  pub journal : option_map (λ path. path.now) args.journal ≡ first_of (codes "journal") rows
  pub after : option_map (λ number. number.now) args.after ≡ first_of (codes "after") rows

-- THE SUBCOMMAND of this name is asked for, on the words that its arguments were given
abbrev pub Asks : Text → List Row → Asked → Type 0
Asks name rows (asked.Fence args) = (name ≡ codes "fence") × AsksFence rows args
Asks name rows (asked.Check files) = (name ≡ codes "check") × AsksFiles rows files
Asks name rows (asked.Init args) = (name ≡ codes "init") × AsksInit rows args
Asks name rows (asked.Run args) = (name ≡ codes "run") × AsksRun rows args
Asks name rows (asked.Order args) = (name ≡ codes "order") × AsksOrder rows args
Asks name rows (asked.Board args) = (name ≡ codes "board") × AsksBoard rows args
Asks name rows (asked.WayBack args) = (name ≡ codes "wayback") × AsksWayBack rows args
Asks name rows (asked.Serve args) = (name ≡ codes "serve") × AsksServe rows args
Asks name rows (asked.Journal args) = (name ≡ codes "journal")
    × AsksOfJournal rows (asked.Journal args)
Asks name rows (asked.NextPart args) = (name ≡ codes "journal")
    × AsksOfJournal rows (asked.NextPart args)
Asks name rows (asked.Verify args) = (name ≡ codes "verify") × AsksVerify rows args
Asks name rows (asked.VerifyFrom args) = (name ≡ codes "verify") × AsksVerifyFrom rows args
Asks name rows (asked.Update args) = (name ≡ codes "update") × AsksUpdate rows args
Asks name rows (asked.Archive args) = (name ≡ codes "archive") × AsksArchive rows args
Asks name rows (asked.Migrate args) = (name ≡ codes "migrate") × AsksMigrate rows args

-- no subcommand has this name
pub record IsNoSubcommand (name : Text) : Type 0 where
  pub fence : name ≢ codes "fence"
  pub check : name ≢ codes "check"
  pub init : name ≢ codes "init"
  pub run : name ≢ codes "run"
  pub order : name ≢ codes "order"
  pub board : name ≢ codes "board"
  pub wayback : name ≢ codes "wayback"
  pub serve : name ≢ codes "serve"
  pub journal : name ≢ codes "journal"
  pub verify : name ≢ codes "verify"
  pub update : name ≢ codes "update"
  pub archive : name ≢ codes "archive"
  pub migrate : name ≢ codes "migrate"

-- ---- what words come to

-- help that is asked for
abbrev pub IsHelp : Parsed → Type 0
IsHelp (parsed.Asked asked) = ⊥
IsHelp (parsed.Help text) = Unit {0}
IsHelp (parsed.Unread text) = ⊥

-- why words do not parse
abbrev pub IsUnread : Parsed → Type 0
IsUnread (parsed.Asked asked) = ⊥
IsUnread (parsed.Help text) = ⊥
IsUnread (parsed.Unread text) = Unit {0}

-- words do not parse, for this reason
abbrev pub IsUnreadAs : Text → Parsed → Type 0
IsUnreadAs why (parsed.Asked asked) = ⊥
IsUnreadAs why (parsed.Help text) = ⊥
IsUnreadAs why (parsed.Unread text) = string_bytes text ≡ why

-- what is said of words in which clap finds an error of this kind
abbrev pub IsSaid : ErrorKind → Parsed → Type 0
IsSaid DisplayHelp result = IsHelp result
IsSaid DisplayVersion result = IsHelp result
IsSaid _ result = IsUnread result

-- what is said of a `run` that is not taken, by the journal that it names
abbrev pub run_usage : Option Text → Text
run_usage None = codes "error: run takes three files, or --db FILE and no files\n"
run_usage (Some journal) =
    codes "error: run takes --journal FILE only with --db FILE and no files\n"

-- what is said of an `init` that is not taken
abbrev pub init_usage : Text
init_usage = codes "error: init takes --journal FILE only with --db FILE\n"

-- what is said of a `journal` that is not taken
abbrev pub journal_usage : Text
journal_usage =
    codes "error: journal takes --next FILE with --db DB, and then no other argument but FILE\n"

-- what is said of a `serve` that is not taken
abbrev pub serve_usage : Text
serve_usage = codes "error: serve takes --logins FILE only with --desk\n"

-- what is said of a `verify` that is not taken
abbrev pub verify_usage : Text
verify_usage = codes "error: verify takes three files, or --from COPY and no files\n"

-- words of a subcommand that clap takes and the subcommand does not, and what is said of them
abbrev pub IsNotTaken : Text → List Row → Text → Type 0
IsNotTaken name rows said =
    ((name ≡ codes "run") × IsNoRun rows × (said ≡ run_usage (first_of (codes "journal") rows)))
    ⊎ (((name ≡ codes "serve") × IsNoServe rows × (said ≡ serve_usage))
    ⊎ (((name ≡ codes "verify") × IsNoVerify rows × (said ≡ verify_usage))
    ⊎ (((name ≡ codes "init") × IsNoInit rows × (said ≡ init_usage))
    ⊎ ((name ≡ codes "journal") × IsNoJournal rows × (said ≡ journal_usage)))))

-- what the words of the subcommand of this name come to
abbrev pub IsParsedAs : Text → List Row → Parsed → Type 0
IsParsedAs name rows (parsed.Asked asked) = Asks name rows asked
IsParsedAs name rows (parsed.Help text) = ⊥
IsParsedAs name rows (parsed.Unread text) =
    IsNoSubcommand name ⊎ IsNotTaken name rows (string_bytes text)

-- WHAT WORDS COME TO, by the kinds of error that clap may find in them and the subcommand that they
-- name: words that name none do not parse
abbrev pub IsParsed : Kinds → Option (Text × List Row) → Parsed → Type 0
IsParsed [] (Some (name, rows)) result = IsParsedAs name rows result
IsParsed [] None result = IsUnread result
IsParsed (kind ∷ kinds) named result = (found : ErrorKind) × IsAmong found (kind ∷ kinds)
    × IsSaid found result

-- the same of words, of which the first is the program's name
abbrev pub Parses : List Text → Parsed → Type 0
Parses words result = IsParsed (fault_of gridclear words) (subcommand_of gridclear words) result

-- WORDS MAY HAVE AN ANSWER: clap finds nothing wrong with them, or they ask for help. The kinds are
-- those of the errors that it may find.
abbrev pub AllowAnswer : Kinds → Type 0
AllowAnswer kinds = (kinds ≡ []) ⊎ IsAmong DisplayHelp kinds ⊎ IsAmong DisplayVersion kinds

abbrev pub MayAnswer : List Text → Type 0
MayAnswer words = AllowAnswer (fault_of gridclear words)
