-- The command line: its subcommands, and the arguments of each.
use Rattle.std.specs.Prelude.{◌≡◌, codes, true, neg_ℤ, pos, IfOk, Result, Some, List, [], ℕ}
use Rattle.clap.specs.Words.{App, Rule, app_of, new_app, new_rule, with_rule, with_subcommand}
use Rattle.clap.specs.Simple.{new_shape}
use Rattle.clap.specs.declared.builder.action.ArgAction.TheVariants.{Append, SetTrue}
use Rattle.clap.specs.declared.builder.command.Command.{Command}
use Rattle.clap.specs.declared.builder.value_parser.ValueParser.TheVariants.{Signed, Unsigned}

-- an argument that has to be given, by its place
abbrev pub required_rule : List ℕ → Rule
required_rule id = record (new_rule id) { required = true }

-- an argument that may be given once, by its place
abbrev pub optional_rule : List ℕ → Rule
optional_rule id = new_rule id

-- an argument that may be given any number of times, by its place
abbrev pub repeated_rule : List ℕ → Rule
repeated_rule id = record (new_rule id) { action = Some Append }

-- an argument that may be given once, by its name and a value
abbrev pub option_rule : List ℕ → Rule
option_rule id = record (new_rule id) { long = Some id; value_names = 1 }

-- a word that may be given once, by its name, and has no value
abbrev pub flag_rule : List ℕ → Rule
flag_rule id = record (new_rule id) { long = Some id; action = Some SetTrue }

-- `--offset MINUTES`, from -720 to 840
abbrev pub offset_rule : Rule
offset_rule = record (option_rule (codes "offset"))
    { parser = Some (Signed (neg_ℤ (pos 720)) (pos 840)) }

-- `--before MOMENT`, from 0 to 4102444799, which has to be given
abbrev pub before_rule : Rule
before_rule = record (option_rule (codes "before"))
    { required = true; parser = Some (Unsigned 0 4102444799) }

-- an option with a number from 1 to a greatest one
abbrev pub at_most_rule : List ℕ → ℕ → Rule
at_most_rule id most = record (option_rule id) { parser = Some (Unsigned 1 most) }

-- an option with a number from 1 to a greatest one, which has to be given
abbrev pub number_rule : List ℕ → ℕ → Rule
number_rule id most = record (option_rule id) { required = true; parser = Some (Unsigned 1 most) }

-- an option with a value, which may be given any number of times
abbrev pub repeated_option_rule : List ℕ → Rule
repeated_option_rule id = record (option_rule id) { action = Some Append }

-- the arguments of the two files of a network
abbrev pub with_files : App → App
with_files app = with_rule (with_rule app (required_rule (codes "SECTIONS")))
    (required_rule (codes "POINTS"))

-- `fence SECTIONS POINTS WORK [CUT]...`
abbrev pub fence : App
fence = with_rule (with_rule (with_files (new_app (codes "fence"))) (required_rule (codes "WORK")))
    (repeated_rule (codes "CUT"))

-- `check SECTIONS POINTS STAFF`
abbrev pub check : App
check = with_rule (with_files (new_app (codes "check"))) (required_rule (codes "STAFF"))

-- `init SECTIONS POINTS STAFF [--db FILE [--journal FILE]]`
abbrev pub init : App
init =
    with_rule (with_rule
    (with_rule (with_files (new_app (codes "init"))) (required_rule (codes "STAFF")))
    (option_rule (codes "db")))
    (option_rule (codes "journal"))

-- `run [--db FILE [--journal FILE]] [FILES]...`
abbrev pub run : App
run =
    with_rule (with_rule (with_rule (new_app (codes "run")) (option_rule (codes "db")))
    (option_rule (codes "journal")))
    (repeated_rule (codes "FILES"))

-- `order DB CLEARANCE ROUND [--offset MINUTES]`
abbrev pub order : App
order =
    with_rule (with_rule (with_rule
    (with_rule (new_app (codes "order")) (required_rule (codes "DB")))
    (required_rule (codes "CLEARANCE")))
    (required_rule (codes "ROUND"))) offset_rule

-- `board DB [--offset MINUTES]`
abbrev pub board : App
board = with_rule (with_rule (new_app (codes "board")) (required_rule (codes "DB"))) offset_rule

-- `wayback DB CLEARANCE`
abbrev pub wayback : App
wayback =
    with_rule (with_rule (new_app (codes "wayback")) (required_rule (codes "DB")))
    (required_rule (codes "CLEARANCE"))

-- `serve DB --port N --count N`
abbrev pub plain_serve : App
plain_serve =
    with_rule (with_rule (with_rule (new_app (codes "serve")) (required_rule (codes "DB")))
    (number_rule (codes "port") 65535))
    (number_rule (codes "count") 1000000)

-- the same with `[--deadline SECONDS] [--desk] [--logins FILE] [--journal FILE]`
abbrev pub serve : App
serve =
    with_rule (with_rule (with_rule (with_rule plain_serve (at_most_rule (codes "deadline") 600))
    (flag_rule (codes "desk")))
    (option_rule (codes "logins")))
    (option_rule (codes "journal"))

-- `journal FILE [CLEARANCE] [--offset MINUTES] [--commands]`
abbrev pub plain_journal : App
plain_journal =
    with_rule (with_rule (with_rule
    (with_rule (new_app (codes "journal")) (required_rule (codes "FILE")))
    (optional_rule (codes "CLEARANCE")))
    offset_rule) (flag_rule (codes "commands"))

-- the same with `[--part FILE]...`, or with `--db DB --next NEW`
abbrev pub journal : App
journal =
    with_rule (with_rule (with_rule plain_journal (repeated_option_rule (codes "part")))
    (option_rule (codes "db")))
    (option_rule (codes "next"))

-- `verify DB JOURNAL [--part FILE]... [--from COPY] [FILES]...`
abbrev pub verify : App
verify =
    with_rule (with_rule (with_rule (with_rule
    (with_rule (new_app (codes "verify")) (required_rule (codes "DB")))
    (required_rule (codes "JOURNAL")))
    (repeated_option_rule (codes "part")))
    (option_rule (codes "from")))
    (repeated_rule (codes "FILES"))

-- `update DB SECTIONS POINTS STAFF`
abbrev pub plain_update : App
plain_update =
    with_rule (with_files (with_rule (new_app (codes "update")) (required_rule (codes "DB"))))
    (required_rule (codes "STAFF"))

-- the same with `[--journal FILE] [--dry-run] [--without JUMPER]...`
abbrev pub update : App
update =
    with_rule (with_rule (with_rule plain_update (option_rule (codes "journal")))
    (flag_rule (codes "dry-run")))
    (repeated_option_rule (codes "without"))

-- `archive DB [--journal FILE] --before MOMENT`
abbrev pub archive : App
archive =
    with_rule (with_rule (with_rule (new_app (codes "archive")) (required_rule (codes "DB")))
    (option_rule (codes "journal")))
    before_rule

-- `migrate DB [--journal FILE] [--after NUMBER]`
abbrev pub migrate : App
migrate =
    with_rule (with_rule (with_rule (new_app (codes "migrate")) (required_rule (codes "DB")))
    (option_rule (codes "journal")))
    (option_rule (codes "after"))

-- `gridclear` alone: it has a version, and asks for a subcommand
abbrev pub top : App
top = record {
  top = record (new_shape (codes "gridclear"))
      { has_version = true; arg_required_else_help = true; subcommand_required = true };
  subs = [];
}

-- the program with its subcommands
abbrev pub gridclear : App
gridclear =
    with_subcommand (with_subcommand (with_subcommand (with_subcommand (with_subcommand
    (with_subcommand (with_subcommand (with_subcommand (with_subcommand (with_subcommand
    (with_subcommand (with_subcommand (with_subcommand top fence.top) check.top) init.top) run.top)
    order.top) board.top) wayback.top) serve.top) journal.top) verify.top) update.top) archive.top)
    migrate.top

-- a command line was written down, unless memory ran out
abbrev pub IsWritten : {E : Type 0} → App → Result Command E → Type 0
IsWritten app written = IfOk written (λ c. app_of c ≡ app)
