-- WHAT THE SUBCOMMANDS OF FILES ALONE PRINT of the worked files, written out. They open no
-- database, and ask nothing of a machine but the bytes of files.
use Rattle.std.specs.Prelude.{◌≡◌, ◌⊎◌, ℕ, List, [], ◌++◌, None, Some, codes}
use Rattle.std.specs.Prelude.{Result, Ok, Err, String, string_bytes}
use Rattle.std.specs.declared.alloc.Global.{Global}
use Rattle.clr_edge.specs.Files.{IsUnread}
use Rattle.clr_edge.specs.declared.fault.Fault.{Fault}
use Rattle.clr_edge.specs.declared.fault.Fault.TheVariants.{Memory}
use Rattle.clr_edge.specs.declared.fault.ImportFile.TheVariants.{Points, Sections}
use Rattle.clr_commands.specs.Answers.{Answers, GivesText}
use Rattle.clr_commands.specs.Import.{IsUnreadFile}
use Rattle.clr_commands.specs.Run.{IsOfInput}
use Rattle.clr_commands.specs.declared.replies.Printed.{Printed}
use Rattle.clr_known.specs.Known.{worked_counts}

-- ---- fence

-- the fence of L2, cut at S2 and S3: no other point leads out of it
abbrev pub l2_fence : List ℕ
l2_fence = codes "L2\n"

-- one of the two files went unread, or memory ran out
abbrev pub IsUnreadNetwork : Fault → Type 0
IsUnreadNetwork fault = IsUnread Sections fault ⊎ IsUnread Points fault

-- ---- check

-- nobody is over BOSS and KIM, the tie cannot be locked, and of two pairs of names each differs by
-- one letter
abbrev pub worked_warnings : List ℕ
worked_warnings =
    codes "employee BOSS may hold a clearance and has no supervisor\n"
    ++ codes "employee KIM may hold a clearance and has no supervisor\n"
    ++ codes "point T1 can be locked by nothing\n"
    ++ codes "sections G and H differ by one letter\n"
    ++ codes "points S1 and T1 differ by one letter\n"

-- ---- run

-- JONES asks for L2
abbrev pub request_line : List ℕ
request_line = codes "{\"at\":100,\"by\":\"JONES\",\"do\":\"request\",\"section\":\"L2\"}"

abbrev pub request_input : List ℕ
request_input = request_line ++ codes "\n"

-- and has a clearance that waits for its order
abbrev pub request_reply : List ℕ
request_reply =
    codes "{\"card\":{\"clearance\":\"JONES/1\",\"done\":0,\"holder\":\"JONES\",\"phase\":\"Requested\",\"round\":0,\"steps\":0},\"reply\":\"accepted\"}\n"

-- a file or the input could not be read, or memory ran out
abbrev pub IsUnanswered : Fault → Type 0
IsUnanswered fault = IsUnreadFile fault ⊎ IsOfInput (Some request_input) fault

-- the reply is printed; or nothing, since memory ran out before it
abbrev pub IsReply : Result Printed Fault → Type 0
IsReply (Ok printed) = ((string_bytes printed.text ≡ request_reply) × (printed.fault ≡ None))
    ⊎ ((string_bytes printed.text ≡ []) × (printed.fault ≡ Some Memory))
IsReply (Err fault) = ⊥

-- a run of that line prints it
abbrev pub RepliesToRequest : Result Printed Fault → Type 0
RepliesToRequest result = Answers IsUnanswered (λ printed. printed) IsReply result

-- WHAT THEY PRINT, each unless a file could not be read or memory ran out
pub record ArePrinted (fenced checked counted : Result (String Global) Fault)
    (replied : Result Printed Fault) : Type 0 where
  pub fence_is : GivesText IsUnreadNetwork (Ok l2_fence) fenced
  pub warnings_are : GivesText IsUnreadFile (Ok worked_warnings) checked
  pub counts_are : GivesText IsUnreadFile (Ok worked_counts) counted
  pub reply_is : RepliesToRequest replied
