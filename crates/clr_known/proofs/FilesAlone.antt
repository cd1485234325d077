-- What the subcommands of files alone print of the worked files, computed by the rules.
use Rattle.std.proofs.Common.{arith, ◌≡◌, ◌∙◌, ℕ, zero, suc, true, List, [], ◌∷◌, ap, inl, inr, length, refl, subst, sym, take}
use Rattle.std.proofs.Common.{Option, None, Some, Result, Ok, Err}
use Rattle.std.specs.Prelude.{◌<◌, ◌⊎◌, IfNone, IfSome, OnErr, String, codes, string_bytes}
use Rattle.std.specs.Char.{encode_utf8}
use Rattle.std.specs.Fmt.{digits}
use Rattle.std.specs.Str.{chars, is_utf8}
use Rattle.std.specs.declared.alloc.Global.{Global}
use Rattle.json.specs.Print.{escape_byte}
use Rattle.clr_net.specs.Fence.{in_fence, reaches}
use Rattle.clr_net.specs.Grid.{Grid}
use Rattle.clr_net.specs.Network.{IsGridOf, first_fault}
use Rattle.clr_net.specs.declared.point.PointRow.{PointRow}
use Rattle.clr_net.specs.declared.section.SectionRow.{SectionRow}
use Rattle.clr_csv.specs.Points.{points_of}
use Rattle.clr_csv.specs.Sections.{sections_of}
use Rattle.clr_csv.specs.declared.fault.CsvFault.{CsvFault}
use Rattle.clr_csv.specs.Alike.{differ_by_one_letter}
use Rattle.clr_csv.specs.Warnings.{alike, warnings}
use Rattle.clr_csv.specs.WarningText.{warning_lines}
use Rattle.clr_rules.proofs.Common.{after_edits, greatest_number, row_of, steps_in, with_row}
use Rattle.clr_rules.proofs.good.Opening.{opening_is_good}
use Rattle.clr_rules.specs.Answer.{Answer, answer}
use Rattle.clr_rules.specs.Good.{IsGood}
use Rattle.clr_rules.specs.Register.{Register}
use Rattle.clr_rules.specs.declared.command.Command.{Command}
use Rattle.clr_rules.specs.declared.command.Kind.TheVariants.{Request}
use Rattle.clr_rules.specs.declared.phase.Phase.TheVariants.{Requested}
use Rattle.clr_rules.specs.declared.reply.Reply.{Reply}
use Rattle.clr_rules.specs.declared.reply.Reply.TheVariants.{Accepted}
use Rattle.clr_examples.specs.Worked.{JONES, L2, S2, S3, said_at, says, worked_net, worked_opening, worked_staff}
use Rattle.clr_examples.specs.WorkedRows.{jones_card}
use Rattle.clr_desk.specs.declared.desk_fault.DeskFault.{DeskFault}
use Rattle.clr_text.specs.CommandText.{can_be_sent, command_text}
use Rattle.clr_text.specs.Lines.{answer_text, commands_in, line_replies, with_command}
use Rattle.clr_text.specs.Reading.{read_command}
use Rattle.clr_text.specs.Replies.{reply_text}
use Rattle.clr_text.proofs.CommandsRead.{commands_read_back}
use Rattle.clr_edge.specs.Answers.{After}
use Rattle.clr_edge.specs.Fault.{of_desk}
use Rattle.clr_edge.specs.Files.{told_of}
use Rattle.clr_edge.specs.declared.fault.Fault.{Fault}
use Rattle.clr_edge.specs.declared.fault.Fault.TheVariants.{Memory}
use Rattle.clr_edge.specs.declared.fault.ImportFile.TheVariants.{Points, Sections}
use Rattle.clr_commands.specs.Answers.{Answers, Gives, GivesText, IsMemory}
use Rattle.clr_commands.specs.Check.{ChecksRows, IsCheckOf}
use Rattle.clr_commands.specs.Fence.{FencesFiles, IsFenceOf, fence_lines, points_named}
use Rattle.clr_commands.specs.Import.{AreRead, FileRows, IsUnreadFile, rows_of}
use Rattle.clr_commands.specs.Init.{counts_of}
use Rattle.clr_commands.specs.Replies.{AnswersInput, PrintsAnswers, answers, as_lines, asked_commands, asked_lines, reading_of, readings_of}
use Rattle.clr_commands.specs.Run.{IsRunOf, rows_fault}
use Rattle.clr_commands.specs.declared.replies.Printed.{Printed}
use Rattle.clr_known.specs.FilesAlone.{IsReply, IsUnanswered, IsUnreadNetwork, RepliesToRequest, l2_fence, request_input, request_line, request_reply, worked_warnings}
use Rattle.clr_known.specs.Known.{point_file, section_file, staff_file, worked_counts}
use Rattle.clr_known.proofs.KnownAnswers.{counts_known, known_read, opening_given, rows_read, worked_files, worked_rows}
use Rattle.clr_known.proofs.WorkedRows.{file_sections, is_worked_net, is_worked_staff, points_read, sections_read}

-- the rows of the worked files have no fault
rows_fit : rows_fault worked_rows ≡ Ok tt
rows_fit = refl

-- ---- what is answered of the three files

-- what a text that is answered of their rows comes to
text_given : (Is : FileRows → Result (String Global) Fault → Type 0) (text : List ℕ)
    → ((result : Result (String Global) Fault) → Is worked_rows result → GivesText IsUnreadFile (Ok text) result)
    → (read : Result FileRows Fault) (result : Result (String Global) Fault) → Gives IsUnreadFile (λ rows. rows) (rows_of worked_files) read
    → After read Is result → GivesText IsUnreadFile (Ok text) result
text_given Is text printed (Ok rows) result gives it =
    let same : rows ≡ worked_rows = cc (sym gives ∙ rows_read) in
    printed result (subst (λ (r : FileRows). Is r result) same it)
text_given Is text printed (Err fault) result gives is =
    subst (λ (r : Result (String Global) Fault). GivesText IsUnreadFile (Ok text) r) (sym is) (λ other. absurd (cc (sym rows_read ∙ gives other)))

-- ---- fence
fence_known : fence_lines worked_net L2 (S2 ∷ S3 ∷ []) ≡ Ok l2_fence
unfolding in_fence reaches points_named
fence_known = refl

-- the answer that files come to which read so
abbrev FencesRead : Result (List SectionRow) CsvFault → Result (List PointRow) CsvFault → Result (List ℕ) Fault → Type 0
FencesRead s p answer =
    After (told_of Sections s) (λ sections. After (told_of Points p) (λ points. IsFenceOf (first_fault sections points) sections points L2 (S2 ∷ S3 ∷ []))) answer

is_fence : (answer : Result (List ℕ) Fault) → FencesRead (Ok file_sections) (Ok (Grid.points worked_net)) answer → answer ≡ Ok l2_fence
is_fence answer (g, is, told) = told ∙ ap (λ (g : Grid). fence_lines g L2 (S2 ∷ S3 ∷ [])) (is_worked_net g is) ∙ fence_known

fence_told : (answer : Result (List ℕ) Fault) → FencesRead (sections_of section_file) (points_of point_file) answer → answer ≡ Ok l2_fence
fence_told answer it =
    is_fence answer (subst (λ (p : Result (List PointRow) CsvFault). FencesRead (Ok file_sections) p answer) points_read
    (subst (λ (s : Result (List SectionRow) CsvFault). FencesRead s (points_of point_file) answer) sections_read it))

fence_printed : (result : Result (String Global) Fault) → FencesFiles section_file point_file L2 (S2 ∷ S3 ∷ []) result
    → GivesText IsUnreadNetwork (Ok l2_fence) result
fence_printed (Ok text) it = sym (fence_told (Ok (string_bytes text)) it)
fence_printed (Err fault) why = λ other. sym (fence_told (Err fault) (why other))

pub fence_given : (s p : Option (List ℕ)) → s ≡ Some section_file → p ≡ Some point_file → (cut : List (List ℕ)) → cut ≡ S2 ∷ S3 ∷ []
    → (result : Result (String Global) Fault) → IfSome s (λ sections. IfSome p (λ points. FencesFiles sections points L2 cut result))
    → GivesText IsUnreadNetwork (Ok l2_fence) result
fence_given s p sections points cut same result it =
    fence_printed result (subst (λ (cut : List (List ℕ)). FencesFiles section_file point_file L2 cut result) same
    (subst (λ (p : Option (List ℕ)). IfSome p (λ points. FencesFiles section_file points L2 cut result)) points
    (subst (λ (s : Option (List ℕ)). IfSome s (λ sections. IfSome p (λ points. FencesFiles sections points L2 cut result))) sections it)))

-- ---- check
warnings_known : warning_lines (warnings worked_net worked_staff) ≡ worked_warnings
unfolding in_fence reaches alike differ_by_one_letter
warnings_known = refl

warnings_told : (answer : Result (List ℕ) Fault) → IsCheckOf worked_rows answer → answer ≡ Ok worked_warnings
warnings_told (Ok text) (fits, has) =
    ap (λ (t : List ℕ). Ok t) (has.lines
    ∙ (λ i. warning_lines (warnings (is_worked_net has.net has.is_network i) (is_worked_staff has.team has.is_staff i)))
    ∙ warnings_known)
warnings_told (Err fault) unfit = absurd (cc (sym rows_fit ∙ unfit))

warnings_printed : (result : Result (String Global) Fault) → ChecksRows worked_rows result → GivesText IsUnreadFile (Ok worked_warnings) result
warnings_printed (Ok text) it = sym (warnings_told (Ok (string_bytes text)) it)
warnings_printed (Err fault) why = λ other. sym (warnings_told (Err fault) (why (λ memory. other (inl (inl memory)))))

pub warnings_given : (s p e : Option (List ℕ)) → s ≡ Some section_file → p ≡ Some point_file → e ≡ Some staff_file
    → (read : Result FileRows Fault) → AreRead s p e read → (result : Result (String Global) Fault) → After read ChecksRows result
    → GivesText IsUnreadFile (Ok worked_warnings) result
warnings_given s p e sections points staff read are result it =
    text_given ChecksRows worked_warnings warnings_printed read result (known_read s p e sections points staff read are) it

-- ---- init
counts_printed : (result : Result (String Global) Fault) → GivesText IsMemory (counts_of worked_rows) result → GivesText IsUnreadFile (Ok worked_counts) result
counts_printed (Ok text) is = sym counts_known ∙ is
counts_printed (Err fault) why = λ other. sym counts_known ∙ why (λ memory. other (inl (inl memory)))

-- where no database is asked for, the machine is left as it was
abbrev Counts : {M : Type 0} → M → M → FileRows → Result (String Global) Fault → Type 0
Counts old new rows result = GivesText IsMemory (counts_of rows) result × (new ≡ old)

pub counts_are_given : {M : Type 0} (old new : M) (s p e : Option (List ℕ)) → s ≡ Some section_file → p ≡ Some point_file → e ≡ Some staff_file
    → (read : Result FileRows Fault) → AreRead s p e read → (result : Result (String Global) Fault)
    → After read (λ rows answer. GivesText IsMemory (counts_of rows) answer × (new ≡ old)) result → GivesText IsUnreadFile (Ok worked_counts) result
counts_are_given old new s p e sections points staff read are result it =
    text_given (Counts old new) worked_counts (λ answer counts. counts_printed answer counts.0) read result
    (known_read s p e sections points staff read are) it

pub nothing_opened : {M : Type 0} (old new : M) (read : Result FileRows Fault) (result : Result (String Global) Fault)
    → After read (λ rows answer. GivesText IsMemory (counts_of rows) answer × (new ≡ old)) result → OnErr read (new ≡ old) → new ≡ old
nothing_opened old new (Ok rows) result counts nothing = counts.1
nothing_opened old new (Err fault) result is nothing = nothing

-- ---- run
abbrev jones_asks : Command
jones_asks = said_at 100 (says JONES (Request L2))

line_written : command_text jones_asks ≡ request_line
unfolding digits escape_byte
line_written = refl

can_ask : can_be_sent jones_asks ≡ true
unfolding is_utf8 chars encode_utf8
can_ask = refl

line_read : read_command request_line ≡ Ok jones_asks
line_read = subst (λ (line : List ℕ). read_command line ≡ Ok jones_asks) line_written (commands_read_back jones_asks can_ask)

line_asked : asked_lines request_input ≡ request_line ∷ []
line_asked = refl

-- the reply, by the rules
is_accepted : Answer.reply (answer worked_opening jones_asks) ≡ Accepted (jones_card Requested 0 0 0)
unfolding after_edits greatest_number row_of steps_in with_row
is_accepted = refl

abbrev accepted_text : List ℕ
accepted_text = reply_text (Accepted (jones_card Requested 0 0 0))

reply_written : as_lines (accepted_text ∷ []) ≡ request_reply
unfolding digits escape_byte
reply_written = refl

line_replied : line_replies worked_opening (request_line ∷ []) ≡ accepted_text ∷ []
unfolding line_replies
line_replied = ap (λ read. answer_text worked_opening read ∷ []) line_read ∙ ap (λ (reply : Reply). reply_text reply ∷ []) is_accepted

one_command : commands_in (request_line ∷ []) ≡ jones_asks ∷ []
unfolding commands_in
one_command = ap (λ read. with_command read []) line_read

commands_asked : asked_commands request_input ≡ jones_asks ∷ []
commands_asked = ap commands_in line_asked ∙ one_command

readings_known : readings_of (asked_lines request_input) ≡ reading_of (Ok jones_asks) ∷ []
readings_known = ap readings_of line_asked ∙ ap (λ read. reading_of read ∷ []) line_read

no_answer : answers (reading_of (Ok jones_asks) ∷ []) [] ≡ []
unfolding answers
no_answer = refl

one_answer : (reply : Reply) (later : List Reply) → answers (reading_of (Ok jones_asks) ∷ []) (reply ∷ later) ≡ reply_text reply ∷ []
unfolding answers
one_answer reply later = refl

-- ---- what is printed of it
memory_of : (fault : Option Fault) (cause : DeskFault) → IfSome fault IsMemory → fault ≡ Some (of_desk cause) → fault ≡ Some Memory
memory_of None cause memory is = absurd (cc is)
memory_of (Some fault) cause memory is = ap (λ (f : Fault). Some f) memory

abbrev IsOne : List ℕ → Printed → Type 0
IsOne reply printed = ((string_bytes printed.text ≡ reply) × (printed.fault ≡ None)) ⊎ ((string_bytes printed.text ≡ []) × (printed.fault ≡ Some Memory))

-- without a reply
none_told : (reply : List ℕ) (ended : Option DeskFault) (printed : Printed) → IfSome printed.fault IsMemory → IfNone ended (◌≡◌ {A = ℕ} 0 1)
    → PrintsAnswers [] ended printed → IsOne reply printed
none_told reply None printed memory ends prints = absurd (cc ends)
none_told reply (Some cause) printed memory ends (inl (text, fault)) = inr (text, memory_of printed.fault cause memory fault)
none_told reply (Some cause) printed memory ends (inr some) = absurd (omega (arith, some.fewer))

front : (count : ℕ) (text : List ℕ) → count < 1 → as_lines (take count (text ∷ [])) ≡ []
front zero text fewer = refl
front (suc count) text fewer = absurd (omega (arith, fewer))

-- with one
one_told : (text : List ℕ) (more : ℕ) (ended : Option DeskFault) (printed : Printed) → IfSome ended (λ _. suc more < 1)
    → PrintsAnswers (text ∷ []) ended printed → IsOne (as_lines (text ∷ [])) printed
one_told text more (Some cause) printed stops prints = absurd (omega (arith, stops))
one_told text more None printed stops (inl (is, fault)) = inl (is, fault)
one_told text more None printed stops (inr some) = inr (some.front ∙ front some.count text some.fewer, some.memory)

-- the answer to the line is the reply
answered : (reply : Reply) (later : List Reply) (texts : List (List ℕ)) → texts ≡ reply_text reply ∷ []
    → texts ≡ line_replies worked_opening (take (length texts) (asked_lines request_input)) → texts ≡ accepted_text ∷ []
answered reply later texts one lines =
    let told : reply_text reply ∷ [] ≡ line_replies worked_opening (take 1 (asked_lines request_input)) =
    subst (λ (ts : List (List ℕ)). ts ≡ line_replies worked_opening (take (length ts) (asked_lines request_input))) one lines in
    one ∙ told ∙ ap (λ (ls : List (List ℕ)). line_replies worked_opening (take 1 ls)) line_asked ∙ line_replied

reply_printed : (left : Register) (told : List Reply) (printed : Printed) → IsGood worked_opening
    → AnswersInput (λ _. ⊥) worked_opening left request_input told printed → IfSome printed.fault IsMemory → IsOne request_reply printed
reply_printed left [] printed good it memory =
    none_told request_reply it.ended printed memory (subst (λ (qs : List Command). IfNone it.ended (0 ≡ length qs)) commands_asked it.ends)
    (subst (λ (texts : List (List ℕ)). PrintsAnswers texts it.ended printed) (ap (λ rs. answers rs []) readings_known ∙ no_answer) it.prints)
reply_printed left (reply ∷ later) printed good it memory =
    let one = ap (λ rs. answers rs (reply ∷ later)) readings_known ∙ one_answer reply later in
    let same = answered reply later _ one (it.lines good).replied in
    subst (λ (bytes : List ℕ). IsOne bytes printed) reply_written
    (one_told accepted_text (length later) it.ended printed
    (subst (λ (qs : List Command). IfSome it.ended (λ _. suc (length later) < length qs)) commands_asked it.stops)
    (subst (λ (texts : List (List ℕ)). PrintsAnswers texts it.ended printed) same it.prints))

-- a run of it over the register of the worked files
run_printed : (result : Result Printed Fault) → Answers IsMemory (λ printed. printed) (IsRunOf (Some request_input) worked_rows) result → RepliesToRequest result
run_printed (Ok printed) (fits, R, is_opening, runs) =
    let opened = opening_given R is_opening in
    let good = subst IsGood (sym is_opening.register ∙ opened)
    (opening_is_good is_opening.net is_opening.team is_opening.is_network.network is_opening.is_staff.is_staff) in
    reply_printed runs.left runs.told printed good
    (subst (λ (bytes : List ℕ). AnswersInput (λ _. ⊥) worked_opening runs.left bytes runs.told printed) runs.is_input.0
    (subst (λ (S : Register). AnswersInput (λ _. ⊥) S runs.left runs.bytes runs.told printed) opened runs.answers)) runs.fault
run_printed (Err fault) why = λ other. not_so other (why (λ memory. other (inl (inl (inl memory)))))
  where
    not_so : (IsUnanswered fault → ⊥) → IsRunOf (Some request_input) worked_rows (Err fault) → ⊥
    not_so other (inl unfit) = cc (sym rows_fit ∙ unfit)
    not_so other (inr (fits, of)) = other (inr of)

replied : (read : Result FileRows Fault) (result : Result Printed Fault) → Gives IsUnreadFile (λ rows. rows) (rows_of worked_files) read
    → After read (λ rows. Answers IsMemory (λ printed. printed) (IsRunOf (Some request_input) rows)) result → RepliesToRequest result
replied (Ok rows) result gives it =
    let same : rows ≡ worked_rows = cc (sym gives ∙ rows_read) in
    run_printed result (subst (λ (r : FileRows). Answers IsMemory (λ printed. printed) (IsRunOf (Some request_input) r) result) same it)
replied (Err fault) result gives is =
    subst (λ (r : Result Printed Fault). RepliesToRequest r) (sym is) (λ other. cc (sym rows_read ∙ gives (λ unread. other (inl unread))))

pub reply_given : (input s p e : Option (List ℕ)) → input ≡ Some request_input → s ≡ Some section_file → p ≡ Some point_file → e ≡ Some staff_file
    → (read : Result FileRows Fault) → AreRead s p e read → (result : Result Printed Fault)
    → After read (λ rows. Answers IsMemory (λ printed. printed) (IsRunOf input rows)) result → RepliesToRequest result
reply_given input s p e known sections points staff read are result it =
    replied read result (known_read s p e sections points staff read are)
    (subst (λ (i : Option (List ℕ)). After read (λ rows. Answers IsMemory (λ printed. printed) (IsRunOf i rows)) result) known it)
