-- THE PRINTED TEXTS: a round of an order, of its record and its steps alone, and the board. Each
-- line ends with a line feed.
use Rattle.std.specs.Prelude.{ℕ, ◌-◌, ◌==◌, Bool, not, if◌then◌else◌, ℤ, List, ◌++◌, length}
use Rattle.std.specs.Prelude.{replicate, filter, Option, None, Some, codes, decimal, bytes_eq}
use Rattle.std.specs.Prelude.{flat_map}
use Rattle.clr_rules.specs.Prelude.{PointRow, Position, Register, position_of, is_some_step}
use Rattle.clr_net.specs.declared.point.Position.TheVariants.{Closed, Opened}
use Rattle.clr_order.specs.Action.{action_word}
use Rattle.clr_order.specs.Step.{state_text}
use Rattle.clr_rules.specs.Id.{Id, id_text}
use Rattle.clr_rules.specs.Phase.{phase_text}
use Rattle.clr_rules.specs.Records.{is_closed}
use Rattle.clr_print.specs.Moments.{moment_text}
use Rattle.clr_rules.specs.declared.point_state.PointState.{PointState}
use Rattle.clr_rules.specs.declared.record.Record.{Record}
use Rattle.clr_rules.specs.declared.step_row.StepRow.{StepRow}

-- the round that a text names: 1 or 2
abbrev pub read_round : List ℕ → Option ℕ
read_round text = if bytes_eq text (codes "1") then Some 1 else if bytes_eq text (codes "2")
    then Some 2 else None

-- a text on the left of a column, and on the right of one; a text that is wider is left as it is
abbrev pub left : ℕ → List ℕ → List ℕ
left width text = text ++ replicate (width - length text) 32

abbrev pub right : ℕ → List ℕ → List ℕ
right width text = replicate (width - length text) 32 ++ text

-- a column and the blank after it
unfoldable pub left_column : ℕ → List ℕ → List ℕ
left_column width text = left width text ++ codes " "

unfoldable pub right_column : ℕ → List ℕ → List ℕ
right_column width text = right width text ++ codes " "

abbrev pub name_or_dash : Option (List ℕ) → List ℕ
name_or_dash None = codes "-"
name_or_dash (Some name) = name

-- `  1 OPEN      S2                       Done       REED`
unfoldable pub step_line : StepRow → List ℕ
step_line row =
    right_column 3 (decimal row.ordinal) ++ left_column 9 (action_word row.step.action)
    ++ left_column 24 row.step.point
    ++ left_column 10 (state_text row.step.state) ++ name_or_dash row.step.reader ++ codes "\n"

-- a line that begins with a word
unfoldable pub text_line : List ℕ → List ℕ → List ℕ
text_line word text = word ++ text ++ codes "\n"

unfoldable pub order_name : Id → ℕ → List ℕ
order_name id round = id_text id ++ codes " ROUND " ++ decimal round

-- the five lines before the steps
unfoldable pub head_text : Record → ℕ → ℤ → List ℕ
head_text r round offset =
    text_line (codes "ORDER ") (order_name r.id round)
    ++ text_line (codes "WORK ") (name_or_dash r.work)
    ++ text_line (codes "HOLDER ") r.holder ++ text_line (codes "PHASE ") (phase_text r.phase)
    ++ text_line (codes "LAST ") (moment_text r.last offset)

-- the round of these steps, if there are any
abbrev pub round_text : Record → List StepRow → ℕ → ℤ → Option (List ℕ)
round_text r rows round offset =
    if is_some_step rows then Some (head_text r round offset ++ flat_map step_line rows
    ++ codes "END\n") else None

abbrev pub in_round : ℕ → List StepRow → List StepRow
in_round round steps = filter (λ row. row.round == round) steps

-- THE PRINTED ORDER: a round of a clearance or a switch order, of its record and its steps; none
-- where there is no record or no such round
abbrev pub order_text : Option Record → List StepRow → ℕ → ℤ → Option (List ℕ)
order_text None steps round offset = None
order_text (Some r) steps round offset = round_text r (in_round round steps) round offset

abbrev pub is_open : Record → Bool
is_open r = not (is_closed r.phase)

-- `JONES/1                       Ordered   L2                       1970-01-01 00:01:44 +00:00
-- JONES`
unfoldable pub board_line : ℤ → Record → List ℕ
board_line offset r =
    left_column 29 (id_text r.id) ++ left_column 9 (phase_text r.phase)
    ++ left_column 24 (name_or_dash r.work)
    ++ moment_text r.last offset ++ codes " " ++ r.holder ++ codes "\n"

abbrev pub count_line : ℕ → List ℕ
count_line count = codes "BOARD " ++ decimal count ++ codes "\n"

abbrev pub board_of : List Record → ℤ → List ℕ
board_of standing offset = count_line (length standing) ++ flat_map (board_line offset) standing

-- the position of a point: each point of a network has a state
abbrev pub position_word : Option Position → List ℕ
position_word None = codes "-"
position_word (Some Opened) = codes "open"
position_word (Some Closed) = codes "closed"

-- `JUMPER J1                       L4                       L9                       open`
unfoldable pub jumper_line : PointRow → Option Position → List ℕ
jumper_line p position =
    codes "JUMPER " ++ left_column 24 p.name ++ left_column 24 p.from_end
    ++ left_column 24 p.to_end ++ position_word position ++ codes "\n"

-- a line for each jumper among the points
abbrev pub jumper_lines : List PointState → List PointRow → List ℕ
jumper_lines states points =
    flat_map (λ p. jumper_line p (position_of states p.name)) (filter (λ p. p.jumper) points)

-- THE BOARD: how many records are not closed, a line for each, and one for each jumper
abbrev pub board_text : Register → ℤ → List ℕ
board_text R offset =
    board_of (filter is_open R.records) offset ++ jumper_lines R.states R.net.points
