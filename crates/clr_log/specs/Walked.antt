-- THE LOG OF A CHAIN that is walked line by line: a line for each that holds its sum and is wanted,
-- and one for each that does not hold it.
use Rattle.std.specs.Prelude.{◌≡◌, ℕ, ℤ, Bool, true, false, ◌&&◌, List, [], ◌∷◌, ◌++◌, map, reverse}
use Rattle.std.specs.Prelude.{Option, None, Some, codes, decimal, if◌then◌else◌, is_some, ◌||◌}
use Rattle.serde_json.specs.Data.{Data}
use Rattle.clr_changes.specs.Deeds.{Deed, archive, command, update}
use Rattle.clr_rules.specs.Id.{Id}
use Rattle.clr_rules.specs.declared.command.Kind.{Kind}
use Rattle.clr_rules.specs.declared.command.Kind.TheVariants.{Amend}
use Rattle.clr_journal.specs.Line.{Entry, carried, withdrawn, entry_of, is_accepted}
use Rattle.serde_json.specs.View.{view}
use Rattle.clr_journal.specs.declared.line.Carried.{Carried}
use Rattle.clr_journal.specs.declared.line.Line.{Line}
use Rattle.clr_chain.specs.Walking.{Step, holds, bad}
use Rattle.clr_log.specs.About.{clearance_of, is_wanted, last_clearance, line_clearance}
use Rattle.clr_log.specs.Commands.{commands_about, commands_text}
use Rattle.clr_log.specs.Log.{entry_line, if_wanted}
use Rattle.clr_log.specs.Steps.{deed_steps, step_known}
use Rattle.clr_verify.specs.Replay.{Answered}

-- ---- the log

-- the line of one that does not hold its sum
unfoldable pub bad_line : ℕ → List ℕ
bad_line n = decimal n ++ codes "  -  -  -  -  does not hold its sum\n"

-- what one step prints, after the lines that held before it, of which the newest come first
abbrev pub step_text : Option Id → ℤ → List Entry → Step → List ℕ
step_text wanted offset older (holds entry) =
    if_wanted (is_wanted wanted (line_clearance older entry)) (entry_line offset older entry)
step_text wanted offset older (bad n) = bad_line n

-- the lines that held, with those of a step
abbrev pub older_with : List Entry → Step → List Entry
older_with older (holds entry) = entry ∷ older
older_with older (bad n) = older

unfoldable pub steps_text : Option Id → ℤ → List Entry → List Step → List ℕ
steps_text wanted offset older [] = []
steps_text wanted offset older (step ∷ rest) = step_text wanted offset older step
    ++ steps_text wanted offset (older_with older step) rest

-- THE LOG of a chain
abbrev pub walked_log : Option Id → ℤ → List Step → List ℕ
walked_log wanted offset steps = steps_text wanted offset [] steps

-- ---- what has to be remembered for it

-- a line that later lines may look at: it ordered steps, or turned one into a Leave, and was
-- accepted; of the clearance that is wanted, if one is
abbrev pub is_amending : Kind → Bool
is_amending (Amend c step) = true
is_amending kind = false

abbrev pub is_amending_deed : Deed → Bool
is_amending_deed (command q) = is_amending q.kind
is_amending_deed (update of) = false
is_amending_deed (archive before) = false

abbrev pub is_remembered : Option Id → Deed → Data → Bool
is_remembered wanted deed reply = is_accepted reply
    && ((is_some (deed_steps deed) || is_amending_deed deed)
    && is_wanted wanted (clearance_of deed reply))

-- a line that withdraws, with the deed before it, if that is there
abbrev pub withdrawn_with : List Entry → ℕ
withdrawn_with [] = 1
withdrawn_with (withdrawn n ∷ older) = 1
withdrawn_with (carried receipt deed reply ∷ older) = 2

-- how many of the newest lines no later line looks at but the next: one that withdraws, with the
-- deed before it; or one that is not remembered
abbrev pub idle_at_end : Option Id → List Entry → ℕ
idle_at_end wanted [] = 0
idle_at_end wanted (withdrawn n ∷ older) = withdrawn_with older
idle_at_end wanted (carried receipt deed reply ∷ older) =
    if is_remembered wanted deed reply then 0 else 1

-- LINES SERVE FOR ALL that held before, of which the newest come first: the last is the same, and
-- each step of a clearance that is wanted is known by them as by all
pub record Serve (wanted : Option Id) (held older : List Entry) : Type 0 where
  pub last : last_clearance held ≡ last_clearance older
  pub steps : (c : Id) → is_wanted wanted (Some c) ≡ true → (k : ℕ)
      → step_known held c k ≡ step_known older c k
  -- also where the next line withdraws the last deed
  pub next : (n : ℕ) (c : Id) → is_wanted wanted (Some c) ≡ true → (k : ℕ)
      → step_known (withdrawn n ∷ held) c k ≡ step_known (withdrawn n ∷ older) c k

abbrev pub held_entries : List Line → List Entry
held_entries lines = reverse (map entry_of lines)

-- ---- the commands

-- the last deed was accepted, if there was one
abbrev pub last_accepted : Option Carried → Bool
last_accepted None = true
last_accepted (Some one) = is_accepted (view one.reply)

-- the deed of a line, with its reply
abbrev pub pair_of : Answered → Deed × Data
pair_of answered = (answered.deed, answered.reply)

-- the lines that hold their sums
unfoldable pub holding : List Step → List Entry
holding [] = []
holding (holds entry ∷ rest) = entry ∷ holding rest
holding (bad n ∷ rest) = holding rest

-- THE COMMANDS of a chain that were carried out, each on a line that `run` takes
abbrev pub walked_commands : Option Id → List Step → List ℕ
walked_commands wanted steps = commands_text (commands_about wanted (holding steps))
