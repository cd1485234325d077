-- THE HEADLINE OF A RUN: what holds of the commands that a run has replied to, of its replies, and
-- of the register that it left.
use Rattle.std.specs.Prelude.{◌≡◌, ℕ, Bool, true, if◌then◌else◌, List, [], ◌∷◌, ◌++◌, map}
use Rattle.std.specs.Prelude.{filter, length, take}
use Rattle.clr_rules.specs.Agreement.{Agree}
use Rattle.clr_rules.specs.Answer.{Answer}
use Rattle.clr_rules.specs.Good.{IsGood}
use Rattle.clr_rules.specs.Prelude.{Command, Reply, Id, Register}
use Rattle.clr_rules.specs.Isolation.{LeftAlone, ShowTheSame, ShowsOwnAlone, is_others}
use Rattle.clr_rules.specs.Run.{after, after_all, replies}
use Rattle.clr_rules.specs.Shown.{is_own_command, own_answers}

-- the commands that have a reply: a run that stops leaves the later ones without
abbrev pub with_reply : List Command → List Reply → List Command
with_reply commands told = take (length told) commands

-- A RUN: the replies to the commands, and the register that they leave
pub record IsRun (R : Register) (commands : List Command) (told : List Reply)
    (S : Register) : Type 0 where
  pub replied : told ≡ replies R commands
  pub register : S ≡ after_all R commands

-- the replies to the own commands of a clearance: each reply is at the place of its command
unfoldable pub own_replies : Id → List Command → List Reply → List Reply
own_replies c [] told = []
own_replies c (q ∷ commands) [] = []
own_replies c (q ∷ commands) (reply ∷ told) =
    if is_own_command c q then reply ∷ own_replies c commands told else own_replies c commands told

-- a second run gives a clearance the same: the replies to its own commands, and their edits, are
-- those of the other register and the other commands, and the registers that are left agree near
-- the clearance again
pub record TellsTheSame (c : Id) (inside : List ℕ
    → Bool) (R : Register) (commands : List Command) (told : List Reply) (S T : Register)
    (others : List Command) : Type 0 where
  pub replies : own_replies c commands told ≡ map (λ (a : Answer). a.reply) (own_answers c T others)
  pub answers : own_answers c R commands ≡ own_answers c T others
  pub agree : Agree c inside S (after_all T others)

-- FIRST HALF: for each clearance whose requester is no operator, each set that covers this run, and
-- each good register and list of commands that show the clearance the same, it is given the same
abbrev pub OthersChangeNoReply : Register → List Command → List Reply → Register → Type 0
OthersChangeNoReply R commands told S =
    (c : Id) (inside : List ℕ → Bool) (T : Register) (others : List Command)
    → ShowTheSame c inside R commands T others → TellsTheSame c inside R commands told S T others

-- SECOND HALF: at each place of the run, a command about another clearance leaves a clearance's
-- record, steps and holds as they are, clears no hand of it, and each point that the clearance
-- holds open is open
abbrev pub OthersTakeNothing : Register → List Command → Type 0
OthersTakeNothing R commands =
    (c : Id) (earlier : List Command) (q : Command) (later : List Command) → IsGood R
    → commands ≡ earlier ++ q ∷ later → is_others c (after_all R earlier) q ≡ true
    → LeftAlone c (after_all R earlier) (after (after_all R earlier) q)

-- THE CONSEQUENCE: where no command of others marks the set, a clearance is replied to as if its
-- own commands were alone
abbrev pub OwnStandAlone : Register → List Command → List Reply → Type 0
OwnStandAlone R commands told = (c : Id) (inside : List ℕ → Bool)
    → ShowsOwnAlone c inside R commands
    → own_replies c commands told
    ≡ map (λ (a : Answer). a.reply) (own_answers c R (filter (is_own_command c) commands))

-- all three hold of every run
abbrev pub RunsChangeNoReply : Type 0
RunsChangeNoReply =
    (R : Register) (commands : List Command) (told : List Reply) (S : Register)
    → IsRun R commands told S
    → OthersChangeNoReply R commands told S

abbrev pub RunsTakeNothing : Type 0
RunsTakeNothing = (R : Register) (commands : List Command) → OthersTakeNothing R commands

abbrev pub RunsStandAlone : Type 0
RunsStandAlone =
    (R : Register) (commands : List Command) (told : List Reply) (S : Register)
    → IsRun R commands told S
    → OwnStandAlone R commands told
