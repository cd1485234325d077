-- WHAT A COMMAND SAYS, in words.
use Rattle.std.specs.Prelude.{ℕ, Bool, true, false, List, [], ◌∷◌, ◌++◌, Option, None, Some, codes}
use Rattle.std.specs.Prelude.{decimal, flat_map, if◌then◌else◌}
use Rattle.serde_json.specs.Data.{string}
use Rattle.serde_json.specs.Written.{compact_text}
use Rattle.clr_order.specs.Step.{Task}
use Rattle.clr_order.specs.Texts.{step_text}
use Rattle.clr_rules.specs.Command.{named_place}
use Rattle.clr_rules.specs.Id.{Id}
use Rattle.clr_rules.specs.declared.command.Kind.{Kind}
use Rattle.clr_rules.specs.declared.command.Kind.TheVariants as kind
use Rattle.clr_text.specs.Kinds.{word_of, word_text}
use Rattle.clr_journal.specs.Line.{Entry}
use Rattle.clr_log.specs.Steps.{step_known}

-- a text as it was spoken: in quotes, as JSON
unfoldable pub quoted : List ℕ → List ℕ
quoted text = compact_text (string text)

-- a name after a blank, if there is one
abbrev pub place_words : Option (List ℕ) → List ℕ
place_words None = []
place_words (Some place) = codes " " ++ place

abbrev pub points_words : List (List ℕ) → List ℕ
points_words points = flat_map (λ point. codes " " ++ point) points

abbrev pub steps_words : List Task → List ℕ
steps_words steps = flat_map (λ t. codes ", " ++ step_text t) steps

-- the number of a step, and what it is, if that is known: `1 OPEN S2`
abbrev pub step_words : ℕ → Option Task → List ℕ
step_words k None = decimal k
step_words k (Some t) = decimal k ++ codes " " ++ step_text t

abbrev pub numbered : List Entry → Id → ℕ → List ℕ
numbered older c k = codes " " ++ step_words k (step_known older c k)

abbrev pub either : Bool → List ℕ → List ℕ → List ℕ
either b one other = if b then one else other

-- what a command is called: as its word is written, where it has no other words
abbrev pub verb : Kind → List ℕ
verb (kind.SignOn c crew) = codes "sign on"
verb (kind.SignOff c crew) = codes "sign off"
verb (kind.Transfer c to emergency) =
    either emergency (codes "emergency transfer to") (codes "transfer to")
verb k = word_text (word_of k)

-- the steps of an order, or the one that is named
abbrev pub steps_said : List Entry → Kind → List ℕ
steps_said older (kind.Order c points steps) = points_words points ++ steps_words steps
steps_said older (kind.Restore c steps) = steps_words steps
steps_said older (kind.Switch steps) = steps_words steps
steps_said older (kind.Instruct c k) = numbered older c k
steps_said older (kind.Repeat c k text) = numbered older c k
steps_said older (kind.Report c k done) = numbered older c k
steps_said older (kind.Amend c k) = numbered older c k
steps_said older _ = []

-- the text that was spoken, or names: the section or the crew, where it has no others
abbrev pub names_said : Kind → List ℕ
names_said (kind.Repeat c k text) = codes " " ++ quoted text
names_said (kind.Transfer c to emergency) = codes " " ++ to
names_said (kind.Jumper point from to lockable remote) =
    codes " " ++ point ++ codes " from " ++ from ++ codes " to " ++ to
names_said k = place_words (named_place k)

-- what is, or is not
abbrev pub flags_said : Kind → List ℕ
flags_said (kind.Report c k done) = either done (codes " done") (codes " not done")
flags_said (kind.Test c section dead) = either dead (codes " dead") (codes " not dead")
flags_said (kind.Release c notified clear) =
    either notified (codes ", notified") (codes ", not notified")
    ++ either clear (codes ", clear") (codes ", not clear")
flags_said (kind.Jumper point from to lockable remote) =
    either lockable (codes ", lockable") (codes "") ++ either remote (codes ", remote") (codes "")
flags_said _ = []

-- WHAT A COMMAND SAYS, after the lines before it, of which the newest come first
abbrev pub words : List Entry → Kind → List ℕ
words older k = verb k ++ steps_said older k ++ names_said k ++ flags_said k
