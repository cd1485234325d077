-- What sparing edits and commands about others leave alone, as laws.
use Rattle.std.specs.Prelude.{◌≡◌, Bool, true, false, List}
use Rattle.clr_rules.specs.Answer.{Answer, answer, reply_clearance, known_of}
use Rattle.clr_rules.specs.Commands.{Known}
use Rattle.clr_rules.specs.Command.{is_jumper, named_clearance}
use Rattle.clr_rules.specs.Prelude.{Edit, Command, Kind, Id, same_id, Register, after_edits, Report}
use Rattle.clr_rules.specs.Footprint.{all_spare}
use Rattle.clr_rules.specs.Good.{HandMatchesStep, IsGoodAsSaid, ListsAreInOrder}
use Rattle.clr_rules.specs.GoodByPhase.{outlook_of}
use Rattle.clr_rules.specs.Isolation.{HeldStayOpen, PointsAreKnownToJumper, is_others}
use Rattle.clr_rules.specs.Run.{after}

abbrev pub is_report : Kind → Bool
is_report (Report c n done) = true
is_report _ = false

-- HANDS MATCH TO A REPORT: where a command is one, the hands of the register match its steps. Of
-- every other command this says nothing
abbrev pub HandsMatchToReport : Register → Command → Type 0
HandsMatchToReport R q = is_report q.kind ≡ true → HandMatchesStep R

-- THE EDITS OF A COMMAND OF OTHERS spare a clearance: those of a report where the hands match the
-- steps, those of a jumper where points are those of the network,
abbrev pub OthersEditsSpare : Type 0
OthersEditsSpare =
    (R : Register) (c : Id) (q : Command) → HandsMatchToReport R q → PointsAreKnownToJumper R q
    → is_others c R q ≡ true
    → all_spare c R (Answer.edits (answer R q)) ≡ true

-- and so those of any other command in every register
abbrev pub OthersEditsSpareAnywhere : Type 0
OthersEditsSpareAnywhere =
    (R : Register) (c : Id) (q : Command) → is_report q.kind ≡ false → is_jumper q.kind ≡ false
    → is_others c R q ≡ true
    → all_spare c R (Answer.edits (answer R q)) ≡ true

-- WHAT THE REGISTER HAS OF A CLEARANCE, its record, its steps, its holds and what it has in hand,
-- stays after edits that spare it,
abbrev pub SparingEditsKeepOutlook : Type 0
SparingEditsKeepOutlook =
    (c : Id) (R : Register) (edits : List Edit) → ListsAreInOrder R → all_spare c R edits ≡ true
    → outlook_of (after_edits edits R) c ≡ outlook_of R c

-- the clearance that a command is about: the one that it names, or the one that it makes
abbrev pub subject_of : Register → Command → Id
subject_of R q = reply_clearance (Known.greatest (known_of R q)) q.caller (named_clearance q.kind)

-- so after a command it stays of every clearance but the one that the command is about,
abbrev pub OneOutlookChanges : Type 0
OneOutlookChanges =
    (R : Register) (c : Id) (q : Command) → ListsAreInOrder R → HandsMatchToReport R q
    → PointsAreKnownToJumper R q → same_id c (subject_of R q) ≡ false
    → outlook_of (after R q) c ≡ outlook_of R c

-- in a word, after a command about another,
abbrev pub OthersKeepOutlook : Type 0
OthersKeepOutlook =
    (R : Register) (c : Id) (q : Command) → ListsAreInOrder R → HandsMatchToReport R q
    → PointsAreKnownToJumper R q → is_others c R q ≡ true
    → outlook_of (after R q) c ≡ outlook_of R c

-- and the points that it holds are open then
abbrev pub OthersKeepHeldOpen : Type 0
OthersKeepHeldOpen =
    (R : Register) (c : Id) (q : Command) → IsGoodAsSaid R → PointsAreKnownToJumper R q
    → is_others c R q ≡ true
    → HeldStayOpen c (after R q)
