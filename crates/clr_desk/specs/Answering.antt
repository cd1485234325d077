-- WHAT CAME OF A CALL: whether it accepted its command, its reply and its fault.
use Rattle.std.specs.Prelude.{Bool, false, List, [], ◌∷◌, Option, None, Some, Result, Ok, Err}
use Rattle.clr_rules.specs.declared.reply.Reply.{Reply}
use Rattle.clr_answer.specs.Decision.{is_accepted}
use Rattle.clr_desk.specs.declared.desk_fault.DeskFault.{DeskFault}

-- whether a call accepted its command: it was not refused or shown, and met no fault
abbrev pub has_accepted : Result Reply DeskFault → Bool
has_accepted (Ok reply) = is_accepted reply
has_accepted (Err fault) = false

-- the fault of a call, if it met one
abbrev pub fault_of : {X : Type 0} → Result X DeskFault → Option DeskFault
fault_of (Ok x) = None
fault_of (Err fault) = Some fault

-- the replies of a call that was given one command
abbrev pub replies_of : Result Reply DeskFault → List Reply
replies_of (Ok reply) = reply ∷ []
replies_of (Err fault) = []
