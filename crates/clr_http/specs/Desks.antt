-- A DESK AS ONE WHO KEEPS A REGISTER: what it is to take a command, by what keeps its changes.
use Rattle.std.specs.Prelude.{◌≡◌, Result}
use Rattle.std.specs.Result.{result_ok}
use Rattle.clr_rules.specs.declared.reply.Reply.{Reply}
use Rattle.clr_desk.specs.Given.{IsAnswered}
use Rattle.clr_desk.specs.Taking.{Taking}
use Rattle.clr_desk.specs.declared.desk.Desk.{Desk}
use Rattle.clr_desk.specs.declared.desk_fault.DeskFault.{DeskFault}
use Rattle.clr_http.specs.Puts.{Putting}

-- the command is given to the desk, and the reply is what came of it
abbrev pub DeskTakes : {K : Type 0} → Taking K → Putting (Desk K)
DeskTakes takes old login q reply new = (told : Result Reply DeskFault) × (result_ok told ≡ reply)
    × IsAnswered takes old.book.register old.store login q told new.book.register new.store
