use Rattle.std.proofs.Common.{sym, ap}
use Rattle.clr_text.specs.Keys.{every_key}
use Rattle.clr_text.specs.Kinds.{keys_of}
use Rattle.clr_text.proofs.kinds.Word.keys.Goals as goal

pub returns-in-Request : goal.returns-in-Request
unfolding keys_of every_key
returns-in-Request c = ap keys_of (sym c.in-Request.is)

pub returns-in-Order : goal.returns-in-Order
unfolding keys_of every_key
returns-in-Order c = ap keys_of (sym c.in-Order.is)

pub returns-in-Instruct : goal.returns-in-Instruct
unfolding keys_of every_key
returns-in-Instruct c = ap keys_of (sym c.in-Instruct.is)

pub returns-in-Repeat : goal.returns-in-Repeat
unfolding keys_of every_key
returns-in-Repeat c = ap keys_of (sym c.in-Repeat.is)

pub returns-in-Report : goal.returns-in-Report
unfolding keys_of every_key
returns-in-Report c = ap keys_of (sym c.in-Report.is)

pub returns-in-Grant : goal.returns-in-Grant
unfolding keys_of every_key
returns-in-Grant c = ap keys_of (sym c.in-Grant.is)

pub returns-in-Test : goal.returns-in-Test
unfolding keys_of every_key
returns-in-Test c = ap keys_of (sym c.in-Test.is)

pub returns-in-Ground : goal.returns-in-Ground
unfolding keys_of every_key
returns-in-Ground c = ap keys_of (sym c.in-Ground.is)

pub returns-in-Unground : goal.returns-in-Unground
unfolding keys_of every_key
returns-in-Unground c = ap keys_of (sym c.in-Unground.is)

pub returns-in-SignOn : goal.returns-in-SignOn
unfolding keys_of every_key
returns-in-SignOn c = ap keys_of (sym c.in-SignOn.is)

pub returns-in-SignOff : goal.returns-in-SignOff
unfolding keys_of every_key
returns-in-SignOff c = ap keys_of (sym c.in-SignOff.is)

pub returns-in-Transfer : goal.returns-in-Transfer
unfolding keys_of every_key
returns-in-Transfer c = ap keys_of (sym c.in-Transfer.is)

pub returns-in-Release : goal.returns-in-Release
unfolding keys_of every_key
returns-in-Release c = ap keys_of (sym c.in-Release.is)

pub returns-in-Cancel : goal.returns-in-Cancel
unfolding keys_of every_key
returns-in-Cancel c = ap keys_of (sym c.in-Cancel.is)

pub returns-in-Restore : goal.returns-in-Restore
unfolding keys_of every_key
returns-in-Restore c = ap keys_of (sym c.in-Restore.is)

pub returns-in-Amend : goal.returns-in-Amend
unfolding keys_of every_key
returns-in-Amend c = ap keys_of (sym c.in-Amend.is)

pub returns-in-Switch : goal.returns-in-Switch
unfolding keys_of every_key
returns-in-Switch c = ap keys_of (sym c.in-Switch.is)

pub returns-in-Show : goal.returns-in-Show
unfolding keys_of every_key
returns-in-Show c = ap keys_of (sym c.in-Show.is)

pub returns-in-Jumper : goal.returns-in-Jumper
unfolding keys_of every_key
returns-in-Jumper c = ap keys_of (sym c.in-Jumper.is)
