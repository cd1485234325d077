-- The room that edits need.
use Rattle.std.proofs.Common.{arith}
use Rattle.clr_rules.specs.declared.change.Edit.{Edit}
use Rattle.clr_rules.specs.declared.change.Edit.TheVariants.{SetPosition, SetHand, PutHold, TakeHold, PutRecord, PutStep, AddSection, AddPoint}
use Rattle.clr_book.specs.Book.{Fits, Room, need_of}

room_kept : (need before after : Room) → Fits need before → Fits before after → Fits need after
room_kept need before after fits left =
    let s = fits.states in let a = fits.records in let o = fits.open_records in let b = fits.steps in let d = fits.holds in
    let t = left.states in let x = left.records in let w = left.open_records in let y = left.steps in let z = left.holds in
    record { states = omega arith; records = omega arith; open_records = omega arith; steps = omega arith; holds = omega arith }

-- in the room for an edit and those after it, the edit leaves room for those after it
pub room_left : (edit : Edit) (need before after : Room) → Fits (need_of edit need) before → Fits before (need_of edit after) → Fits need after
room_left (SetPosition point position) need before after fits left = room_kept need before after fits left
room_left (SetHand point hand) need before after fits left = room_kept need before after fits left
room_left (PutHold h) need before after fits left =
    let s = fits.states in let a = fits.records in let o = fits.open_records in let b = fits.steps in let d = fits.holds in
    let t = left.states in let x = left.records in let w = left.open_records in let y = left.steps in let z = left.holds in
    record { states = omega arith; records = omega arith; open_records = omega arith; steps = omega arith; holds = omega arith }
room_left (TakeHold h) need before after fits left = room_kept need before after fits left
room_left (PutRecord r) need before after fits left =
    let s = fits.states in let a = fits.records in let o = fits.open_records in let b = fits.steps in let d = fits.holds in
    let t = left.states in let x = left.records in let w = left.open_records in let y = left.steps in let z = left.holds in
    record { states = omega arith; records = omega arith; open_records = omega arith; steps = omega arith; holds = omega arith }
room_left (PutStep row) need before after fits left =
    let s = fits.states in let a = fits.records in let o = fits.open_records in let b = fits.steps in let d = fits.holds in
    let t = left.states in let x = left.records in let w = left.open_records in let y = left.steps in let z = left.holds in
    record { states = omega arith; records = omega arith; open_records = omega arith; steps = omega arith; holds = omega arith }
room_left (AddSection row) need before after fits left = room_kept need before after fits left
room_left (AddPoint p) need before after fits left =
    let s = fits.states in let a = fits.records in let o = fits.open_records in let b = fits.steps in let d = fits.holds in
    let t = left.states in let x = left.records in let w = left.open_records in let y = left.steps in let z = left.holds in
    record { states = omega arith; records = omega arith; open_records = omega arith; steps = omega arith; holds = omega arith }
