-- Commands. A variant of Kind takes its fields in the order in which they are declared.
use Rattle.std.specs.Prelude.{ℕ, Bool, true, false, List, Option, Some, None}
use Rattle.clr_rules.specs.Prelude.{Kind, Id}
use Rattle.clr_rules.specs.declared.command.Kind.TheVariants.{Request, Order, Instruct, Repeat}
use Rattle.clr_rules.specs.declared.command.Kind.TheVariants.{Report, Grant, Test, Ground, Unground}
use Rattle.clr_rules.specs.declared.command.Kind.TheVariants.{SignOn, SignOff, Transfer, Release}
use Rattle.clr_rules.specs.declared.command.Kind.TheVariants.{Cancel, Restore, Amend, Switch, Show}
use Rattle.clr_rules.specs.declared.command.Kind.TheVariants.{Jumper}

-- the clearance that a command names: a request and a switch order make a new one, and name none; a
-- jumper is about none
abbrev pub named_clearance : Kind → Option Id
named_clearance (Request section) = None
named_clearance (Order clearance points steps) = Some clearance
named_clearance (Instruct clearance step) = Some clearance
named_clearance (Repeat clearance step text) = Some clearance
named_clearance (Report clearance step done) = Some clearance
named_clearance (Grant clearance) = Some clearance
named_clearance (Test clearance section dead) = Some clearance
named_clearance (Ground clearance section) = Some clearance
named_clearance (Unground clearance section) = Some clearance
named_clearance (SignOn clearance crew) = Some clearance
named_clearance (SignOff clearance crew) = Some clearance
named_clearance (Transfer clearance to emergency) = Some clearance
named_clearance (Release clearance notified clear) = Some clearance
named_clearance (Cancel clearance) = Some clearance
named_clearance (Restore clearance steps) = Some clearance
named_clearance (Amend clearance step) = Some clearance
named_clearance (Switch steps) = None
named_clearance (Show clearance) = Some clearance
named_clearance (Jumper point from to lockable remote) = None

-- the section or the crew that a command names
abbrev pub named_place : Kind → Option (List ℕ)
named_place (Request section) = Some section
named_place (Test clearance section dead) = Some section
named_place (Ground clearance section) = Some section
named_place (Unground clearance section) = Some section
named_place (SignOn clearance crew) = Some crew
named_place (SignOff clearance crew) = Some crew
named_place kind = None

-- whether a command adds to the network
abbrev pub is_jumper : Kind → Bool
is_jumper (Jumper point from to lockable remote) = true
is_jumper kind = false
