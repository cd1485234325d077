-- A BOOK AFTER CHANGES OF NETWORK AND STAFF that are said, as a journal says them.
use Rattle.std.specs.Prelude.{Some}
use Rattle.clr_changes.specs.Made.{IsMade}
use Rattle.clr_changes.specs.declared.outcome.After.{After}
use Rattle.clr_rules.specs.Register.{Register}
use Rattle.clr_update.specs.Changes.{Changes}

-- it is after some changes, which can be made in this register
abbrev pub IsAfterSome : Register → After → Type 0
IsAfterSome R after = (of : Changes) × IsMade R of (Some after)
