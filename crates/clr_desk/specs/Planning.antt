-- WHAT IS TO BE DONE OF AN UPDATE AND OF AN ARCHIVE, made before anything is written.
use Rattle.std.specs.Prelude.{◌≡◌, ℕ, map, None, Some, string_bytes}
use Rattle.clr_changes.specs.Archive.{archived, steps_that_go}
use Rattle.clr_changes.specs.Lines.{change_lines}
use Rattle.clr_changes.specs.Renewed.{renewed}
use Rattle.clr_rules.specs.Good.{IsGood}
use Rattle.clr_rules.specs.Register.{Register}
use Rattle.clr_rules.specs.StepKey.{step_key}
use Rattle.clr_store.specs.Renewed.{AreStatesOf}
use Rattle.clr_load.specs.TypedRows.{IsTyped}
use Rattle.clr_update.specs.Changes.{changes}
use Rattle.clr_update.specs.Update.{Update, in_the_way, updated}
use Rattle.clr_desk.specs.declared.archiving.Left.{Left}
use Rattle.clr_desk.specs.declared.updating.Plan.{Plan}
use Rattle.clr_desk.specs.declared.updating.Plan.TheVariants.{Accepted, InTheWay}
use Rattle.clr_desk.specs.declared.updating.Renewal.{Renewal}

-- the book after an update that nothing is in the way of, whose network, staff and states make the
-- register after it of that before; and the lines of what changes
pub record MakesRenewal (R : Register) (u : Update) (it : Renewal) : Type 0 where
  pub free : in_the_way R u ≡ None
  pub lines : string_bytes it.lines ≡ change_lines (changes R (updated R u))
  pub register : it.book.register ≡ updated R u
  pub renews : renewed R it.book.network it.book.register.staff it.states.items ≡ updated R u
  pub own : AreStatesOf it.book.network.points it.states.items
  pub typed : IsTyped (updated R u)

abbrev pub IsPlan : Register → Update → Plan → Type 0
IsPlan R u (InTheWay obstacle) = in_the_way R u ≡ Some obstacle
IsPlan R u (Accepted renewal) = MakesRenewal R u renewal

-- the keys of the steps that go, and the book after an archive; it is made of a good register
pub record IsLeft (before : ℕ) (R : Register) (it : Left) : Type 0 where
  pub keys : it.keys.items ≡ map step_key (steps_that_go before R)
  pub register : IsGood R → it.book.register ≡ archived before R
