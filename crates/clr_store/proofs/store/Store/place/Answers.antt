use Rattle.std.proofs.Common.{◌≡◌, Option, false, rules, subst}
use Rattle.std.specs.Prelude.{IfErr}
use Rattle.sqlite.specs.Held.{state}
use Rattle.sqlite.specs.Order.{Row}
use Rattle.clr_rules.specs.declared.place.Place.{Place}
use Rattle.clr_load.specs.RowsRead.{place_read}
use Rattle.clr_load.specs.Cause.{SqlHasCause}
use Rattle.clr_load.specs.Contract.{Gives, IsSaved}
use Rattle.clr_load.specs.declared.layout.Layout.{Layout}
use Rattle.clr_load.specs.Schema.{schema_in}
use Rattle.clr_load.specs.Stored.{HasPlaceIn, HasTables, IsPlaced}
use Rattle.clr_load.proofs.Reopened.{placed_as}
use Rattle.clr_store.proofs.store.Store.place.Goals as goal

pub returns-clause-place : goal.returns-clause-place
returns-clause-place g c clean t has row are =
    let new = state g.S.Store c.read_place.new.conn in
    let is : c.self.inside.connection ≡ c.args.self.now = search rules in
    let here = HasTables.here has in
    let was = placed_as (state g.S.Store c.args.self.now).now.trees (HasTables.layout has) here.holds.listed row are in
    subst (λ h. (l : Layout) → (state g.S.Store h).now.schema ≡ schema_in l → (row : Option Row) → HasPlaceIn l (state g.S.Store h).now.trees row
    → Gives {X = Option Place} (λ place. place) (place_read row) c.read_place.result) is (c.read_place.ensures.place clean) (HasTables.layout has) here.holds.schema row was

pub returns-clause-cause : goal.returns-clause-cause
returns-clause-cause g c clean t has =
    let new = state g.S.Store c.read_place.new.conn in
    let is : c.self.inside.connection ≡ c.args.self.now = search rules in
    let out : c.self.inside.connection.in_transaction ≡ false = search rules in
    let here = HasTables.here has in
    subst (λ h. (l : Layout) → (state g.S.Store h).now.schema ≡ schema_in l → IsPlaced l (state g.S.Store h).now.trees → IfErr c.read_place.result (SqlHasCause (state g.S.Store h) new))
    is (c.read_place.ensures.cause out clean) (HasTables.layout has) here.holds.schema here.placed

-- and it was saved before
pub returns-clause-was_saved : goal.returns-clause-was_saved
returns-clause-was_saved g c clean is_open =
    let is : c.self.inside.connection ≡ c.args.self.now = search rules in
    let out : c.self.inside.connection.in_transaction ≡ false = search rules in
    subst (λ h. IsSaved (state g.S.Store h)) is (c.read_place.ensures.was_saved out clean is_open)
