use Rattle.std.proofs.Common.{◌≡◌, Err}
use Rattle.clr_load.proofs.Inside.{told_as}
use Rattle.clr_load.proofs.load.load_into.Goals as goal

pub returns-in_err-loaded-clause-rows : goal.returns-in_err-loaded-clause-rows
returns-in_err-loaded-clause-rows g c clean t has =
    let told : c.from_residual.result ≡ Err c.in_err-loaded.field-0.0 = told_as _ _ c.from_residual.ensures.1 in
    rw told (c.in_err-loaded.ensures.gives clean has.layout has.two t has.here).0

pub returns-in_err-loaded-clause-cause : goal.returns-in_err-loaded-clause-cause
returns-in_err-loaded-clause-cause g c out clean t has =
    let told : c.from_residual.result ≡ Err c.in_err-loaded.field-0.0 = told_as _ _ c.from_residual.ensures.1 in
    rw told (c.in_err-loaded.ensures.gives clean has.layout has.two t has.here).1

pub returns-clause-rows : goal.returns-clause-rows
returns-clause-rows g c clean t has = (c.in_ok-loaded.ensures.gives clean has.layout has.two t has.here).0
