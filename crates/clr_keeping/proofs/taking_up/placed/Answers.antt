use Rattle.std.proofs.Common.{◌≡◌, ◌∙◌, subst, sym}
use Rattle.sqlite.specs.Held.{Held, state}
use Rattle.clr_keeping.specs.TakenUp.{HasPlace, LacksPlace, StaysRead}
use Rattle.clr_edge.proofs.Databases.{was_clean}
use Rattle.clr_keeping.proofs.taking_up.placed.Goals as goal

-- the place was read, and nothing changed
pub returns-in-Ok-clause-read : goal.returns-in-Ok-clause-read
returns-in-Ok-clause-read g c =
    let stays : StaysRead (state g.S.Store c.parted-book.result.1) (state g.S.Store c.place.new.self) = record {
      clean = λ clean. was_clean _ _ _ c.in-Ok.ensures.crash clean;
      was_saved = c.in-Ok.ensures.was_saved;
      saved = c.in-Ok.ensures.saved;
      same = c.in-Ok.ensures.same;
      survives = c.in-Ok.ensures.crash;
    } in
    subst (λ h. StaysRead (state g.S.Store h) (state g.S.Store c.of.result.store)) c.parted-book.ensures.kept
    (subst (λ h. StaysRead (state g.S.Store c.parted-book.result.1) (state g.S.Store h)) (sym c.of.ensures.store) stays)

pub returns-in-Ok-clause-placed : goal.returns-in-Ok-clause-placed
returns-in-Ok-clause-placed g c =
    let placed : HasPlace g.S.Store c.parted-book.result.1 c.place.new.self c.in-Ok.place = λ clean still t has row are. c.in-Ok.ensures.place clean t has row are in
    subst (λ h. HasPlace g.S.Store h c.of.result.store c.in-Ok.place) c.parted-book.ensures.kept
    (subst (λ h. HasPlace g.S.Store c.parted-book.result.1 h c.in-Ok.place) (sym c.of.ensures.store) placed)

-- or it was not read
pub returns-in-Err-clause-read_too : goal.returns-in-Err-clause-read_too
returns-in-Err-clause-read_too g c =
    let stays : StaysRead (state g.S.Store c.parted-book.result.1) (state g.S.Store c.place.new.self) = record {
      clean = λ clean. was_clean _ _ _ c.in-Err.ensures.crash clean;
      was_saved = c.in-Err.ensures.was_saved;
      saved = c.in-Err.ensures.saved;
      same = c.in-Err.ensures.same;
      survives = c.in-Err.ensures.crash;
    } in
    subst (λ h. StaysRead (state g.S.Store h) (state g.S.Store c.end.result)) c.parted-book.ensures.kept
    (subst (λ h. StaysRead (state g.S.Store c.parted-book.result.1) (state g.S.Store h)) (sym c.end.ensures.connection) stays)

pub returns-in-Err-clause-lacks : goal.returns-in-Err-clause-lacks
returns-in-Err-clause-lacks g c =
    let lacks : LacksPlace g.S.Store c.parted-book.result.1 c.from.result c.place.new.self = record {
      cause = c.in-Err.cause;
      fault_is = c.from.ensures;
      refused = λ clean still t has row are. c.in-Err.ensures.place clean t has row are;
      has_cause = λ clean t has. c.in-Err.ensures.cause clean t has;
    } in
    subst (λ h. LacksPlace g.S.Store h c.from.result c.end.result) c.parted-book.ensures.kept
    (subst (λ h. LacksPlace g.S.Store c.parted-book.result.1 c.from.result h) (sym c.end.ensures.connection) lacks)
