use Rattle.std.proofs.Common.{◌∙◌, ap, subst}
use Rattle.clr_changes.specs.Deeds.{deed_of}
use Rattle.clr_rules.specs.declared.place.Place.{Place}
use Rattle.clr_level.specs.Carrying.{CarriesDeed}
use Rattle.clr_level.specs.Renewing.{last_after}
use Rattle.clr_level.specs.declared.keeper.Keeper.{Keeper}
use Rattle.clr_level.proofs.renewing.carry_noted.Goals as goal

pub returns : goal.returns
returns g c =
    let was = c.parted-book.ensures.kept in
    let now = c.of-desk.ensures.store in
    let came = c.carry_deed-came.result.0 in
    record {
      before = c.of-inner.result;
      after = c.carry_deed-came.result.1;
      carried =
          subst
          (λ (p : Place). CarriesDeed g.K.Commit.kept g.K.Commit.takes g.K.CommitAt.has_place g.K.Commit.fails c.of-inner.result
          c.carry_deed-came.result.1 (deed_of c.args.deed) p came)
          (ap (λ (k : Keeper g.row.K.Denot g.row.J.Denot g.row.C.Denot). k.at) was) c.carry_deed-came.ensures.carried;
      book = c.of-inner.ensures.book ∙ c.parted-book.ensures.book;
      keeper = c.of-inner.ensures.store ∙ ap (λ (k : Keeper g.row.K.Denot g.row.J.Denot g.row.C.Denot). k.keeper) was;
      book_after = c.of-desk.ensures.book ∙ c.parted-book-2.ensures.book;
      keeper_after = ap (λ (k : Keeper g.row.K.Denot g.row.J.Denot g.row.C.Denot). k.keeper) now ∙ c.parted-book-2.ensures.kept;
      beside = record {
        journal =
            ap (λ (k : Keeper g.row.K.Denot g.row.J.Denot g.row.C.Denot). k.journal) now
            ∙ ap (λ (k : Keeper g.row.K.Denot g.row.J.Denot g.row.C.Denot). k.journal) was;
        clock =
            ap (λ (k : Keeper g.row.K.Denot g.row.J.Denot g.row.C.Denot). k.clock) now
            ∙ ap (λ (k : Keeper g.row.K.Denot g.row.J.Denot g.row.C.Denot). k.clock) was;
        at =
            ap (λ (k : Keeper g.row.K.Denot g.row.J.Denot g.row.C.Denot). k.at) now ∙ c.carry_deed-came.ensures.place
            ∙ ap (λ (k : Keeper g.row.K.Denot g.row.J.Denot g.row.C.Denot). k.at) was;
        synced =
            ap (λ (k : Keeper g.row.K.Denot g.row.J.Denot g.row.C.Denot). k.is_synced) now
            ∙ ap (λ (k : Keeper g.row.K.Denot g.row.J.Denot g.row.C.Denot). k.is_synced) was;
      };
      last =
          ap (λ (k : Keeper g.row.K.Denot g.row.J.Denot g.row.C.Denot). k.last) now ∙ c.last_after-last.ensures
          ∙ ap (λ (k : Keeper g.row.K.Denot g.row.J.Denot g.row.C.Denot). last_after came k.last) was;
    }
