use Rattle.std.proofs.Common.{◌∙◌, refl}
use Rattle.clr_checking.proofs.Results.{if_err, if_ok, on_ok}
use Rattle.clr_checking.proofs.checking.Checking.over_copy.Goals as goal

pub returns-clause-same_id : goal.returns-clause-same_id
returns-clause-same_id c = on_ok c.met_at_first.result (λ own. own ∙ c.from.ensures.id) c.met_at_first.ensures.same_id

pub returns-clause-begun : goal.returns-clause-begun
returns-clause-begun c =
    if_ok c.met_at_first.result (λ it went.
    went c.args.desk.book.register c.args.from c.args.first c.args.place c.args.book.now.register c.from.ensures.id c.from.ensures.end refl
    (λ same. record {
      of = record { place_is = refl; book_is = refl };
      same_id = same;
      from = refl;
      last = refl;
      register = refl;
      count = refl;
      met = refl;
      missed = tt;
    })) c.met_at_first.ensures.went_from

pub returns-clause-refused : goal.returns-clause-refused
returns-clause-refused c =
    if_err c.met_at_first.result (λ fault why.
    why c.args.desk.book.register c.args.from c.args.first c.args.place c.args.book.now.register c.from.ensures.id c.from.ensures.end refl refl
    (λ same. record {
      of = record { place_is = refl; book_is = refl };
      same_id = same;
      from = refl;
      last = refl;
      register = refl;
      count = refl;
      met = refl;
      missed = tt;
    })) c.met_at_first.ensures.refused_from
