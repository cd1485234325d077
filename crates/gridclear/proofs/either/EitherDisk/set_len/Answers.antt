use Rattle.gridclear.proofs.either.EitherDisk.set_len.Goals as goal

-- what a frozen disk keeps is kept, whichever of the two it is
pub returns-in-First-clause-frozen : goal.returns-in-First-clause-frozen
returns-in-First-clause-frozen g c = rw c.in-First.is (λ frozen.
    let (failed, stays) = c.set_len.ensures.frozen frozen in (
      failed,
      record {
        frozen = stays.frozen;
        same = stays.same;
        clean = stays.clean;
        no_more = stays.no_more;
        no_fewer = stays.no_fewer;
      },
    ))

pub returns-in-Second-clause-frozen : goal.returns-in-Second-clause-frozen
returns-in-Second-clause-frozen g c = rw c.in-Second.is (λ frozen.
    let (failed, stays) = c.set_len-in-Second.ensures.frozen frozen in (
      failed,
      record {
        frozen = stays.frozen;
        same = stays.same;
        clean = stays.clean;
        no_more = stays.no_more;
        no_fewer = stays.no_fewer;
      },
    ))
