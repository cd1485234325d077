use Rattle.clr_disk.proofs.watched.WatchedDisk.write_at.Goals as goal

-- a watch changes nothing of a disk that is frozen
pub returns-clause-frozen : goal.returns-clause-frozen
returns-clause-frozen g c frozen =
    let (failed, stays) = c.write_at.ensures.frozen frozen in (
      failed,
      record {
        frozen = stays.frozen;
        same = stays.same;
        clean = stays.clean;
        no_more = stays.no_more;
        no_fewer = stays.no_fewer;
      },
    )
