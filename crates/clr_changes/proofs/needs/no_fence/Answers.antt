use Rattle.clr_book.proofs.FenceNames.{none_rise}
use Rattle.clr_changes.proofs.needs.no_fence.Goals as goal

pub of_rows-requires-clause-sections_rise : goal.of_rows-requires-clause-sections_rise
of_rows-requires-clause-sections_rise c = rw c.new.ensures.items none_rise

pub of_rows-requires-clause-points_rise : goal.of_rows-requires-clause-points_rise
of_rows-requires-clause-points_rise c = rw c.new-2.ensures.items none_rise
