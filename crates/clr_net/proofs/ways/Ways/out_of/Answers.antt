use Rattle.std.proofs.Common.{◌+◌, sym, arith}
use Rattle.std.proofs.lemmas.List.{get_or_read}
use Rattle.clr_net.specs.Index.{IsStart}
use Rattle.clr_net.proofs.IndexSteps.{run_is, start_le_end}
use Rattle.clr_net.proofs.ways.Ways.out_of.Goals as goal
use Rattle.clr_net.proofs.ways.Ways.out_of.Goals.{After-deref}

starts_here : (c : After-deref) → IsStart c.args.self.now.out.items c.args.place c.index-start.result.now
starts_here c =
    let (n, starts, inside) = c.requires in
    let count = starts.count in
    rw (get_or_read c.args.self.now.starts.items c.args.place c.index-start.result.now (omega arith) c.index-start.ensures 0) (starts.each c.args.place (omega arith))

ends_here : (c : After-deref) → IsStart c.args.self.now.out.items (c.args.place + 1) c.index-end.result.now
ends_here c =
    let (n, starts, inside) = c.requires in
    let count = starts.count in
    rw (get_or_read c.args.self.now.starts.items (c.args.place + 1) c.index-end.result.now (omega arith) c.index-end.ensures 0) (starts.each (c.args.place + 1) (omega arith))

pub slice_bounds-result-count : goal.slice_bounds-result-count
slice_bounds-result-count c = let d = (goal.at.slice_bounds-result-count c).After-deref in start_le_end _ _ _ _ (starts_here d) (ends_here d)

pub slice_bounds-result-start : goal.slice_bounds-result-start
slice_bounds-result-start c =
    let d = (goal.at.slice_bounds-result-start c).After-deref in
    let fits = (ends_here d).0 in
    omega (arith, start_le_end _ _ _ _ (starts_here d) (ends_here d))

pub returns : goal.returns
returns c =
    let d = (goal.at.returns c).After-deref in
    rw c.deref.ensures.value (sym (run_is _ _ _ _ (starts_here d) (ends_here d)))
