use Rattle.std.proofs.Common.{rules, ◌∙◌, refl}
use Rattle.clr_stream.proofs.Writing.{Appends-more}
use Rattle.clr_stream.proofs.whole.write_whole.Goals as goal

pub loop-written-preserved : goal.loop-written-preserved
loop-written-preserved g c = record {
  inside = search rules;
  front = Appends-more _ _ _ _ _ _ _ refl c.loop-written.invariant.front c.in-Ok.ensures.write.contents;
  failures = c.in-Ok.ensures.write.failures ∙ c.loop-written.invariant.failures;
  stalls = search rules;
}
