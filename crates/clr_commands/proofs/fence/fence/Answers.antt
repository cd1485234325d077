use Rattle.clr_commands.proofs.fence.fence.Goals as goal

-- the files are those at the paths
pub returns-clause-answer : goal.returns-clause-answer
returns-clause-answer g c = record {
  answer = rw (← c.at-sections.ensures, ← c.at-points.ensures, ← c.as_slice.ensures.value) c.fence_of_files.ensures.answer;
  sections_cause = λ is. (c.at-sections.result, c.fence_of_files.new.sections, c.at-sections.ensures, c.fence_of_files.ensures.sections_cause is);
  points_cause = λ is. (c.at-points.result, c.fence_of_files.new.points, c.at-points.ensures, c.fence_of_files.ensures.points_cause is);
}
