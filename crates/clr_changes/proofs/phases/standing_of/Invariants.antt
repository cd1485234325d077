use Rattle.std.proofs.Common.{◌≡◌, ◌++◌, drop, filter, map}
use Rattle.clr_rules.specs.Records.{is_standing}
use Rattle.clr_changes.proofs.phases.standing_of.Given as goal

-- the records so far, and those that are left, are all
abbrev pub invariant-loop-record : goal.invariant-loop-record
invariant-loop-record l =
    map (λ r. r.now) l.found.items ++ filter (λ r. is_standing r.phase) (map (λ r. r.now) (drop l.record-index l.fn.records)) ≡ filter (λ r. is_standing r.phase) (map (λ r. r.now) l.fn.records)
