use Rattle.std.proofs.Common.{◌≡◌, map, drop}
use Rattle.clr_rules.specs.Fences.{crossed_record}
use Rattle.clr_book.proofs.book.Book.crossed_by.Given as goal

-- the records so far do not cross
abbrev pub invariant-loop-record : goal.invariant-loop-record
invariant-loop-record g l =
    crossed_record l.fn.self.register.net l.fn.self.register.steps (map (λ r. r.now) (drop l.record-index l.fn.records)) l.fn.from l.fn.to
    ≡ crossed_record l.fn.self.register.net l.fn.self.register.steps (map (λ r. r.now) l.fn.records) l.fn.from l.fn.to
