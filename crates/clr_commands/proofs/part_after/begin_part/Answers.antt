use Rattle.std.proofs.Common.{Err, Ok, inl, inr, refl}
use Rattle.clr_edge.specs.declared.fault.Fault.TheVariants.{Memory}
use Rattle.clr_commands.specs.PartAfter.{IsOtherNumber}
use Rattle.clr_commands.proofs.Faults.{beginning_plain, memory_plain, passed}
use Rattle.clr_commands.proofs.PartsAfter.{other_number_plain, err_and, part_told}
use Rattle.clr_commands.proofs.part_after.begin_part.Goals as goal

-- the number is another, or memory ran out
pub returns-in_err-expect_number-clause-begun : goal.returns-in_err-expect_number-clause-begun
returns-in_err-expect_number-clause-begun g c =
    inl (err_and _ _ (λ fault. IsOtherNumber c.args.place.now c.args.after.now fault) c.from_residual.ensures.1 c.in_err-expect_number.ensures.other, refl)

pub returns-in_err-expect_number-clause-faults : goal.returns-in_err-expect_number-clause-faults
returns-in_err-expect_number-clause-faults g c =
    passed _ _ c.from_residual.ensures.1 (other_number_plain c.args.place.now c.args.after.now _ c.in_err-expect_number.ensures.other)

pub returns-in_err-line-clause-begun : goal.returns-in_err-line-clause-begun
returns-in_err-line-clause-begun g c =
    inl (err_and _ Memory (λ fault. IsOtherNumber c.args.place.now c.args.after.now fault) c.from_residual-in_err-line.ensures.1 (inl refl), refl)

-- the part was not begun
pub returns-in_err-log-clause-begun : goal.returns-in_err-log-clause-begun
returns-in_err-log-clause-begun g c = inr (
  c.in_ok-expect_number.ensures.same,
  Err _,
  part_told c.args.place.now _ _ c.from_residual-in_err-log.ensures.1,
  inl (_, refl, c.in_err-log.ensures.fault, c.in_err-log.ensures.spares_journal),
)

pub returns-in_err-log-clause-faults : goal.returns-in_err-log-clause-faults
returns-in_err-log-clause-faults g c = passed _ _ c.from_residual-in_err-log.ensures.1 (beginning_plain _ c.in_err-log.ensures.fault)

-- it was
pub returns-clause-begun : goal.returns-clause-begun
returns-clause-begun g c = inr (
  c.in_ok-expect_number.ensures.same,
  Ok tt,
  (refl, c.in_ok-line.ensures.ok),
  inr (record {
    journal = c.in_ok-log.log;
    begun = c.begin_journal.new.self;
    middle = c.let_journal_go.new.self;
    begins = c.in_ok-log.ensures.begins_journal;
    gone = c.let_journal_go.ensures;
    line = c.in_ok-log.ensures.new;
    outcome = Ok tt;
    did = (refl, refl);
    result_is = refl;
  }),
)
