-- What is kept by no command, by one, and by two parts of a run one after the other.
use Rattle.std.proofs.Common.{◌≡◌, ⊎_elim, inl, inr, arith, Result, Ok, Err, refl, sym, subst}
use Rattle.sqlite.specs.Effect.{Database}
use Rattle.sqlite.specs.State.{State}
use Rattle.clr_rules.specs.Good.{IsGood}
use Rattle.clr_rules.specs.Register.{Register}
use Rattle.clr_rules.specs.declared.command.Command.{Command}
use Rattle.clr_rules.specs.declared.reply.Reply.{Reply}
use Rattle.clr_rules.proofs.keeps.EveryKind.{commands_keep_good}
use Rattle.clr_load.specs.Stored.{HasTables}
use Rattle.clr_load.specs.Tables.{tables_of}
use Rattle.clr_load.specs.TypedRows.{IsTyped}
use Rattle.clr_load.proofs.TypedEdits.{commands_keep_typed}
use Rattle.clr_desk.specs.Carrying.{CarriesOut}
use Rattle.clr_desk.specs.Kept.{Keeps}
use Rattle.clr_desk.specs.declared.desk.Desk.{Desk}
use Rattle.clr_desk.specs.declared.desk_fault.DeskFault.{DeskFault}

pub keeps_itself : (s : State) (R : Register) → Keeps s R s R
keeps_itself s R = record {
  good = λ good. good;
  typed = λ good typed. typed;
  clean = λ clean. clean;
  was_open = λ clean shown. shown;
  tables = λ clean shown good has. has;
  saved = λ clean shown saved. saved;
  counts = omega arith;
  closes = λ clean open_before. inl open_before;
}

pub keeps_on : (s t u : State) (R S T : Register) → Keeps s R t S → Keeps t S u T → Keeps s R u T
keeps_on s t u R S T first later = record {
  good = λ good. later.good (first.good good);
  typed = λ good typed. later.typed (first.good good) (first.typed good typed);
  clean = λ clean. first.clean (later.clean clean);
  was_open = λ clean shown. first.was_open (later.clean clean) (later.was_open clean shown);
  tables = λ clean shown good has.
      later.tables clean shown (first.good good) (first.tables (later.clean clean) (later.was_open clean shown) good has);
  saved = λ clean shown saved. later.saved clean shown (first.saved (later.clean clean) (later.was_open clean shown) saved);
  counts = omega (arith, first.counts, later.counts);
  closes = λ clean before.
      ⊎_elim
      (λ between. ⊎_elim (λ after. inl after) (λ more. inr (omega (arith, first.counts, more))) (later.closes clean between))
      (λ more. inr (omega (arith, later.counts, more))) (first.closes (later.clean clean) before);
}

-- one command, whose fault leaves what the open store shows
pub one_keeps : {K : Type 0} (kept : K → State) (fails : DeskFault → Type 0) (old new : Desk K) (q : Command) (result : Result Reply DeskFault) → CarriesOut kept fails old new q result
    → Keeps (kept old.store) old.book.register (kept new.store) new.book.register
one_keeps kept fails old new q (Ok reply) carried = record {
  good = λ good. subst IsGood (sym (carried.register good)) (commands_keep_good old.book.register q good);
  typed = λ good typed. subst IsTyped (sym (carried.register good)) (commands_keep_typed old.book.register q typed carried.typed);
  clean = λ clean. omega (arith, carried.survives.clean);
  was_open = carried.was_open;
  tables = λ clean shown good has. carried.tables clean good has;
  saved = λ clean shown saved. carried.saved clean saved;
  counts = carried.survives.counts;
  closes = carried.survives.closes;
}
one_keeps kept fails old new q (Err fault) carried = record {
  good = λ good. subst IsGood (sym (carried.unchanged refl)) good;
  typed = λ good typed. subst IsTyped (sym (carried.unchanged refl)) typed;
  clean = λ clean. omega (arith, carried.survives.clean);
  was_open = carried.was_open;
  tables = λ clean shown good has.
      subst (λ (db : Database). HasTables db (tables_of new.book.register)) (sym (carried.unwritten refl clean shown))
      (subst (λ (X : Register). HasTables (kept old.store).now (tables_of X)) (sym (carried.unchanged refl)) has);
  saved = carried.still_saved;
  counts = carried.survives.counts;
  closes = carried.survives.closes;
}
