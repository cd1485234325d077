-- What a desk was given, one part after the other.
use Rattle.std.proofs.Common.{◌≡◌, ◌++◌, ℕ, IsTrue, List, [], ◌∷◌, Option, Result, refl, subst, sym}
use Rattle.sqlite.specs.Effect.{Database}
use Rattle.sqlite.specs.State.{State}
use Rattle.sqlite.specs.Tree.{Trees}
use Rattle.clr_rules.specs.Register.{Register}
use Rattle.clr_rules.specs.declared.command.Command.{Command}
use Rattle.clr_rules.specs.declared.reply.Reply.{Reply}
use Rattle.clr_desk.specs.Carrying.{CarriesOut}
use Rattle.clr_desk.specs.Given.{AreGiven, Given, LaterDesksSurvive, LeadsTo}
use Rattle.clr_desk.specs.Kept.{Keeps}
use Rattle.clr_desk.specs.Taking.{Taking, TakesOne}
use Rattle.clr_desk.specs.declared.desk.Desk.{Desk}
use Rattle.clr_desk.specs.declared.desk_fault.DeskFault.{DeskFault}
use Rattle.clr_desk.proofs.Keeping.{keeps_itself, keeps_on, one_keeps}
use Rattle.clr_desk.proofs.RunSteps.{stands}

module _ {K : Type 0} (kept : K → State) (takes : Taking K) where
  given_on : (R X S : Register) (k m l : K) (first later : List Given) → AreGiven takes R k first X m
      → AreGiven takes X m later S l → AreGiven takes R k (first ++ later) S l
  unfolding AreGiven
  given_on R X S k m l [] later (register, keeper) rest =
      subst (λ (r : Register). AreGiven takes r k later S l) register
      (subst (λ (x : K). AreGiven takes X x later S l) keeper rest)
  given_on R X S k m l (it ∷ first) later (between, middle, one, others) rest =
      (between, middle, one, given_on between X S middle m l first later others rest)

  pub leads_itself : (d : Desk K) → LeadsTo kept takes d d
  unfolding AreGiven
  leads_itself d = record {
    keeps = keeps_itself (kept d.store) d.book.register;
    given = [];
    are_given = (refl, refl);
  }

  -- one whose count of faults alone differs
  pub leads_unchanged : (old new : Desk K) → new.book.register ≡ old.book.register → new.store ≡ old.store → LeadsTo kept takes old new
  unfolding AreGiven
  leads_unchanged old new register store = record {
    keeps = subst (λ (k : K). Keeps (kept old.store) old.book.register (kept k) new.book.register) (sym store)
        (subst (λ (R : Register). Keeps (kept old.store) old.book.register (kept old.store) R) (sym register)
        (keeps_itself (kept old.store) old.book.register));
    given = [];
    are_given = (register, store);
  }

  pub leads_on : (before between after : Desk K) → LeadsTo kept takes before between
      → LeadsTo kept takes between after → LeadsTo kept takes before after
  leads_on before between after first later = record {
    keeps = keeps_on (kept before.store) (kept between.store) (kept after.store) before.book.register between.book.register after.book.register
        first.keeps later.keeps;
    given = first.given ++ later.given;
    are_given = given_on before.book.register between.book.register after.book.register before.store between.store after.store first.given later.given
        first.are_given later.are_given;
  }

  pub one_leads : (fails : DeskFault → Type 0) (old new : Desk K) (login : Option (List ℕ)) (q : Command) (result : Result Reply DeskFault)
      → CarriesOut kept fails old new q result → TakesOne takes old.book.register old.store login q result new.store → LeadsTo kept takes old new
  unfolding AreGiven
  one_leads fails old new login q result carried taken = record {
    keeps = one_keeps kept fails old new q result carried;
    given = record { login = login; command = q; result = result } ∷ [];
    are_given = (
      new.book.register,
      new.store,
      record {
        reply = carried.near;
        register = carried.changed;
        unchanged = carried.unchanged;
        taken = taken;
      },
      (refl, refl),
    );
  }

-- ---- what a crash leaves of a later desk

pub later_desks_survive : {K : Type 0} (kept : K → State) (takes : Taking K)
    → ((k : K) (trees : Trees) → IsTrue (State.is_open (kept k)) → State.may_leave (kept k) trees → trees ≡ Database.trees (State.committed (kept k)))
    → LaterDesksSurvive kept takes
later_desks_survive kept takes settled old new led clean shown saved good has trees may =
    stands (kept new.store) new.book.register trees (led.keeps.saved clean shown saved) (led.keeps.tables clean shown good has) (settled new.store trees shown may)
