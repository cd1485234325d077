-- A desk that is rolled forward stays fit: good and staffed.
use Rattle.std.proofs.Common.{◌∙◌, ℕ, List, [], ◌∷◌, Ok, Err, Option, Result, inl, inr, refl, subst, sym}
use Rattle.std.specs.Prelude.{⊤}
use Rattle.sqlite.specs.State.{State}
use Rattle.clr_book.specs.Book.{Shelved}
use Rattle.clr_changes.specs.Deeds.{Deed, after_deed, after_deeds}
use Rattle.clr_changes.proofs.Deeds.{deed_keeps_good, deeds_keep_good}
use Rattle.clr_rules.specs.declared.place.Place.{Place}
use Rattle.clr_rules.specs.Fit.{IsFit}
use Rattle.clr_rules.specs.Register.{Register}
use Rattle.clr_rules.specs.Staffed.{IsStaffed}
use Rattle.clr_rules.specs.declared.command.Command.{Command}
use Rattle.clr_rules.specs.declared.reply.Reply.{Reply}
use Rattle.clr_rules.proofs.keeps.EveryKind.{commands_keep_good}
use Rattle.clr_rules.proofs.staffed.EveryKind.{commands_keep_staffed}
use Rattle.clr_desk.specs.Given.{AreGiven, Given, IsAnswered}
use Rattle.clr_desk.specs.Placing.{Placing}
use Rattle.clr_desk.specs.Renewing.{ComesTo as Renews}
use Rattle.clr_desk.specs.Taking.{Came, Taking}
use Rattle.clr_desk.specs.declared.desk.Desk.{Desk}
use Rattle.clr_desk.specs.declared.desk_fault.DeskFault.{DeskFault}
use Rattle.clr_desk.proofs.OneCommand.{near_after_is_after}
use Rattle.clr_level.specs.Forward.{GoesThrough, RollsTo}

deed_staffed : (R : Register) (deed : Deed) → IsFit R → IsStaffed (after_deed R deed)
unfolding after_deeds
deed_staffed R deed fit = deeds_keep_good.staffed R (deed ∷ []) fit.0 fit.1

deed_fit : (R : Register) (deed : Deed) → IsFit R → IsFit (after_deed R deed)
deed_fit R deed fit = (deed_keeps_good R deed fit.0, deed_staffed R deed fit)

module _ {K : Type 0} (kept : K → State) (takes : Taking K) (has_place : Placing) where
  one_fit : (R S : Register) (k l : K) (login : Option (List ℕ)) (q : Command) (result : Result Reply DeskFault)
      → IsAnswered takes R k login q result S l → IsFit R → IsFit S
  one_fit R S k l login q (Ok reply) is fit =
      subst IsFit (sym (is.register ∙ near_after_is_after R q fit.0)) (commands_keep_good R q fit.0, commands_keep_staffed R q fit.0 fit.1)
  one_fit R S k l login q (Err fault) is fit = subst IsFit (sym (is.unchanged refl)) fit

  given_fit : (given : List Given) (R S : Register) (k l : K) → AreGiven takes R k given S l → IsFit R → IsFit S
  unfolding AreGiven
  given_fit [] R S k l (same, keeper) fit = subst IsFit (sym same) fit
  given_fit (it ∷ later) R S k l (between, middle, one, rest) fit =
      given_fit later between S middle l rest (one_fit R between k middle it.login it.command it.result one fit)

  renewed_fit : (old new : Desk K) (deed : Deed) (came : Came) (place : Place)
      → Renews kept has_place (λ fault. ⊤) ⊤ old new (after_deed old.book.register deed) place came
      → IsFit old.book.register → IsFit new.book.register
  renewed_fit old new deed (Ok done) place comes fit = subst IsFit (sym (comes.register fit.0)) (deed_fit old.book.register deed fit)
  renewed_fit old new deed (Err fault) place comes fit = subst (λ (b : Shelved). IsFit b.register) (sym comes.unchanged) fit

  through_fit : (through : List (Desk K)) (old new : Desk K) → GoesThrough kept takes has_place old through new
      → IsFit old.book.register → IsFit new.book.register
  unfolding GoesThrough
  through_fit [] old new same fit = subst (λ (d : Desk K). IsFit d.book.register) (sym same) fit
  through_fit (next ∷ later) old new (inl led, rest) fit =
      through_fit later next new rest
      (given_fit led.given old.book.register next.book.register old.store next.store led.are_given fit)
  through_fit (next ∷ later) old new (inr renewed, rest) fit =
      through_fit later next new rest (renewed_fit old next renewed.deed renewed.came renewed.place renewed.comes fit)

  pub rolls_fit : (old new : Desk K) → RollsTo kept takes has_place old new → IsFit old.book.register → IsFit new.book.register
  rolls_fit old new rolls fit =
      subst (λ (b : Shelved). IsFit b.register) (sym rolls.book) (through_fit rolls.led.0 old rolls.before rolls.led.1 fit)
