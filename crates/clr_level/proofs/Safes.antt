-- The lines that a register has stay safe.
use Rattle.std.proofs.Common.{◌≡◌, ◌∙◌, ℕ, Bool, true, List, [], ◌∷◌, ◌++◌, Ok, Err, Option, Result, inl, inr, refl, sym, subst, ap}
use Rattle.serde_json.specs.Data.{Data}
use Rattle.sqlite.specs.State.{State}
use Rattle.clr_rules.specs.Answer.{Answer}
use Rattle.clr_rules.specs.Good.{IsGood}
use Rattle.clr_rules.specs.Register.{Register}
use Rattle.clr_changes.specs.Deeds.{Deed, after_deed}
use Rattle.clr_journal.specs.Answered.{deed_reply}
use Rattle.clr_rules.specs.declared.command.Command.{Command}
use Rattle.clr_rules.specs.declared.reply.Reply.{Reply}
use Rattle.clr_rules.specs.declared.reply.Reply.TheVariants.{Accepted, Shown, Refused, Added}
use Rattle.clr_answer.specs.Decision.{is_accepted}
use Rattle.clr_rules.specs.declared.place.Place.{Place}
use Rattle.clr_journal.specs.Journals.{carried_out}
use Rattle.clr_chain.specs.Chain.{chain_text}
use Rattle.clr_chain.specs.Level.{IsRunOf, place_after}
use Rattle.clr_chain.proofs.LevelKept.{carried_out-append}
use Rattle.clr_book.specs.Own.{asked_answer}
use Rattle.clr_desk.specs.Given.{AreGiven, Given, IsAnswered}
use Rattle.clr_desk.specs.Placing.{Placing}
use Rattle.clr_desk.specs.Taking.{Takes, Taking, TakesOne}
use Rattle.clr_desk.specs.declared.desk_fault.DeskFault.{DeskFault}
use Rattle.clr_level.specs.Journaling.{IsSafe, Journals, Misses, has_line, unasked, unkept, unwritten}
use Rattle.clr_level.specs.Levelling.{IsKeptLevel}
use Rattle.clr_level.specs.Placing.{IsAt, StaysShown}
use Rattle.clr_level.specs.Restarting.{DueIsSafe, HasLines, IsSafeAt, SafeIsKept}
use Rattle.clr_level.specs.declared.keeper.Keeper.{Keeper}
use Rattle.clr_level.proofs.Appending.{durable_safe}
use Rattle.clr_level.proofs.Chains.{accepted_out, run_more}
use Rattle.clr_level.proofs.Levels.{level_is_kept, settled_says}
use Rattle.clr_level.proofs.Places.{at_moves, at_stays, shown_itself}

module _ {K J C : Type 0} (takes : Taking K) (kept : K → State) (has_place : Placing) (shows : C → ℕ → Type 0) (text found : J → List ℕ)
    (may_leave : J → List ℕ → Type 0) (is_usable : J → Bool) (first : Register) (start : Place) where
  abbrev It : Keeper K J C → Option (List ℕ) → Command → Reply → Result (Unit {0}) DeskFault → Keeper K J C → Type 0
  It = Journals takes kept has_place shows text found may_leave is_usable

  abbrev Level : Register → Keeper K J C → Type 0
  Level R it = IsKeptLevel kept has_place text first start R it

  abbrev Safe : Register → Keeper K J C → Type 0
  Safe R it = IsSafeAt kept has_place text may_leave first start R it

  -- a register stays where it is
  stays_safe : (R S : Register) (old new : Keeper K J C) → S ≡ R → StaysShown (kept old.keeper) (kept new.keeper)
      → ((front : List ℕ) → IsSafe text may_leave front old.journal → IsSafe text may_leave front new.journal) → Safe R old → Safe S new
  stays_safe R S old new same stays goes safe = record {
    had = safe.had;
    has = subst (λ (X : Register). HasLines first start safe.had X) (sym same) safe.has;
    placed = at_stays has_place (kept old.keeper) (kept new.keeper) (place_after start safe.had) safe.placed stays;
    safe = goes (chain_text start safe.had) safe.safe;
  }

  as_it_was : (R S : Register) (old new : Keeper K J C) → S ≡ R → new ≡ old → Safe R old → Safe S new
  as_it_was R S old new register same safe =
      subst (λ (X : Register). Safe X new) (sym register) (subst (λ (k : Keeper K J C). Safe R k) (sym same) safe)

  -- a register moves to the end
  moves_safe : (R S : Register) (old new : Keeper K J C) (login : Option (List ℕ)) (q : Command) (reply : Reply) → Level R old → Level S new → is_accepted reply ≡ true → has_line q reply ≡ true
      → It old login q reply (Ok tt) new → Safe S new
  moves_safe R S old new login q reply before level is has journals =
      let its = level.level in
      let end : new.at ≡ place_after start level.entries = level.end_is in
      record {
        had = level.entries;
        has = record { turns = its.turns; run = settled_says kept has_place text first S start new level (journals.noted refl has).1 };
        placed = subst (IsAt has_place (kept new.keeper)) end
            (at_moves has_place (kept old.keeper) (kept new.keeper) before.place new.at before.placed (journals.placed refl is));
        safe = durable_safe text may_leave (chain_text start level.entries) new.journal level.text_is (journals.durable refl is);
      }

  after_fault : (R S : Register) (old new : Keeper K J C) (login : Option (List ℕ)) (q : Command) (reply : Reply) (fault : DeskFault) → S ≡ R → It old login q reply (Err fault) new → Safe R old → Safe S new
  after_fault R S old new login q reply fault same journals safe = at (journals.missed fault refl)
    where
      at : Misses takes kept shows text found may_leave is_usable old login q reply fault new → Safe S new
      at (unwritten un cause keeper) =
          stays_safe R S old new same (subst (λ (k : K). StaysShown (kept old.keeper) (kept k)) (sym keeper) (shown_itself (kept old.keeper))) journals.safe safe
      at (unkept noted last durable taken stays) = stays_safe R S old new same stays journals.safe safe
      at (unasked none was taken stays) = stays_safe R S old new same stays journals.safe safe

  missed : (R S : Register) (old new : Keeper K J C) (login : Option (List ℕ)) (q : Command) (reply : Reply) (fault : DeskFault) → S ≡ R → Takes It old login q reply (Err fault) new → Safe R old → Safe S new
  missed R S old new login q (Shown view) fault same taken safe = as_it_was R S old new same taken.0 safe
  missed R S old new login q (Accepted card) fault same taken safe = after_fault R S old new login q (Accepted card) fault same taken safe
  missed R S old new login q (Refused refusal) fault same taken safe = after_fault R S old new login q (Refused refusal) fault same taken safe
  missed R S old new login q (Added point) fault same taken safe = after_fault R S old new login q (Added point) fault same taken safe

  one_safe : (R S : Register) (old new : Keeper K J C) (login : Option (List ℕ)) (q : Command) (result : Result Reply DeskFault) → Level R old → Level S new → IsAnswered It R old login q result S new
      → Safe R old → Safe S new
  one_safe R S old new login q (Ok (Shown view)) before level is safe = as_it_was R S old new (is.unchanged refl) is.taken.0 safe
  one_safe R S old new login q (Ok (Refused refusal)) before level is safe =
      stays_safe R S old new (is.unchanged refl) (is.taken.stays refl refl) is.taken.safe safe
  one_safe R S old new login q (Ok (Accepted card)) before level is safe = moves_safe R S old new login q (Accepted card) before level refl refl is.taken
  one_safe R S old new login q (Ok (Added point)) before level is safe = moves_safe R S old new login q (Added point) before level refl refl is.taken
  one_safe R S old new login q (Err fault) before level is safe = at is.taken
    where
      at : TakesOne It R old login q (Err fault) new → Safe S new
      at (inl (memory, same)) = as_it_was R S old new (is.unchanged refl) same safe
      at (inr taken) = missed R S old new login q (Answer.reply (asked_answer R q)) fault (is.unchanged refl) taken safe

  one_level : (R S : Register) (old new : Keeper K J C) (given : Given) → IsGood first → Level R old → AreGiven It R old (given ∷ []) S new → Level S new
  one_level R S old new given good level are =
      level_is_kept takes kept has_place shows text found may_leave is_usable first R S start old new (given ∷ []) good level are

  keeps_safe : (R S : Register) (old new : Keeper K J C) (given : List Given) → IsGood first → Level R old → Safe R old
      → AreGiven It R old given S new → Safe S new
  unfolding AreGiven
  keeps_safe R S old new [] good level safe (register, keeper) = as_it_was R S old new register keeper safe
  keeps_safe R S old new (it ∷ later) good level safe (between, middle, one, rest) =
      let next : Level between middle = one_level R between old middle it good level (between, middle, one, (refl, refl)) in
      keeps_safe between S middle new later good next (one_safe R between old middle it.login it.command it.result level next one safe) rest

pub safe_is_kept : {K J C : Type 0} (takes : Taking K) (kept : K → State) (has_place : Placing) (shows : C → ℕ → Type 0) (text found : J → List ℕ)
    (may_leave : J → List ℕ → Type 0) (is_usable : J → Bool) → SafeIsKept K J C takes kept has_place shows text found may_leave is_usable
safe_is_kept takes kept has_place shows text found may_leave is_usable first R S start old new given good level safe are =
    keeps_safe takes kept has_place shows text found may_leave is_usable first start R S old new given good level safe are

pub due_is_safe : {K J C : Type 0} (kept : K → State) (has_place : Placing) (text : J → List ℕ) (may_leave : J → List ℕ → Type 0)
    → DueIsSafe K J C kept has_place text may_leave
due_is_safe kept has_place text may_leave first R start it level due durable =
    let its = level.level in
    let told : Data = deed_reply R due.deed in
    let pairs : carried_out level.entries ≡ carried_out its.had ++ (due.deed, told) ∷ [] =
    ap carried_out its.all ∙ carried_out-append its.had its.more its.kept
    ∙ ap (λ (ps : List (Deed × Data)). carried_out its.had ++ ps) (ap carried_out due.is ∙ accepted_out due.idle due.receipt due.deed told due.none due.accepted) in (
      record {
        turns = its.turns;
        run = subst (λ (ps : List (Deed × Data)). IsRunOf first ps (after_deed R due.deed)) (sym pairs) (run_more first R (carried_out its.had) due.deed its.run);
      },
      level.end_is,
      durable_safe text may_leave (chain_text start level.entries) it.journal level.text_is durable,
    )
