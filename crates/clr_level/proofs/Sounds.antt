-- What a keeper holds of its journal stays true.
use Rattle.std.proofs.Common.{◌∙◌, ℕ, Bool, List, [], ◌∷◌, Ok, Err, Option, Result, inl, inr, sym, subst}
use Rattle.sqlite.specs.State.{State}
use Rattle.clr_rules.specs.Answer.{Answer}
use Rattle.clr_rules.specs.Register.{Register}
use Rattle.clr_rules.specs.declared.command.Command.{Command}
use Rattle.clr_rules.specs.declared.reply.Reply.{Reply}
use Rattle.clr_rules.specs.declared.reply.Reply.TheVariants.{Accepted, Shown, Refused, Added}
use Rattle.clr_book.specs.Own.{asked_answer}
use Rattle.clr_desk.specs.Given.{AreGiven, Given}
use Rattle.clr_desk.specs.Taking.{Came, Takes, TakesOne, Taking}
use Rattle.clr_desk.specs.declared.desk_fault.DeskFault.{DeskFault}
use Rattle.clr_level.specs.Journaling.{IsSound, Journals}
use Rattle.clr_level.specs.Levelling.{SoundIsKept}
use Rattle.clr_desk.specs.Placing.{Placing}
use Rattle.clr_level.specs.declared.keeper.Keeper.{Keeper}

module _ {K J C : Type 0} (takes : Taking K) (kept : K → State) (has_place : Placing) (shows : C → ℕ → Type 0)
    (text found : J → List ℕ) (may_leave : J → List ℕ → Type 0) (is_usable : J → Bool) where
  abbrev It : Keeper K J C → Option (List ℕ) → Command → Reply → Came → Keeper K J C → Type 0
  It = Journals takes kept has_place shows text found may_leave is_usable

  abbrev Sound : Keeper K J C → Type 0
  Sound it = IsSound text found may_leave it

  taken_sound : (old : Keeper K J C) (login : Option (List ℕ)) (q : Command) (reply : Reply) (came : Came) (new : Keeper K J C)
      → Takes It old login q reply came new → Sound old → Sound new
  taken_sound old login q (Shown view) came new (same, ok) sound = subst Sound (sym same) sound
  taken_sound old login q (Accepted card) came new taken sound = taken.sound sound
  taken_sound old login q (Refused refusal) came new taken sound = taken.sound sound
  taken_sound old login q (Added point) came new taken sound = taken.sound sound

  one_sound : (R : Register) (old : Keeper K J C) (login : Option (List ℕ)) (q : Command) (result : Result Reply DeskFault) (new : Keeper K J C)
      → TakesOne It R old login q result new
      → Sound old → Sound new
  one_sound R old login q (Ok reply) new taken sound = taken_sound old login q reply (Ok tt) new taken sound
  one_sound R old login q (Err fault) new (inl (memory, same)) sound = subst Sound (sym same) sound
  one_sound R old login q (Err fault) new (inr taken) sound = taken_sound old login q (Answer.reply (asked_answer R q)) (Err fault) new taken sound

  keeps_sound : (R S : Register) (old new : Keeper K J C) (given : List Given) → Sound old → AreGiven It R old given S new → Sound new
  unfolding AreGiven
  keeps_sound R S old new [] sound (register, keeper) = subst Sound (sym keeper) sound
  keeps_sound R S old new (it ∷ later) sound (between, middle, one, rest) =
      keeps_sound between S middle new later (one_sound R old it.login it.command it.result middle one.taken sound) rest

pub sound_is_kept : {K J C : Type 0} (takes : Taking K) (kept : K → State) (has_place : Placing) (shows : C → ℕ → Type 0) (text found : J → List ℕ)
    (may_leave : J → List ℕ → Type 0) (is_usable : J → Bool) → SoundIsKept K J C takes kept has_place shows text found may_leave is_usable
sound_is_kept takes kept has_place shows text found may_leave is_usable R S old new given sound are =
    keeps_sound takes kept has_place shows text found may_leave is_usable R S old new given sound are
