-- A register that was let go, by what its desk was ended as.
use Rattle.std.proofs.Common.{◌≡◌, refl, subst, Option, None, Some}
use Rattle.sqlite.specs.Held.{Held}
use Rattle.clr_edge.specs.Visit.{Closed, Ending}
use Rattle.clr_keeping.specs.Keeping.{IsEnded, IsLetGo}
use Rattle.clr_keeping.specs.TakenUp.{Logs}
use Rattle.clr_keeping.specs.declared.taking_up.Opened.{Opened}
use Rattle.clr_keeping.specs.declared.taking_up.Opened.TheVariants.{Logged, Plain}

module _ {M J C T : Type 0} (ends : Ending M T) (logs : Logs M J C) (database : Held T) (closed : Closed) where
  alone : (opened : Opened (Held T) J C) (old new : M) → IsEnded logs.log opened database None → ends old database closed new
      → IsLetGo ends logs opened closed old new
  alone (Plain desk) old new ended gone = (database, old, (refl, ended), gone)
  alone (Logged desk) old new ended gone = absurd ended

  beside : (opened : Opened (Held T) J C) (journal : J) (old middle new : M) → IsEnded logs.log opened database (Some journal)
      → logs.steps.lets_journal_go old journal middle → ends middle database closed new → IsLetGo ends logs opened closed old new
  beside (Plain desk) journal old middle new ended goes gone = absurd ended
  beside (Logged desk) journal old middle new (kept, left) goes gone = (database, middle, (journal, left, goes, kept), gone)

  -- its database is closed as it was left
  pub gone_alone : (opened : Opened (Held T) J C) (found : Option J) (old new : M) → found ≡ None → IsEnded logs.log opened database found
      → ends old database closed new → IsLetGo ends logs opened closed old new
  gone_alone opened found old new none ended gone =
      let P : Option J → Type 0 = λ o. IsEnded logs.log opened database o in alone opened old new (subst P none ended) gone

  -- its journal was let go first
  pub gone_beside : (opened : Opened (Held T) J C) (found : Option J) (journal : J) (old middle new : M) → found ≡ Some journal
      → IsEnded logs.log opened database found → logs.steps.lets_journal_go old journal middle → ends middle database closed new
      → IsLetGo ends logs opened closed old new
  gone_beside opened found journal old middle new some ended goes gone =
      let P : Option J → Type 0 = λ o. IsEnded logs.log opened database o in beside opened journal old middle new (subst P some ended) goes gone
