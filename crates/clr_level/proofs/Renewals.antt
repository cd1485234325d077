-- An update or an archive of a register with a journal: its line, and what is carried out with it.
use Rattle.std.proofs.Common.{◌≡◌, ◌∙◌, ℕ, Bool, true, List, [], ◌∷◌, ◌++◌, Ok, Err, IfErr, OnErr, OnOk, inl, inr, refl, ap, sym, subst, append-nil}
use Rattle.serde_json.specs.Data.{Data}
use Rattle.sqlite.specs.State.{HasCleanDisk, State, Survives}
use Rattle.sqlite.specs.Tree.{Trees}
use Rattle.sqlite.proofs.StateLemmas.{survives_weaker}
use Rattle.sqlite_disk.specs.Disk.{Only}
use Rattle.clr_book.specs.Book.{Shelved}
use Rattle.clr_changes.specs.Deeds.{Deed, after_deed}
use Rattle.clr_rules.specs.Good.{IsGood}
use Rattle.clr_rules.specs.Register.{Register}
use Rattle.clr_rules.specs.declared.place.Place.{Place}
use Rattle.clr_load.specs.Tables.{tables_of}
use Rattle.clr_load.specs.Contract.{IsSaved}
use Rattle.clr_load.specs.Stored.{HasTables}
use Rattle.clr_load.specs.declared.fault.StoreFault.TheVariants.{Sql, WrongVersion, BadRow, OtherTables, NoMemory as NoMemoryThere}
use Rattle.clr_journal.specs.Answered.{deed_reply}
use Rattle.clr_journal.specs.Journals.{carried_out, in_turn}
use Rattle.clr_journal.specs.Line.{Entry, carried, done, is_accepted}
use Rattle.clr_chain.specs.Chain.{chain_text}
use Rattle.clr_chain.specs.First.{first_turn_at}
use Rattle.clr_chain.specs.Laws.{line_at}
use Rattle.clr_chain.specs.Level.{place_after}
use Rattle.clr_desk.specs.Faults.{IsOfKeeper}
use Rattle.clr_desk.specs.Kept.{Keeps}
use Rattle.clr_desk.specs.Placing.{Placing}
use Rattle.clr_desk.specs.Taking.{Came, Taking}
use Rattle.clr_desk.specs.declared.desk.Desk.{Desk}
use Rattle.clr_desk.specs.declared.desk_fault.DeskFault.{DeskFault}
use Rattle.clr_desk.specs.declared.desk_fault.DeskFault.TheVariants.{Journal, NoMemory, Store}
use Rattle.clr_desk.proofs.Keeping.{keeps_itself}
use Rattle.clr_level.specs.Carrying.{AreDoneAt}
use Rattle.clr_level.specs.Forward.{IsNoCommand}
use Rattle.clr_level.specs.Journaling.{DoubtHasCause, FailsToo, HasText, IsBeside, IsDeedNoted, IsDeedUnwritten, IsDurable, IsOfJournal, IsSafe, IsSound, IsWithdrawn, StaySafe, end_said, said, with_link}
use Rattle.clr_level.specs.Levelling.{IsKeptLevel, IsLeft}
use Rattle.clr_level.specs.Placing.{ComesTo, IsAt, StaysShown}
use Rattle.clr_level.specs.Renewing.{AreDoneSafely, CarriesBelow, HasSafeLine, JournalsDeed, MissesDeed, RenewalsKeepLevel, RenewalsKeepSafe, RenewsAt, unkept, unwritten}
use Rattle.clr_level.specs.Restarting.{HasLines, IsSafeAt}
use Rattle.clr_level.specs.declared.keeper.Keeper.{Keeper}
use Rattle.clr_level.specs.declared.last.Last.{Last}
use Rattle.clr_level.specs.declared.last.Last.TheVariants.{Doubtful, Settled}
use Rattle.clr_level.proofs.Appending.{durable_safe}
use Rattle.clr_level.proofs.Chains.{nothing_out}
use Rattle.clr_level.proofs.Crashes.{left_itself}
use Rattle.clr_level.proofs.Deeds.{goes_keep}
use Rattle.clr_level.proofs.Forwarding.{still_good}
use Rattle.clr_level.proofs.Levels.{IsSaid, IsUpTo, command_more, had_more, kept_level, said_level, unnoted_level}
use Rattle.clr_level.proofs.Places.{at_moves, at_stays, shown_itself}

-- ---- level, with the line of a deed

module _ {K J C : Type 0} (kept : K → State) (has_place : Placing) (fails : DeskFault → Type 0) (shows : C → ℕ → Type 0) (text found : J → List ℕ)
    (may_leave : J → List ℕ → Type 0) (is_usable : J → Bool) (first : Register) (start : Place) (R : Register) (deed : Deed) (reply : deed_reply R deed ≡ done) (old new : Keeper K J C) where
  abbrev Level : Register → Keeper K J C → Type 0
  Level S it = IsKeptLevel kept has_place text first start S it

  accepted : is_accepted (deed_reply R deed) ≡ true
  accepted = ap is_accepted reply

  -- it is the line that the register gives
  deed_up : (level : IsKeptLevel kept has_place text first start R old) → (noted : IsDeedNoted shows text old deed new)
      → (all : IsSaid first start level.place R (said text old) (end_said old))
      → IsUpTo first start level.place R (text new.journal) new.at (all.more ++ line_at R noted.receipt deed ∷ [])
  deed_up level noted all =
      let entry : Entry = carried noted.receipt deed done in
      let up = command_more first start level.place R (said text old) (end_said old) all.more noted.receipt deed done all.up noted.number in
      subst (λ (d : Data). IsUpTo first start level.place R (text new.journal) new.at (all.more ++ carried noted.receipt deed d ∷ [])) (sym reply)
      (subst (λ (t : List ℕ). IsUpTo first start level.place R t new.at (all.more ++ entry ∷ [])) (sym noted.text_is)
      (subst (λ (p : Place). IsUpTo first start level.place R (with_link (said text old) (end_said old).sum entry) p (all.more ++ entry ∷ [])) (sym noted.end_is) up))

  -- it is carried out
  deed_had : (S : Register) → Level R old → IsDeedNoted shows text old deed new → S ≡ after_deed R deed
      → IsUpTo first start new.at S (text new.journal) new.at []
  deed_had S level noted is =
      let all = said_level kept has_place text first start R old noted.certain level in
      had_more first start level.place R (text new.journal) new.at all.more noted.receipt deed S (deed_up level noted all) all.none accepted is

  pub done_level : (S : Register) → Level R old → IsDeedNoted shows text old deed new → new.last ≡ Settled → S ≡ after_deed R deed
      → ComesTo has_place (kept old.keeper) (kept new.keeper) new.at → Level S new
  done_level S level noted settled is comes =
      kept_level kept has_place text first start S new new.at [] (deed_had S level noted is)
      (at_moves has_place (kept old.keeper) (kept new.keeper) level.place new.at level.placed comes)
      (subst (λ (l : Last). IsLeft l S []) (sym settled) nothing_out)

  -- or it is due
  due_level : Level R old → IsDeedNoted shows text old deed new → new.last ≡ Doubtful → StaysShown (kept old.keeper) (kept new.keeper) → Level R new
  due_level level noted doubtful stays =
      let all = said_level kept has_place text first start R old noted.certain level in
      let more : List Entry = all.more ++ line_at R noted.receipt deed ∷ [] in
      kept_level kept has_place text first start R new level.place more (deed_up level noted all)
      (at_stays has_place (kept old.keeper) (kept new.keeper) level.place level.placed stays)
      (subst (λ (l : Last). IsLeft l R more) (sym doubtful)
      (inr (record { idle = all.more; receipt = noted.receipt; deed = deed; is = refl; none = all.none; accepted = accepted })))

  pub missed_level : (fault : DeskFault) → Level R old → MissesDeed kept fails shows text found may_leave is_usable old deed fault new → Level R new
  missed_level fault level (unwritten (inl none) cause same) = unnoted_level kept has_place text first start R old new same none.unnoted level
  missed_level fault level (unwritten (inr line) cause same) =
      due_level level line.noted line.doubtful (subst (λ (k : K). StaysShown (kept old.keeper) (kept k)) (sym same) (shown_itself (kept old.keeper)))
  missed_level fault level (unkept noted doubtful durable of stays) = due_level level noted doubtful stays

  -- ---- what is safe

  pub line_safe : Level R old → IsDeedNoted shows text old deed new → IsDurable text may_leave new.journal
      → HasSafeLine text may_leave first start (after_deed R deed) new
  line_safe level noted durable =
      let up = deed_had (after_deed R deed) level noted refl in
      let none : up.had ++ [] ≡ up.had = append-nil up.had in
      record {
        had = up.had;
        has = record { turns = ap (in_turn (first_turn_at start)) (sym none) ∙ up.turns; run = up.run };
        end_is = up.is_at;
        safe = durable_safe text may_leave (chain_text start up.had) new.journal (up.text_is ∙ ap (chain_text start) none) durable;
      }

  pub done_safe : (S : Register) → Level R old → IsDeedNoted shows text old deed new → IsDurable text may_leave new.journal → S ≡ after_deed R deed
      → ComesTo has_place (kept old.keeper) (kept new.keeper) new.at → IsSafeAt kept has_place text may_leave first start S new
  done_safe S level noted durable is comes =
      let line = line_safe level noted durable in
      record {
        had = line.had;
        has = subst (λ (X : Register). HasLines first start line.had X) (sym is) line.has;
        placed = subst (IsAt has_place (kept new.keeper)) line.end_is
            (at_moves has_place (kept old.keeper) (kept new.keeper) level.place new.at level.placed comes);
        safe = line.safe;
      }

  pub missed_safe : StaysShown (kept old.keeper) (kept new.keeper) → StaySafe text may_leave old.journal new.journal
      → IsSafeAt kept has_place text may_leave first start R old → IsSafeAt kept has_place text may_leave first start R new
  missed_safe stays goes safe = record {
    had = safe.had;
    has = safe.has;
    placed = at_stays has_place (kept old.keeper) (kept new.keeper) (place_after start safe.had) safe.placed stays;
    safe = goes (chain_text start safe.had) safe.safe;
  }

module _ {K J C : Type 0} (kept : K → State) (has_place : Placing) (fails : DeskFault → Type 0) (shows : C → ℕ → Type 0) (text found : J → List ℕ)
    (may_leave : J → List ℕ → Type 0) (is_usable : J → Bool) (old new : Desk (Keeper K J C)) (deed : Deed)
    (reply : deed_reply old.book.register deed ≡ done) where
  abbrev R : Register
  R = old.book.register

  pub renewals_keep_level : (came : Came) → RenewsAt kept has_place fails shows text found may_leave is_usable old new deed came
      → RenewalsKeepLevel kept has_place text old new
  renewals_keep_level (Ok nothing) renews first start good level =
      let fine : IsGood R = still_good first R (carried_out level.level.had) good level.level.run in
      done_level kept has_place fails shows text found may_leave is_usable first start R deed reply old.store new.store new.book.register level renews.journals.noted.0
      renews.journals.noted.1 (renews.register fine) (renews.placed fine)
  renewals_keep_level (Err fault) renews first start good level =
      subst (λ (X : Register). IsKeptLevel kept has_place text first start X new.store) (sym renews.unchanged)
      (missed_level kept has_place fails shows text found may_leave is_usable first start R deed reply old.store new.store fault level renews.journals.missed)

  pub renewals_keep_safe : (came : Came) → RenewsAt kept has_place fails shows text found may_leave is_usable old new deed came
      → RenewalsKeepSafe kept has_place text may_leave old new
  renewals_keep_safe (Ok nothing) renews first start good level safe =
      let fine : IsGood R = still_good first R (carried_out level.level.had) good level.level.run in
      done_safe kept has_place fails shows text found may_leave is_usable first start R deed reply old.store new.store new.book.register level renews.journals.noted.0
      renews.journals.durable (renews.register fine) (renews.placed fine)
  renewals_keep_safe (Err fault) renews first start good level safe =
      subst (λ (X : Register). IsSafeAt kept has_place text may_leave first start X new.store) (sym renews.unchanged)
      (missed_safe kept has_place fails shows text found may_leave is_usable first start R deed reply old.store new.store renews.stays renews.journals.safe safe)

-- ---- faults

too : (fails : DeskFault → Type 0) (fault : DeskFault) → IsOfKeeper fails fault → IsOfKeeper (FailsToo fails) fault
too fails (Store Sql) of = inr of
too fails (Store (WrongVersion n)) of = inr of
too fails (Store (BadRow name)) of = inr of
too fails (Store OtherTables) of = inr of
too fails (Store NoMemoryThere) of = absurd of
too fails Journal of = inr of
too fails NoMemory of = tt

of_journal : (fails : DeskFault → Type 0) (fault : DeskFault) → IsOfJournal fault → IsOfKeeper (FailsToo fails) fault
of_journal fails fault (inl is) = subst (IsOfKeeper (FailsToo fails)) (sym is) (inl refl)
of_journal fails fault (inr is) = subst (IsOfKeeper (FailsToo fails)) (sym is) tt

-- ---- a desk whose line was noted

-- its line was written, and is durable
pub record HasDurableLine {K J C : Type 0} (shows : C → ℕ → Type 0) (text found : J → List ℕ) (may_leave : J → List ℕ → Type 0)
    (old : Keeper K J C) (deed : Deed) (new : Keeper K J C) : Type 0 where
  pub keeper : new.keeper ≡ old.keeper
  pub noted : IsDeedNoted shows text old deed new
  pub settled : new.last ≡ Settled
  pub durable : IsDurable text may_leave new.journal
  pub sound : IsSound text found may_leave old → IsSound text found may_leave new
  pub safe : StaySafe text may_leave old.journal new.journal
  pub withdrawn : IsWithdrawn text may_leave old new

-- or it was not written, or not synced
pub record IsNotNoted {K J C : Type 0} (shows : C → ℕ → Type 0) (text found : J → List ℕ) (may_leave : J → List ℕ → Type 0) (is_usable : J → Bool)
    (old : Keeper K J C) (deed : Deed) (fault : DeskFault) (new : Keeper K J C) : Type 0 where
  pub keeper : new.keeper ≡ old.keeper
  pub unwritten : IsDeedUnwritten shows text found may_leave old deed fault new
  pub cause : DoubtHasCause is_usable old new
  pub sound : IsSound text found may_leave old → IsSound text found may_leave new
  pub safe : StaySafe text may_leave old.journal new.journal
  pub withdrawn : IsWithdrawn text may_leave old new

pub between : {A : Type 0} (P : A → A → Type 0) (a b c d : A) → a ≡ c → d ≡ b → P a b → P c d
between {A} P a b c d old new holds = subst (λ (x : A). P x d) old (subst (λ (x : A). P a x) (sym new) holds)

-- where the line was not written or not synced, nothing else was done
module _ {K J C : Type 0} (kept : K → State) (has_place : Placing) (fails : DeskFault → Type 0) (shows : C → ℕ → Type 0) (text found : J → List ℕ)
    (may_leave : J → List ℕ → Type 0) (is_usable : J → Bool) (old new : Desk (Keeper K J C)) (deed : Deed) where
  pub not_noted : (fault : DeskFault) → new.book ≡ old.book
      → IsNotNoted shows text found may_leave is_usable old.store deed fault new.store → IsOfJournal fault
      → RenewsAt kept has_place fails shows text found may_leave is_usable old new deed (Err fault)
  not_noted fault book lacks of = record {
    register = λ good. tt;
    placed = λ good. tt;
    tables = tt;
    saved = λ clean no. tt;
    unchanged = ap (λ (b : Shelved). b.register) book;
    stays = subst (λ (k : K). StaysShown (kept old.store.keeper) (kept k)) (sym lacks.keeper) (shown_itself (kept old.store.keeper));
    journals = record {
      noted = tt;
      durable = tt;
      missed = unwritten lacks.unwritten lacks.cause lacks.keeper;
      sound = lacks.sound;
      safe = lacks.safe;
      withdrawn = lacks.withdrawn;
    };
    keeps =
        subst (λ (k : K). Keeps (kept old.store.keeper) old.book.register (kept k) new.book.register) (sym lacks.keeper)
        (subst (λ (b : Shelved). Keeps (kept old.store.keeper) old.book.register (kept old.store.keeper) b.register) (sym book)
        (keeps_itself (kept old.store.keeper) old.book.register));
    crash =
        subst
        (λ (k : K). Survives (kept old.store.keeper) (kept k)
        (AreDoneSafely kept has_place text may_leave old.book.register old.store deed new.store)) (sym lacks.keeper)
        (left_itself (kept old.store.keeper) (AreDoneSafely kept has_place text may_leave old.book.register old.store deed new.store));
    fault = of_journal fails fault of;
  }

-- and where it is durable, the deed was carried out below
module _ {K J C : Type 0} (kept : K → State) (takes : Taking K) (has_place : Placing) (fails : DeskFault → Type 0) (shows : C → ℕ → Type 0)
    (text found : J → List ℕ) (may_leave : J → List ℕ → Type 0) (is_usable : J → Bool) (old mid new : Desk (Keeper K J C)) (deed : Deed)
    (reply : deed_reply old.book.register deed ≡ done) (book : mid.book ≡ old.book) (line : HasDurableLine shows text found may_leave old.store deed mid.store) where
  noted : IsDeedNoted shows text old.store deed mid.store
  noted = line.noted

  noted_as : IsBeside mid.store new.store → IsDeedNoted shows text old.store deed new.store
  noted_as beside = record {
    receipt = noted.receipt;
    number = noted.number;
    within = noted.within;
    login = noted.login;
    clock = beside.clock ∙ noted.clock;
    received = subst (λ (c : C). shows c noted.receipt.received) (sym beside.clock) noted.received;
    timed = noted.timed;
    text_is = ap text beside.journal ∙ noted.text_is;
    end_is = beside.at ∙ noted.end_is;
    certain = noted.certain;
  }

  durable_as : IsBeside mid.store new.store → IsDurable text may_leave new.store.journal
  durable_as beside = subst (IsDurable text may_leave) (sym beside.journal) line.durable

  sound_as : IsBeside mid.store new.store → IsSound text found may_leave old.store → IsSound text found may_leave new.store
  sound_as beside was =
      let sound = line.sound was in
      record {
        begins = subst (λ (j : J). HasText text found j) (sym beside.journal) sound.begins;
        synced = λ is. subst (λ (j : J). Only (found j) (may_leave j)) (sym beside.journal) (sound.synced (sym beside.synced ∙ is));
      }

  safe_as : IsBeside mid.store new.store → StaySafe text may_leave old.store.journal new.store.journal
  safe_as beside front was = subst (λ (j : J). IsSafe text may_leave front j) (sym beside.journal) (line.safe front was)

  withdrawn_as : IsBeside mid.store new.store → IsWithdrawn text may_leave old.store new.store
  withdrawn_as beside owed is = subst (λ (j : J). IsSafe text may_leave (said text old.store) j) (sym beside.journal) (line.withdrawn owed line.settled)

  -- what is said of the desk below is said of this one
  from_below : (before after : Desk K) (P : Shelved → K → Shelved → K → Type 0) → before.book ≡ mid.book → before.store ≡ mid.store.keeper
      → new.book ≡ after.book → new.store.keeper ≡ after.store → P before.book before.store after.book after.store
      → P old.book old.store.keeper new.book new.store.keeper
  from_below before after P book_is keeper_is book_after keeper_after holds =
      subst (λ (b : Shelved). P b old.store.keeper new.book new.store.keeper) (book_is ∙ book)
      (subst (λ (k : K). P before.book k new.book new.store.keeper) (keeper_is ∙ line.keeper)
      (subst (λ (b : Shelved). P before.book before.store b new.store.keeper) (sym book_after)
      (subst (λ (k : K). P before.book before.store after.book k) (sym keeper_after) holds)))

  module _ (came : Came) (below : CarriesBelow kept takes has_place fails mid new deed came) where
    At : (P : Shelved → K → Shelved → K → Type 0) → P below.before.book below.before.store below.after.book below.after.store
        → P old.book old.store.keeper new.book new.store.keeper
    At P holds = from_below below.before below.after P below.book below.keeper below.book_after below.keeper_after holds

    abbrev Done : Trees → Type 0
    Done trees = AreDoneSafely kept has_place text may_leave old.book.register old.store deed new.store trees

    crash_as : Survives (kept old.store.keeper) (kept new.store.keeper) Done
    crash_as =
        survives_weaker (kept old.store.keeper) (kept new.store.keeper)
        (AreDoneAt has_place (kept old.store.keeper).now old.book.register deed mid.store.at) Done
        (λ clean trees left. (
          subst (λ (p : Place). AreDoneAt has_place (kept old.store.keeper).now old.book.register deed p trees) (sym below.beside.at) left,
          λ first start level.
              line_safe kept has_place fails shows text found may_leave is_usable first start old.book.register deed reply old.store new.store level (noted_as below.beside)
              (durable_as below.beside),
        ))
        (At (λ b k c l. Survives (kept k) (kept l) (AreDoneAt has_place (kept k).now b.register deed mid.store.at)) below.carried.crash)

    keeps_as : Keeps (kept old.store.keeper) old.book.register (kept new.store.keeper) new.book.register
    keeps_as =
        At (λ b k c l. Keeps (kept k) b.register (kept l) c.register)
        (goes_keep kept takes has_place below.before below.after below.carried.led)

    -- the deed was taken
    register_as : IsGood old.book.register → OnOk came (new.book.register ≡ after_deed old.book.register deed)
    register_as good =
        At (λ b k c l. IsGood b.register → is_accepted (deed_reply b.register deed) ≡ true → OnOk came (c.register ≡ after_deed b.register deed))
        (λ fine is. below.carried.register (fine, is)) good (ap is_accepted reply)

    placed_as : IsGood old.book.register → OnOk came (ComesTo has_place (kept old.store.keeper) (kept new.store.keeper) new.store.at)
    placed_as good =
        subst (λ (p : Place). OnOk came (ComesTo has_place (kept old.store.keeper) (kept new.store.keeper) p)) (sym below.beside.at)
        (At (λ b k c l. IsGood b.register → is_accepted (deed_reply b.register deed) ≡ true → OnOk came (ComesTo has_place (kept k) (kept l) mid.store.at))
        (λ fine is. below.carried.placed (fine, is)) good (ap is_accepted reply))

    tables_as : OnOk came (HasCleanDisk (kept new.store.keeper) → IsGood old.book.register
        → HasTables (kept old.store.keeper).now (tables_of old.book.register) → HasTables (kept new.store.keeper).now (tables_of new.book.register))
    tables_as =
        At (λ b k c l. OnOk came (HasCleanDisk (kept l) → IsGood b.register → HasTables (kept k).now (tables_of b.register)
        → HasTables (kept l).now (tables_of c.register))) below.carried.tables

    saved_as : HasCleanDisk (kept new.store.keeper) → IsNoCommand deed → OnOk came (IsSaved (kept new.store.keeper))
    saved_as = At (λ b k c l. HasCleanDisk (kept l) → IsNoCommand deed → OnOk came (IsSaved (kept l))) below.carried.saved

    unchanged_as : OnErr came (new.book.register ≡ old.book.register)
    unchanged_as = At (λ b k c l. OnErr came (c.register ≡ b.register)) below.carried.unchanged

    stays_as : OnErr came (StaysShown (kept old.store.keeper) (kept new.store.keeper))
    stays_as = At (λ b k c l. OnErr came (StaysShown (kept k) (kept l))) below.carried.stays

  carried_journals : (came : Came) → CarriesBelow kept takes has_place fails mid new deed came
      → OnErr came (StaysShown (kept old.store.keeper) (kept new.store.keeper))
      → JournalsDeed kept fails shows text found may_leave is_usable old.store deed came new.store
  carried_journals (Ok nothing) below stays = record {
    noted = (noted_as below.beside, below.last ∙ line.settled);
    durable = durable_as below.beside;
    missed = tt;
    sound = sound_as below.beside;
    safe = safe_as below.beside;
    withdrawn = withdrawn_as below.beside;
  }
  carried_journals (Err fault) below stays = record {
    noted = tt;
    durable = tt;
    missed = unkept (noted_as below.beside) below.last (durable_as below.beside) below.carried.fault stays;
    sound = sound_as below.beside;
    safe = safe_as below.beside;
    withdrawn = withdrawn_as below.beside;
  }

  carried_fault : (came : Came) → IfErr came (IsOfKeeper fails) → IfErr came (IsOfKeeper (FailsToo fails))
  carried_fault (Ok nothing) of = tt
  carried_fault (Err fault) of = too fails fault of

  pub noted_carried : (came : Came) → CarriesBelow kept takes has_place fails mid new deed came
      → RenewsAt kept has_place fails shows text found may_leave is_usable old new deed came
  noted_carried came below = record {
    register = register_as came below;
    placed = placed_as came below;
    tables = tables_as came below;
    saved = saved_as came below;
    unchanged = unchanged_as came below;
    stays = stays_as came below;
    journals = carried_journals came below (stays_as came below);
    keeps = keeps_as came below;
    crash = crash_as came below;
    fault = carried_fault came below.carried.fault;
  }
