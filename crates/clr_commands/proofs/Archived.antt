-- An archive over a register that was taken up from a database, and what went out of it.
use Rattle.std.proofs.Common.{◌≡◌, ◌≢◌, ◌⊎◌, ◌∙◌, inl, inr, refl, subst, sym, ℕ, List, Ok, Err}
use Rattle.std.specs.Borrow.{Bor}
use Rattle.std.specs.Prelude.{IsErrAnd, None, Option, Some}
use Rattle.sqlite.specs.Held.{Held, state}
use Rattle.sqlite_trees.specs.declared.store.Store.{Ghosts}
use Rattle.clr_args.specs.declared.asked.ArchiveArgs.{ArchiveArgs}
use Rattle.clr_changes.specs.Deeds.{archive}
use Rattle.clr_desk.specs.Faults.{FailsAsStore}
use Rattle.clr_desk.specs.declared.commit.Commit as commit
use Rattle.clr_desk.specs.declared.desk.Desk.{Desk}
use Rattle.clr_level.specs.declared.keeper.Keeper.{Keeper}
use Rattle.clr_rules.specs.Fit.{IsFit}
use Rattle.clr_rules.specs.Good.{IsGood}
use Rattle.clr_rules.specs.Register.{Register}
use Rattle.clr_stream.specs.Streams.{HasFailed, Stream, WentOut}
use Rattle.clr_edge.specs.Fault.{of_desk}
use Rattle.clr_keeping.specs.Keeping.{IsLetGo, IsUpWith, Keeping, StaysOne, Works, WorksEither, WorksIn, logged, logged_keeper, plain_keeper, unlogged}
use Rattle.clr_keeping.specs.TakenUp.{Logs, store_place}
use Rattle.clr_keeping.specs.declared.taking_up.Opened.TheVariants.{Logged, Plain}
use Rattle.clr_keeping.proofs.Keeping.{worked_either}
use Rattle.clr_edge.specs.Visit.{Closed, Comes, Done, Ending, Opening, Shutting, first_fault}
use Rattle.clr_edge.specs.declared.fault.Fault.{Fault}
use Rattle.clr_edge.specs.declared.fault.Fault.TheVariants.{Output}
use Rattle.clr_commands.specs.Archive.{ArchivesAlone, ArchivesAt, ArchivesLogged, IsArchived}
use Rattle.clr_commands.specs.ArchiveText.{archive_text}
use Rattle.clr_commands.specs.DeedLines.{IsJournaled}
use Rattle.clr_commands.proofs.Faults.{of_desk_plain}
use Rattle.clr_commands.proofs.Written.{database_other, not_alone_other, not_taken_other, other_as}

-- what went out, by the result: a text, flushed; at a fault of the output, what it took; at any
-- other nothing, or a text, flushed
abbrev pub HasWritten : Stream → Stream → Done → Type 0
HasWritten output output' (Ok value) = (text : List ℕ) × WentOut output output' text
HasWritten output output' (Err fault) = ((fault ≡ Output) × HasFailed output output')
    ⊎ ((fault ≢ Output) × ((output' ≡ output) ⊎ ((text : List ℕ) × WentOut output output' text)))

-- a register that was taken up with its journal is good
pub up_good : {M J C S : Type 0} (g : Ghosts S) (opens : Opening M S) (path : List ℕ) (logs : Logs M J C) (journal : Option (Bor (List ℕ)))
    (old new : M) (desk : Desk (Keeper (Held S) J C)) → IsUpWith g opens path logs journal old new (Logged desk) → IsGood desk.book.register
up_good g opens path logs None old new desk up = absurd up
up_good g opens path logs (Some journal) old new desk up = up.good

-- and staffed, as one without a journal is
pub up_fit : {M J C S : Type 0} (g : Ghosts S) (opens : Opening M S) (path : List ℕ) (logs : Logs M J C) (journal : Option (Bor (List ℕ)))
    (old new : M) (desk : Desk (Keeper (Held S) J C)) → IsUpWith g opens path logs journal old new (Logged desk) → IsFit desk.book.register
up_fit g opens path logs None old new desk up = absurd up
up_fit g opens path logs (Some journal) old new desk up = (up.good, up.staffed)

pub alone_fit : {M J C S : Type 0} (g : Ghosts S) (opens : Opening M S) (path : List ℕ) (logs : Logs M J C) (journal : Option (Bor (List ℕ)))
    (old new : M) (desk : Desk (Held S)) → IsUpWith g opens path logs journal old new (Plain desk) → IsFit desk.book.register
alone_fit g opens path logs None old new desk up = (up.good, up.staffed)
alone_fit g opens path logs (Some journal) old new desk up = absurd up

module _ (output output' : Stream) where
  archived_written : {K : Type 0} (keeper : commit.Ghosts K) (before : ℕ) (R : Register) (told : Done) (closed : Closed) (read after : K)
      → IsArchived keeper before output output' R told read after → HasWritten output output' (first_fault told closed)
  archived_written keeper before R (Ok value) (Ok ended) read after (inl (went, taken, fine)) = (archive_text before R, went)
  archived_written keeper before R (Ok value) (Err cause) read after (inl (went, taken, fine)) = inr (database_other cause, inr (archive_text before R, went))
  archived_written keeper before R (Ok value) closed read after (inr (same, unsent)) = absurd unsent
  archived_written keeper before R (Err fault) closed read after (inl (went, taken, (cause, is, of))) =
      inr (other_as fault (of_desk cause) is (of_desk_plain cause).0, inr (archive_text before R, went))
  archived_written keeper before R (Err fault) closed read after (inr (same, inl (out, cut))) = inl (out, cut.1)
  archived_written keeper before R (Err fault) closed read after (inr (same, inr (memory, quiet))) = inr (λ e. cc (sym memory ∙ e), inl quiet)

  over_written : {M T K : Type 0} (by : Keeping M T K) → ((old new : M) (before after : Held T) (fault : Fault) → by.refuses old new before fault after → fault ≢ Output)
      → (moment : ℕ) (Did : Done → M → M → Desk K → Desk K → Type 0)
      → ((told : Done) (m n : M) (taken left : Desk K) → Did told m n taken left → ArchivesAlone moment output output' K by.keeper told m n taken left)
      → (result : Done) (old new : M) (before after : Held T) (closed : Closed)
      → WorksIn by (output' ≡ output) Did first_fault result old before after closed new
      → HasWritten output output' result
  over_written {K = K} by refused_other moment Did alone result old new before after closed did =
      subst (λ (r : Done). HasWritten output output' r) (sym did.result_is) (of did.told did.works)
    where
      of : (told : Done) → (IsErrAnd told (λ fault. by.refuses old new before fault after) × (output' ≡ output))
          ⊎ Works by (Did told) old new before after
          → HasWritten output output' (first_fault told closed)
      of (Ok value) (inl (refused, same)) = absurd refused
      of (Err fault) (inl (refused, same)) = inr (refused_other old new before after fault refused, inl same)
      of told (inr it) =
          archived_written by.keeper moment it.taken.book.register told closed it.taken.store it.left.store
          (alone told it.between it.later it.taken it.left it.did).1

  kept_written : {M J C S : Type 0} (logs : Logs M J C) (g : Ghosts S) (opens : Opening M S) (shuts : Shutting M) (ends : Ending M S)
      (journal : Option (Bor (List ℕ))) (path : List ℕ) (moment : ℕ) (result : Done) (old new : M)
      → Comes opens (λ old path fault new. shuts old path fault new × (output' ≡ output)) ends path
      (WorksEither logs g journal (output' ≡ output) (ArchivesAlone moment output output' (Held S) (plain_keeper g))
      (ArchivesLogged logs g moment output output') first_fault) result old new
      → HasWritten output output' result
  kept_written logs g opens shuts ends journal path moment result old new (inl (cause, is, (shut, same))) =
      subst (λ (r : Done). HasWritten output output' r) (sym is) (inr (database_other cause, inl same))
  kept_written {S = S} logs g opens shuts ends None path moment result old new (inr visit) =
      over_written (unlogged g) (λ old new before after fault not. not_alone_other g before after fault not.1)
      moment (ArchivesAlone moment output output' (Held S) (plain_keeper g)) (λ told m n taken left did. did) result visit.middle visit.later visit.before visit.after visit.closed visit.does
  kept_written logs g opens shuts ends (Some journal) path moment result old new (inr visit) =
      over_written (logged g logs journal.now) (λ old new before after fault not. not_taken_other g logs journal.now old new before after fault not)
      moment (ArchivesLogged logs g moment output output') (λ told m n taken left did. did.0) result visit.middle visit.later visit.before visit.after visit.closed visit.does

  module _ {M J C S : Type 0} (logs : Logs M J C) (g : Ghosts S) (opens : Opening M S) (shuts : Shutting M) (ends : Ending M S) (args : ArchiveArgs) where
    -- what went out
    pub archive_written : (result : Done) (old new : M) → ArchivesAt logs g opens shuts ends args output output' result old new → HasWritten output output' result
    archive_written result old new did = kept_written logs g opens shuts ends args.journal args.database.now args.before result old new did

    abbrev shut_quiet : Shutting M
    shut_quiet old path fault new = shuts old path fault new × (output' ≡ output)

    -- the register of the database at the path was archived, without a journal
    pub archived_alone : (before : ℕ) (told result : Done) (closed : Closed) (old between new : M) (desk : Desk (Held S)) (store after : Held S)
        → IsUpWith g opens args.database.now logs args.journal old between (Plain desk) → before ≡ args.before
        → IsArchived (plain_keeper g) before output output' desk.book.register told desk.store store → after ≡ store
        → ends between after closed new → result ≡ first_fault told closed
        → ArchivesAt logs g opens shuts ends args output output' result old new
    archived_alone before told result closed old between new desk store after up moment archived same ended is =
        let left : Desk (Held S) = record { book = desk.book; store = store; faults = desk.faults } in
        worked_either g opens shuts shut_quiet ends args.database.now (output' ≡ output) first_fault logs
        (ArchivesAlone args.before output output' (Held S) (plain_keeper g)) (ArchivesLogged logs g args.before output output')
        args.journal told result old between between new (Plain desk) (Plain left) closed up
        (refl, subst (λ (n : ℕ). IsArchived (plain_keeper g) n output output' desk.book.register told desk.store store) moment archived)
        tt (store, between, (refl, refl), subst (λ (h : Held S). ends between h closed new) same ended) is

    -- or with one, with which it stays level, and in which it has its line
    pub archived_level : (before : ℕ) (told result : Done) (closed : Closed) (old between new : M) (desk left : Desk (Keeper (Held S) J C))
        → IsUpWith g opens args.database.now logs args.journal old between (Logged desk) → before ≡ args.before
        → IsArchived (logged_keeper g logs) before output output' desk.book.register told desk.store left.store
        → IsJournaled (state g) store_place FailsAsStore logs.shows logs.log desk (archive before) told left → StaysOne (state g) store_place logs.log desk left
        → IsLetGo ends logs (Logged left) closed between new → result ≡ first_fault told closed
        → ArchivesAt logs g opens shuts ends args output output' result old new
    archived_level before told result closed old between new desk left up moment archived noted stays gone is =
        worked_either g opens shuts shut_quiet ends args.database.now (output' ≡ output) first_fault logs
        (ArchivesAlone args.before output output' (Held S) (plain_keeper g)) (ArchivesLogged logs g args.before output output')
        args.journal told result old between between new (Logged desk) (Logged left) closed up (
          (refl, subst (λ (n : ℕ). IsArchived (logged_keeper g logs) n output output' desk.book.register told desk.store left.store) moment archived),
          subst (λ (n : ℕ). IsJournaled (state g) store_place FailsAsStore logs.shows logs.log desk (archive n) told left) moment noted,
        )
        stays gone is
