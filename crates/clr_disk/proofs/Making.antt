-- Files that have no database yet, and what making one may leave.
use Rattle.std.proofs.Common.{◌⊎◌, [], ℕ, ◌≤◌, ◌∙◌, true, Result, Ok, Err, IfErr, refl, subst, inl, inr}
use Rattle.std.proofs.Common.{arith}
use Rattle.std.proofs.Math.Logic.{∥∥₁_map}
use Rattle.sqlite.proofs.ListingLemmas.{empty_is_sound}
use Rattle.sqlite.specs.Files.{FailsToOpenFiles, HoldsDatabase, IsCleanLeft, IsEmpty, LeavesFiles}
use Rattle.sqlite.specs.Files.{image_of, tally_left}
use Rattle.sqlite.specs.Opening.{FailsAs}
use Rattle.sqlite.specs.declared.error.Error.{Error}
use Rattle.sqlite.specs.declared.file.Leftover.{Leftover}
use Rattle.sqlite_disk.specs.declared.Disk as disk
use Rattle.sqlite_disk.specs.declared.Files.{Files}
use Rattle.sqlite_pool.proofs.ProbeLemmas.{not_blank}
use Rattle.sqlite_pool.proofs.ResealLemmas.{adopts_of}
use Rattle.sqlite_pool.specs.File.{in_use, version_in}
use Rattle.sqlite_pool.specs.Opening.{IsNew}
use Rattle.sqlite_pool.specs.Stored.{Recovers, reserved, stored_size}
use Rattle.sqlite_pool.specs.StoredLaws.{trimmed_whole}
use Rattle.sqlite_store.proofs.BuildLemmas.{new_is_empty}
use Rattle.sqlite_store.proofs.ListingLemmas.{named_tree, past_version}
use Rattle.sqlite_store.specs.Db.{trees_in}
use Rattle.sqlite_store.specs.Listed.{catalog_rows}
use Rattle.sqlite_store.specs.Listing.{IsOurs, all_trees, file_trees}
use Rattle.sqlite_store.specs.Opening as store
use Rattle.sqlite_store.specs.Report.{named}
use Rattle.sqlite_trees.specs.Tree.{Trees}
use Rattle.sqlite_trees.specs.declared.error.StoreError.{StoreError}
use Rattle.sqlite_wal.specs.PageSize.{IsPageSize}
use Rattle.sqlite_wal.specs.Reads.{AreClean, OnlyReads, tally_of_files}
use Rattle.sqlite_wal.specs.Recovery.{AreWhole, Image, Pages}
use Rattle.clr_disk.specs.Opened.{FailsWith, IsUnharmed, IsUnmade, LeavesNone}

-- files that hold a database have one
pub is_made : (image : Image) (db : Trees) → HoldsDatabase image db → IsUnmade image → ⊥
is_made image db held unmade =
    let large : 504 ≤ held.0 = (let few : reserved held.0 ≤ 8 = grind arith in omega (arith, held.1.0)) in
    let never = not_blank held.0 image held.2.pages held.2.found large held.2.ours.file.sound in
    never 2048 (omega arith) unmade

empty_database : (size : ℕ) (image : Image) (pages : Pages) → IsPageSize (stored_size size)
    → Recovers size image pages → IsOurs size true [] pages
    → (db : Trees) × HoldsDatabase image db × IsEmpty db
unfolding trees_in
empty_database size image pages valid found ours =
    let db = file_trees size [] pages in
    let unlisted = catalog_rows size [] (in_use size pages) in (
      db,
      (size, valid, record { pages = pages; wanted = []; schema = _; found = adopts_of size image pages found; ours = ours; reads = refl; sound = empty_is_sound db unlisted }),
      (λ tree low. past_version tree low (all_trees size [] (in_use size pages)) (version_in pages) ∙ named_tree tree low size [] (in_use size pages), unlisted),
    )

-- what is left on the way is still no database, or an empty one
pub on_the_way : (image : Image) → IsPageSize (stored_size 2048)
    → IsUnmade image ⊎ ((pages : Pages) × Recovers 2048 image pages
    × (IsNew 2048 pages ⊎ ∥ store.IsFresh 2048 [] pages ∥₁))
    → IsUnmade image ⊎ ∥ ((db : Trees) × HoldsDatabase image db × IsEmpty db) ∥₁
on_the_way image valid (inl blank) = inl blank
on_the_way image valid (inr made) =
    inr (elim made.2 [
      | inl new ↦
          let whole : AreWhole 2048 made.0 = subst (AreWhole 2048) made.1.shows (trimmed_whole 2048 made.1.stored made.1.whole) in
          let empty = new_is_empty 2048 made.0 whole new in
          ∣ empty_database 2048 image made.0 valid made.1 (record { file = empty.0; numbered = λ _. record { listed = empty.1; spaced = refl; ordered = refl } }) ∣₁
      | inr fresh ↦ ∥∥₁_map fresh (λ it. empty_database 2048 image made.0 valid made.1 it.0)
    ])

-- what is wanted is not more
wants_less : (kind : StoreError) (a b : ℕ) (L W W' : Type 0) (e : Error) → (W' → W)
    → FailsAs kind a b L W e → FailsAs kind a b L W' e
wants_less kind a b L W W' e so (inl memory) = inl memory
wants_less kind a b L W W' e so (inr (inl refused)) = inr (inl (refused.0, λ w. refused.1 (so w)))
wants_less kind a b L W W' e so (inr (inr rest)) = inr (inr rest)

module _ {D T : Type 0} {g : disk.Ghosts D} (files read : Files D) (log : OnlyReads g files.log read.log)
    (db : OnlyReads g files.db read.db) where
  -- the making of a database leaves the files that were read unharmed
  pub made_over : (r : Result T (Error × Leftover D g))
      → IfErr r (λ back. IsCleanLeft back.1 → LeavesFiles read back.1 ⊎ LeavesNone read back.1)
      → IfErr r (λ back. IsCleanLeft back.1
      → FailsWith (named (tally_of_files g (read.log, read.db)) (tally_left back.1)) read back.1 back.0)
      → IfErr r (λ back. IsUnharmed files back.1 back.0)
  made_over (Ok it) left cause = tt
  made_over (Err back) left cause =
      record { read = read; log = log; db = db; unharmed = left; cause = cause }

  -- so does the opening of files that had one, or something else
  pub opened_over : (r : Result T (Error × Leftover D g))
      → (AreClean g read.log read.db → IsUnmade (image_of g read) → ⊥)
      → IfErr r (λ back. IsCleanLeft back.1 → LeavesFiles read back.1)
      → IfErr r (λ back. IsCleanLeft back.1 → FailsToOpenFiles read back.1 back.0)
      → IfErr r (λ back. IsUnharmed files back.1 back.0)
  opened_over (Ok it) never left cause = tt
  opened_over (Err back) never left cause = record {
    read = read;
    log = log;
    db = db;
    unharmed = λ clean. inl (left clean);
    cause = λ clean. wants_less _ _ _ _ _ _ _ (λ w. elim w [
      | inl held ↦ inl held
      | inr none ↦ elim none [ inl nothing ↦ inr nothing | inr unmade ↦ absurd (never unmade.0 unmade.1) ]
    ]) (cause clean);
  }
