use Rattle.std.proofs.Common.{◌≡◌, ◌+◌, ◌≤◌, ◌∙◌, false, sym, ap, subst, subst₂, inl, inr, arith}
use Rattle.sqlite.proofs.FileLemmas.{wanted_less}
use Rattle.sqlite.proofs.OpenLemmas.{pool_files}
use Rattle.sqlite.specs.Files.{faults_of, image_of}
use Rattle.sqlite_pool.specs.Opening.{IsBlankFile}
use Rattle.sqlite_pool.specs.Stored.{stored_size, used_size}
use Rattle.sqlite_store.specs.Unopened.{image, state_of}
use Rattle.sqlite_wal.specs.Files.{outcomes, seen_image}
use Rattle.sqlite_wal.specs.PageSize.{IsPageSize}
use Rattle.sqlite_wal.specs.Reads.{are_clean}
use Rattle.clr_disk.proofs.Making.{on_the_way}
use Rattle.clr_disk.proofs.create.new_store.Goals as goal

-- it is empty
pub returns-in-Ok-begin-clause-ok : goal.returns-in-Ok-begin-clause-ok
returns-in-Ok-begin-clause-ok g c still =
    let files = c.args.files in
    let fresh = c.in-Ok.fresh in
    let made = c.in-Ok.ensures in
    let counts : faults_of g.D.Disk files ≤ (state_of fresh).faults =
    omega (arith, (pool_files fresh.pool).0, ap (λ f. g.D.Disk.faults f.0 + g.D.Disk.faults f.1) made.files) in
    let it = c.in-Ok-begin.ensures.ok still in
    record {
      honest = sym ((pool_files fresh.pool).1 ∙ ap (λ f. are_clean g.D.Disk f.0 f.1) made.files) ∙ c.in-Ok-begin.ensures.honest still;
      fresh = it.fresh;
      is_open = it.is_open;
      counts = omega (arith, it.counts);
      empty = (it.empty, it.unlisted);
    }

-- it fails for the files
pub returns-in-Err-begin-clause-cause : goal.returns-in-Err-begin-clause-cause
returns-in-Err-begin-clause-cause g c still =
    let files = c.args.files in
    let fresh = c.in-Ok.fresh in
    let made = c.in-Ok.ensures in
    let clean = sym ((pool_files fresh.pool).1 ∙ ap (λ f. are_clean g.D.Disk f.0 f.1) made.files) ∙ c.in-Err-begin.ensures.falls still in
    let size : (state_of fresh).page_size ≡ 2048 = made.size ∙ ap (λ n. used_size n false) c.requires.size in
    let seen : image fresh ≡ image_of g.D.Disk files = ap (λ f. seen_image g.D.Disk f.0 f.1) made.files in
    let blank : IsBlankFile (state_of fresh).page_size (image fresh) = subst₂ IsBlankFile (sym size) (sym seen) (c.requires.unmade clean) in
    let counts : faults_of g.D.Disk files ≤ (state_of fresh).faults =
    omega (arith, (pool_files fresh.pool).0, ap (λ f. g.D.Disk.faults f.0 + g.D.Disk.faults f.1) made.files) in
    wanted_less _ _ _ _ _ _ c.in-Err-begin.error counts (c.in-Err-begin.ensures.counts still) (λ _. blank) (c.in-Err-begin.ensures.cause still)

-- and it leaves none, or an empty one
pub returns-in-Err-begin-clause-unharmed : goal.returns-in-Err-begin-clause-unharmed
returns-in-Err-begin-clause-unharmed g c still =
    let files = c.args.files in
    let fresh = c.in-Ok.fresh in
    let made = c.in-Ok.ensures in
    let clean = sym ((pool_files fresh.pool).1 ∙ ap (λ f. are_clean g.D.Disk f.0 f.1) made.files) ∙ c.in-Err-begin.ensures.falls still in
    let size : (state_of fresh).page_size ≡ 2048 = made.size ∙ ap (λ n. used_size n false) c.requires.size in
    let seen : image fresh ≡ image_of g.D.Disk files = ap (λ f. seen_image g.D.Disk f.0 f.1) made.files in
    let unmade = c.requires.unmade clean in
    let blank : IsBlankFile (state_of fresh).page_size (image fresh) = subst₂ IsBlankFile (sym size) (sym seen) unmade in
    let given = c.args.size in
    let valid : IsPageSize (stored_size 2048) = subst IsPageSize c.requires.size (given.smallest, given.largest, given.power, given.aligned) in
    inr (
      unmade,
      λ left may. elim ((c.in-Err-begin.ensures.kept still).blank blank left may) [
        | inl was ↦ inl (subst (λ f. outcomes g.D.Disk f.0 f.1 left) made.files ((pool_files fresh.pool).2 left was))
        | inr way ↦ inr (on_the_way left valid (rw (size, made.none) at way))
      ],
    )
