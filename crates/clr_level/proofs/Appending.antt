-- What a crash leaves of an append begins with the text before it.
use Rattle.std.proofs.Common.{◌≡◌, ◌∙◌, ◌<◌, ◌≤◌, ℕ, List, [], ◌∷◌, ◌++◌, length, take, get_or, sym, subst, ap, arith}
use Rattle.std.proofs.Math.Seq.{take-length}
use Rattle.std.proofs.lemmas.Grind.{same_number_lists}
use Rattle.std.proofs.lemmas.List.{get_or-take, length-take, length-take-le}
use Rattle.sqlite_disk.specs.Disk.{Only}
use Rattle.clr_journal.specs.Journal.{BeginsWith, Grown}
use Rattle.clr_level.specs.Journaling.{IsDurable, IsSafe}

pub begins_itself : (text : List ℕ) → BeginsWith text text
begins_itself text = take-length text

front_length : (before d : List ℕ) → BeginsWith before d → length before ≤ length d
front_length before d begins =
    let a : length (take (length before) d) ≡ length before = ap length begins in
    let b = length-take (length before) d in
    omega (arith, a, b)

front_kept : (before d c : List ℕ) (at n : ℕ) → length before ≤ at → BeginsWith before d → Grown at n d c → BeginsWith before c
front_kept before d c at n below begins grown =
    let within = front_length before d begins in
    let shorter = grown.no_shorter in
    let more : length before ≤ length c = omega (arith, within, shorter, below) in
    let same : length (take (length before) c) ≡ length before = length-take-le (length before) c more in
    same_number_lists (take (length before) c) before same
    (λ k under.
    let inside : k < length before = omega (arith, under, same) in
    let there : k < length d = omega (arith, inside, within) in
    let here : k < at = omega (arith, inside, below) in
    get_or-take (length before) c k 0 inside ∙ grown.below k there here ∙ sym (get_or-take (length before) d k 0 inside)
    ∙ ap (λ (xs : List ℕ). get_or xs k 0) begins)

pub only_keeps : (before found : List ℕ) (left : List ℕ → Type 0) → BeginsWith before found → Only found left
    → (bytes : List ℕ) → left bytes → BeginsWith before bytes
only_keeps before found left begins only bytes is = subst (λ (d : List ℕ). BeginsWith before d) (sym (only bytes is)) begins

-- all lines are safe where they are durable
pub durable_safe : {J : Type 0} (text : J → List ℕ) (may_leave : J → List ℕ → Type 0) (front : List ℕ) (journal : J) → text journal ≡ front
    → IsDurable text may_leave journal → IsSafe text may_leave front journal
durable_safe text may_leave front journal is durable =
    subst (λ (t : List ℕ). IsSafe text may_leave t journal) is
    (record { begins = begins_itself (text journal); kept = only_keeps (text journal) (text journal) (may_leave journal) (begins_itself (text journal)) durable })
