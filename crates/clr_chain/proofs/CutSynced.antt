-- A journal is cut at the end of what its disk holds, and what a crash leaves of it stays the same.
use Rattle.std.proofs.Common.{◌≡◌, ◌+◌, ◌<◌, ◌≤◌, ℕ, List, length, take, Result, Ok, Err, sym, subst, arith}
use Rattle.std.specs.Prelude.{IfOk}
use Rattle.std.proofs.Math.Seq.{take-length}
use Rattle.std.proofs.lemmas.Grind.{same_number_lists}
use Rattle.std.proofs.lemmas.List.{length-take-le}
use Rattle.sqlite_disk.specs.Disk.{Cut, Follows, Only}

-- a cut of bytes at their end leaves them
cut_at_end : (bytes c : List ℕ) → Cut (length bytes) bytes c → c ≡ bytes
cut_at_end bytes c cut =
    let shorter = cut.no_shorter in
    let longer = cut.no_longer in
    let same : length c ≡ length bytes = omega (arith, shorter, longer) in
    same_number_lists c bytes same
    (λ k under.
    let inside : k < length bytes = omega (arith, under, same) in
    cut.below k inside inside)

pub only_cut : (end rest : ℕ) (bytes : List ℕ) (old new : List ℕ → Type 0) → end + rest ≡ length bytes → Only (take end bytes) old → Follows (Cut end) old new
    → Only (take end bytes) new
only_cut end rest bytes old new all only follows c left =
    let within : end ≤ length bytes = omega (arith, all) in
    let front : List ℕ = take end bytes in
    let len : length front ≡ end = length-take-le end bytes within in
    let from = follows c left in
    cut_at_end front c
    (subst (λ (n : ℕ). Cut n front c) (sym len) (subst (λ (d : List ℕ). Cut end d c) (only from.0 from.1) from.2))

pub if_map : {A B : Type 0} (came : Result A B) (P Q : A → Type 0) → ((value : A) → P value → Q value) → IfOk came P → IfOk came Q
if_map (Ok value) P Q then holds = then value holds
if_map (Err fault) P Q then holds = tt
