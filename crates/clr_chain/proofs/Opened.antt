-- A journal is opened up to its last line that holds its sum.
use Rattle.std.proofs.Common.{◌≡◌, ◌∙◌, ◌+◌, ◌-◌, ◌≤◌, ℕ, List, [], ◌++◌, length, take, ap, sym, arith, append-nil, length-take-le, subst}
use Rattle.std.proofs.Math.Seq.{take-append_seam}
use Rattle.sqlite_disk.specs.Disk.{Cut, Follows, MoreFaults}
use Rattle.clr_journal.specs.Lines.{ended_text, text_of}
use Rattle.clr_journal.specs.Opening.{FailedToCut}
use Rattle.clr_chain.proofs.Firsts.{found_again}
use Rattle.clr_chain.proofs.NotMissed.{nothing_says_nothing}
use Rattle.clr_chain.proofs.Parts.{Parted, parted}
use Rattle.clr_chain.specs.Finding.{ahead, found_in}
use Rattle.clr_chain.specs.Opening.{IsOpened, WasNotCut, read_ahead}
use Rattle.clr_chain.specs.Reading.{IsFound}
use Rattle.clr_chain.specs.declared.finding.Ahead.{Ahead as SeenAhead}
use Rattle.clr_chain.specs.declared.finding.Found.TheVariants as seen
use Rattle.clr_rules.specs.declared.place.Place.{Place}

pub is_opened : (place : Place) (bytes : List ℕ) (lines : SeenAhead) (len end : ℕ) → len ≡ length bytes → end ≡ len - lines.rest → IsFound bytes (seen.Ahead lines) (found_in place bytes)
    → IsOpened place bytes lines (take end bytes)
is_opened place bytes lines len end all at (left, cut, found) =
    let parts : Parted bytes cut.kept left = parted bytes cut.kept left cut.lines in
    let count = cut.count in
    let size : end ≡ length (text_of cut.kept) = omega (arith, all, at, count) in
    let text : take end bytes ≡ text_of cut.kept =
    ap (λ n. take n bytes) size ∙ ap (take (length (text_of cut.kept))) parts.is ∙ take-append_seam (text_of cut.kept) parts.more in
    record {
      cut = parts.more;
      is = parts.is ∙ ap (λ t. t ++ parts.more) (sym text);
      ended = ap ended_text text ∙ ap text_of parts.front ∙ sym text;
      found = found ∙ ap (λ ls. ahead (read_ahead lines ls)) (sym parts.lines);
      again = ap (found_in place) (text ∙ sym (append-nil (text_of cut.kept)))
          ∙ found_again place bytes [] cut.kept (read_ahead lines left) found cut.lines (nothing_says_nothing place lines.end);
    }

-- what is kept of the bytes and what is not are all of them
pub all_found : (place : Place) (bytes : List ℕ) (lines : SeenAhead) (len : ℕ) → len ≡ length bytes → IsFound bytes (seen.Ahead lines) (found_in place bytes) → (len - lines.rest) + lines.rest ≡ length bytes
all_found place bytes lines len all (left, cut, found) =
    let count = cut.count in
    omega (arith, all, count)

pub not_cut : {D : Type 0} (seen : D → List ℕ) (may_leave : D → List ℕ → Type 0) (faults : D → ℕ) (place : Place) (old mid back : D) (lines : SeenAhead) (end : ℕ)
    → seen mid ≡ seen old → ((c : List ℕ) → may_leave mid c → may_leave old c) → faults mid ≡ faults old → IsOpened place (seen old) lines (take end (seen old))
    → end + lines.rest ≡ length (seen old) → Cut end (seen mid) (seen back) → Follows (Cut end) (may_leave mid) (may_leave back) → MoreFaults (faults mid) (faults back)
    → WasNotCut seen may_leave faults place old back
not_cut {D} seen may_leave faults place old mid back lines end same no_more count opened all cut kept cause =
    let within : end ≤ length (seen old) = omega (arith, all) in
    let size = length-take-le end (seen old) within in
    let failed : FailedToCut seen may_leave faults end old back = record {
      cut = subst (λ (bytes : List ℕ). Cut end bytes (seen back)) same cut;
      kept = λ c left. let before = kept c left in (before.0, no_more before.0 before.1, before.2);
      counted = subst (λ (n : ℕ). MoreFaults n (faults back)) count cause;
    } in
    record {
      lines = lines;
      text = take end (seen old);
      opened = opened;
      failed = subst (λ (n : ℕ). FailedToCut seen may_leave faults n old back) (sym size) failed;
    }
