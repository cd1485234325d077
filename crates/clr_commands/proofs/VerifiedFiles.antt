-- What `verify` answers of its files, of a database and of a journal.
use Rattle.std.proofs.Common.{◌≡◌, ◌≢◌, ap, inl, inr, ℕ, List, map, Result, Ok, Err}
use Rattle.std.specs.Borrow.{Bor}
use Rattle.std.specs.Prelude.{IfErr, IsErrAnd, String}
use Rattle.std.specs.declared.alloc.Global.{Global}
use Rattle.clr_rules.specs.Register.{Register}
use Rattle.clr_args.specs.declared.asked.VerifyArgs.{VerifyArgs}
use Rattle.clr_args.specs.declared.asked.VerifyFromArgs.{VerifyFromArgs}
use Rattle.clr_edge.specs.declared.fault.Fault.{Fault}
use Rattle.clr_edge.specs.declared.fault.Fault.TheVariants.{Memory}
use Rattle.clr_commands.specs.First.{files_of}
use Rattle.clr_commands.specs.Import.{AreKnown, AreReadAt, contents_of, lists_of, rows_of}
use Rattle.clr_keeping.specs.Journal.{all_known}
use Rattle.clr_edge.specs.Paths.{AtPaths}
use Rattle.clr_commands.specs.Run.{IsOpeningOf, rows_fault}
use Rattle.clr_commands.specs.Verify.{Checks, ChecksFrom, FailsSome, Placed, VerifiesAt, VerifiesFromAt, WhereKnown}
use Rattle.clr_commands.specs.declared.import.Rows.{Rows}
use Rattle.clr_commands.specs.declared.import.Texts.{Texts}

-- a fault that is passed on is the answer
pub is_fault : {T : Type 0} (result : Result T Fault) (fault : Fault) → IsErrAnd result (λ cause. cause ≡ fault) → result ≡ Err fault
is_fault (Ok value) fault is = absurd is
is_fault (Err cause) fault is = ap Err is

module _ {M : Type 0} (at : AtPaths) (args : VerifyArgs) (Reads : Result Placed Fault → M → M → Type 0) (result : Result (String Global) Fault) (old new : M) where
  -- a file has a fault
  pub unread : (fault : Fault) → AreReadAt at args.files (Err fault) → IsErrAnd result (λ cause. cause ≡ fault) → new ≡ old → VerifiesAt at args Reads result old new
  unread fault are is same = record { read = Err fault; are_read = are; answer = is_fault result fault is; nothing = same }

  module _ (rows : Rows) (texts : Texts) (are : AreReadAt at args.files (Ok (lists_of rows))) (gives : rows_of (contents_of texts) ≡ Ok (lists_of rows))
      (known : AreKnown at.bytes args.files (contents_of texts)) where
    -- they are no network or no staff
    pub unmade : (fault : Fault) → IsErrAnd result (λ cause. cause ≡ fault) → (fault ≢ Memory → rows_fault (lists_of rows) ≡ Err fault) → new ≡ old
        → VerifiesAt at args Reads result old new
    unmade fault is told same = record {
      read = Ok (lists_of rows);
      are_read = are;
      answer = (contents_of texts, gives, known, inl (fault, is_fault result fault is, told, same));
      nothing = tt;
    }

    -- the database was not read
    pub unplaced : (began : Register) (fault : Fault) → IsOpeningOf (lists_of rows) began → Reads (Err fault) old new → IsErrAnd result (λ cause. cause ≡ fault)
        → VerifiesAt at args Reads result old new
    unplaced began fault opens reads is = record {
      read = Ok (lists_of rows);
      are_read = are;
      answer = (contents_of texts, gives, known, inr (record { began = began; is_opening = opens; read = Err fault; reads = reads; answer = is_fault result fault is }));
      nothing = tt;
    }

    -- the journal was checked
    pub checked : (began : Register) (placed : Placed) → IsOpeningOf (lists_of rows) began → Reads (Ok placed) old new
        → WhereKnown (at.bytes args.journal.now) (all_known (map (λ (path : Bor (List ℕ)). at.bytes path.now) args.parts.items))
        (λ one parts. Checks (files_of (contents_of texts)) began one parts placed.1 placed.0.register result)
        → IfErr result (FailsSome at args.journal args.parts.items)
        → VerifiesAt at args Reads result old new
    checked began placed opens reads checks cause = record {
      read = Ok (lists_of rows);
      are_read = are;
      answer = (contents_of texts, gives, known, inr (record { began = began; is_opening = opens; read = Ok placed; reads = reads; answer = (checks, cause) }));
      nothing = tt;
    }

-- ---- from a copy

module _ {M : Type 0} (at : AtPaths) (args : VerifyFromArgs) (CopyReads Reads : Result Placed Fault → M → M → Type 0) (result : Result (String Global) Fault)
    (old middle new : M) where
  -- the copy was not read
  pub uncopied : (fault : Fault) → CopyReads (Err fault) old middle → new ≡ middle → IsErrAnd result (λ cause. cause ≡ fault)
      → VerifiesFromAt at args CopyReads Reads result old new
  uncopied fault reads same is = record { copy = Err fault; middle = middle; copied = reads; unread = same; answer = is_fault result fault is }

  -- the database was not
  pub unplaced_from : (from : Placed) (fault : Fault) → CopyReads (Ok from) old middle → Reads (Err fault) middle new → IsErrAnd result (λ cause. cause ≡ fault)
      → VerifiesFromAt at args CopyReads Reads result old new
  unplaced_from from fault copied reads is =
      record { copy = Ok from; middle = middle; copied = copied; unread = tt; answer = (Err fault, reads, is_fault result fault is) }

  -- the journal was checked
  pub checked_from : (from placed : Placed) → CopyReads (Ok from) old middle → Reads (Ok placed) middle new
      → WhereKnown (at.bytes args.journal.now) (all_known (map (λ (path : Bor (List ℕ)). at.bytes path.now) args.parts.items))
      (λ one parts. ChecksFrom from.0.register from.1 one parts placed.1 placed.0.register result)
      → IfErr result (FailsSome at args.journal args.parts.items)
      → VerifiesFromAt at args CopyReads Reads result old new
  checked_from from placed copied reads checks cause =
      record { copy = Ok from; middle = middle; copied = copied; unread = tt; answer = (Ok placed, reads, (checks, cause)) }
