-- The lines of a part, as they are read one after the other; and the parts that go on.
use Rattle.std.proofs.Common.{◌≡◌, ◌∙◌, ◌⊎◌, ap, inl, inr, refl, subst, sym, ℕ, Bool, List, [], ◌∷◌, ◌++◌, append_assoc, append-nil, Result, Ok, Err}
use Rattle.std.specs.Io.KnownBytes.{IsAtEnd}
use Rattle.std.specs.Prelude.{IfErr, IfSome, IsErrAnd, None, OnOk, Option, Some, Vec, option_map}
use Rattle.std.specs.declared.alloc.Global.{Global}
use Rattle.clr_journal.specs.Lines.{ended_lines}
use Rattle.clr_stream.specs.Failures.{Rose}
use Rattle.clr_chain.specs.Walking.{Step, step_of}
use Rattle.clr_chain.specs.declared.chain_end.ChainEnd.{ChainEnd}
use Rattle.clr_edge.specs.Lines.{ends_whole}
use Rattle.clr_edge.specs.declared.fault.Fault.{Fault}
use Rattle.clr_edge.specs.declared.fault.Fault.TheVariants.{Journal, Memory, Output}
use Rattle.clr_edge.specs.declared.fault.JournalFault.TheVariants.{TooLong}
use Rattle.clr_keeping.specs.Journal.{all_known}
use Rattle.clr_keeping.specs.Parts.{BeginsPart, FailsLater, FailsPart, IsOpened, ReadsLine, half_step, part_steps, walked}

-- ---- the lines

-- these lines were read of what was left, and what is left ends as it did
abbrev pub AreBefore : List (List ℕ) → Option (List ℕ) → List ℕ → Type 0
AreBefore lines None bytes = ⊥
AreBefore lines (Some after) bytes = (ended_lines bytes ≡ lines ++ ended_lines after) × (ends_whole bytes ≡ ends_whole after)

pub before-none : (left : Option (List ℕ)) → IfSome left (AreBefore [] left)
before-none None = tt
before-none (Some bytes) = (refl, refl)

pub before-more : (left now next : Option (List ℕ)) (lines : List (List ℕ)) (text : Vec ℕ Global) → IfSome left (AreBefore lines now)
    → IfSome now (ReadsLine (Some text) next) → IfSome left (AreBefore (lines ++ text.items ∷ []) next)
before-more None now next lines text had reads = tt
before-more (Some bytes) None next lines text had reads = absurd had
before-more (Some bytes) (Some rest) None lines text had reads = absurd reads.1
before-more (Some bytes) (Some rest) (Some after) lines text had reads = (
  had.0 ∙ ap (λ (l : List (List ℕ)). lines ++ l) reads.0 ∙ sym (append_assoc lines (text.items ∷ []) (ended_lines after)),
  had.1 ∙ reads.1,
)

pub before-all : (left now next : Option (List ℕ)) (lines : List (List ℕ)) → IfSome left (AreBefore lines now)
    → IfSome now (ReadsLine None next) → IfSome left (λ bytes. ended_lines bytes ≡ lines)
before-all None now next lines had none = tt
before-all (Some bytes) None next lines had none = absurd had
before-all (Some bytes) (Some rest) next lines had none = had.0 ∙ ap (λ (l : List (List ℕ)). lines ++ l) none.0 ∙ append-nil lines

-- and whether they end whole
pub before-whole : (left now next : Option (List ℕ)) (lines : List (List ℕ)) (is_whole : Bool) → IfSome left (AreBefore lines now)
    → IfSome now (ReadsLine None next) → IfSome next (λ bytes. is_whole ≡ ends_whole bytes)
    → IfSome left (λ bytes. (ended_lines bytes ≡ lines) × (ends_whole bytes ≡ is_whole))
before-whole None now next lines is_whole had none ends = tt
before-whole (Some bytes) None next lines is_whole had none ends = absurd had
before-whole (Some bytes) (Some rest) None lines is_whole had none ends = absurd none.1
before-whole (Some bytes) (Some rest) (Some after) lines is_whole had none ends =
    (had.0 ∙ ap (λ (l : List (List ℕ)). lines ++ l) none.0 ∙ append-nil lines, had.1 ∙ none.1 ∙ sym ends)

-- where none is left to read, what is held says it
pub held-ends : (held : List ℕ) (known : Option (List ℕ)) (is_whole : Bool) → is_whole ≡ ends_whole held → IsAtEnd known
    → IfSome (option_map (λ bytes. held ++ bytes) known) (λ bytes. is_whole ≡ ends_whole bytes)
held-ends held None is_whole is end = tt
held-ends held (Some rest) is_whole is end = is ∙ ap ends_whole (sym (ap (λ (l : List ℕ). held ++ l) end ∙ append-nil held))

pub before-some : (left now : Option (List ℕ)) (lines : List (List ℕ)) → IfSome left (AreBefore lines now)
    → IfSome left (λ bytes. (rest : List (List ℕ)) × (ended_lines bytes ≡ lines ++ rest))
before-some None now lines had = tt
before-some (Some bytes) None lines had = absurd had
before-some (Some bytes) (Some after) lines had = (ended_lines after, had.0)

-- the steps of one more line
pub walked-step : (end : ChainEnd) (lines : List (List ℕ)) (text : List ℕ)
    → (walked end (lines ++ text ∷ [])).0 ≡ (walked end lines).0 ++ (step_of (walked end lines).1 text).0 ∷ []
unfolding walked
walked-step end [] text = refl
walked-step end (line ∷ rest) text = ap (λ (l : List Step). (step_of end line).0 ∷ l) (walked-step (step_of end line).1 rest text)

pub walked-end : (end : ChainEnd) (lines : List (List ℕ)) (text : List ℕ)
    → (walked end (lines ++ text ∷ [])).1 ≡ (step_of (walked end lines).1 text).1
unfolding walked
walked-end end [] text = refl
walked-end end (line ∷ rest) text = walked-end (step_of end line).1 rest text

walked-append : (end : ChainEnd) (lines rest : List (List ℕ)) → (walked end (lines ++ rest)).0 ≡ (walked end lines).0 ++ (walked (walked end lines).1 rest).0
unfolding walked
walked-append end [] rest = refl
walked-append end (line ∷ lines) rest = ap (λ (l : List Step). (step_of end line).0 ∷ l) (walked-append (step_of end line).1 lines rest)

-- the steps of its first lines begin a part
pub begins-lines : (end : ChainEnd) (bytes : List ℕ) (lines rest : List (List ℕ)) → ended_lines bytes ≡ lines ++ rest
    → BeginsPart end (ended_lines bytes) (ends_whole bytes) (walked end lines).0
begins-lines end bytes lines rest is =
    let half = half_step (walked end (ended_lines bytes)).1 (ends_whole bytes) in
    let more = (walked (walked end lines).1 rest).0 in (
      more ++ half,
      ap (λ (l : List Step). l ++ half) (ap (λ (l : List (List ℕ)). (walked end l).0) is ∙ walked-append end lines rest)
          ∙ append_assoc (walked end lines).0 more half,
    )

-- and so do all its steps
pub begins-whole : (end : ChainEnd) (bytes : List ℕ) (lines : List (List ℕ)) (is_whole : Bool) → ended_lines bytes ≡ lines → ends_whole bytes ≡ is_whole
    → BeginsPart end (ended_lines bytes) (ends_whole bytes) (part_steps end lines is_whole)
begins-whole end bytes lines is_whole is ends = (
  [],
  ap (λ (l : List (List ℕ)). part_steps end l (ends_whole bytes)) is
      ∙ ap (λ (b : Bool). part_steps end lines b) ends
      ∙ sym (append-nil (part_steps end lines is_whole)),
)

pub walked-none : (end : ChainEnd) → (walked end []).0 ≡ []
unfolding walked
walked-none end = refl

pub walked-same : (end : ChainEnd) → (walked end []).1 ≡ end
unfolding walked
walked-same end = refl

-- ---- the parts

-- where all are known, the next is, and so are those after it
pub known-next : (bytes : Option (List ℕ)) (left : List (Option (List ℕ))) (rest : List (List ℕ)) → all_known (bytes ∷ left) ≡ Some rest
    → (one : List ℕ) × (more : List (List ℕ)) × (bytes ≡ Some one) × (all_known left ≡ Some more) × (rest ≡ one ∷ more)
known-next None left rest is = absurd (cc)
known-next (Some one) left rest is = by (all_known left) refl
  where
    by : (found : Option (List (List ℕ))) → all_known left ≡ found
        → (first : List ℕ) × (more : List (List ℕ)) × (Some one ≡ Some first) × (all_known left ≡ Some more) × (rest ≡ first ∷ more)
    by None none =
        let lacks : None ≡ Some rest = subst (λ (o : Option (List (List ℕ))). option_map (λ (l : List (List ℕ)). one ∷ l) o ≡ Some rest) none is in
        absurd (cc)
    by (Some more) some =
        let has : Some (one ∷ more) ≡ Some rest = subst (λ (o : Option (List (List ℕ))). option_map (λ (l : List (List ℕ)). one ∷ l) o ≡ Some rest) some is in
        (one, more, refl, some, cc)

-- ---- the faults

-- a fault of reading on is one of the part that was opened
pub later-part : {F : Type 0} (remaining : F → Option (List ℕ)) (failures : F → ℕ) (bytes : Option (List ℕ)) (source : F) (fault : Fault)
    → IsOpened remaining failures bytes (failures source) → FailsLater failures source fault → FailsPart remaining failures bytes fault
later-part remaining failures bytes source fault (before, is_of, count) later which =
    let (after, rose) = later which in
    (before, after, is_of, subst (λ (n : ℕ). Rose n (failures after)) (sym count) rose)

-- of a source that has counted the same
pub later_from : {F : Type 0} (failures : F → ℕ) (source begun : F) (fault : Fault) → failures source ≡ failures begun → FailsLater failures source fault
    → FailsLater failures begun fault
later_from failures source begun fault same later which =
    let (after, rose) = later which in
    (after, subst (λ (n : ℕ). Rose n (failures after)) same rose)

-- one that is neither of opening nor of reading
pub memory-later : {F : Type 0} (failures : F → ℕ) (source : F) (fault : Fault) → fault ≡ Memory → FailsLater failures source fault
memory-later failures source fault is (inl opening) = absurd (cc)
memory-later failures source fault is (inr reading) = absurd (cc)

pub cut-later : {F : Type 0} (failures : F → ℕ) (source : F) (fault : Fault) → (fault ≡ Memory) ⊎ (fault ≡ Output) → FailsLater failures source fault
cut-later failures source fault (inl memory) which = memory-later failures source fault memory which
cut-later failures source fault (inr output) (inl opening) = absurd (cc)
cut-later failures source fault (inr output) (inr reading) = absurd (cc)

pub long-later : {F : Type 0} (failures : F → ℕ) (source : F) (fault : Fault) → fault ≡ Journal TooLong → FailsLater failures source fault
long-later failures source fault is (inl opening) = absurd (cc)
long-later failures source fault is (inr reading) = absurd (cc)

-- what holds of a fault holds where it is passed on
pub passed_on : {T : Type 0} (result : Result T Fault) (found : Fault) (P : Fault → Type 0) → IsErrAnd result (λ cause. cause ≡ found) → P found → IfErr result P
passed_on (Ok value) found P is holds = tt
passed_on (Err cause) found P is holds = subst P (sym is) holds

pub passed_as : {T : Type 0} (result : Result T Fault) (found kind : Fault) → IsErrAnd result (λ cause. cause ≡ found) → found ≡ kind → result ≡ Err kind
passed_as (Ok value) found kind is same = absurd is
passed_as (Err cause) found kind is same = ap Err (is ∙ same)

pub told_as : {T : Type 0} (result : Result T Fault) (kind : Fault) → IsErrAnd result (λ cause. cause ≡ kind) → result ≡ Err kind
told_as (Ok value) kind is = absurd is
told_as (Err cause) kind is = ap Err is

pub ok_any : {T E : Type 0} (result : Result T E) (P : Type 0) → P → OnOk result P
ok_any (Ok value) P holds = holds
ok_any (Err fault) P holds = tt
