-- Why a register was not found to be what its journal says, part by part.
use Rattle.std.proofs.Common.{◌≡◌, ◌∙◌, ◌⊎◌, ap, inl, inr, refl, subst, sym, ℕ, Bool, false, true, List, [], ◌∷◌, ◌++◌, append_assoc, append-nil, Result, Ok, Err}
use Rattle.std.proofs.lemmas.Bool.{true≢false}
use Rattle.std.specs.Borrow.{Bor}
use Rattle.std.specs.Prelude.{IfErr, IfOk, IfSome, None, Option, Some, String, Vec, string_bytes}
use Rattle.std.specs.declared.alloc.Global.{Global}
use Rattle.clr_journal.specs.Lines.{ended_lines}
use Rattle.clr_rules.specs.Register.{Register}
use Rattle.clr_chain.specs.Chain.{read_on}
use Rattle.clr_chain.specs.First.{end_at, other_rules_in, read_first}
use Rattle.clr_chain.specs.Walking.{bad, part_of, step_of}
use Rattle.clr_chain.specs.Sums.{Files}
use Rattle.clr_chain.specs.declared.chain_end.ChainEnd.{ChainEnd}
use Rattle.clr_journal.specs.Line.{Entry}
use Rattle.clr_rules.specs.declared.place.Place.{Place}
use Rattle.clr_journal.specs.Journals.{next_place}
use Rattle.clr_edge.specs.Lines.{ends_whole}
use Rattle.clr_edge.specs.declared.fault.Fault.{Fault}
use Rattle.clr_edge.specs.declared.fault.Fault.TheVariants.{Journal, Memory, Verify}
use Rattle.clr_edge.specs.declared.fault.JournalFault.TheVariants.{OpenFailed, ReadFailed}
use Rattle.clr_edge.specs.declared.fault.VerifyFault.TheVariants.{Files as OtherFiles}
use Rattle.clr_checking.specs.Checking.{AreLines, IsRefused, IsRefusedFrom, Refuses, RefusesCopy, RefusesFrom, RefusesLine, RefusesOfCopy, RefusesRun}
use Rattle.clr_checking.specs.CheckingOn.{CheckedTo, CheckedToFrom, GoesOver, IsOfRun}
use Rattle.clr_checking.specs.declared.checking.Checking.{Checking}
use Rattle.clr_checking.specs.declared.fault.CheckFault.{CheckFault}
use Rattle.clr_checking.specs.declared.fault.CheckFault.TheVariants.{BadLine, Differs, NoMemory, OtherRegister, Reply, Tables, TooShort}
use Rattle.clr_keeping.specs.Journal.{FailsAny, all_known}
use Rattle.clr_keeping.specs.Parts.{Breaks, BreaksAfter, FailsLater, FirstIs, IsNoFirst, IsNoNext, IsOpened, IsUnreadOr, IsUnreadPart, ReadsLine, walked}
use Rattle.clr_edge.specs.Paths.{AtPaths, at_paths}
use Rattle.clr_commands.specs.Verify.{AreOthers, AreRefused, BadOn, BeginOn, BeginsWith, Checks, ChecksAll, ChecksFrom, EndsInHalf, FailsFrom, FailsSome, GoOn, HalfOn, HasBad, HasLines, IsHalf, IsNextAfter, IsNo, IsOfEnd, IsOfFiles, IsRefusedBy, IsRefusedIn, IsWhole, RefusesAll, RefusesHalf, RefusesHalves, RefusesIn, RefusesPart, RefusesSome, of_check}
use Rattle.clr_keeping.proofs.BrokenParts.{first_breaks, next_breaks, not_next}
use Rattle.clr_commands.proofs.CheckedParts.{CheckedLines, CheckedParts, Known, bad_on-part, begin_on-none, begin_on-part, begins_at, checks_yes, checks_yes_from, go_on-none, half_on-part}
use Rattle.clr_keeping.proofs.PartLines.{before-more, before-some, before-whole, known-next, later-part}

-- ---- a line

-- what a check says of a line that it refuses
abbrev pub RefusesText : Checking → List ℕ → CheckFault → Type 0
RefusesText it text cause = (began : Register) (first place : Place) (R : Register) (texts : List (List ℕ)) → CheckedTo began first place R it texts
    → Refuses began first texts text place R cause

abbrev pub RefusesTextFrom : Checking → List ℕ → CheckFault → Type 0
RefusesTextFrom it text cause = (copied : Register) (at first place : Place) (R : Register) (texts : List (List ℕ))
    → CheckedToFrom copied at first place R it texts → RefusesOfCopy copied at first texts text place R cause

-- where it is called bad, it is where the walk has come to it
abbrev pub IsBadAt : Checking → List ℕ → CheckFault → Type 0
IsBadAt it text cause = (n : ℕ) → cause ≡ BadLine n → (step_of it.walk.end text).0 ≡ bad n

-- with that line they have no yes, where memory did not run out
abbrev IsNotMemory : CheckFault → Type 0
IsNotMemory cause = cause ≡ NoMemory → ⊥

as_refused : (first : Place) (texts : List (List ℕ)) (text : List ℕ) (Is : CheckFault → Type 0) (cause : CheckFault) → IsNotMemory cause
    → RefusesLine first texts text Is cause → (IsOfEnd first (texts ++ text ∷ []) cause → ⊥) × AreRefused first (texts ++ text ∷ []) Is cause
as_refused first texts text Is OtherRegister other is = (λ never. never, inl is)
as_refused first texts text Is (BadLine n) other is = (λ never. never, inr (texts, text, n, refl, refl, is))
as_refused first texts text Is (Reply n) other is = (λ never. never, inl is)
as_refused first texts text Is (Differs n) other is = (λ of_end. absurd (true≢false (sym of_end.1 ∙ is.1 of_end.0)), inl is.0)
as_refused first texts text Is (Tables found) other is = (λ never. never, inl is)
as_refused first texts text Is TooShort other is = absurd is
as_refused first texts text Is NoMemory other is = absurd (other refl)

module _ (left now next : Option (List ℕ)) (old it : Checking) (text : Vec ℕ Global) (seen : List ℕ) (same : seen ≡ text.items) (had : CheckedLines left now old it)
    (reads : IfSome now (ReadsLine (Some text) next)) where
  to_more : (Is : List (List ℕ) → CheckFault → Type 0) (first : Place) (texts : List (List ℕ)) (cause : CheckFault)
      → (IsOfEnd first ((texts ++ had.lines) ++ seen ∷ []) cause → ⊥) × AreRefused first ((texts ++ had.lines) ++ seen ∷ []) (Is ((texts ++ had.lines) ++ seen ∷ [])) cause
      → (IsOfEnd first (texts ++ (had.lines ++ text.items ∷ [])) cause → ⊥)
      × AreRefused first (texts ++ (had.lines ++ text.items ∷ [])) (Is (texts ++ (had.lines ++ text.items ∷ []))) cause
  to_more Is first texts cause is =
      subst (λ (l : List (List ℕ)). (IsOfEnd first l cause → ⊥) × AreRefused first l (Is l) cause)
      (ap (λ (t : List ℕ). (texts ++ had.lines) ++ t ∷ []) same ∙ append_assoc texts had.lines (text.items ∷ [])) is

  line_kept : (cause : CheckFault) → IsNotMemory cause → RefusesText it seen cause → RefusesTextFrom it seen cause → IsBadAt it seen cause
      → IfSome left (λ bytes. RefusesIn old bytes (of_check cause))
  line_kept cause other why why_from bads = by left (before-some left next (had.lines ++ text.items ∷ []) (before-more left now next had.lines text had.before reads))
    where
      by : (file : Option (List ℕ)) → IfSome file (λ bytes. (rest : List (List ℕ)) × (ended_lines bytes ≡ (had.lines ++ text.items ∷ []) ++ rest))
          → IfSome file (λ bytes. RefusesIn old bytes (of_check cause))
      by None is = tt
      by (Some bytes) (rest, is) = inl (record {
        lines = had.lines ++ text.items ∷ [];
        after = rest;
        all = is;
        cause = cause;
        fault_is = refl;
        is_bad = λ n same_cause. (
          had.lines,
          text.items,
          rest,
          is ∙ append_assoc had.lines (text.items ∷ []) rest,
          ap (λ (e : ChainEnd). (step_of e text.items).0) (sym had.checked.end) ∙ ap (λ (t : List ℕ). (step_of it.walk.end t).0) (sym same) ∙ bads n same_cause,
        );
        why = λ began first place R texts to.
            to_more (λ l. IsRefused began first l place R) first texts cause
            (as_refused first (texts ++ had.lines) seen (IsRefused began first ((texts ++ had.lines) ++ seen ∷ []) place R) cause other
            (why began first place R (texts ++ had.lines) (had.checked.went began first place R texts to)));
        why_from = λ copied at first place R texts to.
            to_more (λ l. IsRefusedFrom copied at first l place R) first texts cause
            (as_refused first (texts ++ had.lines) seen (IsRefusedFrom copied at first ((texts ++ had.lines) ++ seen ∷ []) place R) cause other
            (why_from copied at first place R (texts ++ had.lines) (had.checked.went_from copied at first place R texts to)));
      })

  pub line_refused : (cause : CheckFault) → RefusesText it seen cause → RefusesTextFrom it seen cause → IsBadAt it seen cause
      → IsRefusedIn old left (of_check cause)
  line_refused OtherRegister why why_from bads = inr (line_kept OtherRegister (λ is. cc is) why why_from bads)
  line_refused (BadLine n) why why_from bads = inr (line_kept (BadLine n) (λ is. cc is) why why_from bads)
  line_refused (Reply n) why why_from bads = inr (line_kept (Reply n) (λ is. cc is) why why_from bads)
  line_refused (Differs n) why why_from bads = inr (line_kept (Differs n) (λ is. cc is) why why_from bads)
  line_refused (Tables found) why why_from bads = inr (line_kept (Tables found) (λ is. cc is) why why_from bads)
  line_refused TooShort why why_from bads = inr (line_kept TooShort (λ is. cc is) why why_from bads)
  line_refused NoMemory why why_from bads = inl (inl refl)

-- ---- half a line

-- the number of a line more, after lines that all hold their sums
next_after : (first place : Place) (it : Checking) (texts lines : List (List ℕ)) (entries : List Entry) (n : ℕ) → n ≡ next_place it.walk.end.turn.last → texts ≡ lines
    → GoesOver first place it texts entries → IsNextAfter first lines n
next_after first place it texts lines entries n is same over =
    subst (λ (l : List (List ℕ)). IsNextAfter first l n) same
    (record { entries = entries; lines = over.lines; number = is ∙ ap next_place over.end_is.number })

-- a part ends in it
pub half_refused : (left now next : Option (List ℕ)) (old it : Checking) (is_whole : Bool) (n : ℕ) (fault : Fault) → CheckedLines left now old it
    → IfSome now (ReadsLine None next) → IfSome next (λ bytes. is_whole ≡ ends_whole bytes) → is_whole ≡ false → n ≡ next_place it.walk.end.turn.last
    → fault ≡ of_check (BadLine n) → IsRefusedIn old left fault
half_refused left now next old it is_whole n fault had none ends half number is = inr (by left (before-whole left now next had.lines is_whole had.before none ends))
  where
    by : (file : Option (List ℕ)) → IfSome file (λ bytes. (ended_lines bytes ≡ had.lines) × (ends_whole bytes ≡ is_whole)) → IfSome file (λ bytes. RefusesIn old bytes fault)
    by None all = tt
    by (Some bytes) (lines_are, whole) = inr (
      whole ∙ half,
      record {
        number = n;
        fault_is = is;
        why = λ began first place R texts to.
            let went = had.checked.went began first place R texts to in
            next_after first place it (texts ++ had.lines) (texts ++ ended_lines bytes) went.entries n number (ap (λ (l : List (List ℕ)). texts ++ l) (sym lines_are)) went.over;
        why_from = λ copied at first place R texts to.
            let went = had.checked.went_from copied at first place R texts to in
            next_after first place it (texts ++ had.lines) (texts ++ ended_lines bytes) (went.before ++ went.entries) n number
            (ap (λ (l : List (List ℕ)). texts ++ l) (sym lines_are)) went.over;
      },
    )

-- ---- the first line of a further part

-- a check that stops at it
pub part_stops : (id : List ℕ) (end : ChainEnd) (bytes after : Option (List ℕ)) (line : Vec ℕ Global) (text : List ℕ) (cause : CheckFault) → text ≡ line.items
    → IfSome bytes (ReadsLine (Some line) after) → other_rules_in line.items ≡ None
    → (cause ≡ NoMemory) ⊎ ((cause ≡ BadLine end.turn.last) × ((part_of id end (read_first text)).0 ≡ false)) → IsUnreadOr (IsNoNext id end) bytes (of_check cause)
part_stops id end bytes after line text cause same reads rules (inl memory) = inl (inr (inl (ap of_check memory)))
part_stops id end bytes after line text cause same reads rules (inr (is, stops)) =
    subst (λ (c : CheckFault). IsUnreadOr (IsNoNext id end) bytes (of_check c)) (sym is)
    (not_next id end bytes after line text same reads rules stops)

-- ---- all parts

-- a line of them is refused
refused_some : (first : Option (List ℕ)) (all : Option (List (List ℕ))) (it : Checking) (fault : Fault)
    → IfSome first (λ known. IfSome all (λ parts. RefusesAll it known parts fault))
    → IfSome first (λ known. IfSome all (λ parts. RefusesSome it known parts fault))
refused_some None all it fault refused = tt
refused_some (Some file) None it fault refused = tt
refused_some (Some file) (Some parts) it fault refused = inr (inl refused)

-- one or the other
some_of : (old begun : Checking) (file known : List ℕ) (parts : List (List ℕ)) (fault : Fault) → (RefusesPart begun known fault → RefusesAll old file parts fault)
    → (ends_whole known ≡ false → RefusesHalf begun (ended_lines known) fault → RefusesHalves old file parts fault)
    → RefusesIn begun known fault → RefusesSome old file parts fault
some_of old begun file known parts fault line half (inl part) = inr (inl (line part))
some_of old begun file known parts fault line half (inr (ends, part)) = inr (inr (half ends part))

module _ (first : Option (List ℕ)) (all left : Option (List (List ℕ))) (old it : Checking) (had : CheckedParts first all left old it) where
  -- a line of a further part is refused
  pub part_refused : (bytes : Option (List ℕ)) (others : List (Option (List ℕ))) (line : Vec ℕ Global) (now : Option (List ℕ)) (begun : Checking) (fault : Fault)
      → left ≡ all_known (bytes ∷ others) → IfSome bytes (ReadsLine (Some line) now)
      → (true, begun.walk.end) ≡ part_of it.walk.id it.walk.end (read_first line.items)
      → ((began : Register) (place : Place) (to : Place) (R : Register) (texts : List (List ℕ)) → CheckedTo began place to R it texts → CheckedTo began place to R begun texts)
      → ((copied : Register) (at place to : Place) (R : Register) (texts : List (List ℕ)) → CheckedToFrom copied at place to R it texts → CheckedToFrom copied at place to R begun texts)
      → IfSome now (λ known. RefusesIn begun known fault)
      → IfSome first (λ known. IfSome all (λ parts. RefusesSome old known parts fault))
  part_refused bytes others line now begun fault is_left reads part went went_from refused = by first all had.known
    where
      goes : (one : List ℕ) (after : Option (List ℕ)) → ReadsLine (Some line) after one → IfSome after (λ known. RefusesIn begun known fault)
          → (known : List ℕ) × (ended_lines one ≡ line.items ∷ ended_lines known) × (ends_whole one ≡ ends_whole known) × RefusesIn begun known fault
      goes one None read is = absurd read.1
      goes one (Some after) read is = (after, read.0, read.1, is)

      part_is : part_of old.walk.id it.walk.end (read_first line.items) ≡ (true, begun.walk.end)
      part_is = sym (subst (λ (i : List ℕ). (true, begun.walk.end) ≡ part_of i it.walk.end (read_first line.items)) had.id part)

      -- a line of it
      lines_of : (file : List ℕ) (parts : List (List ℕ)) (one known : List ℕ) (after rest more : List (List ℕ)) → rest ≡ one ∷ after
          → ended_lines one ≡ line.items ∷ ended_lines known
          → ((front : List (List ℕ)) → BeginOn old.walk.id it.walk.end rest front → BeginOn old.walk.id (walked old.walk.end (ended_lines file)).1 parts (more ++ front))
          → ((began : Register) (place to : Place) (R : Register) → CheckedTo began place to R old [] → CheckedTo began place to R it (ended_lines file ++ more))
          → ((copied : Register) (at place to : Place) (R : Register) → CheckedToFrom copied at place to R old [] → CheckedToFrom copied at place to R it (ended_lines file ++ more))
          → ((n : ℕ) → BadOn old.walk.id it.walk.end rest n → BadOn old.walk.id (walked old.walk.end (ended_lines file)).1 parts n)
          → RefusesPart begun known fault → RefusesAll old file parts fault
      lines_of file parts one known after rest more next lines_are begin to to_from worsen is =
          let front : BeginOn old.walk.id it.walk.end (one ∷ after) is.lines =
          begin_on-part old.walk.id it.walk.end begun.walk.end one line.items after is.lines is.after
          (lines_are ∙ ap (λ (l : List (List ℕ)). line.items ∷ l) is.all) part_is in
          record {
            had = ended_lines file;
            after = [];
            more = more ++ is.lines;
            lines_are = sym (append-nil (ended_lines file));
            go_on = inr (refl, begin is.lines (subst (λ (l : List (List ℕ)). BeginOn old.walk.id it.walk.end l is.lines) (sym next) front));
            cause = is.cause;
            fault_is = is.fault_is;
            is_bad = λ n same. inr (worsen n (subst (λ (l : List (List ℕ)). BadOn old.walk.id it.walk.end l n) (sym next)
                (bad_on-part old.walk.id it.walk.end begun.walk.end one line.items after (ended_lines known) n lines_are part_is (is.is_bad n same))));
            why = λ began place R S was.
                let no = subst (λ (l : List (List ℕ)). (IsOfEnd place l is.cause → ⊥) × AreRefused place l (IsRefused began place l R S) is.cause)
                (append_assoc (ended_lines file) more is.lines)
                (is.why began place R S (ended_lines file ++ more) (went began place R S (ended_lines file ++ more) (to began place R S was))) in
                (λ of_end. absurd (no.0 of_end), no.1);
            why_from = λ copied at place R S was.
                let no = subst (λ (l : List (List ℕ)). (IsOfEnd place l is.cause → ⊥) × AreRefused place l (IsRefusedFrom copied at place l R S) is.cause)
                (append_assoc (ended_lines file) more is.lines)
                (is.why_from copied at place R S (ended_lines file ++ more) (went_from copied at place R S (ended_lines file ++ more) (to_from copied at place R S was))) in
                (λ of_end. absurd (no.0 of_end), no.1);
          }

      -- its end
      end_of : (file : List ℕ) (parts : List (List ℕ)) (one known : List ℕ) (after rest more : List (List ℕ)) → rest ≡ one ∷ after
          → ended_lines one ≡ line.items ∷ ended_lines known → ends_whole one ≡ false
          → ((texts : List (List ℕ)) → HalfOn old.walk.id it.walk.end rest texts → HalfOn old.walk.id (walked old.walk.end (ended_lines file)).1 parts (more ++ texts))
          → ((began : Register) (place to : Place) (R : Register) → CheckedTo began place to R old [] → CheckedTo began place to R it (ended_lines file ++ more))
          → ((copied : Register) (at place to : Place) (R : Register) → CheckedToFrom copied at place to R old [] → CheckedToFrom copied at place to R it (ended_lines file ++ more))
          → RefusesHalf begun (ended_lines known) fault → RefusesHalves old file parts fault
      end_of file parts one known after rest more next lines_are half halve to to_from is = record {
        more = more ++ ended_lines known;
        half = inr (halve (ended_lines known) (subst (λ (l : List (List ℕ)). HalfOn old.walk.id it.walk.end l (ended_lines known)) (sym next)
            (half_on-part old.walk.id it.walk.end begun.walk.end one line.items after (ended_lines known) lines_are part_is half)));
        number = is.number;
        fault_is = is.fault_is;
        why = λ began place R S was.
            subst (λ (l : List (List ℕ)). IsNextAfter place l is.number) (append_assoc (ended_lines file) more (ended_lines known))
            (is.why began place R S (ended_lines file ++ more) (went began place R S (ended_lines file ++ more) (to began place R S was)));
        why_from = λ copied at place R S was.
            subst (λ (l : List (List ℕ)). IsNextAfter place l is.number) (append_assoc (ended_lines file) more (ended_lines known))
            (is.why_from copied at place R S (ended_lines file ++ more) (went_from copied at place R S (ended_lines file ++ more) (to_from copied at place R S was)));
      }

      by : (file : Option (List ℕ)) (found : Option (List (List ℕ))) → IfSome file (λ known. IfSome found (λ parts. Known (ended_lines known) parts left old it))
          → IfSome file (λ known. IfSome found (λ parts. RefusesSome old known parts fault))
      by None found is = tt
      by (Some file) None is = tt
      by (Some file) (Some parts) (rest, more, is_rest, go, begin, halve, broken, worsen, to, to_from) =
          let (one, after, has, is_after, next) = known-next bytes others rest (sym is_left ∙ is_rest) in
          let read : ReadsLine (Some line) now one = subst (λ (b : Option (List ℕ)). IfSome b (ReadsLine (Some line) now)) has reads in
          let (known, lines_are, ends, is) = goes one now read refused in
          some_of old begun file known parts fault (lines_of file parts one known after rest more next lines_are begin to to_from worsen)
          (λ half part_half. end_of file parts one known after rest more next lines_are (ends ∙ half) halve to to_from part_half) is

  -- all were read, and there is no yes
  end_refused : (cause : CheckFault) → IsNotMemory cause → ((n : ℕ) → cause ≡ BadLine n → ⊥) → left ≡ Some []
      → ((began : Register) (place to : Place) (R : Register) (texts : List (List ℕ)) → CheckedTo began place to R it texts → IsRefused began place texts to R cause)
      → ((copied : Register) (at place to : Place) (R : Register) (texts : List (List ℕ)) → CheckedToFrom copied at place to R it texts
      → IsRefusedFrom copied at place texts to R cause)
      → IfSome first (λ known. IfSome all (λ parts. RefusesAll old known parts (of_check cause)))
  end_refused cause other never none why why_from = by first all had.whole had.known
    where
      by : (file : Option (List ℕ)) (found : Option (List (List ℕ))) → IfSome file (λ known. ends_whole known ≡ true)
          → IfSome file (λ known. IfSome found (λ parts. Known (ended_lines known) parts left old it))
          → IfSome file (λ known. IfSome found (λ parts. RefusesAll old known parts (of_check cause)))
      by None found whole known = tt
      by (Some file) None whole known = tt
      by (Some file) (Some parts) whole (rest, more, is_rest, go, begin, halve, broken, worsen, to, to_from) =
          let empty : rest ≡ [] = cc (sym none ∙ is_rest) in
          let all_read : IsWhole old file (ended_lines file) [] more parts = (
            refl,
            whole,
            subst (λ (l : List (List ℕ)). GoOn old.walk.id (walked old.walk.end (ended_lines file)).1 parts l) (append-nil more)
                (go [] (subst (λ (l : List (List ℕ)). GoOn old.walk.id it.walk.end l []) (sym empty) (go_on-none old.walk.id it.walk.end))),
          ) in
          record {
            had = ended_lines file;
            after = [];
            more = more;
            lines_are = sym (append-nil (ended_lines file));
            go_on = inr (
              refl,
              subst (λ (l : List (List ℕ)). BeginOn old.walk.id (walked old.walk.end (ended_lines file)).1 parts l) (append-nil more)
                  (begin [] (begin_on-none old.walk.id it.walk.end rest)),
            );
            cause = cause;
            fault_is = refl;
            is_bad = λ n same. absurd (never n same);
            why = λ began place R S was. (λ of_end. all_read, inl (why began place R S (ended_lines file ++ more) (to began place R S was)));
            why_from = λ copied at place R S was. (λ of_end. all_read, inl (why_from copied at place R S (ended_lines file ++ more) (to_from copied at place R S was)));
          }

  -- a further part is refused by its first line
  pub next_refused : (bytes : Option (List ℕ)) (others : List (Option (List ℕ))) (fault : Fault) → left ≡ all_known (bytes ∷ others)
      → IsUnreadOr (IsNoNext it.walk.id it.walk.end) bytes fault → IsRefusedBy old first all fault
  next_refused bytes others fault is_left (inl unread) = inl unread
  next_refused bytes others fault is_left (inr refused) = inr (by first all had.known)
    where
      by : (file : Option (List ℕ)) (found : Option (List (List ℕ))) → IfSome file (λ known. IfSome found (λ parts. Known (ended_lines known) parts left old it))
          → IfSome file (λ known. IfSome found (λ parts. RefusesSome old known parts fault))
      by None found known = tt
      by (Some file) None known = tt
      by (Some file) (Some parts) (rest, more, is_rest, go, begin, halve, broken, worsen, to, to_from) =
          inl (broken fault (subst (λ (i : List ℕ). BreaksAfter i it.walk.end rest fault) had.id
          (next_breaks it.walk.id it.walk.end bytes others rest fault (sym is_left ∙ is_rest) refused)))

  pub all_refused : (cause : CheckFault) → left ≡ Some []
      → ((began : Register) (place to : Place) (R : Register) (texts : List (List ℕ)) → CheckedTo began place to R it texts → IsRefused began place texts to R cause)
      → ((copied : Register) (at place to : Place) (R : Register) (texts : List (List ℕ)) → CheckedToFrom copied at place to R it texts
      → IsRefusedFrom copied at place texts to R cause)
      → IsOfRun cause → IsRefusedBy old first all (of_check cause)
  all_refused OtherRegister none why why_from of = inr (refused_some first all old _ (end_refused OtherRegister (λ is. cc is) (λ m is. cc is) none why why_from))
  all_refused (BadLine n) none why why_from of = absurd of
  all_refused (Reply n) none why why_from of = inr (refused_some first all old _ (end_refused (Reply n) (λ is. cc is) (λ m is. cc is) none why why_from))
  all_refused (Differs n) none why why_from of = inr (refused_some first all old _ (end_refused (Differs n) (λ is. cc is) (λ m is. cc is) none why why_from))
  all_refused (Tables found) none why why_from of = inr (refused_some first all old _ (end_refused (Tables found) (λ is. cc is) (λ m is. cc is) none why why_from))
  all_refused TooShort none why why_from of = inr (refused_some first all old _ (end_refused TooShort (λ is. cc is) (λ m is. cc is) none why why_from))
  all_refused NoMemory none why why_from of = inl (inr (inl refl))

  -- and that is said
  pub said_refused : (checked : Result ℕ CheckFault) (fault : Fault) → left ≡ Some []
      → (fault ≡ Memory) ⊎ ((cause : CheckFault) × (checked ≡ Err cause) × (fault ≡ of_check cause))
      → IfErr checked (λ cause. (began : Register) (place to : Place) (R : Register) (texts : List (List ℕ)) → CheckedTo began place to R it texts
      → IsRefused began place texts to R cause)
      → IfErr checked (λ cause. (copied : Register) (at place to : Place) (R : Register) (texts : List (List ℕ)) → CheckedToFrom copied at place to R it texts
      → IsRefusedFrom copied at place texts to R cause)
      → IfErr checked IsOfRun → IsRefusedBy old first all fault
  said_refused checked fault none (inl memory) why why_from of = inl (inr (inl memory))
  said_refused checked fault none (inr (cause, is, same)) why why_from of =
      subst (λ (f : Fault). IsRefusedBy old first all f) (sym same)
      (all_refused cause none
      (subst (λ (r : Result ℕ CheckFault). IfErr r (λ c. (began : Register) (place to : Place) (R : Register) (texts : List (List ℕ)) → CheckedTo began place to R it texts
      → IsRefused began place texts to R c)) is why)
      (subst (λ (r : Result ℕ CheckFault). IfErr r (λ c. (copied : Register) (at place to : Place) (R : Register) (texts : List (List ℕ)) → CheckedToFrom copied at place to R it texts
      → IsRefusedFrom copied at place texts to R c)) is why_from)
      (subst (λ (r : Result ℕ CheckFault). IfErr r IsOfRun) is of))

-- a line of the first part is refused
first_lines : (it : Checking) (file : List ℕ) (parts : List (List ℕ)) (fault : Fault) → RefusesPart it file fault → RefusesAll it file parts fault
first_lines it file parts fault is = record {
  had = is.lines;
  after = is.after;
  more = [];
  lines_are = is.all;
  go_on = inl refl;
  cause = is.cause;
  fault_is = is.fault_is;
  is_bad = λ n same. inl (is.is_bad n same);
  why = λ began place R S was.
      let no = subst (λ (l : List (List ℕ)). (IsOfEnd place l is.cause → ⊥) × AreRefused place l (IsRefused began place l R S) is.cause) (sym (append-nil is.lines))
      (is.why began place R S [] was) in
      (λ of_end. absurd (no.0 of_end), no.1);
  why_from = λ copied at place R S was.
      let no = subst (λ (l : List (List ℕ)). (IsOfEnd place l is.cause → ⊥) × AreRefused place l (IsRefusedFrom copied at place l R S) is.cause) (sym (append-nil is.lines))
      (is.why_from copied at place R S [] was) in
      (λ of_end. absurd (no.0 of_end), no.1);
}

-- or it ends in half a line
first_half : (it : Checking) (file : List ℕ) (parts : List (List ℕ)) (fault : Fault) → ends_whole file ≡ false → RefusesHalf it (ended_lines file) fault
    → RefusesHalves it file parts fault
first_half it file parts fault half is = record {
  more = [];
  half = inl (half, refl);
  number = is.number;
  fault_is = is.fault_is;
  why = λ began place R S was. subst (λ (l : List (List ℕ)). IsNextAfter place l is.number) (sym (append-nil (ended_lines file))) (is.why began place R S [] was);
  why_from = λ copied at place R S was.
      subst (λ (l : List (List ℕ)). IsNextAfter place l is.number) (sym (append-nil (ended_lines file))) (is.why_from copied at place R S [] was);
}

first_refused : (first : Option (List ℕ)) (all : Option (List (List ℕ))) (it : Checking) (fault : Fault) → IfSome first (λ known. RefusesIn it known fault)
    → IfSome first (λ known. IfSome all (λ parts. RefusesSome it known parts fault))
first_refused None all it fault is = tt
first_refused (Some file) None it fault is = tt
first_refused (Some file) (Some parts) it fault is = some_of it it file file parts fault (first_lines it file parts fault) (first_half it file parts fault) is

-- what is passed on
pub if_err : {T : Type 0} (result : Result T Fault) {P Q : Fault → Type 0} → ((fault : Fault) → P fault → Q fault) → IfErr result P → IfErr result Q
if_err (Ok value) then holds = tt
if_err (Err fault) then holds = then fault holds

pub first_by : (first : Option (List ℕ)) (all : Option (List (List ℕ))) (it : Checking) (fault : Fault) → IsRefusedIn it first fault → IsRefusedBy it first all fault
first_by first all it fault (inl of) = inl (inr of)
first_by first all it fault (inr is) = inr (first_refused first all it fault is)

pub part_by : (first : Option (List ℕ)) (all left : Option (List (List ℕ))) (old it : Checking) (had : CheckedParts first all left old it)
    (bytes : Option (List ℕ)) (others : List (Option (List ℕ))) (line : Vec ℕ Global) (now : Option (List ℕ)) (begun : Checking) (fault : Fault)
    → left ≡ all_known (bytes ∷ others) → IfSome bytes (ReadsLine (Some line) now)
    → (true, begun.walk.end) ≡ part_of it.walk.id it.walk.end (read_first line.items)
    → ((began : Register) (place : Place) (to : Place) (R : Register) (texts : List (List ℕ)) → CheckedTo began place to R it texts → CheckedTo began place to R begun texts)
    → ((copied : Register) (at place to : Place) (R : Register) (texts : List (List ℕ)) → CheckedToFrom copied at place to R it texts → CheckedToFrom copied at place to R begun texts)
    → IsRefusedIn begun now fault → IsRefusedBy old first all fault
part_by first all left old it had bytes others line now begun fault is_left reads part went went_from (inl of) = inl (inr of)
part_by first all left old it had bytes others line now begun fault is_left reads part went went_from (inr is) =
    inr (part_refused first all left old it had bytes others line now begun fault is_left reads part went went_from is)

-- no fault of a check is one of opening or reading
never_read : (cause : CheckFault) → (of_check cause ≡ Journal OpenFailed) ⊎ (of_check cause ≡ Journal ReadFailed) → ⊥
never_read OtherRegister (inl is) = cc is
never_read OtherRegister (inr is) = cc is
never_read (BadLine n) (inl is) = cc is
never_read (BadLine n) (inr is) = cc is
never_read (Reply n) (inl is) = cc is
never_read (Reply n) (inr is) = cc is
never_read (Differs n) (inl is) = cc is
never_read (Differs n) (inr is) = cc is
never_read (Tables found) (inl is) = cc is
never_read (Tables found) (inr is) = cc is
never_read TooShort (inl is) = cc is
never_read TooShort (inr is) = cc is
never_read NoMemory (inl is) = cc is
never_read NoMemory (inr is) = cc is

pub check_read : {F : Type 0} (failures : F → ℕ) (source : F) (cause : CheckFault) (fault : Fault) → fault ≡ of_check cause → FailsLater failures source fault
check_read failures source cause fault is which =
    absurd (never_read cause (subst (λ (f : Fault). (f ≡ Journal OpenFailed) ⊎ (f ≡ Journal ReadFailed)) is which))

pub check_any : (at : AtPaths) (parts : List (Bor (List ℕ))) (cause : CheckFault) (fault : Fault) → fault ≡ of_check cause → FailsAny at parts fault
check_any at parts cause fault is which =
    absurd (never_read cause (subst (λ (f : Fault). (f ≡ Journal OpenFailed) ⊎ (f ≡ Journal ReadFailed)) is which))

-- one of memory is none either
pub memory_any : (at : AtPaths) (parts : List (Bor (List ℕ))) (fault : Fault) → fault ≡ Memory → FailsAny at parts fault
memory_any at parts fault is (inl opening) = absurd (cc)
memory_any at parts fault is (inr reading) = absurd (cc)

pub said_any : (at : AtPaths) (parts : List (Bor (List ℕ))) (checked : Result ℕ CheckFault) (fault : Fault)
    → (fault ≡ Memory) ⊎ ((cause : CheckFault) × (checked ≡ Err cause) × (fault ≡ of_check cause)) → FailsAny at parts fault
said_any at parts checked fault (inl memory) = memory_any at parts fault memory
said_any at parts checked fault (inr (cause, is, same)) = check_any at parts cause fault same

-- of a first part that was opened
pub fails_some : {F : Type 0} (remaining : F → Option (List ℕ)) (failures : F → ℕ) (bytes_at : List ℕ → Option (List ℕ)) (path : Bor (List ℕ)) (parts : List (Bor (List ℕ)))
    (source : F) (fault : Fault) → IsOpened remaining failures (bytes_at path.now) (failures source)
    → FailsFrom failures source (at_paths remaining failures bytes_at) parts fault → FailsSome (at_paths remaining failures bytes_at) path parts fault
fails_some remaining failures bytes_at path parts source fault opened (inl later) =
    λ which. inl (later-part remaining failures (bytes_at path.now) source fault opened later which)
fails_some remaining failures bytes_at path parts source fault opened (inr any) = λ which. inr (any which)

pub all_some : {F : Type 0} {T : Type 0} (result : Result T Fault) (remaining : F → Option (List ℕ)) (failures : F → ℕ) (bytes_at : List ℕ → Option (List ℕ)) (path : Bor (List ℕ))
    (parts : List (Bor (List ℕ))) (source : F) → IsOpened remaining failures (bytes_at path.now) (failures source)
    → IfErr result (FailsFrom failures source (at_paths remaining failures bytes_at) parts) → IfErr result (FailsSome (at_paths remaining failures bytes_at) path parts)
all_some (Ok value) remaining failures bytes_at path parts source opened from = tt
all_some (Err fault) remaining failures bytes_at path parts source opened from = fails_some remaining failures bytes_at path parts source fault opened from

-- one that is neither of opening nor of reading
some_other : (at : AtPaths) (path : Bor (List ℕ)) (parts : List (Bor (List ℕ))) (fault : Fault) → (fault ≡ Memory) ⊎ (fault ≡ Verify OtherFiles) → FailsSome at path parts fault
some_other at path parts fault (inl memory) (inl opening) = absurd (cc)
some_other at path parts fault (inl memory) (inr reading) = absurd (cc)
some_other at path parts fault (inr others) (inl opening) = absurd (cc)
some_other at path parts fault (inr others) (inr reading) = absurd (cc)

pub some_others : (at : AtPaths) (path : Bor (List ℕ)) (parts : List (Bor (List ℕ))) (files : Files) (first : Place) (fault : Fault) → AreOthers files first fault
    → FailsSome at path parts fault
some_others at path parts files first fault (inl memory) = some_other at path parts fault (inl memory)
some_others at path parts files first fault (inr others) = some_other at path parts fault (inr others.0)

pub some_check : (at : AtPaths) (path : Bor (List ℕ)) (parts : List (Bor (List ℕ))) (cause : CheckFault) (fault : Fault) → fault ≡ of_check cause → FailsSome at path parts fault
some_check at path parts cause fault is which =
    absurd (never_read cause (subst (λ (f : Fault). (f ≡ Journal OpenFailed) ⊎ (f ≡ Journal ReadFailed)) is which))

-- ---- the answer

-- what a check refuses, of the bytes of a journal
module _ (one after : List ℕ) (parts : List (List ℕ)) (first place : Place) (it : Checking) (entries : List Entry) (fault : Fault) (begins : FirstIs first (Some after) one)
    (over : GoesOver first place it [] entries) (is : RefusesAll it after parts fault) where
  goes_over : (P : List ℕ → ChainEnd → Type 0) → P it.walk.id (walked it.walk.end is.had).1 → P first.id (walked (end_at first) is.had).1
  goes_over P goes =
      subst (λ (i : List ℕ). P i (walked (end_at first) is.had).1) over.id_is
      (subst (λ (e : ChainEnd). P it.walk.id (walked e is.had).1) (begins_at first it.walk.end over.end_is) goes)

  begins_with : BeginsWith one parts first (is.had ++ is.more)
  begins_with = record {
    text = begins.0;
    lines = is.had;
    after = is.after;
    more = is.more;
    lines_are = begins.1 ∙ ap (λ (l : List (List ℕ)). begins.0 ∷ l) is.lines_are;
    read = begins.2;
    texts_are = refl;
    go_on = by is.go_on;
  }
    where
      by : (is.more ≡ []) ⊎ ((is.after ≡ []) × BeginOn it.walk.id (walked it.walk.end is.had).1 parts is.more)
          → (is.more ≡ []) ⊎ ((is.after ≡ []) × BeginOn first.id (walked (end_at first) is.had).1 parts is.more)
      by (inl none) = inl none
      by (inr (all, begin)) = inr (all, goes_over (λ i e. BeginOn i e parts is.more) begin)

  has_all : IsWhole it after is.had is.after is.more parts → HasLines one parts first (is.had ++ is.more)
  has_all (none, whole, go) =
      record {
        text = begins.0;
        lines = is.had;
        more = is.more;
        lines_are = begins.1 ∙ ap (λ (l : List (List ℕ)). begins.0 ∷ l) (is.lines_are ∙ ap (λ (l : List (List ℕ)). is.had ++ l) none ∙ append-nil is.had);
        whole = begins.3 ∙ whole;
        read = begins.2;
        go_on = goes_over (λ i e. GoOn i e parts is.more) go;
        texts_are = refl;
      }

  bad_in : (n : ℕ) → HasBad it.walk.end (ended_lines after) n ⊎ BadOn it.walk.id (walked it.walk.end (ended_lines after)).1 parts n
      → HasBad (end_at first) (ended_lines after) n ⊎ BadOn first.id (walked (end_at first) (ended_lines after)).1 parts n
  bad_in n (inl here) = inl (subst (λ (e : ChainEnd). HasBad e (ended_lines after) n) (begins_at first it.walk.end over.end_is) here)
  bad_in n (inr later) = inr (subst (λ (i : List ℕ). BadOn i (walked (end_at first) (ended_lines after)).1 parts n) over.id_is
      (subst (λ (e : ChainEnd). BadOn it.walk.id (walked e (ended_lines after)).1 parts n) (begins_at first it.walk.end over.end_is) later))

  no_of : (IsAt : Place → List (List ℕ) → CheckFault → Type 0) → (IsOfEnd first (is.had ++ is.more) is.cause → IsWhole it after is.had is.after is.more parts)
      × AreRefused first (is.had ++ is.more) (IsAt first (is.had ++ is.more)) is.cause → IsNo one parts IsAt fault
  no_of IsAt refused = record {
    first = first;
    texts = is.had ++ is.more;
    begins = begins_with;
    cause = is.cause;
    fault_is = is.fault_is;
    refused = refused.1;
    is_bad = λ n same. (begins.0, ended_lines after, begins.1, begins.2, bad_in n (is.is_bad n same));
    whole = λ of_end. has_all (refused.0 of_end);
  }

  pub is_no : (began R : Register) → CheckedTo began first place R it [] → IsNo one parts (λ first texts. IsRefused began first texts place R) fault
  is_no began R to = no_of (λ first texts. IsRefused began first texts place R) (is.why began first place R to)

  pub is_no_from : (copied R : Register) (at : Place) → CheckedToFrom copied at first place R it []
      → IsNo one parts (λ first texts. IsRefusedFrom copied at first texts place R) fault
  is_no_from copied R at to = no_of (λ first texts. IsRefusedFrom copied at first texts place R) (is.why_from copied at first place R to)

-- half a line
half_over : (one after : List ℕ) (parts : List (List ℕ)) (first place : Place) (it : Checking) (entries : List Entry) (fault : Fault) → FirstIs first (Some after) one
    → GoesOver first place it [] entries → (is : RefusesHalves it after parts fault) → IsNextAfter first (ended_lines after ++ is.more) is.number → EndsInHalf one parts fault
half_over one after parts first place it entries fault begins over is next = record {
  first = first;
  text = begins.0;
  lines = ended_lines after;
  more = is.more;
  lines_are = begins.1;
  read = begins.2;
  half = by is.half;
  number = is.number;
  fault_is = is.fault_is;
  is_next = next;
}
  where
    by : IsHalf after is.more ⊎ HalfOn it.walk.id (walked it.walk.end (ended_lines after)).1 parts is.more
        → IsHalf one is.more ⊎ HalfOn first.id (walked (end_at first) (ended_lines after)).1 parts is.more
    by (inl half) = inl (begins.3 ∙ half.0, half.1)
    by (inr half) = inr (subst (λ (i : List ℕ). HalfOn i (walked (end_at first) (ended_lines after)).1 parts is.more) over.id_is
        (subst (λ (e : ChainEnd). HalfOn it.walk.id (walked e (ended_lines after)).1 parts is.more) (begins_at first it.walk.end over.end_is) half))

-- a part was not read, or is refused by its first line
abbrev IsStopped : Option (List ℕ) → Option (List (List ℕ)) → Fault → Type 0
IsStopped one all fault = IsUnreadPart fault ⊎ IfSome one (λ bytes. IfSome all (λ known. Breaks bytes known fault))

checks_stopped : (files : Files) (began R : Register) (one : Option (List ℕ)) (all : Option (List (List ℕ))) (place : Place) (result : Result (String Global) Fault) (fault : Fault)
    → result ≡ Err fault → IsStopped one all fault → IfSome one (λ bytes. IfSome all (λ known. Checks files began bytes known place R result))
checks_stopped files began R None all place result fault is of = tt
checks_stopped files began R (Some one) None place result fault is of = tt
checks_stopped files began R (Some one) (Some parts) place result fault is (inl unread) =
    subst (λ (it : Result (String Global) Fault). Checks files began one parts place R it) (sym is) (inl unread)
checks_stopped files began R (Some one) (Some parts) place result fault is (inr breaks) =
    subst (λ (it : Result (String Global) Fault). Checks files began one parts place R it) (sym is) (inr (inl breaks))

checks_stopped_from : (copied R : Register) (at : Place) (one : Option (List ℕ)) (all : Option (List (List ℕ))) (place : Place) (result : Result (String Global) Fault) (fault : Fault)
    → result ≡ Err fault → IsStopped one all fault → IfSome one (λ bytes. IfSome all (λ known. ChecksFrom copied at bytes known place R result))
checks_stopped_from copied R at None all place result fault is of = tt
checks_stopped_from copied R at (Some one) None place result fault is of = tt
checks_stopped_from copied R at (Some one) (Some parts) place result fault is (inl unread) =
    subst (λ (it : Result (String Global) Fault). ChecksFrom copied at one parts place R it) (sym is) (inl unread)
checks_stopped_from copied R at (Some one) (Some parts) place result fault is (inr breaks) =
    subst (λ (it : Result (String Global) Fault). ChecksFrom copied at one parts place R it) (sym is) (inr (inl breaks))

-- the first
pub checks_part : (files : Files) (began R : Register) (one : Option (List ℕ)) (all : Option (List (List ℕ))) (place : Place) (result : Result (String Global) Fault) (fault : Fault)
    → result ≡ Err fault → IsUnreadOr IsNoFirst one fault → IfSome one (λ bytes. IfSome all (λ known. Checks files began bytes known place R result))
checks_part files began R one all place result fault is refused = checks_stopped files began R one all place result fault is (first_breaks one all fault refused)

pub checks_part_from : (copied R : Register) (at : Place) (one : Option (List ℕ)) (all : Option (List (List ℕ))) (place : Place) (result : Result (String Global) Fault) (fault : Fault)
    → result ≡ Err fault → IsUnreadOr IsNoFirst one fault → IfSome one (λ bytes. IfSome all (λ known. ChecksFrom copied at bytes known place R result))
checks_part_from copied R at one all place result fault is refused = checks_stopped_from copied R at one all place result fault is (first_breaks one all fault refused)

-- the first line is of other files
pub checks_others : (files : Files) (began R : Register) (one now : Option (List ℕ)) (all : Option (List (List ℕ))) (first place : Place) (result : Result (String Global) Fault) (fault : Fault)
    → result ≡ Err fault → IfSome one (FirstIs first now) → AreOthers files first fault
    → IfSome one (λ bytes. IfSome all (λ known. Checks files began bytes known place R result))
checks_others files began R None now all first place result fault is begins others = tt
checks_others files began R (Some one) now None first place result fault is begins others = tt
checks_others files began R (Some one) None (Some parts) first place result fault is begins others = absurd begins
checks_others files began R (Some one) (Some after) (Some parts) first place result fault is begins others =
    subst (λ (it : Result (String Global) Fault). Checks files began one parts place R it) (sym is) (by others)
  where
    by : AreOthers files first fault → Checks files began one parts place R (Err fault)
    by (inl of) = inl (inr (inl of))
    by (inr (same, not)) = inr (inr (inl (record {
      first = first;
      text = begins.0;
      lines = ended_lines after;
      lines_are = begins.1;
      read = begins.2;
      not = not;
      fault_is = same;
    })))

-- no line was read, and the first is refused
nothing_read : (first : Place) → AreLines first [] []
unfolding read_on
nothing_read first = record { read = refl; all = refl }

-- where no line was read, none is open
never_end : (first : Place) (cause : CheckFault) → (cause ≡ TooShort → ⊥) → IsOfEnd first [] cause → ⊥
unfolding read_on
never_end first OtherRegister short of_end = of_end
never_end first (BadLine n) short of_end = of_end
never_end first (Reply n) short of_end = of_end
never_end first (Differs n) short of_end = true≢false (sym of_end.1)
never_end first (Tables found) short of_end = of_end
never_end first TooShort short of_end = short refl
never_end first NoMemory short of_end = of_end

first_front : (one after : List ℕ) (parts : List (List ℕ)) (first : Place) → FirstIs first (Some after) one → BeginsWith one parts first []
first_front one after parts first begins = record {
  text = begins.0;
  lines = [];
  after = ended_lines after;
  more = [];
  lines_are = begins.1;
  read = begins.2;
  texts_are = refl;
  go_on = inl refl;
}

pub checks_first : (files : Files) (began R : Register) (one now : Option (List ℕ)) (all : Option (List (List ℕ))) (first place : Place) (result : Result (String Global) Fault)
    (cause : CheckFault) → result ≡ Err (of_check cause) → IfSome one (FirstIs first now) → RefusesRun began first [] place R cause
    → IfSome one (λ bytes. IfSome all (λ known. Checks files began bytes known place R result))
checks_first files began R None now all first place result cause is begins why = tt
checks_first files began R (Some one) now None first place result cause is begins why = tt
checks_first files began R (Some one) None (Some parts) first place result cause is begins why = absurd begins
checks_first files began R (Some one) (Some after) (Some parts) first place result cause is begins why =
    subst (λ (it : Result (String Global) Fault). Checks files began one parts place R it) (sym is) (inr (inr (inr (inl (record {
      first = first;
      texts = [];
      begins = first_front one after parts first begins;
      cause = cause;
      fault_is = refl;
      refused = inl (record { entries = []; lines = nothing_read first; cause = inl why });
      is_bad = λ n bads. absurd (subst (λ (f : CheckFault). RefusesRun began first [] place R f) bads why);
      whole = λ of_end. absurd (never_end first cause (λ short. subst (λ (f : CheckFault). RefusesRun began first [] place R f) short why) of_end);
    })))))

never_short : (copied R : Register) (at first place : Place) (cause : CheckFault) → RefusesFrom copied at first [] [] place R cause → cause ≡ TooShort → ⊥
never_short copied R at first place cause (inl is) short = subst (λ (f : CheckFault). RefusesCopy first [] at place f) short is
never_short copied R at first place cause (inr is) short = subst (λ (f : CheckFault). RefusesRun copied at [] place R f) short is.1

never_bad : (copied R : Register) (at first place : Place) (cause : CheckFault) → RefusesFrom copied at first [] [] place R cause → (n : ℕ) → cause ≡ BadLine n → ⊥
never_bad copied R at first place cause (inl is) n bads = subst (λ (f : CheckFault). RefusesCopy first [] at place f) bads is
never_bad copied R at first place cause (inr is) n bads = subst (λ (f : CheckFault). RefusesRun copied at [] place R f) bads is.1

pub checks_first_from : (copied R : Register) (at : Place) (one now : Option (List ℕ)) (all : Option (List (List ℕ))) (first place : Place) (result : Result (String Global) Fault)
    (cause : CheckFault) → result ≡ Err (of_check cause) → IfSome one (FirstIs first now) → RefusesFrom copied at first [] [] place R cause
    → IfSome one (λ bytes. IfSome all (λ known. ChecksFrom copied at bytes known place R result))
checks_first_from copied R at None now all first place result cause is begins why = tt
checks_first_from copied R at (Some one) now None first place result cause is begins why = tt
checks_first_from copied R at (Some one) None (Some parts) first place result cause is begins why = absurd begins
checks_first_from copied R at (Some one) (Some after) (Some parts) first place result cause is begins why =
    subst (λ (it : Result (String Global) Fault). ChecksFrom copied at one parts place R it) (sym is) (inr (inr (inl (record {
      first = first;
      texts = [];
      begins = first_front one after parts first begins;
      cause = cause;
      fault_is = refl;
      refused = inl (record { before = []; entries = []; lines = nothing_read first; cause = inl why });
      is_bad = λ n bads. absurd (never_bad copied R at first place cause why n bads);
      whole = λ of_end. absurd (never_end first cause (never_short copied R at first place cause why) of_end);
    }))))

-- a further part is refused by its first line
broken_over : (one after : List ℕ) (parts : List (List ℕ)) (first place : Place) (it : Checking) (entries : List Entry) (fault : Fault) → FirstIs first (Some after) one
    → GoesOver first place it [] entries → BreaksAfter it.walk.id (walked it.walk.end (ended_lines after)).1 parts fault → Breaks one parts fault
broken_over one after parts first place it entries fault begins over breaks = inr (
  first,
  begins.0,
  ended_lines after,
  begins.1,
  begins.2,
  subst (λ (i : List ℕ). BreaksAfter i (walked (end_at first) (ended_lines after)).1 parts fault) over.id_is
      (subst (λ (e : ChainEnd). BreaksAfter it.walk.id (walked e (ended_lines after)).1 parts fault) (begins_at first it.walk.end over.end_is) breaks),
)

-- what comes of all lines
pub checks_over : (files : Files) (began R : Register) (one now : Option (List ℕ)) (all : Option (List (List ℕ))) (first place : Place) (it : Checking) (result : Result (String Global) Fault)
    → IfSome one (FirstIs first now) → IsOfFiles files first → CheckedTo began first place R it []
    → IfOk result (λ text. IfSome now (λ bytes. IfSome all (λ known. ChecksAll it bytes known (string_bytes text)))) → IfErr result (IsRefusedBy it now all)
    → IfSome one (λ bytes. IfSome all (λ known. Checks files began bytes known place R result))
checks_over files began R one now all first place it (Ok text) begins of to checks refused = checks_yes files began R one now all first place it text begins of to checks
checks_over files began R one now all first place it (Err fault) begins of to checks (inl part) = checks_stopped files began R one all place (Err fault) fault refl (inl part)
checks_over files began R one now all first place it (Err fault) begins of to checks (inr refused) = by one now all begins refused
  where
    by : (file left : Option (List ℕ)) (found : Option (List (List ℕ))) → IfSome file (FirstIs first left)
        → IfSome left (λ bytes. IfSome found (λ known. RefusesSome it bytes known fault))
        → IfSome file (λ bytes. IfSome found (λ known. Checks files began bytes known place R (Err fault)))
    by None left found front is = tt
    by (Some file) left None front is = tt
    by (Some file) None (Some parts) front is = absurd front
    by (Some file) (Some after) (Some parts) front (inl breaks) = inr (inl (broken_over file after parts first place it to.entries fault front to.over breaks))
    by (Some file) (Some after) (Some parts) front (inr (inl is)) = inr (inr (inr (inl (is_no file after parts first place it to.entries fault front to.over is began R to))))
    by (Some file) (Some after) (Some parts) front (inr (inr is)) =
        inr (inr (inr (inr (half_over file after parts first place it to.entries fault front to.over is (is.why began first place R to)))))

pub checks_over_copy : (copied R : Register) (at : Place) (one now : Option (List ℕ)) (all : Option (List (List ℕ))) (first place : Place) (it : Checking)
    (result : Result (String Global) Fault) → IfSome one (FirstIs first now) → CheckedToFrom copied at first place R it []
    → IfOk result (λ text. IfSome now (λ bytes. IfSome all (λ known. ChecksAll it bytes known (string_bytes text)))) → IfErr result (IsRefusedBy it now all)
    → IfSome one (λ bytes. IfSome all (λ known. ChecksFrom copied at bytes known place R result))
checks_over_copy copied R at one now all first place it (Ok text) begins to checks refused = checks_yes_from copied R at one now all first place it text begins to checks
checks_over_copy copied R at one now all first place it (Err fault) begins to checks (inl part) = checks_stopped_from copied R at one all place (Err fault) fault refl (inl part)
checks_over_copy copied R at one now all first place it (Err fault) begins to checks (inr refused) = by one now all begins refused
  where
    by : (file left : Option (List ℕ)) (found : Option (List (List ℕ))) → IfSome file (FirstIs first left)
        → IfSome left (λ bytes. IfSome found (λ known. RefusesSome it bytes known fault))
        → IfSome file (λ bytes. IfSome found (λ known. ChecksFrom copied at bytes known place R (Err fault)))
    by None left found front is = tt
    by (Some file) left None front is = tt
    by (Some file) None (Some parts) front is = absurd front
    by (Some file) (Some after) (Some parts) front (inl breaks) = inr (inl (broken_over file after parts first place it (to.before ++ to.entries) fault front to.over breaks))
    by (Some file) (Some after) (Some parts) front (inr (inl is)) =
        inr (inr (inl (is_no_from file after parts first place it (to.before ++ to.entries) fault front to.over is copied R at to)))
    by (Some file) (Some after) (Some parts) front (inr (inr is)) =
        inr (inr (inr (half_over file after parts first place it (to.before ++ to.entries) fault front to.over is (is.why_from copied at first place R to))))
