-- A register is checked against a journal part by part.
use Rattle.std.proofs.Common.{◌≡◌, ◌∙◌, ap, inl, inr, refl, subst, sym, ℕ, Bool, false, true, List, [], ◌∷◌, ◌++◌, append_assoc, append-nil, Result, Ok, Err}
use Rattle.std.specs.Prelude.{IfErr, IfOk, IfSome, IsErrAnd, None, Option, Some, String, Vec, string_bytes}
use Rattle.std.specs.declared.alloc.Global.{Global}
use Rattle.clr_journal.specs.Lines.{ended_lines}
use Rattle.clr_rules.specs.Register.{Register}
use Rattle.clr_chain.specs.Chain.{read_on}
use Rattle.clr_chain.specs.First.{end_at, read_first}
use Rattle.clr_chain.specs.Walking.{part_of, step_of}
use Rattle.clr_chain.specs.Sums.{Files}
use Rattle.clr_chain.specs.declared.chain_end.ChainEnd.{ChainEnd}
use Rattle.clr_journal.specs.Line.{Entry}
use Rattle.clr_edge.specs.Lines.{ends_whole}
use Rattle.clr_edge.specs.declared.fault.Fault.{Fault}
use Rattle.clr_rules.specs.declared.place.Place.{Place}
use Rattle.clr_checking.specs.Checking.{EndsAt, IsChecked, IsCheckedFrom}
use Rattle.clr_checking.specs.CheckingOn.{CheckedTo, CheckedToFrom, GoesOver, IsReady}
use Rattle.clr_checking.specs.declared.checking.Checking.{Checking}
use Rattle.clr_checking.specs.declared.fault.CheckFault.{CheckFault}
use Rattle.clr_keeping.specs.Journal.{all_known}
use Rattle.clr_keeping.specs.Parts.{BreaksAfter, FirstIs, ReadsLine, walked}
use Rattle.clr_commands.specs.Verify.{BadOn, BeginOn, Checks, ChecksAll, ChecksFrom, ChecksOn, GoOn, HalfOn, HasBad, HasLines, IsOfCheck, IsOfFiles, verified_text}
use Rattle.clr_keeping.proofs.BrokenParts.{breaks-more}
use Rattle.clr_keeping.proofs.PartLines.{AreBefore, before-more, before-none, before-whole, known-next, walked-end, walked-same}

-- ---- the lines of a part

pub ChecksOn-none : (it : Checking) → ChecksOn it it []
ChecksOn-none it = record {
  end = sym (walked-same it.walk.end);
  went = λ began first place R texts is. subst (λ (l : List (List ℕ)). CheckedTo began first place R it l) (sym (append-nil texts)) is;
  went_from = λ copied at first place R texts is. subst (λ (l : List (List ℕ)). CheckedToFrom copied at first place R it l) (sym (append-nil texts)) is;
}

-- these lines of it were checked
pub record CheckedLines (left now : Option (List ℕ)) (old it : Checking) : Type 0 where
  pub ready : IsReady it
  pub id : it.walk.id ≡ old.walk.id
  pub lines : List (List ℕ)
  pub before : IfSome left (AreBefore lines now)
  pub checked : ChecksOn old it lines

pub lines_none : (left : Option (List ℕ)) (old : Checking) → IsReady old → CheckedLines left left old old
lines_none left old ready = record { ready = ready; id = refl; lines = []; before = before-none left; checked = ChecksOn-none old }

pub lines_more : (left now next : Option (List ℕ)) (old it new : Checking) (text : Vec ℕ Global) → CheckedLines left now old it
    → IfSome now (ReadsLine (Some text) next) → IsReady new
    → ((began : Register) (first place : Place) (R : Register) (texts : List (List ℕ)) → CheckedTo began first place R it texts
    → CheckedTo began first place R new (texts ++ text.items ∷ []))
    → ((copied : Register) (at first place : Place) (R : Register) (texts : List (List ℕ)) → CheckedToFrom copied at first place R it texts
    → CheckedToFrom copied at first place R new (texts ++ text.items ∷ []))
    → new.walk.end ≡ (step_of it.walk.end text.items).1 → new.walk.id ≡ it.walk.id → CheckedLines left next old new
lines_more left now next old it new text had reads ready went went_from end id = record {
  ready = ready;
  id = id ∙ had.id;
  lines = had.lines ++ text.items ∷ [];
  before = before-more left now next had.lines text had.before reads;
  checked = record {
    end = end ∙ ap (λ (e : ChainEnd). (step_of e text.items).1) had.checked.end ∙ sym (walked-end old.walk.end had.lines text.items);
    went = λ began first place R texts is.
        subst (λ (l : List (List ℕ)). CheckedTo began first place R new l) (append_assoc texts had.lines (text.items ∷ []))
        (went began first place R (texts ++ had.lines) (had.checked.went began first place R texts is));
    went_from = λ copied at first place R texts is.
        subst (λ (l : List (List ℕ)). CheckedToFrom copied at first place R new l) (append_assoc texts had.lines (text.items ∷ []))
        (went_from copied at first place R (texts ++ had.lines) (had.checked.went_from copied at first place R texts is));
  };
}

-- the same of a text that is read at its bytes
pub lines_seen : (left now next : Option (List ℕ)) (old it new : Checking) (text : Vec ℕ Global) (seen : List ℕ) → seen ≡ text.items → CheckedLines left now old it
    → IfSome now (ReadsLine (Some text) next) → IsReady new
    → ((began : Register) (first place : Place) (R : Register) (texts : List (List ℕ)) → CheckedTo began first place R it texts
    → CheckedTo began first place R new (texts ++ seen ∷ []))
    → ((copied : Register) (at first place : Place) (R : Register) (texts : List (List ℕ)) → CheckedToFrom copied at first place R it texts
    → CheckedToFrom copied at first place R new (texts ++ seen ∷ []))
    → new.walk.end ≡ (step_of it.walk.end seen).1 → new.walk.id ≡ it.walk.id → CheckedLines left next old new
lines_seen left now next old it new text seen same had reads ready went went_from end id =
    lines_more left now next old it new text had reads ready
    (λ began first place R texts is. subst (λ (t : List ℕ). CheckedTo began first place R new (texts ++ t ∷ [])) same (went began first place R texts is))
    (λ copied at first place R texts is. subst (λ (t : List ℕ). CheckedToFrom copied at first place R new (texts ++ t ∷ [])) same (went_from copied at first place R texts is))
    (end ∙ ap (λ (t : List ℕ). (step_of it.walk.end t).1) same) id

pub lines_all : (left now next : Option (List ℕ)) (old it : Checking) → CheckedLines left now old it → IfSome now (ReadsLine None next)
    → IfSome next (λ bytes. true ≡ ends_whole bytes) → IfSome left (λ bytes. ChecksOn old it (ended_lines bytes) × (ends_whole bytes ≡ true))
lines_all left now next old it had none ends = by left (before-whole left now next had.lines true had.before none ends)
  where
    by : (bytes : Option (List ℕ)) → IfSome bytes (λ known. (ended_lines known ≡ had.lines) × (ends_whole known ≡ true))
        → IfSome bytes (λ known. ChecksOn old it (ended_lines known) × (ends_whole known ≡ true))
    by None all = tt
    by (Some bytes) all = (subst (λ (l : List (List ℕ)). ChecksOn old it l) (sym all.0) had.checked, all.1)

-- ---- the parts

-- the lines of the first part and of some more were checked; the others go on where it has come to
pub record CheckedParts (first : Option (List ℕ)) (all left : Option (List (List ℕ))) (old it : Checking) : Type 0 where
  pub ready : IsReady it
  pub id : it.walk.id ≡ old.walk.id
  pub whole : IfSome first (λ bytes. ends_whole bytes ≡ true)
  pub known : IfSome first (λ bytes. IfSome all (λ parts. (rest more : List (List ℕ)) × (left ≡ Some rest)
      × ((after : List (List ℕ)) → GoOn old.walk.id it.walk.end rest after → GoOn old.walk.id (walked old.walk.end (ended_lines bytes)).1 parts (more ++ after))
      × ((front : List (List ℕ)) → BeginOn old.walk.id it.walk.end rest front → BeginOn old.walk.id (walked old.walk.end (ended_lines bytes)).1 parts (more ++ front))
      × ((texts : List (List ℕ)) → HalfOn old.walk.id it.walk.end rest texts → HalfOn old.walk.id (walked old.walk.end (ended_lines bytes)).1 parts (more ++ texts))
      × ((fault : Fault) → BreaksAfter old.walk.id it.walk.end rest fault → BreaksAfter old.walk.id (walked old.walk.end (ended_lines bytes)).1 parts fault)
      × ((n : ℕ) → BadOn old.walk.id it.walk.end rest n → BadOn old.walk.id (walked old.walk.end (ended_lines bytes)).1 parts n)
      × ((began : Register) (first place : Place) (R : Register) → CheckedTo began first place R old []
      → CheckedTo began first place R it (ended_lines bytes ++ more))
      × ((copied : Register) (at first place : Place) (R : Register) → CheckedToFrom copied at first place R old []
      → CheckedToFrom copied at first place R it (ended_lines bytes ++ more))))

-- what is known of them, where all bytes are
abbrev pub Known : List (List ℕ) → List (List ℕ) → Option (List (List ℕ)) → Checking → Checking → Type 0
Known lines parts left old it = (rest more : List (List ℕ)) × (left ≡ Some rest)
    × ((after : List (List ℕ)) → GoOn old.walk.id it.walk.end rest after → GoOn old.walk.id (walked old.walk.end lines).1 parts (more ++ after))
    × ((front : List (List ℕ)) → BeginOn old.walk.id it.walk.end rest front → BeginOn old.walk.id (walked old.walk.end lines).1 parts (more ++ front))
    × ((texts : List (List ℕ)) → HalfOn old.walk.id it.walk.end rest texts → HalfOn old.walk.id (walked old.walk.end lines).1 parts (more ++ texts))
    × ((fault : Fault) → BreaksAfter old.walk.id it.walk.end rest fault → BreaksAfter old.walk.id (walked old.walk.end lines).1 parts fault)
    × ((n : ℕ) → BadOn old.walk.id it.walk.end rest n → BadOn old.walk.id (walked old.walk.end lines).1 parts n)
    × ((began : Register) (first place : Place) (R : Register) → CheckedTo began first place R old [] → CheckedTo began first place R it (lines ++ more))
    × ((copied : Register) (at first place : Place) (R : Register) → CheckedToFrom copied at first place R old [] → CheckedToFrom copied at first place R it (lines ++ more))

pub go_on-none : (id : List ℕ) (end : ChainEnd) → GoOn id end [] []
unfolding GoOn
go_on-none id end = refl

go_on-more : (id : List ℕ) (end next : ChainEnd) (one text : List ℕ) (rest lines more : List (List ℕ)) → ended_lines one ≡ text ∷ lines → ends_whole one ≡ true
    → part_of id end (read_first text) ≡ (true, next) → GoOn id (walked next lines).1 rest more → GoOn id end (one ∷ rest) (lines ++ more)
unfolding GoOn
go_on-more id end next one text rest lines more is whole part goes = (text, lines, more, next, is, whole, part, refl, goes)

-- and where one of them ends in half a line
half_on-more : (id : List ℕ) (end next : ChainEnd) (one text : List ℕ) (rest lines more : List (List ℕ)) → ended_lines one ≡ text ∷ lines
    → part_of id end (read_first text) ≡ (true, next) → HalfOn id (walked next lines).1 rest more → HalfOn id end (one ∷ rest) (lines ++ more)
unfolding HalfOn
half_on-more id end next one text rest lines more is part half = (text, lines, more, next, is, part, refl, inr half)

pub half_on-part : (id : List ℕ) (end next : ChainEnd) (one text : List ℕ) (rest lines : List (List ℕ)) → ended_lines one ≡ text ∷ lines
    → part_of id end (read_first text) ≡ (true, next) → ends_whole one ≡ false → HalfOn id end (one ∷ rest) lines
unfolding HalfOn
half_on-part id end next one text rest lines is part half = (text, lines, [], next, is, part, sym (append-nil lines), inl (half, refl))

-- and where a line of them is bad
bad_on-more : (id : List ℕ) (end next : ChainEnd) (one text : List ℕ) (rest lines : List (List ℕ)) (n : ℕ) → ended_lines one ≡ text ∷ lines
    → part_of id end (read_first text) ≡ (true, next) → BadOn id (walked next lines).1 rest n → BadOn id end (one ∷ rest) n
unfolding BadOn
bad_on-more id end next one text rest lines n is part later = (text, lines, next, is, part, inr later)

pub bad_on-part : (id : List ℕ) (end next : ChainEnd) (one text : List ℕ) (rest lines : List (List ℕ)) (n : ℕ) → ended_lines one ≡ text ∷ lines
    → part_of id end (read_first text) ≡ (true, next) → HasBad next lines n → BadOn id end (one ∷ rest) n
unfolding BadOn
bad_on-part id end next one text rest lines n is part here = (text, lines, next, is, part, inl here)

-- a front of them, as far as they were read
pub begin_on-none : (id : List ℕ) (end : ChainEnd) (rest : List (List ℕ)) → BeginOn id end rest []
unfolding BeginOn
begin_on-none id end [] = refl
begin_on-none id end (one ∷ rest) = inl refl

pub begin_on-more : (id : List ℕ) (end next : ChainEnd) (one text : List ℕ) (rest lines more : List (List ℕ)) → ended_lines one ≡ text ∷ lines
    → part_of id end (read_first text) ≡ (true, next) → BeginOn id (walked next lines).1 rest more → BeginOn id end (one ∷ rest) (lines ++ more)
unfolding BeginOn
begin_on-more id end next one text rest lines more is part begins =
    inr (text, lines, [], more, next, is ∙ ap (λ (l : List (List ℕ)). text ∷ l) (sym (append-nil lines)), part, refl, inr (refl, begins))

pub begin_on-part : (id : List ℕ) (end next : ChainEnd) (one text : List ℕ) (rest lines after : List (List ℕ)) → ended_lines one ≡ text ∷ (lines ++ after)
    → part_of id end (read_first text) ≡ (true, next) → BeginOn id end (one ∷ rest) lines
unfolding BeginOn
begin_on-part id end next one text rest lines after is part = inr (text, lines, after, [], next, is, part, sym (append-nil lines), inl refl)

-- the first part was checked
pub parts_none : (first : Option (List ℕ)) (all : Option (List (List ℕ))) (old it : Checking) → IsReady it → it.walk.id ≡ old.walk.id
    → IfSome first (λ bytes. ChecksOn old it (ended_lines bytes) × (ends_whole bytes ≡ true)) → CheckedParts first all all old it
parts_none first all old it ready id checked = record { ready = ready; id = id; whole = whole first checked; known = by first all checked }
  where
    whole : (bytes : Option (List ℕ)) → IfSome bytes (λ known. ChecksOn old it (ended_lines known) × (ends_whole known ≡ true))
        → IfSome bytes (λ known. ends_whole known ≡ true)
    whole None is = tt
    whole (Some bytes) is = is.1

    by : (bytes : Option (List ℕ)) (found : Option (List (List ℕ))) → IfSome bytes (λ known. ChecksOn old it (ended_lines known) × (ends_whole known ≡ true))
        → IfSome bytes (λ known. IfSome found (λ parts. Known (ended_lines known) parts found old it))
    by None found is = tt
    by (Some bytes) None is = tt
    by (Some bytes) (Some parts) (is, ends) = (
      parts,
      [],
      refl,
      λ after goes. subst (λ (e : ChainEnd). GoOn old.walk.id e parts after) is.end goes,
      λ front begins. subst (λ (e : ChainEnd). BeginOn old.walk.id e parts front) is.end begins,
      λ texts half. subst (λ (e : ChainEnd). HalfOn old.walk.id e parts texts) is.end half,
      λ fault breaks. subst (λ (e : ChainEnd). BreaksAfter old.walk.id e parts fault) is.end breaks,
      λ n worse. subst (λ (e : ChainEnd). BadOn old.walk.id e parts n) is.end worse,
      λ began place R S to.
          subst (λ (l : List (List ℕ)). CheckedTo began place R S it l) (sym (append-nil (ended_lines bytes))) (is.went began place R S [] to),
      λ copied at place R S to.
          subst (λ (l : List (List ℕ)). CheckedToFrom copied at place R S it l) (sym (append-nil (ended_lines bytes))) (is.went_from copied at place R S [] to),
    )

-- one more was
module _ (first : Option (List ℕ)) (all left : Option (List (List ℕ))) (old it : Checking) (had : CheckedParts first all left old it) where
  pub parts_more : (bytes : Option (List ℕ)) (others : List (Option (List ℕ))) (line : Vec ℕ Global) (now : Option (List ℕ)) (begun new : Checking)
      → left ≡ all_known (bytes ∷ others) → IfSome bytes (ReadsLine (Some line) now)
      → (true, begun.walk.end) ≡ part_of it.walk.id it.walk.end (read_first line.items) → begun.walk.id ≡ it.walk.id
      → ((began : Register) (place : Place) (to : Place) (R : Register) (texts : List (List ℕ)) → CheckedTo began place to R it texts → CheckedTo began place to R begun texts)
      → ((copied : Register) (at place to : Place) (R : Register) (texts : List (List ℕ)) → CheckedToFrom copied at place to R it texts → CheckedToFrom copied at place to R begun texts)
      → IsReady new → new.walk.id ≡ begun.walk.id → IfSome now (λ known. ChecksOn begun new (ended_lines known) × (ends_whole known ≡ true)) → CheckedParts first all (all_known others) old new
  parts_more bytes others line now begun new is_left reads part same went went_from ready id checked =
      record { ready = ready; id = id ∙ same ∙ had.id; whole = had.whole; known = by first all had.known }
    where
      goes : (one : List ℕ) (after : Option (List ℕ)) → ReadsLine (Some line) after one
          → IfSome after (λ known. ChecksOn begun new (ended_lines known) × (ends_whole known ≡ true))
          → (lines : List (List ℕ)) × (ended_lines one ≡ line.items ∷ lines) × (ends_whole one ≡ true) × ChecksOn begun new lines
      goes one None read is = absurd read.1
      goes one (Some after) read is = (ended_lines after, read.0, read.1 ∙ is.1, is.0)

      part_is : part_of old.walk.id it.walk.end (read_first line.items) ≡ (true, begun.walk.end)
      part_is = sym (subst (λ (i : List ℕ). (true, begun.walk.end) ≡ part_of i it.walk.end (read_first line.items)) had.id part)

      by : (file : Option (List ℕ)) (found : Option (List (List ℕ))) → IfSome file (λ known. IfSome found (λ parts. Known (ended_lines known) parts left old it))
          → IfSome file (λ known. IfSome found (λ parts. Known (ended_lines known) parts (all_known others) old new))
      by None found is = tt
      by (Some file) None is = tt
      by (Some file) (Some parts) (rest, more, is_rest, go, begin, halve, broken, worsen, to, to_from) =
          let (one, after, has, is_after, next) = known-next bytes others rest (sym is_left ∙ is_rest) in
          let read : ReadsLine (Some line) now one = subst (λ (b : Option (List ℕ)). IfSome b (ReadsLine (Some line) now)) has reads in
          let (lines, lines_are, whole, is) = goes one now read checked in (
            after,
            more ++ lines,
            is_after,
            λ last goes_last.
                subst (λ (l : List (List ℕ)). GoOn old.walk.id (walked old.walk.end (ended_lines file)).1 parts l) (sym (append_assoc more lines last))
                (go (lines ++ last) (subst (λ (l : List (List ℕ)). GoOn old.walk.id it.walk.end l (lines ++ last)) (sym next)
                (go_on-more old.walk.id it.walk.end begun.walk.end one line.items after lines last lines_are whole part_is
                (subst (λ (e : ChainEnd). GoOn old.walk.id e after last) is.end goes_last)))),
            λ front begins.
                subst (λ (l : List (List ℕ)). BeginOn old.walk.id (walked old.walk.end (ended_lines file)).1 parts l) (sym (append_assoc more lines front))
                (begin (lines ++ front) (subst (λ (l : List (List ℕ)). BeginOn old.walk.id it.walk.end l (lines ++ front)) (sym next)
                (begin_on-more old.walk.id it.walk.end begun.walk.end one line.items after lines front lines_are part_is
                (subst (λ (e : ChainEnd). BeginOn old.walk.id e after front) is.end begins)))),
            λ texts half.
                subst (λ (l : List (List ℕ)). HalfOn old.walk.id (walked old.walk.end (ended_lines file)).1 parts l) (sym (append_assoc more lines texts))
                (halve (lines ++ texts) (subst (λ (l : List (List ℕ)). HalfOn old.walk.id it.walk.end l (lines ++ texts)) (sym next)
                (half_on-more old.walk.id it.walk.end begun.walk.end one line.items after lines texts lines_are part_is
                (subst (λ (e : ChainEnd). HalfOn old.walk.id e after texts) is.end half)))),
            λ fault breaks.
                broken fault (subst (λ (l : List (List ℕ)). BreaksAfter old.walk.id it.walk.end l fault) (sym next)
                (breaks-more old.walk.id it.walk.end begun.walk.end one line.items after lines fault lines_are part_is
                (subst (λ (e : ChainEnd). BreaksAfter old.walk.id e after fault) is.end breaks))),
            λ n worse.
                worsen n (subst (λ (l : List (List ℕ)). BadOn old.walk.id it.walk.end l n) (sym next)
                (bad_on-more old.walk.id it.walk.end begun.walk.end one line.items after lines n lines_are part_is
                (subst (λ (e : ChainEnd). BadOn old.walk.id e after n) is.end worse))),
            λ began place R S was.
                subst (λ (l : List (List ℕ)). CheckedTo began place R S new l) (append_assoc (ended_lines file) more lines)
                (is.went began place R S (ended_lines file ++ more) (went began place R S (ended_lines file ++ more) (to began place R S was))),
            λ copied at place R S was.
                subst (λ (l : List (List ℕ)). CheckedToFrom copied at place R S new l) (append_assoc (ended_lines file) more lines)
                (is.went_from copied at place R S (ended_lines file ++ more) (went_from copied at place R S (ended_lines file ++ more) (to_from copied at place R S was))),
          )

  -- all were
  pub parts_all : (count : ℕ) (text : List ℕ) → left ≡ Some [] → text ≡ verified_text count
      → ((began : Register) (place to : Place) (R : Register) (texts : List (List ℕ)) → CheckedTo began place to R it texts → IsChecked began place texts to R count)
      → ((copied : Register) (at place to : Place) (R : Register) (texts : List (List ℕ)) → CheckedToFrom copied at place to R it texts → IsCheckedFrom copied at place texts to R count)
      → IfSome first (λ bytes. IfSome all (λ parts. ChecksAll old bytes parts text))
  parts_all count text none is said said_from = by first all had.whole had.known
    where
      by : (file : Option (List ℕ)) (found : Option (List (List ℕ))) → IfSome file (λ known. ends_whole known ≡ true)
          → IfSome file (λ known. IfSome found (λ parts. Known (ended_lines known) parts left old it))
          → IfSome file (λ known. IfSome found (λ parts. ChecksAll old known parts text))
      by None found whole known = tt
      by (Some file) None whole known = tt
      by (Some file) (Some parts) whole (rest, more, is_rest, go, begin, halve, broken, worsen, to, to_from) =
          let empty : rest ≡ [] = cc (sym none ∙ is_rest) in
          record {
            whole = whole;
            more = more;
            go_on =
                subst (λ (l : List (List ℕ)). GoOn old.walk.id (walked old.walk.end (ended_lines file)).1 parts l) (append-nil more)
                (go [] (subst (λ (l : List (List ℕ)). GoOn old.walk.id it.walk.end l []) (sym empty) (go_on-none old.walk.id it.walk.end)));
            count = count;
            text_is = is;
            yes = λ began place R S was. said began place R S (ended_lines file ++ more) (to began place R S was);
            yes_from = λ copied at place R S was. said_from copied at place R S (ended_lines file ++ more) (to_from copied at place R S was);
          }

  -- and that is said
  pub parts_said : (checked : Result ℕ CheckFault) (told : Result (String Global) Fault) → left ≡ Some []
      → IfOk told (λ text. (count : ℕ) × (checked ≡ Ok count) × (string_bytes text ≡ verified_text count))
      → IfOk checked (λ count. (began : Register) (place to : Place) (R : Register) (texts : List (List ℕ)) → CheckedTo began place to R it texts
      → IsChecked began place texts to R count)
      → IfOk checked (λ count. (copied : Register) (at place to : Place) (R : Register) (texts : List (List ℕ)) → CheckedToFrom copied at place to R it texts
      → IsCheckedFrom copied at place texts to R count)
      → IfOk told (λ text. IfSome first (λ bytes. IfSome all (λ parts. ChecksAll old bytes parts (string_bytes text))))
  parts_said checked (Err fault) none said counted counted_from = tt
  parts_said checked (Ok text) none (count, is, said) counted counted_from =
      parts_all count (string_bytes text) none said
      (subst (λ (r : Result ℕ CheckFault). IfOk r (λ n. (began : Register) (place to : Place) (R : Register) (texts : List (List ℕ)) → CheckedTo began place to R it texts
      → IsChecked began place texts to R n)) is counted)
      (subst (λ (r : Result ℕ CheckFault). IfOk r (λ n. (copied : Register) (at place to : Place) (R : Register) (texts : List (List ℕ)) → CheckedToFrom copied at place to R it texts
      → IsCheckedFrom copied at place texts to R n)) is counted_from)

-- ---- the answer

-- where a check begins, its chain is at the first line
is_closed : (b : Bool) → (b ≡ true → false ≡ true) → b ≡ false
is_closed true opens = absurd (cc (opens refl))
is_closed false opens = refl

pub begins_at : (first : Place) (end : ChainEnd) → EndsAt end (read_on (end_at first) []).end → end ≡ end_at first
unfolding read_on
begins_at first end is =
    let shut = is_closed end.turn.is_open is.closed in
    λ i. record { turn = record { last = is.number i; is_open = shut i }; sum = is.sum i }

goes_over : (first place : Place) (it : Checking) (lines parts more : List (List ℕ)) (entries : List Entry) → GoesOver first place it [] entries
    → GoOn it.walk.id (walked it.walk.end lines).1 parts more → GoOn first.id (walked (end_at first) lines).1 parts more
goes_over first place it lines parts more entries over goes =
    subst (λ (i : List ℕ). GoOn i (walked (end_at first) lines).1 parts more) over.id_is
    (subst (λ (e : ChainEnd). GoOn it.walk.id (walked e lines).1 parts more) (begins_at first it.walk.end over.end_is) goes)

has_lines : (one : List ℕ) (parts : List (List ℕ)) (first place : Place) (it : Checking) (after : List ℕ) (entries : List Entry) (more : List (List ℕ))
    → FirstIs first (Some after) one → GoesOver first place it [] entries → ends_whole after ≡ true
    → GoOn it.walk.id (walked it.walk.end (ended_lines after)).1 parts more → HasLines one parts first (ended_lines after ++ more)
has_lines one parts first place it after entries more (line, lines_are, read, ends) over whole goes = record {
  text = line;
  lines = ended_lines after;
  more = more;
  lines_are = lines_are;
  whole = ends ∙ whole;
  read = read;
  go_on = goes_over first place it (ended_lines after) parts more entries over goes;
  texts_are = refl;
}

-- what is said of a register, over that of the files
pub checks_yes : (files : Files) (began R : Register) (one now : Option (List ℕ)) (all : Option (List (List ℕ))) (first place : Place) (it : Checking) (text : String Global)
    → IfSome one (FirstIs first now) → IsOfFiles files first → CheckedTo began first place R it []
    → IfSome now (λ bytes. IfSome all (λ known. ChecksAll it bytes known (string_bytes text)))
    → IfSome one (λ bytes. IfSome all (λ known. Checks files began bytes known place R (Ok text)))
checks_yes files began R None now all first place it text begins of to checks = tt
checks_yes files began R (Some one) None None first place it text begins of to checks = tt
checks_yes files began R (Some one) None (Some parts) first place it text begins of to checks = absurd begins
checks_yes files began R (Some one) (Some after) None first place it text begins of to checks = tt
checks_yes files began R (Some one) (Some after) (Some parts) first place it text begins of to checks = record {
  first = first;
  texts = ended_lines after ++ checks.more;
  has_lines = has_lines one parts first place it after to.entries checks.more begins to.over checks.whole checks.go_on;
  of_files = of;
  count = checks.count;
  checked = checks.yes began first place R to;
  text_is = checks.text_is;
}

-- over that of a copy
pub checks_yes_from : (copied R : Register) (at : Place) (one now : Option (List ℕ)) (all : Option (List (List ℕ))) (first place : Place) (it : Checking) (text : String Global)
    → IfSome one (FirstIs first now) → CheckedToFrom copied at first place R it []
    → IfSome now (λ bytes. IfSome all (λ known. ChecksAll it bytes known (string_bytes text)))
    → IfSome one (λ bytes. IfSome all (λ known. ChecksFrom copied at bytes known place R (Ok text)))
checks_yes_from copied R at None now all first place it text begins to checks = tt
checks_yes_from copied R at (Some one) None None first place it text begins to checks = tt
checks_yes_from copied R at (Some one) None (Some parts) first place it text begins to checks = absurd begins
checks_yes_from copied R at (Some one) (Some after) None first place it text begins to checks = tt
checks_yes_from copied R at (Some one) (Some after) (Some parts) first place it text begins to checks = record {
  first = first;
  texts = ended_lines after ++ checks.more;
  has_lines = has_lines one parts first place it after (to.before ++ to.entries) checks.more begins to.over checks.whole checks.go_on;
  count = checks.count;
  checked = checks.yes_from copied at first place R to;
  text_is = checks.text_is;
}

-- a fault that is passed on
pub passed_check : {T : Type 0} (result : Result T Fault) (fault : Fault) → IsErrAnd result (λ cause. cause ≡ fault) → IsOfCheck fault → IfErr result IsOfCheck
passed_check (Ok value) fault is of = tt
passed_check (Err cause) fault is of = subst (λ (f : Fault). IsOfCheck f) (sym is) of
