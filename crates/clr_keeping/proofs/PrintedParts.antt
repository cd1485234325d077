-- A journal is printed part by part.
use Rattle.std.proofs.Common.{◌≡◌, ◌≢◌, ◌⊎◌, ◌∙◌, ap, inl, inr, refl, subst, sym, ℕ, Bool, true, List, [], ◌∷◌, ◌++◌, append_assoc, append-nil, Result, Ok, Err}
use Rattle.std.specs.Borrow.{Bor}
use Rattle.std.specs.Prelude.{IfErr, IfOk, IfSome, IsSomeAnd, None, Option, Some, Vec, slice_get}
use Rattle.std.specs.declared.alloc.Global.{Global}
use Rattle.clr_journal.specs.Lines.{ended_lines}
use Rattle.clr_stream.specs.Streams.{Stream}
use Rattle.clr_chain.specs.First.{read_first}
use Rattle.clr_chain.specs.Walking.{Step, part_of, step_of}
use Rattle.clr_chain.specs.declared.chain_end.ChainEnd.{ChainEnd}
use Rattle.clr_chain.specs.declared.walk.Walk.{Walk}
use Rattle.clr_edge.specs.Lines.{ends_whole}
use Rattle.clr_edge.specs.declared.fault.Fault.{Fault}
use Rattle.clr_edge.specs.declared.fault.Fault.TheVariants.{Journal, Memory, Output}
use Rattle.clr_edge.specs.declared.fault.JournalFault.TheVariants.{OpenFailed, ReadFailed, TooLong}
use Rattle.clr_keeping.specs.Journal.{FailsAny, IsOfPrinting, all_known}
use Rattle.clr_edge.specs.Paths.{AtPaths}
use Rattle.clr_keeping.specs.Parts.{BeginBy, BeginsPart, BreaksAfter, FailsLater, GoOnBy, GoesOn, IsNoNext, IsOfReading, IsUnreadOr, IsUnreadPart, ReadsLine, half_step, part_steps, walked}
use Rattle.clr_keeping.specs.Printing.{FailsMore, FailsOn, FailsWithin, HasPrinted, PrintsMore, PrintsOn, PrintsPart}
use Rattle.clr_keeping.specs.declared.journal.Printing.{Printing}
use Rattle.clr_keeping.proofs.BrokenParts.{breaks-more, next_breaks}
use Rattle.clr_keeping.proofs.PartLines.{AreBefore, before-more, before-none, before-some, before-whole, begins-lines, begins-whole, cut-later, known-next, walked-end, walked-none, walked-same, walked-step}
use Rattle.clr_keeping.proofs.SentTexts.{FailsOn-after, FailsOn-more, PrintsOn-more, PrintsOn-none}

-- those of reading are not of the output
reading_other : (fault : Fault) → IsOfReading fault → fault ≢ Output
reading_other fault (inl memory) is = cc
reading_other fault (inr (inl unread)) is = cc
reading_other fault (inr (inr long)) is = cc

cut_why : (fault : Fault) → (fault ≡ Memory) ⊎ (fault ≡ Output) → (fault ≡ Output) ⊎ IsOfReading fault
cut_why fault (inl memory) = inr (inl memory)
cut_why fault (inr output) = inl output

-- ---- the lines of a part

-- the steps of its first lines begin it
lines_begin : (left : Option (List ℕ)) (end : ChainEnd) (lines : List (List ℕ)) → IfSome left (λ bytes. (rest : List (List ℕ)) × (ended_lines bytes ≡ lines ++ rest))
    → IfSome left (λ bytes. BeginsPart end (ended_lines bytes) (ends_whole bytes) (walked end lines).0)
lines_begin None end lines some = tt
lines_begin (Some bytes) end lines (rest, is) = begins-lines end bytes lines rest is

-- these lines of it were printed, and no read of it failed
pub record PrintedLines {S : Type 0} (failures : S → ℕ) (left now : Option (List ℕ)) (old it : Printing) (source source' : S) (o p : Stream) : Type 0 where
  pub lines : List (List ℕ)
  pub before : IfSome left (AreBefore lines now)
  pub counted : failures source' ≡ failures source
  pub prints : PrintsOn old o (walked old.walk.end lines).0 it p
  pub end : it.walk.end ≡ (walked old.walk.end lines).1
  pub id : it.walk.id ≡ old.walk.id

module _ {S : Type 0} (failures : S → ℕ) (left : Option (List ℕ)) (old : Printing) (source : S) (o : Stream) where
  pub lines_none : PrintedLines failures left left old old source source o o
  lines_none = record {
    lines = [];
    before = before-none left;
    counted = refl;
    prints = subst (λ (l : List Step). PrintsOn old o l old o) (sym (walked-none old.walk.end)) (PrintsOn-none old o);
    end = sym (walked-same old.walk.end);
    id = refl;
  }

  -- one more was read
  module _ (now next : Option (List ℕ)) (it : Printing) (source' source'' : S) (p : Stream) (had : PrintedLines failures left now old it source source' o p)
      (text : Vec ℕ Global) (reads : IfSome now (ReadsLine (Some text) next)) where
    steps_are : (walked old.walk.end (had.lines ++ text.items ∷ [])).0 ≡ (walked old.walk.end had.lines).0 ++ (step_of it.walk.end text.items).0 ∷ []
    steps_are =
        walked-step old.walk.end had.lines text.items
        ∙ ap (λ (e : ChainEnd). (walked old.walk.end had.lines).0 ++ (step_of e text.items).0 ∷ []) (sym had.end)

    -- and printed
    pub lines_more : (new : Printing) (q : Stream) → failures source'' ≡ failures source' → PrintsOn it p ((step_of it.walk.end text.items).0 ∷ []) new q
        → new.walk.end ≡ (step_of it.walk.end text.items).1 → new.walk.id ≡ it.walk.id → PrintedLines failures left next old new source source'' o q
    lines_more new q counted prints end id = record {
      lines = had.lines ++ text.items ∷ [];
      before = before-more left now next had.lines text had.before reads;
      counted = counted ∙ had.counted;
      prints = subst (λ (l : List Step). PrintsOn old o l new q) (sym steps_are) (PrintsOn-more old it new o p q _ _ had.prints prints);
      end = end ∙ ap (λ (e : ChainEnd). (step_of e text.items).1) had.end ∙ sym (walked-end old.walk.end had.lines text.items);
      id = id ∙ had.id;
    }

    -- or not
    pub lines_cut : (fault : Fault) (q : Stream) → (fault ≡ Memory) ⊎ (fault ≡ Output) → FailsOn it p ((step_of it.walk.end text.items).0 ∷ []) fault q
        → FailsWithin left old o fault q
    lines_cut fault q of fails = record {
      steps = (walked old.walk.end (had.lines ++ text.items ∷ [])).0;
      some =
          lines_begin left old.walk.end (had.lines ++ text.items ∷ [])
          (before-some left next (had.lines ++ text.items ∷ []) (before-more left now next had.lines text had.before reads));
      why = cut_why fault of;
      fails = subst (λ (l : List Step). FailsOn old o l fault q) (sym steps_are) (FailsOn-more old it o p q _ _ fault had.prints fails);
    }

  -- none is left
  module _ (now next : Option (List ℕ)) (it : Printing) (source' : S) (p q : Stream) (had : PrintedLines failures left now old it source source' o p)
      (none : IfSome now (ReadsLine None next)) (is_whole : Bool) (ends : IfSome next (λ bytes. is_whole ≡ ends_whole bytes)) where
    -- and what ends no line was printed
    lines_all : (new : Printing) → PrintsOn it p (half_step it.walk.end is_whole) new q → new.walk ≡ it.walk → PrintsPart left old o new q
    lines_all new half walk = record {
      lines = had.lines;
      is_whole = is_whole;
      all = before-whole left now next had.lines is_whole had.before none ends;
      prints = PrintsOn-more old it new o p q _ _ had.prints (subst (λ (e : ChainEnd). PrintsOn it p (half_step e is_whole) new q) had.end half);
      end = ap (λ (w : Walk). w.end) walk ∙ had.end;
      id = ap (λ (w : Walk). w.id) walk ∙ had.id;
    }

    pub lines_ended : (result : Result Printing Fault) → IfOk result (λ new. PrintsOn it p (half_step it.walk.end is_whole) new q) → IfOk result (λ new. new.walk ≡ it.walk)
        → IfOk result (λ new. PrintsPart left old o new q)
    lines_ended (Ok new) half walk = lines_all new half walk
    lines_ended (Err fault) half walk = tt

    -- or not
    half_begins : IfSome left (λ bytes. BeginsPart old.walk.end (ended_lines bytes) (ends_whole bytes) (part_steps old.walk.end had.lines is_whole))
    half_begins = by left (before-whole left now next had.lines is_whole had.before none ends)
      where
        by : (found : Option (List ℕ)) → IfSome found (λ bytes. (ended_lines bytes ≡ had.lines) × (ends_whole bytes ≡ is_whole))
            → IfSome found (λ bytes. BeginsPart old.walk.end (ended_lines bytes) (ends_whole bytes) (part_steps old.walk.end had.lines is_whole))
        by None all = tt
        by (Some bytes) all = begins-whole old.walk.end bytes had.lines is_whole all.0 all.1

    pub half_cut : (result : Result Printing Fault) → IfErr result (λ fault. (fault ≡ Memory) ⊎ (fault ≡ Output))
        → IfErr result (λ fault. FailsOn it p (half_step it.walk.end is_whole) fault q) → IfErr result (λ fault. FailsWithin left old o fault q)
    half_cut (Ok new) of fails = tt
    half_cut (Err fault) of fails = record {
      steps = part_steps old.walk.end had.lines is_whole;
      some = half_begins;
      why = cut_why fault of;
      fails = FailsOn-more old it o p q _ _ fault had.prints (subst (λ (e : ChainEnd). FailsOn it p (half_step e is_whole) fault q) had.end fails);
    }

  -- the next was not read
  pub lines_failed : (now : Option (List ℕ)) (it : Printing) (source' : S) (p : Stream) (fault : Fault) → PrintedLines failures left now old it source source' o p
      → IsOfReading fault → FailsWithin left old o fault p
  lines_failed now it source' p fault had of = record {
    steps = (walked old.walk.end had.lines).0;
    some = lines_begin left old.walk.end had.lines (before-some left now had.lines had.before);
    why = inr of;
    fails = FailsOn-after old it o p _ fault (reading_other fault of) had.prints;
  }

-- what half a line makes of a part
pub half_kind : {T : Type 0} (result : Result T Fault) → IfErr result (λ fault. (fault ≡ Memory) ⊎ (fault ≡ Output)) → IfErr result IsOfPrinting
half_kind (Ok value) of = tt
half_kind (Err fault) (inl memory) = inr (inl memory)
half_kind (Err fault) (inr output) = inl output

pub half_later : {S T : Type 0} (failures : S → ℕ) (source : S) (result : Result T Fault) → IfErr result (λ fault. (fault ≡ Memory) ⊎ (fault ≡ Output))
    → IfErr result (FailsLater failures source)
half_later failures source (Ok value) of = tt
half_later failures source (Err fault) of = cut-later failures source fault of

-- ---- the further parts

-- these steps of them were printed; the others go on where it has come to
pub record PrintedParts (all left : Option (List (List ℕ))) (old it : Printing) (o p : Stream) : Type 0 where
  pub steps : List Step
  pub known : IfSome all (λ parts. (rest : List (List ℕ)) × (left ≡ Some rest)
      × ((more : List Step) → GoOnBy old.walk.id it.walk.end rest more → GoOnBy old.walk.id old.walk.end parts (steps ++ more))
      × ((more : List Step) → BeginBy old.walk.id it.walk.end rest more → BeginBy old.walk.id old.walk.end parts (steps ++ more))
      × ((fault : Fault) → BreaksAfter old.walk.id it.walk.end rest fault → BreaksAfter old.walk.id old.walk.end parts fault))
  pub prints : PrintsOn old o steps it p
  pub id : it.walk.id ≡ old.walk.id

-- the walk is no matter of what was printed
walk-prints : (it new : Printing) (w : Walk) (p q : Stream) (steps : List Step) → PrintsOn (record it { walk = w }) p steps new q → PrintsOn it p steps new q
walk-prints it new w p q steps there = record {
  printed = λ args output had is.
      there.printed args output had (record {
        wanted = HasPrinted.wanted is;
        wanted_is = HasPrinted.wanted_is is;
        sent = HasPrinted.sent is;
        went = HasPrinted.went is;
        text = HasPrinted.text is;
        bad_is = HasPrinted.bad_is is;
      });
}

walk-fails : (it : Printing) (w : Walk) (p q : Stream) (steps : List Step) (fault : Fault) → FailsOn (record it { walk = w }) p steps fault q → FailsOn it p steps fault q
walk-fails it w p q steps fault there = record {
  sent = λ other args output had is.
      there.sent other args output had (record {
        wanted = HasPrinted.wanted is;
        wanted_is = HasPrinted.wanted_is is;
        sent = HasPrinted.sent is;
        went = HasPrinted.went is;
        text = HasPrinted.text is;
        bad_is = HasPrinted.bad_is is;
      });
  cut = λ of args output had is.
      there.cut of args output had (record {
        wanted = HasPrinted.wanted is;
        wanted_is = HasPrinted.wanted_is is;
        sent = HasPrinted.sent is;
        went = HasPrinted.went is;
        text = HasPrinted.text is;
        bad_is = HasPrinted.bad_is is;
      });
}

-- how a part goes on
part_goes : (id : List ℕ) (walk w : Walk) (now : Option (List ℕ)) (one : List ℕ) (lines : List (List ℕ)) (is_whole : Bool) → GoesOn walk w now one
    → IfSome now (λ bytes. (ended_lines bytes ≡ lines) × (ends_whole bytes ≡ is_whole)) → walk.id ≡ id
    → (text : List ℕ) × (ended_lines one ≡ text ∷ lines) × (part_of id walk.end (read_first text) ≡ (true, w.end)) × (ends_whole one ≡ is_whole)
part_goes id walk w None one lines is_whole goes all same = absurd goes
part_goes id walk w (Some after) one lines is_whole (text, is, part, kept, ends) all same = (
  text,
  is ∙ ap (λ (l : List (List ℕ)). text ∷ l) all.0,
  sym (subst (λ (i : List ℕ). (true, w.end) ≡ part_of i walk.end (read_first text)) same part),
  ends ∙ all.1,
)

part_begins : (id : List ℕ) (walk w : Walk) (now : Option (List ℕ)) (one : List ℕ) (steps : List Step) → GoesOn walk w now one
    → IfSome now (λ bytes. BeginsPart w.end (ended_lines bytes) (ends_whole bytes) steps) → walk.id ≡ id
    → (text : List ℕ) × (lines : List (List ℕ)) × (ended_lines one ≡ text ∷ lines) × (part_of id walk.end (read_first text) ≡ (true, w.end))
    × BeginsPart w.end lines (ends_whole one) steps
part_begins id walk w None one steps goes some same = absurd goes
part_begins id walk w (Some after) one steps (text, is, part, kept, ends) some same = (
  text,
  ended_lines after,
  is,
  sym (subst (λ (i : List ℕ). (true, w.end) ≡ part_of i walk.end (read_first text)) same part),
  subst (λ (b : Bool). BeginsPart w.end (ended_lines after) b steps) (sym ends) some,
)

go_on-more : (id : List ℕ) (end next : ChainEnd) (one text : List ℕ) (rest lines : List (List ℕ)) (is_whole : Bool) (more : List Step)
    → ended_lines one ≡ text ∷ lines → part_of id end (read_first text) ≡ (true, next) → ends_whole one ≡ is_whole → GoOnBy id (walked next lines).1 rest more
    → GoOnBy id end (one ∷ rest) (part_steps next lines is_whole ++ more)
unfolding GoOnBy
go_on-more id end next one text rest lines is_whole more is part ends goes =
    (text, lines, next, more, is, part, ap (λ (b : Bool). part_steps next lines b ++ more) (sym ends), goes)

go_on-none : (id : List ℕ) (end : ChainEnd) → GoOnBy id end [] []
unfolding GoOnBy
go_on-none id end = refl

begin-more : (id : List ℕ) (end next : ChainEnd) (one text : List ℕ) (rest lines : List (List ℕ)) (is_whole : Bool) (more : List Step)
    → ended_lines one ≡ text ∷ lines → part_of id end (read_first text) ≡ (true, next) → ends_whole one ≡ is_whole → BeginBy id (walked next lines).1 rest more
    → BeginBy id end (one ∷ rest) (part_steps next lines is_whole ++ more)
unfolding BeginBy
begin-more id end next one text rest lines is_whole more is part ends begins =
    inr (text, lines, next, is, part, inr (more, ap (λ (b : Bool). part_steps next lines b ++ more) (sym ends), begins))

begin-part : (id : List ℕ) (end next : ChainEnd) (one text : List ℕ) (rest lines : List (List ℕ)) (steps : List Step)
    → ended_lines one ≡ text ∷ lines → part_of id end (read_first text) ≡ (true, next) → BeginsPart next lines (ends_whole one) steps
    → BeginBy id end (one ∷ rest) steps
unfolding BeginBy
begin-part id end next one text rest lines steps is part begins = inr (text, lines, next, is, part, inl begins)

begin-none : (id : List ℕ) (end : ChainEnd) (rest : List (List ℕ)) → BeginBy id end rest []
unfolding BeginBy
begin-none id end [] = refl
begin-none id end (one ∷ rest) = inl refl

pub go_begin : (id : List ℕ) (end : ChainEnd) (parts : List (List ℕ)) (steps : List Step) → GoOnBy id end parts steps → BeginBy id end parts steps
unfolding GoOnBy BeginBy
go_begin id end [] steps goes = goes
go_begin id end (one ∷ rest) steps (text, lines, next, more, is, part, steps_are, goes) =
    inr (text, lines, next, is, part, inr (more, steps_are, go_begin id (walked next lines).1 rest more goes))

-- ---- one part after the other

pub parts_none : (all : Option (List (List ℕ))) (it : Printing) (o : Stream) → PrintedParts all all it it o o
parts_none all it o = record { steps = []; known = by all; prints = PrintsOn-none it o; id = refl }
  where
    by : (found : Option (List (List ℕ))) → IfSome found (λ parts. (rest : List (List ℕ)) × (found ≡ Some rest)
        × ((more : List Step) → GoOnBy it.walk.id it.walk.end rest more → GoOnBy it.walk.id it.walk.end parts more)
        × ((more : List Step) → BeginBy it.walk.id it.walk.end rest more → BeginBy it.walk.id it.walk.end parts more)
        × ((fault : Fault) → BreaksAfter it.walk.id it.walk.end rest fault → BreaksAfter it.walk.id it.walk.end parts fault))
    by None = tt
    by (Some parts) = (parts, refl, λ more goes. goes, λ more begins. begins, λ fault breaks. breaks)

module _ (all left : Option (List (List ℕ))) (old it : Printing) (o p : Stream) (had : PrintedParts all left old it o p) where
  -- a part is one of those that are left
  module _ (bytes : Option (List ℕ)) (others : List (Option (List ℕ))) (is_left : left ≡ all_known (bytes ∷ others)) (w : Walk) (now : Option (List ℕ))
      (goes : IfSome bytes (GoesOn it.walk w now)) where
    -- it was printed
    pub parts_more : (new : Printing) (q : Stream) → PrintsPart now (record it { walk = w }) p new q → w.id ≡ it.walk.id
        → PrintedParts all (all_known others) old new o q
    parts_more new q part same = record {
      steps = had.steps ++ part_steps w.end part.lines part.is_whole;
      known = by all had.known;
      prints = PrintsOn-more old it new o p q had.steps _ had.prints (walk-prints it new w p q _ part.prints);
      id = part.id ∙ same ∙ had.id;
    }
      where
        by : (found : Option (List (List ℕ))) → IfSome found (λ parts. (rest : List (List ℕ)) × (left ≡ Some rest)
            × ((more : List Step) → GoOnBy old.walk.id it.walk.end rest more → GoOnBy old.walk.id old.walk.end parts (had.steps ++ more))
            × ((more : List Step) → BeginBy old.walk.id it.walk.end rest more → BeginBy old.walk.id old.walk.end parts (had.steps ++ more))
            × ((fault : Fault) → BreaksAfter old.walk.id it.walk.end rest fault → BreaksAfter old.walk.id old.walk.end parts fault))
            → IfSome found (λ parts. (rest : List (List ℕ)) × (all_known others ≡ Some rest)
            × ((more : List Step) → GoOnBy old.walk.id new.walk.end rest more → GoOnBy old.walk.id old.walk.end parts ((had.steps ++ part_steps w.end part.lines part.is_whole) ++ more))
            × ((more : List Step) → BeginBy old.walk.id new.walk.end rest more → BeginBy old.walk.id old.walk.end parts ((had.steps ++ part_steps w.end part.lines part.is_whole) ++ more))
            × ((fault : Fault) → BreaksAfter old.walk.id new.walk.end rest fault → BreaksAfter old.walk.id old.walk.end parts fault))
        by None known = tt
        by (Some parts) (rest, is_rest, go, begin, broken) =
            let (one, after, has, is_after, first) = known-next bytes others rest (sym is_left ∙ is_rest) in
            let goes_on : GoesOn it.walk w now one = subst (λ (b : Option (List ℕ)). IfSome b (GoesOn it.walk w now)) has goes in
            let (text, lines_are, part_is, ends) = part_goes old.walk.id it.walk w now one part.lines part.is_whole goes_on part.all had.id in
            let steps = part_steps w.end part.lines part.is_whole in (
              after,
              is_after,
              λ more goes_more.
                  subst (λ (l : List Step). GoOnBy old.walk.id old.walk.end parts l) (sym (append_assoc had.steps steps more))
                  (go (steps ++ more) (subst (λ (l : List (List ℕ)). GoOnBy old.walk.id it.walk.end l (steps ++ more)) (sym first)
                  (go_on-more old.walk.id it.walk.end w.end one text after part.lines part.is_whole more lines_are part_is ends
                  (subst (λ (e : ChainEnd). GoOnBy old.walk.id e after more) part.end goes_more)))),
              λ more begins_more.
                  subst (λ (l : List Step). BeginBy old.walk.id old.walk.end parts l) (sym (append_assoc had.steps steps more))
                  (begin (steps ++ more) (subst (λ (l : List (List ℕ)). BeginBy old.walk.id it.walk.end l (steps ++ more)) (sym first)
                  (begin-more old.walk.id it.walk.end w.end one text after part.lines part.is_whole more lines_are part_is ends
                  (subst (λ (e : ChainEnd). BeginBy old.walk.id e after more) part.end begins_more)))),
              λ fault breaks.
                  broken fault (subst (λ (l : List (List ℕ)). BreaksAfter old.walk.id it.walk.end l fault) (sym first)
                  (breaks-more old.walk.id it.walk.end w.end one text after part.lines fault lines_are part_is
                  (subst (λ (e : ChainEnd). BreaksAfter old.walk.id e after fault) part.end breaks))),
            )

    -- or not
    pub parts_cut : (fault : Fault) (q : Stream) → FailsWithin now (record it { walk = w }) p fault q → FailsMore all old o fault q
    parts_cut fault q part = record {
      steps = had.steps ++ part.steps;
      begin = by all had.known;
      why = line_why all part.why;
      fails = FailsOn-more old it o p q had.steps _ fault had.prints (walk-fails it w p q _ fault part.fails);
    }
      where
        line_why : (found : Option (List (List ℕ))) → (fault ≡ Output) ⊎ IsOfReading fault
            → (fault ≡ Output) ⊎ IsUnreadPart fault ⊎ IfSome found (λ parts. BreaksAfter old.walk.id old.walk.end parts fault)
        line_why found (inl output) = inl output
        line_why found (inr of) = inr (inl (inr of))

        by : (found : Option (List (List ℕ))) → IfSome found (λ parts. (rest : List (List ℕ)) × (left ≡ Some rest)
            × ((more : List Step) → GoOnBy old.walk.id it.walk.end rest more → GoOnBy old.walk.id old.walk.end parts (had.steps ++ more))
            × ((more : List Step) → BeginBy old.walk.id it.walk.end rest more → BeginBy old.walk.id old.walk.end parts (had.steps ++ more))
            × ((fault : Fault) → BreaksAfter old.walk.id it.walk.end rest fault → BreaksAfter old.walk.id old.walk.end parts fault))
            → IfSome found (λ parts. BeginBy old.walk.id old.walk.end parts (had.steps ++ part.steps))
        by None known = tt
        by (Some parts) (rest, is_rest, go, begin, broken) =
            let (one, after, has, is_after, first) = known-next bytes others rest (sym is_left ∙ is_rest) in
            let goes_on : GoesOn it.walk w now one = subst (λ (b : Option (List ℕ)). IfSome b (GoesOn it.walk w now)) has goes in
            let (text, lines, lines_are, part_is, begins) = part_begins old.walk.id it.walk w now one part.steps goes_on part.some had.id in
            begin part.steps (subst (λ (l : List (List ℕ)). BeginBy old.walk.id it.walk.end l part.steps) (sym first)
            (begin-part old.walk.id it.walk.end w.end one text after lines part.steps lines_are part_is begins))

  -- the next was not read, or is refused by its first line
  pub parts_stop : (bytes : Option (List ℕ)) (others : List (Option (List ℕ))) (fault : Fault) → left ≡ all_known (bytes ∷ others) → fault ≢ Output
      → IsUnreadOr (IsNoNext it.walk.id it.walk.end) bytes fault → FailsMore all old o fault p
  parts_stop bytes others fault is_left other refused = record {
    steps = had.steps;
    begin = by all had.known;
    why = inr (stops refused);
    fails = FailsOn-after old it o p had.steps fault other had.prints;
  }
    where
      by : (found : Option (List (List ℕ))) → IfSome found (λ parts. (rest : List (List ℕ)) × (left ≡ Some rest)
          × ((more : List Step) → GoOnBy old.walk.id it.walk.end rest more → GoOnBy old.walk.id old.walk.end parts (had.steps ++ more))
          × ((more : List Step) → BeginBy old.walk.id it.walk.end rest more → BeginBy old.walk.id old.walk.end parts (had.steps ++ more))
          × ((cause : Fault) → BreaksAfter old.walk.id it.walk.end rest cause → BreaksAfter old.walk.id old.walk.end parts cause))
          → IfSome found (λ parts. BeginBy old.walk.id old.walk.end parts had.steps)
      by None known = tt
      by (Some parts) (rest, is_rest, go, begin, broken) =
          subst (λ (l : List Step). BeginBy old.walk.id old.walk.end parts l) (append-nil had.steps) (begin [] (begin-none old.walk.id it.walk.end rest))

      next : (found : Option (List (List ℕ))) → IfSome found (λ parts. (rest : List (List ℕ)) × (left ≡ Some rest)
          × ((more : List Step) → GoOnBy old.walk.id it.walk.end rest more → GoOnBy old.walk.id old.walk.end parts (had.steps ++ more))
          × ((more : List Step) → BeginBy old.walk.id it.walk.end rest more → BeginBy old.walk.id old.walk.end parts (had.steps ++ more))
          × ((cause : Fault) → BreaksAfter old.walk.id it.walk.end rest cause → BreaksAfter old.walk.id old.walk.end parts cause))
          → IfSome bytes (λ one. IsNoNext it.walk.id it.walk.end one fault) → IfSome found (λ parts. BreaksAfter old.walk.id old.walk.end parts fault)
      next None known not = tt
      next (Some parts) (rest, is_rest, go, begin, broken) not =
          broken fault (subst (λ (i : List ℕ). BreaksAfter i it.walk.end rest fault) had.id
          (next_breaks it.walk.id it.walk.end bytes others rest fault (sym is_left ∙ is_rest) not))

      stops : IsUnreadOr (IsNoNext it.walk.id it.walk.end) bytes fault → IsUnreadPart fault ⊎ IfSome all (λ parts. BreaksAfter old.walk.id old.walk.end parts fault)
      stops (inl unread) = inl unread
      stops (inr not) = inr (next all had.known not)

  -- none is left
  pub parts_all : left ≡ Some [] → PrintsMore all old o it p
  parts_all none = record { steps = had.steps; go_on = by all had.known; prints = had.prints }
    where
      by : (found : Option (List (List ℕ))) → IfSome found (λ parts. (rest : List (List ℕ)) × (left ≡ Some rest)
          × ((more : List Step) → GoOnBy old.walk.id it.walk.end rest more → GoOnBy old.walk.id old.walk.end parts (had.steps ++ more))
          × ((more : List Step) → BeginBy old.walk.id it.walk.end rest more → BeginBy old.walk.id old.walk.end parts (had.steps ++ more))
          × ((fault : Fault) → BreaksAfter old.walk.id it.walk.end rest fault → BreaksAfter old.walk.id old.walk.end parts fault))
          → IfSome found (λ parts. GoOnBy old.walk.id old.walk.end parts had.steps)
      by None known = tt
      by (Some parts) (rest, is_rest, go, begin, broken) =
          let empty : rest ≡ [] = cc (sym none ∙ is_rest) in
          subst (λ (l : List Step). GoOnBy old.walk.id old.walk.end parts l) (append-nil had.steps)
          (go [] (subst (λ (l : List (List ℕ)). GoOnBy old.walk.id it.walk.end l []) (sym empty) (go_on-none old.walk.id it.walk.end)))

-- ---- a part that went unread

pub fails_any : (at : AtPaths) (parts : List (Bor (List ℕ))) (place : ℕ) (path : Bor (List ℕ)) (fault : Fault) → slice_get parts place ≡ Some path
    → ((fault ≡ Journal OpenFailed) ⊎ (fault ≡ Journal ReadFailed) → at.fails path.now) → FailsAny at parts fault
fails_any at parts place path fault is cause =
    λ which. (place, subst (λ (o : Option (Bor (List ℕ))). IsSomeAnd o (λ found. at.fails found.now)) (sym is) (cause which))
