-- What `journal` prints, once all parts were printed, or one was not.
use Rattle.std.proofs.Common.{◌≡◌, ◌≢◌, ◌⊎◌, ◌∙◌, ap, inl, inr, refl, subst, sym, ℕ, Bool, List, [], ◌∷◌, ◌++◌, map, Ok, Err}
use Rattle.std.specs.Borrow.{Bor}
use Rattle.std.specs.Prelude.{IfSome, None, Option, Some, string_bytes}
use Rattle.clr_journal.specs.Lines.{ended_lines}
use Rattle.clr_stream.specs.Streams.{Stream}
use Rattle.clr_chain.specs.First.{end_at, read_first}
use Rattle.clr_chain.specs.Walking.{Step}
use Rattle.clr_chain.specs.declared.chain_end.ChainEnd.{ChainEnd}
use Rattle.clr_rules.specs.declared.place.Place.{Place}
use Rattle.clr_args.specs.declared.asked.JournalArgs.{JournalArgs}
use Rattle.clr_rules.specs.Id.{Id}
use Rattle.clr_edge.specs.Lines.{ends_whole}
use Rattle.clr_edge.specs.Visit.{Done}
use Rattle.clr_edge.specs.declared.fault.Fault.{Fault}
use Rattle.clr_edge.specs.declared.fault.Fault.TheVariants.{Journal, Memory, NoSuch, Output}
use Rattle.clr_edge.specs.declared.fault.JournalFault.TheVariants.{BadLine, OpenFailed, ReadFailed}
use Rattle.clr_keeping.specs.Journal.{FailsAny, FailsOne, IsOfPrinting, IsSent, PrintsAt, PrintsParts, SentSome, all_known, journal_text, parts_known, wanted_in}
use Rattle.clr_keeping.specs.Parts.{BeginBy, BeginsPart, Breaks, BreaksAfter, FirstIs, GoOnBy, HasFront, HasSteps, IsNoFirst, IsOfPart, IsOfReading, IsUnreadOr, IsUnreadPart, part_steps, walked}
use Rattle.clr_edge.specs.Paths.{AtPaths}
use Rattle.clr_keeping.specs.Printing.{FailsMore, FailsWithin, HasPrinted, IsCutOf, IsText, PrintsAll, PrintsMore, PrintsPart}
use Rattle.clr_keeping.specs.declared.journal.Printing.{Printing}
use Rattle.clr_keeping.proofs.BrokenParts.{first_breaks}
use Rattle.clr_keeping.proofs.PrintedParts.{go_begin}
use Rattle.clr_keeping.proofs.SentTexts.{sent_none}
use Rattle.clr_keeping.proofs.StepTexts.{ends_as-bad}

-- ---- the faults

-- those of parts are not of the output
pub part_other : (fault : Fault) → IsOfPart fault → fault ≢ Output
part_other fault (inl memory) is = cc
part_other fault (inr (inl unopened)) is = cc
part_other fault (inr (inr (inl unread))) is = cc
part_other fault (inr (inr (inr (inl long)))) is = cc
part_other fault (inr (inr (inr (inr (inl (number, bad)))))) is = cc
part_other fault (inr (inr (inr (inr (inr (number, other)))))) is = cc

unread_other : (fault : Fault) → IsUnreadPart fault → fault ≢ Output
unread_other fault (inl unopened) is = cc
unread_other fault (inr (inl memory)) is = cc
unread_other fault (inr (inr (inl unread))) is = cc
unread_other fault (inr (inr (inr long))) is = cc

-- nothing went out of what was not opened
pub unsent : (o : Stream) (fault : Fault) → fault ≢ Output → IsSent o o (Err fault)
unsent o fault other = record {
  done = tt;
  before = λ _. inl refl;
  failed = λ is. absurd (other (cc is));
}

-- what was sent of a journal that was printed to its end
sent_all : (args : JournalArgs) (o r : Stream) (steps : List Step) (result : Done) → PrintsAll args o r steps result → IsSent o r result
sent_all args o r steps (Ok value) (wanted, wanted_is, inl (went, ends)) = record { done = went.1; before = tt; failed = λ is. absurd (cc) }
sent_all args o r steps (Ok value) (wanted, wanted_is, inr (inl (failed, cut))) = absurd (cc)
sent_all args o r steps (Ok value) (wanted, wanted_is, inr (inr (memory, some))) = absurd (cc)
sent_all args o r steps (Err fault) (wanted, wanted_is, inl (went, ends)) =
    let bad = ends_as-bad steps fault (sym ends) in
    record {
      done = tt;
      before = λ _. inr (journal_text args wanted steps, went);
      failed = λ is. absurd (cc bad.1);
    }
sent_all args o r steps (Err fault) (wanted, wanted_is, inr (inl (failed, cut))) = record {
  done = tt;
  before = λ other. absurd (other (cc));
  failed = λ is. cut.1;
}
sent_all args o r steps (Err fault) (wanted, wanted_is, inr (inr (memory, some))) = record {
  done = tt;
  before = λ _. some;
  failed = λ is. absurd (cc);
}

-- its fault is none of opening or of reading
read_all : (args : JournalArgs) (o r : Stream) (steps : List Step) (result : Done) (fault : Fault) → PrintsAll args o r steps result → result ≡ Err fault
    → (fault ≡ Journal OpenFailed) ⊎ (fault ≡ Journal ReadFailed) → ⊥
read_all args o r steps result fault (wanted, wanted_is, inl (went, ends)) is which =
    let bad = ends_as-bad steps fault (sym ends ∙ is) in
    by bad.0 bad.1 which
  where
    by : (number : ℕ) → fault ≡ Journal (BadLine number) → (fault ≡ Journal OpenFailed) ⊎ (fault ≡ Journal ReadFailed) → ⊥
    by number bad (inl opening) = cc
    by number bad (inr reading) = cc
read_all args o r steps result fault (wanted, wanted_is, inr (inl (failed, cut))) is (inl opening) = cc
read_all args o r steps result fault (wanted, wanted_is, inr (inl (failed, cut))) is (inr reading) = cc
read_all args o r steps result fault (wanted, wanted_is, inr (inr (memory, some))) is (inl opening) = cc
read_all args o r steps result fault (wanted, wanted_is, inr (inr (memory, some))) is (inr reading) = cc

-- ---- the first part

-- its first line, and the lines after it
record Begins (bytes : List ℕ) (first : Place) (lines : List (List ℕ)) (is_whole : Bool) : Type 0 where
  text : List ℕ
  lines_are : ended_lines bytes ≡ text ∷ lines
  read : read_first text ≡ Some first
  ends : ends_whole bytes ≡ is_whole

begins_all : (bytes : List ℕ) (first : Place) (now : Option (List ℕ)) (lines : List (List ℕ)) (is_whole : Bool) → FirstIs first now bytes
    → IfSome now (λ known. (ended_lines known ≡ lines) × (ends_whole known ≡ is_whole)) → Begins bytes first lines is_whole
begins_all bytes first None lines is_whole is all = absurd is
begins_all bytes first (Some after) lines is_whole (text, is, read, ends) all =
    record { text = text; lines_are = is ∙ ap (λ (l : List (List ℕ)). text ∷ l) all.0; read = read; ends = ends ∙ all.1 }

-- the steps that it begins with, as far as it was read
begins_some : (bytes : List ℕ) (parts : List (List ℕ)) (first : Place) (now : Option (List ℕ)) (end : ChainEnd) (steps : List Step) → FirstIs first now bytes
    → end ≡ end_at first → IfSome now (λ known. BeginsPart end (ended_lines known) (ends_whole known) steps) → HasFront bytes parts steps
begins_some bytes parts first None end steps is same some = absurd is
begins_some bytes parts first (Some after) end steps (text, is, read, ends) same some = record {
  first = first;
  text = text;
  texts = ended_lines after;
  lines = is;
  read = read;
  some = inl (subst (λ (b : Bool). BeginsPart (end_at first) (ended_lines after) b steps) (sym ends)
      (subst (λ (e : ChainEnd). BeginsPart e (ended_lines after) (ends_whole after) steps) same some));
}

module _ (args : JournalArgs) (o : Stream) (one : Option (List ℕ)) (parts : Option (List (List ℕ))) (first : Place) (now : Option (List ℕ)) (it : Printing)
    (is_first : IfSome one (FirstIs first now)) (id : it.walk.id ≡ first.id) (end : it.walk.end ≡ end_at first) (begun : HasPrinted args o [] it o) where
  -- it was not printed
  within-output : (fault : Fault) (r : Stream) → fault ≡ Output → FailsWithin now it o fault r → PrintsAt one parts args o r (Err fault)
  within-output fault r is part = by one parts is_first
    where
      by : (bytes : Option (List ℕ)) (known : Option (List (List ℕ))) → IfSome bytes (FirstIs first now) → PrintsAt bytes known args o r (Err fault)
      by None known begins = tt
      by (Some bytes) None begins = tt
      by (Some bytes) (Some known) begins =
          let (wanted, wanted_is, cut) = part.fails.cut is args o [] begun in
          inr (inl (
            ap Err is,
            record {
              steps = part.steps;
              begins = begins_some bytes known first now it.walk.end part.steps begins end part.some;
              wanted = wanted;
              wanted_is = wanted_is;
              cut = cut;
            },
          ))

  -- it was
  module _ (it1 : Printing) (p : Stream) (part : PrintsPart now it o it1 p) where
    front_is : it1.walk.end ≡ (walked (end_at first) part.lines).1
    front_is = part.end ∙ ap (λ (e : ChainEnd). (walked e part.lines).1) end

    steps_are : (bytes : List ℕ) (more : List Step) → ends_whole bytes ≡ part.is_whole
        → part_steps it.walk.end part.lines part.is_whole ++ more ≡ part_steps (end_at first) part.lines (ends_whole bytes) ++ more
    steps_are bytes more ends =
        ap (λ (e : ChainEnd). part_steps e part.lines part.is_whole ++ more) end ∙ ap (λ (b : Bool). part_steps (end_at first) part.lines b ++ more) (sym ends)

    has_front : (bytes : List ℕ) (known : List (List ℕ)) (more : List Step) → FirstIs first now bytes → BeginBy it1.walk.id it1.walk.end known more
        → HasFront bytes known (part_steps it.walk.end part.lines part.is_whole ++ more)
    has_front bytes known more begins begin =
        let line = begins_all bytes first now part.lines part.is_whole begins part.all in
        record {
          first = first;
          text = line.text;
          texts = part.lines;
          lines = line.lines_are;
          read = line.read;
          some = inr (
            more,
            steps_are bytes more line.ends,
            subst (λ (i : List ℕ). BeginBy i (walked (end_at first) part.lines).1 known more) (part.id ∙ id)
                (subst (λ (e : ChainEnd). BeginBy it1.walk.id e known more) front_is begin),
          );
        }

    has_steps : (bytes : List ℕ) (known : List (List ℕ)) (more : List Step) → FirstIs first now bytes → GoOnBy it1.walk.id it1.walk.end known more
        → HasSteps bytes known (part_steps it.walk.end part.lines part.is_whole ++ more)
    has_steps bytes known more begins goes =
        let line = begins_all bytes first now part.lines part.is_whole begins part.all in
        record {
          first = first;
          text = line.text;
          texts = part.lines;
          lines = line.lines_are;
          read = line.read;
          more = more;
          steps_are = steps_are bytes more line.ends;
          go_on = subst (λ (i : List ℕ). GoOnBy i (walked (end_at first) part.lines).1 known more) (part.id ∙ id)
              (subst (λ (e : ChainEnd). GoOnBy it1.walk.id e known more) front_is goes);
        }

    -- a further one is refused by its first line
    more_broken : (fault : Fault) → IfSome parts (λ known. BreaksAfter it1.walk.id it1.walk.end known fault)
        → IfSome one (λ bytes. IfSome parts (λ known. Breaks bytes known fault))
    more_broken fault breaks = by one parts is_first breaks
      where
        by : (bytes : Option (List ℕ)) (known : Option (List (List ℕ))) → IfSome bytes (FirstIs first now)
            → IfSome known (λ all. BreaksAfter it1.walk.id it1.walk.end all fault) → IfSome bytes (λ file. IfSome known (λ all. Breaks file all fault))
        by None known begins broken = tt
        by (Some bytes) None begins broken = tt
        by (Some bytes) (Some known) begins broken =
            let line = begins_all bytes first now part.lines part.is_whole begins part.all in
            inr (
              first,
              line.text,
              part.lines,
              line.lines_are,
              line.read,
              subst (λ (i : List ℕ). BreaksAfter i (walked (end_at first) part.lines).1 known fault) (part.id ∙ id)
                  (subst (λ (e : ChainEnd). BreaksAfter it1.walk.id e known fault) front_is broken),
            )

    more_stopped : (fault : Fault) → IsUnreadPart fault ⊎ IfSome parts (λ known. BreaksAfter it1.walk.id it1.walk.end known fault)
        → IsUnreadPart fault ⊎ IfSome one (λ bytes. IfSome parts (λ known. Breaks bytes known fault))
    more_stopped fault (inl unread) = inl unread
    more_stopped fault (inr breaks) = inr (more_broken fault breaks)

    -- or was not printed
    more-output : (fault : Fault) (r : Stream) → fault ≡ Output → FailsMore parts it1 p fault r → PrintsAt one parts args o r (Err fault)
    more-output fault r is more = by one parts is_first more.begin
      where
        by : (bytes : Option (List ℕ)) (known : Option (List (List ℕ))) → IfSome bytes (FirstIs first now) → IfSome known (λ all. BeginBy it1.walk.id it1.walk.end all more.steps)
            → PrintsAt bytes known args o r (Err fault)
        by None known begins begin = tt
        by (Some bytes) None begins begin = tt
        by (Some bytes) (Some known) begins begin =
            let (wanted, wanted_is, cut) = more.fails.cut is args o (part_steps it.walk.end part.lines part.is_whole) (part.prints.printed args o [] begun) in
            inr (inl (
              ap Err is,
              record {
                steps = part_steps it.walk.end part.lines part.is_whole ++ more.steps;
                begins = has_front bytes known more.steps begins begin;
                wanted = wanted;
                wanted_is = wanted_is;
                cut = cut;
              },
            ))

    -- all were
    module _ (it2 : Printing) (q r : Stream) (result : Done) (more : PrintsMore parts it1 p it2 q)
        (ended : (asked : JournalArgs) (began : Stream) (steps : List Step) → HasPrinted asked began steps it2 q → PrintsAll asked began r steps result) where
      all_of : PrintsAll args o r (part_steps it.walk.end part.lines part.is_whole ++ more.steps) result
      all_of =
          ended args o (part_steps it.walk.end part.lines part.is_whole ++ more.steps)
          (more.prints.printed args o (part_steps it.walk.end part.lines part.is_whole) (part.prints.printed args o [] begun))

      pub printed_at : PrintsAt one parts args o r result
      printed_at = by one parts is_first more.go_on all_of
        where
          by : (bytes : Option (List ℕ)) (known : Option (List (List ℕ))) → IfSome bytes (FirstIs first now) → IfSome known (λ all. GoOnBy it1.walk.id it1.walk.end all more.steps)
              → PrintsAll args o r (part_steps it.walk.end part.lines part.is_whole ++ more.steps) result → PrintsAt bytes known args o r result
          by None known begins goes all = tt
          by (Some bytes) None begins goes all = tt
          by (Some bytes) (Some known) begins goes (wanted, wanted_is, inl (went, ends)) = inl (record {
            steps = part_steps it.walk.end part.lines part.is_whole ++ more.steps;
            has_steps = has_steps bytes known more.steps begins goes;
            wanted = wanted;
            wanted_is = wanted_is;
            printed = went;
            result_is = ends;
          })
          by (Some bytes) (Some known) begins goes (wanted, wanted_is, inr (inl (failed, cut))) = inr (inl (
            failed,
            record {
              steps = part_steps it.walk.end part.lines part.is_whole ++ more.steps;
              begins = has_front bytes known more.steps begins (go_begin it1.walk.id it1.walk.end known more.steps goes);
              wanted = wanted;
              wanted_is = wanted_is;
              cut = cut;
            },
          ))
          by (Some bytes) (Some known) begins goes (wanted, wanted_is, inr (inr (memory, some))) = inr (inr (Memory, memory, inl (inr (inl refl))))

      pub all_sent : IsSent o r result
      all_sent = sent_all args o r (part_steps it.walk.end part.lines part.is_whole ++ more.steps) result all_of

      pub all_read : (fault : Fault) → result ≡ Err fault → (fault ≡ Journal OpenFailed) ⊎ (fault ≡ Journal ReadFailed) → ⊥
      all_read fault = read_all args o r (part_steps it.walk.end part.lines part.is_whole ++ more.steps) result fault all_of

-- ---- the answer

-- where it was printed to its end, no part went unread
pub printed_parts : (at : AtPaths) (args : JournalArgs) (o r : Stream) (result : Done) → PrintsAt (at.bytes args.path.now) (parts_known at args) args o r result → IsSent o r result
    → ((fault : Fault) → result ≡ Err fault → (fault ≡ Journal OpenFailed) ⊎ (fault ≡ Journal ReadFailed) → FailsOne at args) → PrintsParts at args o r result
printed_parts at args o r result printed sent unread = record {
  printed = inr printed;
  sent = sent;
  unopened = λ is. unread (Journal OpenFailed) is (inl refl);
  unread = λ is. unread (Journal ReadFailed) is (inr refl);
}

-- a fault of a part
pub part_at : (one : Option (List ℕ)) (parts : Option (List (List ℕ))) (args : JournalArgs) (o r : Stream) (result : Done) (fault : Fault) → result ≡ Err fault
    → IsUnreadPart fault ⊎ IfSome one (λ bytes. IfSome parts (λ known. Breaks bytes known fault)) → PrintsAt one parts args o r result
part_at None parts args o r result fault is of = tt
part_at (Some one) None args o r result fault is of = tt
part_at (Some one) (Some parts) args o r result fault is of = inr (inr (fault, is, of))

-- nothing was printed yet
pub begun_with : (args : JournalArgs) (o : Stream) (it : Printing) (wanted : Option Id) → wanted_in args ≡ Ok wanted → string_bytes it.text ≡ []
    → IsText args wanted [] [] it.kind → it.bad ≡ None → HasPrinted args o [] it o
begun_with args o it wanted wanted_is empty text bad = record {
  wanted = wanted;
  wanted_is = wanted_is;
  sent = [];
  went = sent_none o;
  text = subst (λ (l : List ℕ). IsText args wanted [] l it.kind) (sym empty) text;
  bad_is = bad;
}

-- the word names no clearance
pub no_such : (at : AtPaths) (args : JournalArgs) (o : Stream) (result : Done) → wanted_in args ≡ Err NoSuch → result ≡ Err NoSuch → PrintsParts at args o o result
no_such at args o result wanted is = record {
  printed = inl (wanted, is, refl);
  sent = subst (λ (r : Done). IsSent o o r) (sym is) (unsent o NoSuch (λ e. cc e));
  unopened = λ e. absurd (cc (sym is ∙ e));
  unread = λ e. absurd (cc (sym is ∙ e));
}

-- the first part was not opened, or has no first line
pub first_failed : (at : AtPaths) (args : JournalArgs) (o : Stream) (result : Done) (fault : Fault) → result ≡ Err fault → IsOfPart fault
    → IsUnreadOr IsNoFirst (at.bytes args.path.now) fault
    → ((fault ≡ Journal OpenFailed) ⊎ (fault ≡ Journal ReadFailed) → at.fails args.path.now) → PrintsParts at args o o result
first_failed at args o result fault is of refused cause =
    printed_parts at args o o result
    (part_at (at.bytes args.path.now) (parts_known at args) args o o result fault is (first_breaks (at.bytes args.path.now) (parts_known at args) fault refused))
    (subst (λ (r : Done). IsSent o o r) (sym is) (unsent o fault (part_other fault of)))
    (λ found e which. inl (cause (subst (λ (f : Fault). (f ≡ Journal OpenFailed) ⊎ (f ≡ Journal ReadFailed)) (cc (sym e ∙ is)) which)))

-- printing failed
cut_sent : (args : JournalArgs) (o r : Stream) (steps : List Step) (fault : Fault) → fault ≡ Output → IsCutOf args o r steps → IsSent o r (Err fault)
cut_sent args o r steps fault output (wanted, wanted_is, cut) = record {
  done = tt;
  before = λ other. absurd (other output);
  failed = λ _. cut.1;
}

part_sent : (o r : Stream) (fault : Fault) → fault ≢ Output → SentSome o r → IsSent o r (Err fault)
part_sent o r fault other some = record {
  done = tt;
  before = λ _. some;
  failed = λ is. absurd (other (cc is));
}

module _ (at : AtPaths) (args : JournalArgs) (o : Stream) (first : Place) (now : Option (List ℕ)) (it : Printing)
    (is_first : IfSome (at.bytes args.path.now) (FirstIs first now)) (id : it.walk.id ≡ first.id) (end : it.walk.end ≡ end_at first) (begun : HasPrinted args o [] it o) where
  -- of the first part
  pub within_failed : (fault : Fault) (r : Stream) → ((fault ≡ Journal OpenFailed) ⊎ (fault ≡ Journal ReadFailed) → at.fails args.path.now)
      → FailsWithin now it o fault r → PrintsParts at args o r (Err fault)
  within_failed fault r cause part = by part.why
    where
      by : (fault ≡ Output) ⊎ IsOfReading fault → PrintsParts at args o r (Err fault)
      by (inl output) =
          printed_parts at args o r (Err fault) (within-output args o (at.bytes args.path.now) (parts_known at args) first now it is_first id end begun fault r output part)
          (cut_sent args o r part.steps fault output (part.fails.cut output args o [] begun))
          (λ found e which. inl (cause (subst (λ (f : Fault). (f ≡ Journal OpenFailed) ⊎ (f ≡ Journal ReadFailed)) (cc (sym e)) which)))
      by (inr of) =
          printed_parts at args o r (Err fault) (part_at (at.bytes args.path.now) (parts_known at args) args o r (Err fault) fault refl (inl (inr of)))
          (part_sent o r fault (unread_other fault (inr of)) (part.fails.sent (unread_other fault (inr of)) args o [] begun))
          (λ found e which. inl (cause (subst (λ (f : Fault). (f ≡ Journal OpenFailed) ⊎ (f ≡ Journal ReadFailed)) (cc (sym e)) which)))

  module _ (it1 : Printing) (p : Stream) (part : PrintsPart now it o it1 p) where
    -- of a further one
    pub more_failed : (fault : Fault) (r : Stream) → IsOfPrinting fault → FailsAny at args.parts.items fault
        → FailsMore (parts_known at args) it1 p fault r → PrintsParts at args o r (Err fault)
    more_failed fault r (inl output) cause more =
        printed_parts at args o r (Err fault)
        (more-output args o (at.bytes args.path.now) (parts_known at args) first now it is_first id end begun it1 p part fault r output more)
        (cut_sent args o r (part_steps it.walk.end part.lines part.is_whole ++ more.steps) fault output
        (more.fails.cut output args o (part_steps it.walk.end part.lines part.is_whole) (part.prints.printed args o [] begun)))
        (λ found e which. inr (cause (subst (λ (f : Fault). (f ≡ Journal OpenFailed) ⊎ (f ≡ Journal ReadFailed)) (cc (sym e)) which)))
    more_failed fault r (inr of) cause more =
        printed_parts at args o r (Err fault)
        (part_at (at.bytes args.path.now) (parts_known at args) args o r (Err fault) fault refl
        (more_stopped args o (at.bytes args.path.now) (parts_known at args) first now it is_first id end begun it1 p part fault (not_output more.why)))
        (part_sent o r fault (part_other fault of) (more.fails.sent (part_other fault of) args o (part_steps it.walk.end part.lines part.is_whole) (part.prints.printed args o [] begun)))
        (λ found e which. inr (cause (subst (λ (f : Fault). (f ≡ Journal OpenFailed) ⊎ (f ≡ Journal ReadFailed)) (cc (sym e)) which)))
      where
        not_output : (fault ≡ Output) ⊎ IsUnreadPart fault ⊎ IfSome (parts_known at args) (λ known. BreaksAfter it1.walk.id it1.walk.end known fault)
            → IsUnreadPart fault ⊎ IfSome (parts_known at args) (λ known. BreaksAfter it1.walk.id it1.walk.end known fault)
        not_output (inl output) = absurd (part_other fault of output)
        not_output (inr why) = why

    -- all was printed
    pub printed_all : (it2 : Printing) (q r : Stream) (result : Done) → PrintsMore (parts_known at args) it1 p it2 q
        → ((asked : JournalArgs) (began : Stream) (steps : List Step) → HasPrinted asked began steps it2 q → PrintsAll asked began r steps result)
        → PrintsParts at args o r result
    printed_all it2 q r result more ended =
        printed_parts at args o r result
        (printed_at args o (at.bytes args.path.now) (parts_known at args) first now it is_first id end begun it1 p part it2 q r result more ended)
        (all_sent args o (at.bytes args.path.now) (parts_known at args) first now it is_first id end begun it1 p part it2 q r result more ended)
        (λ fault is which.
        absurd (all_read args o (at.bytes args.path.now) (parts_known at args) first now it is_first id end begun it1 p part it2 q r result more ended fault is which))

-- the parts that a slice names
pub more_of : (bytes_at : List ℕ → Option (List ℕ)) (parts known : List (Bor (List ℕ))) (old : Printing) (o p : Stream) (fault : Fault) → parts ≡ known
    → FailsMore (all_known (map (λ (path : Bor (List ℕ)). bytes_at path.now) parts)) old o fault p
    → FailsMore (all_known (map (λ (path : Bor (List ℕ)). bytes_at path.now) known)) old o fault p
more_of bytes_at parts known old o p fault same more =
    subst (λ (l : List (Bor (List ℕ))). FailsMore (all_known (map (λ (path : Bor (List ℕ)). bytes_at path.now) l)) old o fault p) same more

pub any_of : (at : AtPaths) (parts known : List (Bor (List ℕ))) (fault : Fault) → parts ≡ known → FailsAny at parts fault → FailsAny at known fault
any_of at parts known fault same any = subst (λ (l : List (Bor (List ℕ))). FailsAny at l fault) same any
