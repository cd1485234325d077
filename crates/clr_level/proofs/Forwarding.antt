-- How far a register has come of the lines after its place.
use Rattle.std.proofs.Common.{◌≡◌, ◌∙◌, Bool, true, false, cond, ℕ, List, [], ◌∷◌, ◌++◌, ◌||◌, map, Option, None, Some, IfSome, IfErr, IfOk, OnErr, OnOk, Result, Ok, Err, refl, ap, sym, subst, append_assoc, append-nil, reverse, inr}
use Rattle.std.proofs.Math.Bool.{or-false, or-true}
use Rattle.std.proofs.lemmas.List.{map-append, reverse-append, reverse-reverse}
use Rattle.std.proofs.lemmas.List.Folds.{list_any-append}
use Rattle.std.specs.List.{list_any}
use Rattle.sqlite.specs.State.{State, Survives}
use Rattle.sqlite.specs.Tree.{Trees}
use Rattle.serde_json.specs.Data.{Data}
use Rattle.serde_json.specs.View.{view}
use Rattle.clr_rules.specs.declared.place.Place.{Place}
use Rattle.clr_rules.specs.Good.{IsGood}
use Rattle.clr_rules.specs.Register.{Register}
use Rattle.clr_changes.specs.Deeds.{Deed, after_deed, deed_of}
use Rattle.clr_changes.proofs.Deeds.{deeds_good}
use Rattle.clr_journal.specs.Answered.{deed_reply}
use Rattle.clr_journal.specs.Journals.{carried_out, next_place, withdraws}
use Rattle.clr_journal.specs.Line.{Entry, entry_of, is_accepted, withdrawn}
use Rattle.clr_journal.specs.declared.line.Carried.{Carried}
use Rattle.clr_journal.specs.declared.line.Line.{Line}
use Rattle.clr_journal.specs.declared.line.Line.TheVariants as line
use Rattle.clr_journal.proofs.JournalsRead.{withdrawn_is_left_out}
use Rattle.clr_chain.specs.Level.{IsRunOf, place_after, place_with}
use Rattle.clr_chain.specs.Link.{has_fraction}
use Rattle.clr_chain.proofs.LevelKept.{carried_out-append}
use Rattle.clr_desk.specs.Taking.{Taking}
use Rattle.clr_desk.specs.declared.desk.Desk.{Desk}
use Rattle.clr_desk.specs.declared.desk_fault.DeskFault.{DeskFault}
use Rattle.clr_level.specs.Crash.{AreRolled, KeepsTables}
use Rattle.clr_level.specs.Forward.{AreAnswered, AreShallow, Arrives, GoesOn, HasCome, HasFractionAt, HasStopped, IsAccepted, IsOfCarrying, IsOfForward, StopsAt, Went}
use Rattle.clr_level.specs.Forward.{entry_with, open_after, open_entries, opened_by}
use Rattle.clr_desk.specs.Placing.{Placing}
use Rattle.clr_level.specs.Placing.{ComesTo, IsAt, StaysShown}
use Rattle.clr_level.specs.Carrying.{IsTaken}
use Rattle.clr_level.specs.declared.fault.OpeningFault.{OpeningFault}
use Rattle.clr_level.specs.declared.fault.OpeningFault.TheVariants as opening
use Rattle.clr_level.proofs.Chains.{accepted_out, front_kept, no_run, place_more, refused_out, reply_in_run, run_more, withdrawn_out}
use Rattle.clr_level.proofs.Crashes.{left_itself}
use Rattle.clr_level.proofs.Deeds.{goes_itself}
use Rattle.clr_level.proofs.Places.{at_moves, at_stays}

-- a run leaves a good register good
pub still_good : (R S : Register) (pairs : List (Deed × Data)) → IsGood R → IsRunOf R pairs S → IsGood S
still_good R S pairs good run = subst IsGood (sym run.register) (deeds_good (map (λ pair. pair.0) pairs) R good)

-- the open command, where a line has closed it, stays closed at that line
pub closed_again : (one : Line) (before now : Option Carried) → now ≡ open_after one before → now ≡ open_after one now
closed_again (line.Carried c) before now is = is
closed_again (line.Withdrawn n) before now is = refl

module _ (has_place : Placing) (R : Register) (place : Place) (lines : List Entry) where
  -- before the first line
  pub begun : (s : State) → withdraws lines ≡ false → AreShallow lines → IsAt has_place s place → HasCome has_place R place lines R s place None lines
  unfolding carried_out
  begun s kept shallow at = record {
    had = [];
    idle = [];
    all_is = refl;
    begins = kept;
    none = refl;
    accepted = tt;
    run = no_run R;
    at_is = refl;
    placed = at;
    shallow = shallow;
  }

  -- where there is none
  pub begun_there : (s : State) → lines ≡ [] → withdraws lines ≡ false → AreShallow lines → IsAt has_place s place
      → HasCome has_place R place lines R s place None [] × IsAt has_place s place
  begun_there s none kept shallow at =
      (subst (λ es. HasCome has_place R place lines R s place None es) none (begun s kept shallow at), at)

  -- ---- a line more

  regrouped : (had before now rest : List Entry) (entry : Entry) → now ≡ before ++ entry ∷ [] → had ++ (before ++ entry ∷ rest) ≡ had ++ (now ++ rest)
  regrouped had before now rest entry is =
      ap (λ es. had ++ es) (sym (append_assoc before (entry ∷ []) rest) ∙ ap (λ es. es ++ rest) (sym is))

  further : (had before now : List Entry) (entry : Entry) → now ≡ before ++ entry ∷ [] → place_with (place_after place (had ++ before)) entry ≡ place_after place (had ++ now)
  further had before now entry is =
      sym (place_more place (had ++ before) entry)
      ∙ ap (place_after place) (append_assoc had before (entry ∷ []) ∙ ap (λ es. had ++ es) (sym is))

  -- where it is known which of the lines before the next are idle, and which command is open
  gone_on : (S : Register) (s : State) (at : Place) (open_one next : Option Carried) (entry : Entry) (rest : List Entry)
      (come : HasCome has_place R place lines S s at open_one (entry ∷ rest)) (idle : List Entry)
      → idle ++ open_entries next ≡ (HasCome.idle come ++ open_entries open_one) ++ entry ∷ [] → carried_out idle ≡ []
      → IfSome next IsAccepted → AreShallow (open_entries next ++ rest)
      → HasCome has_place R place lines S s (place_with at entry) next rest
  gone_on S s at open_one next entry rest come idle is none accepted shallow =
      let before = come.idle ++ open_entries open_one in
      record {
        had = come.had;
        idle = idle;
        all_is = come.all_is ∙ regrouped come.had before (idle ++ open_entries next) rest entry is;
        begins = ap withdraws (ap (λ es. es ++ rest) is ∙ append_assoc before (entry ∷ []) rest) ∙ come.begins;
        none = none;
        accepted = accepted;
        run = come.run;
        at_is = ap (λ p. place_with p entry) come.at_is ∙ further come.had before (idle ++ open_entries next) entry is;
        placed = come.placed;
        shallow = shallow;
      }

  -- a line of a command: none is open before it
  command_passed : (S : Register) (s : State) (at : Place) (one : Carried) (rest : List Entry) (b : Bool) → is_accepted (view one.reply) ≡ b
      → HasCome has_place R place lines S s at None (entry_of (line.Carried one) ∷ rest)
      → HasCome has_place R place lines S s (place_with at (entry_of (line.Carried one))) (cond b (Some one) None) rest
  command_passed S s at one rest true accepted come =
      gone_on S s at None (Some one) (entry_of (line.Carried one)) rest come come.idle (ap (λ es. es ++ entry_of (line.Carried one) ∷ []) (sym (append-nil come.idle)))
      come.none accepted come.shallow
  command_passed S s at one rest false refused come =
      let entry = entry_of (line.Carried one) in
      gone_on S s at None None entry rest come (come.idle ++ entry ∷ [])
      (append-nil (come.idle ++ entry ∷ []) ∙ ap (λ es. es ++ entry ∷ []) (sym (append-nil come.idle)))
      (refused_out come.idle one.receipt (deed_of one.deed) (view one.reply) come.none refused) tt come.shallow.1

  -- a line that withdraws: what was open is idle
  withdrawn_passed : (S : Register) (s : State) (at : Place) (open_one : Option Carried) (n : ℕ) (rest : List Entry)
      → HasCome has_place R place lines S s at open_one (withdrawn n ∷ rest) → HasCome has_place R place lines S s (place_with at (withdrawn n)) None rest
  withdrawn_passed S s at None n rest come =
      gone_on S s at None None (withdrawn n) rest come (come.idle ++ withdrawn n ∷ [])
      (append-nil (come.idle ++ withdrawn n ∷ []) ∙ ap (λ es. es ++ withdrawn n ∷ []) (sym (append-nil come.idle)))
      (withdrawn_out come.idle n come.none) tt come.shallow.1
  withdrawn_passed S s at (Some one) n rest come =
      let entry = entry_of (line.Carried one) in
      gone_on S s at (Some one) None (withdrawn n) rest come (come.idle ++ entry ∷ withdrawn n ∷ [])
      (append-nil (come.idle ++ entry ∷ withdrawn n ∷ []) ∙ sym (append_assoc come.idle (entry ∷ []) (withdrawn n ∷ [])))
      (withdrawn_is_left_out come.idle one.receipt (deed_of one.deed) (view one.reply) n ∙ come.none) tt come.shallow.1.1

  pub line_passed : (S : Register) (s : State) (at : Place) (open_one : Option Carried) (one : Line) (rest : List Entry) → open_one ≡ open_after one open_one
      → HasCome has_place R place lines S s at open_one (entry_of one ∷ rest)
      → HasCome has_place R place lines S s (place_with at (entry_of one)) (opened_by one) rest
  line_passed S s at open_one (line.Carried one) rest closed come =
      command_passed S s at one rest (is_accepted (view one.reply)) refl
      (subst (λ (o : Option Carried). HasCome has_place R place lines S s at o (entry_of (line.Carried one) ∷ rest)) closed come)
  line_passed S s at open_one (line.Withdrawn n) rest closed come = withdrawn_passed S s at open_one n rest come

  pub line_passed_as : (S : Register) (s : State) (at at' : Place) (open_one next : Option Carried) (one : Line) (rest : List Entry)
      → at' ≡ place_with at (entry_of one) → next ≡ opened_by one → open_one ≡ open_after one open_one
      → HasCome has_place R place lines S s at open_one (entry_of one ∷ rest) → HasCome has_place R place lines S s at' next rest
  line_passed_as S s at at' open_one next one rest at_is next_is closed come =
      subst (λ (p : Place). HasCome has_place R place lines S s p next rest) (sym at_is)
      (subst (λ (o : Option Carried). HasCome has_place R place lines S s (place_with at (entry_of one)) o rest) (sym next_is)
      (line_passed S s at open_one one rest closed come))

  -- ---- the open command carried out

  whole : (had idle rest : List Entry) (entry : Entry) → had ++ ((idle ++ entry ∷ []) ++ rest) ≡ (had ++ (idle ++ entry ∷ [])) ++ (([] ++ []) ++ rest)
  whole had idle rest entry = sym (append_assoc had (idle ++ entry ∷ []) rest)

  -- a run with the open command
  pub run_with : (S : Register) (s : State) (at : Place) (one : Carried) (rest : List Entry) (come : HasCome has_place R place lines S s at (Some one) rest)
      → view one.reply ≡ deed_reply S (deed_of one.deed)
      → IsRunOf R (carried_out (HasCome.had come ++ (HasCome.idle come ++ entry_with one ∷ []))) (after_deed S (deed_of one.deed))
  run_with S s at one rest come is =
      let now = come.idle ++ entry_with one ∷ [] in
      let pairs : carried_out (come.had ++ now) ≡ carried_out come.had ++ (deed_of one.deed, deed_reply S (deed_of one.deed)) ∷ [] =
      carried_out-append come.had now (front_kept now rest come.begins)
      ∙ ap (λ es. carried_out come.had ++ es) (accepted_out come.idle one.receipt (deed_of one.deed) (view one.reply) come.none come.accepted)
      ∙ ap (λ (d : Data). carried_out come.had ++ (deed_of one.deed, d) ∷ []) is in
      subst (λ pairs. IsRunOf R pairs (after_deed S (deed_of one.deed))) (sym pairs) (run_more R S (carried_out come.had) (deed_of one.deed) come.run)

  pub carried_on : (S T : Register) (s t : State) (at : Place) (one : Carried) (rest : List Entry) → HasCome has_place R place lines S s at (Some one) rest
      → withdraws rest ≡ false → view one.reply ≡ deed_reply S (deed_of one.deed) → T ≡ after_deed S (deed_of one.deed) → ComesTo has_place s t at
      → HasCome has_place R place lines T t at None rest × IsAt has_place t at
  unfolding carried_out
  carried_on S T s t at one rest come kept is went comes =
      let entry = entry_of (line.Carried one) in
      let now = come.idle ++ entry ∷ [] in
      let here : IsAt has_place t at = at_moves has_place s t (place_after place come.had) at come.placed comes in (
        record {
          had = come.had ++ now;
          idle = [];
          all_is = come.all_is ∙ whole come.had come.idle rest entry;
          begins = kept;
          none = refl;
          accepted = tt;
          run = subst (λ (X : Register). IsRunOf R (carried_out (come.had ++ now)) X) (sym went) (run_with S s at one rest come is);
          at_is = come.at_is ∙ ap (place_after place) (sym (append-nil (come.had ++ now)));
          placed = subst (IsAt has_place t) come.at_is here;
          shallow = come.shallow.1;
        },
        here,
      )

  -- ---- the place moved over idle lines

  -- they carry nothing out
  pub run_over_idle : (S : Register) (s : State) (at : Place) (come : HasCome has_place R place lines S s at None [])
      → IsRunOf R (carried_out (HasCome.had come ++ HasCome.idle come)) S
  run_over_idle S s at come =
      let kept : withdraws come.idle ≡ false = front_kept come.idle [] (front_kept (come.idle ++ []) [] come.begins) in
      let pairs : carried_out (come.had ++ come.idle) ≡ carried_out come.had =
      carried_out-append come.had come.idle kept ∙ ap (λ ps. carried_out come.had ++ ps) come.none ∙ append-nil (carried_out come.had) in
      subst (λ ps. IsRunOf R ps S) (sym pairs) come.run

  pub moved_on : (S T : Register) (s t : State) (at : Place) → HasCome has_place R place lines S s at None [] → T ≡ S → ComesTo has_place s t at
      → HasCome has_place R place lines T t at None [] × IsAt has_place t at
  unfolding carried_out
  moved_on S T s t at come same comes =
      let here : IsAt has_place t at = at_moves has_place s t (place_after place come.had) at come.placed comes in
      let none : (come.idle ++ []) ++ [] ≡ come.idle = append-nil (come.idle ++ []) ∙ append-nil come.idle in
      let end_is : at ≡ place_after place (come.had ++ come.idle) = come.at_is ∙ ap (λ es. place_after place (come.had ++ es)) (append-nil come.idle) in (
        record {
          had = come.had ++ come.idle;
          idle = [];
          all_is = come.all_is ∙ ap (λ es. come.had ++ es) none ∙ sym (append-nil (come.had ++ come.idle));
          begins = refl;
          none = refl;
          accepted = tt;
          run = subst (λ (X : Register). IsRunOf R (carried_out (come.had ++ come.idle)) X) (sym same) (run_over_idle S s at come);
          at_is = end_is ∙ ap (place_after place) (sym (append-nil (come.had ++ come.idle)));
          placed = subst (IsAt has_place t) end_is here;
          shallow = tt;
        },
        here,
      )

  -- where it was not, nothing is shown but what was
  pub stayed : (S T : Register) (s t : State) (at : Place) (open_one : Option Carried) (rest : List Entry) → HasCome has_place R place lines S s at open_one rest
      → T ≡ S → StaysShown s t → HasCome has_place R place lines T t at open_one rest
  stayed S T s t at open_one rest come same stays = record {
    had = come.had;
    idle = come.idle;
    all_is = come.all_is;
    begins = come.begins;
    none = come.none;
    accepted = come.accepted;
    run = subst (λ (X : Register). IsRunOf R (carried_out come.had) X) (sym same) come.run;
    at_is = come.at_is;
    placed = at_stays has_place s t (place_after place come.had) come.placed stays;
    shallow = come.shallow;
  }

  -- where all lines are answered as they say, it is
  pub said : (S : Register) (s : State) (at : Place) (one : Carried) (rest : List Entry) → AreAnswered R lines
      → HasCome has_place R place lines S s at (Some one) rest → withdraws rest ≡ false → view one.reply ≡ deed_reply S (deed_of one.deed)
  said S s at one rest answered come kept =
      let entry = entry_with one in
      let now = come.idle ++ entry ∷ [] in
      let pairs : carried_out lines ≡ carried_out come.had ++ (deed_of one.deed, view one.reply) ∷ carried_out rest =
      ap carried_out come.all_is ∙ carried_out-append come.had (now ++ rest) come.begins
      ∙ ap (λ ps. carried_out come.had ++ ps) (carried_out-append now rest kept
      ∙ ap (λ ps. ps ++ carried_out rest) (accepted_out come.idle one.receipt (deed_of one.deed) (view one.reply) come.none come.accepted)) in
      reply_in_run R S answered.0 (carried_out come.had) (deed_of one.deed) (view one.reply) (carried_out rest) come.run
      (subst (λ ps. IsRunOf R ps answered.0) pairs answered.1)

  -- and so it is carried out
  pub answered_on : (S T : Register) (s t : State) (at : Place) (one : Carried) (rest : List Entry) → IsGood R → AreAnswered R lines
      → HasCome has_place R place lines S s at (Some one) rest → withdraws rest ≡ false
      → (IsTaken S (deed_of one.deed) → T ≡ after_deed S (deed_of one.deed)) → (IsTaken S (deed_of one.deed) → ComesTo has_place s t at)
      → HasCome has_place R place lines T t at None rest × IsAt has_place t at
  answered_on S T s t at one rest good answered come kept went comes =
      let is = said S s at one rest answered come kept in
      let taken : IsTaken S (deed_of one.deed) = (still_good R S (carried_out come.had) good come.run, ap is_accepted (sym is) ∙ come.accepted) in
      carried_on S T s t at one rest come kept is (went taken) (comes taken)

  pub stopped : (S : Register) (s : State) (at : Place) (open_one : Option Carried) (rest : List Entry) → HasCome has_place R place lines S s at open_one rest
      → HasStopped has_place R place lines S s
  stopped S s at open_one rest come = record { at = at; open_one = open_one; rest = rest; come = come }

  -- at a line that has a fraction
  pub stopped_at_fraction : (S : Register) (s : State) (at : Place) (open_one : Option Carried) (entry : Entry) (rest : List Entry) (number : ℕ)
      → HasCome has_place R place lines S s at open_one (entry ∷ rest) → has_fraction entry ≡ true → number ≡ next_place at.number
      → HasFractionAt has_place R place lines number S s
  stopped_at_fraction S s at open_one entry rest number come fraction number_is = record {
    stopped = record { at = at; open_one = open_one; rest = entry ∷ rest; come = come };
    entry = entry;
    later = rest;
    rest_is = refl;
    fraction = fraction;
    number_is = number_is;
  }

pub on_ok : {A B : Type 0} (came : Result A B) (value : A) (P : Type 0) → came ≡ Ok value → OnOk came P → P
on_ok {A} {B} came value P is holds = subst (λ (r : Result A B). OnOk r P) is holds

pub on_err : {A B : Type 0} (came : Result A B) (fault : B) (P : Type 0) → came ≡ Err fault → OnErr came P → P
on_err {A} {B} came fault P is holds = subst (λ (r : Result A B). OnErr r P) is holds

pub if_ok : {A B : Type 0} (came : Result A B) (value : A) (P : A → Type 0) → came ≡ Ok value → IfOk came P → P value
if_ok {A} {B} came value P is holds = subst (λ (r : Result A B). IfOk r P) is holds

pub if_err : {A B : Type 0} (came : Result A B) (fault : B) (P : B → Type 0) → came ≡ Err fault → IfErr came P → P fault
if_err {A} {B} came fault P is holds = subst (λ (r : Result A B). IfErr r P) is holds

-- ---- the faults

pub has_one : (entry : Entry) → has_fraction entry ≡ true → list_any has_fraction (entry ∷ []) ≡ true
has_one entry is = ap (λ (b : Bool). b || false) is

-- of more lines
pub among : (fails : DeskFault → Type 0) (lines more : List Entry) (fault : OpeningFault) → (list_any has_fraction lines ≡ true → list_any has_fraction more ≡ true)
    → IsOfCarrying fails lines fault → IsOfCarrying fails more fault
among fails lines more (opening.OtherRules n) within is = is
among fails lines more opening.OtherRegister within is = is
among fails lines more opening.TooShort within is = is
among fails lines more (opening.Differs n) within is = is
among fails lines more (opening.BadLine n) within is = within is
among fails lines more (opening.Desk cause) within is = is

pub none_has : (more : List Entry) → list_any has_fraction [] ≡ true → list_any has_fraction more ≡ true
none_has more is = absurd (cc is)

pub of_more : {A : Type 0} (fails : DeskFault → Type 0) (lines more : List Entry) (came : Result A OpeningFault) (fault : OpeningFault) → came ≡ Err fault
    → (list_any has_fraction lines ≡ true → list_any has_fraction more ≡ true) → IfErr came (IsOfCarrying fails lines) → IsOfCarrying fails more fault
of_more fails lines more came fault is within of = among fails lines more fault within (if_err came fault (IsOfCarrying fails lines) is of)

-- one that is of none
pub at_its_end : (fails : DeskFault → Type 0) (lines : List Entry) (came : Result (Unit {0}) OpeningFault) → IfErr came (IsOfCarrying fails [])
    → IfErr came (IsOfCarrying fails lines)
at_its_end fails lines (Ok done) of = tt
at_its_end fails lines (Err fault) of = among fails [] lines fault (none_has lines) of

pub of_forward : (fails : DeskFault → Type 0) (lines : List Entry) (came : Result (Unit {0}) OpeningFault) → IfErr came (IsOfCarrying fails lines)
    → IfErr came (IsOfForward fails lines)
of_forward fails lines (Ok done) of = tt
of_forward fails lines (Err fault) of = inr of

-- one of the lines is the one after the first
pub in_lines : (before after : List Line) (one : Line) (lines : List Line) → lines ≡ before ++ one ∷ after
    → list_any has_fraction (entry_of one ∷ []) ≡ true → list_any has_fraction (map entry_of lines) ≡ true
in_lines before after one lines all is =
    let own : has_fraction (entry_of one) ≡ true = sym (or-false (has_fraction (entry_of one))) ∙ is in
    ap (λ (ls : List Line). list_any has_fraction (map entry_of ls)) all
    ∙ ap (list_any has_fraction) (map-append entry_of before (one ∷ after))
    ∙ list_any-append has_fraction (map entry_of before) (entry_of one ∷ map entry_of after)
    ∙ ap (λ (b : Bool). list_any has_fraction (map entry_of before) || (b || list_any has_fraction (map entry_of after))) own
    ∙ or-true (list_any has_fraction (map entry_of before))

-- a line that has a command withdraws none
pub carried_kept : (one : Line) (c : Carried) (rest : List Entry) → one ≡ line.Carried c → withdraws (entry_of one ∷ rest) ≡ false
carried_kept one c rest is = ap (λ (l : Line). withdraws (entry_of l ∷ rest)) is

-- ---- what comes of lines

module _ {K : Type 0} (kept : K → State) (has_place : Placing) (R : Register) (place : Place) (lines : List Entry) where
  -- a fault is where it stopped, whatever comes after it
  pub stops_on : (came : Result (Unit {0}) OpeningFault) (fault : OpeningFault) (desk : Desk K) (at : Place) (one : Option Carried) (rest : List Entry)
      → came ≡ Err fault → Went kept has_place R place lines came desk at one rest
      → StopsAt has_place R place lines fault desk.book.register (kept desk.store)
  stops_on came fault desk at one rest is went =
      subst (λ (r : Result (Unit {0}) OpeningFault). Went kept has_place R place lines r desk at one rest) is went

  pub goes_on : (came : Result (Unit {0}) OpeningFault) (done : Unit {0}) (desk : Desk K) (at : Place) (one : Option Carried) (rest : List Entry)
      → came ≡ Ok done → Went kept has_place R place lines came desk at one rest
      → HasCome has_place R place lines desk.book.register (kept desk.store) at one rest
  goes_on came done desk at one rest is went =
      subst (λ (r : Result (Unit {0}) OpeningFault). Went kept has_place R place lines r desk at one rest) is went

  -- it has come where it arrives
  pub went_on : (came : Result (Unit {0}) OpeningFault) (desk : Desk K) (at : Place) (rest : List Entry) → Arrives kept has_place R place lines came desk at rest
      → Went kept has_place R place lines came desk at None rest
  went_on (Ok done) desk at rest arrives = arrives.0
  went_on (Err fault) desk at rest arrives = arrives

  pub stops_there : (came : Result (Unit {0}) OpeningFault) (fault : OpeningFault) (desk : Desk K) (at : Place) (rest : List Entry)
      → came ≡ Err fault → Arrives kept has_place R place lines came desk at rest
      → StopsAt has_place R place lines fault desk.book.register (kept desk.store)
  stops_there came fault desk at rest is arrives =
      subst (λ (r : Result (Unit {0}) OpeningFault). Arrives kept has_place R place lines r desk at rest) is arrives

  pub arrives_on : (came : Result (Unit {0}) OpeningFault) (done : Unit {0}) (desk : Desk K) (at : Place) (rest : List Entry)
      → came ≡ Ok done → Arrives kept has_place R place lines came desk at rest
      → HasCome has_place R place lines desk.book.register (kept desk.store) at None rest × IsAt has_place (kept desk.store) at
  arrives_on came done desk at rest is arrives =
      subst (λ (r : Result (Unit {0}) OpeningFault). Arrives kept has_place R place lines r desk at rest) is arrives

  pub went_closed : (came : Result (Unit {0}) OpeningFault) (desk : Desk K) (at : Place) (one : Option Carried) (rest : List Entry)
      → OnOk came (one ≡ None) → Went kept has_place R place lines came desk at None rest → Went kept has_place R place lines came desk at one rest
  went_closed (Ok done) desk at one rest closed went =
      subst (λ (o : Option Carried). HasCome has_place R place lines desk.book.register (kept desk.store) at o rest) (sym closed) went
  went_closed (Err fault) desk at one rest closed went = went

-- ---- all lines

-- a crash leaves a front of them, where they are answered as they say
abbrev pub Left : {K : Type 0} → (K → State) → Placing → Desk K → Place → List Entry → Trees → Type 0
Left kept has_place desk place lines trees =
    AreAnswered desk.book.register lines → AreRolled has_place (kept desk.store) desk.book.register place lines trees

-- the lines so far, where `left` are those after them, the last first
pub record SoFar {K : Type 0} (kept : K → State) (takes : Taking K) (has_place : Placing) (desk now : Desk K) (place at : Place)
    (open_one : Option Carried) (lines left : List Line) : Type 0 where
  pub come : IsGood desk.book.register → AreAnswered desk.book.register (map entry_of lines) → withdraws (map entry_of lines) ≡ false → AreShallow (map entry_of lines) → IsAt has_place (kept desk.store) place
      → HasCome has_place desk.book.register place (map entry_of lines) now.book.register (kept now.store) at open_one (map entry_of (reverse left))
  pub tables : KeepsTables kept desk now
  pub crash : Survives (kept desk.store) (kept now.store) (Left kept has_place desk place (map entry_of lines))
  pub led : GoesOn kept takes has_place desk now
  pub before : List Line
  pub all : lines ≡ before ++ reverse left

module _ {K : Type 0} (kept : K → State) (takes : Taking K) (has_place : Placing) (desk : Desk K) (place : Place) (lines : List Line) where
  pub none_yet : (left : List Line) → left ≡ reverse lines → SoFar kept takes has_place desk desk place place None lines left
  none_yet left is = record {
    come = λ good answered begins shallow at.
        subst (λ rest. HasCome has_place desk.book.register place (map entry_of lines) desk.book.register (kept desk.store) place None rest)
        (sym (ap (λ ls. map entry_of (reverse ls)) is ∙ ap (map entry_of) (reverse-reverse lines)))
        (begun has_place desk.book.register place (map entry_of lines) (kept desk.store) begins shallow at);
    tables = λ clean good has. has;
    crash = left_itself (kept desk.store) (Left kept has_place desk place (map entry_of lines));
    led = goes_itself kept takes has_place desk;
    before = [];
    all = sym (ap reverse is ∙ reverse-reverse lines);
  }

  -- the next line is one of them
  pub one_of_all : (now : Desk K) (at : Place) (open_one : Option Carried) (left rest : List Line) (one : Line) → left ≡ rest ++ one ∷ []
      → (so_far : SoFar kept takes has_place desk now place at open_one lines left) → lines ≡ SoFar.before so_far ++ one ∷ reverse rest
  one_of_all now at open_one left rest one is so_far =
      so_far.all ∙ ap (λ ls. so_far.before ++ ls) (ap reverse is ∙ reverse-append rest (one ∷ []))

  -- and is before those that are left then
  pub one_before : (now : Desk K) (at : Place) (open_one : Option Carried) (left rest : List Line) (one : Line) → left ≡ rest ++ one ∷ []
      → (so_far : SoFar kept takes has_place desk now place at open_one lines left) → lines ≡ (SoFar.before so_far ++ one ∷ []) ++ reverse rest
  one_before now at open_one left rest one is so_far =
      one_of_all now at open_one left rest one is so_far ∙ sym (append_assoc so_far.before (one ∷ []) (reverse rest))

  taken_last : (left rest : List Line) (one : Line) → left ≡ rest ++ one ∷ [] → map entry_of (reverse left) ≡ entry_of one ∷ map entry_of (reverse rest)
  taken_last left rest one is = ap (λ ls. map entry_of (reverse ls)) is ∙ ap (map entry_of) (reverse-append rest (one ∷ []))

  -- what is said of the next line is said of the lines so far
  pub at_line : (now : Desk K) (at : Place) (open_one : Option Carried) (left rest : List Line) (one : Line) → left ≡ rest ++ one ∷ []
      → SoFar kept takes has_place desk now place at open_one lines left
      → IsGood desk.book.register → AreAnswered desk.book.register (map entry_of lines) → withdraws (map entry_of lines) ≡ false → AreShallow (map entry_of lines) → IsAt has_place (kept desk.store) place
      → HasCome has_place desk.book.register place (map entry_of lines) now.book.register (kept now.store) at open_one (entry_of one ∷ map entry_of (reverse rest))
  at_line now at open_one left rest one is so_far good answered begins shallow here =
      subst (λ es. HasCome has_place desk.book.register place (map entry_of lines) now.book.register (kept now.store) at open_one es)
      (taken_last left rest one is) (so_far.come good answered begins shallow here)

  -- none is left
  pub at_last : (now : Desk K) (at : Place) (open_one : Option Carried) (left : List Line) → left ≡ []
      → SoFar kept takes has_place desk now place at open_one lines left
      → IsGood desk.book.register → AreAnswered desk.book.register (map entry_of lines) → withdraws (map entry_of lines) ≡ false → AreShallow (map entry_of lines) → IsAt has_place (kept desk.store) place
      → HasCome has_place desk.book.register place (map entry_of lines) now.book.register (kept now.store) at open_one []
  at_last now at open_one left is so_far good answered begins shallow here =
      subst (λ es. HasCome has_place desk.book.register place (map entry_of lines) now.book.register (kept now.store) at open_one es)
      (ap (λ ls. map entry_of (reverse ls)) is) (so_far.come good answered begins shallow here)
