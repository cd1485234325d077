-- The fronts of lines that a crash leaves, as a register is rolled forward, and how they are opened again.
use Rattle.std.proofs.Common.{◌≡◌, ◌∙◌, false, List, [], ◌∷◌, ◌++◌, None, Some, Option, OnOk, Result, Ok, Err, arith, refl, ap, sym, subst, append_assoc, append-nil}
use Rattle.sqlite.specs.State.{HasCleanDisk, State, Survives}
use Rattle.sqlite.specs.Tree.{Trees}
use Rattle.sqlite.proofs.StateLemmas.{survives_then}
use Rattle.clr_rules.specs.declared.place.Place.{Place}
use Rattle.clr_rules.specs.Good.{IsGood}
use Rattle.clr_rules.specs.Register.{Register}
use Rattle.clr_changes.specs.Deeds.{after_deed, deed_of}
use Rattle.clr_load.specs.TableEdits.{tables_edited}
use Rattle.clr_load.specs.Tables.{tables_of}
use Rattle.clr_load.proofs.Reopened.{opened_with}
use Rattle.clr_journal.specs.Journals.{carried_out, withdraws}
use Rattle.clr_journal.specs.Line.{Entry}
use Rattle.clr_journal.specs.declared.line.Carried.{Carried}
use Rattle.clr_chain.specs.Level.{IsRunOf, place_after}
use Rattle.clr_chain.proofs.LevelKept.{carried_out-append}
use Rattle.clr_store.specs.Transaction.{AreTurned}
use Rattle.clr_desk.specs.Placing.{Placing, SetsPlace}
use Rattle.clr_desk.specs.declared.desk.Desk.{Desk}
use Rattle.clr_level.specs.Carrying.{AreDoneAt}
use Rattle.clr_level.specs.Crash.{AreFurther, FrontsCanBeOpened, KeepsTables}
use Rattle.clr_level.specs.Forward.{AreAnswered, AreShallow, HasCome, entry_with}
use Rattle.clr_level.specs.Placing.{IsAt}
use Rattle.clr_level.proofs.Chains.{front_kept, place_on, run_on, run_rest}
use Rattle.clr_level.proofs.Forwarding.{Left, run_over_idle, run_with, said, still_good}

-- ---- one call

module _ (has_place : Placing) where
  -- the open deed and its place
  pub carried_further : (S : Register) (s : State) (at : Place) (one : Carried) (rest : List Entry) (trees : Trees) → withdraws rest ≡ false
      → AreDoneAt has_place s.now S (deed_of one.deed) at trees → AreFurther has_place S s at (Some one) rest trees
  carried_further S s at one rest trees kept left R place lines good answered come has =
      let now = come.idle ++ entry_with one ∷ [] in
      let both = left (still_good R S (carried_out come.had) good come.run) has in
      record {
        had = come.had ++ now;
        later = rest;
        all_is = come.all_is ∙ sym (append_assoc come.had now rest);
        kept = kept;
        register = after_deed S (deed_of one.deed);
        run = run_with has_place R place lines S s at one rest come (said has_place R place lines S s at one rest answered come kept);
        tables = both.0;
        placed = subst (λ (p : Place). has_place trees (Some p)) come.at_is both.1;
      }

  -- or the place moved over idle lines
  pub moved_further : (S : Register) (s : State) (at : Place) (trees : Trees) → AreTurned (SetsPlace has_place at) (tables_edited []) s.now trees
      → AreFurther has_place S s at None [] trees
  unfolding tables_edited
  moved_further S s at trees edited R place lines good answered come has =
      let none : (come.idle ++ []) ++ [] ≡ come.idle = append-nil (come.idle ++ []) ∙ append-nil come.idle in
      record {
        had = come.had ++ come.idle;
        later = [];
        all_is = come.all_is ∙ ap (λ es. come.had ++ es) none ∙ sym (append-nil (come.had ++ come.idle));
        kept = refl;
        register = S;
        run = run_over_idle has_place R place lines S s at come;
        tables = (edited (tables_of S) has).0;
        placed = subst (λ (p : Place). has_place trees (Some p))
            (come.at_is ∙ ap (λ es. place_after place (come.had ++ es)) (append-nil come.idle)) (edited (tables_of S) has).1;
      }

-- ---- one call after the other

pub whatever_came : {A B : Type 0} (came : Result A B) (P : Type 0) → P → OnOk came P
whatever_came (Ok value) P is = is
whatever_came (Err fault) P is = tt

pub keeps_itself : {K : Type 0} (kept : K → State) (d : Desk K) → KeepsTables kept d d
keeps_itself kept d clean good has = has

pub keeps_tables : {K : Type 0} (kept : K → State) (a b c : Desk K) → KeepsTables kept a b → KeepsTables kept b c
    → (IsGood a.book.register → IsGood b.book.register) → (HasCleanDisk (kept c.store) → HasCleanDisk (kept b.store)) → KeepsTables kept a c
keeps_tables kept a b c one two still was clean good has = two clean (still good) (one (was clean) good has)

module _ {K : Type 0} (kept : K → State) (has_place : Placing) (desk : Desk K) (place : Place) (lines : List Entry) where
  -- what is left further on, where it is known how far the register has come
  pub left_on : (now next : Desk K) (at : Place) (open_one : Option Carried) (rest : List Entry) → Survives (kept desk.store) (kept now.store) (Left kept has_place desk place lines)
      → KeepsTables kept desk now
      → (IsGood desk.book.register → AreAnswered desk.book.register lines → withdraws lines ≡ false → AreShallow lines → IsAt has_place (kept desk.store) place
      → HasCome has_place desk.book.register place lines now.book.register (kept now.store) at open_one rest)
      → Survives (kept now.store) (kept next.store) (AreFurther has_place now.book.register (kept now.store) at open_one rest)
      → Survives (kept desk.store) (kept next.store) (Left kept has_place desk place lines)
  left_on now next at open_one rest left tables come further =
      survives_then (kept desk.store) (kept now.store) (kept next.store) (Left kept has_place desk place lines)
      (AreFurther has_place now.book.register (kept now.store) at open_one rest) (Left kept has_place desk place lines)
      (λ clean trees is. is)
      (λ clean trees is answered good has begins shallow here.
      is desk.book.register place lines good answered (come good answered begins shallow here) (tables (omega (arith, further.clean)) good has))
      left further

-- ---- a front is opened again

shallow_rest : (xs ys : List Entry) → AreShallow (xs ++ ys) → AreShallow ys
shallow_rest [] ys shallow = shallow
shallow_rest (one ∷ xs) ys shallow = shallow_rest xs ys shallow.1

pub fronts_open : (has_place : Placing) (s t : State) → FrontsCanBeOpened has_place s t
fronts_open has_place s t first R start place text lines can sound front =
    let level = can.level in
    let more : level.more ≡ front.had ++ front.later = can.more_is ∙ front.all_is in
    let begins : withdraws front.had ≡ false = front_kept front.had front.later (ap withdraws (sym more) ∙ level.kept) in
    let pairs : carried_out (level.had ++ front.had) ≡ carried_out level.had ++ carried_out front.had = carried_out-append level.had front.had begins in
    let all : carried_out lines ≡ carried_out front.had ++ carried_out front.later =
    ap carried_out front.all_is ∙ carried_out-append front.had front.later front.kept in (
      record {
        entries = can.entries;
        level = record {
          had = level.had ++ front.had;
          more = front.later;
          all = level.all ∙ ap (λ es. level.had ++ es) more ∙ sym (append_assoc level.had front.had front.later);
          turns = level.turns;
          is_at = ap (λ (p : Place). place_after p front.had) level.is_at ∙ place_on start level.had front.had;
          kept = front.kept;
          run = subst (λ ps. IsRunOf first ps front.register) (sym pairs)
              (run_on first R front.register (carried_out level.had) (carried_out front.had) level.run front.run);
        };
        text_is = can.text_is;
        more_is = refl;
        placed = λ clean shown. (tables_of front.register, opened_with t.now.trees (tables_of front.register) t.now front.tables sound refl, front.placed);
        shallow = shallow_rest front.had front.later (subst AreShallow front.all_is can.shallow);
      },
      λ S run. run_rest R front.register S (carried_out front.had) (carried_out front.later) front.run (subst (λ ps. IsRunOf R ps S) all run),
    )
