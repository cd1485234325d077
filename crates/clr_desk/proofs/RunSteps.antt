-- A run, one command after the other, and what a crash leaves of it.
use Rattle.std.proofs.Common.{◌≡◌, ◌∙◌, ◌+◌, ◌<◌, ◌≤◌, ℕ, List, [], ◌∷◌, ◌++◌, get_or, length, take, false, Result, Ok, Err, IsTrue, ◌⊎◌, ⊎_elim, refl, sym, ap, subst, arith}
use Rattle.std.specs.Prelude.{IfOk, OnOk}
use Rattle.std.proofs.lemmas.List.{take_more}
use Rattle.sqlite.specs.Effect.{Database}
use Rattle.sqlite.specs.State.{State}
use Rattle.sqlite.specs.Tree.{Trees}
use Rattle.clr_rules.specs.Answer.{Answer, answer}
use Rattle.clr_rules.specs.CrewSafety.{CrewsWorkSafely}
use Rattle.clr_rules.specs.Good.{IsGood}
use Rattle.clr_rules.specs.Register.{Register}
use Rattle.clr_rules.specs.Run.{after, after_all, replies}
use Rattle.clr_rules.specs.RunHeadline.{IsRun, OthersChangeNoReply, OwnStandAlone, with_reply}
use Rattle.clr_rules.specs.declared.command.Command.{Command}
use Rattle.clr_rules.specs.declared.reply.Reply.{Reply}
use Rattle.clr_rules.proofs.edits.Runs.{runs_go_on}
use Rattle.clr_rules.proofs.good.CrewSafety.{runs_are_safe}
use Rattle.clr_rules.proofs.isolation.RunReplies.{others_change_no_reply, own_stand_alone}
use Rattle.clr_load.specs.Contract.{IsSaved}
use Rattle.clr_load.specs.Stored.{AreTables, HasTables}
use Rattle.clr_load.proofs.Reopened.{left_of}
use Rattle.clr_load.specs.Tables.{tables_of}
use Rattle.clr_desk.specs.Answering.{has_accepted, replies_of}
use Rattle.clr_desk.specs.Crash.{AreAfterSome}
use Rattle.clr_desk.specs.declared.desk_fault.DeskFault.{DeskFault}

-- before the first command
pub run_of_none : (R : Register) (done : List Command) (told : List Reply) → done ≡ [] → told ≡ [] → IsRun R done told R
unfolding replies after_all
run_of_none R done told none no_reply = record {
  replied = no_reply ∙ ap (replies R) (sym none);
  register = ap (after_all R) (sym none);
}

-- one command more
pub run_of_more : (R X Y : Register) (done : List Command) (q : Command) (told : List Reply) (reply : Reply) → IsRun R done told X
    → reply ≡ Answer.reply (answer X q) → Y ≡ after X q → IsRun R (done ++ q ∷ []) (told ++ reply ∷ []) Y
unfolding replies after_all
run_of_more R X Y done q told reply run is left =
    let on = runs_go_on R done (q ∷ []) in
    record {
      replied = (λ i. run.replied i ++ is i ∷ []) ∙ ap (λ (Z : Register). replies R done ++ Answer.reply (answer Z q) ∷ []) run.register ∙ sym on.replied;
      register = left ∙ ap (λ (Z : Register). after Z q) run.register ∙ sym on.register;
    }

-- the command at a place, after those before it
pub run_of_next : (R X Y : Register) (commands : List Command) (i : ℕ) (q : Command) (told more : List Reply) (reply : Reply) → i < length commands
    → q ≡ get_or commands i q → more ≡ told ++ reply ∷ [] → IsRun R (take i commands) told X → reply ≡ Answer.reply (answer X q) → Y ≡ after X q
    → IsRun R (take (i + 1) commands) more Y
run_of_next R X Y commands i q told more reply within at grown run is left =
    let split : take i commands ++ q ∷ [] ≡ take (i + 1) commands =
    ap (λ (p : Command). take i commands ++ p ∷ []) at ∙ sym (take_more commands i q within) in
    subst (λ (l : List Reply). IsRun R (take (i + 1) commands) l Y) (sym grown)
    (subst (λ (l : List Command). IsRun R l (told ++ reply ∷ []) Y) split (run_of_more R X Y (take i commands) q told reply run is left))

-- the commands with a reply are those up to a place
pub ran_so_far : (R X : Register) (commands : List Command) (told : List Reply) (i : ℕ) → length told ≡ i → IsRun R (take i commands) told X
    → IsRun R (with_reply commands told) told X
ran_so_far R X commands told i counted run = subst (λ (n : ℕ). IsRun R (take n commands) told X) (sym counted) run

-- a call that is given one command carries it out, or changes nothing
pub one_ran : (R S : Register) (q : Command) (result : Result Reply DeskFault) → IfOk result (λ reply. reply ≡ Answer.reply (answer R q))
    → OnOk result (S ≡ after R q) → (has_accepted result ≡ false → S ≡ R) → IsRun R (with_reply (q ∷ []) (replies_of result)) (replies_of result) S
one_ran R S q (Ok reply) is left stays = run_of_more R R S [] q [] reply (run_of_none R [] [] refl refl) is left
one_ran R S q (Err fault) is left stays = subst (λ (X : Register). IsRun R [] [] X) (sym (stays refl)) (run_of_none R [] [] refl refl)

-- ---- the headline

pub no_reply_changed : (R : Register) (commands : List Command) (told : List Reply) (S : Register) → (IsGood R → IsRun R commands told S)
    → OthersChangeNoReply R commands told S
no_reply_changed R commands told S ran c inside T others shown =
    others_change_no_reply R commands told S (ran shown.first_good) c inside T others shown

pub standing_alone : (R : Register) (commands : List Command) (told : List Reply) (S : Register) → (IsGood R → IsRun R commands told S)
    → OwnStandAlone R commands told
standing_alone R commands told S ran c inside alone = own_stand_alone R commands told S (ran alone.good) c inside alone

pub working_safely : (R : Register) (commands : List Command) (told : List Reply) (S : Register) → (IsGood R → IsRun R commands told S)
    → CrewsWorkSafely R commands S
working_safely R commands told S ran good = runs_are_safe R commands told S (ran good) good

-- ---- what a crash leaves

-- what is saved is what a crash leaves
pub stands : (s : State) (X : Register) (trees : Trees) → IsSaved s → HasTables s.now (tables_of X) → trees ≡ Database.trees (State.committed s)
    → AreTables trees (tables_of X)
stands s X trees saved has is =
    subst (λ (db : Trees). AreTables db (tables_of X)) (sym (is ∙ ap (λ (d : Database). d.trees) saved.1))
    (left_of s.now (tables_of X) has)

-- what is saved
pub saved_left : (old mid : State) (R X : Register) (commands : List Command) (told : List Reply) (i : ℕ) → length told ≡ i → i ≤ length commands
    → IsRun R (take i commands) told X → IsSaved mid → HasTables mid.now (tables_of X) → (trees : Trees) → trees ≡ Database.trees (State.committed mid)
    → AreAfterSome R commands (length told) trees
saved_left old mid R X commands told i counted within run saved has trees is = (
  i,
  omega arith,
  omega arith,
  within,
  subst (λ (S : Register). AreTables trees (tables_of S)) run.register
      (stands mid X trees saved has is),
)

-- or the tables after the command that met a fault
pub next_left : (R X : Register) (commands : List Command) (told : List Reply) (i : ℕ) (q : Command) → length told ≡ i → i < length commands
    → q ≡ get_or commands i q → IsRun R (take i commands) told X → (trees : Trees) → AreTables trees (tables_of (after X q))
    → AreAfterSome R commands (length told) trees
next_left R X commands told i q counted within at run trees are =
    let next = run_of_next R X (after X q) commands i q told (told ++ Answer.reply (answer X q) ∷ []) (Answer.reply (answer X q)) within at refl run refl refl in (
      i + 1,
      omega arith,
      omega arith,
      omega arith,
      subst (λ (S : Register). AreTables trees (tables_of S)) next.register are,
    )

-- of one command
one_left : (R : Register) (q : Command) (least : ℕ) (trees : Trees) → least ≤ 1 → AreTables trees (tables_of (after R q)) → AreAfterSome R (q ∷ []) least trees
unfolding after_all
one_left R q least trees few are = (1, few, omega arith, omega arith, are)

none_left : (R : Register) (q : Command) (trees : Trees) → AreTables trees (tables_of R) → AreAfterSome R (q ∷ []) 0 trees
unfolding after_all
none_left R q trees are = (0, omega arith, omega arith, omega arith, are)

-- a crash leaves the tables before the command or after it, and those after it where it was answered
pub one_survives : (old new : State) (R S : Register) (q : Command) (result : Result Reply DeskFault) (trees : Trees)
    → IsSaved old → HasTables old.now (tables_of R) → OnOk result (S ≡ after R q) → OnOk result (IsSaved new) → OnOk result (HasTables new.now (tables_of S))
    → (IsTrue old.is_open → old.may_leave trees → trees ≡ Database.trees (State.committed old))
    → (IsTrue new.is_open → new.may_leave trees → trees ≡ Database.trees (State.committed new))
    → new.may_leave trees → old.may_leave trees ⊎ AreTables trees (tables_of (after R q))
    → AreAfterSome R (q ∷ []) (length (replies_of result)) trees
one_survives old new R S q (Ok reply) trees saved has left now made was is may survived =
    one_left R q 1 trees (omega arith)
    (subst (λ (X : Register). AreTables trees (tables_of X)) left (stands new S trees now made (is now.0 may)))
one_survives old new R S q (Err fault) trees saved has left now made was is may survived =
    ⊎_elim (λ before. none_left R q trees (stands old R trees saved has (was saved.0 before))) (one_left R q 0 trees (omega arith)) survived

pub none_taken : (commands : List Command) → take 0 commands ≡ []
none_taken [] = refl
none_taken (q ∷ commands) = refl
