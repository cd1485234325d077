-- What is printed of registers that databases have, and why nothing is.
use Rattle.std.proofs.Common.{◌≡◌, ◌⊎◌, ◌∙◌, ap, inl, inr, subst, sym, ℕ, List, Result, Ok, Err}
use Rattle.std.specs.Prelude.{IfErr, IfOk, IsErrAnd, String, string_bytes}
use Rattle.std.specs.declared.alloc.Global.{Global}
use Rattle.sqlite.specs.Held.{Held}
use Rattle.sqlite_trees.specs.declared.store.Store.{Ghosts}
use Rattle.clr_desk.specs.declared.desk.Desk.{Desk}
use Rattle.clr_rules.specs.CrewSafety.{CrewsAreSafe}
use Rattle.clr_rules.specs.Fit.{IsFit}
use Rattle.clr_rules.specs.Good.{IsGood}
use Rattle.clr_rules.proofs.good.CrewSafety.{crews_are_safe}
use Rattle.clr_rules.specs.Register.{Register}
use Rattle.clr_edge.specs.Database.{IsDatabaseFault, IsOnlyRead, IsRefused, ReadsAs}
use Rattle.clr_keeping.specs.Keeping.{IsNotRead, IsNotUp, IsReadFrom, IsUp, plain}
use Rattle.clr_edge.specs.Visit.{Closed, Comes, Ending, Opening, Shutting}
use Rattle.clr_edge.specs.declared.fault.DatabaseFault.TheVariants.{NoMemory}
use Rattle.clr_edge.specs.declared.fault.Fault.{Fault}
use Rattle.clr_edge.specs.declared.fault.Fault.TheVariants.{Memory}
use Rattle.clr_edge.proofs.Databases.{OnOk-any, visits-as}
use Rattle.clr_commands.specs.Answers.{GivesText, IsMemory, Prints}
use Rattle.clr_commands.specs.Stored.{AnswersOf, IsUnanswered, WhileOpen}

-- a fault that is passed on is the answer
pub is_err : {T : Type 0} (result : Result T Fault) (fault : Fault) → IsErrAnd result (λ cause. cause ≡ fault) → result ≡ Err fault
is_err (Ok value) fault is = absurd is
is_err (Err cause) fault is = ap Err is

-- a text, unless memory ran out
pub GivesText-text : (text : List ℕ) (result : Result (String Global) Fault) → IfOk result (λ printed. string_bytes printed ≡ text)
    → IfErr result (λ fault. fault ≡ Memory) → GivesText IsMemory (Ok text) result
GivesText-text text (Ok printed) is memory = ap Ok (sym is)
GivesText-text text (Err fault) is memory = λ other. absurd (other memory)

-- an answer that only want of memory may come in place of
gives_line : (Is IsToo : Result (List ℕ) Fault → Type 0) (result : Result (String Global) Fault) → ((known : Result (List ℕ) Fault) → Is known → IsToo known)
    → Prints IsMemory Is result → Prints IsDatabaseFault IsToo result
gives_line Is IsToo (Ok value) same gives = same (Ok (string_bytes value)) gives
gives_line Is IsToo (Err fault) same gives = λ other. same (Err fault) (gives (λ memory. other (NoMemory, memory)))

unanswered : {T S : Type 0} (g : Ghosts S) (IsOwn : Fault → Type 0) (before after : Held S) (Q : Register) (result : Result T Fault) → IfErr result IsOwn
    → ReadsAs g before after Q → IsOnlyRead g before after → IfErr result (IsUnanswered g before after IsOwn)
unanswered g IsOwn before after Q (Ok value) own reads read = tt
unanswered g IsOwn before after Q (Err fault) own reads read = record { cause = inl (own, read, (Q, reads)); survives = read.survives }

-- what is printed is of that register
printed_of : {S : Type 0} (g : Ghosts S) (Is : Register → Result (List ℕ) Fault → Type 0) (result : Result (String Global) Fault) (before after : Held S) (Q : Register)
    → IsFit Q → ReadsAs g before after Q → Prints IsMemory (Is Q) result
    → IfOk result (λ text. (R : Register) × IsFit R × CrewsAreSafe R × ReadsAs g before after R × Is R (Ok (string_bytes text)))
printed_of g Is (Ok text) before after Q fit reads gives = (Q, fit, crews_are_safe Q (IsGood.said fit.0), reads, gives)
printed_of g Is (Err fault) before after Q fit reads gives = tt

-- and so is a fault
faulted_of : {S : Type 0} (g : Ghosts S) (Is : Register → Result (List ℕ) Fault → Type 0) (result : Result (String Global) Fault) (before after : Held S) (Q : Register)
    → IsFit Q → ReadsAs g before after Q → Prints IsMemory (Is Q) result
    → IfErr result (λ fault. (fault ≡ Memory → ⊥) → IsRefused g before fault after ⊎ ((R : Register) × IsFit R × ReadsAs g before after R × Is R (Err fault)))
faulted_of g Is (Ok text) before after Q fit reads gives = tt
faulted_of g Is (Err fault) before after Q fit reads gives = λ other. inr (Q, fit, reads, gives other)

-- what is answered of the register Q that was read from a database
answers_of : {S : Type 0} (g : Ghosts S) (IsOwn : Fault → Type 0) (Is : Register → Result (List ℕ) Fault → Type 0) (result : Result (String Global) Fault)
    (before after : Held S) (Q : Register) → IsReadFrom g before after Q → Prints IsMemory (Is Q) result → IfErr result IsOwn → AnswersOf g IsOwn Is result before after
answers_of g IsOwn Is result before after Q it gives own = record {
  known = λ R has clean. gives_line (Is Q) (Is R) result (λ known is. subst (λ (P : Register). Is P known) (it.is_register R has clean) is) gives;
  printed = printed_of g Is result before after Q it.fit it.reads gives;
  read = OnOk-any result (IsOnlyRead g before after) it.read;
  refused = unanswered g IsOwn before after Q result own it.reads it.read;
  faulted = faulted_of g Is result before after Q it.fit it.reads gives;
}

-- nothing is answered of one whose tables were refused
answers_none : {S : Type 0} (g : Ghosts S) (IsOwn : Fault → Type 0) (Is : Register → Result (List ℕ) Fault → Type 0) (fault : Fault) (before after : Held S)
    → IsNotRead g before fault after → AnswersOf g IsOwn Is (Err fault) before after
answers_none g IsOwn Is fault before after it = record {
  known = λ R has clean other. absurd (other (it.known R has clean));
  printed = tt;
  read = tt;
  refused = record { cause = inr it.refused; survives = it.survives };
  faulted = λ other. inl it.refused;
}

module _ {M S : Type 0} (g : Ghosts S) (opens : Opening M S) (shuts : Shutting M) (ends : Ending M S) (path : List ℕ) (IsOwn : Fault → Type 0)
    (Is : Register → Result (List ℕ) Fault → Type 0) where
  -- a register was taken up from the database at a path, answered, and let go
  pub visited : (result : Result (String Global) Fault) (old between new : M) (desk : Desk (Held S)) (after : Held S) (closed : Closed)
      → IsUp opens path (plain g) old between desk → after ≡ desk.store → ends between after closed new
      → Prints IsMemory (Is desk.book.register) result → IfErr result IsOwn
      → Comes opens shuts ends path (WhileOpen (AnswersOf g IsOwn Is)) result old new
  visited result old between new desk after closed up same ended prints own = inr (record {
    before = up.before;
    after = desk.store;
    closed = closed;
    middle = up.middle;
    later = between;
    opened = up.opened;
    mode = up.mode;
    does = (up.taken_up.0, answers_of g IsOwn Is result up.before desk.store desk.book.register up.taken_up.1 prints own);
    ended = subst (λ (h : Held S). ends between h closed new) same ended;
  })

  -- it was not taken up
  pub unvisited : (result : Result (String Global) Fault) (old new : M) (fault : Fault) → IsErrAnd result (λ cause. cause ≡ fault)
      → IsNotUp opens shuts ends path (plain g) old new fault
      → Comes opens shuts ends path (WhileOpen (AnswersOf g IsOwn Is)) result old new
  unvisited (Ok value) old new fault is not = absurd is
  unvisited (Err told) old new fault is (inl (cause, of, shut)) = inl (cause, ap Err (is ∙ of), shut)
  unvisited (Err told) old new fault is (inr visit) =
      inr (visits-as opens ends path _ _ old new (λ middle before after closed later opened it.
      (it.0, subst (λ (f : Fault). AnswersOf g IsOwn Is (Err f) before after) (sym is) (answers_none g IsOwn Is fault before after it.1))) visit)
