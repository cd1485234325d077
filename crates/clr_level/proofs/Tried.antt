-- The lines after a register's place, tried before anything of them is carried out.
use Rattle.std.proofs.Common.{◌≡◌, ◌≤◌, ◌∙◌, ◌&&◌, Bool, true, false, cond, not, List, [], ◌∷◌, ◌++◌, length, map, Option, None, Some, refl, ap, sym, subst, append_assoc, append-nil}
use Rattle.std.proofs.lemmas.List.{append_cancel_right}
use Rattle.serde_json.specs.Data.{Data, depth}
use Rattle.serde_json.specs.View.{view}
use Rattle.clr_rules.specs.Good.{IsGood}
use Rattle.clr_rules.specs.Register.{Register}
use Rattle.clr_changes.specs.Deeds.{Deed, after_deed, deed_of}
use Rattle.clr_journal.specs.Answered.{deed_reply}
use Rattle.clr_journal.specs.Journals.{carried_out, onto_some, own_pair, withdraws}
use Rattle.clr_journal.specs.Line.{Entry, entry_of, is_accepted}
use Rattle.clr_journal.specs.declared.line.Carried.{Carried}
use Rattle.clr_journal.specs.declared.line.Line.{Line}
use Rattle.clr_journal.specs.declared.line.Line.TheVariants as line
use Rattle.clr_chain.specs.Level.{IsRunOf}
use Rattle.clr_chain.proofs.LevelKept.{carried_out-append}
use Rattle.clr_verify.specs.Replies.{DecidesReply}
use Rattle.clr_level.specs.Forward.{AreAnswered, AreShallow, DiffersAt, IsAccepted, IsNext, due, entry_with}
use Rattle.clr_level.proofs.Chains.{no_run, run_more}
use Rattle.clr_level.proofs.Forwarding.{still_good}

-- ---- the next command that is due

-- of a line: it is that of a command, accepted and not withdrawn
pub record IsDueAt (one : Line) (rest : List Entry) (c : Carried) : Type 0 where
  pub entry : entry_of one ≡ entry_with c
  pub accepted : IsAccepted c
  pub kept : withdraws rest ≡ false

due_so : (c it : Carried) (rest : List Entry) (b w : Bool) → is_accepted (view c.reply) ≡ b → withdraws rest ≡ w
    → cond (b && not w) (Some c) None ≡ Some it → IsDueAt (line.Carried c) rest it
due_so c it rest true false accepted kept is =
    let same : c ≡ it = cc is in
    record { entry = ap entry_with same; accepted = subst IsAccepted same accepted; kept = kept }
due_so c it rest true true accepted kept is = absurd (cc is)
due_so c it rest false false accepted kept is = absurd (cc is)
due_so c it rest false true accepted kept is = absurd (cc is)

due_at : (one : Line) (rest : List Entry) (it : Carried) → due one rest ≡ Some it → IsDueAt one rest it
due_at (line.Carried c) rest it is = due_so c it rest (is_accepted (view c.reply)) (withdraws rest) refl refl is
due_at (line.Withdrawn n) rest it is = absurd (cc is)

not_due_so : (b w : Bool) (c : Carried) (pair : Deed × Data) → cond (b && not w) (Some c) None ≡ None → cond (b && not w) (Some pair) None ≡ None
not_due_so true false c pair is = absurd (cc is)
not_due_so true true c pair is = refl
not_due_so false false c pair is = refl
not_due_so false true c pair is = refl

not_due : (one : Line) (rest : List Entry) → due one rest ≡ None → own_pair (entry_of one) rest ≡ None
not_due (line.Carried c) rest is = not_due_so (is_accepted (view c.reply)) (withdraws rest) c (deed_of c.deed, view c.reply) is
not_due (line.Withdrawn n) rest is = refl

passed_out : (one : Line) (rest : List Entry) → due one rest ≡ None → carried_out (entry_of one ∷ rest) ≡ carried_out rest
unfolding carried_out
passed_out one rest is = ap (λ (o : Option (Deed × Data)). onto_some o (carried_out rest)) (not_due one rest is)

own_of : (pair : Deed × Data) (b w : Bool) → b ≡ true → w ≡ false → cond (b && not w) (Some pair) None ≡ Some pair
own_of pair true false accepted kept = refl
own_of pair true true accepted kept = absurd (cc kept)
own_of pair false w accepted kept = absurd (cc accepted)

taken_out : (c : Carried) (rest : List Entry) → IsAccepted c → withdraws rest ≡ false
    → carried_out (entry_with c ∷ rest) ≡ (deed_of c.deed, view c.reply) ∷ carried_out rest
unfolding carried_out
taken_out c rest accepted kept =
    let pair : Deed × Data = (deed_of c.deed, view c.reply) in
    ap (λ (o : Option (Deed × Data)). onto_some o (carried_out rest)) (own_of pair (is_accepted (view c.reply)) (withdraws rest) accepted kept)

-- lines of which none is due, up to these
pub record Passed (lines left : List Entry) : Type 0 where
  pub before : List Entry
  pub all_is : lines ≡ before ++ left
  pub out : carried_out lines ≡ carried_out left

-- the first line of those that are left
pub passed_at : (lines : List Entry) (left : List Line) (one : Line) (rest : List Line) → left ≡ one ∷ rest → Passed lines (map entry_of left)
    → Passed lines (entry_of one ∷ map entry_of rest)
passed_at lines left one rest is passed = subst (λ ls. Passed lines (map entry_of ls)) is passed

on_by_one : (before rest : List Entry) (entry : Entry) → before ++ entry ∷ rest ≡ (before ++ entry ∷ []) ++ rest
on_by_one before rest entry = sym (append_assoc before (entry ∷ []) rest)

pub passed_one : (lines : List Entry) (one : Line) (rest : List Entry) → Passed lines (entry_of one ∷ rest) → due one rest ≡ None → Passed lines rest
passed_one lines one rest passed none = record {
  before = passed.before ++ entry_of one ∷ [];
  all_is = passed.all_is ∙ on_by_one passed.before rest (entry_of one);
  out = passed.out ∙ passed_out one rest none;
}

pub comes_next : (lines : List Entry) (one : Line) (rest : List Entry) (it : Carried) → Passed lines (entry_of one ∷ rest) → due one rest ≡ Some it
    → IsNext lines it rest
comes_next lines one rest it passed is =
    let at = due_at one rest it is in
    record {
      before = passed.before;
      all_is = passed.all_is ∙ ap (λ (entry : Entry). passed.before ++ entry ∷ rest) at.entry;
      accepted = at.accepted;
      kept = at.kept;
      out = passed.out ∙ ap (λ (entry : Entry). carried_out (entry ∷ rest)) at.entry ∙ taken_out it rest at.accepted at.kept;
    }

pub none_next : (lines : List Entry) (left : List Line) → length left ≡ 0 → Passed lines (map entry_of left) → carried_out lines ≡ []
unfolding carried_out
none_next lines [] is passed = passed.out
none_next lines (one ∷ left) is passed = absurd (cc is)

-- ---- the commands so far

shallow_in : (before : List Entry) (c : Carried) (rest : List Entry) → AreShallow (before ++ entry_with c ∷ rest) → depth (view c.reply) ≤ 127
shallow_in [] c rest shallow = shallow.0
shallow_in (entry ∷ before) c rest shallow = shallow_in before c rest shallow.1

-- those before these lines have been carried out, each with the reply of its line
pub record TriedTo (R : Register) (lines left : List Entry) (S : Register) : Type 0 where
  pub before : List Entry
  pub done : List (Deed × Data)
  pub all_is : lines ≡ before ++ left
  pub out : carried_out lines ≡ done ++ carried_out left
  pub run : IsRunOf R done S

pub tried_none : (R : Register) (lines : List Entry) → TriedTo R lines lines R
tried_none R lines = record { before = []; done = []; all_is = refl; out = refl; run = no_run R }

pub tried_good : (R S : Register) (lines left : List Entry) → IsGood R → TriedTo R lines left S → IsGood S
tried_good R S lines left good tried = still_good R S tried.done good tried.run

next_is : (R S : Register) (lines left rest : List Entry) (one : Carried) (tried : TriedTo R lines left S) (next : IsNext left one rest)
    → lines ≡ (tried.before ++ next.before) ++ entry_with one ∷ rest
next_is R S lines left rest one tried next =
    tried.all_is ∙ ap (λ es. tried.before ++ es) next.all_is ∙ sym (append_assoc tried.before next.before (entry_with one ∷ rest))

pub tried_one : (R S T : Register) (lines left rest : List Entry) (one : Carried) (same : Bool) → same ≡ true → AreShallow lines
    → TriedTo R lines left S → IsNext left one rest → DecidesReply (view one.reply) (deed_reply S (deed_of one.deed)) same
    → T ≡ after_deed S (deed_of one.deed) → TriedTo R lines rest T
tried_one R S T lines left rest one same is_same shallow tried next decides went =
    let all = next_is R S lines left rest one tried next in
    let deep = shallow_in (tried.before ++ next.before) one rest (subst AreShallow all shallow) in
    let is : view one.reply ≡ deed_reply S (deed_of one.deed) =
    subst (λ (b : Bool). DecidesReply (view one.reply) (deed_reply S (deed_of one.deed)) b) is_same decides deep in
    record {
      before = (tried.before ++ next.before) ++ entry_with one ∷ [];
      done = tried.done ++ (deed_of one.deed, view one.reply) ∷ [];
      all_is = all ∙ on_by_one (tried.before ++ next.before) rest (entry_with one);
      out = tried.out ∙ ap (λ ps. tried.done ++ ps) next.out
          ∙ sym (append_assoc tried.done ((deed_of one.deed, view one.reply) ∷ []) (carried_out rest));
      run = subst (λ (d : Data). IsRunOf R (tried.done ++ (deed_of one.deed, d) ∷ []) T) (sym is)
          (subst (λ (X : Register). IsRunOf R (tried.done ++ (deed_of one.deed, deed_reply S (deed_of one.deed)) ∷ []) X) (sym went)
          (run_more R S tried.done (deed_of one.deed) tried.run));
    }

pub tried_all : (R S : Register) (lines left : List Entry) → TriedTo R lines left S → carried_out left ≡ [] → AreAnswered R lines
tried_all R S lines left tried none =
    let pairs : carried_out lines ≡ tried.done = tried.out ∙ ap (λ ps. tried.done ++ ps) none ∙ append-nil tried.done in
    (S, subst (λ ps. IsRunOf R ps S) (sym pairs) tried.run)

pub differs_at : (R S : Register) (lines left rest : List Entry) (one : Carried) (same : Bool) → same ≡ false
    → TriedTo R lines left S → IsNext left one rest → DecidesReply (view one.reply) (deed_reply S (deed_of one.deed)) same
    → DiffersAt R lines one.receipt.number
differs_at R S lines left rest one same is_same tried next decides =
    let before = tried.before ++ next.before in
    let all = next_is R S lines left rest one tried next in
    let pair : Deed × Data = (deed_of one.deed, view one.reply) in
    let tail = taken_out one rest next.accepted next.kept in
    let halves : carried_out before ++ pair ∷ carried_out rest ≡ tried.done ++ pair ∷ carried_out rest =
    ap (λ ps. carried_out before ++ ps) (sym tail) ∙ sym (carried_out-append before (entry_with one ∷ rest) refl)
    ∙ ap carried_out (sym all) ∙ tried.out ∙ ap (λ ps. tried.done ++ ps) next.out in
    let done : tried.done ≡ carried_out before = sym (append_cancel_right (carried_out before) tried.done (pair ∷ carried_out rest) halves) in
    record {
      before = before;
      one = one;
      rest = rest;
      all_is = all;
      number_is = refl;
      accepted = next.accepted;
      kept = next.kept;
      leaves = S;
      run = subst (λ ps. IsRunOf R ps S) done tried.run;
      other = subst (λ (b : Bool). DecidesReply (view one.reply) (deed_reply S (deed_of one.deed)) b) is_same decides;
    }
