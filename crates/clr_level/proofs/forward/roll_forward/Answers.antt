use Rattle.std.proofs.Common.{◌≡◌, ◌==◌, [], ◌∷◌, length, true, None, Option, Some, List, Result, arith, inl, inr, map, refl, rules, subst, ℕ}
use Rattle.std.proofs.lemmas.Bool.{eqb-true}
use Rattle.std.specs.Prelude.{IfErr}
use Rattle.sqlite.proofs.StateLemmas.{survives_weaker}
use Rattle.clr_book.specs.Book.{Shelved}
use Rattle.clr_rules.specs.Good.{IsGood}
use Rattle.clr_journal.specs.Line.{entry_of}
use Rattle.clr_journal.specs.declared.line.Line.{Line}
use Rattle.clr_level.specs.Crash.{AreRolled}
use Rattle.clr_level.specs.Forward.{AreShallow, IsOfCarrying, IsTried}
use Rattle.clr_level.specs.declared.fault.OpeningFault.{OpeningFault}
use Rattle.clr_level.proofs.Crashes.{left_itself}
use Rattle.clr_level.proofs.Forwarding.{Left, begun, begun_there, of_forward, stopped}
use Rattle.clr_level.proofs.Rolling.{rolls_itself}
use Rattle.clr_level.proofs.forward.roll_forward.Goals as goal

no_lines : (lines : List Line) → (length lines == 0) ≡ true → map entry_of lines ≡ []
no_lines [] none = refl
no_lines (one ∷ rest) none = let zero = eqb-true (length (one ∷ rest)) 0 none in absurd (omega (arith, zero))

-- what was found of lines, seen as a slice of them, over a book that is that of the desk
tried_there : (lines slice : List Line) (book seen : Shelved) (found due : Option ℕ) → slice ≡ lines → seen ≡ book → found ≡ due
    → (IsGood seen.register → AreShallow (map entry_of slice) → IsTried seen.register (map entry_of slice) found)
    → IsGood book.register → AreShallow (map entry_of lines) → IsTried book.register (map entry_of lines) due
tried_there lines slice book seen found due same books is tried =
    subst (λ (o : Option ℕ). IsGood book.register → AreShallow (map entry_of lines) → IsTried book.register (map entry_of lines) o) is
    (subst (λ (l : List Line). IsGood book.register → AreShallow (map entry_of l) → IsTried book.register (map entry_of l) found) same
    (subst (λ (b : Shelved). IsGood b.register → AreShallow (map entry_of slice) → IsTried b.register (map entry_of slice) found) books tried))

-- there are no lines
pub returns-then-is_empty-clause-went : goal.returns-then-is_empty-clause-went
returns-then-is_empty-clause-went g c = λ good begins shallow at.
    let none : map entry_of c.args.lines.items ≡ [] = no_lines c.args.lines.items (search rules) in
    begun_there g.K.CommitAt.has_place c.args.desk.book.register c.args.place (map entry_of c.args.lines.items) (g.K.Commit.kept c.args.desk.store) none begins
    shallow at

pub returns-then-is_empty-clause-left : goal.returns-then-is_empty-clause-left
returns-then-is_empty-clause-left g c =
    let s = g.K.Commit.kept c.args.desk.store in
    left_itself s (AreRolled g.K.CommitAt.has_place s c.args.desk.book.register c.args.place (map entry_of c.args.lines.items))

pub returns-then-is_empty-clause-led : goal.returns-then-is_empty-clause-led
returns-then-is_empty-clause-led g c = rolls_itself g.K.Commit.kept g.K.Commit.takes g.K.CommitAt.has_place c.args.desk

-- all lines are answered as they say
pub returns-in-Ok-None-clause-went : goal.returns-in-Ok-None-clause-went
returns-in-Ok-None-clause-went g c = λ good begins shallow at.
    let tried =
    tried_there c.args.lines.items c.as_slice-2.result.now c.args.desk.book c.book.result.now c.in-Ok-None.field-0 None c.as_slice-2.ensures.value c.book.ensures
    (search rules) c.in-Ok-None.ensures in
    c.carry_all.ensures.went good (tried good shallow) begins shallow at

pub returns-in-Ok-None-clause-left : goal.returns-in-Ok-None-clause-left
returns-in-Ok-None-clause-left g c =
    let R = c.args.desk.book.register in
    let s = g.K.Commit.kept c.args.desk.store in
    let lines = map entry_of c.args.lines.items in
    let tried =
    tried_there c.args.lines.items c.as_slice-2.result.now c.args.desk.book c.book.result.now c.in-Ok-None.field-0 None c.as_slice-2.ensures.value c.book.ensures
    (search rules) c.in-Ok-None.ensures in
    survives_weaker s (g.K.Commit.kept c.carry_all.result.1.store) (Left g.K.Commit.kept g.K.CommitAt.has_place c.args.desk c.args.place lines)
    (AreRolled g.K.CommitAt.has_place s R c.args.place lines)
    (λ clean trees left good has begins shallow at. left (tried good shallow) good has begins shallow at) c.carry_all.ensures.left

pub returns-in-Ok-None-clause-unchanged : goal.returns-in-Ok-None-clause-unchanged
returns-in-Ok-None-clause-unchanged g c = λ n is.
    absurd (subst (λ (r : Result (Unit {0}) OpeningFault). IfErr r (IsOfCarrying g.K.Commit.fails (map entry_of c.args.lines.items))) is c.carry_all.ensures.fault)

pub returns-in-Ok-None-clause-fault : goal.returns-in-Ok-None-clause-fault
returns-in-Ok-None-clause-fault g c = of_forward g.K.Commit.fails (map entry_of c.args.lines.items) c.carry_all.result.0 c.carry_all.ensures.fault

-- or one is not
pub returns-in-Ok-Some-clause-went : goal.returns-in-Ok-Some-clause-went
returns-in-Ok-Some-clause-went g c = λ good begins shallow at.
    let tried =
    tried_there c.args.lines.items c.as_slice-2.result.now c.args.desk.book c.book.result.now c.in-Ok-Some.field-0 (Some c.in-Ok-Some.number) c.as_slice-2.ensures.value
    c.book.ensures (search rules) c.in-Ok-Some.ensures in
    (refl, tried good shallow)

pub returns-in-Ok-Some-clause-left : goal.returns-in-Ok-Some-clause-left
returns-in-Ok-Some-clause-left g c =
    let s = g.K.Commit.kept c.args.desk.store in
    left_itself s (AreRolled g.K.CommitAt.has_place s c.args.desk.book.register c.args.place (map entry_of c.args.lines.items))

pub returns-in-Ok-Some-clause-led : goal.returns-in-Ok-Some-clause-led
returns-in-Ok-Some-clause-led g c = rolls_itself g.K.Commit.kept g.K.Commit.takes g.K.CommitAt.has_place c.args.desk

pub returns-in-Ok-Some-clause-fault : goal.returns-in-Ok-Some-clause-fault
returns-in-Ok-Some-clause-fault g c = inl (c.in-Ok-Some.number, refl)

-- or memory ran out
pub returns-in-Err-clause-went : goal.returns-in-Err-clause-went
returns-in-Err-clause-went g c = λ good begins shallow at.
    let R = c.args.desk.book.register in
    let s = g.K.Commit.kept c.args.desk.store in
    let lines = map entry_of c.args.lines.items in
    stopped g.K.CommitAt.has_place R c.args.place lines R s c.args.place None lines (begun g.K.CommitAt.has_place R c.args.place lines s begins shallow at)

pub returns-in-Err-clause-left : goal.returns-in-Err-clause-left
returns-in-Err-clause-left g c =
    let s = g.K.Commit.kept c.args.desk.store in
    left_itself s (AreRolled g.K.CommitAt.has_place s c.args.desk.book.register c.args.place (map entry_of c.args.lines.items))

pub returns-in-Err-clause-led : goal.returns-in-Err-clause-led
returns-in-Err-clause-led g c = rolls_itself g.K.Commit.kept g.K.Commit.takes g.K.CommitAt.has_place c.args.desk

pub returns-in-Err-clause-fault : goal.returns-in-Err-clause-fault
returns-in-Err-clause-fault g c = inr tt
