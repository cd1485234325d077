-- Rows that are the same in each column are the same.
use Rattle.std.proofs.Common.{◌≡◌, ◌∙◌, ◌↔◌, ◌==◌, ◌&&◌, ℕ, Bool, true, false, List, [], ◌∷◌, Option, None, Some, refl, ap, sym}
use Rattle.std.proofs.lemmas.Bool.{and_from, and_parts, eqb-true, eq-eqb, true≢false}
use Rattle.std.proofs.lemmas.Cmp.{nat_list_eq_equiv}
use Rattle.std.specs.Option.{option_eq}
use mathlib.Core.Bool.{beq}
use denote.Enum.Bare.{Bare, sameb, same_true, true_same}
use denote.Enum.Declared.{Declared}
use Rattle.clr_net.specs.Name.{same_name}
use Rattle.clr_net.specs.declared.point.PointRow.{PointRow}
use Rattle.clr_net.specs.contracts.point.Position as position
use Rattle.clr_order.specs.declared.step.Step.{Step}
use Rattle.clr_order.specs.contracts.action.Action as action
use Rattle.clr_order.specs.contracts.step.StepState as state
use Rattle.clr_rules.specs.Id.{Id, same_id}
use Rattle.clr_rules.specs.contracts.phase.Phase as phase
use Rattle.clr_rules.specs.declared.point_state.PointState.{PointState}
use Rattle.clr_rules.specs.declared.record.Record.{Record}
use Rattle.clr_rules.specs.declared.step_row.StepRow.{StepRow}
use Rattle.clr_verify.specs.declared.table_row.PointNow.{PointNow}

-- a test of two values decides whether they are the same
pub record IsExact {X : Type 0} (test : X → X → Bool) : Type 0 where
  pub same : (a b : X) → test a b ≡ true → a ≡ b
  pub itself : (a : X) → test a a ≡ true

pub decides : {X : Type 0} {test : X → X → Bool} → IsExact test → (a b : X) (found : Bool) → found ≡ test a b → (found ≡ true) ↔ (a ≡ b)
decides {X} {test} exact a b found is =
    ((λ yes. exact.same a b (sym is ∙ yes)), (λ same. is ∙ ap (λ x. test x b) same ∙ exact.itself b))

flag_same : (a b : Bool) → beq a b ≡ true → a ≡ b
flag_same true true same = refl
flag_same false false same = refl
flag_same true false same = absurd (true≢false (sym same))
flag_same false true same = absurd (true≢false (sym same))

flag_itself : (a : Bool) → beq a a ≡ true
flag_itself true = refl
flag_itself false = refl

of_flag : IsExact beq
of_flag = record { same = flag_same; itself = flag_itself }

pub one_name : (a b : List ℕ) → same_name a b ≡ true → a ≡ b
one_name [] [] same = refl
one_name [] (y ∷ b) same = absurd (true≢false (sym same))
one_name (x ∷ a) [] same = absurd (true≢false (sym same))
one_name (x ∷ a) (y ∷ b) same =
    let parts = and_parts _ _ same in
    let first = eqb-true x y parts.0 in
    let rest = one_name a b parts.1 in
    λ i. first i ∷ rest i

of_number : IsExact (λ (a b : ℕ). a == b)
of_number = record { same = eqb-true; itself = λ a. eq-eqb a a refl }

of_name : IsExact same_name
of_name = record { same = one_name; itself = nat_list_eq_equiv.refl }

of_option : {X : Type 0} {test : X → X → Bool} → IsExact test → IsExact (option_eq test)
of_option {X} {test} exact = record { same = same; itself = itself }
  where
    same : (a b : Option X) → option_eq test a b ≡ true → a ≡ b
    same None None is = refl
    same None (Some y) is = absurd (true≢false (sym is))
    same (Some x) None is = absurd (true≢false (sym is))
    same (Some x) (Some y) is = ap Some (exact.same x y is)

    itself : (a : Option X) → option_eq test a a ≡ true
    itself None = refl
    itself (Some x) = exact.itself x

of_word : (D : Declared) → Bare D.parts → IsExact (sameb D)
of_word D bare = record { same = same_true D bare; itself = λ a. true_same D a a refl }

of_pair : {X Y : Type 0} {test : X → X → Bool} {other : Y → Y → Bool} → IsExact test → IsExact other → IsExact {X = X × Y} (λ a b. test a.0 b.0 && other a.1 b.1)
of_pair {X} {Y} {test} {other} first second = record { same = same; itself = itself }
  where
    same : (a b : X × Y) → (test a.0 b.0 && other a.1 b.1) ≡ true → a ≡ b
    same a b is = let parts = and_parts _ _ is in λ i. (first.same a.0 b.0 parts.0 i, second.same a.1 b.1 parts.1 i)

    itself : (a : X × Y) → (test a.0 a.0 && other a.1 a.1) ≡ true
    itself a = and_from _ _ (first.itself a.0) (second.itself a.1)

-- what is made of values, and of no others, is the same where they are
of_fields : {X V : Type 0} (to : X → V) (from : V → X) → ((x : X) → from (to x) ≡ x) → {test : V → V → Bool} → IsExact test → IsExact (λ a b. test (to a) (to b))
of_fields {X} {V} to from back {test} exact = record { same = same; itself = λ a. exact.itself (to a) }
  where
    same : (a b : X) → test (to a) (to b) ≡ true → a ≡ b
    same a b is = sym (back a) ∙ ap from (exact.same (to a) (to b) is) ∙ back b

of_id : IsExact same_id
of_id = of_fields (λ (id : Id). (id.requester, id.number)) (λ v. record { requester = v.0; number = v.1 }) (λ id. refl) (of_pair of_name of_number)

of_position : IsExact (sameb position.the_type)
of_position = of_word position.the_type tt

abbrev same_point : PointRow → PointRow → Bool
same_point a b =
    same_name a.name b.name && (same_name a.from_end b.from_end && (same_name a.to_end b.to_end && (beq a.lockable b.lockable && (beq a.remote b.remote
    && (sameb position.the_type a.position b.position && beq a.jumper b.jumper)))))

of_point : IsExact same_point
of_point =
    of_fields (λ (p : PointRow). (p.name, (p.from_end, (p.to_end, (p.lockable, (p.remote, (p.position, p.jumper)))))))
    (λ v. record { name = v.0; from_end = v.1.0; to_end = v.1.1.0; lockable = v.1.1.1.0; remote = v.1.1.1.1.0; position = v.1.1.1.1.1.0; jumper = v.1.1.1.1.1.1 })
    (λ p. refl) (of_pair of_name (of_pair of_name (of_pair of_name (of_pair of_flag (of_pair of_flag (of_pair of_position of_flag))))))

abbrev same_state : PointState → PointState → Bool
same_state a b = same_name a.point b.point && (sameb position.the_type a.position b.position && option_eq same_id a.hand b.hand)

of_state : IsExact same_state
of_state =
    of_fields (λ (s : PointState). (s.point, (s.position, s.hand))) (λ v. record { point = v.0; position = v.1.0; hand = v.1.1 }) (λ s. refl)
    (of_pair of_name (of_pair of_position (of_option of_id)))

pub of_point_now : IsExact (λ (a b : PointNow). same_point a.row b.row && same_state a.state b.state)
of_point_now = of_fields (λ (p : PointNow). (p.row, p.state)) (λ v. record { row = v.0; state = v.1 }) (λ p. refl) (of_pair of_point of_state)

pub of_record : IsExact (λ (a b : Record). same_id a.id b.id && (same_name a.holder b.holder && (option_eq same_name a.work b.work && (sameb phase.the_type a.phase b.phase && (a.last == b.last)))))
of_record =
    of_fields (λ (r : Record). (r.id, (r.holder, (r.work, (r.phase, r.last))))) (λ v. record { id = v.0; holder = v.1.0; work = v.1.1.0; phase = v.1.1.1.0; last = v.1.1.1.1 }) (λ r. refl)
    (of_pair of_id (of_pair of_name (of_pair (of_option of_name) (of_pair (of_word phase.the_type tt) of_number))))

abbrev same_step : Step → Step → Bool
same_step a b =
    sameb action.the_type a.action b.action && (same_name a.point b.point && (sameb state.the_type a.state b.state && option_eq same_name a.reader b.reader))

of_step : IsExact same_step
of_step =
    of_fields (λ (s : Step). (s.action, (s.point, (s.state, s.reader)))) (λ v. record { action = v.0; point = v.1.0; state = v.1.1.0; reader = v.1.1.1 }) (λ s. refl)
    (of_pair (of_word action.the_type tt) (of_pair of_name (of_pair (of_word state.the_type tt) (of_option of_name))))

pub of_step_row : IsExact (λ (a b : StepRow). same_id a.id b.id && ((a.round == b.round) && ((a.ordinal == b.ordinal) && same_step a.step b.step)))
of_step_row =
    of_fields (λ (row : StepRow). (row.id, (row.round, (row.ordinal, row.step)))) (λ v. record { id = v.0; round = v.1.0; ordinal = v.1.1.0; step = v.1.1.1 }) (λ row. refl)
    (of_pair of_id (of_pair of_number (of_pair of_number of_step)))
