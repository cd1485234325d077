-- Registers that have the same of a clearance: each check of a command that names it says the same.
use Rattle.std.proofs.Common.{◌≡◌, ℕ, Bool, false, not, List, Option, Some, None, is_some, sym, ap, subst}
use Rattle.clr_staff.specs.declared.employee.Role.{Role}
use Rattle.clr_rules.proofs.Common.{StepState, named_clearance, Kind, Tested, Ground, Phase, Refusal, StepRow, Id, Register, step_at, is_order, is_in_turn}
use Rattle.clr_rules.specs.Commands.{Known, by_role, checks}
use Rattle.clr_rules.specs.Checks.{at_step, no_step, no_ground, not_tested, out_of_turn, refuse, where_some, wrong_state}
use Rattle.clr_rules.specs.laws.Own.{SameOwn, is_instruct}
use Rattle.clr_rules.proofs.near.OwnQuestions.{same_has_hold, same_held_among, same_present, same_round, same_some_hold}
use Rattle.clr_rules.specs.declared.command.Kind.TheVariants as kinds
use Rattle.clr_rules.specs.declared.refusal.Refusal.TheVariants as refusals

module _ (c : Id) (R S : Register) (same : SameOwn c R S) where
  pub at_number : (n : ℕ) (check : StepRow → Option Refusal) → at_step R c n check ≡ at_step S c n check
  at_number n check = ap (λ (rows : List StepRow). where_some (step_at rows n) check) (same_present c R S same)

  pub number : (n : ℕ) → no_step R c n ≡ no_step S c n
  number n = ap (λ (rows : List StepRow). refuse (not (is_some (step_at rows n))) refusals.NoStep) (same_present c R S same)

  pub turn : (n : ℕ) → out_of_turn R c n ≡ out_of_turn S c n
  turn n = ap (λ (rows : List StepRow). refuse (not (is_in_turn rows n)) refusals.OutOfTurn) (same_present c R S same)

  pub state : (n : ℕ) (fits : StepState → Bool) → wrong_state R c n fits ≡ wrong_state S c n fits
  state n fits = at_number n (λ row. refuse (not (fits row.step.state)) refusals.StepState)

  tested : (section : List ℕ) → not_tested R c section ≡ not_tested S c section
  tested section = ap (λ (b : Bool). refuse (not b) refusals.NotTested) (same_has_hold c R S same Tested section)

  grounded_at : (section : List ℕ) → no_ground R c section ≡ no_ground S c section
  grounded_at section = ap (λ (b : Bool). refuse (not b) refusals.NotGrounded) (same_has_hold c R S same Ground section)

  -- as one check of each section
  pub tested_alike : not_tested R c ≡ not_tested S c
  tested_alike = λ i section. tested section i

  pub grounded_alike : no_ground R c ≡ no_ground S c
  grounded_alike = λ i section. grounded_at section i

  -- commands that begin alike
  pub same_by_role : (by : List ℕ) (at : ℕ) (roles : Role → Bool) (phases : Phase → Bool) {own others : List (Option Refusal)} → own ≡ others
      → by_role R by at c roles phases own ≡ by_role S by at c roles phases others
  same_by_role by at roles phases own = simp (same.staff, same.own_record, own)

-- the same of the clearance that is named
abbrev pub SameOfNamed : Register → Register → Option Id → Type 0
SameOfNamed R S None = ⊥
SameOfNamed R S (Some c) = SameOwn c R S

-- each check of a command that names a clearance says the same, but for an order, and for a command that gives a step out: two checks of this look at
-- the step's point
module _ (k : Known) (R S : Register) (by : List ℕ) (at : ℕ) where
  pub same_checks : (kind : Kind) → SameOfNamed R S (named_clearance kind) → is_order kind ≡ false → is_instruct kind ≡ false
      → checks k R by at kind ≡ checks k S by at kind
  same_checks (kinds.Request section) same no_order no_instruct = absurd same
  same_checks (kinds.Switch tasks) same no_order no_instruct = absurd same
  same_checks (kinds.Jumper point from to lockable remote) same no_order no_instruct = absurd same
  same_checks (kinds.Order c points tasks) same no_order no_instruct = cc no_order
  same_checks (kinds.Instruct c n) same no_order no_instruct = cc no_instruct
  -- a check that looks at no more than the record, the steps, the holds and the staff
  same_checks _ same no_order no_instruct = simp (
    same.staff,
    same.own_record,
    same.own_steps,
    same_round _ R S same,
    same_has_hold _ R S same,
    same_some_hold _ R S same,
    same_held_among _ R S same,
    tested_alike _ R S same,
    grounded_alike _ R S same,
  )

pub checks_of_own : (c : Id) (R S : Register) → SameOwn c R S → (k : Known) (by : List ℕ) (at : ℕ) (kind : Kind)
    → named_clearance kind ≡ Some c → is_order kind ≡ false → is_instruct kind ≡ false → checks k R by at kind ≡ checks k S by at kind
checks_of_own c R S same k by at kind named no_order no_instruct =
    same_checks k R S by at kind (subst (SameOfNamed R S) (sym named) same) no_order no_instruct
