-- Who gives a command that is accepted: somebody of the staff, and nobody there has the empty name.
use Rattle.std.proofs.Common.{◌≡◌, ◌∙◌, ◌&&◌, Bool, true, false, ℕ, List, [], ◌∷◌, None, is_some, refl, ap, IsTrue}
use Rattle.std.specs.List.{list_all, list_any}
use Rattle.std.proofs.lemmas.Bool.{and_parts, both_ways}
use Rattle.clr_net.specs.Name.{is_name}
use Rattle.clr_rules.proofs.edits.Passing.{all_pass, not_refused_true}
use Rattle.clr_rules.proofs.edits.Refusing.{accepted_passes_checks}
use Rattle.clr_rules.specs.Answer.{Answer, answer, first_refusal, known_of}
use Rattle.clr_rules.specs.Checks.{employee, unknown_caller}
use Rattle.clr_rules.specs.Commands.{checks}
use Rattle.clr_rules.specs.Edits.{after_edit, after_edits}
use Rattle.clr_rules.specs.Register.{Register}
use Rattle.clr_rules.specs.Run.{after, after_all}
use Rattle.clr_rules.specs.declared.change.Edit.{Edit}
use Rattle.clr_rules.specs.declared.command.Command.{Command}
use Rattle.clr_rules.specs.declared.command.Kind.{Kind}
use Rattle.clr_rules.specs.declared.command.Kind.TheVariants as kinds
use Rattle.clr_rules.specs.declared.refusal.Refusal.TheVariants.{UnknownCaller}
use Rattle.clr_rules.specs.declared.reply.Reply.{Reply}
use Rattle.clr_rules.specs.declared.reply.Reply.TheVariants.{Accepted}
use Rattle.clr_rules.specs.laws.Edits.{refusal_of}
use Rattle.clr_rules.specs.laws.WayBack.{is_accepted}
use Rattle.clr_staff.specs.declared.employee.StaffRow.{StaffRow}
use Rattle.clr_wayback.specs.Answer.{are_accepted, is_by_nobody, is_nobody}

-- no employee has the empty name
named_goes_on : (row : StaffRow) (staff : List StaffRow) → IsTrue (list_all (λ (other : StaffRow). is_name other.name) (row ∷ staff))
    → IsTrue (is_name row.name) × IsTrue (list_all (λ (other : StaffRow). is_name other.name) staff)
named_goes_on row staff named = both (is_name row.name) (list_all (λ (other : StaffRow). is_name other.name) staff) named
  where
    both : (a b : Bool) → IsTrue (a && b) → IsTrue a × IsTrue b
    both true b h = (refl, h)
    both false b h = cc h

pub nobody_is_nameless : (staff : List StaffRow) → IsTrue (list_all (λ (row : StaffRow). is_name row.name) staff) → employee staff [] ≡ None
nobody_is_nameless [] named = refl
nobody_is_nameless (row ∷ staff) named =
    let both = named_goes_on row staff named in at row.name refl both.0 (nobody_is_nameless staff both.1)
  where
    at : (name : List ℕ) → row.name ≡ name → IsTrue (is_name row.name) → employee staff [] ≡ None → employee (row ∷ staff) [] ≡ None
    at [] e h more = let never = rw e at h in cc never
    at (b ∷ name) e h more = rw e more

-- the caller of an accepted command is in the staff
caller_is_known : (R : Register) (q : Command) → refusal_of R q ≡ None → unknown_caller R q.caller ≡ None
caller_is_known R q none = by q.kind none
  where
    by : (kind : Kind) → first_refusal (checks (known_of R q) R q.caller q.moment kind) ≡ None → unknown_caller R q.caller ≡ None
    by (kinds.Show c) h = (all_pass (checks (known_of R q) R q.caller q.moment (kinds.Show c)) h).0
    -- each kind begins with it
    by kind h = (all_pass (checks (known_of R q) R q.caller q.moment kind) h).0

accepted_is_given : (R : Register) (q : Command) → is_accepted (Answer.reply (answer R q)) ≡ true → is_some (employee R.staff q.caller) ≡ true
accepted_is_given R q accepted = at (Answer.reply (answer R q)) refl accepted
  where
    at : (reply : Reply) → Answer.reply (answer R q) ≡ reply → is_accepted reply ≡ true → is_some (employee R.staff q.caller) ≡ true
    at (Accepted card) e h =
        not_refused_true (is_some (employee R.staff q.caller)) UnknownCaller (caller_is_known R q (accepted_passes_checks R q card e))
    at _ e h = cc h

-- an employee is somebody
is_somebody : (staff : List StaffRow) (name : List ℕ) → employee staff [] ≡ None → is_some (employee staff name) ≡ true → is_nobody name ≡ false
is_somebody staff [] none there = let never = rw none at there in cc never
is_somebody staff (b ∷ name) none there = refl

-- the staff stay
staff_stays : (edits : List Edit) (R : Register) → Register.staff (after_edits edits R) ≡ R.staff
unfolding after_edits
staff_stays [] R = refl
staff_stays (edit ∷ edits) R = staff_stays edits (after_edit edit R)

-- over any commands
pub staff_goes_on : (R : Register) (commands : List Command) → Register.staff (after_all R commands) ≡ R.staff
unfolding after_all
staff_goes_on R [] = refl
staff_goes_on R (q ∷ commands) = staff_goes_on (after R q) commands ∙ staff_stays (Answer.edits (answer R q)) R

-- so each command that is accepted in its turn is somebody's
accepted_are_given : (R : Register) (commands : List Command) → employee R.staff [] ≡ None → are_accepted R commands ≡ true → list_any is_by_nobody commands ≡ false
unfolding are_accepted
accepted_are_given R [] none all = refl
accepted_are_given R (q ∷ commands) none all =
    let both = and_parts (is_accepted (Answer.reply (answer R q))) (are_accepted (after R q) commands) all in
    let none_after : employee (Register.staff (after R q)) [] ≡ None =
    ap (λ (staff : List StaffRow). employee staff []) (staff_stays (Answer.edits (answer R q)) R) ∙ none in
    rw (is_somebody R.staff q.caller none (accepted_is_given R q both.0)) (accepted_are_given (after R q) commands none_after both.1)

-- and of commands that are not all somebody's one is refused
pub by_nobody_refused : (R : Register) (commands : List Command) → employee R.staff [] ≡ None → list_any is_by_nobody commands ≡ true → are_accepted R commands ≡ false
by_nobody_refused R commands none some = at (are_accepted R commands) refl
  where
    at : (b : Bool) → are_accepted R commands ≡ b → are_accepted R commands ≡ false
    at true e = absurd (both_ways (list_any is_by_nobody commands) (accepted_are_given R commands none e) some)
    at false e = e
