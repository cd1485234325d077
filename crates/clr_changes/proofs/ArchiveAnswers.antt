-- Only a show looks at the steps of a record that is Closed.
use Rattle.std.proofs.Common.{◌≡◌, ◌∙◌, inl, inr, ℕ, Bool, true, false, List, [], Option, Some, None, refl, sym, ap, subst}
use Rattle.clr_rules.proofs.edits.Passing.{all_pass, first_after, holder_begun, named_is_open, role_begun, is_show as shows}
use Rattle.clr_rules.proofs.isolation.ClosedSteps.{closed_steps_bind_nothing}
use Rattle.clr_rules.specs.Answer.{answer_by_checks, first_refusal, known_of}
use Rattle.clr_rules.specs.Checks.{is_charge, is_charge_or_operator, is_field, is_operator}
use Rattle.clr_rules.specs.Commands.{Known, by_holder, by_role, checks}
use Rattle.clr_rules.specs.Prelude.{is_granted, is_ordered, is_restoring, is_running}
unfoldable use Rattle.clr_rules.specs.Prelude.{after_edits}
use Rattle.clr_rules.specs.Records.{is_cancellable, is_released, is_requested}
use Rattle.clr_staff.specs.declared.employee.Role.{Role}
use Rattle.clr_changes.proofs.ArchiveCommon.{Answer, AreClosed, AreOneBut, Closed, Command, Id, IsGood, Kind, NamesNoneOf, Phase, Record, Register, after, answer, both_ways, false≢true, is_closed, named_clearance}
use Rattle.clr_changes.proofs.ArchiveCommon.{record_of, same_Some, without_steps_of}
use Rattle.clr_changes.proofs.Kept.{closed_not_open}
use Rattle.clr_changes.specs.Unarchived.{ShowsNoneOf, is_show}
use Rattle.clr_rules.specs.declared.refusal.Refusal.{Refusal}
use Rattle.clr_rules.specs.declared.reply.Reply.TheVariants.{Refused}
use Rattle.clr_rules.specs.declared.command.Kind.TheVariants.{Order, Instruct, Repeat, Report, Grant, Transfer, Cancel, Restore, Amend, Show, Request, Switch, Jumper}

-- a command names a record that is Closed
abbrev NamesClosed : Register → Option Id → Type 0
NamesClosed R None = ⊥
NamesClosed R (Some c) = (r : Record) × (record_of R.records c ≡ Some r) × (is_closed r.phase ≡ true)

closed_is : (phase : Phase) → is_closed phase ≡ true → phase ≡ Closed
closed_is Closed is = refl
closed_is _ is = absurd (false≢true is)

no_show : (kind : Kind) → is_show kind ≡ false → shows kind ≡ false
no_show (Show c) is = is
no_show _ is = refl

-- ---- the checks before a command's own ones refuse it

module _ (R : Register) (gone : Id → Bool) (by : List ℕ) (at : ℕ) where
  abbrev W : Register
  W = without_steps_of gone R

  unfit : (c : Id) (phases : Phase → Bool) → phases Closed ≡ false → NamesClosed R (Some c) → (s : Record) → record_of R.records c ≡ Some s → phases s.phase ≡ true → ⊥
  unfit c phases none (r, read, over) s found fits =
      let closed : s.phase ≡ Closed = ap (λ (x : Record). x.phase) (sym (same_Some r s (sym read ∙ found))) ∙ closed_is r.phase over in
      both_ways (phases Closed) none (ap phases (sym closed) ∙ fits)

  role_stops : (c : Id) → NamesClosed R (Some c) → (roles : Role → Bool) (phases : Phase → Bool) → phases Closed ≡ false → (own other : List (Option Refusal))
      → first_refusal (by_role R by at c roles phases own) ≡ first_refusal (by_role R by at c roles phases other)
  role_stops c closed roles phases none own other = first_after (by_role R by at c roles phases []) own other (λ pass.
      let (s, found, fits, _) = role_begun R c phases (all_pass (by_role R by at c roles phases []) pass) in
      absurd (unfit c phases none closed s found fits))

  holder_stops : (c : Id) → NamesClosed R (Some c) → (roles : Role → Bool) (phases : Phase → Bool) → phases Closed ≡ false → (own other : List (Option Refusal))
      → first_refusal (by_holder R by at c roles phases own) ≡ first_refusal (by_holder R by at c roles phases other)
  holder_stops c closed roles phases none own other = first_after (by_holder R by at c roles phases []) own other (λ pass.
      let (s, found, fits, _) = holder_begun R c phases (all_pass (by_holder R by at c roles phases []) pass) in
      absurd (unfit c phases none closed s found fits))

  -- so the first is the same without steps. Most commands are the holder's while the record is Granted
  same_first : (k h : Known) (kind : Kind) → is_show kind ≡ false → NamesClosed R (named_clearance kind)
      → first_refusal (checks k R by at kind) ≡ first_refusal (checks h (without_steps_of gone R) by at kind)
  same_first k h (Request section) shown closed = absurd closed
  same_first k h (Switch tasks) shown closed = absurd closed
  same_first k h (Jumper point from to lockable remote) shown closed = absurd closed
  same_first k h (Show c) shown closed = absurd (false≢true (sym shown))
  same_first k h (Order c points tasks) shown closed = role_stops c closed is_operator is_requested refl _ _
  same_first k h (Instruct c n) shown closed = role_stops c closed is_operator is_running refl _ _
  same_first k h (Repeat c n text) shown closed = role_stops c closed is_field is_running refl _ _
  same_first k h (Report c n done) shown closed = role_stops c closed is_field is_running refl _ _
  same_first k h (Grant c) shown closed = role_stops c closed is_operator is_ordered refl _ _
  same_first k h (Restore c tasks) shown closed = role_stops c closed is_operator is_released refl _ _
  same_first k h (Amend c n) shown closed = role_stops c closed is_operator is_restoring refl _ _
  same_first k h (Cancel c) shown closed = holder_stops c closed is_charge_or_operator is_cancellable refl _ _
  same_first k h (Transfer c to emergency) shown closed = refl
  same_first k h _ shown closed = holder_stops _ closed is_charge is_granted refl _ _

-- ---- a command that names a Closed record is refused, with its steps and without them

abbrev refused : Refusal → Answer
refused refusal = record { reply = Refused refusal; edits = [] }

record RefusedAlike (R S : Register) (q : Command) : Type 0 where
  refusal : Refusal
  first : answer R q ≡ refused refusal
  second : answer S q ≡ refused refusal

module _ (gone : Id → Bool) (R : Register) (q : Command) (shown : is_show q.kind ≡ false) where
  never_passes : NamesClosed R (named_clearance q.kind) → first_refusal (checks (known_of R q) R q.caller q.moment q.kind) ≡ None → ⊥
  never_passes closed pass = at (named_clearance q.kind) refl closed
    where
      at : (named : Option Id) → named_clearance q.kind ≡ named → NamesClosed R named → ⊥
      at None named closed = closed
      at (Some c) named (r, read, over) = closed_not_open r.phase over
          (named_is_open (known_of R q) R q.caller q.moment q.kind (no_show q.kind shown) (all_pass (checks (known_of R q) R q.caller q.moment q.kind) pass) c named r read)

  closed_refused : NamesClosed R (named_clearance q.kind) → RefusedAlike R (without_steps_of gone R) q
  closed_refused closed = at (first_refusal (checks (known_of R q) R q.caller q.moment q.kind)) refl
    where
      at : (o : Option Refusal) → first_refusal (checks (known_of R q) R q.caller q.moment q.kind) ≡ o → RefusedAlike R (without_steps_of gone R) q
      at None pass = absurd (never_passes closed pass)
      at (Some refusal) is = record {
        refusal = refusal;
        first = ap (answer_by_checks (known_of R q) R q) is;
        second = ap (answer_by_checks (known_of (without_steps_of gone R) q) (without_steps_of gone R) q)
            (sym (same_first R gone q.caller q.moment (known_of R q) (known_of (without_steps_of gone R) q) q.kind shown closed) ∙ is);
      }

-- a refused command leaves the register
refused_stays : (R : Register) (q : Command) (refusal : Refusal) → answer R q ≡ refused refusal → after R q ≡ R
unfolding after_edits
refused_stays R q refusal is = ap (λ (a : Answer). after_edits a.edits R) is

-- ---- in two registers that are one but for steps of closed records

pub closed_in_second : (gone : Id → Bool) (R S : Register) → AreOneBut gone R S → AreClosed gone S
closed_in_second gone R S one c is =
    let (r, read, over) = one.closed c is in
    (r, ap (λ (T : Register). record_of T.records c) (sym one.rest) ∙ read, over)

-- a command is answered alike in both, and they are so again
pub record Alike (gone : Id → Bool) (R S : Register) (q : Command) : Type 0 where
  pub answers : answer R q ≡ answer S q
  pub again : AreOneBut gone (after R q) (after S q)

module _ (gone : Id → Bool) (R S : Register) (good : IsGood R) (other : IsGood S) (one : AreOneBut gone R S) (q : Command) where
  about_others : NamesNoneOf gone (named_clearance q.kind) → Alike gone R S q
  about_others free = let (same, again) = closed_steps_bind_nothing gone R S q good other one free in record { answers = same; again = again }

  about_closed : is_show q.kind ≡ false → NamesClosed R (named_clearance q.kind) → NamesClosed S (named_clearance q.kind) → Alike gone R S q
  about_closed shown closed too =
      let in_first = closed_refused gone R q shown closed in
      let in_second = closed_refused gone S q shown too in
      let same : refused in_first.refusal ≡ refused in_second.refusal = sym in_first.second ∙ ap (λ (T : Register). answer T q) one.rest ∙ in_second.second in
      record {
        answers = in_first.first ∙ same ∙ sym in_second.first;
        again = subst (λ (T : Register). AreOneBut gone T (after S q)) (sym (refused_stays R q in_first.refusal in_first.first))
            (subst (AreOneBut gone R) (sym (refused_stays S q in_second.refusal in_second.first)) one);
      }

  no_show_alike : is_show q.kind ≡ false → (named : Option Id) → named_clearance q.kind ≡ named → Alike gone R S q
  no_show_alike shown None named = about_others (subst (NamesNoneOf gone) (sym named) tt)
  no_show_alike shown (Some c) named = at (gone c) refl
    where
      at : (b : Bool) → gone c ≡ b → Alike gone R S q
      at false free = about_others (subst (NamesNoneOf gone) (sym named) free)
      at true is = about_closed shown (subst (NamesClosed R) (sym named) (one.closed c is)) (subst (NamesClosed S) (sym named) (closed_in_second gone R S one c is))

  pub alike : ShowsNoneOf gone q.kind → Alike gone R S q
  alike (inl shown) = no_show_alike shown (named_clearance q.kind) refl
  alike (inr free) = about_others free
