-- A cancel keeps a good register good: what was ordered and holds something is released, and anything else is closed.
use Rattle.std.proofs.Common.{◌≡◌, ℕ, Bool, true, false, cond, ◌&&◌, List, [], ◌∷◌, Option, Some, None, refl, sym, ◌∙◌, ap}
use Rattle.clr_rules.proofs.Common.{false≢true, false_from_ne_true, Grid, any_from, InPhase, Outlook, outlook_of, some_active, hold_there, own_id, record_id}
use Rattle.clr_rules.specs.Changes.{cancelled_phase}
use Rattle.clr_rules.specs.Prelude.{PutRecord, Hold, HoldKind, Phase, Requested, Ordered, Released, Switching, Closed, Record, Id, same_id, is_ordered, steps_of, has_any_hold, has_hold, hold_of}
use Rattle.clr_rules.specs.Prelude.{Cancel}
use Rattle.clr_rules.specs.Records.{is_cancellable}
use Rattle.clr_rules.specs.declared.refusal.Refusal.TheVariants.{StepState as WrongState}
use Rattle.clr_rules.proofs.good.Keeping.{KeepsGood, commands_keep}
use Rattle.clr_rules.proofs.keeps.OneRecord.{found_edits, in_phase_of, record_alone}
use Rattle.clr_rules.proofs.lists.OpenPhases.{open_where}
use Rattle.clr_rules.proofs.edits.Passing.{holder_begun, not_refused}

-- a clearance without any hold has none
no_hold_at : (holds : List Hold) (c : Id) → has_any_hold holds c ≡ false → (kind : HoldKind) (place : List ℕ) → has_hold holds c kind place ≡ false
unfolding has_any_hold
no_hold_at holds c none kind place = false_from_ne_true (has_hold holds c kind place) (λ has.
    false≢true (sym none ∙ any_from (λ (h : Hold). same_id c h.id) holds (hold_of c kind place) (hold_there holds c kind place has) (own_id c)))

-- where no step is given out
cancelled : (g : Grid) (phase : Phase) (work : Option (List ℕ)) (v : Outlook) (o : Option Record) (holds_some : Bool) → is_cancellable phase ≡ true → some_active v.steps ≡ false
    → (holds_some ≡ false → (kind : HoldKind) (place : List ℕ) → v.has kind place ≡ false)
    → InPhase g phase work v → InPhase g (cond (is_ordered phase && holds_some) Released Closed) work (record v { clearance = o })
cancelled g Ordered (Some work) v o true fits rests none h = record { isolates = h.isolates; one_round = h.one_round; none_active = rests; as_put = h.as_put; no_work = h.no_work }
cancelled g Ordered (Some work) v o false fits rests none h = record { none_active = rests; no_hold = none refl }
cancelled g Requested (Some work) v o some fits rests none h = record { none_active = rests; no_hold = h.no_hold }
cancelled g Switching None v o some fits rests none h = record { none_active = rests; no_hold = h.no_hold }
cancelled g Ordered None v o some fits rests none h = absurd h
cancelled g Requested None v o some fits rests none h = absurd h
cancelled g Switching (Some work) v o some fits rests none h = absurd h
cancelled g _ work v o some fits rests none h = absurd (false≢true fits)

pub cancels_keep : (c : Id) → KeepsGood (Cancel c)
cancels_keep c = commands_keep (Cancel c) (λ R by at good passed.
    let (r, found, fits, rest) = holder_begun R c is_cancellable passed in
    let rests = not_refused (some_active (steps_of R.steps c)) WrongState (search rest) in
    let none : has_any_hold R.holds r.id ≡ false → (kind : HoldKind) (place : List ℕ) → has_hold R.holds c kind place ≡ false =
    λ free. no_hold_at R.holds c (ap (has_any_hold R.holds) (sym (record_id R.records c r found)) ∙ free) in
    found_edits R c r (λ r. PutRecord (record r { phase = cancelled_phase R r; last = at }) ∷ []) found
    (record_alone R c r (record r { phase = cancelled_phase R r; last = at }) good found (open_where is_cancellable refl r.phase fits) refl refl
    (cancelled R.net r.phase r.work (outlook_of R c) (Some (record r { phase = cancelled_phase R r; last = at })) (has_any_hold R.holds r.id) fits rests none (in_phase_of R c r good found))))
