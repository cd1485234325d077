-- Every command keeps a good register good, and so every register that is reached is good.
use Rattle.std.proofs.Common.{◌≡◌, ℕ, Bool, true, false, cond, not, ◌&&◌, List, [], ◌∷◌, Option, Some, None, refl, sym, subst}
use Rattle.clr_rules.proofs.Common.{false≢true, same_name, has_name, clearance_fence, IsGood, Command, Kind, Register, opening, IsReached, after, after_all}
use Rattle.clr_rules.specs.declared.command.Kind.TheVariants.{Request, Order, Instruct, Repeat, Report, Grant, Test, Ground as GroundIt, Unground, SignOn, SignOff, Transfer, Release, Cancel, Restore, Amend}
use Rattle.clr_rules.specs.declared.command.Kind.TheVariants.{Switch, Show, Jumper}
use Rattle.clr_rules.specs.Checks.{at_work, refuse, where_some}
use Rattle.clr_rules.specs.Prelude.{PutHold, TakeHold, PutRecord, Hold, HoldKind, Tested, Ground, Crew, Phase, Requested, Ordered, Granted, Released, Restoring, Switching, Closed, Record, Refusal, Id}
use Rattle.clr_rules.specs.Prelude.{id_cmp, same_id, Register, has_in_hand, record_key, record_of, is_granted, steps_of, hold_cmp, is_point_kind, has_hold, has_some_hold, hold_key, hold_of, same_kind}
use Rattle.clr_rules.specs.Prelude.{after_edits, CrewsOn, NotGrounded, OutsideFence}
use Rattle.clr_rules.specs.GoodByPhase.{InGranted, InPhase, IsGoodByPhase, inner_fence, outlook_of}
use Rattle.clr_rules.proofs.keeps.OneRecord.{found_edits, in_phase_of}
use Rattle.clr_rules.proofs.edits.Passing.{check_of_found, not_refused, holder_begun, not_refused_true}
use Rattle.clr_rules.proofs.good.Keeping.{KeepsGood, commands_keep}
use Rattle.clr_rules.proofs.keeps.Amend.{amends_keep}
use Rattle.clr_rules.proofs.keeps.Cancel.{cancels_keep}
use Rattle.clr_rules.proofs.keeps.Release.{releases_keep}
use Rattle.clr_rules.proofs.keeps.Instruct.{instructs_keep}
use Rattle.clr_rules.proofs.keeps.Jumper.{jumpers_keep}
use Rattle.clr_rules.proofs.keeps.Order.{orders_keep}
use Rattle.clr_rules.proofs.keeps.Grant.{grants_keep}
use Rattle.clr_rules.proofs.keeps.Show.{shows_keep}
use Rattle.clr_rules.proofs.keeps.Transfer.{transfers_keep}
use Rattle.clr_rules.proofs.keeps.Restore.{restores_keep}
use Rattle.clr_rules.proofs.keeps.Repeat.{repeats_keep}
use Rattle.clr_rules.proofs.keeps.Switch.{switches_keep}
use Rattle.clr_rules.proofs.keeps.Work.{GrantedWork, granted_work, hold_put_keeps, hold_taken_keeps, unground_keeps}
use Rattle.clr_rules.proofs.keeps.Request.{requests_keep}
use Rattle.clr_rules.proofs.good.Opening.{opening_is_good}
use Rattle.clr_rules.proofs.keeps.Report.{reports_keep}

-- ---- the commands of the work under a granted clearance

tests_keep : (c : Id) (section : List ℕ) (dead : Bool) → KeepsGood (Test c section dead)
tests_keep c section dead = commands_keep (Test c section dead) (λ R by at good passed.
    let (r, found, fits, rest) = holder_begun R c is_granted passed in
    let w = granted_work R c r good found fits in
    let fenced = not_refused_true (has_name (clearance_fence R c) section) OutsideFence (search rest) in
    found_edits R c r (λ r. cond dead (PutHold (hold_of c Tested section)) (TakeHold (hold_of c Tested section)) ∷ PutRecord (record r { last = at }) ∷ []) found
    (by_test R good c r found w at section fenced dead))
  where
    by_test : (R : Register) (good : IsGoodByPhase R) (c : Id) (r : Record) (found : record_of R.records c ≡ Some r) (w : GrantedWork R c r) (at : ℕ) (section : List ℕ)
        → has_name (clearance_fence R c) section ≡ true → (dead : Bool)
        → IsGoodByPhase (after_edits (cond dead (PutHold (hold_of c Tested section)) (TakeHold (hold_of c Tested section)) ∷ PutRecord (record r { last = at }) ∷ []) R)
    by_test R good c r found w at section fenced true = hold_put_keeps R good c r found w at Tested section refl (λ _. fenced) (λ is. absurd (false≢true is))
    by_test R good c r found w at section fenced false = hold_taken_keeps R good c r found w at Tested section refl refl

grounds_keep : (c : Id) (section : List ℕ) → KeepsGood (GroundIt c section)
grounds_keep c section = commands_keep (GroundIt c section) (λ R by at good passed.
    let (r, found, fits, rest) = holder_begun R c is_granted passed in
    let w = granted_work R c r good found fits in
    found_edits R c r (λ r. PutHold (hold_of c Ground section) ∷ PutRecord (record r { last = at }) ∷ []) found
    (hold_put_keeps R good c r found w at Ground section refl (λ _. not_refused_true (has_name (clearance_fence R c) section) OutsideFence (search rest)) (λ is. absurd (false≢true is))))

-- what is checked at the work section
work_check : (R : Register) (c : Id) (r : Record) (w : GrantedWork R c r) (check : List ℕ → Option Refusal) → record_of R.records c ≡ Some r → at_work R c check ≡ None → check w.work ≡ None
work_check R c r w check found passed = check_of_found r.work w.work check w.has_work (check_of_found (record_of R.records c) r (λ (r : Record). where_some r.work check) found passed)

ungrounds_keep : (c : Id) (section : List ℕ) → KeepsGood (Unground c section)
ungrounds_keep c section = commands_keep (Unground c section) (λ R by at good passed.
    let (r, found, fits, rest) = holder_begun R c is_granted passed in
    let w = granted_work R c r good found fits in
    found_edits R c r (λ r. TakeHold (hold_of c Ground section) ∷ TakeHold (hold_of c Tested section) ∷ PutRecord (record r { last = at }) ∷ []) found
    (unground_keeps R good c r found w at section (not_refused (same_name w.work section && has_some_hold R.holds c Crew) CrewsOn
    (work_check R c r w (λ work. refuse (same_name work section && has_some_hold R.holds c Crew) CrewsOn) found (search rest)))))

sign_ons_keep : (c : Id) (crew : List ℕ) → KeepsGood (SignOn c crew)
sign_ons_keep c crew = commands_keep (SignOn c crew) (λ R by at good passed.
    let (r, found, fits, rest) = holder_begun R c is_granted passed in
    let w = granted_work R c r good found fits in
    found_edits R c r (λ r. PutHold (hold_of c Crew crew) ∷ PutRecord (record r { last = at }) ∷ []) found
    (hold_put_keeps R good c r found w at Crew crew refl (λ is. absurd (false≢true is)) (λ _. not_refused_true (has_hold R.holds c Ground w.work) NotGrounded
    (work_check R c r w (λ section. refuse (not (has_hold R.holds c Ground section)) NotGrounded) found (search rest)))))

sign_offs_keep : (c : Id) (crew : List ℕ) → KeepsGood (SignOff c crew)
sign_offs_keep c crew = commands_keep (SignOff c crew) (λ R by at good passed.
    let (r, found, fits, _) = holder_begun R c is_granted passed in
    let w = granted_work R c r good found fits in
    found_edits R c r (λ r. TakeHold (hold_of c Crew crew) ∷ PutRecord (record r { last = at }) ∷ []) found
    (hold_taken_keeps R good c r found w at Crew crew refl refl))

-- ---- all of them

every_kind_keeps : (kind : Kind) → KeepsGood kind
every_kind_keeps (Request section) = requests_keep section
every_kind_keeps (Order c points tasks) = orders_keep c points tasks
every_kind_keeps (Instruct c n) = instructs_keep c n
every_kind_keeps (Repeat c n text) = repeats_keep c n text
every_kind_keeps (Report c n done) = reports_keep c n done
every_kind_keeps (Grant c) = grants_keep c
every_kind_keeps (Test c section dead) = tests_keep c section dead
every_kind_keeps (GroundIt c section) = grounds_keep c section
every_kind_keeps (Unground c section) = ungrounds_keep c section
every_kind_keeps (SignOn c crew) = sign_ons_keep c crew
every_kind_keeps (SignOff c crew) = sign_offs_keep c crew
every_kind_keeps (Transfer c to emergency) = transfers_keep c to emergency
every_kind_keeps (Release c notified clear) = releases_keep c notified clear
every_kind_keeps (Cancel c) = cancels_keep c
every_kind_keeps (Restore c tasks) = restores_keep c tasks
every_kind_keeps (Amend c n) = amends_keep c n
every_kind_keeps (Switch tasks) = switches_keep tasks
every_kind_keeps (Show c) = shows_keep c
every_kind_keeps (Jumper point from to lockable remote) = jumpers_keep point from to lockable remote

pub commands_keep_good : (R : Register) (q : Command) → IsGood R → IsGood (after R q)
commands_keep_good R q = every_kind_keeps q.kind R q.caller q.moment

-- and so do runs
pub runs_keep_good : (R : Register) (commands : List Command) → IsGood R → IsGood (after_all R commands)
unfolding after_all
runs_keep_good R [] good = good
runs_keep_good R (q ∷ commands) good = runs_keep_good (after R q) commands (commands_keep_good R q good)

pub reached_are_good : (R : Register) → IsReached R → IsGood R
reached_are_good R run = subst IsGood (sym run.reached)
    (runs_keep_good (opening run.net run.staff) run.commands (opening_is_good run.net run.staff run.is_network run.is_staff))
