-- A release keeps a good register good: the tests of the clearance go, and it has neither crew nor ground.
use Rattle.std.proofs.Common.{◌≡◌, ℕ, Bool, true, false, not, ◌&&◌, ◌||◌, List, [], ◌∷◌, ◌++◌, map, filter, Option, Some, refl, sym, ◌∙◌, ap, subst}
use Rattle.clr_rules.proofs.Common.{and_from, false≢true, false_from_ne_true, nat_list_eq_equiv, same_name, has_name, with_row, without_row, hold_there, Contains-filter, has_name-row, one_id, own_id}
use Rattle.clr_rules.proofs.Common.{record_id, is_open}
use Rattle.clr_rules.proofs.edits.PlainEdits.{takes_plain}
use Rattle.clr_rules.specs.Prelude.{Edit, TakeHold, PutRecord, Hold, HoldKind, HeldOpen, Block, Control, Tag, Tested, Ground, Crew, Released, Record, Id, id_cmp, same_id, Register, record_key}
use Rattle.clr_rules.specs.Prelude.{record_of, is_granted, hold_cmp, is_point_kind, has_hold, has_some_hold, hold_key, hold_of, places_of, same_kind, after_edits, Release, CrewsOn, Grounded}
use Rattle.clr_rules.specs.GoodByPhase.{InPhase, InReleased, IsGoodByPhase}
use Rattle.clr_rules.specs.Id.{same_id_equiv}
use Rattle.clr_rules.proofs.good.Keeping.{KeepsGood, Changed, commands_keep, keeps}
use Rattle.clr_rules.proofs.lists.HoldChanges.{others_hold_taken, own_taken}
use Rattle.clr_rules.proofs.keeps.OneRecord.{found_edits}
use Rattle.clr_rules.proofs.keeps.Work.{GrantedWork, granted_work, has_some}
use Rattle.clr_rules.proofs.edits.Passing.{holder_begun, not_refused}
use Rattle.clr_rules.proofs.edits.PutRecords.{put_changes, outlook_with, quiet}

-- the holds without those of a kind at some places
pub taken_all : Id → List (List ℕ) → List Hold → List Hold
taken_all c [] holds = holds
taken_all c (place ∷ places) holds = taken_all c places (without_row hold_cmp hold_key (hold_of c Tested place) holds)

pub takes_edited : (c : Id) (places : List (List ℕ)) (rest : List Edit) (R : Register)
    → after_edits (map (λ place. TakeHold (hold_of c Tested place)) places ++ rest) R ≡ after_edits rest (record R { holds = taken_all c places R.holds })
unfolding after_edits taken_all
takes_edited c [] rest R = refl
takes_edited c (place ∷ places) rest R = takes_edited c places rest (record R { holds = without_row hold_cmp hold_key (hold_of c Tested place) R.holds })

others_taken_all : (c : Id) (places : List (List ℕ)) (holds : List Hold) (d : Id) → same_id c d ≡ false → (kind : HoldKind) (q : List ℕ)
    → has_hold (taken_all c places holds) d kind q ≡ has_hold holds d kind q
unfolding taken_all
others_taken_all c [] holds d differs kind q = refl
others_taken_all c (place ∷ places) holds d differs kind q =
    others_taken_all c places (without_row hold_cmp hold_key (hold_of c Tested place) holds) d differs kind q ∙ others_hold_taken c Tested place holds d differs kind q

-- what the clearance has then
own_taken_all : (c : Id) (places : List (List ℕ)) (holds : List Hold) (kind : HoldKind) (q : List ℕ)
    → has_hold (taken_all c places holds) c kind q ≡ (not (same_kind Tested kind && has_name places q) && has_hold holds c kind q)
unfolding taken_all
own_taken_all c [] holds kind q = at (same_kind Tested kind)
  where
    at : (b : Bool) → has_hold holds c kind q ≡ (not (b && false) && has_hold holds c kind q)
    at true = refl
    at false = refl
own_taken_all c (place ∷ places) holds kind q =
    own_taken_all c places (without_row hold_cmp hold_key (hold_of c Tested place) holds) kind q
    ∙ ap (λ b. not (same_kind Tested kind && has_name places q) && b) (own_taken c Tested place holds kind q)
    ∙ at (same_kind Tested kind) (same_name place q) (has_name places q) (has_hold holds c kind q)
    ∙ ap (λ b. not (same_kind Tested kind && (b || has_name places q)) && has_hold holds c kind q) (nat_list_eq_equiv.symm place q)
  where
    at : (k b m h : Bool) → (not (k && m) && (not (k && b) && h)) ≡ (not (k && (b || m)) && h)
    at true true true h = refl
    at true true false h = refl
    at true false true h = refl
    at true false false h = refl
    at false b m h = refl

-- a test of the clearance is at one of the places
test_placed : (holds : List Hold) (c : Id) (q : List ℕ) → has_hold holds c Tested q ≡ true → has_name (places_of holds c Tested) q ≡ true
unfolding places_of
test_placed holds c q has = has_name-row (λ (h : Hold). h.place) (filter (λ (h : Hold). same_id c h.id && same_kind Tested h.kind) holds) (hold_of c Tested q)
    (Contains-filter (λ (h : Hold). same_id c h.id && same_kind Tested h.kind) holds (hold_of c Tested q) (hold_there holds c Tested q has)
    (and_from (same_id c c) (same_kind Tested Tested) (own_id c) refl))

module _ (R : Register) (good : IsGoodByPhase R) (c : Id) (r : Record) (found : record_of R.records c ≡ Some r) (w : GrantedWork R c r) (at : ℕ)
    (no_crew : has_some_hold R.holds c Crew ≡ false) (no_ground : has_some_hold R.holds c Ground ≡ false) where
  abbrev next : Record
  next = record r { phase = Released; last = at }

  abbrev holds : List Hold
  holds = taken_all c (places_of R.holds c Tested) R.holds

  abbrev released : Register
  released = record R { records = with_row id_cmp record_key next R.records; holds = holds }

  no_work : (kind : HoldKind) (q : List ℕ) → is_point_kind kind ≡ false → has_hold holds c kind q ≡ false
  no_work Tested q off_point = own_taken_all c (places_of R.holds c Tested) R.holds Tested q ∙ none (has_hold R.holds c Tested q) refl
    where
      none : (b : Bool) → has_hold R.holds c Tested q ≡ b → (not (has_name (places_of R.holds c Tested) q) && b) ≡ false
      none true has = rw (test_placed R.holds c q has) refl
      none false has = at_all (not (has_name (places_of R.holds c Tested) q))
        where
          at_all : (a : Bool) → (a && false) ≡ false
          at_all true = refl
          at_all false = refl
  no_work Ground q off_point = own_taken_all c (places_of R.holds c Tested) R.holds Ground q ∙ false_from_ne_true (has_hold R.holds c Ground q) (λ has.
      false≢true (sym no_ground ∙ has_some R.holds c Ground q has))
  no_work Crew q off_point = own_taken_all c (places_of R.holds c Tested) R.holds Crew q ∙ false_from_ne_true (has_hold R.holds c Crew q) (λ has.
      false≢true (sym no_crew ∙ has_some R.holds c Crew q has))
  no_work _ q off_point = absurd (false≢true (sym off_point))

  at_points : (kind : HoldKind) (q : List ℕ) → is_point_kind kind ≡ true → has_hold holds c kind q ≡ has_hold R.holds c kind q
  at_points HeldOpen q at_point = own_taken_all c (places_of R.holds c Tested) R.holds HeldOpen q
  at_points Block q at_point = own_taken_all c (places_of R.holds c Tested) R.holds Block q
  at_points Control q at_point = own_taken_all c (places_of R.holds c Tested) R.holds Control q
  at_points Tag q at_point = own_taken_all c (places_of R.holds c Tested) R.holds Tag q
  at_points _ q at_point = absurd (false≢true at_point)

  in_released : InReleased R.net w.work (outlook_with released c next)
  in_released = let h = w.granted in record {
    isolates = h.isolates;
    one_round = h.one_round;
    none_active = h.none_active;
    as_put = λ kind q at_point. at_points kind q at_point ∙ h.as_put kind q at_point;
    no_work = no_work;
  }

  release_changed : Changed R released c
  release_changed = put_changes R good c r next found unclosed (record_id R.records c r found) refl released refl
      (quiet R released c next good (record {
        same_states = refl;
        point_holds = λ d kind q at_point has. point d kind q at_point has (same_id c d) refl;
        other_holds = λ d differs. others_taken_all c (places_of R.holds c Tested) R.holds d (same_id_equiv.symm c d ∙ differs);
        other_steps = λ d differs. refl;
        own_closing = λ q closing. closing;
        steps_known = good.points_known.steps c r found unclosed;
      }) (record {
        in_turn = (good.in_place c).in_turn;
        hands = (good.in_place c).hands;
        phase = subst (λ (o : Option (List ℕ)). InPhase R.net Released o (outlook_with released c next)) (sym w.has_work) in_released;
      }))
    where
      unclosed : is_open r.phase ≡ true
      unclosed = ap is_open w.is_granted_as

      point : (d : Id) (kind : HoldKind) (q : List ℕ) → is_point_kind kind ≡ true → has_hold holds d kind q ≡ true → (b : Bool) → same_id c d ≡ b → has_hold R.holds d kind q ≡ true
      point d kind q at_point has true is = let one = one_id c d is in rw (← one) (sym (at_points kind q at_point) ∙ (rw (← one) at has))
      point d kind q at_point has false differs = sym (others_taken_all c (places_of R.holds c Tested) R.holds d differs kind q) ∙ has

  abbrev edits : List Edit
  edits = map (λ place. TakeHold (hold_of c Tested place)) (places_of R.holds c Tested) ++ PutRecord next ∷ []

  after_it : after_edits edits R ≡ released
  unfolding after_edits
  after_it = takes_edited c (places_of R.holds c Tested) (PutRecord next ∷ []) R

  pub release_keeps : IsGoodByPhase (after_edits edits R)
  release_keeps = keeps R edits c (takes_plain c (places_of R.holds c Tested) _ refl) good (subst (λ (S : Register). Changed R S c) (sym after_it) release_changed)

pub releases_keep : (c : Id) (notified clear : Bool) → KeepsGood (Release c notified clear)
releases_keep c notified clear = commands_keep (Release c notified clear) (λ R by at good passed.
    let (r, found, fits, rest) = holder_begun R c is_granted passed in
    let w = granted_work R c r good found fits in
    found_edits R c r (λ r. map (λ place. TakeHold (hold_of c Tested place)) (places_of R.holds c Tested) ++ PutRecord (record r { phase = Released; last = at }) ∷ []) found
    (release_keeps R good c r found w at (not_refused (has_some_hold R.holds c Crew) CrewsOn (search rest))
    (not_refused (has_some_hold R.holds c Ground) Grounded (search rest))))
