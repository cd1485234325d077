-- A Granted record is given up by its holder: the crews are signed off, the grounds taken, and it is released.
use Rattle.std.proofs.Common.{◌+◌, ◌≡◌, ℕ, zero, suc, ◌<◌, ◌≤◌, Bool, true, false, cond, not, ◌&&◌, List, [], ◌∷◌, ◌++◌, length, map, filter, Option, Some, None, is_some, Contains, refl, sym, ◌∙◌, ap, subst, arith, ◌⊎◌, inl, inr}
use Rattle.std.specs.Ordering.{is_eq}
use Rattle.std.specs.List.{list_any}
use Rattle.std.proofs.lemmas.Bool.{and_parts, false≢true, false_from_ne_true}
use Rattle.std.proofs.lemmas.Cmp.{tied_itself}
use Rattle.std.proofs.lemmas.List.Elements.{All-contains, filter_passes}
use Rattle.clr_net.proofs.KeptRows.{mapped_from, there_mapped}
use Rattle.clr_net.specs.Name.{same_name}
use Rattle.clr_net.specs.Names.{has_name}
use Rattle.clr_shelf.proofs.Lists.{Contains-cases, Contains-here}
use Rattle.clr_shelf.specs.Rows.{in_key_order, without_row}
use Rattle.clr_rules.specs.Checks.{any_ground, crew_is_off, crews_on, crews_on_work, is_charge, no_ground, not_attested, outside_fence, refuse, where_some}
use Rattle.clr_rules.specs.Fences.{clearance_fence}
use Rattle.clr_rules.specs.Good.{IsGood}
use Rattle.clr_rules.specs.Prelude.{TakeHold, PutRecord, Command, Hold, HoldKind, Tested, Ground, Crew, Phase, Granted, Released, Record, Id, same_id, Register}
use Rattle.clr_rules.specs.Prelude.{position_of, record_of, is_granted, points_of, steps_of, hold_cmp, hold_cmp_total, hold_key, hold_of, has_hold, has_some_hold, places_of, same_kind, after_edits}
use Rattle.clr_rules.specs.Run.{after}
use Rattle.clr_rules.specs.Staffed.{IsStaffed, fits_holder}
use Rattle.clr_rules.specs.laws.Frame.{subject_of}
use Rattle.clr_rules.specs.WayBack.{ask, given_up, moves_in, moves_of, next_moves}
use Rattle.clr_rules.specs.laws.WayBack.{IsMove, sets_position}
use Rattle.clr_rules.specs.declared.command.Kind.TheVariants as kinds
use Rattle.clr_rules.specs.declared.refusal.Refusal.TheVariants.{CrewState, CrewsOn, Grounded, NotGrounded, OutsideFence}
use Rattle.clr_rules.proofs.lists.OpenPhases.{open_where}
use Rattle.clr_rules.proofs.edits.EditReading.{record_of-put}
use Rattle.clr_rules.proofs.good.GoodToPhases.{to_phases}
use Rattle.clr_rules.proofs.good.PutHolds.{kept_there}
use Rattle.clr_rules.proofs.keeps.Release.{taken_all, takes_edited}
use Rattle.clr_rules.proofs.keeps.Work.{GrantedWork, granted_work}
use Rattle.clr_rules.proofs.lists.HoldChanges.{one_kind}
use Rattle.clr_rules.proofs.lists.HoldMembers.{hold_had, hold_there}
use Rattle.clr_rules.proofs.lists.NamedRows.{Contains-filter}
use Rattle.clr_rules.proofs.lists.RoundSteps.{one_id, own_id}
use Rattle.clr_rules.proofs.staffed.EveryKind.{some_found}
use Rattle.clr_rules.proofs.way_back.Accepting.{HasEmployee, Made, employee_of, holder_passes, made, record_edits, is_move}
use Rattle.clr_rules.proofs.way_back.InWork.{both_after, GoodAndStaffed}
use Rattle.clr_rules.proofs.way_back.Releasing.{released_out}
use Rattle.clr_rules.proofs.way_back.Staying.{WayOut, moved_one, stays_after, wider}
use Rattle.clr_rules.proofs.way_back.Undoing.{and_none}

-- ---- the holds of a kind

pub place_held : (holds : List Hold) (c : Id) (kind : HoldKind) (place : List ℕ) → in_key_order hold_cmp hold_key holds ≡ true → Contains (places_of holds c kind) place
    → has_hold holds c kind place ≡ true
unfolding places_of
place_held holds c kind place ordered there =
    let test = λ (h : Hold). same_id c h.id && same_kind kind h.kind in
    let (h, among, named) = mapped_from (λ (h : Hold). h.place) (filter (λ (h : Hold). same_id c h.id && same_kind kind h.kind) holds) place there in
    let passes = All-contains (λ (h : Hold). (same_id c h.id && same_kind kind h.kind) ≡ true) (filter (λ (h : Hold). same_id c h.id && same_kind kind h.kind) holds) h
    (filter_passes (λ (h : Hold). same_id c h.id && same_kind kind h.kind) holds) among in
    let parts = and_parts (same_id c h.id) (same_kind kind h.kind) passes in
    ap (λ (d : Id). has_hold holds d kind place) (one_id c h.id parts.0)
    ∙ ap (λ (k : HoldKind). has_hold holds h.id k place) (one_kind kind h.kind parts.1)
    ∙ ap (has_hold holds h.id h.kind) (sym named)
    ∙ hold_had holds h ordered (kept_there (λ (h : Hold). same_id c h.id && same_kind kind h.kind) holds h among)

none_placed : (holds : List Hold) (c : Id) (kind : HoldKind) → places_of holds c kind ≡ [] → has_some_hold holds c kind ≡ false
unfolding places_of has_some_hold
none_placed holds c kind none = false_from_ne_true (has_some_hold holds c kind) (λ some.
    let (h, there, passes) = some_found (λ (h : Hold). same_id c h.id && same_kind kind h.kind) holds some in
    let placed = there_mapped (λ (h : Hold). h.place) (filter (λ (h : Hold). same_id c h.id && same_kind kind h.kind) holds) h
    (Contains-filter (λ (h : Hold). same_id c h.id && same_kind kind h.kind) holds h there passes) in
    let (k, within, is) = subst (λ (places : List (List ℕ)). Contains places h.place) none placed in
    omega arith)

-- ---- a hold that is taken leaves fewer

pub not_more : {X : Type 0} (f : X → Bool) (xs : List X) → length (filter f xs) ≤ length xs
not_more f [] = omega arith
not_more f (x ∷ xs) = at (f x) refl (not_more f xs)
  where
    at : (b : Bool) → f x ≡ b → length (filter f xs) ≤ length xs → length (filter f (x ∷ xs)) ≤ length (x ∷ xs)
    at true e more = rw e (omega arith)
    at false e more = rw e (omega arith)

fewer : {X : Type 0} (f : X → Bool) (xs : List X) (x : X) → Contains xs x → f x ≡ false → length (filter f xs) < length xs
fewer f [] x there fails = let (k, within, is) = there in absurd (omega arith)
fewer {X = X} f (first ∷ xs) x there fails = at (Contains-cases first x xs there) (fewer f xs x)
  where
    by : (b : Bool) → f first ≡ b → length (filter f xs) < length xs → length (filter f (first ∷ xs)) < length (first ∷ xs)
    by true e less = rw e (omega arith)
    by false e less = rw e (omega arith)

    at : (first ≡ x) ⊎ Contains xs x → (Contains xs x → f x ≡ false → length (filter f xs) < length xs) → length (filter f (first ∷ xs)) < length (first ∷ xs)
    at (inl here) more = let e : f first ≡ false = ap f here ∙ fails in let less = not_more f xs in rw e (omega arith)
    at (inr later) more = by (f first) refl (more later fails)

taken_fewer : (holds : List Hold) (c : Id) (kind : HoldKind) (place : List ℕ) → has_hold holds c kind place ≡ true
    → length (without_row hold_cmp hold_key (hold_of c kind place) holds) < length holds
unfolding without_row
taken_fewer holds c kind place has = fewer (λ (h : Hold). not (is_eq (hold_cmp (hold_key h) (hold_of c kind place)))) holds (hold_of c kind place) (hold_there holds c kind place has)
    (ap (λ o. not (is_eq o)) (tied_itself hold_cmp_total (hold_of c kind place)))

taken_not_more : (holds : List Hold) (c : Id) (kind : HoldKind) (place : List ℕ) → length (without_row hold_cmp hold_key (hold_of c kind place) holds) ≤ length holds
unfolding without_row
taken_not_more holds c kind place = not_more (λ (h : Hold). not (is_eq (hold_cmp (hold_key h) (hold_of c kind place)))) holds

-- ---- what the commands make

-- after holds are taken, and a record is put
pub record TakenWith (R S : Register) (next : Record) (holds : List Hold) : Type 0 where
  pub recorded : record_of S.records next.id ≡ Some next
  pub steps : S.steps ≡ R.steps
  pub positions : (p : List ℕ) → position_of S.states p ≡ position_of R.states p
  pub now : S.holds ≡ holds

put_read : (R : Register) (next : Record) → record_of (Register.records (after_edits (PutRecord next ∷ []) R)) next.id ≡ Some next
unfolding after_edits
put_read R next = record_of-put next next.id R.records ∙ ap (λ b. cond b (Some next) (record_of R.records next.id)) (own_id next.id)

one_taken : (R : Register) (h : Hold) (next : Record) → TakenWith R (after_edits (TakeHold h ∷ PutRecord next ∷ []) R) next (without_row hold_cmp hold_key h R.holds)
unfolding after_edits
one_taken R h next = record {
  recorded = record_of-put next next.id R.records ∙ ap (λ b. cond b (Some next) (record_of R.records next.id)) (own_id next.id);
  steps = refl;
  positions = λ p. refl;
  now = refl;
}

two_taken : (R : Register) (g h : Hold) (next : Record)
    → TakenWith R (after_edits (TakeHold g ∷ TakeHold h ∷ PutRecord next ∷ []) R) next (without_row hold_cmp hold_key h (without_row hold_cmp hold_key g R.holds))
unfolding after_edits
two_taken R g h next = record {
  recorded = record_of-put next next.id R.records ∙ ap (λ b. cond b (Some next) (record_of R.records next.id)) (own_id next.id);
  steps = refl;
  positions = λ p. refl;
  now = refl;
}

put_alone : (R : Register) (next : Record) (holds : List Hold) → TakenWith R (after_edits (PutRecord next ∷ []) (record R { holds = holds })) next holds
unfolding after_edits
put_alone R next holds = record {
  recorded = record_of-put next next.id R.records ∙ ap (λ b. cond b (Some next) (record_of R.records next.id)) (own_id next.id);
  steps = refl;
  positions = λ p. refl;
  now = refl;
}

all_taken : (R : Register) (c : Id) (places : List (List ℕ)) (next : Record)
    → TakenWith R (after_edits (map (λ place. TakeHold (hold_of c Tested place)) places ++ PutRecord next ∷ []) R) next (taken_all c places R.holds)
all_taken R c places next = subst (λ (S : Register). TakenWith R S next (taken_all c places R.holds)) (sym (takes_edited c places (PutRecord next ∷ []) R))
    (put_alone R next (taken_all c places R.holds))

no_position : (c : Id) (places : List (List ℕ)) (next : Record) → list_any sets_position (map (λ place. TakeHold (hold_of c Tested place)) places ++ PutRecord next ∷ []) ≡ false
no_position c [] next = refl
no_position c (place ∷ places) next = no_position c places next

off_work : (holds : List Hold) (c : Id) (section : List ℕ) → has_some_hold holds c Crew ≡ false → (work : Option (List ℕ))
    → where_some work (λ work. refuse (same_name work section && has_some_hold holds c Crew) CrewsOn) ≡ None
off_work holds c section none None = refl
off_work holds c section none (Some work) =
    ap (λ b. refuse (same_name work section && b) CrewsOn) none ∙ ap (λ b. refuse b CrewsOn) (and_none (same_name work section))

module _ (R : Register) (both : GoodAndStaffed R) (r : Record) (found : record_of R.records r.id ≡ Some r) (fits : is_granted r.phase ≡ true) where
  good : IsGood R
  good = GoodAndStaffed.good both

  staffed : IsStaffed R
  staffed = GoodAndStaffed.staffed both

  work : GrantedWork R r.id r
  work = granted_work R r.id r (to_phases R good) found fits

  holder : HasEmployee R r.holder is_charge
  holder =
      let unclosed = open_where is_granted refl r.phase fits in
      let h = employee_of R r.holder (fits_holder r.work) (staffed.holders r.id r found unclosed) in
      record { row = h.row; found = h.found; role = sym (ap (λ (o : Option (List ℕ)). fits_holder o (h.row).role) work.has_work) ∙ h.role }

  moves_are : next_moves R r.id ≡ given_up r (places_of R.holds r.id Crew) (places_of R.holds r.id Ground)
  moves_are = ap (moves_of R) found ∙ by_phase r.phase fits
    where
      by_phase : (phase : Phase) → is_granted phase ≡ true → moves_in R r phase ≡ given_up r (places_of R.holds r.id Crew) (places_of R.holds r.id Ground)
      by_phase Granted h = refl
      by_phase _ h = absurd (false≢true h)

  -- one move more
  module _ (most : ℕ) (at_least : 1281 ≤ most) (more : (S : Register) → GoodAndStaffed S → record_of S.records r.id ≡ Some r → length S.holds < length R.holds → WayOut most S r.id) where
    on_by : (q : Command) (holds : List Hold) → next_moves R r.id ≡ q ∷ [] → IsMove R q → subject_of R q ≡ r.id
        → TakenWith R (after R q) r holds → length holds < length R.holds → WayOut (suc most) R r.id
    on_by q holds are move about taken less = moved_one most R r.id q are move
        (stays_after R good r.id q about taken.positions (λ p of_it. ap (λ steps. has_name (points_of (steps_of steps r.id)) p) (sym taken.steps) ∙ of_it))
        (more (after R q) (both_after R both q) taken.recorded (subst (λ (holds : List Hold). length holds < length R.holds) (sym taken.now) less))

    sign_off : (crew : List ℕ) → has_hold R.holds r.id Crew crew ≡ true → next_moves R r.id ≡ ask r r.holder (kinds.SignOff r.id crew) ∷ [] → WayOut (suc most) R r.id
    sign_off crew has are =
        let q = ask r r.holder (kinds.SignOff r.id crew) in
        let m : Made R q (TakeHold (hold_of r.id Crew crew) ∷ PutRecord r ∷ []) =
        made R q r.id (TakeHold (hold_of r.id Crew crew) ∷ PutRecord r ∷ []) (λ k S by s found. rw found refl) (ap is_some found)
        (holder_passes R r.id r found r.holder is_charge is_granted (crew_is_off R r.id crew ∷ []) holder refl fits (ap (λ b. refuse (not b) CrewState) has, tt))
        (record_edits R r.id r (λ s. TakeHold (hold_of r.id Crew crew) ∷ PutRecord (record s { last = r.last }) ∷ []) found) in
        on_by q (without_row hold_cmp hold_key (hold_of r.id Crew crew) R.holds) are (is_move R q (TakeHold (hold_of r.id Crew crew) ∷ PutRecord r ∷ []) m refl) refl
        (subst (λ (S : Register). TakenWith R S r (without_row hold_cmp hold_key (hold_of r.id Crew crew) R.holds)) (sym m.is_after) (one_taken R (hold_of r.id Crew crew) r))
        (taken_fewer R.holds r.id Crew crew has)

    unground : (section : List ℕ) → has_hold R.holds r.id Ground section ≡ true → has_some_hold R.holds r.id Crew ≡ false
        → next_moves R r.id ≡ ask r r.holder (kinds.Unground r.id section) ∷ [] → WayOut (suc most) R r.id
    unground section has off are =
        let q = ask r r.holder (kinds.Unground r.id section) in
        let holds = without_row hold_cmp hold_key (hold_of r.id Tested section) (without_row hold_cmp hold_key (hold_of r.id Ground section) R.holds) in
        let m : Made R q (TakeHold (hold_of r.id Ground section) ∷ TakeHold (hold_of r.id Tested section) ∷ PutRecord r ∷ []) =
        made R q r.id (TakeHold (hold_of r.id Ground section) ∷ TakeHold (hold_of r.id Tested section) ∷ PutRecord r ∷ []) (λ k S by s found. rw found refl) (ap is_some found)
        (holder_passes R r.id r found r.holder is_charge is_granted (outside_fence (clearance_fence R r.id) section ∷ no_ground R r.id section ∷ crews_on_work R r.id section ∷ []) holder refl fits (
          ap (λ b. refuse (not b) OutsideFence) (good.said.work_holds_belong.grounded_inside r.id section has),
          (
            ap (λ b. refuse (not b) NotGrounded) has,
            (ap (λ o. where_some o (λ (s : Record). where_some s.work (λ work. refuse (same_name work section && has_some_hold R.holds r.id Crew) CrewsOn))) found ∙ off_work R.holds r.id section off r.work, tt),
          ),
        ))
        (record_edits R r.id r (λ s. TakeHold (hold_of r.id Ground section) ∷ TakeHold (hold_of r.id Tested section) ∷ PutRecord (record s { last = r.last }) ∷ []) found) in
        on_by q holds are (is_move R q (TakeHold (hold_of r.id Ground section) ∷ TakeHold (hold_of r.id Tested section) ∷ PutRecord r ∷ []) m refl) refl
        (subst (λ (S : Register). TakenWith R S r holds) (sym m.is_after) (two_taken R (hold_of r.id Ground section) (hold_of r.id Tested section) r))
        (let less = taken_fewer R.holds r.id Ground section has in
        let no_more = taken_not_more (without_row hold_cmp hold_key (hold_of r.id Ground section) R.holds) r.id Tested section in omega arith)

    release : has_some_hold R.holds r.id Crew ≡ false → has_some_hold R.holds r.id Ground ≡ false → next_moves R r.id ≡ ask r r.holder (kinds.Release r.id true true) ∷ [] → WayOut (suc most) R r.id
    release off clear are =
        let q = ask r r.holder (kinds.Release r.id true true) in
        let next = record r { phase = Released } in
        let holds = taken_all r.id (places_of R.holds r.id Tested) R.holds in
        let edits = map (λ place. TakeHold (hold_of r.id Tested place)) (places_of R.holds r.id Tested) ++ PutRecord (record r { phase = Released }) ∷ [] in
        let m : Made R q edits =
        made R q r.id edits (λ k S by s found. rw found refl) (ap is_some found)
        (holder_passes R r.id r found r.holder is_charge is_granted (crews_on R r.id ∷ any_ground R r.id ∷ not_attested true true ∷ []) holder refl fits
        (ap (λ b. refuse b CrewsOn) off, (ap (λ b. refuse b Grounded) clear, (refl, tt))))
        (record_edits R r.id r (λ s. map (λ place. TakeHold (hold_of r.id Tested place)) (places_of R.holds r.id Tested) ++ PutRecord (record s { phase = Released; last = r.last }) ∷ []) found) in
        let taken : TakenWith R (after R q) (record r { phase = Released }) holds =
        subst (λ (S : Register). TakenWith R S (record r { phase = Released }) holds) (sym m.is_after) (all_taken R r.id (places_of R.holds r.id Tested) (record r { phase = Released })) in
        moved_one most R r.id q are (is_move R q edits m (no_position r.id (places_of R.holds r.id Tested) (record r { phase = Released })))
        (stays_after R good r.id q refl taken.positions (λ p of_it. ap (λ steps. has_name (points_of (steps_of steps r.id)) p) (sym taken.steps) ∙ of_it))
        (wider 1281 most at_least (after R q) r.id (released_out (after R q) (both_after R both q) (record r { phase = Released }) taken.recorded refl))

    given_up_one : WayOut (suc most) R r.id
    given_up_one = by (places_of R.holds r.id Crew) refl (places_of R.holds r.id Ground) refl
      where
        by : (crews : List (List ℕ)) → places_of R.holds r.id Crew ≡ crews → (grounds : List (List ℕ)) → places_of R.holds r.id Ground ≡ grounds → WayOut (suc most) R r.id
        by (crew ∷ crews) e grounds f = sign_off crew
            (place_held R.holds r.id Crew crew good.said.in_order.holds (subst (λ (places : List (List ℕ)). Contains places crew) (sym e) (Contains-here crew crews)))
            (moves_are ∙ ap (λ crews. given_up r crews (places_of R.holds r.id Ground)) e)
        by [] e (section ∷ grounds) f = unground section
            (place_held R.holds r.id Ground section good.said.in_order.holds (subst (λ (places : List (List ℕ)). Contains places section) (sym f) (Contains-here section grounds)))
            (none_placed R.holds r.id Crew e) (moves_are ∙ ap (λ crews. given_up r crews (places_of R.holds r.id Ground)) e ∙ ap (given_up r []) f)
        by [] e [] f = release (none_placed R.holds r.id Crew e) (none_placed R.holds r.id Ground f)
            (moves_are ∙ ap (λ crews. given_up r crews (places_of R.holds r.id Ground)) e ∙ ap (given_up r []) f)

go_out : (n : ℕ) (R : Register) → GoodAndStaffed R → (r : Record) → record_of R.records r.id ≡ Some r → is_granted r.phase ≡ true → length R.holds ≤ n → WayOut (1282 + n) R r.id
go_out zero R both r found fits most = given_up_one R both r found fits 1281 (omega arith) (λ S again read less. absurd (omega arith))
go_out (suc n) R both r found fits most = wider (suc (1282 + n)) (1282 + suc n) (omega arith) R r.id
    (given_up_one R both r found fits (1282 + n) (omega arith) (λ S again read less. go_out n S again r read fits (omega arith)))

-- A GRANTED RECORD goes out
pub granted_out : (R : Register) → GoodAndStaffed R → (r : Record) → record_of R.records r.id ≡ Some r → is_granted r.phase ≡ true → WayOut (1282 + length R.holds) R r.id
granted_out R both r found fits = go_out (length R.holds) R both r found fits (omega arith)
