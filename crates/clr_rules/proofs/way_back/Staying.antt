-- What stays of other clearances on the way back, and how its moves follow one another.
use Rattle.std.proofs.Common.{◌≤◌, arith, ◌≡◌, ℕ, zero, suc, Bool, true, false, List, [], ◌∷◌, ◌++◌, Some, None, refl, sym, ◌∙◌, ap, subst, inl, inr}
use Rattle.std.specs.List.{AllByRecursion}
use Rattle.std.proofs.lemmas.Bool.{false≢true}
use Rattle.clr_order.specs.declared.step.StepState.TheVariants.{Waiting}
use Rattle.clr_rules.specs.Changes.{step_moved}
use Rattle.clr_rules.specs.Good.{IsGood}
use Rattle.clr_rules.specs.GoodByPhase.{Outlook, outlook_of}
use Rattle.clr_rules.specs.laws.Frame.{subject_of}
use Rattle.clr_rules.specs.Prelude.{Closed, Phase}
use Rattle.clr_rules.specs.Prelude.{Edit, SetPosition, SetHand, AddPoint, Command, Record, StepRow, Id, same_id, Register}
use Rattle.clr_rules.specs.Prelude.{position_of, record_of, is_active, steps_of, after_edit, after_edits}
use Rattle.clr_rules.specs.Records.{is_closed}
use Rattle.clr_rules.specs.Run.{after, after_all}
use Rattle.clr_rules.specs.WayBack.{moves_in, moves_of, next_moves, turns}
use Rattle.clr_rules.specs.laws.WayBack.{AllBack, AreMoves, ClosesAlone, IsBack, IsMove, StaysBut, is_point_of}
use Rattle.clr_rules.proofs.edits.Runs.{runs_go_on}
use Rattle.clr_rules.proofs.isolation.OthersEdits.{one_outlook_changes}
use Rattle.clr_rules.proofs.lists.StateFacts.{position_of-handed}

-- ---- steps that are as they were, or wait again

pub all_stay : (among : List ℕ → Bool) (rows : List StepRow) → AllBack among rows rows
unfolding AllBack
all_stay among [] = tt
all_stay among (row ∷ rows) = (inl refl, all_stay among rows)

pub stay_by : (among : List ℕ → Bool) (rows nows : List StepRow) → nows ≡ rows → AllBack among rows nows
stay_by among rows nows same = subst (AllBack among rows) (sym same) (all_stay among rows)

back_then : (first second : List ℕ → Bool) → ((p : List ℕ) → second p ≡ true → first p ≡ true) → (row now later : StepRow) → IsBack first row now → IsBack second now later
    → IsBack first row later
back_then first second within row now later (inl same) (inl more) = inl (more ∙ same)
back_then first second within row now later (inl same) (inr back) = inr (
  ap (λ (row : StepRow). is_active row.step.state) (sym same) ∙ back.0,
  within row.step.point (ap (λ (row : StepRow). second row.step.point) (sym same) ∙ back.1),
  back.2 ∙ ap (step_moved Waiting None) same,
)
back_then first second within row now later (inr back) (inl more) = inr (back.0, back.1, more ∙ back.2)
back_then first second within row now later (inr back) (inr again) =
    absurd (false≢true (ap (λ (row : StepRow). is_active row.step.state) (sym back.2) ∙ again.0))

pub all_back_then : (first second : List ℕ → Bool) → ((p : List ℕ) → second p ≡ true → first p ≡ true) → (rows nows laters : List StepRow)
    → AllBack first rows nows → AllBack second nows laters → AllBack first rows laters
unfolding AllBack
all_back_then first second within [] [] [] h k = tt
all_back_then first second within (row ∷ rows) (now ∷ nows) (later ∷ laters) h k =
    (back_then first second within row now later h.0 k.0, all_back_then first second within rows nows laters h.1 k.1)
all_back_then first second within [] [] (later ∷ laters) h k = absurd k
all_back_then first second within [] (now ∷ nows) laters h k = absurd h
all_back_then first second within (row ∷ rows) [] laters h k = absurd h
all_back_then first second within (row ∷ rows) (now ∷ nows) [] h k = absurd k

-- ---- registers on the way

-- the second register is the first but for the clearance, and for steps at its points
pub record Stays (c : Id) (R S : Register) : Type 0 where
  pub positions : (p : List ℕ) → position_of S.states p ≡ position_of R.states p
  pub others : (d : Id) → same_id d c ≡ false → StaysBut (is_point_of R c) R S d
  pub points : (p : List ℕ) → is_point_of S c p ≡ true → is_point_of R c p ≡ true

pub stays_itself : (c : Id) (R : Register) → Stays c R R
stays_itself c R = record {
  positions = λ p. refl;
  others = λ d differs. record { same_record = refl; same_holds = λ kind place. refl; steps = all_stay (is_point_of R c) (steps_of R.steps d) };
  points = λ p of_it. of_it;
}

pub stays_then : (c : Id) (R S T : Register) → Stays c R S → Stays c S T → Stays c R T
stays_then c R S T h k = record {
  positions = λ p. k.positions p ∙ h.positions p;
  others = λ d differs. let a = h.others d differs in let b = k.others d differs in record {
    same_record = b.same_record ∙ a.same_record;
    same_holds = λ kind place. b.same_holds kind place ∙ a.same_holds kind place;
    steps = all_back_then (is_point_of R c) (is_point_of S c) h.points (steps_of R.steps d) (steps_of S.steps d) (steps_of T.steps d) a.steps b.steps;
  };
  points = λ p of_it. h.points p (k.points p of_it);
}

-- what another has stays, where the register has the same of it
pub stays_as : (among : List ℕ → Bool) (R S : Register) (d : Id) → outlook_of S d ≡ outlook_of R d → StaysBut among R S d
stays_as among R S d same = record {
  same_record = ap (λ (v : Outlook). v.clearance) same;
  same_holds = λ kind place. ap (λ (v : Outlook). v.has kind place) same;
  steps = stay_by among (steps_of R.steps d) (steps_of S.steps d) (ap (λ (v : Outlook). v.steps) same);
}

-- ---- positions

-- an edit sets no position
abbrev pub SetsNone : Edit → Type 0
SetsNone (SetPosition p position) = ⊥
SetsNone (AddPoint p) = ⊥
SetsNone _ = Unit {0}

none_set : (edit : Edit) (R : Register) → SetsNone edit → (p : List ℕ) → position_of (Register.states (after_edit edit R)) p ≡ position_of R.states p
none_set (SetPosition q position) R none p = absurd none
none_set (AddPoint q) R none p = absurd none
none_set (SetHand q hand) R none p = position_of-handed R.states q hand p
none_set _ R none p = refl

pub none_are_set : (edits : List Edit) (R : Register) → AllByRecursion SetsNone edits → (p : List ℕ) → position_of (Register.states (after_edits edits R)) p ≡ position_of R.states p
unfolding after_edits
none_are_set [] R none p = refl
none_are_set (edit ∷ edits) R none p = none_are_set edits (after_edit edit R) none.1 p ∙ none_set edit R none.0 p

-- ---- one command about the clearance

pub others_stay : (R : Register) → IsGood R → (c : Id) (q : Command) → subject_of R q ≡ c → (d : Id) → same_id d c ≡ false → outlook_of (after R q) d ≡ outlook_of R d
others_stay R good c q about d differs = one_outlook_changes R d q good.said.in_order (λ _. good.said.hand_matches_step) (λ _. good.besides.points_known)
    (ap (same_id d) about ∙ differs)

pub stays_after : (R : Register) → IsGood R → (c : Id) (q : Command) → subject_of R q ≡ c → ((p : List ℕ) → position_of (Register.states (after R q)) p ≡ position_of R.states p)
    → ((p : List ℕ) → is_point_of (after R q) c p ≡ true → is_point_of R c p ≡ true) → Stays c R (after R q)
stays_after R good c q about positions points = record {
  positions = positions;
  others = λ d differs. stays_as (is_point_of R c) R (after R q) d (others_stay R good c q about d differs);
  points = points;
}

-- ---- turn after turn

moves_then : (R : Register) (first later : List Command) → AreMoves R first → AreMoves (after_all R first) later → AreMoves R (first ++ later)
unfolding AreMoves after_all
moves_then R [] later h k = k
moves_then R (q ∷ first) later h k = (h.0, moves_then (after R q) first later h.1 k)

-- commands close the record, and the rest stays
pub record Closes (R : Register) (c : Id) (commands : List Command) : Type 0 where
  pub moves : AreMoves R commands
  pub now : Record
  pub recorded : record_of (Register.records (after_all R commands)) c ≡ Some now
  pub closed : is_closed now.phase ≡ true
  pub stays : Stays c R (after_all R commands)

-- A WAY OUT: a number of turns within a bound closes the record
abbrev pub WayOut : ℕ → Register → Id → Type 0
WayOut most R c = (n : ℕ) × (n ≤ most) × Closes R c (turns n R c)

pub wider : (most more : ℕ) → most ≤ more → (R : Register) (c : Id) → WayOut most R c → WayOut more R c
wider most more fits R c (n, within, out) = (n, omega arith, out)

pub moved_on : (most : ℕ) (R : Register) (c : Id) (commands : List Command) → next_moves R c ≡ commands → AreMoves R commands → Stays c R (after_all R commands)
    → WayOut most (after_all R commands) c → WayOut (suc most) R c
unfolding turns
moved_on most R c commands are moves stays (n, within, out) = (
  suc n,
  omega arith,
  subst (λ (first : List Command). Closes R c (first ++ turns n (after_all R first) c)) (sym are) (record {
    moves = moves_then R commands (turns n (after_all R commands) c) moves out.moves;
    now = out.now;
    recorded = subst (λ (S : Register). record_of S.records c ≡ Some out.now) (sym together) out.recorded;
    closed = out.closed;
    stays = subst (Stays c R) (sym together) (stays_then c R (after_all R commands) (after_all (after_all R commands) (turns n (after_all R commands) c)) stays out.stays);
  }),
)
  where
    together : after_all R (commands ++ turns n (after_all R commands) c) ≡ after_all (after_all R commands) (turns n (after_all R commands) c)
    together = (runs_go_on R commands (turns n (after_all R commands) c)).register

pub is_out : (most : ℕ) (R : Register) (c : Id) (r : Record) → record_of R.records c ≡ Some r → is_closed r.phase ≡ true → WayOut most R c
unfolding turns AreMoves after_all
is_out most R c r found closed = (zero, omega arith, record { moves = tt; now = r; recorded = found; closed = closed; stays = stays_itself c R })

-- ---- enough turns

-- a Closed record has no next moves
none_next : (R : Register) (c : Id) (r : Record) → record_of R.records c ≡ Some r → is_closed r.phase ≡ true → next_moves R c ≡ []
none_next R c r found closed = ap (moves_of R) found ∙ by_phase r.phase closed
  where
    by_phase : (phase : Phase) → is_closed phase ≡ true → moves_in R r phase ≡ []
    by_phase Closed h = refl
    by_phase _ h = absurd (false≢true h)

none_more : (n : ℕ) (R : Register) (c : Id) (r : Record) → record_of R.records c ≡ Some r → is_closed r.phase ≡ true → turns n R c ≡ []
unfolding turns after_all
none_more zero R c r found closed = refl
none_more (suc n) R c r found closed =
    ap (λ (first : List Command). first ++ turns n (after_all R first) c) (none_next R c r found closed) ∙ none_more n R c r found closed

-- more turns add no command, once the record is Closed
more_turns : (n m : ℕ) → n ≤ m → (R : Register) (c : Id) (r : Record) → record_of (Register.records (after_all R (turns n R c))) c ≡ Some r → is_closed r.phase ≡ true
    → turns m R c ≡ turns n R c
unfolding turns after_all
more_turns zero m less R c r found closed = none_more m R c r found closed
more_turns (suc n) zero less R c r found closed = absurd (omega arith)
more_turns (suc n) (suc m) less R c r found closed =
    let first = next_moves R c in
    ap (λ (later : List Command). first ++ later) (more_turns n m (omega arith) (after_all R first) c r
    (sym (ap (λ (S : Register). record_of S.records c) (runs_go_on R first (turns n (after_all R first) c)).register) ∙ found) closed)

pub enough : (most : ℕ) (R : Register) (c : Id) → WayOut most R c → Closes R c (turns most R c)
enough most R c (n, within, out) = subst (Closes R c) (sym (more_turns n most within R c out.now out.recorded out.closed)) out

pub closes_alone : (R : Register) (c : Id) (commands : List Command) → Closes R c commands → ClosesAlone R c commands
closes_alone R c commands h = record {
  moves = h.moves;
  now = h.now;
  recorded = h.recorded;
  closed = h.closed;
  positions = h.stays.positions;
  others = h.stays.others;
}

-- ---- a turn of one command, and of two

one_move : (R : Register) (q : Command) → IsMove R q → AreMoves R (q ∷ [])
unfolding AreMoves
one_move R q h = (h, tt)

pub after_one : (R : Register) (q : Command) → after_all R (q ∷ []) ≡ after R q
unfolding after_all
after_one R q = refl

two_moves : (R : Register) (q p : Command) → IsMove R q → IsMove (after R q) p → AreMoves R (q ∷ p ∷ [])
unfolding AreMoves
two_moves R q p h k = (h, (k, tt))

after_two : (R : Register) (q p : Command) → after_all R (q ∷ p ∷ []) ≡ after (after R q) p
unfolding after_all
after_two R q p = refl

pub moved_one : (most : ℕ) (R : Register) (c : Id) (q : Command) → next_moves R c ≡ q ∷ [] → IsMove R q → Stays c R (after R q)
    → WayOut most (after R q) c → WayOut (suc most) R c
moved_one most R c q are move stays out = moved_on most R c (q ∷ []) are (one_move R q move) (subst (Stays c R) (sym (after_one R q)) stays)
    (subst (λ (S : Register). WayOut most S c) (sym (after_one R q)) out)

pub moved_two : (most : ℕ) (R : Register) (c : Id) (q p : Command) → next_moves R c ≡ q ∷ p ∷ [] → IsMove R q → IsMove (after R q) p → Stays c R (after (after R q) p)
    → WayOut most (after (after R q) p) c → WayOut (suc most) R c
moved_two most R c q p are first second stays out = moved_on most R c (q ∷ p ∷ []) are (two_moves R q p first second) (subst (Stays c R) (sym (after_two R q p)) stays)
    (subst (λ (S : Register). WayOut most S c) (sym (after_two R q p)) out)
