-- A walk along the way back: the commands so far, and the register after them.
use Rattle.std.proofs.Common.{◌≡◌, ◌∙◌, ◌++◌, ◌+◌, ◌-◌, ◌<◌, ◌&&◌, ℕ, Bool, true, false, List, [], ◌∷◌, Some, None, refl, ap, sym, subst, suc, append_assoc, arith, zero}
use Rattle.std.specs.List.{list_any}
use Rattle.std.proofs.lemmas.List.{append-nil}
use Rattle.clr_rules.proofs.edits.Runs.{runs_go_on}
use Rattle.clr_rules.specs.Answer.{Answer, answer}
use Rattle.clr_rules.specs.Checks.{employee}
use Rattle.clr_rules.specs.Id.{Id}
use Rattle.clr_rules.specs.Register.{Register}
use Rattle.clr_rules.specs.Run.{after, after_all}
use Rattle.clr_rules.specs.WayBack.{next_moves, turns}
use Rattle.clr_rules.specs.declared.command.Command.{Command}
use Rattle.clr_rules.specs.laws.WayBack.{is_accepted}
use Rattle.clr_staff.specs.declared.employee.StaffRow.{StaffRow}
use Rattle.clr_wayback.proofs.Callers.{by_nobody_refused, staff_goes_on}
use Rattle.clr_rules.specs.Command.{named_clearance}
use Rattle.clr_wayback.proofs.LackingMoves.{next_name, same_moves}
use Rattle.clr_wayback.specs.Answer.{are_accepted, given, is_by_nobody, tried}
use Rattle.clr_wayback.specs.Open.{AllNameAnother, LacksOnly, NamesAnother}

-- somebody gives each command
pub given_all : (commands given_ones : List Command) → Some given_ones ≡ given commands → (given_ones ≡ commands) × (list_any is_by_nobody commands ≡ false)
given_all commands given_ones is = at (list_any is_by_nobody commands) refl
  where
    at : (b : Bool) → list_any is_by_nobody commands ≡ b → (given_ones ≡ commands) × (list_any is_by_nobody commands ≡ false)
    at true e = let none = rw e at is in absurd (cc)
    at false e = let some = rw e at is in (cc, e)

-- or nobody gives one of them
pub given_none : (commands : List Command) → None ≡ given commands → list_any is_by_nobody commands ≡ true
given_none commands is = at (list_any is_by_nobody commands) refl
  where
    at : (b : Bool) → list_any is_by_nobody commands ≡ b → list_any is_by_nobody commands ≡ true
    at true e = e
    at false e = let some = rw e at is in absurd (cc)

-- where nothing is to be done, no later turn has a command
pub turns_end : (n : ℕ) (R : Register) (c : Id) → next_moves R c ≡ [] → turns n R c ≡ []
unfolding turns after_all
turns_end zero R c done = refl
turns_end (suc n) R c done = rw (done) (turns_end n R c done)

-- whether all are accepted, by parts
pub accepted-append : (R : Register) (earlier later : List Command)
    → are_accepted R (earlier ++ later) ≡ (are_accepted R earlier && are_accepted (after_all R earlier) later)
unfolding are_accepted after_all
accepted-append R [] later = refl
accepted-append R (q ∷ earlier) later =
    ap (λ b. is_accepted (Answer.reply (answer R q)) && b) (accepted-append (after R q) earlier later)
    ∙ and-assoc (is_accepted (Answer.reply (answer R q))) (are_accepted (after R q) earlier) (are_accepted (after_all (after R q) earlier) later)
  where
    and-assoc : (a b c : Bool) → (a && (b && c)) ≡ ((a && b) && c)
    and-assoc true b c = refl
    and-assoc false b c = refl

-- k turns of n are walked: each of the commands so far was accepted, and with those of the turns
-- that are left they are all; the book's register is the one after them, but for what is closed
pub record Walked (gone : Id → Bool) (R S : Register) (c : Id) (n k : ℕ) (commands : List Command) : Type 0 where
  pub lacks : LacksOnly gone (after_all R commands) S
  pub accepted : are_accepted R commands ≡ true
  pub all : commands ++ turns (n - k) (after_all R commands) c ≡ turns n R c

pub walk_begins : (gone : Id → Bool) (R S : Register) (c : Id) (n : ℕ) → LacksOnly gone R S → Walked gone R S c n 0 []
unfolding are_accepted after_all
walk_begins gone R S c n lacks = record {
  lacks = lacks;
  accepted = refl;
  all = let same : n - 0 ≡ n = omega arith in ap (λ m. turns m R c) same;
}

whole_is_tried : (R : Register) (commands whole : List Command) → are_accepted R commands ≡ true → commands ≡ whole → Some commands ≡ tried R whole
whole_is_tried R commands whole accepted is = rw accepted refl ∙ ap (tried R) is

-- a turn more
turn_more : (T : Register) (c : Id) (n k : ℕ) → k < n → turns (n - k) T c ≡ next_moves T c ++ turns (n - (k + 1)) (after_all T (next_moves T c)) c
unfolding turns
turn_more T c n k within = let next : n - k ≡ suc (n - (k + 1)) = omega (arith, within) in rw next refl

module _ (gone : Id → Bool) (R S : Register) (c : Id) (n k : ℕ) (commands : List Command) (w : Walked gone R S c n k commands) where
  abbrev T : Register
  T = after_all R commands

  pub walk_ends : k ≡ n → Some commands ≡ tried R (turns n R c)
  unfolding turns
  walk_ends last =
      let none : n - k ≡ 0 = omega (arith, last) in
      whole_is_tried R commands (turns n R c) w.accepted (sym (append-nil commands) ∙ ap (λ m. commands ++ turns m T c) (sym none) ∙ w.all)

  module _ (kept : gone c ≡ false) where
    pub walk_is_done : next_moves S c ≡ [] → Some commands ≡ tried R (turns n R c)
    walk_is_done done =
        let none : next_moves T c ≡ [] = sym (same_moves gone T S w.lacks c kept) ∙ done in
        whole_is_tried R commands (turns n R c) w.accepted (sym (append-nil commands) ∙ ap (λ more. commands ++ more) (sym (turns_end (n - k) T c none)) ∙ w.all)

    -- the next commands name a clearance that is not lacking
    pub moves_are_named : (moves : List Command) → Some moves ≡ given (next_moves S c) → AllNameAnother gone moves
    moves_are_named moves is =
        subst (AllNameAnother gone) (sym ((given_all (next_moves S c) moves is).0 ∙ same_moves gone T S w.lacks c kept)) (next_name gone T S w.lacks c kept)

    pub walk_goes_on : (later : Register) (moves : List Command) → k < n → Some moves ≡ given (next_moves S c) → are_accepted T moves ≡ true
        → LacksOnly gone (after_all T moves) later → Walked gone R later c n (k + 1) (commands ++ moves)
    walk_goes_on later moves within is accepted lacks =
        let all_moves : moves ≡ next_moves T c = (given_all (next_moves S c) moves is).0 ∙ same_moves gone T S w.lacks c kept in
        let on : after_all R (commands ++ moves) ≡ after_all T moves = (runs_go_on R commands moves).register in
        record {
          lacks = subst (λ (X : Register). LacksOnly gone X later) (sym on) lacks;
          accepted = accepted-append R commands moves ∙ rw (w.accepted, accepted) refl;
          all = ap (λ (X : Register). (commands ++ moves) ++ turns (n - (k + 1)) X c) on
              ∙ append_assoc commands moves (turns (n - (k + 1)) (after_all T moves) c)
              ∙ ap (λ (some : List Command). commands ++ (some ++ turns (n - (k + 1)) (after_all T some) c)) all_moves
              ∙ ap (λ more. commands ++ more) (sym (turn_more T c n k within))
              ∙ w.all;
        }

    -- where one of the next commands is refused, one of all is
    refused_among : k < n → are_accepted T (next_moves T c) ≡ false → None ≡ tried R (turns n R c)
    refused_among within refused =
        let rest = turns (n - (k + 1)) (after_all T (next_moves T c)) c in
        let here : are_accepted T (next_moves T c ++ rest) ≡ false =
        accepted-append T (next_moves T c) rest ∙ ap (λ b. b && are_accepted (after_all T (next_moves T c)) rest) refused in
        let none : are_accepted R (turns n R c) ≡ false =
        ap (are_accepted R) (sym (sym (ap (λ more. commands ++ more) (turn_more T c n k within)) ∙ w.all))
        ∙ accepted-append R commands (next_moves T c ++ rest) ∙ rw (w.accepted) here in
        rw none refl

    pub walk_is_refused : (moves : List Command) → k < n → Some moves ≡ given (next_moves S c) → are_accepted T moves ≡ false → None ≡ tried R (turns n R c)
    walk_is_refused moves within is refused =
        let all_moves : moves ≡ next_moves T c = (given_all (next_moves S c) moves is).0 ∙ same_moves gone T S w.lacks c kept in
        refused_among within (ap (are_accepted T) (sym all_moves) ∙ refused)

    -- nobody gives one of the next commands, and so it is refused
    pub walk_is_nobodys : employee R.staff [] ≡ None → k < n → None ≡ given (next_moves S c) → None ≡ tried R (turns n R c)
    walk_is_nobodys nameless within is =
        let none : employee (Register.staff T) [] ≡ None = ap (λ (rows : List StaffRow). employee rows []) (staff_goes_on R commands) ∙ nameless in
        refused_among within (by_nobody_refused T (next_moves T c) none
        (ap (list_any is_by_nobody) (sym (same_moves gone T S w.lacks c kept)) ∙ given_none (next_moves S c) is))

-- ---- commands that are carried out one after the other

-- some of them are left: in the book's register they lead where all do, and are all accepted where all are
pub record Left (gone : Id → Bool) (R : Register) (commands : List Command) (S : Register) (left : List Command) : Type 0 where
  pub now : Register
  pub lacks : LacksOnly gone now S
  pub names : AllNameAnother gone left
  pub leads : after_all now left ≡ after_all R commands
  pub accepted : are_accepted now left ≡ are_accepted R commands

pub all_are_left : (gone : Id → Bool) (R S : Register) (commands : List Command) → LacksOnly gone R S → AllNameAnother gone commands → Left gone R commands S commands
all_are_left gone R S commands lacks names = record { now = R; lacks = lacks; names = names; leads = refl; accepted = refl }

module _ (gone : Id → Bool) (R : Register) (commands : List Command) (S : Register) (q : Command) (rest : List Command) (some : Left gone R commands S (q ∷ rest)) where
  pub first_named : NamesAnother gone (named_clearance q.kind)
  unfolding AllNameAnother
  first_named = (some.names).0

  pub rest_is_left : (later : Register) → is_accepted (Answer.reply (answer some.now q)) ≡ true → LacksOnly gone (after some.now q) later → Left gone R commands later rest
  unfolding AllNameAnother after_all are_accepted
  rest_is_left later accepted lacks = record {
    now = after some.now q;
    lacks = lacks;
    names = (some.names).1;
    leads = some.leads;
    accepted = sym (ap (λ b. b && are_accepted (after some.now q) rest) accepted) ∙ some.accepted;
  }

  pub first_is_refused : is_accepted (Answer.reply (answer some.now q)) ≡ false → are_accepted R commands ≡ false
  unfolding are_accepted
  first_is_refused refused = sym some.accepted ∙ ap (λ b. b && are_accepted (after some.now q) rest) refused

pub none_is_left : (gone : Id → Bool) (R : Register) (commands : List Command) (S : Register) → Left gone R commands S []
    → (are_accepted R commands ≡ true) × LacksOnly gone (after_all R commands) S
unfolding are_accepted after_all
none_is_left gone R commands S some = (sym some.accepted, subst (λ (X : Register). LacksOnly gone X S) some.leads some.lacks)
