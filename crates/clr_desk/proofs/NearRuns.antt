-- A run of any register, one command after the other.
use Rattle.std.proofs.Common.{◌≡◌, ◌∙◌, ◌+◌, ◌<◌, ℕ, Bool, List, [], ◌∷◌, ◌++◌, get_or, length, take, true, false, refl, sym, ap, subst}
use Rattle.std.specs.Prelude.{◌||◌}
use Rattle.std.specs.List.{list_any}
use Rattle.std.proofs.lemmas.List.{take_more}
use Rattle.clr_net.specs.Grid.{Grid}
use Rattle.clr_rules.specs.Answer.{Answer}
use Rattle.clr_rules.specs.Register.{Register}
use Rattle.clr_rules.specs.RunHeadline.{with_reply}
use Rattle.clr_rules.specs.declared.command.Command.{Command}
use Rattle.clr_rules.specs.declared.reply.Reply.{Reply}
use Rattle.clr_book.specs.Own.{asked_answer}
use Rattle.clr_desk.specs.Asking.{near_after, near_network}
use Rattle.clr_desk.specs.NearRun.{IsNearRun, near_after_all, near_network_all, near_replies}

after_all-append : (R : Register) (earlier : List Command) (q : Command)
    → near_after_all R (earlier ++ q ∷ []) ≡ near_after (near_after_all R earlier) q
unfolding near_after_all
after_all-append R [] q = refl
after_all-append R (p ∷ earlier) q = after_all-append (near_after R p) earlier q

replies-append : (R : Register) (earlier : List Command) (q : Command)
    → near_replies R (earlier ++ q ∷ []) ≡ near_replies R earlier ++ Answer.reply (asked_answer (near_after_all R earlier) q) ∷ []
unfolding near_replies near_after_all
replies-append R [] q = refl
replies-append R (p ∷ earlier) q = ap (λ rest. Answer.reply (asked_answer R p) ∷ rest) (replies-append (near_after R p) earlier q)

pub near_run_of_none : (R : Register) (done : List Command) (told : List Reply) → done ≡ [] → told ≡ [] → IsNearRun R done told R
unfolding near_replies near_after_all
near_run_of_none R done told none no_reply = record {
  replied = no_reply ∙ ap (near_replies R) (sym none);
  register = ap (near_after_all R) (sym none);
}

near_run_of_more : (R X Y : Register) (done : List Command) (q : Command) (told : List Reply) (reply : Reply) → IsNearRun R done told X
    → reply ≡ Answer.reply (asked_answer X q) → Y ≡ near_after X q → IsNearRun R (done ++ q ∷ []) (told ++ reply ∷ []) Y
near_run_of_more R X Y done q told reply run is left = record {
  replied = (λ i. run.replied i ++ is i ∷ []) ∙ ap (λ (Z : Register). near_replies R done ++ Answer.reply (asked_answer Z q) ∷ []) run.register
      ∙ sym (replies-append R done q);
  register = left ∙ ap (λ (Z : Register). near_after Z q) run.register ∙ sym (after_all-append R done q);
}

-- the command at a place, after those before it
pub near_run_of_next : (R X Y : Register) (commands : List Command) (i : ℕ) (q : Command) (told more : List Reply) (reply : Reply) → i < length commands
    → q ≡ get_or commands i q → more ≡ told ++ reply ∷ [] → IsNearRun R (take i commands) told X → reply ≡ Answer.reply (asked_answer X q)
    → Y ≡ near_after X q → IsNearRun R (take (i + 1) commands) more Y
near_run_of_next R X Y commands i q told more reply within at grown run is left =
    let split : take i commands ++ q ∷ [] ≡ take (i + 1) commands =
    ap (λ (p : Command). take i commands ++ p ∷ []) at ∙ sym (take_more commands i q within) in
    subst (λ (l : List Reply). IsNearRun R (take (i + 1) commands) l Y) (sym grown)
    (subst (λ (l : List Command). IsNearRun R l (told ++ reply ∷ []) Y) split (near_run_of_more R X Y (take i commands) q told reply run is left))

-- the commands with a reply are those up to a place
pub near_ran_so_far : (R X : Register) (commands : List Command) (told : List Reply) (i : ℕ) → length told ≡ i → IsNearRun R (take i commands) told X
    → IsNearRun R (with_reply commands told) told X
near_ran_so_far R X commands told i counted run = subst (λ (n : ℕ). IsNearRun R (take n commands) told X) (sym counted) run

-- ---- the network

networks-append : (R : Register) (earlier : List Command) (q : Command) (g : Grid)
    → near_network_all R (earlier ++ q ∷ []) g ≡ near_network (near_after_all R earlier) q (near_network_all R earlier g)
unfolding near_network_all near_after_all
networks-append R [] q g = refl
networks-append R (p ∷ earlier) q g = networks-append (near_after R p) earlier q (near_network R p g)

pub network_of_none : (R : Register) (done : List Command) (g : Grid) → done ≡ [] → g ≡ near_network_all R done g
unfolding near_network_all
network_of_none R done g none = ap (λ (commands : List Command). near_network_all R commands g) (sym none)

-- the command at a place, after those before it
pub network_of_next : (R X : Register) (g before after : Grid) (commands : List Command) (i : ℕ) (q : Command) → i < length commands
    → q ≡ get_or commands i q → X ≡ near_after_all R (take i commands) → before ≡ near_network_all R (take i commands) g
    → after ≡ near_network X q before → after ≡ near_network_all R (take (i + 1) commands) g
network_of_next R X g before after commands i q within at left grown is =
    is ∙ (λ j. near_network (left j) q (grown j)) ∙ sym (networks-append R (take i commands) q g)
    ∙ ap (λ (done : List Command). near_network_all R done g) (ap (λ (p : Command). take i commands ++ p ∷ []) at ∙ sym (take_more commands i q within))

-- the commands with a reply are those up to a place
pub network_so_far : (R : Register) (g left : Grid) (commands : List Command) (told : List Reply) (i : ℕ) → length told ≡ i
    → left ≡ near_network_all R (take i commands) g → left ≡ near_network_all R (with_reply commands told) g
network_so_far R g left commands told i counted is = is ∙ ap (λ (n : ℕ). near_network_all R (take n commands) g) (sym counted)

-- ---- replies

-- where none of some replies says yes, neither does the last nor any before it
or_false : (a b : Bool) → (a || b) ≡ false → (a ≡ false) × (b ≡ false)
or_false false b none = (refl, none)
or_false true b none = cc none

pub none_before : (says : Reply → Bool) (told : List Reply) (reply : Reply) → list_any says (told ++ reply ∷ []) ≡ false
    → (list_any says told ≡ false) × (says reply ≡ false)
none_before says [] reply none = (refl, (or_false (says reply) false none).0)
none_before says (first ∷ told) reply none =
    let both = or_false (says first) (list_any says (told ++ reply ∷ [])) none in
    let rest = none_before says told reply both.1 in
    (ap (λ (b : Bool). b || list_any says told) both.0 ∙ rest.0, rest.1)
