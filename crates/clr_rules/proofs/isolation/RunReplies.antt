-- The headline of a run, from what the run did.
use Rattle.std.proofs.Common.{◌≡◌, ◌∙◌, Bool, true, false, List, [], ◌∷◌, refl, sym, ap, subst, map, if◌then◌else◌}
use Rattle.clr_rules.proofs.Common.{Agree, Answer, answer, Command, Reply, Id, Register, after, after_all, replies}
use Rattle.clr_rules.specs.RunHeadline.{IsRun, OthersChangeNoReply, OthersTakeNothing, OwnStandAlone, own_replies}
use Rattle.clr_rules.specs.Shown.{is_own_command, own_answers}
use Rattle.clr_rules.proofs.keeps.EveryKind.{runs_keep_good}
use Rattle.clr_rules.proofs.isolation.Headline.{own_alone, same_shown}
use Rattle.clr_rules.proofs.isolation.OthersEdits.{others_left_alone}

one_more : (own : Bool) (a : Answer) (told : List Reply) (answers : List Answer) → told ≡ map (λ (x : Answer). x.reply) answers
    → (if own then a.reply ∷ told else told) ≡ map (λ (x : Answer). x.reply) (if own then a ∷ answers else answers)
one_more true a told answers rest = ap (λ l. a.reply ∷ l) rest
one_more false a told answers rest = rest

-- the replies of a run to the own commands are those of the own answers
pub own_replies_are : (c : Id) (R : Register) (commands : List Command)
    → own_replies c commands (replies R commands) ≡ map (λ (x : Answer). x.reply) (own_answers c R commands)
unfolding own_replies replies own_answers
own_replies_are c R [] = refl
own_replies_are c R (q ∷ commands) =
    one_more (is_own_command c q) (answer R q) (own_replies c commands (replies (after R q) commands)) (own_answers c (after R q) commands)
    (own_replies_are c (after R q) commands)

pub others_change_no_reply : (R : Register) (commands : List Command) (told : List Reply) (S : Register) → IsRun R commands told S
    → OthersChangeNoReply R commands told S
others_change_no_reply R commands told S run c inside T others shown =
    let end = same_shown c inside R T commands others shown in
    record {
      replies = ap (own_replies c commands) run.replied ∙ own_replies_are c R commands ∙ ap (map (λ (x : Answer). x.reply)) end.0;
      answers = end.0;
      agree = subst (λ (X : Register). Agree c inside X (after_all T others)) (sym run.register) end.1;
    }

pub others_take_nothing : (R : Register) (commands : List Command) → OthersTakeNothing R commands
others_take_nothing R commands c earlier q later good split others =
    let here = after_all R earlier in
    others_left_alone here c q (runs_keep_good R earlier good) others

pub own_stand_alone : (R : Register) (commands : List Command) (told : List Reply) (S : Register) → IsRun R commands told S
    → OwnStandAlone R commands told
own_stand_alone R commands told S run c inside alone =
    ap (own_replies c commands) run.replied ∙ own_replies_are c R commands
    ∙ ap (map (λ (x : Answer). x.reply)) (own_alone c inside R commands alone)
