-- The responses to one clearance's requests, by the headline over HTTP.
use Rattle.std.proofs.Common.{◌≡◌, ◌∙◌, ℕ, suc, true, List, [], ◌∷◌, refl, sym, ap, subst, length}
use Rattle.clr_rules.specs.declared.command.Command.{Command}
use Rattle.clr_rules.proofs.Common.{Id, Register, and_parts, length-map, list_all}
use Rattle.clr_rules.specs.Isolation.{ShowTheSame}
use Rattle.clr_rules.specs.Shown.{is_own_command}
use Rattle.clr_examples.specs.Isolation.{in_l2, register_one, register_two}
use Rattle.clr_examples.specs.Worked.{jones_1}
use Rattle.clr_http.specs.Asked.{commands_asked, own_among}
use Rattle.clr_http.specs.Registrar.{Keeper}
use Rattle.clr_http.specs.RequestLaws.{AnswersAreServed, SameShownSameResponses}
use Rattle.clr_http.specs.Service.{RespondsAll, ServesAll}
use Rattle.clr_worked.specs.OneClearance.{BothAreAnswered, TheResponsesAreTheSame, alone, beside}
use Rattle.clr_worked.specs.Sent.{asked_by, can_all_be_posted, request_of, requests_of}
use Rattle.clr_worked.proofs.Posted.{posted}
use Rattle.clr_worked.proofs.SentCommands.{posted_are_answered, posted_ask}
use Rattle.clr_worked.proofs.Shown.{shown}

commands_of : (commands : List Command) → commands_asked (asked_by commands) ≡ commands
unfolding commands_asked
commands_of [] = refl
commands_of (q ∷ commands) = ap (λ l. q ∷ l) (commands_of commands)

as_many : (R S : Register) (inputs responses : List (List ℕ)) → RespondsAll R inputs responses S → length responses ≡ length inputs
unfolding RespondsAll
as_many R S [] [] all = refl
as_many R S [] (bytes ∷ later) all = absurd all
as_many R S (input ∷ inputs) [] all = absurd all
as_many R S (input ∷ inputs) (bytes ∷ later) (o, responds, is, rest) = ap (λ n. suc n) (as_many o.left S inputs later rest)

-- of own commands alone, all responses are theirs
all_own : (c : Id) (commands : List Command) (texts : List (List ℕ)) → list_all (is_own_command c) commands ≡ true
    → length texts ≡ length commands → own_among c (asked_by commands) texts ≡ texts
unfolding own_among
all_own c [] [] own same = refl
all_own c [] (text ∷ texts) own same = cc same
all_own c (q ∷ commands) [] own same = refl
all_own c (q ∷ commands) (text ∷ texts) own same =
    let (here, later) = and_parts (is_own_command c q) (list_all (is_own_command c) commands) own in
    rw here (ap (λ l. text ∷ l) (all_own c commands texts later (cc same)))

-- no fault is counted
keeping : Register → Keeper
keeping R = record { register = R; faults = 0 }

served : AnswersAreServed → (R S : Register) (commands : List Command) (responses : List (List ℕ)) → can_all_be_posted commands ≡ true
    → RespondsAll R (requests_of commands) responses S → ServesAll (keeping R) (requests_of commands) (asked_by commands) responses (keeping S)
unfolding keeping
served law R S commands responses can all =
    law (keeping R) (keeping S) (requests_of commands) responses (asked_by commands) all (posted_ask commands can) refl

asked_shown : (commands others : List Command) → ShowTheSame jones_1 in_l2 register_one commands register_two others
    → ShowTheSame jones_1 in_l2 register_one (commands_asked (asked_by commands)) register_two (commands_asked (asked_by others))
asked_shown commands others same =
    let first = subst (λ (l : List Command). ShowTheSame jones_1 in_l2 register_one l register_two others) (sym (commands_of commands)) same in
    subst (λ (l : List Command). ShowTheSame jones_1 in_l2 register_one (commands_asked (asked_by commands)) register_two l) (sym (commands_of others)) first

own_alone : list_all (is_own_command jones_1) alone ≡ true
own_alone = refl

-- of any two such lists
same_of : AnswersAreServed → SameShownSameResponses → (S T : Register) (commands others : List Command) (responses answers : List (List ℕ))
    → can_all_be_posted commands ≡ true → can_all_be_posted others ≡ true → ShowTheSame jones_1 in_l2 register_one commands register_two others
    → list_all (is_own_command jones_1) others ≡ true → RespondsAll register_one (requests_of commands) responses S
    → RespondsAll register_two (requests_of others) answers T
    → (own_among jones_1 (asked_by commands) responses ≡ answers) × (length answers ≡ length others)
unfolding keeping
same_of serves law S T commands others responses answers can may same own one two =
    let end = law jones_1 in_l2 (keeping register_one) (keeping S) (keeping register_two) (keeping T) (requests_of commands) (requests_of others) responses answers
    (asked_by commands) (asked_by others) (served serves register_one S commands responses can one) (served serves register_two T others answers may two)
    (asked_shown commands others same) in
    let size : length answers ≡ length others = as_many register_two T (requests_of others) answers two ∙ length-map others request_of in
    (end.0 ∙ all_own jones_1 others answers own size, size)

pub same_responses : AnswersAreServed → SameShownSameResponses → TheResponsesAreTheSame
same_responses serves law S T responses answers one two =
    let (same, size) = same_of serves law S T beside alone responses answers posted.all_ones posted.own_ones shown own_alone one two in
    (same, size ∙ posted.own_count)

pub both_answered : BothAreAnswered
both_answered = record {
  one = posted_are_answered register_one beside posted.all_ones;
  two = posted_are_answered register_two alone posted.own_ones;
}
