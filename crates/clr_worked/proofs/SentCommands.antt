-- Commands that are posted, by what one posted body asks.
use Rattle.std.proofs.Common.{◌≡◌, ◌∙◌, nat_le, true, List, [], ◌∷◌, Some, refl, sym, ap, subst, length, inl, inr, leb-true}
use Rattle.clr_rules.specs.declared.command.Command.{Command}
use Rattle.clr_rules.proofs.Common.{Register, after, and_parts, after_all, answer, replies}
use Rattle.clr_rules.specs.Answer.{Answer}
use Rattle.clr_text.specs.CommandText.{can_be_sent, command_text}
use Rattle.clr_text.proofs.CommandsRead.{commands_read_back}
use Rattle.clr_http.specs.Asked.{AskEach, Asks, body_asks, reply_bytes}
use Rattle.clr_http.specs.Respond.{Outcome, Responds, respond_to}
use Rattle.clr_http.specs.Response.{response_bytes}
use Rattle.clr_http.specs.Service.{RespondsAll}
use Rattle.clr_http.proofs.Posts.{posted_bodies_ask}
use Rattle.clr_http.proofs.RequestRuns.{commands_are_answered}
use Rattle.clr_worked.specs.Sent.{PostedCommandsAreAnswered, PostedCommandsAsk, PostedCommandsHaveNoOtherAnswer, can_all_be_posted, can_be_posted, request_of, requests_of, responses_of}

first : (q : Command) (commands : List Command) → can_all_be_posted (q ∷ commands) ≡ true → (can_be_posted q ≡ true) × (can_all_be_posted commands ≡ true)
first q commands all = and_parts (can_be_posted q) (can_all_be_posted commands) all

-- ---- one command

asks_one : (q : Command) → can_be_posted q ≡ true → Asks (request_of q) (Some q)
asks_one q can =
    let (sent, short) = and_parts (can_be_sent q) (nat_le (length (command_text q)) 65536) can in
    subst (λ read. Asks (request_of q) (body_asks read)) (commands_read_back q sent)
    (posted_bodies_ask (command_text q) (leb-true (length (command_text q)) 65536 short))

-- its outcome has its reply, and leaves the register that it leaves
IsAnsweredAt : Register → Command → Type 0
IsAnsweredAt R q = (o : Outcome) × Responds R (request_of q) o × (reply_bytes (Answer.reply (answer R q)) ≡ response_bytes o.response)
    × (o.left ≡ after R q)

is_as : (R : Register) (q : Command) (o : Outcome) → can_be_posted q ≡ true → Responds R (request_of q) o
    → (response_bytes o.response ≡ reply_bytes (Answer.reply (answer R q))) × (o.left ≡ after R q)
is_as R q o can responds =
    let (response, left) = commands_are_answered R (request_of q) q o responds (asks_one q can) in
    (ap response_bytes response, left)

answered_one : (R : Register) (q : Command) → can_be_posted q ≡ true → IsAnsweredAt R q
unfolding IsAnsweredAt
answered_one R q can = from (asks_one q can)
  where
    from : Asks (request_of q) (Some q) → IsAnsweredAt R q
    from (inl (head, rest, begins, e)) =
        let responds : Responds R (request_of q) (respond_to R head rest) = (head, rest, begins, refl) in
        let (response, left) = is_as R q (respond_to R head rest) can responds in
        (respond_to R head rest, responds, sym response, left)
    from (inr (none, e)) = cc e

-- ---- several

pub posted_ask : PostedCommandsAsk
unfolding AskEach
posted_ask [] all = tt
posted_ask (q ∷ commands) all = let (here, later) = first q commands all in (asks_one q here, posted_ask commands later)

pub posted_are_answered : PostedCommandsAreAnswered
unfolding IsAnsweredAt RespondsAll replies after_all
posted_are_answered R [] all = refl
posted_are_answered R (q ∷ commands) all =
    let (here, later) = first q commands all in
    let (o, responds, is, left) = answered_one R q here in
    let rest : RespondsAll (after R q) (requests_of commands) (responses_of (after R q) commands) (after_all (after R q) commands) =
    posted_are_answered (after R q) commands later in
    (o, responds, is, subst (λ (X : Register). RespondsAll X (requests_of commands) (responses_of (after R q) commands) (after_all (after R q) commands)) (sym left) rest)

pub none_other : PostedCommandsHaveNoOtherAnswer
unfolding RespondsAll replies after_all
none_other R S [] [] all responds = (refl, responds)
none_other R S [] (bytes ∷ later) all responds = absurd responds
none_other R S (q ∷ commands) [] all responds = absurd responds
none_other R S (q ∷ commands) (bytes ∷ later) all (o, responds, is, rest) =
    let (here, others) = first q commands all in
    let (response, left) = is_as R q o here responds in
    let (same, end) = none_other (after R q) S commands later others (subst (λ (X : Register). RespondsAll X (requests_of commands) later S) left rest) in
    (ap (λ b. b ∷ later) (is ∙ response) ∙ ap (λ l. reply_bytes (Answer.reply (answer R q)) ∷ l) same, end)
