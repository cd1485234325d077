-- THE ANSWERS TO REQUESTS THAT ARE NO COMMAND, where no fault is counted, and what they depend on.
use Rattle.std.specs.Prelude.{◌≡◌, ℕ, Bool, List, Some}
use Rattle.httparse.specs.Grammar.{RequestHead}
use Rattle.clr_rules.specs.Agreement.{Agree}
use Rattle.clr_rules.specs.Id.{Id}
use Rattle.clr_rules.specs.Register.{Register}
use Rattle.clr_http.specs.Request.{refused, request_read}
use Rattle.clr_http.specs.Respond.{Outcome, order_outcome, respond_to}
use Rattle.clr_http.specs.Response.{Content}

-- A PRINTED ORDER of a clearance is the same in registers that agree near the clearance
abbrev pub PrintedOrdersAreTheSame : Type 0
PrintedOrdersAreTheSame = (c : Id) (round : ℕ) (inside : List ℕ → Bool) (R S : Register)
    → Agree c inside R S
    → Outcome.response (order_outcome R (Some (record { id = c; round = round })))
    ≡ Outcome.response (order_outcome S (Some (record { id = c; round = round })))

-- A REQUEST THAT IS REFUSED by its head, its length or its body has its refusal, whatever the
-- register
abbrev pub RefusalsAreOfTheRequest : Type 0
RefusalsAreOfTheRequest = (R : Register) (head : RequestHead) (rest : List ℕ) (c : Content)
    → request_read head rest ≡ refused c → Outcome.response (respond_to R head rest) ≡ c
