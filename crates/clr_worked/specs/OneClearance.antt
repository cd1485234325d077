-- ONE CLEARANCE OVER HTTP, in the two registers of the examples of isolation: the 49 commands of
-- JONES/1 alone in register two; and in register one with 25 commands of others after the grant: a
-- switch order, a jumper, and an order of KIM/1 whose first six steps run.
use Rattle.std.specs.Prelude.{◌≡◌, ℕ, ◌+◌, true, if◌then◌else◌, List, [], ◌∷◌, ◌++◌, codes, length}
use Rattle.std.specs.Prelude.{take}
use Rattle.clr_rules.specs.Isolation.{ShowTheSame}
use Rattle.clr_rules.specs.Register.{Register}
use Rattle.clr_rules.specs.Run.{after_all}
use Rattle.clr_rules.specs.declared.command.Command.{Command}
use Rattle.clr_examples.specs.Isolation.{in_l2, kim_switches_outside, ops_switches, register_one}
use Rattle.clr_examples.specs.Isolation.{register_two}
use Rattle.clr_examples.specs.Jumpers.{lays}
use Rattle.clr_examples.specs.Worked.{L3, OPS, S4, Saying, jones_1, jones_works_and_releases}
use Rattle.clr_examples.specs.Worked.{l2_granted, l2_is_restored, said_at}
use Rattle.clr_text.specs.Kinds.{states_moment, word_of}
use Rattle.clr_http.specs.Asked.{own_among}
use Rattle.clr_http.specs.Service.{RespondsAll}
use Rattle.clr_worked.specs.Sent.{asked_by, can_all_be_posted, requests_of, responses_of}

-- what is said from this moment on, each a second after the one before; `show` and `jumper` state
-- no moment, and take none
abbrev pub sent_from : ℕ → List Saying → List Command
sent_from moment [] = []
sent_from moment (saying ∷ rest) =
    if states_moment (word_of saying.kind) then said_at moment saying ∷ sent_from (moment + 1) rest
    else said_at 0 saying ∷ sent_from moment rest

-- the 49 commands of JONES/1: up to the grant, and from then on
abbrev pub up_to_the_grant : List Command
up_to_the_grant = sent_from 100 l2_granted

abbrev pub from_the_grant : List Command
from_the_grant = sent_from 121 (jones_works_and_releases ++ l2_is_restored)

abbrev pub alone : List Command
alone = up_to_the_grant ++ from_the_grant

-- the first of them, as the request that posts it, and the response to it
abbrev pub first_request : List ℕ
first_request = codes "POST /command HTTP/1.1\r\nContent-Length: 53\r\n\r\n"
    ++ codes "{\"at\":100,\"by\":\"JONES\",\"do\":\"request\",\"section\":\"L2\"}"

abbrev pub first_response : List ℕ
first_response = codes "HTTP/1.1 200 OK\r\nContent-Type: application/json\r\n"
    ++ codes "Content-Length: 117\r\nConnection: close\r\n\r\n"
    ++ codes "{\"card\":{\"clearance\":\"JONES/1\",\"done\":0,\"holder\":\"JONES\","
    ++ codes "\"phase\":\"Requested\",\"round\":0,\"steps\":0},\"reply\":\"accepted\"}"

-- what others say in between: S4 is switched, J9 leads from L3 to a section that is new, and the
-- steps of KIM/1 at S4 and T1 run
abbrev pub of_others : List Saying
of_others = ops_switches S4 (codes "OPEN S4") ++ lays OPS (codes "J9") L3 (codes "X9")
    ∷ kim_switches_outside

abbrev pub beside : List Command
beside = up_to_the_grant ++ sent_from 121 of_others ++ from_the_grant

-- WHAT IS ASKED FOR: all can be posted
pub record AllCanBePosted : Type 0 where
  pub own_ones : can_all_be_posted alone ≡ true
  pub all_ones : can_all_be_posted beside ≡ true
  pub own_count : length alone ≡ 49
  pub others_count : length (sent_from 121 of_others) ≡ 25

-- the registers agree near JONES/1 on L2, and the lists show it the same
abbrev pub TheListsShowTheSame : Type 0
TheListsShowTheSame = ShowTheSame jones_1 in_l2 register_one beside register_two alone

-- AND WHAT IT GIVES: whatever is answered to the 74 requests from register one on, and to the 49
-- from register two on, the responses to the requests of JONES/1 are the same 49, byte for byte
abbrev pub TheResponsesAreTheSame : Type 0
TheResponsesAreTheSame = (S T : Register) (responses answers : List (List ℕ))
    → RespondsAll register_one (requests_of beside) responses S
    → RespondsAll register_two (requests_of alone) answers T
    → (own_among jones_1 (asked_by beside) responses ≡ answers) × (length answers ≡ 49)

-- and both are answered
pub record BothAreAnswered : Type 0 where
  pub one : RespondsAll register_one (requests_of beside) (responses_of register_one beside)
      (after_all register_one beside)
  pub two : RespondsAll register_two (requests_of alone) (responses_of register_two alone)
      (after_all register_two alone)

-- the first request and the first response, byte for byte
pub record TheFirstAreKnown : Type 0 where
  pub request : take 1 (requests_of alone) ≡ first_request ∷ []
  pub one : take 1 (responses_of register_one beside) ≡ first_response ∷ []
  pub two : take 1 (responses_of register_two alone) ≡ first_response ∷ []
