-- THE ANSWER to a command: the first check that applies refuses it, and nothing changes; or its
-- edits are made, and the reply is the clearance's card as it is after them, or the view that was
-- asked for.
use Rattle.std.specs.Prelude.{ℕ, ◌+◌, List, [], ◌∷◌, map, filter, length, Option, None, Some}
use Rattle.std.specs.Prelude.{count_by}
use Rattle.clr_rules.specs.Prelude.{has_name, Edit, Command, Kind, Crew, Record, Refusal, Reply, Id}
use Rattle.clr_rules.specs.Prelude.{Register, greatest_number, record_of, is_done, present_steps}
use Rattle.clr_rules.specs.Prelude.{present_round, places_of, after_edits, Order, Show, Jumper}
use Rattle.clr_rules.specs.Prelude.{UnknownCaller, Card, Accepted, Shown, Refused, Added}
use Rattle.clr_rules.specs.Commands.{edits_of, Known, checks}
use Rattle.clr_rules.specs.Command.{named_clearance}
use Rattle.clr_rules.specs.Fences.{clearance_fence, crossed_by, order_fence, touching_names}
use Rattle.clr_rules.specs.Holds.{is_near_hold, in_kind_order}
use Rattle.clr_rules.specs.declared.reply.View.{View}

-- whose numbers count: those of the requester of the clearance that is named; a new clearance is
-- the caller's
abbrev pub requester_for : List ℕ → Option Id → List ℕ
requester_for by None = by
requester_for by (Some c) = c.requester

-- the fence of the clearance that is named
abbrev pub named_fence : Register → Option Id → List (List ℕ)
named_fence R None = []
named_fence R (Some c) = clearance_fence R c

abbrev pub fence_for : Register → Kind → List (List ℕ)
fence_for R (Order c points tasks) = order_fence R c points
fence_for R kind = named_fence R (named_clearance kind)

-- the clearance whose fence a jumper would cross
abbrev pub crossed_for : Register → Kind → Option Id
crossed_for R (Jumper point from to lockable remote) = crossed_by R from to
crossed_for R kind = None

abbrev pub known_of : Register → Command → Known
known_of R q =
    record {
      greatest = greatest_number R.records (requester_for q.caller (named_clearance q.kind));
      fence = fence_for R q.kind;
      crossed = crossed_for R q.kind;
    }

-- the first check that applies
abbrev pub first_refusal : List (Option Refusal) → Option Refusal
first_refusal [] = None
first_refusal (None ∷ rest) = first_refusal rest
first_refusal (Some refusal ∷ rest) = Some refusal

-- THE CARD of a record, with the count of its present round
abbrev pub card_of : Register → Record → Card
card_of R r = record {
  clearance = r.id;
  phase = r.phase;
  holder = r.holder;
  round = present_round R.steps r.id;
  done = count_by (λ row. is_done row.step.state) (present_steps R.steps r.id);
  steps = length (present_steps R.steps r.id);
}

-- THE VIEW of a record, with all that anybody holds at its fence
abbrev pub view_of : Known → Register → Record → View
view_of k R r =
    let touching = has_name (touching_names R.net (has_name k.fence)) in
    record {
      card = card_of R r;
      crews = places_of R.holds r.id Crew;
      fence = k.fence;
      holds = in_kind_order (filter (is_near_hold (has_name k.fence) touching None) R.holds);
      points = filter (λ state. touching state.point) R.states;
      steps = map (λ row. row.step) (present_steps R.steps r.id);
      work = r.work;
    }

-- the reply of a command that was not refused and is about a clearance, by the record after its
-- edits. There is one: a clearance that is named has a record, and a new one was put. So no command
-- has the first of these replies, which none of its checks after the first gives
abbrev pub reply_of : Known → Register → Kind → Option Record → Reply
reply_of k R kind None = Refused UnknownCaller
reply_of k R (Show c) (Some r) = Shown (view_of k R r)
reply_of k R kind (Some r) = Accepted (card_of R r)

-- the clearance that the reply is about
abbrev pub reply_clearance : ℕ → List ℕ → Option Id → Id
reply_clearance greatest by None = record { requester = by; number = greatest + 1 }
reply_clearance greatest by (Some c) = c

-- the reply of a command that was not refused: a jumper's names its point
abbrev pub reply_after : Known → Register → List ℕ → Kind → Reply
reply_after k R by (Jumper point from to lockable remote) = Added point
reply_after k R by kind =
    reply_of k R kind (record_of R.records (reply_clearance k.greatest by (named_clearance kind)))

pub record Answer : Type 0 where
  pub reply : Reply
  pub edits : List Edit

abbrev pub answer_by_checks : Known → Register → Command → Option Refusal → Answer
answer_by_checks k R q (Some refusal) = record { reply = Refused refusal; edits = [] }
answer_by_checks k R q None =
    let edits = edits_of k.greatest R q.caller q.moment q.kind in
    record { reply = reply_after k (after_edits edits R) q.caller q.kind; edits = edits }

-- the answer from what is known beside the rows
abbrev pub answer_with : Known → Register → Command → Answer
answer_with k R q = answer_by_checks k R q (first_refusal (checks k R q.caller q.moment q.kind))

abbrev pub answer : Register → Command → Answer
answer R q = answer_with (known_of R q) R q
