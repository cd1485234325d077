-- The value of a reply holds lists of small objects at most.
use Rattle.std.proofs.Common.{◌≤◌, ℕ, List, [], ◌∷◌, Option, None, Some, map, arith}
use Rattle.serde_json.specs.Data.{Data, depth, items_depth}
use Rattle.serde_json.specs.View.{items_of}
use Rattle.clr_rules.specs.Prelude.{Step}
use Rattle.clr_rules.specs.declared.point_state.PointState.{PointState}
use Rattle.clr_rules.specs.declared.refusal.Refusal.{Refusal}
use Rattle.clr_rules.specs.declared.refusal.Refusal.TheVariants as refusals
use Rattle.clr_rules.specs.declared.reply.Reply.{Reply}
use Rattle.clr_rules.specs.declared.reply.Reply.TheVariants.{Accepted, Added, Refused, Shown}
use Rattle.clr_text.specs.Json.{hold_data, id_data, name_data, optional_data, point_data, step_data}
use Rattle.clr_text.specs.RefusalText.{refusal_data}
use Rattle.clr_text.specs.Replies.{reply_data}

pub list_is_flat : {A : Type 0} (seen : A → Data) (n : ℕ) → ((x : A) → depth (seen x) ≤ n) → (xs : List A) → items_depth (items_of (map seen xs)) ≤ n
list_is_flat seen n each [] = omega arith
list_is_flat seen n each (x ∷ xs) = let here = each x in let more = list_is_flat seen n each xs in omega (arith, here, more)

pub optional_is_flat : {A : Type 0} (seen : A → Data) → ((x : A) → depth (seen x) ≤ 0) → (o : Option A) → depth (optional_data seen o) ≤ 0
optional_is_flat seen each None = omega arith
optional_is_flat seen each (Some x) = each x

point_is_flat : (state : PointState) → depth (point_data state) ≤ 1
point_is_flat state = let hand = optional_is_flat id_data (λ id. omega arith) state.hand in omega (arith, hand)

step_is_flat : (step : Step) → depth (step_data step) ≤ 1
step_is_flat step = let reader = optional_is_flat name_data (λ name. omega arith) step.reader in omega (arith, reader)

refusal_is_flat : (r : Refusal) → depth (refusal_data r) ≤ 1
refusal_is_flat refusals.UnknownCaller = omega arith
refusal_is_flat _ = omega arith

pub reply_is_flat : (reply : Reply) → depth (reply_data reply) ≤ 9
reply_is_flat (Accepted card) = omega arith
reply_is_flat (Shown v) =
    let crews = list_is_flat name_data 0 (λ name. omega arith) v.crews in
    let fence = list_is_flat name_data 0 (λ name. omega arith) v.fence in
    let holds = list_is_flat hold_data 1 (λ hold. omega arith) v.holds in
    let points = list_is_flat point_data 1 point_is_flat v.points in
    let steps = list_is_flat step_data 1 step_is_flat v.steps in
    let work = optional_is_flat name_data (λ name. omega arith) v.work in
    omega (arith, crews, fence, holds, points, steps, work)
reply_is_flat (Refused refusal) = let flat = refusal_is_flat refusal in omega (arith, flat)
reply_is_flat (Added point) = omega arith
