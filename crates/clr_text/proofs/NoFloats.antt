-- No reply and no command has a number that is no whole number.
use Rattle.std.proofs.Common.{◌≡◌, List, [], ◌∷◌, ℕ, Bool, false, ◌||◌, Option, None, Some, Ordering, Less, Equal, Greater, map, nat_cmp, refl}
use Rattle.std.proofs.lemmas.Bool.{or_parts}
use Rattle.std.specs.Cmp.Lexicographic.{slice_cmp}
use Rattle.std.specs.Ordering.{match_ordering}
use Rattle.serde_json.specs.Data.{Data, Members, member, no_members, put}
use Rattle.serde_json.specs.View.{items_of}
use Rattle.serde_json.specs.Written.{has_float, items_have_float, members_have_float}
use Rattle.clr_rules.specs.Prelude.{Step}
use Rattle.clr_text.specs.CommandText.{Said, all_said, command_data, said_data, task_data, with_said, written}
use Rattle.clr_text.specs.FaultText.{fault_data}
use Rattle.clr_text.specs.Keys.{Sort, ValueOf, key_text, names, sort_of, tasks}
use Rattle.clr_text.specs.Json.{hold_data, id_data, name_data, optional_data, point_data, step_data}
use Rattle.clr_text.specs.RefusalText.{refusal_data}
use Rattle.clr_text.specs.Replies.{reply_data}
use Rattle.clr_text.specs.declared.fault.TextFault.{TextFault}
use Rattle.clr_rules.specs.declared.command.Command.{Command}
use Rattle.clr_rules.specs.declared.refusal.Refusal.TheVariants as refusals
use Rattle.clr_text.specs.declared.fault.TextFault.TheVariants as faults
use Rattle.clr_rules.specs.declared.point_state.PointState.{PointState}
use Rattle.clr_rules.specs.declared.refusal.Refusal.{Refusal}
use Rattle.clr_rules.specs.declared.reply.Reply.{Reply}
use Rattle.clr_rules.specs.declared.reply.Reply.TheVariants.{Accepted, Added, Refused, Shown}

neither : (a b : Bool) → a ≡ false → b ≡ false → (a || b) ≡ false
neither a b first second = rw (first, second) refl

pub in_list : {A : Type 0} (seen : A → Data) → ((x : A) → has_float (seen x) ≡ false) → (xs : List A) → items_have_float (items_of (map seen xs)) ≡ false
in_list seen each [] = refl
in_list seen each (x ∷ xs) = neither _ _ (each x) (in_list seen each xs)

pub in_optional : {A : Type 0} (seen : A → Data) → ((x : A) → has_float (seen x) ≡ false) → (o : Option A) → has_float (optional_data seen o) ≡ false
in_optional seen each None = refl
in_optional seen each (Some x) = each x

in_point : (state : PointState) → has_float (point_data state) ≡ false
in_point state = neither _ _ (in_optional id_data (λ id. refl) state.hand) refl

in_step : (step : Step) → has_float (step_data step) ≡ false
in_step step = neither _ _ (in_optional name_data (λ name. refl) step.reader) refl

in_refusal : (r : Refusal) → has_float (refusal_data r) ≡ false
in_refusal refusals.UnknownCaller = refl
in_refusal _ = refl

pub in_reply : (reply : Reply) → has_float (reply_data reply) ≡ false
in_reply (Accepted card) = refl
in_reply (Shown v) =
    let crews = in_list name_data (λ name. refl) v.crews in
    let fence = in_list name_data (λ name. refl) v.fence in
    let holds = in_list hold_data (λ hold. refl) v.holds in
    let points = in_list point_data in_point v.points in
    let steps = in_list step_data in_step v.steps in
    let work = in_optional name_data (λ name. refl) v.work in
    rw (crews, fence, holds, points, steps, work) refl
in_reply (Refused refusal) = in_refusal refusal
in_reply (Added point) = refl

pub in_fault : (fault : TextFault) → has_float (fault_data fault) ≡ false
in_fault faults.NotJson = refl
in_fault _ = refl

-- ---- commands

in_said : (sort : Sort) (x : ValueOf sort) → has_float (written sort x) ≡ false
in_said names list = in_list name_data (λ s. refl) list
in_said tasks list = in_list task_data (λ t. refl) list
in_said _ x = refl

in_put_at : (o : Ordering) (k l : List ℕ) (d e : Data) (ms : Members) → has_float d ≡ false → members_have_float (member l e ms) ≡ false
    → members_have_float (put k d ms) ≡ false
    → members_have_float (match_ordering o (member k d (member l e ms)) (member l d ms) (member l e (put k d ms))) ≡ false
in_put_at Less k l d e ms value others more = neither _ _ value others
in_put_at Equal k l d e ms value others more = let parts = or_parts (has_float e) (members_have_float ms) others in neither _ _ value parts.1
in_put_at Greater k l d e ms value others more = let parts = or_parts (has_float e) (members_have_float ms) others in neither _ _ parts.0 more

in_put : (k : List ℕ) (d : Data) (ms : Members) → has_float d ≡ false → members_have_float ms ≡ false → members_have_float (put k d ms) ≡ false
in_put k d no_members value others = neither _ _ value refl
in_put k d (member l e ms) value others =
    let parts = or_parts (has_float e) (members_have_float ms) others in
    in_put_at (slice_cmp nat_cmp k l) k l d e ms value others (in_put k d ms value parts.1)

in_members : (list : List Said) (ms : Members) → members_have_float ms ≡ false → members_have_float (with_said list ms) ≡ false
in_members [] ms others = others
in_members (said ∷ rest) ms others =
    in_members rest (put (key_text said.0) (said_data said) ms) (in_put (key_text said.0) (said_data said) ms (in_said (sort_of said.0) said.1) others)

pub in_command : (q : Command) → has_float (command_data q) ≡ false
in_command q = in_members (all_said q) no_members refl
