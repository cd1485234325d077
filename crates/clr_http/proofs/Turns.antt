-- What a turn leaves: the register as it was, or as a command left it. So it stays good, and reached.
use Rattle.std.proofs.Common.{◌≡◌, ℕ, List, [], ◌∷◌, inl, inr, sym, subst, ◌⊎◌, Option, None, Some, Result, Ok, Err}
use Rattle.clr_rules.proofs.edits.Runs.{reached_go_on}
use Rattle.clr_rules.proofs.keeps.EveryKind.{commands_keep_good}
use Rattle.clr_rules.proofs.Common.{IsGood, Register, IsReached, after, after_all}
use Rattle.clr_rules.specs.Id.{Id}
use Rattle.clr_text.specs.Reading.{read_command}
use Rattle.clr_text.specs.declared.fault.TextFault.{TextFault}
use Rattle.clr_http.specs.Registrar.{IsTurn, Keeper}
use Rattle.clr_http.specs.Respond.{Outcome, reading_outcome, target_outcome, body_outcome, order_outcome, show_of, view_outcome, way_back_outcome}
use Rattle.clr_http.specs.Reading.{Reading, asks, refused}
use Rattle.clr_http.specs.Response.{Content}
use Rattle.clr_http.specs.declared.target.Target.{Target}
use Rattle.clr_http.specs.declared.target.OrderRequest.{OrderRequest}
use Rattle.clr_http.specs.declared.target.ViewRequest.{ViewRequest}
use Rattle.clr_http.specs.declared.target.Target.TheVariants as asked
use Rattle.clr_rules.specs.declared.command.Command.{Command}

-- the register stays, or is the outcome's
abbrev pub IsLeft : Outcome → Register → Register → Type 0
IsLeft o R S = (S ≡ R) ⊎ (S ≡ o.left)

pub turn_leaves : (o : Outcome) (old new : Keeper) (c : Content) → IsTurn o old new c → IsLeft o old.register new.register
turn_leaves o old new c (inl t) = inr t.1
turn_leaves o old new c (inr (is, counts)) = inl counts.0

after_reached : (R : Register) (q : Command) → IsReached R → IsReached (after R q)
unfolding after_all
after_reached R q reached = reached_go_on R reached (q ∷ [])

module _ (P : Register → Type 0) (R : Register) (here : P R) (next : (q : Command) → P (after R q)) where
  of_body : (r : Result Command TextFault) → P (Outcome.left (body_outcome R r))
  of_body (Ok q) = next q
  of_body (Err fault) = here

  of_view : (v : Option ViewRequest) → P (Outcome.left (view_outcome R v))
  of_view None = here
  of_view (Some v) = next (show_of v)

  of_order : (p : Option OrderRequest) → P (Outcome.left (order_outcome R p))
  of_order None = here
  of_order (Some p) = here

  of_way_back : (id : Option Id) → P (Outcome.left (way_back_outcome R id))
  of_way_back None = here
  of_way_back (Some c) = here

  of_asked : (a : Target) (body : List ℕ) → P (Outcome.left (target_outcome R a body))
  of_asked asked.Command body = of_body (read_command body)
  of_asked (asked.Clearance viewing) body = of_view viewing
  of_asked (asked.Order printing) body = of_order printing
  of_asked asked.Board body = here
  of_asked asked.Network body = here
  of_asked (asked.WayBack id) body = of_way_back id

  of_reading : (reading : Reading) → P (Outcome.left (reading_outcome R reading))
  of_reading (refused c) = here
  of_reading (asks a body) = of_asked a body

  kept_by : (S : Register) (reading : Reading) → IsLeft (reading_outcome R reading) R S → P S
  kept_by S reading (inl e) = subst P (sym e) here
  kept_by S reading (inr e) = subst P (sym e) (of_reading reading)

pub stays_good : (R S : Register) (reading : Reading) → IsGood R → IsLeft (reading_outcome R reading) R S → IsGood S
stays_good R S reading good left = kept_by IsGood R good (λ q. commands_keep_good R q good) S reading left

pub stays_reached : (R S : Register) (reading : Reading) → IsReached R → IsLeft (reading_outcome R reading) R S → IsReached S
stays_reached R S reading reached left = kept_by IsReached R reached (λ q. after_reached R q reached) S reading left
