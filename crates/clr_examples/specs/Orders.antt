-- EXAMPLES OF ORDERS: each fault of an order, together with the next one that an order of its kind
-- may have. The reply is the first one's.
use Rattle.std.specs.Prelude.{◌≡◌, ℕ, List, [], ◌∷◌, ◌++◌, replicate, codes, None, refl}
use Rattle.clr_rules.specs.Prelude.{Task}
use Rattle.clr_examples.specs.Phases.{refused_after}
use Rattle.clr_examples.specs.Sequence.{tells}
use Rattle.clr_examples.specs.Worked.{G, OPS, S1, S2, S3, S4, T1, ZZ, does, isolating_l2, jones_1}
use Rattle.clr_examples.specs.Worked.{kim_1, kim_releases, l2_asked, l2_released, restoring_l2}
use Rattle.clr_examples.specs.Worked.{restoring_l3, says, the_rules}
use Rattle.clr_rules.specs.declared.command.Kind.TheVariants.{Order, Restore, Switch}
use Rattle.clr_rules.specs.declared.refusal.Refusal.{Refusal}
use Rattle.clr_rules.specs.declared.refusal.Refusal.TheVariants.{EmptyOrder, LongOrder, PointTwice}
use Rattle.clr_rules.specs.declared.refusal.Refusal.TheVariants.{SourceInside, NotOnFence}
use Rattle.clr_rules.specs.declared.refusal.Refusal.TheVariants.{StepsWrong, UnknownPoint}
use Rattle.clr_order.specs.declared.action.Action.TheVariants as actions

-- one step more than there may be
abbrev pub too_long : List Task
too_long = replicate 257 (does actions.Tag ZZ)

-- OPS orders JONES/1, which is asked for on L2
abbrev pub jones_order_tells : List (List ℕ) → List Task → Refusal → Type 0
jones_order_tells points tasks refusal =
    tells l2_asked (says OPS (Order jones_1 points tasks)) refusal

-- of an isolating order
pub isolating :
    jones_order_tells [] too_long EmptyOrder
    × jones_order_tells (replicate 65 S2) isolating_l2 LongOrder
    × jones_order_tells (S2 ∷ S2 ∷ []) too_long LongOrder
    × jones_order_tells (ZZ ∷ ZZ ∷ []) isolating_l2 PointTwice
    -- both sources lie inside; the least is named
    × jones_order_tells (ZZ ∷ []) isolating_l2 (SourceInside G)
    -- the first of the points that is not on the border: it is elsewhere, unknown, or inside
    × jones_order_tells (S2 ∷ S4 ∷ ZZ ∷ S3 ∷ []) [] (NotOnFence S4)
    × jones_order_tells (S2 ∷ ZZ ∷ S4 ∷ S3 ∷ []) [] (NotOnFence ZZ)
    × jones_order_tells (S1 ∷ S3 ∷ S4 ∷ ZZ ∷ []) [] (NotOnFence S3)
    -- the first of the points whose steps are not the needed ones, also where an earlier step is
    -- elsewhere
    × jones_order_tells (S3 ∷ S2 ∷ []) (does actions.Open S1 ∷ []) (StepsWrong S3)
    × jones_order_tells (S2 ∷ S3 ∷ [])
    (does actions.Open S2 ∷ does actions.Open S3 ∷ does actions.Block S2 ∷ does actions.Tag S3
    ∷ does actions.Block S3 ∷ does actions.Tag S2 ∷ [])
    (StepsWrong S3)
    × jones_order_tells (S2 ∷ S3 ∷ [])
    (does actions.Open S2 ∷ does actions.Tag S2 ∷ does actions.Open S3 ∷ does actions.Block S3
    ∷ does actions.Tag S3 ∷ [])
    (StepsWrong S2)
    × jones_order_tells (S2 ∷ S3 ∷ []) (isolating_l2 ++ does actions.Open S1
    ∷ does actions.Open ZZ ∷ []) (StepsWrong S1)
unfolding the_rules
isolating = (refl, refl, refl, refl, refl, refl, refl, refl, refl, refl, refl, refl)

-- JONES/1 is released, and holds S2 and S3 open, each with its block and tag
abbrev pub jones_restoring_tells : List Task → Refusal → Type 0
jones_restoring_tells tasks refusal = tells l2_released (says OPS (Restore jones_1 tasks)) refusal

-- of a restoring order
pub restoring :
    jones_restoring_tells [] EmptyOrder
    × jones_restoring_tells too_long LongOrder
    -- the first of the held points in the order's first round, also where an earlier step is
    -- elsewhere
    × jones_restoring_tells (does actions.Open S1 ∷ []) (StepsWrong S2)
    × jones_restoring_tells
    (does actions.Untag S2 ∷ does actions.Unblock S2 ∷ does actions.Close S2
    ∷ does actions.Unblock S3 ∷ does actions.Untag S3 ∷ does actions.Close S3 ∷ [])
    (StepsWrong S3)
    × jones_restoring_tells
    (does actions.Untag S2 ∷ does actions.Unblock S2 ∷ does actions.Untag S3
    ∷ does actions.Unblock S3 ∷ does actions.Close S3 ∷ [])
    (StepsWrong S2)
    × jones_restoring_tells (restoring_l2 ++ does actions.Leave S3 ∷ []) (StepsWrong S3)
    × jones_restoring_tells (restoring_l2 ++ does actions.Close S4 ∷ does actions.Open ZZ
    ∷ []) (StepsWrong S4)
    -- the control of S4 is not undone
    × tells kim_releases
    (says OPS
    (Restore kim_1 (does actions.Untag S3 ∷ does actions.Unblock S3 ∷ does actions.Close S3
    ∷ does actions.Untag S4 ∷ does actions.Unblock S4
    ∷ does actions.Close S4 ∷ does actions.Untag T1 ∷ does actions.Leave T1 ∷ [])))
    (StepsWrong S4)
    × (refused_after kim_releases (says OPS (Restore kim_1 restoring_l3)) ≡ None)
unfolding the_rules
restoring = (refl, refl, refl, refl, refl, refl, refl, refl, refl)

abbrev pub switch_tells : List Task → Refusal → Type 0
switch_tells tasks refusal = tells [] (says OPS (Switch tasks)) refusal

-- of a switch order
pub switching :
    switch_tells [] EmptyOrder
    × switch_tells too_long LongOrder
    -- the first step that neither opens nor closes, also where the network lacks an earlier one's
    -- point
    × switch_tells (does actions.Open ZZ ∷ does actions.Tag S2 ∷ does actions.Leave S3
    ∷ []) (StepsWrong S2)
    × switch_tells (does actions.Open S2 ∷ does actions.Close ZZ
    ∷ does actions.Open (codes "YY") ∷ []) (UnknownPoint ZZ)
    -- 256 steps are not too many, and a point may come often
    × (refused_after [] (says OPS (Switch (replicate 256 (does actions.Close S2)))) ≡ None)
unfolding the_rules
switching = (refl, refl, refl, refl, refl)
