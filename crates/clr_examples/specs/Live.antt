-- EXAMPLES OF LIVE SECTIONS in the worked network.
use Rattle.std.specs.Prelude.{◌≡◌, Bool, true, false, List, [], ◌∷◌, ◌++◌, map, refl}
use Rattle.clr_rules.specs.Live.{is_live}
use Rattle.clr_rules.specs.Register.{Register}
use Rattle.clr_examples.specs.Worked.{G, H, L1, L2, L3, Saying, kim_is_granted, l2_granted}
use Rattle.clr_examples.specs.Worked.{register_after, s2_opened, s3_opened, worked_net, the_rules}

-- whether G, H, L1, L2 and L3 are live, in this order, after all this was said
abbrev pub live_after : List Saying → List Bool
live_after said =
    map (is_live (Register.net (register_after said)) (Register.states (register_after said))) (G
    ∷ H ∷ L1 ∷ L2 ∷ L3 ∷ [])

-- all at first; a section whose border is open is not
pub sections :
    -- with S1 to S4 closed all are
    (live_after [] ≡ true ∷ true ∷ true ∷ true ∷ true ∷ [])
    -- S2 is opened: H feeds L2 over S3 and S4
    × (live_after s2_opened ≡ true ∷ true ∷ true ∷ true ∷ true ∷ [])
    -- S3 too: L2 is dead, and its neighbours are not
    × (live_after s3_opened ≡ true ∷ true ∷ true ∷ false ∷ true ∷ [])
    -- KIM's order has S3, S4 and T1 open beside it: L3 is dead as well. A source is always live
    × (live_after (l2_granted ++ kim_is_granted) ≡ true ∷ true ∷ true ∷ false ∷ false ∷ [])
    -- over a point without a state nothing is fed
    × (map (is_live worked_net []) (G ∷ H ∷ L1 ∷ L2 ∷ L3 ∷ [])
    ≡ true ∷ true ∷ false ∷ false ∷ false ∷ [])
unfolding the_rules
sections = (refl, refl, refl, refl, refl)
