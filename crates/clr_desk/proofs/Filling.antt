-- The edits that put points into hands add nothing: every network takes them, and stays as it is.
use Rattle.std.proofs.Common.{◌≡◌, true, List, [], ◌∷◌, map, refl}
use Rattle.clr_net.specs.Grid.{Grid}
use Rattle.clr_rules.specs.laws.Edits.{adds_nothing}
use Rattle.clr_rules.specs.Edits.{fit}
use Rattle.clr_rules.specs.declared.point_state.PointState.{PointState}
use Rattle.clr_rules.proofs.edits.Growing.{plain_fit}
use Rattle.clr_book.specs.Growth.{network_after_all}
use Rattle.clr_book.proofs.BookEdits.{plain_network}
use Rattle.clr_desk.specs.Filling.{hand_edit, position_edit}

hands_plain : (states : List PointState) → adds_nothing (map hand_edit states) ≡ true
hands_plain [] = refl
hands_plain (state ∷ states) = hands_plain states

pub hands_taken : (g : Grid) (states : List PointState) → fit g (map hand_edit states) ≡ true
hands_taken g states = plain_fit (map hand_edit states) g (hands_plain states)

positions_plain : (states : List PointState) → adds_nothing (map position_edit states) ≡ true
positions_plain [] = refl
positions_plain (state ∷ states) = positions_plain states

pub positions_taken : (g : Grid) (states : List PointState) → fit g (map position_edit states) ≡ true
positions_taken g states = plain_fit (map position_edit states) g (positions_plain states)

pub hands_keep : (g : Grid) (states : List PointState) → network_after_all (map hand_edit states) g ≡ g
hands_keep g states = plain_network (map hand_edit states) g (hands_plain states)

pub positions_keep : (g : Grid) (states : List PointState) → network_after_all (map position_edit states) g ≡ g
positions_keep g states = plain_network (map position_edit states) g (positions_plain states)
