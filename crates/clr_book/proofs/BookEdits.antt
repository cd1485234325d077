-- One turn of a loop over edits, and of one over points.
use Rattle.std.proofs.Common.{◌≡◌, true, false, not, List, [], ◌∷◌, ◌++◌, refl, ◌∙◌, ap}
use Rattle.std.proofs.lemmas.List.{append_assoc}
use Rattle.std.proofs.lemmas.Bool.{and_parts}
use Rattle.clr_net.specs.Grid.{Grid, IsNetwork}
use Rattle.clr_net.specs.Name.{name_cmp}
use Rattle.clr_shelf.specs.Rows.{in_key_order, with_row}
use Rattle.clr_rules.specs.laws.Edits.{adds, adds_nothing}
use Rattle.clr_rules.specs.Edits.{after_edit, after_edits, fit, fits_edit, net_after}
use Rattle.clr_rules.specs.Answer.{Answer, answer_with}
use Rattle.clr_rules.specs.Near.{Near, near_of}
use Rattle.clr_rules.specs.Register.{Register}
use Rattle.clr_rules.specs.Command.{is_jumper}
use Rattle.clr_rules.specs.declared.command.Command.{Command}
use Rattle.clr_rules.specs.declared.command.Kind.{Kind}
use Rattle.clr_rules.specs.declared.command.Kind.TheVariants.{Jumper}
use Rattle.clr_rules.specs.declared.change.Edit.TheVariants.{AddPoint, AddSection}
use Rattle.clr_rules.proofs.edits.EditedLists.{not_false}
use Rattle.clr_rules.proofs.edits.Growing.{answers_fit, plain_fit}
use Rattle.clr_rules.proofs.edits.PlainEdits.{answers_with_plain}
use Rattle.clr_rules.specs.States.{state_key}
use Rattle.clr_rules.specs.declared.change.Edit.{Edit}
use Rattle.clr_rules.specs.declared.point_state.PointState.{PointState}
use Rattle.clr_book.specs.Book.{Fits, Shelved, need_of, needs}
use Rattle.clr_book.specs.Growth.{network_after, network_after_all}
use Rattle.clr_book.proofs.BookRooms.{room_left}
use Rattle.clr_book.proofs.StateFacts.{front_lower, with_row-end}

-- an edit is made, in the room for it and for those after it, of a network that takes them
pub edit_step : (edit : Edit) (rest : List Edit) (before after : Shelved) → Fits (needs (edit ∷ rest)) before.room → Fits before.room (need_of edit after.room)
    → fit before.register.net (edit ∷ rest) ≡ true → after.register ≡ after_edit edit before.register
    → Fits (needs rest) after.room × (fit after.register.net rest ≡ true) × (after_edits rest after.register ≡ after_edits (edit ∷ rest) before.register)
unfolding after_edits fit
edit_step edit rest before after fits left taken made = (
  room_left edit (needs rest) before.room after.room fits left,
  ap (λ (R : Register). fit R.net rest) made ∙ (and_parts (fits_edit before.register.net edit) (fit (net_after edit before.register.net) rest) taken).1,
  ap (after_edits rest) made,
)

-- the network takes the first of edits that it takes
pub first_taken : (g : Grid) (edit : Edit) (rest : List Edit) → fit g (edit ∷ rest) ≡ true → fits_edit g edit ≡ true
unfolding fit
first_taken g edit rest taken = (and_parts (fits_edit g edit) (fit (net_after edit g) rest) taken).0

-- the network takes the edits of an answer from the near part
pub answers_taken : (R : Register) → IsNetwork R.net → (q : Command) → fit R.net (Answer.edits (answer_with (Near.known (near_of R q)) (Near.rows (near_of R q)) q)) ≡ true
answers_taken R net q = at q.kind refl
  where
    at : (kind : Kind) → q.kind ≡ kind → fit R.net (Answer.edits (answer_with (Near.known (near_of R q)) (Near.rows (near_of R q)) q)) ≡ true
    at (Jumper point from to lockable remote) is =
        rw is (answers_fit R (record { caller = q.caller; moment = q.moment; kind = Jumper point from to lockable remote }) net)
    at _ is =
        let near = near_of R q in
        plain_fit (Answer.edits (answer_with near.known near.rows q)) R.net (answers_with_plain near.known near.rows q (ap is_jumper is))

-- what an edit and those after it add to the network
pub network_step : (edit : Edit) (rest : List Edit) (before after : Grid) → after ≡ network_after edit before
    → network_after_all rest after ≡ network_after_all (edit ∷ rest) before
unfolding network_after_all
network_step edit rest before after made = ap (network_after_all rest) made

pub network_end : (g : Grid) → network_after_all [] g ≡ g
unfolding network_after_all
network_end g = refl

plain_network_after : (edit : Edit) (g : Grid) → adds edit ≡ false → network_after edit g ≡ g
plain_network_after (AddSection row) g plain = absurd cc
plain_network_after (AddPoint p) g plain = absurd cc
plain_network_after _ g plain = refl

-- edits that add nothing leave the network
pub plain_network : (edits : List Edit) (g : Grid) → adds_nothing edits ≡ true → network_after_all edits g ≡ g
unfolding network_after_all
plain_network [] g plain = refl
plain_network (edit ∷ edits) g plain =
    let (one, others) = and_parts (not (adds edit)) (adds_nothing edits) plain in
    ap (network_after_all edits) (plain_network_after edit g (not_false (adds edit) one)) ∙ plain_network edits g others

-- a state is put after those of lower points
pub state_step : (front back : List PointState) (state : PointState) → in_key_order name_cmp state_key (front ++ state ∷ back) ≡ true
    → with_row name_cmp state_key state front ++ back ≡ front ++ state ∷ back
state_step front back state ordered =
    ap (λ rows. rows ++ back) (with_row-end name_cmp state_key state front (front_lower name_cmp state_key state front back ordered)) ∙ append_assoc front (state ∷ []) back
