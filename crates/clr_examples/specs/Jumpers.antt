-- EXAMPLES OF JUMPERS: JONES has L2 and L3 ordered, cut at S2, S4 and T1. OPS lays a jumper inside
-- that fence, and one outside it to a section that is new; and each jumper that is refused.
use Rattle.std.specs.Prelude.{◌≡◌, ℕ, true, false, List, [], ◌∷◌, ◌++◌, codes, Some, refl}
use Rattle.clr_rules.specs.Prelude.{PointRow}
use Rattle.clr_net.specs.declared.point.Position.TheVariants.{Opened}
use Rattle.clr_rules.specs.Answer.{Answer}
use Rattle.clr_rules.specs.Fences.{clearance_fence}
use Rattle.clr_rules.specs.Near.{near_of}
use Rattle.clr_rules.specs.Register.{unplaced_net}
use Rattle.clr_examples.specs.Worked.{JONES, L1, L2, L3, OPS, S2, S4, Saying, T1, ZZ, answer_after}
use Rattle.clr_examples.specs.Worked.{isolating_l2_and_l3, jones_1, kim_1, kim_has_both, l2_asked}
use Rattle.clr_examples.specs.Worked.{l2_granted, l2_restoring, refused, register_after, said_at}
use Rattle.clr_examples.specs.Worked.{says, worked_net, worked_staff, the_rules}
use Rattle.clr_examples.specs.WorkedRows.{jones_record, l2_steps_done}
use Rattle.clr_rules.specs.declared.change.Edit.{Edit}
use Rattle.clr_rules.specs.declared.change.Edit.TheVariants.{AddSection, AddPoint}
use Rattle.clr_rules.specs.declared.phase.Phase.TheVariants.{Restoring}
use Rattle.clr_rules.specs.declared.refusal.Refusal.{Refusal}
use Rattle.clr_rules.specs.declared.command.Kind.TheVariants.{Order, Jumper}
use Rattle.clr_rules.specs.declared.reply.Reply.TheVariants.{Added}
use Rattle.clr_rules.specs.declared.refusal.Refusal.TheVariants.{UnknownCaller, WrongRole}
use Rattle.clr_rules.specs.declared.refusal.Refusal.TheVariants.{UnknownSection, PointExists}
use Rattle.clr_rules.specs.declared.refusal.Refusal.TheVariants.{CrossesFence, SameEnds}

abbrev pub J1 : List ℕ
J1 = codes "J1"

abbrev pub J2 : List ℕ
J2 = codes "J2"

-- a section that is new
abbrev pub X1 : List ℕ
X1 = codes "X1"

-- a jumper that can be locked, and is not controlled from afar
abbrev pub laid : List ℕ → List ℕ → List ℕ → PointRow
laid point from to = record {
  name = point;
  from_end = from;
  to_end = to;
  lockable = true;
  remote = false;
  position = Opened;
  jumper = true;
}

abbrev pub lays : List ℕ → List ℕ → List ℕ → List ℕ → Saying
lays caller point from to = says caller (Jumper point from to true false)

abbrev pub added : List ℕ → List Edit → Answer
added point edits = record { reply = Added point; edits = edits }

-- JONES asks for L2, and OPS orders it at S2, S4 and T1: the fence is L2 and L3
abbrev pub both_ordered : List Saying
both_ordered =
    l2_asked ++ says OPS (Order jones_1 (S2 ∷ S4 ∷ T1 ∷ []) isolating_l2_and_l3) ∷ []

-- J1 lies inside that fence
abbrev pub j1_laid : List Saying
j1_laid = both_ordered ++ lays OPS J1 L2 L3 ∷ []

-- and J2 outside it
abbrev pub j2_laid : List Saying
j2_laid = j1_laid ++ lays OPS J2 L1 X1 ∷ []

-- the fence stays
pub seeing :
    clearance_fence (register_after j2_laid) jones_1 ≡ L2 ∷ L3 ∷ []
unfolding the_rules
seeing = refl

-- after the first jumper, whoever lays the next
abbrev pub jumper_tells : Saying → Refusal → Type 0
jumper_tells next refusal = answer_after j1_laid next ≡ refused refusal

-- each refusal before the next
pub refusals :
    jumper_tells (lays ZZ J1 ZZ L2) UnknownCaller
    × jumper_tells (lays JONES J1 ZZ L2) WrongRole
    -- also where both ends have the name of a section that is not there
    × jumper_tells (lays OPS J1 ZZ L2) UnknownSection
    × jumper_tells (lays OPS J2 ZZ ZZ) UnknownSection
    × jumper_tells (lays OPS J1 L1 L2) PointExists
    × jumper_tells (lays OPS J2 L1 L2) (CrossesFence jones_1)
    -- a new section lies in no fence
    × jumper_tells (lays OPS J2 L3 X1) (CrossesFence jones_1)
    × jumper_tells (lays OPS J2 L1 L1) SameEnds
    × jumper_tells (lays OPS J2 L2 L2) SameEnds
unfolding the_rules
refusals = (refl, refl, refl, refl, refl, refl, refl, refl, refl)

-- of several clearances whose fence would be crossed, the least
pub least :
    -- JONES has L2, and KIM has L2 and L3: of two clearances the lesser is named, and each where it
    -- alone is crossed
    (answer_after (l2_granted ++ kim_has_both) (lays OPS J2 L1 L2)
    ≡ refused (CrossesFence jones_1))
    × (answer_after (l2_granted ++ kim_has_both) (lays OPS J2 L2 L3)
    ≡ refused (CrossesFence jones_1))
    × (answer_after (l2_granted ++ kim_has_both) (lays OPS J2 L1 L3)
    ≡ refused (CrossesFence kim_1))
unfolding the_rules
least = (refl, refl, refl)

-- a point between known sections, and one to a new section
pub adding :
    (answer_after both_ordered (lays OPS J1 L2 L3) ≡ added J1 (AddPoint (laid J1 L2 L3) ∷ []))
    -- the section first, if it is new
    × (answer_after j1_laid (lays OPS J2 L1 X1)
    ≡ added J2 (AddSection (record { name = X1; source = false }) ∷ AddPoint (laid J2 L1 X1) ∷ []))
    -- what is only asked for has no fence
    × (answer_after l2_asked (lays OPS J1 L1 L2) ≡ added J1 (AddPoint (laid J1 L1 L2) ∷ []))
unfolding the_rules
adding = (refl, refl, refl)

-- a jumper looks at the network, the records and the steps of the first rounds: of JONES/1, which
-- is Restoring, not the second; no position, hand or hold
pub near :
    near_of (register_after l2_restoring) (said_at 200 (lays OPS J1 L1 L2)) ≡ record {
      known = record { greatest = 0; fence = []; crossed = Some jones_1 };
      rows = record {
        net = unplaced_net worked_net;
        staff = worked_staff;
        states = [];
        records = jones_record Restoring 127 ∷ [];
        steps = l2_steps_done;
        holds = [];
      };
    }
unfolding the_rules
near = refl
