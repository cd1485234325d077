use Rattle.std.proofs.Common.{◌≡◌, ◌∙◌, ℕ, true, List, [], ◌∷◌, ap, map, refl, rules}
use Rattle.std.specs.List.{list_all}
use Rattle.clr_rules.specs.Holds.{hold_of}
use Rattle.clr_rules.specs.Id.{Id}
use Rattle.clr_rules.specs.declared.change.Edit.TheVariants.{TakeHold}
use Rattle.clr_rules.specs.declared.hold_kind.HoldKind.TheVariants.{Tested}
use Rattle.clr_answer.specs.Effect.{leaves_rows}
use Rattle.clr_answer.proofs.kinds.release.effect.Goals as goal

takes_leave : (c : Id) (sections : List (List ℕ)) → list_all leaves_rows (map (λ place. TakeHold (hold_of c Tested place)) sections) ≡ true
takes_leave c [] = refl
takes_leave c (section ∷ sections) = takes_leave c sections

pub returns-clause-of : goal.returns-clause-of
returns-clause-of c = record {
  own = search rules;
  lead = ap (list_all leaves_rows) c.in_ok-lead.ensures ∙ takes_leave c.args.asked.id c.deref.result.now;
  rising = search rules;
}
