-- No table is at fault where no list is.
use Rattle.std.proofs.Common.{◌≡◌, ◌↔◌, None, Some, Option, refl, sym}
use Rattle.std.specs.Prelude.{option_map}
use Rattle.std.proofs.lemmas.Option.{none-some}
use Rattle.clr_edge.specs.AtFault.{table_of_list}
use Rattle.clr_good.specs.declared.fault.ListAtFault.{ListAtFault}

pub none_told : (list : Option ListAtFault) (P : Type 0) → (list ≡ None) ↔ P → (option_map table_of_list list ≡ None) ↔ P
none_told None P exact = (λ none. exact.0 refl, λ holds. refl)
none_told (Some list) P exact =
    (λ none. absurd (none-some (table_of_list list) (sym none)), λ holds. absurd (none-some list (sym (exact.1 holds))))
