use Rattle.std.proofs.Common.{◌≡◌, Err, List, ap, inl, inr, map, refl, subst, ℕ}
use Rattle.std.specs.Borrow.{Bor}
use Rattle.clr_changes.specs.Shown.{as_update}
use Rattle.clr_commands.specs.Import.{lists_of}
use Rattle.clr_commands.specs.Update.{IsUpdateTo, RefusesUpdate}
use Rattle.clr_commands.proofs.Updating.{refused-fault}
use Rattle.clr_commands.proofs.update.update_to_rows.Goals as goal

-- the update that rows and words say is carried out
pub returns-clause-visit : goal.returns-clause-visit
returns-clause-visit g c =
    let update = as_update c.in_ok-update.update in
    let same = ap (λ (words : List (Bor (List ℕ))). map (λ word. word.now) words) c.as_slice.ensures.value in
    inr (
      update,
      subst (λ (words : List (List ℕ)). IsUpdateTo (lists_of c.args.rows) words update) same c.in_ok-update.ensures.update,
      c.update_register.ensures.visit,
    )

-- or they say none
pub returns-in_err-update-clause-visit : goal.returns-in_err-update-clause-visit
returns-in_err-update-clause-visit g c =
    let fault = c.in_err-update.field-0.0 in
    let same = ap (λ (words : List (Bor (List ℕ))). map (λ word. word.now) words) c.as_slice.ensures.value in
    inl (
      refused-fault {U = Unit {0}} (lists_of c.args.rows) _ _ (Err fault) fault c.from_residual.ensures.1 refl
          (subst (λ (words : List (List ℕ)). RefusesUpdate {T = Unit {0}} (lists_of c.args.rows) words (Err fault)) same c.in_err-update.ensures.refused),
      refl,
    )
