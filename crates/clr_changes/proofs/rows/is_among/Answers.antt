use Rattle.std.proofs.Common.{◌≡◌, ◌∙◌, ℕ, List, Option, Some, None, ap, find, option_copied, sym}
use Rattle.clr_net.specs.Name.{same_name}
use Rattle.clr_changes.proofs.LookedUp.{is_found, looked_up}
use Rattle.clr_changes.proofs.rows.is_among.Goals as goal

pub returns-in-Some : goal.returns-in-Some
returns-in-Some g c =
    let name_of = g.R.Named.name_of in
    let same = g.R.Compared.same in
    let named = g.met.R.Compared.one_name in
    let row = c.args.row.now in
    let rows = c.args.rows.now in
    let told = is_found name_of same named row in
    let found = ap (λ (n : List ℕ). told (find (λ other. same_name n (name_of other)) rows)) c.name.ensures in
    c.is_same.ensures ∙ ap told (sym (ap option_copied c.in-Some.is)) ∙ ap told c.row_of.ensures ∙ found ∙ looked_up name_of same named row rows c.requires

pub returns-in-None : goal.returns-in-None
returns-in-None g c =
    let name_of = g.R.Named.name_of in
    let same = g.R.Compared.same in
    let named = g.met.R.Compared.one_name in
    let row = c.args.row.now in
    let rows = c.args.rows.now in
    let told = is_found name_of same named row in
    let found = ap (λ (n : List ℕ). told (find (λ other. same_name n (name_of other)) rows)) c.name.ensures in
    ap told (sym (ap option_copied c.in-None.is)) ∙ ap told c.row_of.ensures ∙ found ∙ looked_up name_of same named row rows c.requires
