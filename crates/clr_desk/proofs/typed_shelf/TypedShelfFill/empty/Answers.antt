use Rattle.std.proofs.Common.{◌∙◌, sym}
use Rattle.clr_desk.proofs.Shelved.{shelved_none}
use Rattle.clr_desk.proofs.typed_shelf.TypedShelfFill.empty.Goals as goal

pub returns : goal.returns
returns g c = c.empty.ensures ∙ sym (shelved_none g.R.Row.key_cmp g.R.Row.key_of)
