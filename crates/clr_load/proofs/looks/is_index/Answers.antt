use Rattle.std.proofs.Common.{◌≡◌, ◌∙◌, ap, rules, sym}
use Rattle.sqlite_schema.specs.declared.schema.Index.{Index}
use Rattle.clr_load.proofs.Alike.{index_named}
use Rattle.clr_load.proofs.looks.is_index.Goals as goal

-- an index of another name
pub returns-then-ne : goal.returns-then-ne
returns-then-ne c = (
  λ no. absurd cc,
  λ same.
      let named : c.args.index.now.name ≡ c.index_name.result.now = ap (λ (i : Index). i.name) same ∙ index_named c.args.tree c.args.table ∙ sym c.index_name.ensures in
      search rules,
)

pub returns : goal.returns
returns c = let named = c.index_name.ensures ∙ sym (index_named c.args.tree c.args.table) in search rules
