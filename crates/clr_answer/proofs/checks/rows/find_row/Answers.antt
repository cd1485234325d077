use Rattle.std.proofs.Common.{◌∙◌, Bor, ap, rules, sym}
use Rattle.std.specs.Prelude.{option_copied}
use Rattle.std.proofs.lemmas.Fn.{always_returns_same}
use Rattle.clr_shelf.proofs.Places.{none_in_gap, row_at, searched}
use Rattle.clr_answer.proofs.LentRows.{in_key_order-lent, row_of-lent}
use Rattle.clr_answer.proofs.checks.rows.find_row.Goals as goal

pub returns-in-Ok : goal.returns-in-Ok
returns-in-Ok g c =
    let key_of = λ (row : Bor g.row.R.Denot). g.R.Row.key_of row.now in
    let order = g.met.R.Row.key_order in
    let rows = c.args.rows.now in
    let by_key = c.binary_search_by.ensures.position (λ row. g.R.Row.key_cmp (key_of row) c.args.key.now) (always_returns_same _ _ _ (λ a r f h. search rules)) in
    let rise = in_key_order-lent g.R.Row.key_cmp g.R.Row.key_of rows c.requires in
    let found = searched g.R.Row.key_cmp key_of order c.args.key.now rows c.binary_search_by.result rise c.binary_search_by.ensures.bound by_key in
    sym (row_of-lent g.R.Row.key_cmp g.R.Row.key_of c.args.key.now rows
    ∙ ap option_copied (row_at g.R.Row.key_cmp key_of order c.args.key.now rows c.in-Ok.place c.index-rows-place.result rise (rw c.in-Ok.is at found.found) c.index-rows-place.is))

pub returns-in-Err : goal.returns-in-Err
returns-in-Err g c =
    let key_of = λ (row : Bor g.row.R.Denot). g.R.Row.key_of row.now in
    let order = g.met.R.Row.key_order in
    let rows = c.args.rows.now in
    let by_key = c.binary_search_by.ensures.position (λ row. g.R.Row.key_cmp (key_of row) c.args.key.now) (always_returns_same _ _ _ (λ a r f h. search rules)) in
    let rise = in_key_order-lent g.R.Row.key_cmp g.R.Row.key_of rows c.requires in
    let found = searched g.R.Row.key_cmp key_of order c.args.key.now rows c.binary_search_by.result rise c.binary_search_by.ensures.bound by_key in
    sym (row_of-lent g.R.Row.key_cmp g.R.Row.key_of c.args.key.now rows
    ∙ ap option_copied (none_in_gap g.R.Row.key_cmp key_of order c.args.key.now rows c.in-Err.field-0 (rw c.in-Err.is at found.absent)))
