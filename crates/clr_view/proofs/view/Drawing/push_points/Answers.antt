use Rattle.std.proofs.Common.{◌≡◌, ◌∙◌, ap, map, rules, sym}
use Rattle.std.proofs.lemmas.Result.{on_ok_weaker}
use Rattle.serde_json.specs.Data.{array}
use Rattle.serde_json.specs.View.{items_of}
use Rattle.clr_net.proofs.ListFacts.{map-map}
use Rattle.clr_net.specs.Grid.{unplaced}
use Rattle.clr_text.specs.Json.{list_data}
use Rattle.clr_view.proofs.Tokens.{adds_as}
use Rattle.clr_view.specs.Tokens.{member_tokens}
use Rattle.clr_view.specs.View.{point_data}
use Rattle.clr_view.proofs.view.Drawing.push_points.Goals as goal

pub returns : goal.returns
returns g c =
    let R = c.args.self.now in
    let rows = c.points.result.now in
    let shown : map unplaced rows ≡ R.net.points = search rules in
    let same : list_data (point_data R) rows ≡ list_data (point_data R) R.net.points =
    ap (λ ds. array (items_of ds)) (sym (map-map (point_data R) unplaced rows)) ∙ ap (list_data (point_data R)) shown in
    on_ok_weaker c.push_point_list.result
    (adds_as _ _ c.args.out.now c.push_point_list.new.out (ap (member_tokens c.args.key.now) same)) c.push_point_list.ensures
