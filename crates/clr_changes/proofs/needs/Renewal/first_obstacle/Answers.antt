use Rattle.std.proofs.Common.{◌≡◌, ◌∙◌, [], ◌∷◌, ◌++◌, ap, map, Bor, sym}
use Rattle.clr_rules.specs.declared.record.Record.{Record}
use Rattle.clr_update.specs.Update.{open_records, standing_records}
use Rattle.clr_changes.specs.Needs.{Renewal}
use Rattle.clr_changes.specs.Parts.{first_rows, staff_obstacles}
use Rattle.clr_changes.specs.declared.needs.Need.TheVariants.{Section, Point, Step, Work, Holder, Reader, Requester}
use Rattle.clr_changes.proofs.InParts.{none_then, some_or_none, some_then}
use Rattle.clr_changes.proofs.needs.Renewal.first_obstacle.Goals as goal

pub first_near-requires : goal.first_near-requires
first_near-requires g c =
    ap (map (λ (r : Bor Record). r.now)) c.deref.ensures.value ∙ c.in_ok-records.ensures ∙ ap (λ (V : Renewal). V.before.records) c.self.view_is

pub first_open-requires : goal.first_open-requires
first_open-requires g c =
    ap (map (λ (r : Bor Record). r.now)) c.deref-2.ensures.value ∙ c.in_ok-records.ensures ∙ ap (λ (V : Renewal). V.before.records) c.self.view_is

pub returns-then-is_some : goal.returns-then-is_some
returns-then-is_some g c =
    let V = c.args.self.now in
    let near = first_rows V (Section ∷ Point ∷ []) (standing_records V.before) in
    let rest = first_rows V (Step ∷ Work ∷ Holder ∷ Reader ∷ Requester ∷ []) (open_records V.before) in
    c.in_ok-near.ensures ∙ sym (some_then near (rest ++ staff_obstacles V) c.in_ok-near.near c.in_ok-near.ensures (sym c.is_some.ensures ∙ c.if-is_some.true))

pub returns-then-is_some-2 : goal.returns-then-is_some-2
returns-then-is_some-2 g c =
    let V = c.args.self.now in
    let near = first_rows V (Section ∷ Point ∷ []) (standing_records V.before) in
    let rest = first_rows V (Step ∷ Work ∷ Holder ∷ Reader ∷ Requester ∷ []) (open_records V.before) in
    c.in_ok-unclosed.ensures
    ∙ sym (some_then rest (staff_obstacles V) c.in_ok-unclosed.unclosed c.in_ok-unclosed.ensures (sym c.is_some-2.ensures ∙ c.if-is_some-2.true))
    ∙ sym (none_then near (rest ++ staff_obstacles V) (some_or_none c.in_ok-near.near near c.in_ok-near.ensures (sym c.is_some.ensures ∙ c.if-is_some.false)))

pub returns : goal.returns
returns g c =
    let V = c.args.self.now in
    let near = first_rows V (Section ∷ Point ∷ []) (standing_records V.before) in
    let rest = first_rows V (Step ∷ Work ∷ Holder ∷ Reader ∷ Requester ∷ []) (open_records V.before) in
    c.in_ok-missing.ensures
    ∙ sym (none_then rest (staff_obstacles V) (some_or_none c.in_ok-unclosed.unclosed rest c.in_ok-unclosed.ensures (sym c.is_some-2.ensures ∙ c.if-is_some-2.false)))
    ∙ sym (none_then near (rest ++ staff_obstacles V) (some_or_none c.in_ok-near.near near c.in_ok-near.ensures (sym c.is_some.ensures ∙ c.if-is_some.false)))
