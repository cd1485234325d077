use Rattle.std.proofs.Common.{◌≡◌, ◌∙◌, ◌++◌, ◌∷◌, [], ◌+◌, Some, None, drop, get_or, ap, sym}
use Rattle.std.specs.Prelude.{slice_get}
use Rattle.std.specs.List.{filter_map}
use Rattle.std.specs.Option.{option_copied}
use Rattle.std.proofs.lemmas.List.{append_assoc, drop_more}
use Rattle.clr_net.proofs.PlaceLists.{got_is}
use Rattle.clr_net.specs.Grid.{section_names}
use Rattle.clr_book.proofs.near.fence.names_at.Goals as goal
use Rattle.clr_book.proofs.near.fence.names_at.Goals.{in-Some+in_ok-push, in_default}

pub loop-place-preserved : goal.loop-place-preserved
loop-place-preserved c =
    let rows = c.args.sections.now in
    let places = c.args.places.now in
    let i = c.loop-place.place-index in
    let place = get_or places i 0 in
    let left = drop (i + 1) places in
    let names = c.loop-place.names.items in
    let step : drop i places ≡ place ∷ left = drop_more places i 0 c.loop-place-test.true in
    let before = ap (λ more. names ++ section_names (filter_map (slice_get rows) more)) (sym step) ∙ c.loop-place.invariant in
    let got = got_is rows place c.get.result c.get.ensures.lookup in
    elim c.match-get.branch [
      | in-Some+in_ok-push w ↦
          let read : slice_get rows place ≡ Some w.in-Some.row.now = got ∙ ap option_copied w.in-Some.is in
          rw (w.names-is, w.in_ok-push.ensures.items)
          (append_assoc names (w.in-Some.row.now.name ∷ []) (section_names (filter_map (slice_get rows) left))
          ∙ (rw read at before))
      | in_default w ↦
          let read : slice_get rows place ≡ None = got ∙ ap option_copied w.in_default.is in
          rw w.names-is (rw read at before)
    ]
