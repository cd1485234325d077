use Rattle.std.proofs.Common.{◌≡◌, ◌∙◌, ◌++◌, ◌∷◌, [], ◌+◌, Some, None, Bor, map, drop, get_or, ap, sym, slice_get, filter_map, option_copied}
use Rattle.std.proofs.lemmas.List.{append_assoc, drop_more, map-append}
use Rattle.clr_net.proofs.PlaceLists.{got_is}
use Rattle.clr_net.proofs.fence.rows_at.Goals.{in-Some+in_ok-push, in_default}
use Rattle.clr_net.proofs.fence.rows_at.Goals as goal

pub loop-place-preserved : goal.loop-place-preserved
loop-place-preserved g c =
    let rows = c.args.rows.now in
    let places = c.args.places.now in
    let i = c.loop-place.place-index in
    let place = get_or places i 0 in
    let left = drop (i + 1) places in
    let shows = λ (row : Bor g.row.R.Denot). row.now in
    let found = c.loop-place.found.items in
    let step : drop i places ≡ place ∷ left = drop_more places i 0 c.loop-place-test.true in
    let before = ap (λ more. map shows found ++ filter_map (slice_get rows) more) (sym step) ∙ c.loop-place.invariant in
    let got = got_is rows place c.get.result c.get.ensures.lookup in
    elim c.match-get.branch [
      | in-Some+in_ok-push w ↦
          let read : slice_get rows place ≡ Some w.in-Some.row.now = got ∙ ap option_copied w.in-Some.is in
          rw (w.found-is, w.in_ok-push.ensures.items)
          (ap (λ all. all ++ filter_map (slice_get rows) left) (map-append shows found (w.in-Some.row ∷ []))
          ∙ append_assoc (map shows found) (w.in-Some.row.now ∷ []) (filter_map (slice_get rows) left)
          ∙ (rw read at before))
      | in_default w ↦
          let read : slice_get rows place ≡ None = got ∙ ap option_copied w.in_default.is in
          rw w.found-is (rw read at before)
    ]
