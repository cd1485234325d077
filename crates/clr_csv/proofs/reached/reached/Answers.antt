use Rattle.std.proofs.Common.{◌∙◌, ap, sym}
use Rattle.clr_net.specs.Names.{has_name}
use Rattle.clr_csv.proofs.Sources.{reached_new, reached_no, reached_old}
use Rattle.clr_csv.proofs.reached.reached.Goals.{then-section+then-not-has_name+in_ok-fence+in_ok-push_sections, else-section, else-section-via-then-section+else-not-has_name, else-section-via-else-section}
use Rattle.clr_csv.proofs.reached.reached.Goals as goal

-- one more section: a source whose fence is added, one that is reached already, or no source
pub loop-section-preserved : goal.loop-section-preserved
loop-section-preserved c =
    let g = c.args.network.now in
    let net = c.sections-section-items.ensures.network in
    let rows = c.sections-section-items.result.now in
    let i = c.loop-section.section-index in
    let row = c.section-item.result in
    let inside = c.loop-section-test.true in
    let names = c.loop-section.names.items in
    elim c.if-section.branch [
      | then-section+then-not-has_name+in_ok-fence+in_ok-push_sections w ↦
          reached_new g net rows i row c.section-item.is inside names c.loop-section.invariant w.in_ok-fence.fence w.in_ok-fence.ensures.walks w.if-section.true
          c.if-section.names.items (ap (λ v. v.items) w.names-is ∙ w.in_ok-push_sections.ensures)
      | else-section w ↦ λ s. ap (λ v. has_name v.items s) w.names-is ∙ (elim w.else-section.branch [
        | else-section-via-then-section+else-not-has_name w' ↦
            reached_old g net rows i row c.section-item.is inside names c.loop-section.invariant
            (ap (λ l. has_name l row.name) (sym w'.deref.ensures.value) ∙ sym w'.has_name.ensures ∙ w'.if-not-has_name.false) s
        | else-section-via-else-section w' ↦ reached_no g net rows i row c.section-item.is inside names c.loop-section.invariant w'.if-section.false s
      ])
    ]
