use Rattle.std.proofs.Common.{◌≡◌, ◌∙◌, Err, FitsSigned, Ok, ap, map, refl, rules, sym, to_z-of_z, w64}
use Rattle.clr_load.specs.RowsRead.{read_version}
use Rattle.clr_load.specs.declared.fault.StoreFault.TheVariants.{BadRow}
use Rattle.clr_load.specs.declared.table_row.PointRead.{PointRead}
use Rattle.clr_load.proofs.AllGiven.{all_told}
use Rattle.clr_load.proofs.Whole.{all_read_are, meta_stops, network_stops, people_stop, version_stops, work_stops}
use Rattle.clr_load.proofs.Inside.{told_as}
use Rattle.clr_load.proofs.load.read_tables.Goals as goal

pub returns-in_err-meta : goal.returns-in_err-meta
returns-in_err-meta g c =
    let told : c.from_residual.result ≡ Err c.in_err-meta.field-0.0 = told_as _ _ c.from_residual.ensures.1 in
    rw told (meta_stops g.S.Store c.args.conn.now c.read_meta.new.conn _ _ c.in_err-meta.field-0.0 c.in_err-meta.ensures)

pub returns-in_err-version : goal.returns-in_err-version
returns-in_err-version g c =
    let bad = c.in_err-version.field-0.0 in
    let told : c.from_residual-in_err-version.result ≡ Err (BadRow bad) = told_as _ _ c.from_residual-in_err-version.ensures.1 in
    let v : read_version c.in_ok-meta.meta.items ≡ Err bad = sym (c.version_in.ensures ∙ ap read_version c.deref.ensures.value) ∙ c.in_err-version.was in
    rw told (version_stops g.S.Store c.args.conn.now c.read_meta.new.conn _ _ c.in_ok-meta.meta bad c.in_ok-meta.ensures (λ meta is. ap read_version (sym is) ∙ v))

pub returns-in_err-sections : goal.returns-in_err-sections
returns-in_err-sections g c =
    let told : c.from_residual-in_err-sections.result ≡ Err c.in_err-sections.field-0.0 = told_as _ _ c.from_residual-in_err-sections.ensures.1 in
    let v : read_version c.in_ok-meta.meta.items ≡ Ok c.in_ok-version.version = sym (c.version_in.ensures ∙ ap read_version c.deref.ensures.value) ∙ c.in_ok-version.was in
    rw told (network_stops g.S.Store c.args.conn.now c.read_meta.new.conn _ c.in_ok-meta.meta c.in_ok-version.version (λ meta is. ap read_version (sym is) ∙ v) c.in_ok-meta.ensures
    c.read_both.new.conn _ _ c.in_err-sections.field-0.0 c.in_err-sections.ensures)

pub returns-in_err-staff : goal.returns-in_err-staff
returns-in_err-staff g c =
    let told : c.from_residual-in_err-staff.result ≡ Err c.in_err-staff.field-0.0 = told_as _ _ c.from_residual-in_err-staff.ensures.1 in
    let v : read_version c.in_ok-meta.meta.items ≡ Ok c.in_ok-version.version = sym (c.version_in.ensures ∙ ap read_version c.deref.ensures.value) ∙ c.in_ok-version.was in
    rw told (people_stop g.S.Store c.args.conn.now c.read_meta.new.conn _ c.in_ok-meta.meta c.in_ok-version.version (λ meta is. ap read_version (sym is) ∙ v) c.in_ok-meta.ensures
    c.read_both.new.conn _ (c.in_ok-sections.sections, c.in_ok-sections.read) c.in_ok-sections.ensures c.read_both-2.new.conn _ _ c.in_err-staff.field-0.0 c.in_err-staff.ensures)

pub returns-in_err-steps : goal.returns-in_err-steps
returns-in_err-steps g c =
    let told : c.from_residual-in_err-steps.result ≡ Err c.in_err-steps.field-0.0 = told_as _ _ c.from_residual-in_err-steps.ensures.1 in
    let v : read_version c.in_ok-meta.meta.items ≡ Ok c.in_ok-version.version = sym (c.version_in.ensures ∙ ap read_version c.deref.ensures.value) ∙ c.in_ok-version.was in
    rw told (work_stops g.S.Store c.args.conn.now c.read_meta.new.conn _ c.in_ok-meta.meta c.in_ok-version.version (λ meta is. ap read_version (sym is) ∙ v) c.in_ok-meta.ensures
    c.read_both.new.conn _ (c.in_ok-sections.sections, c.in_ok-sections.read) c.in_ok-sections.ensures c.read_both-2.new.conn _ (c.in_ok-staff.staff, c.in_ok-staff.records) c.in_ok-staff.ensures
    c.read_both-3.new.conn _ _ c.in_err-steps.field-0.0 c.in_err-steps.ensures)

pub returns : goal.returns
returns g c =
    let fits : FitsSigned w64 c.in_ok-version.version = search rules in
    let v : read_version c.in_ok-meta.meta.items ≡ Ok c.in_ok-version.version = sym (c.version_in.ensures ∙ ap read_version c.deref.ensures.value) ∙ c.in_ok-version.was in
    all_read_are g.S.Store c.args.conn.now c.read_meta.new.conn _ c.in_ok-meta.meta c.in_ok-version.version (λ meta is. ap read_version (sym is) ∙ v) c.in_ok-meta.ensures
    c.read_both.new.conn _ (c.in_ok-sections.sections, c.in_ok-sections.read) c.in_ok-sections.ensures c.read_both-2.new.conn _ (c.in_ok-staff.staff, c.in_ok-staff.records) c.in_ok-staff.ensures
    c.read_both-3.new.conn _ _ (c.in_ok-steps.steps, c.in_ok-steps.holds) _ c.in_ok-steps.ensures
    (λ t network people work version s p e r w h net them done.
    let points = c.in_ok-points.ensures ∙ ap (map (λ (q : PointRead). q.point)) (c.deref-2.ensures.value ∙ net.1) in
    let states = c.in_ok-states.ensures ∙ ap (map (λ (q : PointRead). q.state)) (c.deref-3.ensures.value ∙ net.1) in (
      _,
      all_told t _ _ _ _ _ _ _ _ _ version s p e r w h points states,
      record {
        version = to_z-of_z fits;
        sections = net.0;
        points = refl;
        states = refl;
        staff = them.0;
        records_are = them.1;
        steps_are = done.0;
        holds_are = done.1;
      },
    ))
