-- The tables read in turn: the version, the network, the people, and their work.
use Rattle.std.proofs.Common.{◌≡◌, ◌∙◌, ℤ, List, Result, Ok, Err, true, ap, refl}
use Rattle.sqlite.specs.Held.{Held}
use Rattle.sqlite.specs.Order.{Row}
use Rattle.sqlite.specs.Store.{Ghosts}
use Rattle.clr_net.specs.declared.section.SectionRow.{SectionRow}
use Rattle.clr_staff.specs.declared.employee.StaffRow.{StaffRow}
use Rattle.clr_rules.specs.declared.hold.Hold.{Hold as HoldRow}
use Rattle.clr_rules.specs.declared.record.Record.{Record}
use Rattle.clr_rules.specs.declared.step_row.StepRow.{StepRow}
use Rattle.clr_load.specs.RowsRead.{PointRead as ReadPoint, Rows, all_read, read_clearance, read_hold, read_point, read_section, read_staff, read_step, read_version, rows_read}
use Rattle.clr_load.specs.Tables.{Tables}
use Rattle.clr_load.specs.declared.table_name.TableName.{TableName}
use Rattle.clr_load.specs.declared.table_name.TableName.TheVariants.{Meta, Section, Staff, Clearance, Step, Hold, NetworkPoint}
use Rattle.clr_load.specs.Filling.{GivesInto}
use Rattle.clr_load.specs.Layout.{Layout, has_rows, is_two}
use Rattle.clr_load.specs.Loads.{Loads, both_fit, both_read}
use Rattle.clr_load.specs.Reading.{point_values}
use Rattle.clr_load.specs.Stored.{rows_in}
use Rattle.clr_load.specs.declared.fault.StoreFault.{StoreFault}
use Rattle.clr_load.specs.declared.fault.StoreFault.TheVariants.{BadRow}
use Rattle.clr_load.specs.declared.table_row.PointRead.{PointRead}
use Rattle.clr_load.proofs.AllGiven.{joined, points_are, points_fail, rows_joined}
use Rattle.clr_load.proofs.Loading.{both_in_two}
use Rattle.clr_load.proofs.Staying.{loads_in, loads_not, none_loads, then_fails, then_loads}

abbrev pub meta_of : Layout → Tables → Result (List Row) TableName
meta_of l t = Ok t.meta

abbrev pub network_of : Layout → Tables → Result (List SectionRow × List PointRead) TableName
network_of l t = both_read (all_read read_section (rows_in l Section t)) (all_read point_values (rows_in l NetworkPoint t))

abbrev pub people_of : Layout → Tables → Result (List StaffRow × List Record) TableName
people_of l t = both_read (all_read read_staff (rows_in l Staff t)) (all_read read_clearance (rows_in l Clearance t))

abbrev pub work_of : Layout → Tables → Result (List StepRow × List HoldRow) TableName
work_of l t = both_read (all_read read_step (rows_in l Step t)) (all_read read_hold (rows_in l Hold t))

-- ---- two values, one after the other
pub both_give : {A B : Type 0} (p : Result A TableName) (q : Result B TableName) (v : A × B) → both_read p q ≡ Ok v → (p ≡ Ok v.0) × (q ≡ Ok v.1)
both_give (Ok a) (Ok b) v is = let same : (a, b) ≡ v = cc in (ap (λ x. Ok x.0) same, ap (λ x. Ok x.1) same)
both_give (Ok a) (Err t) v is = absurd cc
both_give (Err t) q v is = absurd cc

network_fails : (s : Result (List SectionRow) TableName) (q : Result (List PointRead) TableName) (p : Result (List ReadPoint) TableName) → ((t : TableName) → q ≡ Err t → p ≡ Err t)
    → (version : ℤ) (e : Result (List StaffRow) TableName) (r : Result (List Record) TableName) (w : Result (List StepRow) TableName) (h : Result (List HoldRow) TableName) (bad : TableName)
    → both_read s q ≡ Err bad → rows_joined (Ok version) s p e r w h ≡ Err bad
network_fails (Err t) q p fails version e r w h bad is = let same : t ≡ bad = cc in ap Err same
network_fails (Ok s) (Err t) p fails version e r w h bad is = let same : t ≡ bad = cc in rw (fails t refl) (ap Err same)
network_fails (Ok s) (Ok q) p fails version e r w h bad is = absurd cc

people_fail : (e : Result (List StaffRow) TableName) (r : Result (List Record) TableName) (version : ℤ) (s : List SectionRow) (p : List ReadPoint)
    → (w : Result (List StepRow) TableName) (h : Result (List HoldRow) TableName) (bad : TableName)
    → both_read e r ≡ Err bad → rows_joined (Ok version) (Ok s) (Ok p) e r w h ≡ Err bad
people_fail (Err t) r version s p w h bad is = let same : t ≡ bad = cc in ap Err same
people_fail (Ok e) (Err t) version s p w h bad is = let same : t ≡ bad = cc in ap Err same
people_fail (Ok e) (Ok r) version s p w h bad is = absurd cc

work_fails : (w : Result (List StepRow) TableName) (h : Result (List HoldRow) TableName) (version : ℤ) (s : List SectionRow) (p : List ReadPoint) (e : List StaffRow) (r : List Record) (bad : TableName)
    → both_read w h ≡ Err bad → rows_joined (Ok version) (Ok s) (Ok p) (Ok e) (Ok r) w h ≡ Err bad
work_fails (Err t) h version s p e r bad is = let same : t ≡ bad = cc in ap Err same
work_fails (Ok w) (Err t) version s p e r bad is = let same : t ≡ bad = cc in ap Err same
work_fails (Ok w) (Ok h) version s p e r bad is = absurd cc

module _ (t : Tables) (version : ℤ) (v : read_version t.meta ≡ Ok version) where
  pub no_network : (l : Layout) (bad : TableName) → network_of l t ≡ Err bad → rows_read t ≡ Err bad
  no_network l bad is = joined t ∙ rw v (network_fails (all_read read_section t.sections) (all_read point_values t.points) (all_read read_point t.points) (λ bad. points_fail t.points bad) version _ _ _ _ bad is)

  pub no_people : (l : Layout) (net : List SectionRow × List PointRead) (bad : TableName) → network_of l t ≡ Ok net → people_of l t ≡ Err bad → rows_read t ≡ Err bad
  no_people l net bad n is =
      let parts = both_give _ _ net n in
      let them = points_are t.points net.1 parts.1 in
      joined t ∙ rw (v, parts.0, them.read_is) (people_fail (all_read read_staff t.staff) (all_read read_clearance t.clearances) version net.0 them.points _ _ bad is)

  pub no_work : (l : Layout) (net : List SectionRow × List PointRead) (people : List StaffRow × List Record) (bad : TableName) → network_of l t ≡ Ok net → people_of l t ≡ Ok people
      → work_of l t ≡ Err bad → rows_read t ≡ Err bad
  no_work l net people bad n p is =
      let parts = both_give _ _ net n in
      let them = points_are t.points net.1 parts.1 in
      let others = both_give _ _ people p in
      joined t ∙ rw (v, parts.0, them.read_is, others.0, others.1) (work_fails (all_read read_step t.steps) (all_read read_hold t.holds) version net.0 them.points people.0 people.1 bad is)

-- ---- the calls that read them
network_fits : (l : Layout) → is_two l ≡ true → both_fit Section NetworkPoint l ≡ true
network_fits l two = both_in_two l two

module _ {S M : Type 0} (g : Ghosts S) (a b : Held S) (is_meta : M → List Row → Type 0) where
  abbrev pub MetaIs : Result M StoreFault → Type 0
  MetaIs r = Loads g a b (λ l. has_rows l Meta) meta_of is_meta r

  abbrev pub Whole : {Z : Type 0} → Held S → (Z → Rows → Type 0) → Result Z StoreFault → Type 0
  Whole last has r = Loads g a last is_two (λ l t. rows_read t) has r

  pub meta_stops : {Z : Type 0} (has : Z → Rows → Type 0) (e : StoreFault) → MetaIs (Err e) → Whole b has (Err e)
  meta_stops has e it = none_loads g a b is_two _ _ _ has e (loads_in g a b _ is_two (λ l two. refl) _ _ _ it) (λ l t bad is. absurd cc)

  -- no row has the version
  pub version_stops : {Z : Type 0} (has : Z → Rows → Type 0) (m : M) (bad : TableName) → MetaIs (Ok m) → ((meta : List Row) → is_meta m meta → read_version meta ≡ Err bad) → Whole b has (Err (BadRow bad))
  version_stops has m bad it fails = loads_not g a b is_two _ _ _ has m (BadRow bad) (loads_in g a b _ is_two (λ l two. refl) _ _ _ it) (λ old new. tt)
      (λ l t v fit is shown. let same : t.meta ≡ v = cc in joined t ∙ rw (ap read_version same ∙ fails v shown) refl)

  module _ {N : Type 0} (m : M) (version : ℤ) (v : (meta : List Row) → is_meta m meta → read_version meta ≡ Ok version) (meta : MetaIs (Ok m)) (c : Held S)
      (is_network : N → List SectionRow × List PointRead → Type 0) where
    abbrev pub NetworkIs : Result N StoreFault → Type 0
    NetworkIs r = Loads g b c (both_fit Section NetworkPoint) network_of is_network r

    version_is : (t : Tables) (rows : List Row) → ◌≡◌ {A = Result (List Row) TableName} (Ok t.meta) (Ok rows) → is_meta m rows → read_version t.meta ≡ Ok version
    version_is t rows is shown = let same : t.meta ≡ rows = cc in ap read_version same ∙ v rows shown

    pub network_stops : {Z : Type 0} (has : Z → Rows → Type 0) (e : StoreFault) → NetworkIs (Err e) → Whole c has (Err e)
    network_stops has e it = then_fails g a b is_two _ _ c _ _ _ has m e (loads_in g a b _ is_two (λ l two. refl) _ _ _ meta) (loads_in g b c _ is_two network_fits _ _ _ it)
        (λ l t rows bad fit is shown fails. no_network t version (version_is t rows is shown) l bad fails)

    abbrev AndNetwork : M × N → List Row × (List SectionRow × List PointRead) → Type 0
    AndNetwork x read = is_meta x.0 read.0 × is_network x.1 read.1

    with_network : (n : N) → NetworkIs (Ok n) → Loads g a c is_two (λ l t. both_read (meta_of l t) (network_of l t)) AndNetwork (Ok (m, n))
    with_network n it = then_loads g a b is_two _ _ c _ _ _ AndNetwork m n (m, n) (loads_in g a b _ is_two (λ l two. refl) _ _ _ meta) (loads_in g b c _ is_two network_fits _ _ _ it)
        (λ l t rows net fit is shown so more. ((rows, net), rw so (ap (λ x. Ok (x, net)) (let same : t.meta ≡ rows = cc in same)), (shown, more)))

    module _ {P : Type 0} (n : N) (network : NetworkIs (Ok n)) (d : Held S) (is_people : P → List StaffRow × List Record → Type 0) where
      abbrev pub PeopleAre : Result P StoreFault → Type 0
      PeopleAre r = Loads g c d (both_fit Staff Clearance) people_of is_people r

      pub people_stop : {Z : Type 0} (has : Z → Rows → Type 0) (e : StoreFault) → PeopleAre (Err e) → Whole d has (Err e)
      people_stop has e it = then_fails g a c is_two _ _ d _ _ _ has (m, n) e (with_network n network) (loads_in g c d _ is_two (λ l two. refl) _ _ _ it)
          (λ l t read bad fit is shown fails.
          let parts = both_give (meta_of l t) (network_of l t) read is in
          no_people t version (version_is t read.0 parts.0 shown.0) l read.1 bad parts.1 fails)

      abbrev AndPeople : (M × N) × P → (List Row × (List SectionRow × List PointRead)) × (List StaffRow × List Record) → Type 0
      AndPeople x read = AndNetwork x.0 read.0 × is_people x.1 read.1

      with_people : (p : P) → PeopleAre (Ok p) → Loads g a d is_two (λ l t. both_read (both_read (meta_of l t) (network_of l t)) (people_of l t)) AndPeople (Ok ((m, n), p))
      with_people p it = then_loads g a c is_two _ _ d _ _ _ AndPeople (m, n) p ((m, n), p) (with_network n network) (loads_in g c d _ is_two (λ l two. refl) _ _ _ it)
          (λ l t read people fit is shown so more. ((read, people), rw (is, so) refl, (shown, more)))

      module _ {W : Type 0} (p : P) (people : PeopleAre (Ok p)) (last : Held S) (is_work : W → List StepRow × List HoldRow → Type 0) where
        abbrev pub WorkIs : Result W StoreFault → Type 0
        WorkIs r = Loads g d last (both_fit Step Hold) work_of is_work r

        pub work_stops : {Z : Type 0} (has : Z → Rows → Type 0) (e : StoreFault) → WorkIs (Err e) → Whole last has (Err e)
        work_stops has e it = then_fails g a d is_two _ _ last _ _ _ has ((m, n), p) e (with_people p people) (loads_in g d last _ is_two (λ l two. refl) _ _ _ it)
            (λ l t read bad fit is shown fails.
            let both = both_give (both_read (meta_of l t) (network_of l t)) (people_of l t) read is in
            let parts = both_give (meta_of l t) (network_of l t) read.0 both.0 in
            no_work t version (version_is t read.0.0 parts.0 shown.0.0) l read.0.1 read.1 bad parts.1 both.1 fails)

        -- all were read
        abbrev pub AreRead : {Z : Type 0} → (Z → Rows → Type 0) → W → Result Z StoreFault → Type 0
        AreRead has w r = (t : Tables) (network : List SectionRow × List PointRead) (people : List StaffRow × List Record) (work : List StepRow × List HoldRow)
            → read_version t.meta ≡ Ok version → all_read read_section t.sections ≡ Ok network.0 → all_read point_values t.points ≡ Ok network.1 → all_read read_staff t.staff ≡ Ok people.0
            → all_read read_clearance t.clearances ≡ Ok people.1 → all_read read_step t.steps ≡ Ok work.0 → all_read read_hold t.holds ≡ Ok work.1
            → is_network n network → is_people p people → is_work w work → GivesInto has (rows_read t) r

        pub all_read_are : {Z : Type 0} (has : Z → Rows → Type 0) (w : W) (z : Z) → WorkIs (Ok w) → AreRead has w (Ok z) → Whole last has (Ok z)
        all_read_are has w z it so = then_loads g a d is_two _ _ last _ _ _ has ((m, n), p) w z (with_people p people) (loads_in g d last _ is_two (λ l two. refl) _ _ _ it)
            (λ l t read work fit is shown ws more.
            let both = both_give (both_read (meta_of l t) (network_of l t)) (people_of l t) read is in
            let parts = both_give (meta_of l t) (network_of l t) read.0 both.0 in
            let net = both_give _ _ read.0.1 parts.1 in
            let them = both_give _ _ read.1 both.1 in
            let done = both_give _ _ work ws in
            so t read.0.1 read.1 work (version_is t read.0.0 parts.0 shown.0.0) net.0 net.1 them.0 them.1 done.0 done.1 shown.0.1 shown.1 more)
