-- A deed at a desk: what came of a command, of an update and of an archive.
use Rattle.std.proofs.Common.{◌≡◌, ◌∙◌, ◌&&◌, Bool, true, not, ℕ, List, [], ◌∷◌, None, Ok, Err, OnOk, arith, if◌then◌else◌, inl, inr, refl, ap, subst, sym}
use Rattle.std.specs.Prelude.{⊤, is_some}
use Rattle.std.proofs.lemmas.Bool.{and_from, and_parts}
use Rattle.sqlite.specs.Effect.{Database}
use Rattle.sqlite.specs.State.{State, Survives}
use Rattle.sqlite.proofs.StateLemmas.{survives_weaker}
use Rattle.clr_answer.specs.Decision.{is_accepted as accepts}
use Rattle.clr_book.specs.Book.{Shelved}
use Rattle.clr_changes.specs.Archive.{archived}
use Rattle.clr_changes.specs.declared.report.Report.TheVariants as reported
use Rattle.clr_changes.specs.Deeds.{Deed, after_deed, archive, command, update}
use Rattle.clr_changes.proofs.Deeds.{deed_keeps_good}
use Rattle.clr_rules.specs.Answer.{Answer, answer}
use Rattle.clr_rules.specs.Good.{IsGood}
use Rattle.clr_rules.specs.Register.{Register}
use Rattle.clr_rules.specs.Run.{after}
use Rattle.clr_rules.specs.declared.command.Command.{Command}
use Rattle.clr_rules.specs.declared.reply.Reply.{Reply}
use Rattle.clr_rules.specs.declared.place.Place.{Place}
use Rattle.clr_load.specs.Tables.{tables_of}
use Rattle.clr_load.specs.TypedRows.{IsTyped}
use Rattle.clr_load.specs.Stored.{AreTables, HasTables}
use Rattle.clr_load.specs.declared.fault.StoreFault.TheVariants.{Sql, WrongVersion, BadRow, OtherTables, NoMemory as NoMemoryThere}
use Rattle.clr_desk.specs.Faults.{IsOfKeeper}
use Rattle.clr_desk.specs.Given.{LeadsTo}
use Rattle.clr_desk.specs.Kept.{Keeps}
use Rattle.clr_desk.specs.Placing.{Placing}
use Rattle.clr_update.specs.Changes.{Changes}
use Rattle.clr_update.specs.Delta.{after_changes, all_there, can_be_made, have_no_fault, update_of}
use Rattle.clr_update.specs.Update.{Update, in_the_way, updated}
use Rattle.clr_desk.specs.Renewing.{AreComeTo, ComesTo as Renews, IsUpdatedAt}
use Rattle.clr_desk.specs.Taking.{Came, Taking}
use Rattle.clr_desk.specs.declared.desk.Desk.{Desk}
use Rattle.clr_desk.specs.declared.desk_fault.DeskFault.{DeskFault}
use Rattle.clr_desk.specs.declared.desk_fault.DeskFault.TheVariants.{Journal, NoMemory, Store}
use Rattle.clr_desk.proofs.Givings.{leads_itself}
use Rattle.clr_desk.proofs.Keeping.{keeps_on}
use Rattle.clr_level.specs.Carrying.{AreDoneAt, CarriesDeed}
use Rattle.clr_level.specs.Crash.{AreAfterAt, KeepsTables}
use Rattle.clr_level.specs.Forward.{GoesOn, GoesThrough, IsNoCommand, IsRenewed}
use Rattle.clr_level.specs.Placing.{ComesTo, StaysShown}
use Rattle.clr_level.proofs.Accepting.{accepted_data}
use Rattle.clr_level.proofs.Crashes.{left_itself}
use Rattle.clr_level.proofs.Places.{shown_itself}

-- ---- what a desk goes through

module _ {K : Type 0} (kept : K → State) (takes : Taking K) (has_place : Placing) where
  pub goes_itself : (d : Desk K) → GoesOn kept takes has_place d d
  unfolding GoesThrough
  goes_itself d = ([], refl)

  pub goes_by : (old new : Desk K) → LeadsTo kept takes old new → GoesOn kept takes has_place old new
  unfolding GoesThrough
  goes_by old new led = (new ∷ [], (inl led, refl))

  pub goes_renewed : (old new : Desk K) → IsRenewed kept has_place old new → GoesOn kept takes has_place old new
  unfolding GoesThrough
  goes_renewed old new renewed = (new ∷ [], (inr renewed, refl))

  through_on : (through : List (Desk K)) (old between new : Desk K) → GoesThrough kept takes has_place old through between
      → GoesOn kept takes has_place between new → GoesOn kept takes has_place old new
  unfolding GoesThrough
  through_on [] old between new same more = subst (λ (d : Desk K). GoesOn kept takes has_place d new) same more
  through_on (next ∷ later) old between new (one, rest) more =
      let on = through_on later next between new rest more in
      (next ∷ on.0, (one, on.1))

  pub goes_further : (old between new : Desk K) → GoesOn kept takes has_place old between → GoesOn kept takes has_place between new
      → GoesOn kept takes has_place old new
  goes_further old between new one more = through_on one.0 old between new one.1 more

  -- ---- what it keeps

  renewed_by : (old new : Desk K) (deed : Deed) (place : Place) (came : Came)
      → Renews kept has_place (λ fault. ⊤) ⊤ old new (after_deed old.book.register deed) place came
      → Keeps (kept old.store) old.book.register (kept new.store) new.book.register
  renewed_by old new deed place (Ok done) comes = record {
    good = λ good. subst IsGood (sym (comes.register good)) (deed_keeps_good old.book.register deed good);
    typed = λ good typed. subst IsTyped (sym (comes.register good)) (comes.typed typed);
    clean = λ clean. omega (arith, comes.survives.clean);
    was_open = comes.was_open;
    tables = λ clean shown good has. subst (λ (X : Register). HasTables (kept new.store).now (tables_of X)) (sym (comes.register good)) (comes.tables clean has).0;
    saved = λ clean shown saved. comes.saved clean;
    counts = comes.survives.counts;
    closes = comes.survives.closes;
  }
  renewed_by old new deed place (Err fault) comes =
      subst (λ (b : Shelved). Keeps (kept old.store) old.book.register (kept new.store) b.register) (sym comes.unchanged) (record {
        good = λ good. good;
        typed = λ good typed. typed;
        clean = λ clean. omega (arith, comes.survives.clean);
        was_open = comes.was_open;
        tables = λ clean shown good has. subst (λ (db : Database). HasTables db (tables_of old.book.register)) (sym (comes.none clean shown)) has;
        saved = λ clean shown saved. comes.still_saved clean shown saved;
        counts = comes.survives.counts;
        closes = comes.survives.closes;
      })

  through_keeps : (through : List (Desk K)) (old new : Desk K) → GoesThrough kept takes has_place old through new
      → Keeps (kept old.store) old.book.register (kept new.store) new.book.register
  unfolding GoesThrough
  through_keeps [] old new same =
      subst (λ (d : Desk K). Keeps (kept old.store) old.book.register (kept d.store) d.book.register) (sym same) (leads_itself kept takes old).keeps
  through_keeps (next ∷ later) old new (inl led, rest) =
      keeps_on (kept old.store) (kept next.store) (kept new.store) old.book.register next.book.register new.book.register led.keeps
      (through_keeps later next new rest)
  through_keeps (next ∷ later) old new (inr renewed, rest) =
      keeps_on (kept old.store) (kept next.store) (kept new.store) old.book.register next.book.register new.book.register
      (renewed_by old next renewed.deed renewed.place renewed.came renewed.comes) (through_keeps later next new rest)

  -- what commands keep is kept
  pub goes_keep : (old new : Desk K) → GoesOn kept takes has_place old new
      → Keeps (kept old.store) old.book.register (kept new.store) new.book.register
  goes_keep old new goes = through_keeps goes.0 old new goes.1

-- ---- a deed

any_keeper : (fails : DeskFault → Type 0) (fault : DeskFault) → IsOfKeeper fails fault → IsOfKeeper (λ cause. ⊤) fault
any_keeper fails (Store Sql) of = tt
any_keeper fails (Store (WrongVersion n)) of = tt
any_keeper fails (Store (BadRow name)) of = tt
any_keeper fails (Store OtherTables) of = tt
any_keeper fails (Store NoMemoryThere) of = absurd of
any_keeper fails Journal of = tt
any_keeper fails NoMemory of = tt

module _ {K : Type 0} (kept : K → State) (takes : Taking K) (has_place : Placing) (fails : DeskFault → Type 0) where
  -- where memory ran out before anything was done
  pub not_begun : (d : Desk K) (deed : Deed) (place : Place) → CarriesDeed kept takes has_place fails d d deed place (Err NoMemory)
  not_begun d deed place = record {
    register = λ taken. tt;
    placed = λ taken. tt;
    tables = tt;
    saved = λ clean no. tt;
    unchanged = refl;
    stays = shown_itself (kept d.store);
    crash = left_itself (kept d.store) (AreDoneAt has_place (kept d.store).now d.book.register deed place);
    led = goes_itself kept takes has_place d;
    fault = tt;
  }

  -- ---- a command

  command_left : (old new : Desk K) (q : Command) (place : Place)
      → Survives (kept old.store) (kept new.store) (AreAfterAt has_place (kept old.store).now old.book.register q place)
      → Survives (kept old.store) (kept new.store) (AreDoneAt has_place (kept old.store).now old.book.register (command q) place)
  command_left old new q place left =
      survives_weaker (kept old.store) (kept new.store) (AreAfterAt has_place (kept old.store).now old.book.register q place)
      (AreDoneAt has_place (kept old.store).now old.book.register (command q) place)
      (λ clean trees both good has. (both.0 good has, both.1 (tables_of old.book.register) has)) left

  pub command_done : (old new : Desk K) (q : Command) (place : Place) (reply : Reply)
      → (IsGood old.book.register → reply ≡ Answer.reply (answer old.book.register q))
      → (IsGood old.book.register → new.book.register ≡ after old.book.register q)
      → (accepts reply ≡ true → ComesTo has_place (kept old.store) (kept new.store) place) → KeepsTables kept old new
      → Survives (kept old.store) (kept new.store) (AreAfterAt has_place (kept old.store).now old.book.register q place)
      → LeadsTo kept takes old new → CarriesDeed kept takes has_place fails old new (command q) place (Ok tt)
  command_done old new q place reply reply_is register placed tables left led = record {
    register = λ taken. register taken.0;
    placed = λ taken. placed (ap accepts (reply_is taken.0) ∙ sym (accepted_data (Answer.reply (answer old.book.register q))) ∙ taken.1);
    tables = tables;
    saved = λ clean no. absurd no;
    unchanged = tt;
    stays = tt;
    crash = command_left old new q place left;
    led = goes_by kept takes has_place old new led;
    fault = tt;
  }

  pub command_missed : (old new : Desk K) (q : Command) (place : Place) (fault : DeskFault) → new.book.register ≡ old.book.register
      → StaysShown (kept old.store) (kept new.store)
      → Survives (kept old.store) (kept new.store) (AreAfterAt has_place (kept old.store).now old.book.register q place)
      → LeadsTo kept takes old new → IsOfKeeper fails fault → CarriesDeed kept takes has_place fails old new (command q) place (Err fault)
  command_missed old new q place fault unchanged stays left led of = record {
    register = λ taken. tt;
    placed = λ taken. tt;
    tables = tt;
    saved = λ clean no. tt;
    unchanged = unchanged;
    stays = stays;
    crash = command_left old new q place left;
    led = goes_by kept takes has_place old new led;
    fault = of;
  }

  -- ---- an update or an archive, which comes to this register

  module _ (So : Type 0) (old new : Desk K) (deed : Deed) (S : Register) (place : Place) (same : So → S ≡ after_deed old.book.register deed)
      (no : IsNoCommand deed) where
    abbrev T : Register
    T = after_deed old.book.register deed

    renewed_left : Survives (kept old.store) (kept new.store) (AreComeTo has_place So (kept old.store).now old.book.register S place)
        → Survives (kept old.store) (kept new.store) (AreComeTo has_place ⊤ (kept old.store).now old.book.register T place)
    renewed_left left =
        survives_weaker (kept old.store) (kept new.store) (AreComeTo has_place So (kept old.store).now old.book.register S place)
        (AreComeTo has_place ⊤ (kept old.store).now old.book.register T place)
        (λ clean trees come has.
        let all = come has in
        (tt, subst (λ (X : Register). AreTables trees (tables_of X)) (same all.0) all.1, all.2)) left

    deed_left : Survives (kept old.store) (kept new.store) (AreComeTo has_place ⊤ (kept old.store).now old.book.register T place)
        → Survives (kept old.store) (kept new.store) (AreDoneAt has_place (kept old.store).now old.book.register deed place)
    deed_left left =
        survives_weaker (kept old.store) (kept new.store) (AreComeTo has_place ⊤ (kept old.store).now old.book.register T place)
        (AreDoneAt has_place (kept old.store).now old.book.register deed place)
        (λ clean trees come good has. let all = come has in (all.1, all.2)) left

    pub renewed_done : So → Renews {X = Unit {0}} kept has_place fails So old new S place (Ok tt)
        → CarriesDeed kept takes has_place fails old new deed place (Ok tt)
    renewed_done so comes =
        let is : S ≡ T = same so in
        let left = renewed_left comes.survives in
        record {
          register = λ taken. comes.register taken.0 ∙ is;
          placed = λ taken. record {
            clean = λ clean. omega (arith, comes.survives.clean);
            was_open = comes.was_open;
            shown = comes.shown;
          };
          tables = λ clean good has. subst (λ (X : Register). HasTables (kept new.store).now (tables_of X)) (sym (comes.register good)) (comes.tables clean has).0;
          saved = λ clean no. comes.saved clean;
          unchanged = tt;
          stays = tt;
          crash = deed_left left;
          led = goes_renewed kept takes has_place old new (record {
            deed = deed;
            is = no;
            place = place;
            came = Ok tt;
            comes = record {
              register = λ good. comes.register good ∙ is;
              typed = λ typed. subst IsTyped is (comes.typed typed);
              unchanged = tt;
              cause = tt;
              tables = λ clean has.
                  let both = comes.tables clean has in
                  (subst (λ (X : Register). HasTables (kept new.store).now (tables_of X)) is both.0, both.1);
              shown = comes.shown;
              none = λ clean shown. tt;
              was_open = comes.was_open;
              stays_open = comes.stays_open;
              saved = comes.saved;
              still_saved = λ clean shown saved. tt;
              survives = left;
            };
          });
          fault = tt;
        }

    pub renewed_missed : (fault : DeskFault) → Renews {X = Unit {0}} kept has_place fails So old new S place (Err fault)
        → CarriesDeed kept takes has_place fails old new deed place (Err fault)
    renewed_missed fault comes =
        let left = renewed_left comes.survives in
        record {
          register = λ taken. tt;
          placed = λ taken. tt;
          tables = tt;
          saved = λ clean no. tt;
          unchanged = ap (λ (b : Shelved). b.register) comes.unchanged;
          stays = record {
            clean = λ clean. omega (arith, comes.survives.clean);
            was_open = comes.was_open;
            now = comes.none;
          };
          crash = deed_left left;
          led = goes_renewed kept takes has_place old new (record {
            deed = deed;
            is = no;
            place = place;
            came = Err fault;
            comes = record {
              register = λ good. tt;
              typed = tt;
              unchanged = comes.unchanged;
              cause = any_keeper fails fault comes.cause;
              tables = λ clean has. tt;
              shown = λ clean t has. tt;
              none = comes.none;
              was_open = comes.was_open;
              stays_open = comes.stays_open;
              saved = λ clean. tt;
              still_saved = comes.still_saved;
              survives = left;
            };
          });
          fault = comes.cause;
        }

    pub renewed : (came : Came) → OnOk came So → Renews {X = Unit {0}} kept has_place fails So old new S place came
        → CarriesDeed kept takes has_place fails old new deed place came
    renewed (Ok done) so comes = renewed_done so comes
    renewed (Err fault) so comes = renewed_missed fault comes

  always : (came : Came) → OnOk came ⊤
  always (Ok done) = tt
  always (Err fault) = tt

  pub archive_done : (old new : Desk K) (before : ℕ) (place : Place) (came : Came)
      → Renews {X = Unit {0}} kept has_place fails ⊤ old new (archived before old.book.register) place came
      → CarriesDeed kept takes has_place fails old new (archive before) place came
  archive_done old new before place came comes =
      renewed ⊤ old new (archive before) (archived before old.book.register) place (λ so. refl) tt came (always came) comes

  -- ---- changes, and the update that they say

  module _ (old new : Desk K) (of : Changes) (u : Update) (place : Place) (whole : (all_there old.book.register of && have_no_fault old.book.register of) ≡ true)
      (said : u ≡ update_of old.book.register of) where
    abbrev R : Register
    R = old.book.register

    so_after : in_the_way R u ≡ None → updated R u ≡ after_changes R of
    unfolding can_be_made
    so_after none =
        let parts = and_parts (all_there R of) (have_no_fault R of) whole in
        let free : not (is_some (in_the_way R (update_of R of))) ≡ true = ap (λ (v : Update). not (is_some (in_the_way R v))) (sym said) ∙ ap (λ o. not (is_some o)) none in
        let can : can_be_made R of ≡ true =
        and_from (all_there R of) (have_no_fault R of && not (is_some (in_the_way R (update_of R of)))) parts.0
        (and_from (have_no_fault R of) (not (is_some (in_the_way R (update_of R of)))) parts.1 free) in
        ap (λ (v : Update). updated R v) said ∙ ap (λ (b : Bool). if b then updated R (update_of R of) else R) (sym can)

    pub update_done : (text : _) → IsUpdatedAt kept has_place fails old new u place (Ok (reported.Changes text))
        → CarriesDeed kept takes has_place fails old new (update of) place (Ok tt)
    update_done text (report, comes) =
        renewed_done (in_the_way R u ≡ None) old new (update of) (updated R u) place so_after tt report.0 comes

    pub update_missed : (fault : DeskFault) → IsUpdatedAt kept has_place fails old new u place (Err fault)
        → CarriesDeed kept takes has_place fails old new (update of) place (Err fault)
    update_missed fault comes = renewed_missed (in_the_way R u ≡ None) old new (update of) (updated R u) place so_after tt fault comes

    pub update_in_the_way : (obstacle : _) → IsUpdatedAt kept has_place fails old new u place (Ok (reported.InTheWay obstacle))
        → CarriesDeed kept takes has_place fails old new (update of) place (Err NoMemory)
    update_in_the_way obstacle (way, same) =
        subst (λ (d : Desk K). CarriesDeed kept takes has_place fails old d (update of) place (Err NoMemory)) (sym same) (not_begun old (update of) place)
