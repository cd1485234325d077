-- One command at a keeper with one place for each change.
use Rattle.std.proofs.Common.{◌≡◌, ◌∙◌, ℕ, List, [], ◌∷◌, Option, None, Result, Ok, Err, inl, inr, refl, ap, subst, sym}
use Rattle.std.specs.Prelude.{OnErr, OnOk}
use Rattle.sqlite.specs.State.{HasCleanDisk, State, Survives}
use Rattle.sqlite.proofs.StateLemmas.{survives_weaker}
use Rattle.clr_rules.specs.Answer.{Answer}
use Rattle.clr_rules.specs.Good.{IsGood}
use Rattle.clr_rules.specs.Register.{Register}
use Rattle.clr_rules.specs.declared.change.Edit.{Edit}
use Rattle.clr_rules.specs.declared.command.Command.{Command}
use Rattle.clr_rules.specs.declared.reply.Reply.{Reply}
use Rattle.clr_rules.specs.declared.reply.Reply.TheVariants.{Accepted, Added, Refused, Shown}
use Rattle.clr_book.specs.Book.{Shelved}
use Rattle.clr_rules.specs.declared.place.Place.{Place}
use Rattle.clr_load.specs.Tables.{tables_of}
use Rattle.clr_load.specs.Stored.{HasTables}
use Rattle.clr_book.specs.Own.{asked_answer}
use Rattle.clr_desk.specs.Asking.{near_after}
use Rattle.clr_desk.specs.Carrying.{CarriesOut}
use Rattle.clr_desk.specs.Crash.{AreAfter}
use Rattle.clr_desk.specs.Given.{AreGiven, LeadsTo}
use Rattle.clr_desk.specs.Kept.{Keeps}
use Rattle.clr_desk.specs.Taking.{Came, Taking, Takes, TakesOne}
use Rattle.clr_desk.specs.declared.desk.Desk.{Desk}
use Rattle.clr_desk.specs.declared.desk_fault.DeskFault.{DeskFault}
use Rattle.clr_desk.proofs.Keeping.{one_keeps}
use Rattle.clr_level.specs.Crash.{AreAfterAt, KeepsTables}
use Rattle.clr_level.specs.Forward.{Carries}
use Rattle.clr_load.specs.TableEdits.{tables_edited}
use Rattle.clr_store.specs.Transaction.{AreTurned, Transacts}
use Rattle.clr_desk.specs.Placing.{Placing, SetsPlace, StaysOpen}
use Rattle.clr_level.specs.Placing.{ArePlacedAt, StaysShown}
use Rattle.clr_level.specs.declared.placing.Placed.{Placed}
use Rattle.clr_level.proofs.Crashes.{left_both, left_itself}
use Rattle.clr_level.proofs.Places.{comes, shows_still, shown_itself}

-- ---- what a keeper with a place takes

module _ {K : Type 0} (takes : Taking K) (kept : K → State) (has_place : Placing) where
  left_placed : (old new : Placed K) (edits : List Edit) (came : Came)
      → Transacts {X = Unit {0}} (SetsPlace has_place old.place) StaysOpen (kept old.keeper) (kept new.keeper) (tables_edited edits) came
      → Survives (kept old.keeper) (kept new.keeper) (ArePlacedAt has_place (kept old.keeper).now old.place)
  left_placed old new edits came commits =
      survives_weaker (kept old.keeper) (kept new.keeper) (AreTurned (SetsPlace has_place old.place) (tables_edited edits) (kept old.keeper).now)
      (ArePlacedAt has_place (kept old.keeper).now old.place) (λ clean trees edited t has. (edited t has).1) commits.crash

  pub kept_carries : (old new : Placed K) (login : Option (List ℕ)) (q : Command) (reply : Reply) (edits : List Edit) (came : Came)
      → Transacts {X = Unit {0}} (SetsPlace has_place old.place) StaysOpen (kept old.keeper) (kept new.keeper) (tables_edited edits) came
      → takes old.keeper None q reply came new.keeper → new.place ≡ old.place → Carries takes kept has_place old login q reply came new
  kept_carries old new login q reply edits (Ok done) commits taken same = record {
    taken = taken;
    same = same;
    placed = λ is accepted. comes has_place (kept old.keeper) (kept new.keeper) edits old.place commits;
    stays = λ fault is. absurd (cc is);
    crash = left_placed old new edits (Ok done) commits;
  }
  kept_carries old new login q reply edits (Err cause) commits taken same = record {
    taken = taken;
    same = same;
    placed = λ is accepted. absurd (cc is);
    stays = λ fault is. shows_still has_place (kept old.keeper) (kept new.keeper) edits old.place cause commits;
    crash = left_placed old new edits (Err cause) commits;
  }

  -- ---- what comes of one command

  takes_below : (old new : Placed K) (q : Command) (reply : Reply) (came : Came)
      → Takes (Carries takes kept has_place) old None q reply came new → Takes takes old.keeper None q reply came new.keeper
  takes_below old new q (Accepted card) came taken = taken.taken
  takes_below old new q (Shown view) came taken = (ap (λ (it : Placed K). it.keeper) taken.0, taken.1)
  takes_below old new q (Refused refusal) came taken = taken.taken
  takes_below old new q (Added point) came taken = taken.taken

  pub one_below : (R : Register) (old new : Placed K) (q : Command) (result : Result Reply DeskFault)
      → TakesOne (Carries takes kept has_place) R old None q result new → TakesOne takes R old.keeper None q result new.keeper
  one_below R old new q (Ok reply) taken = takes_below old new q reply (Ok tt) taken
  one_below R old new q (Err fault) (inl out) = inl (out.0, ap (λ (it : Placed K). it.keeper) out.1)
  one_below R old new q (Err fault) (inr taken) = inr (takes_below old new q (Answer.reply (asked_answer R q)) (Err fault) taken)

  takes_place : (old new : Placed K) (q : Command) (reply : Reply) (came : Came) → Takes (Carries takes kept has_place) old None q reply came new → new.place ≡ old.place
  takes_place old new q (Accepted card) came taken = taken.same
  takes_place old new q (Shown view) came taken = ap (λ (it : Placed K). it.place) taken.0
  takes_place old new q (Refused refusal) came taken = taken.same
  takes_place old new q (Added point) came taken = taken.same

  pub same_place : (R : Register) (old new : Placed K) (q : Command) (result : Result Reply DeskFault)
      → TakesOne (Carries takes kept has_place) R old None q result new → new.place ≡ old.place
  same_place R old new q (Ok reply) taken = takes_place old new q reply (Ok tt) taken
  same_place R old new q (Err fault) (inl out) = ap (λ (it : Placed K). it.place) out.1
  same_place R old new q (Err fault) (inr taken) = takes_place old new q (Answer.reply (asked_answer R q)) (Err fault) taken

  takes_stays : (old new : Placed K) (q : Command) (reply : Reply) (fault : DeskFault) → Takes (Carries takes kept has_place) old None q reply (Err fault) new
      → StaysShown (kept old.keeper) (kept new.keeper)
  takes_stays old new q (Accepted card) fault taken = taken.stays fault refl
  takes_stays old new q (Shown view) fault taken = absurd (cc taken.1)
  takes_stays old new q (Refused refusal) fault taken = taken.stays fault refl
  takes_stays old new q (Added point) fault taken = taken.stays fault refl

  -- a fault leaves what is shown
  pub one_stays : (R : Register) (old new : Placed K) (q : Command) (result : Result Reply DeskFault) → TakesOne (Carries takes kept has_place) R old None q result new
      → OnErr result (StaysShown (kept old.keeper) (kept new.keeper))
  one_stays R old new q (Ok reply) taken = tt
  one_stays R old new q (Err fault) (inl out) =
      subst (λ (it : Placed K). StaysShown (kept old.keeper) (kept it.keeper)) (sym out.1) (shown_itself (kept old.keeper))
  one_stays R old new q (Err fault) (inr taken) = takes_stays old new q (Answer.reply (asked_answer R q)) fault taken

  takes_left : (old new : Placed K) (q : Command) (reply : Reply) (came : Came) → Takes (Carries takes kept has_place) old None q reply came new
      → Survives (kept old.keeper) (kept new.keeper) (ArePlacedAt has_place (kept old.keeper).now old.place)
  takes_left old new q (Accepted card) came taken = taken.crash
  takes_left old new q (Shown view) came taken =
      subst (λ (it : Placed K). Survives (kept old.keeper) (kept it.keeper) (ArePlacedAt has_place (kept old.keeper).now old.place)) (sym taken.0)
      (left_itself (kept old.keeper) (ArePlacedAt has_place (kept old.keeper).now old.place))
  takes_left old new q (Refused refusal) came taken = taken.crash
  takes_left old new q (Added point) came taken = taken.crash

  -- whatever came of it, a crash leaves the place with the change
  pub one_left : (R : Register) (old new : Placed K) (q : Command) (result : Result Reply DeskFault) → TakesOne (Carries takes kept has_place) R old None q result new
      → Survives (kept old.keeper) (kept new.keeper) (ArePlacedAt has_place (kept old.keeper).now old.place)
  one_left R old new q (Ok reply) taken = takes_left old new q reply (Ok tt) taken
  one_left R old new q (Err fault) (inl out) =
      subst (λ (it : Placed K). Survives (kept old.keeper) (kept it.keeper) (ArePlacedAt has_place (kept old.keeper).now old.place)) (sym out.1)
      (left_itself (kept old.keeper) (ArePlacedAt has_place (kept old.keeper).now old.place))
  one_left R old new q (Err fault) (inr taken) = takes_left old new q (Answer.reply (asked_answer R q)) (Err fault) taken

  -- ---- the desk below

  pub leads_below : (fails : DeskFault → Type 0) (old new : Desk K) (placed next : Desk (Placed K)) (q : Command)
      (result : Result Reply DeskFault) → placed.book ≡ old.book → placed.store.keeper ≡ old.store → new.book ≡ next.book → new.store ≡ next.store.keeper
      → CarriesOut (λ (it : Placed K). kept it.keeper) fails placed next q result
      → TakesOne (Carries takes kept has_place) placed.book.register placed.store None q result next.store → LeadsTo kept takes old new
  unfolding AreGiven
  leads_below fails old new placed next q result book store book' store' carried taken =
      let R : placed.book.register ≡ old.book.register = ap (λ (b : Shelved). b.register) book in
      let S : next.book.register ≡ new.book.register = sym (ap (λ (b : Shelved). b.register) book') in
      let keeps : Keeps (kept placed.store.keeper) placed.book.register (kept next.store.keeper) next.book.register =
      one_keeps (λ (it : Placed K). kept it.keeper) fails placed next q result carried in
      let below = one_below placed.book.register placed.store next.store q result taken in
      let at_new : Keeps (kept placed.store.keeper) placed.book.register (kept new.store) new.book.register =
      subst (λ (k : K). Keeps (kept placed.store.keeper) placed.book.register (kept k) new.book.register) (sym store')
      (subst (λ (X : Register). Keeps (kept placed.store.keeper) placed.book.register (kept next.store.keeper) X) S keeps) in
      let given : AreGiven takes placed.book.register placed.store.keeper (record { login = None; command = q; result = result } ∷ []) new.book.register new.store = (
        new.book.register,
        new.store,
        record {
          reply = carried.near;
          register = subst (λ (X : Register). OnOk result (X ≡ near_after placed.book.register q)) S carried.changed;
          unchanged = λ none. sym S ∙ carried.unchanged none;
          taken = subst (λ (k : K). TakesOne takes placed.book.register placed.store.keeper None q result k) (sym store') below;
        },
        (refl, refl),
      ) in
      record {
        keeps = subst (λ (k : K). Keeps (kept k) old.book.register (kept new.store) new.book.register) store
            (subst (λ (X : Register). Keeps (kept placed.store.keeper) X (kept new.store) new.book.register) R at_new);
        given = record { login = None; command = q; result = result } ∷ [];
        are_given = subst (λ (k : K). AreGiven takes old.book.register k (record { login = None; command = q; result = result } ∷ []) new.book.register new.store) store
            (subst (λ (X : Register). AreGiven takes X placed.store.keeper (record { login = None; command = q; result = result } ∷ []) new.book.register new.store) R given);
      }

  pub stays_below : (old new : Desk K) (placed next : Desk (Placed K)) (q : Command) (result : Result Reply DeskFault)
      → placed.store.keeper ≡ old.store → new.store ≡ next.store.keeper
      → TakesOne (Carries takes kept has_place) placed.book.register placed.store None q result next.store
      → OnErr result (StaysShown (kept old.store) (kept new.store))
  stays_below old new placed next q result store store' taken =
      subst (λ (k : K). OnErr result (StaysShown (kept k) (kept new.store))) store
      (subst (λ (k : K). OnErr result (StaysShown (kept placed.store.keeper) (kept k))) (sym store')
      (one_stays placed.book.register placed.store next.store q result taken))

  -- a crash leaves the register before the command, or that after it with the place
  pub left_below : (fails : DeskFault → Type 0) (old new : Desk K) (placed next : Desk (Placed K)) (q : Command) (result : Result Reply DeskFault) (place : Place)
      → placed.book ≡ old.book → placed.store.keeper ≡ old.store → placed.store.place ≡ place → new.store ≡ next.store.keeper
      → CarriesOut (λ (it : Placed K). kept it.keeper) fails placed next q result
      → TakesOne (Carries takes kept has_place) placed.book.register placed.store None q result next.store
      → Survives (kept old.store) (kept new.store) (AreAfterAt has_place (kept old.store).now old.book.register q place)
  left_below fails old new placed next q result place book store at store' carried taken =
      let s = kept placed.store.keeper in
      let here : Survives s (kept next.store.keeper) (AreAfterAt has_place s.now placed.book.register q placed.store.place) =
      left_both s (kept next.store.keeper) (AreAfter s.now placed.book.register q) (ArePlacedAt has_place s.now placed.store.place) carried.survives
      (one_left placed.book.register placed.store next.store q result taken) in
      subst (λ (k : K). Survives (kept k) (kept new.store) (AreAfterAt has_place (kept k).now old.book.register q place)) store
      (subst (λ (k : K). Survives s (kept k) (AreAfterAt has_place s.now old.book.register q place)) (sym store')
      (subst (λ (p : Place). Survives s (kept next.store.keeper) (AreAfterAt has_place s.now old.book.register q p)) at
      (subst (λ (b : Shelved). Survives s (kept next.store.keeper) (AreAfterAt has_place s.now b.register q placed.store.place)) book here)))

  tables_on : (fails : DeskFault → Type 0) (placed next : Desk (Placed K)) (q : Command) (result : Result Reply DeskFault)
      → CarriesOut (λ (it : Placed K). kept it.keeper) fails placed next q result → OnOk result (KeepsTables (λ (it : Placed K). kept it.keeper) placed next)
  tables_on fails placed next q (Ok reply) carried = carried.tables
  tables_on fails placed next q (Err fault) carried = tt

  -- and where it was carried out the tables are those of the register
  pub tables_below : (fails : DeskFault → Type 0) (old new : Desk K) (placed next : Desk (Placed K)) (q : Command) (result : Result Reply DeskFault)
      → placed.book ≡ old.book → placed.store.keeper ≡ old.store → new.book ≡ next.book → new.store ≡ next.store.keeper
      → CarriesOut (λ (it : Placed K). kept it.keeper) fails placed next q result → OnOk result (KeepsTables kept old new)
  tables_below fails old new placed next q result book store book' store' carried =
      subst (λ (b : Shelved). OnOk result (HasCleanDisk (kept new.store) → IsGood old.book.register
      → HasTables (kept old.store).now (tables_of old.book.register) → HasTables (kept new.store).now (tables_of b.register))) (sym book')
      (subst (λ (k : K). OnOk result (HasCleanDisk (kept k) → IsGood old.book.register → HasTables (kept old.store).now (tables_of old.book.register)
      → HasTables (kept k).now (tables_of next.book.register))) (sym store')
      (subst (λ (k : K). OnOk result (HasCleanDisk (kept next.store.keeper) → IsGood old.book.register → HasTables (kept k).now (tables_of old.book.register)
      → HasTables (kept next.store.keeper).now (tables_of next.book.register))) store
      (subst (λ (b : Shelved). OnOk result (HasCleanDisk (kept next.store.keeper) → IsGood b.register
      → HasTables (kept placed.store.keeper).now (tables_of b.register) → HasTables (kept next.store.keeper).now (tables_of next.book.register))) book
      (tables_on fails placed next q result carried))))
