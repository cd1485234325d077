-- What came of a call is what is said of a keeper with a journal.
use Rattle.std.proofs.Common.{◌≡◌, ◌∙◌, ℕ, Bool, true, false, not, ◌||◌, List, Option, None, Ok, Err, refl, sym, subst, ap}
use Rattle.sqlite.specs.State.{State}
use Rattle.sqlite_disk.specs.Disk.{Only}
use Rattle.clr_rules.specs.declared.change.Edit.{Edit}
use Rattle.clr_rules.specs.declared.command.Command.{Command}
use Rattle.clr_rules.specs.declared.reply.Reply.{Reply}
use Rattle.clr_rules.specs.declared.reply.Reply.TheVariants.{Accepted, Shown, Refused, Added}
use Rattle.clr_answer.specs.Decision.{is_accepted}
use Rattle.clr_rules.specs.declared.place.Place.{Place}
use Rattle.clr_desk.specs.Commit.{Stays}
use Rattle.clr_desk.specs.Taking.{Came, Taking, is_refused}
use Rattle.clr_desk.specs.declared.desk_fault.DeskFault.{DeskFault}
use Rattle.clr_desk.specs.declared.desk_fault.DeskFault.TheVariants.{Journal, NoMemory, Store}
use Rattle.clr_level.specs.Journaling.{HasText, IsBeside, IsDurable, IsNoted, IsSafe, IsSound, IsWithdrawn, Journals, Misses, StaySafe, has_line, is_show, left, left_by, said, unkept}
use Rattle.clr_load.specs.TableEdits.{tables_edited}
use Rattle.clr_store.specs.Transaction.{Transacts}
use Rattle.clr_desk.specs.Placing.{Placing, SetsPlace, StaysOpen}
use Rattle.clr_level.specs.Placing.{ComesTo, StaysShown}
use Rattle.clr_level.specs.declared.keeper.Keeper.{Keeper}
use Rattle.clr_level.specs.declared.last.Last.TheVariants.{Settled}
use Rattle.clr_level.proofs.Places.{comes, shows_still, stays_shown}

true_false : {A : Type 0} (b : Bool) → b ≡ true → b ≡ false → A
true_false b is_true is_false = absurd (cc (is_true, is_false))

has_its_line : (q : Command) (reply : Reply) → is_accepted reply ≡ true → has_line q reply ≡ true
has_its_line q reply is = ap (λ (b : Bool). b || not (is_show q.kind)) is

has_one_too : (q : Command) (reply : Reply) → is_show q.kind ≡ false → is_accepted reply ≡ false → has_line q reply ≡ true
has_one_too q reply asks is = (λ i. is i || not (asks i))

has_none : (q : Command) (reply : Reply) → is_show q.kind ≡ true → is_accepted reply ≡ false → has_line q reply ≡ false
has_none q reply asks is = (λ i. is i || not (asks i))

pub refused_reply : (reply : Reply) → is_refused reply ≡ true → is_accepted reply ≡ false
refused_reply (Accepted card) is = absurd (cc is)
refused_reply (Shown view) is = absurd (cc is)
refused_reply (Refused refusal) is = refl
refused_reply (Added point) is = absurd (cc is)

never_settled : {A : Type 0} (fault : DeskFault) → left_by fault ≡ Settled → A
never_settled NoMemory is = absurd (cc is)
never_settled (Store cause) is = absurd (cc is)
never_settled Journal is = absurd (cc is)

module _ {K J C : Type 0} (takes : Taking K) (kept : K → State) (has_place : Placing) (shows : C → ℕ → Type 0)
    (text found : J → List ℕ) (may_leave : J → List ℕ → Type 0) (is_usable : J → Bool) where
  noted_as : (old mid new : Keeper K J C) (login : Option (List ℕ)) (q : Command) (reply : Reply) → IsNoted shows text old login q reply mid → IsBeside mid new → IsNoted shows text old login q reply new
  noted_as old mid new login q reply noted beside = record {
    receipt = noted.receipt;
    number = noted.number;
    within = noted.within;
    login = noted.login;
    clock = beside.clock ∙ noted.clock;
    received = subst (λ (c : C). shows c noted.receipt.received) (sym beside.clock) noted.received;
    text_is = ap text beside.journal ∙ noted.text_is;
    end_is = beside.at ∙ noted.end_is;
    certain = noted.certain;
  }

  sound_as : (mid new : Keeper K J C) → IsBeside mid new → IsSound text found may_leave mid → IsSound text found may_leave new
  sound_as mid new beside sound = record {
    begins = subst (λ (j : J). HasText text found j) (sym beside.journal) sound.begins;
    synced = λ is. subst (λ (j : J). Only (found j) (may_leave j)) (sym beside.journal) (sound.synced (sym beside.synced ∙ is));
  }

  safe_as : (mid new : Keeper K J C) → IsBeside mid new → StaySafe text may_leave mid.journal new.journal
  safe_as mid new beside front was = subst (λ (j : J). IsSafe text may_leave front j) (sym beside.journal) was

  -- where what is known of the last line stays
  withdrawn_as : (old mid new : Keeper K J C) → IsBeside mid new → new.last ≡ mid.last → IsWithdrawn text may_leave old mid → IsWithdrawn text may_leave old new
  withdrawn_as old mid new beside last was owed settled =
      subst (λ (j : J). IsSafe text may_leave (said text old) j) (sym beside.journal) (was owed (sym last ∙ settled))

  -- an accepted command, whose line is durable
  pub kept_is : (old mid new : Keeper K J C) (login : Option (List ℕ)) (q : Command) (reply : Reply) (edits : List Edit) → is_accepted reply ≡ true → IsNoted shows text old login q reply mid
      → mid.last ≡ Settled → IsDurable text may_leave mid.journal → (IsSound text found may_leave old → IsSound text found may_leave mid)
      → StaySafe text may_leave old.journal mid.journal → IsWithdrawn text may_leave old mid
      → mid.keeper ≡ old.keeper → IsBeside mid new → new.last ≡ mid.last → takes mid.keeper None q reply (Ok tt) new.keeper
      → Transacts {X = Unit {0}} (SetsPlace has_place mid.at) StaysOpen (kept mid.keeper) (kept new.keeper) (tables_edited edits) (Ok tt)
      → Journals takes kept has_place shows text found may_leave is_usable old login q reply (Ok tt) new
  kept_is old mid new login q reply edits is noted settled durable sound safe withdrawn same beside last taken commits = record {
    noted = λ ok has. (noted_as old mid new login q reply noted beside, last ∙ settled);
    asked = λ ok none. true_false (has_line q reply) (has_its_line q reply is) none;
    durable = λ ok accepted. subst (IsDurable text may_leave) (sym beside.journal) durable;
    placed = λ ok accepted.
        subst (λ (p : Place). ComesTo has_place (kept old.keeper) (kept new.keeper) p) (sym beside.at)
        (subst (λ (k : K). ComesTo has_place (kept k) (kept new.keeper) mid.at) same
        (comes has_place (kept mid.keeper) (kept new.keeper) edits mid.at commits));
    stays = λ ok refused. true_false (is_accepted reply) is refused;
    taken = λ ok. subst (λ (k : K). takes k None q reply (Ok tt) new.keeper) same taken;
    missed = λ f is_fault. absurd (cc is_fault);
    sound = λ was. sound_as mid new beside (sound was);
    safe = λ front was. safe_as mid new beside front (safe front was);
    withdrawn = withdrawn_as old mid new beside last withdrawn;
  }

  pub unkept_is : (old mid new : Keeper K J C) (login : Option (List ℕ)) (q : Command) (reply : Reply) (fault : DeskFault) (edits : List Edit) → is_accepted reply ≡ true
      → IsNoted shows text old login q reply mid → IsDurable text may_leave mid.journal → (IsSound text found may_leave old → IsSound text found may_leave mid)
      → StaySafe text may_leave old.journal mid.journal
      → mid.keeper ≡ old.keeper → IsBeside mid new → new.last ≡ left_by fault → takes mid.keeper None q reply (Err fault) new.keeper
      → Transacts {X = Unit {0}} (SetsPlace has_place mid.at) StaysOpen (kept mid.keeper) (kept new.keeper) (tables_edited edits) (Err fault)
      → Journals takes kept has_place shows text found may_leave is_usable old login q reply (Err fault) new
  unkept_is old mid new login q reply fault edits is noted durable sound safe same beside last taken commits = record {
    noted = λ ok. absurd (cc ok);
    asked = λ ok. absurd (cc ok);
    durable = λ ok. absurd (cc ok);
    placed = λ ok. absurd (cc ok);
    stays = λ ok. absurd (cc ok);
    taken = λ ok. absurd (cc ok);
    missed = λ f is_fault.
        let same_fault : fault ≡ f = cc is_fault in
        subst (λ (g : DeskFault). Misses takes kept shows text found may_leave is_usable old login q reply g new) same_fault
        (unkept (noted_as old mid new login q reply noted beside) (last ∙ ap (λ (b : Bool). left b fault) (sym is))
        (λ accepted. subst (IsDurable text may_leave) (sym beside.journal) durable)
        (subst (λ (k : K). takes k None q reply (Err fault) new.keeper) same taken)
        (subst (λ (k : K). StaysShown (kept k) (kept new.keeper)) same
        (shows_still has_place (kept mid.keeper) (kept new.keeper) edits mid.at fault commits)));
    sound = λ was. sound_as mid new beside (sound was);
    safe = λ front was. safe_as mid new beside front (safe front was);
    withdrawn = λ owed settled. never_settled fault (sym last ∙ settled);
  }

  -- a refused one with its line
  pub refused_is : (old mid new : Keeper K J C) (login : Option (List ℕ)) (q : Command) (reply : Reply) (came : Came) → is_refused reply ≡ true → is_show q.kind ≡ false
      → IsNoted shows text old login q reply mid → mid.last ≡ Settled → (IsSound text found may_leave old → IsSound text found may_leave mid)
      → StaySafe text may_leave old.journal mid.journal → IsWithdrawn text may_leave old mid
      → mid.keeper ≡ old.keeper → IsBeside mid new → new.last ≡ mid.last → takes mid.keeper None q reply came new.keeper
      → Stays (kept mid.keeper) (kept new.keeper) → Journals takes kept has_place shows text found may_leave is_usable old login q reply came new
  refused_is old mid new login q reply came refused asks noted settled sound safe withdrawn same beside last taken stays =
      let refusal : is_accepted reply ≡ false = refused_reply reply refused in
      let shown : StaysShown (kept old.keeper) (kept new.keeper) =
      subst (λ (k : K). StaysShown (kept k) (kept new.keeper)) same (stays_shown (kept mid.keeper) (kept new.keeper) stays) in
      let called : takes old.keeper None q reply came new.keeper = subst (λ (k : K). takes k None q reply came new.keeper) same taken in
      record {
        noted = λ ok has. (noted_as old mid new login q reply noted beside, last ∙ settled);
        asked = λ ok none. true_false (has_line q reply) (has_one_too q reply asks refusal) none;
        durable = λ ok accepted. true_false (is_accepted reply) accepted refusal;
        placed = λ ok accepted. true_false (is_accepted reply) accepted refusal;
        stays = λ ok refused_too. shown;
        taken = λ ok. subst (λ (c : Came). takes old.keeper None q reply c new.keeper) ok called;
        missed = λ f is.
            unkept (noted_as old mid new login q reply noted beside) (last ∙ settled ∙ ap (λ (b : Bool). left b f) (sym refusal))
            (λ accepted. true_false (is_accepted reply) accepted refusal)
            (subst (λ (c : Came). takes old.keeper None q reply c new.keeper) is called) shown;
        sound = λ was. sound_as mid new beside (sound was);
        safe = λ front was. safe_as mid new beside front (safe front was);
        withdrawn = withdrawn_as old mid new beside last withdrawn;
      }
