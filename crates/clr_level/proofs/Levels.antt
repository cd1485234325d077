-- Register, place and journal stay level.
use Rattle.std.proofs.Common.{◌≡◌, ◌∙◌, ◌+◌, ◌==◌, ◌⊎◌, ℕ, Bool, true, false, List, [], ◌∷◌, ◌++◌, Ok, Err, Result, Option, inl, inr, refl, sym, subst, ap, ap₂, append-nil, append_assoc}
use Rattle.std.proofs.lemmas.Bool.{and_from}
use Rattle.serde_json.specs.Data.{Data}
use Rattle.sqlite.specs.State.{State}
use Rattle.clr_rules.specs.Answer.{Answer, answer}
use Rattle.clr_rules.specs.Good.{IsGood}
use Rattle.clr_rules.specs.Register.{Register}
use Rattle.clr_rules.specs.Run.{after}
use Rattle.clr_changes.specs.Deeds.{Deed, after_deed, command as of_command}
use Rattle.clr_changes.proofs.Deeds.{deeds_good}
use Rattle.clr_rules.specs.declared.command.Command.{Command}
use Rattle.clr_rules.specs.declared.reply.Reply.{Reply}
use Rattle.clr_rules.specs.declared.reply.Reply.TheVariants.{Accepted, Shown, Refused, Added}
use Rattle.clr_answer.specs.Decision.{is_accepted as accepts}
use Rattle.clr_text.specs.Replies.{reply_data}
use Rattle.clr_journal.specs.Answered.{deed_reply}
use Rattle.clr_journal.specs.Journals.{carried_out, in_turn, is_next, turn_after, withdraws}
use Rattle.clr_journal.specs.Laws.{turn_behind}
use Rattle.clr_journal.specs.Line.{Entry, carried, is_accepted, withdrawn}
use Rattle.clr_journal.specs.declared.line.Receipt.{Receipt}
use Rattle.clr_journal.specs.declared.reading.Turn.{Turn}
use Rattle.clr_journal.proofs.JournalsRead.{lines_grow, withdrawn_is_left_out}
use Rattle.clr_rules.specs.declared.place.Place.{Place}
use Rattle.clr_chain.specs.Chain.{chain_text}
use Rattle.clr_chain.specs.First.{first_turn_at}
use Rattle.clr_chain.specs.Laws.{line_at}
use Rattle.clr_chain.specs.Level.{IsLevel, IsRunOf, place_after, place_with}
use Rattle.clr_chain.proofs.LevelKept.{carried_out-append, steps_keep}
use Rattle.clr_book.specs.Own.{asked_answer}
use Rattle.clr_desk.specs.Given.{AreGiven, Given, IsAnswered}
use Rattle.clr_desk.specs.Taking.{Takes, Taking}
use Rattle.clr_desk.specs.declared.desk_fault.DeskFault.{DeskFault}
use Rattle.clr_desk.specs.declared.desk_fault.DeskFault.TheVariants.{Journal, NoMemory, Store}
use Rattle.clr_desk.proofs.OneCommand.{near_after_is_after, near_is_whole}
use Rattle.clr_level.specs.Journaling.{IsAsItWas, IsNoted, IsUnnoted, Journals, Misses, command_of, end_owed, end_said, has_line, is_doubtful, left, line_of, said, text_owed, unasked, unkept, unwritten, with_link}
use Rattle.clr_level.specs.Levelling.{EitherIsLevel, IsDue, IsKeptLevel, IsLeft, LevelIsKept, SettledIsWhatItSays}
use Rattle.clr_desk.specs.Placing.{Placing}
use Rattle.clr_level.specs.Placing.{IsAt, StaysShown}
use Rattle.clr_level.specs.declared.keeper.Keeper.{Keeper}
use Rattle.clr_level.specs.declared.last.Last.{Last}
use Rattle.clr_level.specs.declared.last.Last.TheVariants.{Doubtful, Owed, Settled}
use Rattle.clr_level.proofs.Accepting.{accepted_data}
use Rattle.clr_level.proofs.Chains.{accepted_out, chain_more, command_kept, kept_on, nothing_out, place_more, refused_out, run_more, same_number, turn_more}
use Rattle.clr_level.proofs.Places.{at_moves, at_stays, shown_itself}

-- ---- lines, with the place of a register among them

-- the register has the lines up to its place; these lines come after them
pub record IsUpTo (first : Register) (start place : Place) (R : Register) (bytes : List ℕ) (at : Place) (more : List Entry) : Type 0 where
  pub had : List Entry
  pub turns : in_turn (first_turn_at start) (had ++ more) ≡ true
  pub is_at : place ≡ place_after start had
  pub kept : withdraws more ≡ false
  pub run : IsRunOf first (carried_out had) R
  pub text_is : bytes ≡ chain_text start (had ++ more)
  pub end_is : at ≡ place_after start (had ++ more)

-- and of these no command is left to be carried out
pub record IsSaid (first : Register) (start place : Place) (R : Register) (bytes : List ℕ) (at : Place) : Type 0 where
  pub more : List Entry
  pub up : IsUpTo first start place R bytes at more
  pub none : carried_out more ≡ []

-- what is left of them is this
record IsLeftAs (first : Register) (start place : Place) (R : Register) (bytes : List ℕ) (at : Place) (last : Last) : Type 0 where
  more : List Entry
  up : IsUpTo first start place R bytes at more
  left_is : IsLeft last R more

-- the line of an accepted command has the command as it is
accepted_command : (sum : List ℕ) (receipt : Receipt) (q : Command) (reply : Reply) → accepts reply ≡ true → command_of sum receipt q reply ≡ q
accepted_command sum receipt q (Accepted card) is = refl
accepted_command sum receipt q (Added point) is = refl
accepted_command sum receipt q (Shown view) is = absurd (cc is)
accepted_command sum receipt q (Refused refusal) is = absurd (cc is)

module _ (first : Register) (start place : Place) (R : Register) where
  line_more : (bytes : List ℕ) (at : Place) (more : List Entry) (entry : Entry) → (up : IsUpTo first start place R bytes at more)
      → is_next (turn_behind (first_turn_at start) (up.had ++ more)) entry ≡ true → withdraws (more ++ entry ∷ []) ≡ false
      → IsUpTo first start place R (with_link bytes at.sum entry) (place_with at entry) (more ++ entry ∷ [])
  line_more bytes at more entry up next kept =
      let all = up.had ++ more in
      let together : all ++ entry ∷ [] ≡ up.had ++ (more ++ entry ∷ []) = append_assoc up.had more (entry ∷ []) in
      record {
        had = up.had;
        turns = ap (in_turn (first_turn_at start)) (sym together) ∙ (lines_grow (first_turn_at start) all entry up.turns next).0;
        is_at = up.is_at;
        kept = kept;
        run = up.run;
        text_is = ap₂ (λ (t : List ℕ) (p : Place). with_link t p.sum entry) up.text_is up.end_is ∙ sym (chain_more start all entry)
            ∙ ap (chain_text start) together;
        end_is = ap (λ (p : Place). place_with p entry) up.end_is ∙ sym (place_more start all entry) ∙ ap (place_after start) together;
      }

  pub command_more : (bytes : List ℕ) (at : Place) (more : List Entry) (receipt : Receipt) (q : Deed) (reply : Data)
      → IsUpTo first start place R bytes at more → receipt.number ≡ at.number + 1
      → IsUpTo first start place R (with_link bytes at.sum (carried receipt q reply)) (place_with at (carried receipt q reply)) (more ++ carried receipt q reply ∷ [])
  command_more bytes at more receipt q reply up number =
      line_more bytes at more (carried receipt q reply) up
      (same_number receipt.number ((turn_behind (first_turn_at start) (up.had ++ more)).last + 1)
      (number ∙ ap (λ (p : Place). p.number + 1) up.end_is))
      (command_kept more receipt q reply up.kept)

  -- the command that is due is withdrawn
  withdrawal_more : (bytes : List ℕ) (at : Place) (more : List Entry) → IsUpTo first start place R bytes at more → IsDue R more
      → IsSaid first start place R (with_link bytes at.sum (withdrawn at.number)) (place_with at (withdrawn at.number))
  withdrawal_more bytes at more up due =
      let line : Entry = line_at R due.receipt due.deed in
      let told : Data = deed_reply R due.deed in
      let turn = turn_behind (first_turn_at start) (up.had ++ more) in
      let lines : up.had ++ more ≡ (up.had ++ due.idle) ++ line ∷ [] =
      ap (λ (xs : List Entry). up.had ++ xs) due.is ∙ sym (append_assoc up.had due.idle (line ∷ [])) in
      let turn_is : turn ≡ turn_after line =
      ap (turn_behind (first_turn_at start)) lines ∙ turn_more (first_turn_at start) (up.had ++ due.idle) line in
      let opened : turn.is_open ≡ true = ap (λ (t : Turn). t.is_open) turn_is ∙ due.accepted in
      let kept : withdraws (due.idle ++ line ∷ []) ≡ false = subst (λ (xs : List Entry). withdraws xs ≡ false) due.is up.kept in
      record {
        more = more ++ withdrawn at.number ∷ [];
        up = line_more bytes at more (withdrawn at.number) up
            (and_from turn.is_open (at.number == turn.last) opened (same_number at.number turn.last (ap (λ (p : Place). p.number) up.end_is)))
            (ap (λ (xs : List Entry). withdraws (xs ++ withdrawn at.number ∷ [])) due.is ∙ kept_on due.idle line (withdrawn at.number ∷ []) kept);
        none = ap (λ (xs : List Entry). carried_out (xs ++ withdrawn at.number ∷ [])) due.is
            ∙ ap carried_out (append_assoc due.idle (line ∷ []) (withdrawn at.number ∷ []))
            ∙ withdrawn_is_left_out due.idle due.receipt due.deed told at.number ∙ due.none;
      }

  -- what is said, with the withdrawal that is owed
  said_of : (last : Last) (bytes : List ℕ) (at : Place) (more : List Entry) → is_doubtful last ≡ false → IsUpTo first start place R bytes at more
      → IsLeft last R more → IsSaid first start place R (text_owed last at bytes) (end_owed last at)
  said_of Settled bytes at more certain up none = record { more = more; up = up; none = none }
  said_of Owed bytes at more certain up due = withdrawal_more bytes at more up due
  said_of Doubtful bytes at more certain up due = absurd (cc certain)

  -- once a deed is carried out, its line is no longer ahead of the register
  pub had_more : (bytes : List ℕ) (at : Place) (more : List Entry) (receipt : Receipt) (q : Deed) (S : Register)
      → (up : IsUpTo first start place R bytes at (more ++ line_at R receipt q ∷ [])) → carried_out more ≡ []
      → is_accepted (deed_reply R q) ≡ true → S ≡ after_deed R q → IsUpTo first start at S bytes at []
  had_more bytes at more receipt q S up none accepted register =
      let told : Data = deed_reply R q in
      let line : Entry = line_at R receipt q in
      let all = up.had ++ (more ++ line ∷ []) in
      let whole : all ++ [] ≡ all = append-nil all in
      let pairs : carried_out all ≡ carried_out up.had ++ (q, told) ∷ [] =
      carried_out-append up.had (more ++ line ∷ []) up.kept
      ∙ ap (λ (ps : List (Deed × Data)). carried_out up.had ++ ps) (accepted_out more receipt q told none accepted) in
      record {
        had = all;
        turns = ap (in_turn (first_turn_at start)) whole ∙ up.turns;
        is_at = up.end_is;
        kept = refl;
        run = subst (λ (T : Register). IsRunOf first (carried_out all) T) (sym register)
            (subst (λ (ps : List (Deed × Data)). IsRunOf first ps (after_deed R q)) (sym pairs) (run_more first R (carried_out up.had) q up.run));
        text_is = up.text_is ∙ ap (chain_text start) (sym whole);
        end_is = up.end_is ∙ ap (place_after start) (sym whole);
      }

-- ---- no line

unnoted_left : (first : Register) (start place : Place) (R : Register) (last last' : Last) (bytes bytes' : List ℕ) (at at' : Place) (more : List Entry)
    → text_owed last' at' bytes' ≡ text_owed last at bytes → end_owed last' at' ≡ end_owed last at
    → (is_doubtful last' ≡ false → is_doubtful last ≡ false) → (last' ≡ Owed → (last ≡ Owed) × (bytes' ≡ bytes) × (at' ≡ at))
    → IsUpTo first start place R bytes at more → IsLeft last R more → IsLeftAs first start place R bytes' at' last'
unnoted_left first start place R last Settled bytes bytes' at at' more text_is end_is doubt owes up left_is =
    let all = said_of first start place R last bytes at more (doubt refl) up left_is in
    record {
      more = all.more;
      up = subst (λ (t : List ℕ). IsUpTo first start place R t at' all.more) (sym text_is)
          (subst (λ (p : Place). IsUpTo first start place R (text_owed last at bytes) p all.more) (sym end_is) all.up);
      left_is = all.none;
    }
unnoted_left first start place R last Owed bytes bytes' at at' more text_is end_is doubt owes up left_is =
    let was = owes refl in
    record {
      more = more;
      up = subst (λ (t : List ℕ). IsUpTo first start place R t at' more) (sym was.1)
          (subst (λ (p : Place). IsUpTo first start place R bytes p more) (sym was.2) up);
      left_is = subst (λ (l : Last). IsLeft l R more) was.0 left_is;
    }
unnoted_left first start place R Settled Doubtful bytes bytes' at at' more text_is end_is doubt owes up left_is = record {
  more = more;
  up = subst (λ (t : List ℕ). IsUpTo first start place R t at' more) (sym text_is)
      (subst (λ (p : Place). IsUpTo first start place R bytes p more) (sym end_is) up);
  left_is = inl left_is;
}
unnoted_left first start place R Owed Doubtful bytes bytes' at at' more text_is end_is doubt owes up left_is =
    let all = withdrawal_more first start place R bytes at more up left_is in
    record {
      more = all.more;
      up = subst (λ (t : List ℕ). IsUpTo first start place R t at' all.more) (sym text_is)
          (subst (λ (p : Place). IsUpTo first start place R (text_owed Owed at bytes) p all.more) (sym end_is) all.up);
      left_is = inl all.none;
    }
unnoted_left first start place R Doubtful Doubtful bytes bytes' at at' more text_is end_is doubt owes up left_is = record {
  more = more;
  up = subst (λ (t : List ℕ). IsUpTo first start place R t at' more) (sym text_is)
      (subst (λ (p : Place). IsUpTo first start place R bytes p more) (sym end_is) up);
  left_is = left_is;
}

-- ---- a line of a command that is accepted

accepts_due : (R : Register) (q : Command) (reply : Reply) → reply ≡ Answer.reply (answer R q) → accepts reply ≡ true
    → is_accepted (reply_data (Answer.reply (answer R q))) ≡ true
accepts_due R q reply reply_is is = ap (λ (r : Reply). is_accepted (reply_data r)) (sym reply_is) ∙ accepted_data reply ∙ is

due_now : (R : Register) (more : List Entry) (receipt : Receipt) (q : Command) (reply : Reply) → carried_out more ≡ [] → reply ≡ Answer.reply (answer R q)
    → accepts reply ≡ true → IsDue R (more ++ line_at R receipt (of_command q) ∷ [])
due_now R more receipt q reply none reply_is is = record {
  idle = more;
  receipt = receipt;
  deed = of_command q;
  is = refl;
  none = none;
  accepted = accepts_due R q reply reply_is is;
}

-- ---- a keeper

module _ {K J C : Type 0} (kept : K → State) (has_place : Placing) (text : J → List ℕ) (first : Register) (start : Place) where
  pub kept_level : (R : Register) (it : Keeper K J C) (place : Place) (more : List Entry) → IsUpTo first start place R (text it.journal) it.at more
      → IsAt has_place (kept it.keeper) place → IsLeft it.last R more → IsKeptLevel kept has_place text first start R it
  kept_level R it place more up at left_is = record {
    entries = up.had ++ more;
    place = place;
    level = record {
      had = up.had;
      more = more;
      all = refl;
      turns = up.turns;
      is_at = up.is_at;
      kept = up.kept;
      run = up.run;
    };
    text_is = up.text_is;
    end_is = up.end_is;
    placed = at;
    left = left_is;
  }

  up_to : (R : Register) (it : Keeper K J C) → (level : IsKeptLevel kept has_place text first start R it)
      → IsUpTo first start level.place R (text it.journal) it.at level.level.more
  up_to R it level =
      let its = level.level in
      record {
        had = its.had;
        turns = ap (in_turn (first_turn_at start)) (sym its.all) ∙ its.turns;
        is_at = its.is_at;
        kept = its.kept;
        run = its.run;
        text_is = level.text_is ∙ ap (chain_text start) its.all;
        end_is = level.end_is ∙ ap (place_after start) its.all;
      }

  -- with a keeper as it was, or where it is
  level_at : (R : Register) (old new : Keeper K J C) (level : IsKeptLevel kept has_place text first start R old) → IsAt has_place (kept new.keeper) level.place
      → new.journal ≡ old.journal → new.at ≡ old.at → new.last ≡ old.last → IsKeptLevel kept has_place text first start R new
  level_at R old new level at journal end last = record {
    entries = level.entries;
    place = level.place;
    level = level.level;
    text_is = ap text journal ∙ level.text_is;
    end_is = end ∙ level.end_is;
    placed = at;
    left = subst (λ (l : Last). IsLeft l R level.level.more) (sym last) level.left;
  }

  pub said_level : (R : Register) (it : Keeper K J C) → is_doubtful it.last ≡ false → (level : IsKeptLevel kept has_place text first start R it)
      → IsSaid first start level.place R (said text it) (end_said it)
  said_level R it certain level =
      said_of first start level.place R it.last (text it.journal) it.at level.level.more certain (up_to R it level) level.left

  pub unnoted_level : (R : Register) (old new : Keeper K J C) → new.keeper ≡ old.keeper → IsUnnoted text old new
      → IsKeptLevel kept has_place text first start R old → IsKeptLevel kept has_place text first start R new
  unnoted_level R old new same none level =
      let all = unnoted_left first start level.place R old.last new.last (text old.journal) (text new.journal) old.at new.at level.level.more none.text_is none.end_is
      none.doubt none.owes (up_to R old level) level.left in
      kept_level R new level.place all.more all.up (subst (λ (k : K). IsAt has_place (kept k) level.place) (sym same) level.placed) all.left_is

  -- the line of a command is added
  noted_up : {shows : C → ℕ → Type 0} (R : Register) (old : Keeper K J C) (login : Option (List ℕ)) (q : Command) (reply : Reply) (new : Keeper K J C)
      (level : IsKeptLevel kept has_place text first start R old) → (noted : IsNoted shows text old login q reply new) (all : IsSaid first start level.place R (said text old) (end_said old))
      → IsUpTo first start level.place R (text new.journal) new.at (all.more ++ line_of (end_said old).sum noted.receipt q reply ∷ [])
  noted_up R old login q reply new level noted all =
      let entry = line_of (end_said old).sum noted.receipt q reply in
      let up = command_more first start level.place R (said text old) (end_said old) all.more noted.receipt
      (of_command (command_of (end_said old).sum noted.receipt q reply)) (reply_data reply) all.up noted.number in
      subst (λ (t : List ℕ). IsUpTo first start level.place R t new.at (all.more ++ entry ∷ [])) (sym noted.text_is)
      (subst (λ (p : Place). IsUpTo first start level.place R (with_link (said text old) (end_said old).sum entry) p (all.more ++ entry ∷ [])) (sym noted.end_is) up)

  -- that of one that is accepted is the one that the register gives
  due_up : {shows : C → ℕ → Type 0} (R : Register) (old : Keeper K J C) (login : Option (List ℕ)) (q : Command) (reply : Reply) (new : Keeper K J C)
      (level : IsKeptLevel kept has_place text first start R old) → (noted : IsNoted shows text old login q reply new) (all : IsSaid first start level.place R (said text old) (end_said old))
      → reply ≡ Answer.reply (answer R q) → accepts reply ≡ true
      → IsUpTo first start level.place R (text new.journal) new.at (all.more ++ line_at R noted.receipt (of_command q) ∷ [])
  due_up R old login q reply new level noted all reply_is is =
      subst (λ (e : Entry). IsUpTo first start level.place R (text new.journal) new.at (all.more ++ e ∷ []))
      (ap₂ (λ (p : Command) (r : Reply). carried noted.receipt (of_command p) (reply_data r)) (accepted_command (end_said old).sum noted.receipt q reply is) reply_is)
      (noted_up R old login q reply new level noted all)

  -- ---- one command

  module _ (takes : Taking K) (shows : C → ℕ → Type 0) (found : J → List ℕ) (may_leave : J → List ℕ → Type 0) (is_usable : J → Bool) where
    abbrev Takes_it : Keeper K J C → Option (List ℕ) → Command → Reply → Result (Unit {0}) DeskFault → Keeper K J C → Type 0
    Takes_it = Journals takes kept has_place shows text found may_leave is_usable

    abbrev Level : Register → Keeper K J C → Type 0
    Level R it = IsKeptLevel kept has_place text first start R it

    -- a line whose command is not carried out, and that leaves this
    left_due : (R : Register) (old : Keeper K J C) (login : Option (List ℕ)) (q : Command) (reply : Reply) (new : Keeper K J C) → Level R old → IsNoted shows text old login q reply new
        → StaysShown (kept old.keeper) (kept new.keeper) → reply ≡ Answer.reply (answer R q) → accepts reply ≡ true
        → ((more : List Entry) → IsDue R more → IsLeft new.last R more) → Level R new
    left_due R old login q reply new level noted stays reply_is is by =
        let all = said_level R old noted.certain level in
        kept_level R new level.place (all.more ++ line_at R noted.receipt (of_command q) ∷ []) (due_up R old login q reply new level noted all reply_is is)
        (at_stays has_place (kept old.keeper) (kept new.keeper) level.place level.placed stays)
        (by (all.more ++ line_at R noted.receipt (of_command q) ∷ []) (due_now R all.more noted.receipt q reply all.none reply_is is))

    left_refused : (R : Register) (old : Keeper K J C) (login : Option (List ℕ)) (q : Command) (reply : Reply) (new : Keeper K J C) → Level R old → IsNoted shows text old login q reply new
        → StaysShown (kept old.keeper) (kept new.keeper) → accepts reply ≡ false → new.last ≡ Settled → Level R new
    left_refused R old login q reply new level noted stays is settled =
        let all = said_level R old noted.certain level in
        let entry = line_of (end_said old).sum noted.receipt q reply in
        kept_level R new level.place (all.more ++ entry ∷ []) (noted_up R old login q reply new level noted all)
        (at_stays has_place (kept old.keeper) (kept new.keeper) level.place level.placed stays)
        (subst (λ (l : Last). IsLeft l R (all.more ++ entry ∷ [])) (sym settled)
        (refused_out all.more noted.receipt (of_command (command_of (end_said old).sum noted.receipt q reply)) (reply_data reply) all.none (accepted_data reply ∙ is)))

    as_it_was : (R : Register) (old new : Keeper K J C) → Level R old → IsAsItWas old new → StaysShown (kept old.keeper) (kept new.keeper) → Level R new
    as_it_was R old new level same stays =
        level_at R old new level (at_stays has_place (kept old.keeper) (kept new.keeper) level.place level.placed stays) same.journal same.at same.last

    same_keeper : (old new : K) → new ≡ old → StaysShown (kept old) (kept new)
    same_keeper old new same = subst (λ (k : K). StaysShown (kept old) (kept k)) (sym same) (shown_itself (kept old))

    after_fault : (R : Register) (old : Keeper K J C) (login : Option (List ℕ)) (q : Command) (reply : Reply) (fault : DeskFault) (new : Keeper K J C) → Level R old
        → reply ≡ Answer.reply (answer R q) → Misses takes kept shows text found may_leave is_usable old login q reply fault new → Level R new
    after_fault R old login q reply fault new level reply_is (unwritten (inl none) cause same) = unnoted_level R old new same none.unnoted level
    after_fault R old login q reply fault new level reply_is (unwritten (inr un) cause same) =
        left_due R old login q reply new level un.noted (same_keeper old.keeper new.keeper same) reply_is un.accepted
        (λ more due. subst (λ (l : Last). IsLeft l R more) (sym un.doubtful) (inr due))
    after_fault R old login q reply fault new level reply_is (unkept noted last_is durable taken stays) = at (accepts reply) refl fault refl
      where
        at : (b : Bool) → accepts reply ≡ b → (f : DeskFault) → fault ≡ f → Level R new
        at false is f same =
            left_refused R old login q reply new level noted stays is (last_is ∙ ap (λ (b : Bool). left b fault) is)
        at true is NoMemory same =
            left_due R old login q reply new level noted stays reply_is is
            (λ more due. subst (λ (l : Last). IsLeft l R more) (sym (last_is ∙ (λ i. left (is i) (same i)))) due)
        at true is (Store cause) same =
            left_due R old login q reply new level noted stays reply_is is
            (λ more due. subst (λ (l : Last). IsLeft l R more) (sym (last_is ∙ (λ i. left (is i) (same i)))) (inr due))
        at true is Journal same =
            left_due R old login q reply new level noted stays reply_is is
            (λ more due. subst (λ (l : Last). IsLeft l R more) (sym (last_is ∙ (λ i. left (is i) (same i)))) (inr due))
    after_fault R old login q reply fault new level reply_is (unasked none same taken stays) = as_it_was R old new level same stays

    after_refusal : (R : Register) (old : Keeper K J C) (login : Option (List ℕ)) (q : Command) (reply : Reply) (new : Keeper K J C) → Level R old → accepts reply ≡ false
        → Takes_it old login q reply (Ok tt) new → Level R new
    after_refusal R old login q reply new level is journals = at (has_line q reply) refl
      where
        at : (b : Bool) → has_line q reply ≡ b → Level R new
        at true has =
            let noted = journals.noted refl has in
            left_refused R old login q reply new level noted.0 (journals.stays refl is) is noted.1
        at false none = as_it_was R old new level (journals.asked refl none) (journals.stays refl is)

    has_its_line : (q : Command) (reply : Reply) → accepts reply ≡ true → has_line q reply ≡ true
    has_its_line q (Accepted card) is = refl
    has_its_line q (Added point) is = refl
    has_its_line q (Shown view) is = absurd (cc is)
    has_its_line q (Refused refusal) is = absurd (cc is)

    after_acceptance : (R S : Register) (old : Keeper K J C) (login : Option (List ℕ)) (q : Command) (reply : Reply) (new : Keeper K J C) → Level R old
        → reply ≡ Answer.reply (answer R q) → S ≡ after R q → accepts reply ≡ true → Takes_it old login q reply (Ok tt) new → Level S new
    after_acceptance R S old login q reply new level reply_is register is journals =
        let noted = journals.noted refl (has_its_line q reply is) in
        let all = said_level R old noted.0.certain level in
        let up = had_more first start level.place R (text new.journal) new.at all.more noted.0.receipt (of_command q) S (due_up R old login q reply new level noted.0 all reply_is is)
        all.none (accepts_due R q reply reply_is is) register in
        kept_level S new new.at [] up
        (at_moves has_place (kept old.keeper) (kept new.keeper) level.place new.at level.placed (journals.placed refl is))
        (subst (λ (l : Last). IsLeft l S []) (sym noted.1) nothing_out)

    good_now : (R : Register) (it : Keeper K J C) → IsGood first → Level R it → IsGood R
    good_now R it good level = subst IsGood (sym level.level.run.register) (deeds_good _ first good)

    one_keeps : (R S : Register) (old new : Keeper K J C) (login : Option (List ℕ)) (q : Command) (result : Result Reply DeskFault) → IsGood first → Level R old
        → IsAnswered Takes_it R old login q result S new → Level S new
    one_keeps R S old new login q (Ok (Shown view)) good level is =
        subst (λ (X : Register). Level X new) (sym (is.unchanged refl)) (subst (Level R) (sym is.taken.0) level)
    one_keeps R S old new login q (Ok (Accepted card)) good level is =
        after_acceptance R S old login q (Accepted card) new level (is.reply ∙ ap (λ (a : Answer). a.reply) (near_is_whole R q (good_now R old good level)))
        (is.register ∙ near_after_is_after R q (good_now R old good level)) refl is.taken
    one_keeps R S old new login q (Ok (Added point)) good level is =
        after_acceptance R S old login q (Added point) new level (is.reply ∙ ap (λ (a : Answer). a.reply) (near_is_whole R q (good_now R old good level)))
        (is.register ∙ near_after_is_after R q (good_now R old good level)) refl is.taken
    one_keeps R S old new login q (Ok (Refused refusal)) good level is =
        subst (λ (X : Register). Level X new) (sym (is.unchanged refl)) (after_refusal R old login q (Refused refusal) new level refl is.taken)
    one_keeps R S old new login q (Err fault) good level is =
        subst (λ (X : Register). Level X new) (sym (is.unchanged refl)) (at is.taken)
      where
        due : Reply
        due = Answer.reply (asked_answer R q)

        whole_due : due ≡ Answer.reply (answer R q)
        whole_due = ap (λ (a : Answer). a.reply) (near_is_whole R q (good_now R old good level))

        missed : (reply : Reply) → reply ≡ Answer.reply (answer R q) → Takes Takes_it old login q reply (Err fault) new → Level R new
        missed (Shown view) reply_is (same, none) = absurd (cc none)
        missed (Accepted card) reply_is taken = after_fault R old login q (Accepted card) fault new level reply_is (taken.missed fault refl)
        missed (Refused refusal) reply_is taken = after_fault R old login q (Refused refusal) fault new level reply_is (taken.missed fault refl)
        missed (Added point) reply_is taken = after_fault R old login q (Added point) fault new level reply_is (taken.missed fault refl)

        at : ((fault ≡ NoMemory) × (new ≡ old)) ⊎ Takes Takes_it old login q due (Err fault) new → Level R new
        at (inl (memory, same)) = subst (Level R) (sym same) level
        at (inr taken) = missed due whole_due taken

    keeps : (R S : Register) (old new : Keeper K J C) (given : List Given) → IsGood first → Level R old
        → AreGiven Takes_it R old given S new → Level S new
    unfolding AreGiven
    keeps R S old new [] good level (register, keeper) =
        subst (λ (X : Register). Level X new) (sym register) (subst (Level R) (sym keeper) level)
    keeps R S old new (it ∷ later) good level (between, middle, one, rest) =
        keeps between S middle new later good (one_keeps R between old middle it.login it.command it.result good level one) rest

pub level_is_kept : {K J C : Type 0} (takes : Taking K) (kept : K → State) (has_place : Placing) (shows : C → ℕ → Type 0) (text found : J → List ℕ)
    (may_leave : J → List ℕ → Type 0) (is_usable : J → Bool) → LevelIsKept K J C takes kept has_place shows text found may_leave is_usable
level_is_kept takes kept has_place shows text found may_leave is_usable first R S start old new given good level are =
    keeps kept has_place text first start takes shows found may_leave is_usable R S old new given good level are

pub settled_says : {K J C : Type 0} (kept : K → State) (has_place : Placing) (text : J → List ℕ) → SettledIsWhatItSays K J C kept has_place text
settled_says kept has_place text first R start it level settled =
    let its = level.level in
    let none : carried_out its.more ≡ [] = subst (λ (l : Last). IsLeft l R its.more) settled level.left in
    let all : carried_out level.entries ≡ carried_out its.had =
    ap carried_out its.all ∙ carried_out-append its.had its.more its.kept ∙ ap (λ (ps : List (Deed × Data)). carried_out its.had ++ ps) none
    ∙ append-nil (carried_out its.had) in
    subst (λ (ps : List (Deed × Data)). IsRunOf first ps R) (sym all) its.run

pub either_level : EitherIsLevel
either_level first R start place entries level due =
    let line : Entry = line_at R due.receipt due.deed in
    let all : entries ≡ level.had ++ due.idle ++ line ∷ [] =
    level.all ∙ ap (λ (xs : List Entry). level.had ++ xs) due.is ∙ sym (append_assoc level.had due.idle (line ∷ [])) in
    subst (λ (xs : List Entry). IsLevel first start entries (place_after start xs) (after_deed R due.deed)) (sym all)
    (steps_keep first R start place entries level due.idle [] due.receipt due.deed due.is due.none due.accepted refl)
