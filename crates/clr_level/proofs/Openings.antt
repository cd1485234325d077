-- A keeper that is given its journal, level with it.
use Rattle.std.proofs.Common.{◌≡◌, ◌∙◌, false, List, [], ◌++◌, None, ℕ, ap, sym, subst, append_assoc, append-nil}
use Rattle.sqlite.specs.State.{State}
use Rattle.clr_rules.specs.declared.place.Place.{Place}
use Rattle.clr_rules.specs.Register.{Register}
use Rattle.clr_journal.specs.Journals.{carried_out, withdraws}
use Rattle.clr_journal.specs.Line.{Entry}
use Rattle.clr_chain.specs.Level.{IsLevel, IsRunOf, place_after}
use Rattle.clr_chain.proofs.LevelKept.{carried_out-append}
use Rattle.clr_level.specs.Forward.{CanBeOpened, HasCome}
use Rattle.clr_level.specs.Levelling.{IsKeptLevel, IsLeft}
use Rattle.clr_desk.specs.Placing.{Placing}
use Rattle.clr_level.specs.Placing.{IsAt}
use Rattle.clr_level.specs.declared.keeper.Keeper.{Keeper}
use Rattle.clr_level.specs.declared.last.Last.{Last}
use Rattle.clr_level.specs.declared.last.Last.TheVariants.{Settled}
use Rattle.clr_level.proofs.Chains.{front_kept, place_on, run_on}

nothing_open : (had idle : List Entry) → had ++ ((idle ++ []) ++ []) ≡ had ++ idle
nothing_open had idle = ap (λ es. had ++ es) (append-nil (idle ++ []) ∙ append-nil idle)

-- the lines have been run
pub rolled : (has_place : Placing) (R : Register) (place : Place) (lines : List Entry) (S T : Register) (s : State) (at : Place) → HasCome has_place R place lines S s at None []
    → T ≡ S → IsRunOf R (carried_out lines) T
rolled has_place R place lines S T s at come register =
    let idle_kept : withdraws come.idle ≡ false = front_kept come.idle [] (front_kept (come.idle ++ []) [] come.begins) in
    let pairs : carried_out lines ≡ carried_out come.had =
    ap carried_out (come.all_is ∙ nothing_open come.had come.idle) ∙ carried_out-append come.had come.idle idle_kept
    ∙ ap (λ ps. carried_out come.had ++ ps) come.none ∙ append-nil (carried_out come.had) in
    subst (λ (X : Register). IsRunOf R (carried_out lines) X) (sym register) (subst (λ ps. IsRunOf R ps S) (sym pairs) come.run)

-- at another state of a keeper that is the same
pub placed_as : {K : Type 0} (has_place : Placing) (kept : K → State) (k l : K) (at at' : Place) → l ≡ k → at' ≡ at → IsAt has_place (kept k) at
    → IsAt has_place (kept l) at'
placed_as {K} has_place kept k l at at' keeper place here =
    subst (λ (x : K). IsAt has_place (kept x) at') (sym keeper) (subst (IsAt has_place (kept k)) (sym place) here)

module _ (has_place : Placing) (first R : Register) (start place : Place) (lines : List Entry) where
  -- level at the place that was come to
  abbrev level_on : (entries : List Entry) (S : Register) (s : State) (at : Place) (level : IsLevel first start entries place R) → level.more ≡ lines
      → (come : HasCome has_place R place lines S s at None []) → IsLevel first start entries (place_after place come.had) S
  level_on entries S s at level more_is come =
      let more : level.more ≡ come.had ++ come.idle = more_is ∙ come.all_is ∙ nothing_open come.had come.idle in
      let had_kept : withdraws come.had ≡ false = front_kept come.had come.idle (ap withdraws (sym more) ∙ level.kept) in
      let pairs : carried_out (level.had ++ come.had) ≡ carried_out level.had ++ carried_out come.had = carried_out-append level.had come.had had_kept in
      record {
        had = level.had ++ come.had;
        more = come.idle;
        all = level.all ∙ ap (λ es. level.had ++ es) more ∙ sym (append_assoc level.had come.had come.idle);
        turns = level.turns;
        is_at = ap (λ p. place_after p come.had) level.is_at ∙ place_on start level.had come.had;
        kept = front_kept come.idle [] (front_kept (come.idle ++ []) [] come.begins);
        run = subst (λ ps. IsRunOf first ps S) (sym pairs) (run_on first R S (carried_out level.had) (carried_out come.had) level.run come.run);
      }

  -- where it has come to is the end of the journal
  at_end : (entries : List Entry) (S : Register) (s : State) (at : Place) (level : IsLevel first start entries place R) → level.more ≡ lines
      → (come : HasCome has_place R place lines S s at None []) → at ≡ place_after start entries
  at_end entries S s at level more_is come =
      let lines_are : come.had ++ (come.idle ++ []) ≡ level.more = sym (more_is ∙ come.all_is ∙ ap (λ es. come.had ++ es) (append-nil (come.idle ++ []))) in
      come.at_is ∙ ap (place_after place) lines_are ∙ ap (λ p. place_after p level.more) level.is_at ∙ place_on start level.had level.more
      ∙ ap (place_after start) (sym level.all)

  pub opened_level : {K J C : Type 0} (kept : K → State) (text : J → List ℕ) (s : State) (journal : J) (S : Register) (k : K) (at : Place) (it : Keeper K J C) (T : Register)
      → CanBeOpened has_place first start place R s (text journal) lines → HasCome has_place R place lines S (kept k) at None []
      → T ≡ S → it.keeper ≡ k → it.journal ≡ journal → it.at ≡ at → it.last ≡ Settled
      → IsKeptLevel kept has_place text first start T it
  opened_level {K} {J} kept text s journal S k at it T can come register keeper journal_is at_is settled =
      let level = level_on can.entries S (kept k) at can.level can.more_is come in
      subst (λ (X : Register). IsKeptLevel kept has_place text first start X it) (sym register) (record {
        entries = can.entries;
        place = place_after place come.had;
        level = level;
        text_is = ap text journal_is ∙ can.text_is;
        end_is = at_is ∙ at_end can.entries S (kept k) at can.level can.more_is come;
        placed = subst (λ (x : K). IsAt has_place (kept x) (place_after place come.had)) (sym keeper) come.placed;
        left = subst (λ (l : Last). IsLeft l S come.idle) (sym settled) come.none;
      })
