-- The calls of a keeper, one after the other.
use Rattle.std.proofs.Common.{◌≡◌, ◌∙◌, ◌<◌, ◌++◌, ℕ, List, [], ◌∷◌, Option, None, Some, true, Ok, Err, get_or, length, drop, refl, sym, subst, ap, inl, arith}
use Rattle.std.proofs.lemmas.List.{drop_more}
use Rattle.clr_rules.specs.Register.{Register}
use Rattle.clr_rules.specs.declared.command.Command.{Command}
use Rattle.clr_rules.specs.declared.reply.Reply.{Reply}
use Rattle.clr_rules.specs.declared.reply.Reply.TheVariants.{Accepted, Shown, Refused, Added}
use Rattle.clr_answer.specs.Decision.{is_accepted}
use Rattle.clr_desk.specs.Taking.{Came, Stops, Takes, TakesAll, TakesOne, TakesRun, Taking}
use Rattle.clr_desk.specs.declared.desk_fault.DeskFault.{DeskFault}
use Rattle.clr_desk.specs.declared.desk_fault.DeskFault.TheVariants.{NoMemory}

module _ {K : Type 0} (takes : Taking K) where
  -- a command that is accepted is taken as its keeper says
  pub takes_accepted : (old : K) (login : Option (List ℕ)) (q : Command) (reply : Reply) (came : Came) (new : K) → is_accepted reply ≡ true
      → takes old login q reply came new → Takes takes old login q reply came new
  takes_accepted old login q (Accepted card) came new is taken = taken
  takes_accepted old login q (Shown view) came new is taken = absurd (cc is)
  takes_accepted old login q (Refused refusal) came new is taken = taken
  takes_accepted old login q (Added point) came new is taken = taken

  -- for no command
  pub takes_none : (old : K) (commands : List Command) (replies : List Reply) → replies ≡ [] → TakesAll takes old commands replies old
  unfolding TakesAll
  takes_none old commands [] none = refl
  takes_none old commands (reply ∷ replies) none = absurd (cc none)

  -- for one more
  takes_more : (old mid new : K) (commands : List Command) (replies : List Reply) (q : Command) (reply : Reply) → length replies < length commands
      → q ≡ get_or commands (length replies) q → TakesAll takes old commands replies mid → Takes takes mid None q reply (Ok tt) new
      → TakesAll takes old commands (replies ++ reply ∷ []) new
  unfolding TakesAll
  takes_more old mid new [] replies q reply within at before taken = absurd (omega (arith, within))
  takes_more old mid new (p ∷ commands) [] q reply within at before taken =
      (new, subst (λ (k : K). Takes takes k None p reply (Ok tt) new) before (subst (λ (x : Command). Takes takes mid None x reply (Ok tt) new) at taken), refl)
  takes_more old mid new (p ∷ commands) (first ∷ replies) q reply within at (between, head, rest) taken =
      (between, head, takes_more between mid new commands replies q reply (omega (arith, within)) at rest taken)

  -- for the command at a place, after those before it
  pub takes_next : (old mid new : K) (commands : List Command) (i : ℕ) (q : Command) (replies more : List Reply) (reply : Reply) → i < length commands
      → q ≡ get_or commands i q → length replies ≡ i → more ≡ replies ++ reply ∷ [] → TakesAll takes old commands replies mid
      → Takes takes mid None q reply (Ok tt) new → TakesAll takes old commands more new
  takes_next old mid new commands i q replies more reply within at counted grown before taken =
      subst (λ (l : List Reply). TakesAll takes old commands l new) (sym grown)
      (takes_more old mid new commands replies q reply (omega (arith, within, counted)) (at ∙ ap (λ n. get_or commands n q) (sym counted)) before taken)

  -- the command at a place met a fault
  pub stops_at : (R : Register) (before new : K) (commands : List Command) (i : ℕ) (q : Command) (n : ℕ) (fault : DeskFault) → i < length commands
      → q ≡ get_or commands i q → n ≡ i → TakesOne takes R before None q (Err fault) new → Stops takes R before (drop n commands) (Some fault) new
  stops_at R before new commands i q n fault within at counted taken =
      subst (λ (k : ℕ). Stops takes R before (drop k commands) (Some fault) new) (sym counted)
      (subst (λ (left : List Command). Stops takes R before left (Some fault) new) (sym (drop_more commands i q within))
      (subst (λ (x : Command). TakesOne takes R before None x (Err fault) new) at taken))

  -- memory ran out before the first command
  stops_first : (R : Register) (k : K) (commands : List Command) → 0 < length commands → Stops takes R k commands (Some NoMemory) k
  stops_first R k [] some = absurd (omega (arith, some))
  stops_first R k (q ∷ commands) some = inl (refl, refl)

  pub no_run : (R : Register) (k : K) (commands : List Command) (replies : List Reply) → replies ≡ [] → length replies < length commands
      → TakesRun takes R k commands replies (Some NoMemory) k
  no_run R k commands [] none within = (k, takes_none k commands [] refl, stops_first R k commands within)
  no_run R k commands (reply ∷ replies) none within = absurd (cc none)
