-- What each kind of printing makes of a step, unless memory runs out.
use Rattle.std.proofs.Common.{◌≡◌, ◌∙◌, ap, inl, inr, subst, sym, ℕ, List, [], ◌∷◌, ◌++◌, append-nil, Result, Ok, Err}
use Rattle.std.specs.Prelude.{IfErr, IsErrAnd, OnOk, Option, string_bytes}
use Rattle.clr_stream.specs.Streams.{IsCut, Stream, WentOut}
use Rattle.clr_rules.specs.Id.{Id}
use Rattle.clr_journal.specs.Journals.{carried_out}
use Rattle.clr_journal.specs.Line.{Entry}
use Rattle.clr_chain.specs.Walking.{Step}
use Rattle.clr_log.specs.Commands.{commands_text, wanted_of}
use Rattle.clr_log.specs.Walked.{Serve, held_entries, older_with, step_text}
use Rattle.clr_log.specs.declared.walked.WalkedCommands.{WalkedCommands}
use Rattle.clr_log.specs.declared.walked.WalkedLog.{WalkedLog}
use Rattle.clr_verify.specs.Replay.{open_entries}
use Rattle.clr_args.specs.declared.asked.JournalArgs.{JournalArgs}
use Rattle.clr_edge.specs.Visit.{Done}
use Rattle.clr_edge.specs.declared.fault.Fault.{Fault}
use Rattle.clr_edge.specs.declared.fault.Fault.TheVariants.{Memory, Output}
use Rattle.clr_keeping.specs.Journal.{ends_as, journal_text}
use Rattle.clr_keeping.specs.Printing.{FailsOn, HasPrinted, IsCutOf, IsText, PrintsAll, PrintsOn, bad_with, first_bad}
use Rattle.clr_keeping.specs.declared.journal.Kind.TheVariants.{Commands, Log}
use Rattle.clr_keeping.specs.declared.journal.Printing.{Printing}
use Rattle.clr_keeping.proofs.SentTexts.{FailsOn-more, FailsOn-quiet, PrintsOn-more, cut_more, cut_of, sent_some, sent_text, went_out}
use Rattle.clr_keeping.proofs.StepTexts.{commands_ended, commands_more, first_bad-more, log_more}

-- a step of the log
pub log_stepped : {E : Type 0} (result : Result (Unit {0}) E) (old new : WalkedLog) (step : Step) (before after : List ℕ)
    → OnOk result ((older : List Entry) → Serve old.wanted (held_entries old.held.items) older → after ≡ before ++ step_text old.wanted old.clock older step)
    → OnOk result ((older : List Entry) → Serve old.wanted (held_entries old.held.items) older → Serve new.wanted (held_entries new.held.items) (older_with older step))
    → new.wanted ≡ old.wanted → new.clock ≡ old.clock
    → OnOk result ((args : JournalArgs) (wanted : Option Id) (steps : List Step) (sent : List ℕ) → IsText args wanted steps (sent ++ before) (Log old)
    → IsText args wanted (steps ++ step ∷ []) (sent ++ after) (Log new))
log_stepped (Err error) old new step before after text serve same clock = tt
log_stepped (Ok value) old new step before after text serve same clock =
    λ args wanted steps sent is. log_more args wanted steps step sent before after old new text serve same clock is

-- of the commands
pub commands_stepped : {E : Type 0} (result : Result (Unit {0}) E) (old new : WalkedCommands) (step : Step) (before after : List ℕ)
    → OnOk result ((rest : List Entry) → before ++ commands_text (wanted_of old.wanted (carried_out (open_entries old.last ++ older_with rest step)))
    ≡ after ++ commands_text (wanted_of new.wanted (carried_out (open_entries new.last ++ rest))))
    → new.wanted ≡ old.wanted
    → OnOk result ((args : JournalArgs) (wanted : Option Id) (steps : List Step) (sent : List ℕ) → IsText args wanted steps (sent ++ before) (Commands old)
    → IsText args wanted (steps ++ step ∷ []) (sent ++ after) (Commands new))
commands_stepped (Err error) old new step before after text same = tt
commands_stepped (Ok value) old new step before after text same =
    λ args wanted steps sent is. commands_more args wanted steps step sent before after old new text same is

-- the end
pub commands_over : {E : Type 0} (result : Result (Unit {0}) E) (it : WalkedCommands) (before after : List ℕ)
    → OnOk result (after ≡ before ++ commands_text (wanted_of it.wanted (carried_out (open_entries it.last))))
    → OnOk result ((args : JournalArgs) (wanted : Option Id) (steps : List Step) (sent : List ℕ) → IsText args wanted steps (sent ++ before) (Commands it)
    → sent ++ after ≡ journal_text args wanted steps)
commands_over (Err error) it before after ends = tt
commands_over (Ok value) it before after ends = λ args wanted steps sent is. commands_ended args wanted steps sent before after it ends is

-- ---- what is printed of a line

-- one step more is held
pub step_added : {E : Type 0} (result : Result (Unit {0}) E) (old new : Printing) (step : Step)
    → OnOk result ((args : JournalArgs) (wanted : Option Id) (steps : List Step) (sent : List ℕ) → IsText args wanted steps (sent ++ string_bytes old.text) old.kind
    → IsText args wanted (steps ++ step ∷ []) (sent ++ string_bytes new.text) new.kind)
    → new.bad ≡ bad_with old.bad step → OnOk result ((output : Stream) → PrintsOn old output (step ∷ []) new output)
step_added (Err error) old new step text bad = tt
step_added (Ok value) old new step text bad = λ output. record {
  printed = λ args began had is. record {
    wanted = HasPrinted.wanted is;
    wanted_is = HasPrinted.wanted_is is;
    sent = HasPrinted.sent is;
    went = HasPrinted.went is;
    text = text args (HasPrinted.wanted is) had (HasPrinted.sent is) (HasPrinted.text is);
    bad_is = bad ∙ ap (λ (b : Option ℕ). bad_with b step) (HasPrinted.bad_is is) ∙ sym (first_bad-more had step);
  };
}

-- a step that a line is
pub line_added : {E : Type 0} (result : Result (Unit {0}) E) (old new : Printing) (seen step : Step) → seen ≡ step
    → OnOk result ((args : JournalArgs) (wanted : Option Id) (steps : List Step) (sent : List ℕ) → IsText args wanted steps (sent ++ string_bytes old.text) old.kind
    → IsText args wanted (steps ++ seen ∷ []) (sent ++ string_bytes new.text) new.kind)
    → new.bad ≡ bad_with old.bad seen → OnOk result ((output : Stream) → PrintsOn old output (step ∷ []) new output)
line_added result old new seen step is text bad =
    subst (λ (s : Step). OnOk result ((output : Stream) → PrintsOn old output (s ∷ []) new output)) is (step_added result old new seen text bad)

-- and sent
pub line_sent : (result : Done) (old middle new : Printing) (o p : Stream) (steps : List Step) → PrintsOn old o steps middle o
    → OnOk result (PrintsOn middle o [] new p) → OnOk result (PrintsOn old o steps new p)
line_sent (Err fault) old middle new o p steps here there = tt
line_sent (Ok value) old middle new o p steps here there = subst (λ (l : List Step). PrintsOn old o l new p) (append-nil steps) (PrintsOn-more old middle new o o p steps [] here there)

pub line_unsent : (result : Done) (old middle : Printing) (o p : Stream) (steps : List Step) → PrintsOn old o steps middle o
    → IfErr result (λ fault. FailsOn middle o [] fault p) → IfErr result (λ fault. FailsOn old o steps fault p)
line_unsent (Ok value) old middle o p steps here there = tt
line_unsent (Err fault) old middle o p steps here there = subst (λ (l : List Step). FailsOn old o l fault p) (append-nil steps) (FailsOn-more old middle o o p steps [] fault here there)

-- memory ran out
pub line_none : (result : Done) (it : Printing) (o : Stream) (steps : List Step) → IsErrAnd result (λ fault. fault ≡ Memory) → IfErr result (λ fault. FailsOn it o steps fault o)
line_none (Ok value) it o steps memory = tt
line_none (Err fault) it o steps memory = FailsOn-quiet it o steps fault (λ output. by output memory)
  where
    by : fault ≡ Output → fault ≡ Memory → ⊥
    by output ran_out = cc

-- what is held is sent
pub held_sent : (it new : Printing) (o p : Stream) → WentOut o p (string_bytes it.text) → p.failures ≡ o.failures → p.stalls ≡ o.stalls
    → string_bytes new.text ≡ [] → new.kind ≡ it.kind → new.bad ≡ it.bad → PrintsOn it o [] new p
held_sent it new o p went failures stalls empty kind bad = record {
  printed = λ args began had is.
      subst (λ (l : List Step). HasPrinted args began l new p) (sym (append-nil had))
      (sent_text it new began o p args had is went failures stalls empty kind bad);
}

pub held_cut : (it : Printing) (o p : Stream) (fault : Fault) → fault ≡ Output → IsCut o p (string_bytes it.text) → FailsOn it o [] fault p
held_cut it o p fault output cut = record {
  sent = λ other. absurd (other output);
  cut = λ _ args began had is.
      subst (λ (l : List Step). IsCutOf args began p l) (sym (append-nil had)) (cut_of args began o p had it is cut);
}

-- a text that is held went out
pub text_out : (o p : Stream) (told held : List ℕ) → told ≡ held → WentOut o p told → WentOut o p held
text_out o p told held same went = subst (λ (t : List ℕ). WentOut o p t) same went

pub text_cut : (o p : Stream) (told held : List ℕ) → told ≡ held → IsCut o p told → IsCut o p held
text_cut o p told held same cut = subst (λ (t : List ℕ). IsCut o p t) same cut

-- ---- what is printed at the end

-- all went out, and this is the end
pub all_out : (it : Printing) (text : List ℕ) (args : JournalArgs) (began o p : Stream) (steps : List Step) (result : Done)
    → ((asked : JournalArgs) (wanted : Option Id) (had : List Step) (sent : List ℕ) → IsText asked wanted had (sent ++ string_bytes it.text) it.kind
    → sent ++ text ≡ journal_text asked wanted had)
    → WentOut o p text → (it.bad ≡ first_bad steps → result ≡ ends_as steps) → HasPrinted args began steps it o → PrintsAll args began p steps result
all_out it text args began o p steps result whole went ends is =
    let all = whole args (HasPrinted.wanted is) steps (HasPrinted.sent is) (HasPrinted.text is) in (
      HasPrinted.wanted is,
      HasPrinted.wanted_is is,
      inl (subst (λ (l : List ℕ). WentOut began p l) all (went_out began o p (HasPrinted.sent is) text (HasPrinted.went is) went), ends (HasPrinted.bad_is is)),
    )

-- a front of it did
pub all_cut : (it : Printing) (text : List ℕ) (args : JournalArgs) (began o p : Stream) (steps : List Step) (result : Done)
    → ((asked : JournalArgs) (wanted : Option Id) (had : List Step) (sent : List ℕ) → IsText asked wanted had (sent ++ string_bytes it.text) it.kind
    → sent ++ text ≡ journal_text asked wanted had)
    → IsCut o p text → result ≡ Err Output → HasPrinted args began steps it o → PrintsAll args began p steps result
all_cut it text args began o p steps result whole cut failed is =
    let all = whole args (HasPrinted.wanted is) steps (HasPrinted.sent is) (HasPrinted.text is) in (
      HasPrinted.wanted is,
      HasPrinted.wanted_is is,
      inr (inl (failed, cut_more began o p (HasPrinted.sent is) text [] _ (HasPrinted.went is) cut (sym all ∙ sym (append-nil (HasPrinted.sent is ++ text))))),
    )

-- memory ran out
pub all_none : (it : Printing) (args : JournalArgs) (began o : Stream) (steps : List Step) (result : Done) → result ≡ Err Memory
    → HasPrinted args began steps it o → PrintsAll args began o steps result
all_none it args began o steps result memory is =
    (HasPrinted.wanted is, HasPrinted.wanted_is is, inr (inr (memory, sent_some began o (HasPrinted.sent is) (HasPrinted.went is))))
