-- Lines that serve for all that held before.
use Rattle.std.proofs.Common.{◌≡◌, ◌∙◌, ℕ, ℤ, suc, Bool, true, false, ◌&&◌, ◌||◌, if◌then◌else◌, List, [], ◌∷◌, ◌++◌, map, reverse, take, drop, length, ◌≤◌, ◌-◌, Option, None, Some, option_map, Result, Ok, Err, OnOk, refl, ap, sym, arith, codes, decimal, length-drop}
use Rattle.std.proofs.Math.Seq.{drop-append_seam}
use Rattle.std.proofs.lemmas.List.{length-map, length-reverse, map-append, reverse-append, take-append-drop}
use Rattle.std.specs.Prelude.{is_some}
use Rattle.serde_json.specs.Data.{Data}
use Rattle.serde_json.specs.View.{view}
use Rattle.clr_order.specs.Step.{Task}
use Rattle.clr_changes.specs.Deeds.{Deed, archive, command, deed_of, update}
use Rattle.clr_rules.specs.Id.{Id, same_id_equiv}
use Rattle.clr_rules.specs.declared.command.Command.{Command}
use Rattle.clr_rules.specs.declared.command.Kind.{Kind}
use Rattle.clr_rules.specs.declared.command.Kind.TheVariants as kind
use Rattle.clr_journal.specs.Line.{Entry, carried, entry_of, withdrawn}
use Rattle.clr_journal.specs.declared.line.Carried.{Carried}
use Rattle.clr_journal.specs.declared.line.Line.{Line}
use Rattle.clr_journal.specs.declared.line.Line.TheVariants as line
use Rattle.clr_journal.specs.declared.line.Receipt.{Receipt}
use Rattle.clr_chain.specs.Walking.{holds, seen_step}
use Rattle.clr_chain.specs.declared.walk.Step.{Step as SeenStep}
use Rattle.clr_log.specs.About.{clearance_of, is_wanted, last_clearance, line_clearance, named_or}
use Rattle.clr_log.specs.Log.{carried_line, entry_line, given_columns, id_or_dash, if_wanted, reply_words, said_columns, withdrawn_line}
use Rattle.clr_log.specs.Steps.{amended_by, deed_steps, given_by, given_or, is_amend, is_amend_deed, is_withdrawn, left_if, step_at, step_before, step_known}
use Rattle.clr_log.specs.Walked.{Serve, held_entries, idle_at_end, is_amending, is_amending_deed, is_remembered, step_text}
use Rattle.clr_log.specs.Words.{flags_said, names_said, numbered, step_words, steps_said, verb}
use Rattle.clr_rules.specs.Command.{named_clearance}

-- ---- what was amended since is a Leave

not_left : (found : Option Task) → option_map (left_if false) found ≡ found
not_left None = refl
not_left (Some t) = refl

left_twice : (a b : Bool) (found : Option Task) → option_map (left_if (a || b)) found ≡ option_map (left_if a) (option_map (left_if b) found)
left_twice a b None = refl
left_twice true true (Some t) = refl
left_twice true false (Some t) = refl
left_twice false b (Some t) = refl

amended_since : (c : Id) (k : ℕ) (withdraws amended : Bool) (older : List Entry) → step_before c k withdraws amended older ≡ option_map (left_if amended) (step_before c k withdraws false older)
unfolding step_before
amended_since c k withdraws amended [] = refl
amended_since c k withdraws amended (entry ∷ older) = at (given_by withdraws c entry) (amended_by withdraws c k entry) (λ b. amended_since c k (is_withdrawn entry) b older)
  where
    at : (given : Option (List Task)) (b : Bool)
        → ((b : Bool) → step_before c k (is_withdrawn entry) b older ≡ option_map (left_if b) (step_before c k (is_withdrawn entry) false older))
        → given_or k amended given (step_before c k (is_withdrawn entry) (amended || b) older)
        ≡ option_map (left_if amended) (given_or k false given (step_before c k (is_withdrawn entry) b older))
    at (Some steps) b rest = ap (option_map (left_if amended)) (sym (not_left (step_at k steps)))
    at None b rest = rest (amended || b) ∙ left_twice amended b (step_before c k (is_withdrawn entry) false older) ∙ ap (option_map (left_if amended)) (sym (rest b))

-- lines that know a step alike still do where it was amended since
same_amended : (c : Id) (k : ℕ) (amended : Bool) (held older : List Entry) → step_known held c k ≡ step_known older c k → step_before c k false amended held ≡ step_before c k false amended older
same_amended c k amended held older same =
    amended_since c k false amended held ∙ ap (option_map (left_if amended)) same ∙ sym (amended_since c k false amended older)

-- and with one more command
with_carried : (receipt : Receipt) (q : Deed) (reply : Data) (c : Id) (k : ℕ) (held older : List Entry) → step_known held c k ≡ step_known older c k
    → step_known (carried receipt q reply ∷ held) c k ≡ step_known (carried receipt q reply ∷ older) c k
unfolding step_before
with_carried receipt q reply c k held older same =
    ap (given_or k false (given_by false c (carried receipt q reply))) (same_amended c k (amended_by false c k (carried receipt q reply)) held older same)

-- ---- a command that is not remembered is not looked at

wanted_too : (wanted : Option Id) (c : Id) (found : Option Id) → is_wanted wanted (Some c) ≡ true → is_wanted (Some c) found ≡ true → is_wanted wanted found ≡ true
wanted_too None c found is own = refl
wanted_too (Some w) c None is own = absurd (cc own)
wanted_too (Some w) c (Some f) is own = sym (sym own ∙ sym (same_id_equiv.congr w c f is))

amend_only : (k : ℕ) (what : Kind) → is_amending what ≡ false → is_amend k what ≡ false
amend_only k (kind.Amend c step) is = absurd (cc is)
amend_only k _ is = refl

amend_deed_only : (k : ℕ) (deed : Deed) → is_amending_deed deed ≡ false → is_amend_deed k deed ≡ false
amend_deed_only k (command q) is = amend_only k q.kind is
amend_deed_only k (update of) is = refl
amend_deed_only k (archive before) is = refl

idle : (accepted own : Bool) (ordered : Option (List Task)) (amending amend of_wanted : Bool) → (own ≡ true → of_wanted ≡ true) → (amending ≡ false → amend ≡ false)
    → (accepted && ((is_some ordered || amending) && of_wanted)) ≡ false
    → ((if accepted && own then ordered else None) ≡ None) × (((accepted && own) && amend) ≡ false)
idle false own ordered amending amend of_wanted up only unasked = (refl, refl)
idle true false ordered amending amend of_wanted up only unasked = (refl, refl)
idle true true (Some steps) amending amend of_wanted up only unasked = let is = up refl in absurd (cc (is, unasked))
idle true true None true amend of_wanted up only unasked = let is = up refl in absurd (cc (is, unasked))
idle true true None false amend of_wanted up only unasked = (refl, only refl)

not_looked_at : (wanted : Option Id) (c : Id) (k : ℕ) (receipt : Receipt) (q : Deed) (reply : Data) (older : List Entry) → is_remembered wanted q reply ≡ false
    → is_wanted wanted (Some c) ≡ true → step_known (carried receipt q reply ∷ older) c k ≡ step_known older c k
unfolding step_before
not_looked_at wanted c k receipt q reply older unasked is =
    let found = clearance_of q reply in
    let both = idle _ (is_wanted (Some c) found) (deed_steps q) (is_amending_deed q) (is_amend_deed k q) (is_wanted wanted found)
    (λ own. wanted_too wanted c found is own) (amend_deed_only k q) unasked in
    λ i. given_or k false (both.0 i) (step_before c k false (both.1 i) older)

-- what is given up is not looked at
forgotten : (wanted : Option Id) (held : List Entry) (c : Id) (k : ℕ) → is_wanted wanted (Some c) ≡ true → step_known (drop (idle_at_end wanted held) held) c k ≡ step_known held c k
unfolding step_before
forgotten wanted [] c k is = refl
forgotten wanted (withdrawn n ∷ []) c k is = refl
forgotten wanted (withdrawn n ∷ withdrawn m ∷ older) c k is = refl
forgotten wanted (withdrawn n ∷ carried receipt q reply ∷ older) c k is = refl
forgotten wanted (carried receipt q reply ∷ older) c k is = at (is_remembered wanted q reply) refl
  where
    at : (b : Bool) → is_remembered wanted q reply ≡ b
        → step_known (drop (if b then 0 else 1) (carried receipt q reply ∷ older)) c k ≡ step_known (carried receipt q reply ∷ older) c k
    at true e = refl
    at false e = sym (not_looked_at wanted c k receipt q reply older e is)

-- ---- one more line

pub Serve-none : (wanted : Option Id) (held : List Entry) → held ≡ [] → Serve wanted held []
Serve-none wanted held none = rw none (record { last = refl; steps = λ c is k. refl; next = λ n c is k. refl })

-- a command, after which what no later line looks at was given up
pub Serve-carried : (wanted : Option Id) (held older : List Entry) (receipt : Receipt) (q : Deed) (reply : Data) → Serve wanted held older
    → Serve wanted (carried receipt q reply ∷ drop (idle_at_end wanted held) held) (carried receipt q reply ∷ older)
unfolding step_before
Serve-carried wanted held older receipt q reply serve = record {
  last = refl;
  steps = λ c is k. with_carried receipt q reply c k (drop (idle_at_end wanted held) held) older (forgotten wanted held c k is ∙ serve.steps c is k);
  next = λ n c is k. forgotten wanted held c k is ∙ serve.steps c is k;
}

pub Serve-withdrawn : (wanted : Option Id) (held older : List Entry) (n : ℕ) → Serve wanted held older → Serve wanted (withdrawn n ∷ held) (withdrawn n ∷ older)
unfolding step_before
Serve-withdrawn wanted held older n serve = record {
  last = refl;
  steps = λ c is k. serve.next n c is k;
  next = λ m c is k. serve.next n c is k;
}

-- ---- what is printed

numbered_alike : (wanted : Option Id) (held older : List Entry) (c : Id) (k : ℕ) → Serve wanted held older → is_wanted wanted (Some c) ≡ true
    → numbered held c k ≡ numbered older c k
numbered_alike wanted held older c k serve is = ap (λ step. codes " " ++ step_words k step) (serve.steps c is k)

steps_said_alike : (wanted : Option Id) (held older : List Entry) (what : Kind) (other : Option Id) → Serve wanted held older
    → is_wanted wanted (named_or (named_clearance what) other) ≡ true → steps_said held what ≡ steps_said older what
steps_said_alike wanted held older (kind.Instruct c k) other serve is = numbered_alike wanted held older c k serve is
steps_said_alike wanted held older (kind.Repeat c k text) other serve is = numbered_alike wanted held older c k serve is
steps_said_alike wanted held older (kind.Report c k done) other serve is = numbered_alike wanted held older c k serve is
steps_said_alike wanted held older (kind.Amend c k) other serve is = numbered_alike wanted held older c k serve is
steps_said_alike wanted held older _ other serve is = refl

said_alike : (wanted : Option Id) (held older : List Entry) (q : Command) (reply : Data) → Serve wanted held older
    → is_wanted wanted (clearance_of (command q) reply) ≡ true → said_columns held q reply ≡ said_columns older q reply
unfolding said_columns
said_alike wanted held older q reply serve is =
    ap (λ steps. (verb q.kind ++ steps ++ names_said q.kind ++ flags_said q.kind) ++ codes "  " ++ reply_words reply ++ codes "\n")
    (steps_said_alike wanted held older q.kind _ serve is)

abbrev pub piece : Option Id → ℤ → List Entry → Entry → List ℕ
piece wanted offset older entry = if_wanted (is_wanted wanted (line_clearance older entry)) (entry_line offset older entry)

-- THE LINE IS PRINTED alike after lines that serve
pub printed_alike : (wanted : Option Id) (offset : ℤ) (held older : List Entry) (entry : Entry) → Serve wanted held older
    → piece wanted offset held entry ≡ piece wanted offset older entry
unfolding withdrawn_line
printed_alike wanted offset held older (withdrawn n) serve =
    ap (λ last. if_wanted (is_wanted wanted last) (decimal n ++ codes "  -  " ++ id_or_dash last ++ codes "  -  -  withdrawn\n")) serve.last
printed_alike wanted offset held older (carried receipt (update of) reply) serve = refl
printed_alike wanted offset held older (carried receipt (archive before) reply) serve = refl
printed_alike wanted offset held older (carried receipt (command q) reply) serve = at (is_wanted wanted (clearance_of (command q) reply)) refl
  where
    at : (b : Bool) → is_wanted wanted (clearance_of (command q) reply) ≡ b
        → if_wanted b (carried_line offset held receipt q reply) ≡ if_wanted b (carried_line offset older receipt q reply)
    at true is = ap (λ said. given_columns offset receipt q reply ++ said) (said_alike wanted held older q reply serve is)
    at false is = refl

-- a line was written
pub step_printed : (wanted : Option Id) (offset : ℤ) (held older : List Entry) (entry : Entry) (before after : List ℕ) → Serve wanted held older
    → after ≡ before ++ piece wanted offset held entry → after ≡ before ++ piece wanted offset older entry
step_printed wanted offset held older entry before after serve more =
    more ∙ ap (λ text. before ++ text) (printed_alike wanted offset held older entry serve)

-- ---- what is held, as lines

taken_most : (lines : List Line) (n : ℕ) → held_entries lines ≡ reverse (map entry_of (drop n lines)) ++ held_entries (take n lines)
taken_most lines n =
    ap (λ all. reverse (map entry_of all)) (sym (take-append-drop n lines))
    ∙ ap reverse (map-append entry_of (take n lines) (drop n lines))
    ∙ reverse-append (map entry_of (take n lines)) (map entry_of (drop n lines))

-- to give up the last lines is to drop the newest
pub taken_back : (lines : List Line) (k n : ℕ) → k ≤ length lines → n ≡ length lines - k → held_entries (take n lines) ≡ drop k (held_entries lines)
taken_back lines k n within is =
    let gone = reverse (map entry_of (drop n lines)) in
    let count : length gone ≡ k = length-reverse (map entry_of (drop n lines)) ∙ length-map (drop n lines) entry_of ∙ length-drop n lines ∙ omega (arith, within, is) in
    sym (drop-append_seam gone (held_entries (take n lines))) ∙ ap (λ m. drop m (gone ++ held_entries (take n lines))) count ∙ ap (drop k) (sym (taken_most lines n))

held_count : (lines : List Line) → length (held_entries lines) ≡ length lines
held_count lines = length-reverse (map entry_of lines) ∙ length-map lines entry_of

idle_within : (wanted : Option Id) (held : List Entry) → idle_at_end wanted held ≤ length held
idle_within wanted [] = omega arith
idle_within wanted (withdrawn n ∷ []) = omega arith
idle_within wanted (withdrawn n ∷ withdrawn m ∷ older) = omega arith
idle_within wanted (withdrawn n ∷ carried receipt q reply ∷ older) = omega arith
idle_within wanted (carried receipt q reply ∷ older) = at (is_remembered wanted q reply)
  where
    at : (b : Bool) → (if b then 0 else 1) ≤ suc (length older)
    at true = omega arith
    at false = omega arith

-- the lines that are left
pub left_held : (wanted : Option Id) (lines now : List Line) (n : ℕ) → now ≡ take n lines → n ≡ length lines - idle_at_end wanted (held_entries lines)
    → held_entries now ≡ drop (idle_at_end wanted (held_entries lines)) (held_entries lines)
left_held wanted lines now n is_taken is =
    let k = idle_at_end wanted (held_entries lines) in
    let within : k ≤ length lines = omega (arith, idle_within wanted (held_entries lines), held_count lines) in
    ap held_entries is_taken ∙ taken_back lines k n within is

pub way_made : (wanted wanted' : Option Id) (held held' older : List Entry) (shown : Line) (one : Carried) → shown ≡ line.Carried one → wanted' ≡ wanted
    → held' ≡ drop (idle_at_end wanted held) held → Serve wanted held older → Serve wanted' (entry_of shown ∷ held') (entry_of shown ∷ older)
way_made wanted wanted' held held' older shown one line_is wanted_is held_is serve =
    rw (line_is, wanted_is, held_is) (Serve-carried wanted held older one.receipt (deed_of one.deed) (view one.reply) serve)

pub way_kept : (wanted : Option Id) (held older : List Entry) (shown : Line) (n : ℕ) → shown ≡ line.Withdrawn n → Serve wanted held older
    → Serve wanted (entry_of shown ∷ held) (entry_of shown ∷ older)
way_kept wanted held older shown n line_is serve = rw line_is (Serve-withdrawn wanted held older n serve)

-- a step was printed
pub step_written : {T E : Type 0} (result : Result T E) (wanted : Option Id) (offset : ℤ) (held : List Entry) (entry : Entry) (step : SeenStep) (before after : List ℕ)
    → seen_step step ≡ holds entry → after ≡ before ++ piece wanted offset held entry
    → OnOk result ((older : List Entry) → Serve wanted held older → after ≡ before ++ step_text wanted offset older (seen_step step))
step_written (Ok value) wanted offset held entry step before after is more = λ older serve.
    rw is (step_printed wanted offset held older entry before after serve more)
step_written (Err e) wanted offset held entry step before after is more = tt
