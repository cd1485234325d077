-- The lines of an input one by one: what they read as, and what answers them.
use Rattle.std.proofs.Common.{◌≡◌, ◌∙◌, ℕ, suc, ◌+◌, ◌<◌, ◌≤◌, List, [], ◌∷◌, ◌++◌, ap, sym, refl, drop, take, map, length, Ok, Err, Result, get_or, append_assoc, append-nil, arith}
use Rattle.std.specs.Prelude.{◌==◌, OnErr, Bool, true, false, filter, if◌then◌else◌, not}
use Rattle.std.specs.Borrow.{Bor}
use Rattle.std.proofs.lemmas.Grind.{flat_map-append}
use Rattle.std.proofs.lemmas.List.{drop_all, drop_more, drop-map, length-drop, take-append-drop, take_more}
use Rattle.clr_rules.specs.Answer.{Answer, answer}
use Rattle.clr_rules.specs.Register.{Register}
use Rattle.clr_rules.specs.Run.{after, after_all, replies}
use Rattle.clr_rules.specs.RunHeadline.{IsRun, with_reply}
use Rattle.clr_rules.specs.declared.command.Command.{Command}
use Rattle.clr_rules.specs.declared.reply.Reply.{Reply}
use Rattle.clr_text.specs.FaultText.{fault_text}
use Rattle.clr_text.specs.Lines.{after_lines, answer_text, commands_in, line_replies, register_behind, with_command}
use Rattle.clr_text.specs.Reading.{read_command}
use Rattle.clr_text.specs.Replies.{reply_text}
use Rattle.clr_text.specs.declared.fault.TextFault.{TextFault}
use Rattle.clr_commands.specs.Replies.{AnswerLines, answers, as_lines, command_in, is_asked, reading_in, reading_of, readings_of}
use Rattle.clr_commands.specs.declared.replies.Reading.{Reading}
use Rattle.clr_commands.specs.declared.replies.Reading.TheVariants as reading

-- ---- reading

-- the lines that are left at a place begin with the line there
pub lines_step : (lines : List (Bor (List ℕ))) (i : ℕ) (d : Bor (List ℕ)) → i < length lines
    → drop i (map (λ l. l.now) lines) ≡ (get_or lines i d).now ∷ drop (i + 1) (map (λ l. l.now) lines)
lines_step lines i d inside =
    drop-map (λ l. l.now) i lines
    ∙ ap (map (λ l. l.now)) (drop_more lines i d inside)
    ∙ ap (λ ls. (get_or lines i d).now ∷ ls) (sym (drop-map (λ l. l.now) (i + 1) lines))

pub lines_end : (lines : List (Bor (List ℕ))) (i : ℕ) → drop i lines ≡ [] → drop i (map (λ l. l.now) lines) ≡ []
lines_end lines i none = drop-map (λ l. l.now) i lines ∙ ap (map (λ l. l.now)) none

-- what is read of no more lines
pub readings_end : (now : List Reading) (rest : List (List ℕ)) → rest ≡ [] → now ++ readings_of (filter is_asked rest) ≡ now
readings_end now rest none = ap (λ l. now ++ readings_of (filter is_asked l)) none ∙ append-nil now

pub commands_end : (now : List Command) (rest : List (List ℕ)) → rest ≡ [] → now ++ commands_in (filter is_asked rest) ≡ now
unfolding commands_in
commands_end now rest none = ap (λ l. now ++ commands_in (filter is_asked l)) none ∙ append-nil now

with_commands : (read : Result Command TextFault) (commands : List Command) → with_command read commands ≡ with_command read [] ++ commands
with_commands (Ok q) commands = refl
with_commands (Err fault) commands = refl

-- what a line adds
reading_added : (empty : Bool) (line : List ℕ) (rest : List (List ℕ))
    → (if empty then [] else reading_of (read_command line) ∷ []) ++ readings_of (filter is_asked rest)
    ≡ readings_of (if not empty then line ∷ filter is_asked rest else filter is_asked rest)
reading_added true line rest = refl
reading_added false line rest = refl

command_added : (empty : Bool) (line : List ℕ) (rest : List (List ℕ))
    → (if empty then [] else with_command (read_command line) []) ++ commands_in (filter is_asked rest)
    ≡ commands_in (if not empty then line ∷ filter is_asked rest else filter is_asked rest)
unfolding commands_in
command_added true line rest = refl
command_added false line rest = sym (with_commands (read_command line) (commands_in (filter is_asked rest)))

-- one line more is read
pub readings_step : (before now : List Reading) (line : List ℕ) (lines rest : List (List ℕ)) → lines ≡ line ∷ rest
    → now ≡ before ++ reading_in line → now ++ readings_of (filter is_asked rest) ≡ before ++ readings_of (filter is_asked lines)
readings_step before now line lines rest split grown =
    ap (λ l. l ++ readings_of (filter is_asked rest)) grown
    ∙ append_assoc before (reading_in line) (readings_of (filter is_asked rest))
    ∙ ap (λ l. before ++ l) (reading_added (length line == 0) line rest)
    ∙ ap (λ l. before ++ readings_of (filter is_asked l)) (sym split)

pub commands_step : (before now : List Command) (line : List ℕ) (lines rest : List (List ℕ)) → lines ≡ line ∷ rest
    → now ≡ before ++ command_in line → now ++ commands_in (filter is_asked rest) ≡ before ++ commands_in (filter is_asked lines)
commands_step before now line lines rest split grown =
    ap (λ l. l ++ commands_in (filter is_asked rest)) grown
    ∙ append_assoc before (command_in line) (commands_in (filter is_asked rest))
    ∙ ap (λ l. before ++ l) (command_added (length line == 0) line rest)
    ∙ ap (λ l. before ++ commands_in (filter is_asked l)) (sym split)

-- ---- answering

-- an answer is at its place
pub record IsNext (texts : List (List ℕ)) (i : ℕ) (text : List ℕ) (rest : List (List ℕ)) : Type 0 where
  pub within : i < length texts
  pub printed : as_lines (take (i + 1) texts) ≡ as_lines (take i texts) ++ (text ++ 10 ∷ [])
  pub left : drop (i + 1) texts ≡ rest

pub next_answer : (texts : List (List ℕ)) (i : ℕ) (text : List ℕ) (rest : List (List ℕ)) → drop i texts ≡ text ∷ rest → IsNext texts i text rest
next_answer texts i text rest left =
    let counted : length (drop i texts) ≡ suc (length rest) = ap length left in
    let within : i < length texts = omega (arith, length-drop i texts, counted) in
    let split = drop_more texts i text within in
    let both : get_or texts i text ∷ drop (i + 1) texts ≡ text ∷ rest = sym split ∙ left in
    let here : get_or texts i text ≡ text = cc both in
    record {
      within = within;
      printed = ap as_lines (take_more texts i text within ∙ ap (λ t. take i texts ++ t ∷ []) here)
          ∙ flat_map-append (λ t. t ++ 10 ∷ []) (take i texts) (text ∷ [])
          ∙ ap (λ l. as_lines (take i texts) ++ l) (append-nil (text ++ 10 ∷ []));
      left = cc both;
    }

-- it is printed
pub printed_next : (texts : List (List ℕ)) (i : ℕ) (text : List ℕ) (rest : List (List ℕ)) (before now line after : List ℕ)
    → IsNext texts i text rest → line ≡ text → after ≡ now ++ (line ++ 10 ∷ []) → now ≡ before ++ as_lines (take i texts)
    → after ≡ before ++ as_lines (take (i + 1) texts)
printed_next texts i text rest before now line after next is added so_far =
    added ∙ (λ i. so_far i ++ (is i ++ 10 ∷ [])) ∙ append_assoc before (as_lines (take i texts)) (text ++ 10 ∷ [])
    ∙ ap (λ l. before ++ l) (sym next.printed)

-- only the first answers are printed
pub is_cut : {T E : Type 0} (result : Result T E) (texts : List (List ℕ)) (before text : List ℕ) (n : ℕ) → n < length texts
    → text ≡ before ++ as_lines (take n texts)
    → OnErr result ((n : ℕ) × (n < length texts) × (text ≡ before ++ as_lines (take n texts)))
is_cut (Ok value) texts before text n fewer front = tt
is_cut (Err cause) texts before text n fewer front = (n, fewer, front)

pub is_empty_list : {X : Type 0} (xs : List X) → length xs ≡ 0 → xs ≡ []
is_empty_list [] none = refl
is_empty_list (x ∷ xs) none = absurd (omega arith)

-- no answer is left
last_answer : (texts : List (List ℕ)) (i : ℕ) → drop i texts ≡ [] → take i texts ≡ texts
last_answer texts i none =
    sym (append-nil (take i texts)) ∙ ap (λ l. take i texts ++ l) (sym none) ∙ take-append-drop i texts

-- the readings that are left at a place begin with the one there
readings_left : (lines : List Reading) (i : ℕ) (r : Reading) (first : Reading) → i < length lines → get_or lines i r ≡ first
    → drop i lines ≡ first ∷ drop (i + 1) lines
readings_left lines i r first within is = drop_more lines i r within ∙ ap (λ x. x ∷ drop (i + 1) lines) is

-- the next answer is a reply
pub replied_next : (texts : List (List ℕ)) (lines : List Reading) (i : ℕ) (r : Reading) (left later : List Reply) (reply : Reply)
    → i < length lines → get_or lines i r ≡ reading.Command → left ≡ reply ∷ later → drop i texts ≡ answers (drop i lines) left
    → IsNext texts i (reply_text reply) (answers (drop (i + 1) lines) later)
unfolding answers
replied_next texts lines i r left later reply within is has same =
    next_answer texts i (reply_text reply) (answers (drop (i + 1) lines) later)
    (same ∙ ap (λ ls. answers ls left) (readings_left lines i r reading.Command within is)
    ∙ ap (λ l. answers (reading.Command ∷ drop (i + 1) lines) l) has)

-- or a fault
pub fault_next : (texts : List (List ℕ)) (lines : List Reading) (i : ℕ) (r : Reading) (left : List Reply) (fault : TextFault)
    → i < length lines → get_or lines i r ≡ reading.NoCommand fault → drop i texts ≡ answers (drop i lines) left
    → IsNext texts i (fault_text fault) (answers (drop (i + 1) lines) left)
unfolding answers
fault_next texts lines i r left fault within is same =
    next_answer texts i (fault_text fault) (answers (drop (i + 1) lines) left)
    (same ∙ ap (λ ls. answers ls left) (readings_left lines i r (reading.NoCommand fault) within is))

-- or there is none: a command has no reply
pub no_reply_left : (texts : List (List ℕ)) (lines : List Reading) (i : ℕ) (r : Reading) (left : List Reply)
    → i < length lines → get_or lines i r ≡ reading.Command → left ≡ [] → drop i texts ≡ answers (drop i lines) left
    → take i texts ≡ texts
unfolding answers
no_reply_left texts lines i r left within is none same =
    last_answer texts i
    (same ∙ ap (λ ls. answers ls left) (readings_left lines i r reading.Command within is)
    ∙ ap (λ l. answers (reading.Command ∷ drop (i + 1) lines) l) none)

-- or all lines have theirs
pub no_line_left : (texts : List (List ℕ)) (lines : List Reading) (i : ℕ) (left : List Reply) → length lines ≤ i
    → drop i texts ≡ answers (drop i lines) left → take i texts ≡ texts
unfolding answers
no_line_left texts lines i left all same = last_answer texts i (same ∙ ap (λ ls. answers ls left) (drop_all i lines all))

step_texts : (read : Result Command TextFault) (R : Register) (lines : List (List ℕ)) (told : List Reply)
    → ((S : Register) (left : List Reply) → left ≡ replies S (with_reply (commands_in lines) left)
    → answers (readings_of lines) left ≡ line_replies S (take (length (answers (readings_of lines) left)) lines))
    → told ≡ replies R (with_reply (with_command read (commands_in lines)) told)
    → (line : List ℕ) → read_command line ≡ read
    → answers (reading_of read ∷ readings_of lines) told
    ≡ line_replies R (take (length (answers (reading_of read ∷ readings_of lines) told)) (line ∷ lines))
unfolding answers line_replies replies
step_texts (Ok q) R lines [] rest same line reads = refl
step_texts (Ok q) R lines (reply ∷ told) rest same line reads =
    let first : reply ≡ Answer.reply (answer R q) = cc same in
    let others : told ≡ replies (after R q) (with_reply (commands_in lines) told) = cc same in
    (λ i. reply_text (first i) ∷ rest (after R q) told others i)
    ∙ ap (λ r. answer_text R r ∷ line_replies (register_behind R r) (take (length (answers (readings_of lines) told)) lines)) (sym reads)
step_texts (Err fault) R lines told rest same line reads =
    ap (λ l. fault_text fault ∷ l) (rest R told same)
    ∙ ap (λ r. answer_text R r ∷ line_replies (register_behind R r) (take (length (answers (readings_of lines) told)) lines)) (sym reads)

texts_are : (lines : List (List ℕ)) (R : Register) (told : List Reply) → told ≡ replies R (with_reply (commands_in lines) told)
    → answers (readings_of lines) told ≡ line_replies R (take (length (answers (readings_of lines) told)) lines)
unfolding answers line_replies commands_in
texts_are [] R told same = refl
texts_are (line ∷ lines) R told same =
    step_texts (read_command line) R lines told (λ S left. texts_are lines S left) same line refl

step_left : (read : Result Command TextFault) (R : Register) (lines : List (List ℕ)) (told : List Reply)
    → ((S : Register) (left : List Reply)
    → after_all S (with_reply (commands_in lines) left) ≡ after_lines S (take (length (answers (readings_of lines) left)) lines))
    → (line : List ℕ) → read_command line ≡ read
    → after_all R (with_reply (with_command read (commands_in lines)) told)
    ≡ after_lines R (take (length (answers (reading_of read ∷ readings_of lines) told)) (line ∷ lines))
unfolding answers after_lines after_all
step_left (Ok q) R lines [] rest line reads = refl
step_left (Ok q) R lines (reply ∷ told) rest line reads =
    rest (after R q) told
    ∙ ap (λ r. after_lines (register_behind R r) (take (length (answers (readings_of lines) told)) lines)) (sym reads)
step_left (Err fault) R lines told rest line reads =
    rest R told
    ∙ ap (λ r. after_lines (register_behind R r) (take (length (answers (readings_of lines) told)) lines)) (sym reads)

left_is : (lines : List (List ℕ)) (R : Register) (told : List Reply)
    → after_all R (with_reply (commands_in lines) told) ≡ after_lines R (take (length (answers (readings_of lines) told)) lines)
unfolding answers after_lines commands_in after_all
left_is [] R [] = refl
left_is [] R (reply ∷ told) = refl
left_is (line ∷ lines) R told = step_left (read_command line) R lines told (λ S left. left_is lines S left) line refl

-- the answers to lines, by the replies of the run of their commands
pub answers_are : (R S : Register) (lines : List (List ℕ)) (told : List Reply) → IsRun R (with_reply (commands_in lines) told) told S
    → AnswerLines R lines (answers (readings_of lines) told) S
answers_are R S lines told run = record {
  replied = texts_are lines R told run.replied;
  register = run.register ∙ left_is lines R told;
}
