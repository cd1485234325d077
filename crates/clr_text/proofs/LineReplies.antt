-- What answers lines, from what a run of their commands answers.
use Rattle.std.proofs.Common.{◌≡◌, ◌∙◌, ℕ, Bool, true, false, List, [], ◌∷◌, Result, Ok, Err, refl, sym, ap, subst, map, if◌then◌else◌, filter}
use Rattle.clr_rules.proofs.Common.{false≢true, Agree, IsGood, Answer, answer, Id, Register, after, after_all, replies}
use Rattle.clr_rules.specs.Isolation.{LeftAlone, NothingIsTakenAway, OwnCommandsAlone, SameShownSameAnswers}
use Rattle.clr_rules.specs.RunHeadline.{own_replies}
use Rattle.clr_rules.specs.Shown.{is_own_command, own_answers}
use Rattle.clr_rules.proofs.isolation.RunReplies.{own_replies_are}
use Rattle.clr_text.specs.LineLaws.{FaultsAreOfTheLine, LinesAreRuns, OthersLinesTakeNothing, OwnLinesAlone, SameShownSameBytes}
use Rattle.clr_text.specs.Lines.{after_line, after_lines, answer_text, commands_in, is_others_reading, is_own_line, is_own_reading, line_replies, line_reply, own_line_replies, register_behind}
use Rattle.clr_text.specs.Lines.{with_command}
use Rattle.clr_text.specs.Reading.{read_command}
use Rattle.clr_text.specs.Replies.{reply_text}
use Rattle.clr_text.specs.declared.fault.TextFault.{TextFault}
use Rattle.clr_rules.specs.declared.command.Command.{Command}
use Rattle.clr_rules.specs.declared.reply.Reply.{Reply}

behind_step : (told : Result Command TextFault) (R : Register) (lines : List (List ℕ)) (commands : List Command)
    → ((S : Register) → after_lines S lines ≡ after_all S commands)
    → after_lines (register_behind R told) lines ≡ after_all R (with_command told commands)
unfolding after_all
behind_step (Ok q) R lines commands rest = rest (after R q)
behind_step (Err fault) R lines commands rest = rest R

-- lines leave the register that their commands leave
pub after_lines_are : (R : Register) (lines : List (List ℕ)) → after_lines R lines ≡ after_all R (commands_in lines)
unfolding after_lines after_all commands_in
after_lines_are R [] = refl
after_lines_are R (line ∷ lines) = behind_step (read_command line) R lines (commands_in lines) (λ S. after_lines_are S lines)

one_more : (own : Bool) (reply : Reply) (texts : List (List ℕ)) (told : List Reply) → texts ≡ map reply_text told
    → (if own then reply_text reply ∷ texts else texts) ≡ map reply_text (if own then reply ∷ told else told)
one_more true reply texts told rest = ap (λ l. reply_text reply ∷ l) rest
one_more false reply texts told rest = rest

texts_step : (c : Id) (told : Result Command TextFault) (R : Register) (lines : List (List ℕ)) (commands : List Command)
    → ((S : Register) → own_line_replies c lines (line_replies S lines) ≡ map reply_text (own_replies c commands (replies S commands)))
    → (if is_own_reading c told then answer_text R told ∷ own_line_replies c lines (line_replies (register_behind R told) lines)
    else own_line_replies c lines (line_replies (register_behind R told) lines))
    ≡ map reply_text (own_replies c (with_command told commands) (replies R (with_command told commands)))
unfolding own_replies replies
texts_step c (Ok q) R lines commands rest =
    one_more (is_own_command c q) (Answer.reply (answer R q)) (own_line_replies c lines (line_replies (after R q) lines))
    (own_replies c commands (replies (after R q) commands)) (rest (after R q))
texts_step c (Err fault) R lines commands rest = rest R

-- what answers the own lines are the texts of the replies to the own commands
pub own_texts_are : (c : Id) (R : Register) (lines : List (List ℕ))
    → own_line_replies c lines (line_replies R lines) ≡ map reply_text (own_replies c (commands_in lines) (replies R (commands_in lines)))
unfolding own_line_replies line_replies commands_in own_replies
own_texts_are c R [] = refl
own_texts_are c R (line ∷ lines) =
    texts_step c (read_command line) R lines (commands_in lines) (λ S. own_texts_are c S lines)

-- and so those of the own answers
own_texts : (c : Id) (R : Register) (lines : List (List ℕ))
    → own_line_replies c lines (line_replies R lines)
    ≡ map reply_text (map (λ (a : Answer). a.reply) (own_answers c R (commands_in lines)))
own_texts c R lines = own_texts_are c R lines ∙ ap (map reply_text) (own_replies_are c R (commands_in lines))

pub lines_are_runs : LinesAreRuns
lines_are_runs R lines told S run =
    record {
      register = after_lines_are R lines ∙ sym run.register;
      texts = λ c. own_texts_are c R lines ∙ ap (λ t. map reply_text (own_replies c (commands_in lines) t)) (sym run.replied);
    }

pub faults_are_of_the_line : FaultsAreOfTheLine
faults_are_of_the_line R line fault reads = (ap (answer_text R) reads, ap (register_behind R) reads)

pub same_bytes : SameShownSameAnswers → SameShownSameBytes
same_bytes law c inside R T lines others shown =
    let end = law c inside R T (commands_in lines) (commands_in others) shown in
    let texts : own_line_replies c lines (line_replies R lines) ≡ own_line_replies c others (line_replies T others) =
    own_texts c R lines ∙ ap (λ answers. map reply_text (map (λ (a : Answer). a.reply) answers)) end.0 ∙ sym (own_texts c T others) in
    let first : Agree c inside (after_lines R lines) (after_all T (commands_in others)) =
    subst (λ (X : Register). Agree c inside X (after_all T (commands_in others))) (sym (after_lines_are R lines)) end.1 in
    (texts, subst (λ (X : Register). Agree c inside (after_lines R lines) X) (sym (after_lines_are T others)) first)

nothing_at : (told : Result Command TextFault) (R : Register) (earlier : List (List ℕ)) (c : Id) → NothingIsTakenAway → IsGood R
    → is_others_reading c (after_all R (commands_in earlier)) told ≡ true
    → LeftAlone c (after_all R (commands_in earlier)) (register_behind (after_all R (commands_in earlier)) told)
nothing_at (Ok q) R earlier c law good others = law R (commands_in earlier) c q good others
nothing_at (Err fault) R earlier c law good others = absurd (false≢true others)

pub others_lines_take_nothing : NothingIsTakenAway → OthersLinesTakeNothing
others_lines_take_nothing law R earlier c line good =
    subst (λ (X : Register). is_others_reading c X (read_command line) ≡ true → LeftAlone c X (register_behind X (read_command line)))
    (sym (after_lines_are R earlier)) (nothing_at (read_command line) R earlier c law good)

-- ---- own lines alone

one_kept : (own : Bool) (line : List ℕ) (q : Command) (lines : List (List ℕ)) (commands : List Command) → read_command line ≡ Ok q
    → commands_in lines ≡ commands
    → commands_in (if own then line ∷ lines else lines) ≡ (if own then q ∷ commands else commands)
unfolding commands_in
one_kept true line q lines commands reads same = (λ i. with_command (reads i) (same i))
one_kept false line q lines commands reads same = same

own_step : (c : Id) (line : List ℕ) (told : Result Command TextFault) (lines : List (List ℕ)) (commands : List Command) → read_command line ≡ told
    → commands_in lines ≡ filter (is_own_command c) commands
    → commands_in (if is_own_reading c told then line ∷ lines else lines) ≡ filter (is_own_command c) (with_command told commands)
own_step c line (Ok q) lines commands reads same = one_kept (is_own_command c q) line q lines (filter (is_own_command c) commands) reads same
own_step c line (Err fault) lines commands reads same = same

-- the own lines read as the own commands
own_lines_read : (c : Id) (lines : List (List ℕ))
    → commands_in (filter (is_own_line c) lines) ≡ filter (is_own_command c) (commands_in lines)
unfolding commands_in
own_lines_read c [] = refl
own_lines_read c (line ∷ lines) =
    own_step c line (read_command line) (filter (is_own_line c) lines) (commands_in lines) refl (own_lines_read c lines)

alone_step : (c : Id) (line : List ℕ) (own : Bool) (lines : List (List ℕ)) (R : Register) → is_own_line c line ≡ own
    → ((S : Register) → own_line_replies c lines (line_replies S lines) ≡ line_replies S lines)
    → own_line_replies c (if own then line ∷ lines else lines) (line_replies R (if own then line ∷ lines else lines))
    ≡ line_replies R (if own then line ∷ lines else lines)
unfolding own_line_replies line_replies
alone_step c line true lines R own rest = rw own (ap (λ l. line_reply R line ∷ l) (rest (after_line R line)))
alone_step c line false lines R own rest = rest R

-- own lines alone: all that answers them is theirs
all_own : (c : Id) (R : Register) (lines : List (List ℕ))
    → own_line_replies c (filter (is_own_line c) lines) (line_replies R (filter (is_own_line c) lines)) ≡ line_replies R (filter (is_own_line c) lines)
unfolding own_line_replies line_replies
all_own c R [] = refl
all_own c R (line ∷ lines) = alone_step c line (is_own_line c line) (filter (is_own_line c) lines) R refl (λ S. all_own c S lines)

pub own_lines_alone : OwnCommandsAlone → OwnLinesAlone
own_lines_alone law c inside R lines alone =
    let texts : List Answer → List (List ℕ) = λ answers. map reply_text (map (λ (a : Answer). a.reply) answers) in
    own_texts c R lines
    ∙ ap texts (law c inside R (commands_in lines) alone)
    ∙ ap (λ commands. texts (own_answers c R commands)) (sym (own_lines_read c lines))
    ∙ sym (own_texts c R (filter (is_own_line c) lines))
    ∙ all_own c R lines
