-- The lines of a way back read as its commands.
use Rattle.std.proofs.Common.{◌≡◌, ◌∙◌, ◌==◌, ◌&&◌, ◌||◌, Bool, true, false, not, ℕ, List, [], ◌∷◌, All, filter, length, refl, ap, append_assoc, IsTrue, arith, ne_eqb}
use Rattle.std.specs.List.{list_all, list_any, slice_split}
use Rattle.std.proofs.lemmas.List.Elements.{All-cons, All-nil}
use Rattle.std.proofs.lemmas.List.Splits.{slice_split_at}
use Rattle.clr_text.proofs.CommandsRead.{commands_read_back}
use Rattle.clr_text.proofs.PlainTexts.{one_line}
use Rattle.clr_rules.specs.declared.command.Command.{Command}
use Rattle.serde_json.specs.Data.{no_members}
use Rattle.serde_json.specs.Written.{members_text}
use Rattle.clr_text.specs.CommandText.{all_said, can_be_sent, command_data, with_said, command_text, has_its_moment}
use Rattle.clr_text.specs.Lines.{commands_in, with_command}
use Rattle.clr_text.specs.Reading.{read_command}
use Rattle.clr_wayback.specs.Text.{commands_read, reads_back, way_back_text}

-- a premise that a test has, as one test
pub test_of : (a b : Bool) → (IsTrue a → IsTrue b) → IsTrue (not a || b)
test_of true b then = then refl
test_of false b then = refl

none_pass : (p : ℕ → Bool) (xs : List ℕ) → list_any p xs ≡ false → All (λ x. p x ≡ false) xs
none_pass p [] h = All-nil (λ x. p x ≡ false)
none_pass p (x ∷ xs) h = at (p x) refl h (none_pass p xs)
  where
    at : (b : Bool) → p x ≡ b → (b || list_any p xs) ≡ false → (list_any p xs ≡ false → All (λ x. p x ≡ false) xs) → All (λ x. p x ≡ false) (x ∷ xs)
    at true e h more = cc h
    at false e h more = All-cons (λ x. p x ≡ false) x xs e (more h)

-- the text of a command is not empty
byte_and_more : (b : ℕ) (line : List ℕ) → not (length (b ∷ line) == 0) ≡ true
byte_and_more b line = ap not (ne_eqb (length (b ∷ line)) 0 (λ none. omega arith))

has_bytes : (q : Command) → not (length (command_text q) == 0) ≡ true
has_bytes q = byte_and_more 123 (members_text false (with_said (all_said q) no_members))

-- the first line
first_line : (q : Command) (commands : List Command) → slice_split (λ b. b == 10) (way_back_text (q ∷ commands)) ≡ command_text q ∷ slice_split (λ b. b == 10) (way_back_text commands)
first_line q commands =
    ap (slice_split (λ b. b == 10)) (append_assoc (command_text q) (10 ∷ []) (way_back_text commands))
    ∙ slice_split_at (λ b. b == 10) (command_text q) 10 (way_back_text commands) (none_pass (λ b. b == 10) (command_text q) (one_line (command_data q))) refl

abbrev kept : List (List ℕ) → List Command
kept lines = commands_in (filter (λ line. not (length line == 0)) lines)

-- a line that is not empty is read
line_is_read : (line : List ℕ) (lines : List (List ℕ)) → not (length line == 0) ≡ true → kept (line ∷ lines) ≡ with_command (read_command line) (kept lines)
unfolding commands_in
line_is_read line lines some = rw some refl

pub lines_read_back : (commands : List Command) → list_all can_be_sent commands ≡ true → commands_read (way_back_text commands) ≡ commands
unfolding commands_in
lines_read_back [] all = refl
lines_read_back (q ∷ commands) all = at (can_be_sent q) refl all (lines_read_back commands)
  where
    at : (b : Bool) → can_be_sent q ≡ b → (b && list_all can_be_sent commands) ≡ true
        → (list_all can_be_sent commands ≡ true → commands_read (way_back_text commands) ≡ commands) → commands_read (way_back_text (q ∷ commands)) ≡ q ∷ commands
    at false e all more = cc all
    at true e all more =
        ap kept (first_line q commands)
        ∙ line_is_read (command_text q) (slice_split (λ b. b == 10) (way_back_text commands)) (has_bytes q)
        ∙ ap (λ r. with_command r (commands_read (way_back_text commands))) (commands_read_back q e)
        ∙ ap (λ rest. q ∷ rest) (more all)

-- commands with their moments can all be sent
pub all_sent : (commands : List Command) → IsTrue (list_all reads_back commands) → list_all has_its_moment commands ≡ true → list_all can_be_sent commands ≡ true
all_sent [] back stated = refl
all_sent (q ∷ commands) back stated = at (has_its_moment q) refl (can_be_sent q) refl back stated (all_sent commands)
  where
    at : (a : Bool) → has_its_moment q ≡ a → (b : Bool) → can_be_sent q ≡ b → ((not a || b) && list_all reads_back commands) ≡ true
        → (a && list_all has_its_moment commands) ≡ true
        → (IsTrue (list_all reads_back commands) → list_all has_its_moment commands ≡ true → list_all can_be_sent commands ≡ true)
        → list_all can_be_sent (q ∷ commands) ≡ true
    at false e b f back stated more = cc stated
    at true e false f back stated more = cc back
    at true e true f back stated more = rw f (more back stated)
