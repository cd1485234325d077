use Rattle.std.proofs.Common.{◌≡◌, ◌∙◌, ◌-◌, ap, drop, length, refl, subst, sym, take, List, ℕ}
use Rattle.std.specs.List.{list_any}
use Rattle.std.specs.Prelude.{false}
use Rattle.clr_journal.specs.Lines.{ended_lines, is_line_feed}
use Rattle.clr_journal.proofs.Pieces.{not_found, rest_of_slice}
use Rattle.clr_edge.proofs.LineFeeds.{held-line, split}
use Rattle.clr_edge.proofs.lines.Lines.take_line.Goals as goal

-- a slice of what was read is what is held
is_held : (items read : List ℕ) (given : ℕ) → read ≡ items → take (length read - given) (drop given read) ≡ drop given items
is_held items read given same = rest_of_slice given read ∙ ap (drop given) same

-- the line ends at the first line feed of what is held
pub returns-in_ok-line-in-Some-clause-some : goal.returns-in_ok-line-in-Some-clause-some
returns-in_ok-line-in-Some-clause-some c =
    let lines = c.args.self.now in
    let read = c.deref.result.now in
    held-line lines.held.items (take (length read - lines.given) (drop lines.given read)) c.in_ok-line-in-Some.line.items lines.given c.in-Some.end
    (is_held lines.held.items read lines.given c.deref.ensures.value)
    (sym c.feed_at.ensures ∙ c.in-Some.is) c.in_ok-line-in-Some.ensures.items

pub returns-in_ok-line-in-Some-clause-one : goal.returns-in_ok-line-in-Some-clause-one
returns-in_ok-line-in-Some-clause-one c =
    let lines = c.args.self.now in
    let read = c.deref.result.now in
    let found = split (take (length read - lines.given) (drop lines.given read)) c.in-Some.end (sym c.feed_at.ensures ∙ c.in-Some.is) in
    subst (λ (line : List ℕ). list_any is_line_feed line ≡ false) (sym c.in_ok-line-in-Some.ensures.items) found.none

-- or it has none
pub returns-in-None-clause-none : goal.returns-in-None-clause-none
returns-in-None-clause-none c =
    let lines = c.args.self.now in
    let read = c.deref.result.now in (
      refl,
      sym (ap ended_lines (is_held lines.held.items read lines.given c.deref.ensures.value))
          ∙ (not_found (take (length read - lines.given) (drop lines.given read)) (sym c.feed_at.ensures ∙ c.in-None.is)).0,
    )
