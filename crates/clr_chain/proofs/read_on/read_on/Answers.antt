use Rattle.std.proofs.Common.{◌≡◌, ◌∙◌, None, Option, Some, IfSome, ap, option_map, subst, sym}
use Rattle.clr_journal.specs.Lines.{ended_lines}
use Rattle.clr_journal.specs.Line.{entry_of}
use Rattle.clr_journal.specs.declared.line.Line.{Line}
use Rattle.clr_chain.specs.Chain.{read_on}
use Rattle.clr_chain.specs.Link.{end_after, next_link}
use Rattle.clr_chain.specs.declared.chain_end.ChainEnd.{ChainEnd}
use Rattle.clr_chain.proofs.ReadingOn.{ends, goes_on, stops}
use Rattle.clr_chain.proofs.read_on.read_on.Goals as goal

pub loop-text-preserved : goal.loop-text-preserved
loop-text-preserved c =
    let l = c.loop-text in
    let is : next_link l.end c.in-Some.text.now ≡ Some (entry_of c.in-Some-2.line) =
    sym c.in_ok-line.ensures.line ∙ ap (option_map (λ (one : Line × ChainEnd). entry_of one.0)) c.in-Some-2.is in
    let Ends : Option (Line × ChainEnd) → Type 0 = λ found. IfSome found (λ one. one.1 ≡ end_after l.end (entry_of one.0)) in
    let ended = subst Ends c.in-Some-2.is c.in_ok-line.ensures.end in
    record {
      read = goes_on l.end c.in-Some-2.next l.rest.now c.in-Some.text.now c.in-Some.after.now l.lines.items c.push.new.self.items c.in-Some-2.line
          (read_on c.args.end (ended_lines c.args.bytes.now)) c.in-Some.ensures.some is ended c.in_ok-push-in-Some-2.ensures.items l.invariant.read;
      rest = sym c.in-Some.ensures.rest ∙ l.invariant.rest;
    }

pub returns-in-None-clause-read : goal.returns-in-None-clause-read
returns-in-None-clause-read c =
    let l = c.loop-text in
    let is : next_link l.end c.in-Some.text.now ≡ None =
    sym c.in_ok-line.ensures.line ∙ ap (option_map (λ (one : Line × ChainEnd). entry_of one.0)) c.in-None.is in
    stops l.end l.rest.now c.in-Some.text.now c.in-Some.after.now l.lines.items (read_on c.args.end (ended_lines c.args.bytes.now)) c.in-Some.ensures.some is l.invariant.read

pub returns-clause-read : goal.returns-clause-read
returns-clause-read c =
    let l = c.loop-text in
    ends l.end l.rest.now l.lines.items (read_on c.args.end (ended_lines c.args.bytes.now)) c.in_default.ensures.none l.invariant.read
