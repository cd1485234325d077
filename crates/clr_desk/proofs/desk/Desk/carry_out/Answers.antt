use Rattle.std.proofs.Common.{rules, ◌≡◌, ◌∙◌, Ok, false, true, ap, subst, sym}
use Rattle.std.proofs.lemmas.Bool.{both_ways}
use Rattle.sqlite.specs.Effect.{Database}
use Rattle.clr_rules.specs.Answer.{Answer}
use Rattle.clr_rules.specs.Edits.{after_edits}
use Rattle.clr_rules.specs.Register.{Register}
use Rattle.clr_load.specs.Stored.{HasTables}
use Rattle.clr_load.specs.Tables.{Tables, tables_of}
use Rattle.clr_answer.specs.Decision.{is_accepted}
use Rattle.clr_book.specs.Growth.{network_after_all}
use Rattle.clr_desk.specs.Answering.{has_accepted}
use Rattle.clr_desk.specs.Commit.{Stays}
use Rattle.clr_desk.specs.Crash.{AreAfter}
use Rattle.clr_desk.proofs.OneCommand.{crash_after, near_after_is_after, near_is_whole, nothing_added, nothing_changes, only_jumpers_add, tables_after}
use Rattle.clr_desk.proofs.Calls.{takes_accepted}
use Rattle.clr_desk.proofs.Staying.{if_ok, on_err, on_ok, stays_left, stays_open, stays_saved, still_saved}
use Rattle.clr_desk.proofs.desk.Desk.carry_out.Goals as goal

-- a command that is refused or shown
pub returns-then-not-is_accepted-clause-carried : goal.returns-then-not-is_accepted-clause-carried
returns-then-not-is_accepted-clause-carried g c =
    let R = c.args.self.now.book.register in
    let q = c.args.command.now in
    let old = g.K.Commit.kept c.args.self.now.store in
    let new = g.K.Commit.kept c.pass_on.new.keeper in
    let stays : Stays old new = c.pass_on.ensures.stays in
    let refused : is_accepted c.in_ok-decision.decision.reply ≡ false = search rules in
    let told = ap (λ (a : Answer). a.reply) c.in_ok-decision.ensures.answer in
    let left = c.prepare.ensures.register
    ∙ nothing_changes R q c.in_ok-decision.decision.change.edits.items
    (ap (λ (a : Answer). a.edits) c.in_ok-decision.ensures.answer) (c.in_ok-decision.ensures.nothing refused) in
    record {
      near = told;
      changed = left;
      reply = λ good. told ∙ ap (λ (a : Answer). a.reply) (near_is_whole R q good);
      register = λ good. left ∙ near_after_is_after R q good;
      unchanged = λ _. c.prepare.ensures.register;
      network = c.prepare.ensures.network
          ∙ nothing_added R q c.in_ok-decision.decision.change.edits.items c.args.self.now.book.network
          (ap (λ (a : Answer). a.edits) c.in_ok-decision.ensures.answer) (c.in_ok-decision.ensures.nothing refused);
      same_network = λ _. c.prepare.ensures.network;
      plain = λ _. c.prepare.ensures.network;
      cause = tt;
      typed = c.typed.ensures;
      tables = λ clean good has.
          subst (λ (db : Database). HasTables db (tables_of c.prepare.new.book.register)) (sym stays.now)
          (subst (λ (S : Register). HasTables old.now (tables_of S)) (sym c.prepare.ensures.register) has);
      unwritten = λ _ clean shown. stays.now;
      asked = λ _. stays;
      was_open = λ clean shown. stays_open old new stays shown;
      saved = λ clean saved. stays_saved old new stays saved;
      still_saved = λ clean shown saved. tt;
      survives = stays_left old new (AreAfter old.now R q) stays;
    }

-- a refused command that is not noted
pub returns-in_err-pass_on-clause-carried : goal.returns-in_err-pass_on-clause-carried
returns-in_err-pass_on-clause-carried g c =
    let old = g.K.Commit.kept c.args.self.now.store in
    let new = g.K.Commit.kept c.pass_on.new.keeper in
    let stays : Stays old new = c.pass_on.ensures.stays in
    let r = c.from_residual-in_err-pass_on.result in
    let err = c.from_residual-in_err-pass_on.ensures.0 in
    record {
      near = if_ok r _ err;
      changed = on_ok r _ err;
      reply = λ good. if_ok r _ err;
      register = λ good. on_ok r _ err;
      unchanged = λ _. c.prepare.ensures.register;
      network = on_ok r _ err;
      same_network = λ _. c.prepare.ensures.network;
      plain = λ _. c.prepare.ensures.network;
      cause = search rules;
      typed = c.typed.ensures;
      tables = λ clean good has. on_ok r _ err;
      unwritten = λ _ clean shown. stays.now;
      asked = if_ok r _ err;
      was_open = λ clean shown. stays_open old new stays shown;
      saved = λ clean saved. on_ok r _ err;
      still_saved = λ clean shown saved. still_saved old new r stays saved;
      survives = stays_left old new (AreAfter old.now c.args.self.now.book.register c.args.command.now) stays;
    }

-- a change that is not committed
pub returns-in_err-commit-clause-carried : goal.returns-in_err-commit-clause-carried
returns-in_err-commit-clause-carried g c =
    let r = c.from_residual-in_err-commit.result in
    let err = c.from_residual-in_err-commit.ensures.0 in
    record {
      near = if_ok r _ err;
      changed = on_ok r _ err;
      reply = λ good. if_ok r _ err;
      register = λ good. on_ok r _ err;
      unchanged = λ _. c.prepare.ensures.register;
      network = on_ok r _ err;
      same_network = λ _. c.prepare.ensures.network;
      plain = λ _. c.prepare.ensures.network;
      cause = search rules;
      typed = c.typed.ensures;
      tables = λ clean good has. on_ok r _ err;
      unwritten = λ none clean shown. c.in_err-commit.ensures.commits.none clean shown;
      asked = if_ok r _ err;
      was_open = c.commit.ensures.commits.was_open;
      saved = λ clean saved. on_ok r _ err;
      still_saved = λ clean shown saved. on_err r _ (c.in_err-commit.ensures.commits.fault clean shown saved);
      survives = crash_after (g.K.Commit.kept c.args.self.now.store) (g.K.Commit.kept c.commit.new.self) c.args.self.now.book.register c.args.command.now
          c.in_ok-decision.decision.change.edits.items (ap (λ (a : Answer). a.edits) c.in_ok-decision.ensures.answer) c.commit.ensures.commits.crash;
    }

-- a change that is committed, and then made
pub returns-clause-carried : goal.returns-clause-carried
returns-clause-carried g c =
    let R = c.args.self.now.book.register in
    let q = c.args.command.now in
    let db = (g.K.Commit.kept c.commit.new.self).now in
    let edits = ap (λ (a : Answer). a.edits) c.in_ok-decision.ensures.answer in
    let told = ap (λ (a : Answer). a.reply) c.in_ok-decision.ensures.answer in
    let changed = c.apply.ensures.register ∙ (λ i. after_edits (edits i) (c.prepare.ensures.register i)) in
    let grown = c.apply.ensures.network ∙ (λ i. network_after_all (edits i) (c.prepare.ensures.network i)) in
    let accepted : is_accepted c.in_ok-decision.decision.reply ≡ true = search rules in
    let never : has_accepted (Ok c.in_ok-decision.decision.reply) ≡ false → ⊥ = λ none. both_ways (is_accepted c.in_ok-decision.decision.reply) none accepted in
    record {
      near = told;
      changed = changed;
      reply = λ good. told ∙ ap (λ (a : Answer). a.reply) (near_is_whole R q good);
      register = λ good. changed ∙ near_after_is_after R q good;
      unchanged = λ none. absurd (never none);
      network = grown;
      same_network = λ none. absurd (never none);
      plain = λ none. grown ∙ only_jumpers_add R q c.args.self.now.book.network none;
      cause = tt;
      typed = c.typed.ensures;
      tables = λ clean good has.
          subst (λ (t : Tables). HasTables db t)
          (tables_after R q c.in_ok-decision.decision.change.edits.items edits good ∙ ap tables_of (sym (changed ∙ near_after_is_after R q good)))
          (c.in_ok-commit.ensures.commits.made clean (tables_of R) has).0;
      unwritten = λ none. absurd (never none);
      asked = λ none. absurd (never none);
      was_open = c.commit.ensures.commits.was_open;
      saved = λ clean saved. c.in_ok-commit.ensures.commits.saved clean;
      still_saved = λ clean shown saved. tt;
      survives = crash_after (g.K.Commit.kept c.args.self.now.store) (g.K.Commit.kept c.commit.new.self) R q
          c.in_ok-decision.decision.change.edits.items edits c.commit.ensures.commits.crash;
    }

pub returns-clause-taken : goal.returns-clause-taken
returns-clause-taken g c =
    let accepted : is_accepted c.in_ok-decision.decision.reply ≡ true = search rules in
    takes_accepted g.K.Commit.takes c.args.self.now.store c.args.login c.args.command.now c.in_ok-decision.decision.reply (Ok tt) c.commit.new.self accepted
    c.in_ok-commit.ensures.taken
