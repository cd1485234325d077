use Rattle.std.proofs.Common.{rules, ◌≡◌, ◌∙◌, ◌<◌, ◌∷◌, ◌++◌, [], Err, None, false, List, length, take, ap, arith, get_or, refl, subst, sym, ⊎_elim}
use Rattle.sqlite.specs.State.{HasCleanDisk}
use Rattle.clr_rules.specs.Good.{IsGood}
use Rattle.clr_rules.specs.Register.{Register}
use Rattle.clr_rules.specs.Run.{after}
use Rattle.clr_rules.specs.RunHeadline.{IsRun, with_reply}
use Rattle.clr_rules.specs.declared.command.Command.{Command}
use Rattle.clr_rules.specs.declared.reply.Reply.{Reply}
use Rattle.clr_rules.proofs.isolation.RunReplies.{others_take_nothing}
use Rattle.clr_rules.proofs.keeps.EveryKind.{commands_keep_good}
use Rattle.clr_answer.specs.Decision.{is_accepted}
use Rattle.clr_desk.specs.NearRun.{IsNearRun}
use Rattle.clr_desk.specs.Taking.{TakesOne}
use Rattle.clr_desk.proofs.Calls.{no_run, stops_at, takes_next, takes_none}
use Rattle.clr_desk.proofs.Givings.{leads_itself, leads_on, leads_unchanged, one_leads}
use Rattle.clr_desk.proofs.Keeping.{keeps_itself, keeps_on, one_keeps}
use Rattle.clr_desk.proofs.NearRuns.{near_ran_so_far, near_run_of_next, near_run_of_none, network_of_next, network_of_none, network_so_far, none_before}
use Rattle.std.specs.List.{list_any}
use Rattle.clr_desk.proofs.RunSteps.{next_left, no_reply_changed, none_taken, ran_so_far, run_of_next, run_of_none, saved_left, standing_alone, working_safely}
use Rattle.clr_desk.proofs.desk.Desk.run.Goals as goal

-- ---- no room for the replies

pub returns-then-is_err-clause-ran : goal.returns-then-is_err-clause-ran
returns-then-is_err-clause-ran g c good =
    let commands = c.args.commands.items in
    let none : c.reserve.new.self.items ≡ [] = c.reserve.ensures.items ∙ c.new-replies.ensures.items in
    run_of_none c.args.self.now.book.register (with_reply commands c.reserve.new.self.items) c.reserve.new.self.items
    (ap (with_reply commands) none ∙ none_taken commands) none

pub returns-then-is_err-clause-near : goal.returns-then-is_err-clause-near
returns-then-is_err-clause-near g c =
    let commands = c.args.commands.items in
    let none : c.reserve.new.self.items ≡ [] = c.reserve.ensures.items ∙ c.new-replies.ensures.items in
    near_run_of_none c.args.self.now.book.register (with_reply commands c.reserve.new.self.items) c.reserve.new.self.items
    (ap (with_reply commands) none ∙ none_taken commands) none

pub returns-then-is_err-clause-taken : goal.returns-then-is_err-clause-taken
returns-then-is_err-clause-taken g c =
    let none : c.reserve.new.self.items ≡ [] = c.reserve.ensures.items ∙ c.new-replies.ensures.items in
    no_run g.K.Commit.takes c.args.self.now.book.register c.args.self.now.store c.args.commands.items c.reserve.new.self.items none (search rules)

pub returns-then-is_err-clause-led : goal.returns-then-is_err-clause-led
returns-then-is_err-clause-led g c =
    leads_unchanged g.K.Commit.kept g.K.Commit.takes c.args.self.now _ refl refl

pub returns-then-is_err-clause-network : goal.returns-then-is_err-clause-network
returns-then-is_err-clause-network g c =
    let commands = c.args.commands.items in
    let none : c.reserve.new.self.items ≡ [] = c.reserve.ensures.items ∙ c.new-replies.ensures.items in
    network_of_none c.args.self.now.book.register (with_reply commands c.reserve.new.self.items) c.args.self.now.book.network
    (ap (with_reply commands) none ∙ none_taken commands)

pub returns-then-is_err-clause-unwritten : goal.returns-then-is_err-clause-unwritten
returns-then-is_err-clause-unwritten g c none clean shown = refl

pub returns-then-is_err-clause-keeps : goal.returns-then-is_err-clause-keeps
returns-then-is_err-clause-keeps g c = keeps_itself (g.K.Commit.kept c.args.self.now.store) c.args.self.now.book.register

pub returns-then-is_err-clause-headline : goal.returns-then-is_err-clause-headline
returns-then-is_err-clause-headline g c =
    no_reply_changed c.args.self.now.book.register (with_reply c.args.commands.items c.reserve.new.self.items) c.reserve.new.self.items
    c.args.self.now.book.register (returns-then-is_err-clause-ran g c)

pub returns-then-is_err-clause-untouched : goal.returns-then-is_err-clause-untouched
returns-then-is_err-clause-untouched g c = others_take_nothing c.args.self.now.book.register (with_reply c.args.commands.items c.reserve.new.self.items)

pub returns-then-is_err-clause-alone : goal.returns-then-is_err-clause-alone
returns-then-is_err-clause-alone g c =
    standing_alone c.args.self.now.book.register (with_reply c.args.commands.items c.reserve.new.self.items) c.reserve.new.self.items
    c.args.self.now.book.register (returns-then-is_err-clause-ran g c)

pub returns-then-is_err-clause-safe : goal.returns-then-is_err-clause-safe
returns-then-is_err-clause-safe g c =
    working_safely c.args.self.now.book.register (with_reply c.args.commands.items c.reserve.new.self.items) c.reserve.new.self.items
    c.args.self.now.book.register (returns-then-is_err-clause-ran g c)

pub returns-then-is_err-clause-crash : goal.returns-then-is_err-clause-crash
returns-then-is_err-clause-crash g c clean saved good has trees may =
    let R = c.args.self.now.book.register in
    let commands = c.args.commands.items in
    let old = g.K.Commit.kept c.args.self.now.store in
    let none : c.reserve.new.self.items ≡ [] = c.reserve.ensures.items ∙ c.new-replies.ensures.items in
    saved_left old old R R commands c.reserve.new.self.items 0 (ap length none) (omega arith)
    (run_of_none R (take 0 commands) c.reserve.new.self.items (none_taken commands) none) saved has trees
    (g.met.K.Commit.settled c.args.self.now.store trees saved.0 may)

-- ---- the loop

pub loop-command-init : goal.loop-command-init
loop-command-init g c =
    let none : c.reserve.new.self.items ≡ [] = c.reserve.ensures.items ∙ c.new-replies.ensures.items in
    record {
      counted = ap length none;
      filled = search rules;
      room = search rules;
      faults = refl;
      good = λ good. good;
      ran = λ good. run_of_none c.args.self.now.book.register (take 0 c.args.commands.items) c.reserve.new.self.items (none_taken c.args.commands.items) none;
      near = near_run_of_none c.args.self.now.book.register (take 0 c.args.commands.items) c.reserve.new.self.items (none_taken c.args.commands.items) none;
      taken = takes_none g.K.Commit.takes c.args.self.now.store c.args.commands.items c.reserve.new.self.items none;
      led = leads_itself g.K.Commit.kept g.K.Commit.takes c.args.self.now;
      network = network_of_none c.args.self.now.book.register (take 0 c.args.commands.items) c.args.self.now.book.network (none_taken c.args.commands.items);
      keeps = keeps_itself (g.K.Commit.kept c.args.self.now.store) c.args.self.now.book.register;
      unwritten = λ none clean shown. refl;
      clean = λ clean. clean;
      saved = λ clean saved. saved;
      tables = λ clean good has. has;
    }

pub loop-command-preserved : goal.loop-command-preserved
loop-command-preserved g c =
    let R = c.args.self.now.book.register in
    let X = c.loop-command.self.book.register in
    let Y = c.answer.new.self.book.register in
    let commands = c.args.commands.items in
    let i = c.loop-command.command-index in
    let q = c.command-item.result in
    let inv = c.loop-command.invariant in
    let mid = g.K.Commit.kept c.loop-command.self.store in
    let new = g.K.Commit.kept c.answer.new.self.store in
    let same = c.as_slice-command-items.ensures.value in
    let within : i < length commands = subst (λ (l : List Command). i < length l) same c.loop-command-test.true in
    let at : q ≡ get_or commands i q = c.command-item.is ∙ ap (λ (l : List Command). get_or l i q) same in
    let carried = c.answer.ensures.carried in
    let early : HasCleanDisk new → HasCleanDisk mid = λ clean. omega (arith, carried.survives.clean) in
    let left : IsGood R → Y ≡ after X q = λ good. c.in-Ok.ensures.carried.register (inv.good good) in
    record {
      counted = search rules;
      filled = search rules;
      room = search rules;
      faults = c.in-Ok.ensures.faults ∙ inv.faults;
      good = λ good. subst (λ (S : Register). IsGood S) (sym (left good)) (commands_keep_good X q (inv.good good));
      ran = λ good. run_of_next R X Y commands i q c.loop-command.replies.items c.push.new.self.items c.in-Ok.reply within at
          (search rules) (inv.ran good)
          (c.in-Ok.ensures.carried.reply (inv.good good)) (left good);
      near = near_run_of_next R X Y commands i q c.loop-command.replies.items c.push.new.self.items c.in-Ok.reply within at
          (search rules) inv.near c.in-Ok.ensures.carried.near c.in-Ok.ensures.carried.changed;
      taken = takes_next g.K.Commit.takes c.args.self.now.store c.loop-command.self.store c.answer.new.self.store commands i q
          c.loop-command.replies.items c.push.new.self.items c.in-Ok.reply within at inv.counted (search rules) inv.taken c.in-Ok.ensures.taken;
      led = leads_on g.K.Commit.kept g.K.Commit.takes c.args.self.now c.loop-command.self c.answer.new.self inv.led
          (one_leads g.K.Commit.kept g.K.Commit.takes g.K.Commit.fails c.loop-command.self c.answer.new.self None q c.answer.result carried
          c.answer.ensures.taken);
      network = network_of_next R X c.args.self.now.book.network c.loop-command.self.book.network c.answer.new.self.book.network commands i q within at
          inv.near.register inv.network c.in-Ok.ensures.carried.network;
      keeps = keeps_on (g.K.Commit.kept c.args.self.now.store) mid new R X Y inv.keeps
          (one_keeps g.K.Commit.kept g.K.Commit.fails c.loop-command.self c.answer.new.self q c.answer.result carried);
      unwritten = λ none clean shown.
          let grown : c.push.new.self.items ≡ c.loop-command.replies.items ++ c.in-Ok.reply ∷ [] = search rules in
          let both = none_before is_accepted c.loop-command.replies.items c.in-Ok.reply
          (subst (λ (l : List Reply). list_any is_accepted l ≡ false) grown none) in
          c.in-Ok.ensures.carried.unwritten both.1 clean shown ∙ inv.unwritten both.0 (early clean) (carried.was_open clean shown);
      clean = λ clean. inv.clean (early clean);
      saved = λ clean saved. c.in-Ok.ensures.carried.saved clean (inv.saved (early clean) saved);
      tables = λ clean good has. c.in-Ok.ensures.carried.tables clean (inv.good good) (inv.tables (early clean) good has);
    }

-- ---- a fault

pub returns-in-Err-clause-near : goal.returns-in-Err-clause-near
returns-in-Err-clause-near g c =
    let R = c.args.self.now.book.register in
    let told = c.loop-command.replies.items in
    subst (λ (S : Register). IsNearRun R (with_reply c.args.commands.items told) told S) (sym (c.in-Err.ensures.carried.unchanged refl))
    (near_ran_so_far R c.loop-command.self.book.register c.args.commands.items told c.loop-command.command-index c.loop-command.invariant.counted
    c.loop-command.invariant.near)

pub returns-in-Err-clause-taken : goal.returns-in-Err-clause-taken
returns-in-Err-clause-taken g c =
    let commands = c.args.commands.items in
    let i = c.loop-command.command-index in
    let q = c.command-item.result in
    let same = c.as_slice-command-items.ensures.value in
    let within : i < length commands = subst (λ (l : List Command). i < length l) same c.loop-command-test.true in
    let at : q ≡ get_or commands i q = c.command-item.is ∙ ap (λ (l : List Command). get_or l i q) same in
    let back : c.answer.new.self.book.register ≡ c.loop-command.self.book.register = c.in-Err.ensures.carried.unchanged refl in (
      c.loop-command.self.store,
      c.loop-command.invariant.taken,
      stops_at g.K.Commit.takes c.answer.new.self.book.register c.loop-command.self.store c.answer.new.self.store commands i q
          (length c.loop-command.replies.items) c.in-Err.fault within at c.loop-command.invariant.counted
          (subst (λ (R : Register). TakesOne g.K.Commit.takes R c.loop-command.self.store None q (Err c.in-Err.fault) c.answer.new.self.store)
          (sym back) c.in-Err.ensures.taken),
    )

pub returns-in-Err-clause-led : goal.returns-in-Err-clause-led
returns-in-Err-clause-led g c =
    leads_on g.K.Commit.kept g.K.Commit.takes c.args.self.now c.loop-command.self c.answer.new.self c.loop-command.invariant.led
    (one_leads g.K.Commit.kept g.K.Commit.takes g.K.Commit.fails c.loop-command.self c.answer.new.self None c.command-item.result
    c.answer.result c.answer.ensures.carried c.answer.ensures.taken)

pub returns-in-Err-clause-network : goal.returns-in-Err-clause-network
returns-in-Err-clause-network g c =
    c.in-Err.ensures.carried.same_network refl
    ∙ network_so_far c.args.self.now.book.register c.args.self.now.book.network c.loop-command.self.book.network c.args.commands.items
    c.loop-command.replies.items c.loop-command.command-index c.loop-command.invariant.counted c.loop-command.invariant.network

pub returns-in-Err-clause-unwritten : goal.returns-in-Err-clause-unwritten
returns-in-Err-clause-unwritten g c none clean shown =
    let early : HasCleanDisk (g.K.Commit.kept c.loop-command.self.store) = omega (arith, c.answer.ensures.carried.survives.clean) in
    c.in-Err.ensures.carried.unwritten refl clean shown
    ∙ c.loop-command.invariant.unwritten none early (c.answer.ensures.carried.was_open clean shown)

pub returns-in-Err-clause-keeps : goal.returns-in-Err-clause-keeps
returns-in-Err-clause-keeps g c =
    keeps_on (g.K.Commit.kept c.args.self.now.store) (g.K.Commit.kept c.loop-command.self.store) (g.K.Commit.kept c.answer.new.self.store)
    c.args.self.now.book.register c.loop-command.self.book.register c.answer.new.self.book.register c.loop-command.invariant.keeps
    (one_keeps g.K.Commit.kept g.K.Commit.fails c.loop-command.self c.answer.new.self c.command-item.result c.answer.result c.answer.ensures.carried)

pub returns-in-Err-clause-headline : goal.returns-in-Err-clause-headline
returns-in-Err-clause-headline g c =
    let R = c.args.self.now.book.register in
    let told = c.loop-command.replies.items in
    no_reply_changed R (with_reply c.args.commands.items told) told c.answer.new.self.book.register
    (λ good. subst (λ (S : Register). IsRun R (with_reply c.args.commands.items told) told S) (sym (c.in-Err.ensures.carried.unchanged refl))
    (ran_so_far R c.loop-command.self.book.register c.args.commands.items told c.loop-command.command-index c.loop-command.invariant.counted
    (c.loop-command.invariant.ran good)))

pub returns-in-Err-clause-untouched : goal.returns-in-Err-clause-untouched
returns-in-Err-clause-untouched g c = others_take_nothing c.args.self.now.book.register (with_reply c.args.commands.items c.loop-command.replies.items)

pub returns-in-Err-clause-alone : goal.returns-in-Err-clause-alone
returns-in-Err-clause-alone g c =
    let R = c.args.self.now.book.register in
    let told = c.loop-command.replies.items in
    standing_alone R (with_reply c.args.commands.items told) told c.loop-command.self.book.register
    (λ good. ran_so_far R c.loop-command.self.book.register c.args.commands.items told c.loop-command.command-index c.loop-command.invariant.counted
    (c.loop-command.invariant.ran good))

pub returns-in-Err-clause-safe : goal.returns-in-Err-clause-safe
returns-in-Err-clause-safe g c =
    let R = c.args.self.now.book.register in
    let told = c.loop-command.replies.items in
    working_safely R (with_reply c.args.commands.items told) told c.answer.new.self.book.register
    (λ good. subst (λ (S : Register). IsRun R (with_reply c.args.commands.items told) told S) (sym (c.in-Err.ensures.carried.unchanged refl))
    (ran_so_far R c.loop-command.self.book.register c.args.commands.items told c.loop-command.command-index c.loop-command.invariant.counted
    (c.loop-command.invariant.ran good)))

pub returns-in-Err-clause-crash : goal.returns-in-Err-clause-crash
returns-in-Err-clause-crash g c clean saved good has trees may =
    let R = c.args.self.now.book.register in
    let X = c.loop-command.self.book.register in
    let commands = c.args.commands.items in
    let told = c.loop-command.replies.items in
    let i = c.loop-command.command-index in
    let q = c.command-item.result in
    let inv = c.loop-command.invariant in
    let mid = g.K.Commit.kept c.loop-command.self.store in
    let same = c.as_slice-command-items.ensures.value in
    let within : i < length commands = subst (λ (l : List Command). i < length l) same c.loop-command-test.true in
    let at : q ≡ get_or commands i q = c.command-item.is ∙ ap (λ (l : List Command). get_or l i q) same in
    let early : HasCleanDisk mid = omega (arith, c.answer.ensures.carried.survives.clean) in
    let mid_saved = inv.saved early saved in
    let mid_has = inv.tables early good has in
    ⊎_elim
    (λ before. saved_left mid mid R X commands told i inv.counted (omega arith) (inv.ran good) mid_saved mid_has trees
    (g.met.K.Commit.settled c.loop-command.self.store trees mid_saved.0 before))
    (λ after. next_left R X commands told i q inv.counted within at (inv.ran good) trees (after (inv.good good) mid_has))
    (c.answer.ensures.carried.survives.crash clean trees may)

-- ---- the end

pub returns-clause-near : goal.returns-clause-near
returns-clause-near g c =
    near_ran_so_far c.args.self.now.book.register c.loop-command.self.book.register c.args.commands.items c.loop-command.replies.items
    c.loop-command.command-index c.loop-command.invariant.counted c.loop-command.invariant.near

pub returns-clause-taken : goal.returns-clause-taken
returns-clause-taken g c = (c.loop-command.self.store, c.loop-command.invariant.taken, refl)

pub returns-clause-led : goal.returns-clause-led
returns-clause-led g c = c.loop-command.invariant.led

pub returns-clause-network : goal.returns-clause-network
returns-clause-network g c =
    network_so_far c.args.self.now.book.register c.args.self.now.book.network c.loop-command.self.book.network c.args.commands.items
    c.loop-command.replies.items c.loop-command.command-index c.loop-command.invariant.counted c.loop-command.invariant.network

pub returns-clause-headline : goal.returns-clause-headline
returns-clause-headline g c =
    let R = c.args.self.now.book.register in
    let told = c.loop-command.replies.items in
    no_reply_changed R (with_reply c.args.commands.items told) told c.loop-command.self.book.register
    (λ good. ran_so_far R c.loop-command.self.book.register c.args.commands.items told c.loop-command.command-index c.loop-command.invariant.counted
    (c.loop-command.invariant.ran good))

pub returns-clause-untouched : goal.returns-clause-untouched
returns-clause-untouched g c = others_take_nothing c.args.self.now.book.register (with_reply c.args.commands.items c.loop-command.replies.items)

pub returns-clause-alone : goal.returns-clause-alone
returns-clause-alone g c =
    let R = c.args.self.now.book.register in
    let told = c.loop-command.replies.items in
    standing_alone R (with_reply c.args.commands.items told) told c.loop-command.self.book.register
    (λ good. ran_so_far R c.loop-command.self.book.register c.args.commands.items told c.loop-command.command-index c.loop-command.invariant.counted
    (c.loop-command.invariant.ran good))

pub returns-clause-safe : goal.returns-clause-safe
returns-clause-safe g c =
    let R = c.args.self.now.book.register in
    let told = c.loop-command.replies.items in
    working_safely R (with_reply c.args.commands.items told) told c.loop-command.self.book.register
    (λ good. ran_so_far R c.loop-command.self.book.register c.args.commands.items told c.loop-command.command-index c.loop-command.invariant.counted
    (c.loop-command.invariant.ran good))

pub returns-clause-crash : goal.returns-clause-crash
returns-clause-crash g c clean saved good has trees may =
    let R = c.args.self.now.book.register in
    let X = c.loop-command.self.book.register in
    let commands = c.args.commands.items in
    let inv = c.loop-command.invariant in
    let mid = g.K.Commit.kept c.loop-command.self.store in
    let mid_saved = inv.saved clean saved in
    saved_left mid mid R X commands c.loop-command.replies.items c.loop-command.command-index inv.counted (search rules) (inv.ran good) mid_saved
    (inv.tables clean good has) trees (g.met.K.Commit.settled c.loop-command.self.store trees mid_saved.0 may)
