use Rattle.std.proofs.Common.{◌≡◌, ◌≤◌, IsTrue, false, length, take, vec_len, vec_capacity}
use Rattle.std.specs.List.{list_any}
use Rattle.clr_answer.specs.Decision.{is_accepted}
use Rattle.clr_desk.specs.Given.{LeadsTo}
use Rattle.clr_desk.specs.Kept.{Keeps}
use Rattle.clr_desk.specs.NearRun.{IsNearRun, near_network_all}
use Rattle.clr_desk.specs.Taking.{TakesAll}
use Rattle.sqlite.specs.State.{HasCleanDisk}
use Rattle.clr_rules.specs.Good.{IsGood}
use Rattle.clr_rules.specs.RunHeadline.{IsRun}
use Rattle.clr_load.specs.Contract.{IsSaved}
use Rattle.clr_load.specs.Stored.{HasTables}
use Rattle.clr_load.specs.Tables.{tables_of}
use Rattle.clr_desk.proofs.desk.Desk.run.Given as goal

-- each command before the place has its reply, and left the register and the network that the run has by now, and its tables
abbrev pub invariant-loop-command : goal.invariant-loop-command
invariant-loop-command g l =
    let R = l.fn.self.book.register in
    let old = g.K.Commit.kept l.fn.self.store in
    let now = g.K.Commit.kept l.self.store in
    record {
      counted : length l.replies.items ≡ l.command-index;
      filled : vec_len l.replies ≡ l.command-index;
      room : length l.fn.commands.items ≤ vec_capacity l.replies;
      faults : l.self.faults ≡ l.fn.self.faults;
      good : IsGood R → IsGood l.self.book.register;
      ran : IsGood R → IsRun R (take l.command-index l.fn.commands.items) l.replies.items l.self.book.register;
      near : IsNearRun R (take l.command-index l.fn.commands.items) l.replies.items l.self.book.register;
      taken : TakesAll g.K.Commit.takes l.fn.self.store l.fn.commands.items l.replies.items l.self.store;
      led : LeadsTo g.K.Commit.kept g.K.Commit.takes l.fn.self l.self;
      network : l.self.book.network ≡ near_network_all R (take l.command-index l.fn.commands.items) l.fn.self.book.network;
      keeps : Keeps old R now l.self.book.register;
      unwritten : list_any is_accepted l.replies.items ≡ false → HasCleanDisk now → IsTrue now.is_open → now.now ≡ old.now;
      clean : HasCleanDisk now → HasCleanDisk old;
      saved : HasCleanDisk now → IsSaved old → IsSaved now;
      tables : HasCleanDisk now → IsGood R → HasTables old.now (tables_of R) → HasTables now.now (tables_of l.self.book.register);
    }
