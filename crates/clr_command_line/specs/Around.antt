-- What a command line runs over: the steps of its machine, and what is seen of its files and of its
-- input.
use Rattle.std.specs.Prelude.{ℕ, List, Option}
use Rattle.sqlite_trees.specs.declared.store.Store.{Ghosts}
use Rattle.clr_keeping.specs.TakenUp.{Logs}
use Rattle.clr_edge.specs.Visit.{Ending, Opening, Shutting}
use Rattle.clr_edge.specs.declared.loopback.Loopback as loopback
use Rattle.clr_commands.specs.Connections.{Seen}
use Rattle.clr_edge.specs.Paths.{AtPaths}

-- the steps by which a machine opens journals, makes, opens and closes databases and takes
-- connections; what the tables of a database are kept in, and what is seen of a connection
pub record Steps (M S L R W J C : Type 0) : Type 1 where
  pub logs : Logs M J C
  pub tables : Ghosts S
  pub makes : Opening M S
  pub opens : Opening M S
  pub shuts : Shutting M
  pub ends : Ending M S
  pub net : loopback.Ghosts M L R W
  pub seen : Seen R W

abbrev pub steps : {M S L R W J C : Type 0} → Logs M J C → Ghosts S → Opening M S → Opening M S
    → Shutting M → Ending M S → loopback.Ghosts M L R W → Seen R W → Steps M S L R W J C
steps logs tables makes opens shuts ends net seen = record {
  logs = logs;
  tables = tables;
  makes = makes;
  opens = opens;
  shuts = shuts;
  ends = ends;
  net = net;
  seen = seen;
}

-- the files at paths, which of them are a database's own and which are not, and what standard input
-- shows of itself: what is left to read, and how many reads failed
pub record Around (I : Type 0) : Type 1 where
  pub files : AtPaths
  pub owns : List ℕ → List ℕ → Type 0
  pub spares : List ℕ → List ℕ → Type 0
  pub remaining : I → Option (List ℕ)
  pub failures : I → ℕ

abbrev pub around : {I : Type 0} → AtPaths → (List ℕ → List ℕ → Type 0)
    → (List ℕ → List ℕ → Type 0) → (I → Option (List ℕ)) → (I → ℕ) → Around I
around files owns spares remaining failures = record {
  files = files;
  owns = owns;
  spares = spares;
  remaining = remaining;
  failures = failures;
}
