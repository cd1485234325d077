-- A disk in memory returns what was written to it, so each connection over such disks is clean.
use Rattle.std.specs.Prelude.{refl}
use Rattle.sqlite.specs.Files.{over_files}
use Rattle.sqlite.specs.Held.{Held, state}
use Rattle.sqlite.specs.State.{HasCleanDisk}
use Rattle.sqlite_disk.specs.contracts.memory.MemoryDisk.TheImpl as memory
use Rattle.sqlite_disk.specs.declared.memory.Memory.{Memory}
use Rattle.sqlite_pool.specs.Pool as pool
use Rattle.sqlite_store.specs.declared.store.FileStore.{FileStore}
use Rattle.sqlite_trees.specs.View.{doubt}

pub always_clean : (after : Held (FileStore Memory memory.ghosts)) → HasCleanDisk (state over_files after)
unfolding pool.state doubt
always_clean after = refl
