-- Where paths lead, and which of them lead to a file of a database.
use Rattle.std.specs.Prelude.{◌≡◌, ◌≢◌, ◌⊎◌, ◌++◌, ℕ, [], List, None, codes, string_bytes}
use Rattle.std.specs.declared.io.ErrorKind.{ErrorKind}
use Rattle.clr_disk.specs.declared.place.Place.{Place}

-- what the paths of a database's files end in: its own, and those that SQLite keeps beside it
abbrev pub IsOwnEnding : List ℕ → Type 0
IsOwnEnding ending = (ending ≡ []) ⊎ (ending ≡ codes "-journal") ⊎ (ending ≡ codes "-wal")
    ⊎ (ending ≡ codes "-shm")

-- a path leads nowhere that the system could say
abbrev pub LeadsNowhere : (List ℕ → ErrorKind → Type 0) → List ℕ → Type 0
LeadsNowhere lacks path = (kind : ErrorKind) × lacks path kind

-- a place is that of a path: it is called so, or the file there is the same
abbrev pub IsHere : (List ℕ → Place → Type 0) → List ℕ → Place → Type 0
IsHere leads name place = (string_bytes place.path ≡ name)
    ⊎ ((there : Place) × leads name there × (place.node ≢ None) × (there.node ≡ place.node))

-- it is not: it is called otherwise, and there is no file, or the path leads nowhere or to another
abbrev pub IsElsewhere : (List ℕ → Place → Type 0) → (List ℕ → ErrorKind → Type 0) → List ℕ → Place
    → Type 0
IsElsewhere leads lacks name place = (string_bytes place.path ≢ name)
    × ((place.node ≡ None) ⊎ LeadsNowhere lacks name
    ⊎ ((there : Place) × leads name there × (there.node ≢ place.node)))

-- it is none of the paths of a database's files
abbrev pub AreElsewhere : (List ℕ → Place → Type 0) → (List ℕ → ErrorKind → Type 0) → List ℕ → Place
    → Type 0
AreElsewhere leads lacks home place =
    IsElsewhere leads lacks (home ++ []) place
    × IsElsewhere leads lacks (home ++ codes "-journal") place
    × IsElsewhere leads lacks (home ++ codes "-wal") place
    × IsElsewhere leads lacks (home ++ codes "-shm") place

-- A PATH LEADS TO A FILE OF THE DATABASE at another path
pub record IsOwn (leads : List ℕ → Place → Type 0) (database path : List ℕ) : Type 0 where
  pub home : Place
  pub at : leads database home
  pub place : Place
  pub to : leads path place
  pub ending : List ℕ
  pub own : IsOwnEnding ending
  pub here : IsHere leads (string_bytes home.path ++ ending) place

-- it leads to none of them
pub record LeadsElsewhere (leads : List ℕ → Place → Type 0) (lacks : List ℕ → ErrorKind → Type 0)
    (database path : List ℕ) : Type 0 where
  pub home : Place
  pub at : leads database home
  pub place : Place
  pub to : leads path place
  pub elsewhere : AreElsewhere leads lacks (string_bytes home.path) place

-- the same, or one of the two paths leads nowhere
abbrev pub IsOther : (List ℕ → Place → Type 0) → (List ℕ → ErrorKind → Type 0) → List ℕ → List ℕ
    → Type 0
IsOther leads lacks database path = LeadsNowhere lacks database ⊎ LeadsNowhere lacks path
    ⊎ LeadsElsewhere leads lacks database path
