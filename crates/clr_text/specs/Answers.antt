-- How an answer follows the one that is given.
use Rattle.std.specs.Prelude.{◌≡◌, Result, Ok, Err, ⊤}
use Rattle.clr_text.specs.declared.fault.TextFault.{TextFault}
use Rattle.clr_text.specs.declared.fault.TextFault.TheVariants as fault

-- the fault is the one that is given; only want of memory may come in its place, or in the place of
-- a value
abbrev pub Fails : {A : Type 0} → TextFault → Result A TextFault → Type 0
Fails fault.NoMemory told = ⊤
Fails e told = told ≡ Err e

-- the answer is the one that is given; only want of memory may come in its place
abbrev pub Gives : {A : Type 0} → Result A TextFault → Result A TextFault → Type 0
Gives (Ok x) told = told ≡ Ok x
Gives (Err e) told = Fails e told

-- the same of an answer that is seen in another form
abbrev pub GivesAs : {X A : Type 0} → (X → A) → Result X TextFault → Result A TextFault → Type 0
GivesAs seen (Ok x) told = told ≡ Ok (seen x)
GivesAs seen (Err e) told = Fails e told
