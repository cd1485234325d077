-- THE HEAD of a request, in an input that is read in pieces.
use Rattle.std.specs.Prelude.{◌⊎◌, ℕ, ◌≤◌, List, length, Option, Some, None, ⊤}
use Rattle.std.specs.Io.KnownBytes.{IsAtEnd}
use Rattle.httparse.specs.Grammar.{RequestHead, ReadsRequest, print_request, HasNoRequest}
use Rattle.httparse.specs.Grammar.{NeverHasRequest}
use Rattle.httparse.specs.Spans.{RequestExceeds}
use Rattle.clr_http.specs.declared.head.HeadFault.{HeadFault}
use Rattle.clr_http.specs.declared.head.HeadFault.TheVariants.{BadHead, HeadTooLarge, HeadCut}
use Rattle.clr_http.specs.declared.head.HeadFault.TheVariants.{ReadFailed, NoMemory}

-- the input is a head of at most 8,192 bytes and 64 fields, and then the rest
pub record BeginsWith (input : List ℕ) (head : RequestHead) (rest : List ℕ) : Type 0 where
  pub reads : ReadsRequest input head rest
  pub bytes : length (print_request head) ≤ 8192
  pub fields : length head.fields ≤ 64

-- a known input begins with such a head
abbrev pub HasHead : Option (List ℕ) → Type 0
HasHead None = ⊥
HasHead (Some input) = (head : RequestHead) × (rest : List ℕ) × BeginsWith input head rest

-- what a fault says of the bytes that were taken, and of what is left: no continuation is a head;
-- the limit was read, or the fields pass the room; the input ended
abbrev pub Explains : HeadFault → List ℕ → Option (List ℕ) → Type 0
Explains BadHead taken left = NeverHasRequest taken
Explains HeadTooLarge taken left = ((8192 ≤ length taken) × HasNoRequest taken)
    ⊎ RequestExceeds 64 taken
Explains HeadCut taken left = HasNoRequest taken × IsAtEnd left
Explains ReadFailed taken left = ⊤
Explains NoMemory taken left = ⊤

-- the faults that say nothing of the bytes
abbrev pub IsOutside : HeadFault → Type 0
IsOutside BadHead = ⊥
IsOutside HeadTooLarge = ⊥
IsOutside HeadCut = ⊥
IsOutside ReadFailed = ⊤
IsOutside NoMemory = ⊤
