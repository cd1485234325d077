-- THE SERVICE: requests one after the other, each answered at the register that the earlier ones
-- left.
use Rattle.std.specs.Prelude.{◌≡◌, ◌⊎◌, ℕ, List, [], ◌∷◌, Option, None, Some, All}
use Rattle.clr_rules.specs.Register.{Register}
use Rattle.clr_rules.specs.declared.command.Command.{Command}
use Rattle.clr_http.specs.Asked.{Asks}
use Rattle.clr_http.specs.Head.{HasHead}
use Rattle.clr_http.specs.Registrar.{CountsFault, Keeper}
use Rattle.clr_http.specs.Respond.{Outcome, Responds}
use Rattle.clr_http.specs.Response.{Content, fault_response, response_bytes}
use Rattle.clr_http.specs.Served.{IsRefusal}
use Rattle.clr_http.specs.declared.response.Fault.TheVariants.{Unavailable}

-- each input begins with a head of at most 8,192 bytes and 64 fields
abbrev pub HaveHeads : List (List ℕ) → Type 0
HaveHeads inputs = All (λ input. HasHead (Some input)) inputs

-- the responses to these inputs from a register on, where no fault is counted, and the register that
-- they leave
unfoldable pub RespondsAll : Register → List (List ℕ) → List (List ℕ) → Register → Type 0
RespondsAll R [] [] S = S ≡ R
RespondsAll R (input ∷ inputs) (bytes ∷ later) S =
    (o : Outcome) × Responds R input o × (bytes ≡ response_bytes o.response)
    × RespondsAll o.left inputs later S
RespondsAll R [] (bytes ∷ later) S = ⊥
RespondsAll R (input ∷ inputs) [] S = ⊥

-- an input has one outcome
abbrev pub AnsweredOnce : Type 0
AnsweredOnce = (R : Register) (input : List ℕ) (o other : Outcome) → Responds R input o
    → Responds R input other → o ≡ other

-- ---- every list of inputs

-- the bytes of the 503
abbrev pub unavailable_bytes : List ℕ
unavailable_bytes = response_bytes (fault_response Unavailable)

-- the bytes that go out to an input that begins with no head: none where it is empty, otherwise a refusal
abbrev pub IsHeadless : List ℕ → List ℕ → Type 0
IsHeadless input bytes = ¬ (HasHead (Some input))
    × (((input ≡ []) × (bytes ≡ []))
    ⊎ ((left : Option (List ℕ)) × (c : Content) × IsRefusal input left c
    × (bytes ≡ response_bytes c)))

-- a request is answered as the definitions say, and what it asks is carried out
pub record IsResponded (old new : Keeper) (input : List ℕ) (carried : Option Command)
    (bytes : List ℕ) : Type 0 where
  pub outcome : Outcome
  pub responds : Responds old.register input outcome
  pub asks : Asks input carried
  pub response : bytes ≡ response_bytes outcome.response
  pub register : new.register ≡ outcome.left
  pub faults : new.faults ≡ old.faults

-- ONE INPUT IS SERVED, by the command of it that is carried out, if one is: it is answered as the
-- definitions say; or a fault is counted, nothing is carried out, and the response is the 503; or it
-- begins with no head, and is refused
abbrev pub IsExchange : Keeper → Keeper → List ℕ → Option Command → List ℕ → Type 0
IsExchange old new input carried bytes =
    IsResponded old new input carried bytes
    ⊎ ((carried ≡ None) × (bytes ≡ unavailable_bytes) × CountsFault old new)
    ⊎ ((carried ≡ None) × IsHeadless input bytes × (new ≡ old))

-- INPUTS ARE SERVED one after the other, whatever they are: the commands of them that are carried
-- out, and the responses, each at the place of its input. What a response without a command depends
-- on is said in Carried
unfoldable pub ServesAll : Keeper → List (List ℕ) → List (Option Command) → List (List ℕ) → Keeper
    → Type 0
ServesAll k [] [] [] l = l ≡ k
ServesAll k (input ∷ inputs) (carried ∷ later) (bytes ∷ others) l =
    (m : Keeper) × IsExchange k m input carried bytes × ServesAll m inputs later others l
ServesAll k [] [] (bytes ∷ others) l = ⊥
ServesAll k [] (carried ∷ later) texts l = ⊥
ServesAll k (input ∷ inputs) [] texts l = ⊥
ServesAll k (input ∷ inputs) (carried ∷ later) [] l = ⊥
