-- What `order` and `board` print of a register.
use Rattle.std.specs.Prelude.{ℕ, ℤ, codes, Bool, if◌then◌else◌, List, Option, None, Some, ok_or}
use Rattle.std.specs.Prelude.{option_and_then, Result, ◌==◌}
use Rattle.std.specs.Cmp.Lexicographic.{pointwise}
use Rattle.clr_rules.specs.Id.{Id}
use Rattle.clr_rules.specs.IdText.{read_id}
use Rattle.clr_rules.specs.Records.{record_of}
use Rattle.clr_rules.specs.Register.{Register}
use Rattle.clr_rules.specs.Steps.{steps_of}
use Rattle.clr_print.specs.Printed.{order_text}
use Rattle.clr_args.specs.declared.asked.OrderArgs.{OrderArgs}
use Rattle.clr_edge.specs.declared.fault.Fault.{Fault}
use Rattle.clr_edge.specs.declared.fault.Fault.TheVariants.{NoSuch}

abbrev pub same_word : List ℕ → List ℕ → Bool
same_word = pointwise ◌==◌

-- the round that a word names: 1 or 2
abbrev pub read_round : List ℕ → Option ℕ
read_round word = if same_word word (codes "1") then Some 1 else if same_word word (codes "2")
    then Some 2 else None

-- a round of a clearance of the register, if it has steps
abbrev pub order_at : Register → ℤ → Id → ℕ → Option (List ℕ)
order_at R offset id round = order_text (record_of R.records id) (steps_of R.steps id) round offset

-- the printed order that two words name: there is none where one of them does not read
abbrev pub order_asked : Register → ℤ → Option Id → Option ℕ → Option (List ℕ)
order_asked R offset id round =
    option_and_then (λ i. option_and_then (λ r. order_at R offset i r) round) id

-- what `order` answers
abbrev pub order_told : Register → List ℕ → List ℕ → ℤ → Result (List ℕ) Fault
order_told R clearance round offset =
    ok_or (order_asked R offset (read_id clearance) (read_round round)) NoSuch

-- the same of what `order` was asked for
abbrev pub order_asked_for : Register → OrderArgs → Result (List ℕ) Fault
order_asked_for R args = order_told R args.clearance.now args.round.now args.offset.minutes
