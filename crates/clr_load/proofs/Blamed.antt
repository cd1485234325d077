-- A row of a point that does not read is reported by the table that it is read for.
use Rattle.std.proofs.Common.{◌≡◌, ℕ, ◌+◌, Bool, true, false, nat_le, if◌then◌else◌, List, [], ◌∷◌, Option, None, Some, Result, Ok, Err, pos, negsuc, ap, sym}
use Rattle.std.specs.Prelude.{ok_or}
use Rattle.sqlite.specs.Order.{Row, column}
use Rattle.sqlite.specs.declared.types.Value.{Value}
use Rattle.sqlite.specs.declared.types.Value.TheVariants.{Null, Int, Real, Text, Blob}
use Rattle.clr_net.specs.NameText.{read_name}
use Rattle.clr_net.specs.declared.name.NameFault.{NameFault}
use Rattle.clr_net.specs.Results.{◌>>=◌}
use Rattle.clr_rules.specs.Id.{new_id}
use Rattle.clr_load.specs.RowsRead.{all_read, flag_at, hand_at, id_at, id_unless_null, name_at, name_if_read, number_at, number_of, number_within, position_at, position_if, read_placed, text_at, text_of}
use Rattle.clr_load.specs.declared.table_name.TableName.{TableName}

module _ (t : TableName) where
  abbrev Blames : {A : Type 0} → Result A TableName → Type 0
  Blames read = (other : TableName) → read ≡ Err other → other ≡ t

  read_one : {A : Type 0} (x : A) → Blames (Ok x)
  read_one x other is = absurd cc

  blamed : {A : Type 0} → Blames {A = A} (Err t)
  blamed other is = let same : t ≡ other = cc in sym same

  then_blames : {A B : Type 0} (read : Result A TableName) (next : A → Result B TableName) → Blames read → ((x : A) → Blames (next x)) → Blames (read >>= next)
  then_blames (Ok x) next first rest other is = rest x other is
  then_blames (Err e) next first rest other is = first other (let same : e ≡ other = cc in ap Err same)

  limited : {A : Type 0} (b : Bool) (x : A) → Blames (if b then Ok x else Err t)
  limited true x = read_one x
  limited false x = blamed

  given : {A : Type 0} (o : Option A) → Blames (ok_or o t)
  given (Some x) = read_one x
  given None = blamed

  text : (v : Value) → Blames (text_of t v)
  text Null = blamed
  text (Int n) = blamed
  text (Real x) = blamed
  text (Text s) = read_one s
  text (Blob s) = blamed

  number : (v : Value) → Blames (number_of t v)
  number Null = blamed
  number (Int (pos n)) = read_one n
  number (Int (negsuc n)) = blamed
  number (Real x) = blamed
  number (Text s) = blamed
  number (Blob s) = blamed

  named : (r : Result (List ℕ) NameFault) → Blames (name_if_read t r)
  named (Ok name) = read_one name
  named (Err fault) = blamed

  name : (place : ℕ) (row : Row) → Blames (name_at t place row)
  name place row = then_blames (text_at t place row) _ (text (column row place)) (λ s. named (read_name s))

  flag : (place : ℕ) (row : Row) → Blames (flag_at t place row)
  flag place row = then_blames (number_within t 1 place row) _ (then_blames (number_at t place row) _ (number (column row place)) (λ n. limited (nat_le n 1) n)) (λ n. read_one _)

  position : (place : ℕ) (row : Row) → Blames (position_at t place row)
  position place row = then_blames (flag_at t place row) _ (flag place row) (λ closed. read_one (position_if closed))

  id : (place : ℕ) (row : Row) → Blames (id_at t place row)
  id place row = then_blames (name_at t place row) _ (name place row) (λ requester. then_blames (number_at t (place + 1) row) _ (number (column row (place + 1))) (λ n. given (new_id requester n)))

  some_id : (row : Row) → Blames (id_at t 6 row >>= λ c. Ok (Some c))
  some_id row = then_blames (id_at t 6 row) _ (id 6 row) (λ c. read_one (Some c))

  hand : (one other : Value) (row : Row) → Blames (id_unless_null t one other row)
  hand Null Null row = read_one None
  hand Null (Int n) row = some_id row
  hand Null (Real x) row = some_id row
  hand Null (Text s) row = some_id row
  hand Null (Blob s) row = some_id row
  hand (Int n) other row = some_id row
  hand (Real x) other row = some_id row
  hand (Text s) other row = some_id row
  hand (Blob s) other row = some_id row

  placed : (row : Row) → Blames (read_placed t row)
  unfolding read_placed
  placed row =
      then_blames (name_at t 0 row) _ (name 0 row) (λ a. then_blames (name_at t 1 row) _ (name 1 row) (λ b. then_blames (name_at t 2 row) _ (name 2 row) (λ c.
      then_blames (flag_at t 3 row) _ (flag 3 row) (λ d. then_blames (flag_at t 4 row) _ (flag 4 row) (λ e. then_blames (position_at t 5 row) _ (position 5 row) (λ f.
      then_blames (hand_at t row) _ (hand (column row 6) (column row 7) row) (λ h. read_one _)))))))

  -- rows of points, read for a table, stop at one of its own
  pub placed_blame : (rows : List Row) → Blames (all_read (read_placed t) rows)
  unfolding all_read
  placed_blame [] = read_one []
  placed_blame (row ∷ rows) = then_blames (read_placed t row) _ (placed row) (λ p. then_blames (all_read (read_placed t) rows) _ (placed_blame rows) (λ ps. read_one (p ∷ ps)))
