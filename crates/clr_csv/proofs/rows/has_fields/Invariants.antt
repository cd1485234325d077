use Rattle.std.proofs.Common.{◌≡◌, map, drop}
use Rattle.csv.specs.Records.{fields_of}
use Rattle.clr_csv.specs.Rows.{same_fields}
use Rattle.clr_csv.proofs.rows.has_fields.Given as goal

-- the fields so far are the same, so the others decide
abbrev pub invariant-loop-place : goal.invariant-loop-place
invariant-loop-place l =
    same_fields (map (λ field. field.now) l.fields) (fields_of l.found)
    ≡ same_fields (map (λ field. field.now) (drop l.place l.fields)) (drop l.place (fields_of l.found))
