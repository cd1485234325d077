use Rattle.std.proofs.Common.{◌≡◌, drop}
use Rattle.serde_json.specs.View.{view}
use Rattle.clr_text.specs.Kinds.{keys_of}
use Rattle.clr_text.specs.Reading.{none_missing}
use Rattle.clr_text.proofs.reading.none_missing.Given as goal

abbrev pub invariant-loop-key : goal.invariant-loop-key
invariant-loop-key l = none_missing (drop l.key-index l.key-items) (view l.value) ≡ none_missing (keys_of l.fn.word) (view l.value)
