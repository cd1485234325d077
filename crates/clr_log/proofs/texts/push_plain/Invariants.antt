use Rattle.std.proofs.Common.{◌≡◌, ◌++◌, drop, filter, string_bytes}
use Rattle.clr_log.specs.Log.{is_printed}
use Rattle.clr_log.proofs.texts.push_plain.Given as goal

-- what was written, and what is printed of the bytes that are left, is what is printed of all
abbrev pub invariant-loop-byte : goal.invariant-loop-byte
invariant-loop-byte l =
    string_bytes l.out ++ filter is_printed (drop l.byte-index l.byte-items) ≡ string_bytes l.initial.out ++ filter is_printed l.byte-items
