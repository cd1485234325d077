-- Lines more whose replies are those of a run.
use Rattle.std.proofs.Common.{◌≡◌, ◌∙◌, false, List, ◌++◌}
use Rattle.clr_rules.specs.Register.{Register}
use Rattle.clr_journal.specs.Journals.{withdraws}
use Rattle.clr_journal.specs.Line.{Entry}
use Rattle.clr_checking.specs.Checking.{AreAnswered, none, refused, gone, done}
use Rattle.clr_checking.proofs.Places.{same_withdraws}

-- lines, and lines after them of which the first does not withdraw
pub answered_then : (more : List Entry) (T : Register) → withdraws more ≡ false → {R S : Register} {lines : List Entry} → AreAnswered R lines S → AreAnswered S more T
    → AreAnswered R (lines ++ more) T
answered_then more T kept (none R) next = next
answered_then more T kept (refused R S receipt q reply rest not is are) next =
    refused R T receipt q reply (rest ++ more) not is (answered_then more T kept are next)
answered_then more T kept (gone R S receipt q reply n rest is are) next =
    gone R T receipt q reply n (rest ++ more) is (answered_then more T kept are next)
answered_then more T kept (done R S receipt q reply rest is stays own are) next =
    done R T receipt q reply (rest ++ more) is (same_withdraws rest more kept ∙ stays) own (answered_then more T kept are next)
