use Rattle.std.proofs.Common.{Ok, Err, inl, inr, refl}
use Rattle.std.specs.Prelude.{length}
use Rattle.clr_csv.specs.declared.fault.CsvFault.TheVariants as csv
use Rattle.clr_edge.specs.Files.{GivesBytes}
use Rattle.clr_edge.proofs.Bytes.{beyond, opened, unread, whole}
use Rattle.clr_edge.proofs.files.bytes_in.Goals as goal

-- the bytes, if they are not too many
pub returns-in-Ok-clause-bytes : goal.returns-in-Ok-clause-bytes
returns-in-Ok-clause-bytes g c =
    opened _ _ (λ known. GivesBytes known (Ok c.in-Ok.bytes)) c.open.ensures.bytes (whole _ c.in-Ok.bytes c.in-Ok.ensures.bytes)

pub returns-in-Err-ReadFailed-clause-bytes : goal.returns-in-Err-ReadFailed-clause-bytes
returns-in-Err-ReadFailed-clause-bytes g c = unread _ csv.ReadFailed (inr refl)

pub returns-in-Err-TooLong-clause-bytes : goal.returns-in-Err-TooLong-clause-bytes
returns-in-Err-TooLong-clause-bytes g c =
    opened _ _ (λ known. GivesBytes known (Err csv.TooLong)) c.open.ensures.bytes (beyond _ (rw c.in-Err-TooLong.field-0-is at c.in-Err-TooLong.ensures.bytes))

pub returns-in-Err-NoMemory-clause-bytes : goal.returns-in-Err-NoMemory-clause-bytes
returns-in-Err-NoMemory-clause-bytes g c = unread _ csv.NoMemory (inl refl)
