pub mod MembersFacts
pub mod ListsRead
pub mod NoFloats
pub mod RepliesFlat
pub mod LineReplies
pub mod KeysInOrder
pub mod KeyFaults
pub mod PlainTexts
pub mod SaidReads
pub mod CommandsRead
pub mod ContentTexts
pub mod TextsRead
pub mod SaidTaken
pub mod CommandsSent
pub mod Unescaped
pub mod ReplyPieces
pub mod KeyLists
mod JsonSteps
