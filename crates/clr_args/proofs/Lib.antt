pub mod ArgumentRows
pub mod AskedByName
pub mod Drafts
pub mod Numbers
pub mod ParsedWords
pub mod JournalAsked
