pub mod Book
pub mod PlainBook
pub mod Posting
