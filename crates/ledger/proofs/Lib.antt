mod Cleared
mod Pairs
mod Posting
mod Records
mod Takes
