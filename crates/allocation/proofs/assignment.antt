pub mod Assignment
pub mod Results
