pub mod Answers
pub mod Calls
pub mod Living
pub mod Requiring
