pub mod Steps
pub mod Bodies
pub mod Judged
pub mod Runs
pub mod Permitted
pub mod Granting
pub mod Lists
pub mod Words
