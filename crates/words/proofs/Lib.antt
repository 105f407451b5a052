pub mod Lists
pub mod Words
pub mod Checks
