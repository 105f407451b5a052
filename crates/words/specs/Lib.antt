pub mod Lists
pub mod Words
pub mod Faults
pub mod Taking
pub mod Reads
