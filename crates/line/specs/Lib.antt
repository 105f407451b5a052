pub mod Text
pub mod Fault
pub mod Fields
pub mod Written
pub mod Lines
