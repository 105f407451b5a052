pub mod Taking
pub mod Whole
pub mod Going
pub mod Reporting
