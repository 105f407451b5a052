pub mod Input
pub mod Text
pub mod Stream
pub mod Report
