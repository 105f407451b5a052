pub mod Container
pub mod Answer
