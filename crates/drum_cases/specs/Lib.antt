pub mod Drum
