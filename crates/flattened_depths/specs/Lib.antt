pub mod Arranged
pub mod Rounds
