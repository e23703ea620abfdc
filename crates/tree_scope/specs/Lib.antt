pub mod TasksDone
