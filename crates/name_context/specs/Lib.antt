pub mod AsTables
