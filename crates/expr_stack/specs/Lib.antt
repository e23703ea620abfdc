pub mod StackMeaning
