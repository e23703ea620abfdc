pub mod WalkTasks
