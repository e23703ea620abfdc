mod Finding
mod Outlining
mod Stating
