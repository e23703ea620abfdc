mod Holding
mod Written
mod Projecting
mod Changing
mod Found
