mod Standing
mod Growing
mod Telling
