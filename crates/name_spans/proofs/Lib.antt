mod Standing
mod Reading
