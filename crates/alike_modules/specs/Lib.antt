pub mod Alike
pub use Rattle.known_modules.specs.Known
