-- What proofs above ask of accepted modules, passed on with what is proved here.
pub use Rattle.given_modules.proofs.Passed.{nothing-holds}
