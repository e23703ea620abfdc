-- A module that is not there is good.
use Rattle.std.proofs.Common.{refl}
use Rattle.kind_text.specs.FlatModule.{FlatModule}
use Rattle.module_kinds.specs.ModuleKinds.{nowhere}
use Rattle.flat_kinds.specs.Declarations.{Declarations}
use Rattle.flat_trees.specs.Stands.{Unsaid}
use Rattle.flattened_units.specs.Units.{no_face}
use Rattle.accepted_modules.specs.Behind.{Behinds}
use Rattle.accepted_modules.specs.Coming.{no_module}
use Rattle.given_modules.specs.Good.{IsGoodFile}

pub nothing-good : (flat : FlatModule) (declares : Declarations) (behinds : Behinds) → IsGoodFile flat declares behinds no_face nowhere
nothing-good flat declares behinds = record {
  comes = no_module;
  given = record { names = record { entries = tt; parameters = tt; once = tt }; behind = tt };
  reads = record { parameters = refl; constant = refl };
  there = λ name names. record { path = tt; end = tt };
  named = λ new leads leaves built. record {
    base = λ m. Unsaid;
    inner = λ name. Unsaid;
    paths = λ name names. refl;
    kept = λ frame standing many all name. tt;
    takes = λ name next is. cc is;
    apart = tt;
    symbols = λ m. tt;
    unsaid = λ m is free. refl;
  };
  extended = λ leads round frame placed. record {
    base = λ m. Unsaid;
    inner = λ name. Unsaid;
    paths = λ name names. refl;
    kept = λ frame standing many all name. tt;
    takes = λ name next is. cc is;
    parameters = refl;
    symbols = λ m. tt;
    placed = tt;
  };
}
