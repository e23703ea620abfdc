-- What declarations yield, with those of a module that is read.
use Rattle.std.specs.Prelude.{ℕ, List, if◌then◌else◌}
use Rattle.tla_model.specs.declared.names.Meaning.TheVariants.{Declared}
use Rattle.module_kinds.specs.ModuleKinds.{KindState}
use Rattle.flat_kinds.specs.Declarations.{Declarations}
use Rattle.flat_kinds.specs.Yields.{Yields}
use Rattle.given_modules.specs.Others.{is_of}

-- with those of the module of this title, and those that came through an INSTANCE of it: what stands for them in a state
abbrev pub with_own_yields : Declarations → List ℕ → KindState → Yields → Yields
with_own_yields declares title state yields decl via parameters =
    if is_of title decl via then state.standing parameters (Declared (declares decl).1 (record { instance = 0; decl = decl; via = via })) else yields decl via parameters
