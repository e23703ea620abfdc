-- Names that lie in a text.
use Rattle.std.specs.Prelude.{ℕ, List}
use Rattle.std.specs.List.{AllByRecursion}
use Rattle.tla_model.specs.declared.names.Binder.{Binder}
use Rattle.tla_model.specs.Lexemes.{LiesIn}

-- each of these declaring names lies in the text
abbrev pub BindersLie : List ℕ → List Binder → Type 0
BindersLie source binders = AllByRecursion (λ binder. LiesIn source binder.name) binders
