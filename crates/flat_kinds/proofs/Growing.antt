-- A state that is kept is kept in a flat module that has more.
use Rattle.std.proofs.Common.{List, [], ◌∷◌}
use Rattle.std.specs.List.{AllByRecursion}
use Rattle.module_model.specs.Modules.{Reading}
use Rattle.kind_text.specs.FlatModule.{Extends, FlatModule, IsOrdered}
use Rattle.tree_kinds.specs.Standing.{Environment}
use Rattle.module_kinds.specs.ModuleKinds.{KindState}
use Rattle.flat_trees.proofs.Growing.{standing-back, standing-on}
use Rattle.flat_kinds.specs.Readings.{KeepsStanding}
use Rattle.flat_kinds.specs.Modules.{Current, IsCurrentWithin, KeepsAll, KeepsRound}

module _ (flat more : FlatModule) (extends : Extends flat more) (ordered : IsOrdered flat) where
  standing-kept : (current : Current) (standing : Environment → Environment) → IsCurrentWithin flat current → KeepsStanding flat current.symbols current.layout standing → KeepsStanding more current.symbols current.layout standing
  standing-kept current standing within kept frame parameters long all meaning =
      standing-on flat more extends ordered frame [] (current.layout.stands meaning) (standing parameters meaning) (within.stands meaning)
      (kept frame parameters long (λ other. standing-back flat more extends ordered frame [] (current.symbols other) (parameters other) (within.symbols other) (all other)) meaning)

  round-kept : (readings : List Reading) (round : List Current) (standing : Environment → Environment) → AllByRecursion (IsCurrentWithin flat) round → KeepsRound flat readings round standing → KeepsRound more readings round standing
  round-kept [] [] standing within kept = tt
  round-kept [] (outer ∷ round) standing within kept = absurd kept
  round-kept (reading ∷ readings) [] standing within kept = absurd kept
  round-kept (reading ∷ readings) (outer ∷ round) standing within ((context, olds, stands), rest) =
      ((context, olds, standing-kept outer standing within.0 stands), round-kept readings round standing within.1 rest)

  pub all-kept : (state : KindState) (here : Current) (round : List Current) → IsCurrentWithin flat here → AllByRecursion (IsCurrentWithin flat) round → KeepsAll flat state here round → KeepsAll more state here round
  all-kept state here round within outers kept =
      record {
        here = record { context = kept.here.context; olds = kept.here.olds; standing = standing-kept here state.standing within kept.here.standing };
        round = round-kept state.read.place.round round state.standing outers kept.round;
      }
