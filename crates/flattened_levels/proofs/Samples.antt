-- A LET with an operator and one with an instance of a module, over an empty frame: so all that is asked can be met.
use Rattle.std.proofs.Common.{◌≡◌, ℕ, List, [], refl}
use Rattle.tla_model.specs.declared.entity.Entity.TheVariants as entity
use Rattle.tla_model.specs.declared.names.Meaning.TheVariants.{BuiltIn, Declared}
use Rattle.tla_model.specs.Tables.{empty}
use Rattle.tla_model.specs.Entities.{Meaning}
use Rattle.module_model.specs.Exports.{Known}
use Rattle.kind_text.specs.ExpandedKind.{Operands}
use Rattle.kind_text.specs.FlatModule.{FlatModule}
use Rattle.tree_kinds.specs.Standing.{Outside, themselves}
use Rattle.tree_kinds.specs.Expanding.{Around}
use Rattle.tree_kinds.specs.TreeLevels.{levels}
use Rattle.flat_trees.specs.Stands.{IsStanding}
use Rattle.flattened_trees.specs.Leads.{FlatFace}
use Rattle.flattened_trees.specs.Agreeing.{unsaid_stand}
use Rattle.flattened_trees.specs.Answers.{level_answers}
use Rattle.flattened_meanings.proofs.Samples as operators
use Rattle.flattened_meanings.proofs.InstanceSamples as instances
use Rattle.flattened_levels.specs.Shapes.{IsShaped}
use Rattle.flattened_levels.specs.Asked.{IsAskedRound}
use Rattle.flattened_levels.proofs.TreesAnswered.{tree-levels}

-- nothing is declared
abbrev around : Around
around = record { context = empty; standing = themselves; old = Operands.Nil }

module _ (flat : FlatModule) where
  themselves-stand : (meaning : Meaning) → IsStanding flat [] [] (unsaid_stand meaning) (themselves meaning)
  themselves-stand BuiltIn = refl
  themselves-stand (Declared (entity.Bound state) callee) = refl
  themselves-stand (Declared e callee) = tt

operator-round : IsAskedRound operators.flat operators.layout operators.setting around
operator-round = record { frame = record { context = refl; places = refl; standing = themselves-stand operators.flat; old = λ more. refl }; olds = tt }

operator-shaped : IsShaped operators.tree
operator-shaped = ((((refl, tt, refl), tt), ((((refl, tt, refl), tt), tt), tt)), ((((refl, tt, refl), (tt, tt)), tt), tt))

operator-levels : (known : Known) (named : List ℕ → Outside) (implied : ℕ → List Meaning) (faces : List ℕ → FlatFace) → level_answers operators.flat (operators.tree_asked known named implied faces) ≡ levels operators.text known named around operators.tree
operator-levels known named implied faces =
    tree-levels operators.flat operators.text known named operators.means implied faces operators.nameable (operators.ordered known named implied faces) operators.layout operators.setting [] around operators.tree
    (operators.round known named implied faces) operator-round 3 (operators.tree_asked known named implied faces) (operators.readable known named implied faces) operator-shaped (operators.written known named implied faces)

instance-round : IsAskedRound instances.flat instances.layout instances.setting around
instance-round = record { frame = record { context = refl; places = refl; standing = themselves-stand instances.flat; old = λ more. refl }; olds = tt }

instance-shaped : IsShaped instances.tree
instance-shaped = ((refl, (refl, tt, refl), refl, (refl, (((((refl, tt, refl), tt), tt), tt), tt))), ((((refl, tt, refl), (tt, tt)), (((refl, tt, refl), tt), tt)), tt))

instance-levels : level_answers instances.flat instances.tree_asked ≡ levels instances.text instances.known instances.named around instances.tree
instance-levels =
    tree-levels instances.flat instances.text instances.known instances.named instances.means instances.implied instances.faces instances.nameable instances.ordered instances.layout instances.setting [] around instances.tree
    instances.round instance-round 3 instances.tree_asked instances.readable instance-shaped instances.written
