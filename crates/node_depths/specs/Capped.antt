-- What is kept of depths: those that are too deep are not told apart.
use Rattle.std.specs.Prelude.{◌≡◌, ℕ, ◌<◌, ◌≤◌, List, length, min}
use Rattle.kind_text.specs.FlatModule.{FlatModule}
use Rattle.kind_table.specs.Flattened.{number_in}
use Rattle.level_text.specs.Depth.{depth}

-- a depth, where all above 1000 are one
abbrev pub capped : ℕ → ℕ
capped n = min 1001 n

-- these are depths of nodes, as far as they go
abbrev pub AreDepths : FlatModule → List ℕ → Type 0
AreDepths flat depths = (i : ℕ) → i < length depths → number_in depths i ≡ capped (depth flat i)

-- these are the depths of all nodes
pub record IsDepths (flat : FlatModule) (depths : List ℕ) : Type 0 where
  pub long : length depths ≡ length flat.nodes
  pub each : AreDepths flat depths

-- those of some nodes become those of all
abbrev pub GivesDepths : FlatModule → List ℕ → List ℕ → Type 0
GivesDepths flat some all = length some ≤ length flat.nodes → AreDepths flat some → IsDepths flat all
