-- Kinds of stretches of nodes, each over a frame.
use Rattle.std.specs.Prelude.{◌≡◌, ℕ, ◌+◌, ◌<◌, ◌≤◌, List, Some, length, slice_get}
use Rattle.std.specs.List.{AllByRecursion}
use Rattle.tla_model.specs.Entities.{Meaning}
use Rattle.kind_text.specs.FlatModule.{FlatModule}
use Rattle.kind_table.specs.Flattened.{first_node}
use Rattle.level_facts.specs.Facts.{AreKinds}
use Rattle.level_text.specs.LevelFaults.{parts_of}
use Rattle.flattened_trees.specs.Answers.{items_of}
use Rattle.found_levels.specs.declared.stretches.Stretch.{Stretch}

-- what a node and its parts are made of begins here or later
pub record Begins (flat : FlatModule) (start node : ℕ) : Type 0 where
  pub whole : start ≤ first_node flat node
  pub parts : AllByRecursion (λ part. start ≤ first_node flat part) (parts_of (slice_get flat.nodes node))

-- the kinds of a stretch of nodes over a frame
pub record IsStretch (flat : FlatModule) (frame : List Meaning) (s : Stretch) : Type 0 where
  pub kinds : AreKinds flat (items_of frame) s.start (s.start + length s.kinds.items) s.kinds.items
  pub within : s.start + length s.kinds.items ≤ length flat.nodes

-- a node stands in a stretch, with what it is made of
pub record Covers (flat : FlatModule) (s : Stretch) (node : ℕ) : Type 0 where
  pub begins : Begins flat s.start node
  pub before : node < s.start + length s.kinds.items

-- there is a stretch for each frame
pub record AreKept (flat : FlatModule) (frames : List (List Meaning)) (kept : List Stretch) : Type 0 where
  pub long : length kept ≡ length frames
  pub each : (i : ℕ) (frame : List Meaning) (s : Stretch) → slice_get frames i ≡ Some frame → slice_get kept i ≡ Some s → IsStretch flat frame s
