-- What the words ask to measure.
use Rattle.std.specs.Prelude.{ℕ, ◌^◌, if◌then◌else◌, List, [], ◌∷◌, Option, Some, None, codes}
use Rattle.std.specs.Str.{bytes_eq}
use Rattle.frame_bench.specs.declared.task.Cutting.TheVariants.{Byte, Block, Whole}
use Rattle.frame_bench.specs.declared.task.Task.{Task}
use Rattle.frame_bench.specs.declared.task.Task.TheVariants.{Frames, Messages}

-- the most bytes that the framer is fed at once
abbrev pub piece_size : Task → ℕ
piece_size (Frames Byte) = 1
piece_size (Frames Block) = 4096
piece_size (Frames Whole) = 2 ^ 26
piece_size Messages = 2 ^ 26

-- frames are measured, and the stream is cut in the way of this name, if there is one
abbrev pub frames_by : List ℕ → Option Task
frames_by cutting =
    if bytes_eq cutting (codes "byte") then Some (Frames Byte) else (if bytes_eq cutting (codes "block") then Some (Frames Block) else (if bytes_eq cutting (codes "whole") then Some (Frames Whole) else None))

-- what the words ask to measure, if they ask for something
abbrev pub task_of : List (List ℕ) → Option Task
task_of (what ∷ []) = if bytes_eq what (codes "message") then Some Messages else None
task_of (what ∷ cutting ∷ []) = if bytes_eq what (codes "framer") then frames_by cutting else None
task_of words = None
