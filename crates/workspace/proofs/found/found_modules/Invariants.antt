use Rattle.std.proofs.Common.{◌≡◌, map, take}
use Rattle.workspace.specs.Found.{found_of}
use Rattle.workspace.proofs.found.found_modules.Given as goal

abbrev pub invariant-loop-text : goal.invariant-loop-text
invariant-loop-text l = l.modules ≡ map (found_of l.found) (take l.text-index l.texts)
