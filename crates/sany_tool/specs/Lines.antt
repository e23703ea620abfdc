-- What is said of a run that has no report.
use Rattle.std.specs.Prelude.{ℕ, List, Option, Some, None, codes, ◌==◌, if◌then◌else◌}
use Rattle.std.specs.declared.io.ErrorKind.{ErrorKind}
use Rattle.std.specs.declared.io.ErrorKind.TheVariants.{OutOfMemory}

-- the line for a status that is no verdict
abbrev pub line_of : ℕ → Option (List ℕ)
line_of status =
    if status == 2 then Some (codes "sany: usage: check FOLDER [--facts] | serve | gen N") else
    if status == 3 then Some (codes "sany: folder fault") else
    if status == 4 then Some (codes "sany: input fault") else
    if status == 5 then Some (codes "sany: output fault") else
    if status == 6 then Some (codes "sany: no memory") else
    if status == 7 then Some (codes "sany: limit") else
    if status == 8 then Some (codes "sany: bad header") else
    None

-- the status where the words can't be read: want of memory, or else no request
abbrev pub status_without_words : ErrorKind → ℕ
status_without_words OutOfMemory = 6
status_without_words _ = 2
