-- The modules round the one that is read, in code: their names are the first ones of its tables. And what is known of instances
-- at a place of a text.
use Rattle.std.specs.Prelude.{◌≡◌, ◌<◌, ◌≤◌, ⊤, ℕ, List, [], ◌∷◌, Option, None, Some, length, reverse, take}
use Rattle.std.specs.List.{AllByRecursion}
use Rattle.instance_scope.specs.Scoped.{IsSound, known_of}
use Rattle.model_laws.specs.Settled.{IsSettled}
use Rattle.module_scope.specs.Environments.{Environment}
use Rattle.module_model.specs.Modules.{Reading, begun_in}
use Rattle.module_model.specs.Resolution.{ReadState}
use Rattle.name_context.specs.AsTables.{cut}
use Rattle.name_exports.specs.Brought.{ModuleNames}
use Rattle.unit_scope.specs.Modules.{reading_in, reading_of}
use Rattle.unit_scope.specs.Readings.{Over, over_of}
use Rattle.unit_scope.specs.declared.reader.ModuleReader.{ModuleReader}
use Rattle.unit_scope.specs.declared.reader.Outer.{Outer}
use Rattle.unit_scope.specs.declared.reading.Reading.{Reading as Read}
use Rattle.instance_leads.specs.declared.ended.Ended.{Ended}
use Rattle.tla_model.specs.Contexts.{Context}
use Rattle.tla_model.specs.Entities.{Text}

-- ---- modules round a place

-- what code keeps of a module round the one that is read, by the names that are there in all
pub record IsOuter (context : Context) (taken : ModuleNames) (outer : Outer) (reading : Reading) : Type 0 where
  pub title : reading.name ≡ outer.name.now
  pub shown : reading.exports ≡ outer.exports
  pub names : reading.context ≡ cut context outer.mark
  pub begins : reading.modules ≡ take outer.modules taken
  pub words : outer.mark.words ≤ length context.words
  pub symbols : outer.mark.symbols ≤ length context.symbols
  pub within : outer.modules ≤ length taken

-- the innermost one first
abbrev pub AreRound : Context → ModuleNames → List Outer → List Reading → Type 0
AreRound context taken [] [] = ⊤
AreRound context taken (outer ∷ outers) (reading ∷ round) = IsOuter context taken outer reading × AreRound reading.context reading.modules outers round
AreRound context taken _ _ = ⊥

-- a module name that is taken stands for a nested module that has ended, or for one round the place
abbrev pub IsEndedOf : ℕ → Option ℕ → Type 0
IsEndedOf count None = ⊤
IsEndedOf count (Some number) = number < count

-- the same of all that are taken
abbrev pub AreEnded : ℕ → Environment ℕ → Type 0
AreEnded count modules = AllByRecursion (λ entry. IsEndedOf count entry.1) modules

-- a nested module of this title is entered, whatever nested modules have ended before, and what is round it is kept
pub record IsEntered (title : List ℕ) (old new : Read) (outer : Outer) : Type 0 where
  pub reads : (nested : List Ended) → reading_in nested new ≡ begun_in (reading_in nested old) title
  pub keeps : (nested : List Ended) → IsOuter (begun_in (reading_in nested old) title).context (begun_in (reading_in nested old) title).modules outer (reading_in nested old)
  pub numbered : (count : ℕ) → AreEnded count old.modules → AreEnded count new.modules

-- the nested module is left: what is kept of the module round it is that module again
pub record IsLeft (outer : Outer) (old new : Read) : Type 0 where
  pub reads : (nested : List Ended) → (reading : Reading) → IsOuter (reading_in nested old).context (reading_in nested old).modules outer reading → reading_in nested new ≡ reading
  pub numbered : (count : ℕ) → AreEnded count old.modules → AreEnded count new.modules

-- ---- places

-- code reads a text at this place, over these imports
pub record IsAt (text : Text) (over : Over) (read : ModuleReader) (state : ReadState) : Type 0 where
  pub here : reading_of read.scope read.here ≡ state.place.here
  pub round : AreRound state.place.here.context state.place.here.modules (reverse read.round.items) state.place.round
  pub known : known_of read.scope ≡ state.known
  pub sound : IsSound read.scope
  pub numbered : AreEnded (length read.scope.nested.items) read.here.modules
  pub title : read.scope.title.now ≡ text.file
  pub kept : over_of read.scope ≡ over

-- code reads at some place
pub record IsPlaced (text : Text) (read : ModuleReader) : Type 0 where
  pub over : Over
  pub state : ReadState
  pub at : IsAt text over read state

-- code reads at some place, where it is known what stands behind each instance that is exported
pub record IsSomewhere (text : Text) (read : ModuleReader) : Type 0 where
  pub over : Over
  pub state : ReadState
  pub at : IsAt text over read state
  pub settled : IsSettled state
