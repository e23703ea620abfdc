-- What meanings are looked up by in tables: what is hashed of them.
use Rattle.std.specs.Prelude.{Bool, ◌&&◌, List, [], ◌++◌, flat_map, nat_eq}
use Rattle.std.specs.Hash as fed
use Rattle.std.specs.Str.{bytes_eq}
use Rattle.tla_model.specs.declared.ids.Callee.{Callee}
use Rattle.tla_model.specs.declared.ids.UnitId.{UnitId}
use Rattle.tla_model.specs.declared.names.Meaning.TheVariants.{BuiltIn, Declared}
use Rattle.tla_model.specs.Entities.{Meaning}

-- both are the same INSTANCE in the same module's text
abbrev pub same_unit : UnitId → UnitId → Bool
same_unit a b = bytes_eq a.«module» b.«module» && nat_eq a.place b.place

-- of units, all of each
abbrev pub units_input : List UnitId → fed.HashWrites
units_input units = flat_map (λ (unit : UnitId). fed.str unit.«module» ++ fed.u32 unit.place) units

-- of a callee, its declaration and the units through which it came
abbrev pub callee_input : Callee → fed.HashWrites
callee_input callee = (fed.str callee.decl.«module» ++ fed.u32 callee.decl.place) ++ units_input callee.via

-- of a meaning, its callee
abbrev pub meaning_input : Meaning → fed.HashWrites
meaning_input BuiltIn = []
meaning_input (Declared e callee) = callee_input callee
