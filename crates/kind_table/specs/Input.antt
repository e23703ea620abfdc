-- What is hashed of an argument.
use Rattle.std.specs.Prelude.{ℕ, List, [], ◌++◌}
use Rattle.std.specs.Hash as fed
use Rattle.kind_table.specs.declared.argument.Arg.{Arg}
use Rattle.kind_table.specs.declared.argument.Arg.TheVariants.{Value, Stays, BuiltIn, Operator}

-- of a definition as an operator, its number and what stands round it; the others are few
abbrev pub arg_input : Arg → List (List ℕ)
arg_input (Value k) = []
arg_input (Stays rule) = []
arg_input (BuiltIn rule) = []
arg_input (Operator d ns) = fed.usize d ++ fed.slice fed.usize ns.items
