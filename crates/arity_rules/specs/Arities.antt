-- Whether operators and expressions are used as what they are.
use Rattle.std.specs.Prelude.{ℕ, suc, Bool, true, false, ◌&&◌, ◌||◌, not, List, [], ◌∷◌, ◌++◌, Option, Some, None, if◌then◌else◌, is_some, length, map, nat_eq, nat_lt, slice_get}
use Rattle.std.specs.List.{list_all, list_any}
use Rattle.std.specs.Map.{lookup}
use Rattle.tla_symbols.specs.declared.lexeme.LexKind.TheVariants as LexKind
use Rattle.tla_symbols.specs.declared.lexeme.Span.{Span}
use Rattle.tla_symbols.specs.declared.op.Op.TheVariants as Op
use Rattle.tla_symbols.specs.declared.place.Fix.TheVariants.{Infix}
use Rattle.tla_symbols.specs.Symbols.{range_of}
use Rattle.tla_tree.specs.declared.form.Form.TheVariants as Form
use Rattle.tla_tree.specs.Syntax.{Tree, Trees, Node, Nil, Cons, form, span}
use Rattle.unit_grammar.specs.Units.{UnitTree}
use Rattle.tla_model.specs.declared.Diagnostic.{Diagnostic}
use Rattle.tla_model.specs.declared.entity.Entity.TheVariants as entity
use Rattle.tla_model.specs.Entities.{Entity}
use Rattle.tla_model.specs.Scopes.{Finding, is_free}
use Rattle.module_model.specs.declared.bound.Implied.{Implied}
use Rattle.module_model.specs.Bindings.{faults as name_faults, implied, resolved}
use Rattle.module_model.specs.Instances.{unit_trees}
use Rattle.arity_rules.specs.declared.place.Due.TheVariants as due
use Rattle.arity_rules.specs.declared.place.Role.TheVariants as role

-- what is due at a place
abbrev pub Due : Type 0
Due = due.the_data

-- what a form is where arities are looked at
abbrev pub Role : Type 0
Role = role.the_data

-- ---- what names take

-- how many arguments a name takes; variables, bound names and what is built in take none
abbrev pub arity : Entity → ℕ
arity (entity.Constant places) = places
arity (entity.Definition orders) = length orders
arity (entity.Instance orders) = length orders
arity (entity.Parameter places) = places
arity _ = 0

-- the name is an instance
abbrev pub is_instance : Entity → Bool
is_instance (entity.Instance orders) = true
is_instance _ = false

-- the parameters of the name are expressions; only a definition can have others
abbrev pub takes_expressions : Entity → Bool
takes_expressions (entity.Definition orders) = list_all (λ order. nat_eq order 0) orders
takes_expressions _ = true

-- of what order the argument with an index is: 0 for an expression, or the arity of an operator; a surplus one has none
abbrev pub order_at : Entity → ℕ → Option ℕ
order_at (entity.Definition orders) index = slice_get orders index
order_at (entity.Instance orders) index = slice_get orders index
order_at other index = if nat_lt index (arity other) then Some 0 else None

-- the same of a name that may mean nothing
abbrev pub argument_order : Option Entity → ℕ → Option ℕ
argument_order None index = None
argument_order (Some e) index = order_at e index

-- of what order a right side is, by the parameter that it replaces
abbrev pub replacing_order : Option Entity → Option ℕ
replacing_order None = None
replacing_order (Some parameter) = Some (arity parameter)

-- what is due in a place, by its order
abbrev pub due_by : Option ℕ → Span → Due
due_by None whole = due.Nothing
due_by (Some order) whole = if nat_eq order 0 then due.Expression else due.Operator order whole

-- ---- faults at one place

-- a fault of this code at a place, if it is one
abbrev pub fault_if : Bool → ℕ → Span → List Diagnostic
fault_if is_fault code at = if is_fault then record { code = code; span = at } ∷ [] else []

-- arguments are written and their number is not the arity; an instance before `!` has all of its arguments
abbrev pub is_miscounted : Due → ℕ → Entity → Bool
is_miscounted due.Qualifier written e = (is_instance e || not (nat_eq written 0)) && not (nat_eq written (arity e))
is_miscounted _ written e = not (nat_eq written 0) && not (nat_eq written (arity e))

-- an operator stands bare, or an instance stands without `!`
abbrev pub is_no_expression : ℕ → Entity → Bool
is_no_expression written e = is_instance e || (nat_eq written 0 && not (nat_eq (arity e) 0))

-- a bare operator of this arity, with expression parameters alone
abbrev pub is_operator : ℕ → ℕ → Entity → Bool
is_operator places written e = nat_eq written 0 && (not (is_instance e) && (nat_eq (arity e) places && takes_expressions e))

-- operator and expression confused, by what is due: at the name, or at the whole argument
abbrev pub confusions : Due → Span → ℕ → Entity → List Diagnostic
confusions due.Expression at written e = fault_if (is_no_expression written e) 502 at
confusions (due.Operator places whole) at written e = fault_if (not (is_operator places written e)) 502 whole
confusions _ at written e = []

-- what means nothing is no fault of arity, but for arguments where a bare operator is due
abbrev pub unknown_faults : Due → ℕ → List Diagnostic
unknown_faults (due.Operator places whole) written = fault_if (not (nat_eq written 0)) 502 whole
unknown_faults _ written = []

-- the faults of a name with so many written arguments, by what it means
abbrev pub use_faults : Due → Span → ℕ → Option Entity → List Diagnostic
use_faults d at written None = unknown_faults d written
use_faults d at written (Some e) = fault_if (is_miscounted d written e) 501 at ++ confusions d at written e

-- an expression that is no name stands where an operator is due
abbrev pub other_faults : Due → List Diagnostic
other_faults (due.Operator places whole) = fault_if true 502 whole
other_faults _ = []

-- ---- faults of a tree

-- what a form is where arities are looked at
abbrev pub role_of : Form.the_data → Role
role_of Form.Identifier = role.Path
role_of (Form.Segment l) = role.Segment l
role_of (Form.Symbol l) = role.Symbol l
role_of (Form.At l) = role.At l
role_of (Form.Replacement l) = role.Replacement l
role_of Form.Update = role.Update
role_of _ = role.Other

-- the parts are the segments of a path
abbrev pub is_path : Role → Bool
is_path role.Path = true
is_path _ = false

-- the indices of an update stand in no right side of it
abbrev pub is_index : Form.the_data → Bool
is_index Form.IndexStep = true
is_index _ = false

-- whether a part stands in a right side of EXCEPT, by whether the form does
abbrev pub is_part_inside : Role → Bool → Form.the_data → Bool
is_part_inside role.Update inside part = inside || not (is_index part)
is_part_inside _ inside part = inside

-- the last segment is due as the path is, and those before it as instances
abbrev pub segment_due : Due → Trees → Due
segment_due d Nil = d
segment_due d (Cons next rest) = due.Qualifier

-- how many parts there are
abbrev pub count : Trees → ℕ
count Nil = 0
count (Cons x rest) = suc (count rest)

-- how many operands a symbol has that is built in
abbrev pub places_of : Op.the_data → ℕ
places_of op = if is_some (range_of op Infix) then 2 else 1

-- what names mean, by where they begin
module _ (means : ℕ → Option Entity) where
  -- what a bare symbol means; one that no module may define is as a declared operator
  abbrev pub symbol_meaning : ℕ → LexKind.the_data → Option Entity
  symbol_meaning start (LexKind.Sym op) = if is_free op then means start else Some (entity.Constant (places_of op))
  symbol_meaning start _ = None

  -- the segment means something; else those behind it are not looked at
  abbrev pub is_known : Form.the_data → Bool
  is_known (Form.Segment l) = is_some (means l.span.start)
  is_known _ = false

  -- what is due of the part with an index
  abbrev pub part_due : Role → ℕ → Span → Due
  part_due (role.Segment l) index whole = due_by (argument_order (means l.span.start) index) whole
  part_due (role.Replacement l) index whole = due_by (replacing_order (means l.span.start)) whole
  part_due _ index whole = due.Expression

  -- the faults at a form itself, with so many parts
  abbrev pub own_faults : Due → Bool → Role → ℕ → List Diagnostic
  own_faults d inside role.Path parts = []
  own_faults d inside (role.Segment l) parts = use_faults d l.span parts (means l.span.start)
  own_faults d inside (role.Symbol l) parts = use_faults d l.span 0 (symbol_meaning l.span.start l.kind)
  own_faults d inside (role.At l) parts = other_faults d ++ fault_if (not inside) 503 l.span
  own_faults d inside _ parts = other_faults d

  abbrev mutual
    -- the faults of a tree, by what is due there and whether it stands in a right side of EXCEPT
    pub tree_faults : Due → Bool → Tree → List Diagnostic
    tree_faults d inside (Node f s parts) =
        own_faults d inside (role_of f) (count parts) ++ (if is_path (role_of f) then path_faults d inside parts else part_faults (role_of f) inside 0 parts)

    -- the faults of the segments of a path, to the first that means nothing
    pub path_faults : Due → Bool → Trees → List Diagnostic
    path_faults d inside Nil = []
    path_faults d inside (Cons x rest) = tree_faults (segment_due d rest) inside x ++ (if is_known (form x) then path_faults d inside rest else [])

    -- the faults of parts from an index on
    pub part_faults : Role → Bool → ℕ → Trees → List Diagnostic
    part_faults r inside index Nil = []
    part_faults r inside index (Cons x rest) = tree_faults (part_due r index (span x)) (is_part_inside r inside (form x)) x ++ part_faults r inside (suc index) rest

  -- the faults of the trees of a unit
  abbrev pub unit_faults : UnitTree → List Diagnostic
  unit_faults unit = part_faults role.Other false 0 (unit_trees unit)

  -- the same of several units
  abbrev pub all_unit_faults : List UnitTree → List Diagnostic
  all_unit_faults [] = []
  all_unit_faults (unit ∷ units) = unit_faults unit ++ all_unit_faults units

-- ---- faults of a module

-- a replacement that is not written, at the name of its module
abbrev pub implied_fault : Implied → List Diagnostic
implied_fault replaced = use_faults (due_by (Some (arity replaced.parameter)) replaced.at) replaced.at 0 (Some replaced.symbol)

-- the same of several
abbrev pub implied_faults : List Implied → List Diagnostic
implied_faults [] = []
implied_faults (replaced ∷ rest) = implied_fault replaced ++ implied_faults rest

-- the codes of a name that means nothing, and of a left side that is no parameter
abbrev pub is_unknown_code : ℕ → Bool
is_unknown_code code = nat_eq code 401 || nat_eq code 405

-- a fault of the name that begins here: it means nothing
abbrev pub says_unknown : ℕ → Diagnostic → Bool
says_unknown start fault = nat_eq start fault.span.start && is_unknown_code fault.code

-- one of these faults is of the name that begins here, which means nothing
abbrev pub is_unknown : List Diagnostic → ℕ → Bool
is_unknown faults start = list_any (says_unknown start) faults

-- a name that neither means a declaration nor is unknown is built in, and is as a declared constant
abbrev pub or_built_in : Option Entity → Bool → Option Entity
or_built_in (Some e) unknown = Some e
or_built_in None unknown = if unknown then None else Some (entity.Constant 0)

-- the entities that names are found to mean, under where the names begin
abbrev pub declared : List Finding → List (ℕ × Entity)
declared found = map (λ r. (r.«use».name.start, r.entity)) (resolved found)

-- what a name means that begins here, by what is found
abbrev pub meaning : List Finding → ℕ → Option Entity
meaning found start = or_built_in (lookup (nat_eq start) (declared found)) (is_unknown (name_faults found) start)

-- the faults of arity in these units, by what is found at their names: those of their trees, and then those of replacements that are not written
abbrev pub arity_faults : List Finding → List UnitTree → List Diagnostic
arity_faults found units = all_unit_faults (meaning found) units ++ implied_faults (implied found)
