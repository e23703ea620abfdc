-- The depth of expressions and of definitions in a tree: how far uses lead down.
use Rattle.std.specs.Prelude.{ℕ, suc, ◌+◌, ◌++◌, Bool, true, false, List, [], ◌∷◌, Option, Some, None, if◌then◌else◌, is_some, map, max, nat_lt}
use Rattle.tla_symbols.specs.declared.lexeme.LexKind.TheVariants as LexKind
use Rattle.tla_symbols.specs.declared.lexeme.Lexeme.{Lexeme}
use Rattle.tla_symbols.specs.declared.op.Op.TheVariants as Op
use Rattle.tla_tree.specs.declared.form.Form.TheVariants as Form
use Rattle.tla_tree.specs.Syntax.{Tree, Trees, Node, Nil, Cons}
use Rattle.tla_model.specs.Tables.{Named, Symbol, is_among}
use Rattle.tla_model.specs.Entities.{Meaning, Text, meant, name_of}
use Rattle.tla_model.specs.Contexts.{Context, meaning_of}
use Rattle.tla_model.specs.Scopes.{behind, definition, has_set, is_free, itself as as_spelled, prefixed, reserved, scope}
use Rattle.module_model.specs.Exports.{Exports, Known, entry_of}
use Rattle.module_model.specs.Instances.{left_sides}
use Rattle.tree_kinds.specs.Standing.{Outside, Reached, name_among, same_standing}
use Rattle.tree_kinds.specs.Expanding.{module_of, places_at}

-- how deep what a name stands for is, at the names that follow it on a path
abbrev pub Depths : Type 0
Depths = Meaning → List Named → Reached

-- no definition: a symbol, a parameter, a bound name
abbrev pub no_depths : Depths
no_depths meaning path = record { depth = 0; replaced = 0 }

-- the same depth, and a replacement of this depth on the path
abbrev pub deeper : ℕ → Reached → Reached
deeper n reached = record { depth = reached.depth; replaced = max n reached.replaced }

-- what a use adds to the depth of an expression, with the greatest depth of the arguments that count
abbrev pub use_depth : Reached → ℕ → ℕ
use_depth reached arguments = reached.depth + max reached.replaced arguments

-- of what a name means, if it means something
abbrev pub reached_by : Depths → Option Meaning → List Named → Reached
reached_by depths None path = record { depth = 0; replaced = 0 }
reached_by depths (Some meaning) path = depths meaning path

-- at a path from entries
abbrev pub depths_along : Depths → Exports → List Named → Reached
depths_along depths entries [] = record { depth = 0; replaced = 0 }
depths_along depths entries (name ∷ path) = reached_by depths (entry_of entries name) path

-- one thing more
abbrev pub with_depth : Depths → List Meaning → (List Named → Reached) → Depths
with_depth depths [] reached other path = depths other path
with_depth depths (meaning ∷ rest) reached other path = if same_standing other meaning then reached path else with_depth depths rest reached other path

-- what comes from a module under this name there, or else this
abbrev pub coming_depth : (List Named → Reached) → Reached → Option Named → List Named → Reached
coming_depth from here None path = here
coming_depth from here (Some name) path = from (name ∷ path)

-- with the entries of a module
abbrev pub with_entry_depths : Depths → Exports → (List Named → Reached) → Depths
with_entry_depths depths entries from meaning path = coming_depth from (depths meaning path) (name_among entries meaning) path

-- what stands round an expression: its context, and the depths of what its names mean
pub record Beneath : Type 0 where
  pub context : Context
  pub depths : Depths

-- a name by itself
abbrev pub name_depth : Beneath → Named → ℕ
name_depth around name = use_depth (reached_by around.depths (meaning_of around.context name) []) 0

-- a symbol that is used; one that is built in has no depth
abbrev pub symbol_depth : Beneath → (Op.the_data → Op.the_data) → LexKind.the_data → ℕ
symbol_depth around which (LexKind.Sym op) = if is_free (which op) then name_depth around (Symbol (which op)) else 0
symbol_depth around which _ = 0

-- the use that a form is itself, but for a path
abbrev pub form_depth : Beneath → Form.the_data → ℕ
form_depth around (Form.Symbol l) = symbol_depth around as_spelled l.kind
form_depth around (Form.Prefix l) = symbol_depth around prefixed l.kind
form_depth around (Form.Infix l) = symbol_depth around as_spelled l.kind
form_depth around (Form.Postfix l) = symbol_depth around as_spelled l.kind
form_depth around form = 0

-- the names of a path
abbrev pub path_names : List ℕ → Trees → List Named
path_names source Nil = []
path_names source (Cons (Node (Form.Segment l) s arguments) rest) = name_of source l ∷ path_names source rest
path_names source (Cons x rest) = path_names source rest

-- what a path of names leads to
abbrev pub reached_at : Beneath → List Named → Reached
reached_at around [] = record { depth = 0; replaced = 0 }
reached_at around (name ∷ path) = reached_by around.depths (meaning_of around.context name) path

-- the greatest depth of the symbols that replace parameters which are not among the left sides
abbrev pub implied_depth : Beneath → List Named → Exports → ℕ
implied_depth around written [] = 0
implied_depth around written (parameter ∷ rest) =
    max (if is_among written parameter.0 then 0 else name_depth around parameter.0) (implied_depth around written rest)

-- deeper than a definition, an assumption or a theorem may be
abbrev pub is_too_deep : ℕ → Bool
is_too_deep n = nat_lt 1000 n

module _ (text : Text) (known : Known) (named : List ℕ → Outside) where
  -- round the parts of a form that stand outside of the scope of its names
  abbrev pub before_scope : Beneath → Form.the_data → Trees → Beneath
  before_scope around form parts = record around { context = reserved text around.context form parts }

  -- in the scope of a form's names
  abbrev pub in_scope : Beneath → Form.the_data → Trees → Beneath
  in_scope around form parts = record around { context = scope text around.context form parts }

  -- behind a definition of this depth
  abbrev pub behind_depth : Beneath → Tree → (List Named → Reached) → Beneath
  behind_depth around x reached = record { context = behind text around.context x; depths = with_depth around.depths (map (meant text) (definition x)) reached }

  -- a path behind an INSTANCE, by the greatest depth of its replacements; without a path, the depth of the module definition
  abbrev pub behind_module : Lexeme → ℕ → List Named → Reached
  behind_module l n [] = record { depth = suc n; replaced = 0 }
  behind_module l n (name ∷ path) = deeper n ((module_of text known named l).depths (name ∷ path))

  abbrev mutual
    -- the depth of an expression: the greatest depth of a use in it
    pub depth : Beneath → Tree → ℕ
    depth around (Node Form.Identifier s parts) =
        max (use_depth (reached_at around (path_names text.source parts)) (counted around parts)) (parts_depth around around parts)
    depth around (Node Form.Let s parts) = chain_depth around parts
    depth around (Node form s parts) = max (form_depth around form) (parts_depth (before_scope around form parts) (in_scope around form parts) parts)

    -- the greatest depth of parts, by what stands round those outside and those inside of a scope
    pub parts_depth : Beneath → Beneath → Trees → ℕ
    parts_depth outside around Nil = 0
    parts_depth outside around (Cons (Node form s parts) rest) =
        max (elim (has_set form) [ true ↦ parts_depth outside outside parts | false ↦ depth around (Node form s parts) ]) (parts_depth outside around rest)

    -- the definitions of a LET, used or not, and its body behind them
    pub chain_depth : Beneath → Trees → ℕ
    chain_depth around Nil = 0
    chain_depth around (Cons x rest) = max (depth around x) (chain_depth (behind_depth around x (defined_depth around x)) rest)

    -- of the arguments on a path those that count: all of its instances, and bare operators of its last name
    pub counted : Beneath → Trees → ℕ
    counted around Nil = 0
    counted around (Cons (Node form s arguments) Nil) = operators_depth around arguments
    counted around (Cons (Node form s arguments) (Cons x rest)) = max (parts_depth around around arguments) (counted around (Cons x rest))

    -- the greatest depth of the bare operators among arguments
    pub operators_depth : Beneath → Trees → ℕ
    operators_depth around Nil = 0
    operators_depth around (Cons x rest) = max (elim (is_some (places_at text known named around.context x)) [ true ↦ depth around x | false ↦ 0 ]) (operators_depth around rest)

    -- a definition is one deeper than its body, and a module definition one deeper than its replacements
    pub defined_depth : Beneath → Tree → List Named → Reached
    defined_depth around (Node (Form.ModuleDefinition l) s parts) path = through_depth (in_scope around (Form.ModuleDefinition l) parts) parts path
    defined_depth around (Node form s parts) path =
        record { depth = suc (parts_depth (before_scope around form parts) (in_scope around form parts) parts); replaced = 0 }

    -- behind the INSTANCE among these
    pub through_depth : Beneath → Trees → List Named → Reached
    through_depth around Nil path = record { depth = 0; replaced = 0 }
    through_depth around (Cons (Node (Form.Instance l) s parts) rest) path =
        behind_module l (max (parts_depth around around parts) (implied_depth around (left_sides text.source parts) (module_of text known named l).view.parameters)) path
    through_depth around (Cons x rest) path = through_depth around rest path

  -- the greatest depth of the replacements of an INSTANCE
  abbrev pub replaced_depth : Beneath → Tree → ℕ
  replaced_depth around (Node (Form.Instance l) s parts) =
      max (parts_depth around around parts) (implied_depth around (left_sides text.source parts) (module_of text known named l).view.parameters)
  replaced_depth around x = 0

  -- the name of a definition that is too deep
  abbrev pub deep_name : Beneath → Tree → List Lexeme
  deep_name around x = if is_too_deep (defined_depth around x []).depth then map (λ binder. binder.name) (definition x) else []

  abbrev mutual
    -- the names of definitions in a tree that are too deep
    pub deep_names : Beneath → Tree → List Lexeme
    deep_names around (Node Form.Let s parts) = deep_chain around parts
    deep_names around (Node form s parts) =
        deep_name around (Node form s parts) ++ deep_parts (before_scope around form parts) (in_scope around form parts) parts

    -- the same of parts
    pub deep_parts : Beneath → Beneath → Trees → List Lexeme
    deep_parts outside around Nil = []
    deep_parts outside around (Cons (Node form s parts) rest) = elim (has_set form) [
      | true ↦ deep_parts outside outside parts ++ deep_parts outside around rest
      | false ↦ deep_names around (Node form s parts) ++ deep_parts outside around rest
    ]

    -- the same of the definitions of a LET and its body
    pub deep_chain : Beneath → Trees → List Lexeme
    deep_chain around Nil = []
    deep_chain around (Cons x rest) = deep_names around x ++ deep_chain (behind_depth around x (defined_depth around x)) rest
