-- What is found of names in a tree, by what is known round it.
use Rattle.std.specs.Prelude.{ℕ, suc, List, [], ◌∷◌, ◌++◌, is_some, if◌then◌else◌}
use Rattle.tla_symbols.specs.declared.lexeme.Lexeme.{Lexeme}
use Rattle.tla_tree.specs.declared.form.Form.TheVariants as Form
use Rattle.tla_tree.specs.Syntax.{Tree, Trees, Node, Nil, Cons}
use Rattle.tla_model.specs.Tables.{Named, is_among}
use Rattle.tla_model.specs.Entities.{Text, defined, name_of, place_in}
use Rattle.tla_model.specs.Contexts.{Context, bind_all, meaning_of}
use Rattle.tla_model.specs.Lexemes.{spelled}
use Rattle.tla_model.specs.Scopes.{Finding, all_refused, behind, binders, use_findings, has_set, inside, itself, prefixed, reserved, scope, symbol_findings}
use Rattle.module_model.specs.Exports.{Behind, Exports, Known, ModuleView, behind_meaning, entry_of, onward}
use Rattle.module_model.specs.Instances.{called_by, implied, left_sides, replaced_as}

-- the modules by their names, what stands behind instances, and where paths begin
pub record Surroundings : Type 0 where
  pub named : List ℕ → ModuleView
  pub known : Known
  pub paths : List ℕ

-- nothing stands there at any path
abbrev pub nowhere : Behind
nowhere path = []

module _ (text : Text) (around : Surroundings) where
  -- the parameters of the module of a name
  abbrev pub replaceable : Lexeme → Exports
  replaceable l = (around.named (spelled text.source l)).parameters

  -- paths are counted from 1, in the order of the text
  abbrev pub path_number : Lexeme → ℕ
  path_number l = suc (place_in around.paths l.span.start)

  abbrev mutual
    -- what is found in a tree, in the order of the text
    pub walk : Context → Tree → List Finding
    walk context (Node Form.Identifier s parts) = segments context parts
    walk context (Node (Form.Symbol l) s parts) = symbol_findings context itself l l.kind
    walk context (Node (Form.Prefix l) s parts) = symbol_findings context prefixed l l.kind ++ walk_each context parts
    walk context (Node (Form.Infix l) s parts) = walk_round context l parts
    walk context (Node (Form.Postfix l) s parts) = walk_each context parts ++ symbol_findings context itself l l.kind
    walk context (Node Form.Let s parts) = walk_chain context parts
    walk context (Node (Form.Instance l) s parts) = replaced context (replaceable l) [] parts ++ implied context l (left_sides text.source parts) (replaceable l)
    walk context (Node Form.SetImage s parts) =
        all_refused text context (binders Form.SetImage parts) ++ walk_rest (bind_all text context (binders Form.SetImage parts)) parts ++ walk_sets context parts
    walk context (Node form s parts) =
        all_refused text context (defined form parts)
        ++ walk_sets (reserved text context form parts) parts
        ++ all_refused text (inside text context form parts) (binders form parts)
        ++ walk_rest (scope text context form parts) parts

    -- the same of several trees
    pub walk_each : Context → Trees → List Finding
    walk_each context Nil = []
    walk_each context (Cons x rest) = walk context x ++ walk_each context rest

    -- a symbol behind the first of its operands
    pub walk_round : Context → Lexeme → Trees → List Finding
    walk_round context l Nil = symbol_findings context itself l l.kind
    walk_round context l (Cons x rest) = walk context x ++ symbol_findings context itself l l.kind ++ walk_each context rest

    -- each definition is in the context behind it
    pub walk_chain : Context → Trees → List Finding
    walk_chain context Nil = []
    walk_chain context (Cons x rest) = walk context x ++ walk_chain (behind text context x) rest

    -- the sets among the parts, and the others
    pub walk_sets : Context → Trees → List Finding
    walk_sets context Nil = []
    walk_sets context (Cons (Node form s parts) rest) = (if has_set form then walk context (Node form s parts) else []) ++ walk_sets context rest

    -- the parts that are no sets
    pub walk_rest : Context → Trees → List Finding
    walk_rest context Nil = []
    walk_rest context (Cons (Node form s parts) rest) = (if has_set form then [] else walk context (Node form s parts)) ++ walk_rest context rest

    -- each left side, and then what stands for it; those before it are known
    pub replaced : Context → Exports → List Named → Trees → List Finding
    replaced context parameters before Nil = []
    replaced context parameters before (Cons (Node (Form.Replacement l) s right) rest) =
        replaced_as l (is_among before (name_of text.source l)) (entry_of parameters (name_of text.source l)) ++ walk_each context right
        ++ replaced context parameters (name_of text.source l ∷ before) rest
    replaced context parameters before (Cons _ rest) = replaced context parameters before rest

    -- the first segment of a path, and those behind it, unless it means nothing
    pub segments : Context → Trees → List Finding
    segments context Nil = []
    segments context (Cons (Node (Form.Segment l) s arguments) rest) =
        use_findings l (meaning_of context (name_of text.source l)) ++ walk_each context arguments
        ++ (if is_some (meaning_of context (name_of text.source l)) then path context (path_number l) (behind_meaning around.known (meaning_of context (name_of text.source l))) rest else [])
    segments context (Cons _ rest) = []

    -- a further segment, by the number of its path and what stands behind the segment before it
    pub path : Context → ℕ → Behind → Trees → List Finding
    path context number held Nil = []
    path context number held (Cons (Node (Form.Segment l) s arguments) rest) =
        use_findings l (called_by number rest (entry_of (held []) (name_of text.source l))) ++ walk_each context arguments
        ++ (if is_some (entry_of (held []) (name_of text.source l)) then path context number (onward held (name_of text.source l)) rest else [])
    path context number held (Cons _ rest) = []
