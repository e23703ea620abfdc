-- What the tasks of a walk find when they are done, the next one first.
use Rattle.std.specs.Prelude.{◌≡◌, ◌<◌, ◌≤◌, ◌+◌, ℕ, Option, List, [], ◌∷◌, ◌++◌, drop, map, length}
use Rattle.std.specs.List.{AllByRecursion}
use Rattle.tla_symbols.specs.declared.lexeme.Lexeme.{Lexeme}
use Rattle.tla_tree.specs.Arena.{Node, AreThere, node_at, tree_at}
use Rattle.tla_tree.specs.Syntax as Syntax
use Rattle.tla_tree.specs.Syntax.{Tree, Trees}
use Rattle.tla_model.specs.Contexts.{Context, bind, bind_all}
use Rattle.tla_model.specs.Entities.{Meaning, Text, name_of}
use Rattle.tla_model.specs.Lexemes.{LiesIn, all_lexemes, lexemes}
use Rattle.tla_model.specs.Scopes.{Finding, all_refused, itself, symbol_findings}
use Rattle.tla_model.specs.Scopes.{definition}
use Rattle.module_model.specs.Exports.{Behind, entry_of}
use Rattle.module_model.specs.Instances.{implied, left_sides, replaced_as}
use Rattle.module_model.specs.TreeFindings.{Surroundings, path, replaceable, walk}
use Rattle.tree_names.specs.FunctionNames.{function_name}
use Rattle.tree_tasks.specs.declared.held.Held.{Held}
use Rattle.tree_tasks.specs.declared.tasks.Task.TheVariants as task
use Rattle.name_context.specs.AsTables.{cut}
use Rattle.declared_names.specs.Nodes.{binders_at, parts_at}
use Rattle.tree_tasks.specs.WalkTasks.{Task}

-- what is found, and the context behind it
pub record Outcome : Type 0 where
  pub findings : List Finding
  pub context : Context

-- these findings, and then what an outcome has
abbrev pub emit : List Finding → Outcome → Outcome
emit findings outcome = record outcome { findings = findings ++ outcome.findings }

-- ---- what is due, done

-- the trees of nodes
abbrev pub trees_at : List Node → List ℕ → Trees
trees_at nodes numbers = Syntax.trees (map (tree_at nodes) numbers)

-- the children of a node from this one on
abbrev pub children_from : List Node → ℕ → ℕ → List ℕ
children_from nodes node from = drop from (node_at nodes node).children

module _ (text : Text) (nodes : List Node) where
  -- the node is there, and the names of its tree lie in the text
  pub record IsNode (node : ℕ) : Type 0 where
    pub there : node < length nodes
    pub lie : AllByRecursion (LiesIn text.source) (lexemes (tree_at nodes node))

  -- the segments of a path are there, and their names lie in the text
  pub record IsPath (segments : List ℕ) : Type 0 where
    pub there : AreThere nodes segments
    pub lie : AllByRecursion (LiesIn text.source) (all_lexemes (trees_at nodes segments))

  -- the node of a task is there, and its names lie in the text
  abbrev pub IsReady : Task → Type 0
  IsReady (task.Visit node) = IsNode node
  IsReady (task.Bind node) = IsNode node
  IsReady (task.Define node) = IsNode node
  IsReady (task.Function l) = LiesIn text.source l
  IsReady (task.Path node from number held) = (node < length nodes) × IsPath (children_from nodes node from)
  IsReady (task.Replace left l again) = LiesIn text.source left × LiesIn text.source l
  IsReady (task.Imply node l) = IsNode node × LiesIn text.source l
  IsReady _ = Unit {0}

  -- the same of all tasks
  abbrev pub AreReady : List Task → Type 0
  AreReady tasks = AllByRecursion IsReady tasks

  -- how much is due, for an end
  abbrev mutual
    pub size : Tree → ℕ
    size (Syntax.Node form s parts) = 6 + sizes parts

    -- the same of several trees
    pub sizes : Trees → ℕ
    sizes Syntax.Nil = 0
    sizes (Syntax.Cons x rest) = 1 + (size x + sizes rest)

  -- how much one task is: a visit as much as its tree, a path as much as its segments, any other task one
  abbrev pub size_of : Task → ℕ
  size_of (task.Visit node) = size (tree_at nodes node)
  size_of (task.Path node from number held) = 1 + sizes (trees_at nodes (children_from nodes node from))
  size_of _ = 1

  -- how much all tasks are together
  abbrev pub all_size : List Task → ℕ
  all_size [] = 0
  all_size (t ∷ tasks) = size_of t + all_size tasks

-- the parameter of a module that has the name of a left side
abbrev pub parameter_of : Text → Surroundings → Lexeme → Lexeme → Option Meaning
parameter_of text around left l = entry_of (replaceable text around l) (name_of text.source left)

-- over what is known round the tree, and what stands behind the places to which paths have come
module _ (text : Text) (around : Surroundings) (held : Held → Behind) (nodes : List Node) where
  -- what is due, done
  abbrev pub run : Context → List Task → Outcome
  run context [] = record { findings = []; context = context }
  run context (task.Visit node ∷ tasks) = emit (walk text around context (tree_at nodes node)) (run context tasks)
  run context (task.Symbol l ∷ tasks) = emit (symbol_findings context itself l l.kind) (run context tasks)
  run context (task.Path node from number place ∷ tasks) =
      emit (path text around context number (held place) (trees_at nodes (children_from nodes node from))) (run context tasks)
  run context (task.Replace left l again ∷ tasks) = emit (replaced_as left again (parameter_of text around left l)) (run context tasks)
  run context (task.Imply node l ∷ tasks) = emit (implied context l (left_sides text.source (parts_at nodes node)) (replaceable text around l)) (run context tasks)
  run context (task.Bind node ∷ tasks) = emit (all_refused text context (binders_at nodes node)) (run (bind_all text context (binders_at nodes node)) tasks)
  run context (task.Define node ∷ tasks) = run (bind_all text context (definition (tree_at nodes node))) tasks
  run context (task.Function l ∷ tasks) = run (bind text context (function_name l)) tasks
  run context (task.Leave mark ∷ tasks) = run (cut context mark) tasks

  -- what was due next is done, or due as its parts
  pub record IsDone (next : Task) (old_context new_context : Context) (old_findings new_findings : List Finding) (old new : List Task) : Type 0 where
    pub ready : AreReady text nodes new
    pub run_on : emit new_findings (run new_context new) ≡ emit old_findings (run old_context (next ∷ old))
    pub less : all_size text nodes new < size_of text nodes next + all_size text nodes old

  -- these segments of a path are found to be this, or due as their parts
  pub record AreFound (numbers : List ℕ) (due : List Finding) (context : Context) (old_findings new_findings : List Finding) (old new : List Task) : Type 0 where
    pub ready : AreReady text nodes old → AreReady text nodes new
    pub run_on : emit new_findings (run context new) ≡ emit old_findings (emit due (run context old))
    pub less : all_size text nodes new ≤ sizes text nodes (trees_at nodes numbers) + all_size text nodes old
