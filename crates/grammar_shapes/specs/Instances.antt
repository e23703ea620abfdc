-- What is said of each module definition in a tree, by its name and by that of its module.
use Rattle.tla_symbols.specs.declared.lexeme.Lexeme.{Lexeme}
use Rattle.tla_tree.specs.declared.form.Form.TheVariants as Form
use Rattle.tla_tree.specs.Syntax.{Tree, Trees, Node, Nil, Cons}
use Rattle.tla_model.specs.Entities.{Defines, Module, defines}

module _ (holds : Lexeme → Lexeme → Type 0) where
  -- it holds of this name and of the module of an INSTANCE; of another form nothing is said
  abbrev pub HoldsOf : Lexeme → Form.the_data → Type 0
  HoldsOf own (Form.Instance l) = holds own l
  HoldsOf own form = Unit {0}

  -- the same of all INSTANCEs among these parts
  abbrev pub HoldsAmong : Lexeme → Trees → Type 0
  HoldsAmong own Nil = Unit {0}
  HoldsAmong own (Cons (Node form s parts) rest) = HoldsOf own form × HoldsAmong own rest

  -- the same of the parts of a module definition; of those of another form nothing is said
  abbrev pub HoldsIn : Defines → Trees → Type 0
  HoldsIn (Module own) parts = HoldsAmong own parts
  HoldsIn other parts = Unit {0}

  abbrev mutual
    -- it holds of each module definition in a tree
    pub HoldsThrough : Tree → Type 0
    HoldsThrough (Node form s parts) = HoldsIn (defines form) parts × HoldThrough parts

    -- the same of several trees
    pub HoldThrough : Trees → Type 0
    HoldThrough Nil = Unit {0}
    HoldThrough (Cons x rest) = HoldsThrough x × HoldThrough rest
