-- What holds of all names of modules holds of all module definitions in a tree.
use Rattle.tla_symbols.specs.declared.lexeme.Lexeme.{Lexeme}
use Rattle.tla_tree.specs.declared.form.Form.TheVariants as Form
use Rattle.tla_tree.specs.Syntax.{Tree, Trees, Node, Nil, Cons}
use Rattle.tla_model.specs.Entities.{Defines, Module, defines}
use Rattle.given_modules.specs.Passed.{HoldThrough, HoldsAmong, HoldsIn, HoldsOf, HoldsThrough}

module _ (holds : Lexeme → Lexeme → Type 0) (each : (own l : Lexeme) → holds own l) where
  pub form-holds : (own : Lexeme) (form : Form.the_data) → HoldsOf holds own form
  form-holds own (Form.Instance l) = each own l
  form-holds own _ = tt

  pub among-holds : (own : Lexeme) (xs : Trees) → HoldsAmong holds own xs
  among-holds own Nil = tt
  among-holds own (Cons (Node form s parts) rest) = (form-holds own form, among-holds own rest)

  pub parts-hold : (what : Defines) (xs : Trees) → HoldsIn holds what xs
  parts-hold (Module own) xs = among-holds own xs
  parts-hold _ xs = tt

  abbrev mutual
    -- through a tree
    pub tree-holds : (x : Tree) → HoldsThrough holds x
    tree-holds (Node form s parts) = (parts-hold (defines form) parts, trees-hold parts)

    pub trees-hold : (xs : Trees) → HoldThrough holds xs
    trees-hold Nil = tt
    trees-hold (Cons x rest) = (tree-holds x, trees-hold rest)
