-- The names of definitions that are too deep are lexemes of their tree.
use Rattle.std.proofs.Common.{ℕ, Bool, true, false, List, [], ◌∷◌, ◌++◌, map}
use Rattle.std.specs.List.{AllByRecursion}
use Rattle.list_laws.proofs.Lists.{all-both, all-either, all-left, all-right}
use Rattle.tla_symbols.specs.declared.lexeme.Lexeme.{Lexeme}
use Rattle.tla_tree.specs.declared.form.Form.TheVariants as Form
use Rattle.tla_tree.specs.Syntax.{Tree, Trees, Node, Nil, Cons}
use Rattle.tla_model.specs.declared.names.Binder.{Binder}
use Rattle.tla_model.specs.Entities.{Text, defined}
use Rattle.tla_model.specs.Lexemes.{all_lexemes, form_lexemes, lexemes}
use Rattle.tla_model.specs.Scopes.{definition, has_set}
use Rattle.tla_model.proofs.Holding.{Binds, defined-at}
use Rattle.module_model.specs.Exports.{Known}
use Rattle.tree_kinds.specs.Standing.{Outside}
use Rattle.tree_kinds.specs.TreeDepths.{Beneath, before_scope, behind_depth, deep_chain, deep_name, deep_names, deep_parts, defined_depth, in_scope, is_too_deep}

module _ (P : Lexeme → Type 0) where
  abbrev Hold : List Lexeme → Type 0
  Hold ls = AllByRecursion P ls

  names-held : (binders : List Binder) → AllByRecursion (Binds P) binders → Hold (map (λ binder. binder.name) binders)
  names-held [] all = tt
  names-held (binder ∷ rest) all = (all.0, names-held rest all.1)

  definition-held : (x : Tree) → Hold (lexemes x) → Hold (map (λ binder. binder.name) (definition x))
  definition-held (Node form s parts) held = names-held (defined form parts) (defined-at P form parts (all-left P (form_lexemes form) (all_lexemes parts) held))

  chosen : (b : Bool) (xs ys : List Lexeme) → Hold xs → Hold ys → Hold (elim b [ true ↦ xs | false ↦ ys ])
  chosen true xs ys one other = one
  chosen false xs ys one other = other

  module _ (text : Text) (known : Known) (named : List ℕ → Outside) where
    name-deep : (around : Beneath) (x : Tree) → Hold (lexemes x) → Hold (deep_name text known named around x)
    name-deep around x held = all-either P (is_too_deep (defined_depth text known named around x []).depth) (map (λ binder. binder.name) (definition x)) [] (definition-held x held) tt

    mutual
      pub tree-deep : (around : Beneath) (x : Tree) → Hold (lexemes x) → Hold (deep_names text known named around x)
      tree-deep around (Node Form.Let s parts) held = chain-deep around parts held
      tree-deep around (Node form s parts) held =
          let before : Beneath = before_scope text known named around form parts in
          let inside : Beneath = in_scope text known named around form parts in
          all-both P (deep_name text known named around (Node form s parts)) (deep_parts text known named before inside parts) (name-deep around (Node form s parts) held)
          (parts-deep before inside parts (all-right P (form_lexemes form) (all_lexemes parts) held))

      parts-deep : (outside around : Beneath) (parts : Trees) → Hold (all_lexemes parts) → Hold (deep_parts text known named outside around parts)
      parts-deep outside around Nil held = tt
      parts-deep outside around (Cons (Node form s parts) rest) held =
          let here : Hold (form_lexemes form ++ all_lexemes parts) = all-left P (form_lexemes form ++ all_lexemes parts) (all_lexemes rest) held in
          let later : Hold (deep_parts text known named outside around rest) = parts-deep outside around rest (all-right P (form_lexemes form ++ all_lexemes parts) (all_lexemes rest) held) in
          chosen (has_set form) (deep_parts text known named outside outside parts ++ deep_parts text known named outside around rest) (deep_names text known named around (Node form s parts) ++ deep_parts text known named outside around rest)
          (all-both P (deep_parts text known named outside outside parts) (deep_parts text known named outside around rest) (parts-deep outside outside parts (all-right P (form_lexemes form) (all_lexemes parts) here)) later)
          (all-both P (deep_names text known named around (Node form s parts)) (deep_parts text known named outside around rest) (tree-deep around (Node form s parts) here) later)

      chain-deep : (around : Beneath) (parts : Trees) → Hold (all_lexemes parts) → Hold (deep_chain text known named around parts)
      chain-deep around Nil held = tt
      chain-deep around (Cons x rest) held =
          let behind : Beneath = behind_depth text known named around x (defined_depth text known named around x) in
          all-both P (deep_names text known named around x) (deep_chain text known named behind rest) (tree-deep around x (all-left P (lexemes x) (all_lexemes rest) held))
          (chain-deep behind rest (all-right P (lexemes x) (all_lexemes rest) held))
