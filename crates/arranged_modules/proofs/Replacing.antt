-- An INSTANCE of a module without parameters replaces none, so that nothing deep is put in.
use Rattle.std.proofs.Common.{◌≡◌, ℕ, List, [], ◌∷◌, Option, refl, ap, subst}
use Rattle.std.specs.Prelude.{max}
use Rattle.tla_symbols.specs.declared.lexeme.Lexeme.{Lexeme}
use Rattle.tla_symbols.specs.declared.lexeme.Span.{Span}
use Rattle.tla_tree.specs.declared.form.Form.TheVariants as Form
use Rattle.tla_tree.specs.Syntax.{Tree, Trees, Node, Nil, Cons}
use Rattle.tla_model.specs.Contexts.{Context}
use Rattle.tla_model.specs.Entities.{Meaning, Text}
use Rattle.tla_model.specs.Lexemes.{spelled}
use Rattle.module_model.specs.Exports.{Exports, Known}
use Rattle.tree_kinds.specs.Standing.{Outside}
use Rattle.tree_kinds.specs.TreeDepths.{Beneath, implied_depth, replaced_depth}
use Rattle.flattened_trees.specs.Leads.{FlatFace}
use Rattle.flattened_trees.specs.Readable.{AreReadableRights, IsReadableThrough}

module _ (text : Text) (known : Known) (named : List ℕ → Outside) (means : ℕ → Option Meaning) (implied : ℕ → List Meaning) (faces : List ℕ → FlatFace) where
  -- right sides that can be read stand for parameters
  no-rights : (context : Context) (rights : Trees) → AreReadableRights text known named means implied faces context [] [] rights → rights ≡ Nil
  no-rights context Nil are = refl
  no-rights context (Cons (Node (Form.Replacement l) s (Cons (Node form at parts) Nil)) rest) are = absurd (cc are.2)
  no-rights context (Cons (Node (Form.Replacement l) s Nil) rest) are = absurd are
  no-rights context (Cons (Node (Form.Replacement l) s (Cons x (Cons y ys))) rest) are = absurd are
  no-rights context (Cons (Node form s parts) rest) are = absurd are

  -- so the INSTANCE puts in nothing
  pub unreplaced : (around : Beneath) (context : Context) (l : Lexeme) (at : Span) (rights : Trees) → (named (spelled text.source l)).view.parameters ≡ []
      → IsReadableThrough text known named means implied faces context (Cons (Node (Form.Instance l) at rights) Nil) → replaced_depth text known named around (Node (Form.Instance l) at rights) ≡ 0
  unreplaced around context l at rights none readable =
      by rights (no-rights context rights (subst (λ (ps : Exports). AreReadableRights text known named means implied faces context ps [] rights) none readable.2))
    where
      by : (xs : Trees) → xs ≡ Nil → replaced_depth text known named around (Node (Form.Instance l) at xs) ≡ 0
      by Nil same = ap (λ (ps : Exports). max 0 (implied_depth around [] ps)) none
      by (Cons x rest) same = cc same
