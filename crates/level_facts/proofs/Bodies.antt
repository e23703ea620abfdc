-- Definitions whose bodies are there.
use Rattle.std.proofs.Common.{◌≡◌, ℕ, ◌<◌, ◌≤◌, List, Option, Some, None, MatchOption, sym, ap, ◌∙◌, subst, length}
use Rattle.std.specs.Prelude.{slice_get}
use Rattle.std.proofs.lemmas.Option.{slice_get_past}
use Rattle.order_rec.specs.Earlier.{before}
use Rattle.order_rec.proofs.Order.{along-step}
use Rattle.kind_text.specs.ExpandedKind.{Given}
use Rattle.kind_text.specs.Substitution.{Item, expression}
use Rattle.kind_text.specs.FlatModule.{FlatModule}
use Rattle.kind_text.specs.Expansion.{body, node_item, nothing, text}
use Rattle.kind_table.specs.declared.flat.Definition as definition
use Rattle.kind_table.specs.Flattened.{definition_of}
use Rattle.level_facts.specs.Facts.{HasNoBody, IsBody}

-- nothing stands at a number past the nodes
nothing-there : (flat : FlatModule) (i : ℕ) (s : List Item) → length flat.nodes ≤ i → text flat i s ≡ expression (Given None)
nothing-there flat i s l =
    ap (λ (x : List Item → Item). x s) (along-step nothing (λ j f. node_item flat f (slice_get flat.nodes j)) i ∙ ap (node_item flat (before nothing (text flat) i)) (slice_get_past flat.nodes i l))

module _ (flat : FlatModule) (d : ℕ) where
  -- a definition that is not there has no body
  pub no_definition : slice_get flat.definitions d ≡ None → HasNoBody flat d
  no_definition none frame = ap (λ o. body (text flat) o frame) none

  no-root : (x : definition.Definition) → slice_get flat.definitions d ≡ Some (definition_of x) → length flat.nodes ≤ x.root → HasNoBody flat d
  no-root x at_d l frame = ap (λ o. body (text flat) o frame) at_d ∙ ap (λ (y : Item). y.text) (nothing-there flat x.root (frame x.outer) l)

  -- and one that is there has the body that is found
  pub body_found : (o : Option definition.Definition) (x : definition.Definition) → slice_get flat.definitions d ≡ Some (definition_of x) → MatchOption o (length flat.nodes ≤ x.root) (λ y. (y ≡ x) × (x.root < length flat.nodes)) → MatchOption o (HasNoBody flat d) (IsBody flat d)
  body_found None x at_d h = no-root x at_d h
  body_found (Some y) x at_d h = record { here = at_d ∙ ap (λ z. Some (definition_of z)) (sym h.0); root = subst (λ z. z.root < length flat.nodes) (sym h.0) h.1 }
