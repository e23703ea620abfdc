-- What is kept is right where more is defined.
use Rattle.std.proofs.Common.{Vec, Global, ◌≡◌, ℕ, suc, List, [], ◌∷◌, ◌++◌, Option, Some, None, refl, sym, ap, ◌∙◌, subst, map, arith}
use Rattle.std.specs.Prelude.{slice_get}
use mathlib.Core.Path.{fun_ext}
use Rattle.tla_symbols.specs.declared.level.Kind as level
use Rattle.order_rec.proofs.Order.{along-same}
use Rattle.kind_text.specs.ExpandedKind.{Given, kind}
use Rattle.kind_text.specs.Substitution.{Item, expression, expressions, operator}
use Rattle.kind_text.specs.FlatModule.{Extends, FlatModule, IsOrdered}
use Rattle.kind_text.specs.Expansion.{body, text, text_of}
use Rattle.kind_text.proofs.Unfolding.{text-kept}
use Rattle.kind_table.specs.declared.argument.Arg.{Arg}
use Rattle.kind_table.specs.declared.argument.Arg.TheVariants.{Value, Stays, BuiltIn, Operator}
use Rattle.kind_table.specs.Flattened.{GivesFirsts, IsFirsts}
use Rattle.kind_table.specs.Table.{arg_item, meaning, meanings}
use Rattle.kind_table.proofs.Firsts.{firsts-kept, keeps-longer}
use Rattle.level_facts.specs.declared.facts.Key.{Key}
use Rattle.level_facts.specs.declared.facts.KindFacts.{KindFacts}
use Rattle.level_facts.specs.Facts.{AddsFrames, HasBody, IsFacts, NameBodies, NamesBody, Remembers, frame_of}
use Rattle.level_facts.proofs.Keeping.{frames_on}

module _ (flat more : FlatModule) (extends : Extends flat more) (ordered : IsOrdered flat) where
  -- a definition whose body is there is the same
  body-kept : (d : ℕ) → HasBody flat d → body (text flat) (slice_get flat.definitions d) ≡ body (text more) (slice_get more.definitions d)
  body-kept d u =
      ap (body (text flat)) u.1 ∙ ap (λ x. λ (frame : ℕ → List Item). (x (frame u.0.outer)).text) (text-kept flat more extends ordered u.0.root u.2)
      ∙ sym (ap (body (text more)) (extends.definitions d u.0 u.1))

  body-there : (d : ℕ) → HasBody flat d → HasBody more d
  body-there d u = (u.0, extends.definitions d u.0 u.1, omega (arith, u.2, keeps-longer flat more extends))

  item-kept : (f : ℕ → Item) (o : Option Arg) → ((a : Arg) → o ≡ Some a → NamesBody flat a) → arg_item flat f o ≡ arg_item more f o
  item-kept f None h = refl
  item-kept f (Some (Value k)) h = refl
  item-kept f (Some (Stays r)) h = refl
  item-kept f (Some (BuiltIn r)) h = refl
  item-kept f (Some (Operator d ns)) h = ap operator (fun_ext (λ ts. ap (λ b. b (λ outer. map f ns.items ++ expressions ts)) (body-kept d (h (Operator d ns) refl))))

  meaning-kept : (table : List Arg) → NameBodies flat table → (i : ℕ) → meaning flat table i ≡ meaning more table i
  meaning-kept table h i =
      along-same (expression (Given None)) (λ j f. arg_item flat f (slice_get table j)) (λ j f. arg_item more f (slice_get table j)) (suc i)
      (λ j l f. item-kept f (slice_get table j) (h j)) i (omega arith)

  meanings-kept : (table : List Arg) → NameBodies flat table → (ns : List ℕ) → meanings flat table ns ≡ meanings more table ns
  meanings-kept table h [] = refl
  meanings-kept table h (n ∷ ns) = ap (λ x. x ∷ meanings flat table ns) (meaning-kept table h n) ∙ ap (λ xs. meaning more table n ∷ xs) (meanings-kept table h ns)

  remembers-kept : (table : List Arg) (frames : List (Vec ℕ Global)) → NameBodies flat table → (es : List (Key × Option level.Kind)) → Remembers flat table frames es → Remembers more table frames es
  remembers-kept table frames h [] all = tt
  remembers-kept table frames h (e ∷ es) all = (
    record {
      there = body-there e.0.definition all.0.there;
      stored = all.0.stored;
      within = all.0.within;
      value = all.0.value ∙ ap (λ s. kind (text_of flat e.0.definition s)) (meanings-kept table h (frame_of frames e.0.frame))
          ∙ ap (λ b. kind (b (λ outer. meanings more table (frame_of frames e.0.frame)))) (body-kept e.0.definition all.0.there);
    },
    remembers-kept table frames h es all.1,
  )

  names-kept : (a : Arg) → NamesBody flat a → NamesBody more a
  names-kept (Value k) h = tt
  names-kept (Stays r) h = tt
  names-kept (BuiltIn r) h = tt
  names-kept (Operator d ns) h = body-there d h

  -- all that is kept, with the first nodes of what was added
  pub extended : (facts new : KindFacts) → IsFacts flat facts → new.arguments.keys ≡ facts.arguments.keys → new.frames.keys ≡ facts.frames.keys → new.kept.entries ≡ facts.kept.entries → GivesFirsts more facts.firsts.items new.firsts.items → IsFacts more new
  extended facts new h args frames kept firsts =
      let f = firsts-kept flat more facts.firsts.items extends h.firsts in record {
        firsts = firsts f.0 f.1;
        table = subst (λ t. Rattle.kind_table.specs.Table.IsTable t) (sym args) h.table;
        bodies = subst (NameBodies more) (sym args) (λ i a e. names-kept a (h.bodies i a e));
        kept = subst (λ t. Remembers more t new.frames.keys new.kept.entries) (sym args) (subst (λ fs. Remembers more facts.arguments.keys fs new.kept.entries) (sym frames) (subst (Remembers more facts.arguments.keys facts.frames.keys) (sym kept) (remembers-kept facts.arguments.keys facts.frames.keys h.bodies facts.kept.entries h.kept)));
      }

-- and where nothing was added
pub facts_stay : (flat : FlatModule) (facts new : KindFacts) → IsFacts flat facts → new.arguments.keys ≡ facts.arguments.keys → new.frames.keys ≡ facts.frames.keys → new.kept.entries ≡ facts.kept.entries → new.firsts.items ≡ facts.firsts.items → IsFacts flat new
facts_stay flat facts new h args frames kept firsts = record {
  firsts = subst (IsFirsts flat) (sym firsts) h.firsts;
  table = subst (λ t. Rattle.kind_table.specs.Table.IsTable t) (sym args) h.table;
  bodies = subst (NameBodies flat) (sym args) h.bodies;
  kept = subst (λ t. Remembers flat t new.frames.keys new.kept.entries) (sym args) (subst (λ fs. Remembers flat facts.arguments.keys fs new.kept.entries) (sym frames) (subst (Remembers flat facts.arguments.keys facts.frames.keys) (sym kept) h.kept));
}

-- and where frames were added alone
pub frames_added : (flat : FlatModule) (facts new : KindFacts) → IsFacts flat facts → new.arguments.keys ≡ facts.arguments.keys → new.kept.entries ≡ facts.kept.entries → new.firsts.items ≡ facts.firsts.items → AddsFrames facts.frames.keys new.frames.keys → IsFacts flat new
frames_added flat facts new h args kept firsts adds = record {
  firsts = subst (IsFirsts flat) (sym firsts) h.firsts;
  table = subst (λ t. Rattle.kind_table.specs.Table.IsTable t) (sym args) h.table;
  bodies = subst (NameBodies flat) (sym args) h.bodies;
  kept = subst (λ t. Remembers flat t new.frames.keys new.kept.entries) (sym args) (subst (Remembers flat facts.arguments.keys new.frames.keys) (sym kept) (frames_on flat facts.arguments.keys facts.frames.keys new.frames.keys adds facts.kept.entries h.kept));
}
