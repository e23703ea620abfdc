-- Nested modules: their own symbols stand at places behind those of the modules round them.
use Rattle.std.proofs.Common.{◌≡◌, ℕ, ◌+◌, ◌⊎◌, inl, inr, List, [], ◌++◌, refl, sym, subst, take, drop, length, arith}
use Rattle.std.proofs.lemmas.List.{length-take-le, take-append-drop}
use Rattle.tla_symbols.specs.declared.lexeme.Lexeme.{Lexeme}
use Rattle.unit_grammar.specs.Units.{ModuleBegin}
use Rattle.tla_model.specs.Entities.{Meaning, Text}
use Rattle.tla_model.specs.Lexemes.{spelled}
use Rattle.module_scope.specs.Environments.{begun}
use Rattle.kind_text.specs.FlatModule.{FlatModule}
use Rattle.kind_text.specs.Substitution.{Item}
use Rattle.tree_kinds.specs.Standing.{Environment, Outside, Value}
use Rattle.module_kinds.specs.ModuleKinds.{KindState, after}
use Rattle.flat_trees.specs.Stands.{AreStanding, IsStanding, Stand, Unsaid, Leaf, Place, Defined, Through, Brought}
use Rattle.flat_trees.specs.Layouts.{Layout, StandsBefore}
use Rattle.flat_trees.proofs.Agreeing.{all-grown, front-stand}
use Rattle.flat_kinds.specs.Readings.{AreExtensions, AreNew, Extension, KeepsState, nested_layout, or_stand, with_own}
use Rattle.flat_kinds.proofs.Units.{extensions-stand}

front-length : (n more : ℕ) (frame : List Item) → length frame ≡ n + more → length (take n frame) ≡ n
front-length n more frame room = length-take-le n frame (omega (arith, room))

module _ (flat : FlatModule) (symbols : Meaning → Stand) (layout : Layout) (state : KindState) (own : Meaning → Stand) (keeps : KeepsState flat symbols layout state) (new : AreNew symbols layout state own) where
  module _ (front back : List Item) (parameters : Environment) (room : length front ≡ layout.places) (stands : AreStanding flat (front ++ back) (with_own symbols own) parameters) where
    -- the symbols round a nested module, over the frame before its own
    front-symbols : AreStanding flat front symbols parameters
    front-symbols = front-stand flat front back symbols parameters (λ meaning. subst (λ n. StandsBefore n (symbols meaning)) (sym room) (new.before meaning)) (λ meaning. whole meaning (new.new meaning))
      where
        whole : (meaning : Meaning) → (own meaning ≡ Unsaid) ⊎ ((symbols meaning ≡ Unsaid) × ((parameters : Environment) → state.standing parameters meaning ≡ parameters meaning)) → IsStanding flat (front ++ back) [] (symbols meaning) (parameters meaning)
        whole meaning (inl none) = subst (λ stand. IsStanding flat (front ++ back) [] (or_stand stand (symbols meaning)) (parameters meaning)) none (stands meaning)
        whole meaning (inr (unsaid, passes)) = subst (λ stand. IsStanding flat (front ++ back) [] stand (parameters meaning)) (sym unsaid) tt

    -- by a symbol of its own, or else by what stands round it
    own-or : (stand there : Stand) (value : Value) → IsStanding flat (front ++ back) [] there value → IsStanding flat (front ++ back) [] (or_stand stand Unsaid) value → IsStanding flat (front ++ back) [] (or_stand stand there) value
    own-or Unsaid there value outer holds = outer
    own-or (Leaf kind) there value outer holds = holds
    own-or (Place place order) there value outer holds = holds
    own-or (Defined d orders) there value outer holds = holds
    own-or (Through j orders inner) there value outer holds = holds
    own-or (Brought j inner) there value outer holds = holds

    -- names inside of a nested module before what it extends
    inside-stands : AreStanding flat (front ++ back) (with_own layout.stands own) (state.standing parameters)
    inside-stands meaning = by_new (new.new meaning)
      where
        outer : IsStanding flat (front ++ back) [] (layout.stands meaning) (state.standing parameters meaning)
        outer = all-grown flat front back layout.stands (state.standing parameters) (keeps.standing front parameters room front-symbols) meaning

        by_new : (own meaning ≡ Unsaid) ⊎ ((symbols meaning ≡ Unsaid) × ((given : Environment) → state.standing given meaning ≡ given meaning)) → IsStanding flat (front ++ back) [] (or_stand (own meaning) (layout.stands meaning)) (state.standing parameters meaning)
        by_new (inl none) = subst (λ stand. IsStanding flat (front ++ back) [] (or_stand stand (layout.stands meaning)) (state.standing parameters meaning)) (sym none) outer
        by_new (inr (unsaid, passes)) =
            own-or (own meaning) (layout.stands meaning) (state.standing parameters meaning) outer
            (subst (λ value. IsStanding flat (front ++ back) [] (or_stand (own meaning) Unsaid) value) (sym (passes parameters))
            (subst (λ stand. IsStanding flat (front ++ back) [] (or_stand (own meaning) stand) (parameters meaning)) unsaid (stands meaning)))

  module _ (text : Text) (files : List ℕ → Outside) (words : List ℕ) where
    -- inside a nested module, behind what it extends
    pub nested-begins : (count : ℕ) (dashes name : Lexeme) (extends : List Lexeme) (extensions : List Extension) → AreExtensions text files words flat (nested_layout text files words state layout own count dashes name extends extensions) (with_own symbols own) (begun state.modules (spelled text.source name)) extends extensions → KeepsState flat (with_own symbols own) (nested_layout text files words state layout own count dashes name extends extensions) (after text files words state (ModuleBegin dashes name extends))
    nested-begins count dashes name extends extensions all =
        record {
          context = refl;
          olds = refl;
          standing =
              λ frame parameters room stands.
              let front = take layout.places frame in
              let back = drop layout.places frame in
              let whole : front ++ back ≡ frame = take-append-drop layout.places frame in
              let many : length front ≡ layout.places = front-length layout.places count frame room in
              let inside = subst (λ t. AreStanding flat t (with_own layout.stands own) (state.standing parameters)) whole
              (inside-stands front back parameters many (subst (λ t. AreStanding flat t (with_own symbols own) parameters) (sym whole) stands)) in
              extensions-stand flat text files words (nested_layout text files words state layout own count dashes name extends extensions) (with_own symbols own) (begun state.modules (spelled text.source name)) extends extensions (with_own layout.stands own) frame (state.standing parameters) parameters all room stands inside;
        }
