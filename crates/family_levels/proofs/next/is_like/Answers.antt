use Rattle.std.proofs.Common.{◌≡◌, ◌≤◌, ◌∙◌, ℕ, List, Option, Some, sym, ap, subst, arith, length}
use Rattle.std.proofs.lemmas.List.{length-map}
use Rattle.std.specs.Arc.{arc_value}
use Rattle.kind_text.specs.FlatModule.{FlatModule}
use Rattle.kind_table.specs.Flattened.{flat_of, node_of}
use Rattle.kind_table.specs.declared.flat.FlatModule.{FlatModule as Tables}
use Rattle.written_trees.specs.Leading.{face_in}
use Rattle.face_views.specs.Same.{IsSameFace}
use Rattle.tree_numbers.specs.Numbered.{IsNumbered}
use Rattle.family_tables.specs.Agreement.{accepted_face}
use Rattle.family_levels.specs.Leveling.{faces_of}
use Rattle.family_levels.proofs.Keeping.{face-kept}
use Rattle.family_levels.proofs.next.is_like.Goals as goal

pub returns-clause-like : goal.returns-clause-like
returns-clause-like c same =
    let known = c.args.known.now in
    let flat : FlatModule = known.tables.state.flat in
    let was : ℕ = c.in-Accepted-Some.was in
    let number : ℕ = c.in-Accepted-Some-2.number in
    let told = c.as_slice.ensures.told flat (subst (λ f. IsNumbered f c.extend.new.self) c.as_flat.ensures.tables c.in_ok-extend.ensures.numbered) in
    let alike = c.in_ok-same.ensures.same same told in
    let within = c.requires.kept.between.within.faces in
    record {
      face = arc_value c.in-Accepted-Some-2.face;
      before = arc_value c.in-Accepted-Some.before;
      number = number;
      was = was;
      face_is = ap (λ o. accepted_face (Some o)) c.in-Accepted-Some-2.is-0;
      before_is = ap (λ o. accepted_face (Some o)) c.in-Accepted-Some.is-0;
      number_is = c.in-Accepted-Some-2.is-1;
      was_is = c.in-Accepted-Some.is-1;
      same = subst (IsSameFace (arc_value c.in-Accepted-Some.before)) c.deref-2.ensures (subst (λ f. IsSameFace f c.deref-2.result.now) c.deref.ensures c.if-not-are_same.ensures);
      alike = λ more extends.
          sym (face-kept c.trees_are_kept.ensures flat more extends c.requires.kept.ordered (faces_of known was) (within was))
          ∙ (alike ∙ face-kept c.trees_are_kept.ensures flat more extends c.requires.kept.ordered (faces_of known number) (within number));
    }

number-some : (a b : ℕ) → ◌≡◌ {A = Option ℕ} (Some a) (Some b) → a ≡ b
number-some a b e = cc

-- as many nodes as the tables of a flat module have
node-count : (tables : Tables) → length (flat_of tables).nodes ≡ length tables.nodes.items
unfolding flat_of
node-count tables = length-map tables.nodes.items (node_of tables.paths.items)

pub returns-clause-found : goal.returns-clause-found
returns-clause-found c so =
    let known = c.args.known.now in
    let flat : FlatModule = known.tables.state.flat in
    let was : ℕ = c.in-Accepted-Some.was in
    let number : ℕ = c.in-Accepted-Some-2.number in
    let numbered = subst (λ f. IsNumbered f c.extend.new.self) c.as_flat.ensures.tables c.in_ok-extend.ensures.numbered in
    let nodes : length flat.nodes ≡ length c.as_flat.result.now.nodes.items = ap (λ (f : FlatModule). length f.nodes) (sym c.as_flat.ensures.tables) ∙ node-count c.as_flat.result.now in
    let numbers : length c.as_slice.result.now ≡ length c.extend.new.self.nodes.items = ap (λ (ns : List ℕ). length ns) c.as_slice.ensures.numbers in
    let all = c.in_ok-extend.ensures.all in
    let within = c.requires.kept.between.within.faces in
    let is_was : so.was ≡ was = number-some so.was was (sym so.was_is ∙ c.in-Accepted-Some.is-1) in
    let is_number : so.number ≡ number = number-some so.number number (sym so.number_is ∙ c.in-Accepted-Some-2.is-1) in
    let trees = (λ i. face_in flat (faces_of known (sym is_was i))) ∙ (so.trees ∙ (λ i. face_in flat (faces_of known (is_number i)))) in
    c.in_ok-same.ensures.found (record { all = omega (arith, nodes, numbers, all); trees = c.as_slice.ensures.trees flat numbered }) (within was) (within number) trees
