-- What a step knows of its node.
use Rattle.std.proofs.Common.{◌≡◌, ℕ, ◌+◌, ◌*◌, ◌<◌, ◌≤◌, List, Option, Some, refl, sym, ap, ◌∙◌, subst, map, length, get_or, arith}
use Rattle.std.specs.Prelude.{slice_get}
use Rattle.std.specs.List.{AllByRecursion}
use Rattle.tla_symbols.specs.declared.level.Kind.{Kind}
use Rattle.kind_text.specs.ExpandedKind.{Expanded, kind}
use Rattle.kind_text.specs.Substitution.{expression}
use Rattle.kind_text.specs.FlatModule.{FlatModule, Form, IsOrdered, UsesDefinition}
use Rattle.kind_text.specs.Expansion.{form_item, text}
use Rattle.kind_table.specs.declared.argument.Arg.{Arg}
use Rattle.kind_table.specs.declared.argument.Arg.TheVariants.{Value}
use Rattle.kind_table.specs.declared.flat.Form as table
use Rattle.kind_table.specs.declared.flat.Node as node
use Rattle.kind_table.specs.declared.flat.FlatModule as tables
use Rattle.kind_table.specs.Flattened.{first_node, flat_of, form_of}
use Rattle.kind_table.specs.Table.{AllWithin, Grows, meanings, picked}
use Rattle.kind_table.specs.Weights.{longest, node_cost, path_length, times}
use Rattle.kind_table.proofs.Firsts.{needed}
use Rattle.kind_table.proofs.Weighing.{times-most}
use Rattle.level_facts.specs.declared.facts.KindFacts.{KindFacts}
use Rattle.level_facts.specs.Facts.{IsFacts}
use Rattle.level_facts.specs.Judged.{Found, Picked, Steps, lower_cost_of}
use Rattle.level_facts.proofs.Finding.{Reads, closure_cost, path_most, reads, reads-below, value_found}
use Rattle.level_facts.proofs.Picking.{begins_later, found_parts}

pub record StepAt (t : tables.FlatModule) (old : List Arg) (start i : ℕ) (frame found ns : List ℕ) (n : node.Node) : Type 0 where
  pub ordered : IsOrdered (flat_of t)
  pub there : i < length t.nodes.items
  pub is : n ≡ get_or t.nodes.items i n
  pub later : start ≤ first_node (flat_of t) i
  pub finds : Found (flat_of t) old start i frame found
  pub numbers : ns ≡ map (picked start found) n.parts.items

-- what the code reads of it
pub step_at : (t : tables.FlatModule) (facts : KindFacts) (start i first : ℕ) (frame found firsts parts ns : List ℕ) (n : node.Node) → IsOrdered (flat_of t) → IsFacts (flat_of t) facts → i < length t.nodes.items → Found (flat_of t) facts.arguments.keys start i frame found → first ≡ get_or firsts i 0 → firsts ≡ facts.firsts.items → start ≤ first → n ≡ get_or t.nodes.items i n → ns ≡ map (picked start found) parts → parts ≡ n.parts.items → StepAt t facts.arguments.keys start i frame found ns n
step_at t facts start i first frame found firsts parts ns n ordered h l f e firsts_are s is ns_are parts_are =
    record {
      ordered = ordered;
      there = l;
      is = is;
      later = begins_later t facts start i first h l (e ∙ ap (λ x. get_or x i 0) firsts_are) s;
      finds = f;
      numbers = ns_are ∙ ap (map (picked start found)) parts_are;
    }

-- the same where its parts are read in place
pub step_here : (t : tables.FlatModule) (facts : KindFacts) (start i first : ℕ) (frame found firsts : List ℕ) (n : node.Node) → IsOrdered (flat_of t) → IsFacts (flat_of t) facts → i < length t.nodes.items → Found (flat_of t) facts.arguments.keys start i frame found → first ≡ get_or firsts i 0 → firsts ≡ facts.firsts.items → start ≤ first → n ≡ get_or t.nodes.items i n → StepAt t facts.arguments.keys start i frame found (map (picked start found) n.parts.items) n
step_here t facts start i first frame found firsts n ordered h l f e firsts_are s is =
    step_at t facts start i first frame found firsts n.parts.items (map (picked start found) n.parts.items) n ordered h l f e firsts_are s is refl refl

module _ {t : tables.FlatModule} {old : List Arg} {start i : ℕ} {frame found ns : List ℕ} {n : node.Node} (h : StepAt t old start i frame found ns n) (form : table.Form) (e : n.form ≡ form) where
  pub step_reads : Reads (flat_of t) i (form_of t.paths.items form) n.parts.items
  step_reads = reads t i n form h.there h.is e

  -- what was found of its parts
  pub step_parts : needed (form_of t.paths.items form) n.parts.items ≡ n.parts.items → Picked (flat_of t) old i n.parts.items frame ns
  step_parts all =
      let below = subst (AllByRecursion (λ part. part < i)) (sym all) (reads-below (flat_of t) h.ordered step_reads).0 in
      let p = found_parts (flat_of t) old start i frame found h.finds h.ordered (form_of t.paths.items form) n.parts.items step_reads h.later below in
      subst (λ x. Picked (flat_of t) old i n.parts.items frame x) (sym h.numbers) (subst (λ x. Picked (flat_of t) old i x frame (map (picked start found) x)) all p)

  -- an expression's kind is kept at m
  pub value_steps : {new : List Arg} (m : ℕ) (k : Option Kind) (x : Expanded) → AllWithin old frame → Grows old new → form_item (flat_of t) (text (flat_of t)) (form_of t.paths.items form) n.parts.items (meanings (flat_of t) old frame) ≡ expression x → k ≡ kind x → slice_get new m ≡ Some (Value k) → Steps (flat_of t) old new start i frame m
  value_steps {new} m k x w g is k_is at_m = record { grows = g; found = λ _. value_found (flat_of t) h.ordered step_reads frame m k x w g is k_is at_m }

-- the work of a definition behind a path
pub uses_light : (flat : FlatModule) {i : ℕ} {form : Form} {parts : List ℕ} (path : List ℕ) (d : ℕ) → Reads flat i form parts → path_length form ≡ length path → UsesDefinition flat i d → 2 * lower_cost_of flat i + times (length path) (lower_cost_of flat i) + 6 ≤ node_cost flat i
uses_light flat {i} path d r long u =
    let c = closure_cost flat i d u in let most = path_most flat r in
    let t = times-most (lower_cost_of flat i) (length path) (longest flat.nodes) (omega (arith, most, long)) in
    omega (arith, c.1, c.2, t)
