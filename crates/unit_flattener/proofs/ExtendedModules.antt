-- Modules that are extended, one after another.
use Rattle.std.proofs.Common.{◌≡◌, ℕ, ◌+◌, ◌<◌, false, List, [], ◌∷◌, ◌++◌, Some, None, refl, sym, ap, subst, ◌∙◌, append_assoc, get_or, length, map, take}
use Rattle.std.specs.Prelude.{slice_get}
use Rattle.std.specs.List.{AllByRecursion}
use Rattle.std.proofs.lemmas.List.{append-nil, map-append, take_more}
use Rattle.list_laws.proofs.Lists.{all-both, all-weaker, at-end}
use Rattle.tla_model.specs.Tables.{Named}
use Rattle.tla_model.specs.Entities.{Meaning}
use Rattle.module_model.specs.Exports.{Exports}
use Rattle.tree_names.specs.Parameters.{entries_in, entry_in}
use Rattle.tree_names.specs.declared.parameter.Parameter.{Parameter}
use Rattle.kind_text.specs.FlatModule as flat
use Rattle.kind_text.specs.FlatModule.{Extends, FlatModule}
use Rattle.kind_table.specs.declared.flat.Replacement.{Replacement}
use Rattle.kind_table.specs.Flattened.{replacement_of}
use Rattle.flat_builder.specs.Building.{with_instance}
use Rattle.tree_kinds.specs.Standing.{operator_places}
use Rattle.flattened_trees.specs.Leads.{FlatFace, Leads, Setting}
use Rattle.flattened_trees.specs.NodeForms.{name_node}
use Rattle.flattened_trees.specs.Flattened.{HasNode}
use Rattle.flattened_units.specs.Units.{AreShared}
use Rattle.tree_flattener.specs.declared.state.Flattening.{Flattening}
use Rattle.tree_flattener.specs.Replacing.{AreStayed, replacements_of}
use Rattle.tree_flattener.specs.Steps.{Adds}
use Rattle.tree_flattener.proofs.Stepping.{added-node, added-there, adds-steps, extends-on, keeps-append, keeps-itself, keeps-same, steps-none, steps-on, steps-same}
use Rattle.tree_flattener.proofs.Within.{below-on}
use Rattle.unit_flattener.specs.Walked.{IsExtended, IsShared}

roots-on : (a b : FlatModule) → Extends a b → (rs : List Replacement) → AllByRecursion (λ r. r.root < length a.nodes) rs → AllByRecursion (λ r. r.root < length b.nodes) rs
roots-on a b extends rs all = all-weaker (λ r. r.root < length a.nodes) (λ r. r.root < length b.nodes) (λ r. below-on a b extends r.root) rs all

-- ---- symbols that are replaced by those here

sharing-more : (m : FlatModule) (leads : Leads) (parameters : Exports) (entry : Named × Meaning) (made : List flat.Replacement) (r : flat.Replacement)
    → AreShared m leads parameters made → HasNode m r.root (name_node (operator_places (Some entry.1)) (leads entry.1 []) []) → r.most ≡ None → AreShared m leads (parameters ++ entry ∷ []) (made ++ r ∷ [])
sharing-more m leads [] entry [] r are node most = (node, most, tt)
sharing-more m leads [] entry (x ∷ made) r are node most = absurd are
sharing-more m leads (parameter ∷ parameters) entry [] r are node most = absurd are
sharing-more m leads (parameter ∷ parameters) entry (x ∷ made) r are node most = (are.0, are.1, sharing-more m leads parameters entry made r are.2 node most)

-- none is, as yet
pub shared-none : (s : Flattening) (leads : Leads) (before : List Replacement) → IsShared s s leads [] before before
shared-none s leads before = record { steps = steps-none s; locals = refl; made = []; is = sym (append-nil before); there = tt; holds = λ more extends. tt }

-- one more is
pub shared-on : (s t u : Flattening) (leads : Leads) (parameters : Exports) (entry : Named × Meaning) (root : ℕ) (before mid after : List Replacement) → IsShared s t leads parameters before mid
    → Adds t u (name_node (operator_places (Some entry.1)) (leads entry.1 []) []) root → after ≡ mid ++ record { root = root; most = None } ∷ [] → IsShared s u leads (parameters ++ entry ∷ []) before after
shared-on s t u leads parameters entry root before mid after shared adds pushed =
    let x : Replacement = record { root = root; most = None } in
    let node = name_node (operator_places (Some entry.1)) (leads entry.1 []) [] in
    let step = adds-steps t u node root adds in
    record {
      steps = steps-on s t u [] [] shared.steps step;
      locals = adds.locals ∙ shared.locals;
      made = shared.made ++ x ∷ [];
      is = pushed ∙ ap (λ z. z ++ x ∷ []) shared.is ∙ append_assoc before shared.made (x ∷ []);
      there = all-both (λ y. y.root < length u.flat.nodes) shared.made (x ∷ []) (roots-on t.flat u.flat step.extends shared.made shared.there) (added-there t u node root adds, tt);
      holds = λ more extends.
          subst (AreShared more leads (parameters ++ entry ∷ [])) (sym (map-append replacement_of shared.made (x ∷ [])))
          (sharing-more more leads parameters entry (replacements_of shared.made) (replacement_of x) (shared.holds more (extends-on t.flat u.flat more step.extends extends)) (added-node t u node root adds more extends) refl);
    }

-- the next of some parameters is
pub shared-next : (s t u : Flattening) (leads : Leads) (parameters : List Parameter) (i : ℕ) (parameter : Parameter) (root : ℕ) (before mid after : List Replacement) → i < length parameters → parameter ≡ get_or parameters i parameter
    → IsShared s t leads (entries_in (take i parameters)) before mid
    → Adds t u (name_node (operator_places (Some parameter.meaning)) (leads parameter.meaning []) []) root → after ≡ mid ++ record { root = root; most = None } ∷ []
    → IsShared s u leads (entries_in (take (i + 1) parameters)) before after
shared-next s t u leads parameters i parameter root before mid after there is shared adds pushed =
    let more : take (i + 1) parameters ≡ take i parameters ++ parameter ∷ [] = take_more parameters i parameter there ∙ ap (λ z. take i parameters ++ z ∷ []) (sym is) in
    subst (λ entries. IsShared s u leads entries before after) (sym (ap entries_in more ∙ map-append entry_in (take i parameters) (parameter ∷ [])))
    (shared-on s t u leads (entries_in (take i parameters)) (entry_in parameter) root before mid after shared adds pushed)

-- ---- an instance through which a module comes

-- it lets symbols stand that stay, and replaces the others by those here
pub extension-made : (s0 s1 s2 s3 : Flattening) (setting : Setting) (face : FlatFace) (outer j : ℕ) (start mid made : List Replacement)
    → start ≡ []
    → AreStayed s0 s1 face.outer start mid
    → IsShared s1 s2 setting.leads face.parameters mid made
    → outer ≡ length setting.frame
    → s3.flat ≡ with_instance s2.flat (record { outer = outer; parameters = 0; guards = false; replacements = map replacement_of made }) → j ≡ length s2.flat.instances
    → s3.locals.items ≡ s2.locals.items → s3.frames.items ≡ s2.frames.items → s3.asked.items ≡ s2.asked.items
    → IsExtended s0 s3 setting face j
extension-made s0 s1 s2 s3 setting face outer j start mid made none stayed shared wide flat_is number locals frames questions =
    let instance : flat.Instance = record { outer = outer; parameters = 0; guards = false; replacements = map replacement_of made } in
    let extends = subst (Extends s2.flat) (sym flat_is) (record { nodes = keeps-itself s2.flat.nodes; definitions = keeps-itself s2.flat.definitions; instances = keeps-append s2.flat.instances (instance ∷ []) }) in
    let last = steps-same s2 s3 extends (keeps-same s2.frames.items s3.frames.items frames) questions in
    let is_there = subst (λ (z : FlatModule). slice_get z.instances j ≡ Some instance) (sym flat_is) (ap (slice_get (s2.flat.instances ++ instance ∷ [])) number ∙ at-end s2.flat.instances instance) in
    let made_is : made ≡ stayed.staying ++ shared.made = shared.is ∙ ap (λ z. z ++ shared.made) (stayed.is ∙ ap (λ z. z ++ stayed.staying) none) in
    let roots = all-both (λ (r : Replacement). r.root < length s2.flat.nodes) stayed.staying shared.made (roots-on s1.flat s2.flat shared.steps.extends stayed.staying stayed.there) shared.there in
    let all_roots = subst (AllByRecursion (λ (r : Replacement). r.root < length s2.flat.nodes)) (sym made_is) roots in
    record {
      steps = steps-on s0 s1 s3 [] [] stayed.steps (steps-on s1 s2 s3 [] [] shared.steps last);
      locals = locals ∙ shared.locals ∙ stayed.locals;
      there = (instance, is_there, mapped made (roots-on s2.flat s3.flat extends made all_roots));
      holds = λ more from3.
          let from2 = extends-on s2.flat s3.flat more extends from3 in
          let from1 = extends-on s1.flat s2.flat more shared.steps.extends from2 in (
            replacements_of stayed.staying,
            replacements_of shared.made,
            from3.instances j instance is_there
                ∙ (λ i. Some (record { outer = wide i; parameters = 0; guards = false; replacements = (ap (map replacement_of) made_is ∙ map-append replacement_of stayed.staying shared.made) i })),
            stayed.holds more from1,
            shared.holds more from2,
          );
    }
  where
    mapped : (rs : List Replacement) → AllByRecursion (λ (r : Replacement). r.root < length s3.flat.nodes) rs → AllByRecursion (λ (r : flat.Replacement). r.root < length s3.flat.nodes) (map replacement_of rs)
    mapped [] all = tt
    mapped (r ∷ rs) all = (all.0, mapped rs all.1)
