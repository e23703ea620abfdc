-- The names of definitions and instances are as deep as what is written.
use Rattle.std.proofs.Common.{◌≡◌, ℕ, suc, max, List, [], ◌∷◌, ◌++◌, Option, Some, None, map, refl, sym, ap, ◌∙◌, subst}
use Rattle.std.specs.Prelude.{slice_get}
use Rattle.std.specs.List.{AllByRecursion}
use Rattle.std.proofs.Math.Nat.{zero-max}
use mathlib.Core.Path.{fun_ext}
use Rattle.tla_symbols.specs.declared.lexeme.Lexeme.{Lexeme}
use Rattle.tla_symbols.specs.declared.lexeme.Span.{Span}
use Rattle.tla_tree.specs.declared.form.Form.TheVariants as Form
use Rattle.tla_tree.specs.Syntax.{Trees, Node, Nil, Cons}
use Rattle.tla_model.specs.Tables.{Named}
use Rattle.tla_model.specs.Entities.{Operator, Text, defines}
use Rattle.module_model.specs.Exports.{Known}
use Rattle.module_model.specs.Instances.{left_sides}
use Rattle.kind_text.specs.FlatModule.{Definition, FlatModule, Instance, IsOrdered, Node as FlatNode, Replacement}
use Rattle.kind_text.specs.FlatModule as flat_module
use Rattle.level_text.specs.Depth.{depth as depth_at, depth_of, form_depth, greatest, instance_depth, replaced_depth}
use Rattle.level_text.proofs.Depths.{depth-step}
use Rattle.tree_kinds.specs.Standing.{Outside, Reached}
use Rattle.tree_kinds.specs.Expanding.{module_of}
use Rattle.tree_kinds.specs.TreeDepths.{Beneath, behind_module, defined_depth, implied_depth, in_scope, parts_depth, through_depth}
use Rattle.flat_trees.specs.Stands.{Defined, Stand, Through}
use Rattle.flat_trees.specs.Instances.{instance_in}
use Rattle.flat_depths.specs.Depths.{HasDepths, IsAsDeep, IsDeepModule}
use Rattle.flat_depths.specs.Parts.{AreReplacedAsDeep}
use Rattle.flat_depths.proofs.Agreeing.{behind-has}
use Rattle.flat_depths.proofs.Joining.{roots-join}

module _ (flat : FlatModule) (text : Text) (known : Known) (named : List ℕ → Outside) where
  -- one deeper than its root
  by-root : (d : ℕ) (x : Definition) (n : ℕ) → slice_get flat.definitions d ≡ Some x → depth_at flat x.root ≡ max 0 n → record { depth = suc n; replaced = 0 } ≡ (let reached : Reached = record { depth = depth_of (depth_at flat) (slice_get flat.definitions d); replaced = 0 } in reached)
  by-root d x n there deep =
      ap (λ k. record { depth = k; replaced = 0 }) (ap suc (sym (zero-max n) ∙ sym deep) ∙ sym (ap (depth_of (depth_at flat)) there))

  pub operator-deep : (around : Beneath) (form : Form.the_data) (l : Lexeme) (sp : Span) (parts : Trees) (d : ℕ) (x : Definition) (orders : List ℕ) → defines form ≡ Operator l → slice_get flat.definitions d ≡ Some x → IsAsDeep flat text known named around x.root (Node form sp parts) → HasDepths flat 0 (Defined d orders) (defined_depth text known named around (Node form sp parts))
  operator-deep around (Form.OperatorDefinition name) l sp parts d x orders e there deep = by-root d x _ there deep
  operator-deep around (Form.PrefixDefinition name) l sp parts d x orders e there deep = by-root d x _ there deep
  operator-deep around (Form.InfixDefinition name) l sp parts d x orders e there deep = by-root d x _ there deep
  operator-deep around (Form.PostfixDefinition name) l sp parts d x orders e there deep = by-root d x _ there deep
  operator-deep around form l sp parts d x orders e there deep = cc

  pub function-deep : (around : Beneath) (l : Lexeme) (sp : Span) (parts : Trees) (d : ℕ) (x : Definition) (orders : List ℕ) → slice_get flat.definitions d ≡ Some x → IsAsDeep flat text known named around x.root (Node (Form.FunctionDefinition l) sp parts) → HasDepths flat 0 (Defined d orders) (defined_depth text known named around (Node (Form.FunctionDefinition l) sp parts))
  function-deep around l sp parts d x orders there deep = by-root d x _ there deep

  -- ---- instances

  -- the greatest depth of the replacements of an INSTANCE
  abbrev pub written : Beneath → Lexeme → Trees → ℕ
  written around l rights = max (parts_depth text known named around around rights) (implied_depth around (left_sides text.source rights) (module_of text known named l).view.parameters)

  pub replaced-deep : (around : Beneath) (j : ℕ) (x : Instance) (staying made : List Replacement) (l : Lexeme) (rights : Trees) → slice_get flat.instances j ≡ Some x → x.replacements ≡ staying ++ made → AllByRecursion (λ r. depth_at flat r.root ≡ 0) staying → AreReplacedAsDeep flat text known named around made l rights → replaced_depth (depth_at flat) (slice_get flat.instances j) ≡ written around l rights
  replaced-deep around j x staying made l rights there behind none deep =
      ap (replaced_depth (depth_at flat)) there
      ∙ ap (λ rs. greatest (depth_at flat) (map (λ (r : Replacement). r.root) rs)) behind
      ∙ roots-join (depth_at flat) staying made none
      ∙ deep

  abbrev by-found : Beneath → List Named → Option (Lexeme × Trees) → Reached
  by-found around path None = record { depth = 0; replaced = 0 }
  by-found around path (Some found) = behind_module text known named found.0 (written around found.0 found.1) path

  through-found : (around : Beneath) (parts : Trees) (path : List Named) → through_depth text known named around parts path ≡ by-found around path (instance_in parts)
  through-found around Nil path = refl
  through-found around (Cons (Node (Form.Instance l) s parts) rest) path = refl
  through-found around (Cons (Node form s parts) rest) path = through-found around rest path

  pub instance-deep : (around : Beneath) (own : Lexeme) (sp : Span) (parts : Trees) (j : ℕ) (x : Instance) (orders : List ℕ) (staying made : List Replacement) (l : Lexeme) (rights : Trees) (inner : Named → Stand) → slice_get flat.instances j ≡ Some x → x.replacements ≡ staying ++ made → AllByRecursion (λ r. depth_at flat r.root ≡ 0) staying → instance_in parts ≡ Some (l, rights) → AreReplacedAsDeep flat text known named (in_scope text known named around (Form.ModuleDefinition own) parts) made l rights → IsDeepModule flat inner (module_of text known named l) → HasDepths flat 0 (Through j orders inner) (defined_depth text known named around (Node (Form.ModuleDefinition own) sp parts))
  instance-deep around own sp parts j x orders staying made l rights inner there behind none first deep kept =
      let scoped = in_scope text known named around (Form.ModuleDefinition own) parts in
      let n = written scoped l rights in
      let replaced : replaced_depth (depth_at flat) (slice_get flat.instances j) ≡ n = replaced-deep scoped j x staying made l rights there behind none deep in (
        through-found scoped parts []
            ∙ ap (by-found scoped []) first
            ∙ ap (λ k. record { depth = suc k; replaced = 0 }) (sym replaced)
            ∙ ap (λ k. record { depth = k; replaced = 0 }) (own-depth (slice_get flat.instances j) x there),
        λ name.
            subst (λ (depths : List Named → Reached). HasDepths flat (max 0 (replaced_depth (depth_at flat) (slice_get flat.instances j))) (inner name) depths)
            (fun_ext (λ path. sym (through-found scoped parts (name ∷ path) ∙ ap (by-found scoped (name ∷ path)) first)))
            (behind-has flat j n (inner name) (λ path. (module_of text known named l).depths (name ∷ path)) replaced (kept name)),
      )
    where
      own-depth : (o : Option Instance) (x : Instance) → o ≡ Some x → suc (replaced_depth (depth_at flat) o) ≡ instance_depth (depth_at flat) o
      own-depth None x e = cc
      own-depth (Some y) x e = refl

-- a symbol that stays has no depth
pub staying-plain : (flat : FlatModule) (r : Replacement) (node : FlatNode) (place : ℕ) → IsOrdered flat → slice_get flat.nodes r.root ≡ Some node → node.form ≡ flat_module.Parameter place → node.parts ≡ [] → depth_at flat r.root ≡ 0
staying-plain flat r node place ordered there e none =
    depth-step flat r.root node ordered there ∙ ap (λ form. form_depth flat (depth_at flat) form node.parts) e ∙ ap (greatest (depth_at flat)) none
