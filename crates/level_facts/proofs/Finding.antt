-- What is found of a node, by its form.
use Rattle.std.proofs.Common.{◌≡◌, ℕ, ◌+◌, ◌*◌, ◌<◌, ◌≤◌, true, false, cond, List, ◌++◌, Option, Some, None, refl, sym, ap, ◌∙◌, subst, map, take, length, get_or, arith}
use Rattle.std.specs.Prelude.{slice_get}
use Rattle.std.specs.List.{AllByRecursion}
use Rattle.std.proofs.lemmas.Option.{slice_get_within}
use Rattle.tla_symbols.specs.declared.level.Kind.{Kind}
use Rattle.tla_symbols.specs.declared.level.Rule.{Rule}
use Rattle.kind_text.proofs.Zips.{zip-append, zip-take}
use Rattle.kind_text.specs.ExpandedKind.{Expanded, Given, Ruled, kind, kinds, ruled}
use Rattle.kind_text.specs.Substitution.{Alike, Item, Same, at, expression, expressions, leaves, operator, texts}
use Rattle.kind_text.specs.FlatModule.{FlatModule, Form, IsOrdered, Node, UsesDefinition, UsesEarlier}
use Rattle.kind_text.specs.Expansion.{along_path, applied_to_rest, body, bounded, form_item, items, node_item, nothing, start, text, used}
use Rattle.kind_text.proofs.Unfolding.{kind-guard, text-step}
use Rattle.order_rec.specs.Earlier.{before}
use Rattle.order_rec.proofs.Order.{along-step}
use Rattle.kind_table.specs.declared.argument.Arg.{Arg}
use Rattle.kind_table.specs.declared.argument.Arg.TheVariants.{Value, BuiltIn}
use Rattle.kind_table.specs.declared.flat.Form as table
use Rattle.kind_table.specs.declared.flat.Node as node
use Rattle.kind_table.specs.declared.flat.FlatModule as tables
use Rattle.kind_table.specs.Flattened.{flat_of, form_of, node_of}
use Rattle.kind_table.specs.Table.{AllWithin, Grows, bounded_kind, meaning, meanings, value_at}
use Rattle.kind_table.specs.Weights.{body_cost, longest, node_cost, path_length, times, weight}
use Rattle.kind_table.proofs.Unfolding.{alike-expressions, alike-meanings, meaning-step, same-body, same-expression, same-meaning, same-operator, weight-step}
use Rattle.kind_table.proofs.Growth.{grows_on, kinds-leaves, kinds-meanings, load_on, longer, meaning_on, meanings_on, weight_on}
use Rattle.kind_table.proofs.Weighing.{cost-split, longest-at, times-most}
use Rattle.kind_table.proofs.TableEntries.{node-read}
use Rattle.level_facts.specs.declared.steps.Reached.{Reached}
use Rattle.level_facts.specs.Judged.{IsClosure, IsFound, IsOperand, Picked, ReachesPath, lower_cost_of, use_kind_of}
use Rattle.level_facts.proofs.Likes.{kind-bounded, kinds-texts, reached-same, rest-same, same-trans, used-same}

-- what was found stays found
pub found_on : (flat : FlatModule) {a b : List Arg} (i : ℕ) (frame : List ℕ) (n : ℕ) → Grows a b → AllWithin a frame → IsFound flat a i frame n → IsFound flat b i frame n
found_on flat {a} {b} i frame n g w h =
    let m = meaning_on flat g n h.within in let ms = meanings_on flat g frame w in
    let s : Same (meaning flat b n) (text flat i (meanings flat a frame)) = subst (λ x. Same x (text flat i (meanings flat a frame))) (sym m) h.same in
    let l = longer g in let v = weight_on flat g n h.within in let vs = load_on flat g frame w in
    record { within = omega (arith, l, h.within); same = subst (λ x. Same (meaning flat b n) (text flat i x)) (sym ms) s; light = omega (arith, h.light, v, vs) }

-- a node as it is read
pub record Reads (flat : FlatModule) (i : ℕ) (form : Form) (parts : List ℕ) : Type 0 where
  pub node : Node
  pub here : slice_get flat.nodes i ≡ Some node
  pub form_is : node.form ≡ form
  pub parts_are : node.parts ≡ parts

pub reads : (t : tables.FlatModule) (i : ℕ) (n : node.Node) (form : table.Form) → i < length t.nodes.items → n ≡ get_or t.nodes.items i n → n.form ≡ form → Reads (flat_of t) i (form_of t.paths.items form) n.parts.items
reads t i n form l e f = record { node = node_of t.paths.items n; here = node-read t i n l e; form_is = ap (form_of t.paths.items) f; parts_are = refl }

module _ (flat : FlatModule) (ordered : IsOrdered flat) {i : ℕ} {form : Form} {parts : List ℕ} (r : Reads flat i form parts) where
  pub reads-below : AllByRecursion (λ part. part < i) parts × UsesEarlier flat i form
  reads-below =
      let b = ordered i r.node r.here in
      (subst (λ x. AllByRecursion (λ part. part < i) x) r.parts_are b.parts, subst (UsesEarlier flat i) r.form_is b.uses)

  pub reads-text : (s : List Item) → text flat i s ≡ form_item flat (text flat) form parts s
  reads-text s = text-step flat i r.node s ordered r.here ∙ ap (λ x. form_item flat (text flat) x r.node.parts s) r.form_is ∙ ap (λ x. form_item flat (text flat) form x s) r.parts_are

  -- an expression's kind was found, and is kept at n
  pub value_found : {old new : List Arg} (frame : List ℕ) (n : ℕ) (k : Option Kind) (t : Expanded) → AllWithin old frame → Grows old new → form_item flat (text flat) form parts (meanings flat old frame) ≡ expression t → k ≡ kind t → slice_get new n ≡ Some (Value k) → IsFound flat new i frame n
  value_found {old} {new} frame n k t w g is e at_n =
      let m : meaning flat new n ≡ expression (Given k) = meaning-step flat new n (Value k) g.table at_n in
      let v : weight flat new n ≡ 0 = weight-step flat new n (Value k) g.table at_n in
      let it : text flat i (meanings flat new frame) ≡ expression t = ap (text flat i) (meanings_on flat g frame w) ∙ reads-text (meanings flat old frame) ∙ is in
      record {
        within = slice_get_within new n (Value k) at_n;
        same = subst (λ x. Same x (text flat i (meanings flat new frame))) (sym m) (subst (λ x. Same (expression (Given k)) x) (sym it) (same-expression (Given k) t e));
        light = omega (arith, v);
      }

  -- the kinds of a node's parts
  pub part_kinds : (old : List Arg) (frame ns : List ℕ) → Picked flat old i parts frame ns → map (value_at old) ns ≡ kinds (texts (items (text flat) parts (meanings flat old frame)))
  part_kinds old frame ns p = sym (kinds-meanings flat old ns) ∙ kinds-texts _ _ p.same

  -- the kind of a quantifier over sets by these
  pub parts_bounded : (old : List Arg) (frame ns : List ℕ) → Picked flat old i parts frame ns → bounded_kind (map (value_at old) ns) ≡ kind (bounded (texts (items (text flat) parts (meanings flat old frame))))
  parts_bounded old frame ns p = ap bounded_kind (part_kinds old frame ns p) ∙ sym (kind-bounded (texts (items (text flat) parts (meanings flat old frame))))

pub symbol_found : (flat : FlatModule) (ordered : IsOrdered flat) {i : ℕ} {parts : List ℕ} (rule : Rule) → Reads flat i (Form.Symbol rule) parts → {old new : List Arg} (frame : List ℕ) (n : ℕ) → Grows old new → slice_get new n ≡ Some (BuiltIn rule) → IsFound flat new i frame n
symbol_found flat ordered {i} rule r {old} {new} frame n g at_n =
    let m : meaning flat new n ≡ operator (Ruled rule) = meaning-step flat new n (BuiltIn rule) g.table at_n in
    let v : weight flat new n ≡ 0 = weight-step flat new n (BuiltIn rule) g.table at_n in
    let it : text flat i (meanings flat new frame) ≡ operator (Ruled rule) = reads-text flat ordered r (meanings flat new frame) in
    record {
      within = slice_get_within new n (BuiltIn rule) at_n;
      same = subst (λ x. Same x (text flat i (meanings flat new frame))) (sym m) (subst (λ x. Same (operator (Ruled rule)) x) (sym it) (same-operator (Ruled rule) (Ruled rule) (λ ts us e. ap (ruled rule) e)));
      light = omega (arith, v);
    }

pub parameter_found : (flat : FlatModule) (ordered : IsOrdered flat) {i : ℕ} {parts : List ℕ} (place : ℕ) → Reads flat i (Form.Parameter place) parts → {old new : List Arg} (frame : List ℕ) (n : ℕ) → IsOperand flat old new frame place n → IsFound flat new i frame n
parameter_found flat ordered {i} place r {old} {new} frame n o =
    let it : text flat i (meanings flat new frame) ≡ meaning flat new n = reads-text flat ordered r (meanings flat new frame) ∙ sym o.is in
    record {
      within = o.within;
      same = subst (λ x. Same (meaning flat new n) x) (sym it) (same-meaning flat new n);
      light = omega (arith, o.light);
    }

pub call_kind : (flat : FlatModule) {old mid new : List Arg} {i : ℕ} {parts : List ℕ} (place n : ℕ) (frame ns : List ℕ) (ks : List (Option Kind)) (k : Option Kind) → AllWithin old frame → Picked flat old i parts frame ns → AllWithin old ns → IsOperand flat old mid frame place n → ks ≡ map (value_at mid) ns → Grows mid new → k ≡ kind ((meaning flat new n).call (leaves ks)) → k ≡ kind ((at (meanings flat old frame) place).call (texts (items (text flat) parts (meanings flat old frame))))
call_kind flat {old} {mid} {new} {i} {parts} place n frame ns ks k w p wn o e g is =
    let same_frame = meanings_on flat o.grows frame w in
    let ks_are : kinds (leaves ks) ≡ kinds (texts (items (text flat) parts (meanings flat old frame))) =
    kinds-leaves ks ∙ e ∙ sym (kinds-meanings flat mid ns) ∙ ap (λ x. kinds (texts x)) (meanings_on flat o.grows ns wn) ∙ kinds-texts _ _ p.same in
    is ∙ (same-meaning flat new n).call _ _ ks_are
    ∙ ap (λ (x : Item). kind (x.call (texts (items (text flat) parts (meanings flat old frame))))) (meaning_on flat g n o.within ∙ o.is ∙ ap (λ s. at s place) same_frame)

-- a closure is the bare operator of a LAMBDA
pub closure_cost : (flat : FlatModule) (i d : ℕ) → UsesDefinition flat i d → (body_cost flat (slice_get flat.definitions d) ≤ lower_cost_of flat i + 4) × (node_cost flat i ≡ 4 * lower_cost_of flat i + times (longest flat.nodes) (lower_cost_of flat i)) × (16 ≤ lower_cost_of flat i)
closure_cost flat i d u =
    let c = cost-split (longest flat.nodes) u.0.root i u.2 in let b = ap (body_cost flat) u.1 in
    (omega (arith, c.1, b), c.0, c.2)

pub lambda_found : (flat : FlatModule) (ordered : IsOrdered flat) {i : ℕ} {parts : List ℕ} (d : ℕ) → Reads flat i (Form.Lambda d) parts → {old new : List Arg} (frame : List ℕ) (n : ℕ) → IsClosure flat old new d frame n → IsFound flat new i frame n
lambda_found flat ordered {i} d r {old} {new} frame n o =
    let it = reads-text flat ordered r (meanings flat new frame) in
    let c = closure_cost flat i d (reads-below flat ordered r).1 in
    record {
      within = o.within;
      same = subst (λ x. Same (meaning flat new n) x) (sym it) o.same;
      light = omega (arith, o.light, c.0, c.1, c.2);
    }

pub path_most : (flat : FlatModule) {i : ℕ} {form : Form} {parts : List ℕ} → Reads flat i form parts → path_length form ≤ longest flat.nodes
path_most flat {i} {form} r = subst (λ (f : Form). path_length f ≤ longest flat.nodes) r.form_is (longest-at flat.nodes i r.node r.here)

-- the kind of a use, from that on the numbers of its arguments
pub use_found : (flat : FlatModule) {i : ℕ} {parts : List ℕ} (path : List ℕ) (d : ℕ) {old : List Arg} (frame ns : List ℕ) (k : Option Kind) → Picked flat old i parts frame ns → k ≡ use_kind_of flat path d (meanings flat old frame) (meanings flat old ns) → k ≡ kind (applied_to_rest flat (text flat) (along_path flat (text flat) path (start (meanings flat old frame) (items (text flat) parts (meanings flat old frame)))) d)
use_found flat {i} {parts} path d {old} frame ns k p is =
    let same = reached-same flat path _ _ _ _ (alike-meanings flat old frame) p.same in
    is ∙ used-same flat _ _ d _ _ same (rest-same flat _ _ same)

-- a bare operator behind a path whose guards are met
module _ (flat : FlatModule) (ordered : IsOrdered flat) {i : ℕ} {parts : List ℕ} (path : List ℕ) (d : ℕ) (r : Reads flat i (Form.Name path d) parts) {old mid : List Arg} (frame ns : List ℕ) (reached : Reached) (w : AllWithin old frame) (p : Picked flat old i parts frame ns) (h : ReachesPath flat old mid i path frame ns reached) where
  named : (ts : Rattle.kind_text.specs.ExpandedKind.Operands) → kind (used flat (text flat) (along_path flat (text flat) path (start (meanings flat old frame) (items (text flat) parts (meanings flat old frame)))) d (expressions ts)) ≡ cond reached.met (kind (body (text flat) (slice_get flat.definitions d) (λ outer. take outer (along_path flat (text flat) path (start (meanings flat old frame) (meanings flat old ns))).frame ++ expressions ts))) None
  named ts =
      let same = reached-same flat path _ _ _ _ (alike-meanings flat old frame) p.same in
      let from = along_path flat (text flat) path (start (meanings flat old frame) (meanings flat old ns)) in
      sym (used-same flat _ _ d _ _ same (alike-expressions ts ts refl))
      ∙ kind-guard from.guards (body (text flat) (slice_get flat.definitions d) (λ outer. take outer from.frame ++ expressions ts))
      ∙ ap (λ b. cond b (kind (body (text flat) (slice_get flat.definitions d) (λ outer. take outer from.frame ++ expressions ts))) None) (sym h.reaches.met)

  pub name_met : {new : List Arg} (n : ℕ) → reached.met ≡ true → IsClosure flat mid new d reached.frame.items n → IsFound flat new i frame n
  name_met {new} n all_met o =
      let g = grows_on h.grows o.grows in
      let it : text flat i (meanings flat new frame) ≡ form_item flat (text flat) (Form.Name path d) parts (meanings flat old frame) = ap (text flat i) (meanings_on flat g frame w) ∙ reads-text flat ordered r (meanings flat old frame) in
      let from = along_path flat (text flat) path (start (meanings flat old frame) (meanings flat old ns)) in
      let frames : Alike (meanings flat new reached.frame.items) from.frame = subst (λ x. Alike x from.frame) (sym (meanings_on flat o.grows reached.frame.items h.within.frame)) h.reaches.frame in
      let c = closure_cost flat i d (reads-below flat ordered r).1.1 in
      let l = load_on flat o.grows reached.frame.items h.within.frame in let lo = load_on flat g frame w in
      let most = path_most flat r in let t = times-most (lower_cost_of flat i) (length path) (longest flat.nodes) most in
      record {
        within = o.within;
        same = subst (λ x. Same (meaning flat new n) x) (sym it) (same-trans _ _ _ o.same (same-operator _ _ (λ ts us e.
            same-body flat (slice_get flat.definitions d) _ _ (λ outer. zip-append Same _ _ _ _ (zip-take Same outer _ _ frames) (alike-expressions ts us e))
            ∙ sym (ap (λ b. cond b (kind (body (text flat) (slice_get flat.definitions d) (λ outer. take outer from.frame ++ expressions us))) None) all_met)
            ∙ sym (named us))));
        light = omega (arith, o.light, c.0, c.1, c.2, l, lo, t, h.light, p.light);
      }

  pub name_not_met : {new : List Arg} (n : ℕ) → reached.met ≡ false → Grows mid new → slice_get new n ≡ Some (Value None) → IsFound flat new i frame n
  name_not_met {new} n fails more at_n =
      let g = grows_on h.grows more in
      let m : meaning flat new n ≡ expression (Given None) = meaning-step flat new n (Value None) more.table at_n in
      let v : weight flat new n ≡ 0 = weight-step flat new n (Value None) more.table at_n in
      let it : text flat i (meanings flat new frame) ≡ form_item flat (text flat) (Form.Name path d) parts (meanings flat old frame) = ap (text flat i) (meanings_on flat g frame w) ∙ reads-text flat ordered r (meanings flat old frame) in
      let from = along_path flat (text flat) path (start (meanings flat old frame) (meanings flat old ns)) in
      record {
        within = slice_get_within new n (Value None) at_n;
        same = subst (λ x. Same x (text flat i (meanings flat new frame))) (sym m) (subst (λ x. Same (expression (Given None)) x) (sym it) (record {
          text = refl;
          call = λ ts us e. sym (ap (λ b. cond b (kind (body (text flat) (slice_get flat.definitions d) (λ outer. take outer from.frame ++ expressions us))) None) fails) ∙ sym (named us);
        }));
        light = omega (arith, v);
      }

-- where no node is, nothing has a kind
pub missing_found : (flat : FlatModule) (new : List Arg) (i : ℕ) (frame : List ℕ) (n : ℕ) → slice_get flat.nodes i ≡ None → Rattle.kind_table.specs.Table.IsTable new → slice_get new n ≡ Some (Value None) → IsFound flat new i frame n
missing_found flat new i frame n none table at_n =
    let m : meaning flat new n ≡ expression (Given None) = meaning-step flat new n (Value None) table at_n in
    let v : weight flat new n ≡ 0 = weight-step flat new n (Value None) table at_n in
    let it : text flat i (meanings flat new frame) ≡ expression (Given None) =
    ap (λ (x : List Item → Item). x (meanings flat new frame)) (along-step nothing (λ j f. node_item flat f (slice_get flat.nodes j)) i ∙ ap (node_item flat (before nothing (text flat) i)) none) in
    record {
      within = slice_get_within new n (Value None) at_n;
      same = subst (λ x. Same x (text flat i (meanings flat new frame))) (sym m) (subst (λ x. Same (expression (Given None)) x) (sym it) (same-expression (Given None) (Given None) refl));
      light = omega (arith, v);
    }
