-- Instances of a flat module stand for what is behind the written ones.
use Rattle.std.proofs.Common.{◌≡◌, ℕ, zero, suc, ◌+◌, ◌<◌, ◌≤◌, Bool, true, false, cond, List, [], ◌∷◌, ◌++◌, Option, Some, None, map, refl, sym, ap, ◌∙◌, subst, take, length, nat_eq, arith}
use Rattle.std.proofs.lemmas.Bool.Decides.{nat_tests}
use Rattle.std.proofs.lemmas.List.{length-append, length-map}
use Rattle.std.proofs.lemmas.Option.{slice_get_within}
use Rattle.std.specs.Prelude.{slice_get}
use Rattle.std.specs.List.{AllByRecursion}
use mathlib.Core.Path.{fun_ext}
use Rattle.tla_symbols.specs.declared.lexeme.Lexeme.{Lexeme}
use Rattle.tla_symbols.specs.declared.lexeme.Span.{Span}
use Rattle.tla_tree.specs.declared.form.Form.TheVariants as Form
use Rattle.tla_tree.specs.Syntax.{Trees, Node, Nil, Cons}
use Rattle.tla_model.specs.declared.names.Meaning.TheVariants.{BuiltIn, Declared}
use Rattle.tla_model.specs.Tables.{Named}
use Rattle.tla_model.specs.Entities.{Meaning, Text}
use Rattle.module_model.specs.Exports.{Exports, Known}
use Rattle.kind_text.specs.ExpandedKind.{Expanded, Given, Guarded}
use Rattle.kind_text.specs.FlatModule.{FlatModule, Form as NodeForm, Instance, IsOrdered, Node as FlatNode, Replacement}
use Rattle.kind_text.proofs.Unfolding.{text-step}
use Rattle.kind_text.specs.Expansion.{Guard, form_item, guard, guarded_by, guards_of, items as items_at, judged_at, text as text_at}
use Rattle.kind_text.specs.Substitution.{Item, at, constants, judged, leaves}
use Rattle.tree_kinds.specs.Standing.{Environment, Outside, Steps, Value, operator_places, places as places_in, same_standing, value_of, with_entries}
use Rattle.tree_kinds.specs.Expanding.{Around, Replaced, Written, behind_instance, bringing, defined_value, guard_of, module_of, replaced_by, replacements, right_sides, through, unguarded, with_parameters, with_replaced, written_for}
use Rattle.flat_trees.specs.Stands.{AreStanding, IsItem, IsStanding, Matches, Stand, Unsaid, Leaf, Place, Defined, Through, Brought, count, passed}
use Rattle.flat_trees.specs.Layouts.{Agrees, Layout, Stands, layout_with, order_of, parameters_of, with_brought}
use Rattle.flat_trees.specs.Instances.{AllStay, AreReplaced, ArePutIn, IsMadeInstance, IsModule, IsModuleBehind, IsStaying, PutsInBehind, StaysIn, exported_value, instance_in, symbols_of, with_symbols}
use Rattle.flat_trees.proofs.Agreeing.{all-grown, append-append, at-behind, brought-stand, item-value, with-agrees, with-stand-stands}
use Rattle.flat_trees.proofs.Definitions.{take-all}
use Rattle.flat_trees.proofs.Reaching.{append-nil}

abbrev guard-with : ℕ → Expanded → Guard
guard-with most t = record { most = most; replacement = t }

guard-append : (gs hs : List Guard) (t : Expanded) → guard (gs ++ hs) t ≡ guard gs (guard hs t)
guard-append [] hs t = refl
guard-append (g ∷ gs) hs t = ap (Guarded g.most g.replacement) (guard-append gs hs t)

guards-nil : (gs : List Guard) → gs ++ [] ≡ gs
guards-nil [] = refl
guards-nil (g ∷ gs) = ap (λ hs. g ∷ hs) (guards-nil gs)

guards-append : (fs gs hs : List Guard) → (fs ++ gs) ++ hs ≡ fs ++ (gs ++ hs)
guards-append [] gs hs = refl
guards-append (f ∷ fs) gs hs = ap (λ us. f ∷ us) (guards-append fs gs hs)

item-guarded : (n : ℕ) (x : Item) (gs hs : List Guard) (value : Value) → IsItem n x hs value → IsItem n x (gs ++ hs) (λ arguments path. guard gs (value arguments path))
item-guarded zero x gs hs value holds = ap (guard gs) holds ∙ sym (guard-append gs hs x.text)
item-guarded (suc n) x gs hs value holds = λ arguments many. ap (guard gs) (holds arguments many) ∙ sym (guard-append gs hs _)

count-constants : (n : ℕ) → count (constants n) ≡ n
count-constants zero = refl
count-constants (suc n) = ap suc (count-constants n)

judged-order : (n : ℕ) (a b : Item) → Matches n a b → judged (cond (nat_eq n 0) None (Some n)) a ≡ judged (cond (nat_eq n 0) None (Some n)) b
judged-order zero a b same = same
judged-order (suc n) a b same =
    let some : nat_eq (suc n) 0 ≡ false = grind (arith, nat_tests) in
    subst (λ zero_places. judged (cond zero_places None (Some (suc n))) a ≡ judged (cond zero_places None (Some (suc n))) b) (sym some) (same (constants (suc n)) (count-constants (suc n)))

judged-match : (m : Meaning) (a b : Item) → Matches (order_of m) a b → judged (operator_places (Some m)) a ≡ judged (operator_places (Some m)) b
judged-match BuiltIn a b same = same
judged-match (Declared e callee) a b same = judged-order (places_in e) a b same

module _ (flat : FlatModule) where
  guarded : (s : List Item) (gs hs : List Guard) (stand : Stand) (value : Value) → IsStanding flat s hs stand value → IsStanding flat s (gs ++ hs) stand (λ arguments path. guard gs (value arguments path))
  guarded s gs hs Unsaid value holds = tt
  guarded s gs hs (Leaf kind) value holds = ap (guard gs) holds ∙ sym (guard-append gs hs (Given (Some kind)))
  guarded s gs hs (Place place order) value holds = (holds.0, item-guarded order (at s place) gs hs value holds.1)
  guarded s gs hs (Defined d orders) value (x, there, room, holds) =
      (x, there, room, λ made arguments fits. ap (guard gs) (holds made arguments fits) ∙ sym (guard-append gs hs _))
  guarded s gs hs (Through j orders inner) value (x, is, holds) = (
    x,
    is,
    λ made arguments fits name.
        let own = cond x.guards (guards_of flat (text_at flat) x.replacements (take x.outer s ++ made)) [] in
        let behind : Value = λ more path. value arguments (record { name = name; arguments = more } ∷ path) in
        subst (λ g. IsStanding flat (passed flat x s hs made).frame g (inner name) (λ more path. guard gs (behind more path))) (sym (guards-append gs hs own))
        (guarded (passed flat x s hs made).frame gs (hs ++ own) (inner name) behind (holds made arguments fits name)),
  )
  guarded s gs hs (Brought j inner) value (x, is, holds) = (
    x,
    is,
    let own = cond x.guards (guards_of flat (text_at flat) x.replacements (take x.outer s ++ [])) [] in
        subst (λ g. IsStanding flat (passed flat x s hs []).frame g inner (λ arguments path. guard gs (value arguments path))) (sym (guards-append gs hs own))
        (guarded (passed flat x s hs []).frame gs (hs ++ own) inner value holds),
  )

  guards-met : (constant : Bool) (s : List Item) (made : List Replacement) (rs : List Replaced) → AreReplaced flat constant s made rs → guards_of flat (text_at flat) made s ≡ map (guard_of constant) rs
  guards-met constant s [] [] all = refl
  guards-met constant s [] (r ∷ rs) all = absurd all
  guards-met constant s (a ∷ made) [] all = absurd all
  guards-met constant s (a ∷ made) (r ∷ rs) all =
      ap (λ most. guarded_by most (judged_at flat (text_at flat) a.root s) ++ guards_of flat (text_at flat) made s) all.0.most
      ∙ ap (λ t. guard-with (guard_of constant r).most t ∷ guards_of flat (text_at flat) made s)
      (ap (λ o. judged o (text_at flat a.root s)) all.0.places ∙ judged-match r.parameter _ _ all.0.item)
      ∙ ap (λ gs. guard_of constant r ∷ gs) (guards-met constant s made rs all.1)

  -- the replacements that an instance puts in, over a frame
  abbrev pub put-items : List Replacement → List Item → List Item
  put-items made s = items_at (text_at flat) (map (λ (r : Replacement). r.root) made) s

  put-append : (s : List Item) (made more : List Replacement) → put-items (made ++ more) s ≡ put-items made s ++ put-items more s
  put-append s [] more = refl
  put-append s (a ∷ made) more = ap (λ xs. text_at flat a.root s ∷ xs) (put-append s made more)

  pub put-length : (s : List Item) (made : List Replacement) → length (put-items made s) ≡ length made
  put-length s [] = refl
  put-length s (a ∷ made) = ap suc (put-length s made)

  put-within : (s : List Item) (made : List Replacement) (i : ℕ) (r : Replacement) → slice_get made i ≡ Some r → i < length (put-items made s)
  put-within s made i r e = let l = slice_get_within made i r e in let same = put-length s made in omega (arith, l, same)

  put-at : (s : List Item) (made : List Replacement) (i : ℕ) (r : Replacement) → slice_get made i ≡ Some r → at (put-items made s) i ≡ text_at flat r.root s
  put-at s [] i r e = cc
  put-at s (a ∷ made) zero r e = let same : a ≡ r = cc in ap (λ (z : Replacement). text_at flat z.root s) same
  put-at s (a ∷ made) (suc i) r e = put-at s made i r e

  -- what stays stands so where these are put in
  pub stays-stand : (s : List Item) (made : List Replacement) (behind here : Stand) (value : Value) → StaysIn flat made behind here → IsStanding flat s [] here value → IsStanding flat (put-items made s) [] behind value
  stays-stand s made Unsaid here value stays holds = tt
  stays-stand s made (Leaf kind) here value stays holds = subst (λ stand. IsStanding flat s [] stand value) stays holds
  stays-stand s made (Place place order) here value (r, now, there, staying, same) holds =
      let placed : IsStanding flat s [] (Place now order) value = subst (λ stand. IsStanding flat s [] stand value) same holds in
      (put-within s made place r there, subst (λ x. IsItem order x [] value) (sym (put-at s made place r there ∙ staying s)) placed.1)
  stays-stand s made (Defined d orders) here value stays holds = absurd stays
  stays-stand s made (Through j orders inner) here value stays holds = absurd stays
  stays-stand s made (Brought j inner) here value stays holds = absurd stays

  guards-behind : (s : List Item) (staying made : List Replacement) → AllByRecursion (λ (r : Replacement). r.most ≡ None) staying → guards_of flat (text_at flat) (staying ++ made) s ≡ guards_of flat (text_at flat) made s
  guards-behind s [] made all = refl
  guards-behind s (r ∷ staying) made all =
      ap (λ most. guarded_by most (judged_at flat (text_at flat) r.root s) ++ guards_of flat (text_at flat) (staying ++ made) s) all.0 ∙ guards-behind s staying made all.1

  -- over the frame behind an instance, symbols stand for what replaces them, behind those that stay
  symbols-stand : (constant : Bool) (s before : List Item) (made : List Replacement) (rs : List Replaced) (base : Meaning → Stand) (standing : Environment) → AreReplaced flat constant s made rs → AreStanding flat (before ++ put-items made s) base standing → AreStanding flat (before ++ put-items made s) (with_symbols base (map (λ (r : Replaced). r.parameter) rs) (length before)) (with_replaced standing rs)
  symbols-stand constant s before [] [] base standing all stays = stays
  symbols-stand constant s before [] (r ∷ rs) base standing all stays = absurd all
  symbols-stand constant s before (a ∷ made) [] base standing all stays = absurd all
  symbols-stand constant s before (a ∷ made) (r ∷ rs) base standing all stays =
      let x = text_at flat a.root s in
      let xs = put-items made s in
      let room : length before < length (before ++ (x ∷ xs)) = let e = length-append before (x ∷ xs) in omega (arith, e) in
      let next : length (before ++ (x ∷ [])) ≡ suc (length before) = let e = length-append before (x ∷ []) in omega (arith, e) in
      let moved : (before ++ (x ∷ [])) ++ xs ≡ before ++ (x ∷ xs) = append-append before (x ∷ []) xs in
      let others = symbols-stand constant s (before ++ (x ∷ [])) made rs base standing all.1 (subst (λ t. AreStanding flat t base standing) (sym moved) stays) in
      with-stand-stands flat (before ++ (x ∷ xs)) (with_symbols base (map (λ (r : Replaced). r.parameter) rs) (suc (length before))) (with_replaced standing rs) r.parameter (Place (length before) (order_of r.parameter)) (value_of r.item)
      (subst (λ place. AreStanding flat (before ++ (x ∷ xs)) (with_symbols base (map (λ (r : Replaced). r.parameter) rs) place) (with_replaced standing rs)) next
      (subst (λ t. AreStanding flat t (with_symbols base (map (λ (r : Replaced). r.parameter) rs) (length (before ++ (x ∷ [])))) (with_replaced standing rs)) moved others))
      (room, subst (λ z. IsItem (order_of r.parameter) z [] (value_of r.item)) (sym (at-behind before x xs)) (item-value (order_of r.parameter) x r.item all.0.item))

  replaced-length : (constant : Bool) (s : List Item) (made : List Replacement) (rs : List Replaced) → AreReplaced flat constant s made rs → length (put-items made s) ≡ length rs
  replaced-length constant s [] [] all = refl
  replaced-length constant s [] (r ∷ rs) all = absurd all
  replaced-length constant s (a ∷ made) [] all = absurd all
  replaced-length constant s (a ∷ made) (r ∷ rs) all = ap suc (replaced-length constant s made rs all.1)

  -- entries stand for what stands so behind an instance that guards nothing
  unguarded-stand : (layout : Layout) (frame : List Item) (standing : Environment) (j : ℕ) (x : Instance) (inner : Named → Stand) (entries : Exports) (from : Steps → Expanded) → IsMadeInstance flat layout j x 0 false → length frame ≡ layout.places → AreStanding flat frame layout.stands standing → ((name : Named) → IsStanding flat (put-items x.replacements frame) [] (inner name) (λ arguments path. from (record { name = name; arguments = arguments } ∷ path))) → AreStanding flat frame (with_brought layout.stands entries j inner) (with_entries standing entries from)
  unguarded-stand layout frame standing j x inner entries from is places stands each =
      let room : x.outer ≤ length frame = let outer = is.outer in omega (arith, places, outer) in
      brought-stand flat frame layout.stands standing entries j inner from stands (λ name.
      let value : Value = λ arguments path. from (record { name = name; arguments = arguments } ∷ path) in (
        x,
        (is.there, is.parameters, room),
        subst (λ t. IsStanding flat (put-items x.replacements t) (cond x.guards (guards_of flat (text_at flat) x.replacements t) []) (inner name) value) (sym (append-nil (take x.outer frame) ∙ take-all x.outer frame (places ∙ sym is.outer)))
            (subst (λ b. IsStanding flat (put-items x.replacements frame) (cond b (guards_of flat (text_at flat) x.replacements frame) []) (inner name) value) (sym is.guards) (each name)),
      ))

  -- what an extended module brings
  pub extended-stand : (layout : Layout) (frame : List Item) (standing parameters : Environment) (j : ℕ) (x : Instance) (outside : Outside) (stands here : Meaning → Stand) (places : ℕ) (inner : Named → Stand) (entries : Exports) → IsMadeInstance flat layout j x 0 false → length x.replacements ≡ places → IsModule flat stands places inner outside → ((meaning : Meaning) → StaysIn flat x.replacements (stands meaning) (here meaning)) → length frame ≡ layout.places → AreStanding flat frame here parameters → AreStanding flat frame layout.stands standing → AreStanding flat frame (with_brought layout.stands entries j inner) (with_entries standing entries (outside.standing parameters))
  extended-stand layout frame standing parameters j x outside stands here places inner entries is many kept stays room symbols others =
      unguarded-stand layout frame standing j x inner entries (outside.standing parameters) is room others (λ name.
      kept (put-items x.replacements frame) parameters (put-length frame x.replacements ∙ many)
      (λ meaning. stays-stand frame x.replacements (stands meaning) (here meaning) (parameters meaning) (stays meaning) (symbols meaning)) name)

  -- a node that is a parameter is the item at its place
  pub parameter-stays : (r : Replacement) (node : FlatNode) (place : ℕ) → IsOrdered flat → slice_get flat.nodes r.root ≡ Some node → node.form ≡ NodeForm.Parameter place → IsStaying flat r place
  parameter-stays r node place ordered there form s =
      text-step flat r.root node s ordered there ∙ ap (λ g. form_item flat (text_at flat) g node.parts s) form

  -- symbols that stay
  pub symbols-stay : (made : List Replacement) (base here : Meaning → Stand) (symbols : List Meaning) (number : ℕ) → ((meaning : Meaning) → StaysIn flat made (base meaning) (here meaning)) → AllStay flat made here symbols number → (meaning : Meaning) → StaysIn flat made (with_symbols base symbols number meaning) (here meaning)
  symbols-stay made base here [] number leaves all other = leaves other
  symbols-stay made base here (meaning ∷ rest) number leaves all other = by_sameness (symbols-stay made base here rest (suc number) leaves all.1 other) (same_standing other meaning) refl
    where
      by_sameness : StaysIn flat made (with_symbols base rest (suc number) other) (here other) → (b : Bool) → same_standing other meaning ≡ b → StaysIn flat made (cond b (Place number (order_of meaning)) (with_symbols base rest (suc number) other)) (here other)
      by_sameness others true e = all.0 other e
      by_sameness others false e = others

  module _ (text : Text) (known : Known) (named : List ℕ → Outside) where
    parameter-of : (around : Around) (l : Lexeme) (p : Named × Meaning) (o : Option Written) → (replaced_by around l p o).parameter ≡ p.1
    parameter-of around l p None = refl
    parameter-of around l p (Some right) = refl

    parameters-of : (around : Around) (l : Lexeme) (rights : List Written) (ps : Exports) → map (λ (r : Replaced). r.parameter) (map (λ (p : Named × Meaning). replaced_by around l p (written_for rights p.0)) ps) ≡ map (λ (p : Named × Meaning). p.1) ps
    parameters-of around l rights [] = refl
    parameters-of around l rights (p ∷ ps) =
        ap (λ m. m ∷ map (λ (r : Replaced). r.parameter) (map (λ (p : Named × Meaning). replaced_by around l p (written_for rights p.0)) ps)) (parameter-of around l p (written_for rights p.0))
        ∙ ap (λ ms. p.1 ∷ ms) (parameters-of around l rights ps)

    abbrev by-found : Around → Steps → Option (Lexeme × Trees) → Expanded
    by-found around path None = Given None
    by-found around path (Some found) = behind_instance text known named around found.0 (replacements text known named around found.0 (right_sides text known named around found.1)) path

    through-found : (around : Around) (parts : Trees) (path : Steps) → through text known named around parts path ≡ by-found around path (instance_in parts)
    through-found around Nil path = refl
    through-found around (Cons (Node (Form.Instance l) s parts) rest) path = refl
    through-found around (Cons (Node form s parts) rest) path = through-found around rest path

    through-first : (around : Around) (parts : Trees) (l : Lexeme) (rights : Trees) (path : Steps) → instance_in parts ≡ Some (l, rights) → through text known named around parts path ≡ behind_instance text known named around l (replacements text known named around l (right_sides text known named around rights)) path
    through-first around parts l rights path e = through-found around parts path ∙ ap (by-found around path) e

    -- what a module exports, over the frame behind an instance
    exports-stand : (layout : Layout) (s : List Item) (around : Around) (staying made : List Replacement) (l : Lexeme) (rights : Trees) (base : Meaning → Stand) (inner : Named → Stand) → AreStanding flat s layout.stands around.standing → ((meaning : Meaning) → StaysIn flat staying (base meaning) (layout.stands meaning)) → IsModuleBehind flat base (length staying) inner (module_of text known named l) → AreReplaced flat (module_of text known named l).is_constant s made (replacements text known named around l (right_sides text known named around rights)) → (name : Named) → IsStanding flat (put-items staying s ++ put-items made s) [] (inner name) (exported_value (module_of text known named l) (with_replaced around.standing (replacements text known named around l (right_sides text known named around rights))) name)
    exports-stand layout s around staying made l rights base inner standing stays kept all name =
        let rs = replacements text known named around l (right_sides text known named around rights) in
        let symbols = symbols_of (module_of text known named l) in
        let names : map (λ (r : Replaced). r.parameter) rs ≡ symbols = parameters-of around l (right_sides text known named around rights) (module_of text known named l).view.parameters in
        let many : length (put-items made s) ≡ length symbols =
        replaced-length (module_of text known named l).is_constant s made rs all ∙ sym (length-map rs (λ (r : Replaced). r.parameter)) ∙ ap length names in
        let front : length (put-items staying s) ≡ length staying = put-length s staying in
        let both : length (put-items staying s ++ put-items made s) ≡ length staying + length symbols =
        let e = length-append (put-items staying s) (put-items made s) in omega (arith, e, many, front) in
        let left : AreStanding flat (put-items staying s ++ put-items made s) base around.standing =
        all-grown flat (put-items staying s) (put-items made s) base around.standing (λ meaning. stays-stand s staying (base meaning) (layout.stands meaning) (around.standing meaning) (stays meaning) (standing meaning)) in
        let placed = symbols-stand (module_of text known named l).is_constant s (put-items staying s) made rs base around.standing all left in
        kept (put-items staying s ++ put-items made s) (with_replaced around.standing rs) both
        (subst (λ ms. AreStanding flat (put-items staying s ++ put-items made s) (with_symbols base ms (length staying)) (with_replaced around.standing rs)) names
        (subst (λ n. AreStanding flat (put-items staying s ++ put-items made s) (with_symbols base (map (λ (r : Replaced). r.parameter) rs) n) (with_replaced around.standing rs)) front placed))
        name

    pub instance-stands : (layout : Layout) (own : Lexeme) (sp : Span) (parts : Trees) (j : ℕ) (x : Instance) (l : Lexeme) (rights : Trees) (staying made : List Replacement) (base : Meaning → Stand) (inner : Named → Stand) → IsMadeInstance flat layout j x (length (parameters_of text (Form.ModuleDefinition own) parts)) true → PutsInBehind x staying made → instance_in parts ≡ Some (l, rights) → IsModuleBehind flat base (length staying) inner (module_of text known named l) → ((meaning : Meaning) → StaysIn flat staying (base meaning) ((layout_with text layout (Form.ModuleDefinition own) parts).stands meaning)) → ArePutIn flat text known named (layout_with text layout (Form.ModuleDefinition own) parts) made l rights → Stands flat layout (Through j (map order_of (parameters_of text (Form.ModuleDefinition own) parts)) inner) (λ around. defined_value text known named around (Node (Form.ModuleDefinition own) sp parts))
    instance-stands layout own sp parts j x l rights staying made base inner is behind first kept stays put frame around agrees =
        let room : x.outer ≤ length frame = let outer = is.outer in let e = agrees.places in omega (arith, e, outer) in (
          x,
          (is.there, is.parameters ∙ sym (length-map (parameters_of text (Form.ModuleDefinition own) parts) order_of), room),
          λ given arguments fits name.
              let scoped = with_parameters text known named around (Form.ModuleDefinition own) parts arguments in
              let more = layout_with text layout (Form.ModuleDefinition own) parts in
              let agrees-on = with-agrees flat text known named layout frame around agrees (Form.ModuleDefinition own) parts given arguments fits in
              let constant = (module_of text known named l).is_constant in
              let rs = replacements text known named scoped l (right_sides text known named scoped rights) in
              let s = frame ++ given in
              let all = put s scoped agrees-on in
              let new = put-items staying s ++ put-items made s in
              let value = exported_value (module_of text known named l) (with_replaced scoped.standing rs) name in
              let gs = map (guard_of constant) rs in
              let guarded-value : Value = λ others path. guard gs (value others path) in
              let whole : Value = λ others path. through text known named scoped parts (record { name = name; arguments = others } ∷ path) in
              let plain = exports-stand more s scoped staying made l rights base inner agrees-on.standing stays kept all name in
              let under = subst (λ g. IsStanding flat new g (inner name) guarded-value) (guards-nil gs) (guarded new gs [] (inner name) value plain) in
              let own-guards = subst (λ g. IsStanding flat new g (inner name) guarded-value) (sym (guards-behind s staying made behind.unbounded ∙ guards-met constant s made rs all)) under in
              let same : guarded-value ≡ whole = fun_ext (λ others. fun_ext (λ path. sym (through-first scoped parts l rights (record { name = name; arguments = others } ∷ path) first))) in
              let as-whole = subst (λ v. IsStanding flat new (guards_of flat (text_at flat) (staying ++ made) s) (inner name) v) same own-guards in
              let as-one = subst (λ t. IsStanding flat t (guards_of flat (text_at flat) (staying ++ made) s) (inner name) whole) (sym (put-append s staying made)) as-whole in
              let as-put = subst (λ ds. IsStanding flat (put-items ds s) (guards_of flat (text_at flat) ds s) (inner name) whole) (sym behind.replacements) as-one in
              subst (λ t. IsStanding flat (put-items x.replacements (t ++ given)) (cond x.guards (guards_of flat (text_at flat) x.replacements (t ++ given)) []) (inner name) whole) (sym (take-all x.outer frame (agrees.places ∙ sym is.outer)))
              (subst (λ b. IsStanding flat (put-items x.replacements s) (cond b (guards_of flat (text_at flat) x.replacements s) []) (inner name) whole) (sym is.guards) as-put),
        )

    pub brought-agrees : (layout : Layout) (frame : List Item) (around : Around) (j : ℕ) (x : Instance) (l : Lexeme) (sp : Span) (rights : Trees) (staying made : List Replacement) (base : Meaning → Stand) (inner : Named → Stand) (entries : Exports) → IsMadeInstance flat layout j x 0 false → PutsInBehind x staying made → IsModuleBehind flat base (length staying) inner (module_of text known named l) → ((meaning : Meaning) → StaysIn flat staying (base meaning) (layout.stands meaning)) → ArePutIn flat text known named layout made l rights → Agrees flat layout frame around → AreStanding flat frame (with_brought layout.stands entries j inner) (bringing text known named around entries (Node (Form.Instance l) sp rights))
    brought-agrees layout frame around j x l sp rights staying made base inner entries is behind kept stays put agrees =
        let rs = replacements text known named around l (right_sides text known named around rights) in
        unguarded-stand layout frame around.standing j x inner entries (unguarded text known named around (Node (Form.Instance l) sp rights)) is agrees.places agrees.standing (λ name.
        let value = exported_value (module_of text known named l) (with_replaced around.standing rs) name in
        let plain = exports-stand layout frame around staying made l rights base inner agrees.standing stays kept (put frame around agrees) name in
        subst (λ ds. IsStanding flat (put-items ds frame) [] (inner name) value) (sym behind.replacements)
        (subst (λ t. IsStanding flat t [] (inner name) value) (sym (put-append frame staying made)) plain))
