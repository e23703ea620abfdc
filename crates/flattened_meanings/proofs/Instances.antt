-- The names of module definitions stand for what is behind these.
use Rattle.std.proofs.Common.{◌≡◌, ℕ, zero, suc, ◌+◌, ◌<◌, Bool, true, List, [], ◌∷◌, ◌++◌, Option, Some, None, map, refl, sym, ap, ◌∙◌, subst, length, arith}
use Rattle.std.specs.Prelude.{slice_get}
use Rattle.std.specs.List.{AllByRecursion}
use Rattle.tla_symbols.specs.declared.lexeme.Lexeme.{Lexeme}
use Rattle.tla_symbols.specs.declared.lexeme.Span.{Span}
use Rattle.tla_tree.specs.declared.form.Form.TheVariants as Form
use Rattle.tla_tree.specs.Syntax.{Tree, Trees, Node, Nil, Cons}
use Rattle.tla_model.specs.declared.entity.Entity.TheVariants as entity
use Rattle.tla_model.specs.declared.names.Binding.TheVariants as as_binding
use Rattle.tla_model.specs.declared.names.Meaning.TheVariants.{Declared}
use Rattle.tla_model.specs.Lexemes.{spelled}
use Rattle.tla_model.specs.Tables.{Named}
use Rattle.tla_model.specs.Entities.{Meaning, Module, Text, declaration, declared_in, defined, defines, orders, own}
use Rattle.tla_model.specs.Contexts.{Context}
use Rattle.tla_model.specs.Scopes.{all_grouped, binders, scope}
use Rattle.module_model.specs.Exports.{Behind, Known, at_path, behind_instance as behind_view, behind_meaning, entry_of, onward}
use Rattle.module_model.specs.Instances.{instance_among, left_sides}
use Rattle.kind_text.specs.FlatModule.{FlatModule, Form as NodeForm, Instance, IsOrdered, Replacement}
use Rattle.tree_kinds.specs.Standing.{Outside}
use Rattle.tree_kinds.specs.Expanding.{defined_value, module_of, right_sides}
use Rattle.flat_trees.specs.Stands.{Stand, Unsaid, Leaf, Place, Defined, Through, Brought}
use Rattle.flat_trees.specs.Layouts.{Layout, Stands, layout_with, order_of, parameters_of}
use Rattle.flat_trees.specs.Instances.{IsMadeInstance, IsModuleBehind, PutsInBehind, StaysIn, instance_in}
use Rattle.flat_trees.proofs.Instances.{instance-stands, parameter-stays}
use Rattle.flattened_trees.specs.Leads.{FlatFace, Lead, Setting, behind_instance, with_parameters}
use Rattle.flattened_trees.specs.Questions.{Question}
use Rattle.flattened_trees.specs.NodeForms.{plain_node}
use Rattle.flattened_trees.specs.Flattened.{AreReplacing, AreRights, AreStaying, IsInstance, IsThrough, Right, face_of}
use Rattle.flattened_trees.specs.Readable.{AreImplied, AreReadableRights, IsFaceFor, IsKnownBehind, IsReadableThrough}
use Rattle.flattened_trees.specs.Agreeing.{TakesAs, TakesBehind, lead_by}
use Rattle.flattened_meanings.specs.Faces.{StandsAs}
use Rattle.flattened_meanings.specs.Definitions.{IsOfModule, StandsFor}
use Rattle.flattened_meanings.proofs.Fresh.{Fresh, fresh-left, fresh-right, seen-with, whole-names}
use Rattle.flattened_meanings.proofs.Rounds.{Knows, parameters-known}
use Rattle.flattened_meanings.proofs.Operands.{Each}
use Rattle.flattened_meanings.proofs.Forms.{names-fresh, scope-fresh}
use Rattle.flattened_meanings.proofs.Definitions.{module-form, parameter-orders}
use Rattle.flattened_meanings.proofs.Replacing.{replaced-all, rights-found}

-- ---- symbols that stay

module _ (flat : FlatModule) where
  pub staying-many : (place count : ℕ) (staying : List Replacement) → AreStaying flat place count staying → length staying ≡ count
  staying-many place zero [] all = refl
  staying-many place zero (r ∷ staying) all = absurd all
  staying-many place (suc count) [] all = absurd all
  staying-many place (suc count) (r ∷ staying) all = ap suc (staying-many (suc place) count staying all.2)

  staying-unbounded : (place count : ℕ) (staying : List Replacement) → AreStaying flat place count staying → AllByRecursion (λ (r : Replacement). r.most ≡ None) staying
  staying-unbounded place zero [] all = tt
  staying-unbounded place zero (r ∷ staying) all = absurd all
  staying-unbounded place (suc count) [] all = absurd all
  staying-unbounded place (suc count) (r ∷ staying) all = (all.1, staying-unbounded (suc place) count staying all.2)

  -- the replacement with a number is the symbol so far behind the first
  staying-at : (place count : ℕ) (staying : List Replacement) (i : ℕ) → AreStaying flat place count staying → i < count → (r : Replacement) × (slice_get staying i ≡ Some r) × (slice_get flat.nodes r.root ≡ Some (plain_node (NodeForm.Parameter (place + i)) []))
  staying-at place zero staying i all l = absurd (omega (arith, l))
  staying-at place (suc count) [] i all l = absurd all
  staying-at place (suc count) (r ∷ staying) zero all l =
      let e : place ≡ place + 0 = omega arith in (r, refl, subst (λ p. slice_get flat.nodes r.root ≡ Some (plain_node (NodeForm.Parameter p) [])) e all.0)
  staying-at place (suc count) (r ∷ staying) (suc i) all l =
      let found = staying-at (suc place) count staying i all.2 (omega (arith, l)) in
      let e : suc place + i ≡ place + suc i = omega arith in
      (found.0, found.1, subst (λ p. slice_get flat.nodes found.0.root ≡ Some (plain_node (NodeForm.Parameter p) [])) e found.2)

  pub staying-stays : (ordered : IsOrdered flat) (outer : ℕ) (staying : List Replacement) (base here : Stand) → AreStaying flat 0 outer staying → StandsAs outer base here → StaysIn flat staying base here
  staying-stays ordered outer staying Unsaid here all stands = tt
  staying-stays ordered outer staying (Leaf kind) here all stands = stands
  staying-stays ordered outer staying (Place place order) here all (l, same) =
      let found = staying-at 0 outer staying place all l in
      let e : 0 + place ≡ place = omega arith in (
        found.0,
        place,
        found.1,
        parameter-stays flat found.0 (plain_node (NodeForm.Parameter (0 + place)) []) place ordered found.2 (ap NodeForm.Parameter e),
        same,
      )
  staying-stays ordered outer staying (Defined d orders) here all stands = absurd stands
  staying-stays ordered outer staying (Through j orders inner) here all stands = absurd stands
  staying-stays ordered outer staying (Brought j inner) here all stands = absurd stands

module _ (flat : FlatModule) (text : Text) (known : Known) (named : List ℕ → Outside) (means : ℕ → Option Meaning) (implied : ℕ → List Meaning) (faces : List ℕ → FlatFace) (nameable : List ℕ → Bool) where
  module _ (ordered : IsOrdered flat) (layout : Layout) (setting : Setting) (seen : Meaning → Bool) (knows : Knows flat text known named faces nameable layout setting seen) where
    -- an instance that is written is one of the module that it names
    pub instance-put : (outer count : ℕ) (guards : Bool) (l : Lexeme) (rights : Trees) (written : List Right) (roots : List ℕ) (j : ℕ) (asked more : List Question) → nameable (spelled text.source l) ≡ true → Each flat text known named means implied faces nameable rights → AreRights text means implied faces flat setting l rights written roots asked → IsInstance text means implied faces flat setting outer count guards l written j more → IsFaceFor text known named means implied faces l → AreImplied layout.context (left_sides text.source rights) (module_of text known named l).view.parameters (implied l.span.start) → AreReadableRights text known named means implied faces layout.context (module_of text known named l).view.parameters [] rights → Fresh text seen (whole-names text rights) → IsOfModule flat text known named faces layout outer count guards l rights j
    instance-put outer count guards l rights written roots j asked more can each are (staying, made, there, stay, all) fits stand-in readable fresh =
        let face = knows.modules (spelled text.source l) can in
        let many = (faces (spelled text.source l)).outer in
        let parameters = (module_of text known named l).view.parameters in
        let constant = (module_of text known named l).is_constant in
        let all-by = subst (λ ps. AreReplacing flat setting.leads setting.frame (faces (spelled text.source l)).is_constant written l ps (implied l.span.start) made more) fits.parameters all in
        let all-of = subst (λ c. AreReplacing flat setting.leads setting.frame c written l parameters (implied l.span.start) made more) fits.constant all-by in
        record {
          staying = staying;
          made = made;
          base = face.base;
          inner = face.inner;
          there = there;
          unbounded = staying-unbounded flat 0 many staying stay;
          kept = subst (λ n. IsModuleBehind flat face.base n face.inner (module_of text known named l)) (sym (staying-many flat 0 many staying stay)) face.kept;
          stays = λ m. staying-stays flat ordered many staying (face.base m) (layout.stands m) stay (face.symbols m);
          put = λ frame around agrees.
              replaced-all flat text known named means implied faces nameable ordered layout setting seen knows frame around agrees l constant parameters written (right_sides text known named around rights) (left_sides text.source rights)
              (rights-found flat text known named means implied faces nameable ordered layout setting seen knows frame around agrees rights parameters [] l written roots asked each are readable fresh)
              parameters (implied l.span.start) made more face.apart all-of stand-in;
          leads = face.leads;
          takes = face.takes;
        }

  -- the first INSTANCE among parts, with what is known of it
  record First (context : Context) (outside setting : Setting) (seen : Meaning → Bool) (count : ℕ) (lead : List Named → Lead) (parts : Trees) : Type 0 where
    l : Lexeme
    rights : Trees
    written : List Right
    roots : List ℕ
    j : ℕ
    asked-rights : List Question
    asked-instance : List Question
    is-first : instance_in parts ≡ Some (l, rights)
    is-among : instance_among parts ≡ Some l
    are-rights : AreRights text means implied faces flat setting l rights written roots asked-rights
    is-instance : IsInstance text means implied faces flat setting (length outside.frame) count true l written j asked-instance
    leads : lead ≡ behind_instance j (face_of text means implied faces flat l)
    face : IsFaceFor text known named means implied faces l
    stand-in : AreImplied context (left_sides text.source rights) (module_of text known named l).view.parameters (implied l.span.start)
    readable : AreReadableRights text known named means implied faces context (module_of text known named l).view.parameters [] rights
    each : Each flat text known named means implied faces nameable rights
    fresh : Fresh text seen (whole-names text rights)
    can-name : nameable (spelled text.source l) ≡ true

  -- behind parts that are no INSTANCE
  first-behind : (context : Context) (outside setting : Setting) (seen : Meaning → Bool) (count : ℕ) (lead : List Named → Lead) (x : Tree) (rest : Trees) → instance_in (Cons x rest) ≡ instance_in rest → instance_among (Cons x rest) ≡ instance_among rest → First context outside setting seen count lead rest → First context outside setting seen count lead (Cons x rest)
  first-behind context outside setting seen count lead x rest same among found =
      record {
        l = found.l;
        rights = found.rights;
        written = found.written;
        roots = found.roots;
        j = found.j;
        asked-rights = found.asked-rights;
        asked-instance = found.asked-instance;
        is-first = same ∙ found.is-first;
        is-among = among ∙ found.is-among;
        are-rights = found.are-rights;
        is-instance = found.is-instance;
        leads = found.leads;
        face = found.face;
        stand-in = found.stand-in;
        readable = found.readable;
        each = found.each;
        fresh = found.fresh;
        can-name = found.can-name;
      }

  first-instance : (context : Context) (outside setting : Setting) (seen : Meaning → Bool) (own : Lexeme) (count : ℕ) (lead : List Named → Lead) (parts : Trees) (roots : List ℕ) (asked : List Question) → Each flat text known named means implied faces nameable parts → IsThrough text means implied faces flat outside setting own count parts lead roots asked → IsReadableThrough text known named means implied faces context parts → Fresh text seen (whole-names text parts) → First context outside setting seen count lead parts
  first-instance context outside setting seen own count lead Nil roots asked each made can fresh = absurd can
  first-instance context outside setting seen own count lead (Cons (Node (Form.Instance l) s rights) rest) roots asked each (written, j, a, b, are, is, leads, asks) can fresh =
      record {
        l = l;
        rights = rights;
        written = written;
        roots = roots;
        j = j;
        asked-rights = a;
        asked-instance = b;
        is-first = refl;
        is-among = refl;
        are-rights = are;
        is-instance = is;
        leads = leads;
        face = can.0;
        stand-in = can.1;
        readable = can.2;
        each = each.1;
        fresh = fresh-left text seen (whole-names text rights) (whole-names text rest) fresh;
        can-name = each.3;
      }
  first-instance context outside setting seen own count lead (Cons (Node form s parts) rest) roots asked each made can fresh =
      first-behind context outside setting seen count lead (Node form s parts) rest refl refl
      (first-instance context outside setting seen own count lead rest roots asked each.2 made can (fresh-right text seen _ (whole-names text rest) fresh))

  -- behind the name of an instance stands what is known of it
  known-takes : (own-name : Lexeme) (os : List ℕ) (held : Behind) (j : ℕ) (inner : Named → Stand) → known (declaration text own-name) ≡ Some held → ((name : Named) (next : Meaning) → entry_of (held []) name ≡ Some next → TakesBehind (inner name) (onward held name) next) → TakesBehind (Through j os inner) (behind_meaning known (Some (Declared (entity.Instance os) (own text own-name)))) (Declared (entity.Instance os) (own text own-name))
  known-takes own-name os held j inner e takes = (
    refl,
    subst (λ (o : Option Behind). (name : Named) (next : Meaning) → entry_of (at_path o []) name ≡ Some next → TakesBehind (inner name) (onward (at_path o) name) next) (sym e) takes,
  )

  behind-known-as : (own-name : Lexeme) (o : Option Lexeme) (l : Lexeme) → o ≡ Some l → IsKnownBehind text known named means implied faces own-name o → known (declaration text own-name) ≡ Some (behind_view (module_of text known named l).view)
  behind-known-as own-name o l e is = subst (IsKnownBehind text known named means implied faces own-name) e is

  module _ (ordered : IsOrdered flat) (layout : Layout) (setting : Setting) (seen : Meaning → Bool) (knows : Knows flat text known named faces nameable layout setting seen) (own-name : Lexeme) (s : Span) (parts : Trees) (new : Fresh text seen (declared_in as_binding.Constant (Node (Form.ModuleDefinition own-name) s parts))) where
    -- in the scope of the parameters: the form, the layout, the setting, and which names were seen
    abbrev here : Form.the_data
    here = Form.ModuleDefinition own-name

    abbrev within : Layout
    within = layout_with text layout here parts

    abbrev setting-within : Setting
    setting-within = with_parameters text setting here parts

    abbrev seen-within : Meaning → Bool
    seen-within = seen-with text (defined here parts ++ binders here parts) seen

    inside-known : Knows flat text known named faces nameable within setting-within seen-within
    inside-known = parameters-known flat text known named faces nameable layout setting seen knows here s parts (names-fresh text seen here s parts new) refl

    module _ (lead : List Named → Lead) (first : First within.context setting setting-within seen-within (length (parameters_of text here parts)) lead parts) where
      -- the instance
      is-of : IsOfModule flat text known named faces within (length setting.frame) (length (parameters_of text here parts)) true first.l first.rights first.j
      is-of =
          instance-put ordered within setting-within seen-within inside-known (length setting.frame) (length (parameters_of text here parts)) true first.l first.rights first.written first.roots first.j first.asked-rights first.asked-instance first.can-name first.each first.are-rights first.is-instance first.face first.stand-in first.readable first.fresh

      module-stands : Stands flat layout (Through first.j (map order_of (parameters_of text here parts)) is-of.inner) (λ around. defined_value text known named around (Node here s parts))
      module-stands =
          let x : Instance = record { outer = length setting.frame; parameters = length (parameters_of text here parts); guards = true; replacements = is-of.staying ++ is-of.made } in
          let is : IsMadeInstance flat layout first.j x (length (parameters_of text here parts)) true = record { there = is-of.there; outer = sym knows.settings.places; parameters = refl; guards = refl } in
          let puts : PutsInBehind x is-of.staying is-of.made = record { replacements = refl; unbounded = is-of.unbounded } in
          instance-stands flat text known named layout own-name s parts first.j x first.l first.rights is-of.staying is-of.made is-of.base is-of.inner is puts first.is-first is-of.kept is-of.stays is-of.put

      lead-names : (names : List Named) → lead names ≡ lead_by (Through first.j (map order_of (parameters_of text here parts)) is-of.inner) names
      lead-names [] = ap (λ (f : List Named → Lead). f []) first.leads
      lead-names (name ∷ names) =
          ap (λ (f : List Named → Lead). f (name ∷ names)) first.leads
          ∙ ap (λ (found : Lead). record { path = first.j ∷ found.path; end = found.end }) (is-of.leads name names)

      module-takes : all_grouped parts ≡ [] → IsKnownBehind text known named means implied faces own-name (instance_among parts) → TakesAs (Through first.j (map order_of (parameters_of text here parts)) is-of.inner) (behind_meaning known (Some (Declared (entity.Instance (orders parts)) (own text own-name)))) (Declared (entity.Instance (orders parts)) (own text own-name))
      module-takes none behind =
          subst (λ os. TakesBehind (Through first.j os is-of.inner) (behind_meaning known (Some (Declared (entity.Instance (orders parts)) (own text own-name)))) (Declared (entity.Instance (orders parts)) (own text own-name))) (sym (parameter-orders text here parts refl refl none))
          (known-takes own-name (orders parts) (behind_view (module_of text known named first.l).view) first.j is-of.inner
          (behind-known-as own-name (instance_among parts) first.l first.is-among behind) is-of.takes)

      module-found : all_grouped parts ≡ [] → IsKnownBehind text known named means implied faces own-name (instance_among parts) → StandsFor flat text known named layout (Node here s parts) lead
      module-found none behind =
          record {
            stand = Through first.j (map order_of (parameters_of text here parts)) is-of.inner;
            leads = lead-names;
            stands = module-stands;
            takes = (module-takes none behind, tt);
          }

  pub module-for : (ordered : IsOrdered flat) (layout : Layout) (setting : Setting) (seen : Meaning → Bool) → Knows flat text known named faces nameable layout setting seen → (form : Form.the_data) (s : Span) (parts : Trees) (l : Lexeme) (lead : List Named → Lead) (roots : List ℕ) (asked : List Question) → defines form ≡ Module l → Each flat text known named means implied faces nameable parts → IsThrough text means implied faces flat setting (with_parameters text setting form parts) l (length (parameters_of text form parts)) parts lead roots asked → all_grouped parts ≡ [] → IsKnownBehind text known named means implied faces l (instance_among parts) → IsReadableThrough text known named means implied faces (scope text layout.context form parts) parts → Fresh text seen (declared_in as_binding.Constant (Node form s parts)) → StandsFor flat text known named layout (Node form s parts) lead
  module-for ordered layout setting seen knows form s parts l lead roots asked e each made none behind can fresh =
      subst (λ g. IsThrough text means implied faces flat setting (with_parameters text setting g parts) l (length (parameters_of text g parts)) parts lead roots asked → IsReadableThrough text known named means implied faces (scope text layout.context g parts) parts → Fresh text seen (declared_in as_binding.Constant (Node g s parts)) → StandsFor flat text known named layout (Node g s parts) lead) (sym (module-form form l e))
      (λ made can fresh.
      module-found ordered layout setting seen knows l s parts fresh lead
      (first-instance (scope text layout.context (Form.ModuleDefinition l) parts) setting (with_parameters text setting (Form.ModuleDefinition l) parts) (seen-with text (defined (Form.ModuleDefinition l) parts ++ binders (Form.ModuleDefinition l) parts) seen) l (length (parameters_of text (Form.ModuleDefinition l) parts)) lead parts roots asked each made can (scope-fresh text seen (Form.ModuleDefinition l) s parts fresh))
      none behind) made can fresh
