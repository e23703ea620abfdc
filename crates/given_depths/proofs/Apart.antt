-- No name is declared by two units of a text, nor comes through two INSTANCEs.
use Rattle.std.proofs.Common.{◌≡◌, ℕ, suc, zero, ◌+◌, ◌≤◌, Bool, true, false, cond, List, [], ◌∷◌, ◌++◌, ◌⊎◌, inl, inr, Option, Some, is_some, map, refl, sym, ap, ◌∙◌, subst, arith, append_assoc, eq-eqb, eqb-true, nat_eq}
use Rattle.std.specs.Prelude.{◌||◌}
use Rattle.std.specs.List.{AllByRecursion}
use Rattle.std.specs.Str.{bytes_eq}
use Rattle.std.proofs.lemmas.Bool.{and_parts}
use Rattle.list_laws.proofs.Texts.{text-itself}
use Rattle.tla_symbols.specs.declared.lexeme.Lexeme.{Lexeme}
use Rattle.tla_symbols.specs.declared.lexeme.Span.{Span}
use Rattle.tla_tree.specs.declared.form.Form.TheVariants as Form
use Rattle.tla_tree.specs.Syntax.{Tree, Trees, Node, Nil, Cons}
use Rattle.unit_grammar.specs.Units.{UnitTree, Variables, Constants, OperatorDefinition, FunctionDefinition, ModuleDefinition, Instance, Assumption, Theorem, Line, ModuleBegin, ModuleEnd, ModuleUnits}
use Rattle.tla_model.specs.declared.entity.Entity.TheVariants as entity
use Rattle.tla_model.specs.declared.ids.Callee.{Callee}
use Rattle.tla_model.specs.declared.ids.UnitId.{UnitId}
use Rattle.tla_model.specs.declared.names.Binder.{Binder}
use Rattle.tla_model.specs.declared.names.Binding.TheVariants as as_binding
use Rattle.tla_model.specs.declared.names.Meaning.TheVariants.{BuiltIn, Declared}
use Rattle.tla_model.specs.Entities.{Entity, Meaning, Text, binding_in, binding_of, bound_as, declaration, declared_among, declared_by, declared_in, declared_round, declaring, defined, follows_first, meant, orders, place_in, placed, same_decl, same_meaning, same_units, within}
use Rattle.tla_model.specs.EntityKinds.{is_meant, stands_behind}
use Rattle.tla_model.specs.Lexemes.{all_lexemes, lexemes, module_lexemes, unit_lexemes, units_lexemes}
use Rattle.tla_model.specs.ModuleNames.{instance_names, instances_from}
use Rattle.tla_model.specs.Scopes.{definition}
use Rattle.tla_model.specs.Tables.{Named}
use Rattle.tla_model.specs.Same.{decl-equal, units-equal}
use Rattle.module_model.specs.Exports.{Exports, exported, instantiable}
use Rattle.module_model.specs.Instances.{brought_entries, through}
use Rattle.module_model.specs.Modules.{text_of}
use Rattle.module_model.specs.NamedModules.{unit_of, view_of}
use Rattle.module_model.specs.Resolution.{module_named, words_of}
use Rattle.tree_kinds.specs.Standing.{Outside, name_among, same_standing}
use Rattle.tree_kinds.proofs.Standings.{standing-means}
use Rattle.module_kinds.specs.ModuleKinds.{KindState, after, views}
use Rattle.flat_kinds.specs.Readings.{is_among}
use Rattle.lexeme_laws.specs.Apart.{begins_at, counted, weight}
use Rattle.module_meanings.proofs.Staying.{AreBehind, instantiable-behind, leaf-left}
use Rattle.given_depths.specs.Own.{AreOwnApart, IsOfNone, IsOfOthers, if_replaced, is_own, own_brings}
use Rattle.given_depths.proofs.Own.{left-own}

-- ---- places

module _ {A : Type 0} (f : A → ℕ) where
  -- one of these begins there
  abbrev Has : ℕ → List A → Type 0
  Has start [] = ⊥
  Has start (x ∷ rest) = (f x ≡ start) ⊎ Has start rest

  has-left : (start : ℕ) (a b : List A) → Has start a → Has start (a ++ b)
  has-left start [] b has = absurd has
  has-left start (x ∷ a) b (inl here) = inl here
  has-left start (x ∷ a) b (inr later) = inr (has-left start a b later)

  has-right : (start : ℕ) (a b : List A) → Has start b → Has start (a ++ b)
  has-right start [] b has = has
  has-right start (x ∷ a) b has = inr (has-right start a b has)

  -- where one begins at a place no other number has that place
  place-same : (xs : List A) (a b : ℕ) → Has a xs → place_in (map f xs) a ≡ place_in (map f xs) b → a ≡ b
  place-same [] a b has same = absurd has
  place-same (x ∷ rest) a b has same = by_first (nat_eq (f x) a) refl (nat_eq (f x) b) refl same has (place-same rest a b)
    where
      by_first : (s : Bool) → nat_eq (f x) a ≡ s → (t : Bool) → nat_eq (f x) b ≡ t → cond s zero (suc (place_in (map f rest) a)) ≡ cond t zero (suc (place_in (map f rest) b)) → (f x ≡ a) ⊎ Has a rest → (Has a rest → place_in (map f rest) a ≡ place_in (map f rest) b → a ≡ b) → a ≡ b
      by_first true s true t same has later = sym (eqb-true (f x) a s) ∙ eqb-true (f x) b t
      by_first true s false t same has later = absurd (cc same)
      by_first false s true t same has later = absurd (cc same)
      by_first false s false t same (inl here) later = let never : true ≡ false = sym (eq-eqb (f x) a here) ∙ s in absurd (cc never)
      by_first false s false t same (inr there) later = later there (cc)

-- where a name begins
abbrev begins : Binder → ℕ
begins binder = binder.name.span.start

-- where a lexeme begins
abbrev lexeme_begins : Lexeme → ℕ
lexeme_begins l = l.span.start

-- ---- lists

none-append : {A : Type 0} (v : List A) (u : A) → [] ≡ v ++ u ∷ [] → ⊥
none-append [] u same = cc same
none-append (x ∷ v) u same = cc same

last-same : {A : Type 0} (v w : List A) (a b : A) → v ++ a ∷ [] ≡ w ++ b ∷ [] → a ≡ b
last-same [] [] a b same = cc
last-same {A} [] (y ∷ w) a b same = let never : [] ≡ w ++ b ∷ [] = cc in absurd (none-append w b never)
last-same (x ∷ v) [] a b same = let never : [] ≡ v ++ a ∷ [] = cc in absurd (none-append v a never)
last-same (x ∷ v) (y ∷ w) a b same = last-same v w a b (cc)

counts-append : (p : Lexeme → Bool) (a b : List Lexeme) → counted p (a ++ b) ≡ counted p a + counted p b
counts-append p [] b = omega arith
counts-append p (x ∷ a) b = omega (arith, counts-append p a b)

units-append : (p : Lexeme → Bool) (a b : List UnitTree) → counted p (units_lexemes (a ++ b)) ≡ counted p (units_lexemes a) + counted p (units_lexemes b)
units-append p [] b = omega arith
units-append p (unit ∷ a) b = omega (arith, counts-append p (unit_lexemes unit) (units_lexemes (a ++ b)), counts-append p (unit_lexemes unit) (units_lexemes a), units-append p a b)

here-counts : (l : Lexeme) → weight (begins_at l.span.start) l ≡ 1
here-counts l = ap (λ b. cond b 1 0) (eq-eqb l.span.start l.span.start refl)

-- ---- names of units

round-has : (start : ℕ) (form : Form.the_data) (parts : Trees) → Has begins start (defined form parts) → Has begins start (declared_round form parts)
round-has start form Nil has = has
round-has start form (Cons x rest) has =
    has-left begins start (declared_in (binding_of form) x ++ defined form (Cons x rest)) (declared_among (binding_of form) rest) (has-right begins start (declared_in (binding_of form) x) (defined form (Cons x rest)) has)

definition-has : (start : ℕ) (x : Tree) → Has begins start (definition x) → Has begins start (within x)
definition-has start (Node form s parts) has =
    has-right begins start (bound_as (as_binding.Bound false) (placed form)) (cond (follows_first form) (declared_round form parts) (defined form parts ++ declared_among (binding_in (as_binding.Bound false) form) parts)) (by (follows_first form))
  where
    by : (b : Bool) → Has begins start (cond b (declared_round form parts) (defined form parts ++ declared_among (binding_in (as_binding.Bound false) form) parts))
    by true = round-has start form parts has
    by false = has-left begins start (defined form parts) (declared_among (binding_in (as_binding.Bound false) form) parts) has

declaring-has : (start : ℕ) (before : List UnitTree) (unit : UnitTree) (behind : List UnitTree) → Has begins start (declared_by unit) → Has begins start (declaring (before ++ unit ∷ behind))
declaring-has start [] unit behind has = has-left begins start (declared_by unit) (declaring behind) has
declaring-has start (one ∷ before) unit behind has = has-right begins start (declared_by one) (declaring (before ++ unit ∷ behind)) (declaring-has start before unit behind has)

instances-has : (start : ℕ) (before : List UnitTree) (unit : UnitTree) (behind : List UnitTree) → Has lexeme_begins start (instance_names unit) → Has lexeme_begins start (instances_from (before ++ unit ∷ behind))
instances-has start [] unit behind has = has-left lexeme_begins start (instance_names unit) (instances_from behind) has
instances-has start (one ∷ before) unit behind has = has-right lexeme_begins start (instance_names one) (instances_from (before ++ unit ∷ behind)) (instances-has start before unit behind has)

-- the INSTANCEs through which a name came
abbrev via_of : Meaning → List UnitId
via_of BuiltIn = []
via_of (Declared e callee) = callee.via

-- the place of its declaration
abbrev place_of : Meaning → ℕ
place_of BuiltIn = 0
place_of (Declared e callee) = callee.decl.place

-- the module of its declaration
abbrev file_of : Meaning → List ℕ
file_of BuiltIn = []
file_of (Declared e callee) = callee.decl.«module»

-- a name came last through this
abbrev IsThrough : UnitId → Meaning → Type 0
IsThrough u m = (v : List UnitId) × (via_of m ≡ v ++ u ∷ [])

through-same : (u : UnitId) (m o : Meaning) → is_meant stands_behind o ≡ true → same_meaning m (through u o) ≡ true → IsThrough u m
through-same u m BuiltIn behind same = absurd (cc behind)
through-same u BuiltIn (Declared f y) behind same = absurd (cc same)
through-same u (Declared e x) (Declared f y) behind same = (y.via, units-equal x.via (y.via ++ u ∷ []) (and_parts (same_decl x.decl y.decl) (same_units x.via (y.via ++ u ∷ [])) same).1)

through-named : (u : UnitId) (entries : Exports) (m : Meaning) → AreBehind entries → is_some (name_among (map (λ (entry : Named × Meaning). (entry.0, through u entry.1)) entries) m) ≡ true → IsThrough u m
through-named u [] m all is = absurd (cc is)
through-named u (entry ∷ rest) m all is = by_same (same_standing m (through u entry.1)) refl is (through-named u rest m all.1)
  where
    by_same : (b : Bool) → same_standing m (through u entry.1) ≡ b → is_some (cond b (Some entry.0) (name_among (map (λ (e : Named × Meaning). (e.0, through u e.1)) rest) m)) ≡ true → (is_some (name_among (map (λ (e : Named × Meaning). (e.0, through u e.1)) rest) m) ≡ true → IsThrough u m) → IsThrough u m
    by_same true same is later = through-same u m entry.1 all.0 (standing-means m (through u entry.1) same)
    by_same false same is later = later is

through-brought : (u : UnitId) (parameters entries : Exports) (m : Meaning) → AreBehind entries → is_some (name_among (if_replaced parameters (brought_entries u parameters entries)) m) ≡ true → IsThrough u m
through-brought u [] entries m all is = absurd (cc is)
through-brought u (p ∷ ps) entries m all is = through-named u entries m all is

-- ---- units

module _ (source : List ℕ) (units : ModuleUnits) where
  abbrev text : Text
  text = text_of source units

  abbrev words : List ℕ
  words = words_of units

  -- an INSTANCE whose module name begins there
  abbrev unit_at : ℕ → UnitId
  unit_at start = record { «module» = text.file; place = place_in words start }

  -- a name is declared at this place, or came last through an INSTANCE whose module name begins there
  abbrev IsMarkedAt : Meaning → ℕ → Type 0
  IsMarkedAt m start =
      ((via_of m ≡ []) × (place_of m ≡ place_in text.starts start) × Has begins start (declaring units.units) × (file_of m ≡ text.file))
      ⊎ (IsThrough (unit_at start) m × Has lexeme_begins start (instances_from units.units))

  -- a name is marked at one place
  marked-once : (m : Meaning) (a b : ℕ) → IsMarkedAt m a → IsMarkedAt m b → a ≡ b
  marked-once m a b (inl one) (inl two) = place-same begins (declaring units.units) a b one.2 (sym one.1 ∙ two.1)
  marked-once m a b (inl one) (inr two) = absurd (none-append two.0.0 (unit_at b) (sym one.0 ∙ two.0.1))
  marked-once m a b (inr one) (inl two) = absurd (none-append one.0.0 (unit_at a) (sym two.0 ∙ one.0.1))
  marked-once m a b (inr one) (inr two) =
      place-same lexeme_begins (instances_from units.units) a b one.1 (ap (λ (u : UnitId). u.place) (last-same one.0.0 two.0.0 (unit_at a) (unit_at b) (sym one.0.1 ∙ two.0.1)))

  -- a lexeme of a unit marks a name
  record Marks (unit : UnitTree) (m : Meaning) : Type 0 where
    start : ℕ
    held : 1 ≤ counted (begins_at start) (unit_lexemes unit)
    marked : IsMarkedAt m start

  declared-at : (m : Meaning) (e : Entity) (l : Lexeme) → same_meaning m (meant text (record { name = l; entity = e })) ≡ true → (via_of m ≡ []) × (place_of m ≡ place_in text.starts l.span.start) × (file_of m ≡ text.file)
  declared-at BuiltIn e l same = absurd (cc same)
  declared-at (Declared f x) e l same =
      let parts = and_parts (same_decl x.decl (declaration text l)) (same_units x.via []) same in
      (units-equal x.via [] parts.1, ap (λ d. d.place) (decl-equal x.decl (declaration text l) parts.0), ap (λ d. d.«module») (decl-equal x.decl (declaration text l) parts.0))

  alone : (m o : Meaning) → (same_standing m o || false) ≡ true → same_meaning m o ≡ true
  alone m o is = by (same_standing m o) refl is
    where
      by : (b : Bool) → same_standing m o ≡ b → (b || false) ≡ true → same_meaning m o ≡ true
      by true same is = standing-means m o same
      by false same is = absurd (cc is)

  first-held : (l : Lexeme) (ls : List Lexeme) → 1 ≤ counted (begins_at l.span.start) (l ∷ ls)
  first-held l ls = omega (arith, here-counts l)

  -- a definition marks what it defines
  definition-marks : (before : List UnitTree) (unit : UnitTree) (behind : List UnitTree) (x : Tree) → units.units ≡ before ++ unit ∷ behind → declared_by unit ≡ within x → unit_lexemes unit ≡ lexemes x → (m : Meaning) → is_among (map (meant text) (definition x)) m ≡ true → Marks unit m
  definition-marks before unit behind (Node form s parts) split declares holds m is = by_form form s parts declares holds is
    where
      marks : (e : Entity) (l : Lexeme) (x : Tree) → declared_by unit ≡ within x → unit_lexemes unit ≡ lexemes x → Has begins l.span.start (definition x) → 1 ≤ counted (begins_at l.span.start) (lexemes x) → (same_standing m (meant text (record { name = l; entity = e })) || false) ≡ true → Marks unit m
      marks e l x declares holds has held is =
          let at = declared-at m e l (alone m (meant text (record { name = l; entity = e })) is) in
          record {
            start = l.span.start;
            held = subst (λ ls. 1 ≤ counted (begins_at l.span.start) ls) (sym holds) held;
            marked = inl (
              at.0,
              at.1,
              subst (λ us. Has begins l.span.start (declaring us)) (sym split)
                  (declaring-has l.span.start before unit behind (subst (λ bs. Has begins l.span.start bs) (sym declares) (definition-has l.span.start x has))),
              at.2,
            );
          }

      by_form : (form : Form.the_data) (s : Span) (parts : Trees) → declared_by unit ≡ within (Node form s parts) → unit_lexemes unit ≡ lexemes (Node form s parts) → is_among (map (meant text) (definition (Node form s parts))) m ≡ true → Marks unit m
      by_form (Form.OperatorDefinition l) s parts declares holds is = marks (entity.Definition (orders parts)) l (Node (Form.OperatorDefinition l) s parts) declares holds (inl refl) (first-held l (all_lexemes parts)) is
      by_form (Form.PrefixDefinition l) s parts declares holds is = marks (entity.Definition (orders parts)) l (Node (Form.PrefixDefinition l) s parts) declares holds (inl refl) (first-held l (all_lexemes parts)) is
      by_form (Form.InfixDefinition l) s parts declares holds is = marks (entity.Definition (orders parts)) l (Node (Form.InfixDefinition l) s parts) declares holds (inl refl) (first-held l (all_lexemes parts)) is
      by_form (Form.PostfixDefinition l) s parts declares holds is = marks (entity.Definition (orders parts)) l (Node (Form.PostfixDefinition l) s parts) declares holds (inl refl) (first-held l (all_lexemes parts)) is
      by_form (Form.FunctionDefinition l) s parts declares holds is = marks (entity.Definition []) l (Node (Form.FunctionDefinition l) s parts) declares holds (inl refl) (first-held l (all_lexemes parts)) is
      by_form (Form.ModuleDefinition l) s parts declares holds is = marks (entity.Instance (orders parts)) l (Node (Form.ModuleDefinition l) s parts) declares holds (inl refl) (first-held l (all_lexemes parts)) is
      by_form _ s parts declares holds is = absurd (cc is)

  module _ (files : List ℕ → Outside) where
    -- an INSTANCE marks what comes through it
    instance-marks : (before : List UnitTree) (local : Option Lexeme) (behind : List UnitTree) (x : Tree) (state : KindState) → units.units ≡ before ++ Instance local x ∷ behind → (m : Meaning) → is_some (name_among (own_brings text files words state x) m) ≡ true → Marks (Instance local x) m
    instance-marks before local behind (Node (Form.Instance l) s rights) state split m is =
        let view = view_of text (module_named text (views text files words) words state.read) l in
        record {
          start = l.span.start;
          held = first-held l (all_lexemes rights);
          marked = inr (
            through-brought (unit_of text words l) view.parameters (instantiable (exported view)) m (instantiable-behind (exported view)) is,
            subst (λ us. Has lexeme_begins l.span.start (instances_from us)) (sym split) (instances-has l.span.start before (Instance local (Node (Form.Instance l) s rights)) behind (inl refl)),
          );
        }
    instance-marks before local behind (Node form s parts) state split m is = absurd (cc is)

    -- a unit marks its own names
    unit-marks : (before : List UnitTree) (unit : UnitTree) (behind : List UnitTree) (state : KindState) → units.units ≡ before ++ unit ∷ behind → (m : Meaning) → is_own text files words state unit m ≡ true → Marks unit m
    unit-marks before (OperatorDefinition local x) behind state split m is = definition-marks before (OperatorDefinition local x) behind x split refl refl m is
    unit-marks before (FunctionDefinition local x) behind state split m is = definition-marks before (FunctionDefinition local x) behind x split refl refl m is
    unit-marks before (ModuleDefinition local x) behind state split m is = definition-marks before (ModuleDefinition local x) behind x split refl refl m is
    unit-marks before (Instance local x) behind state split m is = instance-marks before local behind x state split m is
    unit-marks before (Variables names) behind state split m is = absurd (cc is)
    unit-marks before (Constants declarations) behind state split m is = absurd (cc is)
    unit-marks before (Assumption word name x) behind state split m is = absurd (cc is)
    unit-marks before (Theorem word name x) behind state split m is = absurd (cc is)
    unit-marks before (Line dashes) behind state split m is = absurd (cc is)
    unit-marks before (ModuleBegin dashes name extends) behind state split m is = absurd (cc is)
    unit-marks before (ModuleEnd closing) behind state split m is = absurd (cc is)

    step : (before : List UnitTree) (unit : UnitTree) (behind : List UnitTree) → units.units ≡ before ++ unit ∷ behind → units.units ≡ (before ++ unit ∷ []) ++ behind
    step before unit behind split = split ∙ sym (append_assoc before (unit ∷ []) behind)

    -- units without a lexeme at the place where a name is marked have it not among their own
    none-marked : (before behind : List UnitTree) (state : KindState) (m : Meaning) (start : ℕ) → units.units ≡ before ++ behind → IsMarkedAt m start → counted (begins_at start) (units_lexemes behind) ≤ 0 → IsOfNone text files words state behind m
    none-marked before [] state m start split marked none = tt
    none-marked before (unit ∷ behind) state m start split marked none =
        (by_own (is_own text files words state unit m) refl, none-marked (before ++ unit ∷ []) behind (after text files words state unit) m start (step before unit behind split) marked (omega (arith, none, counts-append (begins_at start) (unit_lexemes unit) (units_lexemes behind))))
      where
        by_own : (b : Bool) → is_own text files words state unit m ≡ b → is_own text files words state unit m ≡ false
        by_own false is = is
        by_own true is =
            let marks : Marks unit m = unit-marks before unit behind state split m is in
            let held : 1 ≤ counted (begins_at start) (unit_lexemes unit) = subst (λ s. 1 ≤ counted (begins_at s) (unit_lexemes unit)) (sym (marked-once m start marks.start marked marks.marked)) marks.held in
            absurd (omega (arith, none, held, counts-append (begins_at start) (unit_lexemes unit) (units_lexemes behind)))

    -- no name is so by two units
    own-apart : (before behind : List UnitTree) (state : KindState) → ((start : ℕ) → counted (begins_at start) (units_lexemes units.units) ≤ 1) → units.units ≡ before ++ behind → AreOwnApart text files words state behind
    own-apart before [] state once split = tt
    own-apart before (unit ∷ behind) state once split = (
      (λ m is.
          let marks : Marks unit m = unit-marks before unit behind state split m is in
          let few : counted (begins_at marks.start) (units_lexemes (before ++ unit ∷ behind)) ≤ 1 = subst (λ us. counted (begins_at marks.start) (units_lexemes us) ≤ 1) split (once marks.start) in
          none-marked (before ++ unit ∷ []) behind (after text files words state unit) m marks.start (step before unit behind split) marks.marked
          (omega (arith, few, marks.held, units-append (begins_at marks.start) before (unit ∷ behind), counts-append (begins_at marks.start) (unit_lexemes unit) (units_lexemes behind)))),
      own-apart (before ++ unit ∷ []) behind (after text files words state unit) once (step before unit behind split),
    )

    -- in a module whose lexemes begin apart
    pub module-apart : (state : KindState) → ((start : ℕ) → counted (begins_at start) (module_lexemes units) ≤ 1) → AreOwnApart text files words state units.units
    module-apart state once =
        own-apart [] units.units state
        (λ start. omega (arith, once start, counts-append (begins_at start) units.extends (units_lexemes units.units))) refl

    -- ---- names of other modules

    apart-through : (u : UnitId) (via v : List UnitId) → via ≡ v ++ u ∷ [] → AllByRecursion (λ (other : UnitId). bytes_eq other.«module» text.file ≡ false) via → bytes_eq u.«module» text.file ≡ false
    apart-through u via v same all = last u v (subst (λ us. AllByRecursion (λ (other : UnitId). bytes_eq other.«module» text.file ≡ false) us) same all)
      where
        last : (u : UnitId) (v : List UnitId) → AllByRecursion (λ (other : UnitId). bytes_eq other.«module» text.file ≡ false) (v ++ u ∷ []) → bytes_eq u.«module» text.file ≡ false
        last u [] all = all.0
        last u (x ∷ v) all = last u v all.1

    file-itself : bytes_eq text.file text.file ≡ true
    file-itself = text-itself text.file text.file refl

    -- a declared name that is marked is of this module
    marked-here : (e : Entity) (callee : Callee) (start : ℕ) → IsMarkedAt (Declared e callee) start → IsOfOthers text.file (Declared e callee) → ⊥
    marked-here e callee start (inl one) others =
        let never : true ≡ false = sym file-itself ∙ (ap (λ file. bytes_eq file text.file) (sym one.3) ∙ others.0) in
        cc never
    marked-here e callee start (inr one) others =
        let never : true ≡ false = sym file-itself ∙ apart-through (unit_at start) callee.via one.0.0 one.0.1 others.1 in
        cc never

    other-own : (before : List UnitTree) (unit : UnitTree) (behind : List UnitTree) (state : KindState) (m : Meaning) → units.units ≡ before ++ unit ∷ behind → IsOfOthers text.file m → is_own text files words state unit m ≡ false
    other-own before unit behind state BuiltIn split others = left-own text files words state unit BuiltIn (leaf-left text files words state unit BuiltIn (inl refl))
    other-own before unit behind state (Declared e callee) split others = by_own (is_own text files words state unit (Declared e callee)) refl
      where
        by_own : (b : Bool) → is_own text files words state unit (Declared e callee) ≡ b → is_own text files words state unit (Declared e callee) ≡ false
        by_own false is = is
        by_own true is =
            let marks : Marks unit (Declared e callee) = unit-marks before unit behind state split (Declared e callee) is in
            absurd (marked-here e callee marks.start marks.marked others)

    -- names of other modules are none of those that units have of their own
    pub others-none : (before behind : List UnitTree) (state : KindState) (m : Meaning) → units.units ≡ before ++ behind → IsOfOthers text.file m → IsOfNone text files words state behind m
    others-none before [] state m split others = tt
    others-none before (unit ∷ behind) state m split others =
        (other-own before unit behind state m split others, others-none (before ++ unit ∷ []) behind (after text files words state unit) m (step before unit behind split) others)
