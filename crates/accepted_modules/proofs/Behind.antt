-- What is known behind instances is what stands behind their declarations.
use Rattle.std.proofs.Common.{◌≡◌, ℕ, Bool, true, false, cond, List, [], ◌∷◌, inl, inr, Option, Some, None, is_some, refl, sym, ap, subst, ◌∙◌}
use Rattle.std.specs.Option.{option_or}
use Rattle.std.specs.Str.{bytes_eq}
use Rattle.std.specs.List.{AllByRecursion}
use Rattle.std.proofs.lemmas.Bool.{false≢true}
use Rattle.list_laws.proofs.Options.{some-there}
use Rattle.list_laws.proofs.Texts.{text-itself}
use Rattle.tla_symbols.specs.declared.lexeme.Lexeme.{Lexeme}
use Rattle.tla_tree.specs.declared.form.Form.TheVariants as Form
use Rattle.tla_tree.specs.Syntax.{Tree, Node}
use Rattle.unit_grammar.specs.Units.{UnitTree, Variables, Constants, OperatorDefinition, FunctionDefinition, ModuleDefinition, Instance, Assumption, Theorem, Line, ModuleBegin, ModuleEnd, ModuleUnits}
use Rattle.tla_model.specs.declared.ids.DeclId.{DeclId}
use Rattle.tla_model.specs.declared.ids.UnitId.{UnitId}
use Rattle.tla_model.specs.declared.names.Meaning.TheVariants.{BuiltIn, Declared}
use Rattle.tla_model.specs.Tables.{Named}
use Rattle.tla_model.specs.Entities.{Meaning, Text, declaration, same_decl, variables}
use Rattle.tla_model.specs.Scopes.{definition}
use Rattle.tla_model.specs.Lexemes.{spelled}
use Rattle.tla_model.specs.Same.{decl-equal}
use Rattle.module_model.specs.Exports.{Behind, Exports, Known, ModuleView, and_known, at_path, behind_meaning, entries_from, entry_of, exported, exports_of, is_instance, known_among, known_as, known_by, none_known, onward}
use Rattle.module_model.specs.Given.{AreReached}
use Rattle.module_model.specs.Instances.{all_named_instances, nested_view, through, unit_trees}
use Rattle.module_model.specs.Modules.{Reading, begun_in, constants, left, nested, text_of, unread}
use Rattle.module_model.specs.NamedModules.{behind_named, exported_known, known_from_all, known_named, module_at, view_of}
use Rattle.module_model.specs.Resolution.{ReadState, after, begun_state, first, inside_nested, instance_brings, known_brought, known_in, module_named, read_all, words_of}
use Rattle.model_laws.specs.Settled.{IsSettled}
use Rattle.model_laws.proofs.Settling.{IsTold, settled-after}
use Rattle.flat_kinds.specs.Declarations.{IsOnce, OfAllKnown}
use Rattle.accepted_modules.specs.Behind.{Behinds, IsForeign, IsForeignView, IsViewBehind, all_known, with_own}
use Rattle.accepted_modules.specs.Named.{AllNamed}
use Rattle.accepted_modules.proofs.Holding.{AreOwn, HoldsPlace, added-known, after-holds, module-says}
use Rattle.accepted_modules.proofs.Tables.{IsThere, table-once, there-first, there-holds}
use Rattle.accepted_modules.proofs.Telling.{IsWithin, all-within, within-on}
use Rattle.accepted_modules.proofs.Views.{declares-keep, extends-keep, joined-keeps}

-- each entry is there, as an entry
pub each-there : (P : Named × Meaning → Type 0) (entries : Exports) → ((name : Named) (m : Meaning) → IsThere entries name m → P (name, m)) → AllByRecursion P entries
each-there P [] each = tt
each-there P (entry ∷ rest) each = (each entry.0 entry.1 (inl (refl, refl)), each-there P rest (λ name m there. each name m (inr there)))

-- behind what is an instance stands this
abbrev held : Bool → Behind → Behind
held b behind path = cond b (behind path) []

-- behind a name stands the same by what is known of it
pub meaning-behind : (known : Known) (behinds : Behinds) (m : Meaning) → ((decl : DeclId) (held : Behind) → known decl ≡ Some held → held ≡ behinds decl)
    → IsTold known m → behind_meaning known (Some m) ≡ behind_meaning (all_known behinds) (Some m)
meaning-behind known behinds BuiltIn right told = refl
meaning-behind known behinds (Declared e callee) right told = by (is_instance e) refl
  where
    by : (b : Bool) → is_instance e ≡ b → held b (at_path (known callee.decl)) ≡ held b (behinds callee.decl)
    by false is = refl
    by true is =
        let there = some-there (known callee.decl) (told is) in
        ap (held true) (ap at_path there.1 ∙ right callee.decl there.0 there.1)

-- ---- names of other modules

foreign-behind : (title : List ℕ) (known : Known) (behinds : Behinds) (name : Named) (m : Meaning) → IsForeign title name m → behind_meaning (all_known behinds) (Some m) ≡ behind_meaning (all_known (with_own title known behinds)) (Some m)
foreign-behind title known behinds name BuiltIn is = refl
foreign-behind title known behinds name (Declared e callee) is =
    ap (λ b. held (is_instance e) (cond b (at_path (known callee.decl)) (behinds callee.decl))) (sym is)

-- behind names of other modules stands what did
pub view-foreign : (title : List ℕ) (known : Known) (behinds : Behinds) (view : ModuleView) → IsViewBehind behinds view → IsForeignView title view → IsViewBehind (with_own title known behinds) view
view-foreign title known behinds view is foreign =
    each-there (λ entry. onward view.entries entry.0 ≡ behind_meaning (all_known (with_own title known behinds)) (Some entry.1)) (exported view)
    (λ name m there.
    there-holds (λ entry. onward view.entries entry.0 ≡ behind_meaning (all_known behinds) (Some entry.1)) (exported view) name m is there
    ∙ foreign-behind title known behinds name m (there-holds (λ entry. IsForeign title entry.0 entry.1) (exported view) name m foreign.entries there))

entry-told : (known : Known) (entries : Exports) (name : Named) → AreReached known entries → (m : Meaning) → entry_of entries name ≡ Some m → IsTold known m
entry-told known entries name reached BuiltIn at = tt
entry-told known entries name reached (Declared e callee) at = reached name e callee at

module _ (title : List ℕ) (final : Known) (behinds : Behinds) where
  -- what stands behind declarations, those of the module among them
  abbrev pub own : Behinds
  own = with_own title final behinds

  -- what is known of the declarations of other modules is what stands behind these
  abbrev pub IsForeignRight : Known → Type 0
  IsForeignRight known = (decl : DeclId) (held : Behind) → known decl ≡ Some held → bytes_eq decl.«module» title ≡ false → held ≡ behinds decl

  none-right : IsForeignRight none_known
  none-right decl held at other = absurd (cc)

  both-right : (a b : Known) → IsForeignRight a → IsForeignRight b → IsForeignRight (and_known a b)
  both-right a b is also decl held at other = by (a decl) refl at
    where
      by : (o : Option Behind) → a decl ≡ o → option_or o (b decl) ≡ Some held → held ≡ behinds decl
      by None e at = also decl held at other
      by (Some found) e at = is decl held (e ∙ at) other

  own-right : (decl : DeclId) (behind : Behind) → bytes_eq decl.«module» title ≡ true → IsForeignRight (known_as decl behind)
  own-right instance behind mine decl held at other = by (same_decl decl instance) refl at
    where
      by : (b : Bool) → same_decl decl instance ≡ b → cond b (Some behind) None ≡ Some held → held ≡ behinds decl
      by true same at = absurd (false≢true (sym other ∙ (ap (λ d. bytes_eq d.«module» title) (decl-equal decl instance same) ∙ mine)))
      by false same at = absurd (cc at)

  among-right : (view : ModuleView) (entries : Exports) → AllByRecursion (λ entry. onward view.entries entry.0 ≡ behind_meaning (all_known own) (Some entry.1)) entries → IsForeignRight (known_among view entries)
  among-right view [] all = none-right
  among-right view ((name, m) ∷ rest) all = both-right (known_by (onward view.entries name) m) (known_among view rest) (by m all.0) (among-right view rest all.1)
    where
      known : (decl : DeclId) (behind : Behind) → behind ≡ own decl → IsForeignRight (known_as decl behind)
      known instance behind is decl held at other = which (same_decl decl instance) refl at
        where
          which : (b : Bool) → same_decl decl instance ≡ b → cond b (Some behind) None ≡ Some held → held ≡ behinds decl
          which false same at = absurd (cc at)
          which true same at =
              let found : behind ≡ held = cc at in
              sym found ∙ (is ∙ (ap own (sym (decl-equal decl instance same)) ∙ ap (λ b. cond b (at_path (final decl)) (behinds decl)) other))

      by : (m : Meaning) → onward view.entries name ≡ behind_meaning (all_known own) (Some m) → IsForeignRight (known_by (onward view.entries name) m)
      by BuiltIn is = none-right
      by (Declared e callee) is = kind (is_instance e) is
        where
          kind : (b : Bool) → onward view.entries name ≡ held b (own callee.decl) → IsForeignRight (cond b (known_as callee.decl (onward view.entries name)) none_known)
          kind true is = known callee.decl (onward view.entries name) is
          kind false is = none-right

  -- what is known is right, where it is known in the end
  pub right-all : (known : Known) → IsForeignRight known → IsWithin known final → (decl : DeclId) (held : Behind) → known decl ≡ Some held → held ≡ own decl
  right-all known is within decl held at = by (bytes_eq decl.«module» title) refl
    where
      by : (b : Bool) → bytes_eq decl.«module» title ≡ b → held ≡ cond b (at_path (final decl)) (behinds decl)
      by true mine = sym (ap at_path (within decl held at))
      by false other = is decl held at other

  -- a module whose names stand in a table has what is known behind these
  pub table-behind : (known : Known) (reading : Reading) → IsForeignRight known → IsWithin known final → AreReached known (exports_of reading.exports) → IsOnce reading.exports
      → AllByRecursion (λ entry. onward (entries_from known (exports_of reading.exports)) entry.0 ≡ behind_meaning (all_known own) (Some entry.1)) (exports_of reading.exports)
  table-behind known reading right within reached once =
      let entries : Exports = exports_of reading.exports in
      each-there (λ entry. onward (entries_from known entries) entry.0 ≡ behind_meaning (all_known own) (Some entry.1)) entries
      (λ name m there.
      let at = there-first entries name m (table-once reading.exports once) there in
      ap (behind_meaning known) at
      ∙ meaning-behind known own m (right-all known right within) (entry-told known entries name reached m at))

-- ---- units

-- modules that can be named have what stands behind their names
abbrev pub AreBehind : Behinds → Reading → Type 0
AreBehind behinds reading = OfAllKnown (IsViewBehind behinds) reading.modules

module _ (text : Text) (final : Known) (behinds : Behinds) where
  -- what is known at a state is right, and so are the modules that can be named
  pub record IsRight (state : ReadState) : Type 0 where
    pub known : IsForeignRight text.file final behinds state.known
    pub here : AreBehind (own text.file final behinds) state.place.here
    pub round : AllByRecursion (AreBehind (own text.file final behinds)) state.place.round

  names-right : (named : List ℕ → ModuleView) (instances : List (Lexeme × Option Lexeme)) → IsForeignRight text.file final behinds (known_named text named instances)
  names-right named [] = none-right text.file final behinds
  names-right named (instance ∷ rest) =
      both-right text.file final behinds (known_as (declaration text instance.0) (behind_named text named instance.1)) (known_named text named rest)
      (own-right text.file final behinds (declaration text instance.0) (behind_named text named instance.1) (text-itself text.file text.file refl)) (names-right named rest)

  module _ (files : List ℕ → ModuleView) (words : List ℕ) (given : (name : List ℕ) → IsViewBehind (own text.file final behinds) (files name)) where
    pub view-behind : (reading : Reading) (name : List ℕ) → AreBehind (own text.file final behinds) reading → IsViewBehind (own text.file final behinds) (module_at files reading.modules name)
    view-behind reading name is = module-says (IsViewBehind (own text.file final behinds)) files reading.modules name tt given is

    all-right : (reading : Reading) (names : List Lexeme) → AreBehind (own text.file final behinds) reading → IsForeignRight text.file final behinds (known_from_all text (module_at files reading.modules) names)
    all-right reading [] is = none-right text.file final behinds
    all-right reading (l ∷ rest) is =
        let view : ModuleView = module_at files reading.modules (spelled text.source l) in
        both-right text.file final behinds (exported_known view) (known_from_all text (module_at files reading.modules) rest) (among-right text.file final behinds view (exported view) (view-behind reading (spelled text.source l) is)) (all-right reading rest is)

    unit-right : (state : ReadState) (unit : UnitTree) → IsRight state → IsForeignRight text.file final behinds (known_in text files words state unit)
    unit-right state unit is =
        both-right text.file final behinds state.known (known_named text (module_named text files words state) (all_named_instances (unit_trees unit))) is.known (names-right (module_named text files words state) (all_named_instances (unit_trees unit)))

    brought-right : (state : ReadState) (x : Tree) → IsRight state → IsForeignRight text.file final behinds (known_brought text files words state x)
    brought-right state (Node (Form.Instance l) s parts) is =
        let view : ModuleView = view_of text (module_named text files words state) l in
        among-right text.file final behinds view (exported view) (view-behind state.place.here (spelled text.source l) is.here)
    brought-right state (Node Form.Let s parts) is = none-right text.file final behinds
    brought-right state (Node _ s parts) is = none-right text.file final behinds

    -- a unit that leaves the modules that can be named
    still-right : (known : Known) (here next : Reading) (round : List Reading) → next.modules ≡ here.modules → IsForeignRight text.file final behinds known → AreBehind (own text.file final behinds) here → AllByRecursion (AreBehind (own text.file final behinds)) round
        → IsRight (record { place = record { here = next; round = round }; known = known })
    still-right known here next round same right is others = record { known = right; here = subst (OfAllKnown (IsViewBehind (own text.file final behinds))) (sym same) is; round = others }

    left-right : (state : ReadState) (round : List Reading) → IsRight (record { place = record { here = state.place.here; round = round }; known = state.known }) → AreReached state.known (exports_of state.place.here.exports) → IsOnce state.place.here.exports → IsWithin state.known final
        → IsRight (record { place = left state.known state.place.here round; known = state.known })
    left-right state [] is reached once within = record { known = is.known; here = is.here; round = tt }
    left-right state (outer ∷ round) is reached once within = record {
      known = is.known;
      here =
          added-known (IsViewBehind (own text.file final behinds)) outer.modules state.place.here.name (Some (nested_view state.known outer.context (exports_of state.place.here.exports))) is.round.0
          (table-behind text.file final behinds state.known state.place.here is.known within reached once);
      round = is.round.1;
    }

    module _ (P : Named → Meaning → Type 0) where
      pub after-right : (state : ReadState) (unit : UnitTree) → IsSettled state → HoldsPlace P state.place → IsWithin (after text files words state unit).known final → IsRight state → IsRight (after text files words state unit)
      after-right state (Variables names) settled holds within is =
          still-right (known_in text files words state (Variables names)) state.place.here _ state.place.round (declares-keep text false state.place.here (variables names)).modules (unit-right state (Variables names) is) is.here is.round
      after-right state (Constants declarations) settled holds within is =
          still-right (known_in text files words state (Constants declarations)) state.place.here _ state.place.round (declares-keep text false state.place.here (constants declarations)).modules (unit-right state (Constants declarations) is) is.here is.round
      after-right state (OperatorDefinition local x) settled holds within is =
          still-right (known_in text files words state (OperatorDefinition local x)) state.place.here _ state.place.round (declares-keep text (is_some local) state.place.here (definition x)).modules (unit-right state (OperatorDefinition local x) is) is.here is.round
      after-right state (FunctionDefinition local x) settled holds within is =
          still-right (known_in text files words state (FunctionDefinition local x)) state.place.here _ state.place.round (declares-keep text (is_some local) state.place.here (definition x)).modules (unit-right state (FunctionDefinition local x) is) is.here is.round
      after-right state (ModuleDefinition local x) settled holds within is =
          still-right (known_in text files words state (ModuleDefinition local x)) state.place.here _ state.place.round (declares-keep text (is_some local) state.place.here (definition x)).modules (unit-right state (ModuleDefinition local x) is) is.here is.round
      after-right state (Instance local x) settled holds within is =
          let known : Known = known_in text files words state (Instance local x) in
          still-right (and_known known (known_brought text files words state x)) state.place.here _ state.place.round (joined-keeps (is_some local) state.place.here (instance_brings text files words state x)).modules
          (both-right text.file final behinds known (known_brought text files words state x) (unit-right state (Instance local x) is) (brought-right state x is)) is.here is.round
      after-right state (Assumption word name x) settled holds within is = record { known = unit-right state (Assumption word name x) is; here = is.here; round = is.round }
      after-right state (Theorem word name x) settled holds within is = record { known = unit-right state (Theorem word name x) is; here = is.here; round = is.round }
      after-right state (Line dashes) settled holds within is = record { known = unit-right state (Line dashes) is; here = is.here; round = is.round }
      after-right state (ModuleBegin dashes name extends) settled holds within is =
          let title : List ℕ = spelled text.source name in
          let inner : ReadState = inside_nested text files words state name extends in
          let begins : AreBehind (own text.file final behinds) (begun_in state.place.here title) = added-known (IsViewBehind (own text.file final behinds)) state.place.here.modules title None is.here tt in
          let here : AreBehind (own text.file final behinds) inner.place.here = subst (OfAllKnown (IsViewBehind (own text.file final behinds))) (sym (extends-keep text _ (nested text state.place.here name) extends).modules) begins in
          record {
            known = both-right text.file final behinds state.known (known_from_all text (module_named text files words inner) extends) is.known (all-right inner.place.here extends here);
            here = here;
            round = (is.here, is.round);
          }
      after-right state (ModuleEnd closing) settled holds within is = left-right state state.place.round is settled.here holds.0.once within

      pub all-are-right : (passes : (unit : UnitId) (name : Named) (m : Meaning) → P name m → P name (through unit m)) (hold : (name : List ℕ) → AllNamed P (files name))
          (state : ReadState) (units : List UnitTree) → IsSettled state → HoldsPlace P state.place → AreOwn P text units → IsWithin (read_all text files words state units).known final → IsRight state → IsRight (read_all text files words state units)
      all-are-right passes hold state [] settled holds names within is = is
      all-are-right passes hold state (unit ∷ units) settled holds names within is =
          let next : ReadState = after text files words state unit in
          all-are-right passes hold next units (settled-after text files words state unit settled) (after-holds P text files words passes hold state unit names.0 holds) names.1 within
          (after-right state unit settled holds (within-on next.known (read_all text files words next units).known final (all-within text files words next units) within) is)

pub first-right : (files : List ℕ → ModuleView) (source : List ℕ) (units : ModuleUnits) (final : Known) (behinds : Behinds) → ((name : List ℕ) → IsViewBehind (own (text_of source units).file final behinds) (files name)) → IsRight (text_of source units) final behinds (first files source units)
first-right files source units final behinds given =
    let text : Text = text_of source units in
    let words : List ℕ = words_of units in
    let state : ReadState = begun_state files source units in
    let here : AreBehind (own text.file final behinds) state.place.here = subst (OfAllKnown (IsViewBehind (own text.file final behinds))) (sym (extends-keep text _ (unread text) units.extends).modules) (tt, tt) in
    record {
      known = both-right text.file final behinds none_known (known_from_all text (module_named text files words state) units.extends) (none-right text.file final behinds) (all-right text final behinds files words given state.place.here units.extends here);
      here = here;
      round = tt;
    }
