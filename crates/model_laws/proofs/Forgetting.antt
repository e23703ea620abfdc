-- The scopes of a module that is read, and those in which its needs are found.
use Rattle.std.proofs.Common.{◌≡◌, ℕ, Bool, true, false, cond, List, [], ◌∷◌, ◌++◌, Option, Some, None, refl, ap, ◌∙◌}
use Rattle.std.specs.Prelude.{⊤, is_some, map}
use Rattle.std.specs.Str.{bytes_eq}
use Rattle.std.proofs.lemmas.List.{map-append}
use Rattle.tla_symbols.specs.declared.lexeme.Lexeme.{Lexeme}
use Rattle.unit_grammar.specs.Units.{UnitTree, Variables, Constants, OperatorDefinition, FunctionDefinition, ModuleDefinition, Instance, Assumption, Theorem, Line, ModuleBegin, ModuleEnd}
use Rattle.tla_model.specs.declared.names.Binder.{Binder}
use Rattle.tla_model.specs.Tables.{added, has, lookup}
use Rattle.tla_model.specs.Entities.{Text, name_of, variables}
use Rattle.tla_model.specs.Lexemes.{spelled}
use Rattle.tla_model.specs.Scopes.{definition}
use Rattle.module_scope.specs.Environments.{Environment, Scope, is_taken}
use Rattle.module_scope.specs.Imports.{scope_at}
use Rattle.module_model.specs.Exports.{Exports, Known, ModuleView, exports_by, exports_of}
use Rattle.module_model.specs.Instances.{nested_view}
use Rattle.module_model.specs.Modules as m
use Rattle.module_model.specs.Modules.{Place, Reading, clashes, with_entry}
use Rattle.module_model.specs.Resolution as r
use Rattle.module_model.specs.Resolution.{ReadState}

-- a module is known, whatever it is
abbrev unknown : Option ModuleView → Option ⊤
unknown None = None
unknown (Some view) = Some tt

abbrev pub forget : Environment ModuleView → Environment ⊤
forget modules = map (λ entry. (entry.0, unknown entry.1)) modules

abbrev round_of : List ℕ → List Reading → List (List ℕ × Environment ⊤)
round_of name [] = []
round_of name (outer ∷ round) = (name, forget outer.modules) ∷ round_of outer.name round

abbrev pub scope_of : Place → Scope ⊤
scope_of place = record { here = forget place.here.modules; round = round_of place.here.name place.round }

pub taken-forget : (modules : Environment ModuleView) (name : List ℕ) → is_taken (forget modules) name ≡ is_taken modules name
taken-forget [] name = refl
taken-forget (entry ∷ modules) name = by (bytes_eq name entry.0) (taken-forget modules name)
  where
    by : (b : Bool) → is_taken (forget modules) name ≡ is_taken modules name → is_some (cond b (Some (unknown entry.1)) (lookup bytes_eq (forget modules) name)) ≡ is_some (cond b (Some entry.1) (lookup bytes_eq modules name))
    by true rest = refl
    by false rest = rest

pub forget-added : (modules : Environment ModuleView) (name : List ℕ) (known : Option ModuleView) → forget (added bytes_eq modules name known) ≡ added bytes_eq (forget modules) name (unknown known)
forget-added modules name known = by (is_taken modules name) (taken-forget modules name)
  where
    by : (b : Bool) → is_taken (forget modules) name ≡ b → forget (cond b modules (modules ++ (name, known) ∷ [])) ≡ added bytes_eq (forget modules) name (unknown known)
    by true same = rw same refl
    by false same = rw same (map-append (λ (entry : List ℕ × Option ModuleView). (entry.0, unknown entry.1)) modules ((name, known) ∷ []))

-- ---- what a step leaves of a module: its name, and the modules that can be named there

pub record Keeps (old new : Reading) : Type 0 where
  pub name : new.name ≡ old.name
  pub modules : new.modules ≡ old.modules

keeps : (reading : Reading) → Keeps reading reading
keeps reading = record { name = refl; modules = refl }

keeps-on : (a b c : Reading) → Keeps a b → Keeps b c → Keeps a c
keeps-on a b c one two = record { name = two.name ∙ one.name; modules = two.modules ∙ one.modules }

keeps-either : (b : Bool) (reading other : Reading) → Keeps reading other → Keeps reading (cond b reading other)
keeps-either true reading other one = keeps reading
keeps-either false reading other one = one

pub joined-keeps : (local : Bool) (reading : Reading) (entries : Exports) → Keeps reading (m.joined local reading entries)
joined-keeps local reading [] = keeps reading
joined-keeps local reading (entry ∷ rest) =
    let other : Reading = with_entry local reading entry.0 entry.1 in
    let next : Reading = cond (clashes reading.context entry) reading other in
    keeps-on reading next (m.joined local next rest) (keeps-either (clashes reading.context entry) reading other (record { name = refl; modules = refl })) (joined-keeps local next rest)

module _ (text : Text) (files : List ℕ → ModuleView) (words : List ℕ) where
  pub extends-keep : (reading : Reading) (names : List Lexeme) → Keeps reading (m.extends_all text (exports_by files) reading names)
  extends-keep reading [] = keeps reading
  extends-keep reading (l ∷ rest) =
      let next : Reading = m.extended reading (m.brings text (exports_by files) reading l) in
      keeps-on reading next (m.extends_all text (exports_by files) next rest) (joined-keeps false reading (m.brings text (exports_by files) reading l)) (extends-keep next rest)

  declares-keep : (local : Bool) (reading : Reading) (binders : List Binder) → Keeps reading (m.declare_all text local reading binders)
  declares-keep local reading [] = keeps reading
  declares-keep local reading (binder ∷ rest) =
      let next : Reading = m.declare text local reading binder in
      keeps-on reading next (m.declare_all text local next rest) (keeps-either (has reading.context (name_of text.source binder.name)) reading _ (record { name = refl; modules = refl })) (declares-keep local next rest)

  at-here : (state : ReadState) (reading : Reading) → Keeps state.place.here reading → scope_of (record { here = reading; round = state.place.round }) ≡ scope_of state.place
  at-here state reading kept = λ i. record { here = forget (kept.modules i); round = round_of (kept.name i) state.place.round }

  left-scope : (known : Known) (inner : Reading) (round : List Reading) (closing : Lexeme) → scope_of (m.left known inner round) ≡ scope_at text.source (scope_of (record { here = inner; round = round })) (ModuleEnd closing)
  left-scope known inner [] closing = refl
  left-scope known inner (outer ∷ round) closing = λ i. record { here = forget-added outer.modules inner.name (Some (nested_view known outer.context (exports_of inner.exports))) i; round = round_of outer.name round }

  -- behind a unit, the scope is that of the needs
  pub scope-after : (state : ReadState) (unit : UnitTree) → scope_of (r.after text files words state unit).place ≡ scope_at text.source (scope_of state.place) unit
  scope-after state (Variables names) = at-here state _ (declares-keep false state.place.here (variables names))
  scope-after state (Constants declarations) = at-here state _ (declares-keep false state.place.here (m.constants declarations))
  scope-after state (OperatorDefinition local x) = at-here state _ (declares-keep (is_some local) state.place.here (definition x))
  scope-after state (FunctionDefinition local x) = at-here state _ (declares-keep (is_some local) state.place.here (definition x))
  scope-after state (ModuleDefinition local x) = at-here state _ (declares-keep (is_some local) state.place.here (definition x))
  scope-after state (Instance local x) = at-here state _ (joined-keeps (is_some local) state.place.here (r.instance_brings text files words state x))
  scope-after state (Assumption word name x) = refl
  scope-after state (Theorem word name x) = refl
  scope-after state (Line dashes) = refl
  scope-after state (ModuleBegin dashes name extends) =
      let here : Reading = state.place.here in
      let kept : Keeps (m.nested text here name) (m.extends_all text (exports_by files) (m.nested text here name) extends) = extends-keep (m.nested text here name) extends in
      λ i. record { here = (ap forget kept.modules ∙ forget-added here.modules (spelled text.source name) None) i; round = (kept.name i, forget here.modules) ∷ round_of here.name state.place.round }
  scope-after state (ModuleEnd closing) = left-scope state.known state.place.here state.place.round closing
