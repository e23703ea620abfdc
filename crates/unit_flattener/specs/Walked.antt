-- What walking makes of units.
use Rattle.std.specs.Prelude.{◌≡◌, ◌<◌, ⊤, ℕ, false, List, [], ◌∷◌, ◌++◌, Option, length}
use Rattle.std.specs.List.{AllByRecursion}
use Rattle.tla_symbols.specs.declared.lexeme.Lexeme.{Lexeme}
use Rattle.tla_tree.specs.Syntax.{Tree, Trees}
use Rattle.tla_tree.specs.declared.unit.Unit.TheVariants as code
use Rattle.unit_grammar.specs.Units.{FunctionDefinition, ModuleBegin, ModuleDefinition, OperatorDefinition, UnitTree}
use Rattle.tla_model.specs.Entities.{Meaning, Text}
use Rattle.tla_model.specs.Lexemes.{spelled}
use Rattle.module_scope.specs.Environments.{Scope, begun, ended, meaning as module_meaning}
use Rattle.module_model.specs.Exports.{Exports, exported, instantiable}
use Rattle.kind_text.specs.FlatModule.{Extends, FlatModule, UsesInstance}
use Rattle.kind_table.specs.declared.flat.Replacement.{Replacement}
use Rattle.module_kinds.specs.ModuleKinds.{named_in}
use Rattle.flattened_trees.specs.Leads.{FlatFace, Leads, Setting}
use Rattle.flattened_trees.specs.Flattened.{AreRights, IsInstance, Right}
use Rattle.flattened_trees.specs.Questions.{Question}
use Rattle.flattened_units.specs.Units.{AreExtended, AreShared, AreUnitsMade, IsExtension, IsUnitMade, Reader, face_under, with_brought, with_symbols}
use Rattle.tree_flattener.specs.Replacing.{replacements_of}
use Rattle.tree_flattener.specs.Steps.{AddsFrame, Steps}
use Rattle.tree_flattener.specs.Apart.{IsMadeApart}
use Rattle.tree_flattener.specs.Worlds.{World, frame_at, implied_of, means_of, setting_of}
use Rattle.tree_flattener.specs.declared.locals.Local.{Local}
use Rattle.tree_flattener.specs.declared.state.Flattening.{Flattening}
use Rattle.tree_flattener.specs.declared.written.Written.{Written}
use Rattle.module_leads.specs.Leading.{face_over, leading_in}
use Rattle.module_leads.specs.Leading as known
use Rattle.unit_flattener.specs.Scopes.{IsKept}
use Rattle.unit_flattener.specs.Walking.{IsWalking, Walk, over_in, state_at}
use Rattle.unit_flattener.specs.declared.flattener.UnitFlattener.{UnitFlattener}

-- with other leads
abbrev pub leading_with : Reader → Leads → Reader
leading_with reader leads = record reader { setting = record { leads = leads; frame = reader.setting.frame; olds = reader.setting.olds } }

-- ---- units

-- a unit is walked: there is a reader behind it, and this is asked in each flat module that has what was made
pub record IsUnitWalked (written : Written) (walk : Walk) (before : List UnitTree) (unit : UnitTree) (rest : List UnitTree) (old new : UnitFlattener) (reader : Reader) : Type 0 where
  pub next : Reader
  pub asked : List Question
  pub at : IsWalking written.text.now walk (before ++ unit ∷ []) rest new next
  pub steps : Steps old.state new.state asked
  pub holds : (more : FlatModule) → Extends new.state.flat more
      → IsUnitMade more written.text.now (means_of written) (implied_of written) walk.files walk.outsides (over_in walk).words (state_at walk before) reader unit next asked

-- wherever code walked, it walks behind the unit then
abbrev pub Walks : Written → UnitTree → UnitFlattener → UnitFlattener → Type 0
Walks written unit old new =
    (walk : Walk) (before rest : List UnitTree) (reader : Reader) → IsWalking written.text.now walk before (unit ∷ rest) old reader
    → IsUnitWalked written walk before unit rest old new reader

-- units are walked, one after another
pub record AreUnitsWalked (written : Written) (walk : Walk) (before units rest : List UnitTree) (old new : UnitFlattener) (reader : Reader) : Type 0 where
  pub next : Reader
  pub asked : List Question
  pub at : IsWalking written.text.now walk (before ++ units) rest new next
  pub steps : Steps old.state new.state asked
  pub holds : (more : FlatModule) → Extends new.state.flat more
      → AreUnitsMade more written.text.now (means_of written) (implied_of written) walk.files walk.outsides (over_in walk).words (state_at walk before) reader units next asked

-- wherever code walked, it walks behind these units then
abbrev pub WalksAll : Written → List UnitTree → UnitFlattener → UnitFlattener → Type 0
WalksAll written units old new =
    (walk : Walk) (before rest : List UnitTree) (reader : Reader) → IsWalking written.text.now walk before (units ++ rest) old reader
    → AreUnitsWalked written walk before units rest old new reader

-- ---- definitions

-- a unit defines what this tree defines
abbrev pub IsDefinition : UnitTree → Tree → Type 0
IsDefinition (OperatorDefinition local x) y = x ≡ y
IsDefinition (FunctionDefinition local x) y = x ≡ y
IsDefinition (ModuleDefinition local x) y = x ≡ y
IsDefinition unit y = ⊥

-- what a tree defines is made, and its name leads there
abbrev pub MakesDefinition : World → UnitFlattener → UnitFlattener → Tree → Option Local → Type 0
MakesDefinition w old new x local = (roots : List ℕ) × IsMadeApart w old.state new.state old.frame [] x local [] roots

-- nothing is made of a unit in code
abbrev pub IsQuiet : code.the_data → Type 0
IsQuiet (code.Variables names) = ⊤
IsQuiet (code.Constants declarations) = ⊤
IsQuiet (code.Line dashes) = ⊤
IsQuiet unit = ⊥

-- it begins a module of this name
abbrev pub IsBegin : code.the_data → Lexeme → Type 0
IsBegin (code.ModuleBegin dashes name extends) title = title ≡ name
IsBegin unit title = ⊥

-- which extends these
abbrev pub BeginsOver : code.the_data → Lexeme → List Lexeme → Type 0
BeginsOver (code.ModuleBegin dashes name extends) title names = (title ≡ name) × (names ≡ extends)
BeginsOver unit title names = ⊥

-- ---- an INSTANCE without a name

-- its instance is made
pub record MakesInstance (w : World) (old new : UnitFlattener) (l : Lexeme) (rights : Trees) (j : ℕ) : Type 0 where
  pub written : List Right
  pub roots : List ℕ
  pub a : List Question
  pub b : List Question
  pub steps : Steps old.state new.state (a ++ b)
  pub locals : new.state.locals.items ≡ old.state.locals.items
  pub there : UsesInstance new.state.flat (length new.state.flat.nodes) j
  pub rights_are : (more : FlatModule) → Extends new.state.flat more → AreRights w.text w.means w.implied w.faces more (setting_of w old.state old.frame []) l rights written roots a
  pub is : (more : FlatModule) → Extends new.state.flat more
      → IsInstance w.text w.means w.implied w.faces more (setting_of w old.state old.frame []) (length (frame_at old.state.frames.items old.frame)) 0 false l written j b

-- ---- nested modules

-- inside a nested module with these symbols of its own, before what it extends
abbrev pub entered : Text → Reader → Lexeme → List Meaning → Reader
entered text reader name own =
    record {
      setting = record { leads = with_symbols reader.setting.leads own (length reader.setting.frame); frame = reader.setting.frame ++ own; olds = [] };
      round = reader.setting ∷ reader.round;
      faces = begun reader.faces (spelled text.source name);
    }

-- a nested module of this name begins: code walks in it, before what it extends, with symbols of its own; nothing is asked
pub record IsEntered (written : Written) (walk : Walk) (before : List UnitTree) (unit : UnitTree) (name : Lexeme) (rest : List UnitTree) (old new : UnitFlattener) (reader : Reader) : Type 0 where
  pub own : List Meaning
  pub at : IsWalking written.text.now walk (before ++ unit ∷ []) rest new (entered written.text.now reader name own)
  pub steps : Steps old.state new.state []

-- wherever code walked before a nested module, it walks in it then
abbrev pub Enters : Written → UnitTree → UnitFlattener → UnitFlattener → Type 0
Enters written (ModuleBegin dashes name extends) old new =
    (walk : Walk) (before rest : List UnitTree) (reader : Reader)
    → IsWalking written.text.now walk before (ModuleBegin dashes name extends ∷ rest) old reader
    → IsEntered written walk before (ModuleBegin dashes name extends) name rest old new reader
Enters written unit old new = ⊤

-- a frame is entered that has these symbols behind those of the one round it
pub record IsFrameEntered (old new : UnitFlattener) (own : List Meaning) : Type 0 where
  pub leads : leading_in new.leads ≡ known.entered (leading_in old.leads) own (length (frame_at old.state.frames.items old.frame))
  pub sound : known.IsSound old.leads → known.IsSound new.leads
  pub state : AddsFrame old.state new.state (frame_at old.state.frames.items old.frame ++ own) new.frame
  pub round : new.round.items ≡ old.round.items ++ old.frame ∷ []
  pub reader : new.reader ≡ old.reader
  pub files : new.files ≡ old.files
  pub modules : new.modules ≡ old.modules
  pub ahead : new.own.items ≡ old.own.items

-- a frame is left, for this one round it: what the module is that has ended has a number
pub record IsFrameLeft (old new : UnitFlattener) (parameters entries : Exports) (before : List ℕ) (outer : ℕ) : Type 0 where
  pub leads : leading_in new.leads
      ≡ known.left (known.with_face (leading_in old.leads) (face_over parameters (length (frame_at old.state.frames.items outer)) false entries (leading_in old.leads).leads))
  pub sound : known.IsSound new.leads
  pub modules : (scope : Scope ℕ) → IsKept old.modules scope → IsKept new.modules (ended (leading_in old.leads).count scope.here scope.round)
  pub frame : new.frame ≡ outer
  pub round : new.round.items ≡ before
  pub state : new.state ≡ old.state
  pub reader : new.reader ≡ old.reader
  pub files : new.files ≡ old.files
  pub ahead : new.own.items ≡ old.own.items

-- the same, if there is one
abbrev pub LeavesFrame : UnitFlattener → UnitFlattener → Exports → Exports → Type 0
LeavesFrame old new parameters entries = (before : List ℕ) (outer : ℕ) → old.round.items ≡ before ++ outer ∷ [] → IsFrameLeft old new parameters entries before outer

-- frames round the place are there
abbrev pub AreFramesThere : UnitFlattener → Type 0
AreFramesThere code = AllByRecursion (λ number. number < length code.state.frames.items) code.round.items

-- ---- what is extended

-- what the module of a name brings to one that extends it where code walks
abbrev pub brought_of : Text → Walk → List UnitTree → Lexeme → Exports
brought_of text walk before l = instantiable (exported (named_in text walk.outsides (over_in walk).words (state_at walk before).modules (spelled text.source l)).view)

-- what it is to its instances
abbrev pub walk_face : Text → Walk → Reader → Lexeme → FlatFace
walk_face text walk reader l = face_under walk.files (module_meaning reader.faces.here (spelled text.source l)) (spelled text.source l)

-- the symbols of a module that is extended are replaced by those here that mean the same
pub record IsShared (old new : Flattening) (leads : Leads) (parameters : Exports) (before after : List Replacement) : Type 0 where
  pub steps : Steps old new []
  pub locals : new.locals.items ≡ old.locals.items
  pub made : List Replacement
  pub is : after ≡ before ++ made
  pub there : AllByRecursion (λ r. r.root < length new.flat.nodes) made
  pub holds : (more : FlatModule) → Extends new.flat more → AreShared more leads parameters (replacements_of made)

-- an instance is made, through which a module comes that is extended
pub record IsExtended (old new : Flattening) (setting : Setting) (face : FlatFace) (j : ℕ) : Type 0 where
  pub steps : Steps old new []
  pub locals : new.locals.items ≡ old.locals.items
  pub there : UsesInstance new.flat (length new.flat.nodes) j
  pub holds : (more : FlatModule) → Extends new.flat more → IsExtension more setting face j

-- these instances are those through which modules come that are extended
abbrev pub AreExtensions : FlatModule → Setting → (Lexeme → FlatFace) → List Lexeme → List ℕ → Type 0
AreExtensions more setting faces [] [] = ⊤
AreExtensions more setting faces (l ∷ rest) (j ∷ instances) = IsExtension more setting (faces l) j × AreExtensions more setting faces rest instances
AreExtensions more setting faces names instances = ⊥

-- they are made
pub record MakesExtensions (w : World) (old new : UnitFlattener) (names : List Lexeme) (instances : List ℕ) : Type 0 where
  pub steps : Steps old.state new.state []
  pub locals : new.state.locals.items ≡ old.state.locals.items
  pub each : length instances ≡ length names
  pub there : AllByRecursion (UsesInstance new.state.flat (length new.state.flat.nodes)) instances
  pub holds : (more : FlatModule) → Extends new.state.flat more
      → AreExtensions more (setting_of w old.state old.frame []) (λ l. w.faces (spelled w.text.source l)) names instances

-- wherever code walked, names of a module lead through an instance then, which is there
abbrev pub Brings : Written → UnitFlattener → UnitFlattener → Lexeme → ℕ → Type 0
Brings written old new l j =
    (walk : Walk) (before rest : List UnitTree) (reader : Reader) → IsWalking written.text.now walk before rest old reader
    → UsesInstance old.state.flat (length old.state.flat.nodes) j
    → IsWalking written.text.now walk before rest new
    (leading_with reader (with_brought reader.setting.leads (brought_of written.text.now walk before l) j (walk_face written.text.now walk reader l)))

-- where names lead that modules bring, through these instances
abbrev pub brought_leads : Text → Walk → List UnitTree → Reader → Leads → List Lexeme → List ℕ → Leads
brought_leads text walk before reader leads (l ∷ rest) (j ∷ instances) =
    brought_leads text walk before reader (with_brought leads (brought_of text walk before l) j (walk_face text walk reader l)) rest instances
brought_leads text walk before reader leads names instances = leads

-- the same of several modules
abbrev pub BringsAll : Written → UnitFlattener → UnitFlattener → List Lexeme → List ℕ → Type 0
BringsAll written old new names instances =
    (walk : Walk) (before rest : List UnitTree) (reader : Reader) → IsWalking written.text.now walk before rest old reader
    → AllByRecursion (UsesInstance old.state.flat (length old.state.flat.nodes)) instances
    → IsWalking written.text.now walk before rest new (leading_with reader (brought_leads written.text.now walk before reader reader.setting.leads names instances))

-- modules are extended: names lead there then
pub record AreBrought (written : Written) (walk : Walk) (before : List UnitTree) (names : List Lexeme) (rest : List UnitTree) (old new : UnitFlattener) (reader : Reader) : Type 0 where
  pub leads : Leads
  pub at : IsWalking written.text.now walk before rest new (leading_with reader leads)
  pub steps : Steps old.state new.state []
  pub holds : (more : FlatModule) → Extends new.state.flat more
      → AreExtended more written.text.now (means_of written) (implied_of written) walk.files walk.outsides (over_in walk).words (state_at walk before).modules reader.faces reader.setting reader.setting.leads names leads

-- wherever code walked, these modules are extended
abbrev pub ExtendsAll : Written → List Lexeme → UnitFlattener → UnitFlattener → Type 0
ExtendsAll written names old new =
    (walk : Walk) (before rest : List UnitTree) (reader : Reader) → IsWalking written.text.now walk before rest old reader
    → AreBrought written walk before names rest old new reader
