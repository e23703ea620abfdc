-- What is asked of each unit is told by its text.
use Rattle.std.proofs.Common.{◌≡◌, ℕ, false, List, [], ◌∷◌, ◌++◌, Option, refl, sym, ap, ◌∙◌, length}
use Rattle.std.specs.List.{AllByRecursion}
use Rattle.tla_symbols.specs.declared.lexeme.Lexeme.{Lexeme}
use Rattle.tla_tree.specs.declared.form.Form.TheVariants as Form
use Rattle.tla_tree.specs.Syntax.{Tree, Node as TreeNode, span}
use Rattle.unit_grammar.specs.Units.{UnitTree, OperatorDefinition, FunctionDefinition, ModuleDefinition, Instance as UnitInstance, Assumption, Theorem, ModuleBegin, ModuleEnd, ModuleUnits}
use Rattle.tla_model.specs.Entities.{Meaning, Text}
use Rattle.module_scope.specs.Environments.{first as first_scope}
use Rattle.module_model.specs.Modules.{text_of}
use Rattle.module_model.specs.Resolution.{words_of}
use Rattle.kind_text.specs.FlatModule.{FlatModule, IsOrdered}
use Rattle.tree_kinds.specs.Standing.{Outside}
use Rattle.module_kinds.specs.ModuleKinds.{KindState, after, first, views}
use Rattle.flattened_trees.specs.Answers as flat_answers
use Rattle.flattened_trees.specs.Leads as flat_leads
use Rattle.flattened_trees.specs.Questions as flat_questions
use Rattle.flattened_units.specs.Units as units
use Rattle.resolved_trees.specs.Resolved.{Nil, resolved}
use Rattle.written_trees.specs.Leading.{Face, Leads, Setting, leads_in, setting_in}
use Rattle.written_trees.specs.Leading as leading
use Rattle.written_trees.specs.Written.{HoldsInstances, rights_of, tree_of}
use Rattle.written_trees.proofs.Told.{each-told, inner-hold, nodes-told, rights-told}
use Rattle.written_questions.specs.Answers.{deep_answers, level_answers}
use Rattle.written_questions.specs.Asking.{asks_of, definition_asks, instance_asks, right_asks}
use Rattle.written_questions.specs.Questions.{IsConstant, IsShallowTree, Question, over, questions_in}
use Rattle.written_questions.proofs.Answered.{depths-answered, levels-told}
use Rattle.written_questions.proofs.Asks.{definition-asked, each-asked, instance-asked, nodes-asked, rights-asked}
use Rattle.written_questions.proofs.AtTrees.{both}
use Rattle.own_symbols.specs.Ahead.{own_each}
use Rattle.own_symbols.proofs.Owning.{units-owned}
use Rattle.written_modules.specs.Asking.{brought_asks, claim_asks, module_asks, unit_asks, units_asks}
use Rattle.written_modules.specs.Faces.{reader_in, scope_in}
use Rattle.written_modules.specs.Modules.{UnitHolds, behind_unit, behind_units, extended, face_in, module_reader, owns_of, with_symbols}
use Rattle.written_modules.proofs.Behind.{extended-told, faces-told, flat_face, unit-told, written_files}
use Rattle.written_modules.proofs.Placing.{none-told, symbols-told}

module _ (flat : FlatModule) (ordered : IsOrdered flat) (text : Text) (means : ℕ → Option Meaning) (implied : ℕ → List Meaning) (files : List ℕ → flat_leads.FlatFace) (outsides : List ℕ → Outside) (words : List ℕ) where
  -- the files, by resolved trees
  abbrev by_trees : List ℕ → Face
  by_trees name = written_files flat ordered text means implied files outsides words name

  -- the module of a name, in the flat module
  abbrev face_at : units.Reader → List ℕ → flat_leads.FlatFace
  face_at reader name = flat_face flat ordered text means implied files outsides words reader.faces name

  -- the same by resolved trees, told in two ways
  faces-at : (reader : units.Reader) → (λ name. leading.face_in flat (face_at reader name)) ≡ face_in by_trees (scope_in flat reader.faces)
  faces-at reader = faces-told flat ordered text means implied files outsides words reader.faces

  definition-asks : (reader next : units.Reader) (x : Tree) (asked : List flat_questions.Question) → HoldsInstances x → units.IsDefinitionMade flat text means implied files outsides words reader x next asked
      → questions_in flat asked ≡ definition_asks text means implied (face_in by_trees (scope_in flat reader.faces)) (setting_in flat reader.setting) x
  definition-asks reader next x asked holds (lead, roots, is, next_is) =
      definition-asked flat ordered text means implied (face_at reader) x holds reader.setting lead roots asked is
      ∙ ap (λ (fs : List ℕ → Face). definition_asks text means implied fs (setting_in flat reader.setting) x) (faces-at reader)

  instance-asks : (x : Tree) (state : KindState) (reader next : units.Reader) (asked : List flat_questions.Question) → HoldsInstances x → units.IsInstanceMade flat text means implied files outsides words state reader x next asked
      → questions_in flat asked ≡ brought_asks text means implied by_trees outsides words (reader_in flat reader) x
  instance-asks (TreeNode (Form.Instance l) s rights) state reader next asked holds (written, roots, j, a, b, are, instance, next_is, asks) =
      let here = setting_in flat reader.setting in
      let inner = inner-hold flat ordered text means implied (face_at reader) (Form.Instance l) s rights holds in
      let told = (rights-told flat ordered text means implied (face_at reader) l rights reader.setting written roots a (each-told flat ordered text means implied (face_at reader) rights inner) are).0 in
      let first = rights-asked flat ordered text means implied (face_at reader) l rights reader.setting written roots a (each-asked flat ordered text means implied (face_at reader) rights inner) are
      ∙ ap (λ (fs : List ℕ → Face). right_asks text means implied fs here l rights) (faces-at reader) in
      let rest = instance-asked flat ordered text means implied (face_at reader) reader.setting (length reader.setting.frame) 0 false l written j b instance
      ∙ ap (instance_asks text means implied (λ name. leading.face_in flat (face_at reader name)) here l) told
      ∙ ap (λ (fs : List ℕ → Face). instance_asks text means implied fs here l (rights_of text means implied fs here rights)) (faces-at reader) in
      ap (questions_in flat) asks ∙ both flat a b ∙ (λ i. first i ++ rest i)
  instance-asks (TreeNode form s parts) state reader next asked holds is = ap (questions_in flat) is.1

  claim-asks : (reader next : units.Reader) (word : Lexeme) (x : Tree) (more : ℕ → List flat_questions.Question) (told_more : List Question) (asked : List flat_questions.Question) → HoldsInstances x
      → ((i : ℕ) → resolved flat i ≡ tree_of text means implied (face_in by_trees (scope_in flat reader.faces)) (setting_in flat reader.setting) x → questions_in flat (more i) ≡ told_more)
      → units.IsClaimMade flat text means implied files outsides words reader word x more next asked
      → questions_in flat asked ≡ claim_asks text means implied by_trees outsides words (reader_in flat reader) word x told_more
  claim-asks reader next word x more told_more asked holds tell (i, a, made, next_is, asks) =
      let here = setting_in flat reader.setting in
      let tree = nodes-told flat ordered text means implied (face_at reader) x holds reader.setting i a made
      ∙ ap (λ (fs : List ℕ → Face). tree_of text means implied fs here x) (faces-at reader) in
      let parts = nodes-asked flat ordered text means implied (face_at reader) x holds reader.setting i a made
      ∙ ap (λ (fs : List ℕ → Face). asks_of text means implied fs here x) (faces-at reader) in
      let last = tell i tree in
      ap (questions_in flat) asks
      ∙ both flat (flat_questions.over reader.setting.frame (flat_questions.IsShallowNode word i ∷ [])) (a ++ more i)
      ∙ ap (λ z. questions_in flat (flat_questions.over reader.setting.frame (flat_questions.IsShallowNode word i ∷ [])) ++ z) (both flat a (more i))
      ∙ (λ k. over reader.setting.frame (IsShallowTree word (tree k) ∷ []) ++ (parts k ++ last k))

  unit-asks : (unit : UnitTree) (state : KindState) (reader next : units.Reader) (asked : List flat_questions.Question) → UnitHolds unit → units.IsUnitMade flat text means implied files outsides words state reader unit next asked
      → questions_in flat asked ≡ unit_asks text means implied by_trees outsides words (reader_in flat reader) unit
  unit-asks (OperatorDefinition local x) state reader next asked holds is = definition-asks reader next x asked holds is
  unit-asks (FunctionDefinition local x) state reader next asked holds is = definition-asks reader next x asked holds is
  unit-asks (ModuleDefinition local x) state reader next asked holds is = definition-asks reader next x asked holds is
  unit-asks (UnitInstance local x) state reader next asked holds is = instance-asks x state reader next asked holds is
  unit-asks (Assumption word name x) state reader next asked holds is =
      claim-asks reader next word x (λ i. flat_questions.over reader.setting.frame (flat_questions.IsConstant (span x) i ∷ []))
      (over reader.setting.frame (IsConstant (span x) (tree_of text means implied (face_in by_trees (scope_in flat reader.faces)) (setting_in flat reader.setting) x) ∷ []))
      asked holds (λ i tree. ap (λ t. over reader.setting.frame (IsConstant (span x) t ∷ [])) tree) is
  unit-asks (Theorem word name x) state reader next asked holds is = claim-asks reader next word x (λ i. []) [] asked holds (λ i tree. refl) is
  unit-asks (ModuleBegin dashes name extends) state reader next asked holds is = ap (questions_in flat) is.1
  unit-asks (ModuleEnd closing) state reader next asked holds is = ap (questions_in flat) is.1
  unit-asks unit state reader next asked holds is = ap (questions_in flat) is.1

  -- what the units from a place on own
  abbrev owns : KindState → List UnitTree → List (List Meaning)
  owns state list = own_each text (views text outsides words) words state.read list

  -- names lead behind units as their text tells, and that is asked which it tells
  pub units-known : (list : List UnitTree) (state : KindState) (reader next : units.Reader) (asked : List flat_questions.Question) → AllByRecursion UnitHolds list → units.AreUnitsMade flat text means implied files outsides words state reader list next asked → next.round ≡ []
      → (reader_in flat next ≡ behind_units text means implied by_trees outsides words state (reader_in flat reader) (owns state list) list)
      × (questions_in flat asked ≡ units_asks text means implied by_trees outsides words state (reader_in flat reader) (owns state list) list)
  units-known [] state reader next asked holds is ends = (ap (reader_in flat) is.0, ap (questions_in flat) is.1)
  units-known (unit ∷ list) state reader next asked holds (mid, a, b, is, more, asks) ends =
      let owned = units-owned flat text means implied files outsides words list (after text outsides words state unit) mid next b more ends in
      let first = unit-told flat ordered text means implied files outsides words unit state reader mid a holds.0 is _ owned in
      let rest = units-known list (after text outsides words state unit) mid next b holds.1 more ends in
      let here = unit-asks unit state reader mid a holds.0 is in
      let others = owns (after text outsides words state unit) list in (
        rest.0 ∙ ap (λ r. behind_units text means implied by_trees outsides words (after text outsides words state unit) r others list) first,
        ap (questions_in flat) asks ∙ both flat a b
            ∙ (λ i. here i ++ (rest.1 ∙ ap (λ r. units_asks text means implied by_trees outsides words (after text outsides words state unit) r others list) first) i),
      )

pub module-known : (flat : FlatModule) (ordered : IsOrdered flat) (means : ℕ → Option Meaning) (implied : ℕ → List Meaning) (files : List ℕ → flat_leads.FlatFace) (outsides : List ℕ → Outside) (source : List ℕ) (module_units : ModuleUnits) (symbols : List Meaning) (last : units.Reader) (asked : List flat_questions.Question)
    → AllByRecursion UnitHolds module_units.units → units.IsModuleMade flat means implied files outsides source module_units symbols last asked → last.round ≡ []
    → (reader_in flat last ≡ module_reader means implied (λ name. leading.face_in flat (files name)) outsides source module_units symbols)
    × (questions_in flat asked ≡ module_asks means implied (λ name. leading.face_in flat (files name)) outsides source module_units symbols)
module-known flat ordered means implied files outsides source module_units symbols last asked holds (leads, extension, made) ends =
    let text = text_of source module_units in
    let words = words_of module_units in
    let setting = units.symbol_setting flat means implied files outsides source module_units symbols in
    let start = symbols-told flat symbols units.no_leads 0 ∙ ap (λ (ls : Leads). with_symbols ls symbols 0) (none-told flat) in
    let told = extended-told flat ordered text means implied files outsides words module_units.extends (first_scope text.file) (first_scope text.file) setting setting.leads leads extension
    ∙ (λ i. extended text means implied (λ name. leading.face_in flat (files name)) outsides words (first_scope text.file) (first_scope text.file) (record { leads = start i; frame = symbols; olds = Nil }) (start i) module_units.extends) in
    let all = units-known flat ordered text means implied files outsides words module_units.units (first outsides source module_units)
    (record { setting = record { leads = leads; frame = symbols; olds = [] }; round = []; faces = first_scope text.file }) last asked holds made ends in
    let others = owns_of outsides source module_units in (
      all.0 ∙ (λ i. behind_units text means implied (λ name. leading.face_in flat (files name)) outsides words (first outsides source module_units)
          (record { setting = record { leads = told i; frame = symbols; olds = Nil }; round = []; faces = first_scope text.file }) others module_units.units),
      all.1 ∙ (λ i. units_asks text means implied (λ name. leading.face_in flat (files name)) outsides words (first outsides source module_units)
          (record { setting = record { leads = told i; frame = symbols; olds = Nil }; round = []; faces = first_scope text.file }) others module_units.units),
    )

pub findings-known : (flat : FlatModule) (ordered : IsOrdered flat) (means : ℕ → Option Meaning) (implied : ℕ → List Meaning) (files : List ℕ → flat_leads.FlatFace) (outsides : List ℕ → Outside) (source : List ℕ) (module_units : ModuleUnits) (symbols : List Meaning) (last : units.Reader) (asked : List flat_questions.Question)
    → AllByRecursion UnitHolds module_units.units → units.IsModuleMade flat means implied files outsides source module_units symbols last asked → last.round ≡ []
    → (flat_answers.level_answers flat asked ≡ level_answers (module_asks means implied (λ name. leading.face_in flat (files name)) outsides source module_units symbols))
    × (flat_answers.deep_answers flat asked ≡ deep_answers (module_asks means implied (λ name. leading.face_in flat (files name)) outsides source module_units symbols))
findings-known flat ordered means implied files outsides source module_units symbols last asked holds made ends =
    let known = module-known flat ordered means implied files outsides source module_units symbols last asked holds made ends in
    (levels-told flat ordered asked ∙ ap level_answers known.1, depths-answered flat asked ∙ ap deep_answers known.1)
