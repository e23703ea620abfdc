-- What the nodes of the units of a module answer is what is found of levels in them.
use Rattle.std.proofs.Common.{◌≡◌, ℕ, false, cond, List, [], ◌∷◌, ◌++◌, Option, ap, ◌∙◌, subst, length}
use Rattle.tla_symbols.specs.declared.lexeme.Span.{Span}
use Rattle.tla_tree.specs.declared.form.Form.TheVariants as Form
use Rattle.tla_tree.specs.Syntax.{Tree, Trees, Node, Nil, Cons}
use Rattle.unit_grammar.specs.Units.{UnitTree, Variables, Constants, OperatorDefinition, FunctionDefinition, ModuleDefinition, Instance, Assumption, Theorem, Line, ModuleBegin, ModuleEnd, ModuleUnits}
use Rattle.tla_model.specs.Contexts.{Context}
use Rattle.tla_model.specs.Entities.{Meaning, Text}
use Rattle.module_model.specs.Modules.{text_of}
use Rattle.module_model.specs.Resolution.{words_of}
use Rattle.kind_text.specs.FlatModule.{FlatModule, IsOrdered}
use Rattle.tree_kinds.specs.Standing.{Outside, themselves}
use Rattle.tree_kinds.specs.TreeLevels.{NotConstant, assumed, is_above, levels}
use Rattle.module_kinds.specs.ModuleKinds.{KindState, after, around, first, found_from, found_in, found_of, known_at, level_findings, named}
use Rattle.flat_kinds.specs.Modules.{Current, first_current, here_behind, round_behind}
use Rattle.flattened_trees.specs.Answers.{kind_in, level_answers}
use Rattle.flattened_trees.specs.Leads.{FlatFace}
use Rattle.flattened_trees.specs.Questions.{Question, IsConstant, over}
use Rattle.flattened_trees.specs.Flattened.{IsFlattened}
use Rattle.flattened_trees.specs.Readable.{IsReadable, IsReadableDefinition, IsReadableThrough}
use Rattle.flattened_levels.specs.Shapes.{IsShaped, IsShapedDefinition}
use Rattle.flattened_levels.proofs.AtNode.{answers-append, answers-parted, found-nil}
use Rattle.flattened_levels.proofs.TreesAnswered.{definition-levels, instance-levels, tree-kind, tree-levels}
use Rattle.flattened_units.specs.Units.{AreUnitsMade, IsDefinitionMade, IsInstanceMade, IsModuleMade, IsUnitMade, Reader, face_in}
use Rattle.module_meanings.specs.Premises.{AreUnitsGiven, IsDefinitionGivenBy, IsFileAt, IsInstanceGivenBy, IsModuleGiven, IsTreeGiven, IsUnitGivenBy, first_seen, seen_behind}
use Rattle.module_meanings.proofs.Beginning.{first-reader, symbol-stands}
use Rattle.module_meanings.proofs.Entering.{Holds}
use Rattle.module_meanings.proofs.Further.{AllDefinitionsLead, unit-further}
use Rattle.module_meanings.proofs.Modules.{given-steps, module-begun, tree-named}
use Rattle.module_answers.specs.Shaped.{AreUnitsShaped, IsClaimGiven, IsModuleShaped, IsShapedInstance, IsUnitShaped}
use Rattle.module_answers.proofs.Rounds.{asked-round, tree-round}

module _ (flat : FlatModule) (ordered : IsOrdered flat) (text : Text) (means : ℕ → Option Meaning) (implied : ℕ → List Meaning) (files : List ℕ → FlatFace) (outsides : List ℕ → Outside) (words : List ℕ) where
  module _ (state : KindState) (reader : Reader) (seen : List Meaning) (here : Current) (outers : List Current) (holds : Holds flat ordered text means implied files outsides words state reader seen here outers) where
    abbrev here-faces : List ℕ → FlatFace
    here-faces = face_in flat text means implied files outsides words reader.faces

    definition-found : (unit : UnitTree) (x : Tree) (next : Reader) (asked : List Question) → IsDefinitionMade flat text means implied files outsides words reader x next asked → IsDefinitionGivenBy flat text means implied files outsides words (IsFileAt flat text means implied files outsides words) state reader seen unit x → IsShapedDefinition x → level_answers flat asked ≡ levels text (known_at text outsides words state unit) (named text outsides words state) (around text outsides words state themselves) x
    definition-found unit x next asked (lead, roots, made, is) given shaped =
        let known = known_at text outsides words state unit in
        let modules = named text outsides words state in
        let tree = tree-named flat ordered text means implied files outsides words state reader seen holds.nested x given.given in
        definition-levels flat text known modules means implied here-faces tree.nameable ordered here.layout reader.setting seen (around text outsides words state themselves) x lead roots asked
        (tree-round flat ordered text means implied files outsides words state reader seen here outers holds unit x tree)
        (asked-round flat ordered text means implied files outsides words state reader seen here outers holds)
        (subst (λ (context : Context). IsReadableDefinition text known modules means implied here-faces context x) holds.here.follows.context given.readable) shaped made

    instance-found : (unit : UnitTree) (x : Tree) (next : Reader) (asked : List Question) → IsInstanceMade flat text means implied files outsides words state reader x next asked → IsInstanceGivenBy flat text means implied files outsides words (IsFileAt flat text means implied files outsides words) state reader seen unit x → IsShapedInstance x → level_answers flat asked ≡ levels text (known_at text outsides words state unit) (named text outsides words state) (around text outsides words state themselves) x
    instance-found unit (Node (Form.Instance l) s rights) next asked (written, roots, j, a, b, are, is, then, parted) given shaped =
        let x : Tree = Node (Form.Instance l) s rights in
        let known = known_at text outsides words state unit in
        let modules = named text outsides words state in
        let tree = tree-named flat ordered text means implied files outsides words state reader seen holds.nested x given.given in
        ap (level_answers flat) parted
        ∙ instance-levels flat text known modules means implied here-faces tree.nameable ordered here.layout reader.setting seen (around text outsides words state themselves) l s rights (length reader.setting.frame) 0 false written roots j a b
        (tree-round flat ordered text means implied files outsides words state reader seen here outers holds unit x tree)
        (asked-round flat ordered text means implied files outsides words state reader seen here outers holds)
        (subst (λ (context : Context). IsReadableThrough text known modules means implied here-faces context (Cons x Nil)) holds.here.follows.context given.readable) shaped are is
    instance-found unit x next asked made given shaped = absurd shaped

    module _ (unit : UnitTree) (form : Form.the_data) (s : Span) (parts : Trees) (i : ℕ) (a : List Question) (given : IsClaimGiven flat text means implied files outsides words state reader seen unit (Node form s parts)) (made : IsFlattened text means implied here-faces flat reader.setting (Node form s parts) i a) where
      abbrev tree-of : Tree
      tree-of = Node form s parts

      tree : IsTreeGiven flat text means implied files outsides words state reader seen tree-of
      tree = tree-named flat ordered text means implied files outsides words state reader seen holds.nested tree-of given.given

      can : IsReadable text (known_at text outsides words state unit) (named text outsides words state) means implied here-faces here.layout.context tree-of
      can = subst (λ (context : Context). IsReadable text (known_at text outsides words state unit) (named text outsides words state) means implied here-faces context tree-of) holds.here.follows.context given.readable

      claim-levels : IsShaped tree-of → level_answers flat a ≡ levels text (known_at text outsides words state unit) (named text outsides words state) (around text outsides words state themselves) tree-of
      claim-levels shaped =
          tree-levels flat text (known_at text outsides words state unit) (named text outsides words state) means implied here-faces tree.nameable ordered here.layout reader.setting seen (around text outsides words state themselves) tree-of
          (tree-round flat ordered text means implied files outsides words state reader seen here outers holds unit tree-of tree)
          (asked-round flat ordered text means implied files outsides words state reader seen here outers holds) i a can shaped made

      constant-found : level_answers flat (over reader.setting.frame (IsConstant s i ∷ [])) ≡ assumed text (known_at text outsides words state unit) (named text outsides words state) (around text outsides words state themselves) tree-of
      constant-found =
          found-nil (cond (is_above 0 (kind_in flat reader.setting.frame i)) (NotConstant s ∷ []) [])
          ∙ ap (λ k. cond (is_above 0 k) (NotConstant s ∷ []) [])
          (tree-kind flat text (known_at text outsides words state unit) (named text outsides words state) means implied here-faces tree.nameable ordered here.layout reader.setting seen (around text outsides words state themselves) tree-of
          (tree-round flat ordered text means implied files outsides words state reader seen here outers holds unit tree-of tree)
          (asked-round flat ordered text means implied files outsides words state reader seen here outers holds) i a can made)

    unit-found : (unit : UnitTree) (next : Reader) (asked : List Question) → IsUnitMade flat text means implied files outsides words state reader unit next asked → IsUnitGivenBy flat text means implied files outsides words (IsFileAt flat text means implied files outsides words) state reader seen unit next → IsUnitShaped flat text means implied files outsides words state reader seen unit → level_answers flat asked ≡ found_in text outsides words state unit
    unit-found (OperatorDefinition local x) next asked made given shaped = definition-found (OperatorDefinition local x) x next asked made given shaped
    unit-found (FunctionDefinition local x) next asked made given shaped = definition-found (FunctionDefinition local x) x next asked made given shaped
    unit-found (ModuleDefinition local x) next asked made given shaped = definition-found (ModuleDefinition local x) x next asked made given shaped
    unit-found (Instance local x) next asked made given shaped = instance-found (Instance local x) x next asked made given shaped
    unit-found (Assumption word name (Node form s parts)) next asked (i, a, is, same, parted) given (claim, shaped) =
        let unit : UnitTree = Assumption word name (Node form s parts) in
        let more : List Question = over reader.setting.frame (IsConstant s i ∷ []) in
        ap (level_answers flat) parted ∙ answers-append flat a more
        ∙ ap (λ xs. xs ++ level_answers flat more) (claim-levels unit form s parts i a claim is shaped)
        ∙ ap (λ ys. found_of text outsides words state unit (Node form s parts) ++ ys) (constant-found unit form s parts i a claim is)
    unit-found (Theorem word name (Node form s parts)) next asked (i, a, is, same, parted) given (claim, shaped) =
        ap (level_answers flat) parted ∙ answers-append flat a [] ∙ found-nil (level_answers flat a)
        ∙ claim-levels (Theorem word name (Node form s parts)) form s parts i a claim is shaped
    unit-found (Variables names) next asked made given shaped = ap (level_answers flat) made.1
    unit-found (Constants declarations) next asked made given shaped = ap (level_answers flat) made.1
    unit-found (Line dashes) next asked made given shaped = ap (level_answers flat) made.1
    unit-found (ModuleBegin dashes name extends) next asked made given shaped = ap (level_answers flat) made.1
    unit-found (ModuleEnd closing) next asked made given shaped = ap (level_answers flat) made.1

  units-found : (units : List UnitTree) (state : KindState) (reader : Reader) (seen : List Meaning) (here : Current) (outers : List Current) (next : Reader) (asked : List Question) (made : AreUnitsMade flat text means implied files outsides words state reader units next asked) → AreUnitsGiven flat text means implied files outsides words state reader seen units next asked made → AreUnitsShaped flat text means implied files outsides words state reader seen units next asked made → AllDefinitionsLead reader → Holds flat ordered text means implied files outsides words state reader seen here outers → level_answers flat asked ≡ found_from text outsides words state units
  units-found [] state reader seen here outers next asked made given shaped further holds = ap (level_answers flat) made.1
  units-found (unit ∷ units) state reader seen here outers next asked made given shaped further holds =
      let one = given-steps flat ordered text means implied files outsides words state reader seen here outers unit made.0 made.1 made.3 given.0.0 given.0.1 given.1 further holds in
      answers-parted flat asked made.1 made.2 _ _ made.5 (unit-found state reader seen here outers holds unit made.0 made.1 made.3 given.1 shaped.0)
      (units-found units (after text outsides words state unit) made.0 (seen_behind text outsides words state unit made.0 seen) (here_behind text outsides words state here outers unit one.coming) (round_behind text outsides words here outers one.coming) next made.2 made.4 given.2 shaped.1
      (unit-further flat text means implied files outsides words state reader seen unit made.0 made.1 further given.1 made.3) one.holds)

module _ (flat : FlatModule) (ordered : IsOrdered flat) (means : ℕ → Option Meaning) (implied : ℕ → List Meaning) (files : List ℕ → FlatFace) (outsides : List ℕ → Outside) (source : List ℕ) (units : ModuleUnits) (symbols : List Meaning) where
  pub module-found : (final : Reader) (asked : List Question) (made : IsModuleMade flat means implied files outsides source units symbols final asked) → IsModuleGiven flat means implied files outsides source units symbols final asked made → IsModuleShaped flat means implied files outsides source units symbols final asked made → level_answers flat asked ≡ level_findings outsides source units
  module-found final asked made given shaped =
      let begun = module-begun flat ordered means implied files outsides source units symbols final asked made given in
      units-found flat ordered (text_of source units) means implied files outsides (words_of units) units.units (first outsides source units) (first-reader flat ordered means implied files outsides source units symbols made.0) (first_seen flat means implied files outsides source units symbols)
      (first_current outsides source units (symbol-stands flat ordered means implied files outsides source units symbols) (length symbols) begun.extensions) [] final asked made.2 given.given shaped begun.further begun.holds
