-- Behind each unit names lead as they do by its text.
use Rattle.std.proofs.Common.{◌≡◌, ℕ, false, List, [], ◌∷◌, ◌++◌, Option, sym, ap, ◌∙◌, length, map}
use mathlib.Core.Path.{fun_ext}
use Rattle.tla_symbols.specs.declared.lexeme.Lexeme.{Lexeme}
use Rattle.tla_tree.specs.declared.form.Form.TheVariants as Form
use Rattle.tla_tree.specs.Syntax.{Tree, Node as TreeNode}
use Rattle.unit_grammar.specs.Units.{UnitTree, OperatorDefinition, FunctionDefinition, ModuleDefinition, Instance as UnitInstance, Assumption, Theorem, ModuleBegin, ModuleEnd}
use Rattle.tla_model.specs.Entities.{Meaning, Text}
use Rattle.tla_model.specs.Lexemes.{spelled}
use Rattle.module_scope.specs.Environments.{Scope, begun, ended}
use Rattle.module_model.specs.Exports.{exports_of}
use Rattle.module_model.specs.Modules.{Reading}
use Rattle.module_model.specs.Instances.{nested_view}
use Rattle.module_model.specs.Resolution.{instance_brings}
use Rattle.kind_text.specs.FlatModule.{FlatModule, IsOrdered}
use Rattle.tree_kinds.specs.Standing.{Outside}
use Rattle.module_kinds.specs.ModuleKinds.{KindState, views}
use Rattle.flattened_trees.specs.Leads as flat_leads
use Rattle.flattened_trees.specs.Questions.{Question}
use Rattle.flattened_units.specs.Units as units
use Rattle.resolved_trees.specs.Resolved.{Nil, parts_at, resolved}
use Rattle.written_trees.specs.Leading.{Face, Leads, Setting, leads_in, setting_in}
use Rattle.written_trees.specs.Leading as leading
use Rattle.written_trees.specs.Written.{HoldsInstances, defined_lead, instance_of, rights_of}
use Rattle.written_trees.proofs.Instances.{instance-told}
use Rattle.written_trees.proofs.Told.{definition-place, each-told, inner-hold, rights-told}
use Rattle.own_symbols.specs.Ahead.{AreAllOwned, first_own}
use Rattle.own_symbols.proofs.Owning.{begun-owned}
use Rattle.written_modules.specs.Faces.{reader_in, scope_in}
use Rattle.written_modules.specs.Modules.{UnitHolds, behind_begin, behind_definition, behind_end, behind_instance, behind_unit, entries_in, extended, extension_of, face_in, nested_face, with_brought}
use Rattle.written_modules.proofs.Placing.{brought-told, exported-told, extension-told, symbols-told}
use Rattle.written_modules.proofs.Scopes.{begun-told, ended-told, face-told}

module _ (flat : FlatModule) (ordered : IsOrdered flat) (text : Text) (means : ℕ → Option Meaning) (implied : ℕ → List Meaning) (files : List ℕ → flat_leads.FlatFace) (outsides : List ℕ → Outside) (words : List ℕ) where
  -- the files, by resolved trees
  abbrev pub written_files : List ℕ → Face
  written_files name = leading.face_in flat (files name)

  -- the module of a name, in the flat module
  abbrev pub flat_face : Scope flat_leads.FlatFace → List ℕ → flat_leads.FlatFace
  flat_face faces name = units.face_in flat text means implied files outsides words faces name

  pub faces-told : (faces : Scope flat_leads.FlatFace) → (λ name. leading.face_in flat (flat_face faces name)) ≡ face_in written_files (scope_in flat faces)
  faces-told faces = fun_ext (λ name. sym (face-told flat files faces name))

  pub extended-told : (names : List Lexeme) (modules : Scope Outside) (faces : Scope flat_leads.FlatFace) (setting : flat_leads.Setting) (leads next : flat_leads.Leads)
      → units.AreExtended flat text means implied files outsides words modules faces setting leads names next
      → leads_in flat next ≡ extended text means implied written_files outsides words modules (scope_in flat faces) (setting_in flat setting) (leads_in flat leads) names
  extended-told [] modules faces setting leads next is = ap (leads_in flat) is
  extended-told (l ∷ rest) modules faces setting leads next (j, extension, more) =
      let name = spelled text.source l in
      let entries = entries_in text means implied written_files outsides words modules l in
      let face = sym (face-told flat files faces name) in
      extended-told rest modules faces setting (units.with_brought leads entries j (flat_face faces name)) next more
      ∙ ap (λ (ls : Leads). extended text means implied written_files outsides words modules (scope_in flat faces) (setting_in flat setting) ls rest)
      (brought-told flat leads entries j (flat_face faces name)
      ∙ ap (λ x. with_brought (leads_in flat leads) entries x (leading.face_in flat (flat_face faces name))) (extension-told flat ordered setting (flat_face faces name) j extension)
      ∙ ap (λ (f : Face). with_brought (leads_in flat leads) entries (extension_of (setting_in flat setting) f) f) face)

  definition-told : (reader next : units.Reader) (x : Tree) (asked : List Question) → HoldsInstances x → units.IsDefinitionMade flat text means implied files outsides words reader x next asked
      → reader_in flat next ≡ behind_definition text means implied written_files outsides words (reader_in flat reader) x
  definition-told reader next x asked holds (lead, roots, is, next_is) =
      let place = definition-place flat ordered text means implied (flat_face reader.faces) x holds reader.setting lead roots asked is
      ∙ ap (λ (fs : List ℕ → Face). leading.behind text (setting_in flat reader.setting) x (defined_lead text means implied fs (setting_in flat reader.setting) x)) (faces-told reader.faces) in
      ap (reader_in flat) next_is ∙ (λ i. record { setting = place i; round = map (setting_in flat) reader.round; faces = scope_in flat reader.faces })

  instance-made : (l : Lexeme) (s : _) (rights : _) (state : KindState) (reader next : units.Reader) (asked : List Question) → HoldsInstances (TreeNode (Form.Instance l) s rights)
      → units.IsInstanceMade flat text means implied files outsides words state reader (TreeNode (Form.Instance l) s rights) next asked
      → reader_in flat next ≡ behind_instance text means implied written_files outsides words state (reader_in flat reader) (TreeNode (Form.Instance l) s rights)
  instance-made l s rights state reader next asked holds (written, roots, j, a, b, are, instance, next_is, asks) =
      let here = setting_in flat reader.setting in
      let name = spelled text.source l in
      let entries = instance_brings text (views text outsides words) words state.read (TreeNode (Form.Instance l) s rights) in
      let each = each-told flat ordered text means implied (flat_face reader.faces) rights (inner-hold flat ordered text means implied (flat_face reader.faces) (Form.Instance l) s rights holds) in
      let told = rights-told flat ordered text means implied (flat_face reader.faces) l rights reader.setting written roots a each are in
      let made_so = instance-told flat ordered text means implied (flat_face reader.faces) reader.setting (length reader.setting.frame) 0 false l written j b instance
      ∙ ap (instance_of text means implied (λ n. leading.face_in flat (flat_face reader.faces n)) here (length reader.setting.frame) 0 false l) told.0 in
      let leads = brought-told flat reader.setting.leads entries j (flat_face reader.faces name)
      ∙ ap (λ x. with_brought (leads_in flat reader.setting.leads) entries x (leading.face_in flat (flat_face reader.faces name))) made_so
      ∙ ap (λ (fs : List ℕ → Face). with_brought (leads_in flat reader.setting.leads) entries (instance_of text means implied fs here (length reader.setting.frame) 0 false l (rights_of text means implied fs here rights)) (fs name)) (faces-told reader.faces) in
      ap (reader_in flat) next_is
      ∙ (λ i. record { setting = record { leads = leads i; frame = reader.setting.frame; olds = parts_at flat (resolved flat) reader.setting.olds }; round = map (setting_in flat) reader.round; faces = scope_in flat reader.faces })

  instance-unit : (x : Tree) (state : KindState) (reader next : units.Reader) (asked : List Question) → HoldsInstances x → units.IsInstanceMade flat text means implied files outsides words state reader x next asked
      → reader_in flat next ≡ behind_instance text means implied written_files outsides words state (reader_in flat reader) x
  instance-unit (TreeNode (Form.Instance l) s rights) state reader next asked holds is = instance-made l s rights state reader next asked holds is
  instance-unit (TreeNode form s parts) state reader next asked holds is = ap (reader_in flat) is.0

  begin-told : (state : KindState) (reader next : units.Reader) (name : Lexeme) (extends : List Lexeme) → units.IsBegun flat text means implied files outsides words state reader name extends next
      → (owns : List (List Meaning)) → AreAllOwned owns next.setting next.round → reader_in flat next ≡ behind_begin text means implied written_files outsides words state (reader_in flat reader) name extends (first_own owns)
  begin-told state reader next name extends (own, leads, both) owns are =
      let title = spelled text.source name in
      let inner : flat_leads.Setting = record { leads = units.with_symbols reader.setting.leads own (length reader.setting.frame); frame = reader.setting.frame ++ own; olds = [] } in
      let symbols = symbols-told flat own reader.setting.leads (length reader.setting.frame) in
      let scope = begun-told flat reader.faces title in
      let told = extended-told extends (begun state.modules title) (begun reader.faces title) inner inner.leads leads both.0
      ∙ (λ i. extended text means implied written_files outsides words (begun state.modules title) (scope i) (record { leads = symbols i; frame = reader.setting.frame ++ own; olds = Nil }) (symbols i) extends) in
      ap (reader_in flat) both.1 ∙ (λ i. record {
        setting = record { leads = told i; frame = reader.setting.frame ++ own; olds = Nil };
        round = setting_in flat reader.setting ∷ map (setting_in flat) reader.round;
        faces = scope i;
      })
      ∙ ap (behind_begin text means implied written_files outsides words state (reader_in flat reader) name extends)
      (sym (begun-owned flat text means implied files outsides words owns state next reader name extends (own, leads, both) are))

  end-told : (readings : List Reading) (state : KindState) (reader next : units.Reader) (round : List flat_leads.Setting) → units.IsEnded flat text means implied files outsides words state readings reader round next
      → reader_in flat next ≡ behind_end text means implied written_files outsides words state readings (reader_in flat reader) (map (setting_in flat) round)
  end-told [] state reader next round is = absurd is
  end-told (outside ∷ readings) state reader next [] is = absurd is
  end-told (outside ∷ readings) state reader next (outer ∷ round) (frame, next_is) =
      let face : leading.face_in flat (units.nested_face flat text means implied files outsides words state outside reader.setting outer)
      ≡ nested_face text means implied written_files outsides words state outside (setting_in flat reader.setting) (setting_in flat outer) =
      (λ i. record {
        parameters = (nested_view state.read.known outside.context (exports_of state.read.place.here.exports)).parameters;
        outer = length outer.frame;
        leads = λ names. exported-told flat reader.setting.leads (exports_of state.read.place.here.exports) names i;
        is_constant = false;
      }) in
      let scope = ended-told flat (units.nested_face flat text means implied files outsides words state outside reader.setting outer) reader.faces.here reader.faces.round in
      ap (reader_in flat) next_is
      ∙ (λ i. record { setting = setting_in flat outer; round = map (setting_in flat) round; faces = scope i })
      ∙ ap (λ f. record { setting = setting_in flat outer; round = map (setting_in flat) round; faces = scope_ended f }) face
    where
      scope_ended : Face → Scope Face
      scope_ended f = ended f (scope_in flat reader.faces).here (scope_in flat reader.faces).round

  pub unit-told : (unit : UnitTree) (state : KindState) (reader next : units.Reader) (asked : List Question) → UnitHolds unit → units.IsUnitMade flat text means implied files outsides words state reader unit next asked
      → (owns : List (List Meaning)) → AreAllOwned owns next.setting next.round → reader_in flat next ≡ behind_unit text means implied written_files outsides words state (reader_in flat reader) (first_own owns) unit
  unit-told (OperatorDefinition local x) state reader next asked holds is owns are = definition-told reader next x asked holds is
  unit-told (FunctionDefinition local x) state reader next asked holds is owns are = definition-told reader next x asked holds is
  unit-told (ModuleDefinition local x) state reader next asked holds is owns are = definition-told reader next x asked holds is
  unit-told (UnitInstance local x) state reader next asked holds is owns are = instance-unit x state reader next asked holds is
  unit-told (Assumption word name x) state reader next asked holds (i, a, made, next_is, asks) owns are = ap (reader_in flat) next_is
  unit-told (Theorem word name x) state reader next asked holds (i, a, made, next_is, asks) owns are = ap (reader_in flat) next_is
  unit-told (ModuleBegin dashes name extends) state reader next asked holds is owns are = begin-told state reader next name extends is.0 owns are
  unit-told (ModuleEnd closing) state reader next asked holds is owns are = end-told state.read.place.round state reader next reader.round is.0
  unit-told unit state reader next asked holds is owns are = ap (reader_in flat) is.0
