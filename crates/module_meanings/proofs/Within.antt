-- Names lead to what is there, behind each unit.
use Rattle.std.proofs.Common.{◌≡◌, ℕ, zero, suc, ◌<◌, Bool, true, false, cond, List, [], ◌∷◌, ◌++◌, Option, Some, None, map, refl, sym, subst, drop, length}
use Rattle.std.specs.Prelude.{slice_get}
use Rattle.std.specs.List.{AllByRecursion}
use Rattle.std.proofs.lemmas.Option.{slice_get_within}
use Rattle.list_laws.proofs.Lists.{all-both}
use Rattle.tla_symbols.specs.declared.lexeme.Lexeme.{Lexeme}
use Rattle.tla_symbols.specs.declared.lexeme.Span.{Span}
use Rattle.tla_tree.specs.declared.form.Form.TheVariants as Form
use Rattle.tla_tree.specs.Syntax.{Tree, Trees, Node, Nil, Cons}
use Rattle.unit_grammar.specs.Units.{UnitTree, Variables, Constants, OperatorDefinition, FunctionDefinition, ModuleDefinition, Instance, Assumption, Theorem, Line, ModuleBegin, ModuleEnd}
use Rattle.tla_model.specs.declared.entity.Entity.TheVariants as entity
use Rattle.tla_model.specs.declared.names.Meaning.TheVariants.{BuiltIn, Declared}
use Rattle.tla_model.specs.Contexts.{Context}
use Rattle.tla_model.specs.Entities.{Meaning, Text, defined, meant, name_of}
use Rattle.tla_model.specs.Lexemes.{spelled}
use Rattle.tla_model.specs.Tables.{Named, same_named}
use Rattle.module_scope.specs.Environments.{Environment, Scope, begun, ended}
use Rattle.module_model.specs.Exports.{Exports, Known, entry_of, exports_of}
use Rattle.module_model.specs.Modules.{Reading}
use Rattle.module_model.specs.Resolution.{instance_brings}
use Rattle.kind_text.specs.FlatModule.{FlatModule, Node as FlatNode, Replacement, UsesDefinition, UsesInstance}
use Rattle.tree_kinds.specs.Standing.{Outside, name_among, operator_places, same_standing}
use Rattle.tree_kinds.specs.Expanding.{Part, Outer, Helper, Whole, part_of}
use Rattle.module_kinds.specs.ModuleKinds.{KindState, known_at, named, views}
use Rattle.flat_trees.specs.Layouts.{order_of}
use Rattle.flat_kinds.specs.Declarations.{OfAllKnown, OfKnown}
use Rattle.flat_kinds.specs.Symbols.{same_symbol}
use Rattle.flat_kinds.proofs.Declarations.{added-known, found-known}
use Rattle.flattened_trees.specs.declared.End.TheVariants as end
use Rattle.flattened_trees.specs.Flattened.{AreOperands, AreReplacing, AreRights, AreStaying, HasNode, IsDefined, IsFlattened, IsInstance, IsRoot, IsThrough, Right, all_parts, asks_of, right_for, right_of}
use Rattle.flattened_trees.specs.Leads.{FlatFace, Lead, Leads, Setting, behind_instance, nowhere, only, with_lead, with_leads, with_parameters}
use Rattle.flattened_trees.specs.NodeForms.{lead_of, name_node}
use Rattle.flattened_trees.specs.Questions.{Question}
use Rattle.flattened_trees.specs.Readable.{IsReadableDefinition, IsReadableThrough}
use Rattle.flattened_trees.specs.Within.{IsLeadWithin}
use Rattle.flattened_units.specs.Units.{AreExtended, AreShared, IsDefinitionMade, IsEnded, IsExtension, IsInstanceMade, IsUnitMade, Reader, coming_lead, entries_in, exported_leads, face_in, face_under, nested_face, no_leads, with_brought, with_symbols}
use Rattle.module_meanings.specs.Faces.{IsFaceWithin, IsReaderWithin, LeadsWithin}
use Rattle.module_meanings.specs.Premises.{IsUnitGivenBy, OfNamed}

module _ (flat : FlatModule) where
  -- a node that is there
  there : (i : ℕ) (n : FlatNode) → HasNode flat i n → i < length flat.nodes
  there i n is = slice_get_within flat.nodes i n is

  nowhere-within : IsLeadWithin flat nowhere
  nowhere-within = record { path = tt; end = tt }

  -- nodes and replacements that are there
  abbrev AreThere : List ℕ → Type 0
  AreThere is = AllByRecursion (λ i. i < length flat.nodes) is

  abbrev ArePut : List Replacement → Type 0
  ArePut rs = AllByRecursion (λ (r : Replacement). r.root < length flat.nodes) rs

  -- ---- trees

  module _ (text : Text) (means : ℕ → Option Meaning) (implied : ℕ → List Meaning) (faces : List ℕ → FlatFace) where
    flattened-there : (setting : Setting) (x : Tree) (i : ℕ) (asked : List Question) → IsFlattened text means implied faces flat setting x i asked → i < length flat.nodes
    flattened-there setting (Node Form.Let s parts) i asked is = there i _ is.3
    flattened-there setting (Node Form.Except s (Cons function updates)) i asked is = there i _ is.6
    flattened-there setting (Node Form.Except s Nil) i asked is = there i _ is.3
    flattened-there setting (Node form s parts) i asked is = there i _ is.3

    -- what is said of a part, by what it is
    abbrev OfPart : Setting → Form.the_data → Span → Trees → Part → List ℕ → List Question → Type 0
    OfPart setting form s parts part first a = elim part [
      | Outer ↦ AreOperands text means implied faces flat all_parts setting parts first a
      | Helper ↦ AreOperands text means implied faces flat all_parts setting parts first a
      | Whole ↦ (i : ℕ) × (first ≡ i ∷ []) × IsFlattened text means implied faces flat setting (Node form s parts) i a
    ]

    operands-there : (setting : Setting) (xs : Trees) (is : List ℕ) (asked : List Question) → AreOperands text means implied faces flat all_parts setting xs is asked → AreThere is
    operands-there setting Nil is asked are = subst AreThere (sym are.0) tt
    operands-there setting (Cons (Node form s parts) rest) is asked are =
        subst AreThere (sym are.4)
        (all-both (λ (i : ℕ). i < length flat.nodes) are.0 are.1
        (by_part (part_of form) are.0 are.2 (λ js b. operands-there setting parts js b) are.6) (operands-there setting rest are.1 are.3 are.7))
      where
        by_part : (part : Part) (first : List ℕ) (a : List Question) → ((js : List ℕ) (b : List Question) → AreOperands text means implied faces flat all_parts setting parts js b → AreThere js)
            → OfPart setting form s parts part first a → AreThere first
        by_part Outer first a into one = into first a one
        by_part Helper first a into one = into first a one
        by_part Whole first a into one = subst AreThere (sym one.1) (flattened-there setting (Node form s parts) one.0 a one.2, tt)

    root-there : (is : List ℕ) (root : ℕ) → AreThere is → IsRoot flat is root → root < length flat.nodes
    root-there [] root all is = there root _ is
    root-there (i ∷ is) root all same = subst (λ n. n < length flat.nodes) (sym same) all.0

    -- ---- replacements

    abbrev AreRightsThere : List Right → Type 0
    AreRightsThere rights = AllByRecursion (λ (right : Right). right.node < length flat.nodes) rights

    one-right : (name : Named) (right : Trees) (is : List ℕ) → AreThere is → AreRightsThere (right_of name right is)
    one-right name Nil is all = tt
    one-right name (Cons (Node form s parts) others) [] all = tt
    one-right name (Cons (Node form s parts) others) (i ∷ is) all = (all.0, tt)

    rights-there : (setting : Setting) (l : Lexeme) (xs : Trees) (rights : List Right) (roots : List ℕ) (asked : List Question) → AreRights text means implied faces flat setting l xs rights roots asked → AreRightsThere rights
    rights-there setting l Nil rights roots asked are = subst AreRightsThere (sym are.0) tt
    rights-there setting l (Cons (Node (Form.Replacement left) s right) rest) rights roots asked are =
        subst AreRightsThere (sym are.7)
        (all-both (λ (one : Right). one.node < length flat.nodes) (right_of (name_of text.source left) right are.0) are.4
        (one-right (name_of text.source left) right are.0 (operands-there setting right are.0 are.2 are.5)) (rights-there setting l rest are.4 are.1 are.3 are.6))
    rights-there setting l (Cons (Node form s right) rest) rights roots asked are = rights-there setting l rest rights roots asked are

  staying-there : (place count : ℕ) (staying : List Replacement) → AreStaying flat place count staying → ArePut staying
  staying-there place zero [] are = tt
  staying-there place zero (r ∷ staying) are = absurd are
  staying-there place (suc count) [] are = absurd are
  staying-there place (suc count) (r ∷ staying) are = (there r.root _ are.0, staying-there (suc place) count staying are.2)

  shared-there : (leads : Leads) (parameters : Exports) (made : List Replacement) → AreShared flat leads parameters made → ArePut made
  shared-there leads [] [] are = tt
  shared-there leads [] (r ∷ made) are = absurd are
  shared-there leads (p ∷ parameters) [] are = absurd are
  shared-there leads (p ∷ parameters) (r ∷ made) are = (there r.root _ are.0, shared-there leads parameters made are.2)

  -- ---- instances

  right-there : (rights : List Right) (name : Named) (right : Right) → AllByRecursion (λ (one : Right). one.node < length flat.nodes) rights → right_for rights name ≡ Some right → right.node < length flat.nodes
  right-there [] name right all is = cc is
  right-there (one ∷ rest) name right all is = by_name (same_named name one.name) is (right-there rest name right all.1)
    where
      by_name : (b : Bool) → cond b (Some one) (right_for rest name) ≡ Some right → (right_for rest name ≡ Some right → right.node < length flat.nodes) → right.node < length flat.nodes
      by_name true found again = let same : one ≡ right = cc found in subst (λ (r : Right). r.node < length flat.nodes) same all.0
      by_name false found again = again found

  -- how a parameter is replaced, by the right side that is written for it
  abbrev OfRight : Leads → List Meaning → Bool → List Right → Lexeme → Named × Meaning → Exports → List Meaning → Replacement → List Replacement → List Question → List Question → Option Right → Type 0
  OfRight leads frame constant rights l p parameters symbols r made asked rest found = elim found [
    | Some right ↦ (r.root ≡ right.node) × (asked ≡ asks_of flat leads frame constant rights l right.at r p ∷ rest) × AreReplacing flat leads frame constant rights l parameters symbols made rest
    | None ↦ HasNode flat r.root (name_node (operator_places (Some p.1)) (lead_of leads (slice_get symbols 0) []) [])
        × (asked ≡ asks_of flat leads frame constant rights l l.span r p ∷ rest) × AreReplacing flat leads frame constant rights l parameters (drop 1 symbols) made rest
  ]

  replacing-there : (leads : Leads) (frame : List Meaning) (constant : Bool) (rights : List Right) (l : Lexeme) (parameters : Exports) (symbols : List Meaning) (made : List Replacement) (asked : List Question) → AllByRecursion (λ (one : Right). one.node < length flat.nodes) rights → AreReplacing flat leads frame constant rights l parameters symbols made asked → ArePut made
  replacing-there leads frame constant rights l [] symbols made asked all are = subst ArePut (sym are.0) tt
  replacing-there leads frame constant rights l (p ∷ parameters) symbols [] asked all are = absurd are
  replacing-there leads frame constant rights l (p ∷ parameters) symbols (r ∷ made) asked all are =
      by_right (right_for rights p.0) refl are.2 (λ ss. replacing-there leads frame constant rights l parameters ss made are.0 all)
    where
      by_right : (o : Option Right) → right_for rights p.0 ≡ o
          → OfRight leads frame constant rights l p parameters symbols r made asked are.0 o
          → ((ss : List Meaning) → AreReplacing flat leads frame constant rights l parameters ss made are.0 → ArePut made) → ArePut (r ∷ made)
      by_right (Some right) found one again = (subst (λ n. n < length flat.nodes) (sym one.0) (right-there rights p.0 right all found), again symbols one.2)
      by_right None found one again = (there r.root _ one.0, again (drop 1 symbols) one.2)

  -- behind an instance that is there
  behind-within : (j : ℕ) (face : FlatFace) → UsesInstance flat (length flat.nodes) j → IsFaceWithin flat face → (names : List Named) → IsLeadWithin flat (behind_instance j face names)
  behind-within j face uses all [] = nowhere-within
  behind-within j face uses all (name ∷ names) = let on = all name names in record { path = (uses, on.path); end = on.end }

  -- to a definition that is there
  definition-within : (d : ℕ) → UsesDefinition flat (length flat.nodes) d → (names : List Named) → IsLeadWithin flat (only (end.Definition d) names)
  definition-within d uses [] = record { path = tt; end = uses }
  definition-within d uses (name ∷ names) = nowhere-within

  place-within : (place order : ℕ) (names : List Named) → IsLeadWithin flat (only (end.Place place order) names)
  place-within place order [] = record { path = tt; end = tt }
  place-within place order (name ∷ names) = nowhere-within

  module _ (text : Text) (means : ℕ → Option Meaning) (implied : ℕ → List Meaning) (faces : List ℕ → FlatFace) (all : (title : List ℕ) → IsFaceWithin flat (faces title)) where
    instance-there : (setting : Setting) (outer count : ℕ) (guards : Bool) (l : Lexeme) (parts : Trees) (rights : List Right) (roots : List ℕ) (j : ℕ) (a b : List Question) → AreRights text means implied faces flat setting l parts rights roots a → IsInstance text means implied faces flat setting outer count guards l rights j b → UsesInstance flat (length flat.nodes) j
    instance-there setting outer count guards l parts rights roots j a b are (staying, made, is, stay, replaced) = (
      record { outer = outer; parameters = count; guards = guards; replacements = staying ++ made },
      is,
      all-both (λ (r : Replacement). r.root < length flat.nodes) staying made (staying-there 0 _ staying stay)
          (replacing-there setting.leads setting.frame _ rights l _ _ made b (rights-there text means implied faces setting l parts rights roots a are) replaced),
    )

    module _ (known : Known) (outsides : List ℕ → Outside) where
      through-within : (context : Context) (outside setting : Setting) (own : Lexeme) (count : ℕ) (parts : Trees) (lead : List Named → Lead) (roots : List ℕ) (asked : List Question) → IsThrough text means implied faces flat outside setting own count parts lead roots asked → IsReadableThrough text known outsides means implied faces context parts → (names : List Named) → IsLeadWithin flat (lead names)
      through-within context outside setting own count Nil lead roots asked is readable names = absurd readable
      through-within context outside setting own count (Cons (Node (Form.Instance l) s rights) rest) lead roots asked is readable names =
          subst (λ (to : List Named → Lead). IsLeadWithin flat (to names)) (sym is.6)
          (behind-within is.1 (faces (spelled text.source l)) (instance-there setting (length outside.frame) count true l rights is.0 roots is.1 is.2 is.3 is.4 is.5) (all (spelled text.source l)) names)
      through-within context outside setting own count (Cons (Node form s parts) rest) lead roots asked is readable names = through-within context outside setting own count rest lead roots asked is readable names

      operator-within : (inner : Setting) (outer : ℕ) (parts : Trees) (lead : List Named → Lead) (is : List ℕ) (root d : ℕ) (a : List Question) → AreOperands text means implied faces flat all_parts inner parts is a → IsRoot flat is root → slice_get flat.definitions d ≡ Some (record { outer = outer; root = root }) → lead ≡ only (end.Definition d) → (names : List Named) → IsLeadWithin flat (lead names)
      operator-within inner outer parts lead is root d a are rooted found same names =
          subst (λ (to : List Named → Lead). IsLeadWithin flat (to names)) (sym same)
          (definition-within d (record { outer = outer; root = root }, found, root-there text means implied faces is root (operands-there text means implied faces inner parts is a are) rooted) names)

      -- the name of a definition leads to what is there
      defined-within : (context : Context) (setting : Setting) (form : Form.the_data) (s : Span) (parts : Trees) (lead : List Named → Lead) (roots : List ℕ) (asked : List Question) → IsDefined text means implied faces flat setting (Node form s parts) lead roots asked → IsReadableDefinition text known outsides means implied faces context (Node form s parts) → (names : List Named) → IsLeadWithin flat (lead names)
      defined-within context setting (Form.OperatorDefinition l) s parts lead roots asked is readable names = operator-within _ _ parts lead is.0 is.1 is.2 is.3 is.4 is.5 is.6 is.7 names
      defined-within context setting (Form.PrefixDefinition l) s parts lead roots asked is readable names = operator-within _ _ parts lead is.0 is.1 is.2 is.3 is.4 is.5 is.6 is.7 names
      defined-within context setting (Form.InfixDefinition l) s parts lead roots asked is readable names = operator-within _ _ parts lead is.0 is.1 is.2 is.3 is.4 is.5 is.6 is.7 names
      defined-within context setting (Form.PostfixDefinition l) s parts lead roots asked is readable names = operator-within _ _ parts lead is.0 is.1 is.2 is.3 is.4 is.5 is.6 is.7 names
      defined-within context setting (Form.FunctionDefinition l) s parts lead roots asked is readable names =
          subst (λ (to : List Named → Lead). IsLeadWithin flat (to names)) (sym is.7) (definition-within is.2 (record { outer = length setting.frame; root = is.1 }, is.6, there is.1 _ is.5) names)
      defined-within context setting (Form.ModuleDefinition l) s parts lead roots asked is readable names =
          through-within _ setting (with_parameters text setting (Form.ModuleDefinition l) parts) l _ parts lead roots asked is readable.2 names
      defined-within context setting form s parts lead roots asked is readable names = absurd readable

  -- ---- what names lead to

  leads-within : (meanings : List Meaning) (leads : Leads) (lead : List Named → Lead) → LeadsWithin flat leads → ((names : List Named) → IsLeadWithin flat (lead names)) → LeadsWithin flat (with_leads leads meanings lead)
  leads-within [] leads lead all one = all
  leads-within (d ∷ rest) leads lead all one = leads-within rest (with_lead leads d lead) lead (λ m names. by_same m names (same_standing m d)) one
    where
      by_same : (m : Meaning) (names : List Named) (b : Bool) → IsLeadWithin flat (cond b (lead names) (leads m names))
      by_same m names true = one names
      by_same m names false = all m names

  brought-within : (leads : Leads) (entries : Exports) (j : ℕ) (face : FlatFace) → LeadsWithin flat leads → UsesInstance flat (length flat.nodes) j → IsFaceWithin flat face → LeadsWithin flat (with_brought leads entries j face)
  brought-within leads entries j face all uses within m names = by_name (name_among entries m)
    where
      by_name : (o : Option Named) → IsLeadWithin flat (coming_lead j face (leads m names) names o)
      by_name None = all m names
      by_name (Some name) = let on = within name names in record { path = (uses, on.path); end = on.end }

  symbols-within : (leads : Leads) (symbols : List Meaning) (place : ℕ) → LeadsWithin flat leads → LeadsWithin flat (with_symbols leads symbols place)
  symbols-within leads [] place all m names = all m names
  symbols-within leads (s ∷ rest) place all m names = by_same (same_symbol m s) (symbols-within leads rest (suc place) all m names)
    where
      by_same : (b : Bool) → IsLeadWithin flat (with_symbols leads rest (suc place) m names) → IsLeadWithin flat (cond b (only (end.Place place (order_of s)) names) (with_symbols leads rest (suc place) m names))
      by_same true others = place-within place (order_of s) names
      by_same false others = others

  -- outside of a module
  pub exported-within : (leads : Leads) (entries : Exports) (name : Named) (names : List Named) → LeadsWithin flat leads → IsLeadWithin flat (exported_leads leads entries (name ∷ names))
  exported-within leads entries name names all = by_entry (entry_of entries name)
    where
      by_entry : (o : Option Meaning) → IsLeadWithin flat (lead_of leads o names)
      by_entry None = nowhere-within
      by_entry (Some m) = all m names

  -- ---- units

  module _ (text : Text) (means : ℕ → Option Meaning) (implied : ℕ → List Meaning) (files : List ℕ → FlatFace) (outsides : List ℕ → Outside) (words : List ℕ) (files-within : (title : List ℕ) → IsFaceWithin flat (files title)) where
    face-within : (faces : Scope FlatFace) (title : List ℕ) → OfAllKnown (IsFaceWithin flat) faces.here → IsFaceWithin flat (face_in flat text means implied files outsides words faces title)
    face-within faces title all =
        found-known (IsFaceWithin flat) faces.here title (λ (o : Option (Option FlatFace)). IsFaceWithin flat (face_under files o title)) (files-within title) some all
      where
        some : (found : Option FlatFace) → OfKnown (IsFaceWithin flat) found → IsFaceWithin flat (face_under files (Some found) title)
        some None one = λ name names. nowhere-within
        some (Some face) one = one

    pub extended-within : (modules : Scope Outside) (faces : Scope FlatFace) (setting : Setting) (leads : Leads) (ls : List Lexeme) (next : Leads) → OfAllKnown (IsFaceWithin flat) faces.here → LeadsWithin flat leads → AreExtended flat text means implied files outsides words modules faces setting leads ls next → LeadsWithin flat next
    extended-within modules faces setting leads [] next all within is = subst (LeadsWithin flat) (sym is) within
    extended-within modules faces setting leads (l ∷ rest) next all within (j, is, more) =
        let face = face_in flat text means implied files outsides words faces (spelled text.source l) in
        extended-within modules faces setting (with_brought leads (entries_in flat text means implied files outsides words modules l) j face) rest next all
        (brought-within leads (entries_in flat text means implied files outsides words modules l) j face within (extension-there setting face j is) (face-within faces (spelled text.source l) all)) more
      where
        extension-there : (round_it : Setting) (face : FlatFace) (number : ℕ) → IsExtension flat round_it face number → UsesInstance flat (length flat.nodes) number
        extension-there round_it face number (staying, made, found, stay, shared) =
            (_, found, all-both (λ (r : Replacement). r.root < length flat.nodes) staying made (staying-there 0 _ staying stay) (shared-there round_it.leads face.parameters made shared))

    with-setting : (reader next : Reader) (leads : Leads) → IsReaderWithin flat reader → LeadsWithin flat leads → next ≡ record reader { setting = record { leads = leads; frame = reader.setting.frame; olds = reader.setting.olds } } → IsReaderWithin flat next
    with-setting reader next leads all within is = subst (IsReaderWithin flat) (sym is) (record { leads = within; round = all.round; faces = all.faces; behind = all.behind })

    same-within : (reader next : Reader) → IsReaderWithin flat reader → next ≡ reader → IsReaderWithin flat next
    same-within reader next all is = subst (IsReaderWithin flat) (sym is) all

    definition-read : (state : KindState) (unit : UnitTree) (reader : Reader) (x : Tree) (next : Reader) (asked : List Question) → IsReaderWithin flat reader → IsDefinitionMade flat text means implied files outsides words reader x next asked → IsReadableDefinition text (known_at text outsides words state unit) (named text outsides words state) means implied (face_in flat text means implied files outsides words reader.faces) state.read.place.here.context x → IsReaderWithin flat next
    definition-read state unit reader (Node form s parts) next asked all (lead, roots, made, is) readable =
        with-setting reader next (with_leads reader.setting.leads (map (meant text) (defined form parts)) lead) all
        (leads-within (map (meant text) (defined form parts)) reader.setting.leads lead all.leads
        (defined-within text means implied (face_in flat text means implied files outsides words reader.faces) (λ title. face-within reader.faces title all.faces) (known_at text outsides words state unit) (named text outsides words state) state.read.place.here.context reader.setting form s parts lead roots asked made readable)) is

    instance-read : (state : KindState) (reader : Reader) (x : Tree) (next : Reader) (asked : List Question) → IsReaderWithin flat reader → IsInstanceMade flat text means implied files outsides words state reader x next asked → IsReaderWithin flat next
    instance-read state reader (Node (Form.Instance l) s rights) next asked all (written, roots, j, a, b, are, made, is, asks) =
        let faces = face_in flat text means implied files outsides words reader.faces in
        let entries = instance_brings text (views text outsides words) words state.read (Node (Form.Instance l) s rights) in
        with-setting reader next (with_brought reader.setting.leads entries j (faces (spelled text.source l))) all
        (brought-within reader.setting.leads entries j (faces (spelled text.source l)) all.leads
        (instance-there text means implied faces (λ title. face-within reader.faces title all.faces) reader.setting (length reader.setting.frame) 0 false l rights written roots j a b are made) (face-within reader.faces (spelled text.source l) all.faces)) is
    instance-read state reader (Node form s parts) next asked all made = same-within reader next all made.0

    ended-faces : (face : FlatFace) (here : Environment FlatFace) (round : List (List ℕ × Environment FlatFace)) → IsFaceWithin flat face → OfAllKnown (IsFaceWithin flat) here → AllByRecursion (λ (nested : List ℕ × Environment FlatFace). OfAllKnown (IsFaceWithin flat) nested.1) round
        → OfAllKnown (IsFaceWithin flat) (ended face here round).here × AllByRecursion (λ (nested : List ℕ × Environment FlatFace). OfAllKnown (IsFaceWithin flat) nested.1) (ended face here round).round
    ended-faces face here [] one all behind = (all, tt)
    ended-faces face here (nested ∷ round) one all behind = (added-known (IsFaceWithin flat) nested.1 nested.0 (Some face) behind.0 one, behind.1)

    ended-read : (state : KindState) (readings : List Reading) (reader : Reader) (round : List Setting) (next : Reader) → IsReaderWithin flat reader → AllByRecursion (λ (setting : Setting). LeadsWithin flat setting.leads) round → IsEnded flat text means implied files outsides words state readings reader round next → IsReaderWithin flat next
    ended-read state [] reader round next all settings made = absurd made
    ended-read state (reading ∷ readings) reader [] next all settings made = absurd made
    ended-read state (reading ∷ readings) reader (outer ∷ round) next all settings made =
        let face = nested_face flat text means implied files outsides words state reading reader.setting outer in
        let faces = ended-faces face reader.faces.here reader.faces.round (λ name names. exported-within reader.setting.leads (exports_of state.read.place.here.exports) name names all.leads) all.faces all.behind in
        subst (IsReaderWithin flat) (sym made.1) (record { leads = settings.0; round = settings.1; faces = faces.0; behind = faces.1 })

    pub unit-within : (named-so : OfNamed flat text means implied files outsides words) (state : KindState) (reader : Reader) (seen : List Meaning) (unit : UnitTree) (next : Reader) (asked : List Question) → IsReaderWithin flat reader → IsUnitGivenBy flat text means implied files outsides words named-so state reader seen unit next → IsUnitMade flat text means implied files outsides words state reader unit next asked → IsReaderWithin flat next
    unit-within named-so state reader seen (OperatorDefinition local x) next asked all given made = definition-read state (OperatorDefinition local x) reader x next asked all made given.readable
    unit-within named-so state reader seen (FunctionDefinition local x) next asked all given made = definition-read state (FunctionDefinition local x) reader x next asked all made given.readable
    unit-within named-so state reader seen (ModuleDefinition local x) next asked all given made = definition-read state (ModuleDefinition local x) reader x next asked all made given.readable
    unit-within named-so state reader seen (Instance local x) next asked all given made = instance-read state reader x next asked all made
    unit-within named-so state reader seen (Assumption word name x) next asked all given made = same-within reader next all made.3
    unit-within named-so state reader seen (Theorem word name x) next asked all given made = same-within reader next all made.3
    unit-within named-so state reader seen (ModuleBegin dashes name extends) next asked all given ((own, leads, (made, is)), none) =
        let inner : Setting = record { leads = with_symbols reader.setting.leads own (length reader.setting.frame); frame = reader.setting.frame ++ own; olds = [] } in
        let faces = added-known (IsFaceWithin flat) reader.faces.here (spelled text.source name) None all.faces tt in
        subst (IsReaderWithin flat) (sym is)
        (record {
          leads = extended-within (begun state.modules (spelled text.source name)) (begun reader.faces (spelled text.source name)) inner inner.leads extends leads faces (symbols-within reader.setting.leads own (length reader.setting.frame) all.leads) made;
          round = (all.leads, all.round);
          faces = faces;
          behind = (all.faces, all.behind);
        })
    unit-within named-so state reader seen (ModuleEnd closing) next asked all given made = ended-read state state.read.place.round reader reader.round next all all.round made.0
    unit-within named-so state reader seen (Variables names) next asked all given made = same-within reader next all made.0
    unit-within named-so state reader seen (Constants declarations) next asked all given made = same-within reader next all made.0
    unit-within named-so state reader seen (Line dashes) next asked all given made = same-within reader next all made.0

  -- at the first unit
  unsaid-leads : LeadsWithin flat no_leads
  unsaid-leads BuiltIn [] = record { path = tt; end = tt }
  unsaid-leads BuiltIn (name ∷ names) = nowhere-within
  unsaid-leads (Declared (entity.Bound state) x) [] = record { path = tt; end = tt }
  unsaid-leads (Declared (entity.Bound state) x) (name ∷ names) = nowhere-within
  unsaid-leads (Declared e x) names = nowhere-within

  pub first-within : (symbols : List Meaning) → LeadsWithin flat (with_symbols no_leads symbols 0)
  first-within symbols = symbols-within no_leads symbols 0 unsaid-leads
