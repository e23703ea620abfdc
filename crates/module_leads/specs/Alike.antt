-- When modules lead alike: to the same resolved trees, as far as numbers of nodes tell.
use Rattle.std.specs.Prelude.{◌≡◌, ℕ, ◌≤◌, Bool, IsTrue, List, [], ◌∷◌, Option, Some, None, length, map, slice_get, string_bytes}
use Rattle.std.specs.List.{AllByRecursion}
use Rattle.tla_symbols.specs.declared.op.Op.{Op}
use Rattle.tla_model.specs.Tables.{Named, Word, Symbol}
use Rattle.name_context.specs.AsTables.{meant_by}
use Rattle.kind_text.specs.FlatModule.{FlatModule}
use Rattle.flattened_trees.specs.declared.End.TheVariants as end
use Rattle.flattened_trees.specs.Leads.{FlatFace, Lead}
use Rattle.flattened_trees.specs.Within.{IsEndWithin, IsLeadWithin}
use Rattle.written_trees.specs.Leading.{end_in, face_in, lead_in}
use Rattle.tree_numbers.specs.Numbered.{AreTold, IsInstance, TellTrees, instance_tree}
use Rattle.module_leads.specs.declared.faces.FaceNames.TheVariants as names
use Rattle.module_leads.specs.declared.faces.ListedNames.{ListedNames}
use Rattle.module_leads.specs.declared.faces.ModuleFace.{ModuleFace}
use Rattle.module_leads.specs.declared.faces.Sort.TheVariants as sort
use Rattle.module_leads.specs.declared.steps.Step.TheVariants as step
use Rattle.module_leads.specs.declared.ways.Way.TheVariants as way
use Rattle.module_leads.specs.Faces.{faces_of, first_faces}
use Rattle.module_leads.specs.There.{IsFaceThere}
use Rattle.module_leads.specs.Ways.{face_at, name_as}

-- ---- the names of a module

-- words of a table, as names
abbrev pub words_of : {V : Type 0} → List (List ℕ × V) → List Named
words_of entries = map (λ entry. Word entry.0) entries

-- words that are listed
abbrev pub listed_words : ListedNames → List Named
listed_words names = map (λ entry. Word (string_bytes entry.0)) names.words.entries

-- symbols
abbrev pub symbols_of : {V : Type 0} → List (Op × V) → List Named
symbols_of entries = map (λ entry. Symbol entry.0) entries

-- the words of a module, in order
abbrev pub words_in : names.the_data → List Named
words_in (names.Listed listed) = listed_words listed
words_in (names.Table table) = words_of table.exports.words

-- its symbols, in order
abbrev pub symbols_in : names.the_data → List Named
symbols_in (names.Listed listed) = symbols_of listed.symbols.items
symbols_in (names.Table table) = symbols_of table.exports.symbols

-- one or the other
abbrev pub names_in : sort.the_data → names.the_data → List Named
names_in sort.Words names = words_in names
names_in sort.Symbols names = symbols_in names

-- the same of a module that may be there
abbrev pub names_at : sort.the_data → Option ModuleFace → List Named
names_at sort None = []
names_at sort (Some face) = names_in sort face.names

-- the module with a number, if it is there
abbrev pub module_at : List ModuleFace → Option ℕ → Option ModuleFace
module_at listed None = None
module_at listed (Some number) = slice_get listed number

-- what it is to its instances
abbrev pub known_face : List ModuleFace → Option ℕ → FlatFace
known_face listed = face_at (faces_of listed)

-- ---- what leads alike

-- a way as it is compared, as one that is kept
abbrev pub step_way : step.the_data → way.the_data
step_way (step.To e) = way.To e
step_way (step.Behind passage) = way.Behind passage.instance passage.face
step_way (step.Through passage name) = way.Through passage.instance passage.face (name_as (meant_by name))

-- where paths lead that begin with a name of a module
abbrev pub behind_name : FlatFace → Named → List Named → Lead
behind_name face name names = face.leads (name ∷ names)

-- the symbols of two modules are the same, as many stand round them, and both are constant or neither
pub record AreSameParts (one other : FlatFace) : Type 0 where
  pub parameters : one.parameters ≡ other.parameters
  pub outer : one.outer ≡ other.outer
  pub is_constant : one.is_constant ≡ other.is_constant

module _ (flat : FlatModule) where
  -- paths lead to the same trees
  abbrev pub AreAlike : (List Named → Lead) → (List Named → Lead) → Type 0
  AreAlike one other = (names : List Named) → lead_in flat (one names) ≡ lead_in flat (other names)

  -- paths lead to what is there
  abbrev pub AreThere : (List Named → Lead) → (List Named → Lead) → Type 0
  AreThere one other = (names : List Named) → IsLeadWithin flat (one names) × IsLeadWithin flat (other names)

  -- each of these names leads alike in two modules
  abbrev pub AreEachAlike : FlatFace → FlatFace → List Named → Type 0
  AreEachAlike one other = AllByRecursion (λ name. AreAlike (behind_name one name) (behind_name other name))

-- ---- what an answer tells

module _ (flat : FlatModule) (numbers : List ℕ) where
  -- each node has a number, and nodes with the same tree have the same number
  pub record AreExact : Type 0 where
    pub all : length flat.nodes ≤ length numbers
    pub trees : TellTrees flat numbers

  -- the answer is yes only where something holds, if nodes with one number have one tree, and wherever it holds of what is there, if
  -- nodes with one tree have one number
  pub record Answers (There Holds : Type 0) (answer : Bool) : Type 0 where
    pub same : IsTrue answer → AreTold flat numbers → Holds
    pub found : AreExact → There → Holds → IsTrue answer

  -- the answer tells whether paths lead alike
  abbrev pub AnswersAlike : (List Named → Lead) → (List Named → Lead) → Bool → Type 0
  AnswersAlike one other = Answers (AreThere flat one other) (AreAlike flat one other)

  -- the answer tells whether ends have the same trees
  abbrev pub AnswersEnds : end.the_data → end.the_data → Bool → Type 0
  AnswersEnds one other = Answers (IsEndWithin flat one × IsEndWithin flat other) (end_in flat one ≡ end_in flat other)

  -- the answer tells whether instances have the same trees
  abbrev pub AnswersInstances : ℕ → ℕ → Bool → Type 0
  AnswersInstances one other = Answers (IsInstance flat one × IsInstance flat other) (instance_tree flat one ≡ instance_tree flat other)

  -- the answer tells whether each of these names leads alike in two modules
  abbrev pub AnswersEach : FlatFace → FlatFace → List Named → Bool → Type 0
  AnswersEach one other names = Answers (AreThere flat one.leads other.leads) (AreEachAlike flat one other names)

  -- the same of two lists of names
  abbrev pub AnswersEither : FlatFace → FlatFace → List Named → List Named → Bool → Type 0
  AnswersEither one other names words =
      Answers (AreThere flat one.leads other.leads) (AreEachAlike flat one other names × AreEachAlike flat one other words)

  -- what two modules are to their instances is alike
  abbrev pub AreFacesAlike : FlatFace → FlatFace → Type 0
  AreFacesAlike one other = AreTold flat numbers → face_in flat one ≡ face_in flat other

  -- where it is, and all to which they lead is there, the answer is yes
  abbrev pub FindsAlike : FlatFace → FlatFace → Bool → Type 0
  FindsAlike one other answer = AreExact → IsFaceThere flat one → IsFaceThere flat other → face_in flat one ≡ face_in flat other → IsTrue answer

  -- the names of two modules lead alike, by their numbers
  abbrev pub ArePairAlike : List ModuleFace → ℕ × ℕ → Type 0
  ArePairAlike listed pair = AreTold flat numbers → AreAlike flat (faces_of listed pair.0).leads (faces_of listed pair.1).leads

  -- those of each of these pairs do
  abbrev pub AreKnown : List ModuleFace → List (ℕ × ℕ) → Type 0
  AreKnown listed = AllByRecursion (ArePairAlike listed)

-- ---- what is known

-- a face is the one with a number, whatever modules lie before the limit
abbrev pub IsKnownAs : ℕ → Option ℕ → Option ℕ → Type 0
IsKnownAs limit face number = (listed : List ModuleFace) → face_at (first_faces listed limit) face ≡ known_face listed number

-- the names of two modules lead alike, where those of known pairs do
abbrev pub AreAmong : List (ℕ × ℕ) → Option ℕ → Option ℕ → Type 0
AreAmong known one other =
    (flat : FlatModule) (numbers : List ℕ) (listed : List ModuleFace) → AreKnown flat numbers listed known → AreTold flat numbers
    → AreAlike flat (known_face listed one).leads (known_face listed other).leads

-- pairs, and maybe one more
abbrev pub AddsPair : List (ℕ × ℕ) → List (ℕ × ℕ) → Option ℕ → Option ℕ → Type 0
AddsPair old new one other =
    (flat : FlatModule) (numbers : List ℕ) (listed : List ModuleFace) → AreKnown flat numbers listed old
    → (AreTold flat numbers → AreAlike flat (known_face listed one).leads (known_face listed other).leads) → AreKnown flat numbers listed new
