-- Where what is found of the files of a family stands.
use Rattle.std.proofs.Common.{◌≡◌, ℕ, List, [], ◌∷◌, get_or, sym, ap, subst, ◌∙◌}
use Rattle.std.specs.Prelude.{Contains}
use Rattle.std.specs.List.{All}
use Rattle.std.specs.Str.{IsUtf8}
use Rattle.std.proofs.lemmas.List.Elements.{All-map}
use Rattle.tla_lexeme.specs.Spans.{IsPlaced}
use Rattle.tla_model.specs.declared.Diagnostic.{Diagnostic}
use Rattle.tla_model.specs.declared.entity.Decl.{Decl}
use Rattle.tla_model.specs.declared.entity.Use.{Use}
use Rattle.tla_model.specs.Lexemes.{LexemesLie}
use Rattle.front_laws.specs.Fronts.{Fault, Front, IsFront, Tree}
use Rattle.unit_grammar.specs.Units.{ModuleUnits}
use Rattle.unit_grammar.specs.UnitNodes.{module_of}
use Rattle.span_laws.specs.NodeSpans.{NodeSpans, SpansText}
use Rattle.span_laws.specs.UnitWords.{WordsLie}
use Rattle.module_facts.specs.Checks as names
use Rattle.module_facts.specs.Checks.{ImportStatus, or_others}
use Rattle.module_facts.specs.Ordered.{in_order}
use Rattle.module_facts.proofs.Inserting.{in-order}
use Rattle.tree_kinds.specs.Standing.{Outside}
use Rattle.module_kinds.specs.ModuleKinds.{kind_faults}
use Rattle.fact_values.specs.Names.{Texts}
use Rattle.fact_values.specs.Values as values
use Rattle.family_facts.specs.Facts.{needs_of, own_of, texts_of}
use Rattle.family_facts.specs.Family.{Member}
use Rattle.family_facts.specs.Verdicts.{family_of, member_of, text_of}
use Rattle.family_facts.specs.declared.verdict.File.{File}
use Rattle.family_facts.proofs.Lists.{contains-one, none-there, zip-left}
use Rattle.family_facts.proofs.Members.{AreOneEach}
use Rattle.family_facts.proofs.Needing.{HasNoOther}
use Rattle.family_facts.proofs.Members.{file-there}
use Rattle.family_facts.proofs.States.{front-one, text-of-member}
use Rattle.family_tables.specs.Modules.{AreModules, Entry, IsEntry, IsReading}
use Rattle.family_tables.specs.declared.reading.Reading.TheVariants as reading
use Rattle.family_tables.proofs.Read.{all-by, tree-text}
use Rattle.leveled_facts.specs.Families.{fact_of, leveled, leveled_front, leveled_text, status_by_states}
use Rattle.leveled_facts.specs.Modules.{Status, all_faults, front_refused, imports, leveled_by, leveled_use, levels_by, outsides}
use Rattle.family_levels.specs.Telling.{Stands, StandsIn}

-- laws on where the parts of a module stand, over its lexemes, its words and its nodes
pub record TextLaws : Type 0 where
  pub faults : (given : List ℕ → ImportStatus) (source : List ℕ) (units : ModuleUnits) → LexemesLie source units → NodeSpans (SpansText source) units → All (λ fault. SpansText source fault.span) (names.all_faults given source units)
  pub levels : (files : List ℕ → Outside) (source : List ℕ) (units : ModuleUnits) → LexemesLie source units → WordsLie source units → NodeSpans (SpansText source) units → All (λ fault. SpansText source fault.span) (kind_faults files source units)
  pub uses : (given : List ℕ → ImportStatus) (source : List ℕ) (units : ModuleUnits) → LexemesLie source units → All (λ (u : Use). SpansText source u.name) (names.all_uses given source units)
  pub decls : (given : List ℕ → ImportStatus) (source : List ℕ) (units : ModuleUnits) → LexemesLie source units → All (λ (d : Decl). SpansText source d.name) (names.all_decls given source units)
  pub texts : (name bytes : List ℕ) (found : ModuleUnits) → IsFront name bytes (Tree found) → IsUtf8 bytes
  pub nodes : (name bytes : List ℕ) (found : ModuleUnits) → IsFront name bytes (Tree found) → NodeSpans (SpansText bytes) found
  pub words : (name bytes : List ℕ) (found : ModuleUnits) → IsFront name bytes (Tree found) → WordsLie bytes found

-- ---- lists

pub all-none : {A : Type 0} (P : A → Type 0) → All P []
all-none P = all-by P [] (λ x c. absurd (none-there x c))

all-one : {A : Type 0} (P : A → Type 0) (x : A) → P x → All P (x ∷ [])
all-one P x so = all-by P (x ∷ []) (λ y c. subst P (contains-one x y c) so)

all-or : (P : Diagnostic → Type 0) (all others : List Diagnostic) → All P all → All P others → All P (or_others all others)
all-or P [] others first second = second
all-or P (fault ∷ all) others first second = first

all-ordered : (P : Diagnostic → Type 0) (all : List Diagnostic) → All P all → All P (in_order all)
all-ordered P all each = all-by P (in_order all) (λ fault c. let at = ((in-order all).same fault).0 c in subst P at.2 (each at.0 fault at.1))

-- ---- members

module _ (one : HasNoOther) (laws : TextLaws) (family : List Member) (distinct : AreOneEach family) where
  abbrev texts : Texts
  texts = texts_of family

  -- what the needs of a member are to it
  abbrev given : Member → List ℕ → Status
  given m = status_by_states (values.given_in own_of needs_of fact_of texts m.name)

  leveled-of : (m : Member) → Contains family m → (f : Front) → IsFront m.name m.bytes f → leveled texts m.name ≡ leveled_front m.bytes f (given m)
  leveled-of m there f is = ap (leveled_text texts m.name) (text-of-member family distinct m there) ∙ ap (λ z. leveled_front m.bytes z (given m)) (front-one one m f is)

  tree-stands : (m : Member) (units : ModuleUnits) → IsFront m.name m.bytes (Tree units) → LexemesLie m.bytes units → Stands m.bytes (leveled_by (given m) m.bytes units)
  tree-stands m units front lie =
      let source = m.bytes in
      let utf8 = laws.texts m.name source units front in
      let spans = laws.nodes m.name source units front in
      let named = laws.faults (imports (given m)) source units lie spans in
      let leveled_so = laws.levels (outsides (given m)) source units lie (laws.words m.name source units front) spans in
      let uses = laws.uses (imports (given m)) source units lie in
      let decls = laws.decls (imports (given m)) source units lie in
      let all = all-ordered (λ (fault : Diagnostic). SpansText source fault.span) (all_faults (given m) source units) (all-or (λ (fault : Diagnostic). SpansText source fault.span) (names.all_faults (imports (given m)) source units) (kind_faults (outsides (given m)) source units) named leveled_so) in
      record {
        faults = λ k d within. subst (λ text. IsPlaced text (get_or (in_order (all_faults (given m) source units)) k d).span) (sym (tree-text front)) (all k d within).placed;
        spans = All-map (λ (u : Use). SpansText (text_of source) u.name) (leveled_use (levels_by (given m) source units (all_faults (given m) source units))) (names.all_uses (imports (given m)) source units) (subst (λ text. All (λ (u : Use). SpansText text u.name) (names.all_uses (imports (given m)) source units)) (sym (tree-text front)) uses);
        uses = All-map (λ (u : Use). StandsIn source u.name) (leveled_use (levels_by (given m) source units (all_faults (given m) source units))) (names.all_uses (imports (given m)) source units) (λ k d within. (utf8, (uses k d within).placed));
        decls = λ k d within. (utf8, (decls k d within).placed);
      }

  by-reading : (m : Member) → Contains family m → (name : List ℕ) (r : reading.the_data) → name ≡ m.name → IsReading name m.bytes r → Stands m.bytes (leveled texts m.name)
  by-reading m there name (reading.Tree tree) named is =
      let units : ModuleUnits = module_of tree in
      let front : IsFront m.name m.bytes (Tree units) = subst (λ n. IsFront n m.bytes (Tree units)) named is.front in
      let lie : LexemesLie m.bytes units = subst (λ s. LexemesLie s units) is.source is.readable.lie in
      subst (Stands m.bytes) (sym (leveled-of m there (Tree units) front)) (tree-stands m units front lie)
  by-reading m there name (reading.Fault fault) named is =
      let front : IsFront m.name m.bytes (Fault fault) = subst (λ n. IsFront n m.bytes (Fault fault)) named is.0 in
      let stands : Stands m.bytes (front_refused fault) = record {
        faults = all-one (λ (x : Diagnostic). IsPlaced (text_of m.bytes) x.span) fault is.1;
        spans = all-none (λ (u : Use). SpansText (text_of m.bytes) u.name);
        uses = all-none (λ (u : Use). StandsIn m.bytes u.name);
        decls = all-none (λ (d : Decl). StandsIn m.bytes d.name);
      } in
      subst (Stands m.bytes) (sym (leveled-of m there (Fault fault) front)) stands

  member-stands : (entries : List Entry) → AreModules family entries → (m : Member) → Contains family m → Stands m.bytes (leveled texts m.name)
  member-stands entries are m there =
      let e = zip-left IsEntry family entries m are there in
      by-reading m there (e.0).0 (e.0).1.reading (e.2).named (e.2).is.reading

-- what is found of each file stands in its text
pub files-stand : HasNoOther → TextLaws → (files : List File) → AreOneEach (family_of files) → (entries : List Entry) → AreModules (family_of files) entries → (file : File) → Contains files file → Stands file.bytes (leveled (texts_of (family_of files)) file.name)
files-stand one laws files distinct entries are file there = member-stands one laws (family_of files) distinct entries are (member_of file) (file-there files file there)
