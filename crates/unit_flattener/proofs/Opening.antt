-- Where a module begins: code walks before its first unit.
use Rattle.std.proofs.Common.{◌≡◌, ℕ, ◌<◌, List, [], ◌∷◌, Option, reverse, refl, sym, ap, subst, ◌∙◌, arith}
use Rattle.std.specs.Prelude.{IfSome}
use Rattle.tla_tree.specs.declared.unit.ModuleTree.{ModuleTree}
use Rattle.unit_grammar.specs.UnitNodes.{module_of}
use Rattle.unit_grammar.specs.Units.{ModuleUnits}
use Rattle.tla_model.specs.Entities.{Meaning, Text}
use Rattle.module_scope.specs.Environments.{first as first_scope}
use Rattle.module_model.specs.Exports.{Exports, files_of}
use Rattle.module_model.specs.Imports.{Imports}
use Rattle.module_model.specs.Modules.{text_of}
use Rattle.module_model.specs.Resolution.{words_of, first as first_read}
use Rattle.model_laws.specs.Settled.{IsSettled}
use Rattle.model_laws.proofs.Settling.{settled-first}
use Rattle.tree_kinds.specs.Standing.{Outside}
use Rattle.module_kinds.specs.ModuleKinds.{nowhere}
use Rattle.flattened_units.specs.Units.{Reader, meanings_of, no_leads, with_symbols}
use Rattle.tree_flattener.specs.declared.written.Written.{Written}
use Rattle.module_leads.specs.Leading.{Leading, leading_in}
use Rattle.module_leads.specs.Leading as known
use Rattle.module_leads.specs.There.{AllLeadWithin}
use Rattle.module_leads.proofs.Led.{entered-there}
use Rattle.unit_scope.specs.EnclosingReadings.{IsAt}
use Rattle.unit_scope.specs.Steps.{IsFirst, over_for}
use Rattle.unit_scope.specs.declared.reader.ModuleReader.{ModuleReader}
use Rattle.own_symbols.specs.Ahead.{own_ahead}
use Rattle.unit_flattener.specs.Ahead.{AreOwned}
use Rattle.unit_flattener.specs.Modules.{AreOwnOf, EndsAreBegun, IsBetween, IsModuleBegun}
use Rattle.unit_flattener.specs.Numbers.{AreBelow, KeepsFaces, file_faces}
use Rattle.unit_flattener.specs.Walking.{AreNumbered, AreSettingsOf, IsSettingOf, IsWalking, IsWithinUnits, Walk, ahead, files_in, state_at}
use Rattle.unit_flattener.specs.declared.flattener.UnitFlattener.{UnitFlattener}
use Rattle.unit_flattener.specs.declared.modules.Tables.{Tables}
use Rattle.unit_flattener.proofs.Entering.{frame-added}

-- a module over tables, by the numbers of the faces of files, and by what stands for their names
abbrev pub walk_over : Imports → List ℕ → ModuleUnits → Tables → (List ℕ → Option ℕ) → (List ℕ → Outside) → Walk
walk_over imports source units tables numbers outsides =
    record {
      imports = imports;
      source = source;
      units = units;
      files = file_faces (leading_in tables.leads).faces numbers;
      outsides = outsides;
      known = leading_in tables.leads;
    }

-- its reader before what it extends, by its symbols
abbrev pub first_reader : List ℕ → List Meaning → Reader
first_reader title symbols = record { setting = record { leads = with_symbols no_leads symbols 0; frame = symbols; olds = [] }; round = []; faces = first_scope title }

-- files that have these names, of which nothing else is known
abbrev pub known_files : Imports → List ℕ → Outside
known_files imports name = record nowhere { view = files_of imports name }

-- code has begun a module, before what it extends
pub record IsOpened (text : Text) (imports : Imports) (source : List ℕ) (units : ModuleUnits) (tables : Tables) (numbers : List ℕ → Option ℕ) (symbols : List Meaning) (code : UnitFlattener) : Type 0 where
  pub reader : ModuleReader
  pub own : List (List Meaning)
  pub text_is : text ≡ text_of source units
  pub between : IsBetween tables
  pub begun : IsModuleBegun tables text.file reader own symbols code
  pub files : (name : List ℕ) → files_in code name ≡ numbers name
  pub below : (name : List ℕ) → IfSome (numbers name) (λ number. number < (leading_in tables.leads).count)
  pub first : IsFirst text imports source units reader
  pub owns : reverse own ≡ (own_ahead (text_of source units) (files_of imports) (words_of units) (first_read (files_of imports) source units) units.units).begun
  pub ends : EndsAreBegun imports source units

module _ (text : Text) (imports : Imports) (source : List ℕ) (units : ModuleUnits) (tables : Tables) (numbers : List ℕ → Option ℕ) (symbols : List Meaning) (code : UnitFlattener)
    (opened : IsOpened text imports source units tables numbers symbols code) where
  abbrev begun : IsModuleBegun tables text.file opened.reader opened.own symbols code
  begun = opened.begun

  abbrev led : Leading
  led = known.entered (leading_in tables.leads) symbols 0

  setting-first : IsSettingOf code.state.frames.items code.frame (leading_in code.leads).leads (first_reader text.file symbols).setting
  setting-first =
      let framed = frame-added tables.state code.state symbols code.frame begun.state in
      record {
        there = framed.0;
        framed = framed.1;
        lead = (λ i. with_symbols ((sym opened.between.leads) i) symbols 0) ∙ ap (λ known. known.leads) (sym begun.leads);
        olds = refl;
      }

  round-first : AreSettingsOf code.state.frames.items (reverse code.round.items) (leading_in code.leads).round [] []
  round-first =
      subst (λ known. AreSettingsOf code.state.frames.items (reverse code.round.items) known.round [] []) (sym begun.leads)
      (subst (λ numbers. AreSettingsOf code.state.frames.items (reverse numbers) led.round [] []) (sym begun.round)
      (subst (λ round. AreSettingsOf code.state.frames.items [] ((leading_in tables.leads).leads ∷ round) [] []) (sym opened.between.round) opened.between.leads))

  numbered-first : AreNumbered code
  numbered-first = record {
    files = λ name. subst (λ known. IfSome (files_in code name) (λ number. number < known.count)) (sym begun.leads)
        (subst (λ found. IfSome found (λ number. number < led.count)) (sym (opened.files name)) (opened.below name));
    nested = subst (AreBelow (leading_in code.leads).count) (sym begun.modules.here) (tt, tt);
  }

  module _ (outsides : List ℕ → Outside) (views : (λ name. (outsides name).view) ≡ files_of imports) where
    abbrev walk : Walk
    walk = walk_over imports source units tables numbers outsides

    read-first : first_read (files_of imports) source units ≡ (state_at walk []).read
    read-first = λ i. first_read ((sym views) i) source units

    ahead-first : own_ahead (text_of source units) (files_of imports) (words_of units) (first_read (files_of imports) source units) units.units ≡ ahead walk [] units.units
    ahead-first = ap (λ read. own_ahead (text_of source units) (files_of imports) (words_of units) read units.units) read-first

    -- code walks before the first unit
    pub walks-first : IsWalking text walk [] units.units code (first_reader text.file symbols)
    walks-first =
        record {
          same = opened.text_is;
          views = views;
          reads = subst (λ read. IsAt text (over_for imports units) read (state_at walk []).read) (sym begun.reads) (subst (IsAt text (over_for imports units) opened.reader) read-first opened.first);
          settled = subst IsSettled read-first (settled-first (files_of imports) source units);
          setting = setting-first;
          round = round-first;
          names = first_scope text.file;
          kept = begun.modules;
          faces = refl;
          files =
              ap (λ known. file_faces known.faces numbers) (sym begun.leads)
              ∙ (λ i. file_faces (leading_in code.leads).faces (λ name. (sym (opened.files name)) i));
          numbered = numbered-first;
          earlier = subst (KeepsFaces (leading_in tables.leads)) (sym begun.leads) (record { count = omega arith; faces = λ number there. refl });
          begun = ap reverse begun.ahead ∙ opened.owns ∙ ap (λ owned. owned.begun) ahead-first;
          owned = subst (λ round. AreOwned round (first_reader text.file symbols).setting []) (sym (sym (ap (λ owned. owned.round) ahead-first) ∙ opened.ends)) tt;
          sound = begun.sound opened.between.sound;
          within = subst (AllLeadWithin code.state.flat) (sym begun.leads)
              (subst (λ flat. AllLeadWithin flat led) (sym begun.state.flat) (entered-there tables.state.flat (leading_in tables.leads) symbols 0 opened.between.within));
          locals = begun.state.locals ∙ opened.between.locals;
        }

  -- so it walks somewhere
  pub within-first : IsWithinUnits text code
  within-first = record {
    rest = units.units;
    before = record { walk = walk_over imports source units tables numbers (known_files imports); before = []; reader = first_reader text.file symbols; at = walks-first (known_files imports) refl };
  }

-- ---- by what code does

-- a module is opened by a reader behind what it extends, where its own symbols are known
pub opens : (written : Written) (tree : ModuleTree) (imports others : Imports) (tables : Tables) (numbers : List ℕ → Option ℕ) (entries : Exports) (title : List ℕ) (reader : ModuleReader) (own : List (List Meaning)) (symbols : List Meaning) (code : UnitFlattener)
    → written.text.now ≡ text_of tree.source (module_of tree) → others ≡ imports → symbols ≡ meanings_of entries → title ≡ written.text.now.file
    → EndsAreBegun imports tree.source (module_of tree) → IsBetween tables → ((name : List ℕ) → IfSome (numbers name) (λ number. number < (leading_in tables.leads).count))
    → AreOwnOf written.text.now others tree.source (module_of tree) (reverse own)
    → IsFirst written.text.now imports tree.source (module_of tree) reader → IsModuleBegun tables title reader own symbols code → ((name : List ℕ) → files_in code name ≡ numbers name)
    → IsOpened written.text.now imports tree.source (module_of tree) tables numbers (meanings_of entries) code
opens written tree imports others tables numbers entries title reader own symbols code text-is same symbols-are named ends between below owned first begun files =
    record {
      reader = reader;
      own = own;
      text_is = text-is;
      between = between;
      begun = subst (λ meanings. IsModuleBegun tables written.text.now.file reader own meanings code) symbols-are (subst (λ name. IsModuleBegun tables name reader own symbols code) named begun);
      files = files;
      below = below;
      first = first;
      owns = owned ∙ (λ i. (own_ahead (text-is i) (files_of (same i)) (words_of (module_of tree)) (first_read (files_of (same i)) tree.source (module_of tree)) (module_of tree).units).begun);
      ends = ends;
    }
