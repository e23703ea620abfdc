-- What is known round the tree of a unit.
use Rattle.std.proofs.Common.{◌≡◌, ℕ, Bool, true, false, List, [], Option, refl, sym, ◌∙◌, subst, map}
use Rattle.std.specs.Prelude.{not}
use Rattle.tla_tree.specs.Syntax.{Tree}
use Rattle.unit_grammar.specs.Units.{UnitTree}
use Rattle.tla_model.specs.Entities.{Meaning, Text, meant, within}
use Rattle.kind_text.specs.FlatModule.{FlatModule, IsOrdered}
use Rattle.tree_kinds.specs.Standing.{Outside, themselves}
use Rattle.module_kinds.specs.ModuleKinds.{KindState, around, known_at, named}
use Rattle.flat_trees.specs.Stands.{Stand}
use Rattle.flat_kinds.specs.Modules.{Current}
use Rattle.flat_kinds.proofs.Symbols.{symbols-themselves}
use Rattle.flat_kinds.proofs.Units.{state-agrees}
use Rattle.flattened_trees.specs.Agreeing.{KeepsOrders, is_seen}
use Rattle.flattened_trees.specs.Answers.{items_of}
use Rattle.flattened_trees.specs.Leads.{FlatFace, Leads}
use Rattle.flattened_meanings.specs.Faces.{IsFaceOf}
use Rattle.flattened_meanings.specs.Rounds.{IsKnownRound}
use Rattle.flattened_levels.specs.Asked.{AreExpressions, IsAskedRound}
use Rattle.flattened_units.specs.Units.{Reader, face_in}
use Rattle.module_meanings.specs.Faces.{IsFaceBy, LeadsAs}
use Rattle.module_meanings.specs.Following.{LeadsBy}
use Rattle.module_meanings.specs.Premises.{IsTreeGiven}
use Rattle.module_meanings.proofs.Contexts.{orders-more}
use Rattle.module_meanings.proofs.Entering.{Holds}
use Rattle.module_meanings.proofs.Leads.{leads-as}
use Rattle.module_meanings.proofs.Modules.{new-unseen}
use Rattle.module_answers.proofs.Frames.{items-length, leads-itself}

not-true : (b : Bool) → not b ≡ true → b ≡ false
not-true true e = cc e
not-true false e = refl

-- a module that is so by where names lead is so by what they stand for
face-at : (flat : FlatModule) (new : Meaning → Bool) (stands : Meaning → Stand) (leads : Leads) (face : FlatFace) (outside : Outside) → LeadsBy stands leads → IsFaceBy flat new leads face outside → IsFaceOf flat new stands face outside
face-at flat new stands leads face outside all is =
    record {
      base = is.base;
      inner = is.inner;
      leads = is.paths;
      kept = is.kept;
      takes = is.takes;
      apart = is.apart;
      symbols = λ m. leads-as face.outer (is.base m) (stands m) (subst (λ lead. LeadsAs face.outer (is.base m) lead) (all m []) (is.symbols m));
      unsaid = is.unsaid;
    }

module _ (flat : FlatModule) (ordered : IsOrdered flat) (text : Text) (means : ℕ → Option Meaning) (implied : ℕ → List Meaning) (files : List ℕ → FlatFace) (outsides : List ℕ → Outside) (words : List ℕ) (state : KindState) (reader : Reader) (seen : List Meaning) (here : Current) (outers : List Current) (holds : Holds flat ordered text means implied files outsides words state reader seen here outers) where
  abbrev pub faces : List ℕ → FlatFace
  faces = face_in flat text means implied files outsides words reader.faces

  pub known-orders : (unit : UnitTree) → KeepsOrders (known_at text outsides words state unit) here.layout
  known-orders unit = orders-more state.read.known _ here.layout holds.here.follows.told holds.here.follows.orders

  -- what is known of names round a tree
  pub tree-round : (unit : UnitTree) (x : Tree) (given : IsTreeGiven flat text means implied files outsides words state reader seen x) → IsKnownRound flat text (known_at text outsides words state unit) (named text outsides words state) faces given.nameable here.layout reader.setting seen x
  tree-round unit x given =
      let follows = holds.here.follows in
      record {
        settings = follows.settings;
        orders = known-orders unit;
        names = follows.all_seen;
        fresh = given.fresh;
        unsaid = λ m new. follows.unsaid m (not-true _ (new-unseen flat ordered text means implied files outsides words state reader seen holds.nested (map (meant text) (within x)) m given.fresh new));
        modules = λ name can. face-at flat (is_seen (map (meant text) (within x))) here.layout.stands reader.setting.leads (faces name) (named text outsides words state name) follows.settings.leads (given.faces name can);
        instances = given.names;
      }

  -- its frame by itself agrees with what stands round it, by symbols themselves
  pub asked-round : IsAskedRound flat here.layout reader.setting (around text outsides words state themselves)
  asked-round =
      let follows = holds.here.follows in
      record {
        frame = state-agrees flat text outsides words here.symbols state here.layout holds.keeps.here (items_of reader.setting.frame) themselves
            (items-length reader.setting.frame ∙ sym follows.settings.places)
            (symbols-themselves flat (items_of reader.setting.frame) here.symbols (leads-itself here.symbols reader.setting.frame outers reader.round here.layout.places holds.nested.nest holds.here.leads holds.here.before));
        olds = subst (λ is. AreExpressions flat is) (sym holds.keeps.here.olds ∙ follows.settings.olds) tt;
      }
