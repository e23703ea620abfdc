-- How deep the names are at a unit, and behind it.
use Rattle.std.proofs.Common.{◌≡◌, inl, inr, ℕ, Bool, true, cond, List, [], ◌∷◌, ◌++◌, Option, Some, map, refl, sym, ap, ◌∙◌, subst, length, arith}
use Rattle.std.specs.Prelude.{◌⊎◌}
use Rattle.tla_symbols.specs.declared.lexeme.Lexeme.{Lexeme}
use Rattle.tla_symbols.specs.declared.lexeme.Span.{Span}
use Rattle.tla_tree.specs.declared.form.Form.TheVariants as Form
use Rattle.tla_tree.specs.Syntax.{Trees, Node}
use Rattle.unit_grammar.specs.Units.{UnitTree}
use Rattle.tla_model.specs.declared.names.Binder.{Binder}
use Rattle.tla_model.specs.Contexts.{Context, meaning_of}
use Rattle.tla_model.specs.Entities.{Meaning, Text, defined, meant, within}
use Rattle.tla_model.specs.Scopes.{binders}
use Rattle.tla_model.specs.Tables.{Named}
use Rattle.module_model.specs.Exports.{Known, and_known, behind_meaning}
use Rattle.module_model.specs.Modules.{declare_all}
use Rattle.kind_text.specs.FlatModule.{FlatModule, IsOrdered}
use Rattle.tree_kinds.specs.Standing.{Outside}
use Rattle.tree_kinds.specs.TreeDepths.{Depths, deep_names, defined_depth, with_depth}
use Rattle.module_kinds.specs.ModuleKinds.{KindState, beneath, known_at, named}
use Rattle.flat_trees.specs.Stands.{Stand}
use Rattle.flat_trees.specs.Layouts.{with_stand, with_stands}
use Rattle.flattened_trees.specs.Agreeing.{TakesAs, is_seen}
use Rattle.flattened_trees.specs.Answers.{deep_answers}
use Rattle.flattened_trees.specs.Leads.{FlatFace, Setting}
use Rattle.flattened_trees.specs.Questions.{Question}
use Rattle.flattened_depths.specs.Arranged.{IsArrangedDefinition}
use Rattle.flattened_depths.specs.Rounds.{IsKnownRound, LeadsBehind}
use Rattle.flattened_depths.proofs.Chains.{definition-good}
use Rattle.flattened_depths.proofs.Counting.{New, first-unlike, new-fewer, new-from, rest-none, seen-none, times, times-joins, within-counts}
use Rattle.flattened_depths.proofs.Rounds.{Among, Round, Usable, behind-round}
use Rattle.flattened_depths.proofs.Trees.{everywhere}
use Rattle.flattened_meanings.proofs.Fresh.{IsOneOf}
use Rattle.flattened_meanings.proofs.Rounds.{stands-in}
use Rattle.flattened_units.specs.Units.{IsDefinitionMade, Reader, face_in}
use Rattle.module_meanings.specs.Premises.{AreTold, IsDefinitionGivenBy, IsFileAt}
use Rattle.module_meanings.proofs.Contexts.{declared-means, one-is-seen, orders-more, seen-left, seen-right}

module _ (flat : FlatModule) (text : Text) where
  -- names lead where these stand, as deep as what stands there
  pub record Deep (known : Known) (context : Context) (depths : Depths) (setting : Setting) (seen : List Meaning) (stands : Meaning → Stand) : Type 0 where
    pub round : Round text flat known seen stands setting depths
    pub usable : Usable text flat known seen stands context

  -- what is known behind a unit, and what the unit answers
  pub record Answered (known : Known) (context : Context) (depths : Depths) (setting : Setting) (seen : List Meaning) (asked : List Question) (found : List Lexeme) : Type 0 where
    pub stands : Meaning → Stand
    pub deep : Deep known context depths setting seen stands
    pub answers : deep_answers flat asked ≡ found

  pub round-more : (known more : Known) (seen : List Meaning) (stands : Meaning → Stand) (setting : Setting) (depths : Depths) → Round text flat known seen stands setting depths → Round text flat more seen stands setting depths
  round-more known more seen stands setting depths round = record { leads = round.leads; unsaid = round.unsaid; plain = round.plain; deep = round.deep; parameters = round.parameters }

  pub usable-more : (known more : Known) (seen : List Meaning) (stands : Meaning → Stand) (context : Context) → AreTold known context → Usable text flat known seen stands context → Usable text flat (and_known known more) seen stands context
  usable-more known more seen stands context told here =
      record { orders = orders-more known more (record { context = context; stands = stands; places = 0; olds = [] }) told here.orders; usable = here.usable }

  -- as it is asked round a tree
  pub known-round : (known : Known) (context : Context) (depths : Depths) (setting : Setting) (seen : List Meaning) (stands : Meaning → Stand) → Deep known context depths setting seen stands → IsKnownRound flat known seen (record { context = context; stands = stands; places = length setting.frame; olds = setting.olds }) setting (record { context = context; depths = depths })
  known-round known context depths setting seen stands deep =
      record {
        leads = record { leads = deep.round.leads; places = refl; olds = refl };
        orders = deep.usable.orders;
        usable = deep.usable.usable;
        unsaid = deep.round.unsaid;
        agrees = record { context = refl; depths = deep.round.deep };
        plain = deep.round.plain;
        parameters = deep.round.parameters;
      }

-- what none of these names means stands as before
stands-left : (text : Text) (names : List Binder) (stands : Meaning → Stand) (stand : Stand) (m : Meaning) → times text m names ≡ 0 → with_stands stands (map (meant text) names) stand m ≡ stands m
stands-left text [] stands stand m e = refl
stands-left text (b ∷ rest) stands stand m e =
    stands-left text rest (with_stand stands (meant text b) stand) stand m (rest-none text b rest m e) ∙ ap (λ t. cond t stand (stands m)) (first-unlike text b rest m e)

one-among : (text : Text) (names : List Binder) (m : Meaning) → IsOneOf text names m → Among text m names
one-among text [] m one = absurd one
one-among text (b ∷ rest) m (inl same) = inl (sym same)
one-among text (b ∷ rest) m (inr one) = inr (one-among text rest m one)

module _ (flat : FlatModule) (ordered : IsOrdered flat) (text : Text) (means : ℕ → Option Meaning) (implied : ℕ → List Meaning) (files : List ℕ → FlatFace) (outsides : List ℕ → Outside) (words : List ℕ) (state : KindState) (reader : Reader) (seen : List Meaning) (stands : Meaning → Stand) (told : AreTold state.read.known state.read.place.here.context) (deep : Deep flat text state.read.known state.read.place.here.context state.depths reader.setting seen stands) where
  abbrev faces : List ℕ → FlatFace
  faces = face_in flat text means implied files outsides words reader.faces

  abbrev context : Context
  context = state.read.place.here.context

  -- with what is known at a unit
  pub deep-at : (unit : UnitTree) → Deep flat text (known_at text outsides words state unit) context state.depths reader.setting seen stands
  deep-at unit = record { round = round-more flat text state.read.known _ seen stands reader.setting state.depths deep.round; usable = usable-more flat text state.read.known _ seen stands context told deep.usable }

  -- ---- a definition

  pub definition-deep : (unit : UnitTree) (local : Bool) (form : Form.the_data) (s : Span) (parts : Trees) (next : Reader) (asked : List Question) (inside : List ℕ → Named → Stand) → IsDefinitionMade flat text means implied files outsides words reader (Node form s parts) next asked → IsDefinitionGivenBy flat text means implied files outsides words (IsFileAt flat text means implied files outsides words) state reader seen unit (Node form s parts) → IsArrangedDefinition (LeadsBehind flat text (known_at text outsides words state unit) (named text outsides words state) faces inside) (Node form s parts) → Answered flat text (known_at text outsides words state unit) (declare_all text local state.read.place.here (defined form parts)).context (with_depth state.depths (map (meant text) (defined form parts)) (defined_depth text (known_at text outsides words state unit) (named text outsides words state) (beneath text outsides words state) (Node form s parts))) next.setting (map (meant text) (defined form parts) ++ seen) asked (deep_names text (known_at text outsides words state unit) (named text outsides words state) (beneath text outsides words state) (Node form s parts))
  definition-deep unit local form s parts next asked inside (lead, roots, made, is) given arranged =
      let known = known_at text outsides words state unit in
      let modules = named text outsides words state in
      let here = deep-at unit in
      let new-all = new-from text (within (Node form s parts)) seen given.given.fresh in
      let good =
      definition-good flat text known modules means implied faces inside ordered seen stands reader.setting state.depths context here.round here.usable form s parts lead roots asked
      (everywhere flat text known modules means implied faces inside ordered parts) new-all arranged given.readable made in
      let new = new-fewer text (within (Node form s parts)) (defined form parts) seen (λ m. let e = within-counts text m form s parts in let j = times-joins text m (defined form parts) (binders form parts) in omega (arith, e, j)) new-all in
      record {
        stands = with_stands stands (map (meant text) (defined form parts)) good.stand;
        deep = subst (λ (r : Reader). Deep flat text known (declare_all text local state.read.place.here (defined form parts)).context (with_depth state.depths (map (meant text) (defined form parts)) (defined_depth text known modules (beneath text outsides words state) (Node form s parts))) r.setting (map (meant text) (defined form parts) ++ seen) (with_stands stands (map (meant text) (defined form parts)) good.stand)) (sym is)
            (record {
              round = behind-round text flat known seen stands reader.setting state.depths form s parts good.stand lead (defined_depth text known modules (beneath text outsides words state) (Node form s parts)) here.round new good.leads good.reached good.parameters;
              usable = record {
                orders = λ name m e. by_orders known good.stand new here.usable good.takes name m (declared-means text (defined form parts) local state.read.place.here name m e);
                usable = λ name m e. by_seen name m (declared-means text (defined form parts) local state.read.place.here name m e);
              };
            });
        answers = good.names;
      }
    where
      by_orders : (known : Known) (stand : Stand) → New text seen (defined form parts) → Usable text flat known seen stands context → ((m : Meaning) → Among text m (defined form parts) → TakesAs stand (behind_meaning known (Some m)) m) → (name : Named) (m : Meaning) → (meaning_of context name ≡ Some m) ⊎ IsOneOf text (defined form parts) m → TakesAs (with_stands stands (map (meant text) (defined form parts)) stand m) (behind_meaning known (Some m)) m
      by_orders known stand new here takes name m (inl before) =
          subst (λ z. TakesAs z (behind_meaning known (Some m)) m) (sym (stands-left text (defined form parts) stands stand m (seen-none text (defined form parts) seen m new (here.usable name m before)))) (here.orders name m before)
      by_orders known stand new here takes name m (inr one) =
          subst (λ z. TakesAs z (behind_meaning known (Some m)) m) (sym (stands-in text (defined form parts) stands stand m one)) (takes m (one-among text (defined form parts) m one))

      by_seen : (name : Named) (m : Meaning) → (meaning_of context name ≡ Some m) ⊎ IsOneOf text (defined form parts) m → is_seen (map (meant text) (defined form parts) ++ seen) m ≡ true
      by_seen name m (inl before) = seen-right (map (meant text) (defined form parts)) seen m (deep.usable.usable name m before)
      by_seen name m (inr one) = seen-left (map (meant text) (defined form parts)) seen m (one-is-seen text (defined form parts) m one)
