-- How deep the names are behind an INSTANCE without a name.
use Rattle.std.proofs.Common.{◌≡◌, inl, inr, ℕ, false, true, List, [], ◌++◌, Option, Some, None, refl, sym, ap, ◌∙◌, subst, length}
use Rattle.std.specs.Prelude.{◌⊎◌, is_some, slice_get}
use Rattle.tla_symbols.specs.declared.lexeme.Lexeme.{Lexeme}
use Rattle.tla_symbols.specs.declared.lexeme.Span.{Span}
use Rattle.tla_tree.specs.declared.form.Form.TheVariants as Form
use Rattle.tla_tree.specs.Syntax.{Tree, Trees, Node}
use Rattle.unit_grammar.specs.Units.{UnitTree, Instance}
use Rattle.tla_model.specs.Contexts.{meaning_of}
use Rattle.tla_model.specs.Entities.{Meaning, Text}
use Rattle.tla_model.specs.Lexemes.{spelled}
use Rattle.tla_model.specs.Tables.{Named}
use Rattle.module_model.specs.Exports.{Exports, Known, behind_instance, behind_meaning}
use Rattle.module_model.specs.Resolution.{instance_brings}
use Rattle.kind_text.specs.FlatModule.{FlatModule, IsOrdered}
use Rattle.level_text.specs.Depth.{parameters_of}
use Rattle.tree_kinds.specs.Standing.{Outside, Reached, name_among}
use Rattle.tree_kinds.specs.Expanding.{module_of}
use Rattle.tree_kinds.specs.TreeDepths.{coming_depth, deep_names, deeper, replaced_depth}
use Rattle.module_kinds.specs.ModuleKinds.{KindState, after, beneath, known_at, named, views}
use Rattle.flat_trees.specs.Stands.{Stand}
use Rattle.flat_trees.specs.Layouts.{Layout, coming_stand, with_brought}
use Rattle.flat_depths.proofs.Agreeing.{brought-deep}
use Rattle.flat_depths.proofs.Definitions.{replaced-deep, written}
use Rattle.flattened_trees.specs.Agreeing.{KeepsOrders, TakesAs, is_seen}
use Rattle.flattened_trees.specs.Answers.{deep_answers}
use Rattle.flattened_trees.specs.Leads.{FlatFace}
use Rattle.flattened_trees.specs.Questions.{Question}
use Rattle.flattened_depths.specs.Arranged.{AreArranged, BindsNothing}
use Rattle.flattened_depths.specs.Rounds.{LeadsAs, LeadsBehind, TakesParameters}
use Rattle.flattened_depths.proofs.Knowing.{instance-asked, instance-known}
use Rattle.flattened_units.specs.Units.{IsInstanceMade, Reader, face_in, meanings_of}
use Rattle.module_meanings.specs.Premises.{AreTold, IsFileAt, IsInstanceGivenBy}
use Rattle.module_meanings.proofs.Contexts.{IsEntry, entry-named, entry-seen, joined-means, orders-more, seen-left, seen-right, told-more, unseen-entries, unseen-parts}
use Rattle.module_meanings.proofs.Leads.{brought-lead}
use Rattle.module_meanings.proofs.Units.{comes-takes}
use Rattle.module_answers.proofs.Depths.{Answered, Deep, deep-at, known-round}

module _ (flat : FlatModule) (ordered : IsOrdered flat) (text : Text) (means : ℕ → Option Meaning) (implied : ℕ → List Meaning) (files : List ℕ → FlatFace) (outsides : List ℕ → Outside) (words : List ℕ) (state : KindState) (reader : Reader) (seen : List Meaning) (stands : Meaning → Stand) (told : AreTold state.read.known state.read.place.here.context) (deep : Deep flat text state.read.known state.read.place.here.context state.depths reader.setting seen stands) (local : Option Lexeme) (l : Lexeme) (s : Span) (rights : Trees) where
  abbrev x : Tree
  x = Node (Form.Instance l) s rights

  abbrev unit : UnitTree
  unit = Instance local x

  abbrev known : Known
  known = known_at text outsides words state unit

  abbrev modules : List ℕ → Outside
  modules = named text outsides words state

  abbrev faces : List ℕ → FlatFace
  faces = face_in flat text means implied files outsides words reader.faces

  abbrev entries : Exports
  entries = instance_brings text (views text outsides words) words state.read x

  abbrev then : KindState
  then = after text outsides words state unit

  abbrev layout : Layout
  layout = record { context = state.read.place.here.context; stands = stands; places = length reader.setting.frame; olds = reader.setting.olds }

  -- the depths behind it
  abbrev from : List Named → Reached
  from path = deeper (replaced_depth text known modules (beneath text outsides words state) x) ((module_of text known modules l).depths path)

  pub instance-deep : (next : Reader) (asked : List Question) (inside : List ℕ → Named → Stand) (inner : Named → Stand) → IsInstanceMade flat text means implied files outsides words state reader x next asked → IsInstanceGivenBy flat text means implied files outsides words (IsFileAt flat text means implied files outsides words) state reader seen unit x → BindsNothing (Form.Instance l) rights → AreArranged (LeadsBehind flat text known modules faces inside) true rights → LeadsAs flat text known modules faces l inner (behind_instance (module_of text known modules l).view) → Answered flat text then.read.known then.read.place.here.context then.depths next.setting (meanings_of entries ++ seen) asked (deep_names text known modules (beneath text outsides words state) x)
  instance-deep next asked inside inner (sides, roots, j, a, b, are, made, is, asks) given none arranged names =
      let here = deep-at flat ordered text means implied files outsides words state reader seen stands told deep unit in
      let around = beneath text outsides words state in
      let knows = known-round flat text known state.read.place.here.context state.depths reader.setting seen stands here in
      let puts = instance-known flat text known modules means implied faces inside ordered seen layout reader.setting around knows l s rights given.given.fresh none arranged given.readable (length reader.setting.frame) 0 false sides roots j a b are made in
      let old = orders-more known _ layout (λ name m e. told-more state.read.known _ m (told name m e)) here.usable.orders in
      record {
        stands = with_brought stands entries j inner;
        deep = subst (λ (r : Reader). Deep flat text then.read.known then.read.place.here.context then.depths r.setting (meanings_of entries ++ seen) (with_brought stands entries j inner)) (sym is)
            (record {
              round = record {
                leads = brought-lead stands reader.setting.leads entries j (faces (spelled text.source l)) inner deep.round.leads names.leads;
                unsaid = λ m none. let parts = unseen-parts (meanings_of entries) seen m none in ap (coming_stand j inner (stands m)) (unseen-entries entries m parts.0) ∙ deep.round.unsaid m parts.1;
                plain = λ m none. let parts = unseen-parts (meanings_of entries) seen m none in ap (λ found. coming_depth from (state.depths m []) found []) (unseen-entries entries m parts.0) ∙ deep.round.plain m parts.1;
                deep = brought-deep flat j (written flat text known modules around l rights) (module_of text known modules l) inner entries stands state.depths
                    (replaced-deep flat text known modules around j puts.instance puts.staying puts.made l rights puts.there puts.replacements puts.plain puts.deep) names.deep deep.round.deep;
                parameters = λ m. by_entry j inner (ap parameters_of made.2) names.parameters m (name_among entries m);
              };
              usable = record {
                orders = λ name m e. by_name inner j m
                    (λ n found. comes-takes _ _ n m inner (given.comes l s rights refl name m n e found) names.takes)
                    name (joined-means entries (is_some local) state.read.place.here name m e) old (name_among entries m) refl;
                usable = λ name m e. by_seen name m (joined-means entries (is_some local) state.read.place.here name m e);
              };
            });
        answers = ap (deep_answers flat) asks
            ∙ instance-asked flat text known modules means implied faces inside ordered seen layout reader.setting around knows l s rights given.given.fresh none arranged given.readable (length reader.setting.frame) 0 false sides roots j a b are made;
      }
    where
      by_entry : (j : ℕ) (inner : Named → Stand) → parameters_of (slice_get flat.instances j) ≡ 0 → ((name : Named) → TakesParameters flat (inner name)) → (m : Meaning) (found : Option Named) → TakesParameters flat (coming_stand j inner (stands m) found)
      by_entry j inner e each m None = deep.round.parameters m
      by_entry j inner e each m (Some name) = (e, each name)

      by_name : (inner : Named → Stand) (j : ℕ) (m : Meaning) → ((n : Named) → name_among entries m ≡ Some n → TakesAs (coming_stand j inner (stands m) (Some n)) (behind_meaning then.read.known (Some m)) m) → (name : Named) → ((meaning_of state.read.place.here.context name ≡ Some m) ⊎ IsEntry entries m) → KeepsOrders then.read.known layout → (found : Option Named) → name_among entries m ≡ found → TakesAs (coming_stand j inner (stands m) found) (behind_meaning then.read.known (Some m)) m
      by_name inner j m comes name brought old (Some n) found = comes n found
      by_name inner j m comes name (inl before) old None found = old name m before
      by_name inner j m comes name (inr one) old None found = absurd (entry-named entries m one found)

      by_seen : (name : Named) (m : Meaning) → ((meaning_of state.read.place.here.context name ≡ Some m) ⊎ IsEntry entries m) → is_seen (meanings_of entries ++ seen) m ≡ true
      by_seen name m (inl before) = seen-right (meanings_of entries) seen m (deep.usable.usable name m before)
      by_seen name m (inr one) = seen-left (meanings_of entries) seen m (entry-seen entries m one)
