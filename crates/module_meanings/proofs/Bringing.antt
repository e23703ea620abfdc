-- An INSTANCE without a name, and units that define nothing.
use Rattle.std.proofs.Common.{◌≡◌, inl, inr, ℕ, Bool, true, false, List, ◌++◌, Option, Some, None, map, refl, sym, ap, ◌∙◌, subst, length}
use Rattle.std.specs.Prelude.{◌⊎◌, is_some}
use Rattle.std.specs.List.{AllByRecursion}
use Rattle.tla_symbols.specs.declared.lexeme.Lexeme.{Lexeme}
use Rattle.tla_symbols.specs.declared.lexeme.Span.{Span}
use Rattle.tla_tree.specs.declared.form.Form.TheVariants as Form
use Rattle.tla_tree.specs.Syntax.{Tree, Trees, Node, Nil, Cons}
use Rattle.unit_grammar.specs.Units.{UnitTree, Instance}
use Rattle.tla_model.specs.declared.names.Binder.{Binder}
use Rattle.tla_model.specs.Contexts.{Context, meaning_of}
use Rattle.tla_model.specs.Entities.{Meaning, Text, meant}
use Rattle.tla_model.specs.Lexemes.{spelled}
use Rattle.tla_model.specs.Tables.{Named}
use Rattle.module_model.specs.Exports.{Exports, Known, behind_meaning}
use Rattle.module_model.specs.Modules.{declare_all}
use Rattle.module_model.specs.Resolution.{instance_brings, known_brought}
use Rattle.model_laws.proofs.Settling.{told-beside as known-beside, told-instance}
use Rattle.kind_text.specs.FlatModule.{FlatModule, Instance as FlatInstance, IsOrdered}
use Rattle.tree_kinds.specs.Standing.{Outside, name_among}
use Rattle.module_kinds.specs.ModuleKinds.{KindState, after, known_at, named, views}
use Rattle.flat_trees.specs.Stands.{Stand}
use Rattle.flat_trees.specs.Layouts.{Layout, coming_stand, with_brought}
use Rattle.flat_trees.proofs.Instances.{brought-agrees}
use Rattle.flat_kinds.specs.Readings.{IsInstanceRead, layout_after}
use Rattle.flattened_trees.specs.Agreeing.{KeepsOrders, TakesAs, is_seen}
use Rattle.flattened_trees.specs.Leads.{FlatFace}
use Rattle.flattened_trees.specs.Questions.{Question}
use Rattle.flattened_trees.specs.Readable.{IsReadableThrough}
use Rattle.flattened_meanings.proofs.Fresh.{IsOneOf}
use Rattle.flattened_meanings.proofs.Forms.{wholes-fresh}
use Rattle.flattened_meanings.proofs.Instances.{instance-put}
use Rattle.flattened_meanings.proofs.Meant.{each-kept}
use Rattle.flattened_units.specs.Units.{IsInstanceMade, Reader, face_in, meanings_of}
use Rattle.module_meanings.specs.Faces.{IsPlaced}
use Rattle.module_meanings.specs.Following.{Follows}
use Rattle.module_meanings.specs.Premises.{IsTold, AreTold, IsFaceAt, IsInstanceGivenBy}
use Rattle.module_meanings.proofs.Contexts.{IsEntry, declared-means, entry-named, entry-seen, joined-means, one-is-seen, orders-more, seen-left, seen-right, told-more, unseen-entries, unseen-parts}
use Rattle.module_meanings.proofs.Knowing.{binder-told, entry-told}
use Rattle.module_meanings.proofs.Leads.{brought-lead}
use Rattle.module_meanings.proofs.Units.{IsSymbolic, comes-takes, placed-one, placed-takes, seen-but, tree-fresh, tree-knows}

module _ (flat : FlatModule) (text : Text) (means : ℕ → Option Meaning) (implied : ℕ → List Meaning) (files : List ℕ → FlatFace) (outsides : List ℕ → Outside) (words : List ℕ) where
  -- what an INSTANCE without a name brings
  abbrev entries-of : KindState → Lexeme → Span → Trees → Exports
  entries-of state l s rights = instance_brings text (views text outsides words) words state.read (Node (Form.Instance l) s rights)

  -- what is known to stand behind instances, behind it
  abbrev known-behind : KindState → Option Lexeme → Lexeme → Span → Trees → Known
  known-behind state local l s rights = (after text outsides words state (Instance local (Node (Form.Instance l) s rights))).read.known

  module _ (seen : List Meaning) (state : KindState) (reader : Reader) (layout : Layout) (follows : Follows state reader seen layout) (told : AreTold state.read.known state.read.place.here.context) where
    before-means : (name : Named) (m : Meaning) → meaning_of state.read.place.here.context name ≡ Some m → meaning_of layout.context name ≡ Some m
    before-means name m e = subst (λ (context : Context). meaning_of context name ≡ Some m) follows.context e

    here-told : AreTold state.read.known layout.context
    here-told = subst (AreTold state.read.known) follows.context told

    -- what comes of an INSTANCE without a name, and what is known behind it
    pub instance-follows : (ordered : IsOrdered flat) (local : Option Lexeme) (x : Tree) (next : Reader) (asked : List Question) → IsInstanceMade flat text means implied files outsides words state reader x next asked → IsInstanceGivenBy flat text means implied files outsides words (IsFaceAt flat text means implied files outsides words) state reader seen (Instance local x) x → (stands : Meaning → Stand) × IsInstanceRead text outsides words flat state layout (Instance local x) x stands × Follows (after text outsides words state (Instance local x)) next (meanings_of (instance_brings text (views text outsides words) words state.read x) ++ seen) (layout_after text outsides words state layout (Instance local x) stands)
    instance-follows ordered local (Node (Form.Instance l) s rights) next asked (written, roots, j, a, b, are, made, is, asks) given =
        let x : Tree = Node (Form.Instance l) s rights in
        let unit : UnitTree = Instance local x in
        let known = known_at text outsides words state unit in
        let modules = named text outsides words state in
        let faces = face_in flat text means implied files outsides words reader.faces in
        let nameable = given.given.nameable in
        let entries = instance_brings text (views text outsides words) words state.read x in
        let knows = tree-knows flat text means implied files outsides words seen (Form.Instance l) s rights state reader unit layout follows told given.given in
        let fresh = tree-fresh flat text means implied files outsides words seen (Form.Instance l) s rights state reader unit layout follows told given.given in
        let can = subst (λ (context : Context). IsReadableThrough text known modules means implied faces context (Cons x Nil)) follows.context given.readable in
        let is-of =
        instance-put flat text known modules means implied faces nameable ordered layout reader.setting (seen-but flat text means implied files outsides words seen (Form.Instance l) s rights) knows (length reader.setting.frame) 0 false l rights written roots j a b given.given.names.0
        (each-kept flat text known modules means implied faces nameable ordered rights given.given.names.1) are made can.0 can.1 can.2
        (wholes-fresh text (seen-but flat text means implied files outsides words seen (Form.Instance l) s rights) (Form.Instance l) s rights fresh) in
        let stands = with_brought layout.stands entries j is-of.inner in
        let there = layout_after text outsides words state layout unit stands in
        let old = orders-more known _ layout (λ name m e. told-more state.read.known _ m (here-told name m e)) (orders-more state.read.known _ layout here-told follows.orders) in
        let x-made : FlatInstance = record { outer = length reader.setting.frame; parameters = 0; guards = false; replacements = is-of.staying ++ is-of.made } in (
          stands,
          λ frame around agrees.
              brought-agrees flat text known modules layout frame around j x-made l s rights is-of.staying is-of.made is-of.base is-of.inner entries
              (record { there = is-of.there; outer = sym follows.settings.places; parameters = refl; guards = refl })
              (record { replacements = refl; unbounded = is-of.unbounded }) is-of.kept is-of.stays is-of.put agrees,
          subst (λ (r : Reader). Follows (after text outsides words state unit) r (meanings_of entries ++ seen) there) (sym is)
              (record {
                context = refl;
                settings = record {
                  leads = brought-lead layout.stands reader.setting.leads entries j (faces (spelled text.source l)) is-of.inner follows.settings.leads is-of.leads;
                  places = follows.settings.places;
                  olds = follows.settings.olds;
                };
                told = λ name m e. by_told name m (joined-means entries (is_some local) state.read.place.here name m e);
                orders = λ name m e. by_name is-of.inner j m
                    (λ n found. comes-takes _ _ n m is-of.inner (given.comes l s rights refl name m n e found) is-of.takes)
                    name (joined-means entries (is_some local) state.read.place.here name m e) old (name_among entries m) refl;
                all_seen = λ name m e. by_seen name m (joined-means entries (is_some local) state.read.place.here name m e);
                unsaid = λ m none. let parts = unseen-parts (meanings_of entries) seen m none in ap (coming_stand j is-of.inner (layout.stands m)) (unseen-entries entries m parts.0) ∙ follows.unsaid m parts.1;
              }),
        )
      where
        by_name : (inner : Named → Stand) (j : ℕ) (m : Meaning) → ((n : Named) → name_among (entries-of state l s rights) m ≡ Some n → TakesAs (coming_stand j inner (layout.stands m) (Some n)) (behind_meaning (known-behind state local l s rights) (Some m)) m) → (name : Named) → ((meaning_of state.read.place.here.context name ≡ Some m) ⊎ IsEntry (entries-of state l s rights) m) → KeepsOrders (known-behind state local l s rights) layout → (o : Option Named) → name_among (entries-of state l s rights) m ≡ o → TakesAs (coming_stand j inner (layout.stands m) o) (behind_meaning (known-behind state local l s rights) (Some m)) m
        by_name inner j m comes name means old (Some n) found = comes n found
        by_name inner j m comes name (inl before) old None found = old name m (before-means name m before)
        by_name inner j m comes name (inr one) old None found = absurd (entry-named (entries-of state l s rights) m one found)

        by_told : (name : Named) (m : Meaning) → ((meaning_of state.read.place.here.context name ≡ Some m) ⊎ IsEntry (entries-of state l s rights) m) → IsTold (known-behind state local l s rights) m
        by_told name m (inl before) = told-more (known_at text outsides words state (Instance local (Node (Form.Instance l) s rights))) _ m (told-more state.read.known _ m (told name m before))
        by_told name m (inr one) =
            known-beside (known_at text outsides words state (Instance local (Node (Form.Instance l) s rights))) _ m
            (entry-told (known_brought text (views text outsides words) words state.read (Node (Form.Instance l) s rights)) (entries-of state l s rights) m (told-instance text (views text outsides words) words state.read (Node (Form.Instance l) s rights)) one)

        by_seen : (name : Named) (m : Meaning) → ((meaning_of state.read.place.here.context name ≡ Some m) ⊎ IsEntry (entries-of state l s rights) m) → is_seen (meanings_of (entries-of state l s rights) ++ seen) m ≡ true
        by_seen name m (inl before) = seen-right (meanings_of (entries-of state l s rights)) seen m (follows.all_seen name m (before-means name m before))
        by_seen name m (inr one) = seen-left (meanings_of (entries-of state l s rights)) seen m (entry-seen (entries-of state l s rights) m one)
    instance-follows ordered local (Node form s parts) next asked made given = absurd given.readable

    -- behind declarations, whose symbols have places already
    pub declared-follows : (unit : UnitTree) (local : Bool) (binders : List Binder) → ((m : Meaning) → IsOneOf text binders m → IsSymbolic m) → AllByRecursion (IsPlaced reader.setting.leads) (map (meant text) binders) → AllByRecursion (λ (b : Binder). IsTold (known_at text outsides words state unit) (meant text b)) binders → (after text outsides words state unit).read.known ≡ known_at text outsides words state unit → (after text outsides words state unit).read.place.here.context ≡ (declare_all text local state.read.place.here binders).context → Follows (after text outsides words state unit) reader (map (meant text) binders ++ seen) (layout_after text outsides words state layout unit layout.stands)
    declared-follows unit local binders symbolic placed all_told same_known same_context =
        let known = known_at text outsides words state unit in
        let there = layout_after text outsides words state layout unit layout.stands in
        let old = orders-more state.read.known _ layout here-told follows.orders in
        let orders : KeepsOrders known there =
        λ name m e. by_orders old name m (declared-means text binders local state.read.place.here name m (subst (λ (context : Context). meaning_of context name ≡ Some m) same_context e)) in
        record {
          context = refl;
          settings = record { leads = follows.settings.leads; places = follows.settings.places; olds = follows.settings.olds };
          told = subst (λ k. AreTold k there.context) (sym same_known) (λ name m e. by_told name m (declared-means text binders local state.read.place.here name m (subst (λ (context : Context). meaning_of context name ≡ Some m) same_context e)));
          orders = subst (λ k. KeepsOrders k there) (sym same_known) orders;
          all_seen = λ name m e. by_seen name m (declared-means text binders local state.read.place.here name m (subst (λ (context : Context). meaning_of context name ≡ Some m) same_context e));
          unsaid = λ m none. follows.unsaid m (unseen-parts (map (meant text) binders) seen m none).1;
        }
      where
        by_orders : KeepsOrders (known_at text outsides words state unit) layout → (name : Named) (m : Meaning) → (meaning_of state.read.place.here.context name ≡ Some m) ⊎ IsOneOf text binders m → TakesAs (layout.stands m) (behind_meaning (known_at text outsides words state unit) (Some m)) m
        by_orders old name m (inl before) = old name m (before-means name m before)
        by_orders old name m (inr one) = placed-takes layout.stands reader.setting.leads (behind_meaning (known_at text outsides words state unit) (Some m)) m follows.settings.leads (placed-one text reader.setting.leads binders m placed one) (symbolic m one)

        by_told : (name : Named) (m : Meaning) → (meaning_of state.read.place.here.context name ≡ Some m) ⊎ IsOneOf text binders m → IsTold (known_at text outsides words state unit) m
        by_told name m (inl before) = told-more state.read.known _ m (told name m before)
        by_told name m (inr one) = binder-told text (known_at text outsides words state unit) binders m all_told one

        by_seen : (name : Named) (m : Meaning) → (meaning_of state.read.place.here.context name ≡ Some m) ⊎ IsOneOf text binders m → is_seen (map (meant text) binders ++ seen) m ≡ true
        by_seen name m (inl before) = seen-right (map (meant text) binders) seen m (follows.all_seen name m (before-means name m before))
        by_seen name m (inr one) = seen-left (map (meant text) binders) seen m (one-is-seen text binders m one)

    -- behind a unit that declares and defines nothing
    pub still-follows : (unit : UnitTree) → (after text outsides words state unit).read.known ≡ known_at text outsides words state unit → (after text outsides words state unit).read.place.here.context ≡ state.read.place.here.context → Follows (after text outsides words state unit) reader seen (layout_after text outsides words state layout unit layout.stands)
    still-follows unit same_known same_context =
        let there = layout_after text outsides words state layout unit layout.stands in
        let old = orders-more state.read.known _ layout here-told follows.orders in
        let means-before = λ (name : Named) (m : Meaning) (e : meaning_of there.context name ≡ Some m). before-means name m (subst (λ (context : Context). meaning_of context name ≡ Some m) same_context e) in
        let orders : KeepsOrders (known_at text outsides words state unit) there = λ name m e. old name m (means-before name m e) in
        record {
          context = refl;
          settings = record { leads = follows.settings.leads; places = follows.settings.places; olds = follows.settings.olds };
          told = subst (λ k. AreTold k there.context) (sym same_known)
              (λ name m e. told-more state.read.known _ m (told name m (subst (λ (context : Context). meaning_of context name ≡ Some m) same_context e)));
          orders = subst (λ k. KeepsOrders k there) (sym same_known) orders;
          all_seen = λ name m e. follows.all_seen name m (means-before name m e);
          unsaid = follows.unsaid;
        }
