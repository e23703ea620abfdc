-- Nested modules that begin and end.
use Rattle.std.proofs.Common.{◌≡◌, inl, inr, ℕ, ◌+◌, true, List, [], ◌∷◌, ◌++◌, Option, Some, None, refl, sym, ap, ◌∙◌, subst, drop, length}
use Rattle.std.specs.Prelude.{◌⊎◌}
use Rattle.std.proofs.lemmas.List.{length-append}
use Rattle.tla_symbols.specs.declared.lexeme.Lexeme.{Lexeme}
use Rattle.unit_grammar.specs.Units.{UnitTree, ModuleBegin}
use Rattle.tla_model.specs.Contexts.{Context, meaning_of}
use Rattle.tla_model.specs.declared.names.Meaning.TheVariants.{BuiltIn}
use Rattle.tla_model.specs.EntityKinds.{is_meant, stands_for_parameter}
use Rattle.tla_model.specs.Entities.{Meaning, Text}
use Rattle.tla_model.specs.Lexemes.{spelled}
use Rattle.tla_model.specs.Tables.{Named}
use Rattle.module_scope.specs.Environments.{Scope, begun}
use Rattle.module_model.specs.Exports.{behind_meaning}
use Rattle.module_model.specs.Modules.{nested}
use Rattle.kind_text.specs.FlatModule.{FlatModule, IsOrdered}
use Rattle.tree_kinds.specs.Standing.{Outside}
use Rattle.module_kinds.specs.ModuleKinds.{KindState, after, views}
use Rattle.flat_trees.specs.Stands.{Stand}
use Rattle.flat_trees.specs.Layouts.{Layout}
use Rattle.flat_kinds.specs.Modules.{Begins, Coming, Current, IsRead, KeepsAll, here_behind}
use Rattle.flat_kinds.specs.Readings.{nested_layout, with_own}
use Rattle.flattened_trees.specs.Agreeing.{KeepsOrders, TakesAs, is_seen}
use Rattle.flattened_trees.specs.Leads.{FlatFace, Leads, Setting}
use Rattle.flattened_units.specs.Units.{AreExtended, Reader, with_symbols}
use Rattle.module_meanings.specs.Faces.{IsPlaced}
use Rattle.module_meanings.specs.Following.{AreExtendedSo}
use Rattle.module_meanings.specs.Premises.{AreTold, IsBegunGiven, extended_meanings, symbol_leads}
use Rattle.module_meanings.proofs.Beginning.{parameter-takes, symbols-unseen}
use Rattle.module_meanings.proofs.Contexts.{orders-more, seen-left, seen-right, unseen-parts}
use Rattle.module_meanings.proofs.Extending.{extended-all, extends-means}
use Rattle.module_meanings.proofs.Knowing.{extended-told}
use Rattle.module_meanings.proofs.NestedExtended.{all-new}
use Rattle.module_meanings.proofs.NestedFaces.{AreNestedKnown, HoldsNested, added-known, all-more, own-elsewhere, round-more as faces-more, unsaid-more}
use Rattle.module_meanings.proofs.Nesting.{AreAllTold, HoldsAt, HoldsRound, holds-more, own-alike, own-at, own-before, own-lead, own-new, own-takes, round-more, round-stays}
use Rattle.module_meanings.proofs.Staying.{StayBehind}
use Rattle.flat_kinds.proofs.Symbols.{own-symbols}

pub drop-front : (a b : List Meaning) → drop (length a) (a ++ b) ≡ b
drop-front [] b = refl
drop-front (x ∷ a) b = drop-front a b

module _ (flat : FlatModule) (ordered : IsOrdered flat) (text : Text) (means : ℕ → Option Meaning) (implied : ℕ → List Meaning) (files : List ℕ → FlatFace) (outsides : List ℕ → Outside) (words : List ℕ) where
  -- what is known at a unit: of the module that is read, and of those round it
  pub record Holds (state : KindState) (reader : Reader) (seen : List Meaning) (current : Current) (outers : List Current) : Type 0 where
    pub here : HoldsAt state.read.known state.read.place.here.context (symbol_leads reader.round reader.setting.frame) reader.setting seen current
    pub round : HoldsRound state.read.known state.read.place.round reader.round outers seen
    pub keeps : KeepsAll flat state current outers
    pub nested : HoldsNested flat state.modules reader.setting.frame reader.round reader.faces seen current.symbols outers

  -- a nested module begins
  module _ (state : KindState) (reader : Reader) (seen : List Meaning) (here : Current) (outers : List Current) (holds : Holds state reader seen here outers) (told : AreAllTold state) (dashes name : Lexeme) (extends : List Lexeme) (stays : StayBehind text outsides words state (ModuleBegin dashes name extends) seen) (own : List Meaning) (given : IsBegunGiven flat text means implied files outsides words state reader own dashes name extends) where
    abbrev pub unit : UnitTree
    unit = ModuleBegin dashes name extends

    abbrev pub then : KindState
    then = after text outsides words state unit

    abbrev pub modules : Scope Outside
    modules = begun state.modules (spelled text.source name)

    abbrev pub faces : Scope FlatFace
    faces = begun reader.faces (spelled text.source name)

    -- the nested module before what it extends
    abbrev pub inner : Setting
    inner = record { leads = with_symbols reader.setting.leads own (length reader.setting.frame); frame = reader.setting.frame ++ own; olds = [] }

    abbrev pub inner-symbols : Leads
    inner-symbols = with_symbols (symbol_leads reader.round reader.setting.frame) own (length reader.setting.frame)

    abbrev pub own-stands : Meaning → Stand
    own-stands = own-at own here.layout.places

    abbrev pub here-symbols : Meaning → Stand
    here-symbols = with_own here.symbols own-stands

    abbrev pub here-stands : Meaning → Stand
    here-stands = with_own here.layout.stands own-stands

    abbrev pub IsAllExtended : Leads → Type 0
    IsAllExtended next = AreExtendedSo flat text outsides words then.read.known then.read.place.here.context modules (length inner.frame) here-symbols extends here-stands next

    pub all-extended : (next : Leads) → AreExtended flat text means implied files outsides words modules faces inner inner.leads extends next → IsAllExtended next
    all-extended next made =
        extended-all flat ordered text means implied files outsides words then.read.known then.read.place.here.context modules faces inner inner-symbols here-symbols
        (own-lead here.symbols (symbol_leads reader.round reader.setting.frame) own here.layout.places (length reader.setting.frame) holds.here.follows.settings.places holds.here.leads)
        (own-alike here.symbols own here.layout.places holds.here.alike) extends here-stands inner.leads next
        (own-lead here.layout.stands reader.setting.leads own here.layout.places (length reader.setting.frame) holds.here.follows.settings.places holds.here.follows.settings.leads) given.extended.each made

    module _ (next : Reader) (leads : Leads) (all : IsAllExtended leads) (is : next ≡ record { setting = record { leads = leads; frame = inner.frame; olds = [] }; round = reader.setting ∷ reader.round; faces = faces }) where
      abbrev pub coming : Coming
      coming = Begins own-stands (length own) all.extensions

      abbrev pub nested-here : Layout
      nested-here = nested_layout text outsides words state here.layout own-stands (length own) dashes name extends all.extensions

      room : here.layout.places + length own ≡ length inner.frame
      room = ap (λ n. n + length own) holds.here.follows.settings.places ∙ sym (length-append reader.setting.frame own)

      pub begun-read : IsRead text outsides words flat state here outers unit coming
      begun-read = (
        own-new here.symbols (symbol_leads reader.round reader.setting.frame) here.layout state own holds.here.leads holds.here.before given.new,
        all.are nested-here room,
        round-stays flat text outsides words state unit state.read.known (state.read.place.here ∷ state.read.place.round) (reader.setting ∷ reader.round) (here ∷ outers) seen
            (holds.here, holds.round) ((holds.keeps.here.context, holds.keeps.here.olds, holds.keeps.here.standing), holds.keeps.round) (λ some. stays),
      )

      -- the names that were seen then
      abbrev pub names : List Meaning
      names = inner.frame ++ extended_meanings text outsides words modules extends

      -- the nested module behind what it extends
      abbrev pub within : Reader
      within = record { setting = record { leads = leads; frame = inner.frame; olds = [] }; round = reader.setting ∷ reader.round; faces = faces }

      abbrev pub current : Current
      current = here_behind text outsides words state here outers unit coming

      orders-then : KeepsOrders then.read.known here.layout
      orders-then = orders-more state.read.known _ here.layout (subst (AreTold state.read.known) holds.here.follows.context told.0) holds.here.follows.orders

      by-other : (m : Meaning) → ((is_meant stands_for_parameter m ≡ true) × IsPlaced inner.leads m) ⊎ ((used : Named) × (meaning_of state.read.place.here.context used ≡ Some m)) → TakesAs (here-stands m) (behind_meaning then.read.known (Some m)) m
      by-other m (inl (symbol, placed)) =
          parameter-takes here-stands inner.leads (behind_meaning then.read.known (Some m)) m
          (own-lead here.layout.stands reader.setting.leads own here.layout.places (length reader.setting.frame) holds.here.follows.settings.places holds.here.follows.settings.leads) symbol placed
      by-other m (inr (used, there)) =
          own-takes here.layout.stands own here.layout.places (behind_meaning then.read.known (Some m)) m
          (orders-then used m (subst (λ (context : Context). meaning_of context used ≡ Some m) holds.here.follows.context there))

      by-seen : (used : Named) (m : Meaning) → (meaning_of state.read.place.here.context used ≡ Some m) ⊎ (is_seen (extended_meanings text outsides words modules extends) m ≡ true) → is_seen (names ++ seen) m ≡ true
      by-seen used m (inl before) =
          seen-right names seen m (holds.here.follows.all_seen used m (subst (λ (context : Context). meaning_of context used ≡ Some m) holds.here.follows.context before))
      by-seen used m (inr one) = seen-left names seen m (seen-right inner.frame (extended_meanings text outsides words modules extends) m one)

      within-symbols : symbol_leads within.round within.setting.frame ≡ inner-symbols
      within-symbols = ap (λ os. with_symbols (symbol_leads reader.round reader.setting.frame) os (length reader.setting.frame)) (drop-front reader.setting.frame own)

      pub within-holds : HoldsAt then.read.known then.read.place.here.context (symbol_leads within.round within.setting.frame) within.setting (names ++ seen) current
      within-holds =
          subst (λ (s : Leads). HoldsAt then.read.known then.read.place.here.context s within.setting (names ++ seen) current) (sym within-symbols)
          (record {
            follows = record {
              context = refl;
              settings = record { leads = all.leads; places = room; olds = refl };
              told = λ used m e. extended-told text (views text outsides words) words state.read.known extends (nested text state.read.place.here name) used m told.0 e;
              orders = λ used m e. all.takes used m e (λ none. by-other m (given.extended.others used m e none));
              all_seen = λ used m e. by-seen used m (extends-means text outsides words modules extends (nested text state.read.place.here name) used m given.same e);
              unsaid = λ m none.
                  let parts = unseen-parts names seen m none in
                  let more = unseen-parts inner.frame (extended_meanings text outsides words modules extends) m parts.0 in
                  let both = unseen-parts reader.setting.frame own m more.0 in
                  all.unsaid m more.1 ∙ own-symbols here.layout.stands own here.layout.places m ∙ symbols-unseen here.layout.stands own here.layout.places m both.1 ∙ holds.here.follows.unsaid m parts.1;
            };
            leads = own-lead here.symbols (symbol_leads reader.round reader.setting.frame) own here.layout.places (length reader.setting.frame) holds.here.follows.settings.places holds.here.leads;
            alike = own-alike here.symbols own here.layout.places holds.here.alike;
            before = λ m. own-before here.symbols own here.layout.places m (holds.here.before m);
          })

      pub round-holds : HoldsRound then.read.known then.read.place.round within.round (here ∷ outers) (names ++ seen)
      round-holds = (
        holds-more state.read.known _ state.read.place.here.context (symbol_leads reader.round reader.setting.frame) reader.setting seen names here told.0 holds.here,
        round-more state.read.known _ seen names state.read.place.round reader.round outers told.1 holds.round,
      )

      -- nested modules that can be named there
      pub within-nested : HoldsNested flat modules within.setting.frame within.round within.faces (names ++ seen) current.symbols (here ∷ outers)
      within-nested =
          let known = holds.nested in
          let more = λ (m : Meaning) (is : is_seen seen m ≡ true). seen-right names seen m is in
          let symbols = symbol_leads reader.round reader.setting.frame in
          record {
            nest = ((own, refl, ap (λ n. with_own here.symbols (own-at own n)) holds.here.follows.settings.places), known.nest);
            built = more BuiltIn known.built;
            unsaid = λ m none.
                let parts = unseen-parts names seen m none in
                let both = unseen-parts inner.frame (extended_meanings text outsides words modules extends) m parts.0 in
                let two = unseen-parts reader.setting.frame own m both.0 in
                own-symbols here.symbols own here.layout.places m ∙ symbols-unseen here.symbols own here.layout.places m two.1 ∙ known.unsaid m parts.1;
            unsaid_round = ((λ m none. let parts = unseen-parts names seen m none in known.unsaid m parts.1), unsaid-more seen (names ++ seen) more outers known.unsaid_round);
            here = added-known flat (names ++ seen) (symbol_leads within.round within.setting.frame) state.modules.here reader.faces.here (spelled text.source name) None None
                (subst (λ (s : Leads). AreNestedKnown flat (names ++ seen) s state.modules.here reader.faces.here) (sym within-symbols)
                (all-more flat seen (names ++ seen) more symbols inner-symbols state.modules.here reader.faces.here (λ m. own-elsewhere symbols own (length reader.setting.frame) m (all-new state symbols own given.new)) known.here)) tt;
            behind = (
              refl,
              all-more flat seen (names ++ seen) more symbols symbols state.modules.here reader.faces.here (λ m. inr refl) known.here,
              faces-more flat seen (names ++ seen) more state.modules.round reader.faces.round reader.round known.behind,
            );
          }
