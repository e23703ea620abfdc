-- The modules round a unit, and nested modules that begin.
use Rattle.std.proofs.Common.{◌≡◌, inl, inr, ℕ, suc, ◌+◌, Bool, true, false, cond, List, [], ◌∷◌, ◌++◌, refl, sym, ap, ◌∙◌, subst, length}
use Rattle.std.specs.Prelude.{◌⊎◌, replicate}
use Rattle.std.specs.List.{AllByRecursion}
use Rattle.std.proofs.lemmas.Bool.{and_parts}
use Rattle.unit_grammar.specs.Units.{UnitTree}
use Rattle.tla_model.specs.declared.names.Meaning.TheVariants.{BuiltIn, Declared}
use Rattle.tla_model.specs.Contexts.{Context}
use Rattle.tla_model.specs.Entities.{Meaning, Text, same_meaning}
use Rattle.module_model.specs.Exports.{Behind, Known, and_known}
use Rattle.module_model.specs.Modules.{Reading}
use Rattle.kind_text.specs.FlatModule.{FlatModule}
use Rattle.tree_kinds.specs.Standing.{Environment, Outside, places as places_of}
use Rattle.module_kinds.specs.ModuleKinds.{KindState, standing_behind}
use Rattle.flat_trees.specs.Stands.{IsStanding, Stand, Unsaid, Leaf, Place, Defined, Through, Brought}
use Rattle.flat_trees.specs.Layouts.{Layout, StandsBefore, order_of}
use Rattle.flat_kinds.specs.Modules.{AllStayBehind, Current, KeepsRound}
use Rattle.flat_kinds.specs.Readings.{AreNew, KeepsStanding, StaysBehind, with_own}
use Rattle.flat_kinds.specs.Symbols.{same_declared, same_symbol, symbols_at}
use Rattle.flat_kinds.proofs.Symbols.{own-symbols, places-before}
use Rattle.flattened_trees.specs.declared.End.TheVariants as end
use Rattle.flattened_trees.specs.Agreeing.{TakesAs, is_seen, lead_by, unsaid_stand}
use Rattle.flattened_trees.specs.Leads.{Lead, Leads, Setting, nowhere}
use Rattle.flattened_units.specs.Units.{with_symbols}
use Rattle.module_meanings.specs.Following.{AreAlike, FollowsAt, LeadsBy}
use Rattle.module_meanings.specs.Premises.{AreTold, symbol_leads}
use Rattle.module_meanings.proofs.Beginning.{symbol-symbolic}
use Rattle.module_meanings.proofs.Contexts.{orders-more, seen-right, told-more, unseen-parts}
use Rattle.module_meanings.proofs.Extending.{declared-equal, symbols-alike}
use Rattle.module_meanings.proofs.Leads.{symbols-lead}
use Rattle.module_meanings.proofs.Staying.{IsLeafName, StayBehind, leaf-or-unsaid}

-- ---- what leads nowhere

-- a symbol that leads nowhere has nothing said of it
pub before-nowhere : (places : ℕ) (stand : Stand) → StandsBefore places stand → lead_by stand [] ≡ nowhere → stand ≡ Unsaid
before-nowhere places Unsaid before none = refl
before-nowhere places (Leaf kind) before none = let e : end.Leaf kind ≡ end.Nowhere = ap (λ (lead : Lead). lead.end) none in absurd (cc e)
before-nowhere places (Place place order) before none = let e : end.Place place order ≡ end.Nowhere = ap (λ (lead : Lead). lead.end) none in absurd (cc e)
before-nowhere places (Defined d orders) before none = absurd before
before-nowhere places (Through j orders inner) before none = absurd before
before-nowhere places (Brought j inner) before none = absurd before

-- ---- own symbols

-- symbols of a nested module at places
abbrev pub own-at : List Meaning → ℕ → Meaning → Stand
own-at own place = symbols_at (λ (m : Meaning). Unsaid) own place

pub own-lead : (stands : Meaning → Stand) (leads : Leads) (own : List Meaning) (place other : ℕ) → place ≡ other → LeadsBy stands leads → LeadsBy (with_own stands (own-at own place)) (with_symbols leads own other)
own-lead stands leads own place other same all m names =
    symbols-lead stands leads own other all m names ∙ ap (λ n. lead_by (symbols_at stands own n m) names) (sym same) ∙ ap (λ stand. lead_by stand names) (sym (own-symbols stands own place m))

pub own-alike : (stands : Meaning → Stand) (own : List Meaning) (place : ℕ) → AreAlike stands → AreAlike (with_own stands (own-at own place))
own-alike stands own place alike a b same = own-symbols stands own place a ∙ symbols-alike stands own place alike a b same ∙ sym (own-symbols stands own place b)

pub own-before : (stands : Meaning → Stand) (own : List Meaning) (place : ℕ) (m : Meaning) → StandsBefore place (stands m) → StandsBefore (place + length own) (with_own stands (own-at own place) m)
own-before stands own place m before = subst (λ stand. StandsBefore (place + length own) stand) (sym (own-symbols stands own place m)) (places-before stands own place m before)

symbol-order : (m s : Meaning) → same_symbol m s ≡ true → order_of s ≡ order_of m
symbol-order BuiltIn s same = cc same
symbol-order (Declared e x) BuiltIn same = cc same
symbol-order (Declared e x) (Declared f y) same = ap places_of (sym (declared-equal e f (and_parts (same_declared e f) (same_meaning (Declared e x) (Declared f y)) same).0))

symbols-take : (stands : Meaning → Stand) (own : List Meaning) (place : ℕ) (held : Behind) (m : Meaning) → TakesAs (stands m) held m → TakesAs (symbols_at stands own place m) held m
symbols-take stands [] place held m takes = takes
symbols-take stands (s ∷ rest) place held m takes = by_sameness (same_symbol m s) refl (symbols-take stands rest (suc place) held m takes)
  where
    by_sameness : (b : Bool) → same_symbol m s ≡ b → TakesAs (symbols_at stands rest (suc place) m) held m → TakesAs (cond b (Place place (order_of s)) (symbols_at stands rest (suc place) m)) held m
    by_sameness true same others = let is = symbol-symbolic m s same in (is.0, symbol-order m s same, is.1 ∙ ap (λ n. replicate n 0) (sym (symbol-order m s same)))
    by_sameness false same others = others

pub own-takes : (stands : Meaning → Stand) (own : List Meaning) (place : ℕ) (held : Behind) (m : Meaning) → TakesAs (stands m) held m → TakesAs (with_own stands (own-at own place) m) held m
own-takes stands own place held m takes = subst (λ stand. TakesAs stand held m) (sym (own-symbols stands own place m)) (symbols-take stands own place held m takes)

-- own symbols are new
pub own-new : (symbols : Meaning → Stand) (leads : Leads) (layout : Layout) (state : KindState) (own : List Meaning) → LeadsBy symbols leads → ((m : Meaning) → StandsBefore layout.places (symbols m)) → AllByRecursion (λ symbol. (m : Meaning) → same_symbol m symbol ≡ true → (leads m [] ≡ nowhere) × ((parameters : Environment) → state.standing parameters m ≡ parameters m)) own → AreNew symbols layout state (own-at own layout.places)
own-new symbols leads layout state own all before new = record { before = before; new = λ m. each own layout.places m new }
  where
    each : (rest : List Meaning) (place : ℕ) (m : Meaning) → AllByRecursion (λ symbol. (n : Meaning) → same_symbol n symbol ≡ true → (leads n [] ≡ nowhere) × ((parameters : Environment) → state.standing parameters n ≡ parameters n)) rest → (own-at rest place m ≡ Unsaid) ⊎ ((symbols m ≡ Unsaid) × ((parameters : Environment) → state.standing parameters m ≡ parameters m))
    each [] place m new = inl refl
    each (s ∷ rest) place m new = by_sameness (same_symbol m s) refl (each rest (suc place) m new.1)
      where
        by_sameness : (b : Bool) → same_symbol m s ≡ b → (own-at rest (suc place) m ≡ Unsaid) ⊎ ((symbols m ≡ Unsaid) × ((parameters : Environment) → state.standing parameters m ≡ parameters m)) → (cond b (Place place (order_of s)) (own-at rest (suc place) m) ≡ Unsaid) ⊎ ((symbols m ≡ Unsaid) × ((parameters : Environment) → state.standing parameters m ≡ parameters m))
        by_sameness true same others = let here = new.0 m same in inr (before-nowhere layout.places (symbols m) (before m) (sym (all m []) ∙ here.0), here.1)
        by_sameness false same others = others

-- ---- the modules round a unit

-- what is known of a module that is read, and of its symbols
pub record HoldsAt (known : Known) (here : Context) (symbols : Leads) (setting : Setting) (seen : List Meaning) (current : Current) : Type 0 where
  pub follows : FollowsAt known here setting seen current.layout
  pub leads : LeadsBy current.symbols symbols
  pub alike : AreAlike current.symbols
  pub before : (m : Meaning) → StandsBefore current.layout.places (current.symbols m)

-- the same of modules round it
abbrev pub HoldsRound : Known → List Reading → List Setting → List Current → List Meaning → Type 0
HoldsRound known [] [] [] seen = Unit {0}
HoldsRound known (reading ∷ readings) (setting ∷ round) (outer ∷ outers) seen =
    HoldsAt known reading.context (symbol_leads round setting.frame) setting seen outer × HoldsRound known readings round outers seen
HoldsRound known _ _ _ seen = ⊥

pub holds-more : (known more : Known) (here : Context) (symbols : Leads) (setting : Setting) (seen names : List Meaning) (current : Current) → AreTold known here → HoldsAt known here symbols setting seen current → HoldsAt (and_known known more) here symbols setting (names ++ seen) current
holds-more known more here symbols setting seen names current told holds =
    let follows = holds.follows in
    record {
      follows = record {
        context = follows.context;
        settings = follows.settings;
        told = λ name m e. told-more known more m (follows.told name m e);
        orders = orders-more known more current.layout (subst (AreTold known) follows.context told) follows.orders;
        all_seen = λ name m e. seen-right names seen m (follows.all_seen name m e);
        unsaid = λ m none. follows.unsaid m (unseen-parts names seen m none).1;
      };
      leads = holds.leads;
      alike = holds.alike;
      before = holds.before;
    }

pub round-more : (known more : Known) (seen names : List Meaning) (readings : List Reading) (settings : List Setting) (outers : List Current) → AllByRecursion (λ (reading : Reading). AreTold known reading.context) readings → HoldsRound known readings settings outers seen → HoldsRound (and_known known more) readings settings outers (names ++ seen)
round-more known more seen names [] [] [] told holds = tt
round-more known more seen names (reading ∷ readings) (setting ∷ round) (outer ∷ outers) told holds =
    (holds-more known more reading.context (symbol_leads round setting.frame) setting seen names outer told.0 holds.0, round-more known more seen names readings round outers told.1 holds.1)
round-more known more seen names [] [] (outer ∷ outers) told holds = absurd holds
round-more known more seen names [] (setting ∷ round) outers told holds = absurd holds
round-more known more seen names (reading ∷ readings) [] outers told holds = absurd holds
round-more known more seen names (reading ∷ readings) (setting ∷ round) [] told holds = absurd holds

-- something is known behind all instances that can be used, in a module and in those round it
abbrev pub AreAllTold : KindState → Type 0
AreAllTold state =
    AreTold state.read.known state.read.place.here.context × AllByRecursion (λ (reading : Reading). AreTold state.read.known reading.context) state.read.place.round

pub here-told : (known : Known) (here : Context) (setting : Setting) (seen : List Meaning) (layout : Layout) → FollowsAt known here setting seen layout → AreTold known here
here-told known here setting seen layout follows = subst (AreTold known) (sym follows.context) follows.told

pub all-told : (known : Known) (seen : List Meaning) (readings : List Reading) (settings : List Setting) (outers : List Current) → HoldsRound known readings settings outers seen → AllByRecursion (λ (reading : Reading). AreTold known reading.context) readings
all-told known seen [] settings outers holds = tt
all-told known seen (reading ∷ readings) (setting ∷ round) (outer ∷ outers) holds =
    (here-told known reading.context setting seen outer.layout holds.0.follows, all-told known seen readings round outers holds.1)
all-told known seen (reading ∷ readings) [] outers holds = absurd holds
all-told known seen (reading ∷ readings) (setting ∷ round) [] holds = absurd holds

pub told-round : (known more : Known) (readings : List Reading) → AllByRecursion (λ (reading : Reading). AreTold known reading.context) readings → AllByRecursion (λ (reading : Reading). AreTold (and_known known more) reading.context) readings
told-round known more [] told = tt
told-round known more (reading ∷ readings) told = ((λ name m e. told-more known more m (told.0 name m e)), told-round known more readings told.1)

module _ (flat : FlatModule) (text : Text) (outsides : List ℕ → Outside) (words : List ℕ) where
  -- names of a module stand so behind a unit: those that were seen, and leaves; of others nothing is said
  stays-behind : (state : KindState) (unit : UnitTree) (seen : List Meaning) (current : Current) → ((m : Meaning) → is_seen seen m ≡ false → current.layout.stands m ≡ unsaid_stand m) → KeepsStanding flat current.symbols current.layout state.standing → StayBehind text outsides words state unit seen → StaysBehind text outsides words flat state unit current.symbols current.layout
  stays-behind state unit seen current unsaid keeps stays frame parameters room stands m = inr (by_seen (is_seen seen m) refl)
    where
      as-before : (is_seen seen m ≡ true) ⊎ IsLeafName m → IsStanding flat frame [] (current.layout.stands m) (standing_behind text outsides words state unit parameters m)
      as-before why = subst (λ value. IsStanding flat frame [] (current.layout.stands m) value) (sym (stays m why parameters)) (keeps frame parameters room stands m)

      by_leaf : is_seen seen m ≡ false → IsLeafName m ⊎ (unsaid_stand m ≡ Unsaid) → IsStanding flat frame [] (current.layout.stands m) (standing_behind text outsides words state unit parameters m)
      by_leaf none (inl leaf) = as-before (inr leaf)
      by_leaf none (inr nothing) = subst (λ stand. IsStanding flat frame [] stand (standing_behind text outsides words state unit parameters m)) (sym (unsaid m none ∙ nothing)) tt

      by_seen : (b : Bool) → is_seen seen m ≡ b → IsStanding flat frame [] (current.layout.stands m) (standing_behind text outsides words state unit parameters m)
      by_seen true is = as-before (inl is)
      by_seen false none = by_leaf none (leaf-or-unsaid m)

  pub round-stays : (state : KindState) (unit : UnitTree) (known : Known) (readings : List Reading) (settings : List Setting) (outers : List Current) (seen : List Meaning) → HoldsRound known readings settings outers seen → KeepsRound flat readings outers state.standing → ((settings ≡ [] → ⊥) → StayBehind text outsides words state unit seen) → AllStayBehind text outsides words flat state unit outers
  round-stays state unit known [] [] [] seen holds keeps stays = tt
  round-stays state unit known (reading ∷ readings) (setting ∷ round) (outer ∷ outers) seen holds keeps stays =
      let here = stays (λ e. cc e) in
      (stays-behind state unit seen outer holds.0.follows.unsaid keeps.0.2 here, round-stays state unit known readings round outers seen holds.1 keeps.1 (λ some. here))
  round-stays state unit known [] [] (outer ∷ outers) seen holds keeps stays = absurd holds
  round-stays state unit known [] (setting ∷ round) outers seen holds keeps stays = absurd holds
  round-stays state unit known (reading ∷ readings) [] outers seen holds keeps stays = absurd holds
  round-stays state unit known (reading ∷ readings) (setting ∷ round) [] seen holds keeps stays = absurd holds
