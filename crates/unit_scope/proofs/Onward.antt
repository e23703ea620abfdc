-- How code reads on.
use Rattle.std.proofs.Common.{◌≡◌, ◌<◌, ◌+◌, ℕ, List, [], ◌∷◌, ◌++◌, Option, Some, append_assoc, reverse, length, drop, take, get_or, refl, ap, sym, ◌∙◌, subst}
use Rattle.std.specs.Prelude.{map}
use Rattle.std.specs.List.{AllByRecursion}
use Rattle.std.proofs.lemmas.List.{append-nil, map-append, take_more}
use Rattle.tla_symbols.specs.declared.lexeme.Lexeme.{Lexeme}
use Rattle.tla_tree.specs.declared.unit.Unit.TheVariants as unit
use Rattle.tla_tree.specs.declared.unit.ModuleTree.{ModuleTree}
use Rattle.unit_grammar.specs.Units.{UnitTree}
use Rattle.unit_grammar.specs.UnitNodes.{module_of, unit_at}
use Rattle.tla_model.specs.Entities.{Text}
use Rattle.tla_model.specs.Lexemes.{module_lexemes, spelled, unit_lexemes, units_lexemes}
use Rattle.tla_model.specs.Scopes.{Finding}
use Rattle.std.specs.Str.{bytes_eq}
use Rattle.tla_model.specs.Entities.{Meaning}
use Rattle.tla_model.specs.Tables.{Table, added}
use Rattle.module_scope.specs.Environments.{Environment}
use Rattle.name_context.specs.AsTables.{context_of}
use Rattle.module_model.specs.Exports.{Known, ModuleView, and_known, exports_by, exports_of, files_of}
use Rattle.module_model.specs.Instances.{brought_by, nested_view}
use Rattle.module_model.specs.Modules.{Reading, behind_nested}
use Rattle.module_model.specs.NamedModules.{exported_known, known_from_all, module_at, unit_of}
use Rattle.module_model.specs.Resolution.{ReadState}
use Rattle.module_model.specs.Resolution as resolution
use Rattle.instance_leads.specs.Leading.{view_at, views}
use Rattle.instance_leads.specs.declared.ended.Ended.{Ended}
use Rattle.instance_leads.proofs.Knowing.{and-assoc}
use Rattle.instance_scope.specs.Scoped.{IsSame, IsSound, known_of, module_in}
use Rattle.instance_scope.specs.declared.scope.Scope.{Scope}
use Rattle.list_laws.proofs.Lists.{all-left, all-right, rest-at}
use Rattle.model_laws.proofs.Settling.{settled-all}
use Rattle.unit_scope.specs.declared.reader.ModuleReader.{ModuleReader}
use Rattle.unit_scope.specs.declared.reading.Reading.{Reading as Read}
use Rattle.unit_scope.specs.EnclosingReadings.{AreEnded, AreRound, IsAt, IsPlaced, IsSomewhere}
use Rattle.unit_scope.specs.Modules.{reading_in, reading_of}
use Rattle.unit_scope.specs.Readings.{Over, files_over, instance_at}
use Rattle.unit_scope.specs.Steps.{IsRead, Leads, Tells, brought_in, behind_unit, behind_units, extended_with, extending, found_along, found_at}
use Rattle.unit_scope.proofs.Growing.{Went, round-went, waits, went-extends}
use Rattle.unit_scope.proofs.Taking.{views-added}

pub take-mapped : {A B : Type 0} (f : A → B) (xs : List A) (i : ℕ) (d : A) → i < length xs → d ≡ get_or xs i d → map f (take (i + 1) xs) ≡ map f (take i xs) ++ f d ∷ []
take-mapped f xs i d within is = ap (map f) (take_more xs i d within ∙ ap (λ z. take i xs ++ z ∷ []) (sym is)) ∙ map-append f (take i xs) (d ∷ [])

abbrev pub Unit : Type 0
Unit = unit.the_data

-- ---- what is known

-- ---- from place to place

pub same-itself : (scope : Scope) → IsSame scope scope
same-itself scope = record { nested = refl; title = refl; imported = refl; words = refl; paths = refl }

pub same-on : (a b c : Scope) → IsSame a b → IsSame b c → IsSame a c
same-on a b c one two = record {
  nested = two.nested ∙ one.nested;
  title = two.title ∙ one.title;
  imported = two.imported ∙ one.imported;
  words = two.words ∙ one.words;
  paths = two.paths ∙ one.paths;
}

pub same-module-in : (a b : Scope) (modules : List (List ℕ × Option ℕ)) → IsSame a b → module_in b modules ≡ module_in a modules
same-module-in a b modules same = λ i. module_at (files_of (same.imported i)) (views (same.nested i) modules)

module _ (text : Text) (over : Over) where
  -- the module that is read, and what is known, go on
  pub moves : (read next : ModuleReader) (state : ReadState) (now : Reading) (known : Known) → IsAt text over read state → next.round.items ≡ read.round.items → IsSame read.scope next.scope → IsSound next.scope → known_of next.scope ≡ known
      → next.here.modules ≡ read.here.modules → reading_of next.scope next.here ≡ now → Went state.place.here now → IsAt text over next (record { place = record { here = now; round = state.place.round }; known = known })
  moves read next state now known at round same sound knows modules is went = record {
    here = is;
    round = subst (λ z. AreRound now.context now.modules (reverse z) state.place.round) (sym round) (round-went state.place.here now (reverse read.round.items) state.place.round went at.round);
    known = knows;
    sound = sound;
    numbered = subst (λ m. AreEnded (length next.scope.nested.items) m) (sym modules) (subst (λ n. AreEnded (length n) read.here.modules) (sym same.nested) at.numbered);
    title = same.title ∙ at.title;
    kept = (λ i. record { imports = same.imported i; words = same.words i; paths = same.paths i }) ∙ at.kept;
  }

  -- the module alone
  pub reads-on : (read next : ModuleReader) (state : ReadState) (now : Reading) → IsAt text over read state → next.round.items ≡ read.round.items → next.scope ≡ read.scope
      → next.here.modules ≡ read.here.modules → reading_of read.scope next.here ≡ now → Went state.place.here now → IsAt text over next (record { place = record { here = now; round = state.place.round }; known = state.known })
  reads-on read next state now at round scope modules is went =
      moves read next state now state.known at round (subst (IsSame read.scope) (sym scope) (same-itself read.scope)) (subst IsSound (sym scope) at.sound) (ap known_of scope ∙ at.known) modules
      (ap (λ s. reading_of s next.here) scope ∙ is) went

  -- what is known alone
  pub knows-on : (read next : ModuleReader) (state : ReadState) (known : Known) → IsAt text over read state → next.round.items ≡ read.round.items → IsSame read.scope next.scope → IsSound next.scope → known_of next.scope ≡ known
      → next.here ≡ read.here → IsAt text over next (record { place = record { here = state.place.here; round = state.place.round }; known = known })
  knows-on read next state known at round same sound knows here =
      moves read next state state.place.here known at round same sound knows (ap (λ (r : Read). r.modules) here)
      ((λ i. reading_in (same.nested i) (here i)) ∙ at.here) (waits state.place.here)

  -- what modules are at a place
  pub named-here : (read : ModuleReader) (state : ReadState) → IsAt text over read state → module_in read.scope read.here.modules ≡ module_at (files_over over) state.place.here.modules
  named-here read state at = λ i. module_at (files_over (at.kept i)) ((at.here i).modules)

  -- what an INSTANCE without a name brings at a place
  pub brings-at : (read : ModuleReader) (state : ReadState) → IsAt text over read state → (l : Lexeme) → instance_at text read.scope read.here.modules l ≡ brought_in text l over state
  brings-at read state at l = λ i. brought_by (unit_of text ((at.kept i).words) l) (named-here read state at i (spelled text.source l))

-- a nested module has ended, and the one round it is read
pub ended-here : (old new : List Ended) (left : Read) (modules : Environment ℕ) (title : List ℕ) (exports : Table Meaning) (number : ℕ) (known : Known) (inner reading : Reading)
    → reading_in old left ≡ reading → modules ≡ added bytes_eq left.modules title (Some number) → views new left.modules ≡ views old left.modules → title ≡ inner.name → exports ≡ inner.exports
    → (knew : Known) → knew ≡ known → number ≡ length old → view_at new (length old) ≡ nested_view knew (context_of left.names.context) (exports_of exports)
    → reading_in new (record { name = left.name; names = left.names; modules = modules }) ≡ behind_nested known inner reading
ended-here old new left modules title exports number known inner reading is adds stays named shown knew knows last view =
    let before = stays ∙ ap (λ (r : Reading). r.modules) is in
    let own = ap (view_at new) last ∙ view ∙ (λ i. nested_view (knows i) ((is i).context) (exports_of (shown i))) in
    let all = ap (views new) adds ∙ views-added new left.modules title (Some number) ∙ (λ i. added bytes_eq (before i) (named i) (Some (own i))) in
    λ i. record { name = (is i).name; context = (is i).context; exports = (is i).exports; modules = all i }

-- ---- units

-- the units of a module hold lexemes of it
pub units-lie : (P : Lexeme → Type 0) (tree : ModuleTree) (units : List Unit) → units ≡ tree.units → AllByRecursion P (module_lexemes (module_of tree)) → AllByRecursion (λ (x : Unit). AllByRecursion P (unit_lexemes (unit_at tree.tree x))) units
units-lie P tree units is lie = subst (AllByRecursion (λ (x : Unit). AllByRecursion P (unit_lexemes (unit_at tree.tree x)))) (sym is) (each tree.units (all-right P tree.extends (units_lexemes (map (unit_at tree.tree) tree.units)) lie.1))
  where
    each : (xs : List Unit) → AllByRecursion P (units_lexemes (map (unit_at tree.tree) xs)) → AllByRecursion (λ (x : Unit). AllByRecursion P (unit_lexemes (unit_at tree.tree x))) xs
    each [] all = tt
    each (x ∷ xs) all = (all-left P (unit_lexemes (unit_at tree.tree x)) (units_lexemes (map (unit_at tree.tree) xs)) all, each xs (all-right P (unit_lexemes (unit_at tree.tree x)) (units_lexemes (map (unit_at tree.tree) xs)) all))

module _ (text : Text) (over : Over) where
  read-more : (state : ReadState) (units : List UnitTree) (x : UnitTree) → behind_units text (units ++ x ∷ []) over state ≡ behind_unit text x over (behind_units text units over state)
  read-more state [] x = refl
  read-more state (u ∷ units) x = read-more (behind_unit text u over state) units x

  found-more : (state : ReadState) (units : List UnitTree) (x : UnitTree) → found_along text (units ++ x ∷ []) over state ≡ found_along text units over state ++ found_at text x over (behind_units text units over state)
  found-more state [] x = append-nil (found_at text x over state)
  found-more state (u ∷ units) x =
      ap (λ z. found_at text u over state ++ z) (found-more (behind_unit text u over state) units x)
      ∙ sym (append_assoc (found_at text u over state) (found_along text units over (behind_unit text u over state)) (found_at text x over (behind_units text units over (behind_unit text u over state))))

-- one more unit
module _ (text : Text) (old mid new : ModuleReader) (units more : List UnitTree) (x : UnitTree) (is : more ≡ units ++ x ∷ []) (first : Leads text (behind_units text units) old mid) (found now then : List Finding) (read : IsRead text x mid new now then) where
  pub leads-more : Leads text (behind_units text more) old new
  leads-more over state at =
      subst (IsAt text over new) (sym (ap (λ us. behind_units text us over state) is ∙ read-more text over state units x)) (read.state over (behind_units text units over state) (first over state at))

  pub tells-more : Tells text (found_along text units) old found now → Tells text (found_along text more) old found then
  tells-more before over state at =
      read.findings over (behind_units text units over state) (first over state at)
      ∙ ap (λ z. z ++ found_at text x over (behind_units text units over state)) (before over state at)
      ∙ append_assoc found (found_along text units over state) (found_at text x over (behind_units text units over state))
      ∙ ap (λ z. found ++ z) (sym (ap (λ us. found_along text us over state) is ∙ found-more text over state units x))

-- wherever code read, it is known still what is exported
pub somewhere-on : (text : Text) (old new : ModuleReader) (units : List UnitTree) → IsSomewhere text old → Leads text (behind_units text units) old new → IsSomewhere text new
somewhere-on text old new units before leads = record {
  over = before.over;
  state = behind_units text units before.over before.state;
  at = leads before.over before.state before.at;
  settled = settled-all text (files_over before.over) before.over.words before.state units before.settled;
}

pub placed-on : (text : Text) (old new : ModuleReader) (step : Over → ReadState → ReadState) → IsPlaced text old → Leads text step old new → IsPlaced text new
placed-on text old new step before leads = record { over = before.over; state = step before.over before.state; at = leads before.over before.state before.at }

-- what is known behind modules that are extended
pub extended-known : (text : Text) (names : List Lexeme) (over : Over) (state : ReadState) →
    extended_with text names over state
    ≡ resolution.with_known text (files_over over) over.words (extending text names over state) (known_from_all text (resolution.module_named text (files_over over) over.words (extending text names over state)) names)
extended-known text names over state =
    ap (λ modules. resolution.with_known text (files_over over) over.words (extending text names over state) (known_from_all text (module_at (files_over over) modules) names))
    (sym (went-extends text (exports_by (files_over over)) state.place.here names).same)

-- what is known behind one more module that is extended
pub known-more : (text : Text) (named : List ℕ → ModuleView) (names : List Lexeme) (i : ℕ) (d : Lexeme) → i < length names → (old mid new : Known) (name : List ℕ) → name ≡ spelled text.source (get_or names i d) → new ≡ and_known mid (exported_known (named name))
    → and_known mid (known_from_all text named (drop i names)) ≡ and_known old (known_from_all text named names) → and_known new (known_from_all text named (drop (i + 1) names)) ≡ and_known old (known_from_all text named names)
known-more text named names i d within old mid new name spells more before =
    let rest : List Lexeme = drop (i + 1) names in
    ap (λ known. and_known known (known_from_all text named rest)) more
    ∙ and-assoc mid (exported_known (named name)) (known_from_all text named rest)
    ∙ ap (λ n. and_known mid (and_known (exported_known (named n)) (known_from_all text named rest))) spells
    ∙ ap (λ ls. and_known mid (known_from_all text named ls)) (sym (rest-at names i d within))
    ∙ before
