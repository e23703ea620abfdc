-- Symbols and other meanings by their keys.
use Rattle.std.proofs.Common.{◌≡◌, ℕ, suc, ◌+◌, ◌<◌, Bool, true, false, List, [], ◌∷◌, ◌++◌, Option, Some, None, refl, sym, ap, ◌∙◌, cond, if◌then◌else◌, length, get_or, drop, arith, true≢false}
use Rattle.std.specs.Prelude.{◌&&◌}
use Rattle.std.specs.Option.{option_or}
use Rattle.std.specs.Map.{lookup}
use Rattle.indexmap.specs.IndexMap.{IndexMap, UpdatesBy, get}
use Rattle.list_laws.proofs.Lists.{drop-from}
use Rattle.tla_model.specs.declared.entity.Entity.TheVariants as entity
use Rattle.tla_model.specs.declared.ids.Callee.{Callee}
use Rattle.tla_model.specs.declared.names.Meaning.TheVariants.{BuiltIn, Declared}
use Rattle.tla_model.specs.Entities.{Entity, Meaning, same_meaning}
use Rattle.module_model.specs.Exports.{exports_of, instantiable}
use Rattle.tree_kinds.specs.Standing.{same_standing}
use Rattle.flat_trees.specs.Layouts.{order_of}
use Rattle.flat_kinds.specs.Symbols.{same_declared, same_symbol}
use Rattle.flattened_trees.specs.declared.End.TheVariants as end
use Rattle.module_leads.specs.declared.keys.MeaningKey.{MeaningKey}
use Rattle.module_leads.specs.declared.keys.SymbolKey.{SymbolKey}
use Rattle.module_leads.specs.declared.layer.Brought.{Brought}
use Rattle.module_leads.specs.declared.layer.Layer.{Layer}
use Rattle.module_leads.specs.declared.ways.Way.TheVariants as way
use Rattle.module_leads.specs.Equal.{key-equivalence, standing-back}
use Rattle.module_leads.specs.Keys.{key_by, same_arity, same_key, symbol_arity, symbol_key}
use Rattle.module_leads.specs.Layers.{AddsSymbol, IsBrought, IsPut, brought_by, keyed_end, last_brought, own_way, place_end, put_way, symbol_among, symbol_end}

-- ---- other meanings

before : {A : Type 0} (b : Bool) (x : A) (o p : Option A) → option_or (cond b (Some x) o) p ≡ (if b then Some x else option_or o p)
before true x o p = refl
before false x o p = refl

pub way-put : (old new : Layer) (key : MeaningKey) (meaning : Meaning) (way : way.the_data) → key ≡ record { meaning = meaning } → new.symbols ≡ old.symbols → new.brought ≡ old.brought
    → UpdatesBy (λ (a b : MeaningKey). same_standing a.meaning b.meaning) (λ (k : MeaningKey). same_standing key.meaning k.meaning) old.others new.others (Some way) → IsPut old new meaning way
way-put old new key meaning way is symbols brought updates = record {
  symbols = symbols;
  ways = λ other.
      (λ i. option_or (put other i) (last_brought (brought i).items other))
      ∙ before (same_standing other meaning) way (put_way old.others other) (last_brought old.brought.items other);
}
  where
    put : (other : Meaning) → put_way new.others other ≡ cond (same_standing other meaning) (Some way) (put_way old.others other)
    put other =
        updates.0 (record { meaning = other })
        ∙ ap (λ (b : Bool). cond b (Some way) (put_way old.others other)) (ap (λ (k : MeaningKey). same_standing k.meaning other) is ∙ standing-back meaning other)

-- nothing is found where nothing was put
none-put : {S : Type 0} (others : IndexMap MeaningKey way.the_data S) → others.entries ≡ [] → (meaning : Meaning) → put_way others meaning ≡ None
none-put others none meaning = ap (lookup (λ (key : MeaningKey). same_standing meaning key.meaning)) none

pub own-none : (layer : Layer) → layer.others.entries ≡ [] → layer.brought.items ≡ [] → (meaning : Meaning) → own_way layer meaning ≡ None
own-none layer none nothing meaning = let put = none-put layer.others none meaning in λ i. option_or (put i) (last_brought (nothing i) meaning)

or-after : {A : Type 0} (a b c : Option A) → option_or (option_or a b) c ≡ option_or a (option_or b c)
or-after None b c = refl
or-after (Some x) b c = refl

or-nothing : {A : Type 0} (a : Option A) → a ≡ option_or a None
or-nothing None = refl
or-nothing (Some x) = refl

-- the last that is brought comes first
pub last-more : (brought : List Brought) (more : Brought) (meaning : Meaning) → last_brought (brought ++ more ∷ []) meaning ≡ option_or (brought_by more meaning) (last_brought brought meaning)
last-more [] more meaning = or-nothing (brought_by more meaning)
last-more (first ∷ rest) more meaning =
    ap (λ o. option_or o (brought_by first meaning)) (last-more rest more meaning)
    ∙ or-after (brought_by more meaning) (last_brought rest meaning) (brought_by first meaning)

-- a table is brought where nothing was put
pub table-brought : (old new : Layer) (brought : Brought) → old.others.entries ≡ [] → new.symbols ≡ old.symbols → new.others ≡ old.others → new.brought.items ≡ old.brought.items ++ brought ∷ []
    → IsBrought old new (instantiable (exports_of brought.exports)) brought.instance brought.face
table-brought old new brought none symbols others more = record {
  symbols = symbols;
  ways = λ other.
      let nothing = none-put old.others none other in
      (λ i. option_or (put_way (others i) other) (last_brought (more i) other))
      ∙ (λ i. option_or (nothing i) (last-more old.brought.items brought other i))
      ∙ (λ i. option_or (brought_by brought other) (option_or (sym nothing i) (last_brought old.brought.items other)));
}

-- ---- symbols

-- the places of symbols are the same where they are declared the same
arities-same : (e f : Entity) (m n : Option ℕ) → symbol_arity e ≡ Some m → symbol_arity f ≡ Some n → same_arity m n ≡ same_declared e f
arities-same (entity.Constant x) (entity.Constant y) m n p q = let a : m ≡ Some x = cc in let b : n ≡ Some y = cc in λ i. same_arity (a i) (b i)
arities-same (entity.Constant x) entity.Variable m n p q = let a : m ≡ Some x = cc in let b : n ≡ None = cc in λ i. same_arity (a i) (b i)
arities-same entity.Variable (entity.Constant y) m n p q = let a : m ≡ None = cc in let b : n ≡ Some y = cc in λ i. same_arity (a i) (b i)
arities-same entity.Variable entity.Variable m n p q = let a : m ≡ None = cc in let b : n ≡ None = cc in λ i. same_arity (a i) (b i)
arities-same (entity.Constant x) f m n p q = cc
arities-same entity.Variable f m n p q = cc
arities-same e f m n p q = cc

-- what is no symbol is declared as none
arity-none : (e f : Entity) → symbol_arity e ≡ None → same_declared e f ≡ false
arity-none (entity.Constant x) f none = cc
arity-none entity.Variable f none = cc
arity-none e f none = refl

arity-other : (e f : Entity) → symbol_arity f ≡ None → same_declared e f ≡ false
arity-other (entity.Constant x) (entity.Constant y) none = cc
arity-other (entity.Constant x) entity.Variable none = cc
arity-other entity.Variable (entity.Constant y) none = cc
arity-other entity.Variable entity.Variable none = cc
arity-other (entity.Constant x) f none = refl
arity-other entity.Variable f none = refl
arity-other e f none = refl

-- the order of a symbol is told by its places
order-by : (e : Entity) (arity : Option ℕ) (callee : Callee) (place : ℕ) → symbol_arity e ≡ Some arity → place_end place arity ≡ end.Place place (order_of (Declared e callee))
order-by (entity.Constant x) arity callee place is = let a : arity ≡ Some x = cc in ap (place_end place) a
order-by entity.Variable arity callee place is = let a : arity ≡ None = cc in ap (place_end place) a
order-by e arity callee place is = cc

key-parts : (arity : Option (Option ℕ)) (meaning : Meaning) (key : SymbolKey) → key_by arity meaning ≡ Some key → (arity ≡ Some key.arity) × (key.meaning ≡ meaning)
key-parts None meaning key is = cc
key-parts (Some a) meaning key is = (ap arity-in is, ap (meaning-in meaning) (sym is))
  where
    arity-in : Option SymbolKey → Option (Option ℕ)
    arity-in None = None
    arity-in (Some k) = Some k.arity

    meaning-in : Meaning → Option SymbolKey → Meaning
    meaning-in m None = m
    meaning-in m (Some k) = k.meaning

key-none : (arity : Option (Option ℕ)) (meaning : Meaning) → key_by arity meaning ≡ None → arity ≡ None
key-none None meaning none = refl
key-none (Some a) meaning none = cc

-- keys are the same where the symbols are
keys-same : (a b : Meaning) (j k : SymbolKey) → symbol_key a ≡ Some j → symbol_key b ≡ Some k → same_key j k ≡ same_symbol a b
keys-same BuiltIn b j k p q = cc
keys-same (Declared e x) BuiltIn j k p q = cc
keys-same (Declared e x) (Declared f y) j k p q =
    let left = key-parts (symbol_arity e) (Declared e x) j p in
    let right = key-parts (symbol_arity f) (Declared f y) k q in
    let arities = arities-same e f j.arity k.arity left.0 right.0 in
    λ i. arities i && same_meaning (left.1 i) (right.1 i)

-- what has no key is the same symbol as none
symbol-none : (a b : Meaning) → symbol_key a ≡ None → same_symbol a b ≡ false
symbol-none BuiltIn b none = refl
symbol-none (Declared e x) BuiltIn none = refl
symbol-none (Declared e x) (Declared f y) none =
    ap (λ (b : Bool). b && same_meaning (Declared e x) (Declared f y)) (arity-none e f (key-none (symbol_arity e) (Declared e x) none))

place-end : (meaning : Meaning) (key : SymbolKey) (place : ℕ) → symbol_key meaning ≡ Some key → place_end place key.arity ≡ end.Place place (order_of meaning)
place-end BuiltIn key place is = cc
place-end (Declared e callee) key place is = order-by e key.arity callee place (key-parts (symbol_arity e) (Declared e callee) key is).0

pub symbol-put : {S : Type 0} (old new : IndexMap SymbolKey end.the_data S) (meaning : Meaning) (key : SymbolKey) (place : ℕ) (e : end.the_data) → symbol_key meaning ≡ Some key → e ≡ place_end place key.arity
    → UpdatesBy same_key (same_key key) old new (Some e) → AddsSymbol old new meaning place
symbol-put old new meaning key place e is ends updates other = by (symbol_key other) refl
  where
    by : (o : Option SymbolKey) → symbol_key other ≡ o → keyed_end new o ≡ (if same_symbol other meaning then Some (end.Place place (order_of meaning)) else keyed_end old o)
    by None none = sym (ap (λ (b : Bool). if b then Some (end.Place place (order_of meaning)) else None) (symbol-none other meaning none))
    by (Some k) some =
        updates.0 k
        ∙ ap (λ (b : Bool). cond b (Some e) (get same_key old k)) (key-equivalence.symm key k ∙ keys-same other meaning k key some is)
        ∙ ap (λ (z : end.the_data). if same_symbol other meaning then Some z else get same_key old k) (ends ∙ place-end meaning key place is)

-- none is the same as what is no symbol
left-out : (a b : Meaning) → symbol_key b ≡ None → same_symbol a b ≡ false
left-out BuiltIn b none = refl
left-out (Declared e x) BuiltIn none = refl
left-out (Declared e x) (Declared f y) none =
    ap (λ (b : Bool). b && same_meaning (Declared e x) (Declared f y)) (arity-other e f (key-none (symbol_arity f) (Declared f y) none))

-- what is no symbol is left out
pub symbol-left : {S : Type 0} (symbols : IndexMap SymbolKey end.the_data S) (meaning : Meaning) (place : ℕ) → symbol_key meaning ≡ None → AddsSymbol symbols symbols meaning place
symbol-left symbols meaning place none other = by (same_symbol other meaning) refl
  where
    by : (b : Bool) → same_symbol other meaning ≡ b → symbol_end symbols other ≡ (if b then Some (end.Place place (order_of meaning)) else symbol_end symbols other)
    by true e = absurd (true≢false (sym e ∙ left-out other meaning none))
    by false e = refl

pub ends-none : {S : Type 0} (symbols : IndexMap SymbolKey end.the_data S) → symbols.entries ≡ [] → (other : Meaning) → symbol_end symbols other ≡ None
ends-none symbols none other = by (symbol_key other)
  where
    by : (o : Option SymbolKey) → keyed_end symbols o ≡ None
    by None = refl
    by (Some k) = ap (lookup (same_key k)) none

-- one more symbol, before those behind it
pub symbols-more : {S : Type 0} (old new : IndexMap SymbolKey end.the_data S) (own : List Meaning) (place i : ℕ) (meaning : Meaning) → AddsSymbol old new meaning (place + i) → i < length own → meaning ≡ get_or own i meaning
    → ((other : Meaning) → symbol_end old other ≡ symbol_among (drop (i + 1) own) (place + (i + 1)) other) → (other : Meaning) → symbol_end new other ≡ symbol_among (drop i own) (place + i) other
symbols-more old new own place i meaning adds within is known other =
    let next : place + (i + 1) ≡ suc (place + i) = omega arith in
    adds other
    ∙ ap (λ z. if same_symbol other meaning then Some (end.Place (place + i) (order_of meaning)) else z) (known other ∙ ap (λ (p : ℕ). symbol_among (drop (i + 1) own) p other) next)
    ∙ sym (ap (λ z. symbol_among z (place + i) other) (drop-from own i meaning within is))
