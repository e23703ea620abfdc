-- Tables that grow, and what stands before a mark of them.
use Rattle.std.proofs.Common.{◌≡◌, ◌≤◌, ◌+◌, ℕ, List, [], ◌∷◌, ◌++◌, Some, None, Bool, true, false, cond, length, take, reverse, append_assoc, refl, ap, sym, subst, ◌∙◌, arith}
use Rattle.std.specs.Prelude.{is_some}
use Rattle.std.specs.Str.{bytes_eq}
use Rattle.std.proofs.lemmas.List.{append-nil, length-append, take-append-le, take_all, reverse-append}
use Rattle.tla_symbols.specs.declared.lexeme.Lexeme.{Lexeme}
use Rattle.tla_model.specs.declared.names.Binder.{Binder}
use Rattle.tla_model.specs.Contexts.{Context}
use Rattle.tla_model.specs.Entities.{Meaning, Text, meant, name_of}
use Rattle.module_model.specs.Exports.{Exports, Known, ModuleView, exports_of}
use Rattle.module_model.specs.Instances.{nested_view}
use Rattle.module_model.specs.Modules.{Reading, begun_in, behind_nested, brings, clashes, declare, declare_all, extended, extends_all, joined, left, with_entry}
use Rattle.tla_model.specs.Tables.{Named, Word, Symbol, added, has, lookup, same_symbol}
use Rattle.name_context.specs.declared.context.Mark.{Mark}
use Rattle.unit_scope.specs.declared.reader.Outer.{Outer}
use Rattle.name_context.specs.AsTables.{cut, mark_of}
use Rattle.unit_scope.specs.Readings.{Files}
use Rattle.name_exports.specs.Brought.{ModuleNames}
use Rattle.unit_scope.specs.EnclosingReadings.{AreRound, IsOuter}

pub record Grown {A : Type 0} (old new : List A) : Type 0 where
  pub more : List A
  pub is : new ≡ old ++ more

stays : {A : Type 0} (xs : List A) → Grown xs xs
stays xs = record { more = []; is = sym (append-nil xs) }

further : {A : Type 0} (a b c : List A) → Grown a b → Grown b c → Grown a c
further a b c one two = record { more = one.more ++ two.more; is = two.is ∙ ap (λ z. z ++ two.more) one.is ∙ append_assoc a one.more two.more }

grown-take : {A : Type 0} (old new : List A) (n : ℕ) → Grown old new → n ≤ length old → take n new ≡ take n old
grown-take old new n grown within = ap (take n) grown.is ∙ take-append-le n old grown.more within

grown-length : {A : Type 0} (old new : List A) → Grown old new → length old ≤ length new
grown-length old new grown = let long : length new ≡ length old + length grown.more = ap length grown.is ∙ length-append old grown.more in omega (arith, long)

grown-added : {K V : Type 0} (same : K → K → Bool) (entries : List (K × V)) (key : K) (value : V) → Grown entries (added same entries key value)
grown-added same entries key value = by (is_some (lookup same entries key))
  where
    by : (b : Bool) → Grown entries (cond b entries (entries ++ (key, value) ∷ []))
    by true = stays entries
    by false = record { more = (key, value) ∷ []; is = refl }

-- what a step leaves of a module: its title and module names, and the names that it had
pub record Went (old new : Reading) : Type 0 where
  pub title : new.name ≡ old.name
  pub words : Grown old.context.words new.context.words
  pub symbols : Grown old.context.symbols new.context.symbols
  pub same : new.modules ≡ old.modules

pub waits : (reading : Reading) → Went reading reading
waits reading = record { title = refl; words = stays reading.context.words; symbols = stays reading.context.symbols; same = refl }

went-on : (a b c : Reading) → Went a b → Went b c → Went a c
went-on a b c one two = record {
  title = two.title ∙ one.title;
  words = further a.context.words b.context.words c.context.words one.words two.words;
  symbols = further a.context.symbols b.context.symbols c.context.symbols one.symbols two.symbols;
  same = two.same ∙ one.same;
}

went-entry : (local : Bool) (reading : Reading) (name : Named) (meaning : Meaning) → Went reading (with_entry local reading name meaning)
went-entry local reading (Word bytes) meaning = record { title = refl; words = grown-added bytes_eq reading.context.words bytes (Some meaning); symbols = stays reading.context.symbols; same = refl }
went-entry local reading (Symbol op) meaning = record { title = refl; words = stays reading.context.words; symbols = grown-added same_symbol reading.context.symbols op (Some meaning); same = refl }

went-either : (b : Bool) (old one two : Reading) → Went old one → Went old two → Went old (cond b one two)
went-either true old one two first second = first
went-either false old one two first second = second

pub went-joined : (local : Bool) (reading : Reading) (entries : Exports) → Went reading (joined local reading entries)
went-joined local reading [] = waits reading
went-joined local reading (entry ∷ entries) =
    let next : Reading = cond (clashes reading.context entry) reading (with_entry local reading entry.0 entry.1) in
    went-on reading next (joined local next entries)
    (went-either (clashes reading.context entry) reading reading (with_entry local reading entry.0 entry.1) (waits reading) (went-entry local reading entry.0 entry.1))
    (went-joined local next entries)

module _ (text : Text) (files : Files) where
  pub went-extends : (reading : Reading) (names : List Lexeme) → Went reading (extends_all text files reading names)
  went-extends reading [] = waits reading
  went-extends reading (l ∷ names) =
      went-on reading (extended reading (brings text files reading l)) (extends_all text files (extended reading (brings text files reading l)) names)
      (went-joined false reading (brings text files reading l)) (went-extends (extended reading (brings text files reading l)) names)

module _ (text : Text) where
  went-declared : (local : Bool) (reading : Reading) (binder : Binder) → Went reading (declare text local reading binder)
  went-declared local reading binder =
      went-either (has reading.context (name_of text.source binder.name)) reading reading (with_entry local reading (name_of text.source binder.name) (meant text binder))
      (waits reading) (went-entry local reading (name_of text.source binder.name) (meant text binder))

  pub went-declares : (local : Bool) (reading : Reading) (binders : List Binder) → Went reading (declare_all text local reading binders)
  went-declares local reading [] = waits reading
  went-declares local reading (binder ∷ binders) =
      went-on reading (declare text local reading binder) (declare_all text local (declare text local reading binder) binders)
      (went-declared local reading binder) (went-declares local (declare text local reading binder) binders)

outer-grown : (context wider : Context) (taken more : ModuleNames) (outer : Outer) (reading : Reading) → Grown context.words wider.words → Grown context.symbols wider.symbols → Grown taken more →
    IsOuter context taken outer reading → IsOuter wider more outer reading
outer-grown context wider taken more outer reading words symbols names is = record {
  title = is.title;
  shown = is.shown;
  names = is.names ∙ (λ i. record { words = sym (grown-take context.words wider.words outer.mark.words words is.words) i; symbols = sym (grown-take context.symbols wider.symbols outer.mark.symbols symbols is.symbols) i });
  begins = is.begins ∙ sym (grown-take taken more outer.modules names is.within);
  words = let long = grown-length context.words wider.words words in let low = is.words in omega (arith, long, low);
  symbols = let long = grown-length context.symbols wider.symbols symbols in let low = is.symbols in omega (arith, long, low);
  within = let long = grown-length taken more names in let low = is.within in omega (arith, long, low);
}

round-grown : (context wider : Context) (taken more : ModuleNames) (outers : List Outer) (round : List Reading) → Grown context.words wider.words → Grown context.symbols wider.symbols → Grown taken more →
    AreRound context taken outers round → AreRound wider more outers round
round-grown context wider taken more [] [] words symbols names are = tt
round-grown context wider taken more (outer ∷ outers) (reading ∷ round) words symbols names are = (outer-grown context wider taken more outer reading words symbols names are.0, are.1)
round-grown context wider taken more [] (reading ∷ round) words symbols names are = are
round-grown context wider taken more (outer ∷ outers) [] words symbols names are = are

-- the modules round a place stay where the innermost one goes on
pub round-went : (old new : Reading) (outers : List Outer) (round : List Reading) → Went old new → AreRound old.context old.modules outers round → AreRound new.context new.modules outers round
round-went old new outers round went are = round-grown old.context new.context old.modules new.modules outers round went.words went.symbols (subst (Grown old.modules) (sym went.same) (stays old.modules)) are

-- where a nested module begins
pub outer-begun : (reading : Reading) (title : List ℕ) (outer : Outer) → reading.name ≡ outer.name.now → reading.exports ≡ outer.exports → outer.mark ≡ mark_of reading.context → outer.modules ≡ length reading.modules →
    IsOuter (begun_in reading title).context (begun_in reading title).modules outer reading
outer-begun reading title outer named shown marked counted =
    outer-grown reading.context reading.context reading.modules (begun_in reading title).modules outer reading (stays reading.context.words) (stays reading.context.symbols) (grown-added bytes_eq reading.modules title None) (record {
      title = named;
      shown = shown;
      names = (λ i. record { words = sym (take_all (length reading.context.words) reading.context.words (omega arith)) i; symbols = sym (take_all (length reading.context.symbols) reading.context.symbols (omega arith)) i }) ∙ ap (λ m. cut reading.context m) (sym marked);
      begins = sym (take_all (length reading.modules) reading.modules (omega arith)) ∙ ap (λ n. take n reading.modules) (sym counted);
      words = let same = ap (λ (m : Mark). m.words) marked in omega (arith, same);
      symbols = let same = ap (λ (m : Mark). m.symbols) marked in omega (arith, same);
      within = omega (arith, counted);
    })

-- and where one ends
pub round-behind : (known : Known) (inner reading : Reading) (outers : List Outer) (round : List Reading) → AreRound reading.context reading.modules outers round →
    AreRound (behind_nested known inner reading).context (behind_nested known inner reading).modules outers round
round-behind known inner reading outers round are =
    let view : ModuleView = nested_view known reading.context (exports_of inner.exports) in
    round-grown reading.context reading.context reading.modules (behind_nested known inner reading).modules outers round (stays reading.context.words) (stays reading.context.symbols) (grown-added bytes_eq reading.modules inner.name (Some view)) are

pub last-first : (outers rest : List Outer) (outer : Outer) → outers ≡ rest ++ outer ∷ [] → reverse outers ≡ outer ∷ reverse rest
last-first outers rest outer is = ap (λ z. reverse z) is ∙ reverse-append rest (outer ∷ [])

pub outside-some : (known : Known) (here : Reading) (round : List Reading) (outer : Outer) (rest : List Outer) (now : Reading) → AreRound here.context here.modules (outer ∷ rest) round →
    ((reading : Reading) → IsOuter here.context here.modules outer reading → now ≡ behind_nested known here reading) → (now ≡ (left known here round).here) × AreRound (left known here round).here.context (left known here round).here.modules rest (left known here round).round
outside-some known here [] outer rest now are leaves = absurd are
outside-some known here (reading ∷ round) outer rest now are leaves = (leaves reading are.0, round-behind known here reading rest round are.1)
