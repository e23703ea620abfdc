-- Contexts that grow, and are cut to what they were.
use Rattle.std.proofs.Common.{◌≡◌, ℕ, List, [], ◌∷◌, ◌++◌, Bool, true, false, length, take, append_assoc, refl, ap, sym, ◌∙◌}
use Rattle.std.specs.Prelude.{Some, None, is_some, if◌then◌else◌}
use Rattle.std.specs.Str.{bytes_eq}
use Rattle.std.proofs.lemmas.List.{append-nil}
use Rattle.tla_symbols.specs.declared.op.Op.{Op}
use Rattle.tla_model.specs.declared.names.Binder.{Binder}
use Rattle.tla_model.specs.Tables.{Table, Named, Word, Symbol, lookup, put, same_symbol}
use Rattle.tla_model.specs.Contexts.{Context, bind, bind_all, reserve_all}
use Rattle.tla_model.specs.Entities.{Text, meant, name_of}
use Rattle.name_context.specs.AsTables.{cut, mark_of}

-- the same names, and more
pub record Grows {V : Type 0} (a b : Table V) : Type 0 where
  pub more_words : List (List ℕ × V)
  pub more_symbols : List (Op × V)
  pub words_are : b.words ≡ a.words ++ more_words
  pub symbols_are : b.symbols ≡ a.symbols ++ more_symbols

pub grows-refl : {V : Type 0} (a : Table V) → Grows a a
grows-refl a = record { more_words = []; more_symbols = []; words_are = sym (append-nil a.words); symbols_are = sym (append-nil a.symbols) }

pub grows-trans : {V : Type 0} (a b c : Table V) → Grows a b → Grows b c → Grows a c
grows-trans a b c f g = record {
  more_words = f.more_words ++ g.more_words;
  more_symbols = f.more_symbols ++ g.more_symbols;
  words_are = g.words_are ∙ ap (λ z. z ++ g.more_words) f.words_are ∙ append_assoc a.words f.more_words g.more_words;
  symbols_are = g.symbols_are ∙ ap (λ z. z ++ g.more_symbols) f.symbols_are ∙ append_assoc a.symbols f.more_symbols g.more_symbols;
}

take-front : {A : Type 0} (xs ys : List A) → take (length xs) (xs ++ ys) ≡ xs
take-front [] ys = refl
take-front (x ∷ xs) ys = ap (λ z. x ∷ z) (take-front xs ys)

pub cut-grown : {V : Type 0} (a b : Table V) → Grows a b → cut b (mark_of a) ≡ a
cut-grown a b g =
    let w = ap (λ z. take (length a.words) z) g.words_are ∙ take-front a.words g.more_words in
    let s = ap (λ z. take (length a.symbols) z) g.symbols_are ∙ take-front a.symbols g.more_symbols in
    λ i. record { words = w i; symbols = s i }

more-or-not : {K V : Type 0} (entries : List (K × V)) (entry : K × V) (b : Bool) → (more : List (K × V)) × ((if b then entries else entries ++ entry ∷ []) ≡ entries ++ more)
more-or-not entries entry true = ([], sym (append-nil entries))
more-or-not entries entry false = (entry ∷ [], refl)

pub grows-put : {V : Type 0} (a : Table V) (name : Named) (value : V) → Grows a (put a name value)
grows-put a (Word bytes) value =
    let more = more-or-not a.words (bytes, value) (is_some (lookup bytes_eq a.words bytes)) in
    record { more_words = more.0; more_symbols = []; words_are = more.1; symbols_are = sym (append-nil a.symbols) }
grows-put a (Symbol op) value =
    let more = more-or-not a.symbols (op, value) (is_some (lookup same_symbol a.symbols op)) in
    record { more_words = []; more_symbols = more.0; words_are = sym (append-nil a.words); symbols_are = more.1 }

module _ (text : Text) where
  pub grows-bind : (context : Context) (binder : Binder) → Grows context (bind text context binder)
  grows-bind context binder = grows-put context (name_of text.source binder.name) (Some (meant text binder))

  pub grows-bind_all : (context : Context) (binders : List Binder) → Grows context (bind_all text context binders)
  grows-bind_all context [] = grows-refl context
  grows-bind_all context (binder ∷ rest) = grows-trans context (bind text context binder) (bind_all text (bind text context binder) rest) (grows-bind context binder) (grows-bind_all (bind text context binder) rest)

  pub grows-reserve_all : (context : Context) (binders : List Binder) → Grows context (reserve_all text context binders)
  grows-reserve_all context [] = grows-refl context
  grows-reserve_all context (binder ∷ rest) =
      let next = put context (name_of text.source binder.name) None in
      grows-trans context next (reserve_all text next rest) (grows-put context (name_of text.source binder.name) None) (grows-reserve_all next rest)
