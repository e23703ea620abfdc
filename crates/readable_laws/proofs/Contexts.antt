-- In contexts symbols take as many expressions as they have places.
use Rattle.std.proofs.Common.{◌≡◌, ℕ, Bool, true, false, cond, List, [], ◌∷◌, ◌++◌, ◌⊎◌, inl, inr, Option, Some, None, is_some, refl, sym, ap, subst, ◌∙◌}
use Rattle.std.specs.Prelude.{replicate}
use Rattle.std.specs.List.{AllByRecursion}
use denote.Enum.Bare.{same_true}
use Rattle.tla_symbols.specs.declared.lexeme.LexKind.{LexKind}
use Rattle.tla_symbols.specs.declared.lexeme.Lexeme.{Lexeme}
use Rattle.tla_symbols.specs.declared.op.Op.{Op}
use Rattle.tla_symbols.specs.contracts.op.Op as symbol_enum
use Rattle.tla_model.specs.declared.names.Binder.{Binder}
use Rattle.tla_model.specs.Tables.{Named, Word, Symbol, added, lookup, put, same_symbol}
use Rattle.tla_model.specs.Entities.{Entity, Meaning, Text, meant, name_by, name_of}
use Rattle.tla_model.specs.Contexts.{Context, bind, bind_all, meaning_of, reserve_all, usable}
use Rattle.tla_model.specs.Lexemes.{spelled}
use Rattle.tree_kinds.specs.Expanding.{built_in_places}
use Rattle.flattened_trees.specs.Readable.{IsNoInstance, entity_orders, orders_of}
use Rattle.readable_laws.specs.Accepted.{TakePlaces}

-- what is put under a symbol is found there, unless something was
put-found : {V : Type 0} (same : Op → Op → Bool) (entries : List (Op × V)) (key : Op) (value : V) (other : Op) (found : V) → lookup same (added same entries key value) other ≡ Some found
    → (lookup same entries other ≡ Some found) ⊎ ((same other key ≡ true) × (value ≡ found))
put-found {V} same entries key value other found at = by (is_some (lookup same entries key)) at
  where
    behind : (before : List (Op × V)) → lookup same (before ++ (key, value) ∷ []) other ≡ Some found → (lookup same before other ≡ Some found) ⊎ ((same other key ≡ true) × (value ≡ found))
    behind [] at = last (same other key) refl at
      where
        last : (b : Bool) → same other key ≡ b → cond b (Some value) None ≡ Some found → (None ≡ Some found) ⊎ ((same other key ≡ true) × (value ≡ found))
        last true e at = inr (e, cc)
        last false e at = inl at
    behind (entry ∷ rest) at = first (same other entry.0) (behind rest) at
      where
        first : (b : Bool) → (lookup same (rest ++ (key, value) ∷ []) other ≡ Some found → (lookup same rest other ≡ Some found) ⊎ ((same other key ≡ true) × (value ≡ found)))
            → cond b (Some entry.1) (lookup same (rest ++ (key, value) ∷ []) other) ≡ Some found → (cond b (Some entry.1) (lookup same rest other) ≡ Some found) ⊎ ((same other key ≡ true) × (value ≡ found))
        first true rest at = inl at
        first false rest at = rest at

    by : (b : Bool) → lookup same (cond b entries (entries ++ (key, value) ∷ [])) other ≡ Some found → (lookup same entries other ≡ Some found) ⊎ ((same other key ≡ true) × (value ≡ found))
    by true at = inl at
    by false at = behind entries at

-- under a symbol this can be used, in a table
abbrev Stands : Context → Op → Meaning → Type 0
Stands context op meaning = meaning_of context (Symbol op) ≡ Some meaning

usable-found : (o : Option (Option Meaning)) (meaning : Meaning) → usable o ≡ Some meaning → o ≡ Some (Some meaning)
usable-found None meaning e = absurd (cc)
usable-found (Some m) meaning e = ap Some e

-- what is meant under a symbol, with a name more, was so before, or it is that name
pub put-meant : (context : Context) (name : Named) (value : Option Meaning) (op : Op) (meaning : Meaning) → Stands (put context name value) op meaning → Stands context op meaning ⊎ ((name ≡ Symbol op) × (value ≡ Some meaning))
put-meant context (Word bytes) value op meaning at = inl at
put-meant context (Symbol key) value op meaning at = by (put-found same_symbol context.symbols key value op (Some meaning) (usable-found (lookup same_symbol (added same_symbol context.symbols key value) op) meaning at))
  where
    by : (lookup same_symbol context.symbols op ≡ Some (Some meaning)) ⊎ ((same_symbol op key ≡ true) × (value ≡ Some meaning)) → Stands context op meaning ⊎ ((Symbol key ≡ Symbol op) × (value ≡ Some meaning))
    by (inl before) = inl (ap usable before)
    by (inr new) = inr (ap Symbol (sym (same_true symbol_enum.the_type tt op key new.0)), new.1)

-- an entity takes as many expressions as a symbol has places
pub record TakesPlaces (e : Entity) (op : Op) : Type 0 where
  pub apart : (l : Lexeme) → (text : Text) → IsNoInstance (meant text (record { name = l; entity = e }))
  pub takes : entity_orders e ≡ replicate (built_in_places op) 0

-- a binder does so, if it is a symbol
pub record Fits (binder : Binder) : Type 0 where
  pub fit : (op : Op) → binder.name.kind ≡ LexKind.Sym op → TakesPlaces binder.entity op

symbol-kind : (bytes : List ℕ) (kind : LexKind) (op : Op) → name_by bytes kind ≡ Symbol op → kind ≡ LexKind.Sym op
symbol-kind bytes (LexKind.Sym other) op e = cc
symbol-kind bytes _ op e = absurd (cc)

module _ (text : Text) where
  bind-keeps : (context : Context) (binder : Binder) → Fits binder → TakePlaces context → TakePlaces (bind text context binder)
  bind-keeps context binder fits old op meaning at = by (put-meant context (name_of text.source binder.name) (Some (meant text binder)) op meaning at)
    where
      by : Stands context op meaning ⊎ ((name_of text.source binder.name ≡ Symbol op) × (Some (meant text binder) ≡ Some meaning)) → IsNoInstance meaning × (orders_of meaning ≡ replicate (built_in_places op) 0)
      by (inl before) = old op meaning before
      by (inr new) =
          let same : meant text binder ≡ meaning = cc in
          let fit = fits.fit op (symbol-kind (spelled text.source binder.name) binder.name.kind op new.0) in
          (subst IsNoInstance same (fit.apart binder.name text), ap orders_of (sym same) ∙ fit.takes)

  pub bind-all-keeps : (context : Context) (binders : List Binder) → AllByRecursion Fits binders → TakePlaces context → TakePlaces (bind_all text context binders)
  bind-all-keeps context [] fits old = old
  bind-all-keeps context (binder ∷ rest) fits old = bind-all-keeps (bind text context binder) rest fits.1 (bind-keeps context binder fits.0 old)

  pub reserve-all-keeps : (context : Context) (binders : List Binder) → TakePlaces context → TakePlaces (reserve_all text context binders)
  reserve-all-keeps context [] old = old
  reserve-all-keeps context (binder ∷ rest) old = reserve-all-keeps (put context (name_of text.source binder.name) None) rest (λ op meaning at. by op meaning (put-meant context (name_of text.source binder.name) None op meaning at))
    where
      by : (op : Op) (meaning : Meaning) → Stands context op meaning ⊎ ((name_of text.source binder.name ≡ Symbol op) × (None ≡ Some meaning)) → IsNoInstance meaning × (orders_of meaning ≡ replicate (built_in_places op) 0)
      by op meaning (inl before) = old op meaning before
      by op meaning (inr new) = absurd (cc)
