-- The kind of an expansion depends on the kinds of what is put in, and on nothing else.
use Rattle.std.proofs.Common.{◌≡◌, ℕ, List, [], ◌∷◌, refl, ap, ◌∙◌}
use Rattle.kind_text.specs.ExpandedKind.{Expanded, Operands, Given, Stays, Applied, Ruled, Guarded, Nil, Cons, kind, kinds, ruled, guarded}
use Rattle.kind_text.specs.Substitution.{Item, put, puts, Same, Alike}
use Rattle.kind_text.specs.FlatModule.{FlatModule}
use Rattle.kind_text.specs.Expansion.{text}
use Rattle.kind_text.proofs.Relations.{Each, Related, AllRelated, IsKept, text-related}

abbrev pub SameKind : Expanded → Expanded → Type 0
SameKind t u = kind t ≡ kind u

pub each-kinds : (ts us : Operands) → Each SameKind ts us → kinds ts ≡ kinds us
each-kinds Nil Nil each = refl
each-kinds Nil (Cons u us) each = absurd each
each-kinds (Cons t ts) Nil each = absurd each
each-kinds (Cons t ts) (Cons u us) each = let first = each.0 in let rest = each-kinds ts us each.1 in cc

pub kinds-each : (ts us : Operands) → kinds ts ≡ kinds us → Each SameKind ts us
kinds-each Nil Nil same = tt
kinds-each Nil (Cons u us) same = cc
kinds-each (Cons t ts) Nil same = cc
kinds-each (Cons t ts) (Cons u us) same =
    let first : kind t ≡ kind u = cc in let rest : kinds ts ≡ kinds us = cc in
    (first, kinds-each ts us rest)

pub kept : IsKept SameKind
kept = record {
  leaf = λ k. refl;
  rule = λ r ts us each. ap (ruled r) (each-kinds ts us each);
  guard = λ most a b t u same more. ap (λ o. guarded most o (kind t)) same ∙ ap (guarded most (kind b)) more;
}

pub related : (a b : Item) → Same a b → Related SameKind a b
related a b same = record { text = same.text; call = λ ts us each. same.call ts us (each-kinds ts us each) }

pub same : (a b : Item) → Related SameKind a b → Same a b
same a b r = record { text = r.text; call = λ ts us e. r.call ts us (kinds-each ts us e) }

pub all-related : (s u : List Item) → Alike s u → AllRelated SameKind s u
all-related [] [] all = tt
all-related [] (y ∷ ys) all = absurd all
all-related (x ∷ xs) [] all = absurd all
all-related (x ∷ xs) (y ∷ ys) all = (related x y all.0, all-related xs ys all.1)

-- items of the same kinds give expansions of the same kinds
pub text-same : (flat : FlatModule) (i : ℕ) (s u : List Item) → Alike s u → Same (text flat i s) (text flat i u)
text-same flat i s u all = same _ _ (text-related SameKind kept flat i s u (all-related s u all))

-- items of the same kinds, put in, give the same kind
mutual
  pub kind-put : (t : Expanded) (s u : ℕ → Item) → ((i : ℕ) → Same (s i) (u i)) → kind (put t s) ≡ kind (put t u)
  kind-put (Given k) s u all = refl
  kind-put (Stays i) s u all = (all i).text
  kind-put (Applied i ts) s u all = (all i).call _ _ (kinds-puts ts s u all)
  kind-put (Ruled r ts) s u all = ap (ruled r) (kinds-puts ts s u all)
  kind-put (Guarded most t inner) s u all =
      ap (λ o. guarded most o (kind (put inner s))) (kind-put t s u all) ∙ ap (guarded most (kind (put t u))) (kind-put inner s u all)

  pub kinds-puts : (ts : Operands) (s u : ℕ → Item) → ((i : ℕ) → Same (s i) (u i)) → kinds (puts ts s) ≡ kinds (puts ts u)
  kinds-puts Nil s u all = refl
  kinds-puts (Cons t ts) s u all = let first = kind-put t s u all in let rest = kinds-puts ts s u all in cc
