-- Parts and their lexemes, one after the other.
use Rattle.std.proofs.Common.{◌≡◌, ℕ, ◌+◌, Bool, true, false, List, [], ◌∷◌, ◌++◌, refl, ap, sym, subst, append_assoc, arith}
use Rattle.std.specs.Prelude.{cond, IsTrue}
use Rattle.tla_symbols.specs.declared.op.Op.{Op}
use Rattle.tla_symbols.specs.declared.place.Fix.{Fix}
use Rattle.tla_symbols.specs.declared.lexeme.LexKind.{LexKind}
use Rattle.tla_symbols.specs.declared.lexeme.Mark.TheVariants as Mark
use Rattle.tla_symbols.specs.declared.lexeme.Lexeme.{Lexeme}
use Rattle.tla_tree.specs.declared.form.Form.{Form}
use Rattle.tla_tree.specs.Syntax.{Tree, Trees, Cons, trees}
use Rattle.tla_tree.specs.Lexemes.{IsName, IsMark, Defines, is_passed, is_given, built, one, then, joined}
use Rattle.tla_tree.specs.Headings.{DerivesNameList, last_name, more_names, names as names_of_list, DerivesTupleNames, binder_name, binder_tuple, IsReplaceable, by_name, by_symbol, DerivesPlaces, more_places}
use Rattle.expr_grammar.specs.declared.wait.Binding.{Binding}
use Rattle.expr_grammar.specs.declared.wait.Wait.{Wait}
use Rattle.expr_grammar.specs.Kinds.{is_name}
use Rattle.expr_grammar.specs.Tables.{defines, passes, is_given_kind, is_replaceable, takes_none, takes_lone_tuple, takes_more, name_leaf}
use Rattle.expr_laws.proofs.KindTests.{name-is}
use Rattle.expr_laws.proofs.Starting.{trees-snoc, joined-snoc}
use Rattle.expr_laws.proofs.Views.{Adds, NamesRead, NamesFor, Alone, HasRead, PlacesSeen}

pub trees-then : (ps : List Tree) (x : Tree) → trees (ps ++ x ∷ []) ≡ then (trees ps) x
trees-then [] x = refl
trees-then (p ∷ ps) x = ap (λ z. Cons p z) (trees-then ps x)

pub adds-close : (L : Trees → List Lexeme → Type 0) (ps : List Tree) (a : List Lexeme) (x : Tree) (b : List Lexeme) → Adds L ps a → L (one x) b → L (trees (ps ++ x ∷ [])) (a ++ b)
adds-close L ps a x b d k = subst (λ z. L z (a ++ b)) (sym (trees-snoc ps x)) (d (one x) b k)

pub adds-part : (L : Trees → List Lexeme → Type 0) (ps : List Tree) (a : List Lexeme) (x : Tree) (b : List Lexeme) → Adds L ps a → ((xs : Trees) (c : List Lexeme) → L xs c → L (Cons x xs) (b ++ c)) → Adds L (ps ++ x ∷ []) (a ++ b)
adds-part L ps a x b d f = λ xs c k. subst (λ z. L z ((a ++ b) ++ c)) (sym (joined-snoc ps x xs)) (subst (λ z. L (joined (trees ps) (Cons x xs)) z) (sym (append_assoc a b c)) (d (Cons x xs) (b ++ c) (f xs c k)))

-- and behind the part a lexeme that parts it from the next
pub adds-mark : (L : Trees → List Lexeme → Type 0) (ps : List Tree) (a : List Lexeme) (x : Tree) (b : List Lexeme) (t : Lexeme) → Adds L ps a → ((xs : Trees) (c : List Lexeme) → L xs c → L (Cons x xs) (b ++ t ∷ c)) → Adds L (ps ++ x ∷ []) (a ++ (b ++ t ∷ []))
adds-mark L ps a x b t d f = adds-part L ps a x (b ++ t ∷ []) d (λ xs c k. subst (λ z. L (Cons x xs) z) (sym (append_assoc b (t ∷ []) c)) (f xs c k))

pub reread : {w : Wait} {i : ℕ} {v : Wait} {ps : List Tree} (a b : List Lexeme) → a ≡ b → HasRead w i v ps a → HasRead w i v ps b
reread {w} {i} {v} {ps} a b e h = subst (λ z. HasRead w i v ps z) e h

pub names-more : (ps : List Tree) (a : List Lexeme) (n t : Lexeme) → NamesRead ps a → IsName n → IsMark t Mark.Comma → NamesRead (ps ++ name_leaf n ∷ []) (a ++ n ∷ t ∷ [])
names-more ps a n t d h k = adds-mark DerivesNameList ps a (name_leaf n) (n ∷ []) t d (λ xs c r. more_names h k r)

pub names-close : (ps : List Tree) (a : List Lexeme) (n : Lexeme) → NamesRead ps a → IsName n → DerivesNameList (trees (ps ++ name_leaf n ∷ [])) (a ++ n ∷ [])
names-close ps a n d h = adds-close DerivesNameList ps a (name_leaf n) (n ∷ []) d (last_name h)

-- names that end with their last one
pub names-for : (β : Binding) (c : Bool) (ps : List Tree) (a : List Lexeme) (n : Lexeme) → cond (takes_none β) c false ≡ true → NamesRead ps a → IsName n → Alone β ps a → NamesFor β (built Form.Names (trees (ps ++ name_leaf n ∷ [])) (a ++ n ∷ [])) (a ++ n ∷ [])
names-for Binding.Names c ps a n e d h l = names_of_list (names-close ps a n d h)
names-for Binding.Either c ps a n e d h l = names_of_list (names-close ps a n d h)
names-for Binding.Bound c ps a n e d h l = cc
names-for Binding.One c ps a n e d h l =
    let q : (ps ≡ []) × (a ≡ []) = l refl in
    subst (λ z. NamesFor Binding.One (built Form.Names (trees (z ++ name_leaf n ∷ [])) (a ++ n ∷ [])) (a ++ n ∷ [])) (sym q.0)
    (subst (λ z. NamesFor Binding.One (built Form.Names (one (name_leaf n)) (z ++ n ∷ [])) (z ++ n ∷ [])) (sym q.1) (binder_name h))

pub tuple-for : (β : Binding) (c : Bool) (ps : List Tree) (a : List Lexeme) → cond (takes_lone_tuple β) c false ≡ true → DerivesTupleNames (trees ps) a → NamesFor β (built Form.TupleNames (trees ps) a) a
tuple-for Binding.One c ps a e d = binder_tuple d
tuple-for _ c ps a e d = cc

pub alone-name : (β : Binding) (ps : List Tree) (a : List Lexeme) (n : Lexeme) → Alone β ps a → takes_more β ≡ false → (m : Lexeme) × (ps ++ name_leaf n ∷ [] ≡ name_leaf m ∷ [])
alone-name β ps a n l e = let q : (ps ≡ []) × (a ≡ []) = l e in (n, ap (λ z. z ++ name_leaf n ∷ []) q.0)

pub defines-is : (fix : Fix) (k : LexKind) → defines fix k ≡ true → (op : Op) × (k ≡ LexKind.Sym op) × Defines op fix
defines-is fix (LexKind.Sym op) h = (op, refl, h)
defines-is fix _ h = cc

pub passes-is : (k : LexKind) → passes k ≡ true → (op : Op) × (k ≡ LexKind.Sym op) × IsTrue (is_passed op)
passes-is (LexKind.Sym op) h = (op, refl, h)
passes-is _ h = cc

pub given-is : (k : LexKind) → is_given_kind k ≡ true → (op : Op) × (k ≡ LexKind.Sym op) × IsTrue (is_given op)
given-is (LexKind.Sym op) h = (op, refl, h)
given-is _ h = cc

pub replaceable-is : (n : Lexeme) → is_replaceable n.kind ≡ true → IsReplaceable n
replaceable-is n h = by (is_name n.kind) (defines Fix.Prefix n.kind) (defines Fix.Infix n.kind) refl refl refl h
  where
    of-symbol : (fix : Fix) → defines fix n.kind ≡ true → IsReplaceable n
    of-symbol fix e = let q : (op : Op) × (n.kind ≡ LexKind.Sym op) × Defines op fix = defines-is fix n.kind e in by_symbol fix q.1 q.2

    by : (b c d : Bool) → is_name n.kind ≡ b → defines Fix.Prefix n.kind ≡ c → defines Fix.Infix n.kind ≡ d → cond b true (cond c true (cond d true (defines Fix.Postfix n.kind))) ≡ true → IsReplaceable n
    by true c d e f g k = by_name (name-is n.kind e)
    by false true d e f g k = of-symbol Fix.Prefix f
    by false false true e f g k = of-symbol Fix.Infix g
    by false false false e f g k = of-symbol Fix.Postfix k

-- one place more
pub places-more : (count : ℕ) (d : List Lexeme) (p t : Lexeme) → PlacesSeen count d → IsMark p Mark.Underscore → IsMark t Mark.Comma → PlacesSeen (count + 1) (d ++ p ∷ t ∷ [])
places-more count d p t s h k = λ more c r.
    let e : count + (more + 1) ≡ (count + 1) + more = omega arith in
    subst (λ z. DerivesPlaces z ((d ++ p ∷ t ∷ []) ++ c)) e
    (subst (λ z. DerivesPlaces (count + (more + 1)) z) (sym (append_assoc d (p ∷ t ∷ []) c)) (s (more + 1) (p ∷ t ∷ c) (more_places h k r)))
