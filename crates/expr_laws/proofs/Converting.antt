-- Names that were read as operands, and bounds that were read as `x \in e`.
use Rattle.std.proofs.Common.{◌≡◌, ℕ, Bool, true, false, List, [], ◌∷◌, ◌++◌, Option, Some, refl, ap, sym, subst, ◌∙◌}
use Rattle.std.specs.Prelude.{cond}
use Rattle.tla_symbols.specs.declared.op.Op.{Op}
use Rattle.tla_symbols.specs.declared.place.Fix.{Fix}
use Rattle.tla_symbols.specs.declared.lexeme.LexKind.{LexKind}
use Rattle.tla_symbols.specs.declared.lexeme.Lexeme.{Lexeme}
use Rattle.tla_tree.specs.declared.form.Form.{Form}
use Rattle.tla_tree.specs.Syntax.{Tree, Trees, Node, Nil, Cons}
use Rattle.tla_tree.specs.Edges.{Operator, AllMeet, left_edge}
use Rattle.tla_tree.specs.Shapes.{HasNoPart, HasOnePart, HasParts, AreBareSegments, IsPlainName, ArePlainNames, IsBareMember, IsBinder, BindsOne}
use Rattle.tla_tree.specs.Lexemes.{IsName, IsSymbol, built, one, two}
use Rattle.tla_tree.specs.Headings.{DerivesNameList, last_name, more_names, tuple_names}
use Rattle.tla_tree.specs.Derivation.{Derives, node, Spells, identifier, infixed, tuple, DerivesSegments, last_segment, more_segments, bare, applied, DerivesList, last, more, DerivesBound, bound, tuple_bound}
use Rattle.expr_grammar.specs.declared.wait.Shape.{Shape}
use Rattle.expr_grammar.specs.Kinds.{is_member}
use Rattle.expr_grammar.specs.Tables.{plain_shape, is_plain, is_plain_name, are_plain_names, is_binder, member_shape, shape, name_leaf, name_of, names_of, bound_of, as_bound}
use Rattle.expr_laws.proofs.KindTests.{member-is}
use Rattle.expr_laws.proofs.Naming.{name-identifier, arguments-there}
use Rattle.expr_laws.proofs.Membering.{plain-names, all-plain, is_member_shape, plain-no_member}
use Rattle.expr_laws.proofs.Starting.{segment-leaf}

segments-there : {xs : Trees} {a : List Lexeme} {i : ℕ} → DerivesSegments xs a i → HasNoPart xs → ⊥
segments-there (last_segment d) h = h
segments-there (more_segments t k d e) h = h

-- a path of one bare name
pub bare-path : {xs : Trees} {a : List Lexeme} {i : ℕ} → DerivesSegments xs a i → HasOnePart xs × AreBareSegments xs → (n : Lexeme) × (xs ≡ one (segment-leaf n)) × (a ≡ n ∷ []) × IsName n
bare-path (last_segment (bare {n = n} k)) h = (n, refl, refl, k)
bare-path (last_segment (applied t u k l m d)) h = absurd (arguments-there d h.1.0)
bare-path (more_segments t k d e) h = absurd (segments-there e h.0)

abbrev Plainly : Tree → List Lexeme → Type 0
Plainly x a = (n : Lexeme) × (x ≡ name-identifier n) × (a ≡ n ∷ []) × IsName n

spelled-plain : {form : Form} {xs : Trees} {a : List Lexeme} {i : ℕ} {o : Option Lexeme} → Spells form xs a i o → IsPlainName (built form xs a) → Plainly (built form xs a) a
spelled-plain (identifier {xs = xs} {a = a} d) h =
    let q : (n : Lexeme) × (xs ≡ one (segment-leaf n)) × (a ≡ n ∷ []) × IsName n = bare-path d h in
    (q.0, ap (λ z. built Form.Identifier z a) q.1 ∙ ap (λ z. built Form.Identifier (one (segment-leaf q.0)) z) q.2, q.2, q.3)
spelled-plain _ h = absurd h

pub plain-derives : {x : Tree} {a : List Lexeme} {i : ℕ} {o : Option Lexeme} → Derives x a i o → IsPlainName x → Plainly x a
plain-derives (node s) h = spelled-plain s h

-- the entries of a tuple of names
pub names-listed : {xs : Trees} {a : List Lexeme} {i : ℕ} {o : Option Lexeme} → DerivesList xs a i o → ArePlainNames xs → DerivesNameList (names_of xs) a
names-listed (last {x = x} {a = a} d) h =
    let q : Plainly x a = plain-derives d h.0 in
    subst (λ z. DerivesNameList (one (name_of z)) a) (sym q.1) (subst (λ z. DerivesNameList (one (name_leaf q.0)) z) (sym q.2) (last_name q.3))
names-listed (more {x = x} {xs = xs} {a = a} {b = b} t k d e) h =
    let q : Plainly x a = plain-derives d h.0 in
    let r : DerivesNameList (names_of xs) b = names-listed e h.1 in
    subst (λ z. DerivesNameList (Cons (name_of z) (names_of xs)) (a ++ t ∷ b)) (sym q.1)
    (subst (λ z. DerivesNameList (Cons (name_leaf q.0) (names_of xs)) (z ++ t ∷ b)) (sym q.2) (more_names q.3 k r))

binder-bound : {form : Form} {xs : Trees} {a : List Lexeme} {i : ℕ} {m : Lexeme} {y : Tree} {b : List Lexeme} {o : Option Lexeme} → Spells form xs a i (Some m) → is_binder (built form xs a) ≡ true → IsSymbol m Op.In → AllMeet (Operator Op.In Fix.Infix) (left_edge y) → Derives y b i o → DerivesBound (bound_of (built form xs a) y (a ++ m ∷ b)) (a ++ m ∷ b) i o × BindsOne (bound_of (built form xs a) y (a ++ m ∷ b))
binder-bound {i = i} {m = m} {y = y} {b = b} {o = o} (identifier {xs = xs} {a = a} d) h k j e =
    let q : (n : Lexeme) × (xs ≡ one (segment-leaf n)) × (a ≡ n ∷ []) × IsName n = bare-path d (plain-names xs h) in (
      subst (λ z. DerivesBound (bound_of (built Form.Identifier z a) y (a ++ m ∷ b)) (a ++ m ∷ b) i o) (sym q.1)
          (subst (λ z. DerivesBound (built Form.Bound (two (name_leaf q.0) y) (z ++ m ∷ b)) (z ++ m ∷ b) i o) (sym q.2) (bound m k j (last_name q.3) e)),
      tt,
    )
binder-bound {m = m} (tuple {xs = xs} t u kt ku d) h k j e = (tuple_bound m k j (tuple_names t u kt ku (names-listed d (all-plain xs h).1)) e, tt)
binder-bound _ h k j e = cc

-- `x \in e` is a bound of one name or tuple
pub spelled-member : {form : Form} {xs : Trees} {a : List Lexeme} {i : ℕ} {o : Option Lexeme} → Spells form xs a i o → shape (built form xs a) ≡ Shape.Member → DerivesBound (as_bound (built form xs a) a) a i o × BindsOne (as_bound (built form xs a) a)
spelled-member (identifier {xs = xs} d) h = let e : is_member_shape (plain_shape xs) ≡ true = ap is_member_shape h in let f : is_member_shape (plain_shape xs) ≡ false = plain-no_member xs in cc
spelled-member {i = i} {o = o} (infixed {op = op} {x = x} {y = y} {a = a} {b = b} t k h e j m d d') s = by (is_member t.kind) (is_binder x) refl refl s
  where
    of-binder : t.kind ≡ LexKind.Sym Op.In → is_binder x ≡ true → {z : Tree} → z ≡ x → Derives z a i (Some t) → DerivesBound (bound_of z y (a ++ t ∷ b)) (a ++ t ∷ b) i o × BindsOne (bound_of z y (a ++ t ∷ b))
    of-binder r q f (node g) =
        let v : op ≡ Op.In = cc in
        binder-bound g (ap is_binder f ∙ q) r (subst (λ z. AllMeet (Operator z Fix.Infix) (left_edge y)) v m) d'

    by : (b1 b2 : Bool) → is_member t.kind ≡ b1 → is_binder x ≡ b2 → member_shape (cond b1 b2 false) ≡ Shape.Member → DerivesBound (bound_of x y (a ++ t ∷ b)) (a ++ t ∷ b) i o × BindsOne (bound_of x y (a ++ t ∷ b))
    by true true r q z = of-binder (member-is t.kind r) q refl d
    by true false r q z = cc
    by false c r q z = cc
spelled-member _ h = cc

pub member-bound : {x : Tree} {a : List Lexeme} {i : ℕ} {o : Option Lexeme} → Derives x a i o → shape x ≡ Shape.Member → DerivesBound (as_bound x a) a i o × BindsOne (as_bound x a)
member-bound (node s) h = spelled-member s h

-- the shape of a name is one of a name alone
shape-is_plain : (b : Bool) (n : Lexeme) (P : Type 0) → member_shape b ≡ Shape.Plain n → P
shape-is_plain true n P h = cc
shape-is_plain false n P h = cc

spelled-name : {form : Form} {xs : Trees} {a : List Lexeme} {i : ℕ} {o : Option Lexeme} → Spells form xs a i o → (n : Lexeme) → shape (built form xs a) ≡ Shape.Plain n → (built form xs a ≡ name-identifier n) × (a ≡ n ∷ []) × IsName n
spelled-name (identifier {xs = xs} {a = a} d) n h =
    let q : (m : Lexeme) × (xs ≡ one (segment-leaf m)) × (a ≡ m ∷ []) × IsName m = bare-path d (plain-names xs (ap is_plain h)) in
    let r : Shape.Plain q.0 ≡ Shape.Plain n = sym (ap plain_shape q.1) ∙ h in
    let e : q.0 ≡ n = cc in
    (ap (λ z. built Form.Identifier z a) q.1 ∙ (ap (λ z. built Form.Identifier (one (segment-leaf q.0)) z) q.2 ∙ ap name-identifier e), q.2 ∙ ap (λ z. z ∷ []) e, subst IsName e q.3)
spelled-name (infixed {x = x} t k h e j m d d') n s = shape-is_plain (cond (is_member t.kind) (is_binder x) false) n _ s
spelled-name _ n h = cc

pub name-derives : {x : Tree} {a : List Lexeme} {i : ℕ} {o : Option Lexeme} → Derives x a i o → (n : Lexeme) → shape x ≡ Shape.Plain n → (x ≡ name-identifier n) × (a ≡ n ∷ []) × IsName n
name-derives (node s) n h = spelled-name s n h

-- the bare form has its shape
segments-plain : (xs : Trees) → HasOnePart xs → AreBareSegments xs → is_plain (plain_shape xs) ≡ true
segments-plain Nil h k = absurd h
segments-plain (Cons (Node (Form.Segment n) s Nil) Nil) h k = refl
segments-plain (Cons (Node (Form.Segment n) s (Cons y ys)) Nil) h k = absurd k.0
segments-plain (Cons x (Cons y ys)) h k = absurd h
segments-plain (Cons (Node _ s ps) Nil) h k = absurd k.0

name-plain : (x : Tree) → IsPlainName x → is_plain_name x ≡ true
name-plain (Node Form.Identifier s ps) h = segments-plain ps h.0 h.1
name-plain (Node _ s ps) h = absurd h

names-plain : (xs : Trees) → HasParts xs → ArePlainNames xs → are_plain_names xs ≡ true
names-plain Nil h k = absurd h
names-plain (Cons x Nil) h k = name-plain x k.0
names-plain (Cons x (Cons y ys)) h k =
    let e : is_plain_name x ≡ true = name-plain x k.0 in
    let f : are_plain_names (Cons y ys) ≡ true = names-plain (Cons y ys) tt k.1 in
    rw e f

is-binder : (x : Tree) → IsBinder x → is_binder x ≡ true
is-binder (Node Form.Identifier s ps) h = segments-plain ps h.0 h.1
is-binder (Node Form.Tuple s ps) h = names-plain ps h.0 h.1
is-binder (Node _ s ps) h = absurd h

spelled-bare : {form : Form} {xs : Trees} {a : List Lexeme} {i : ℕ} {o : Option Lexeme} → Spells form xs a i o → IsBareMember (built form xs a) → shape (built form xs a) ≡ Shape.Member
spelled-bare (infixed {x = x} t k h e j m d d') s = let q : is_binder x ≡ true = is-binder x s.1 in let r : is_member t.kind ≡ true = ap is_member s.0 in rw (r, q)
spelled-bare _ s = absurd s

pub bare-shape : {x : Tree} {a : List Lexeme} {i : ℕ} {o : Option Lexeme} → Derives x a i o → IsBareMember x → shape x ≡ Shape.Member
bare-shape (node s) h = spelled-bare s h
