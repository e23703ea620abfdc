-- Names that are declared and defined take as many expressions as they have places, if they are symbols.
use Rattle.std.proofs.Common.{◌≡◌, ℕ, List, [], ◌∷◌, ◌++◌, Option, refl, sym, ap, subst, ◌∙◌, map}
use Rattle.std.specs.List.{AllByRecursion}
use Rattle.list_laws.proofs.Lists.{all-both, all-left}
use Rattle.tla_symbols.specs.declared.lexeme.LexKind.TheVariants as LexKind
use Rattle.tla_symbols.specs.declared.lexeme.Lexeme.{Lexeme}
use Rattle.tla_symbols.specs.declared.lexeme.Span.{Span}
use Rattle.tla_symbols.specs.declared.op.Op.{Op}
use Rattle.tla_symbols.specs.declared.op.Op.TheVariants as op_names
use Rattle.tla_tree.specs.declared.form.Form.TheVariants as Form
use Rattle.tla_tree.specs.Derivation as d
use Rattle.tla_tree.specs.Headings as h
use Rattle.tla_tree.specs.Lexemes.{IsName, one, place, then}
use Rattle.tla_tree.specs.Syntax.{Tree, Trees, Node, Nil, Cons, form}
use Rattle.unit_grammar.specs.Derivation as u
use Rattle.unit_grammar.specs.Units.{ModuleEnd, ModuleUnits, UnitTree, defined as defined_unit}
use Rattle.tla_model.specs.declared.entity.Entity.TheVariants as entity
use Rattle.tla_model.specs.declared.names.Binding.TheVariants as as_binding
use Rattle.tla_model.specs.Entities.{Entity, all_placed, orders, placed, variables}
use Rattle.tla_model.specs.Scopes.{definition}
use Rattle.tree_kinds.specs.Expanding.{built_in_places}
use Rattle.readable_laws.proofs.Contexts.{Fits, TakesPlaces}
use Rattle.readable_laws.proofs.Orders.{expressions}
use Rattle.readable_laws.proofs.Reading.{FitsAs, bound-fit}
use Rattle.readable_laws.proofs.Shapes.{IsWholeForm, spelled-whole}
use Rattle.readable_laws.proofs.Steadiness.{UnitFits}
use Rattle.readable_laws.proofs.Symbols.{infix-defined, postfix-defined}

-- a name is no symbol
pub word-fits : (l : Lexeme) (e : Entity) → IsName l → Fits (record { name = l; entity = e })
word-fits l e is = record { fit = λ op k. absurd (by op k) }
  where
    by : (op : Op) → l.kind ≡ LexKind.Sym op → ⊥
    by op k = let clash : LexKind.Name ≡ LexKind.Sym op = sym is ∙ k in absurd (cc clash)

pub parameter-takes : (op : Op) (n : ℕ) → built_in_places op ≡ n → TakesPlaces (entity.Parameter n) op
parameter-takes op n is = record { apart = λ l text. tt; takes = ap expressions (sym is) }

pub definition-takes : (op : Op) (n : ℕ) (os : List ℕ) → built_in_places op ≡ n → os ≡ expressions n → TakesPlaces (entity.Definition os) op
definition-takes op n os is all = record { apart = λ l text. tt; takes = all ∙ ap expressions (sym is) }

-- a symbol does so where its entity does
pub symbol-fits : (l : Lexeme) (e : Entity) (op : Op) → l.kind ≡ LexKind.Sym op → TakesPlaces e op → Fits (record { name = l; entity = e })
symbol-fits l e op is takes = record { fit = λ other k. let same : LexKind.Sym op ≡ LexKind.Sym other = sym is ∙ k in subst (TakesPlaces e) (by other same) takes }
  where
    by : (other : Op) → LexKind.Sym op ≡ LexKind.Sym other → op ≡ other
    by other same = cc

-- the orders of the names before a body
placed-one : (x : Tree) → IsWholeForm (form x) → all_placed (one x) ≡ []
placed-one (Node f s ps) shape = ap (λ ns. ns ++ []) shape.names

one-order : (n : Lexeme) (s : Span) (x : Tree) → IsWholeForm (form x) → orders (Cons (Node (Form.Name n) s Nil) (one x)) ≡ expressions 1
one-order n s x shape = ap (λ (ns : List (Lexeme × ℕ)). 0 ∷ map (λ (name : Lexeme × ℕ). name.1) ns) (placed-one x shape)

two-orders : (m n : Lexeme) (s t : Span) (x : Tree) → IsWholeForm (form x) → orders (Cons (Node (Form.Name m) s Nil) (Cons (Node (Form.Name n) t Nil) (one x))) ≡ expressions 2
two-orders m n s t x shape = ap (λ (ns : List (Lexeme × ℕ)). 0 ∷ 0 ∷ map (λ (name : Lexeme × ℕ). name.1) ns) (placed-one x shape)

shape-of : {x : Tree} {a : List Lexeme} {i : ℕ} {o : Option Lexeme} → d.Derives x a i o → IsWholeForm (form x)
shape-of (d.node s) = spelled-whole s

head-name : {n : Lexeme} {xs : Trees} {a : List Lexeme} → h.DerivesHead n xs a → IsName n
head-name (h.constant k) = k
head-name (h.with_parameters u k l v xs) = k

-- the name that a definition declares
pub definition-fits : {x : Tree} {a : List Lexeme} {i : ℕ} {o : Option Lexeme} → d.DerivesDefinition x a i o → AllByRecursion Fits (definition x)
definition-fits (d.operator {n = n} {xs = xs} {x = x} m head k y) = (word-fits n (entity.Definition (orders (then xs x))) (head-name head), tt)
definition-fits (d.prefix_operator {t = t} {n = n} {x = x} k l o y) =
    let s = place (n ∷ []) in
    let all = orders (Cons (Node (Form.Name n) s Nil) (one x)) in
    (symbol-fits t (entity.Definition all) op_names.Negative k (definition-takes op_names.Negative 1 all refl (one-order n s x (shape-of y))), tt)
definition-fits (d.infix_operator {op = op} {m = m} {t = t} {n = n} {x = x} k l o q r y) =
    let s = place (m ∷ []) in
    let v = place (n ∷ []) in
    let all = orders (Cons (Node (Form.Name m) s Nil) (Cons (Node (Form.Name n) v Nil) (one x))) in
    (symbol-fits t (entity.Definition all) op l (definition-takes op 2 all (infix-defined op o) (two-orders m n s v x (shape-of y))), tt)
definition-fits (d.postfix_operator {op = op} {m = m} {t = t} {x = x} k l o q y) =
    let s = place (m ∷ []) in
    let all = orders (Cons (Node (Form.Name m) s Nil) (one x)) in
    (symbol-fits t (entity.Definition all) op l (definition-takes op 1 all (postfix-defined op o) (one-order m s x (shape-of y))), tt)
definition-fits (d.function_of {n = n} v w k l m o bs y) = (word-fits n (entity.Definition []) k, tt)
definition-fits (d.module_of {n = n} {xs = xs} {x = x} m head k y) = (word-fits n (entity.Instance (orders (then xs x))) (head-name head), tt)

-- ---- units

constant-takes : (op : Op) (n : ℕ) → built_in_places op ≡ n → TakesPlaces (entity.Constant n) op
constant-takes op n is = record { apart = λ l text. tt; takes = ap expressions (sym is) }

abbrev FitConstants : Trees → Type 0
FitConstants xs = AllByRecursion (FitsAs as_binding.Constant) (all_placed xs)

constant-fits : {x : Tree} {a : List Lexeme} → h.DerivesParameter x a → FitConstants (one x)
constant-fits (h.plain {n = n} k) = (word-fits n (entity.Constant 0) k, tt)
constant-fits (h.of_places {n = n} {places = places} v k l m ds) = (word-fits n (entity.Constant places) k, tt)
constant-fits (h.prefix_symbol {t = t} k l) = (symbol-fits t (entity.Constant 1) op_names.Negative k (constant-takes op_names.Negative 1 refl), tt)
constant-fits (h.infix_symbol {op = op} {t = t} k l m o) = (symbol-fits t (entity.Constant 2) op l (constant-takes op 2 (infix-defined op m)), tt)
constant-fits (h.postfix_symbol {op = op} {t = t} k l m) = (symbol-fits t (entity.Constant 1) op l (constant-takes op 1 (postfix-defined op m)), tt)

constants-with : (x : Tree) (xs : Trees) → FitConstants (one x) → FitConstants xs → FitConstants (Cons x xs)
constants-with (Node f s ps) xs own all = all-both (FitsAs as_binding.Constant) (placed f) (all_placed xs) (all-left (FitsAs as_binding.Constant) (placed f) [] own) all

constants-fit : {xs : Trees} {a : List Lexeme} → h.DerivesParameters xs a → FitConstants xs
constants-fit (h.last_parameter x) = constant-fits x
constants-fit (h.more_parameters {x = x} {xs = xs} t k y ys) = constants-with x xs (constant-fits y) (constants-fit ys)

variables-fit : {names a : List Lexeme} → u.SpellsNames names a → AllByRecursion Fits (variables names)
variables-fit (u.last_name {n = n} k) = (word-fits n entity.Variable k, tt)
variables-fit (u.more_names {n = n} k l ns) = (word-fits n entity.Variable k, variables-fit ns)

defined-fits : (local : Option Lexeme) (x : Tree) → AllByRecursion Fits (definition x) → UnitFits (defined_unit local x)
defined-fits local (Node (Form.FunctionDefinition n) s parts) fits = fits
defined-fits local (Node (Form.ModuleDefinition n) s parts) fits = fits
defined-fits local (Node _ s parts) fits = fits

mutual
  unit-fits : {units : List UnitTree} {a : List Lexeme} {t : Lexeme} → u.DerivesUnit units a t → AllByRecursion UnitFits units
  unit-fits (u.variables k ns) = (variables-fit ns, tt)
  unit-fits (u.constants {xs = xs} k ds) = (bound-fit as_binding.Constant (all_placed xs) (constants-fit ds), tt)
  unit-fits (u.definition {before = local} {x = x} l y) = (defined-fits local x (definition-fits y), tt)
  unit-fits (u.instance l x) = (tt, tt)
  unit-fits (u.assumption k x) = (tt, tt)
  unit-fits (u.theorem k x) = (tt, tt)
  unit-fits (u.line k m) = (tt, tt)
  unit-fits (u.nested {units = units} e k us m) = (tt, all-both UnitFits units (ModuleEnd e ∷ []) (units-fit us) (tt, tt))

  units-fit : {units : List UnitTree} {a : List Lexeme} {t : Lexeme} → u.DerivesUnits units a t → AllByRecursion UnitFits units
  units-fit u.no_units = tt
  units-fit (u.more_units {unit = unit} {units = units} y ys) = all-both UnitFits unit units (unit-fits y) (units-fit ys)

pub module-fits : {found : ModuleUnits} {a : List Lexeme} → u.DerivesModule found a → AllByRecursion UnitFits found.units
module-fits (u.outermost c k us m) = units-fit us
