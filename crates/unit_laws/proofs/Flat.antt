-- Modules told from left to right: what remains of a module, unit by unit, with so many modules open.
use Rattle.std.proofs.Common.{◌≡◌, ℕ, suc, List, [], ◌∷◌, ◌++◌, Option, Some, None, refl, ap, sym, subst, ◌∙◌, append_assoc, arith}
use Rattle.tla_symbols.specs.declared.lexeme.Word.TheVariants as Word
use Rattle.tla_symbols.specs.declared.lexeme.Lexeme.{Lexeme}
use Rattle.tla_tree.specs.Syntax.{Tree, Trees}
use Rattle.tla_tree.specs.Lexemes.{IsWord}
use Rattle.tla_tree.specs.Headings.{DerivesParameters}
use Rattle.tla_tree.specs.Derivation.{Derives, DerivesDefinition, DerivesInstance}
use Rattle.unit_grammar.specs.Units.{UnitTree, Variables, Constants, Instance, Assumption, Theorem, Line, ModuleBegin, ModuleEnd, ModuleUnits, defined}
use Rattle.unit_grammar.specs.Derivation.{IsDashes, IsEquals, IsClose, DeclaresVariables, DeclaresConstants, Assumes, SpellsNames, BeginsModule, SpellsLocal, first, DerivesUnit, variables, constants, definition, instance, assumption, theorem, line, nested, DerivesUnits, no_units, more_units, DerivesModule, outermost}

-- a unit that is no nested module
pub data Plain : UnitTree → List Lexeme → Lexeme → Type 0 where
  plain_variables : {w next : Lexeme} {names a : List Lexeme} → DeclaresVariables w → SpellsNames names a → Plain (Variables names) (w ∷ a) next
  plain_constants : {w next : Lexeme} {xs : Trees} {a : List Lexeme} → DeclaresConstants w → DerivesParameters xs a → Plain (Constants xs) (w ∷ a) next
  plain_definition : {before : Option Lexeme} {x : Tree} {a b : List Lexeme} {next : Lexeme} → SpellsLocal before a → DerivesDefinition x b 0 (Some next) → Plain (defined before x) (a ++ b) next
  plain_instance : {before : Option Lexeme} {x : Tree} {a b : List Lexeme} {next : Lexeme} → SpellsLocal before a → DerivesInstance x b 0 (Some next) → Plain (Instance before x) (a ++ b) next
  plain_assumption : {w next : Lexeme} {x : Tree} {a : List Lexeme} → Assumes w → Derives x a 0 (Some next) → Plain (Assumption w None x) (w ∷ a) next
  plain_theorem : {w next : Lexeme} {x : Tree} {a : List Lexeme} → IsWord w Word.Theorem → Derives x a 0 (Some next) → Plain (Theorem w None x) (w ∷ a) next
  plain_line : {d next : Lexeme} → IsDashes d → (IsWord next Word.Module → ⊥) → Plain (Line d) (d ∷ []) next

-- what remains to the closing run, with so many modules open
pub data Rest : ℕ → List UnitTree → List Lexeme → Type 0 where
  closes : {c : Lexeme} → IsClose c → Rest (suc ℕ.zero) [] (c ∷ [])
  ends : {depth : ℕ} {e : Lexeme} {units : List UnitTree} {b : List Lexeme} → IsEquals e → Rest (suc depth) units b → Rest (suc (suc depth)) (ModuleEnd e ∷ units) (e ∷ b)
  goes : {depth : ℕ} {unit : UnitTree} {units : List UnitTree} {a b : List Lexeme} (t : Lexeme) → Plain unit a t → Rest depth units (t ∷ b) → Rest depth (unit ∷ units) (a ++ t ∷ b)
  opens : {depth : ℕ} {dashes n : Lexeme} {names : List Lexeme} {units : List UnitTree} {a b : List Lexeme} (t : Lexeme) → BeginsModule dashes n names a → Rest (suc depth) units (t ∷ b) → Rest depth (ModuleBegin dashes n names ∷ units) (a ++ t ∷ b)

pub data Whole : ModuleUnits → List Lexeme → Type 0 where
  whole : {dashes n : Lexeme} {names : List Lexeme} {units : List UnitTree} {a b : List Lexeme} (t : Lexeme) → BeginsModule dashes n names a → Rest (suc ℕ.zero) units (t ∷ b) → Whole (record { name = n; extends = names; units = units }) (a ++ t ∷ b)

-- ---- from the grammar

abbrev after_first : List Lexeme → Lexeme → List Lexeme → List Lexeme
after_first [] next c = c
after_first (x ∷ b) next c = b ++ next ∷ c

front : (b : List Lexeme) (next : Lexeme) (c : List Lexeme) → b ++ next ∷ c ≡ first b next ∷ after_first b next c
front [] next c = refl
front (x ∷ b) next c = refl

mutual
  unit-rest : {us : List UnitTree} {a : List Lexeme} {t : Lexeme} → DerivesUnit us a t → (depth : ℕ) (vs : List UnitTree) (c : List Lexeme) → Rest (suc depth) vs (t ∷ c) → Rest (suc depth) (us ++ vs) (a ++ t ∷ c)
  unit-rest (variables {next = t} k d) depth vs c r = goes t (plain_variables k d) r
  unit-rest (constants {next = t} k d) depth vs c r = goes t (plain_constants k d) r
  unit-rest (definition {next = t} k d) depth vs c r = goes t (plain_definition k d) r
  unit-rest (instance {next = t} k d) depth vs c r = goes t (plain_instance k d) r
  unit-rest (assumption {next = t} k d) depth vs c r = goes t (plain_assumption k d) r
  unit-rest (theorem {next = t} k d) depth vs c r = goes t (plain_theorem k d) r
  unit-rest (line {next = t} k d) depth vs c r = goes t (plain_line k d) r
  unit-rest (nested {d = dashes} {n = n} {next = t} {names = names} {a = a} {b = b} {units = units} e k ds h) depth vs c r =
      let inner : Rest (suc (suc depth)) (units ++ ModuleEnd e ∷ vs) (b ++ e ∷ t ∷ c) = units-rest ds (suc depth) (ModuleEnd e ∷ vs) (t ∷ c) (ends h r) in
      let whole : Rest (suc depth) (ModuleBegin dashes n names ∷ (units ++ ModuleEnd e ∷ vs)) (a ++ first b e ∷ after_first b e (t ∷ c)) = opens (first b e) k (subst (λ z. Rest (suc (suc depth)) (units ++ ModuleEnd e ∷ vs) z) (front b e (t ∷ c)) inner) in
      let spelled : a ++ first b e ∷ after_first b e (t ∷ c) ≡ (a ++ (b ++ e ∷ [])) ++ t ∷ c = ap (λ z. a ++ z) (sym (front b e (t ∷ c)) ∙ sym (append_assoc b (e ∷ []) (t ∷ c))) ∙ sym (append_assoc a (b ++ e ∷ []) (t ∷ c)) in
      let held : units ++ ModuleEnd e ∷ vs ≡ (units ++ ModuleEnd e ∷ []) ++ vs = sym (append_assoc units (ModuleEnd e ∷ []) vs) in
      subst (λ z. Rest (suc depth) (ModuleBegin dashes n names ∷ z) ((a ++ (b ++ e ∷ [])) ++ t ∷ c)) held (subst (λ z. Rest (suc depth) (ModuleBegin dashes n names ∷ (units ++ ModuleEnd e ∷ vs)) z) spelled whole)

  units-rest : {us : List UnitTree} {a : List Lexeme} {t : Lexeme} → DerivesUnits us a t → (depth : ℕ) (vs : List UnitTree) (c : List Lexeme) → Rest (suc depth) vs (t ∷ c) → Rest (suc depth) (us ++ vs) (a ++ t ∷ c)
  units-rest no_units depth vs c r = r
  units-rest (more_units {unit = unit} {units = units} {a = a} {b = b} {next = next} d ds) depth vs c r =
      let tail : Rest (suc depth) (units ++ vs) (b ++ next ∷ c) = units-rest ds depth vs c r in
      let all : Rest (suc depth) (unit ++ (units ++ vs)) (a ++ first b next ∷ after_first b next c) = unit-rest d depth (units ++ vs) (after_first b next c) (subst (λ z. Rest (suc depth) (units ++ vs) z) (front b next c) tail) in
      let spelled : a ++ first b next ∷ after_first b next c ≡ (a ++ b) ++ next ∷ c = ap (λ z. a ++ z) (sym (front b next c)) ∙ sym (append_assoc a b (next ∷ c)) in
      subst (λ z. Rest (suc depth) z ((a ++ b) ++ next ∷ c)) (sym (append_assoc unit units vs)) (subst (λ z. Rest (suc depth) (unit ++ (units ++ vs)) z) spelled all)

append-none : (us : List UnitTree) → us ++ [] ≡ us
append-none [] = refl
append-none (u ∷ us) = ap (λ z. u ∷ z) (append-none us)

pub derives-whole : {found : ModuleUnits} {ts : List Lexeme} → DerivesModule found ts → Whole found ts
derives-whole (outermost {n = n} {names = names} {a = a} {b = b} {units = units} c k ds h) =
    let r : Rest (suc ℕ.zero) (units ++ []) (b ++ c ∷ []) = units-rest ds ℕ.zero [] [] (closes h) in
    let q : Rest (suc ℕ.zero) units (b ++ c ∷ []) = subst (λ z. Rest (suc ℕ.zero) z (b ++ c ∷ [])) (append-none units) r in
    subst (λ z. Whole (record { name = n; extends = names; units = units }) (a ++ z)) (sym (front b c [])) (whole (first b c) k (subst (λ z. Rest (suc ℕ.zero) units z) (front b c []) q))

-- ---- to the grammar

-- the units of each open module, up to its end
data Upto : ℕ → List UnitTree → List Lexeme → Type 0 where
  last : {units : List UnitTree} {b : List Lexeme} (c : Lexeme) → DerivesUnits units b c → IsClose c → Upto (suc ℕ.zero) units (b ++ c ∷ [])
  more : {depth : ℕ} {units more : List UnitTree} {b c : List Lexeme} (e : Lexeme) → DerivesUnits units b e → IsEquals e → Upto (suc depth) more c → Upto (suc (suc depth)) (units ++ ModuleEnd e ∷ more) (b ++ e ∷ c)

-- another unit before them
add-unit : {depth : ℕ} {units : List UnitTree} {l : List Lexeme} → Upto depth units l → (unit : List UnitTree) (a : List Lexeme) → ((t : Lexeme) (b : List Lexeme) → l ≡ t ∷ b → DerivesUnit unit a t) → Upto depth (unit ++ units) (a ++ l)
add-unit (last {units = units} {b = b} c ds k) unit a d =
    subst (λ z. Upto (suc ℕ.zero) (unit ++ units) z) (append_assoc a b (c ∷ [])) (last c (more_units (d (first b c) (after_first b c []) (front b c [])) ds) k)
add-unit (more {depth = depth} {units = units} {more = vs} {b = b} {c = c} e ds k up) unit a d =
    let q : Upto (suc (suc depth)) ((unit ++ units) ++ ModuleEnd e ∷ vs) ((a ++ b) ++ e ∷ c) = more e (more_units (d (first b e) (after_first b e c) (front b e c)) ds) k up in
    subst (λ z. Upto (suc (suc depth)) z (a ++ (b ++ e ∷ c))) (append_assoc unit units (ModuleEnd e ∷ vs)) (subst (λ z. Upto (suc (suc depth)) ((unit ++ units) ++ ModuleEnd e ∷ vs) z) (append_assoc a b (e ∷ c)) q)

open-unit : {depth : ℕ} {dashes n : Lexeme} {names a : List Lexeme} → BeginsModule dashes n names a → (inner : ℕ) (us : List UnitTree) (l : List Lexeme) → Upto inner us l → inner ≡ suc (suc depth) → Upto (suc depth) (ModuleBegin dashes n names ∷ us) (a ++ l)
open-unit k inner us l (last c ds h) q = cc
open-unit {depth = depth} {dashes = dashes} {n = n} {names = names} {a = a} k inner us l (more {depth = deep} {units = units} {more = vs} {b = b} {c = c} e ds h up) q =
    let spelled : (a ++ (b ++ e ∷ [])) ++ c ≡ a ++ (b ++ e ∷ c) = append_assoc a (b ++ e ∷ []) c ∙ ap (λ z. a ++ z) (append_assoc b (e ∷ []) c) in
    let held : (units ++ ModuleEnd e ∷ []) ++ vs ≡ units ++ ModuleEnd e ∷ vs = append_assoc units (ModuleEnd e ∷ []) vs in
    let r : Upto (suc deep) (ModuleBegin dashes n names ∷ ((units ++ ModuleEnd e ∷ []) ++ vs)) ((a ++ (b ++ e ∷ [])) ++ c) = add-unit up (ModuleBegin dashes n names ∷ (units ++ ModuleEnd e ∷ [])) (a ++ (b ++ e ∷ [])) (λ t y z. nested e k ds h) in
    let s : Upto (suc deep) (ModuleBegin dashes n names ∷ (units ++ ModuleEnd e ∷ vs)) (a ++ (b ++ e ∷ c)) = subst (λ z. Upto (suc deep) (ModuleBegin dashes n names ∷ (units ++ ModuleEnd e ∷ vs)) z) spelled (subst (λ z. Upto (suc deep) (ModuleBegin dashes n names ∷ z) ((a ++ (b ++ e ∷ [])) ++ c)) held r) in
    let z : suc deep ≡ suc depth = omega arith in
    subst (λ y. Upto y (ModuleBegin dashes n names ∷ (units ++ ModuleEnd e ∷ vs)) (a ++ (b ++ e ∷ c))) z s

pub plain-derives : {unit : UnitTree} {a : List Lexeme} {t : Lexeme} → Plain unit a t → DerivesUnit (unit ∷ []) a t
plain-derives (plain_variables k d) = variables k d
plain-derives (plain_constants k d) = constants k d
plain-derives (plain_definition k d) = definition k d
plain-derives (plain_instance k d) = instance k d
plain-derives (plain_assumption k d) = assumption k d
plain-derives (plain_theorem k d) = theorem k d
plain-derives (plain_line k d) = line k d

head-is : (t u : Lexeme) (b c : List Lexeme) → t ∷ b ≡ u ∷ c → t ≡ u
head-is t u b c e = cc

rest-upto : {depth : ℕ} {units : List UnitTree} {l : List Lexeme} → Rest depth units l → (outer : ℕ) → depth ≡ suc outer → Upto depth units l
rest-upto (closes {c = c} k) outer q = last c no_units k
rest-upto (ends {depth = depth} {e = e} k r) outer q = more e no_units k (rest-upto r depth refl)
rest-upto (goes {unit = unit} {a = a} {b = b} t p r) outer q =
    add-unit (rest-upto r outer q) (unit ∷ []) a (λ u c e. subst (λ z. DerivesUnit (unit ∷ []) a z) (head-is t u b c e) (plain-derives p))
rest-upto (opens {depth = depth} {dashes = dashes} {n = n} {names = names} {units = units} {a = a} {b = b} t k r) outer q =
    subst (λ z. Upto z (ModuleBegin dashes n names ∷ units) (a ++ t ∷ b)) (sym q) (open-unit {depth = outer} k (suc depth) units (t ∷ b) (rest-upto r depth refl) (ap (λ z. suc z) q))

outer-module : {dashes n : Lexeme} {names a : List Lexeme} → BeginsModule dashes n names a → (depth : ℕ) (us : List UnitTree) (l : List Lexeme) → Upto depth us l → depth ≡ suc ℕ.zero → DerivesModule (record { name = n; extends = names; units = us }) (a ++ l)
outer-module k depth us l (last c ds h) q = outermost c k ds h
outer-module k depth us l (more e ds h up) q = cc

pub whole-derives : {found : ModuleUnits} {ts : List Lexeme} → Whole found ts → DerivesModule found ts
whole-derives (whole {units = units} {b = b} t k r) = outer-module k (suc ℕ.zero) units (t ∷ b) (rest-upto r ℕ.zero refl) refl
