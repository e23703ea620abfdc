-- The height of units beside units, and of a nested module.
use Rattle.std.proofs.Common.{◌≡◌, ℕ, suc, ◌+◌, ◌-◌, max, true, List, [], ◌∷◌, ◌++◌, refl, ap, ◌∙◌, append_assoc, arith}
use Rattle.tla_symbols.specs.declared.lexeme.Lexeme.{Lexeme}
use Rattle.unit_grammar.specs.Units.{UnitTree, ModuleBegin, ModuleEnd, defined}
use Rattle.unit_grammar.specs.Derivation.{DerivesUnit, variables, constants, definition, instance, assumption, theorem, line, nested, DerivesUnits, no_units, more_units}
use Rattle.unit_grammar.specs.Heights.{unit_height, highest_unit}
use Rattle.unit_grammar.proofs.Singles.{defined-single, is_single, one-less, single-height}

-- units that stand whole: the heights of others add nothing to theirs, and one more module round them adds 1
record Stands (us : List UnitTree) : Type 0 where
  pub beside : (inside : ℕ) (vs : List UnitTree) → highest_unit inside (us ++ vs) ≡ max (highest_unit inside us) (highest_unit inside vs)
  pub within : (inside : ℕ) → max (suc inside) (highest_unit (suc inside) us) ≡ suc (max inside (highest_unit inside us))

single-stands : (u : UnitTree) → is_single u ≡ true → Stands (u ∷ [])
single-stands u e = record {
  beside = λ inside vs.
      let a : highest_unit inside (u ∷ vs) ≡ max (inside + unit_height u) (highest_unit inside vs) = single-height u e inside vs in
      let b : highest_unit inside (u ∷ []) ≡ max (inside + unit_height u) 0 = single-height u e inside [] in
      omega arith;
  within = λ inside.
      let a : highest_unit (suc inside) (u ∷ []) ≡ max (suc inside + unit_height u) 0 = single-height u e (suc inside) [] in
      let b : highest_unit inside (u ∷ []) ≡ max (inside + unit_height u) 0 = single-height u e inside [] in
      omega arith;
}

nested-stands : (dashes n : Lexeme) (names : List Lexeme) (us : List UnitTree) (e : Lexeme) → Stands us → Stands (ModuleBegin dashes n names ∷ (us ++ ModuleEnd e ∷ []))
nested-stands dashes n names us e h = record {
  beside = λ inside vs.
      let a : highest_unit (suc inside) (us ++ ModuleEnd e ∷ vs) ≡ max (highest_unit (suc inside) us) (highest_unit inside vs) = h.beside (suc inside) (ModuleEnd e ∷ vs) ∙ ap (λ z. max (highest_unit (suc inside) us) (highest_unit z vs)) (one-less inside) in
      let b : highest_unit (suc inside) (us ++ ModuleEnd e ∷ []) ≡ max (highest_unit (suc inside) us) 0 = h.beside (suc inside) (ModuleEnd e ∷ []) in
      let c : highest_unit (suc inside) ((us ++ ModuleEnd e ∷ []) ++ vs) ≡ highest_unit (suc inside) (us ++ ModuleEnd e ∷ vs) = ap (highest_unit (suc inside)) (append_assoc us (ModuleEnd e ∷ []) vs) in
      omega arith;
  within = λ inside.
      let a : highest_unit (suc (suc inside)) (us ++ ModuleEnd e ∷ []) ≡ max (highest_unit (suc (suc inside)) us) 0 = h.beside (suc (suc inside)) (ModuleEnd e ∷ []) in
      let b : highest_unit (suc inside) (us ++ ModuleEnd e ∷ []) ≡ max (highest_unit (suc inside) us) 0 = h.beside (suc inside) (ModuleEnd e ∷ []) in
      let c : max (suc (suc inside)) (highest_unit (suc (suc inside)) us) ≡ suc (max (suc inside) (highest_unit (suc inside) us)) = h.within (suc inside) in
      omega arith;
}

both-stand : (us vs : List UnitTree) → Stands us → Stands vs → Stands (us ++ vs)
both-stand us vs h k = record {
  beside = λ inside ws.
      let a : highest_unit inside (us ++ (vs ++ ws)) ≡ max (highest_unit inside us) (highest_unit inside (vs ++ ws)) = h.beside inside (vs ++ ws) in
      let b : highest_unit inside (vs ++ ws) ≡ max (highest_unit inside vs) (highest_unit inside ws) = k.beside inside ws in
      let c : highest_unit inside (us ++ vs) ≡ max (highest_unit inside us) (highest_unit inside vs) = h.beside inside vs in
      let d : highest_unit inside ((us ++ vs) ++ ws) ≡ highest_unit inside (us ++ (vs ++ ws)) = ap (highest_unit inside) (append_assoc us vs ws) in
      omega arith;
  within = λ inside.
      let a : highest_unit (suc inside) (us ++ vs) ≡ max (highest_unit (suc inside) us) (highest_unit (suc inside) vs) = h.beside (suc inside) vs in
      let b : highest_unit inside (us ++ vs) ≡ max (highest_unit inside us) (highest_unit inside vs) = h.beside inside vs in
      let c : max (suc inside) (highest_unit (suc inside) us) ≡ suc (max inside (highest_unit inside us)) = h.within inside in
      let d : max (suc inside) (highest_unit (suc inside) vs) ≡ suc (max inside (highest_unit inside vs)) = k.within inside in
      omega arith;
}

mutual
  unit-stands : {us : List UnitTree} {a : List Lexeme} {t : Lexeme} → DerivesUnit us a t → Stands us
  unit-stands (variables k d) = single-stands _ refl
  unit-stands (constants k d) = single-stands _ refl
  unit-stands (definition {before = before} {x = x} k d) = single-stands (defined before x) (defined-single before x)
  unit-stands (instance k d) = single-stands _ refl
  unit-stands (assumption k d) = single-stands _ refl
  unit-stands (theorem k d) = single-stands _ refl
  unit-stands (line k d) = single-stands _ refl
  unit-stands (nested {d = dashes} {n = n} {names = names} {units = units} e k ds h) = nested-stands dashes n names units e (units-stand ds)

  units-stand : {us : List UnitTree} {a : List Lexeme} {t : Lexeme} → DerivesUnits us a t → Stands us
  units-stand no_units = record { beside = λ inside vs. omega arith; within = λ inside. omega arith }
  units-stand (more_units {unit = unit} {units = units} d ds) = both-stand unit units (unit-stands d) (units-stand ds)

pub nested-height : (units : List UnitTree) (a : List Lexeme) (next : Lexeme) → DerivesUnits units a next → (dashes n : Lexeme) (names : List Lexeme) (e : Lexeme) → highest_unit 0 (ModuleBegin dashes n names ∷ (units ++ ModuleEnd e ∷ [])) ≡ suc (highest_unit 0 units)
nested-height units a next d dashes n names e =
    let h : Stands units = units-stand d in
    let b : highest_unit 1 (units ++ ModuleEnd e ∷ []) ≡ max (highest_unit 1 units) 0 = h.beside 1 (ModuleEnd e ∷ []) in
    let c : max 1 (highest_unit 1 units) ≡ suc (max 0 (highest_unit 0 units)) = h.within 0 in
    omega arith

pub beside-height : (units : List UnitTree) (a : List Lexeme) (next : Lexeme) → DerivesUnits units a next → (more : List UnitTree) → highest_unit 0 (units ++ more) ≡ max (highest_unit 0 units) (highest_unit 0 more)
beside-height units a next d more = (units-stand d).beside 0 more
