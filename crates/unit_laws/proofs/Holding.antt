-- At most three frames are held: a definition, an instance on its right, and a replacement in that.
use Rattle.std.proofs.Common.{◌≡◌, ℕ, ◌≤◌, List, length, Some, subst, arith}
use Rattle.tla_symbols.specs.declared.lexeme.Lexeme.{Lexeme}
use Rattle.unit_grammar.specs.Units.{UnitTree}
use Rattle.unit_machine.specs.Machine.{Frame, Begun, Focus, State, held, run, opening}
use Rattle.unit_laws.proofs.Views.{Sort, parameters, replacements, body_instance, Stack, base, above, Under, claims, awaits, FocusOk, at_opening, at_word, at_name, at_dashes, at_read, at_extends, at_extended, at_unit, at_line, at_local, at_variable, at_variables, at_closed, at_declared, at_part, at_expression, at_bounds}
use Rattle.unit_laws.proofs.Soundness.{GoingOk, opening-sound}

-- the frames that may stand below a part of a sort
abbrev deep : Sort → ℕ
deep Sort.Definition = 0
deep Sort.Declaration = 1
deep Sort.Instance = 1
deep Sort.Replacement = 2

few-below : {begun : Begun} {s : Sort} {fs : List Frame} {c : List Lexeme} → Stack begun s fs c → length fs ≤ deep s
few-below (base e) = omega arith
few-below (above k (parameters i j h)) = let n : length _ ≤ 0 = few-below k in omega arith
few-below (above k (replacements i j m h)) = let n : length _ ≤ 1 = few-below k in omega arith
few-below (above k (body_instance d h m)) = let n : length _ ≤ 0 = few-below k in omega arith

few-deep : (s : Sort) → deep s ≤ 2
few-deep Sort.Definition = omega arith
few-deep Sort.Declaration = omega arith
few-deep Sort.Instance = omega arith
few-deep Sort.Replacement = omega arith

few-under : {begun : Begun} {fs : List Frame} {c : List Lexeme} → Under begun fs c → length fs ≤ 3
few-under (claims e) = omega arith
few-under (awaits {s = s} {gs = gs} k aw) = let n : length gs ≤ deep s = few-below k in let m : deep s ≤ 2 = few-deep s in omega arith

few-held : {depth : ℕ} {us : List UnitTree} {focus : Focus} {p : List Lexeme} → FocusOk depth us focus p → held focus ≤ 3
few-held (at_part {s = s} {fs = fs} q l c g o k h) = let n : length fs ≤ deep s = few-below k in let m : deep s ≤ 2 = few-deep s in omega arith
few-held (at_expression q l c g o u e) = few-under u
few-held (at_bounds q l g s k m e) = omega arith
few-held at_opening = omega arith
few-held (at_word k) = omega arith
few-held (at_name q d w o k l) = omega arith
few-held (at_dashes q d w o k l m) = omega arith
few-held (at_read q d w x o k l m i) = omega arith
few-held (at_extends q d w x y c o k l m i j h) = omega arith
few-held (at_extended q d w x y ns c v o k l m i j h f) = omega arith
few-held (at_unit g) = omega arith
few-held (at_line q g k) = omega arith
few-held (at_local q g k) = omega arith
few-held (at_variable q w c g k h) = omega arith
few-held (at_variables q w ns c v g k h f) = omega arith
few-held (at_closed w) = omega arith
few-held (at_declared q w xs x d b g k h m) = omega arith

pub holds-few : (lexemes : List Lexeme) (reached : State) → run (Some opening) lexemes ≡ Some reached → held reached.focus ≤ 3
holds-few lexemes reached e = few-held (subst (λ o. GoingOk lexemes o) e (opening-sound lexemes))
