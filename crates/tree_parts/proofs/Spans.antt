-- Places of stretches of lexemes.
use Rattle.std.proofs.Common.{◌≡◌, List, [], ◌∷◌, ◌++◌, Some, refl, ap, append-nil}
use Rattle.tla_symbols.specs.declared.lexeme.Lexeme.{Lexeme}
use Rattle.tla_tree.specs.Lexemes.{place, end_of}
use Rattle.tree_parts.specs.Parts.{span_of, joined, covered}

end-of-append : (t u : Lexeme) (a b : List Lexeme) → end_of t (a ++ u ∷ b) ≡ end_of u b
end-of-append t u [] b = refl
end-of-append t u (v ∷ a) b = end-of-append v u a b

pub span-append : (a b : List Lexeme) → span_of (a ++ b) ≡ joined (span_of a) (span_of b)
span-append [] b = refl
span-append (t ∷ a) [] = ap span_of (append-nil (t ∷ a))
span-append (t ∷ a) (u ∷ b) = ap (λ n. Some (record { start = t.span.start; end = n })) (end-of-append t u a b)

pub covered-span : (a : List Lexeme) → covered (span_of a) ≡ place a
covered-span [] = refl
covered-span (t ∷ a) = refl
