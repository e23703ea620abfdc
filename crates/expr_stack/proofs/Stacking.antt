-- Frames and parts as they come and go.
use Rattle.std.proofs.Common.{◌≡◌, ℕ, List, [], ◌∷◌, ◌++◌, length, take, drop, ap, sym, ◌∙◌, length-append, arith, Option}
use Rattle.std.specs.Prelude.{map, reverse}
use Rattle.std.proofs.lemmas.List.{take-append-le, drop-append-le, reverse-append}
use Rattle.tla_symbols.specs.declared.lexeme.Lexeme.{Lexeme}
use Rattle.tla_symbols.specs.declared.lexeme.Span.{Span}
use Rattle.tla_tree.specs.declared.form.Form.{Form}
use Rattle.tla_tree.specs.Arena.{Node, tree_at}
use Rattle.tla_tree.specs.Lexemes.{built}
use Rattle.tla_tree.specs.Syntax.{Tree, trees}
use Rattle.expr_grammar.specs.declared.wait.Wait.{Wait}
use Rattle.expr_grammar.specs.Machine as Machine
use Rattle.expr_grammar.specs.Machine.{inside, inner}
use Rattle.expr_stack.specs.declared.stack.Frame.{Frame}
use Rattle.expr_stack.specs.declared.stack.Opening.{Opening}
use Rattle.tree_parts.specs.declared.part.Part.{Part}
use Rattle.expr_stack.specs.declared.stack.Stack.{Stack}
use Rattle.tree_parts.specs.Parts.{span_of, joined, covered, IsPart}
use Rattle.expr_stack.specs.StackMeaning.{IsOf, Stands, Opens, Made}
use Rattle.tree_parts.proofs.Spans.{span-append, covered-span}
use Rattle.tree_parts.proofs.Growing.{grows-one, new-node, there-append, map-append}
use Rattle.expr_stack.proofs.Growing.{frames-grow}

-- one part more
pub of-more : (nodes : List Node) (ks : List ℕ) (span : Option Span) (ps : List Tree) (a : List Lexeme) (part : Part) (e : Tree) (b : List Lexeme) → IsOf nodes ks span ps a → IsPart nodes part e b → IsOf nodes (ks ++ part.node ∷ []) (joined span part.span) (ps ++ e ∷ []) (a ++ b)
of-more nodes ks span ps a part e b o p = record {
  there = there-append nodes ks (part.node ∷ []) o.there (p.there, tt);
  are = map-append nodes ks (part.node ∷ []) ∙ (ap (λ z. z ++ tree_at nodes part.node ∷ []) o.are ∙ ap (λ z. ps ++ z ∷ []) p.is);
  span = ap (λ z. joined z part.span) o.span ∙ (ap (λ z. joined (span_of a) z) p.span ∙ sym (span-append a b));
}

-- lexemes more
pub of-read : (nodes : List Node) (ks : List ℕ) (span : Option Span) (ps : List Tree) (a : List Lexeme) (last : Option Span) (b : List Lexeme) → IsOf nodes ks span ps a → last ≡ span_of b → IsOf nodes ks (joined span last) ps (a ++ b)
of-read nodes ks span ps a last b o l = record {
  there = o.there;
  are = o.are;
  span = ap (λ z. joined z last) o.span ∙ (ap (λ z. joined (span_of a) z) l ∙ sym (span-append a b));
}

pub opens-more : (nodes : List Node) (stack stack' : Stack) (opening more : Opening) (part : Part) (ps : List Tree) (a : List Lexeme) (below : List Machine.Frame) (e : Tree) (b : List Lexeme) → stack'.frames.items ≡ stack.frames.items → stack'.parts.items ≡ stack.parts.items ++ part.node ∷ [] → more ≡ record { first = opening.first; span = joined opening.span part.span } → Opens nodes stack opening ps a below → IsPart nodes part e b → Opens nodes stack' more (ps ++ e ∷ []) (a ++ b) below
opens-more nodes stack stack' opening more part ps a below e b f k m o p = rw m (record {
  first = rw k (omega (arith, o.first, length-append stack.parts.items (part.node ∷ [])));
  own = rw (k, drop-append-le opening.first stack.parts.items (part.node ∷ []) o.first) (of-more nodes _ _ ps a part e b o.own p);
  stands = rw (f, k, take-append-le opening.first stack.parts.items (part.node ∷ []) o.first) o.stands;
})

pub opens-read : (nodes : List Node) (stack : Stack) (opening more : Opening) (last : Option Span) (ps : List Tree) (a : List Lexeme) (below : List Machine.Frame) (b : List Lexeme) → more ≡ record { first = opening.first; span = joined opening.span last } → last ≡ span_of b → Opens nodes stack opening ps a below → Opens nodes stack more ps (a ++ b) below
opens-read nodes stack opening more last ps a below b m l o = rw m (record {
  first = o.first;
  own = of-read nodes _ _ ps a last b o.own l;
  stands = o.stands;
})

reverse-snoc : (hs : List Frame) (h : Frame) → reverse (hs ++ h ∷ []) ≡ h ∷ reverse hs
reverse-snoc hs h = reverse-append hs (h ∷ [])

-- a frame on the stack
pub put-stands : (nodes : List Node) (stack stack' : Stack) (held : Frame) (wait : Wait) (opening : Opening) (below-inner : ℕ) (ps : List Tree) (a : List Lexeme) (below : List Machine.Frame) → stack'.frames.items ≡ stack.frames.items ++ held ∷ [] → stack'.parts.items ≡ stack.parts.items → held.wait ≡ wait → held.opening ≡ opening → held.inner ≡ inside wait below-inner → below-inner ≡ inner below → Opens nodes stack opening ps a below → Stands nodes stack' (Machine.frame wait ps a ∷ below)
put-stands nodes stack stack' held wait opening below-inner ps a below f k w q i j o =
    rw (f, k, reverse-snoc stack.frames.items held)
    (w, i ∙ ap (inside wait) j, rw q o.first, rw q o.own, rw q o.stands)

pub made-is : (nodes more : List Node) (stack stack' : Stack) (opening : Opening) (form : Form) (span : Span) (children : List ℕ) (number : ℕ) (ps : List Tree) (a : List Lexeme) (below : List Machine.Frame) → span ≡ covered opening.span → children ≡ drop opening.first stack.parts.items → more ≡ nodes ++ record { form = form; span = span; children = children } ∷ [] → number ≡ length nodes → stack'.frames.items ≡ stack.frames.items → stack'.parts.items ≡ take opening.first stack.parts.items → Opens nodes stack opening ps a below → Made nodes more stack' (record { node = number; span = opening.span }) (built form (trees ps) a) a below
made-is nodes more stack stack' opening form span children number ps a below v w e n f k o =
    let added : Node = record { form = form; span = span; children = children } in
    let g = grows-one nodes more added e in
    let t = new-node nodes more number form span children ps e n (ap (λ z. map (tree_at nodes) z) w ∙ o.own.are) in
    let s : span ≡ Rattle.tla_tree.specs.Lexemes.place a = v ∙ (ap covered o.own.span ∙ covered-span a) in
    record {
      grows = g;
      one = rw e (length-append nodes (added ∷ []));
      stands = rw (f, k) (frames-grow nodes more _ _ below g o.stands);
      is = record {
        there = t.0;
        is = t.1 ∙ ap (λ z. Rattle.tla_tree.specs.Syntax.Node form z (trees ps)) s;
        span = o.own.span;
      };
    }
