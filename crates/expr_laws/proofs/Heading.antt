-- The machine reads bounds that stand alone.
use Rattle.std.proofs.Common.{◌≡◌, ℕ, inl, List, [], ◌∷◌, ◌++◌, Option, Some, None, refl, ap, sym, subst, ◌∙◌, append-nil, arith}
use Rattle.tla_symbols.specs.declared.lexeme.Lexeme.{Lexeme}
use Rattle.tla_tree.specs.declared.form.Form.{Form}
use Rattle.tla_tree.specs.Syntax.{Tree, Trees, trees}
use Rattle.tla_tree.specs.Lexemes.{built, joined}
use Rattle.tla_tree.specs.Derivation.{DerivesBound, DerivesBounds, last_bound, more_bounds}
use Rattle.expr_grammar.specs.declared.wait.Binding.TheVariants as Binding
use Rattle.expr_grammar.specs.declared.wait.Wait.{Wait}
use Rattle.expr_grammar.specs.declared.wait.Conversion.TheVariants as Conversion
use Rattle.expr_grammar.specs.declared.wait.PartMove.{PartMove}
use Rattle.expr_grammar.specs.Tables.{absorbs, shape, at_part}
use Rattle.expr_grammar.specs.Machine.{Frame, frame, State, ready, moved, part_step, node_with, run, finish_bounds, close_bounds, parse_bounds}
use Rattle.expr_laws.proofs.Tabled.{Part, closed, headed, finished, EndsHead, head_at_end, Ends, at_end as ends_at_end}
use Rattle.expr_laws.proofs.Completeness.{rest_part, tied-part, opened, reads-part, marked-part, complete-have, From-zero}
use Rattle.expr_laws.proofs.Asking.{mark-follows}
use Rattle.expr_laws.proofs.Bounding.{Ended}
use Rattle.expr_laws.proofs.Starting.{mark-role, trees-snoc, joined-snoc}
use Rattle.expr_laws.proofs.TablesDerive.{gen-bound}
use Rattle.expr_laws.proofs.PartShapes.{bound-shape}

ends-round : (v : Wait) (ps : List Tree) (a : List Lexeme) (x : Tree) (b : List Lexeme) (f : Frame) (fs : List Frame) (form : Form) (i : ℕ) → Ends v x i form None → close_bounds (frame v ps a ∷ f ∷ fs) x b ≡ close_bounds (f ∷ fs) (built form (trees (ps ++ x ∷ [])) (a ++ b)) (a ++ b)
ends-round v ps a x b f fs form i (ends_at_end e) = rw e

-- what is open ends at the end
opened-bounds : {w : Wait} {x : Tree} {a : List Lexeme} {i : ℕ} {o : Option Lexeme} (d : Part w x a i o) (qs : List Tree) (c : List Lexeme) (fs : List Frame) → o ≡ None → absorbs w ≡ None → finish_bounds (Some (opened d (frame w qs c ∷ fs))) ≡ close_bounds (frame w qs c ∷ fs) x a
opened-bounds {w = w} {x = x} {a = a} (closed k) qs c fs q u = ap (λ z. finish_bounds (Some z)) (complete-have w qs c fs x a u)
opened-bounds {w = w} {i = i} (headed {v = v} {ps = ps} {a = a} form p e) qs c fs q u = head (subst (λ z. EndsHead v i form z) q e)
  where
    head : EndsHead v i form None → finish_bounds (Some (opened (headed {v = v} form p e) (frame w qs c ∷ fs))) ≡ close_bounds (frame w qs c ∷ fs) (built form (trees ps) a) a
    head (head_at_end f) = rw f
opened-bounds {w = w} {i = i} (finished {v = v} {x = x} {ps = ps} {a = a} {b = b} form p d k n e) qs c fs q u =
    opened-bounds d ps a (frame w qs c ∷ fs) q n ∙ ends-round v ps a x b (frame w qs c) fs form i (subst (λ z. Ends v x i form z) q e)

bound-part : {x : Tree} {a : List Lexeme} {o : Option Lexeme} → DerivesBound x a 0 o → Ended 0 o → Part Wait.WholeBounds x a 0 o
bound-part d f = gen-bound d Wait.WholeBounds Binding.Bound refl refl (inl refl) f

bounds-read : {xs : Trees} {a : List Lexeme} {o : Option Lexeme} → DerivesBounds xs a 0 o → o ≡ None → (ps : List Tree) (c : List Lexeme) → finish_bounds (run (Some (ready (frame Wait.WholeBounds ps c ∷ []))) a) ≡ Some (joined (trees ps) xs)
bounds-read {o = o} (last_bound {x = x} {a = a} d) q ps c =
    let p : Part Wait.WholeBounds x a 0 o = bound-part d (subst (Ended 0) (sym q) (λ qs. tt)) in
    let e : a ≡ rest_part p ++ [] = tied-part p ∙ sym (append-nil (rest_part p)) in
    let r : run (Some (ready (frame Wait.WholeBounds ps c ∷ []))) (rest_part p ++ []) ≡ Some (opened p (frame Wait.WholeBounds ps c ∷ [])) = reads-part p ps c [] [] refl (From-zero (rest_part p)) in
    let s : close_bounds (frame Wait.WholeBounds ps c ∷ []) x a ≡ Some (trees (ps ++ x ∷ [])) = rw (bound-shape d) in
    ap (λ z. finish_bounds (run (Some (ready (frame Wait.WholeBounds ps c ∷ []))) z)) e ∙ (ap finish_bounds r ∙ (opened-bounds p ps c [] q refl ∙ (s ∙ ap Some (trees-snoc ps x))))
bounds-read (more_bounds {x = x} {xs = xs} {a = a} {b = b} t k d rest) q ps c =
    let p : Part Wait.WholeBounds x a 0 (Some t) = bound-part d (λ qs. mark-follows 0 qs t _ k refl refl) in
    let e : a ++ t ∷ b ≡ rest_part p ++ t ∷ b = ap (λ z. z ++ t ∷ b) (tied-part p) in
    let m : at_part Wait.WholeBounds (shape x) t ≡ PartMove.Goes Wait.WholeBounds Conversion.Keep = rw (bound-shape d, k) in
    let go : Form → Option State = λ form. part_step [] (node_with form (frame Wait.WholeBounds ps c) x a) (c ++ a) t in
    let r : run (Some (ready (frame Wait.WholeBounds ps c ∷ []))) (rest_part p ++ t ∷ b) ≡ run (moved (at_part Wait.WholeBounds (shape x) t) (frame Wait.WholeBounds ps c) [] x a t go) b =
    marked-part p ps c [] t b refl refl refl (mark-role t _ k refl) (omega arith) (reads-part p ps c [] (t ∷ b) refl (From-zero (rest_part p)))
    in
    ap (λ z. finish_bounds (run (Some (ready (frame Wait.WholeBounds ps c ∷ []))) z)) e
    ∙ (ap finish_bounds (r ∙ ap (λ z. run (moved z (frame Wait.WholeBounds ps c) [] x a t go) b) m)
    ∙ (bounds-read rest q (ps ++ x ∷ []) (c ++ (a ++ t ∷ [])) ∙ ap Some (joined-snoc ps x xs)))

-- bounds alone are accepted
pub derives-bounds : (bounds : Trees) (lexemes : List Lexeme) → DerivesBounds bounds lexemes 0 None → parse_bounds lexemes ≡ Some bounds
derives-bounds bounds lexemes d = bounds-read d refl [] []
