-- What is asked at one node is answered by what is found there.
use Rattle.std.proofs.Common.{◌≡◌, ℕ, Bool, true, false, cond, List, [], ◌∷◌, ◌++◌, refl, sym, ap, ◌∙◌}
use Rattle.std.specs.Prelude.{◌&&◌, is_some, not, slice_get}
use Rattle.tla_symbols.specs.declared.lexeme.LexKind.TheVariants as LexKind
use Rattle.tla_symbols.specs.declared.lexeme.Lexeme.{Lexeme}
use Rattle.tla_symbols.specs.declared.lexeme.Span.{Span}
use Rattle.tla_symbols.specs.declared.op.Op.TheVariants as Op
use Rattle.tla_tree.specs.declared.form.Form.TheVariants as Form
use Rattle.tla_tree.specs.Syntax.{Tree, Trees, Node, Nil, Cons}
use Rattle.tla_model.specs.declared.entity.Level.{Level}
use Rattle.tla_model.specs.Entities.{Meaning, Text}
use Rattle.tla_model.specs.Scopes.{is_free, prefixed, itself as as_spelled}
use Rattle.module_model.specs.Exports.{Known}
use Rattle.kind_text.specs.ExpandedKind.{all_kinds, kinds}
use Rattle.kind_text.specs.FlatModule.{FlatModule}
use Rattle.tree_kinds.specs.Standing.{Outside}
use Rattle.tree_kinds.specs.Expanding.{Around, made_of}
use Rattle.tree_kinds.specs.TreeLevels.{LevelFinding, Leveled, Refused, at_node, form_levels, is_judged, kind_at, level_word, path_levels, refusal, symbol_level}
use Rattle.flattened_trees.specs.Questions.{Asked, HasKind, Question, UseOf, asks_at, form_asks, kind_asks, over, path_asks, symbol_asks}
use Rattle.flattened_trees.specs.Answers.{kind_in, level_answer, level_answers, parts_have_kinds}

pub found-apart : (a b c : List LevelFinding) → (a ++ b) ++ c ≡ a ++ (b ++ c)
found-apart [] b c = refl
found-apart (x ∷ a) b c = ap (λ ys. x ∷ ys) (found-apart a b c)

pub found-nil : (a : List LevelFinding) → a ++ [] ≡ a
found-nil [] = refl
found-nil (x ∷ a) = ap (λ ys. x ∷ ys) (found-nil a)

module _ (flat : FlatModule) where
  pub answers-append : (a b : List Question) → level_answers flat (a ++ b) ≡ level_answers flat a ++ level_answers flat b
  answers-append [] b = refl
  answers-append (q ∷ a) b =
      ap (λ ys. level_answer flat q.frame q.asked ++ ys) (answers-append a b) ∙ sym (found-apart (level_answer flat q.frame q.asked) (level_answers flat a) (level_answers flat b))

  -- two answers in a row
  pub answers-parted : (asked a b : List Question) (found more : List LevelFinding) → asked ≡ a ++ b → level_answers flat a ≡ found → level_answers flat b ≡ more → level_answers flat asked ≡ found ++ more
  answers-parted asked a b found more parted one other =
      ap (level_answers flat) parted ∙ answers-append a b ∙ ap (λ xs. xs ++ level_answers flat b) one ∙ ap (λ ys. found ++ ys) other

  pub over-append : (frame : List Meaning) (a b : List Asked) → over frame (a ++ b) ≡ over frame a ++ over frame b
  over-append frame [] b = refl
  over-append frame (x ∷ a) b = ap (λ qs. record { frame = frame; asked = x } ∷ qs) (over-append frame a b)

  module _ (frame : List Meaning) (i : ℕ) where
    path-asked : (parts : Trees) → level_answers flat (over frame (path_asks i parts)) ≡ path_levels (level_word (kind_in flat frame i)) parts
    path-asked Nil = refl
    path-asked (Cons (Node (Form.Segment l) s arguments) Nil) = refl
    path-asked (Cons (Node (Form.Segment l) s arguments) (Cons x rest)) = ap (λ ys. Leveled l Level.Instance ∷ ys) (path-asked (Cons x rest))
    path-asked (Cons (Node form s arguments) rest) = path-asked rest

    symbol-asked : (l : Lexeme) (which : Op.the_data → Op.the_data) (kind : LexKind.the_data) → level_answers flat (over frame (symbol_asks i l which kind)) ≡ symbol_level (level_word (kind_in flat frame i)) l which kind
    symbol-asked l which (LexKind.Sym op) = by_free (is_free (which op))
      where
        by_free : (b : Bool) → level_answers flat (over frame (cond b (UseOf l i ∷ []) [])) ≡ cond b (Leveled l (level_word (kind_in flat frame i)) ∷ []) []
        by_free true = refl
        by_free false = refl
    symbol-asked l which kind = refl

    form-asked : (form : Form.the_data) (parts : Trees) → level_answers flat (over frame (form_asks i form parts)) ≡ form_levels (level_word (kind_in flat frame i)) form parts
    form-asked Form.Identifier parts = path-asked parts
    form-asked (Form.Symbol l) parts = symbol-asked l as_spelled l.kind
    form-asked (Form.Prefix l) parts = symbol-asked l prefixed l.kind
    form-asked (Form.Infix l) parts = symbol-asked l as_spelled l.kind
    form-asked (Form.Postfix l) parts = symbol-asked l as_spelled l.kind
    form-asked form parts = refl

  module _ (text : Text) (known : Known) (named : List ℕ → Outside) where
    -- a node without a kind is made of what has kinds where its tree is
    abbrev pub AreAlike : List Meaning → ℕ → Around → Tree → Type 0
    AreAlike frame i around x =
        (not (is_some (kind_at text known named around x)) && parts_have_kinds flat frame (slice_get flat.nodes i))
        ≡ (not (is_some (kind_at text known named around x)) && is_some (all_kinds (kinds (made_of text known named around x))))

    kind-asked : (frame : List Meaning) (i : ℕ) (around : Around) (form : Form.the_data) (s : Span) (x : Tree) → kind_in flat frame i ≡ kind_at text known named around x → (is_judged form ≡ true → AreAlike frame i around x) → level_answers flat (over frame (kind_asks i form s)) ≡ refusal text known named around form s x
    kind-asked frame i around form s x same alike = by_judged (is_judged form) alike
      where
        refused : (b c : Bool) → b ≡ c → (cond b (Refused s ∷ []) [] ++ []) ≡ cond c (Refused s ∷ []) []
        refused b c e = found-nil (cond b (Refused s ∷ []) []) ∙ ap (λ d. cond d (Refused s ∷ []) []) e

        by_judged : (b : Bool) → (b ≡ true → AreAlike frame i around x) → level_answers flat (over frame (cond b (HasKind s i ∷ []) [])) ≡ cond (b && (not (is_some (kind_at text known named around x)) && is_some (all_kinds (kinds (made_of text known named around x))))) (Refused s ∷ []) []
        by_judged true alike =
            refused (not (is_some (kind_in flat frame i)) && parts_have_kinds flat frame (slice_get flat.nodes i)) _
            (ap (λ k. not (is_some k) && parts_have_kinds flat frame (slice_get flat.nodes i)) same ∙ alike refl)
        by_judged false alike = refl

    -- all that is asked at a node
    pub node-asked : (frame : List Meaning) (i : ℕ) (around : Around) (form : Form.the_data) (s : Span) (parts : Trees) → kind_in flat frame i ≡ kind_at text known named around (Node form s parts) → (is_judged form ≡ true → AreAlike frame i around (Node form s parts)) → level_answers flat (over frame (asks_at i form s parts)) ≡ at_node text known named around form s parts
    node-asked frame i around form s parts same alike =
        answers-parted (over frame (asks_at i form s parts)) (over frame (form_asks i form parts)) (over frame (kind_asks i form s)) _ _ (over-append frame (form_asks i form parts) (kind_asks i form s))
        (form-asked frame i form parts ∙ ap (λ k. form_levels (level_word k) form parts) same)
        (kind-asked frame i around form s (Node form s parts) same alike)
