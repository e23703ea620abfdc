-- What is found of levels in a tree stands at its nodes and its lexemes.
use Rattle.std.proofs.Common.{ℕ, Bool, true, false, List, [], ◌∷◌, ◌++◌, Option, Some, None, if◌then◌else◌, map}
use Rattle.std.specs.Prelude.{◌&&◌}
use Rattle.std.specs.List.{AllByRecursion}
use Rattle.list_laws.proofs.Lists.{all-both, all-either, all-left, all-right, all-three}
use Rattle.tla_symbols.specs.declared.lexeme.LexKind.TheVariants as LexKind
use Rattle.tla_symbols.specs.declared.lexeme.Lexeme.{Lexeme}
use Rattle.tla_symbols.specs.declared.lexeme.Span.{Span}
use Rattle.tla_symbols.specs.declared.op.Op.TheVariants as Op
use Rattle.tla_tree.specs.declared.form.Form.TheVariants as Form
use Rattle.tla_tree.specs.Syntax.{Tree, Trees, Node, Nil, Cons}
use Rattle.tla_model.specs.declared.entity.Level.{Level}
use Rattle.tla_model.specs.Entities.{Meaning, Text}
use Rattle.tla_model.specs.Lexemes.{all_lexemes, form_lexemes, lexemes}
use Rattle.tla_model.specs.Scopes.{is_free, prefixed, itself as as_spelled}
use Rattle.tla_model.specs.Tables.{Named, same_named}
use Rattle.module_model.specs.Exports.{Exports, Known}
use Rattle.kind_text.specs.ExpandedKind.{Expanded, kind}
use Rattle.span_laws.specs.NodeSpans.{PartSpans, TreeSpans}
use Rattle.tree_kinds.specs.Standing.{Outside}
use Rattle.tree_kinds.specs.Expanding.{Around, Replaced, Written, before_scope, behind_tree, greatest_level, in_update, module_of, replaced_by, replaced_text, replacements, right_sides, stands_outside, written_for}
use Rattle.tree_kinds.specs.TreeLevels.{LevelFinding, Refused, NotConstant, TooHigh, Leveled, assumed, at_node, form_levels, function_text, high_in, high_replacement, high_replacements, in_body, is_above, is_judged, is_refused, kind_at, level_word, levels, levels_chain, levels_parts, levels_replaced, levels_updates, path_levels, refusal, symbol_level}
use Rattle.level_spans.specs.LevelSpans.{StandsAt}

module _ (P : Span → Type 0) where
  abbrev At : Lexeme → Type 0
  At l = P l.span

  abbrev Stand : List LevelFinding → Type 0
  Stand found = AllByRecursion (StandsAt P) found

  -- ---- uses

  symbol-stands : (level : Level) (l : Lexeme) (which : Op.the_data → Op.the_data) (kind : LexKind.the_data) → P l.span → Stand (symbol_level level l which kind)
  symbol-stands level l which (LexKind.Sym op) p = all-either (StandsAt P) (is_free (which op)) (Leveled l level ∷ []) [] (p, tt) tt
  symbol-stands level l which _ p = tt

  path-stands : (level : Level) (parts : Trees) → AllByRecursion At (all_lexemes parts) → Stand (path_levels level parts)
  path-stands level Nil held = tt
  path-stands level (Cons (Node (Form.Segment l) s arguments) Nil) held = (held.0, tt)
  path-stands level (Cons (Node (Form.Segment l) s arguments) (Cons x rest)) held =
      (held.0, path-stands level (Cons x rest) (all-right At (all_lexemes arguments) (all_lexemes (Cons x rest)) held.1))
  path-stands level (Cons (Node form s parts) rest) held = path-stands level rest (all-right At (form_lexemes form ++ all_lexemes parts) (all_lexemes rest) held)

  form-stands : (level : Level) (form : Form.the_data) (parts : Trees) → AllByRecursion At (form_lexemes form) → AllByRecursion At (all_lexemes parts) → Stand (form_levels level form parts)
  form-stands level Form.Identifier parts own inner = path-stands level parts inner
  form-stands level (Form.Symbol l) parts own inner = symbol-stands level l as_spelled l.kind own.0
  form-stands level (Form.Prefix l) parts own inner = symbol-stands level l prefixed l.kind own.0
  form-stands level (Form.Infix l) parts own inner = symbol-stands level l as_spelled l.kind own.0
  form-stands level (Form.Postfix l) parts own inner = symbol-stands level l as_spelled l.kind own.0
  form-stands level form parts own inner = tt

  -- ---- replacements

  abbrev Highs : List Replaced → Type 0
  Highs rs = AllByRecursion (λ (r : Replaced). P r.at) rs

  abbrev Rights : List Written → Type 0
  Rights rights = AllByRecursion (λ (r : Written). P r.at) rights

  -- a right side that is found stands so
  abbrev IsRightAt : Option Written → Type 0
  IsRightAt None = Unit {0}
  IsRightAt (Some right) = P right.at

  high-stands : (constant : Bool) (rs : List Replaced) → Highs rs → Stand (high_replacements constant rs)
  high-stands constant [] all = tt
  high-stands constant (r ∷ rest) all =
      all-both (StandsAt P) (high_replacement constant r) (high_replacements constant rest)
      (all-either (StandsAt P) (is_above (greatest_level constant r.parameter) (kind (replaced_text r))) (TooHigh r.at ∷ []) [] (all.0, tt) tt) (high-stands constant rest all.1)

  written-at : (rights : List Written) (name : Named) → Rights rights → IsRightAt (written_for rights name)
  written-at [] name all = tt
  written-at (right ∷ rest) name all = by (same_named name right.name) (written-at rest name all.1)
    where
      by : (b : Bool) → IsRightAt (written_for rest name) → IsRightAt (if b then Some right else written_for rest name)
      by true later = all.0
      by false later = later

  one-replaced : (around : Around) (l : Lexeme) (parameter : Named × Meaning) (found : Option Written) → P l.span → IsRightAt found → P (replaced_by around l parameter found).at
  one-replaced around l parameter None p right = p
  one-replaced around l parameter (Some written) p right = right

  all-replaced : (around : Around) (l : Lexeme) (rights : List Written) (parameters : Exports) → P l.span → Rights rights → Highs (map (λ parameter. replaced_by around l parameter (written_for rights parameter.0)) parameters)
  all-replaced around l rights [] p all = tt
  all-replaced around l rights (parameter ∷ rest) p all = (one-replaced around l parameter (written_for rights parameter.0) p (written-at rights parameter.0 all), all-replaced around l rights rest p all)

  -- ---- trees

  chosen : (b : Bool) (xs ys : List LevelFinding) → Stand xs → Stand ys → Stand (elim b [ true ↦ xs | false ↦ ys ])
  chosen true xs ys one other = one
  chosen false xs ys one other = other

  module _ (text : Text) (known : Known) (named : List ℕ → Outside) where
    rights-stand : (around : Around) (parts : Trees) → PartSpans P parts → Rights (right_sides text known named around parts)
    rights-stand around Nil spans = tt
    rights-stand around (Cons (Node (Form.Replacement l) s (Cons (Node form at parts) others)) rest) spans = (spans.0.1.0.0, rights-stand around rest spans.1)
    rights-stand around (Cons x rest) spans = rights-stand around rest spans.1

    high-in-stands : (around : Around) (l : Lexeme) (parts : Trees) → P l.span → PartSpans P parts → Stand (high_in text known named around l parts)
    high-in-stands around l parts p spans =
        let rights : List Written = right_sides text known named around parts in
        high-stands (module_of text known named l).is_constant (replacements text known named around l rights)
        (all-replaced around l rights (module_of text known named l).view.parameters p (rights-stand around parts spans))

    node-stands : (around : Around) (form : Form.the_data) (s : Span) (parts : Trees) → P s → AllByRecursion At (form_lexemes form ++ all_lexemes parts) → Stand (at_node text known named around form s parts)
    node-stands around form s parts p held =
        let level : Level = level_word (kind_at text known named around (Node form s parts)) in
        all-both (StandsAt P) (form_levels level form parts) (refusal text known named around form s (Node form s parts))
        (form-stands level form parts (all-left At (form_lexemes form) (all_lexemes parts) held) (all-right At (form_lexemes form) (all_lexemes parts) held))
        (all-either (StandsAt P) (is_judged form && is_refused text known named around (Node form s parts) (kind_at text known named around (Node form s parts))) (Refused s ∷ []) [] (p, tt) tt)

    mutual
      pub tree-stands : (around : Around) (x : Tree) → TreeSpans P x → AllByRecursion At (lexemes x) → Stand (levels text known named around x)
      tree-stands around (Node Form.Let s parts) spans held = chain-stands around parts spans.1 held
      tree-stands around (Node Form.Except s (Cons function updates)) spans held =
          all-three (StandsAt P) (at_node text known named around Form.Except s (Cons function updates)) (levels text known named around function) (levels_updates text known named around (function_text text known named around function) updates)
          (node-stands around Form.Except s (Cons function updates) spans.0 held) (tree-stands around function spans.1.0 (all-left At (lexemes function) (all_lexemes updates) held))
          (updates-stand around (function_text text known named around function) updates spans.1.1 (all-right At (lexemes function) (all_lexemes updates) held))
      tree-stands around (Node (Form.Instance l) s parts) spans held =
          all-both (StandsAt P) (levels_replaced text known named around l parts) (high_in text known named around l parts) (replaced-stand around l parts spans.1 held.1) (high-in-stands around l parts held.0 spans.1)
      tree-stands around (Node form s parts) spans held =
          let before : Around = before_scope text known named around form parts in
          let inside : Around = in_body text known named around form parts in
          all-both (StandsAt P) (at_node text known named around form s parts) (levels_parts text known named before inside parts) (node-stands around form s parts spans.0 held)
          (parts-stand before inside parts spans.1 (all-right At (form_lexemes form) (all_lexemes parts) held))

      parts-stand : (outside around : Around) (parts : Trees) → PartSpans P parts → AllByRecursion At (all_lexemes parts) → Stand (levels_parts text known named outside around parts)
      parts-stand outside around Nil spans held = tt
      parts-stand outside around (Cons (Node form s parts) rest) spans held =
          let here : AllByRecursion At (form_lexemes form ++ all_lexemes parts) = all-left At (form_lexemes form ++ all_lexemes parts) (all_lexemes rest) held in
          let later : Stand (levels_parts text known named outside around rest) = parts-stand outside around rest spans.1 (all-right At (form_lexemes form ++ all_lexemes parts) (all_lexemes rest) held) in
          chosen (stands_outside form) (levels_parts text known named outside outside parts ++ levels_parts text known named outside around rest) (levels text known named around (Node form s parts) ++ levels_parts text known named outside around rest)
          (all-both (StandsAt P) (levels_parts text known named outside outside parts) (levels_parts text known named outside around rest) (parts-stand outside outside parts spans.0.1 (all-right At (form_lexemes form) (all_lexemes parts) here)) later)
          (all-both (StandsAt P) (levels text known named around (Node form s parts)) (levels_parts text known named outside around rest) (tree-stands around (Node form s parts) spans.0 here) later)

      chain-stands : (around : Around) (parts : Trees) → PartSpans P parts → AllByRecursion At (all_lexemes parts) → Stand (levels_chain text known named around parts)
      chain-stands around Nil spans held = tt
      chain-stands around (Cons x rest) spans held =
          let behind : Around = behind_tree text known named around x in
          all-both (StandsAt P) (levels text known named around x) (levels_chain text known named behind rest) (tree-stands around x spans.0 (all-left At (lexemes x) (all_lexemes rest) held))
          (chain-stands behind rest spans.1 (all-right At (lexemes x) (all_lexemes rest) held))

      updates-stand : (around : Around) (function : Expanded) (parts : Trees) → PartSpans P parts → AllByRecursion At (all_lexemes parts) → Stand (levels_updates text known named around function parts)
      updates-stand around function Nil spans held = tt
      updates-stand around function (Cons (Node form s parts) rest) spans held =
          let here : AllByRecursion At (form_lexemes form ++ all_lexemes parts) = all-left At (form_lexemes form ++ all_lexemes parts) (all_lexemes rest) held in
          let inside : Around = in_update text known named around function parts in
          all-both (StandsAt P) (levels_parts text known named around inside parts) (levels_updates text known named around function rest) (parts-stand around inside parts spans.0.1 (all-right At (form_lexemes form) (all_lexemes parts) here))
          (updates-stand around function rest spans.1 (all-right At (form_lexemes form ++ all_lexemes parts) (all_lexemes rest) held))

      replaced-stand : (around : Around) (l : Lexeme) (parts : Trees) → PartSpans P parts → AllByRecursion At (all_lexemes parts) → Stand (levels_replaced text known named around l parts)
      replaced-stand around l Nil spans held = tt
      replaced-stand around l (Cons (Node (Form.Replacement left) s right) rest) spans held = (
        held.0,
        all-both (StandsAt P) (levels_parts text known named around around right) (levels_replaced text known named around l rest) (parts-stand around around right spans.0.1 (all-left At (all_lexemes right) (all_lexemes rest) held.1))
            (replaced-stand around l rest spans.1 (all-right At (all_lexemes right) (all_lexemes rest) held.1)),
      )
      replaced-stand around l (Cons (Node form s parts) rest) spans held = replaced-stand around l rest spans.1 (all-right At (form_lexemes form ++ all_lexemes parts) (all_lexemes rest) held)

    pub assumed-stands : (around : Around) (x : Tree) → TreeSpans P x → Stand (assumed text known named around x)
    assumed-stands around (Node form s parts) spans = all-either (StandsAt P) (is_above 0 (kind_at text known named around (Node form s parts))) (NotConstant s ∷ []) [] (spans.0, tt) tt
