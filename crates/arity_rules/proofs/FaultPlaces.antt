-- Faults of arity stand at nodes and at lexemes of a module, and at replacements that are not written.
use Rattle.std.proofs.Common.{ℕ, suc, Bool, true, false, List, [], ◌∷◌, ◌++◌, Option, Some, None, not, if◌then◌else◌}
use Rattle.std.specs.Prelude.{nat_eq}
use Rattle.std.specs.List.{AllByRecursion}
use Rattle.list_laws.proofs.Lists.{all-both, all-left, all-right}
use Rattle.tla_symbols.specs.declared.lexeme.Lexeme.{Lexeme}
use Rattle.tla_symbols.specs.declared.lexeme.Span.{Span}
use Rattle.tla_tree.specs.declared.form.Form.TheVariants as Form
use Rattle.tla_tree.specs.Syntax.{Tree, Trees, Node, Nil, Cons, form, span}
use Rattle.unit_grammar.specs.Units.{UnitTree, Variables, Constants, OperatorDefinition, FunctionDefinition, ModuleDefinition, Instance, Assumption, Theorem, Line, ModuleBegin, ModuleEnd}
use Rattle.tla_model.specs.declared.Diagnostic.{Diagnostic}
use Rattle.tla_model.specs.Entities.{Entity}
use Rattle.tla_model.specs.Lexemes.{all_lexemes, form_lexemes, lexemes, unit_lexemes, units_lexemes}
use Rattle.tla_model.specs.Scopes.{Finding}
use Rattle.module_model.specs.declared.bound.Implied.{Implied}
use Rattle.module_model.specs.Bindings.{implied}
use Rattle.span_laws.specs.NodeSpans.{PartSpans, TreeSpans, UnitSpans}
use Rattle.arity_rules.specs.declared.place.Due.TheVariants as due
use Rattle.arity_rules.specs.declared.place.Role.TheVariants as role
use Rattle.arity_rules.specs.Arities.{Due, Role, all_unit_faults, argument_order, arity, arity_faults, confusions, due_by, fault_if, implied_fault, implied_faults, is_miscounted, is_no_expression, is_operator, is_known, is_part_inside, is_path, meaning, other_faults, own_faults, part_due, part_faults, path_faults, replacing_order, role_of, segment_due, symbol_meaning, tree_faults, unit_faults, unknown_faults, use_faults, count}

module _ (P : Span → Type 0) where
  abbrev Stand : List Diagnostic → Type 0
  Stand faults = AllByRecursion (λ (f : Diagnostic). P f.span) faults

  abbrev At : Lexeme → Type 0
  At l = P l.span

  -- an operator that is due is a part that stands so
  abbrev IsDueAt : Due → Type 0
  IsDueAt (due.Operator places whole) = P whole
  IsDueAt _ = Unit {0}

  if-stands : (b : Bool) (code : ℕ) (at : Span) → P at → Stand (fault_if b code at)
  if-stands true code at p = (p, tt)
  if-stands false code at p = tt

  both-stand : (one two : List Diagnostic) → Stand one → Stand two → Stand (one ++ two)
  both-stand one two = all-both (λ (f : Diagnostic). P f.span) one two

  either-stands : (b : Bool) (one two : List Diagnostic) → Stand one → Stand two → Stand (if b then one else two)
  either-stands true one two first second = first
  either-stands false one two first second = second

  confusions-stand : (d : Due) (at : Span) (written : ℕ) (e : Entity) → IsDueAt d → P at → Stand (confusions d at written e)
  confusions-stand due.Expression at written e whole p = if-stands (is_no_expression written e) 502 at p
  confusions-stand (due.Operator places w) at written e whole p = if-stands (not (is_operator places written e)) 502 w whole
  confusions-stand due.Nothing at written e whole p = tt
  confusions-stand due.Qualifier at written e whole p = tt

  unknown-stand : (d : Due) (written : ℕ) → IsDueAt d → Stand (unknown_faults d written)
  unknown-stand (due.Operator places w) written whole = if-stands (not (nat_eq written 0)) 502 w whole
  unknown-stand due.Expression written whole = tt
  unknown-stand due.Nothing written whole = tt
  unknown-stand due.Qualifier written whole = tt

  use-stand : (d : Due) (at : Span) (written : ℕ) (found : Option Entity) → IsDueAt d → P at → Stand (use_faults d at written found)
  use-stand d at written None whole p = unknown-stand d written whole
  use-stand d at written (Some e) whole p =
      both-stand (fault_if (is_miscounted d written e) 501 at) (confusions d at written e) (if-stands (is_miscounted d written e) 501 at p) (confusions-stand d at written e whole p)

  other-stand : (d : Due) → IsDueAt d → Stand (other_faults d)
  other-stand (due.Operator places w) whole = (whole, tt)
  other-stand due.Expression whole = tt
  other-stand due.Nothing whole = tt
  other-stand due.Qualifier whole = tt

  -- ---- what is due

  due-stands : (order : Option ℕ) (whole : Span) → P whole → IsDueAt (due_by order whole)
  due-stands None whole p = tt
  due-stands (Some order) whole p = by (nat_eq order 0)
    where
      by : (b : Bool) → IsDueAt (if b then due.Expression else due.Operator order whole)
      by true = tt
      by false = p

  segment-due-stands : (d : Due) (rest : Trees) → IsDueAt d → IsDueAt (segment_due d rest)
  segment-due-stands d Nil whole = whole
  segment-due-stands d (Cons x rest) whole = tt

  own-span : (x : Tree) → TreeSpans P x → P (span x)
  own-span (Node f s parts) all = all.0

  -- ---- trees

  module _ (means : ℕ → Option Entity) where
    part-due-stands : (r : Role) (index : ℕ) (whole : Span) → P whole → IsDueAt (part_due means r index whole)
    part-due-stands (role.Segment l) index whole p = due-stands (argument_order (means l.span.start) index) whole p
    part-due-stands (role.Replacement l) index whole p = due-stands (replacing_order (means l.span.start)) whole p
    part-due-stands role.Path index whole p = tt
    part-due-stands (role.Symbol l) index whole p = tt
    part-due-stands (role.At l) index whole p = tt
    part-due-stands role.Update index whole p = tt
    part-due-stands role.Other index whole p = tt

    own-stand : (d : Due) (inside : Bool) (f : Form.the_data) (parts : ℕ) → IsDueAt d → AllByRecursion At (form_lexemes f) → Stand (own_faults means d inside (role_of f) parts)
    own-stand d inside Form.Identifier parts whole held = tt
    own-stand d inside (Form.Segment l) parts whole held = use-stand d l.span parts (means l.span.start) whole held.0
    own-stand d inside (Form.Symbol l) parts whole held = use-stand d l.span 0 (symbol_meaning means l.span.start l.kind) whole held.0
    own-stand d inside (Form.At l) parts whole held = both-stand (other_faults d) (fault_if (not inside) 503 l.span) (other-stand d whole) (if-stands (not inside) 503 l.span held.0)
    own-stand d inside (Form.Replacement l) parts whole held = other-stand d whole
    own-stand d inside Form.Update parts whole held = other-stand d whole
    own-stand d inside f parts whole held = other-stand d whole

    mutual
      tree-stands : (d : Due) (inside : Bool) (x : Tree) → IsDueAt d → TreeSpans P x → AllByRecursion At (lexemes x) → Stand (tree_faults means d inside x)
      tree-stands d inside (Node f s parts) whole spans held =
          let inner = all-right At (form_lexemes f) (all_lexemes parts) held in
          both-stand (own_faults means d inside (role_of f) (count parts)) (if is_path (role_of f) then path_faults means d inside parts else part_faults means (role_of f) inside 0 parts)
          (own-stand d inside f (count parts) whole (all-left At (form_lexemes f) (all_lexemes parts) held))
          (either-stands (is_path (role_of f)) (path_faults means d inside parts) (part_faults means (role_of f) inside 0 parts) (path-stands d inside parts whole spans.1 inner) (parts-stand (role_of f) inside 0 parts spans.1 inner))

      path-stands : (d : Due) (inside : Bool) (parts : Trees) → IsDueAt d → PartSpans P parts → AllByRecursion At (all_lexemes parts) → Stand (path_faults means d inside parts)
      path-stands d inside Nil whole spans held = tt
      path-stands d inside (Cons x rest) whole spans held =
          both-stand (tree_faults means (segment_due d rest) inside x) (if is_known means (form x) then path_faults means d inside rest else [])
          (tree-stands (segment_due d rest) inside x (segment-due-stands d rest whole) spans.0 (all-left At (lexemes x) (all_lexemes rest) held))
          (either-stands (is_known means (form x)) (path_faults means d inside rest) [] (path-stands d inside rest whole spans.1 (all-right At (lexemes x) (all_lexemes rest) held)) tt)

      parts-stand : (r : Role) (inside : Bool) (index : ℕ) (parts : Trees) → PartSpans P parts → AllByRecursion At (all_lexemes parts) → Stand (part_faults means r inside index parts)
      parts-stand r inside index Nil spans held = tt
      parts-stand r inside index (Cons x rest) spans held =
          both-stand (tree_faults means (part_due means r index (span x)) (is_part_inside r inside (form x)) x) (part_faults means r inside (suc index) rest)
          (tree-stands (part_due means r index (span x)) (is_part_inside r inside (form x)) x (part-due-stands r index (span x) (own-span x spans.0)) spans.0 (all-left At (lexemes x) (all_lexemes rest) held))
          (parts-stand r inside (suc index) rest spans.1 (all-right At (lexemes x) (all_lexemes rest) held))

    one-tree : (x : Tree) → TreeSpans P x → AllByRecursion At (lexemes x) → Stand (part_faults means role.Other false 0 (Cons x Nil))
    one-tree x spans held = parts-stand role.Other false 0 (Cons x Nil) (spans, tt) (all-both At (lexemes x) [] held tt)

    unit-stands : (unit : UnitTree) → UnitSpans P unit → AllByRecursion At (unit_lexemes unit) → Stand (unit_faults means unit)
    unit-stands (Variables names) spans held = tt
    unit-stands (Constants declarations) spans held = tt
    unit-stands (OperatorDefinition local x) spans held = one-tree x spans held
    unit-stands (FunctionDefinition local x) spans held = one-tree x spans held
    unit-stands (ModuleDefinition local x) spans held = one-tree x spans held
    unit-stands (Instance local x) spans held = one-tree x spans held
    unit-stands (Assumption word name x) spans held = one-tree x spans held
    unit-stands (Theorem word name x) spans held = one-tree x spans held
    unit-stands (Line dashes) spans held = tt
    unit-stands (ModuleBegin dashes name extends) spans held = tt
    unit-stands (ModuleEnd closing) spans held = tt

    units-stand : (units : List UnitTree) → AllByRecursion (UnitSpans P) units → AllByRecursion At (units_lexemes units) → Stand (all_unit_faults means units)
    units-stand [] spans held = tt
    units-stand (unit ∷ units) spans held =
        both-stand (unit_faults means unit) (all_unit_faults means units) (unit-stands unit spans.0 (all-left At (unit_lexemes unit) (units_lexemes units) held))
        (units-stand units spans.1 (all-right At (unit_lexemes unit) (units_lexemes units) held))

  implied-stand : (replaced : List Implied) → AllByRecursion (λ (r : Implied). P r.at) replaced → Stand (implied_faults replaced)
  implied-stand [] all = tt
  implied-stand (r ∷ rest) all =
      both-stand (implied_fault r) (implied_faults rest) (use-stand (due_by (Some (arity r.parameter)) r.at) r.at 0 (Some r.symbol) (due-stands (Some (arity r.parameter)) r.at all.0) all.0) (implied-stand rest all.1)

  -- what holds of the spans of nodes, of lexemes and of replacements that are not written holds of those of faults
  pub faults-stand : (found : List Finding) (units : List UnitTree) → AllByRecursion (UnitSpans P) units → AllByRecursion At (units_lexemes units) → AllByRecursion (λ (r : Implied). P r.at) (implied found)
      → AllByRecursion (λ (f : Diagnostic). P f.span) (arity_faults found units)
  faults-stand found units spans held replaced =
      both-stand (all_unit_faults (meaning found) units) (implied_faults (implied found)) (units-stand (meaning found) units spans held) (implied-stand (implied found) replaced)
