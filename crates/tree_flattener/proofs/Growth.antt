-- What nodes are in a flat module they are in each that has more.
use Rattle.std.proofs.Common.{◌≡◌, ℕ, zero, suc, List, [], ◌∷◌, Bool, true, false, Some, None}
use Rattle.std.specs.Prelude.{Option, drop, slice_get}
use Rattle.tla_symbols.specs.declared.lexeme.Lexeme.{Lexeme}
use Rattle.tla_symbols.specs.declared.lexeme.Span.{Span}
use Rattle.tla_tree.specs.declared.form.Form.TheVariants as Form
use Rattle.tla_tree.specs.Forms.{helps}
use Rattle.tla_tree.specs.Syntax.{Tree, Trees, Node, Nil, Cons}
use Rattle.tla_model.specs.Tables.{Named}
use Rattle.tla_model.specs.Entities.{Defines, Nothing, Operator, Function, Module, Meaning, defines}
use Rattle.module_model.specs.Exports.{Exports}
use Rattle.kind_text.specs.FlatModule.{Extends, FlatModule, Replacement}
use Rattle.tree_kinds.specs.Standing.{operator_places}
use Rattle.tree_kinds.specs.Expanding.{Part, Outer, Helper, Whole, part_of, stands_outside}
use Rattle.flattened_trees.specs.Leads.{Lead, Leads, Setting, behind, repeating}
use Rattle.flattened_trees.specs.NodeForms.{lead_of, name_node}
use Rattle.flattened_trees.specs.Questions.{Question}
use Rattle.flattened_trees.specs.Flattened.{AreOperands, AreReplacing, AreRights, AreStaying, AreUpdates, HasNode, IsChain, IsDefined, IsFlattened, IsInstance, IsRoot, IsThrough, Right, all_parts, asks_of, inside_parts, right_for}
use Rattle.tree_flattener.specs.Worlds.{World}
use Rattle.tree_flattener.proofs.Chains as chains
use Rattle.tree_flattener.proofs.Definitions as definitions
use Rattle.tree_flattener.proofs.Reading as reading

module _ (flat more : FlatModule) (extends : Extends flat more) where
  root-on : (is : List ℕ) (root : ℕ) → IsRoot flat is root → IsRoot more is root
  root-on [] root h = extends.nodes root _ h
  root-on (i ∷ is) root h = h

  staying-on : (place count : ℕ) (staying : List Replacement) → AreStaying flat place count staying → AreStaying more place count staying
  staying-on place zero [] h = tt
  staying-on place zero (r ∷ staying) h = absurd h
  staying-on place (suc count) [] h = absurd h
  staying-on place (suc count) (r ∷ staying) h = (extends.nodes r.root _ h.0, h.1, staying-on (suc place) count staying h.2)

  module _ (leads : Leads) (frame : List Meaning) (constant : Bool) (rights : List Right) (l : Lexeme) where
    Chosen : FlatModule → Named × Meaning → Exports → List Meaning → Replacement → List Replacement → List Question → List Question → Option Right → Type 0
    Chosen m parameter parameters symbols r made asked rest found = elim found [
      | Some right ↦ (r.root ≡ right.node) × (asked ≡ asks_of m leads frame constant rights l right.at r parameter ∷ rest) × AreReplacing m leads frame constant rights l parameters symbols made rest
      | None ↦ HasNode m r.root (name_node (operator_places (Some parameter.1)) (lead_of leads (slice_get symbols 0) []) [])
          × (asked ≡ asks_of m leads frame constant rights l l.span r parameter ∷ rest) × AreReplacing m leads frame constant rights l parameters (drop 1 symbols) made rest
    ]

    chosen-on : (parameter : Named × Meaning) (parameters : Exports) (symbols : List Meaning) (r : Replacement) (made : List Replacement) (asked rest : List Question) (found : Option Right)
        → ((symbols : List Meaning) → AreReplacing flat leads frame constant rights l parameters symbols made rest → AreReplacing more leads frame constant rights l parameters symbols made rest)
        → Chosen flat parameter parameters symbols r made asked rest found → Chosen more parameter parameters symbols r made asked rest found
    unfolding Chosen
    chosen-on parameter parameters symbols r made asked rest (Some right) onward h = (h.0, h.1, onward symbols h.2)
    chosen-on parameter parameters symbols r made asked rest None onward h = (extends.nodes r.root _ h.0, h.1, onward (drop 1 symbols) h.2)

    replacing-on : (parameters : Exports) (symbols : List Meaning) (made : List Replacement) (asked : List Question) → AreReplacing flat leads frame constant rights l parameters symbols made asked → AreReplacing more leads frame constant rights l parameters symbols made asked
    unfolding Chosen
    replacing-on [] symbols made asked h = h
    replacing-on (parameter ∷ parameters) symbols [] asked h = absurd h
    replacing-on (parameter ∷ parameters) symbols (r ∷ made) asked h =
        (h.0, h.1, chosen-on parameter parameters symbols r made asked h.0 (right_for rights parameter.0) (λ symbols'. replacing-on parameters symbols' made h.0) h.2)

  module _ (w : World) where
    abbrev Ops : FlatModule → (Form.the_data → Bool) → Setting → Trees → List ℕ → List Question → Type 0
    Ops m taken setting xs is asked = AreOperands w.text w.means w.implied w.faces m taken setting xs is asked

    abbrev Fl : FlatModule → Setting → Tree → ℕ → List Question → Type 0
    Fl m setting x i asked = IsFlattened w.text w.means w.implied w.faces m setting x i asked

    abbrev Chain : FlatModule → Setting → Trees → Option ℕ → List ℕ → List Question → Type 0
    Chain m setting xs body roots asked = IsChain w.text w.means w.implied w.faces m setting xs body roots asked

    abbrev Def : FlatModule → Setting → Tree → (List Named → Lead) → List ℕ → List Question → Type 0
    Def m setting x lead roots asked = IsDefined w.text w.means w.implied w.faces m setting x lead roots asked

    abbrev Thr : FlatModule → Setting → Setting → Lexeme → ℕ → Trees → (List Named → Lead) → List ℕ → List Question → Type 0
    Thr m outside setting own count xs lead roots asked = IsThrough w.text w.means w.implied w.faces m outside setting own count xs lead roots asked

    abbrev Rts : FlatModule → Setting → Lexeme → Trees → List Right → List ℕ → List Question → Type 0
    Rts m setting l xs rights roots asked = AreRights w.text w.means w.implied w.faces m setting l xs rights roots asked

    pub instance-on : (setting : Setting) (outer count : ℕ) (guards : Bool) (l : Lexeme) (rights : List Right) (j : ℕ) (asked : List Question)
        → IsInstance w.text w.means w.implied w.faces flat setting outer count guards l rights j asked → IsInstance w.text w.means w.implied w.faces more setting outer count guards l rights j asked
    instance-on setting outer count guards l rights j asked h =
        (h.0, h.1, extends.instances j _ h.2, staying-on 0 _ h.0 h.3, replacing-on setting.leads setting.frame _ rights l _ _ h.1 asked h.4)

    piece-on : (setting : Setting) (form : Form.the_data) (s : Span) (parts : Trees) (looked : Bool) (part : Part) (first : List ℕ) (a : List Question)
        → ((is : List ℕ) (b : List Question) → Ops flat all_parts setting parts is b → Ops more all_parts setting parts is b)
        → ((i : ℕ) (b : List Question) → Fl flat setting (Node form s parts) i b → Fl more setting (Node form s parts) i b)
        → reading.Goes w setting form s parts flat looked part first a → reading.Goes w setting form s parts more looked part first a
    piece-on setting form s parts true Outer first a into at h = into first a h
    piece-on setting form s parts true Helper first a into at h = into first a h
    piece-on setting form s parts true Whole first a into at h = (h.0, h.1, at h.0 a h.2)
    piece-on setting form s parts false part first a into at h = h

    link-on : (form : Form.the_data) (s : Span) (parts rest : Trees) (setting : Setting) (help : Bool) (body : Option ℕ) (roots : List ℕ) (a b : List Question)
        → ((lead : List Named → Lead) (roots : List ℕ) → Def flat setting (Node form s parts) lead roots a → Def more setting (Node form s parts) lead roots a)
        → ((i : ℕ) → Fl flat setting (Node form s parts) i a → Fl more setting (Node form s parts) i a)
        → ((setting : Setting) (body : Option ℕ) (roots : List ℕ) → Chain flat setting rest body roots b → Chain more setting rest body roots b)
        → chains.Goes w 0 [] form s parts rest flat setting help body roots a b → chains.Goes w 0 [] form s parts rest more setting help body roots a b
    link-on form s parts rest setting true body roots a b def at onward h = (h.0, h.1, h.2, def h.0 h.1 h.3, onward (behind w.text setting (Node form s parts) h.0) body h.2 h.4, h.5)
    link-on form s parts rest setting false body roots a b def at onward h = (h.0, h.1, at h.0 h.2, onward setting h.1 roots h.3, h.4)

    definition-on : (setting : Setting) (form : Form.the_data) (s : Span) (parts : Trees) (lead : List Named → Lead) (roots : List ℕ) (asked : List Question) (what : Defines)
        → ((setting : Setting) (is : List ℕ) (a : List Question) → Ops flat all_parts setting parts is a → Ops more all_parts setting parts is a)
        → ((outside setting : Setting) (own : Lexeme) (count : ℕ) → Thr flat outside setting own count parts lead roots asked → Thr more outside setting own count parts lead roots asked)
        → definitions.As w flat setting form s parts lead roots asked what → definitions.As w more setting form s parts lead roots asked what
    definition-on setting form s parts lead roots asked Nothing into thr h = h
    definition-on setting form s parts lead roots asked (Operator l) into thr h =
        (h.0, h.1, h.2, h.3, into _ h.0 h.3 h.4, root-on h.0 h.1 h.5, extends.definitions h.2 _ h.6, h.7, h.8, h.9)
    definition-on setting form s parts lead roots asked (Function l) into thr h =
        (h.0, h.1, h.2, h.3, into _ h.0 h.3 h.4, extends.nodes h.1 _ h.5, extends.definitions h.2 _ h.6, h.7, h.8, h.9)
    definition-on setting form s parts lead roots asked (Module l) into thr h = thr _ _ l _ h

    mutual
      pub flattened-on : (setting : Setting) (x : Tree) (i : ℕ) (asked : List Question) → Fl flat setting x i asked → Fl more setting x i asked
      flattened-on setting (Node Form.Let s parts) i asked h = (h.0, h.1, chain-on setting parts h.0 h.1 asked h.2, extends.nodes i _ h.3)
      flattened-on setting (Node Form.Except s (Cons function updates)) i asked h =
          (h.0, h.1, h.2, h.3, flattened-on setting function h.0 h.2 h.4, updates-on setting h.0 updates h.1 h.3 h.5, extends.nodes i _ h.6, h.7)
      flattened-on setting (Node Form.Except s Nil) i asked h = (h.0, h.1, operands-on all_parts setting Nil h.0 h.1 h.2, extends.nodes i _ h.3, h.4)
      flattened-on setting (Node _ s parts) i asked h = (h.0, h.1, operands-on all_parts setting parts h.0 h.1 h.2, extends.nodes i _ h.3, h.4)

      pub operands-on : (taken : Form.the_data → Bool) (setting : Setting) (xs : Trees) (is : List ℕ) (asked : List Question) → Ops flat taken setting xs is asked → Ops more taken setting xs is asked
      operands-on taken setting Nil is asked h = h
      operands-on taken setting (Cons (Node form s parts) rest) is asked h = (
        h.0,
        h.1,
        h.2,
        h.3,
        h.4,
        h.5,
        piece-on setting form s parts (taken form) (part_of form) h.0 h.2 (λ js b. operands-on all_parts setting parts js b) (λ j b. flattened-on setting (Node form s parts) j b) h.6,
        operands-on taken setting rest h.1 h.3 h.7,
      )

      pub updates-on : (setting : Setting) (f : ℕ) (xs : Trees) (is : List ℕ) (asked : List Question) → AreUpdates w.text w.means w.implied w.faces flat setting f xs is asked → AreUpdates w.text w.means w.implied w.faces more setting f xs is asked
      updates-on setting f Nil is asked h = h
      updates-on setting f (Cons (Node form s parts) rest) is asked h =
          (h.0, h.1, h.2, h.3, h.4, h.5, operands-on stands_outside setting parts h.0 h.3 h.6, operands-on inside_parts (repeating setting (f ∷ h.0)) parts h.1 h.4 h.7, updates-on setting f rest h.2 h.5 h.8, h.9, h.10)

      pub chain-on : (setting : Setting) (xs : Trees) (body : Option ℕ) (roots : List ℕ) (asked : List Question) → Chain flat setting xs body roots asked → Chain more setting xs body roots asked
      chain-on setting Nil body roots asked h = h
      chain-on setting (Cons (Node form s parts) rest) body roots asked h = (
        h.0,
        h.1,
        h.2,
        link-on form s parts rest setting (helps form) body roots h.0 h.1 (λ lead rs. defined-on setting (Node form s parts) lead rs h.0) (λ j. flattened-on setting (Node form s parts) j h.0) (λ after body' rs. chain-on after rest body' rs h.1) h.3,
      )

      pub defined-on : (setting : Setting) (x : Tree) (lead : List Named → Lead) (roots : List ℕ) (asked : List Question) → Def flat setting x lead roots asked → Def more setting x lead roots asked
      defined-on setting (Node form s parts) lead roots asked h =
          definition-on setting form s parts lead roots asked (defines form) (λ inner js a. operands-on all_parts inner parts js a) (λ outside inner own count. through-on outside inner own count parts lead roots asked) h

      pub through-on : (outside setting : Setting) (own : Lexeme) (count : ℕ) (xs : Trees) (lead : List Named → Lead) (roots : List ℕ) (asked : List Question) → Thr flat outside setting own count xs lead roots asked → Thr more outside setting own count xs lead roots asked
      through-on outside setting own count Nil lead roots asked h = h
      through-on outside setting own count (Cons (Node (Form.Instance l) s parts) rest) lead roots asked h =
          (h.0, h.1, h.2, h.3, rights-on setting l parts h.0 roots h.2 h.4, instance-on setting _ count true l h.0 h.1 h.3 h.5, h.6, h.7)
      through-on outside setting own count (Cons (Node _ s parts) rest) lead roots asked h = through-on outside setting own count rest lead roots asked h

      pub rights-on : (setting : Setting) (l : Lexeme) (xs : Trees) (rights : List Right) (roots : List ℕ) (asked : List Question) → Rts flat setting l xs rights roots asked → Rts more setting l xs rights roots asked
      rights-on setting l Nil rights roots asked h = h
      rights-on setting l (Cons (Node (Form.Replacement left) s right) rest) rights roots asked h =
          (h.0, h.1, h.2, h.3, h.4, operands-on all_parts setting right h.0 h.2 h.5, rights-on setting l rest h.4 h.1 h.3 h.6, h.7, h.8, h.9)
      rights-on setting l (Cons (Node _ s parts) rest) rights roots asked h = rights-on setting l rest rights roots asked h
