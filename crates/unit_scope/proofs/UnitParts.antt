-- Parts of units, and the units that they are.
use Rattle.std.proofs.Common.{◌≡◌, ◌<◌, ℕ, Bool, List, [], ◌++◌, append_assoc, length, refl, ap, sym, ◌∙◌, subst}
use Rattle.std.specs.Prelude.{OnOk, Ok, Err, Option, is_some}
use Rattle.std.specs.declared.result.Result.{Result}
use Rattle.std.specs.List.{AllByRecursion}
use Rattle.std.proofs.lemmas.List.{append-nil}
use Rattle.tla_symbols.specs.declared.lexeme.Lexeme.{Lexeme}
use Rattle.tla_tree.specs.Arena.{Node as ArenaNode, node_at, tree_at}
use Rattle.tla_tree.specs.declared.form.Form.TheVariants as Form
use Rattle.tla_tree.specs.Syntax.{Tree, Trees, Node}
use Rattle.tla_tree.proofs.Nodes.{tree_at-form}
use Rattle.unit_grammar.specs.Units.{Constants, UnitTree, Variables}
use Rattle.tla_model.specs.declared.names.Binder.{Binder}
use Rattle.tla_model.specs.Entities.{Text, variables}
use Rattle.tla_model.specs.Lexemes.{lexemes}
use Rattle.tla_model.specs.Scopes.{Finding, definition}
use Rattle.tla_tree.specs.declared.unit.Unit.TheVariants as unit
use Rattle.unit_grammar.specs.UnitNodes.{unit_at}
use Rattle.module_model.specs.Exports.{Known, and_known, none_known}
use Rattle.module_model.specs.Modules.{Place, constants}
use Rattle.module_model.specs.Resolution.{ReadState, clash_by, known_in}
use Rattle.instance_leads.proofs.Knowing.{and-none}
use Rattle.unit_scope.specs.EnclosingReadings.{IsAt}
use Rattle.unit_scope.specs.Readings.{Over, files_over}
use Rattle.unit_scope.specs.Steps.{IsRead, Leads, Tells, behind_unit, brought_with, clashes_at, declared, declaring, found_below, found_instanced, instanced, noted, refused}
use Rattle.unit_scope.specs.declared.reader.ModuleReader.{ModuleReader}
use Rattle.unit_scope.proofs.Onward.{Unit}

-- ---- declarations

abbrev at-place : Place → Known → ReadState
at-place place known = record { place = place; known = known }

-- a unit that names no instance
still : (place : Place) (known more : Known) → more ≡ known → at-place place known ≡ at-place place more
still place known more same = λ i. at-place place (sym same i)

module _ (text : Text) (old new : ModuleReader) (found now : List Finding) (binders : List Binder) (leads : Leads text (declaring text binders) old new) (tells : Tells text (refused text binders) old found now) where
  pub variables-read : (names : List Lexeme) → binders ≡ variables names → IsRead text (Variables names) old new found now
  variables-read names is = record {
    state = λ over state at.
        subst (IsAt text over new) (ap (λ bs. declaring text bs over state) is ∙ still (declaring text (variables names) over state).place state.known (known_in text (files_over over) over.words state (Variables names)) (and-none state.known)) (leads over state at);
    findings = λ over state at. tells over state at ∙ ap (λ bs. found ++ refused text bs over state) is;
  }

  pub constants-read : (declarations : Trees) → binders ≡ constants declarations → IsRead text (Constants declarations) old new found now
  constants-read declarations is = record {
    state = λ over state at.
        subst (IsAt text over new) (ap (λ bs. declaring text bs over state) is ∙ still (declaring text (constants declarations) over state).place state.known (known_in text (files_over over) over.words state (Constants declarations)) (and-none state.known)) (leads over state at);
    findings = λ over state at. tells over state at ∙ ap (λ bs. found ++ refused text bs over state) is;
  }

-- ---- INSTANCE

-- the tree of a node of this form
pub tree-of : (nodes : List ArenaNode) (node : ℕ) (form : Form.the_data) → node < length nodes → form ≡ (node_at nodes node).form → (parts : Trees) × (tree_at nodes node ≡ Node form (node_at nodes node).span parts)
tree-of nodes node form there is = let whole = tree_at-form nodes node there in (whole.0, whole.1 ∙ ap (λ f. Node f (node_at nodes node).span whole.0) (sym is))

pub instance-lies : (P : Lexeme → Type 0) (nodes : List ArenaNode) (node : ℕ) (l : Lexeme) → node < length nodes → Form.Instance l ≡ (node_at nodes node).form → AllByRecursion P (lexemes (tree_at nodes node)) → P l
instance-lies P nodes node l there is all = (subst (λ x. AllByRecursion P (lexemes x)) (tree-of nodes node (Form.Instance l) there is).1 all).0

module _ (text : Text) (unit : UnitTree) (local : Bool) (nodes : List ArenaNode) (node : ℕ) (there : node < length nodes) where
  module _ (l : Lexeme) (is : Form.Instance l ≡ (node_at nodes node).form) (old mid new : ModuleReader) (first : Leads text (noted text unit) old mid) where
    pub instance-leads : Leads text (brought_with text local l) mid new → Leads text (instanced text unit local (tree_at nodes node)) old new
    instance-leads second over state at =
        subst (λ x. IsAt text over new (instanced text unit local x over state)) (sym (tree-of nodes node (Form.Instance l) there is).1) (second over (noted text unit over state) (first over state at))

    pub instance-tells : (found between now : List Finding) → Tells text (found_below text unit (tree_at nodes node)) old found between → Tells text (clashes_at text l) mid between now → Tells text (found_instanced text unit (tree_at nodes node)) old found now
    instance-tells found between now before second over state at =
        let below : List Finding = found_below text unit (tree_at nodes node) over state in
        let clashes : List Finding = clashes_at text l over (noted text unit over state) in
        second over (noted text unit over state) (first over state at)
        ∙ ap (λ z. z ++ clashes) (before over state at)
        ∙ append_assoc found below clashes
        ∙ ap (λ x. found ++ (below ++ clash_by text (files_over over) over.words state x)) (sym (tree-of nodes node (Form.Instance l) there is).1)

  -- a tree of another form brings nothing
  other-leads : (over : Over) (state : ReadState) (x : Tree) (form : Form.the_data) (parts : Trees) → x ≡ Node form (node_at nodes node).span parts → ((l : Lexeme) → form ≡ Form.Instance l → ⊥) → noted text unit over state ≡ instanced text unit local x over state
  other-leads over state x form parts is other = by form other ∙ ap (λ z. instanced text unit local z over state) (sym is)
    where
      before : ReadState
      before = noted text unit over state

      nothing : at-place before.place before.known ≡ at-place before.place (and_known before.known none_known)
      nothing = still before.place before.known (and_known before.known none_known) (and-none before.known)

      by : (f : Form.the_data) → ((l : Lexeme) → f ≡ Form.Instance l → ⊥) → noted text unit over state ≡ instanced text unit local (Node f (node_at nodes node).span parts) over state
      by (Form.Instance l) isnt = absurd (isnt l refl)
      by _ isnt = nothing

  other-clashes : (over : Over) (state : ReadState) (x : Tree) (form : Form.the_data) (parts : Trees) → x ≡ Node form (node_at nodes node).span parts → ((l : Lexeme) → form ≡ Form.Instance l → ⊥) → clash_by text (files_over over) over.words state x ≡ []
  other-clashes over state x form parts is other = ap (λ z. clash_by text (files_over over) over.words state z) is ∙ by form other
    where
      by : (f : Form.the_data) → ((l : Lexeme) → f ≡ Form.Instance l → ⊥) → clash_by text (files_over over) over.words state (Node f (node_at nodes node).span parts) ≡ []
      by (Form.Instance l) isnt = absurd (isnt l refl)
      by _ isnt = refl

  module _ (form : Form.the_data) (is : form ≡ (node_at nodes node).form) (other : (l : Lexeme) → form ≡ Form.Instance l → ⊥) (old new : ModuleReader) where
    pub no-instance-leads : Leads text (noted text unit) old new → Leads text (instanced text unit local (tree_at nodes node)) old new
    no-instance-leads first over state at =
        let whole = tree-of nodes node form there is in
        subst (IsAt text over new) (other-leads over state (tree_at nodes node) form whole.0 whole.1 other) (first over state at)

    pub no-instance-tells : (found now : List Finding) → Tells text (found_below text unit (tree_at nodes node)) old found now → Tells text (found_instanced text unit (tree_at nodes node)) old found now
    no-instance-tells found now before over state at =
        let whole = tree-of nodes node form there is in
        let below : List Finding = found_below text unit (tree_at nodes node) over state in
        before over state at ∙ ap (λ z. found ++ z) (sym (append-nil below) ∙ ap (λ z. below ++ z) (sym (other-clashes over state (tree_at nodes node) form whole.0 whole.1 other)))

-- ---- units by their parts

pub on-both : {A E : Type 0} (result : Result A E) (P Q R : Type 0) → (P → Q → R) → OnOk result P → OnOk result Q → OnOk result R
on-both (Ok x) P Q R f p q = f p q
on-both (Err e) P Q R f p q = p

module _ (text : Text) (nodes : List ArenaNode) (old new : ModuleReader) (found now : List Finding) (read : Unit) where
  abbrev Done : Unit → Type 0
  Done one = IsRead text (unit_at nodes one) old new found now

  abbrev Below : Unit → ℕ → Type 0
  Below one node = Tells text (found_below text (unit_at nodes one) (tree_at nodes node)) old found now

  -- a definition
  abbrev Defines : Unit → Bool → ℕ → Type 0
  Defines one local node = Leads text (declared text (unit_at nodes one) local (definition (tree_at nodes node))) old new

  as-definition : (one : Unit) (local flag : Bool) (node : ℕ) → read ≡ one → flag ≡ local → (Defines one local node → Below one node → Done one) → Defines read flag node → Below read node → Done read
  as-definition one local flag node is same at =
      subst (λ r. Defines r flag node → Below r node → Done r) (sym is) (λ leads tells. at (subst (λ f. Defines one f node) same leads) tells)

  module _ (local : Option Lexeme) (flag : Bool) (node : ℕ) (same : flag ≡ is_some local) where
    pub operator-read : read ≡ unit.OperatorDefinition local node → Defines read flag node → Below read node → Done read
    operator-read is = as-definition (unit.OperatorDefinition local node) (is_some local) flag node is same (λ leads tells. record { state = leads; findings = tells })

    pub function-read : read ≡ unit.FunctionDefinition local node → Defines read flag node → Below read node → Done read
    function-read is = as-definition (unit.FunctionDefinition local node) (is_some local) flag node is same (λ leads tells. record { state = leads; findings = tells })

    pub module-read : read ≡ unit.ModuleDefinition local node → Defines read flag node → Below read node → Done read
    module-read is = as-definition (unit.ModuleDefinition local node) (is_some local) flag node is same (λ leads tells. record { state = leads; findings = tells })

    -- an INSTANCE without a name
    abbrev Brings : Unit → Bool → Type 0
    Brings one local = Leads text (instanced text (unit_at nodes one) local (tree_at nodes node)) old new

    abbrev Clashing : Unit → Type 0
    Clashing one = Tells text (found_instanced text (unit_at nodes one) (tree_at nodes node)) old found now

    pub instance-read : read ≡ unit.Instance local node → Brings read flag → Clashing read → Done read
    instance-read is =
        subst (λ r. Brings r flag → Clashing r → Done r) (sym is) (λ leads tells. record { state = subst (λ f. Brings (unit.Instance local node) f) same leads; findings = tells })

  -- a statement
  abbrev Notes : Unit → Type 0
  Notes one = Leads text (noted text (unit_at nodes one)) old new

  module _ (word : Lexeme) (name : Option Lexeme) (node : ℕ) where
    pub assumption-read : read ≡ unit.Assumption word name node → Notes read → Below read node → Done read
    assumption-read is = subst (λ r. Notes r → Below r node → Done r) (sym is) (λ leads tells. record { state = leads; findings = tells })

    pub theorem-read : read ≡ unit.Theorem word name node → Notes read → Below read node → Done read
    theorem-read is = subst (λ r. Notes r → Below r node → Done r) (sym is) (λ leads tells. record { state = leads; findings = tells })

-- ---- units that are passed

pub on-one : {A E : Type 0} (result : Result A E) (P Q : Type 0) → (P → Q) → OnOk result P → OnOk result Q
on-one (Ok x) P Q f p = f p
on-one (Err e) P Q f p = p

module _ (text : Text) (nodes : List ArenaNode) (old new : ModuleReader) (read : Unit) where
  abbrev Passed : Unit → Type 0
  Passed one = Leads text (behind_unit text (unit_at nodes one)) old new

  abbrev Declares : Unit → Bool → ℕ → Type 0
  Declares one flag node = Leads text (declared text (unit_at nodes one) flag (definition (tree_at nodes node))) old new

  as-passed : (one : Unit) (local flag : Bool) (node : ℕ) → read ≡ one → flag ≡ local → (Declares one local node → Passed one) → Declares read flag node → Passed read
  as-passed one local flag node is same at = subst (λ r. Declares r flag node → Passed r) (sym is) (λ leads. at (subst (λ f. Declares one f node) same leads))

  module _ (local : Option Lexeme) (flag : Bool) (node : ℕ) (same : flag ≡ is_some local) where
    pub operator-passed : read ≡ unit.OperatorDefinition local node → Declares read flag node → Passed read
    operator-passed is = as-passed (unit.OperatorDefinition local node) (is_some local) flag node is same (λ leads. leads)

    pub function-passed : read ≡ unit.FunctionDefinition local node → Declares read flag node → Passed read
    function-passed is = as-passed (unit.FunctionDefinition local node) (is_some local) flag node is same (λ leads. leads)

    pub module-passed : read ≡ unit.ModuleDefinition local node → Declares read flag node → Passed read
    module-passed is = as-passed (unit.ModuleDefinition local node) (is_some local) flag node is same (λ leads. leads)

    -- an INSTANCE without a name
    abbrev Instances : Unit → Bool → Type 0
    Instances one flag = Leads text (instanced text (unit_at nodes one) flag (tree_at nodes node)) old new

    pub instance-passed : read ≡ unit.Instance local node → Instances read flag → Passed read
    instance-passed is = subst (λ r. Instances r flag → Passed r) (sym is) (λ leads. subst (λ f. Instances (unit.Instance local node) f) same leads)

  -- a statement
  module _ (word : Lexeme) (name : Option Lexeme) (node : ℕ) where
    pub assumption-passed : read ≡ unit.Assumption word name node → Leads text (noted text (unit_at nodes read)) old new → Passed read
    assumption-passed is = subst (λ r. Leads text (noted text (unit_at nodes r)) old new → Passed r) (sym is) (λ leads. leads)

    pub theorem-passed : read ≡ unit.Theorem word name node → Leads text (noted text (unit_at nodes read)) old new → Passed read
    theorem-passed is = subst (λ r. Leads text (noted text (unit_at nodes r)) old new → Passed r) (sym is) (λ leads. leads)
