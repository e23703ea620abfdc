-- Definitions and instances can be read if their bodies and right sides can.
use Rattle.std.proofs.Common.{◌≡◌, ℕ, suc, List, [], ◌∷◌, ◌++◌, Bool, true, false, Option, Some, None, refl, sym, ap, subst, ◌∙◌}
use Rattle.std.specs.Prelude.{Contains}
use Rattle.std.specs.List.{AllByRecursion}
use Rattle.tla_symbols.specs.declared.lexeme.Lexeme.{Lexeme}
use Rattle.tla_symbols.specs.declared.lexeme.Span.{Span}
use Rattle.tla_tree.specs.declared.form.Form.TheVariants as Form
use Rattle.tla_tree.specs.Forms.{helps}
use Rattle.tla_tree.specs.Lexemes.{one, then}
use Rattle.tla_tree.specs.Syntax.{Tree, Trees, Node, Nil, Cons, form}
use Rattle.tla_model.specs.declared.entity.Entity.TheVariants as entity
use Rattle.tla_model.specs.declared.names.Binding.TheVariants as as_binding
use Rattle.tla_model.specs.declared.names.Finding.TheVariants.{Means, NotReplaceable, ReplacedTwice}
use Rattle.tla_model.specs.declared.names.Meaning.TheVariants.{BuiltIn, Declared}
use Rattle.tla_model.specs.Tables.{Named, is_among}
use Rattle.tla_model.specs.Entities.{Binding, Meaning, Nothing, Text, binding_of, defined, defines, is_group, name_of, placed}
use Rattle.tla_model.specs.Contexts.{Context}
use Rattle.tla_model.specs.Scopes.{Finding, all_grouped, behind, binders, definition, inside, names_in, reserved, scope}
use Rattle.module_model.specs.Exports.{Exports, Known, entry_of}
use Rattle.module_model.specs.Instances.{instance_among, left_sides, replaced_as}
use Rattle.module_model.specs.TreeFindings.{Surroundings, replaceable, replaced, walk, walk_chain, walk_rest}
use Rattle.tree_kinds.specs.Standing.{Outside}
use Rattle.tree_kinds.specs.Expanding.{Helper, Outer, Whole, part_of, stands_outside}
use Rattle.flat_trees.specs.Layouts.{order_of}
use Rattle.flat_trees.specs.Names.{order_by, places_by}
use Rattle.arity_rules.specs.declared.place.Due.TheVariants as due
use Rattle.arity_rules.specs.declared.place.Role.TheVariants as role
use Rattle.arity_rules.specs.Arities.{arity, due_by, meaning as found_entity, part_due, part_faults, replacing_order, role_of, tree_faults}
use Rattle.flattened_trees.specs.Leads.{FlatFace}
use Rattle.flattened_trees.specs.Readable.{AreReadableRights, IsKnownBehind, IsReadableChain, IsReadableDefinition, IsReadableThrough, parameter_order}
use Rattle.readable_laws.specs.Uses.{implied_by, means_by}
use Rattle.readable_laws.specs.Accepted.{IsAcceptedAmong, IsAcceptedInstance, TakePlaces}
use Rattle.readable_laws.proofs.Contexts.{Fits, bind-all-keeps, reserve-all-keeps}
use Rattle.readable_laws.proofs.FoundMeanings.{IsAgreed, entity_in}
use Rattle.readable_laws.proofs.Forms.{AllBefore, AllInside, ends-then, helper, inside-then}
use Rattle.readable_laws.proofs.Names.{order-places}
use Rattle.readable_laws.proofs.Orders.{first-empty, other-plain, places-arity, rest-empty}
use Rattle.readable_laws.proofs.Reading.{Accepted, AcceptedEach, BindEach, Expression, FitsAs, Met, PartOf, PartsOf, ReadEach, Reads, around, binders-fit, expression-part, form_walk, left, met-first, other-role, parts-bind, parts-read, parts-then, places, right, walk-parts}
use Rattle.readable_laws.proofs.StandIns.{symbols-read}
use Rattle.readable_laws.proofs.Shapes.{IsWholeForm}

-- the INSTANCE of a module
abbrev is_instance_form : Form.the_data → Bool
is_instance_form (Form.Instance l) = true
is_instance_form f = false

-- a name or a parameter that stands before what is defined
pub record IsHead (f : Form.the_data) : Type 0 where
  pub part : part_of f ≡ Helper
  pub outside : stands_outside f ≡ false
  pub group : is_group f ≡ false
  pub nothing : defines f ≡ Nothing
  pub other : is_instance_form f ≡ false
  pub fits : AllByRecursion (FitsAs as_binding.Parameter) (placed f)

abbrev pub AllHeads : Trees → Type 0
AllHeads Nil = Unit {0}
AllHeads (Cons (Node f s Nil) rest) = IsHead f × AllHeads rest
AllHeads (Cons (Node f s (Cons y ys)) rest) = ⊥

heads-before : (xs : Trees) → AllHeads xs → AllBefore xs
heads-before Nil all = tt
heads-before (Cons (Node f s Nil) rest) all = (helper all.0.part all.0.nothing, heads-before rest all.1)
heads-before (Cons (Node f s (Cons y ys)) rest) all = absurd all

heads-inside : (xs : Trees) → AllHeads xs → AllInside xs
heads-inside Nil all = tt
heads-inside (Cons (Node f s Nil) rest) all = (all.0.outside, heads-inside rest all.1)
heads-inside (Cons (Node f s (Cons y ys)) rest) all = absurd all

heads-grouped : (xs : Trees) (f : Form.the_data) (s : Span) (ps : Trees) → AllHeads xs → is_group f ≡ false → all_grouped (then xs (Node f s ps)) ≡ []
heads-grouped Nil f s ps all group = ap (λ g. names_in g ps ++ []) group
heads-grouped (Cons (Node g t Nil) rest) f s ps all group = ap (λ b. names_in b Nil ++ all_grouped (then rest (Node f s ps))) all.0.group ∙ heads-grouped rest f s ps all.1 group
heads-grouped (Cons (Node g t (Cons y ys)) rest) f s ps all group = absurd all

heads-bind : (xs : Trees) (f : Form.the_data) (s : Span) (ps : Trees) → AllHeads xs → placed f ≡ [] → is_group f ≡ false → BindEach as_binding.Parameter (then xs (Node f s ps))
heads-bind Nil f s ps all names group = ((subst (AllByRecursion (FitsAs as_binding.Parameter)) (sym names) tt, subst (λ g. AllByRecursion (FitsAs as_binding.Parameter) (names_in g ps)) (sym group) tt), tt)
heads-bind (Cons (Node g t Nil) rest) f s ps all names group =
    ((all.0.fits, subst (λ b. AllByRecursion (FitsAs as_binding.Parameter) (names_in b Nil)) (sym all.0.group) tt), heads-bind rest f s ps all.1 names group)
heads-bind (Cons (Node g t (Cons y ys)) rest) f s ps all names group = absurd all

module _ (text : Text) (known : Known) (named : List ℕ → Outside) (paths : List ℕ) (found : List Finding) (faces : List ℕ → FlatFace)
    (agrees : (f : Finding) → Contains found f → IsAgreed (means_by found) (found_entity found) f) where
  abbrev here : Surroundings
  here = around text known named paths found faces

  abbrev Found : List Finding → Type 0
  Found fs = Met text known named paths found faces fs

  abbrev AsExpression : Tree → Type 0
  AsExpression x = Expression text known named paths found faces x

  abbrev Parts : Binding → Trees → Type 0
  Parts b xs = PartsOf text known named paths found faces b xs

  abbrev first : {a : List Finding} (b : List Finding) → Found (a ++ b) → Found a
  first {a} b h = left text known named paths found faces b h

  abbrev last : (a : List Finding) {b : List Finding} → Found (a ++ b) → Found b
  last a {b} h = right text known named paths found faces a h

  abbrev is_accepted : Tree → Type 0
  is_accepted x = Accepted text known named paths found faces x

  abbrev are_accepted : Trees → Type 0
  are_accepted xs = AcceptedEach text known named paths found faces xs

  abbrev are_read : Context → Context → Trees → Type 0
  are_read outside context xs = ReadEach text known named paths found faces outside context xs

  abbrev is_read : Context → Tree → Type 0
  is_read context x = Reads text known named paths found faces context x

  abbrev bare : Context → Tree → Option ℕ
  bare context x = places text known named paths found faces context x

  abbrev pub ReadDefinition : Context → Tree → Type 0
  ReadDefinition context x = IsReadableDefinition text known named (means_by found) (implied_by found) faces context x

  abbrev pub ReadChain : Context → Trees → Type 0
  ReadChain context xs = IsReadableChain text known named (means_by found) (implied_by found) faces context xs

  abbrev pub ReadThrough : Context → Trees → Type 0
  ReadThrough context xs = IsReadableThrough text known named (means_by found) (implied_by found) faces context xs

  abbrev pub ReadRights : Context → Exports → List Named → Trees → Type 0
  ReadRights context parameters before xs = AreReadableRights text known named (means_by found) (implied_by found) faces context parameters before xs

  -- a definition can be read, and what it defines fits
  pub record Definition (x : Tree) : Type 0 where
    pub helper : helps (form x) ≡ true
    pub fits : AllByRecursion Fits (definition x)
    pub reads : (context : Context) (inside : Bool) → TakePlaces context → Found (walk text here context x) → tree_faults (found_entity found) due.Expression inside x ≡ [] → is_accepted x → ReadDefinition context x

  abbrev pub Definitions : Trees → Type 0
  Definitions Nil = Unit {0}
  Definitions (Cons x rest) = Definition x × Definitions rest

  form-definition : (f : Form.the_data) (s : Span) (parts : Trees) → role_of f ≡ role.Other → helps f ≡ true → ((context : Context) → TakePlaces context → TakePlaces (inside text context f parts))
      → ((context : Context) → Found (walk text here context (Node f s parts)) → Found (form_walk text known named paths found faces context f parts))
      → ((context : Context) → are_read (reserved text context f parts) (scope text context f parts) parts → ReadDefinition context (Node f s parts))
      → Parts (binding_of f) parts → AllByRecursion Fits (defined f parts) → Definition (Node f s parts)
  form-definition f s parts other is_helper within walked read all fits = record {
    helper = is_helper;
    fits = fits;
    reads = λ context inside_update u met none accepted.
        let faults = other-role text known named paths found faces (role_of f) due.Expression inside_update parts other none in
        let w = walk-parts text known named paths found faces context f parts (walked context met) in
        let v : TakePlaces (reserved text context f parts) = reserve-all-keeps text context (defined f parts) u in
        let u_scope : TakePlaces (scope text context f parts) = bind-all-keeps text (inside text context f parts) (binders f parts) (binders-fit text known named paths found faces f parts (parts-bind text known named paths found faces (binding_of f) parts all)) (within context u) in
        read context (parts-read text known named paths found faces (binding_of f) parts all (reserved text context f parts) (scope text context f parts) role.Other inside_update 0 (λ i w. refl) v u_scope w.0 w.1 faults.1 accepted.1);
  }

  -- ---- operators and functions

  head-part : (f : Form.the_data) (s : Span) → IsHead f → PartOf text known named paths found faces as_binding.Parameter (Node f s Nil)
  head-part f s head = record {
    binds = (head.fits, subst (λ b. AllByRecursion (FitsAs as_binding.Parameter) (names_in b Nil)) (sym head.group) tt);
    reads = λ outside context inside u v sets others none accepted. (
      subst (λ p. elim p as (λ _. Type 0) [
        | Outer ↦ are_read outside outside Nil
        | Helper ↦ are_read context context Nil
        | Whole ↦ (bare context (Node f s Nil) ≡ None) × is_read context (Node f s Nil)
      ]) (sym head.part) tt,
      tt,
    );
  }

  heads-parts : (xs : Trees) → AllHeads xs → Parts as_binding.Parameter xs
  heads-parts Nil all = tt
  heads-parts (Cons (Node f s Nil) rest) all = (head-part f s all.0, heads-parts rest all.1)
  heads-parts (Cons (Node f s (Cons y ys)) rest) all = absurd all

  body-parts : (xs : Trees) (x : Tree) → AllHeads xs → AsExpression x → Parts as_binding.Parameter (then xs x)
  body-parts xs x heads e = parts-then text known named paths found faces as_binding.Parameter xs x (heads-parts xs heads) (expression-part text known named paths found faces as_binding.Parameter x e)

  pub operator-definition : (l : Lexeme) (s : Span) (xs : Trees) (x : Tree) → AllHeads xs → AsExpression x → AllByRecursion Fits (defined (Form.OperatorDefinition l) (then xs x)) → Definition (Node (Form.OperatorDefinition l) s (then xs x))
  operator-definition l s xs x heads e fits =
      form-definition (Form.OperatorDefinition l) s (then xs x) refl refl (λ context u. reserve-all-keeps text context (defined (Form.OperatorDefinition l) (then xs x)) u) (λ context met. met)
      (λ context read. (ends-then xs x (heads-before xs heads) e.shape, inside-then xs x (heads-inside xs heads) e.shape, read)) (body-parts xs x heads e) fits

  pub prefix-definition : (l : Lexeme) (s : Span) (xs : Trees) (x : Tree) → AllHeads xs → AsExpression x → AllByRecursion Fits (defined (Form.PrefixDefinition l) (then xs x)) → Definition (Node (Form.PrefixDefinition l) s (then xs x))
  prefix-definition l s xs x heads e fits =
      form-definition (Form.PrefixDefinition l) s (then xs x) refl refl (λ context u. reserve-all-keeps text context (defined (Form.PrefixDefinition l) (then xs x)) u) (λ context met. met)
      (λ context read. (ends-then xs x (heads-before xs heads) e.shape, inside-then xs x (heads-inside xs heads) e.shape, read)) (body-parts xs x heads e) fits

  pub infix-definition : (l : Lexeme) (s : Span) (xs : Trees) (x : Tree) → AllHeads xs → AsExpression x → AllByRecursion Fits (defined (Form.InfixDefinition l) (then xs x)) → Definition (Node (Form.InfixDefinition l) s (then xs x))
  infix-definition l s xs x heads e fits =
      form-definition (Form.InfixDefinition l) s (then xs x) refl refl (λ context u. reserve-all-keeps text context (defined (Form.InfixDefinition l) (then xs x)) u) (λ context met. met)
      (λ context read. (ends-then xs x (heads-before xs heads) e.shape, inside-then xs x (heads-inside xs heads) e.shape, read)) (body-parts xs x heads e) fits

  pub postfix-definition : (l : Lexeme) (s : Span) (xs : Trees) (x : Tree) → AllHeads xs → AsExpression x → AllByRecursion Fits (defined (Form.PostfixDefinition l) (then xs x)) → Definition (Node (Form.PostfixDefinition l) s (then xs x))
  postfix-definition l s xs x heads e fits =
      form-definition (Form.PostfixDefinition l) s (then xs x) refl refl (λ context u. reserve-all-keeps text context (defined (Form.PostfixDefinition l) (then xs x)) u) (λ context met. met)
      (λ context read. (ends-then xs x (heads-before xs heads) e.shape, inside-then xs x (heads-inside xs heads) e.shape, read)) (body-parts xs x heads e) fits

  pub function-definition : (l : Lexeme) (s : Span) (xs : Trees) (x : Tree) → Parts (as_binding.Bound false) xs → AsExpression x → Fits (record { name = l; entity = entity.Bound false }) → AllByRecursion Fits (defined (Form.FunctionDefinition l) (then xs x)) → Definition (Node (Form.FunctionDefinition l) s (then xs x))
  function-definition l s xs x bounds e bound fits =
      form-definition (Form.FunctionDefinition l) s (then xs x) refl refl (λ context u. bind-all-keeps text context (record { name = l; entity = entity.Bound false } ∷ []) (bound, tt) u) (λ context met. met) (λ context read. read)
      (parts-then text known named paths found faces (as_binding.Bound false) xs x bounds (expression-part text known named paths found faces (as_binding.Bound false) x e)) fits

  -- ---- chains

  -- a definition and what follows it, or a body
  abbrev Link : Bool → Form.the_data → Span → Trees → Trees → Context → Type 0
  Link b f s ps rest context = elim b as (λ _. Type 0) [
    | true ↦ ReadDefinition context (Node f s ps) × ReadChain (behind text context (Node f s ps)) rest
    | false ↦ (part_of f ≡ Whole) × (bare context (Node f s ps) ≡ None) × is_read context (Node f s ps) × (rest ≡ Nil)
  ]

  body-read : (f : Form.the_data) (s : Span) (ps : Trees) (context : Context) (within : Bool) → AsExpression (Node f s ps) → TakePlaces context → Found (walk text here context (Node f s ps)) → tree_faults (found_entity found) due.Expression within (Node f s ps) ≡ [] → is_accepted (Node f s ps)
      → ReadChain context (one (Node f s ps))
  body-read f s ps context within e u met none accepted = let read = e.reads context 0 s within u met none accepted in subst (λ b. Link b f s ps Nil context) (sym e.shape.helper) (e.shape.part, read.1, read.0, refl)

  chained : (f : Form.the_data) (s : Span) (ps rest : Trees) (context : Context) → helps f ≡ true → ReadDefinition context (Node f s ps) → ReadChain (behind text context (Node f s ps)) rest → ReadChain context (Cons (Node f s ps) rest)
  chained f s ps rest context is_helper own later = subst (λ b. Link b f s ps rest context) (sym is_helper) (own, later)

  chain-read : (xs : Trees) → Definitions xs → (x : Tree) → AsExpression x → (context : Context) (inside : Bool) (index : ℕ) → TakePlaces context → Found (walk_chain text here context (then xs x)) → part_faults (found_entity found) role.Other inside index (then xs x) ≡ [] → are_accepted (then xs x)
      → ReadChain context (then xs x)
  chain-read Nil ds (Node f s ps) e context inside index u met none accepted =
      body-read f s ps context inside e u (first _ met) (first-empty (tree_faults (found_entity found) due.Expression inside (Node f s ps)) [] none) accepted.0
  chain-read (Cons (Node f s ps) xs) ds x e context inside index u met none accepted =
      let own = tree_faults (found_entity found) due.Expression inside (Node f s ps) in
      let later = part_faults (found_entity found) role.Other inside (suc index) (then xs x) in
      let v : TakePlaces (behind text context (Node f s ps)) = bind-all-keeps text context (defined f ps) ds.0.fits u in
      chained f s ps (then xs x) context ds.0.helper (ds.0.reads context inside u (first _ met) (first-empty own later none) accepted.0)
      (chain-read xs ds.1 x e (behind text context (Node f s ps)) inside (suc index) v (last _ met) (rest-empty own later none) accepted.1)

  pub let-read : (s : Span) (xs : Trees) (x : Tree) → IsWholeForm Form.Let → Definitions xs → AsExpression x → AsExpression (Node Form.Let s (then xs x))
  let-read s xs x shape ds e = record {
    shape = shape;
    reads = λ context order whole within u met none accepted.
        let faults = other-role text known named paths found faces role.Other (due_by (Some order) whole) within (then xs x) refl none in
        (chain-read xs ds x e context within 0 u met faults.1 accepted.1, ap places_by (sym (other-plain order whole faults.0)));
  }

  -- ---- right sides

  abbrev pub Replacements : Trees → Type 0
  Replacements Nil = Unit {0}
  Replacements (Cons (Node (Form.Replacement l) s (Cons x Nil)) rest) = AsExpression x × Replacements rest
  Replacements (Cons x rest) = ⊥

  -- a left side names a parameter that was not replaced before
  pub record IsLeftSide (l : Lexeme) (again : Bool) (o : Option Meaning) : Type 0 where
    pub parameter : Meaning
    pub there : o ≡ Some parameter
    pub once : again ≡ false
    pub entity : found_entity found l.span.start ≡ Some (entity_in parameter)

  found_first : (f : Finding) (fs : List Finding) → Found (f ∷ fs) → Contains found f
  found_first f fs met = met-first text known named paths found faces f fs met

  left-side : (l : Lexeme) (again : Bool) (o : Option Meaning) → Found (replaced_as l again o) → IsLeftSide l again o
  left-side l again None met = absurd (agrees (NotReplaceable l) (found_first (NotReplaceable l) [] met))
  left-side l true (Some parameter) met = absurd (agrees (ReplacedTwice l) (found_first (ReplacedTwice l) [] (last (Means l parameter ∷ []) met)))
  left-side l false (Some parameter) met = record { parameter = parameter; there = refl; once = refl; entity = (agrees (Means l parameter) (found_first (Means l parameter) [] met)).1 }

  order-arity : (m : Meaning) → order_of m ≡ arity (entity_in m)
  order-arity BuiltIn = refl
  order-arity (Declared e callee) = places-arity e

  rights-read : (xs : Trees) → Replacements xs → (context : Context) (parameters : Exports) (before : List Named) (within : Bool) (index : ℕ) → TakePlaces context → Found (replaced text here context parameters before xs) → part_faults (found_entity found) role.Other within index xs ≡ [] → are_accepted xs
      → ReadRights context parameters before xs
  rights-read Nil rs context parameters before within index u met none accepted = tt
  rights-read (Cons (Node (Form.Replacement l) s (Cons (Node f at ps) Nil)) rest) rs context parameters before within index u met none accepted =
      let name = name_of text.source l in
      let right_side = Node f at ps in
      let own = left-side l (is_among before name) (entry_of parameters name) (first _ (first _ met)) in
      let at_right = tree_faults (found_entity found) (part_due (found_entity found) (role.Replacement l) 0 at) within right_side in
      let later = part_faults (found_entity found) role.Other within (suc index) rest in
      let none_right : at_right ≡ [] = first-empty at_right [] (first-empty (at_right ++ []) later none) in
      let is_due : part_due (found_entity found) (role.Replacement l) 0 at ≡ due_by (Some (arity (entity_in own.parameter))) at = ap (λ e. due_by (replacing_order e) at) own.entity in
      let read = rs.0.reads context (arity (entity_in own.parameter)) at within u (first _ (last _ (first _ met))) (subst (λ d. tree_faults (found_entity found) d within right_side ≡ []) is_due none_right) accepted.0.1.0 in (
        rs.0.shape.part,
        own.once,
        ap parameter_order own.there ∙ ap Some (order-arity own.parameter ∙ sym (ap order_by read.1 ∙ order-places (arity (entity_in own.parameter)))),
        read.0,
        rights-read rest rs.1 context parameters (name ∷ before) within (suc index) u (last _ met) (rest-empty (at_right ++ []) later none) accepted.1,
      )
  rights-read (Cons x rest) rs context parameters before within index u met none accepted = absurd rs

  -- ---- instances

  pub instance-read : (m : Lexeme) (s : Span) (rights others : Trees) → Replacements rights → IsAcceptedInstance text known named found faces m rights → (context : Context) (within : Bool) → TakePlaces context → Found (walk text here context (Node (Form.Instance m) s rights))
      → tree_faults (found_entity found) due.Expression within (Node (Form.Instance m) s rights) ≡ [] → are_accepted rights → ReadThrough context (Cons (Node (Form.Instance m) s rights) others)
  instance-read m s rights others rs is context within u met none accepted =
      let stands = last (replaced text here context (replaceable text here m) [] rights) met in
      (is.face, symbols-read text known named paths found faces agrees context m (left_sides text.source rights) (replaceable text here m) is.stand_in stands, rights-read rights rs context (replaceable text here m) [] within 0 u (first _ met) none accepted)

  -- what stands before an INSTANCE is none
  through-next : (f : Form.the_data) (s : Span) (ps rest : Trees) (context : Context) → is_instance_form f ≡ false → ReadThrough context rest → ReadThrough context (Cons (Node f s ps) rest)
  through-next (Form.Instance l) s ps rest context other read = absurd (cc)
  through-next Form.Let s ps rest context other read = read
  through-next _ s ps rest context other read = read

  through-heads : (xs : Trees) → AllHeads xs → (y : Tree) (context : Context) → ReadThrough context (one y) → ReadThrough context (then xs y)
  through-heads Nil all y context read = read
  through-heads (Cons (Node f s Nil) xs) all y context read = through-next f s Nil (then xs y) context all.0.other (through-heads xs all.1 y context read)
  through-heads (Cons (Node f s (Cons z zs)) xs) all y context read = absurd all

  among-next : (f : Form.the_data) (s : Span) (ps rest : Trees) → is_instance_form f ≡ false → instance_among (Cons (Node f s ps) rest) ≡ instance_among rest
  among-next (Form.Instance l) s ps rest other = absurd (cc)
  among-next Form.Let s ps rest other = refl
  among-next _ s ps rest other = refl

  among-heads : (xs : Trees) → AllHeads xs → (y : Tree) → instance_among (then xs y) ≡ instance_among (one y)
  among-heads Nil all y = refl
  among-heads (Cons (Node f s Nil) xs) all y = among-next f s Nil (then xs y) all.0.other ∙ among-heads xs all.1 y
  among-heads (Cons (Node f s (Cons z zs)) xs) all y = absurd all

  accepted-next : (own : Lexeme) (f : Form.the_data) (s : Span) (ps rest : Trees) → is_instance_form f ≡ false → IsAcceptedAmong text known named found faces own (Cons (Node f s ps) rest) → IsAcceptedAmong text known named found faces own rest
  accepted-next own (Form.Instance l) s ps rest other is = absurd (cc)
  accepted-next own Form.Let s ps rest other is = is
  accepted-next own _ s ps rest other is = is

  accepted-heads : (own : Lexeme) (xs : Trees) → AllHeads xs → (y : Tree) → IsAcceptedAmong text known named found faces own (then xs y) → IsAcceptedAmong text known named found faces own (one y)
  accepted-heads own Nil all y is = is
  accepted-heads own (Cons (Node f s Nil) xs) all y is = accepted-heads own xs all.1 y (accepted-next own f s Nil (then xs y) all.0.other is)
  accepted-heads own (Cons (Node f s (Cons z zs)) xs) all y is = absurd all

  last-accepted : (xs : Trees) (y : Tree) → are_accepted (then xs y) → is_accepted y
  last-accepted Nil y all = all.0
  last-accepted (Cons x xs) y all = last-accepted xs y all.1

  last-walk : (xs : Trees) (m : Lexeme) (s : Span) (rights : Trees) (context : Context) → Found (walk_rest text here context (then xs (Node (Form.Instance m) s rights))) → Found (walk text here context (Node (Form.Instance m) s rights))
  last-walk Nil m s rights context met = first [] met
  last-walk (Cons (Node f t ps) xs) m s rights context met = last-walk xs m s rights context (last _ met)

  last-faults : (xs : Trees) (m : Lexeme) (s : Span) (rights : Trees) (within : Bool) (index : ℕ) → part_faults (found_entity found) role.Other within index (then xs (Node (Form.Instance m) s rights)) ≡ [] → tree_faults (found_entity found) due.Expression within (Node (Form.Instance m) s rights) ≡ []
  last-faults Nil m s rights within index none = first-empty (tree_faults (found_entity found) due.Expression within (Node (Form.Instance m) s rights)) [] none
  last-faults (Cons x xs) m s rights within index none = last-faults xs m s rights within (suc index) (rest-empty (tree_faults (found_entity found) due.Expression within x) (part_faults (found_entity found) role.Other within (suc index) (then xs (Node (Form.Instance m) s rights))) none)

  pub module-definition : (l : Lexeme) (s : Span) (xs : Trees) (m : Lexeme) (t : Span) (rights : Trees) → AllHeads xs → Replacements rights → AllByRecursion Fits (defined (Form.ModuleDefinition l) (then xs (Node (Form.Instance m) t rights)))
      → Definition (Node (Form.ModuleDefinition l) s (then xs (Node (Form.Instance m) t rights)))
  module-definition l s xs m t rights heads rs fits = record {
    helper = refl;
    fits = fits;
    reads = λ context within u met none accepted.
        let instance = Node (Form.Instance m) t rights in
        let parts = then xs instance in
        let f : Form.the_data = Form.ModuleDefinition l in
        let w = walk-parts text known named paths found faces context f parts met in
        let v : TakePlaces (reserved text context f parts) = reserve-all-keeps text context (defined f parts) u in
        let u_scope : TakePlaces (scope text context f parts) = bind-all-keeps text (inside text context f parts) (binders f parts) (binders-fit text known named paths found faces f parts (heads-bind xs (Form.Instance m) t rights heads refl refl)) v in
        let is = accepted-heads l xs heads instance accepted.0 in (
          heads-grouped xs (Form.Instance m) t rights heads refl,
          subst (λ o. IsKnownBehind text known named (means_by found) (implied_by found) faces l o) (sym (among-heads xs heads instance)) is.0,
          through-heads xs heads instance (scope text context f parts)
              (instance-read m t rights Nil rs is.1 (scope text context f parts) within u_scope (last-walk xs m t rights (scope text context f parts) w.1) (last-faults xs m t rights within 0 none) (last-accepted xs instance accepted.1).1),
        );
  }
