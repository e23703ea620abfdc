-- What is found in a tree where the modules of its instances are the same.
use Rattle.std.proofs.Common.{◌≡◌, ℕ, List, [], ◌∷◌, ◌++◌, Option, is_some, if◌then◌else◌, refl, ap}
use Rattle.std.specs.List.{AllByRecursion}
use Rattle.tla_symbols.specs.declared.lexeme.Lexeme.{Lexeme}
use Rattle.tla_tree.specs.declared.form.Form.TheVariants as Form
use Rattle.tla_tree.specs.Syntax.{Tree, Trees, Node, Nil, Cons}
use Rattle.list_laws.proofs.Lists.{all-left, all-right}
use Rattle.tla_model.specs.ModuleNames.{instances, instances_in, instantiated}
use Rattle.tla_model.specs.Contexts.{Context, bind_all, meaning_of}
use Rattle.tla_model.specs.Entities.{Meaning, Text, defined, name_of}
use Rattle.tla_model.specs.Lexemes.{spelled}
use Rattle.tla_model.specs.Scopes as s
use Rattle.tla_model.specs.Tables.{Named, is_among}
use Rattle.module_model.specs.Exports.{Behind, Exports, Known, ModuleView, behind_meaning, entry_of, onward}
use Rattle.module_model.specs.Instances as i
use Rattle.module_model.specs.TreeFindings as t
use Rattle.module_model.specs.TreeFindings.{Surroundings}

module _ (text : Text) (named others : List ℕ → ModuleView) (known : Known) (paths : List ℕ) where
  abbrev one : Surroundings
  one = record { named = named; known = known; paths = paths }

  abbrev two : Surroundings
  two = record { named = others; known = known; paths = paths }

  abbrev pub Same : Lexeme → Type 0
  Same l = named (spelled text.source l) ≡ others (spelled text.source l)

  in-parts : (form : Form.the_data) (parts : Trees) → AllByRecursion Same (instantiated form ++ instances_in parts) → AllByRecursion Same (instances_in parts)
  in-parts form parts all = all-right Same (instantiated form) (instances_in parts) all

  first-of : (x : Tree) (rest : Trees) → AllByRecursion Same (instances x ++ instances_in rest) → AllByRecursion Same (instances x)
  first-of x rest all = all-left Same (instances x) (instances_in rest) all

  rest-of : (x : Tree) (rest : Trees) → AllByRecursion Same (instances x ++ instances_in rest) → AllByRecursion Same (instances_in rest)
  rest-of x rest all = all-right Same (instances x) (instances_in rest) all

  with-names : (context : Context) (form : Form.the_data) (parts : Trees) → t.walk_sets text one (s.reserved text context form parts) parts ≡ t.walk_sets text two (s.reserved text context form parts) parts
      → t.walk_rest text one (s.scope text context form parts) parts ≡ t.walk_rest text two (s.scope text context form parts) parts
      → s.all_refused text context (defined form parts) ++ t.walk_sets text one (s.reserved text context form parts) parts ++ s.all_refused text (s.inside text context form parts) (s.binders form parts) ++ t.walk_rest text one (s.scope text context form parts) parts
      ≡ s.all_refused text context (defined form parts) ++ t.walk_sets text two (s.reserved text context form parts) parts ++ s.all_refused text (s.inside text context form parts) (s.binders form parts) ++ t.walk_rest text two (s.scope text context form parts) parts
  with-names context form parts sets rest = λ i.
      s.all_refused text context (defined form parts) ++ sets i ++ s.all_refused text (s.inside text context form parts) (s.binders form parts) ++ rest i

  mutual
    pub walk-same : (context : Context) (x : Tree) → AllByRecursion Same (instances x) → t.walk text one context x ≡ t.walk text two context x
    walk-same context (Node Form.Identifier span parts) all = segments-same context parts all
    walk-same context (Node (Form.Symbol l) span parts) all = refl
    walk-same context (Node (Form.Prefix l) span parts) all = ap (λ z. s.symbol_findings context s.prefixed l l.kind ++ z) (each-same context parts all)
    walk-same context (Node (Form.Infix l) span parts) all = round-same context l parts all
    walk-same context (Node (Form.Postfix l) span parts) all = ap (λ z. z ++ s.symbol_findings context s.itself l l.kind) (each-same context parts all)
    walk-same context (Node Form.Let span parts) all = chain-same context parts all
    walk-same context (Node (Form.Instance l) span parts) all = λ k.
        replaced-same context ((all.0 k).parameters) [] parts all.1 k ++ i.implied context l (i.left_sides text.source parts) ((all.0 k).parameters)
    walk-same context (Node Form.SetImage span parts) all = λ k.
        s.all_refused text context (s.binders Form.SetImage parts) ++ rest-same (bind_all text context (s.binders Form.SetImage parts)) parts all k ++ sets-same context parts all k
    walk-same context (Node form span parts) all =
        with-names context form parts (sets-same (s.reserved text context form parts) parts (in-parts form parts all)) (rest-same (s.scope text context form parts) parts (in-parts form parts all))

    each-same : (context : Context) (parts : Trees) → AllByRecursion Same (instances_in parts) → t.walk_each text one context parts ≡ t.walk_each text two context parts
    each-same context Nil all = refl
    each-same context (Cons x rest) all = λ k. walk-same context x (first-of x rest all) k ++ each-same context rest (rest-of x rest all) k

    round-same : (context : Context) (l : Lexeme) (parts : Trees) → AllByRecursion Same (instances_in parts) → t.walk_round text one context l parts ≡ t.walk_round text two context l parts
    round-same context l Nil all = refl
    round-same context l (Cons x rest) all = λ k.
        walk-same context x (first-of x rest all) k ++ s.symbol_findings context s.itself l l.kind ++ each-same context rest (rest-of x rest all) k

    chain-same : (context : Context) (parts : Trees) → AllByRecursion Same (instances_in parts) → t.walk_chain text one context parts ≡ t.walk_chain text two context parts
    chain-same context Nil all = refl
    chain-same context (Cons x rest) all = λ k.
        walk-same context x (first-of x rest all) k ++ chain-same (s.behind text context x) rest (rest-of x rest all) k

    sets-same : (context : Context) (parts : Trees) → AllByRecursion Same (instances_in parts) → t.walk_sets text one context parts ≡ t.walk_sets text two context parts
    sets-same context Nil all = refl
    sets-same context (Cons (Node form span parts) rest) all = λ k.
        (if s.has_set form then walk-same context (Node form span parts) (first-of (Node form span parts) rest all) k else [])
        ++ sets-same context rest (rest-of (Node form span parts) rest all) k

    rest-same : (context : Context) (parts : Trees) → AllByRecursion Same (instances_in parts) → t.walk_rest text one context parts ≡ t.walk_rest text two context parts
    rest-same context Nil all = refl
    rest-same context (Cons (Node form span parts) rest) all = λ k.
        (if s.has_set form then [] else walk-same context (Node form span parts) (first-of (Node form span parts) rest all) k)
        ++ rest-same context rest (rest-of (Node form span parts) rest all) k

    replaced-same : (context : Context) (parameters : Exports) (before : List Named) (parts : Trees) → AllByRecursion Same (instances_in parts) → t.replaced text one context parameters before parts ≡ t.replaced text two context parameters before parts
    replaced-same context parameters before Nil all = refl
    replaced-same context parameters before (Cons (Node (Form.Replacement l) span right) rest) all = λ k.
        i.replaced_as l (is_among before (name_of text.source l)) (entry_of parameters (name_of text.source l))
        ++ each-same context right (first-of (Node (Form.Replacement l) span right) rest all) k
        ++ replaced-same context parameters (name_of text.source l ∷ before) rest (rest-of (Node (Form.Replacement l) span right) rest all) k
    replaced-same context parameters before (Cons (Node form span parts) rest) all = replaced-same context parameters before rest (rest-of (Node form span parts) rest all)

    segments-same : (context : Context) (parts : Trees) → AllByRecursion Same (instances_in parts) → t.segments text one context parts ≡ t.segments text two context parts
    segments-same context Nil all = refl
    segments-same context (Cons (Node (Form.Segment l) span arguments) rest) all =
        let meaning : Option Meaning = meaning_of context (name_of text.source l) in λ k.
        s.use_findings l meaning ++ each-same context arguments (first-of (Node (Form.Segment l) span arguments) rest all) k
        ++ (if is_some meaning then path-same context (t.path_number text one l) (behind_meaning known meaning) rest (rest-of (Node (Form.Segment l) span arguments) rest all) k else [])
    segments-same context (Cons (Node _ span arguments) rest) all = refl

    path-same : (context : Context) (number : ℕ) (held : Behind) (parts : Trees) → AllByRecursion Same (instances_in parts) → t.path text one context number held parts ≡ t.path text two context number held parts
    path-same context number held Nil all = refl
    path-same context number held (Cons (Node (Form.Segment l) span arguments) rest) all =
        let meaning : Option Meaning = entry_of (held []) (name_of text.source l) in λ k.
        s.use_findings l (i.called_by number rest meaning) ++ each-same context arguments (first-of (Node (Form.Segment l) span arguments) rest all) k
        ++ (if is_some meaning then path-same context number (onward held (name_of text.source l)) rest (rest-of (Node (Form.Segment l) span arguments) rest all) k else [])
    path-same context number held (Cons (Node _ span arguments) rest) all = refl
