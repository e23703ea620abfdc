-- What INSTANCE replaces, from what is due of it.
use Rattle.std.proofs.Common.{◌≡◌, ℕ, ◌+◌, ◌<◌, ◌≤◌, List, [], ◌∷◌, ◌++◌, Bool, true, false, true≢false, append_assoc, get_or, length, suc, take, zero, refl, ap, sym, subst, ◌∙◌, arith}
use Rattle.std.specs.Prelude.{◌||◌, IfSome, if◌then◌else◌, Option, Some, None, unwrap_or}
use Rattle.std.specs.List.{AllByRecursion}
use Rattle.std.proofs.lemmas.List.{append-nil}
use Rattle.std.proofs.lemmas.Option.{slice_get-get_or}
use Rattle.tla_symbols.specs.declared.lexeme.Lexeme.{Lexeme}
use Rattle.tla_symbols.specs.declared.lexeme.Span.{Span}
use Rattle.tla_tree.specs.declared.form.Form.TheVariants as Form
use Rattle.tla_tree.specs.Arena.{Node as ArenaNode, AreThere, node_at, tree_at}
use Rattle.tla_tree.specs.Syntax.{Trees, Node, Cons}
use Rattle.tla_tree.proofs.Nodes.{before-there, tree_at-form}
use Rattle.tla_model.specs.Contexts.{Context, meaning_of}
use Rattle.tla_model.specs.Entities.{Text, Meaning, name_of}
use Rattle.tla_model.specs.Lexemes.{LiesIn, all_lexemes, form_lexemes, lexemes}
use Rattle.tla_model.specs.Scopes.{Finding}
use Rattle.tla_model.specs.Tables.{Named, Word, Symbol, empty, has, is_among, same_named}
use Rattle.module_model.specs.Exports.{Behind, Exports, entry_of}
use Rattle.module_model.specs.Instances.{implied, implied_as, left_sides, replaced_as}
use Rattle.module_model.specs.TreeFindings.{Surroundings, replaceable, replaced, walk_each}
use Rattle.list_laws.proofs.Lists.{all-both, all-left, all-right}
use Rattle.tla_model.proofs.Stretching.{take-at}
use Rattle.declared_names.proofs.Nodewise.{there-at, tree-at}
use Rattle.declared_names.specs.Nodes.{IsWhole, form_at, parts_at}
use Rattle.tree_tasks.specs.declared.held.Held.{Held}
use Rattle.tree_tasks.specs.declared.tasks.Naming.TheVariants as how
use Rattle.tree_tasks.specs.declared.tasks.Task.TheVariants as task
use Rattle.tree_scope.specs.TasksDone.{AreReady, IsDone, IsNode, IsPath, all_size, emit, run, size, sizes, trees_at}
use Rattle.tree_tasks.specs.WalkTasks.{Task, AreWhole, implied_of, instance_tasks, left_of, naming, noted, noted_all, replacements, replacing, visits}
use Rattle.tree_scope.proofs.NamesInText.{held-lies, is_named, parts-lie}
use Rattle.tree_scope.proofs.NodeTasks.{done, ready-append, size-append, size-is, visits-ready, visits-size, walk-is}
use Rattle.tree_scope.proofs.Noting.{HasThese, or-assoc, or-past, put-found, these-more}
use Rattle.tree_scope.proofs.Shapes.{walk-instance}
use Rattle.tree_scope.proofs.TaskFindings.{each-run, emit-append}

-- ---- left sides

-- the left side, if it is one
names_of : List ℕ → Option Lexeme → List Named
names_of source None = []
names_of source (Some l) = name_of source l ∷ []

-- the left side of a replacement lies where its lexemes do
left-lies : (source : List ℕ) (form : Form.the_data) (l : Lexeme) → left_of form ≡ Some l → AllByRecursion (LiesIn source) (form_lexemes form) → LiesIn source l
unfolding is_named
left-lies source (Form.Replacement n) l e lie = subst (LiesIn source) (ap (λ found. unwrap_or found n) e) lie.0
left-lies source _ l e lie = absurd (true≢false (sym (ap is_named e)))

left-one : (source : List ℕ) (form : Form.the_data) (s : Span) (parts rest : Trees) → left_sides source (Cons (Node form s parts) rest) ≡ names_of source (left_of form) ++ left_sides source rest
unfolding names_of
left-one source (Form.Replacement l) s parts rest = refl
left-one source _ s parts rest = refl

noted-one : (source : List ℕ) (names : Context) (left : Option Lexeme) (name : Named) → has (noted source names left) name ≡ (is_among (names_of source left) name || has names name)
unfolding names_of
noted-one source names None name = refl
noted-one source names (Some l) name = put-found names (name_of source l) name ∙ sym (or-assoc (same_named name (name_of source l)) false (has names name))

among-append : (a b : List Named) (name : Named) → is_among (a ++ b) name ≡ (is_among a name || is_among b name)
among-append [] b name = refl
among-append (other ∷ a) b name = ap (λ z. same_named name other || z) (among-append a b name) ∙ sym (or-assoc (same_named name other) (is_among a name) (is_among b name))

noted-found : (source : List ℕ) (nodes : List ArenaNode) (names : Context) (numbers : List ℕ) (name : Named) → AreThere nodes numbers →
    has (noted_all source nodes names numbers) name ≡ (is_among (left_sides source (trees_at nodes numbers)) name || has names name)
noted-found source nodes names [] name there = refl
noted-found source nodes names (x ∷ numbers) name there =
    let found = tree_at-form nodes x there.0 in
    let left = left_of (form_at nodes x) in
    let rest = left_sides source (trees_at nodes numbers) in
    noted-found source nodes (noted source names left) numbers name there.1
    ∙ ap (λ z. is_among rest name || z) (noted-one source names left name)
    ∙ or-past (is_among rest name) (is_among (names_of source left) name) (has names name)
    ∙ sym (or-assoc (is_among (names_of source left) name) (is_among rest name) (has names name))
    ∙ ap (λ z. z || has names name) (sym (ap (λ t. is_among (left_sides source (Cons t (trees_at nodes numbers))) name) found.1
    ∙ ap (λ z. is_among z name) (left-one source (form_at nodes x) (node_at nodes x).span found.0 (trees_at nodes numbers)) ∙ among-append (names_of source left) rest name))

none-empty : (b : Bool) (name : Named) → (b || has {V = Option Meaning} empty name) ≡ b
none-empty true name = refl
none-empty false (Word bytes) = refl
none-empty false (Symbol op) = refl

-- the names that are noted are the left sides
noted-are : (source : List ℕ) (nodes : List ArenaNode) (numbers : List ℕ) → AreThere nodes numbers → HasThese (noted_all source nodes empty numbers) (left_sides source (trees_at nodes numbers))
noted-are source nodes numbers there = record { has_them = λ name. noted-found source nodes empty numbers name there ∙ none-empty (is_among (left_sides source (trees_at nodes numbers)) name) name }

-- ---- nodes one by one

some-left : (source : List ℕ) (left : Option Lexeme) → ((l : Lexeme) → left ≡ Some l → LiesIn source l) → IfSome left (LiesIn source)
some-left source None lies = tt
some-left source (Some l) lies = lies l refl

lexemes-at : (source : List ℕ) (nodes : List ArenaNode) (numbers : List ℕ) (i d : ℕ) → AllByRecursion (LiesIn source) (all_lexemes (trees_at nodes numbers)) → i < length numbers →
    AllByRecursion (LiesIn source) (lexemes (tree_at nodes (get_or numbers i d)))
lexemes-at source nodes [] i d lie lt = elim lt [ ]
lexemes-at source nodes (x ∷ numbers) zero d lie lt = all-left (LiesIn source) (lexemes (tree_at nodes x)) (all_lexemes (trees_at nodes numbers)) lie
lexemes-at source nodes (x ∷ numbers) (suc i) d lie lt =
    lexemes-at source nodes numbers i d (all-right (LiesIn source) (lexemes (tree_at nodes x)) (all_lexemes (trees_at nodes numbers)) lie) (omega (arith, lt))

-- the children of a node as segments of a path
pub children-path : (text : Text) (nodes : List ArenaNode) (node : ℕ) → IsNode text nodes node → (kids : List ℕ) → kids ≡ (node_at nodes node).children → AllByRecursion (λ child. child < node) kids → IsPath text nodes kids
children-path text nodes node one kids are before =
    let below = subst (AllByRecursion (λ child. child < node)) are before in
    subst (IsPath text nodes) (sym are) (record {
      there = before-there nodes node (node_at nodes node).children one.there below;
      lie = parts-lie text.source nodes node (tree-at nodes node one.there below) one.lie;
    })

-- the names that are noted of a node's children are the left sides among its parts
pub written-are : (text : Text) (nodes : List ArenaNode) (node : ℕ) → IsNode text nodes node → (kids : List ℕ) → kids ≡ (node_at nodes node).children → AllByRecursion (λ child. child < node) kids →
    (written : Context) → written ≡ noted_all text.source nodes empty kids → HasThese written (left_sides text.source (parts_at nodes node))
written-are text nodes node one kids are before written is =
    subst (λ z. HasThese written (left_sides text.source (trees_at nodes z))) are
    (subst (λ z. HasThese z (left_sides text.source (trees_at nodes kids))) (sym is) (noted-are text.source nodes kids (children-path text nodes node one kids are before).there))

module _ (text : Text) (nodes : List ArenaNode) (numbers : List ℕ) (i d : ℕ) (lt : i < length numbers) where
  abbrev here : ℕ
  here = get_or numbers i d

  next-take : take (i + 1) numbers ≡ take i numbers ++ here ∷ []
  next-take = take-at numbers i here (slice_get-get_or numbers i d lt)

  pub left-at : (left : Option Lexeme) → left ≡ left_of (form_at nodes here) → IsPath text nodes numbers → IfSome left (LiesIn text.source)
  left-at left is all =
      let there = there-at nodes numbers i d all.there lt in
      some-left text.source left (λ l e. left-lies text.source (form_at nodes here) l (sym is ∙ e) (held-lies text.source nodes here there (lexemes-at text.source nodes numbers i d all.lie lt)))

  noted-append : (names : Context) (xs : List ℕ) (x : ℕ) → noted_all text.source nodes names (xs ++ x ∷ []) ≡ noted text.source (noted_all text.source nodes names xs) (left_of (form_at nodes x))
  noted-append names [] x = refl
  noted-append names (y ∷ xs) x = noted-append (noted text.source names (left_of (form_at nodes y))) xs x

  pub noted-next : (names names' : Context) (left : Option Lexeme) → left ≡ left_of (form_at nodes here) → names ≡ noted_all text.source nodes empty (take i numbers) → names' ≡ noted text.source names left →
      names' ≡ noted_all text.source nodes empty (take (i + 1) numbers)
  noted-next names names' left is are more =
      more ∙ ap (λ z. noted text.source z left) are ∙ ap (noted text.source (noted_all text.source nodes empty (take i numbers))) is
      ∙ sym (ap (noted_all text.source nodes empty) next-take ∙ noted-append empty (take i numbers) here)

  replacements-append : (names : Context) (l : Lexeme) (xs : List ℕ) (x : ℕ) →
      replacements text.source nodes names l (xs ++ x ∷ []) ≡
      replacements text.source nodes names l xs ++ replacing text.source (noted_all text.source nodes names xs) l (left_of (form_at nodes x)) (node_at nodes x).children
  replacements-append names l [] x = append-nil (replacing text.source names l (left_of (form_at nodes x)) (node_at nodes x).children)
  replacements-append names l (y ∷ xs) x =
      let first = replacing text.source names l (left_of (form_at nodes y)) (node_at nodes y).children in
      let next = noted text.source names (left_of (form_at nodes y)) in
      ap (λ z. first ++ z) (replacements-append next l xs x)
      ∙ sym (append_assoc first (replacements text.source nodes next l xs) (replacing text.source (noted_all text.source nodes next xs) l (left_of (form_at nodes x)) (node_at nodes x).children))

  pub due-next : (names : Context) (l : Lexeme) (left : Option Lexeme) (right : List ℕ) (due due' : List Task) → left ≡ left_of (form_at nodes here) → right ≡ (node_at nodes here).children →
      names ≡ noted_all text.source nodes empty (take i numbers) → due ≡ replacements text.source nodes empty l (take i numbers) → due' ≡ due ++ replacing text.source names l left right →
      due' ≡ replacements text.source nodes empty l (take (i + 1) numbers)
  due-next names l left right due due' is kids are was more =
      more ∙ ap (λ z. z ++ replacing text.source names l left right) was
      ∙ ap (λ z. replacements text.source nodes empty l (take i numbers) ++ replacing text.source z l left right) are
      ∙ ap (λ z. replacements text.source nodes empty l (take i numbers) ++ replacing text.source (noted_all text.source nodes empty (take i numbers)) l z right) is
      ∙ ap (λ z. replacements text.source nodes empty l (take i numbers) ++ replacing text.source (noted_all text.source nodes empty (take i numbers)) l (left_of (form_at nodes here)) z) kids
      ∙ sym (ap (replacements text.source nodes empty l) next-take ∙ replacements-append empty l (take i numbers) here)

  pub whole-next : (kids : List ℕ) → AreThere nodes numbers → kids ≡ (node_at nodes here).children → AllByRecursion (λ child. child < here) kids → AreWhole nodes (take i numbers) → AreWhole nodes (take (i + 1) numbers)
  whole-next kids all are before whole =
      let there = there-at nodes numbers i d all lt in
      let below = subst (AllByRecursion (λ child. child < here)) are before in
      subst (AreWhole nodes) (sym next-take)
      (all-both (λ x. IsWhole nodes x × AreThere nodes (node_at nodes x).children) (take i numbers) (here ∷ []) whole
      ((tree-at nodes here there below, before-there nodes here (node_at nodes here).children there below), tt))

-- ---- replacements

none-before : HasThese empty []
none-before = record { has_them = λ name. none-empty false name }

module _ (text : Text) (around : Surroundings) (held : Held → Behind) (nodes : List ArenaNode) where
  abbrev source : List ℕ
  source = text.source

  -- what is found of one replacement, if it is one
  one_replaced : Context → Exports → List Named → Option Lexeme → Trees → List Finding
  one_replaced context parameters before None right = []
  one_replaced context parameters before (Some l) right = replaced_as l (is_among before (name_of source l)) (entry_of parameters (name_of source l)) ++ walk_each text around context right

  -- the names before, and this one
  with_left : List Named → Option Lexeme → List Named
  with_left before None = before
  with_left before (Some l) = name_of source l ∷ before

  replaced-one : (context : Context) (parameters : Exports) (before : List Named) (form : Form.the_data) (s : Span) (right rest : Trees) →
      replaced text around context parameters before (Cons (Node form s right) rest) ≡
      one_replaced context parameters before (left_of form) right ++ replaced text around context parameters (with_left before (left_of form)) rest
  unfolding one_replaced with_left
  replaced-one context parameters before (Form.Replacement l) s right rest = refl
  replaced-one context parameters before _ s right rest = refl

  noted-more : (names : Context) (before : List Named) (left : Option Lexeme) → HasThese names before → HasThese (noted source names left) (with_left before left)
  unfolding with_left
  noted-more names before None all = all
  noted-more names before (Some l) all = these-more names before (name_of source l) all

  one-run : (context names : Context) (l : Lexeme) (before : List Named) (left : Option Lexeme) (right : List ℕ) (more : List Task) → HasThese names before →
      run text around held nodes context (replacing source names l left right ++ more) ≡ emit (one_replaced context (replaceable text around l) before left (trees_at nodes right)) (run text around held nodes context more)
  unfolding one_replaced
  one-run context names l before None right more all = refl
  one-run context names l before (Some n) right more all =
      let name = name_of source n in
      let meaning = entry_of (replaceable text around l) name in
      let last = run text around held nodes context more in
      ap (emit (replaced_as n (has names name) meaning)) (each-run text around held nodes context right more)
      ∙ sym (emit-append (replaced_as n (has names name) meaning) (walk_each text around context (trees_at nodes right)) last)
      ∙ ap (λ b. emit (replaced_as n b meaning ++ walk_each text around context (trees_at nodes right)) last) (all.has_them name)

  replaced-run : (context names : Context) (l : Lexeme) (before : List Named) (numbers : List ℕ) (more : List Task) → AreWhole nodes numbers → HasThese names before →
      run text around held nodes context (replacements source nodes names l numbers ++ more) ≡ emit (replaced text around context (replaceable text around l) before (trees_at nodes numbers)) (run text around held nodes context more)
  replaced-run context names l before [] more whole all = refl
  replaced-run context names l before (x ∷ numbers) more whole all =
      let left = left_of (form_at nodes x) in
      let right = (node_at nodes x).children in
      let next = noted source names left in
      let parameters = replaceable text around l in
      let first = one_replaced context parameters before left (trees_at nodes right) in
      let rest = replaced text around context parameters (with_left before left) (trees_at nodes numbers) in
      let last = run text around held nodes context more in
      ap (run text around held nodes context) (append_assoc (replacing source names l left right) (replacements source nodes next l numbers) more)
      ∙ one-run context names l before left right (replacements source nodes next l numbers ++ more) all
      ∙ ap (emit first) (replaced-run context next l (with_left before left) numbers more whole.1 (noted-more names before left all))
      ∙ sym (emit-append first rest last)
      ∙ ap (λ z. emit z last) (sym (ap (λ t. replaced text around context parameters before (Cons t (trees_at nodes numbers))) whole.0.0
      ∙ replaced-one context parameters before (form_at nodes x) (node_at nodes x).span (parts_at nodes x) (trees_at nodes numbers)))

  one-ready : (names : Context) (l : Lexeme) (left : Option Lexeme) (right : List ℕ) (more : List Task) → LiesIn source l → ((n : Lexeme) → left ≡ Some n → LiesIn source n) → AreReady text nodes (visits right) → AreReady text nodes more →
      AreReady text nodes (replacing source names l left right ++ more)
  one-ready names l None right more lies left_lies all ready = ready
  one-ready names l (Some n) right more lies left_lies all ready = ((left_lies n refl, lies), ready-append text nodes (visits right) more all ready)

  replaced-ready : (names : Context) (l : Lexeme) (numbers : List ℕ) (more : List Task) → LiesIn source l → AreWhole nodes numbers → AreThere nodes numbers → AllByRecursion (LiesIn source) (all_lexemes (trees_at nodes numbers)) →
      AreReady text nodes more → AreReady text nodes (replacements source nodes names l numbers ++ more)
  replaced-ready names l [] more lies whole there lie ready = ready
  replaced-ready names l (x ∷ numbers) more lies whole there lie ready =
      let left = left_of (form_at nodes x) in
      let right = (node_at nodes x).children in
      let next = noted source names left in
      let here = all-left (LiesIn source) (lexemes (tree_at nodes x)) (all_lexemes (trees_at nodes numbers)) lie in
      subst (AreReady text nodes) (sym (append_assoc (replacing source names l left right) (replacements source nodes next l numbers) more))
      (one-ready names l left right (replacements source nodes next l numbers ++ more) lies (λ n e. left-lies source (form_at nodes x) n e (held-lies source nodes x there.0 here))
      (visits-ready text nodes right whole.0.1 (parts-lie source nodes x whole.0.0 here))
      (replaced-ready next l numbers more lies whole.1 there.1 (all-right (LiesIn source) (lexemes (tree_at nodes x)) (all_lexemes (trees_at nodes numbers)) lie) ready))

  one-size : (names : Context) (l : Lexeme) (left : Option Lexeme) (right : List ℕ) → all_size text nodes (replacing source names l left right) ≤ 1 + sizes text nodes (trees_at nodes right)
  one-size names l None right = omega arith
  one-size names l (Some n) right = omega (arith, visits-size text nodes right)

  replaced-size : (names : Context) (l : Lexeme) (numbers : List ℕ) → AreWhole nodes numbers → all_size text nodes (replacements source nodes names l numbers) ≤ sizes text nodes (trees_at nodes numbers)
  replaced-size names l [] whole = omega arith
  replaced-size names l (x ∷ numbers) whole =
      let left = left_of (form_at nodes x) in
      let right = (node_at nodes x).children in
      rw (size-append text nodes (replacing source names l left right) (replacements source nodes (noted source names left) l numbers))
      (omega (arith, one-size names l left right, replaced-size (noted source names left) l numbers whole.1, ap (size text nodes) whole.0.0))

  -- ---- an INSTANCE

  module _ (node : ℕ) (one : IsNode text nodes node) (whole : IsWhole nodes node) (there : AreThere nodes (node_at nodes node).children) where
    pub instance-done : (l : Lexeme) (context : Context) (findings : List Finding) (old new : List Task) → naming (form_at nodes node) ≡ how.Instance l → LiesIn source l → AreReady text nodes old →
        AreWhole nodes (node_at nodes node).children → new ≡ instance_tasks source nodes empty node l (node_at nodes node).children old →
        IsDone text around held nodes (task.Visit node) context context findings findings old new
    instance-done l context findings old new named lies ready all is =
        let kids = (node_at nodes node).children in
        let left = left_sides source (parts_at nodes node) in
        let parameters = replaceable text around l in
        let written = replaced text around context parameters [] (parts_at nodes node) in
        let others = implied context l left parameters in
        let more = task.Imply node l ∷ old in
        done text around held nodes node one whole there context context findings findings [] (written ++ others) old new
        (subst (AreReady text nodes) (sym is) (replaced-ready empty l kids more lies all there (parts-lie source nodes node whole one.lie) ((one, lies), ready)))
        (sym (append-nil findings)) (walk-is text around held nodes node one whole there context ∙ walk-instance text around context (node_at nodes node).span (parts_at nodes node) (form_at nodes node) l named)
        (ap (run text around held nodes context) is ∙ replaced-run context empty l [] kids more all none-before
        ∙ sym (emit-append written others (run text around held nodes context old)))
        (rw (is, size-append text nodes (replacements source nodes empty l kids) more, size-is text around held nodes node one whole there) (omega (arith, replaced-size empty l kids all)))

-- ---- parameters that are not replaced

-- of these parameters, those that are not among the left sides
implied-on : (context written : Context) (l : Lexeme) (left : List Named) (parameter : Named × Meaning) (rest : Exports) → HasThese written left →
    implied_of context written l parameter ++ implied context l left rest ≡ implied context l left (parameter ∷ rest)
implied-on context written l left parameter rest all =
    ap (λ b. (if b then [] else implied_as l parameter.1 (meaning_of context parameter.0)) ++ implied context l left rest) (all.has_them parameter.0)

pub implied-next : (context written : Context) (l : Lexeme) (left : List Named) (findings findings' all : List Finding) (parameter : Named × Meaning) (rest : Exports) → HasThese written left →
    findings' ≡ findings ++ implied_of context written l parameter → findings ++ implied context l left (parameter ∷ rest) ≡ all → findings' ++ implied context l left rest ≡ all
implied-next context written l left findings findings' all parameter rest has are before =
    ap (λ z. z ++ implied context l left rest) are ∙ append_assoc findings (implied_of context written l parameter) (implied context l left rest)
    ∙ ap (λ z. findings ++ z) (implied-on context written l left parameter rest has) ∙ before
