-- The segments of a path, from what is due of them.
use Rattle.std.proofs.Common.{◌≡◌, ℕ, suc, zero, ◌+◌, ◌<◌, ◌≤◌, List, [], ◌∷◌, ◌++◌, Bool, true, false, true≢false, drop, length, refl, ap, sym, subst, ◌∙◌, add-one, arith}
use Rattle.std.specs.Prelude.{is_some, if◌then◌else◌, nat_eq, option_map, slice_get, Option, Some, None, unwrap_or}
use Rattle.std.specs.List.{AllByRecursion}
use Rattle.std.proofs.Math.Dec.{eqb-suc-suc, eqb-zero-suc}
use Rattle.tla_symbols.specs.declared.lexeme.Lexeme.{Lexeme}
use Rattle.tla_symbols.specs.declared.lexeme.Span.{Span}
use Rattle.tla_tree.specs.declared.form.Form.TheVariants as Form
use Rattle.tla_tree.specs.Arena.{Node as ArenaNode, AreThere, node_at, tree_at}
use Rattle.tla_tree.specs.Syntax.{Trees, Node, Nil, Cons}
use Rattle.tla_tree.proofs.Nodes.{tree_at-form}
use Rattle.tla_model.specs.Contexts.{Context, meaning_of}
use Rattle.tla_model.specs.Entities.{Text, Meaning, name_of}
use Rattle.tla_model.specs.Lexemes.{LiesIn, all_lexemes, form_lexemes, lexemes}
use Rattle.tla_model.specs.Scopes.{Finding, use_findings}
use Rattle.module_model.specs.Exports.{Behind, behind_meaning, entry_of, onward}
use Rattle.module_model.specs.Instances.{called_by}
use Rattle.module_model.specs.TreeFindings.{Surroundings, path, path_number, segments, walk_each}
use Rattle.list_laws.proofs.Lists.{all-left, all-right, drop-at}
use Rattle.declared_names.specs.Nodes.{IsWhole, form_at, parts_at}
use Rattle.tree_tasks.specs.declared.held.Held.{Held}
use Rattle.tree_tasks.specs.declared.tasks.Task.TheVariants as task
use Rattle.tree_scope.specs.TasksDone.{AreFound, AreReady, IsDone, IsPath, all_size, children_from, emit, run, size, sizes, trees_at}
use Rattle.tree_tasks.specs.WalkTasks.{Task, called, leads, path_tasks, segment_of, visits}
use Rattle.tree_scope.proofs.TaskFindings.{each-run, emit-append}
use Rattle.tree_scope.proofs.NodeTasks.{ready-append, size-append, visits-ready, visits-size}
use Rattle.tree_scope.proofs.NamesInText.{held-lies, is_named, parts-lie}

-- the name of a segment lies where its lexemes do
segment-lies : (source : List ℕ) (form : Form.the_data) (l : Lexeme) → segment_of form ≡ Some l → AllByRecursion (LiesIn source) (form_lexemes form) → LiesIn source l
unfolding is_named
segment-lies source (Form.Segment n) l e lie = subst (LiesIn source) (ap (λ found. unwrap_or found n) e) lie.0
segment-lies source _ l e lie = absurd (true≢false (sym (ap is_named e)))

-- ---- the end of a path

-- behind the only child of a node stands nothing
only-one : (numbers : List ℕ) → length numbers ≡ 1 → drop 1 numbers ≡ []
only-one [] e = refl
only-one (x ∷ []) e = refl
only-one (x ∷ (y ∷ numbers)) e = cc

-- the same, of the children of a node
pub alone : (nodes : List ArenaNode) (node : ℕ) (kids : List ℕ) → kids ≡ (node_at nodes node).children → length kids ≡ 1 → children_from nodes node 1 ≡ []
alone nodes node kids are one = only-one (node_at nodes node).children (ap length (sym are) ∙ one)

is_last : Trees → Bool
is_last Nil = true
is_last (Cons x rest) = false

-- what a name calls, by whether it is the last one
called-is : (number : ℕ) (rest : Trees) (meaning : Option Meaning) → called_by number rest meaning ≡ called (is_last rest) number meaning
unfolding is_last
called-is number Nil meaning = refl
called-is number (Cons x rest) meaning = refl

-- the last child of a node
last-is : (nodes : List ArenaNode) (numbers : List ℕ) (i x : ℕ) → slice_get numbers i ≡ Some x → nat_eq (suc i) (length numbers) ≡ is_last (trees_at nodes (drop (suc i) numbers))
unfolding is_last
last-is nodes [] zero x e = cc
last-is nodes [] (suc i) x e = cc
last-is nodes (y ∷ []) zero x e = refl
last-is nodes (y ∷ (z ∷ numbers)) zero x e = eqb-suc-suc 0 (suc (length numbers)) ∙ eqb-zero-suc (length numbers)
last-is nodes (y ∷ numbers) (suc i) x e = eqb-suc-suc (suc i) (length numbers) ∙ last-is nodes numbers i x e

last-at : (nodes : List ArenaNode) (node from x : ℕ) → slice_get (node_at nodes node).children from ≡ Some x → nat_eq (from + 1) (length (node_at nodes node).children) ≡ is_last (trees_at nodes (children_from nodes node (from + 1)))
last-at nodes node from x e = rw add-one (last-is nodes (node_at nodes node).children from x e)

module _ (text : Text) (nodes : List ArenaNode) (node from x : ℕ) (at : slice_get (node_at nodes node).children from ≡ Some x) (all : IsPath text nodes (children_from nodes node from)) where
  is_here : children_from nodes node from ≡ x ∷ children_from nodes node (from + 1)
  is_here = drop-at (node_at nodes node).children from x at

  path-here : IsPath text nodes (x ∷ children_from nodes node (from + 1))
  path-here = subst (IsPath text nodes) is_here all

  path-on : IsPath text nodes (children_from nodes node (from + 1))
  path-on = record { there = path-here.there.1; lie = all-right (LiesIn text.source) (lexemes (tree_at nodes x)) (all_lexemes (trees_at nodes (children_from nodes node (from + 1)))) path-here.lie }

  name-lies : AllByRecursion (LiesIn text.source) (lexemes (tree_at nodes x))
  name-lies = all-left (LiesIn text.source) (lexemes (tree_at nodes x)) (all_lexemes (trees_at nodes (children_from nodes node (from + 1)))) path-here.lie

  -- a segment of a path is there
  pub segment-there : x < length nodes
  segment-there = path-here.there.0

  -- and its name lies in the text
  pub here-lies : (l : Lexeme) → segment_of (form_at nodes x) ≡ Some l → LiesIn text.source l
  here-lies l named = segment-lies text.source (form_at nodes x) l named (held-lies text.source nodes x segment-there name-lies)

module _ (text : Text) (around : Surroundings) (held : Held → Behind) (nodes : List ArenaNode) where
  abbrev source : List ℕ
  source = text.source

  -- ---- one segment

  abbrev next_of : Context → ℕ → Option Meaning → Behind → Trees → List Finding
  next_of context number meaning behind rest = if is_some meaning then path text around context number behind rest else []

  first-segment : (context : Context) (form : Form.the_data) (s : Span) (parts rest : Trees) (l : Lexeme) → segment_of form ≡ Some l →
      segments text around context (Cons (Node form s parts) rest) ≡
      use_findings l (meaning_of context (name_of source l)) ++ walk_each text around context parts
      ++ next_of context (path_number text around l) (meaning_of context (name_of source l)) (behind_meaning around.known (meaning_of context (name_of source l))) rest
  unfolding is_named
  first-segment context (Form.Segment n) s parts rest l e =
      ap (λ z. use_findings z (meaning_of context (name_of source z)) ++ walk_each text around context parts
      ++ next_of context (path_number text around z) (meaning_of context (name_of source z)) (behind_meaning around.known (meaning_of context (name_of source z))) rest) (ap (λ found. unwrap_or found n) e)
  first-segment context _ s parts rest l e = absurd (true≢false (sym (ap is_named e)))

  no-first : (context : Context) (form : Form.the_data) (s : Span) (parts rest : Trees) → segment_of form ≡ None → segments text around context (Cons (Node form s parts) rest) ≡ []
  unfolding is_named
  no-first context (Form.Segment l) s parts rest e = absurd (true≢false (ap is_named e))
  no-first context _ s parts rest e = refl

  further-segment : (context : Context) (number : ℕ) (behind : Behind) (form : Form.the_data) (s : Span) (parts rest : Trees) (l : Lexeme) → segment_of form ≡ Some l →
      path text around context number behind (Cons (Node form s parts) rest) ≡
      use_findings l (called_by number rest (entry_of (behind []) (name_of source l))) ++ walk_each text around context parts
      ++ next_of context number (entry_of (behind []) (name_of source l)) (onward behind (name_of source l)) rest
  unfolding is_named
  further-segment context number behind (Form.Segment n) s parts rest l e =
      ap (λ z. use_findings z (called_by number rest (entry_of (behind []) (name_of source z))) ++ walk_each text around context parts
      ++ next_of context number (entry_of (behind []) (name_of source z)) (onward behind (name_of source z)) rest) (ap (λ found. unwrap_or found n) e)
  further-segment context number behind _ s parts rest l e = absurd (true≢false (sym (ap is_named e)))

  no-further : (context : Context) (number : ℕ) (behind : Behind) (form : Form.the_data) (s : Span) (parts rest : Trees) → segment_of form ≡ None → path text around context number behind (Cons (Node form s parts) rest) ≡ []
  unfolding is_named
  no-further context number behind (Form.Segment l) s parts rest e = absurd (true≢false (ap is_named e))
  no-further context number behind _ s parts rest e = refl

  -- ---- the rest of a path

  -- what the number of a place stands for
  or_nowhere : Behind → Option Behind → Behind
  or_nowhere b None = b
  or_nowhere b (Some c) = c

  leads-on : Option Behind → Bool
  leads-on None = false
  leads-on (Some b) = true

  next-run : (context : Context) (node from number : ℕ) (next : Option Held) (meaning : Option Meaning) (behind : Behind) (more : List Task) → option_map held next ≡ leads meaning behind →
      run text around held nodes context (path_tasks node from number next more) ≡ emit (next_of context number meaning behind (trees_at nodes (children_from nodes node from))) (run text around held nodes context more)
  unfolding or_nowhere leads-on
  next-run context node from number None None behind more e = refl
  next-run context node from number (Some place) (Some meaning) behind more e =
      ap (λ z. emit (path text around context number z (trees_at nodes (children_from nodes node from))) (run text around held nodes context more)) (ap (or_nowhere behind) e)
  next-run context node from number None (Some meaning) behind more e = absurd (true≢false (sym (ap leads-on e)))
  next-run context node from number (Some place) None behind more e = absurd (true≢false (ap leads-on e))

  next-none : (context : Context) (number : ℕ) (meaning : Option Meaning) (behind : Behind) → next_of context number meaning behind Nil ≡ []
  next-none context number None behind = refl
  next-none context number (Some meaning) behind = refl

  next-ready : (node from number : ℕ) (next : Option Held) (more : List Task) → node < length nodes → IsPath text nodes (children_from nodes node from) → AreReady text nodes more → AreReady text nodes (path_tasks node from number next more)
  next-ready node from number None more there path ready = ready
  next-ready node from number (Some place) more there path ready = ((there, path), ready)

  next-size : (node from number : ℕ) (next : Option Held) (more : List Task) →
      all_size text nodes (path_tasks node from number next more) ≤ 1 + (sizes text nodes (trees_at nodes (children_from nodes node from)) + all_size text nodes more)
  next-size node from number None more = omega arith
  next-size node from number (Some place) more = omega arith

  -- ---- a segment, and then the rest

  module _ (node from x : ℕ) (there : node < length nodes) (at : slice_get (node_at nodes node).children from ≡ Some x) (all : IsPath text nodes (children_from nodes node from)) where
    step-found : (context : Context) (number : ℕ) (used : List Finding) (meaning : Option Meaning) (behind : Behind) (next : Option Held) (due findings findings' : List Finding) (old middle new : List Task) →
        IsWhole nodes x → AreThere nodes (node_at nodes x).children →
        run text around held nodes context (path_tasks node (from + 1) number next old) ≡ emit (next_of context number meaning behind (trees_at nodes (children_from nodes node (from + 1)))) (run text around held nodes context old) →
        findings' ≡ findings ++ used → middle ≡ path_tasks node (from + 1) number next old → new ≡ visits (node_at nodes x).children ++ middle →
        due ≡ used ++ walk_each text around context (parts_at nodes x) ++ next_of context number meaning behind (trees_at nodes (children_from nodes node (from + 1))) →
        AreFound text around held nodes (children_from nodes node from) due context findings findings' old new
    step-found context number used meaning behind next due findings findings' old middle new whole kids_there led are rest is found =
        let kids = (node_at nodes x).children in
        let below = walk_each text around context (trees_at nodes kids) in
        let onward = next_of context number meaning behind (trees_at nodes (children_from nodes node (from + 1))) in
        let last = run text around held nodes context old in
        record {
          ready = λ ready. subst (AreReady text nodes) (sym is) (ready-append text nodes (visits kids) middle (visits-ready text nodes kids kids_there (parts-lie source nodes x whole (name-lies text nodes node from x at all)))
              (subst (AreReady text nodes) (sym rest) (next-ready node (from + 1) number next old there (path-on text nodes node from x at all) ready)));
          run_on = ap (λ z. emit z (run text around held nodes context new)) are
              ∙ ap (emit (findings ++ used)) (ap (run text around held nodes context) is ∙ each-run text around held nodes context kids middle
              ∙ ap (emit below) (ap (run text around held nodes context) rest ∙ led))
              ∙ emit-append findings used (emit below (emit onward last))
              ∙ ap (emit findings) (sym (emit-append (used ++ below) onward last ∙ emit-append used below (emit onward last)))
              ∙ ap (λ z. emit findings (emit z last)) (sym found);
          less = rw (is, size-append text nodes (visits kids) middle, rest, is_here text nodes node from x at all) (omega (arith, visits-size text nodes kids, next-size node (from + 1) number next old, ap (size text nodes) whole));
        }

    pub first-found : (context : Context) (l : Lexeme) (next : Option Held) (findings findings' : List Finding) (old middle new : List Task) →
        IsWhole nodes x → AreThere nodes (node_at nodes x).children → segment_of (form_at nodes x) ≡ Some l →
        option_map held next ≡ leads (meaning_of context (name_of source l)) (behind_meaning around.known (meaning_of context (name_of source l))) →
        findings' ≡ findings ++ use_findings l (meaning_of context (name_of source l)) → middle ≡ path_tasks node (from + 1) (path_number text around l) next old → new ≡ visits (node_at nodes x).children ++ middle →
        AreFound text around held nodes (children_from nodes node from) (segments text around context (trees_at nodes (children_from nodes node from))) context findings findings' old new
    first-found context l next findings findings' old middle new whole kids_there named led are rest is =
        let m = meaning_of context (name_of source l) in
        step-found context (path_number text around l) (use_findings l m) m (behind_meaning around.known m) next _ findings findings' old middle new whole kids_there
        (next-run context node (from + 1) (path_number text around l) next m (behind_meaning around.known m) old led) are rest is
        (ap (λ z. segments text around context (trees_at nodes z)) (is_here text nodes node from x at all) ∙ ap (λ t. segments text around context (Cons t (trees_at nodes (children_from nodes node (from + 1))))) whole
        ∙ first-segment context (form_at nodes x) (node_at nodes x).span (parts_at nodes x) (trees_at nodes (children_from nodes node (from + 1))) l named)

    pub alone-found : (context : Context) (l : Lexeme) (findings findings' : List Finding) (old new : List Task) →
        IsWhole nodes x → AreThere nodes (node_at nodes x).children → segment_of (form_at nodes x) ≡ Some l → children_from nodes node (from + 1) ≡ [] →
        findings' ≡ findings ++ use_findings l (meaning_of context (name_of source l)) → new ≡ visits (node_at nodes x).children ++ old →
        AreFound text around held nodes (children_from nodes node from) (segments text around context (trees_at nodes (children_from nodes node from))) context findings findings' old new
    alone-found context l findings findings' old new whole kids_there named none are is =
        let m = meaning_of context (name_of source l) in
        let number = path_number text around l in
        let behind = behind_meaning around.known m in
        step-found context number (use_findings l m) m behind None _ findings findings' old old new whole kids_there
        (ap (λ z. emit z (run text around held nodes context old)) (sym (ap (λ z. next_of context number m behind (trees_at nodes z)) none ∙ next-none context number m behind))) are refl is
        (ap (λ z. segments text around context (trees_at nodes z)) (is_here text nodes node from x at all) ∙ ap (λ t. segments text around context (Cons t (trees_at nodes (children_from nodes node (from + 1))))) whole
        ∙ first-segment context (form_at nodes x) (node_at nodes x).span (parts_at nodes x) (trees_at nodes (children_from nodes node (from + 1))) l named)

    pub further-found : (context : Context) (number : ℕ) (place : Held) (l : Lexeme) (last : Bool) (next : Option Held) (findings findings' : List Finding) (old middle new : List Task) →
        IsWhole nodes x → AreThere nodes (node_at nodes x).children → segment_of (form_at nodes x) ≡ Some l → last ≡ nat_eq (from + 1) (length (node_at nodes node).children) →
        option_map held next ≡ leads (entry_of (held place []) (name_of source l)) (onward (held place) (name_of source l)) →
        findings' ≡ findings ++ use_findings l (called last number (entry_of (held place []) (name_of source l))) → middle ≡ path_tasks node (from + 1) number next old → new ≡ visits (node_at nodes x).children ++ middle →
        AreFound text around held nodes (children_from nodes node from) (path text around context number (held place) (trees_at nodes (children_from nodes node from))) context findings findings' old new
    further-found context number place l last next findings findings' old middle new whole kids_there named ends led are rest is =
        let m = entry_of (held place []) (name_of source l) in
        let behind = trees_at nodes (children_from nodes node (from + 1)) in
        step-found context number (use_findings l (called_by number behind m)) m (onward (held place) (name_of source l)) next _ findings findings' old middle new whole kids_there
        (next-run context node (from + 1) number next m (onward (held place) (name_of source l)) old led)
        (are ∙ ap (λ z. findings ++ use_findings l (called z number m)) (ends ∙ last-at nodes node from x at) ∙ ap (λ z. findings ++ use_findings l z) (sym (called-is number behind m))) rest is
        (ap (λ z. path text around context number (held place) (trees_at nodes z)) (is_here text nodes node from x at all) ∙ ap (λ t. path text around context number (held place) (Cons t behind)) whole
        ∙ further-segment context number (held place) (form_at nodes x) (node_at nodes x).span (parts_at nodes x) behind l named)

  -- ---- no segment

  nothing-found : (numbers : List ℕ) (due findings : List Finding) (context : Context) (old : List Task) → due ≡ [] → AreFound text around held nodes numbers due context findings findings old old
  nothing-found numbers due findings context old none = record {
    ready = λ ready. ready;
    run_on = ap (λ z. emit findings (emit z (run text around held nodes context old))) (sym none);
    less = omega arith;
  }

  module _ (node from x : ℕ) (at : slice_get (node_at nodes node).children from ≡ Some x) (all : IsPath text nodes (children_from nodes node from)) (other : segment_of (form_at nodes x) ≡ None) where
    pub first-other : (context : Context) (findings : List Finding) (old : List Task) →
        AreFound text around held nodes (children_from nodes node from) (segments text around context (trees_at nodes (children_from nodes node from))) context findings findings old old
    first-other context findings old =
        let known = tree_at-form nodes x (segment-there text nodes node from x at all) in
        nothing-found (children_from nodes node from) _ findings context old
        (ap (λ z. segments text around context (trees_at nodes z)) (drop-at (node_at nodes node).children from x at)
        ∙ ap (λ t. segments text around context (Cons t (trees_at nodes (children_from nodes node (from + 1))))) known.1
        ∙ no-first context (form_at nodes x) (node_at nodes x).span known.0 (trees_at nodes (children_from nodes node (from + 1))) other)

    pub further-other : (number : ℕ) (place : Held) (context : Context) (findings : List Finding) (old : List Task) →
        AreFound text around held nodes (children_from nodes node from) (path text around context number (held place) (trees_at nodes (children_from nodes node from))) context findings findings old old
    further-other number place context findings old =
        let known = tree_at-form nodes x (segment-there text nodes node from x at all) in
        nothing-found (children_from nodes node from) _ findings context old
        (ap (λ z. path text around context number (held place) (trees_at nodes z)) (drop-at (node_at nodes node).children from x at)
        ∙ ap (λ t. path text around context number (held place) (Cons t (trees_at nodes (children_from nodes node (from + 1))))) known.1
        ∙ no-further context number (held place) (form_at nodes x) (node_at nodes x).span known.0 (trees_at nodes (children_from nodes node (from + 1))) other)

  -- a task for the rest of a path is done
  pub path-done : (node from number : ℕ) (place : Held) (context : Context) (findings findings' : List Finding) (old new : List Task) → AreReady text nodes old →
      AreFound text around held nodes (children_from nodes node from) (path text around context number (held place) (trees_at nodes (children_from nodes node from))) context findings findings' old new →
      IsDone text around held nodes (task.Path node from number place) context context findings findings' old new
  path-done node from number place context findings findings' old new ready found = record {
    ready = found.ready ready;
    run_on = found.run_on;
    less = omega (arith, found.less);
  }
