-- Nodes of names and of symbols are the trees that they are flattened from.
use Rattle.std.proofs.Common.{◌≡◌, ℕ, zero, suc, max, Bool, true, false, cond, List, [], ◌∷◌, ◌++◌, Option, Some, None, length, refl, sym, ap, ◌∙◌, subst, inl, inr}
use Rattle.std.specs.Prelude.{is_some, replicate}
use Rattle.std.specs.List.{AllByRecursion}
use Rattle.std.proofs.Math.Nat.{zero-max}
use Rattle.tla_symbols.specs.declared.lexeme.Lexeme.{Lexeme}
use Rattle.tla_symbols.specs.declared.lexeme.LexKind.TheVariants as LexKind
use Rattle.tla_symbols.specs.declared.lexeme.Span.{Span}
use Rattle.tla_symbols.specs.declared.level.Rule.{Rule}
use Rattle.tla_symbols.specs.declared.op.Op.TheVariants as Op
use Rattle.tla_symbols.specs.declared.place.Fix.TheVariants.{Infix}
use Rattle.tla_symbols.specs.Symbols.{range_of}
use Rattle.tla_tree.specs.declared.form.Form.TheVariants as Form
use Rattle.tla_tree.specs.Syntax.{Trees, Node, Nil, Cons}
use Rattle.tla_model.specs.Tables.{Named, Symbol}
use Rattle.tla_model.specs.Entities.{Meaning, Nothing, Text, defines, name_of}
use Rattle.tla_model.specs.Contexts.{Context, meaning_of}
use Rattle.tla_model.specs.Scopes.{is_free, itself as as_spelled}
use Rattle.module_model.specs.Exports.{Known, behind_meaning}
use Rattle.kind_text.specs.FlatModule.{FlatModule, IsOrdered, places_of}
use Rattle.level_text.specs.Depth.{depth as depth_at, greatest, operator_depth}
use Rattle.level_text.proofs.Depths.{depth-step}
use Rattle.tree_kinds.specs.Standing.{Outside, operator_places}
use Rattle.tree_kinds.specs.Expanding.{bare_rule, built_in_places, called, is_bare, places_at, symbol_places}
use Rattle.tree_kinds.specs.TreeDepths as written
use Rattle.tree_kinds.specs.TreeDepths.{Beneath, Depths, counted, deep_names, deep_parts, depth, name_depth, parts_depth, path_names, reached_at, reached_by, symbol_depth, use_depth}
use Rattle.flat_trees.specs.Names.{order_by}
use Rattle.flat_trees.specs.Layouts.{order_of}
use Rattle.flat_trees.specs.Stands.{Stand}
use Rattle.flat_depths.specs.Parts as parts_of
use Rattle.flat_depths.proofs.Joining.{arguments-deep}
use Rattle.flat_depths.proofs.Nodes.{bare-none}
use Rattle.flattened_trees.specs.Leads.{FlatFace, Setting}
use Rattle.flattened_trees.specs.NodeForms.{bare_node, bare_places, lead_of, name_node, operator_node, path_node, path_places}
use Rattle.flattened_trees.specs.Questions.{Question, asks_at, over}
use Rattle.flattened_trees.specs.Flattened.{AreOperands, HasNode, IsFlattened, all_parts}
use Rattle.flattened_trees.specs.Readable.{AreArguments, IsOperator, IsReadable, IsReadableBare, orders_of}
use Rattle.flattened_trees.specs.Agreeing.{lead_by}
use Rattle.flattened_depths.specs.Arranged.{BindsNothing}
use Rattle.flattened_trees.specs.Answers.{deep_answers}
use Rattle.flattened_depths.proofs.Facts.{TreeMatches, asked-joins, asks-none, beneath, plain-names, unbound-depth, unbound-names}
use Rattle.flattened_depths.proofs.Naming.{ArgumentsGood, SegmentsGood}
use Rattle.flattened_depths.proofs.Rounds.{Round, Usable}
use Rattle.flattened_depths.proofs.Uses.{Fits, identifier-fits, lone-fits, meaning-places, positive}

-- all orders are zero
zeros : (orders : List ℕ) (n : ℕ) → orders ≡ replicate n 0 → AllByRecursion (λ order. order ≡ 0) orders
zeros [] n e = tt
zeros (order ∷ orders) zero e = cc
zeros (order ∷ orders) (suc n) e = (cc, zeros orders n cc)

module _ (flat : FlatModule) (text : Text) (known : Known) (named : List ℕ → Outside) (means : ℕ → Option Meaning) (implied : ℕ → List Meaning) (faces : List ℕ → FlatFace) (inside : List ℕ → Named → Stand) (ordered : IsOrdered flat) where
  -- ---- what is asked of a form

  pub form-names : (context : Context) (depths : Depths) (setting : Setting) (i : ℕ) (form : Form.the_data) (s : Span) (parts : Trees) (asked a : List Question) → defines form ≡ Nothing → asked ≡ over setting.frame (asks_at i form s parts) ++ a
      → deep_names text known named (beneath context depths) (Node form s parts) ≡ written.deep_name text known named (beneath context depths) (Node form s parts) ++ deep_parts text known named (written.before_scope text known named (beneath context depths) form parts) (written.in_scope text known named (beneath context depths) form parts) parts
      → deep_answers flat a ≡ deep_parts text known named (written.before_scope text known named (beneath context depths) form parts) (written.in_scope text known named (beneath context depths) form parts) parts
      → deep_answers flat asked ≡ deep_names text known named (beneath context depths) (Node form s parts)
  form-names context depths setting i form s parts asked a none joined opens inner =
      ap (deep_answers flat) joined ∙ asked-joins flat (over setting.frame (asks_at i form s parts)) a
      ∙ ap (λ xs. xs ++ deep_answers flat a) (asks-none flat setting.frame i form s parts)
      ∙ inner
      ∙ ap (λ xs. xs ++ deep_parts text known named (written.before_scope text known named (beneath context depths) form parts) (written.in_scope text known named (beneath context depths) form parts) parts) (sym (plain-names flat text known named means implied faces inside (beneath context depths) form s parts none))
      ∙ sym opens

  -- ---- places

  no-meaning-places : (o : Option Meaning) → order_by (operator_places o) ≡ 0 → operator_places o ≡ None
  no-meaning-places None e = refl
  no-meaning-places (Some meaning) e = positive (operator_places (Some meaning)) (order_of meaning) (meaning-places meaning) e

  no-symbol-places : (context : Context) (kind : LexKind.the_data) → order_by (symbol_places context kind) ≡ 0 → symbol_places context kind ≡ None
  no-symbol-places context (LexKind.Sym op) e = by_free (is_free op) e
    where
      built_in : (b : Bool) → order_by (Some (cond {A = ℕ} b 2 1)) ≡ 0 → Some (cond {A = ℕ} b 2 1) ≡ None
      built_in true e = cc
      built_in false e = cc

      by_free : (b : Bool) → order_by (cond b (operator_places (meaning_of context (Symbol op))) (Some (built_in_places op))) ≡ 0 → cond b (operator_places (meaning_of context (Symbol op))) (Some (built_in_places op)) ≡ None
      by_free true e = no-meaning-places (meaning_of context (Symbol op)) e
      by_free false e = built_in (is_some (range_of op Infix)) e
  no-symbol-places context kind e = refl

  no-places : (context : Context) (form : Form.the_data) (s : Span) (parts : Trees) → order_by (places_at text known named context (Node form s parts)) ≡ 0 → places_at text known named context (Node form s parts) ≡ None
  no-places context Form.Identifier s parts e = by_bare (is_bare false parts) e
    where
      by_bare : (b : Bool) → order_by (cond b (operator_places (called text known named context parts)) None) ≡ 0 → cond b (operator_places (called text known named context parts)) None ≡ None
      by_bare true e = no-meaning-places (called text known named context parts) e
      by_bare false e = refl
  no-places context (Form.Symbol l) s parts e = no-symbol-places context l.kind e
  no-places context form s parts e = refl

  -- operands that are expressions do not count as operators
  operands-plain : (context : Context) (depths : Depths) (parts : Trees) (orders is : List ℕ) → AllByRecursion (λ order. order ≡ 0) orders → AreArguments text known named means implied faces context orders parts → parts_of.AreArguments flat text known named (beneath context depths) parts is → greatest (operator_depth flat (depth_at flat)) is ≡ 0
  operands-plain context depths Nil orders [] none readable all = refl
  operands-plain context depths Nil orders (i ∷ is) none readable all = absurd all
  operands-plain context depths (Cons (Node form s parts) rest) orders [] none readable all = absurd all
  operands-plain context depths (Cons (Node form s parts) rest) [] (i ∷ is) none readable all = absurd readable
  operands-plain context depths (Cons (Node form s parts) rest) (order ∷ orders) (i ∷ is) none readable (plain, deep, places, more) =
      ap (λ o. max (cond (is_some o) (depth_at flat i) 0) (greatest (operator_depth flat (depth_at flat)) is)) (places ∙ no-places context form s parts (readable.1 ∙ none.0))
      ∙ ap (max 0) (operands-plain context depths rest orders is none.1 readable.3 more)

  -- ---- names

  pub identifier-matches : (seen : List Meaning) (stands : Meaning → Stand) (setting : Setting) (depths : Depths) (context : Context) (s : Span) (parts : Trees) (i : ℕ) (asked : List Question)
      → Round text flat known seen stands setting depths → Usable text flat known seen stands context → BindsNothing Form.Identifier parts
      → SegmentsGood flat text known named means implied faces inside context depths setting parts
      → IsReadable text known named means implied faces context (Node Form.Identifier s parts)
      → IsFlattened text means implied faces flat setting (Node Form.Identifier s parts) i asked
      → TreeMatches flat text known named means implied faces inside context depths (Node Form.Identifier s parts) i asked
  identifier-matches seen stands setting depths context s Nil i asked round here none good readable flattened = absurd readable.0.1
  identifier-matches seen stands setting depths context s (Cons (Node (Form.Segment l) at arguments) rest) i asked round here none good ((meaning, first, path), places) (is, a, operands, there, joined) =
      let segments = Cons (Node (Form.Segment l) at arguments) rest in
      let names = path_names text.source rest in
      let takes = here.orders (name_of text.source l) meaning first.there in
      let fits = identifier-fits flat text known named means implied faces inside context depths setting (stands meaning) (behind_meaning known (Some meaning)) meaning l at arguments rest is a (round.deep meaning) (round.parameters meaning) takes first.here path good operands in
      let leading : lead_by (stands meaning) (path_names text.source rest) ≡ lead_of setting.leads (means l.span.start) (path_names text.source rest) = sym (ap (λ o. lead_of setting.leads o (path_names text.source rest)) first.here ∙ round.leads meaning (path_names text.source rest)) in
      let node = subst (λ lead. Fits flat (name_node (path_places text.source means (Cons (Node (Form.Segment l) at arguments) rest)) lead is) (max (use_depth (depths meaning (path_names text.source rest)) (counted text known named (beneath context depths) (Cons (Node (Form.Segment l) at arguments) rest))) (parts_depth text known named (beneath context depths) (beneath context depths) (Cons (Node (Form.Segment l) at arguments) rest))) (path_places text.source means (Cons (Node (Form.Segment l) at arguments) rest))) leading fits.0 in
      record {
        deep = depth-step flat i (path_node text.source means setting (Cons (Node (Form.Segment l) at arguments) rest) is) ordered there ∙ node.deep
            ∙ ap (λ o. max (use_depth (reached_by depths o (path_names text.source rest)) (counted text known named (beneath context depths) (Cons (Node (Form.Segment l) at arguments) rest))) (parts_depth text known named (beneath context depths) (beneath context depths) (Cons (Node (Form.Segment l) at arguments) rest))) (sym first.there);
        places = ap places_of there ∙ node.placed ∙ places;
        names = form-names context depths setting i Form.Identifier s (Cons (Node (Form.Segment l) at arguments) rest) asked a refl joined refl
            (fits.1 ∙ sym (unbound-names flat text known named means implied faces inside context depths Form.Identifier (Cons (Node (Form.Segment l) at arguments) rest) none));
      }
  identifier-matches seen stands setting depths context s (Cons (Node form at arguments) rest) i asked round here none good readable flattened = absurd readable.0.1

  -- ---- symbols

  module _ (seen : List Meaning) (stands : Meaning → Stand) (setting : Setting) (depths : Depths) (context : Context) (round : Round text flat known seen stands setting depths) (here : Usable text flat known seen stands context) where
    -- a bare symbol
    bare-fits : (l : Lexeme) (kind : LexKind.the_data) (places : Option ℕ) → places ≡ bare_places text.source means l kind → IsReadableBare text known named means implied faces context l kind None → Fits flat (name_node places (lead_of setting.leads (means l.span.start) []) []) (max (symbol_depth (beneath context depths) as_spelled kind) 0) places
    bare-fits l (LexKind.Sym op) places e (free, (meaning, at, bare), some) =
        let takes = here.orders (Symbol op) meaning at.there in
        let fits = lone-fits flat (stands meaning) (behind_meaning known (Some meaning)) meaning (depths meaning) places [] (round.deep meaning) (round.parameters meaning) takes bare.0 (inl refl)
        (e ∙ ap (λ b. cond b (operator_places (means l.span.start)) (Some (built_in_places op))) free ∙ ap operator_places at.here ∙ meaning-places meaning) refl in
        let leading : lead_by (stands meaning) [] ≡ lead_of setting.leads (means l.span.start) [] = sym (ap (λ o. lead_of setting.leads o []) at.here ∙ round.leads meaning []) in
        let node = subst (λ lead. Fits flat (name_node places lead []) (max (use_depth (depths meaning []) 0) 0) places) leading fits in
        record {
          deep = node.deep ∙ ap (λ o. max (use_depth (reached_by depths o []) 0) 0) (sym at.there) ∙ ap (λ b. max (cond b (name_depth (beneath context depths) (Symbol op)) 0) 0) (sym free);
          placed = node.placed;
        }
    bare-fits l kind places e readable = absurd readable

    bare-rules : (l : Lexeme) (rule : Option Rule) (places : Option ℕ) → bare_rule l.kind ≡ rule → IsReadableBare text known named means implied faces context l l.kind rule → bare_places text.source means l l.kind ≡ places → Fits flat (bare_node text.source means setting l rule) (max (symbol_depth (beneath context depths) as_spelled l.kind) 0) places
    bare-rules l (Some rule) places e readable same = record { deep = sym (ap (λ n. max n 0) (bare-none (beneath context depths) l.kind rule e)); placed = same }
    bare-rules l None places e readable same =
        let fits = bare-fits l l.kind (bare_places text.source means l l.kind) refl readable in record { deep = fits.deep; placed = fits.placed ∙ same }

    pub bare-matches : (l : Lexeme) (s : Span) (parts : Trees) (i : ℕ) (asked : List Question)
        → IsReadable text known named means implied faces context (Node (Form.Symbol l) s parts)
        → IsFlattened text means implied faces flat setting (Node (Form.Symbol l) s parts) i asked
        → TreeMatches flat text known named means implied faces inside context depths (Node (Form.Symbol l) s parts) i asked
    bare-matches l s (Cons x rest) i asked readable flattened = cc (readable.0)
    bare-matches l s Nil i asked (empty, same, readable) (is, a, operands, there, joined) =
        let fits = bare-rules l (bare_rule l.kind) (symbol_places context l.kind) refl readable same in
        record {
          deep = depth-step flat i (bare_node text.source means setting l (bare_rule l.kind)) ordered there ∙ fits.deep;
          places = ap places_of there ∙ fits.placed;
          names = form-names context depths setting i (Form.Symbol l) s Nil asked a refl joined refl (ap (deep_answers flat) operands.1);
        }

    -- a symbol on operands
    operator-fits : (l : Lexeme) (which : Op.the_data → Op.the_data) (kind : LexKind.the_data) (rule : Option Rule) (parts : Trees) (orders is : List ℕ) → ((r : Rule) → rule ≡ Some r → symbol_depth (beneath context depths) which kind ≡ 0) → IsOperator text known named means implied faces context l which kind rule parts orders → AreArguments text known named means implied faces context orders parts → parts_of.AreArguments flat text known named (beneath context depths) parts is → length is ≡ length orders → Fits flat (operator_node text.source means setting l rule is) (max (symbol_depth (beneath context depths) which kind) (greatest (depth_at flat) is)) None
    operator-fits l which kind (Some rule) parts orders is none operator readable all many =
        record { deep = sym (zero-max (greatest (depth_at flat) is)) ∙ ap (λ n. max n (greatest (depth_at flat) is)) (sym (none rule refl)); placed = refl }
    operator-fits l which (LexKind.Sym op) None (Cons (Node form at ys) parts) orders [] none operator readable all many = absurd all
    operator-fits l which (LexKind.Sym op) None (Cons (Node form at ys) parts) orders (i ∷ is) none (free, (meaning, at_name, bare, same)) readable all many =
        let takes = here.orders (Symbol (which op)) meaning at_name.there in
        let fits = lone-fits flat (stands meaning) (behind_meaning known (Some meaning)) meaning (depths meaning) None (i ∷ is) (round.deep meaning) (round.parameters meaning) takes bare.0 (inr (many ∙ ap length same)) refl
        (operands-plain context depths (Cons (Node form at ys) parts) orders (i ∷ is) (zeros orders (length (orders_of meaning)) (same ∙ bare.1)) readable all) in
        let leading : lead_by (stands meaning) [] ≡ lead_of setting.leads (means l.span.start) [] = sym (ap (λ o. lead_of setting.leads o []) at_name.here ∙ round.leads meaning []) in
        let node = subst (λ lead. Fits flat (name_node None lead (i ∷ is)) (max (use_depth (depths meaning []) 0) (greatest (depth_at flat) (i ∷ is))) None) leading fits in
        record {
          deep = node.deep ∙ ap (λ o. max (use_depth (reached_by depths o []) 0) (greatest (depth_at flat) (i ∷ is))) (sym at_name.there)
              ∙ ap (λ b. max (cond b (name_depth (beneath context depths) (Symbol (which op))) 0) (greatest (depth_at flat) (i ∷ is))) (sym free);
          placed = node.placed;
        }
    operator-fits l which (LexKind.Sym op) None Nil orders is none operator readable all many = absurd operator
    operator-fits l which kind None parts orders is none operator readable all many = absurd operator

    -- the same, as a tree
    pub operator-matches : (form : Form.the_data) (l : Lexeme) (which : Op.the_data → Op.the_data) (rule : Option Rule) (s : Span) (parts : Trees) (orders is : List ℕ) (i : ℕ) (asked a : List Question) → defines form ≡ Nothing → BindsNothing form parts
        → ((r : Rule) → rule ≡ Some r → symbol_depth (beneath context depths) which l.kind ≡ 0) → IsOperator text known named means implied faces context l which l.kind rule parts orders
        → AreArguments text known named means implied faces context orders parts → ArgumentsGood flat text known named means implied faces inside context depths setting parts
        → AreOperands text means implied faces flat all_parts setting parts is a → HasNode flat i (operator_node text.source means setting l rule is) → asked ≡ over setting.frame (asks_at i form s parts) ++ a
        → depth text known named (beneath context depths) (Node form s parts) ≡ max (symbol_depth (beneath context depths) which l.kind) (parts_depth text known named (written.before_scope text known named (beneath context depths) form parts) (written.in_scope text known named (beneath context depths) form parts) parts)
        → places_at text known named context (Node form s parts) ≡ None
        → deep_names text known named (beneath context depths) (Node form s parts) ≡ written.deep_name text known named (beneath context depths) (Node form s parts) ++ deep_parts text known named (written.before_scope text known named (beneath context depths) form parts) (written.in_scope text known named (beneath context depths) form parts) parts
        → TreeMatches flat text known named means implied faces inside context depths (Node form s parts) i asked
    operator-matches form l which rule s parts orders is i asked a nothing unbound none operator readable good operands there joined opens bare_not names_open =
        let all = good orders is a readable operands in
        let fits = operator-fits l which l.kind rule parts orders is none operator readable all.0 all.1 in
        record {
          deep = depth-step flat i (operator_node text.source means setting l rule is) ordered there ∙ fits.deep
              ∙ ap (max (symbol_depth (beneath context depths) which l.kind)) (arguments-deep flat text known named (beneath context depths) parts is all.0 ∙ sym (unbound-depth flat text known named means implied faces inside context depths form parts unbound))
              ∙ sym opens;
          places = ap places_of there ∙ fits.placed ∙ sym bare_not;
          names = form-names context depths setting i form s parts asked a nothing joined names_open
              (all.2 ∙ sym (unbound-names flat text known named means implied faces inside context depths form parts unbound));
        }
