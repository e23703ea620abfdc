-- The expansion of a node, with items put in for what stands round it: every use of a definition is its body with what
-- stands round the definition and with its arguments put in.
use Rattle.std.specs.Prelude.{ℕ, Bool, true, ◌&&◌, List, [], ◌∷◌, ◌++◌, Option, Some, None, drop, if◌then◌else◌, length, map, slice_get, take}
use Rattle.tla_symbols.specs.declared.level.Rule.TheVariants.{Plain, Boolean}
use Rattle.order_rec.specs.Earlier.{along}
use Rattle.kind_text.specs.ExpandedKind.{Expanded, Operands, Given, Ruled, Guarded, Nil, Cons, is_at_most, kind}
use Rattle.kind_text.specs.Substitution.{Item, at, expression, expressions, judged, operator, put, stays, texts}
use Rattle.kind_text.specs.FlatModule.{Definition, FlatModule, Form, Instance, Node, Replacement, places_of}

-- the expansions of earlier nodes, with items put in
abbrev pub Earlier : Type 0
Earlier = ℕ → List Item → Item

-- no node is there
abbrev pub nothing : List Item → Item
nothing s = expression (Given None)

-- nodes with items put in
abbrev pub items : Earlier → List ℕ → List Item → List Item
items f [] s = []
items f (i ∷ rest) s = f i s ∷ items f rest s

-- the first of these nodes
abbrev pub first_item : Earlier → List ℕ → List Item → Item
first_item f [] s = nothing s
first_item f (i ∷ rest) s = f i s

-- a definition's body with items put in: those round it by how many stand there
abbrev pub body : Earlier → Option Definition → (ℕ → List Item) → Expanded
body f None frame = Given None
body f (Some definition) frame = (f definition.root (frame definition.outer)).text

-- a quantifier over sets: these are judged by themselves
abbrev pub bounded : Operands → Expanded
bounded Nil = Given None
bounded (Cons inner sets) = Ruled Boolean (Cons inner (Cons (Ruled Plain sets) Nil))

-- ---- paths of instances

-- a replacement, and the greatest level that it may have
pub record Guard : Type 0 where
  pub most : ℕ
  pub replacement : Expanded

-- an expression under guards
abbrev pub guard : List Guard → Expanded → Expanded
guard [] t = t
guard (g ∷ rest) t = Guarded g.most g.replacement (guard rest t)

-- how far a path has led: what stands round what is defined there, the guards, and the arguments that are left
pub record Reached : Type 0 where
  pub frame : List Item
  pub guards : List Guard
  pub rest : List Item

-- where a path begins
abbrev pub start : List Item → List Item → Reached
start s arguments = record { frame = s; guards = []; rest = arguments }

-- a replacement as a guard, if it has a bound
abbrev pub guarded_by : Option ℕ → Expanded → List Guard
guarded_by None t = []
guarded_by (Some most) t = record { most = most; replacement = t } ∷ []

module _ (flat : FlatModule) (f : Earlier) where
  -- what is judged of a node
  abbrev pub judged_at : ℕ → List Item → Expanded
  judged_at i s = judged (places_of (slice_get flat.nodes i)) (f i s)

  -- the guards of replacements
  abbrev pub guards_of : List Replacement → List Item → List Guard
  guards_of [] s = []
  guards_of (r ∷ rest) s = guarded_by r.most (judged_at r.root s) ++ guards_of rest s

  -- behind an instance, where these items stand round its module's name
  abbrev pub behind : Instance → List Item → Reached → Reached
  behind j s reached =
      record {
        frame = items f (map (λ r. r.root) j.replacements) s;
        guards = reached.guards ++ (if j.guards then guards_of j.replacements s else []);
        rest = drop j.parameters reached.rest;
      }

  -- one instance further, with its arguments
  abbrev pub through : Option Instance → Reached → Reached
  through None reached = reached
  through (Some j) reached = behind j (take j.outer reached.frame ++ take j.parameters reached.rest) reached

  -- behind a path of instances
  abbrev pub along_path : List ℕ → Reached → Reached
  along_path [] reached = reached
  along_path (j ∷ path) reached = along_path path (through (slice_get flat.instances j) reached)

  -- a definition behind a path, on arguments
  abbrev pub used : Reached → ℕ → List Item → Expanded
  used reached d arguments = guard reached.guards (body f (slice_get flat.definitions d) (λ outer. take outer reached.frame ++ arguments))

  -- a definition behind a path, on the arguments that the path leaves
  abbrev pub applied_to_rest : Reached → ℕ → Expanded
  applied_to_rest reached d = used reached d reached.rest

  -- ---- forms

  -- a form over its parts, with items put in
  abbrev pub form_item : Form → List ℕ → List Item → Item
  form_item (Form.Leaf kind) parts s = expression (Given (Some kind))
  form_item (Form.Parameter place) parts s = at s place
  form_item (Form.Call place) parts s = expression ((at s place).call (texts (items f parts s)))
  form_item (Form.Operation rule) parts s = expression (Ruled rule (texts (items f parts s)))
  form_item Form.Bounded parts s = expression (bounded (texts (items f parts s)))
  form_item Form.Old parts s = expression (Ruled Boolean (texts (items f parts s)))
  form_item Form.Let parts s = first_item f parts s
  form_item (Form.Use path d) parts s = expression (applied_to_rest (along_path path (start s (items f parts s))) d)
  form_item (Form.Name path d) parts s = operator (λ ts. used (along_path path (start s (items f parts s))) d (expressions ts))
  form_item (Form.Symbol rule) parts s = operator (Ruled rule)
  form_item (Form.Lambda d) parts s = operator (λ ts. used (start s []) d (expressions ts))

  -- a node with items put in
  abbrev pub node_item : Option Node → List Item → Item
  node_item None s = nothing s
  node_item (Some node) s = form_item node.form node.parts s

-- the expansion of a node with items put in
abbrev pub text : FlatModule → ℕ → List Item → Item
text flat = along nothing (λ i f. node_item flat f (slice_get flat.nodes i))

-- the expansion of a definition's body, with items put in for all that stands round it and for its parameters
abbrev pub text_of : FlatModule → ℕ → List Item → Expanded
text_of flat d frame = body (text flat) (slice_get flat.definitions d) (λ outer. frame)

-- the expansion of a definition's body by itself, where so many places stay
abbrev pub own_text : FlatModule → Definition → ℕ → Expanded
own_text flat definition places = (text flat definition.root (stays 0 places)).text

-- what is put in for the places of a definition behind a path: what stands round it, and the arguments that the path leaves
abbrev pub put_in : Definition → Reached → List Item
put_in definition reached = take definition.outer reached.frame ++ reached.rest

-- a use of a definition behind a path: the definition's own expansion with that put in, under the guards of the path
abbrev pub use_of : FlatModule → Definition → Reached → Expanded
use_of flat definition reached =
    guard reached.guards (put (own_text flat definition (length (put_in definition reached))) (at (put_in definition reached)))

-- whether each guard's replacement is within its bound
abbrev pub are_met : List Guard → Bool
are_met [] = true
are_met (g ∷ rest) = is_at_most g.most (kind g.replacement) && are_met rest
