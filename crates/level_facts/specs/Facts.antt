-- What is kept of kinds that were found.
use Rattle.std.specs.Global.{Global}
use Rattle.std.specs.Prelude.{Vec, ◌≡◌, ℕ, ◌+◌, ◌-◌, ◌<◌, ◌≤◌, ◌++◌, List, [], Option, Some, None, length, map, slice_get}
use Rattle.std.specs.List.{AllByRecursion}
use Rattle.tla_symbols.specs.declared.level.Kind.{Kind}
use Rattle.kind_text.specs.ExpandedKind.{Given, Ruled, kind}
use Rattle.kind_text.specs.Substitution.{Item, expression, expressions, judged, operator}
use Rattle.kind_text.specs.FlatModule.{FlatModule, UsesDefinition, places_of}
use Rattle.kind_text.specs.Expansion.{body, text, text_of}
use Rattle.kind_table.specs.declared.argument.Arg.{Arg}
use Rattle.kind_table.specs.declared.argument.Arg.TheVariants as arg
use Rattle.kind_table.specs.declared.flat.Definition.{Definition}
use Rattle.kind_table.specs.Flattened.{IsFirsts, definition_of, first_node}
use Rattle.kind_table.specs.Table.{AllWithin, Grows, IsTable, meanings, staying}
use Rattle.level_facts.specs.declared.facts.Argument.{Argument}
use Rattle.level_facts.specs.declared.facts.Argument.TheVariants.{Value, Stays, BuiltIn, Operator}
use Rattle.level_facts.specs.declared.facts.Key.{Key}
use Rattle.level_facts.specs.declared.facts.KindFacts.{KindFacts}

-- what a caller puts in for a parameter
abbrev pub argument_item : FlatModule → Argument → Item
argument_item flat (Value k) = expression (Given k)
argument_item flat (Stays rule) = staying rule
argument_item flat (BuiltIn rule) = operator (Ruled rule)
argument_item flat (Operator d) = operator (λ ts. text_of flat d (expressions ts))

-- ---- definitions whose bodies are there

-- a definition is there, and so is the node of its body
abbrev pub HasBody : FlatModule → ℕ → Type 0
HasBody flat d = UsesDefinition flat (length flat.nodes) d

-- this is the definition of a number, and its body is there
pub record IsBody (flat : FlatModule) (d : ℕ) (x : Definition) : Type 0 where
  pub here : slice_get flat.definitions d ≡ Some (definition_of x)
  pub root : x.root < length flat.nodes

-- a definition has no kind, since it is not there, or its body is not
abbrev pub HasNoBody : FlatModule → ℕ → Type 0
HasNoBody flat d = (frame : ℕ → List Item) → body (text flat) (slice_get flat.definitions d) frame ≡ Given None

-- a definition that is an argument has a body
abbrev pub NamesBody : FlatModule → Arg → Type 0
NamesBody flat (arg.Operator d ns) = HasBody flat d
NamesBody flat other = Unit {0}

-- each does
abbrev pub NameBodies : FlatModule → List Arg → Type 0
NameBodies flat table = (i : ℕ) (a : Arg) → slice_get table i ≡ Some a → NamesBody flat a

-- ---- what is kept

-- the items of a frame, if it is there
abbrev pub frame_items : Option (Vec ℕ Global) → List ℕ
frame_items None = []
frame_items (Some frame) = frame.items

-- the frame of a number
abbrev pub frame_of : List (Vec ℕ Global) → ℕ → List ℕ
frame_of frames n = frame_items (slice_get frames n)

-- a frame has this number
pub record HasNumber (frames : List (Vec ℕ Global)) (n : ℕ) (frame : List ℕ) : Type 0 where
  pub within : n < length frames
  pub is : frame_of frames n ≡ frame

-- frames, and maybe more
abbrev pub AddsFrames : List (Vec ℕ Global) → List (Vec ℕ Global) → Type 0
AddsFrames old new = (more : List (Vec ℕ Global)) × (new ≡ old ++ more)

-- a kept kind is that of the definition's expansion on its frame
pub record IsKept (flat : FlatModule) (table : List Arg) (frames : List (Vec ℕ Global)) (key : Key) (k : Option Kind) : Type 0 where
  pub there : HasBody flat key.definition
  pub stored : key.frame < length frames
  pub within : AllWithin table (frame_of frames key.frame)
  pub value : k ≡ kind (text_of flat key.definition (meanings flat table (frame_of frames key.frame)))

-- each kept kind is such
abbrev pub Remembers : FlatModule → List Arg → List (Vec ℕ Global) → List (Key × Option Kind) → Type 0
Remembers flat table frames = AllByRecursion (λ e. IsKept flat table frames e.0 e.1)

-- all that is kept is right
pub record IsFacts (flat : FlatModule) (facts : KindFacts) : Type 0 where
  pub firsts : IsFirsts flat facts.firsts.items
  pub table : IsTable facts.arguments.keys
  pub bodies : NameBodies flat facts.arguments.keys
  pub kept : Remembers flat facts.arguments.keys facts.frames.keys facts.kept.entries

-- what callers put in has these numbers
pub record AddsArguments (flat : FlatModule) (old new : List Arg) (ns : List ℕ) (arguments : List Argument) : Type 0 where
  pub grows : Grows old new
  pub within : AllWithin new ns
  pub meant : meanings flat new ns ≡ map (argument_item flat) arguments

-- the kinds of the nodes from one on, before another one, with these items put in; of a bare operator, that on constants;
-- nothing is said of nodes that are made of earlier ones
pub record AreKinds (flat : FlatModule) (s : List Item) (start end : ℕ) (kinds : List (Option Kind)) : Type 0 where
  pub long : length kinds ≡ end - start
  pub each : (k : ℕ) → k < length kinds → start ≤ first_node flat (start + k) → slice_get kinds k ≡ Some (kind (judged (places_of (slice_get flat.nodes (start + k))) (text flat (start + k) s)))
