-- The kinds of what is written in a module, and the faults of levels.
use Rattle.std.specs.Prelude.{ℕ, suc, Bool, true, false, ◌&&◌, List, [], ◌∷◌, Option, Some, None, filter, is_some, map, nat_lt, not, option_map, slice_get}
use Rattle.tla_symbols.specs.declared.level.Kind.{Kind}
use Rattle.tla_symbols.specs.declared.level.Kind.TheVariants.{Const, State}
use Rattle.tla_symbols.specs.declared.level.Rule.TheVariants.{Plain}
use Rattle.level_rules.specs.Kinds.{level}
use Rattle.kind_text.specs.ExpandedKind.{Given, Ruled, kind}
use Rattle.kind_text.specs.Substitution.{Item, expression, operator, stay}
use Rattle.kind_text.specs.FlatModule.{FlatModule, Instance, Node, Replacement}
use Rattle.kind_text.specs.Expansion.{judged_at, text}

-- ---- what stands round an expression

-- what stands at a place: a declared constant, an operator or not, a variable, a parameter of a definition
pub data Place : Type 0 where
  Constant : Place
  Operator : Place
  Variable : Place
  Parameter : Place

-- what stands there, put in for itself: a parameter stays, and counts as constant
abbrev pub itself : ℕ → Place → Item
itself i Constant = expression (Given (Some Const))
itself i Operator = operator (Ruled Plain)
itself i Variable = expression (Given (Some State))
itself i Parameter = stay i

-- what stands at each place from one on, put in for itself
abbrev pub themselves : ℕ → List Place → List Item
themselves i [] = []
themselves i (place ∷ round) = itself i place ∷ themselves (suc i) round

-- a node that is written, with what stands round it
pub record Site : Type 0 where
  pub node : ℕ
  pub round : List Place

-- an INSTANCE that is written, with what stands round its module's name: its own parameters are the last
pub record InstanceSite : Type 0 where
  pub instance : ℕ
  pub round : List Place

-- what is written in a module, in its order: the nodes other than parentheses, LET and LAMBDA; the assumptions; the instances
pub record Written : Type 0 where
  pub nodes : List Site
  pub assumptions : List Site
  pub instances : List InstanceSite

-- the kind of what is written; a bare operator's is that on constants
abbrev pub kind_at : FlatModule → Site → Option Kind
kind_at flat site = kind (judged_at flat (text flat) site.node (themselves 0 site.round))

-- the level of what is written, if it has a kind
abbrev pub level_at : FlatModule → Site → Option ℕ
level_at flat site = option_map level (kind_at flat site)

-- ---- faults

-- whether there is a kind of more than this level
abbrev pub is_above : ℕ → Option Kind → Bool
is_above most None = false
is_above most (Some kind) = nat_lt most (level kind)

-- the parts of a node
abbrev pub parts_of : Option Node → List ℕ
parts_of None = []
parts_of (Some node) = node.parts

-- whether each of these nodes has a kind in the same surroundings
abbrev pub all_have_kinds : FlatModule → List Place → List ℕ → Bool
all_have_kinds flat round [] = true
all_have_kinds flat round (i ∷ rest) = is_some (kind_at flat (record { node = i; round = round })) && all_have_kinds flat round rest

-- no kind, where all parts have one
abbrev pub is_refused : FlatModule → Site → Bool
is_refused flat site = not (is_some (kind_at flat site)) && all_have_kinds flat site.round (parts_of (slice_get flat.nodes site.node))

-- of what is written, the nodes at which levels are refused
abbrev pub refused : FlatModule → Written → List Site
refused flat written = filter (is_refused flat) written.nodes

-- of the assumptions, those that are not constant
abbrev pub not_constant : FlatModule → Written → List Site
not_constant flat written = filter (λ site. is_above 0 (kind_at flat site)) written.assumptions

-- whether a replacement is of a higher level than it may be
abbrev pub is_too_high : FlatModule → List Place → Replacement → Bool
is_too_high flat round r = over r.most
  where
    over : Option ℕ → Bool
    over None = false
    over (Some most) = is_above most (kind_at flat (record { node = r.root; round = round }))

-- the nodes of these replacements that are too high
abbrev pub high_among : FlatModule → List Place → List Replacement → List ℕ
high_among flat round replacements = map (λ r. r.root) (filter (is_too_high flat round) replacements)

-- the replacements of an instance
abbrev pub replacements_of : Option Instance → List Replacement
replacements_of None = []
replacements_of (Some j) = j.replacements

-- the replacements that are too high, of one instance that is written
abbrev pub high_in : FlatModule → InstanceSite → List ℕ
high_in flat site = high_among flat site.round (replacements_of (slice_get flat.instances site.instance))

-- the replacements that are too high, of each instance that is written
abbrev pub too_high : FlatModule → List InstanceSite → List (List ℕ)
too_high flat instances = map (high_in flat) instances
