-- What one step does to what is made so far.
use Rattle.std.specs.Prelude.{◌≡◌, ℕ, ◌-◌, ◌<◌, List, [], ◌∷◌, ◌++◌, Some, drop, length, map, slice_get, take}
use Rattle.tla_model.specs.Entities.{Meaning}
use Rattle.kind_text.specs.FlatModule.{Definition, Extends, FlatModule, Keeps, Node}
use Rattle.flat_builder.specs.Building.{with_definition, with_node}
use Rattle.flattened_trees.specs.Flattened.{IsRoot}
use Rattle.flattened_trees.specs.Questions as asking
use Rattle.tree_flattener.specs.declared.locals.Entry.{Entry}
use Rattle.tree_flattener.specs.declared.state.Asked.TheVariants as asked
use Rattle.tree_flattener.specs.declared.state.Question.{Question}
use Rattle.tree_flattener.specs.declared.state.Flattening.{Flattening}

-- ---- questions

-- what is asked, as code has it
abbrev pub asked_of : asking.Asked → asked.the_data
asked_of (asking.UseOf name node) = asked.UseOf name node
asked_of (asking.UseAs name level) = asked.UseAs name level
asked_of (asking.HasKind at node) = asked.HasKind at node
asked_of (asking.IsAtMost at node most) = asked.IsAtMost at node most
asked_of (asking.IsShallow name definition) = asked.IsShallow name definition
asked_of (asking.IsShallowInstance name instance) = asked.IsShallowInstance name instance
asked_of (asking.IsShallowNode word node) = asked.IsShallowNode word node
asked_of (asking.IsConstant at node) = asked.IsConstant at node

-- all of these over a frame
abbrev pub noted : ℕ → List asking.Asked → List Question
noted frame asks = map (λ a. record { frame = frame; asked = asked_of a }) asks

-- the same question about what has this number
abbrev pub about : ℕ → asked.the_data → asked.the_data
about number (asked.UseOf name node) = asked.UseOf name number
about number (asked.UseAs name level) = asked.UseAs name level
about number (asked.HasKind at node) = asked.HasKind at number
about number (asked.IsAtMost at node most) = asked.IsAtMost at number most
about number (asked.IsShallow name definition) = asked.IsShallow name number
about number (asked.IsShallowInstance name instance) = asked.IsShallowInstance name number
about number (asked.IsShallowNode word node) = asked.IsShallowNode word number
about number (asked.IsConstant at node) = asked.IsConstant at number

-- the same over its frame
abbrev pub question_about : ℕ → Question → Question
question_about number q = record { frame = q.frame; asked = about number q.asked }

-- questions from one place to another are about what has this number
abbrev pub numbered : ℕ → ℕ → ℕ → List Question → List Question
numbered from to number qs = take from qs ++ (map (question_about number) (take (to - from) (drop from qs)) ++ drop to qs)

-- these are the questions of the definitions, frame by frame
abbrev pub AreAsked : List (List Meaning) → List Question → List asking.Question → Type 0
AreAsked frames [] [] = Unit {0}
AreAsked frames (q ∷ qs) (x ∷ xs) = (slice_get frames q.frame ≡ Some x.frame) × (q.asked ≡ asked_of x.asked) × AreAsked frames qs xs
AreAsked frames _ _ = ⊥

-- ---- steps

-- all that was there is there, and this is asked
pub record Steps (old new : Flattening) (asked : List asking.Question) : Type 0 where
  pub extends : Extends old.flat new.flat
  pub frames : Keeps old.frames.items new.frames.items
  pub more : List Question
  pub questions : new.asked.items ≡ old.asked.items ++ more
  pub are : AreAsked new.frames.items more asked

-- this is asked over a frame
pub record Asks (old new : Flattening) (frame : ℕ) (asks : List asking.Asked) : Type 0 where
  pub flat : new.flat ≡ old.flat
  pub locals : new.locals.items ≡ old.locals.items
  pub frames : new.frames.items ≡ old.frames.items
  pub questions : new.asked.items ≡ old.asked.items ++ noted frame asks

-- questions get their number
pub record Numbers (old new : Flattening) (from to number : ℕ) : Type 0 where
  pub flat : new.flat ≡ old.flat
  pub locals : new.locals.items ≡ old.locals.items
  pub frames : new.frames.items ≡ old.frames.items
  pub questions : new.asked.items ≡ numbered from to number old.asked.items

-- a node is added
pub record Adds (old new : Flattening) (node : Node) (i : ℕ) : Type 0 where
  pub flat : new.flat ≡ with_node old.flat node
  pub number : i ≡ length old.flat.nodes
  pub locals : new.locals.items ≡ old.locals.items
  pub frames : new.frames.items ≡ old.frames.items
  pub questions : new.asked.items ≡ old.asked.items

-- a definition is added
pub record Defines (old new : Flattening) (definition : Definition) (d : ℕ) : Type 0 where
  pub flat : new.flat ≡ with_definition old.flat definition
  pub number : d ≡ length old.flat.definitions
  pub locals : new.locals.items ≡ old.locals.items
  pub frames : new.frames.items ≡ old.frames.items
  pub questions : new.asked.items ≡ old.asked.items

-- a frame is added, with these symbols at its places
pub record AddsFrame (old new : Flattening) (symbols : List Meaning) (frame : ℕ) : Type 0 where
  pub flat : new.flat ≡ old.flat
  pub number : frame ≡ length old.frames.items
  pub locals : new.locals.items ≡ old.locals.items
  pub frames : new.frames.items ≡ old.frames.items ++ symbols ∷ []
  pub questions : new.asked.items ≡ old.asked.items

-- names come into scope
pub record Puts (old new : Flattening) (entries : List Entry) : Type 0 where
  pub flat : new.flat ≡ old.flat
  pub locals : new.locals.items ≡ old.locals.items ++ entries
  pub frames : new.frames.items ≡ old.frames.items
  pub questions : new.asked.items ≡ old.asked.items

-- the names stay in scope that there were at a mark
pub record Cuts (old new : Flattening) (mark : ℕ) : Type 0 where
  pub flat : new.flat ≡ old.flat
  pub locals : new.locals.items ≡ take mark old.locals.items
  pub frames : new.frames.items ≡ old.frames.items
  pub questions : new.asked.items ≡ old.asked.items

-- a body has a node: the first of these, or a constant where there is none
pub record IsRootMade (old new : Flattening) (is : List ℕ) (root : ℕ) : Type 0 where
  pub extends : Extends old.flat new.flat
  pub locals : new.locals.items ≡ old.locals.items
  pub frames : new.frames.items ≡ old.frames.items
  pub questions : new.asked.items ≡ old.asked.items
  pub there : root < length new.flat.nodes
  pub holds : (more : FlatModule) → Extends new.flat more → IsRoot more is root
