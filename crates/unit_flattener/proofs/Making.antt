-- Walking behind units of which something is made, where names lead as before: claims, and units of which nothing is made.
use Rattle.std.proofs.Common.{◌≡◌, ℕ, ◌<◌, List, [], ◌∷◌, ◌++◌, append_assoc, length, refl, sym, ap, subst, ◌∙◌}
use Rattle.tla_symbols.specs.declared.lexeme.Lexeme.{Lexeme}
use Rattle.std.specs.Prelude.{Option}
use Rattle.std.proofs.lemmas.List.{append-nil}
use Rattle.std.proofs.lemmas.Option.{slice_get_within}
use Rattle.tla_tree.specs.Arena.{Node, node_at, tree_at}
use Rattle.tla_tree.proofs.Nodes.{tree_at-form}
use Rattle.tla_tree.specs.Syntax.{Tree, span}
use Rattle.tla_tree.specs.declared.unit.Unit.TheVariants as code
use Rattle.unit_grammar.specs.UnitNodes.{unit_at}
use Rattle.unit_grammar.specs.Units.{UnitTree, Assumption, Theorem}
use Rattle.tla_model.specs.Entities.{Meaning, Text}
use Rattle.kind_text.specs.FlatModule.{Extends, FlatModule, Keeps}
use Rattle.flattened_trees.specs.Flattened.{IsFlattened}
use Rattle.flattened_trees.specs.Questions.{Asked, IsConstant, IsShallowNode, Question, over}
use Rattle.flattened_units.specs.Units.{Reader, face_in}
use Rattle.tree_flattener.specs.Steps.{AreAsked, Asks, Steps, noted}
use Rattle.tree_flattener.specs.Worlds.{frame_at, implied_of, means_of, setting_of}
use Rattle.tree_flattener.specs.declared.state.Flattening.{Flattening}
use Rattle.tree_flattener.specs.declared.written.Written.{Written}
use Rattle.tree_flattener.proofs.Stepping.{extends-same, frame-kept, framed, keeps-same, noted-asked, steps-on}
use Rattle.module_leads.specs.Leading.{leading, leading_in}
use Rattle.module_leads.specs.Leading as known
use Rattle.module_leads.specs.There.{AllLeadWithin}
use Rattle.module_leads.proofs.Led.{there-on}
use Rattle.unit_scope.specs.Steps.{Leads as LeadsOn, behind_unit}
use Rattle.unit_scope.specs.declared.reader.ModuleReader.{ModuleReader}
use Rattle.unit_flattener.specs.Walked.{IsUnitWalked}
use Rattle.unit_flattener.specs.Walking.{IsWalking, Walk, over_in, world_at}
use Rattle.unit_flattener.specs.declared.flattener.UnitFlattener.{UnitFlattener}
use Rattle.unit_flattener.proofs.Going.{GoesOn, goes}
use Rattle.unit_flattener.proofs.Places.{faces-here, setting-here}

-- all but the reader of names, the leads and what was made is as before
pub record KeepsRound (old new : UnitFlattener) : Type 0 where
  pub files : new.files ≡ old.files
  pub modules : new.modules ≡ old.modules
  pub own : new.own.items ≡ old.own.items
  pub frame : new.frame ≡ old.frame
  pub round : new.round.items ≡ old.round.items

module _ (written : Written) (walk : Walk) (before units : List UnitTree) (old new : UnitFlattener) (reader : Reader) (at : IsWalking written.text.now walk before units old reader) where
  -- where what was made grows, and names lead as before
  pub grows : (asked : List Question) → KeepsRound old new → new.leads ≡ old.leads → Steps old.state new.state asked → new.state.locals.items ≡ old.state.locals.items → GoesOn old new reader.setting.leads
  grows asked keeps leads steps locals =
      record {
        files = keeps.files;
        modules = keeps.modules;
        own = keeps.own;
        frame = keeps.frame;
        round = keeps.round;
        frames = steps.frames;
        locals = locals;
        lead = ap leading_in leads ∙ ap (leading (leading_in old.leads)) (sym at.setting.lead);
        sound = subst known.IsSound (sym leads) at.sound;
        within = subst (λ l. AllLeadWithin new.state.flat (leading_in l)) (sym leads) (there-on old.state.flat new.state.flat (leading_in old.leads) steps.extends at.within);
      }

-- a frame that is there is so where frames grow
pub frame-there : (old new : List (List Meaning)) (frame : ℕ) → Keeps old new → frame < length old → frame < length new
frame-there old new frame keeps there = slice_get_within new frame (frame_at old frame) (keeps frame (frame_at old frame) (framed old frame there))

-- what is asked over a frame that is there is a step
pub asks-steps : (s t : Flattening) (frame : ℕ) (asks : List Asked) → frame < length s.frames.items → Asks s t frame asks → Steps s t (over (frame_at s.frames.items frame) asks)
asks-steps s t frame asks there asked =
    record {
      extends = extends-same s.flat t.flat asked.flat;
      frames = keeps-same s.frames.items t.frames.items asked.frames;
      more = noted frame asks;
      questions = asked.questions;
      are = subst (λ fs. AreAsked fs (noted frame asks) (over (frame_at s.frames.items frame) asks)) (sym asked.frames) (noted-asked s.frames.items frame there asks);
    }

-- a claim, and that it is asked whether it is constant
pub constant-steps : (s t u : Flattening) (frame : ℕ) (xs : List Question) (asks : List Asked) → frame < length s.frames.items → Steps s t xs → Asks t u frame asks
    → Steps s u (xs ++ over (frame_at s.frames.items frame) asks)
constant-steps s t u frame xs asks there steps asked =
    subst (λ symbols. Steps s u (xs ++ over symbols asks)) (frame-kept s.frames.items t.frames.items frame steps.frames there)
    (steps-on s t u xs (over (frame_at t.frames.items frame) asks) steps (asks-steps t u frame asks (frame-there s.frames.items t.frames.items frame steps.frames there) asked))

module _ (written : Written) (walk : Walk) (before rest : List UnitTree) (old new : UnitFlattener) (reader : Reader) (word : Lexeme) (name : Option Lexeme) (x : Tree) (i : ℕ) (asked : List Question)
    (keeps : KeepsRound old new) (leads : new.leads ≡ old.leads) (locals : new.state.locals.items ≡ old.state.locals.items)
    (holds : (more : FlatModule) → Extends new.state.flat more
    → IsFlattened written.text.now (means_of written) (implied_of written) (world_at written old).faces more (setting_of (world_at written old) old.state old.frame []) x i asked) where
  module _ (units : List UnitTree) (at : IsWalking written.text.now walk before units old reader) where
    frame-is : frame_at old.state.frames.items old.frame ≡ reader.setting.frame
    frame-is = sym at.setting.framed

    flattened-here : (more : FlatModule) → Extends new.state.flat more
        → IsFlattened written.text.now (means_of written) (implied_of written) (face_in more written.text.now (means_of written) (implied_of written) walk.files walk.outsides (over_in walk).words reader.faces) more reader.setting x i asked
    flattened-here more extends =
        subst (λ faces. IsFlattened written.text.now (means_of written) (implied_of written) faces more reader.setting x i asked) (faces-here written walk before units old reader at more)
        (subst (λ setting. IsFlattened written.text.now (means_of written) (implied_of written) (world_at written old).faces more setting x i asked) (setting-here written walk before units old reader at) (holds more extends))

  -- behind a theorem
  pub theorem-walked : (at : IsWalking written.text.now walk before (Theorem word name x ∷ rest) old reader)
      → Steps old.state new.state (over (frame_at old.state.frames.items old.frame) (IsShallowNode word i ∷ []) ++ asked)
      → LeadsOn written.text.now (behind_unit written.text.now (Theorem word name x)) old.reader new.reader
      → IsUnitWalked written walk before (Theorem word name x) rest old new reader
  theorem-walked at steps reads =
      record {
        next = reader;
        asked = over (frame_at old.state.frames.items old.frame) (IsShallowNode word i ∷ []) ++ asked;
        at = goes written.text.now walk before rest (Theorem word name x) old new reader reader.setting.leads at
            (grows written walk before (Theorem word name x ∷ rest) old new reader at (over (frame_at old.state.frames.items old.frame) (IsShallowNode word i ∷ []) ++ asked) keeps leads steps locals) tt reads;
        steps = steps;
        holds = λ more extends. (
          i,
          asked,
          flattened-here (Theorem word name x ∷ rest) at more extends,
          refl,
          ap (λ frame. over frame (IsShallowNode word i ∷ []) ++ asked) (frame-is (Theorem word name x ∷ rest) at) ∙ ap (λ z. over reader.setting.frame (IsShallowNode word i ∷ []) ++ z) (sym (append-nil asked)),
        );
      }

  -- behind an assumption
  pub assumption-walked : (at : IsWalking written.text.now walk before (Assumption word name x ∷ rest) old reader)
      → Steps old.state new.state ((over (frame_at old.state.frames.items old.frame) (IsShallowNode word i ∷ []) ++ asked) ++ over (frame_at old.state.frames.items old.frame) (IsConstant (span x) i ∷ []))
      → LeadsOn written.text.now (behind_unit written.text.now (Assumption word name x)) old.reader new.reader
      → IsUnitWalked written walk before (Assumption word name x) rest old new reader
  assumption-walked at steps reads =
      let frame = frame_at old.state.frames.items old.frame in
      let asks = (over frame (IsShallowNode word i ∷ []) ++ asked) ++ over frame (IsConstant (span x) i ∷ []) in
      record {
        next = reader;
        asked = asks;
        at = goes written.text.now walk before rest (Assumption word name x) old new reader reader.setting.leads at
            (grows written walk before (Assumption word name x ∷ rest) old new reader at asks keeps leads steps locals) tt reads;
        steps = steps;
        holds = λ more extends. (
          i,
          asked,
          flattened-here (Assumption word name x ∷ rest) at more extends,
          refl,
          append_assoc (over frame (IsShallowNode word i ∷ [])) asked (over frame (IsConstant (span x) i ∷ []))
              ∙ ap (λ f. over f (IsShallowNode word i ∷ []) ++ (asked ++ over f (IsConstant (span x) i ∷ []))) (frame-is (Assumption word name x ∷ rest) at),
        );
      }

-- the span of a tree is that of its node
pub span-of : (nodes : List Node) (node : ℕ) → node < length nodes → span (tree_at nodes node) ≡ (node_at nodes node).span
span-of nodes node there = ap span (tree_at-form nodes node there).1

-- what the reader of units passes, where the unit and the reader before it are known
pub reads-so : (text : Text) (nodes : List Node) (unit other : code.the_data) (old mid new : ModuleReader) → unit ≡ other → mid ≡ old
    → LeadsOn text (behind_unit text (unit_at nodes unit)) mid new → LeadsOn text (behind_unit text (unit_at nodes other)) old new
reads-so text nodes unit other old mid new is same reads =
    subst (λ u. LeadsOn text (behind_unit text (unit_at nodes u)) old new) is (subst (λ read. LeadsOn text (behind_unit text (unit_at nodes unit)) read new) same reads)
