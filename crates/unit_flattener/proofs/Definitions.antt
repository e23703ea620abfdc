-- Walking behind a definition.
use Rattle.std.proofs.Common.{◌≡◌, ℕ, Bool, true, false, cond, List, [], ◌∷◌, refl, sym, ap, subst, ◌∙◌}
use Rattle.std.specs.Prelude.{Option, Some, None, IfSome, map}
use Rattle.tla_tree.specs.Syntax.{Tree}
use Rattle.unit_grammar.specs.Units.{UnitTree, Variables, Constants, OperatorDefinition, FunctionDefinition, ModuleDefinition, Instance, Assumption, Theorem, Line, ModuleBegin, ModuleEnd}
use Rattle.tla_model.specs.Entities.{Meaning, Text, meant}
use Rattle.tla_model.specs.Scopes.{definition}
use Rattle.tla_model.specs.Tables.{Named}
use Rattle.kind_text.specs.FlatModule.{Extends, FlatModule}
use Rattle.module_kinds.specs.ModuleKinds.{KindState}
use Rattle.tree_kinds.specs.Standing.{Outside, same_standing}
use Rattle.flattened_trees.specs.declared.End.TheVariants as end
use Rattle.flattened_trees.specs.Flattened.{IsDefined}
use Rattle.flattened_trees.specs.Leads.{FlatFace, Lead, Leads, nowhere, only, with_lead, with_leads}
use Rattle.flattened_trees.specs.Questions.{Question}
use Rattle.flattened_trees.specs.Within.{IsLeadWithin}
use Rattle.flattened_units.specs.Units.{IsDefinitionMade, IsUnitMade, Reader, face_in}
use Rattle.tree_flattener.specs.Steps.{Steps}
use Rattle.tree_flattener.specs.Apart.{IsLeadOf}
use Rattle.tree_flattener.specs.Worlds.{World, implied_of, lead_by, means_of, setting_of}
use Rattle.tree_flattener.specs.declared.locals.Local.{Local}
use Rattle.tree_flattener.specs.declared.written.Written.{Written}
use Rattle.module_leads.specs.Leading.{IsSound, Leading, leading, leading_in}
use Rattle.module_leads.specs.There.{AllLeadWithin, LeadWithin}
use Rattle.module_leads.proofs.Led.{there-on}
use Rattle.unit_scope.specs.Steps.{Leads as LeadsOn, behind_unit}
use Rattle.unit_flattener.specs.Walked.{IsDefinition, IsUnitWalked, leading_with}
use Rattle.unit_flattener.specs.Walking.{IsWalking, Walk, over_in, state_at, world_at}
use Rattle.unit_flattener.specs.declared.flattener.UnitFlattener.{UnitFlattener}
use Rattle.unit_flattener.proofs.Going.{GoesOn, IsPlain, goes}
use Rattle.unit_flattener.proofs.Making.{KeepsRound}
use Rattle.unit_flattener.proofs.Places.{faces-here, setting-here}

-- what leads nowhere by itself does so by all names
pub only-nowhere : only end.Nowhere ≡ (λ names. nowhere)
only-nowhere = λ i names. by names i
  where
    by : (names : List Named) → only end.Nowhere names ≡ nowhere
    by [] = refl
    by (name ∷ names) = refl

module _ (flat : FlatModule) (lead : List Named → Lead) (new : (names : List Named) → IsLeadWithin flat (lead names)) where
  -- all that is put leads to what is there, if that does which is put
  pub puts-within : (leads : Leads) (meanings : List Meaning) → LeadWithin flat leads → LeadWithin flat (with_leads leads meanings lead)
  puts-within leads [] there = there
  puts-within leads (meaning ∷ rest) there = puts-within (with_lead leads meaning lead) rest (λ other names. by names (same_standing other meaning) (there other names))
    where
      by : {l : Lead} (names : List Named) (b : Bool) → IsLeadWithin flat l → IsLeadWithin flat (cond b (lead names) l)
      by names true within = new names
      by names false within = within

-- where names lead that a tree defines, if it defines one
pub leads-within : (w : World) (flat : FlatModule) (x : Tree) (local : Option Local) (lead : List Named → Lead) (meanings : List Meaning) (leads : Leads) → IsLeadOf w x local lead
    → IfSome local (λ l. (names : List Named) → IsLeadWithin flat (lead_by w l names)) → meanings ≡ map (meant w.text) (definition x)
    → LeadWithin flat leads → LeadWithin flat (with_leads leads meanings lead)
leads-within w flat x None lead meanings leads is within same there =
    subst (λ ms. LeadWithin flat (with_leads leads ms lead)) (sym (same ∙ ap (map (meant w.text)) is)) there
leads-within w flat x (Some local) lead meanings leads is within same there =
    puts-within flat lead (λ names. subst (λ l. IsLeadWithin flat (l names)) (sym is) (within names)) leads meanings there

-- a tree that defines no name puts none
pub puts-none : (w : World) (x : Tree) (lead : List Named → Lead) (meanings : List Meaning) (known : Leading) → definition x ≡ [] → meanings ≡ map (meant w.text) (definition x)
    → known ≡ leading known (with_leads known.leads meanings lead)
puts-none w x lead meanings known none same = ap (λ ms. leading known (with_leads known.leads ms lead)) (sym (same ∙ ap (map (meant w.text)) none))

-- ---- units

module _ (flat : FlatModule) (text : Text) (means : ℕ → Option Meaning) (implied : ℕ → List Meaning) (files : List ℕ → FlatFace) (outsides : List ℕ → Outside) (words : List ℕ) (state : KindState) (reader next : Reader) (asked : List Question) where
  -- a unit that defines what a tree does is made where that is
  pub definition-unit : (unit : UnitTree) (y : Tree) → IsDefinition unit y → IsDefinitionMade flat text means implied files outsides words reader y next asked
      → IsUnitMade flat text means implied files outsides words state reader unit next asked
  definition-unit (OperatorDefinition local x) y is made = subst (λ z. IsDefinitionMade flat text means implied files outsides words reader z next asked) (sym is) made
  definition-unit (FunctionDefinition local x) y is made = subst (λ z. IsDefinitionMade flat text means implied files outsides words reader z next asked) (sym is) made
  definition-unit (ModuleDefinition local x) y is made = subst (λ z. IsDefinitionMade flat text means implied files outsides words reader z next asked) (sym is) made
  definition-unit (Variables names) y is made = absurd is
  definition-unit (Constants declarations) y is made = absurd is
  definition-unit (Instance local x) y is made = absurd is
  definition-unit (Assumption word name x) y is made = absurd is
  definition-unit (Theorem word name x) y is made = absurd is
  definition-unit (Line dashes) y is made = absurd is
  definition-unit (ModuleBegin dashes name extends) y is made = absurd is
  definition-unit (ModuleEnd closing) y is made = absurd is

definition-plain : (unit : UnitTree) (y : Tree) → IsDefinition unit y → IsPlain unit
definition-plain (OperatorDefinition local x) y is = tt
definition-plain (FunctionDefinition local x) y is = tt
definition-plain (ModuleDefinition local x) y is = tt
definition-plain (Variables names) y is = absurd is
definition-plain (Constants declarations) y is = absurd is
definition-plain (Instance local x) y is = absurd is
definition-plain (Assumption word name x) y is = absurd is
definition-plain (Theorem word name x) y is = absurd is
definition-plain (Line dashes) y is = absurd is
definition-plain (ModuleBegin dashes name extends) y is = absurd is
definition-plain (ModuleEnd closing) y is = absurd is

module _ (written : Written) (walk : Walk) (before rest : List UnitTree) (unit : UnitTree) (old new : UnitFlattener) (reader : Reader) (x : Tree) (lead : List Named → Lead) (roots : List ℕ) (asked : List Question)
    (at : IsWalking written.text.now walk before (unit ∷ rest) old reader) (is : IsDefinition unit x) where
  abbrev names : List Meaning
  names = map (meant written.text.now) (definition x)

  -- behind a definition, where its name is put
  pub defined-walked : KeepsRound old new → Steps old.state new.state asked → new.state.locals.items ≡ old.state.locals.items
      → leading_in new.leads ≡ leading (leading_in old.leads) (with_leads (leading_in old.leads).leads (map (meant written.text.now) (definition x)) lead)
      → IsSound new.leads → LeadWithin new.state.flat (leading_in new.leads).leads
      → LeadsOn written.text.now (behind_unit written.text.now unit) old.reader new.reader
      → ((more : FlatModule) → Extends new.state.flat more
      → IsDefined written.text.now (means_of written) (implied_of written) (world_at written old).faces more (setting_of (world_at written old) old.state old.frame []) x lead roots asked)
      → IsUnitWalked written walk before unit rest old new reader
  defined-walked keeps steps locals leads sound within reads holds =
      record {
        next = leading_with reader (with_leads reader.setting.leads names lead);
        asked = asked;
        at = goes written.text.now walk before rest unit old new reader (with_leads reader.setting.leads names lead) at on (definition-plain unit x is) reads;
        steps = steps;
        holds = λ more extends.
            definition-unit more written.text.now (means_of written) (implied_of written) walk.files walk.outsides (over_in walk).words (state_at walk before) reader
            (leading_with reader (with_leads reader.setting.leads names lead)) asked unit x is
            (lead, roots, here more extends, refl);
      }
    where
      on : GoesOn old new (with_leads reader.setting.leads names lead)
      on = record {
        files = keeps.files;
        modules = keeps.modules;
        own = keeps.own;
        frame = keeps.frame;
        round = keeps.round;
        frames = steps.frames;
        locals = locals;
        lead = leads ∙ ap (λ l. leading (leading_in old.leads) (with_leads l names lead)) (sym at.setting.lead);
        sound = sound;
        within = subst (AllLeadWithin new.state.flat) (sym leads)
            (let grown = there-on old.state.flat new.state.flat (leading_in old.leads) steps.extends at.within in
            record { faces = grown.faces; leads = subst (λ known. LeadWithin new.state.flat known.leads) leads within; round = grown.round });
      }

      here : (more : FlatModule) → Extends new.state.flat more
          → IsDefined written.text.now (means_of written) (implied_of written) (face_in more written.text.now (means_of written) (implied_of written) walk.files walk.outsides (over_in walk).words reader.faces) more reader.setting x lead roots asked
      here more extends =
          subst (λ faces. IsDefined written.text.now (means_of written) (implied_of written) faces more reader.setting x lead roots asked) (faces-here written walk before (unit ∷ rest) old reader at more)
          (subst (λ setting. IsDefined written.text.now (means_of written) (implied_of written) (world_at written old).faces more setting x lead roots asked) (setting-here written walk before (unit ∷ rest) old reader at) (holds more extends))
