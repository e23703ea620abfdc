-- Where code walks it stays while things are made.
use Rattle.std.proofs.Common.{◌≡◌, List, sym, ap, subst, ◌∙◌}
use Rattle.unit_grammar.specs.Units.{UnitTree}
use Rattle.tla_model.specs.Entities.{Text}
use Rattle.flattened_trees.specs.Questions.{Question}
use Rattle.flattened_units.specs.Units.{Reader}
use Rattle.tree_flattener.specs.Steps.{Steps}
use Rattle.module_leads.specs.Leading.{IsSound, leading, leading_in}
use Rattle.module_leads.specs.There.{AllLeadWithin}
use Rattle.module_leads.proofs.Led.{there-on}
use Rattle.indexmap.specs.IndexMap.{get_by_text}
use Rattle.tree_flattener.specs.declared.written.Written.{Written}
use Rattle.tree_flattener.specs.Worlds.{implied_of, means_of}
use Rattle.unit_flattener.specs.Changes.{ChangesLeads, ChangesState, KeepsPlace}
use Rattle.unit_flattener.specs.Numbers.{faces_in}
use Rattle.unit_flattener.specs.Walking.{IsWalking, IsWithinUnits, Walk, world_at}
use Rattle.unit_flattener.specs.declared.flattener.UnitFlattener.{UnitFlattener}
use Rattle.unit_flattener.proofs.Going.{GoesOn, stays}

-- ---- what changes

-- a place that is kept twice is kept
pub keeps-place-on : (a b c : UnitFlattener) → KeepsPlace a b → KeepsPlace b c → KeepsPlace a c
keeps-place-on a b c first then =
    record {
      reader = then.reader ∙ first.reader;
      files = then.files ∙ first.files;
      modules = then.modules ∙ first.modules;
      own = then.own ∙ first.own;
      frame = then.frame ∙ first.frame;
      round = then.round ∙ first.round;
    }

-- what was made changes twice
pub changes-on : (a b c : UnitFlattener) → ChangesState a b → ChangesState b c → ChangesState a c
changes-on a b c first then = record { place = keeps-place-on a b c first.place then.place; leads = then.leads ∙ first.leads }

-- where names lead changes twice
pub changes-leads-on : (a b c : UnitFlattener) → ChangesLeads a b → ChangesLeads b c → ChangesLeads a c
changes-leads-on a b c first then = record { place = keeps-place-on a b c first.place then.place; state = then.state ∙ first.state }

-- what is known round a tree is the same
pub world-same : (written : Written) (old new : UnitFlattener) → ChangesState old new → world_at written new ≡ world_at written old
world-same written old new changes = λ i. record {
  text = written.text.now;
  nodes = written.tree.now;
  means = means_of written;
  implied = implied_of written;
  leads = (leading_in (changes.leads i)).leads;
  faces = faces_in (leading_in (changes.leads i)).faces (λ name. get_by_text (changes.place.files i).now name) (changes.place.modules i).here;
}

-- ---- where code walks

module _ (text : Text) (walk : Walk) (before rest : List UnitTree) (old new : UnitFlattener) (reader : Reader) (at : IsWalking text walk before rest old reader) (asked : List Question)
    (changes : ChangesState old new) (steps : Steps old.state new.state asked) (locals : new.state.locals.items ≡ old.state.locals.items) where
  -- it goes on with the same leads
  pub grows-on : GoesOn old new reader.setting.leads
  grows-on = record {
    files = changes.place.files;
    modules = changes.place.modules;
    own = changes.place.own;
    frame = changes.place.frame;
    round = changes.place.round;
    frames = steps.frames;
    locals = locals;
    lead = ap leading_in changes.leads ∙ ap (leading (leading_in old.leads)) (sym at.setting.lead);
    sound = subst IsSound (sym changes.leads) at.sound;
    within = subst (λ leads. AllLeadWithin new.state.flat (leading_in leads)) (sym changes.leads) (there-on old.state.flat new.state.flat (leading_in old.leads) steps.extends at.within);
  }

  -- at the same place
  pub grown-stays : IsWalking text walk before rest new reader
  grown-stays = stays text walk before rest old new reader reader.setting.leads at grows-on changes.place.reader

-- code walks somewhere still
pub within-grown : (text : Text) (old new : UnitFlattener) (asked : List Question) → IsWithinUnits text old → ChangesState old new → Steps old.state new.state asked → new.state.locals.items ≡ old.state.locals.items
    → IsWithinUnits text new
within-grown text old new asked within changes steps locals =
    record {
      rest = within.rest;
      before = record {
        walk = within.before.walk;
        before = within.before.before;
        reader = within.before.reader;
        at = grown-stays text within.before.walk within.before.before within.rest old new within.before.reader within.before.at asked changes steps locals;
      };
    }
