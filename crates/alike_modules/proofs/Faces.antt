-- Faces that lead to the same are known alike.
use Rattle.std.proofs.Common.{◌≡◌, List, [], ◌∷◌, sym, ap, subst, ◌∙◌, ◌+◌, length, Bool}
use Rattle.tla_model.specs.Tables.{Named}
use Rattle.tla_model.specs.Entities.{Meaning}
use Rattle.kind_text.specs.FlatModule.{FlatModule}
use Rattle.tree_kinds.specs.Standing.{Outside}
use Rattle.flat_trees.specs.Instances.{IsModule, IsModuleBehind, exported_value, symbols_of}
use Rattle.flat_trees.specs.Stands.{Stand}
use Rattle.flat_kinds.specs.Declarations.{Declarations}
use Rattle.flat_kinds.specs.Symbols.{symbols_at}
use Rattle.flattened_trees.specs.Agreeing.{lead_by}
use Rattle.flattened_trees.specs.Leads.{FlatFace, Leads}
use Rattle.accepted_modules.specs.Faces.{ReadsAs}
use Rattle.module_meanings.specs.Faces.{IsExtendedBy, IsFaceBy, LeadsAs}
use Rattle.module_meanings.specs.Premises.{symbol_leads}
use Rattle.known_modules.specs.Known.{IsDeepFace}
use Rattle.known_modules.specs.Known.{IsKnownFile, Knowledge}
use Rattle.written_trees.specs.Leading.{Face, face_in, lead_in}
use Rattle.alike_modules.proofs.Merging.{LeadAlike, Tells, TellsDepths, merge, merged-depths, merged-leads, merged-parameters, merged-stands, merged-takes}

module _ (flat : FlatModule) (tells : Tells flat) (deeps : TellsDepths flat) (face other : FlatFace) (inner : Named → Stand) (paths : (name : Named) (names : List Named) → face.leads (name ∷ names) ≡ lead_by (inner name) names) (same : face_in flat face ≡ face_in flat other) where
  outer-same : face.outer ≡ other.outer
  outer-same = ap (λ (f : Face). f.outer) same

  parameters-same : face.parameters ≡ other.parameters
  parameters-same = ap (λ (f : Face). f.parameters) same

  constant-same : face.is_constant ≡ other.is_constant
  constant-same = ap (λ (f : Face). f.is_constant) same

  module _ (rest : Named → Stand) (others : (name : Named) (names : List Named) → other.leads (name ∷ names) ≡ lead_by (rest name) names) where
    leads-alike : (name : Named) → LeadAlike flat (inner name) (rest name)
    leads-alike name names =
        ap (lead_in flat) (sym (paths name names))
        ∙ ((λ i. (same i).leads (name ∷ names)) ∙ ap (lead_in flat) (others name names))

    -- names stand for what they do in the other face, by the numbers of this one
    abbrev merged : Named → Stand
    merged name = merge (inner name) (rest name)

    merged-paths : (name : Named) (names : List Named) → face.leads (name ∷ names) ≡ lead_by (merged name) names
    merged-paths name names = paths name names ∙ merged-leads flat (inner name) (rest name) (leads-alike name) names

  module _ (file : Outside) where
    reads-alike : ReadsAs other file → ReadsAs face file
    reads-alike reads = record { parameters = parameters-same ∙ reads.parameters; constant = constant-same ∙ reads.constant }

    named-alike : (new : Meaning → Bool) (leads : Leads) → IsFaceBy flat new leads other file → IsFaceBy flat new leads face file
    named-alike new leads is = record {
      base = is.base;
      inner = merged is.inner is.paths;
      paths = merged-paths is.inner is.paths;
      kept = subst (λ outer. IsModuleBehind flat is.base outer (merged is.inner is.paths) file) (sym outer-same)
          (λ frame standing long stands name. merged-stands flat tells (inner name) (is.inner name) (leads-alike is.inner is.paths name) frame [] (exported_value file standing name) (is.kept frame standing long stands name));
      takes = λ name next at. merged-takes flat (inner name) (is.inner name) (leads-alike is.inner is.paths name) _ next (is.takes name next at);
      apart = is.apart;
      symbols = λ meaning. subst (λ outer. LeadsAs outer (is.base meaning) (leads meaning [])) (sym outer-same) (is.symbols meaning);
      unsaid = is.unsaid;
    }

    extended-alike : (leads symbol_leads : Leads) → IsExtendedBy flat leads symbol_leads other file → IsExtendedBy flat leads symbol_leads face file
    extended-alike leads symbol_leads is = record {
      base = is.base;
      inner = merged is.inner is.paths;
      paths = merged-paths is.inner is.paths;
      kept = subst (λ outer. IsModule flat (symbols_at is.base (symbols_of file) outer) (outer + length (symbols_of file)) (merged is.inner is.paths) file) (sym outer-same)
          (λ frame standing long stands name. merged-stands flat tells (inner name) (is.inner name) (leads-alike is.inner is.paths name) frame [] (exported_value file standing name) (is.kept frame standing long stands name));
      takes = λ name next at. merged-takes flat (inner name) (is.inner name) (leads-alike is.inner is.paths name) _ next (is.takes name next at);
      parameters = parameters-same ∙ is.parameters;
      symbols = λ meaning. subst (λ outer. LeadsAs outer (is.base meaning) (symbol_leads meaning [])) (sym outer-same) (is.symbols meaning);
      placed = is.placed;
    }

    deep-alike : (rest : Named → Stand) → IsDeepFace flat rest other file → (others : (name : Named) (names : List Named) → other.leads (name ∷ names) ≡ lead_by (rest name) names) → IsDeepFace flat (merged rest others) face file
    deep-alike rest is others = record {
      leads = merged-paths rest others;
      deep = λ name. merged-depths flat deeps (inner name) (rest name) (leads-alike rest others name) 0 (λ path. file.depths (name ∷ path)) (is.deep name);
      parameters = λ name. merged-parameters flat deeps (inner name) (rest name) (leads-alike rest others name) (is.parameters name);
      takes = λ name next at. merged-takes flat (inner name) (rest name) (leads-alike rest others name) _ next (is.takes name next at);
    }

-- a face is known as one with the same resolved trees
pub known-alike : (then declares : Declarations) (flat : FlatModule) (before knowledge : Knowledge) (face other : FlatFace) (was file : Outside) → Tells flat → TellsDepths flat
    → IsKnownFile then flat before face was → IsKnownFile declares flat knowledge other file → face_in flat face ≡ face_in flat other → IsKnownFile declares flat knowledge face file
known-alike then declares flat before knowledge face other was file tells deeps first is same = record {
  good = record {
    comes = is.good.comes;
    given = is.good.given;
    reads = reads-alike flat tells deeps face other first.inner first.deep.leads same file is.good.reads;
    there = first.good.there;
    named = λ new leads leaves built. named-alike flat tells deeps face other first.inner first.deep.leads same file new leads (is.good.named new leads leaves built);
    extended = λ leads round frame placed. extended-alike flat tells deeps face other first.inner first.deep.leads same file leads (symbol_leads round frame) (is.good.extended leads round frame placed);
  };
  yielding = is.yielding;
  steady = is.steady;
  inner = merged flat tells deeps face other first.inner first.deep.leads same is.inner is.deep.leads;
  deep = deep-alike flat tells deeps face other first.inner first.deep.leads same file is.inner is.deep is.deep.leads;
  given = is.given;
}
