-- What a module means in a flat module it means in one that has more.
use Rattle.std.proofs.Common.{◌≡◌, ℕ, suc, ◌+◌, Bool, true, false, cond, List, [], ◌∷◌, subst, length}
use Rattle.unit_grammar.specs.Units.{ModuleUnits}
use Rattle.tla_model.specs.declared.entity.Entity.TheVariants as entity
use Rattle.tla_model.specs.declared.names.Meaning.TheVariants.{BuiltIn, Declared}
use Rattle.tla_model.specs.Entities.{Meaning}
use Rattle.tla_model.specs.Tables.{Named, Word}
use Rattle.module_model.specs.Exports.{exports_of}
use Rattle.kind_text.specs.FlatModule.{Extends, FlatModule, IsOrdered}
use Rattle.tree_kinds.specs.Standing.{Outside, same_standing}
use Rattle.module_kinds.specs.ModuleKinds.{last, outside}
use Rattle.flat_trees.specs.Stands.{Stand, Unsaid, Leaf, Place, Defined, Through, Brought}
use Rattle.flat_trees.specs.Layouts.{order_of}
use Rattle.flat_trees.specs.Growing.{IsWithin}
use Rattle.flat_trees.specs.Instances.{symbols_of, with_symbols}
use Rattle.flat_trees.proofs.Growing.{module-kept}
use Rattle.flat_kinds.specs.Symbols.{same_symbol, symbols_at}
use Rattle.flattened_trees.specs.Agreeing.{lead_by, unsaid_stand}
use Rattle.flattened_trees.specs.Leads.{FlatFace, Lead, Leads}
use Rattle.flattened_trees.specs.Within.{IsLeadWithin}
use Rattle.flattened_units.specs.Units.{Reader, exported_leads}
use Rattle.module_meanings.specs.Faces.{IsExtendedBy, IsFaceBy, LeadsAs}
use Rattle.module_meanings.specs.Following.{IsMeantSo}

module _ (flat : FlatModule) where
  -- what a name stands for that leads to what is there
  lead-within : (stand : Stand) → ((names : List Named) → IsLeadWithin flat (lead_by stand names)) → IsWithin flat stand
  lead-within Unsaid all = tt
  lead-within (Leaf kind) all = tt
  lead-within (Place place order) all = tt
  lead-within (Defined d orders) all = (all []).end
  lead-within (Through j orders inner) all =
      ((all (Word [] ∷ [])).path.0, λ name. lead-within (inner name) (λ names. let behind = all (name ∷ names) in record { path = behind.path.1; end = behind.end }))
  lead-within (Brought j inner) all = ((all []).path.0, lead-within inner (λ names. let behind = all names in record { path = behind.path.1; end = behind.end }))

  -- names that lead so outside of a module
  pub names-within : (inner : Named → Stand) (leads : List Named → Lead) → ((name : Named) (names : List Named) → leads (name ∷ names) ≡ lead_by (inner name) names) → ((name : Named) (names : List Named) → IsLeadWithin flat (leads (name ∷ names))) → (name : Named) → IsWithin flat (inner name)
  names-within inner leads same all name = lead-within (inner name) (λ names. subst (IsLeadWithin flat) (same name names) (all name names))

  -- ---- symbols

  symbolic-within : (outer : ℕ) (stand : Stand) (lead : Lead) → LeadsAs outer stand lead → IsWithin flat stand
  symbolic-within outer Unsaid lead as_here = tt
  symbolic-within outer (Leaf kind) lead as_here = tt
  symbolic-within outer (Place place order) lead as_here = tt
  symbolic-within outer (Defined d orders) lead as_here = absurd as_here
  symbolic-within outer (Through j orders inner) lead as_here = absurd as_here
  symbolic-within outer (Brought j inner) lead as_here = absurd as_here

  unsaid-within : (m : Meaning) → IsWithin flat (unsaid_stand m)
  unsaid-within BuiltIn = tt
  unsaid-within (Declared (entity.Bound state) x) = tt
  unsaid-within (Declared e x) = tt

  symbols-within : (base : Meaning → Stand) (symbols : List Meaning) (place : ℕ) → ((m : Meaning) → IsWithin flat (base m)) → (m : Meaning) → IsWithin flat (symbols_at base symbols place m)
  symbols-within base [] place all m = all m
  symbols-within base (s ∷ rest) place all m = by_same (same_symbol m s) (symbols-within base rest (suc place) all m)
    where
      by_same : (b : Bool) → IsWithin flat (symbols_at base rest (suc place) m) → IsWithin flat (cond b (Place place (order_of s)) (symbols_at base rest (suc place) m))
      by_same true others = tt
      by_same false others = others

  own-within : (base : Meaning → Stand) (symbols : List Meaning) (place : ℕ) → ((m : Meaning) → IsWithin flat (base m)) → (m : Meaning) → IsWithin flat (with_symbols base symbols place m)
  own-within base [] place all m = all m
  own-within base (s ∷ rest) place all m = by_same (same_standing m s) (own-within base rest (suc place) all m)
    where
      by_same : (b : Bool) → IsWithin flat (with_symbols base rest (suc place) m) → IsWithin flat (cond b (Place place (order_of s)) (with_symbols base rest (suc place) m))
      by_same true others = tt
      by_same false others = others

-- ---- modules

module _ (flat more : FlatModule) (extends : Extends flat more) (ordered : IsOrdered flat) where
  pub face-grows : (new : Meaning → Bool) (leads : Leads) (face : FlatFace) (outside : Outside) → ((name : Named) (names : List Named) → IsLeadWithin flat (face.leads (name ∷ names))) → IsFaceBy flat new leads face outside → IsFaceBy more new leads face outside
  face-grows new leads face outside there is =
      record {
        base = is.base;
        inner = is.inner;
        paths = is.paths;
        kept = module-kept flat more extends ordered (with_symbols is.base (symbols_of outside) face.outer) (face.outer + length (symbols_of outside)) is.inner outside
            (own-within flat is.base (symbols_of outside) face.outer (λ m. symbolic-within flat face.outer (is.base m) (leads m []) (is.symbols m)))
            (names-within flat is.inner face.leads is.paths there) is.kept;
        takes = is.takes;
        apart = is.apart;
        symbols = is.symbols;
        unsaid = is.unsaid;
      }

  pub extended-grows : (leads symbols : Leads) (face : FlatFace) (outside : Outside) → ((name : Named) (names : List Named) → IsLeadWithin flat (face.leads (name ∷ names))) → IsExtendedBy flat leads symbols face outside → IsExtendedBy more leads symbols face outside
  extended-grows leads symbols face outside there is =
      record {
        base = is.base;
        inner = is.inner;
        paths = is.paths;
        kept = module-kept flat more extends ordered (symbols_at is.base (symbols_of outside) face.outer) (face.outer + length (symbols_of outside)) is.inner outside
            (symbols-within flat is.base (symbols_of outside) face.outer (λ m. symbolic-within flat face.outer (is.base m) (symbols m []) (is.symbols m)))
            (names-within flat is.inner face.leads is.paths there) is.kept;
        takes = is.takes;
        parameters = is.parameters;
        symbols = is.symbols;
        placed = is.placed;
      }

  pub meant-grows : (outsides : List ℕ → Outside) (source : List ℕ) (units : ModuleUnits) (symbols : List Meaning) (final : Reader) → ((name : Named) (names : List Named) → IsLeadWithin flat (exported_leads final.setting.leads (exports_of (last outsides source units).read.place.here.exports) (name ∷ names))) → IsMeantSo flat outsides source units symbols final → IsMeantSo more outsides source units symbols final
  meant-grows outsides source units symbols final there is =
      record {
        inner = is.inner;
        kept = module-kept flat more extends ordered (symbols_at unsaid_stand symbols 0) (length symbols) is.inner (outside outsides source units)
            (symbols-within flat unsaid_stand symbols 0 (unsaid-within flat))
            (names-within flat is.inner (exported_leads final.setting.leads (exports_of (last outsides source units).read.place.here.exports)) is.leads there) is.kept;
        leads = is.leads;
      }
