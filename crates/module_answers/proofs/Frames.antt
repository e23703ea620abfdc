-- The frame of a module by itself: its symbols, and those of the modules round it, stand for themselves over it.
use Rattle.std.proofs.Common.{◌≡◌, ℕ, List, [], ◌∷◌, ◌++◌, arith, refl, sym, ap, ◌∙◌, subst, drop, length}
use Rattle.tla_model.specs.declared.entity.Entity.TheVariants as entity
use Rattle.tla_model.specs.declared.names.Meaning.TheVariants.{BuiltIn, Declared}
use Rattle.tla_model.specs.Entities.{Entity, Meaning}
use Rattle.kind_text.specs.Substitution.{Item}
use Rattle.flat_trees.specs.Stands.{Stand, Unsaid, Leaf, Place, Defined, Through, Brought}
use Rattle.flat_trees.specs.Layouts.{StandsBefore}
use Rattle.flat_kinds.specs.Modules.{Current}
use Rattle.flat_kinds.specs.Readings.{StandsItself}
use Rattle.flat_kinds.specs.Symbols.{item_itself, symbols_at}
use Rattle.flat_kinds.proofs.Symbols.{places-itself}
use Rattle.flattened_trees.specs.declared.End.TheVariants as end
use Rattle.flattened_trees.specs.Agreeing.{lead_by, unsaid_stand}
use Rattle.flattened_trees.specs.Answers.{items_of}
use Rattle.flattened_trees.specs.Leads.{Lead, Setting}
use Rattle.module_meanings.specs.Following.{LeadsBy}
use Rattle.module_meanings.specs.Premises.{symbol_leads}
use Rattle.module_meanings.proofs.Entering.{drop-front}
use Rattle.module_meanings.proofs.Leads.{lead-leaf, lead-place, none-leads, symbols-lead}
use Rattle.module_meanings.proofs.NestedFaces.{SymbolsNest}

-- what symbols stand for by themselves, of a module and of those round it
abbrev pub symbol-stands : List Setting → List Meaning → Meaning → Stand
symbol-stands [] frame = symbols_at unsaid_stand frame 0
symbol-stands (outer ∷ round) frame = symbols_at (symbol-stands round outer.frame) (drop (length outer.frame) frame) (length outer.frame)

symbols-led : (round : List Setting) (frame : List Meaning) → LeadsBy (symbol-stands round frame) (symbol_leads round frame)
symbols-led [] frame = symbols-lead unsaid_stand _ frame 0 none-leads
symbols-led (outer ∷ round) frame = symbols-lead (symbol-stands round outer.frame) _ (drop (length outer.frame) frame) (length outer.frame) (symbols-led round outer.frame)

unsaid-itself : (m : Meaning) → StandsItself [] (unsaid_stand m) m
unsaid-itself BuiltIn = refl
unsaid-itself (Declared e x) = by_entity e
  where
    by_entity : (f : Entity) → StandsItself [] (unsaid_stand (Declared f x)) (Declared f x)
    by_entity (entity.Bound state) = refl
    by_entity f = tt

pub items-length : (frame : List Meaning) → length (items_of frame) ≡ length frame
items-length [] = refl
items-length (m ∷ frame) = let e = items-length frame in omega (arith, e)

items-append : (a b : List Meaning) → items_of a ++ items_of b ≡ items_of (a ++ b)
items-append [] b = refl
items-append (m ∷ a) b = ap (λ xs. item_itself m ∷ xs) (items-append a b)

-- symbols of modules that nest stand for themselves
pub symbols-itself : (symbols : Meaning → Stand) (frame : List Meaning) (outers : List Current) (round : List Setting) → SymbolsNest symbols frame outers round → (m : Meaning) → StandsItself (items_of frame) (symbol-stands round frame m) m
symbols-itself symbols frame [] [] nest m = places-itself unsaid_stand [] frame m (unsaid-itself m)
symbols-itself symbols frame (outer ∷ outers) (setting ∷ round) ((own, whole, others), rest) m =
    subst (λ (symbols : List Meaning). StandsItself (items_of symbols) (symbol-stands (setting ∷ round) symbols m) m) (sym whole)
    (subst (λ (mine : List Meaning). StandsItself (items_of (setting.frame ++ own)) (symbols_at (symbol-stands round setting.frame) mine (length setting.frame) m) m) (sym (drop-front setting.frame own))
    (subst (λ (items : List Item). StandsItself items (symbols_at (symbol-stands round setting.frame) own (length setting.frame) m) m) (items-append setting.frame own)
    (subst (λ n. StandsItself (items_of setting.frame ++ items_of own) (symbols_at (symbol-stands round setting.frame) own n m) m) (items-length setting.frame)
    (places-itself (symbol-stands round setting.frame) (items_of setting.frame) own m (symbols-itself outer.symbols setting.frame outers round rest m)))))
symbols-itself symbols frame [] (setting ∷ round) nest m = absurd nest
symbols-itself symbols frame (outer ∷ outers) [] nest m = absurd nest

-- what leads so and is no definition stands so
pub same-stand : (places : ℕ) (frame : List Item) (stand there : Stand) (m : Meaning) → lead_by there [] ≡ lead_by stand [] → StandsBefore places there → StandsItself frame stand m → StandsItself frame there m
same-stand places frame (Leaf kind) there m e before holds = subst (λ s. StandsItself frame s m) (sym (lead-leaf there kind e)) holds
same-stand places frame (Place place order) there m e before holds = subst (λ s. StandsItself frame s m) (sym (lead-place there place order e)) holds
same-stand places frame Unsaid Unsaid m e before holds = tt
same-stand places frame Unsaid (Leaf kind) m e before holds = let ends : end.Leaf kind ≡ end.Nowhere = ap (λ (lead : Lead). lead.end) e in absurd (cc ends)
same-stand places frame Unsaid (Place place order) m e before holds = let ends : end.Place place order ≡ end.Nowhere = ap (λ (lead : Lead). lead.end) e in absurd (cc ends)
same-stand places frame Unsaid (Defined d orders) m e before holds = absurd before
same-stand places frame Unsaid (Through j orders inner) m e before holds = absurd before
same-stand places frame Unsaid (Brought j inner) m e before holds = absurd before
same-stand places frame (Defined d orders) there m e before holds = absurd holds
same-stand places frame (Through j orders inner) there m e before holds = absurd holds
same-stand places frame (Brought j inner) there m e before holds = absurd holds

-- symbols that lead where they do by themselves stand for themselves
pub leads-itself : (symbols : Meaning → Stand) (frame : List Meaning) (outers : List Current) (round : List Setting) (places : ℕ) → SymbolsNest symbols frame outers round → LeadsBy symbols (symbol_leads round frame) → ((m : Meaning) → StandsBefore places (symbols m)) → (m : Meaning) → StandsItself (items_of frame) (symbols m) m
leads-itself symbols frame outers round places nest all before m =
    same-stand places (items_of frame) (symbol-stands round frame m) (symbols m) m (sym (all m []) ∙ symbols-led round frame m []) (before m) (symbols-itself symbols frame outers round nest m)
