-- What proofs above ask of accepted modules, of their meanings, depths and shapes, passed on with what is proved here.
pub use Rattle.accepted_modules.proofs.Contexts.{brings-exported}
pub use Rattle.accepted_modules.proofs.Faces.{IsFoundAs, found-as}
pub use Rattle.accepted_modules.proofs.Holding.{HoldsPlace, HoldsReading, HoldsView, OfEntry, Own, added-known, declared-more, joined-more, module-says, nested-holds, nothing-holds, passed-hold}
pub use Rattle.accepted_modules.proofs.Tables.{all-passing, table-once}
pub use Rattle.accepted_modules.proofs.Views.{named-same, own-read}
pub use Rattle.given_depths.proofs.Coming.{begins-gives, brings-gives, file-gives, modules-give}
pub use Rattle.given_depths.proofs.Own.{file-kept, gives-own, symbols-kept}
pub use Rattle.given_depths.proofs.Plain.{own-plain, plain-after, plain-first}
pub use Rattle.given_depths.proofs.Seen.{seen-after, seen-first, seen-stays}
pub use Rattle.grammar_shapes.proofs.Arranged.{front-arranged}
pub use Rattle.module_meanings.proofs.Beginning.{built-in-means}
pub use Rattle.module_meanings.proofs.Contexts.{IsEntry, declared-means, entry-seen, joined-means, one-is-seen, seen-left, seen-right}
pub use Rattle.module_meanings.proofs.Extending.{BringSame, extends-means}
pub use Rattle.module_meanings.proofs.Further.{AllDefinitionsLead, extended-further, first-further, unit-further}
pub use Rattle.module_meanings.proofs.Growing.{names-within}
pub use Rattle.module_meanings.proofs.Instancing.{table-own}
pub use Rattle.module_meanings.proofs.NestedFaces.{brought-entry, further-takes}
