use Rattle.exact_faces.specs.Searching.{HasFound, HasGrown, IsSearch, shown}
use Rattle.exact_faces.proofs.Searching.{OfFirst}
use Rattle.exact_faces.proofs.reached.Search.find_all.Given as goal

abbrev pub invariant-loop-index : goal.invariant-loop-index
invariant-loop-index l = record {
  search : IsSearch l.self;
  grown : HasGrown l.initial.self l.self;
  there : OfFirst (HasFound l.self) (shown l.meanings) l.index;
}
