-- What is accepted can be read.
use Rattle.std.proofs.Common.{◌≡◌, ℕ, List, [], ◌∷◌, Bool, Option, Some}
use Rattle.std.specs.Prelude.{Contains}
use Rattle.tla_symbols.specs.declared.lexeme.Lexeme.{Lexeme}
use Rattle.tla_symbols.specs.declared.lexeme.Span.{Span}
use Rattle.tla_tree.specs.Derivation.{Derives, DerivesDefinition, DerivesInstance, with_replacements, without}
use Rattle.tla_tree.specs.Lexemes.{one, place}
use Rattle.tla_tree.specs.Syntax.{Tree, Nil}
use Rattle.tla_model.specs.Contexts.{Context}
use Rattle.tla_model.specs.Entities.{Text}
use Rattle.tla_model.specs.Scopes.{Finding}
use Rattle.module_model.specs.Exports.{Known}
use Rattle.tree_kinds.specs.Standing.{Outside}
use Rattle.tree_kinds.specs.Expanding.{places_at}
use Rattle.flat_trees.specs.Names.{places_by}
use Rattle.arity_rules.specs.Arities.{due_by, meaning}
use Rattle.arity_rules.specs.declared.place.Due.TheVariants.{Expression}
use Rattle.flattened_trees.specs.Leads.{FlatFace}
use Rattle.flattened_trees.specs.Readable.{IsReadable, IsReadableDefinition, IsReadableThrough}
use Rattle.readable_laws.specs.Uses.{implied_by, means_by}
use Rattle.readable_laws.specs.Accepted.{AreSound, IsAccepted, IsAcceptedUnit}
use Rattle.readable_laws.proofs.Definitions.{instance-read}
use Rattle.readable_laws.proofs.FoundMeanings.{IsAgreed, all-agreed}
use Rattle.readable_laws.proofs.StandIns.{stands-at}
use Rattle.readable_laws.proofs.ReadTrees.{definition-in, expression-in, replacements-in}

-- all that was found is what is meant, and can stand in
agreed : (known : Known) (found : List Finding) → AreSound known found → (f : Finding) → Contains found f → IsAgreed (means_by found) (meaning found) f
agreed known found all = all-agreed found all.sound all.apart (λ l p m k at. stands-at found k l p m all.declared all.orderly at)

module _ (text : Text) (known : Known) (named : List ℕ → Outside) (paths : List ℕ) (found : List Finding) (faces : List ℕ → FlatFace) where
  pub expression-reads : (context : Context) (order : ℕ) (whole : Span) (inside : Bool) (x : Tree) (a : List Lexeme) (i : ℕ) (o : Option Lexeme) → Derives x a i o → AreSound known found → IsAccepted text known named found faces paths context (due_by (Some order) whole) inside x
      → IsReadable text known named (means_by found) (implied_by found) faces context x × (places_at text known named context x ≡ places_by order)
  expression-reads context order whole inside x a i o derives all is =
      (expression-in text known named paths found faces (agreed known found all) all.behind derives).reads context order whole inside is.places (record { before = is.found_in.before; behind = is.found_in.behind; whole = is.found_in.whole }) is.orderly is.instances

  pub definition-reads : (context : Context) (inside : Bool) (x : Tree) (a : List Lexeme) (i : ℕ) (o : Option Lexeme) → DerivesDefinition x a i o → AreSound known found → IsAccepted text known named found faces paths context Expression inside x
      → IsReadableDefinition text known named (means_by found) (implied_by found) faces context x
  definition-reads context inside x a i o derives all is =
      (definition-in text known named paths found faces (agreed known found all) all.behind derives).reads context inside is.places (record { before = is.found_in.before; behind = is.found_in.behind; whole = is.found_in.whole }) is.orderly is.instances

  pub instance-reads : (context : Context) (inside : Bool) (x : Tree) (a : List Lexeme) (i : ℕ) (o : Option Lexeme) → DerivesInstance x a i o → AreSound known found → IsAccepted text known named found faces paths context Expression inside x → IsAcceptedUnit text known named found faces x
      → IsReadableThrough text known named (means_by found) (implied_by found) faces context (one x)
  instance-reads context inside x a i o (without {w = w} {m = m} k l) all is unit =
      instance-read text known named paths found faces (agreed known found all) m (place (w ∷ m ∷ [])) Nil Nil tt unit context inside is.places (record { before = is.found_in.before; behind = is.found_in.behind; whole = is.found_in.whole }) is.orderly is.instances.1
  instance-reads context inside x a i o (with_replacements {w = w} {m = m} {t = t} {xs = xs} {a = b} k l n rights) all is unit =
      instance-read text known named paths found faces (agreed known found all) m (place (w ∷ m ∷ t ∷ b)) xs Nil (replacements-in text known named paths found faces (agreed known found all) all.behind rights) unit context inside is.places
      (record { before = is.found_in.before; behind = is.found_in.behind; whole = is.found_in.whole }) is.orderly is.instances.1
