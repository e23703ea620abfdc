-- Where the instances lead that a text names.
use Rattle.std.proofs.Common.{◌≡◌, ◌<◌, ℕ, false, List, [], ◌∷◌, ◌++◌, Option, get_or, length, map, take, refl, ap, sym, ◌∙◌, true≢false}
use Rattle.std.specs.Prelude.{◌+◌}
use Rattle.std.specs.Str.{bytes_eq}
use Rattle.std.proofs.lemmas.List.{map-append, take_more}
use Rattle.std.proofs.lemmas.Slice.Eq.{bytes_eq-Decides}
use Rattle.tla_symbols.specs.declared.lexeme.Lexeme.{Lexeme}
use Rattle.tla_model.specs.Entities.{Text}
use Rattle.module_model.specs.Exports.{Known, ModuleView, and_known, known_as}
use Rattle.module_model.specs.NamedModules.{behind_named, known_named}
use Rattle.instance_names.specs.declared.named.NamedInstance.{NamedInstance}
use Rattle.instance_names.specs.Named.{named_as}
use Rattle.tla_model.specs.Entities.{declaration}
use Rattle.instance_leads.proofs.Knowing.{and-assoc}

named-append : (text : Text) (named : List ℕ → ModuleView) (a b : List (Lexeme × Option Lexeme)) → known_named text named (a ++ b) ≡ and_known (known_named text named a) (known_named text named b)
named-append text named [] b = refl
named-append text named (instance ∷ a) b =
    let here = known_as (declaration text instance.0) (behind_named text named instance.1) in
    ap (and_known here) (named-append text named a b) ∙ sym (and-assoc here (known_named text named a) (known_named text named b))

-- one more of them
pub named-next : (text : Text) (named : List ℕ → ModuleView) (instances : List NamedInstance) (i : ℕ) (d : NamedInstance) (now new : Known) → i < length instances →
    new ≡ and_known now (known_named text named (named_as (get_or instances i d) ∷ [])) → now ≡ known_named text named (map named_as (take i instances)) → new ≡ known_named text named (map named_as (take (i + 1) instances))
named-next text named instances i d now new lt more so =
    more ∙ ap (λ z. and_known z (known_named text named (named_as (get_or instances i d) ∷ []))) so
    ∙ sym (named-append text named (map named_as (take i instances)) (named_as (get_or instances i d) ∷ []))
    ∙ ap (known_named text named) (sym (map-append named_as (take i instances) (get_or instances i d ∷ [])) ∙ ap (map named_as) (sym (take_more instances i d lt)))

-- an instance of the text itself is of no other
pub own-text : {A : Type 0} (file name title : List ℕ) → name ≡ file → file ≡ title → bytes_eq name title ≡ false → A
own-text file name title is same other = absurd (true≢false (sym ((bytes_eq-Decides name title).1 (is ∙ same)) ∙ other))
