-- Ways of meanings by layers, one after another.
use Rattle.std.proofs.Common.{◌≡◌, ℕ, ◌+◌, ◌<◌, List, [], ◌∷◌, ◌++◌, Option, Some, None, sym, ap, ◌∙◌, length, get_or, take, add-one}
use Rattle.std.specs.Prelude.{unwrap_or}
use Rattle.std.specs.Option.{option_or}
use Rattle.std.proofs.lemmas.List.{take_more}
use Rattle.std.proofs.lemmas.Option.{slice_get-get_or}
use Rattle.tla_model.specs.Entities.{Meaning}
use Rattle.module_leads.specs.declared.layer.Brought.{Brought}
use Rattle.module_leads.specs.declared.layer.Layer.{Layer}
use Rattle.module_leads.specs.declared.ways.Way.TheVariants as way
use Rattle.module_leads.specs.Layers.{brought_by, first_ways, last_brought, layer_way, listed_way, said_way}
use Rattle.module_leads.proofs.Keyed.{last-more}

-- by one more layer
pub ways-next : (layers : List Layer) (i : ℕ) (layer : Layer) (meaning : Meaning) → i < length layers → layer ≡ get_or layers i layer
    → first_ways layers (i + 1) meaning ≡ layer_way layer (first_ways layers i meaning) meaning
ways-next layers i layer meaning within is =
    ap (λ (n : ℕ). first_ways layers n meaning) (add-one i)
    ∙ ap (λ (o : Option Layer). listed_way o (first_ways layers i meaning) meaning) (slice_get-get_or layers i layer within ∙ ap Some (sym is))

-- which says nothing of the meaning
pub ways-silent : (layers : List Layer) (i : ℕ) (layer : Layer) (meaning : Meaning) (all : way.the_data) → i < length layers → layer ≡ get_or layers i layer → None ≡ said_way layer meaning
    → first_ways layers (i + 1) meaning ≡ all → first_ways layers i meaning ≡ all
ways-silent layers i layer meaning all within is silent known =
    ap (λ (o : Option way.the_data). unwrap_or o (first_ways layers i meaning)) silent
    ∙ sym (ways-next layers i layer meaning within is) ∙ known

-- or which says this of it
pub ways-said : (layers : List Layer) (i : ℕ) (layer : Layer) (meaning : Meaning) (all found : way.the_data) → i < length layers → layer ≡ get_or layers i layer → Some found ≡ said_way layer meaning
    → first_ways layers (i + 1) meaning ≡ all → found ≡ all
ways-said layers i layer meaning all found within is said known =
    ap (λ (o : Option way.the_data). unwrap_or o (first_ways layers i meaning)) said
    ∙ sym (ways-next layers i layer meaning within is) ∙ known

-- ---- what is brought

-- the last of these has something
pub brought-last : (brought : List Brought) (i : ℕ) (last : Brought) (meaning : Meaning) (all : Option way.the_data) (found : way.the_data) → i < length brought → last ≡ get_or brought i last → Some found ≡ brought_by last meaning
    → last_brought (take (i + 1) brought) meaning ≡ all → Some found ≡ all
brought-last brought i last meaning all found within is has known =
    ap (λ o. option_or o (last_brought (take i brought) meaning)) has
    ∙ sym (ap (λ z. last_brought z meaning) (take_more brought i last within ∙ ap (λ z. take i brought ++ z ∷ []) (sym is)) ∙ last-more (take i brought) last meaning)
    ∙ known

-- or it has not
pub brought-none : (brought : List Brought) (i : ℕ) (last : Brought) (meaning : Meaning) (all : Option way.the_data) → i < length brought → last ≡ get_or brought i last → None ≡ brought_by last meaning
    → last_brought (take (i + 1) brought) meaning ≡ all → last_brought (take i brought) meaning ≡ all
brought-none brought i last meaning all within is none known =
    ap (λ o. option_or o (last_brought (take i brought) meaning)) none
    ∙ sym (ap (λ z. last_brought z meaning) (take_more brought i last within ∙ ap (λ z. take i brought ++ z ∷ []) (sym is)) ∙ last-more (take i brought) last meaning)
    ∙ known
