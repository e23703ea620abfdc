-- Where a path of names leads in a flat module.
use Rattle.std.proofs.Common.{◌≡◌, ℕ, zero, suc, ◌<◌, ◌≤◌, List, [], ◌∷◌, ◌++◌, Option, Some, None, refl, sym, ap, ◌∙◌, subst, take, drop, length, arith}
use Rattle.std.specs.Prelude.{slice_get, replicate}
use Rattle.std.proofs.lemmas.List.{take-append-le, length-append}
use Rattle.tla_symbols.specs.declared.level.Kind.{Kind}
use Rattle.kind_text.specs.ExpandedKind.{Expanded, Operands, Given}
use Rattle.kind_text.specs.FlatModule.{FlatModule, Form as NodeForm, Instance}
use Rattle.kind_text.specs.Expansion.{Guard, Reached, along_path, behind, body, form_item, guard, items as items_at, text, through, used}
use Rattle.kind_text.specs.Substitution.{Item, at, expressions, operator, texts}
use Rattle.tree_kinds.specs.Standing.{Step, Steps, Value, applied_to, item_of}
use Rattle.tree_kinds.proofs.MadeNodes.{texts-expressions}
use Rattle.flat_trees.specs.Stands.{Fits, IsItem, IsStanding, Matches, Stand, Unsaid, Leaf, Place, Defined, Through, Brought, count, passed}
use Rattle.flat_trees.specs.Names.{Ending, IsBare, IsNamed, IsUse, Leads, order_by, places_by}

pub at-append : (s more : List Item) (i : ℕ) → i < length s → at (s ++ more) i ≡ at s i
at-append [] more i l = absurd (omega (arith, l))
at-append (x ∷ s) more zero l = refl
at-append (x ∷ s) more (suc i) l = at-append s more i (omega (arith, l))

pub append-nil : (xs : List Item) → xs ++ [] ≡ xs
append-nil [] = refl
append-nil (x ∷ xs) = ap (λ ys. x ∷ ys) (append-nil xs)

longer : (n : ℕ) (s more : List Item) → n ≤ length s → n ≤ length (s ++ more)
longer n s more l = let e = length-append s more in omega (arith, l, e)

count-expressions : (ts : Operands) → length (expressions ts) ≡ count ts
count-expressions Operands.Nil = refl
count-expressions (Operands.Cons t ts) = ap suc (count-expressions ts)

fits-expressions : (n : ℕ) (ts : Operands) → count ts ≡ n → Fits (replicate n 0) (expressions ts) (expressions ts)
fits-expressions zero Operands.Nil same = tt
fits-expressions zero (Operands.Cons t ts) same = absurd (omega (arith, same))
fits-expressions (suc n) Operands.Nil same = absurd (omega (arith, same))
fits-expressions (suc n) (Operands.Cons t ts) same = (refl, fits-expressions n ts (omega (arith, same)))

module _ (flat : FlatModule) where
  -- what stands so over a frame stands so over a longer one
  pub grown : (s more : List Item) (guards : List Guard) (stand : Stand) (value : Value) → IsStanding flat s guards stand value → IsStanding flat (s ++ more) guards stand value
  grown s more guards Unsaid value holds = tt
  grown s more guards (Leaf kind) value holds = holds
  grown s more guards (Place place order) value holds =
      (longer (suc place) s more holds.0, subst (λ x. IsItem order x guards value) (sym (at-append s more place holds.0)) holds.1)
  grown s more guards (Defined d orders) value (x, there, room, holds) =
      (x, there, longer x.outer s more room, λ made arguments fits. holds made arguments fits ∙ ap (λ t. guard guards (text flat x.root (t ++ made)).text) (sym (take-append-le x.outer s more room)))
  grown s more guards (Through j orders inner) value (x, (there, many, room), holds) = (
    x,
    (there, many, longer x.outer s more room),
    λ made arguments fits name.
        subst (λ t. IsStanding flat (behind flat (text flat) x (t ++ made) (record { frame = s; guards = guards; rest = [] })).frame (behind flat (text flat) x (t ++ made) (record { frame = s; guards = guards; rest = [] })).guards (inner name) (λ more path. value arguments (record { name = name; arguments = more } ∷ path)))
        (sym (take-append-le x.outer s more room)) (holds made arguments fits name),
  )
  grown s more guards (Brought j inner) value (x, (there, many, room), holds) = (
    x,
    (there, many, longer x.outer s more room),
    subst (λ t. IsStanding flat (behind flat (text flat) x (t ++ []) (record { frame = s; guards = guards; rest = [] })).frame (behind flat (text flat) x (t ++ []) (record { frame = s; guards = guards; rest = [] })).guards inner value)
        (sym (take-append-le x.outer s more room)) holds,
  )

  -- what a value gives at the end of a path, on further arguments
  abbrev pub further : Value → List Item → Steps → List Item → Expanded
  further value arguments [] more = value (arguments ++ more) []
  further value arguments (step ∷ steps) more = value arguments (applied_to (step ∷ steps) more)

  -- the definition that a path leads to, and what the value gives there
  pub record Arrives (ends : Ending) (r : Reached) (value : Value) (arguments : List Item) (steps : Steps) : Type 0 where
    pub found : ℕ
    pub orders : List ℕ
    pub left : List Item
    pub last : Value
    pub ended : ends found orders r.rest left
    pub standing : IsStanding flat r.frame r.guards (Defined found orders) last
    pub gives : (more : List Item) → further value arguments steps more ≡ last (left ++ more) []

  -- one name further
  next : (value : Value) (arguments : List Item) (step : Step) (steps : Steps) (more : List Item) → further value arguments (step ∷ steps) more ≡ further (λ others path. value arguments (record { name = step.name; arguments = others } ∷ path)) step.arguments steps more
  next value arguments step [] more = refl
  next value arguments step (second ∷ steps) more = refl

  -- through an instance by number, whose parameters are so many
  stepped : (i j n : ℕ) (x : Instance) (r : Reached) → i ≡ j → slice_get flat.instances j ≡ Some x → x.parameters ≡ n → through flat (text flat) (slice_get flat.instances i) r ≡ record { frame = (passed flat x r.frame r.guards (take n r.rest)).frame; guards = (passed flat x r.frame r.guards (take n r.rest)).guards; rest = drop n r.rest }
  stepped i j n x r same there many =
      ap (λ k. through flat (text flat) (slice_get flat.instances k) r) same
      ∙ ap (λ o. through flat (text flat) o r) there
      ∙ ap (λ k. record { frame = (passed flat x r.frame r.guards (take k r.rest)).frame; guards = (passed flat x r.frame r.guards (take k r.rest)).guards; rest = drop k r.rest }) many

  arrives : (ends : Ending) (stand : Stand) (s : List Item) (guards : List Guard) (value : Value) (arguments : List Item) (steps : Steps) (path : List ℕ) (made : List Item) → IsStanding flat s guards stand value → Leads ends stand arguments steps path made → Arrives ends (along_path flat (text flat) path (record { frame = s; guards = guards; rest = made })) value arguments steps
  arrives ends Unsaid s guards value arguments steps path made holds leads = absurd leads
  arrives ends (Leaf kind) s guards value arguments steps path made holds leads = absurd leads
  arrives ends (Place place order) s guards value arguments steps path made holds leads = absurd leads
  arrives ends (Defined d orders) s guards value arguments [] [] made holds leads =
      record { found = d; orders = orders; left = arguments; last = value; ended = leads; standing = holds; gives = λ more. refl }
  arrives ends (Defined d orders) s guards value arguments [] (i ∷ path) made holds leads = absurd leads
  arrives ends (Defined d orders) s guards value arguments (step ∷ steps) path made holds leads = absurd leads
  arrives ends (Through j orders inner) s guards value arguments [] path made holds leads = absurd leads
  arrives ends (Through j orders inner) s guards value arguments (step ∷ steps) [] made holds leads = absurd leads
  arrives ends (Through j orders inner) s guards value arguments (step ∷ steps) (i ∷ path) made (x, (there, many, room), holds) (same, fits, leads) =
      let one = take (length orders) made in
      let on = arrives ends (inner step.name) (passed flat x s guards one).frame (passed flat x s guards one).guards (λ others more. value arguments (record { name = step.name; arguments = others } ∷ more)) step.arguments steps path (drop (length orders) made) (holds one arguments fits step.name) leads in
      subst (λ r. Arrives ends (along_path flat (text flat) path r) value arguments (step ∷ steps)) (sym (stepped i j (length orders) x (record { frame = s; guards = guards; rest = made }) same there many))
      (record { found = on.found; orders = on.orders; left = on.left; last = on.last; ended = on.ended; standing = on.standing; gives = λ more. next value arguments step steps more ∙ on.gives more })
  arrives ends (Brought j inner) s guards value arguments steps [] made holds leads = absurd leads
  arrives ends (Brought j inner) s guards value arguments steps (i ∷ path) made (x, (there, many, room), holds) (same, leads) =
      let on = arrives ends inner (passed flat x s guards []).frame (passed flat x s guards []).guards value arguments steps path made holds leads in
      subst (λ r. Arrives ends (along_path flat (text flat) path r) value arguments steps) (sym (stepped i j 0 x (record { frame = s; guards = guards; rest = made }) same there many)) on

  item-call : (arguments : List Item) (x : Item) (value : Value) → 0 < length arguments → IsItem (length arguments) x [] value → value arguments [] ≡ x.call (texts arguments)
  item-call [] x value some holds = absurd (omega (arith, some))
  item-call (y ∷ ys) x value some holds = holds (y ∷ ys) refl

  further-plain : (value : Value) (arguments : List Item) (steps : Steps) (more : List Item) → arguments ≡ [] → steps ≡ [] → further value arguments steps more ≡ value more []
  further-plain value arguments steps more empty end = ap (λ xs. further value xs steps more) empty ∙ ap (λ p. further value [] p more) end

  used-last : (r : Reached) (found d : ℕ) (orders : List ℕ) (last : Value) (made left : List Item) → found ≡ d → IsStanding flat r.frame r.guards (Defined found orders) last → Fits orders made left → used flat (text flat) r d made ≡ last left []
  used-last r found d orders last made left same (x, there, room, holds) fits =
      ap (λ k. used flat (text flat) r k made) (sym same)
      ∙ ap (λ o. guard r.guards (body (text flat) o (λ outer. take outer r.frame ++ made))) there
      ∙ sym (holds made left fits)

  module _ (s : List Item) (value : Value) (arguments : List Item) (steps : Steps) (gives : List Item → Expanded) (same : (more : List Item) → gives more ≡ further value arguments steps more) where
    made-leaf : (kind : Kind) → IsStanding flat s [] (Leaf kind) value → arguments ≡ [] → steps ≡ [] → Given (Some kind) ≡ gives []
    made-leaf kind holds empty end = sym (same [] ∙ further-plain value arguments steps [] empty end ∙ holds)

    made-parameter : (place order : ℕ) → IsStanding flat s [] (Place place order) value → arguments ≡ [] → steps ≡ [] → Matches (order_by (places_by order)) (at s place) (item_of (places_by order) gives)
    made-parameter place zero holds empty end = sym (same [] ∙ further-plain value arguments steps [] empty end ∙ holds.1)
    made-parameter place (suc n) holds empty end =
        λ ts many.
        sym (same (expressions ts) ∙ further-plain value arguments steps (expressions ts) empty end ∙ holds.1 (expressions ts) (count-expressions ts ∙ many) ∙ ap (at s place).call (texts-expressions ts))

    made-call : (place : ℕ) (made : List Item) → IsStanding flat s [] (Place place (length arguments)) value → 0 < length arguments → texts made ≡ texts arguments → steps ≡ [] → (at s place).call (texts made) ≡ gives []
    made-call place made holds some like end =
        ap (at s place).call like
        ∙ sym (item-call arguments (at s place) value some holds.1)
        ∙ ap (λ xs. value xs []) (sym (append-nil arguments))
        ∙ sym (ap (λ p. further value arguments p []) end)
        ∙ sym (same [])

    made-use : (d : ℕ) (r : Reached) → Arrives (IsUse d) r value arguments steps → used flat (text flat) r d r.rest ≡ gives []
    made-use d r on =
        used-last r on.found d on.orders on.last r.rest on.left on.ended.0 on.standing on.ended.1
        ∙ ap (λ xs. on.last xs []) (sym (append-nil on.left))
        ∙ sym (on.gives [])
        ∙ sym (same [])

    made-bare : (d n : ℕ) (r : Reached) → Arrives (IsBare d n) r value arguments steps → Matches n (operator (λ ts. used flat (text flat) r d (expressions ts))) (operator (λ ts. gives (expressions ts)))
    made-bare d zero r on = refl
    made-bare d (suc n) r on =
        λ ts many.
        used-last r on.found d on.orders on.last (expressions ts) (expressions ts) on.ended.0 on.standing
        (subst (λ orders. Fits orders (expressions ts) (expressions ts)) (sym on.ended.1) (fits-expressions (suc n) ts many))
        ∙ ap (λ xs. on.last (xs ++ expressions ts) []) (sym on.ended.2)
        ∙ sym (on.gives (expressions ts))
        ∙ sym (same (expressions ts))

    module _ (places : Option ℕ) (stand : Stand) (holds : IsStanding flat s [] stand value) where
      standing-as : (other : Stand) → stand ≡ other → IsStanding flat s [] other value
      standing-as other e = subst (λ one. IsStanding flat s [] one value) e holds

      with-places : (found : Option ℕ) (x : Item) → places ≡ found → Matches (order_by found) x (item_of found gives) → Matches (order_by places) x (item_of places gives)
      with-places found x e same = subst (λ o. Matches (order_by o) x (item_of o gives)) (sym e) same

      pub named-node : (form : NodeForm) (is : List ℕ) → IsNamed places stand arguments steps form (items_at (text flat) is s) → Matches (order_by places) (form_item flat (text flat) form is s) (item_of places gives)
      named-node (NodeForm.Leaf kind) is (none, e, empty, end) = with-places None _ none (made-leaf kind (standing-as (Leaf kind) e) empty end)
      named-node (NodeForm.Parameter place) is (order, placed, e, empty, end) =
          with-places (places_by order) _ placed (made-parameter place order (standing-as (Place place order) e) empty end)
      named-node (NodeForm.Call place) is (none, e, some, like, end) =
          with-places None _ none (made-call place (items_at (text flat) is s) (standing-as (Place place (length arguments)) e) some like end)
      named-node (NodeForm.Operation rule) is named = absurd named
      named-node NodeForm.Bounded is named = absurd named
      named-node NodeForm.Old is named = absurd named
      named-node NodeForm.Let is named = absurd named
      named-node (NodeForm.Use path d) is (none, leads) =
          with-places None _ none (made-use d _ (arrives (IsUse d) stand s [] value arguments steps path (items_at (text flat) is s) holds leads))
      named-node (NodeForm.Name path d) is (many, e, leads) =
          with-places (Some many) _ e (made-bare d many _ (arrives (IsBare d many) stand s [] value arguments steps path (items_at (text flat) is s) holds leads))
      named-node (NodeForm.Symbol rule) is named = absurd named
      named-node (NodeForm.Lambda d) is named = absurd named
