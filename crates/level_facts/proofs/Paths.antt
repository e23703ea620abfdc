-- How far a path leads, one instance after another.
use Rattle.std.proofs.Common.{◌≡◌, ℕ, zero, suc, ◌+◌, ◌*◌, ◌<◌, ◌≤◌, max, Bool, true, false, cond, List, [], ◌∷◌, ◌++◌, Option, Some, None, refl, sym, ap, ◌∙◌, subst, map, take, drop, length, get_or, length-take, arith}
use Rattle.std.specs.Prelude.{◌&&◌, ◌==◌, slice_get}
use Rattle.std.specs.List.{AllByRecursion, list_all}
use Rattle.std.proofs.lemmas.Bool.Decides.{nat_tests}
use Rattle.std.proofs.lemmas.List.{append-nil, length-map, length_push}
use Rattle.std.proofs.lemmas.Option.{slice_get_read, slice_get_within}
use Rattle.tla_symbols.specs.declared.level.Kind.{Kind}
use Rattle.kind_text.proofs.Zips.{zip-append, zip-drop, zip-take}
use Rattle.kind_text.specs.ExpandedKind.{kind}
use Rattle.kind_text.specs.Substitution.{Alike, Item, Same}
use Rattle.kind_text.specs.FlatModule.{Definition, FlatModule, UsesDefinition, UsesInstance}
use Rattle.kind_text.specs.FlatModule as defined
use Rattle.kind_text.specs.Expansion as expansion
use Rattle.kind_text.specs.Expansion.{along_path, applied_to_rest, are_met, body, guards_of, items, start, text, text_of, through}
use Rattle.kind_text.proofs.Unfolding.{kind-guard}
use Rattle.kind_table.specs.declared.argument.Arg.{Arg}
use Rattle.kind_table.specs.declared.flat.Instance.{Instance}
use Rattle.kind_table.specs.declared.flat.Replacement as replacement
use Rattle.kind_table.specs.declared.flat.FlatModule as tables
use Rattle.kind_table.specs.Flattened.{flat_of, instance_of, replacement_of}
use Rattle.kind_table.specs.Table.{AllWithin, Grows, IsTable, meaning, meanings}
use Rattle.kind_table.specs.Weights.{body_cost, heaviest, load, longest, node_cost, times, weight}
use Rattle.kind_table.proofs.Unfolding.{alike-meanings, same-body}
use Rattle.kind_table.proofs.Growth.{grows_not, grows_on, load_on, meanings_on, within_on}
use Rattle.kind_table.proofs.TableEntries.{definition-there, instance-there}
use Rattle.kind_table.proofs.Weighing.{heaviest-lower, load-append, load-drop, load-take, map-append, map-drop, map-take, times-more, times-most, within-append, within-drop, within-take}
use Rattle.level_facts.specs.declared.steps.Reached.{Reached}
use Rattle.level_facts.specs.Judged.{EvaluatesAll, IsReached, LeadsThrough, MeetsGuards, Reaches, ReachesPath, UsesPath, around_of, lower_cost_of, puts_nothing_in, use_kind_of}
use Rattle.level_facts.proofs.Likes.{alike-items, alike-trans, met-append}
use Rattle.level_facts.proofs.Finding.{closure_cost}
use Rattle.level_facts.proofs.Guards.{roots-same, roots_of}

all-at : (P : ℕ → Type 0) (path : List ℕ) (k j : ℕ) → k < length path → j ≡ get_or path k 0 → AllByRecursion P path → P j
all-at P [] k j l e h = absurd (omega arith)
all-at P (i ∷ path) zero j l e h = subst P (sym e) h.0
all-at P (i ∷ path) (suc k) j l e h = all-at P path k j (omega arith) e h.1

and-left : (a b : Bool) → (a && b) ≡ true → a ≡ true
and-left true b h = refl
and-left false b h = h

and-right : (a b : Bool) → (a && b) ≡ true → b ≡ true
and-right true b h = h
and-right false b h = let none : false ≡ true = h in cc

-- whether something is put in for an instance of the tables
pub nothing_taken : (x : Instance) → (x.parameters == 0) ≡ true → (length x.replacements.items == 0) ≡ puts_nothing_in (Some (instance_of x))
nothing_taken x e = ap (λ n. n == 0) (sym (length-map x.replacements.items replacement_of)) ∙ sym (ap (λ b. b && (length (map replacement_of x.replacements.items) == 0)) e)

pub something_taken : (x : Instance) → (x.parameters == 0) ≡ false → false ≡ puts_nothing_in (Some (instance_of x))
something_taken x e = sym (ap (λ b. b && (length (map replacement_of x.replacements.items) == 0)) e)

take-none : (n : ℕ) (ns : List ℕ) → ns ≡ take n [] ++ ns
take-none zero ns = refl
take-none (suc n) ns = refl

-- what stands round a body, where nothing is put in for parameters
pub round_alone : (outer : ℕ) (frame ns round : List ℕ) → round ≡ take outer frame → (length ns == 0) ≡ true → round ≡ take outer frame ++ ns
round_alone outer frame [] round is none = is ∙ sym (append-nil (take outer frame))
round_alone outer frame (n ∷ ns) round is none = absurd (grind (arith, nat_tests))

-- the instance at a place of a path is one that the node uses
pub uses_at : (flat : FlatModule) (node : ℕ) (path : List ℕ) (k j : ℕ) → k < length path → j ≡ get_or path k 0 → UsesPath flat node path → UsesInstance flat node j
uses_at flat node path k j l e h = all-at (UsesInstance flat node) path k j l e h

alike-long : (xs ys : List Item) → Alike xs ys → length xs ≡ length ys
alike-long [] [] h = refl
alike-long [] (y ∷ ys) h = absurd h
alike-long (x ∷ xs) [] h = absurd h
alike-long (x ∷ xs) (y ∷ ys) h = let l = alike-long xs ys h.1 in omega (arith, l)

items-long : (f : ℕ → List Item → Item) (is : List ℕ) (s : List Item) → length (items f is s) ≡ length is
items-long f [] s = refl
items-long f (i ∷ is) s = let l = items-long f is s in omega (arith, l)

roots-before : (node : ℕ) (rs : List replacement.Replacement) → AllByRecursion (λ (r : defined.Replacement). r.root < node) (map replacement_of rs) → AllByRecursion (λ root. root < node) (map (λ (r : replacement.Replacement). r.root) rs)
roots-before node [] h = tt
roots-before node (r ∷ rs) h = (h.0, roots-before node rs h.1)

-- the work of one replacement
pub root_light : (flat : FlatModule) (rs : List replacement.Replacement) (i : ℕ) (d : replacement.Replacement) → i < length rs → node_cost flat (get_or rs i d).root ≤ heaviest (node_cost flat) (map (λ (y : replacement.Replacement). y.root) rs)
root_light flat [] i d l = absurd (omega arith)
root_light flat (x ∷ rs) zero d l = omega arith
root_light flat (x ∷ rs) (suc i) d l = let rest = root_light flat rs i d (omega arith) in omega (arith, rest)

-- an instance as it is read, with its replacements before a node
pub record ReadsInstance (flat : FlatModule) (node j : ℕ) (x : Instance) : Type 0 where
  pub here : slice_get flat.instances j ≡ Some (instance_of x)
  pub before : AllByRecursion (λ root. root < node) (map (λ (r : replacement.Replacement). r.root) x.replacements.items)

-- the instance that was read is the one that the node uses
pub reads_instance : (t : tables.FlatModule) (node j : ℕ) (x : Instance) → j < length t.instances.items → x ≡ get_or t.instances.items j x → UsesInstance (flat_of t) node j → ReadsInstance (flat_of t) node j x
reads_instance t node j x l e u =
    let y = instance-there t j u.0 u.1 in let at_j = slice_get_read t.instances.items _ j x refl l e in
    let found : Some y.0 ≡ Some x = sym y.1 ∙ at_j in let same : y.0 ≡ x = cc in
    let is : u.0 ≡ instance_of x = sym y.2 ∙ ap instance_of same in
    record {
      here = u.1 ∙ ap Some is;
      before = roots-before node x.replacements.items (subst (λ (z : defined.Instance). AllByRecursion (λ (r : defined.Replacement). r.root < node) z.replacements) is u.2);
    }

-- an instance that a node uses is there
pub instance_within : (t : tables.FlatModule) (node j : ℕ) → UsesInstance (flat_of t) node j → j < length t.instances.items
instance_within t node j u = let y = instance-there t j u.0 u.1 in slice_get_within t.instances.items j y.0 y.1

-- a definition that a node uses is there
pub definition_within : (t : tables.FlatModule) (node d : ℕ) → UsesDefinition (flat_of t) node d → d < length t.definitions.items
definition_within t node d u = let y = definition-there t d u.0 u.1 in slice_get_within t.definitions.items d y.0 y.1

module _ (flat : FlatModule) where
  -- ---- one instance further

  round_alike : (table : List Arg) (frame rest round : List ℕ) (outer parameters : ℕ) (s xs : List Item) → round ≡ take outer frame ++ take parameters rest → Alike (meanings flat table frame) s → Alike (meanings flat table rest) xs → Alike (meanings flat table round) (take outer s ++ take parameters xs)
  round_alike table frame rest round outer parameters s xs is h k =
      let m = meaning flat table in
      subst (λ y. Alike y (take outer s ++ take parameters xs)) (sym (ap (map m) is ∙ map-append m (take outer frame) (take parameters rest) ∙ ap (λ y. y ++ map m (take parameters rest)) (map-take m outer frame) ∙ ap (λ y. take outer (map m frame) ++ y) (map-take m parameters rest)))
      (zip-append Same _ _ _ _ (zip-take Same outer _ _ h) (zip-take Same parameters _ _ k))

  -- what stands round an instance is there
  pub around_within : (table : List Arg) (x : Instance) (r : Reached) (round : List ℕ) → IsReached table r → round ≡ around_of x r → AllWithin table round
  around_within table x r round w is = subst (AllWithin table) (sym is) (within-append table _ _ (within-take table x.outer r.frame.items w.frame) (within-take table x.parameters r.rest.items w.rest))

  pub around_light : (table : List Arg) (x : Instance) (r : Reached) (round : List ℕ) → round ≡ around_of x r → load flat table round ≤ max (load flat table r.frame.items) (load flat table r.rest.items)
  around_light table x r round is =
      let f = weight flat table in
      let l = ap (heaviest f) is ∙ load-append f (take x.outer r.frame.items) (take x.parameters r.rest.items) in
      let a = load-take f x.outer r.frame.items in let b = load-take f x.parameters r.rest.items in omega (arith, l, a, b)

  -- the work of the nodes that it is made of
  pub roots_light : (node j : ℕ) (x : Instance) → ReadsInstance flat node j x → heaviest (node_cost flat) (map (λ (y : replacement.Replacement). y.root) x.replacements.items) ≤ lower_cost_of flat node
  roots_light node j x at = heaviest-lower (longest flat.nodes) node (map (λ (y : replacement.Replacement). y.root) x.replacements.items) at.before

  -- what an instance leads to has one number for each replacement
  pub frame_long : {old new : List Arg} (x : Instance) (round ns : List ℕ) → EvaluatesAll flat old new (map (λ (y : replacement.Replacement). y.root) x.replacements.items) round ns → length ns ≡ length x.replacements.items
  frame_long {old} {new} x round ns e =
      sym (length-map ns (meaning flat new)) ∙ alike-long _ _ e.same ∙ items-long (text flat) (map (λ (y : replacement.Replacement). y.root) x.replacements.items) (meanings flat new round)
      ∙ length-map x.replacements.items (λ (y : replacement.Replacement). y.root)

  -- the work of judging the guards of an instance
  pub guards_light : {old new : List Arg} (node j : ℕ) (x : Instance) (r : Reached) (round ns : List ℕ) → ReadsInstance flat node j x → IsReached old r → round ≡ around_of x r → EvaluatesAll flat old new (map (λ (y : replacement.Replacement). y.root) x.replacements.items) round ns → load flat new ns ≤ max (load flat old r.frame.items) (load flat old r.rest.items) + lower_cost_of flat node
  guards_light {old} {new} node j x r round ns at w is e =
      let l = around_light old x r round is in let lr = load_on flat e.grows round (around_within old x r round w is) in
      let heavy = roots_light node j x at in
      omega (arith, l, lr, e.light, heavy)

  pub leads_through : {old mid new : List Arg} (node j : ℕ) (x : Instance) (r next : Reached) (round : List ℕ) (met : Bool) → ReadsInstance flat node j x → IsReached old r → round ≡ around_of x r → EvaluatesAll flat old mid (map (λ (y : replacement.Replacement). y.root) x.replacements.items) round next.frame.items → MeetsGuards flat mid new x next.frame.items met → next.rest.items ≡ drop x.parameters r.rest.items → next.met ≡ (r.met && met) → LeadsThrough flat old new node j r next
  leads_through {old} {mid} {new} node j x r next round met at w round_is e g rest_is met_is =
      let w_round = around_within old x r round w round_is in
      let all = grows_on e.grows g.grows in
      let w_rest : AllWithin old next.rest.items = subst (AllWithin old) (sym rest_is) (within-drop old x.parameters r.rest.items w.rest) in
      let l = around_light old x r round round_is in
      let heavy = roots_light node j x at in
      let lr = load_on flat e.grows round w_round in let ln = load_on flat g.grows next.frame.items e.within in
      let ld = ap (load flat old) rest_is in let le = load-drop (weight flat old) x.parameters r.rest.items in
      let lo = load_on flat all next.rest.items w_rest in
      record {
        grows = all;
        within = record { frame = within_on g.grows next.frame.items e.within; rest = within_on all next.rest.items w_rest };
        reaches = λ y h. reaches_one y h w_round w_rest;
        light = omega (arith, l, lr, ln, e.light, heavy);
        rest_light = omega (arith, ld, le, lo);
      }
    where
      reaches_one : (y : expansion.Reached) → Reaches flat old r y → AllWithin old round → AllWithin old next.rest.items → Reaches flat new next (through flat (text flat) (slice_get flat.instances j) y)
      reaches_one y h w_round w_rest =
          let roots = roots_of x.replacements.items in
          let s = take x.outer y.frame ++ take x.parameters y.rest in
          let at_old = round_alike old r.frame.items r.rest.items round x.outer x.parameters y.frame y.rest round_is h.frame h.rest in
          let at_mid : Alike (meanings flat mid round) s = subst (λ z. Alike z s) (sym (meanings_on flat e.grows round w_round)) at_old in
          let frames : Alike (meanings flat mid next.frame.items) (items (text flat) roots s) = alike-trans _ _ _ (subst (λ z. Alike (meanings flat mid next.frame.items) (items (text flat) z (meanings flat mid round))) (roots-same x.replacements.items) e.same) (alike-items flat roots _ _ at_mid) in
          let all = grows_on e.grows g.grows in
          let rests : Alike (meanings flat new next.rest.items) (drop x.parameters y.rest) =
          subst (λ z. Alike z (drop x.parameters y.rest)) (sym (meanings_on flat all next.rest.items w_rest ∙ ap (map (meaning flat old)) rest_is ∙ map-drop (meaning flat old) x.parameters r.rest.items)) (zip-drop Same x.parameters _ _ h.rest) in
          let new_frames : Alike (meanings flat new next.frame.items) (items (text flat) roots s) = subst (λ z. Alike z (items (text flat) roots s)) (sym (meanings_on flat g.grows next.frame.items e.within)) frames in
          let meets = met_is ∙ ap (λ b. b && met) h.met ∙ ap (λ b. are_met y.guards && b) (g.is s frames) ∙ sym (met-append y.guards (cond x.guards (guards_of flat (text flat) (instance_of x).replacements s) [])) in
          subst (λ o. Reaches flat new next (through flat (text flat) o y)) (sym at.here) (record { frame = new_frames; rest = rests; met = meets })

  -- ---- along a path

  path-push : (path : List ℕ) (j : ℕ) (x : expansion.Reached) → along_path flat (text flat) (path ++ j ∷ []) x ≡ through flat (text flat) (slice_get flat.instances j) (along_path flat (text flat) path x)
  path-push [] j x = refl
  path-push (k ∷ path) j x = path-push path j _

  pub path_begins : (table : List Arg) (node : ℕ) (frame ns : List ℕ) (r : Reached) → IsTable table → AllWithin table frame → AllWithin table ns → r.frame.items ≡ frame → r.rest.items ≡ ns → r.met ≡ true → ReachesPath flat table table node [] frame ns r
  path_begins table node frame ns r t w v f_is r_is m_is =
      let lf = ap (load flat table) f_is in let lr = ap (load flat table) r_is in
      record {
        grows = grows_not table t;
        within = record { frame = subst (AllWithin table) (sym f_is) w; rest = subst (AllWithin table) (sym r_is) v };
        reaches = record {
          frame = subst (λ x. Alike x (meanings flat table frame)) (sym (ap (meanings flat table) f_is)) (alike-meanings flat table frame);
          rest = subst (λ x. Alike x (meanings flat table ns)) (sym (ap (meanings flat table) r_is)) (alike-meanings flat table ns);
          met = m_is;
        };
        light = omega (arith, lf);
        rest_light = omega (arith, lr);
      }

  pub path_more : {a b c : List Arg} (node : ℕ) (path : List ℕ) (j : ℕ) (frame ns : List ℕ) (r next : Reached) → ReachesPath flat a b node path frame ns r → LeadsThrough flat b c node j r next → ReachesPath flat a c node (path ++ j ∷ []) frame ns next
  path_more {a} {b} {c} node path j frame ns r next h one =
      let n = length_push path j in let t = ap (λ k. times k (lower_cost_of flat node)) (n ∙ plus_one (length path)) ∙ times-more (length path) (lower_cost_of flat node) in
      let l = h.light in let lr = h.rest_light in
      record {
        grows = grows_on h.grows one.grows;
        within = one.within;
        reaches = subst (λ x. Reaches flat c next x) (sym (path-push path j _)) (one.reaches _ h.reaches);
        light = omega (arith, t, l, lr, one.light);
        rest_light = omega (arith, lr, one.rest_light);
      }
    where
      plus_one : (k : ℕ) → k + 1 ≡ suc k
      plus_one k = omega arith

  -- the work of one instance further
  pub path_light : {a b : List Arg} (node : ℕ) (path : List ℕ) (k : ℕ) (frame ns : List ℕ) (r : Reached) → ReachesPath flat a b node (take k path) frame ns r → k < length path → max (load flat b r.frame.items) (load flat b r.rest.items) + lower_cost_of flat node ≤ max (load flat a frame) (load flat a ns) + times (length path) (lower_cost_of flat node)
  path_light {a} {b} node path k frame ns r h l =
      let c = lower_cost_of flat node in
      let here : length (take k path) ≡ k = omega (arith, length-take k path) in
      let t = ap (λ n. times n c) here in let more = times-more k c in let most = times-most c (suc k) (length path) (omega arith) in
      omega (arith, h.light, h.rest_light, t, more, most)

  -- ---- a definition behind a path

  -- what stands round it is there
  pub used_within : {a b : List Arg} (node : ℕ) (path : List ℕ) (x : Definition) (frame ns round : List ℕ) (r : Reached) → ReachesPath flat a b node path frame ns r → round ≡ take x.outer r.frame.items ++ r.rest.items → AllWithin b round
  used_within {a} {b} node path x frame ns round r h is =
      subst (AllWithin b) (sym is) (within-append b _ _ (within-take b x.outer r.frame.items h.within.frame) h.within.rest)

  -- the work of its body
  pub used_light : {a b : List Arg} (node : ℕ) (path : List ℕ) (d : ℕ) (x : Definition) (frame ns round : List ℕ) (r : Reached) → UsesDefinition flat node d → ReachesPath flat a b node path frame ns r → round ≡ take x.outer r.frame.items ++ r.rest.items → load flat a ns ≤ load flat a frame + lower_cost_of flat node → load flat b round + body_cost flat (slice_get flat.definitions d) ≤ load flat a frame + 2 * lower_cost_of flat node + times (length path) (lower_cost_of flat node) + 4
  used_light {a} {b} node path d x frame ns round r u h is light =
      let f = weight flat b in
      let l = ap (heaviest f) is ∙ load-append f (take x.outer r.frame.items) r.rest.items in
      let t = load-take f x.outer r.frame.items in let c = (closure_cost flat node d u).0 in
      omega (arith, l, t, c, h.light, h.rest_light, light)

  pub used_met : {old mid new : List Arg} (node : ℕ) (path : List ℕ) (d : ℕ) (x : Definition) (frame ns round : List ℕ) (r : Reached) (k : Option Kind) → slice_get flat.definitions d ≡ Some x → ReachesPath flat old mid node path frame ns r → r.met ≡ true → round ≡ take x.outer r.frame.items ++ r.rest.items → Grows mid new → k ≡ kind (text_of flat d (meanings flat new round)) → k ≡ use_kind_of flat path d (meanings flat old frame) (meanings flat old ns)
  used_met {old} {mid} {new} node path d x frame ns round r k at_d h holds round_is g is =
      let from = along_path flat (text flat) path (start (meanings flat old frame) (meanings flat old ns)) in
      let m = meaning flat mid in
      let w = used_within node path x frame ns round r h round_is in
      let frames : Alike (meanings flat mid round) (take x.outer from.frame ++ from.rest) =
      subst (λ y. Alike y (take x.outer from.frame ++ from.rest)) (sym (ap (map m) round_is ∙ map-append m (take x.outer r.frame.items) r.rest.items ∙ ap (λ y. y ++ map m r.rest.items) (map-take m x.outer r.frame.items)))
      (zip-append Same _ _ _ _ (zip-take Same x.outer _ _ h.reaches.frame) h.reaches.rest) in
      is ∙ ap (λ s. kind (text_of flat d s)) (meanings_on flat g round w)
      ∙ ap (λ o. kind (body (text flat) o (λ outer. meanings flat mid round))) at_d
      ∙ same-body flat (Some x) (λ outer. meanings flat mid round) (λ outer. take x.outer from.frame ++ from.rest) (λ n. frames)
      ∙ sym (ap (λ o. kind (body (text flat) o (λ outer. take outer from.frame ++ from.rest))) at_d)
      ∙ sym (ap (λ b. cond b (kind (body (text flat) (slice_get flat.definitions d) (λ outer. take outer from.frame ++ from.rest))) None) (sym h.reaches.met ∙ holds))
      ∙ sym (kind-guard from.guards (body (text flat) (slice_get flat.definitions d) (λ outer. take outer from.frame ++ from.rest)))

  pub used_not_met : {old mid : List Arg} (node : ℕ) (path : List ℕ) (d : ℕ) (frame ns : List ℕ) (r : Reached) → ReachesPath flat old mid node path frame ns r → r.met ≡ false → None ≡ use_kind_of flat path d (meanings flat old frame) (meanings flat old ns)
  used_not_met {old} {mid} node path d frame ns r h fails =
      let from = along_path flat (text flat) path (start (meanings flat old frame) (meanings flat old ns)) in
      sym (ap (λ b. cond b (kind (body (text flat) (slice_get flat.definitions d) (λ outer. take outer from.frame ++ from.rest))) None) (sym h.reaches.met ∙ fails))
      ∙ sym (kind-guard from.guards (body (text flat) (slice_get flat.definitions d) (λ outer. take outer from.frame ++ from.rest)))

  -- ---- a definition behind no path

  -- what stands round it is there
  pub direct_within : (table : List Arg) (outer : ℕ) (frame ns round : List ℕ) → AllWithin table frame → AllWithin table ns → round ≡ take outer frame ++ ns → AllWithin table round
  direct_within table outer frame ns round w v is = subst (AllWithin table) (sym is) (within-append table _ _ (within-take table outer frame w) v)

  -- the work of its body
  pub direct_light : (table : List Arg) (node d outer : ℕ) (frame ns round : List ℕ) → UsesDefinition flat node d → round ≡ take outer frame ++ ns → load flat table ns ≤ load flat table frame + lower_cost_of flat node → load flat table round + body_cost flat (slice_get flat.definitions d) ≤ load flat table frame + 2 * lower_cost_of flat node + 4
  direct_light table node d outer frame ns round u is light =
      let f = weight flat table in
      let l = ap (heaviest f) is ∙ load-append f (take outer frame) ns in
      let t = load-take f outer frame in let c = (closure_cost flat node d u).0 in
      omega (arith, l, t, c, light)

  pub direct_met : {old new : List Arg} (d : ℕ) (x : Definition) (frame ns round : List ℕ) (k : Option Kind) → slice_get flat.definitions d ≡ Some x → AllWithin old frame → AllWithin old ns → round ≡ take x.outer frame ++ ns → Grows old new → k ≡ kind (text_of flat d (meanings flat new round)) → k ≡ use_kind_of flat [] d (meanings flat old frame) (meanings flat old ns)
  direct_met {old} {new} d x frame ns round k at_d w v round_is g is =
      let m = meaning flat old in
      let it : meanings flat new round ≡ take x.outer (meanings flat old frame) ++ meanings flat old ns =
      meanings_on flat g round (direct_within old x.outer frame ns round w v round_is)
      ∙ ap (map m) round_is ∙ map-append m (take x.outer frame) ns ∙ ap (λ y. y ++ map m ns) (map-take m x.outer frame) in
      is ∙ ap (λ s. kind (text_of flat d s)) it
      ∙ ap (λ o. kind (body (text flat) o (λ outer. take x.outer (meanings flat old frame) ++ meanings flat old ns))) at_d
      ∙ sym (ap (λ o. kind (body (text flat) o (λ outer. take outer (meanings flat old frame) ++ meanings flat old ns))) at_d)

  -- ---- a path on which nothing is put in

  free-instance : (outer parameters : ℕ) (guarded : Bool) (rs : List defined.Replacement) (s xs : List Item) → ((parameters == 0) && (length rs == 0)) ≡ true → through flat (text flat) (Some (record { outer = outer; parameters = parameters; guards = guarded; replacements = rs })) (start s xs) ≡ start [] xs
  free-instance outer zero true [] s xs h = refl
  free-instance outer zero false [] s xs h = refl
  free-instance outer zero guarded (r ∷ rs) s xs h = absurd (grind (arith, nat_tests))
  free-instance outer (suc n) guarded rs s xs h = let left = and-left (suc n == 0) (length rs == 0) h in absurd (grind (arith, nat_tests))

  free-through : (o : Option defined.Instance) (s xs : List Item) → puts_nothing_in o ≡ true → through flat (text flat) o (start s xs) ≡ start [] xs
  free-through None s xs h = let none : false ≡ true = h in cc
  free-through (Some j) s xs h = free-instance j.outer j.parameters j.guards j.replacements s xs h

  free-on : (path : List ℕ) (xs : List Item) → list_all (λ j. puts_nothing_in (slice_get flat.instances j)) path ≡ true → along_path flat (text flat) path (start [] xs) ≡ start [] xs
  free-on [] xs h = refl
  free-on (j ∷ path) xs h =
      ap (along_path flat (text flat) path) (free-through (slice_get flat.instances j) [] xs (and-left _ _ h))
      ∙ free-on path xs (and-right (puts_nothing_in (slice_get flat.instances j)) _ h)

  -- it leads away from what stands round the use
  free-path : (path : List ℕ) (s xs : List Item) → (length path == 0) ≡ false → list_all (λ j. puts_nothing_in (slice_get flat.instances j)) path ≡ true → along_path flat (text flat) path (start s xs) ≡ start [] xs
  free-path [] s xs some h = absurd (grind (arith, nat_tests))
  free-path (j ∷ path) s xs some h =
      ap (along_path flat (text flat) path) (free-through (slice_get flat.instances j) s xs (and-left _ _ h))
      ∙ free-on path xs (and-right (puts_nothing_in (slice_get flat.instances j)) _ h)

  pub free_light : (table : List Arg) (node d : ℕ) (frame ns : List ℕ) → UsesDefinition flat node d → load flat table ns ≤ load flat table frame + lower_cost_of flat node → load flat table ns + body_cost flat (slice_get flat.definitions d) ≤ load flat table frame + 2 * lower_cost_of flat node + 4
  free_light table node d frame ns u light = let c = (closure_cost flat node d u).0 in omega (arith, c, light)

  pub free_met : {old new : List Arg} (path : List ℕ) (d : ℕ) (x : Definition) (frame ns : List ℕ) (k : Option Kind) → slice_get flat.definitions d ≡ Some x → AllWithin old ns → (length path == 0) ≡ false → list_all (λ j. puts_nothing_in (slice_get flat.instances j)) path ≡ true → Grows old new → k ≡ kind (text_of flat d (meanings flat new ns)) → k ≡ use_kind_of flat path d (meanings flat old frame) (meanings flat old ns)
  free_met {old} {new} path d x frame ns k at_d w some free g is =
      direct_met d x [] ns ns k at_d tt w (take-none x.outer ns) g is
      ∙ sym (ap (λ r. kind (applied_to_rest flat (text flat) r d)) (free-path path (meanings flat old frame) (meanings flat old ns) some free))
