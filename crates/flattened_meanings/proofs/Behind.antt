-- What is known behind a definition, and at the beginning of a tree.
use Rattle.std.proofs.Common.{◌≡◌, inl, inr, ℕ, Bool, true, false, cond, List, [], ◌∷◌, ◌++◌, Some, map, refl, sym, ap, ◌∙◌, subst, arith}
use Rattle.std.specs.Prelude.{◌⊎◌, not}
use Rattle.std.specs.List.{AllByRecursion}
use Rattle.tla_symbols.specs.declared.lexeme.Span.{Span}
use Rattle.tla_tree.specs.declared.form.Form.TheVariants as Form
use Rattle.tla_tree.specs.Syntax.{Tree, Trees, Node}
use Rattle.tla_model.specs.declared.names.Binder.{Binder}
use Rattle.tla_model.specs.declared.names.Binding.TheVariants as as_binding
use Rattle.tla_model.specs.Tables.{Named}
use Rattle.tla_model.specs.Entities.{Meaning, Text, declared_in, defined, meant, same_meaning, within}
use Rattle.tla_model.specs.Contexts.{meaning_of}
use Rattle.tla_model.specs.Same.{meaning-itself}
use Rattle.module_model.specs.Exports.{Known, behind_meaning}
use Rattle.kind_text.specs.FlatModule.{FlatModule}
use Rattle.tree_kinds.specs.Standing.{Outside, is_bound}
use Rattle.flat_trees.specs.Stands.{Stand}
use Rattle.flat_trees.specs.Layouts.{Layout, layout_behind}
use Rattle.flat_trees.proofs.BoundNames.{definition-free, stands-left}
use Rattle.flattened_trees.specs.Leads.{FlatFace, Lead, Setting, behind}
use Rattle.flattened_trees.specs.Agreeing.{AreNew, IsSeen, IsSettingOf, IsUnsaid, KeepsOrders, TakesAs, is_seen, lead_by, unsaid_stand}
use Rattle.flattened_meanings.specs.Faces.{AreFacesOf, IsFaceOf, StandsAs}
use Rattle.flattened_meanings.specs.Rounds.{IsKnownRound}
use Rattle.flattened_meanings.proofs.Fresh.{Fresh, IsOneOf, fresh-less, mark, new-fresh, new-times, others-none, seen-other, times, tree-any}
use Rattle.flattened_meanings.proofs.Rounds.{Knows, bind-all-gives, leads-with, stands-in, stands-other}

-- ---- names that are seen

one-among : (text : Text) (names : List Binder) (seen : List Meaning) (m : Meaning) → IsOneOf text names m → is_seen (map (meant text) names ++ seen) m ≡ true
one-among text [] seen m one = absurd one
one-among text (name ∷ rest) seen m (inl same) =
    ap (λ b. cond b true (is_seen (map (meant text) rest ++ seen) m)) (ap (λ n. same_meaning m n) (sym same) ∙ meaning-itself m)
one-among text (name ∷ rest) seen m (inr one) = by_sameness (same_meaning m (meant text name)) (one-among text rest seen m one)
  where
    by_sameness : (b : Bool) → is_seen (map (meant text) rest ++ seen) m ≡ true → cond b true (is_seen (map (meant text) rest ++ seen) m) ≡ true
    by_sameness true is = refl
    by_sameness false is = is

seen-behind : (names seen : List Meaning) (m : Meaning) → is_seen seen m ≡ true → is_seen (names ++ seen) m ≡ true
seen-behind [] seen m is = is
seen-behind (first ∷ names) seen m is = by_sameness (same_meaning m first) (seen-behind names seen m is)
  where
    by_sameness : (b : Bool) → is_seen (names ++ seen) m ≡ true → cond b true (is_seen (names ++ seen) m) ≡ true
    by_sameness true is = refl
    by_sameness false is = is

-- what holds of all names holds of one
pub all-one : (text : Text) (P : Meaning → Type 0) (names : List Binder) (m : Meaning) → AllByRecursion P (map (meant text) names) → IsOneOf text names m → P m
all-one text P [] m all one = absurd one
all-one text P (name ∷ rest) m all (inl same) = subst P (sym same) all.0
all-one text P (name ∷ rest) m all (inr one) = all-one text P rest m all.1 one

-- ---- behind a definition

module _ (text : Text) (layout : Layout) (form : Form.the_data) (s : Span) (parts : Trees) (stand : Stand) where
  -- what stands for names there
  abbrev next : Layout
  next = layout_behind text layout (Node form s parts) stand

  -- a name that was there before, or the one that is defined
  from-behind : (name : Named) (m : Meaning) → meaning_of next.context name ≡ Some m → (meaning_of layout.context name ≡ Some m) ⊎ IsOneOf text (defined form parts) m
  from-behind name m e = bind-all-gives text (defined form parts) layout.context name m e

  other-behind : (m : Meaning) → is_seen (map (meant text) (defined form parts)) m ≡ false → next.stands m ≡ layout.stands m
  other-behind m e = stands-other text (defined form parts) layout.stands stand m (others-none text (defined form parts) m e)

  pub settings-behind : (setting : Setting) (lead : List Named → Lead) → IsSettingOf layout setting → ((names : List Named) → lead names ≡ lead_by stand names) → IsSettingOf next (behind text setting (Node form s parts) lead)
  settings-behind setting lead settings leads =
      record {
        leads = leads-with (map (meant text) (defined form parts)) layout.stands setting.leads stand lead settings.leads leads;
        places = settings.places;
        olds = settings.olds;
      }

  pub orders-behind : (known : Known) (seen : List Meaning) → KeepsOrders known layout → IsSeen seen layout → AreNew seen (map (meant text) (defined form parts)) → AllByRecursion (λ m. TakesAs stand (behind_meaning known (Some m)) m) (map (meant text) (defined form parts)) → KeepsOrders known next
  orders-behind known seen orders names new takes name m e = by_behind (from-behind name m e)
    where
      by_behind : ((meaning_of layout.context name ≡ Some m) ⊎ IsOneOf text (defined form parts) m) → TakesAs (next.stands m) (behind_meaning known (Some m)) m
      by_behind (inl before) =
          let none : times text m (defined form parts) ≡ 0 =
          let l = new-times text seen (defined form parts) new m in let k : mark (is_seen seen m) ≡ 1 = ap mark (names name m before) in omega (arith, l, k) in
          subst (λ z. TakesAs z (behind_meaning known (Some m)) m) (sym (stands-other text (defined form parts) layout.stands stand m none)) (orders name m before)
      by_behind (inr one) =
          subst (λ z. TakesAs z (behind_meaning known (Some m)) m) (sym (stands-in text (defined form parts) layout.stands stand m one))
          (all-one text (λ n. TakesAs stand (behind_meaning known (Some n)) n) (defined form parts) m takes one)

  pub names-behind : (seen : List Meaning) → IsSeen seen layout → IsSeen (map (meant text) (defined form parts) ++ seen) next
  names-behind seen names name m e = by_behind (from-behind name m e)
    where
      by_behind : ((meaning_of layout.context name ≡ Some m) ⊎ IsOneOf text (defined form parts) m) → is_seen (map (meant text) (defined form parts) ++ seen) m ≡ true
      by_behind (inl before) = seen-behind (map (meant text) (defined form parts)) seen m (names name m before)
      by_behind (inr one) = one-among text (defined form parts) seen m one

  pub unsaid-behind : (y : Tree) → IsUnsaid text layout y → AreNew (map (meant text) (defined form parts)) (map (meant text) (within y)) → IsUnsaid text next y
  unsaid-behind y unsaid new m is =
      by_seen (is_seen (map (meant text) (defined form parts)) m) refl
    where
      by_seen : (b : Bool) → is_seen (map (meant text) (defined form parts)) m ≡ b → next.stands m ≡ unsaid_stand m
      by_seen true e = absurd (let never : not true ≡ true = ap not (sym is) ∙ seen-other text (map (meant text) (defined form parts)) (within y) m new e in cc)
      by_seen false e = other-behind m e ∙ unsaid m is

  pub faces-behind : (flat : FlatModule) (named : List ℕ → Outside) (faces : List ℕ → FlatFace) (nameable : List ℕ → Bool) (new less : Meaning → Bool) → AreFacesOf flat nameable new layout.stands faces named → ((m : Meaning) → is_seen (map (meant text) (defined form parts)) m ≡ true → new m ≡ true) → ((m : Meaning) → less m ≡ true → new m ≡ true) → AreFacesOf flat nameable less next.stands faces named
  faces-behind flat named faces nameable new less all own fewer name can =
      let face = all name can in
      record {
        base = face.base;
        inner = face.inner;
        leads = face.leads;
        kept = face.kept;
        takes = face.takes;
        apart = face.apart;
        symbols = λ m. by_seen face m (is_seen (map (meant text) (defined form parts)) m) refl;
        unsaid = λ m is free. face.unsaid m (fewer m is) free;
      }
    where
      by_seen : (face : IsFaceOf flat new layout.stands (faces name) (named name)) (m : Meaning) (b : Bool) → is_seen (map (meant text) (defined form parts)) m ≡ b → StandsAs (faces name).outer (face.base m) (next.stands m)
      by_seen face m true e = by_bound (is_bound m) refl
        where
          by_bound : (b : Bool) → is_bound m ≡ b → StandsAs (faces name).outer (face.base m) (next.stands m)
          by_bound true is =
              subst (λ z. StandsAs (faces name).outer (face.base m) z) (sym (stands-left m is (map (meant text) (defined form parts)) layout.stands stand (definition-free text form parts))) (face.symbols m)
          by_bound false free = subst (λ z. StandsAs (faces name).outer z (next.stands m)) (sym (face.unsaid m (own m e) free)) tt
      by_seen face m false e = subst (λ z. StandsAs (faces name).outer (face.base m) z) (sym (other-behind m e)) (face.symbols m)

-- ---- round a whole tree

module _ (flat : FlatModule) (text : Text) (known : Known) (named : List ℕ → Outside) (faces : List ℕ → FlatFace) (nameable : List ℕ → Bool) (layout : Layout) (setting : Setting) (seen : List Meaning) (x : Tree) (round : IsKnownRound flat text known named faces nameable layout setting seen x) where
  -- all names were seen but those of the tree
  abbrev pub seen-round : Meaning → Bool
  seen-round m = not (is_seen (map (meant text) (within x)) m)

  pub fresh-round : Fresh text seen-round (declared_in as_binding.Constant x)
  fresh-round =
      fresh-less text seen-round (within x) (declared_in as_binding.Constant x) (new-fresh text seen (within x) round.fresh)
      (λ m. let a = tree-any text m (as_binding.Bound false) x in omega (arith, a))

  twice : (b : Bool) → not (not b) ≡ b
  twice true = refl
  twice false = refl

  not-seen : (b : Bool) → not b ≡ false → b ≡ true
  not-seen true e = refl
  not-seen false e = cc

  pub known-round : Knows flat text known named faces nameable layout setting seen-round
  known-round =
      record {
        settings = round.settings;
        orders = round.orders;
        all_seen = record {
          context = λ name m e. seen-other text seen (within x) m round.fresh (round.names name m e);
          stands = λ m none. round.unsaid m (not-seen (is_seen (map (meant text) (within x)) m) none);
        };
        modules = λ name can.
            let face = round.modules name can in
            record {
              base = face.base;
              inner = face.inner;
              leads = face.leads;
              kept = face.kept;
              takes = face.takes;
              apart = face.apart;
              symbols = face.symbols;
              unsaid = λ m is free. face.unsaid m (sym (twice (is_seen (map (meant text) (within x)) m)) ∙ is) free;
            };
      }
