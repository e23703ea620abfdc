-- Modules so far with one more.
use Rattle.std.proofs.Common.{◌≡◌, ◌<◌, ◌≤◌, ℕ, Bool, true, false, List, [], ◌∷◌, ◌++◌, Option, Some, None, refl, sym, ap, subst, ◌∙◌, cond, arith, length, get_or, take}
use Rattle.std.specs.Prelude.{IfSome}
use Rattle.std.specs.Str.{bytes_eq}
use Rattle.list_laws.proofs.Texts.{same-text, texts-apart}
use Rattle.family_facts.specs.Facts.{texts_of}
use Rattle.family_facts.specs.Family.{AreMembersDistinct, Member, is_there}
use Rattle.family_facts.proofs.Needing.{HasNoOther}
use Rattle.family_tables.specs.Agreement.{AreAgreed}
use Rattle.family_tables.specs.Modules.{AreModules, Entry}
use Rattle.family_tables.specs.Plans.{IsPlan}
use Rattle.family_tables.specs.Tables.{entry_of, names_in}
use Rattle.family_tables.specs.declared.order.Plan.{Plan}
use Rattle.family_tables.specs.declared.outcome.Outcome.{Outcome}
use Rattle.family_tables.proofs.Bridging.{all-needs, own-needs}
use Rattle.family_tables.proofs.Ordered.{before-here, found-more}
use Rattle.family_tables.proofs.Tabling.{entry-append}
use Rattle.alike_modules.specs.Known.{AreSymbolsPlain}
use Rattle.alike_modules.specs.Known.{IsForeignTo, IsKnownFile, no_knowledge}
use Rattle.leveled_facts.specs.Families.{declares, leveled}
use Rattle.leveled_modules.specs.Leveled.{LevelTables}
use Rattle.family_levels.specs.declared.«module».Found.{Found}
use Rattle.family_levels.specs.Leveling.{AreLeveled, AreNumbers, HasNumber, IsNext, IsReady, KeepsFaces, Says, face_count, faces_of, with_item}

-- the item of a name behind one more
pub items-append : {T : Type 0} (items : List (List ℕ × T)) (name : List ℕ) (item : Option T) → entry_of items name ≡ None → (other : List ℕ) → entry_of (with_item items name item) other ≡ cond (bytes_eq other name) item (entry_of items other)
items-append items name None none other = by (bytes_eq other name) refl
  where
    by : (b : Bool) → bytes_eq other name ≡ b → entry_of items other ≡ cond b None (entry_of items other)
    by true same = ap (entry_of items) (same-text other name same) ∙ none
    by false apart = refl
items-append items name (Some item) none other = entry-append items other name item none

-- no face is there yet
pub agreed-none : AreAgreed []
agreed-none = record {
  named = λ name face found. absurd (cc found);
  whole = λ name face found. absurd (cc found);
  agree = λ name other first second found there. absurd (cc found);
  declared = λ name face decl entries found at. absurd (cc found);
}

-- no module is there yet
pub leveled-none : (family : List Member) (known : LevelTables) → AreSymbolsPlain (declares (texts_of family)) no_knowledge.depths → AreLeveled family [] [] known
leveled-none family known plain = record {
  there = λ name outcome at. cc;
  says = λ name outcome at. absurd (cc at);
  numbered = λ name outcome at. absurd (cc at);
  only = λ name at. refl;
  knowledge = no_knowledge;
  plain = plain;
  files = λ name number at. absurd (cc at);
  foreign = λ title name number later at. absurd (cc at);
}

module _ (family : List Member) (outcomes more : List (List ℕ × Outcome)) (numbers others : List (List ℕ × ℕ)) (old new : LevelTables) (name : List ℕ) (found : Found) (fresh : entry_of outcomes name ≡ None) (was : AreLeveled family outcomes numbers old) (next : IsNext family outcomes numbers name new found)
    (grown : more ≡ outcomes ++ (name, found.outcome) ∷ []) (numbered : others ≡ with_item numbers name found.number) where
  outcome-at : (other : List ℕ) → entry_of more other ≡ cond (bytes_eq other name) (Some found.outcome) (entry_of outcomes other)
  outcome-at other = ap (λ z. entry_of z other) grown ∙ entry-append outcomes other name found.outcome fresh

  number-at : (other : List ℕ) → entry_of others other ≡ cond (bytes_eq other name) found.number (entry_of numbers other)
  number-at other = ap (λ z. entry_of z other) numbered ∙ items-append numbers name found.number (was.only name fresh) other

  some-outcome : (o p : Outcome) → ◌≡◌ {A = Option Outcome} (Some o) (Some p) → o ≡ p
  some-outcome o p same = cc

  more-numbered : (other : List ℕ) (outcome : Outcome) → entry_of more other ≡ Some outcome → HasNumber outcome (entry_of others other)
  more-numbered other outcome at = by (bytes_eq other name) refl (sym (outcome-at other) ∙ at)
    where
      by : (b : Bool) → bytes_eq other name ≡ b → cond (bytes_eq other name) (Some found.outcome) (entry_of outcomes other) ≡ Some outcome → HasNumber outcome (entry_of others other)
      by true same is =
          subst (HasNumber outcome) (sym (number-at other ∙ ap (λ b. cond b found.number (entry_of numbers other)) same))
          (subst (λ o. HasNumber o found.number) (some-outcome found.outcome outcome (sym (ap (λ b. cond b (Some found.outcome) (entry_of outcomes other)) same) ∙ is)) next.numbered)
      by false apart is =
          subst (HasNumber outcome) (sym (number-at other ∙ ap (λ b. cond b found.number (entry_of numbers other)) apart))
          (was.numbered other outcome (sym (ap (λ b. cond b (Some found.outcome) (entry_of outcomes other)) apart) ∙ is))

  -- a name without an outcome had none, and is not this one
  record IsLater (title : List ℕ) : Type 0 where
    apart : bytes_eq title name ≡ false
    later : entry_of outcomes title ≡ None

  is-later : (title : List ℕ) → entry_of more title ≡ None → IsLater title
  is-later title none = by (bytes_eq title name) refl (sym (outcome-at title) ∙ none)
    where
      by : (b : Bool) → bytes_eq title name ≡ b → cond (bytes_eq title name) (Some found.outcome) (entry_of outcomes title) ≡ None → IsLater title
      by true same is = let never : Some found.outcome ≡ None = sym (ap (λ b. cond b (Some found.outcome) (entry_of outcomes title)) same) ∙ is in cc
      by false apart is = record { apart = apart; later = sym (ap (λ b. cond b (Some found.outcome) (entry_of outcomes title)) apart) ∙ is }

  more-only : (other : List ℕ) → entry_of more other ≡ None → entry_of others other ≡ None
  more-only other none =
      let is = is-later other none in
      number-at other ∙ (ap (λ b. cond b found.number (entry_of numbers other)) is.apart ∙ was.only other is.later)

  -- what is so of modules with numbers is so of one more
  more-files : (P : List ℕ → ℕ → Type 0) → ((number : ℕ) → found.number ≡ Some number → P name number) → ((other : List ℕ) (number : ℕ) → entry_of numbers other ≡ Some number → P other number) → (other : List ℕ) (number : ℕ) → entry_of others other ≡ Some number → P other number
  more-files P itself before other number at = by (bytes_eq other name) refl (sym (number-at other) ∙ at)
    where
      by : (b : Bool) → bytes_eq other name ≡ b → cond (bytes_eq other name) found.number (entry_of numbers other) ≡ Some number → P other number
      by true same is = subst (λ n. P n number) (sym (same-text other name same)) (itself number (sym (ap (λ b. cond b found.number (entry_of numbers other)) same) ∙ is))
      by false apart is = before other number (sym (ap (λ b. cond b found.number (entry_of numbers other)) apart) ∙ is)

  pub leveled-more : AreLeveled family more others new
  leveled-more = record {
    there = found-more (λ other o. is_there family other ≡ true) outcomes more name found.outcome fresh grown next.there was.there;
    says = found-more (λ other o. Says (texts_of family) other o) outcomes more name found.outcome fresh grown next.says was.says;
    numbered = more-numbered;
    only = more-only;
    knowledge = next.knowledge;
    plain = next.plain;
    files = more-files (λ other number. IsKnownFile (declares (texts_of family)) new.tables.state.flat next.knowledge (faces_of new number) (leveled (texts_of family) other).outside) next.itself next.others;
    foreign = λ title other number none at.
        let is = is-later title none in
        more-files (λ o n. IsForeignTo title (leveled (texts_of family) o).outside) (λ n there. next.foreign title n is.later (texts-apart title name is.apart) there) (λ o n there. was.foreign title o n is.later there) other number at;
  }

-- numbers are those of faces
pub numbers-more : (outcomes : List (List ℕ × Outcome)) (numbers others : List (List ℕ × ℕ)) (old new : LevelTables) (name : List ℕ) (number : Option ℕ) → entry_of numbers name ≡ None → others ≡ with_item numbers name number → AreNumbers old numbers → KeepsFaces old new → IfSome number (λ n. n < face_count new) → AreNumbers new others
numbers-more outcomes numbers others old new name number none grown are keeps below other n at = by (bytes_eq other name) refl (sym (ap (λ z. entry_of z other) grown ∙ items-append numbers name number none other) ∙ at)
  where
    of : (some : Option ℕ) → IfSome some (λ k. k < face_count new) → some ≡ Some n → n < face_count new
    of None below is = absurd (cc is)
    of (Some k) below is = let same : k ≡ n = cc in subst (λ z. z < face_count new) same below

    by : (b : Bool) → bytes_eq other name ≡ b → cond (bytes_eq other name) number (entry_of numbers other) ≡ Some n → n < face_count new
    by true same is = of number below (sym (ap (λ b. cond b number (entry_of numbers other)) same) ∙ is)
    by false apart is =
        let less : n < face_count old = are other n (sym (ap (λ b. cond b number (entry_of numbers other)) apart) ∙ is) in
        let kept : face_count old ≤ face_count new = keeps.count in
        omega (arith, less, kept)

-- a module is ready behind those before it in a plan
pub ready-here : (modules : List Entry) (plan : Plan) (planned : IsPlan modules plan) (i : ℕ) (d name : List ℕ) (l : i < length plan.order) (is : name ≡ get_or plan.order i d) → HasNoOther → (family : List Member) → AreMembersDistinct family → AreModules family modules
    → (outcomes : List (List ℕ × Outcome)) → names_in outcomes ≡ take i plan.order → (numbers : List (List ℕ × ℕ)) (known : LevelTables) → AreLeveled family outcomes numbers known → IsReady family plan outcomes numbers known name
ready-here modules plan planned i d name l is one family distinct are outcomes names numbers known so = record {
  distinct = distinct;
  entries = modules;
  planned = planned;
  own = own-needs one family modules are;
  all = all-needs one family modules are;
  before = before-here modules plan planned i d name l is one family are outcomes names;
  leveled_so = so;
}
