-- Declarations, units and meanings that are the same are equal, and each is the same as itself.
use Rattle.std.proofs.Common.{◌≡◌, true, List, [], ◌∷◌, refl, sym, ap, ◌∙◌}
use Rattle.std.specs.Prelude.{◌&&◌, nat_eq}
use Rattle.std.specs.Str.{bytes_eq}
use Rattle.std.proofs.lemmas.Bool.{and_from, and_parts, eq-eqb}
use Rattle.std.proofs.lemmas.Bool.Decides.{Decides-eqb}
use Rattle.list_laws.proofs.Texts.{same-text, text-itself}
use Rattle.tla_model.specs.declared.names.Meaning.TheVariants.{BuiltIn, Declared}
use Rattle.tla_model.specs.declared.ids.Callee.{Callee}
use Rattle.tla_model.specs.declared.ids.DeclId.{DeclId}
use Rattle.tla_model.specs.declared.ids.UnitId.{UnitId}
use Rattle.tla_model.specs.Entities.{Meaning, same_decl, same_meaning, same_units}

-- ---- what is the same is equal

pub decl-equal : (a b : DeclId) → same_decl a b ≡ true → a ≡ b
decl-equal a b same =
    let parts = and_parts (bytes_eq a.«module» b.«module») (nat_eq a.place b.place) same in
    let names = same-text a.«module» b.«module» parts.0 in
    let places : a.place ≡ b.place = (Decides-eqb a.place b.place).0 parts.1 in
    λ i. record { «module» = names i; place = places i }

unit-equal : (a b : UnitId) → (bytes_eq a.«module» b.«module» && nat_eq a.place b.place) ≡ true → a ≡ b
unit-equal a b same =
    let parts = and_parts (bytes_eq a.«module» b.«module») (nat_eq a.place b.place) same in
    let names = same-text a.«module» b.«module» parts.0 in
    let places : a.place ≡ b.place = (Decides-eqb a.place b.place).0 parts.1 in
    λ i. record { «module» = names i; place = places i }

pub units-equal : (a b : List UnitId) → same_units a b ≡ true → a ≡ b
units-equal [] [] same = refl
units-equal [] (y ∷ b) same = cc
units-equal (x ∷ a) [] same = cc
units-equal (x ∷ a) (y ∷ b) same =
    let parts = and_parts (bytes_eq x.«module» y.«module» && nat_eq x.place y.place) (same_units a b) same in
    let first = unit-equal x y parts.0 in
    let rest = units-equal a b parts.1 in
    λ i. first i ∷ rest i

pub callee-equal : (a b : Callee) → a.instance ≡ b.instance → same_decl a.decl b.decl ≡ true → same_units a.via b.via ≡ true → a ≡ b
callee-equal a b instances decls units =
    let decl = decl-equal a.decl b.decl decls in
    let via = units-equal a.via b.via units in
    λ i. record { instance = instances i; decl = decl i; via = via i }

-- ---- what is equal is the same

pub decl-itself : (a : DeclId) → same_decl a a ≡ true
decl-itself a = and_from (bytes_eq a.«module» a.«module») (nat_eq a.place a.place) (text-itself a.«module» a.«module» refl) (eq-eqb a.place a.place refl)

pub units-itself : (a : List UnitId) → same_units a a ≡ true
units-itself [] = refl
units-itself (x ∷ a) =
    and_from (bytes_eq x.«module» x.«module» && nat_eq x.place x.place) (same_units a a)
    (and_from (bytes_eq x.«module» x.«module») (nat_eq x.place x.place) (text-itself x.«module» x.«module» refl) (eq-eqb x.place x.place refl)) (units-itself a)

pub meaning-itself : (meaning : Meaning) → same_meaning meaning meaning ≡ true
meaning-itself BuiltIn = refl
meaning-itself (Declared entity callee) = and_from (same_decl callee.decl callee.decl) (same_units callee.via callee.via) (decl-itself callee.decl) (units-itself callee.via)

-- ---- what is the same as one is the same as the other

pub same-alike : (a b c : Meaning) → same_meaning a b ≡ true → same_meaning a c ≡ same_meaning b c
same-alike BuiltIn BuiltIn c same = refl
same-alike BuiltIn (Declared f y) c same = cc
same-alike (Declared e x) BuiltIn c same = cc
same-alike (Declared e x) (Declared f y) BuiltIn same = refl
same-alike (Declared e x) (Declared f y) (Declared g z) same =
    let parts = and_parts (same_decl x.decl y.decl) (same_units x.via y.via) same in
    ap (λ d. same_decl d z.decl && same_units x.via z.via) (decl-equal x.decl y.decl parts.0)
    ∙ ap (λ via. same_decl y.decl z.decl && same_units via z.via) (units-equal x.via y.via parts.1)

pub same-turned : (a b : Meaning) → same_meaning a b ≡ true → same_meaning b a ≡ true
same-turned a b same = sym (same-alike a b a same) ∙ meaning-itself a
