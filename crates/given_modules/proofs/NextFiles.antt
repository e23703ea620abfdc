-- Files are good to the next module, with the one that is given.
use Rattle.std.proofs.Common.{ℕ, Bool, true, false, cond, List}
use Rattle.std.specs.Str.{bytes_eq}
use Rattle.module_model.specs.Exports.{Known, ModuleView}
use Rattle.kind_text.specs.FlatModule.{Extends, FlatModule, IsOrdered}
use Rattle.tree_kinds.specs.Standing.{Outside}
use Rattle.flat_kinds.specs.Declarations.{Declarations}
use Rattle.flattened_trees.specs.Leads.{FlatFace}
use Rattle.accepted_modules.specs.Behind.{Behinds, IsForeignView, IsGivenView, with_own}
use Rattle.given_modules.specs.Good.{AreGoodFiles, IsGoodFile, with_file}
use Rattle.given_modules.proofs.GoodModules.{file-grows}

-- a good file stays so with what is known of another module
pub file-others : (flat : FlatModule) (declares : Declarations) (behinds more : Behinds) (face : FlatFace) (outside : Outside) → IsGivenView declares more outside.view → IsGoodFile flat declares behinds face outside → IsGoodFile flat declares more face outside
file-others flat declares behinds more face outside given is = record {
  comes = is.comes;
  given = given;
  reads = is.reads;
  there = is.there;
  named = is.named;
  extended = is.extended;
}

pub next-files : (flat more : FlatModule) (declares : Declarations) (behinds : Behinds) (title next : List ℕ) (known : Known) (files : List ℕ → FlatFace) (outsides : List ℕ → Outside) (face : FlatFace) (outside : Outside) → Extends flat more → IsOrdered flat
    → ((view : ModuleView) → IsGivenView declares behinds view → IsForeignView title view → IsGivenView declares (with_own title known behinds) view) → AreGoodFiles flat declares behinds title files outsides → ((name : List ℕ) → IsForeignView next (outsides name).view)
    → IsGoodFile more declares (with_own title known behinds) face outside → IsForeignView next outside.view → AreGoodFiles more declares (with_own title known behinds) next (with_file title face files) (with_file title outside outsides)
next-files flat more declares behinds title next known files outsides face outside extends ordered others good foreign itself itself-foreign = record {
  each = λ name. each name (bytes_eq name title);
  foreign = λ name. apart name (bytes_eq name title);
}
  where
    each : (name : List ℕ) (b : Bool) → IsGoodFile more declares (with_own title known behinds) (cond b face (files name)) (cond b outside (outsides name))
    each name true = itself
    each name false =
        file-others more declares behinds (with_own title known behinds) (files name) (outsides name) (others (outsides name).view (good.each name).given (good.foreign name)) (file-grows flat more extends ordered declares behinds (files name) (outsides name) (good.each name))

    apart : (name : List ℕ) (b : Bool) → IsForeignView next (cond b outside (outsides name)).view
    apart name true = itself-foreign
    apart name false = foreign name
