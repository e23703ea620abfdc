-- Where instances lead by faces.
use Rattle.std.proofs.Common.{◌≡◌, Bool, true, false, cond, List, [], ◌∷◌, Option, Some, None, refl, ap, sym, ◌∙◌, unwrap_or}
use Rattle.std.specs.Borrow.{Bor}
use mathlib.Core.Path.{fun_ext}
use Rattle.tla_model.specs.declared.names.Meaning.TheVariants.{BuiltIn, Declared}
use Rattle.tla_model.specs.Entities.{Meaning}
use Rattle.tla_model.specs.EntityKinds.{is_instance}
use Rattle.tla_model.specs.Tables.{Named, Table}
use Rattle.module_model.specs.declared.face.Face.{Face}
use Rattle.module_model.specs.Exports.{Instances, Path, behind_instance, behind_along, entry_of, exports_of, face_exports, face_instances, found_behind, instances_in, onward, standing}
use Rattle.module_model.specs.Parts.{ByText, reached}
use Rattle.tree_tasks.specs.declared.held.Held.{Held}
use Rattle.tree_tasks.specs.declared.held.Held.TheVariants.{Nowhere, Imported, Reached, Nested}
use Rattle.instance_leads.specs.declared.ended.Ended.{Ended}
use Rattle.instance_leads.specs.declared.named.NamedModule.TheVariants as named
use Rattle.instance_leads.specs.Found.{IsLedBy, led_by, module_shown, table_on}
use Rattle.instance_leads.specs.Leading.{behind_at}

-- from no entries no path leads on
pub along-nothing : (instances : Instances) (path : Path) → behind_along instances [] path ≡ []
along-nothing instances [] = refl
along-nothing instances (name ∷ path) = along-nothing instances path

pub led-along : (nested : List Ended) (face : Face) (found : Option (Table Meaning)) (held : Held) (path : Path) → IsLedBy face found held → behind_at nested held path ≡ behind_along (face_instances face) (unwrap_or (standing found) []) path
led-along nested face None Nowhere path led = sym (along-nothing (face_instances face) path)
led-along nested face None (Imported of) path led = absurd led
led-along nested face None (Reached of exports) path led = absurd led
led-along nested face None (Nested number) path led = absurd led
led-along nested face (Some table) Nowhere path led = absurd led
led-along nested face (Some table) (Imported of) path led = absurd led
led-along nested face (Some table) (Reached of exports) path led = (λ i. behind_along (face_instances (led.0 i)) (exports_of (led.1 i)) path)
led-along nested face (Some table) (Nested number) path led = absurd led

found-on : (parts : ByText) (meaning : Option Meaning) → unwrap_or (standing (table_on parts meaning)) [] ≡ found_behind (instances_in parts) meaning
found-on parts None = refl
found-on parts (Some BuiltIn) = refl
found-on parts (Some (Declared entity callee)) = by (is_instance entity)
  where
    by : (b : Bool) → unwrap_or (standing (cond b (reached parts callee.decl) None)) [] ≡ cond b (unwrap_or (instances_in parts callee.decl) []) []
    by true = refl
    by false = refl

-- a name of entries leads on by the instances of the face
pub led-on : (nested : List Ended) (face : Face) (meaning : Option Meaning) (held : Held) (path : Path) → IsLedBy face (table_on face.parts meaning) held → behind_at nested held path ≡ behind_along (face_instances face) (found_behind (face_instances face) meaning) path
led-on nested face meaning held path led =
    led-along nested face (table_on face.parts meaning) held path led ∙ ap (λ z. behind_along (face_instances face) z path) (found-on face.parts meaning)

-- an instance of a module leads to what stands behind it
pub behind-named : (nested : List Ended) (named : named.the_data) → behind_at nested (led_by named) ≡ behind_instance (module_shown nested named)
behind-named nested named.Missing = fun_ext none
  where
    none : (path : Path) → behind_at nested Nowhere path ≡ behind_instance (module_shown nested named.Missing) path
    none [] = refl
    none (name ∷ path) = refl
behind-named nested (named.Imported face) = fun_ext at
  where
    at : (path : Path) → behind_at nested (Imported face) path ≡ behind_instance (module_shown nested (named.Imported face)) path
    at [] = refl
    at (name ∷ path) = refl
behind-named nested (named.Nested number) = fun_ext at
  where
    at : (path : Path) → behind_at nested (Nested number) path ≡ behind_instance (module_shown nested (named.Nested number)) path
    at [] = refl
    at (name ∷ path) = refl

-- a name further along a path behind an instance of an imported module
pub onward-face : (nested : List Ended) (face : Bor Face) (found : Option Meaning) (name : Named) (at led : Held) → IsLedBy face.now (table_on face.now.parts found) led → found ≡ entry_of (face_exports face.now) name → at ≡ Imported face → behind_at nested led ≡ onward (behind_at nested at) name
onward-face nested face found name at led leads is here =
    fun_ext (λ path. led-on nested face.now found led path leads ∙ ap (λ z. behind_along (face_instances face.now) (found_behind (face_instances face.now) z) path) is)
    ∙ ap (λ z. onward (behind_at nested z) name) (sym here)

-- and behind an instance that its exports reach
pub onward-reached : (nested : List Ended) (face : Bor Face) (exports : Bor (Table Meaning)) (found : Option Meaning) (name : Named) (at led : Held) → IsLedBy face.now (table_on face.now.parts found) led → found ≡ entry_of (exports_of exports.now) name → at ≡ Reached face exports → behind_at nested led ≡ onward (behind_at nested at) name
onward-reached nested face exports found name at led leads is here =
    fun_ext (λ path. led-on nested face.now found led path leads ∙ ap (λ z. behind_along (face_instances face.now) (found_behind (face_instances face.now) z) path) is)
    ∙ ap (λ z. onward (behind_at nested z) name) (sym here)
