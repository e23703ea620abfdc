-- The forms that are parts of expressions and no expressions themselves.
use Rattle.std.specs.Prelude.{Bool, true, false}
use Rattle.tla_tree.specs.declared.form.Form.{Form}

-- whether a form is a helper form
abbrev pub helps : Form → Bool
helps (Form.Segment name) = true
helps (Form.Name name) = true
helps Form.Names = true
helps Form.TupleNames = true
helps Form.Bound = true
helps Form.TupleBound = true
helps Form.Bounds = true
helps (Form.Field name) = true
helps Form.Update = true
helps (Form.FieldStep name) = true
helps Form.IndexStep = true
helps Form.Arm = true
helps Form.OtherArm = true
helps (Form.OperatorDefinition name) = true
helps (Form.PrefixDefinition symbol) = true
helps (Form.InfixDefinition symbol) = true
helps (Form.PostfixDefinition symbol) = true
helps (Form.FunctionDefinition name) = true
helps (Form.ModuleDefinition name) = true
helps (Form.Instance name) = true
helps (Form.Replacement left) = true
helps (Form.OperatorParameter name places) = true
helps (Form.PrefixParameter symbol) = true
helps (Form.InfixParameter symbol) = true
helps (Form.PostfixParameter symbol) = true
helps _ = false
