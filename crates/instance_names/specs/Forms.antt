-- What a form gives, by itself.
use Rattle.std.specs.Prelude.{ℕ, Bool, true, false, List, [], ◌∷◌, Option, Some, None}
use Rattle.tla_symbols.specs.declared.lexeme.Lexeme.{Lexeme}
use Rattle.tla_tree.specs.declared.form.Form.TheVariants as Form
use Rattle.tla_tree.specs.Syntax.{Trees}

-- a name, with the path that leads to it
abbrev pub is_identifier : Form.the_data → Bool
is_identifier Form.Identifier = true
is_identifier _ = false

-- where a segment begins
abbrev pub segment_start : Form.the_data → List ℕ
segment_start (Form.Segment l) = l.span.start ∷ []
segment_start _ = []

-- the module name behind INSTANCE
abbrev pub module_in : Form.the_data → Option Lexeme
module_in (Form.Instance l) = Some l
module_in _ = None

-- the name of an instance that is defined
abbrev pub defined_in : Form.the_data → Option Lexeme
defined_in (Form.ModuleDefinition l) = Some l
defined_in _ = None

-- where the module name behind INSTANCE begins
abbrev pub word_start : Form.the_data → List ℕ
word_start (Form.Instance l) = l.span.start ∷ []
word_start _ = []

-- the same of a form with its parts
abbrev pub word_at : Form.the_data → Trees → List ℕ
word_at form parts = word_start form
