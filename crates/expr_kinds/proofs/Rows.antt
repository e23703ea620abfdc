-- Rows of tables, from what the calls on the way to them answered.
use Rattle.std.proofs.Common.{◌≡◌, Bool, true, false, ap, sym, ◌∙◌}
use Rattle.std.specs.Prelude.{cond}
use Rattle.tla_symbols.specs.declared.lexeme.LexKind.{LexKind}
use Rattle.tla_tree.specs.declared.form.Form.{Form}
use Rattle.expr_grammar.specs.declared.wait.PartMove.{PartMove}
use Rattle.expr_grammar.specs.declared.wait.Wait.{Wait}
use Rattle.expr_grammar.specs.Tables.{parted, after_bound}

-- the row of a table at a known value
pub row : {W A : Type 0} {w v : W} {r : A} (f : W → A) → w ≡ v → r ≡ f v → r ≡ f w
row f is r = r ∙ ap f (sym is)

-- the answer of a call that was given a test and what to do where it holds
pub tested : {A : Type 0} {test told : Bool} {r m x : A} (none : A) → r ≡ cond test m none → test ≡ told → m ≡ x → r ≡ cond told x none
tested {told = told} {m = m} none r tests moves = r ∙ (ap (λ b. cond b m none) tests ∙ ap (λ m. cond told m none) moves)

-- a test that holds, and one that does not
pub taken : {A : Type 0} {test told : Bool} {r : A} (x y : A) → test ≡ told → test ≡ true → r ≡ x → r ≡ cond told x y
taken x y is holds r = r ∙ sym (ap (λ b. cond b x y) (sym is ∙ holds))

pub passed : {A : Type 0} {test told : Bool} {r : A} (x y : A) → test ≡ told → test ≡ false → r ≡ y → r ≡ cond told x y
passed x y is fails r = r ∙ sym (ap (λ b. cond b x y) (sym is ∙ fails))

-- the same for parts that go on after a comma
pub closed : {closes told : Bool} {r : PartMove} (k : LexKind) (w : Wait) (form : Form) → r ≡ parted k w closes form → closes ≡ told → r ≡ parted k w told form
closed k w form r closes = r ∙ ap (λ b. parted k w b form) closes

pub bounded : {closes told : Bool} {r m x : PartMove} (k : LexKind) (w : Wait) → r ≡ after_bound w closes m k → closes ≡ told → m ≡ x → r ≡ after_bound w told x k
bounded {told = told} {m = m} k w r closes moves = r ∙ (ap (λ b. after_bound w b m k) closes ∙ ap (λ m. after_bound w told m k) moves)
