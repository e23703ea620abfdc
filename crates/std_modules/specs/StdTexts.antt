-- The texts of the built-in modules. All but RealTime define operators of which nothing is computed: the value of one
-- says which operator it is, and what its operands are.
use Rattle.std.specs.Prelude.{ℕ, List, [], ◌∷◌, ◌++◌, Option, Some, None, if◌then◌else◌, map, codes}
use Rattle.std.specs.Str.{bytes_eq}

-- an operator that a module defines: what stands before `==`, and the entries of the tuple that it has
abbrev pub Definition : Type 0
Definition = List ℕ × List ℕ

-- `Op(a) == CHOOSE n : n = <<"Op", a>>`
abbrev pub defined : Definition → List ℕ
defined definition = definition.0 ++ (codes " == CHOOSE n : n = <<" ++ (definition.1 ++ codes ">>"))

-- the line of EXTENDS, where a module is extended
abbrev pub extending : Option (List ℕ) → List (List ℕ)
extending None = []
extending (Some name) = (codes "EXTENDS " ++ name) ∷ []

-- each line ends with a line feed
abbrev pub text_of : List (List ℕ) → List ℕ
text_of [] = []
text_of (line ∷ lines) = line ++ 10 ∷ text_of lines

-- the module of this name that extends another, or none, and has these definitions
abbrev pub module_text : List ℕ → Option (List ℕ) → List Definition → List ℕ
module_text name extended definitions =
    text_of ((codes "---- MODULE " ++ (name ++ codes " ----")) ∷ (extending extended ++ (map defined definitions ++ codes "====" ∷ [])))

-- what Naturals defines: the numbers from 0 on, arithmetic, order and intervals
abbrev pub naturals_definitions : List Definition
naturals_definitions =
    (codes "Nat", codes "\"Nat\"") ∷
    (codes "a + b", codes "\"+\", a, b") ∷
    (codes "a - b", codes "\"-\", a, b") ∷
    (codes "a * b", codes "\"*\", a, b") ∷
    (codes "a ^ b", codes "\"^\", a, b") ∷
    (codes "a < b", codes "\"<\", a, b") ∷
    (codes "a > b", codes "\">\", a, b") ∷
    (codes "a =< b", codes "\"=<\", a, b") ∷
    (codes "a >= b", codes "\">=\", a, b") ∷
    (codes "a .. b", codes "\"..\", a, b") ∷
    (codes "a \\div b", codes "\"div\", a, b") ∷
    (codes "a % b", codes "\"%\", a, b") ∷
    []

-- the text of Naturals, which extends no module
unfoldable pub naturals : List ℕ
naturals = module_text (codes "Naturals") None naturals_definitions

-- what Integers adds to Naturals: all whole numbers, and the minus before its operand
abbrev pub integers_definitions : List Definition
integers_definitions =
    (codes "Int", codes "\"Int\"") ∷
    (codes "-. a", codes "\"neg\", a") ∷
    []

-- the text of Integers, which extends Naturals
unfoldable pub integers : List ℕ
integers = module_text (codes "Integers") (Some (codes "Naturals")) integers_definitions

-- what Reals adds to Integers: all real numbers, infinity and division
abbrev pub reals_definitions : List Definition
reals_definitions =
    (codes "Real", codes "\"Real\"") ∷
    (codes "Infinity", codes "\"Infinity\"") ∷
    (codes "a / b", codes "\"/\", a, b") ∷
    []

-- the text of Reals, which extends Integers
unfoldable pub reals : List ℕ
reals = module_text (codes "Reals") (Some (codes "Integers")) reals_definitions

-- what Sequences defines: finite sequences, their parts, and how they are put together
abbrev pub sequences_definitions : List Definition
sequences_definitions =
    (codes "Seq(S)", codes "\"Seq\", S") ∷
    (codes "Len(s)", codes "\"Len\", s") ∷
    (codes "s \\o t", codes "\"o\", s, t") ∷
    (codes "Append(s, e)", codes "\"Append\", s, e") ∷
    (codes "Head(s)", codes "\"Head\", s") ∷
    (codes "Tail(s)", codes "\"Tail\", s") ∷
    (codes "SubSeq(s, m, k)", codes "\"SubSeq\", s, m, k") ∷
    (codes "SelectSeq(s, Test(_))", codes "\"SelectSeq\", s, Test(s)") ∷
    []

-- the text of Sequences, which extends no module
unfoldable pub sequences : List ℕ
sequences = module_text (codes "Sequences") None sequences_definitions

-- what FiniteSets defines: which sets are finite, and how many elements they have
abbrev pub finite_sets_definitions : List Definition
finite_sets_definitions =
    (codes "IsFiniteSet(S)", codes "\"IsFiniteSet\", S") ∷
    (codes "Cardinality(S)", codes "\"Cardinality\", S") ∷
    []

-- the text of FiniteSets, which extends no module
unfoldable pub finite_sets : List ℕ
finite_sets = module_text (codes "FiniteSets") None finite_sets_definitions

-- what Bags defines: bags, which hold elements a number of times, and operators on them
abbrev pub bags_definitions : List Definition
bags_definitions =
    (codes "IsABag(B)", codes "\"IsABag\", B") ∷
    (codes "BagToSet(B)", codes "\"BagToSet\", B") ∷
    (codes "SetToBag(S)", codes "\"SetToBag\", S") ∷
    (codes "BagIn(e, B)", codes "\"BagIn\", e, B") ∷
    (codes "EmptyBag", codes "\"EmptyBag\"") ∷
    (codes "a (+) b", codes "\"plus\", a, b") ∷
    (codes "a (-) b", codes "\"minus\", a, b") ∷
    (codes "BagUnion(S)", codes "\"BagUnion\", S") ∷
    (codes "a \\sqsubseteq b", codes "\"sub\", a, b") ∷
    (codes "SubBag(B)", codes "\"SubBag\", B") ∷
    (codes "BagOfAll(F(_), B)", codes "\"BagOfAll\", F(B), B") ∷
    (codes "BagCardinality(B)", codes "\"BagCardinality\", B") ∷
    (codes "CopiesIn(e, B)", codes "\"CopiesIn\", e, B") ∷
    []

-- the text of Bags, which extends no module
unfoldable pub bags : List ℕ
bags = module_text (codes "Bags") None bags_definitions

-- what TLC defines: printing and assertions, functions by their points, and values that it computes
abbrev pub tlc_definitions : List Definition
tlc_definitions =
    (codes "Print(out, val)", codes "\"Print\", out, val") ∷
    (codes "Assert(val, out)", codes "\"Assert\", val, out") ∷
    (codes "JavaTime", codes "\"JavaTime\"") ∷
    (codes "d :> e", codes "\":>\", d, e") ∷
    (codes "f @@ g", codes "\"@@\", f, g") ∷
    (codes "Permutations(S)", codes "\"Permutations\", S") ∷
    (codes "SortSeq(s, Op(_, _))", codes "\"SortSeq\", s, Op(s, s)") ∷
    (codes "PrintT(out)", codes "\"PrintT\", out") ∷
    (codes "TLCGet(i)", codes "\"TLCGet\", i") ∷
    (codes "TLCSet(i, v)", codes "\"TLCSet\", i, v") ∷
    (codes "ToString(v)", codes "\"ToString\", v") ∷
    (codes "RandomElement(s)", codes "\"RandomElement\", s") ∷
    []

-- the text of TLC, which extends no module
unfoldable pub tlc : List ℕ
tlc = module_text (codes "TLC") None tlc_definitions

-- bounds on the time that passes before actions, and the passing of time itself
unfoldable pub real_time : List ℕ
real_time =
    text_of (
    codes "---- MODULE RealTime ----" ∷
    codes "EXTENDS Reals" ∷
    codes "VARIABLE now" ∷
    codes "RTBound(A, v, D, E) ==" ∷
    codes "  LET TNext(t) == t' = IF <<A>>_v \\/ ~(ENABLED <<A>>_v)'" ∷
    codes "                         THEN 0 ELSE t + (now' - now)" ∷
    codes "      Timer(t) == (t = 0) /\\ [][TNext(t)]_<<t, v, now>>" ∷
    codes "      MaxTime(t) == [](t =< E)" ∷
    codes "      MinTime(t) == [][A => t >= D]_v" ∷
    codes "  IN \\EE t : Timer(t) /\\ MaxTime(t) /\\ MinTime(t)" ∷
    codes "RTnow(v) ==" ∷
    codes "  LET NowNext == /\\ now' \\in {r \\in Real : r > now}" ∷
    codes "                 /\\ UNCHANGED v" ∷
    codes "  IN /\\ now \\in Real" ∷
    codes "     /\\ [][NowNext]_now" ∷
    codes "     /\\ \\A r \\in Real : WF_now(NowNext /\\ (now' > r))" ∷
    codes "====" ∷ [])

-- the built-in modules with their texts
unfoldable pub STD_MODULES : List (List ℕ × List ℕ)
STD_MODULES =
    (codes "Naturals", naturals) ∷
    (codes "Integers", integers) ∷
    (codes "Reals", reals) ∷
    (codes "Sequences", sequences) ∷
    (codes "FiniteSets", finite_sets) ∷
    (codes "Bags", bags) ∷
    (codes "RealTime", real_time) ∷
    (codes "TLC", tlc) ∷
    []

-- the names of the built-in modules
abbrev pub std_names : List (List ℕ)
std_names = codes "Naturals" ∷ codes "Integers" ∷ codes "Reals" ∷ codes "Sequences" ∷ codes "FiniteSets" ∷ codes "Bags" ∷ codes "RealTime" ∷ codes "TLC" ∷ []

-- the text of the first entry with a name
abbrev pub text_in : {E : Type 0} → (E → List ℕ) → (E → List ℕ) → List E → List ℕ → Option (List ℕ)
text_in named text [] name = None
text_in named text (entry ∷ entries) name = if bytes_eq (named entry) name then Some (text entry) else text_in named text entries name

-- the text of a built-in module
abbrev pub std_text : List ℕ → Option (List ℕ)
std_text name = text_in (λ e. e.0) (λ e. e.1) STD_MODULES name
