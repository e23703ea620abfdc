-- The names and the texts of the modules that are made.
use Rattle.std.specs.Prelude.{ℕ, zero, suc, ◌/◌, List, ◌++◌, codes}
use Rattle.std.specs.Fmt.{decimal}

-- G and the number
abbrev pub name_of : ℕ → List ℕ
name_of number = codes "G" ++ decimal number

-- the first module
abbrev pub first_text : List ℕ
first_text = codes "---- MODULE G0 ----\nEXTENDS Naturals\nCONSTANT c\nVARIABLE x\nF(a) == a + c\nNext == x' = F(x)\nDeep == Next\n====\n"

-- a module that has an instance of another
abbrev pub further_text : ℕ → ℕ → List ℕ
further_text number other =
    codes "---- MODULE G" ++ (decimal number ++ (codes " ----\nEXTENDS Naturals\nCONSTANT c\nVARIABLE x\nP == INSTANCE G" ++ (decimal other ++ codes " WITH c <- c + 1, x <- x\nF(a) == a + c\nNext == x' = F(x)\nDeep == P!Deep \\/ Next\n====\n")))

-- the module of a number: each but the first has an instance of the one of half its number
abbrev pub text_of : ℕ → List ℕ
text_of zero = first_text
text_of (suc n) = further_text (suc n) (n / 2)
