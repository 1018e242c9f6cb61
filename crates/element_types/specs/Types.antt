-- The element types. Document 01, "Tables and sizes": "Codes and sizes: UD 0, D 1, F 7 (4 bytes); UW 2, W 3 (2); UB 4, B 5 (1); UQ 11 (8)."
use Rattle.std.specs.Prelude.{ℕ, Bool, true, cond, ltb, eqb}

abbrev pub UD : ℕ
UD = 0

abbrev pub D : ℕ
D = 1

abbrev pub UW : ℕ
UW = 2

abbrev pub W : ℕ
W = 3

abbrev pub UB : ℕ
UB = 4

abbrev pub B : ℕ
B = 5

abbrev pub F : ℕ
F = 7

abbrev pub UQ : ℕ
UQ = 11

-- the bytes of an element; 0 says that the code is not listed
unfoldable pub size_of : ℕ → ℕ
size_of code =
    cond (eqb code UD) 4
    (cond (eqb code D) 4
    (cond (eqb code F) 4
    (cond (eqb code UW) 2
    (cond (eqb code W) 2
    (cond (eqb code UB) 1
    (cond (eqb code B) 1
    (cond (eqb code UQ) 8 0)))))))

unfoldable pub is_listed : ℕ → Bool
is_listed code = ltb 0 (size_of code)

-- the types that are read with a sign
unfoldable pub is_signed : ℕ → Bool
is_signed code = cond (eqb code D) true (cond (eqb code W) true (eqb code B))

-- "high ud for UQ only": the one type of more than four bytes
unfoldable pub has_high_word : ℕ → Bool
has_high_word code = eqb (size_of code) 8
