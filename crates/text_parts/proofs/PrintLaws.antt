-- The formats print the texts that `Texts` has, for every value that the encoder takes.
use mathlib.Core.Path.{◌≡◌, refl, sym, ap, ◌∙◌}
use mathlib.Core.List.{List, ◌++◌, append_assoc}
use mathlib.Core.Bool.{Bool, true, false, cond}
use mathlib.Core.Logic.{inl, inr}
use Prim.Native.Nat.{ℕ, zero, suc, ◌+◌, ◌*◌, ◌≤◌, ◌<◌}
use native.Mathlib.Omega.{arith}
use lib.Dec.{ltb}
use borrow.Author.Tests.{ltb-false}
use Rattle.formats.specs.Text.{text}
use Rattle.formats.specs.Format.{pair, through}
use Rattle.formats.specs.Words.{words, word_at, one_of, table, before, after}
use Rattle.formats.specs.Numerals.{digits_of}
use Rattle.formats.specs.Numbers.{number}
use Rattle.operand_fields.specs.declared.Raw.{Raw}
use Rattle.operand_fields.specs.declared.Immediate.{Immediate}
use Rattle.text_parts.specs.Mirror.Fields.{decimal}
use Rattle.text_parts.specs.Mirror.Raw.{raw_parts, raw}
use Rattle.text_parts.specs.Mirror.Immediate.{types, wide_types, type_behind, place_of, immediate_parts, immediate_fits, immediate}
use Rattle.text_parts.specs.Texts.{raw_text, type_text, immediate_text}
use Rattle.text_parts.proofs.ImmediateLaws.{Code, listed-code, place-alone, fits-tells}

-- ---- a raw operand

pub raw-prints : (r : Raw) → raw.print r ≡ raw_text r
unfolding raw_text raw raw_parts decimal before after through pair number one_of words word_at
raw-prints r = refl

-- ---- an immediate

type-text : (c : ℕ) → Code c → word_at (words types) (place_of c) ≡ text ":" ++ type_text c
unfolding words word_at place_of type_text
type-text c (inl h) = short c h
  where
    short : (c : ℕ) → c < 6 → word_at (words types) (place_of c) ≡ text ":" ++ type_text c
    short zero h = refl
    short (suc zero) h = refl
    short (suc (suc zero)) h = refl
    short (suc (suc (suc zero))) h = refl
    short (suc (suc (suc (suc zero)))) h = refl
    short (suc (suc (suc (suc (suc zero))))) h = refl
    short (suc (suc (suc (suc (suc (suc c)))))) h = absurd (omega arith)
type-text c (inr (inl e)) = ap (λ (x : ℕ). word_at (words types) (place_of x)) e ∙ ap (λ (x : ℕ). text ":" ++ type_text x) (sym e)
type-text c (inr (inr e)) = ap (λ (x : ℕ). word_at (words types) (place_of x)) e ∙ ap (λ (x : ℕ). text ":" ++ type_text x) (sym e)

-- uq is the first word of both tables
type-print : (n k : ℕ) → (4294967296 ≤ n → k ≡ 0) → (type_behind n).print k ≡ word_at (words types) k
unfolding type_behind one_of words word_at
type-print n k g = told (ltb n 4294967296) refl
  where
    told : (b : Bool) → ltb n 4294967296 ≡ b → (cond b (table types) (table wide_types)).print k ≡ word_at (words types) k
    told true e = refl
    told false e = let z = g (ltb-false n 4294967296 e) in ap (λ (x : ℕ). word_at (words wide_types) x) z ∙ ap (λ (x : ℕ). word_at (words types) x) (sym z)

pub immediate-prints : (i : Immediate) → immediate_fits i ≡ true → text "0x" ++ immediate.print i ≡ immediate_text i
unfolding immediate immediate_parts through pair number immediate_text
immediate-prints i h =
    let f = fits-tells i h in
    let n = i.high * 4294967296 + i.low in
    ap (λ (t : List ℕ). text "0x" ++ (digits_of 16 n ++ t)) (type-print n (place_of i.code) (place-alone i.code i.high i.low f.lacking f.low) ∙ type-text i.code (listed-code i.code f.listed))
    ∙ ap (λ (t : List ℕ). text "0x" ++ t) (sym (append_assoc (digits_of 16 n) (text ":") (type_text i.code)))
