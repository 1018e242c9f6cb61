-- The fields in braces behind the last operand, ` {1,0}` for a gather, ` {5}` for a scatter. Document 02, request 1: "ignored fields, and those that a
-- page's text leaves out, follow as `{1,0}` in byte order if one is not zero"; SHL and RAW_SEND have none.
use Rattle.std.specs.Prelude.{ℕ, List, Bool, cond, ◌&&◌, leb, eqb}
use Rattle.formats.specs.Text.{text}
use Rattle.formats.specs.Format.{Format, pair, through, blank}
use Rattle.formats.specs.Words.{table}
use Rattle.control_texts.specs.Mirror.Predicate.{zeros, nothing}
use Rattle.text_parts.specs.Mirror.Fields.{decimal}

-- no braces, or their opening
abbrev pub bracing : List ℕ
bracing = text "| {|"

-- behind a Block_size of 0 a Scale of 0 would have needed no braces
unfoldable pub scale_behind : ℕ → Format ℕ
scale_behind size = decimal (cond (eqb size 0) 1 0) 65535 (text "}|")

unfoldable pub size_and_scale : ℕ → Format (ℕ × ℕ)
size_and_scale braced = cond (eqb braced 0) nothing (pair (decimal 0 255 (text ",|")) scale_behind)

unfoldable pub gather_braces_fit : ℕ × ℕ → Bool
gather_braces_fit v = leb v.0 255 && leb v.1 65535

-- Block_size and Scale of a gather
unfoldable pub gather_braces : Format (ℕ × ℕ)
gather_braces = through (λ v. v.1) (λ v. (cond (zeros v) 0 1, v)) gather_braces_fit (pair (table bracing) size_and_scale)

unfoldable pub scale_alone : ℕ → Format ℕ
scale_alone braced = cond (eqb braced 0) (blank 0 (λ s. eqb s 0)) (decimal 1 65535 (text "}|"))

-- Scale of a scatter
unfoldable pub scatter_braces : Format ℕ
scatter_braces = through (λ v. v.1) (λ s. (cond (eqb s 0) 0 1, s)) (λ s. leb s 65535) (pair (table bracing) scale_alone)
