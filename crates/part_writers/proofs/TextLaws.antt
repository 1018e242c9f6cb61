-- What the text of each part is made of, piece by piece as the code writes it.
use mathlib.Core.Path.{◌≡◌, refl}
use mathlib.Core.List.{List, ◌++◌}
use Prim.Native.Nat.{ℕ, ◌+◌, ◌*◌, ◌≤◌, ◌<◌}
use borrow.Author.Tests.{lt-ltb, le-ltb}
use Rattle.formats.specs.Text.{text}
use Rattle.formats.specs.Format.{pair, through}
use Rattle.formats.specs.Words.{words, word_at, one_of, before, after}
use Rattle.formats.specs.Numerals.{digits_of}
use Rattle.formats.specs.Numbers.{number}
use Rattle.operand_fields.specs.declared.Raw.{Raw}
use Rattle.operand_fields.specs.declared.Immediate.{Immediate}
use Rattle.text_parts.specs.Mirror.Fields.{decimal}
use Rattle.text_parts.specs.Mirror.Raw.{raw_parts, raw}
use Rattle.text_parts.specs.Mirror.Immediate.{types, wide_types, type_behind, place_of, immediate_parts, immediate}

-- ---- numbers, raw operands, immediates

pub hexadecimal-text : (t : List ℕ) → text "0x" ++ t ≡ word_at (words (text "0x|")) 0 ++ t
unfolding words word_at
hexadecimal-text t = refl

pub raw-text : (r : Raw) (index offset : ℕ) → index ≡ r.index → offset ≡ r.offset →
    raw.print r ≡ word_at (words (text "v|")) 0 ++ ((digits_of 10 index ++ word_at (words (text ".|")) 0) ++ digits_of 10 offset)
unfolding raw raw_parts decimal before after through pair number one_of
raw-text r index offset e f = rw (e, f)

pub narrow_type : (n k : ℕ) → n < 4294967296 → (type_behind n).print k ≡ word_at (words types) k
unfolding type_behind one_of
narrow_type n k h = rw (lt-ltb n 4294967296 h)

pub wide_type : (n k : ℕ) → 4294967296 ≤ n → (type_behind n).print k ≡ word_at (words wide_types) k
unfolding type_behind one_of
wide_type n k h = rw (le-ltb n 4294967296 h)

pub immediate-text : (i : Immediate) (n k : ℕ) → n ≡ i.high * 4294967296 + i.low → k ≡ place_of i.code → immediate.print i ≡ digits_of 16 n ++ (type_behind n).print k
unfolding immediate immediate_parts through pair number
immediate-text i n k e p = rw (e, p)
