-- What the crates above may know of decoding: an accepted instruction ends past its start and within the kernel, and decoding it looks at
-- no byte past its end.
use mathlib.Core.Path.{◌≡◌, refl, sym, ap, ◌∙◌}
use mathlib.Core.List.{List, ◌++◌}
use Prim.Native.Nat.{ℕ, ◌+◌, ◌≤◌, ◌<◌}
use native.Mathlib.Omega.{arith}
use lib.ListN.{length, take, drop, take-append-drop, length-drop}
use lib.Seq.{drop-append-le, length-take-le, take_at}
use Rattle.little_endian.specs.LittleEndian.{Bytes}
use Rattle.reader.specs.Reply.{got}
use Rattle.fields.specs.declared.ByteRule.TheVariants as byte
use Rattle.fields.specs.Layout.{layout_bytes}
use Rattle.fields.proofs.Laws.{byte-some}
use Rattle.decoder.specs.declared.Instruction.{Instruction}
use Rattle.decoder.specs.declared.Instruction.TheVariants as instruction
use Rattle.decoder.specs.Decoding.{instruction_at}
use Rattle.decoder.specs.Format.{shl_fields, gather_fields, scatter_fields, raw_send_fields, instruction_fields, instruction_bytes, instruction_refusal}
use Rattle.decoder.proofs.DecodeEncode.{decode-encode}
use Rattle.decoder.proofs.EncodeDecode.{encode-decode}

-- every instruction has its opcode
pub some_bytes : (i : Instruction) → 0 < length (layout_bytes (instruction_fields i))
unfolding instruction_fields shl_fields gather_fields scatter_fields raw_send_fields
some_bytes (instruction.Shl x) = byte-some byte.Free 0x24 _
some_bytes (instruction.Gather x) = byte-some byte.Free 0x78 _
some_bytes (instruction.Scatter x) = byte-some byte.Free 0x4e _
some_bytes (instruction.RawSend x) = byte-some byte.Free 0x5d _

pub record Within (s : List ℕ) (at next : ℕ) : Type 0 where
  pub past : at < next
  pub inside : next ≤ length s

pub accepted-within : (s : List ℕ) (at : ℕ) (i : Instruction) (next : ℕ) → Bytes s → instruction_at s at ≡ got i next → Within s at next
accepted-within s at i next b e =
    let p = (decode-encode s at i next b e).passed in
    record { past = omega (arith, p.end, some_bytes i); inside = p.inside }

-- a part of a list, and what stands past it
part : (l : List ℕ) (at n : ℕ) → at ≤ length (take n l) → drop at l ≡ drop at (take n l) ++ drop n l
part l at n h = ap (λ (x : List ℕ). drop at x) (sym (take-append-drop n l)) ∙ drop-append-le at (take n l) (drop n l) h

part-is : (l : List ℕ) (at n : ℕ) (bs : List ℕ) → at + length bs ≡ n → n ≤ length l → drop at l ≡ bs ++ drop n l → drop at (take n l) ≡ bs
part-is l at n bs e h d =
    let k : length (take n l) ≡ n = length-take-le n l h in
    let m : length (drop at (take n l)) ≡ length bs = length-drop at (take n l) ∙ omega arith in
    sym (take_at (drop at (take n l)) (drop n l) (length bs) m)
    ∙ ap (λ (x : List ℕ). take (length bs) x) (sym (part l at n (omega arith)) ∙ d)
    ∙ take_at bs (drop n l) (length bs) refl

-- two kernels that agree up to the end of an accepted instruction decode alike
pub decode-local : (s u : List ℕ) (at : ℕ) (i : Instruction) (next : ℕ) → Bytes s → instruction_at s at ≡ got i next → take next u ≡ take next s → instruction_at u at ≡ got i next
unfolding instruction_bytes instruction_refusal
decode-local s u at i next b e same =
    let q = decode-encode s at i next b e in
    let p = q.passed in
    let bs = instruction_bytes i in
    let k : length (take next s) ≡ next = length-take-le next s p.inside in
    let l : at ≤ length (take next u) = rw same (omega (arith, p.end)) in
    let d : drop at (take next u) ≡ bs = ap (λ (x : List ℕ). drop at x) same ∙ part-is s at next bs (sym p.end) p.inside p.bytes in
    encode-decode u at i (drop next u) q.good (part u at next l ∙ ap (λ (x : List ℕ). x ++ drop next u) d)
    ∙ ap (λ (n : ℕ). got i n) (sym p.end)
