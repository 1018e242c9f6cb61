-- Four and eight bytes at once, where they lie inside: what a store of them writes.
use Prim.Native.Nat.{ℕ, zero, suc, ◌+◌, ◌-◌, ◌*◌, ◌/◌, ◌%◌, ◌<◌}
use mathlib.Core.Path.{◌≡◌, refl, ap, ◌∙◌}
use mathlib.Core.Bool.{Bool, true, false, ◌&&◌}
use mathlib.Core.List.{List, [], ◌∷◌, ◌++◌}
use native.Mathlib.Omega.{arith}
use mir.Val.{bool_byte}
use lib.Dec.{leb}
use lib.ListN.{length, get_or, set}
use borrow.Author.Tests.{leb-true}
use Rattle.cells.specs.Buffer.{Buffer, buffer, is_tainted, mark_of}
use Rattle.cells.specs.declared.Buffer as lent
use Rattle.cells.specs.Lent.{held, Becomes, Leads}
use Rattle.cells.proofs.LentLaws.{leads-bytes, leads-taint}
use Rattle.cells.specs.Writes.{Write, written, written_all, number_writes, copy_writes}
use Rattle.std.specs.Int.{w32, to_le_bytes}
use Rattle.cell_writes.specs.Mirror.FourSet.{four_set}
use Rattle.cell_writes.specs.Mirror.CopyRoom.{copy_room, CopyRoom}
use Rattle.cells.proofs.BoolLaws.{both_true}

pub copy-room : (b : Buffer) (from : ℕ) (c : Buffer) (to n : ℕ) → copy_room b from c to n ≡ true → CopyRoom b from c to n
unfolding copy_room
copy-room b from c to n e =
    let all = both_true (leb (from + n) (length b.bytes) && leb (from + n) (length b.taint)) (leb (to + n) (length c.bytes) && leb (to + n) (length c.taint)) e in
    let read = both_true (leb (from + n) (length b.bytes)) (leb (from + n) (length b.taint)) all.0 in
    let made = both_true (leb (to + n) (length c.bytes)) (leb (to + n) (length c.taint)) all.1 in
    record {
      from_bytes = leb-true (from + n) (length b.bytes) read.0;
      from-taint = leb-true (from + n) (length b.taint) read.1;
      to-bytes = leb-true (to + n) (length c.bytes) made.0;
      to-taint = leb-true (to + n) (length c.taint) made.1;
    }

-- ---- writes
-- a mark as code makes it
pub marked_byte : (tainted : Bool) → bool_byte tainted ≡ mark_of tainted
unfolding mark_of
marked_byte true = refl
marked_byte false = refl

module _ (l t l' t' : List ℕ) (at : ℕ) where
  pub four-numbers : (value mark : ℕ) → l' ≡ set (set (set (set l at (value % 256)) (at + 1) (value / 256 % 256)) (at + 2) (value / 256 / 256 % 256)) (at + 3) (value / 256 / 256 / 256 % 256) → t' ≡ set (set (set (set t at mark) (at + 1) mark) (at + 2) mark) (at + 3) mark → buffer l' t' ≡ written_all (number_writes at 4 mark value) (buffer l t)
  unfolding written_all number_writes
  four-numbers value mark p q =
      let i : suc (suc (suc at)) ≡ at + 3 = omega arith in
      let j : suc (suc at) ≡ at + 2 = omega arith in
      let k : suc at ≡ at + 1 = omega arith in
      rw (i, j, k, p, q)

  pub four-copied : (b : Buffer) (from : ℕ) → l' ≡ set (set (set (set l at (get_or b.bytes from 0)) (at + 1) (get_or b.bytes (from + 1) 0)) (at + 2) (get_or b.bytes (from + 2) 0)) (at + 3) (get_or b.bytes (from + 3) 0) → t' ≡ set (set (set (set t at (mark_of (is_tainted (get_or b.taint from 0)))) (at + 1) (mark_of (is_tainted (get_or b.taint (from + 1) 0)))) (at + 2) (mark_of (is_tainted (get_or b.taint (from + 2) 0)))) (at + 3) (mark_of (is_tainted (get_or b.taint (from + 3) 0))) → buffer l' t' ≡ written_all (copy_writes b from at 4) (buffer l t)
  unfolding written_all copy_writes
  four-copied b from p q =
      let i : suc (suc (suc at)) ≡ at + 3 = omega arith in
      let j : suc (suc at) ≡ at + 2 = omega arith in
      let k : suc at ≡ at + 1 = omega arith in
      let i' : suc (suc (suc from)) ≡ from + 3 = omega arith in
      let j' : suc (suc from) ≡ from + 2 = omega arith in
      let k' : suc from ≡ from + 1 = omega arith in
      rw (i, j, k, i', j', k', p, q)

pub numbers-split : (at mark value : ℕ) → number_writes at 8 mark value ≡ number_writes at 4 mark value ++ number_writes (at + 4) 4 mark (value / 256 / 256 / 256 / 256)
unfolding number_writes
numbers-split at mark value =
    let k : at + 4 ≡ suc (suc (suc (suc at))) = omega arith in
    rw k

pub numbers_of : (at size n mark value : ℕ) (b c : Buffer) → size ≡ n → c ≡ written_all (number_writes at n mark value) b → c ≡ written_all (number_writes at size mark value) b
numbers_of at size n mark value b c same made = rw same made

-- a copy in two parts
copies-split : (b : Buffer) (m n from to : ℕ) → copy_writes b from to (m + n) ≡ copy_writes b from to m ++ copy_writes b (from + m) (to + m) n
unfolding copy_writes
copies-split b zero n from to =
    let e : 0 + n ≡ n = omega arith in
    let f : from + 0 ≡ from = omega arith in
    let g : to + 0 ≡ to = omega arith in
    rw (e, f, g)
copies-split b (suc m) n from to =
    let e : suc m + n ≡ suc (m + n) = omega arith in
    let f : from + suc m ≡ suc from + m = omega arith in
    let g : to + suc m ≡ suc to + m = omega arith in
    rw (e, f, g, copies-split b m n (suc from) (suc to))

-- four of those that are left, and the others
pub fours-next : (b : Buffer) (from to i count : ℕ) → i < count / 4 → copy_writes b (from + 4 * i) (to + 4 * i) (count - 4 * i) ≡ copy_writes b (from + 4 * i) (to + 4 * i) 4 ++ copy_writes b (from + 4 * (i + 1)) (to + 4 * (i + 1)) (count - 4 * (i + 1))
fours-next b from to i count h =
    let n : count - 4 * i ≡ 4 + (count - 4 * (i + 1)) = omega arith in
    let f : from + 4 * (i + 1) ≡ from + 4 * i + 4 = omega arith in
    let g : to + 4 * (i + 1) ≡ to + 4 * i + 4 = omega arith in
    rw (f, g, n) (copies-split b 4 (count - 4 * (i + 1)) (from + 4 * i) (to + 4 * i))

-- and they have room
pub four-room : (b : Buffer) (c d : lent.Buffer) (from to i count : ℕ) (ws us : List Write) → i < count / 4 → CopyRoom b from (held c) to count → Leads c d ws us → CopyRoom b (from + 4 * i) (held d) (to + 4 * i) 4
four-room b c d from to i count ws us h room l =
    record {
      from_bytes = omega (arith, room.from_bytes);
      from-taint = omega (arith, room.from-taint);
      to-bytes = omega (arith, room.to-bytes, leads-bytes c d ws us l);
      to-taint = omega (arith, room.to-taint, leads-taint c d ws us l);
    }

-- a byte that is read of one buffer and written to the other
pub byte-copied : (b : Buffer) (c d : lent.Buffer) (from to value mark : ℕ) (tainted : Bool) → value ≡ get_or b.bytes from 0 → mark ≡ get_or b.taint from 0 → tainted ≡ is_tainted mark → Becomes c d (written (record { at = to; value = value; mark = mark_of tainted }) (held c)) → Becomes c d (written (record { at = to; value = get_or b.bytes from 0; mark = mark_of (is_tainted (get_or b.taint from 0)) }) (held c))
byte-copied b c d from to value mark tainted v m t made = rw (← v, ← m, ← t) made

-- with the marks that were worked out
module _ (l t l' t' : List ℕ) (at : ℕ) where
  pub dword-written : (value mark : ℕ) (tainted : Bool) → mark ≡ mark_of tainted → l' ≡ set (set (set (set l at (value % 256)) (at + 1) (value / 256 % 256)) (at + 2) (value / 256 / 256 % 256)) (at + 3) (value / 256 / 256 / 256 % 256) → t' ≡ set (set (set (set t at mark) (at + 1) mark) (at + 2) mark) (at + 3) mark → buffer l' t' ≡ written_all (number_writes at 4 (mark_of tainted) value) (buffer l t)
  dword-written value mark tainted m p q = rw (← m) (four-numbers l t l' t' at value mark p q)

  pub four-marked : (b : Buffer) (from m n o r : ℕ) (e f g h : Bool) → l' ≡ set (set (set (set l at (get_or b.bytes from 0)) (at + 1) (get_or b.bytes (from + 1) 0)) (at + 2) (get_or b.bytes (from + 2) 0)) (at + 3) (get_or b.bytes (from + 3) 0) → t' ≡ set (set (set (set t at m) (at + 1) n) (at + 2) o) (at + 3) r → m ≡ mark_of e → e ≡ is_tainted (get_or b.taint from 0) → n ≡ mark_of f → f ≡ is_tainted (get_or b.taint (from + 1) 0) → o ≡ mark_of g → g ≡ is_tainted (get_or b.taint (from + 2) 0) → r ≡ mark_of h → h ≡ is_tainted (get_or b.taint (from + 3) 0) → buffer l' t' ≡ written_all (copy_writes b from at 4) (buffer l t)
  four-marked b from m n o r e f g h p q m₁ e₁ m₂ e₂ m₃ e₃ m₄ e₄ =
      four-copied l t l' t' at b from p (rw (← e₁, ← e₂, ← e₃, ← e₄, ← m₁, ← m₂, ← m₃, ← m₄) q)

-- the bytes of a number's low dword, as the library takes them
dword-bytes : (v : ℕ) → to_le_bytes w32 (v % 4294967296) ≡ v % 256 ∷ v / 256 % 256 ∷ v / 256 / 256 % 256 ∷ v / 256 / 256 / 256 % 256 ∷ []
dword-bytes v =
    let a : v % 4294967296 % 256 ≡ v % 256 = omega arith in
    let b : v % 4294967296 / 256 % 256 ≡ v / 256 % 256 = omega arith in
    let c : v % 4294967296 / 65536 % 256 ≡ v / 256 / 256 % 256 = omega arith in
    let d : v % 4294967296 / 16777216 % 256 ≡ v / 256 / 256 / 256 % 256 = omega arith in
    rw (a, b, c, d)

pub dword-set : (l l' four : List ℕ) (at v : ℕ) → four ≡ to_le_bytes w32 (v % 4294967296) → l' ≡ four_set l at four → l' ≡ set (set (set (set l at (v % 256)) (at + 1) (v / 256 % 256)) (at + 2) (v / 256 / 256 % 256)) (at + 3) (v / 256 / 256 / 256 % 256)
dword-set l l' four at v e h = h ∙ ap (λ (bytes : List ℕ). four_set l at bytes) (e ∙ dword-bytes v)
