-- The writes of a dword of which some bytes are read, in the code's words and in the definition's.
use Rattle.std.proofs.Common.{◌≡◌, ℕ, zero, suc, ◌+◌, ◌-◌, ◌/◌, ◌%◌, ◌<◌, ◌≤◌, Bool, true, false, cond, ltb, List, ◌++◌, get_or, sym, refl, ◌∙◌, arith, ltb-false, ltb-true, le-ltb, lt-ltb}
use Rattle.little_endian.specs.LittleEndian.{number_at, Bytes}
use Rattle.cells.specs.declared.Buffer as lent
use Rattle.cells.specs.Buffer.{Buffer, mark_of}
use Rattle.cells.specs.Lent.{held, Becomes}
use Rattle.cells.specs.Element.{element}
use Rattle.cells.specs.Writes.{written_all, number_writes, copy_writes}
use Rattle.cells.proofs.NumberLaws.{number-none, number-next, element-is}
use Rattle.cells.proofs.LentLaws.{becomes-more}
use Rattle.plan.specs.Plan.{Plan}
use Rattle.gather_effect.specs.Gather.{is_read, gathered_byte, gather_writes}
use Rattle.gather.specs.Mirror.FromRoom.{dword_writes}
use Rattle.gather_effect.proofs.MarkLaws.{doubtful-mark, zero-mark, zero-byte, read-mark, read_byte}

-- byte j of a number of n bytes, and the bytes past it
module _ (l : List ℕ) (bytes : Bytes l) (n j at : ℕ) where
  number-first : cond (ltb j n) (get_or l at 0) 0 ≡ number_at (n - j) l at % 256
  number-first = told (ltb j n) refl
    where
      told : (t : Bool) → ltb j n ≡ t → cond t (get_or l at 0) 0 ≡ number_at (n - j) l at % 256
      told true e =
          let h = ltb-true j n e in
          let m : n - j ≡ suc (n - suc j) = omega arith in
          let b = bytes at in
          rw (m, number-next (n - suc j) l at) (omega arith)
      told false e =
          let h = ltb-false j n e in
          let m : n - j ≡ 0 = omega arith in
          rw (m, number-none l at)

  number-rest : number_at (n - j) l at / 256 ≡ number_at (n - suc j) l (suc at)
  number-rest = told (ltb j n) refl
    where
      told : (t : Bool) → ltb j n ≡ t → number_at (n - j) l at / 256 ≡ number_at (n - suc j) l (suc at)
      told true e =
          let h = ltb-true j n e in
          let m : n - j ≡ suc (n - suc j) = omega arith in
          let b = bytes at in
          rw (m, number-next (n - suc j) l at) (omega arith)
      told false e =
          let h = ltb-false j n e in
          let m : n - j ≡ 0 = omega arith in
          let k : n - suc j ≡ 0 = omega arith in
          rw (m, k, number-none l at, number-none l (suc at))

module _ (surfaces : Buffer) (p : Plan) (address at n : ℕ) (small : n ≤ 4) (read : (j : ℕ) → j < 4 → is_read p address j ≡ ltb j n) where
  abbrev from : ℕ
  from = p.start + address

  -- bytes that are read
  read-writes : (m j : ℕ) → j + m ≤ n → gather_writes surfaces p false address at j m ≡ copy_writes surfaces (from + j) (at + j) m
  unfolding gather_writes copy_writes
  read-writes zero j h = refl
  read-writes (suc m) j h =
      let here : is_read p address j ≡ true = read j (omega arith) ∙ lt-ltb j n (omega arith) in
      let a : at + suc j ≡ suc (at + j) = omega arith in
      let f : from + suc j ≡ suc (from + j) = omega arith in
      let rest : gather_writes surfaces p false address at (suc j) m ≡ copy_writes surfaces (suc (from + j)) (suc (at + j)) m = rw (a, f) at (read-writes m (suc j) (omega arith)) in
      rw (read_byte surfaces.bytes surfaces.taint p address j here, read-mark surfaces.bytes surfaces.taint p address j here, rest)

  -- zeros
  zero-writes : (m j : ℕ) → n ≤ j → j + m ≤ 4 → gather_writes surfaces p false address at j m ≡ number_writes (at + j) m (mark_of false) 0
  unfolding gather_writes number_writes
  zero-writes zero j g h = refl
  zero-writes (suc m) j g h =
      let here : is_read p address j ≡ false = read j (omega arith) ∙ le-ltb j n g in
      let a : at + suc j ≡ suc (at + j) = omega arith in
      let rest : gather_writes surfaces p false address at (suc j) m ≡ number_writes (suc (at + j)) m (mark_of false) 0 = rw a at (zero-writes m (suc j) (omega arith) (omega arith)) in
      rw (zero-byte surfaces.bytes surfaces.taint p address j here, zero-mark surfaces.bytes surfaces.taint p address j here, rest)

  -- a doubtful address: one number, wholly marked
  doubtful-writes : Bytes surfaces.bytes → (m j : ℕ) → j + m ≤ 4 → gather_writes surfaces p true address at j m ≡ number_writes (at + j) m (mark_of true) (number_at (n - j) surfaces.bytes (from + j))
  unfolding gather_writes number_writes gathered_byte
  doubtful-writes bytes zero j h = refl
  doubtful-writes bytes (suc m) j h =
      let here = read j (omega arith) in
      let a : at + suc j ≡ suc (at + j) = omega arith in
      let f : from + suc j ≡ suc (from + j) = omega arith in
      let rest : gather_writes surfaces p true address at (suc j) m ≡ number_writes (suc (at + j)) m (mark_of true) (number_at (n - suc j) surfaces.bytes (suc (from + j))) = rw (a, f) at (doubtful-writes bytes m (suc j) (omega arith)) in
      rw (doubtful-mark surfaces.bytes surfaces.taint p address j, here, rest, number-first surfaces.bytes bytes n j (from + j), ← number-rest surfaces.bytes bytes n j (from + j))

  parts : (a b j : ℕ) → gather_writes surfaces p false address at j (a + b) ≡ gather_writes surfaces p false address at j a ++ gather_writes surfaces p false address at (j + a) b
  unfolding gather_writes
  parts zero b j =
      let e : zero + b ≡ b = omega arith in
      let f : j + zero ≡ j = omega arith in
      rw (e, f)
  parts (suc a) b j =
      let e : suc a + b ≡ suc (a + b) = omega arith in
      let f : j + suc a ≡ suc j + a = omega arith in
      rw (e, f, parts a b (suc j))

  pub dword-is : Bytes surfaces.bytes → (doubtful : Bool) → dword_writes surfaces from n doubtful at ≡ gather_writes surfaces p doubtful address at 0 4
  unfolding dword_writes
  dword-is bytes true =
      let e : at + 0 ≡ at = omega arith in
      let f : from + 0 ≡ from = omega arith in
      let g : n - 0 ≡ n = omega arith in
      rw (element-is n surfaces.bytes from (omega arith)) (sym (rw (e, f, g) at (doubtful-writes bytes 4 0 (omega arith))))
  dword-is bytes false =
      let e : at + 0 ≡ at = omega arith in
      let f : from + 0 ≡ from = omega arith in
      let z : 0 + n ≡ n = omega arith in
      let whole : n + (4 - n) ≡ 4 = omega arith in
      let first : gather_writes surfaces p false address at 0 n ≡ copy_writes surfaces from at n = rw (e, f) at (read-writes n 0 (omega arith)) in
      let second = zero-writes (4 - n) n (omega arith) (omega arith) in
      let both : gather_writes surfaces p false address at 0 4 ≡ gather_writes surfaces p false address at 0 n ++ gather_writes surfaces p false address at n (4 - n) = rw (whole, z) at (parts n (4 - n) 0) in
      rw (both, first, second)

-- the calls that write it
module _ (surfaces : Buffer) (from n at : ℕ) (b : lent.Buffer) where
  pub doubtful-written : (doubtful : Bool) (value : ℕ) (b' : lent.Buffer) → Becomes b b' (written_all (number_writes at 4 (mark_of true) value) (held b)) → doubtful ≡ true → value ≡ element n surfaces.bytes from → Becomes b b' (written_all (dword_writes surfaces from n doubtful at) (held b))
  unfolding dword_writes
  doubtful-written doubtful value b' made taken v = rw (taken, ← v) made

  pub read-written : (doubtful : Bool) (m : ℕ) (c b' : lent.Buffer) → Becomes c b' (written_all (number_writes (at + n) m (mark_of false) 0) (held c)) → m ≡ 4 - n → Becomes b c (written_all (copy_writes surfaces from at n) (held b)) → doubtful ≡ false → Becomes b b' (written_all (dword_writes surfaces from n doubtful at) (held b))
  unfolding dword_writes
  read-written doubtful m c b' made rest copied left =
      becomes-more b c b' (copy_writes surfaces from at n) (number_writes (at + n) m (mark_of false) 0) _ (rw (left, rest)) copied made
