-- The table of exec bytes: its rule at each entry from one test over all of them, and what an entry's number gives.
use Prim.Native.Nat.{ℕ, ◌+◌, ◌*◌, ◌/◌, ◌%◌, ◌≤◌, ◌<◌}
use mathlib.Core.Path.{◌≡◌, refl, ap, ◌∙◌}
use mathlib.Core.Bool.{Bool, true, false, cond}
use mathlib.Core.List.{List}
use native.Mathlib.Omega.{arith}
use lib.Dec.{eqb, leb}
use lib.ListN.{get_or}
use borrow.Author.Tests.{eqb-true, ne_eqb, le-leb, lt-leb}
use Rattle.bits.specs.Below.{every_below}
use Rattle.exec_byte.specs.Exec.{exec_reserved, exec_size, exec_offset, no_mask, exec_of}
use Rattle.exec_byte.specs.ExecTable.{exec_code}
use Rattle.exec_byte.specs.Mirror.Entries.{entry_at, exec_coded}
use Rattle.bits.proofs.Every.{every-each}
use Rattle.exec_byte.proofs.ExecLaws.{size-some, size-at-most, offset-at-most}

-- the test of the whole table, entry by entry
abbrev pub follows : List ℕ → ℕ → Bool
follows table exec = eqb (get_or table exec 0) (exec_code exec)

pub entry-told : (table : List ℕ) (exec r : ℕ) → r ≡ entry_at table exec → every_below 256 (follows table) ≡ true → exec < 256 → r ≡ exec_code exec
unfolding entry_at
entry-told table exec r e test h = e ∙ eqb-true (get_or table exec 0) (exec_code exec) (every-each (follows table) 256 test exec h)

-- ---- an entry taken apart

low_parts : (size rest : ℕ) → size ≤ 32 → ((size + 64 * rest) % 64 ≡ size) × ((size + 64 * rest) / 64 ≡ rest)
low_parts size rest most = (omega arith, omega arith)

parts : (size offset : ℕ) (unmasked : Bool) → 1 ≤ size → size ≤ 32 → offset ≤ 28
    → exec_coded (size + 64 * offset + cond unmasked 4096 0) ≡ record { reserved = false; size = size; offset = offset; unmasked = unmasked }
parts size offset unmasked some most low = told unmasked
  where
    coded : (code rest : ℕ) (u : Bool) → code ≡ size + 64 * rest → rest % 64 ≡ offset → leb 4096 code ≡ u
        → exec_coded code ≡ record { reserved = false; size = size; offset = offset; unmasked = u }
    coded code rest u e o b =
        let l = low_parts size rest most in
        rw (b, e, l.0, l.1, o, ne_eqb (size + 64 * rest) 0 (λ z. omega (arith, z)))

    told : (u : Bool) → exec_coded (size + 64 * offset + cond u 4096 0) ≡ record { reserved = false; size = size; offset = offset; unmasked = u }
    told true = coded _ (offset + 64) true (omega arith) (omega arith) (le-leb 4096 (size + 64 * offset + 4096) (omega arith))
    told false = coded _ offset false (omega arith) (omega arith) (lt-leb 4096 (size + 64 * offset + 0) (omega arith))

good-code : (exec : ℕ) → exec_reserved exec ≡ false → exec_code exec ≡ exec_size exec + 64 * exec_offset exec + cond (no_mask exec) 4096 0
unfolding exec_code
good-code exec e = rw e

reserved-uncoded : (exec : ℕ) → exec_reserved exec ≡ true → exec_coded (exec_code exec) ≡ exec_of exec
unfolding exec_code exec_size exec_offset no_mask
reserved-uncoded exec e = rw e

-- a reserved entry is 0, and gives no size, no offset and no NM
pub uncoded : (exec : ℕ) → exec_coded (exec_code exec) ≡ exec_of exec
uncoded exec = told (exec_reserved exec) refl
  where
    told : (r : Bool) → exec_reserved exec ≡ r → exec_coded (exec_code exec) ≡ exec_of exec
    told true e = reserved-uncoded exec e
    told false e = ap exec_coded (good-code exec e) ∙ parts (exec_size exec) (exec_offset exec) (no_mask exec) (size-some exec e) (size-at-most exec e) (offset-at-most exec e) ∙ rw e
