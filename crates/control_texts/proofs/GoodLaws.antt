-- The exec bytes and pred words that decoding takes, each by remainders instead of bits.
use Prim.Native.Nat.{ℕ, zero, suc, ◌/◌, ◌%◌, ◌^◌, ◌<◌}
use mathlib.Core.Path.{◌≡◌, refl, sym, ◌∙◌}
use mathlib.Core.Bool.{Bool, true, false, not, ◌&&◌, ◌||◌}
use native.Mathlib.Omega.{arith}
use lib.Dec.{ltb, leb, eqb}
use Rattle.bits.specs.Bits.{bit, bit_field}
use Rattle.exec_byte.specs.Exec.{exec_reserved, exec_size}
use Rattle.predicate_field.specs.Predicate.{predicate_combine, predicate_reserved}
use Rattle.exec_byte.proofs.ExecLaws.{exec-reserved, exec-size}
use Rattle.fields.specs.Rules.{exec_good, scatter_exec_good, predicate_good}

-- bit 3 and the code of the size
size-codes : (b code : ℕ) → b < 2 → code < 8 → not (eqb b 1 || leb 6 code) ≡ (eqb b 0 && ltb code 6)
size-codes zero zero h g = refl
size-codes zero (suc zero) h g = refl
size-codes zero (suc (suc zero)) h g = refl
size-codes zero (suc (suc (suc zero))) h g = refl
size-codes zero (suc (suc (suc (suc zero)))) h g = refl
size-codes zero (suc (suc (suc (suc (suc zero))))) h g = refl
size-codes zero (suc (suc (suc (suc (suc (suc zero)))))) h g = refl
size-codes zero (suc (suc (suc (suc (suc (suc (suc zero))))))) h g = refl
size-codes zero (suc (suc (suc (suc (suc (suc (suc (suc k)))))))) h g = absurd (omega arith)
size-codes (suc zero) code h g = refl
size-codes (suc (suc b)) code h g = absurd (omega arith)

pub exec-good-is : (e : ℕ) → exec_good e ≡ (eqb (e / 8 % 2) 0 && ltb (e % 8) 6)
unfolding exec_good
exec-good-is e = rw (exec-reserved e) (size-codes (e / 8 % 2) (e % 8) (omega arith) (omega arith))

-- sizes 8 and 16 are codes 3 and 4
scatter-codes : (clear : Bool) (code : ℕ) → code < 8 → ((clear && ltb code 6) && (eqb (2 ^ code) 8 || eqb (2 ^ code) 16)) ≡ (clear && (eqb code 3 || eqb code 4))
scatter-codes false code h = refl
scatter-codes true zero h = refl
scatter-codes true (suc zero) h = refl
scatter-codes true (suc (suc zero)) h = refl
scatter-codes true (suc (suc (suc zero))) h = refl
scatter-codes true (suc (suc (suc (suc zero)))) h = refl
scatter-codes true (suc (suc (suc (suc (suc zero))))) h = refl
scatter-codes true (suc (suc (suc (suc (suc (suc zero)))))) h = refl
scatter-codes true (suc (suc (suc (suc (suc (suc (suc zero))))))) h = refl
scatter-codes true (suc (suc (suc (suc (suc (suc (suc (suc k)))))))) h = absurd (omega arith)

pub scatter-exec-good-is : (e : ℕ) → scatter_exec_good e ≡ (eqb (e / 8 % 2) 0 && (eqb (e % 8) 3 || eqb (e % 8) 4))
unfolding scatter_exec_good exec_good
scatter-exec-good-is e = told (exec_reserved e) refl
  where
    codes : ((eqb (e / 8 % 2) 0 && ltb (e % 8) 6) && (eqb (2 ^ (e % 8)) 8 || eqb (2 ^ (e % 8)) 16)) ≡ (eqb (e / 8 % 2) 0 && (eqb (e % 8) 3 || eqb (e % 8) 4))
    codes = scatter-codes (eqb (e / 8 % 2) 0) (e % 8) (omega arith)

    told : (r : Bool) → exec_reserved e ≡ r → (exec_good e && (eqb (exec_size e) 8 || eqb (exec_size e) 16)) ≡ (eqb (e / 8 % 2) 0 && (eqb (e % 8) 3 || eqb (e % 8) 4))
    told true r = let bad : exec_good e ≡ false = rw r in rw bad (rw (sym (exec-good-is e) ∙ bad) at codes)
    told false r = rw (exec-good-is e, exec-size e r) codes

-- bit 12 and the code of any and all
combine-codes : (b code : ℕ) → b < 2 → code < 4 → not (eqb b 1 || eqb code 3) ≡ (eqb b 0 && ltb code 3)
combine-codes zero zero h g = refl
combine-codes zero (suc zero) h g = refl
combine-codes zero (suc (suc zero)) h g = refl
combine-codes zero (suc (suc (suc zero))) h g = refl
combine-codes zero (suc (suc (suc (suc k)))) h g = absurd (omega arith)
combine-codes (suc zero) code h g = refl
combine-codes (suc (suc b)) code h g = absurd (omega arith)

pub predicate-good-is : (p : ℕ) → predicate_good p ≡ (eqb (p / 4096 % 2) 0 && ltb (p / 8192 % 4) 3)
unfolding predicate_good predicate_reserved predicate_combine bit bit_field
predicate-good-is p = combine-codes (p / 4096 % 2) (p / 8192 % 4) (omega arith) (omega arith)
