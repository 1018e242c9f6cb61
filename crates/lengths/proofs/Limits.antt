-- What good lengths are: each limit of `lengths_good` as a fact; and what a register's size is: 32 or 64, so not 0.
use mathlib.Core.Path.{◌≡◌, refl}
use mathlib.Core.Bool.{Bool, true, false, cond, ◌&&◌, ◌||◌}
use Prim.Native.Nat.{ℕ, ◌+◌, ◌%◌, ◌^◌, ◌≤◌, ◌<◌}
use native.Mathlib.Omega.{arith}
use lib.Dec.{leb, eqb}
use borrow.Author.Tests.{leb-true, eqb-true}
use Rattle.lengths.specs.declared.Lengths.{Lengths}
use Rattle.lengths.specs.Lengths.{register_size_good, chosen_size, registers_good, addresses_good, taint_good, lengths_good}
use Rattle.bits.proofs.All.{left, right, all3, all4}

either-size : (P : ℕ → Type 0) (b : Bool) {x y : ℕ} → P x → P y → P (cond b x y)
either-size P true p q = p
either-size P false p q = q

either_true : (a b : Bool) → (a || b) ≡ true → (P : Type 0) → (a ≡ true → P) → (b ≡ true → P) → P
either_true true b h P p q = p h
either_true false b h P p q = q h

-- what holds of 32 and of 64 holds of every good size
pub size-either : (P : ℕ → Type 0) → P 32 → P 64 → (register_size : ℕ) → register_size_good register_size ≡ true → P register_size
unfolding register_size_good
size-either P p q register_size h =
    either_true (eqb register_size 32) (eqb register_size 64) h (P register_size)
    (λ e. rw (eqb-true register_size 32 e) p) (λ e. rw (eqb-true register_size 64 e) q)

pub size_some : (register_size : ℕ) → register_size_good register_size ≡ true → 0 < register_size
size_some = size-either (λ size. 0 < size) (omega arith) (omega arith)

pub chosen-good : (register_size : ℕ) → register_size_good register_size ≡ true → chosen_size register_size ≡ register_size
unfolding chosen_size
chosen-good = size-either (λ size. chosen_size size ≡ size) refl refl

-- what holds of 32 and of 64 holds of whatever is chosen
pub chosen-either : (P : ℕ → Type 0) → P 32 → P 64 → (number : ℕ) → P (chosen_size number)
unfolding chosen_size
chosen-either P p q number = either-size P (eqb number 64) q p

pub record Limited (l : Lengths) : Type 0 where
  pub size-good : register_size_good l.register_size ≡ true
  pub registers-whole : l.registers % l.register_size ≡ 0
  pub registers-small : l.registers ≤ 4096
  pub kernel-small : l.kernel ≤ 4096
  pub memory-small : l.memory ≤ 4096
  pub addresses : l.base + l.memory ≤ 2 ^ 64
  pub registers-taint : l.taint.registers ≡ l.registers
  pub surfaces-taint : l.taint.surfaces ≡ l.surfaces
  pub memory-taint : l.taint.memory ≡ l.memory

pub lengths-limited : (l : Lengths) → lengths_good l ≡ true → Limited l
unfolding lengths_good registers_good addresses_good taint_good
lengths-limited l h =
    let size = register_size_good l.register_size in
    let whole = eqb (l.registers % l.register_size) 0 in
    let small = leb l.registers 4096 in
    let kernel = leb l.kernel 4096 in
    let memory = leb l.memory 4096 in
    let address = leb (l.base + l.memory) (2 ^ 64) in
    let file = size && (whole && small) in
    let sizes = file && kernel && memory && address in
    let taint = taint_good l in
    let s = all4 file kernel memory address (left sizes taint h) in
    let t = all3 (eqb l.taint.registers l.registers) (eqb l.taint.surfaces l.surfaces) (eqb l.taint.memory l.memory) (right sizes taint h) in
    record {
      size-good = left size (whole && small) s.first;
      registers-whole = eqb-true _ _ (left whole small (right size (whole && small) s.first));
      registers-small = leb-true _ _ (right whole small (right size (whole && small) s.first));
      kernel-small = leb-true _ _ s.second;
      memory-small = leb-true _ _ s.third;
      addresses = leb-true _ _ s.fourth;
      registers-taint = eqb-true _ _ t.first;
      surfaces-taint = eqb-true _ _ t.second;
      memory-taint = eqb-true _ _ t.third;
    }

-- as a call learns it that asks for a size
pub lengths_size : (l : Lengths) → lengths_good l ≡ true → 0 < l.register_size
lengths_size l h = size_some l.register_size (lengths-limited l h).size-good
