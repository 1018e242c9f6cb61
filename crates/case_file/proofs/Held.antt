-- One more good frame: the loader again holds what the frames say, or the case is full and a size is broken.
use mathlib.Core.Path.{◌≡◌, refl, sym, subst}
use mathlib.Core.Bool.{Bool, true, false, ◌||◌}
use mathlib.Core.Logic.{◌⊎◌, inl, inr}
use mathlib.Core.List.{List, [], ◌∷◌, ◌++◌, map, map-append, flatten}
use Prim.Native.Nat.{ℕ, ◌+◌, ◌*◌, ◌≤◌, ◌<◌}
use native.Mathlib.Omega.{arith}
use lib.ListN.{length, get_or, length-append}
use lib.Seq.{get_or-append_seam}
use lib.Dec.{eqb, leb}
use borrow.Author.Tests.{leb-true, leb-false}
use Rattle.tally.specs.Mirror.Reading.{Contents, Tables, Reading}
use Rattle.tally.specs.Mirror.Lines.{next}
use Rattle.frames.specs.Mirror.Frames.{frame_read}
use Rattle.case_file.specs.Frames.{kind_of, content_of, first_of}
use Rattle.case_file.specs.BadLine.{repeats}
use Rattle.case_file.specs.Case.{memory_of}
use Rattle.case_file.proofs.Padded.{length-map}
use Rattle.case_file.proofs.ByKind.{Kinds, added, one_more, first-new, first-added, none_yet}
use Rattle.case_file.proofs.Plain as plain
use Rattle.case_file.proofs.Plain.{Plain, buffer_of, size_of, plain-first}
use Rattle.case_file.proofs.Loaded.{reading_at}
use Rattle.case_file.proofs.Room.{flatten-more, content-read, content-full, memory-read, memory-full, mask-read, register-size-read, variable-read, variable-full, predicate-read, predicate-full, surface-read, surface-long, surface-full}
use Rattle.case_file.proofs.Good as good
use Rattle.case_file.proofs.Good.{Good}
use Rattle.case_file.proofs.Broken as broken
use Rattle.case_file.proofs.Broken.{Broken}

-- the buffers are of document 01's sizes
pub record Sizes (z : Contents) (t : Tables) : Type 0 where
  pub contents : (k : ℕ) (p : Plain k) → length (buffer_of k p z) ≡ size_of k p
  pub memory : length z.memory ≡ 4096
  pub types : length t.types ≡ 256
  pub starts : length t.starts ≡ 256
  pub counts : length t.counts ≡ 256
  pub predicate_bits : length t.predicate_bits ≡ 64
  pub predicate_counts : length t.predicate_counts ≡ 64
  pub surfaces : length t.surfaces ≡ 8192
  pub lengths : length t.lengths ≡ 8

-- what had room so far
pub record Within (registers memory variables predicates surfaces bytes : ℕ) : Type 0 where
  pub registers-small : registers ≤ 4096
  pub memory-small : memory ≤ 4096
  pub variables-few : variables ≤ 256
  pub predicates-few : predicates ≤ 64
  pub surfaces-few : surfaces ≤ 8
  pub bytes_small : bytes ≤ 1024 * surfaces

abbrev pub Few : Kinds → Type 0
Few g = Within (length (first_of (g 1))) (length (memory_of (first_of (g 5)))) (length (g 2)) (length (g 3)) (length (g 4)) (length (flatten (g 4)))

pub record Kept (z : Contents) (t : Tables) (g : Kinds) (r : Reading) : Type 0 where
  pub lines : ℕ
  pub same : r ≡ reading_at z t g lines
  pub few : Few g

abbrev pub Held : Contents → Tables → Kinds → Reading → Type 0
Held z t g r = Kept z t g r ⊎ ((r.case.full ≡ true) × Broken g)

module _ (g : Kinds) (c : List ℕ) (f : Few g) where
  few-registers : g 1 ≡ [] → length c ≤ 4096 → Few (added 1 c g)
  few-registers e h =
      record {
        registers-small = rw (first-new (g 1) c e) h;
        memory-small = f.memory-small;
        variables-few = f.variables-few;
        predicates-few = f.predicates-few;
        surfaces-few = f.surfaces-few;
        bytes_small = f.bytes_small;
      }

  few-memory : g 5 ≡ [] → length (memory_of c) ≤ 4096 → Few (added 5 c g)
  few-memory e h =
      record {
        registers-small = f.registers-small;
        memory-small = rw (first-new (g 5) c e) h;
        variables-few = f.variables-few;
        predicates-few = f.predicates-few;
        surfaces-few = f.surfaces-few;
        bytes_small = f.bytes_small;
      }

  few-variables : length (g 2) < 256 → Few (added 2 c g)
  few-variables h =
      record {
        registers-small = f.registers-small;
        memory-small = f.memory-small;
        variables-few = omega (arith, h, one_more (g 2) c);
        predicates-few = f.predicates-few;
        surfaces-few = f.surfaces-few;
        bytes_small = f.bytes_small;
      }

  few-predicates : length (g 3) < 64 → Few (added 3 c g)
  few-predicates h =
      record {
        registers-small = f.registers-small;
        memory-small = f.memory-small;
        variables-few = f.variables-few;
        predicates-few = omega (arith, h, one_more (g 3) c);
        surfaces-few = f.surfaces-few;
        bytes_small = f.bytes_small;
      }

  few-surfaces : length (g 4) < 8 → length c ≤ 1024 → Few (added 4 c g)
  few-surfaces h k =
      record {
        registers-small = f.registers-small;
        memory-small = f.memory-small;
        variables-few = f.variables-few;
        predicates-few = f.predicates-few;
        surfaces-few = omega (arith, h, one_more (g 4) c);
        bytes_small = rw (flatten-more (g 4) c, length-append (flatten (g 4)) c, one_more (g 4) c) (omega (arith, k, f.bytes_small));
      }

one-over : (l : List (List ℕ)) (c : List ℕ) (n : ℕ) → n ≤ length l → n < length (l ++ (c ∷ []))
one-over l c n h = omega (arith, h, one_more l c)

long-one : (l : List (List ℕ)) (c : List ℕ) → 1024 < length c → 1024 < get_or (map length (l ++ (c ∷ []))) (length l) 0
long-one l c h =
    let m : get_or (map {A = List ℕ} length (l ++ (c ∷ []))) (length l) 0 ≡ length c =
    rw (map-append {A = List ℕ} length l (c ∷ []), ← length-map {A = List ℕ} length l) (get_or-append_seam (map length l) (length c) [] 0) in
    omega (arith, h, m)

module _ (z : Contents) (t : Tables) (s : Sizes z t) (g : Kinds) (n : ℕ) (few : Few g) where
  held_by : (h : Kinds) (r : Reading) (size most : ℕ) → (size ≤ most → (r ≡ reading_at z t h (next n)) × Few h) → (most < size → (r.case.full ≡ true) × Broken h) → Held z t h r
  held_by h r size most room none = told (leb size most) refl
    where
      told : (q : Bool) → leb size most ≡ q → Held z t h r
      told true e = let x = room (leb-true size most e) in inl (record { lines = next n; same = x.0; few = x.1 })
      told false e = inr (none (leb-false size most e))

  few-content : (c : List ℕ) (k : ℕ) (p : Plain k) → g k ≡ [] → length c ≤ size_of k p → Few (added k c g)
  few-content c k plain.registers e x = few-registers g c few e x
  few-content c k plain.kernel e x = few
  few-content c k plain.register_taint e x = few
  few-content c k plain.surface_taint e x = few
  few-content c k plain.memory_taint e x = few

  read_held : (f : List ℕ) → Good f → (repeats (kind_of f) || eqb (length (g (kind_of f))) 0) ≡ true → Held z t (added (kind_of f) (content_of f) g) (frame_read (kind_of f) f (reading_at z t g n))
  unfolding repeats
  read_held f (good.content k p c) q =
      let e = plain-first k (g k) p q in
      held_by _ _ (length c) (size_of k p)
      (λ x. (content-read z t g n c k p e (omega (arith, x, s.contents k p)), few-content c k p e x))
      (λ x. (content-full z t g n c k p e (omega (arith, x, s.contents k p)), broken.content k p (subst (λ (l : List ℕ). size_of k p < length l) (sym (first-added k c g e)) x)))
  read_held f (good.memory c eight) q =
      let e = none_yet (g 5) q in
      held_by _ _ (length (memory_of c)) 4096
      (λ x. (memory-read z t g n c e eight (omega (arith, x, s.memory)), few-memory g c few e x))
      (λ x. (memory-full z t g n c e eight (omega (arith, x, s.memory)), broken.memory (rw (first-new (g 5) c e) x)))
  read_held f (good.mask c four) q = inl (record { lines = next n; same = mask-read z t g n c (none_yet (g 6) q) four; few = few })
  read_held f (good.register_size c one) q = inl (record { lines = next n; same = register-size-read z t g n c (none_yet (g 11) q) one; few = few })
  read_held f (good.variable c five) q =
      held_by _ _ (length (g 2) + 1) 256
      (λ x. (variable-read z t g n c five (omega (arith, x, s.types)) (omega (arith, x, s.starts)) (omega (arith, x, s.counts)), few-variables g c few (omega (arith, x))))
      (λ x. (variable-full z t g n c five (omega (arith, x, few.variables-few, s.types)), broken.variables (one-over (g 2) c 256 (omega (arith, x)))))
  read_held f (good.predicate c long) q =
      held_by _ _ (length (g 3) + 1) 64
      (λ x. (predicate-read z t g n c long (omega (arith, x, s.predicate_bits)) (omega (arith, x, s.predicate_counts)), few-predicates g c few (omega (arith, x))))
      (λ x. (predicate-full z t g n c long (omega (arith, x, few.predicates-few, s.predicate_bits)), broken.predicates (one-over (g 3) c 64 (omega (arith, x)))))
  read_held f (good.surface c) q = told (leb (length c) 1024) refl
    where
      told : (b : Bool) → leb (length c) 1024 ≡ b → Held z t (added 4 c g) (frame_read 4 (4 ∷ c) (reading_at z t g n))
      told true e =
          let small = leb-true (length c) 1024 e in
          held_by _ _ (length (g 4) + 1) 8
          (λ x. (surface-read z t g n c small (omega (arith, x, s.lengths)) (omega (arith, x, small, few.bytes_small, s.surfaces)), few-surfaces g c few (omega (arith, x)) small))
          (λ x. (surface-full z t g n c small (omega (arith, x, few.surfaces-few, s.lengths)), broken.surfaces (one-over (g 4) c 8 (omega (arith, x)))))
      told false e =
          let long = leb-false (length c) 1024 e in
          inr (surface-long z t g n c long, broken.surface (length (g 4)) (one-over (g 4) c (length (g 4)) (omega arith)) (long-one (g 4) c long))

pub frame-held : (z : Contents) (t : Tables) → Sizes z t → (g : Kinds) (r : Reading) → Kept z t g r → (f : List ℕ) → Good f →
    (repeats (kind_of f) || eqb (length (g (kind_of f))) 0) ≡ true → Held z t (added (kind_of f) (content_of f) g) (frame_read (kind_of f) f r)
frame-held z t s g r k f good once =
    subst (λ (x : Reading). Held z t (added (kind_of f) (content_of f) g) (frame_read (kind_of f) f x)) (sym k.same) (read_held z t s g k.lines k.few f good once)
