-- One more frame: where its content has room, the loader holds what the frames say; where it has none, the case is full.
use mathlib.Core.Path.{◌≡◌, refl, sym, ap, ◌∙◌}
use mathlib.Core.Bool.{true, false}
use mathlib.Core.List.{List, [], ◌∷◌, ◌++◌, map, append-nil, append_assoc, flatten}
use Prim.Native.Nat.{ℕ, zero, suc, ◌+◌, ◌*◌, ◌≤◌, ◌<◌}
use native.Mathlib.Omega.{arith}
use lib.ListN.{length, get_or, drop, length-append}
use lib.Dec.{ltb}
use borrow.Author.Tests.{lt-ltb, le-leb, le-ltb, lt-leb}
use Rattle.little_endian.specs.LittleEndian.{number_at}
use Rattle.tally.specs.Mirror.Reading.{Contents, Tables}
use Rattle.tally.specs.Mirror.Lines.{next, good_line, met_of, length_of, counted, sized, based, masked, registers_sized}
use Rattle.table_frames.specs.Mirror.Repeated.{variable_read, predicate_sized, predicate_count, predicate_read, surface_read}
use Rattle.once_frames.specs.Mirror.Once.{content_read, memory_read, mask_read, register_size_read, once_read}
use Rattle.frames.specs.Mirror.Frames.{frame_read}
use Rattle.case_file.specs.Frames.{first_of}
use Rattle.case_file.specs.Case.{type_of, start_of, count_of, dword_of, predicate_count_of, base_of, memory_of, register_size_of}
use Rattle.case_file.proofs.Padded.{padded, fits-padded, stored-padded, fits-once, stored-once, no_room, length-table, set-table}
use Rattle.case_file.proofs.ByKind.{Kinds, added, one_more}
use Rattle.case_file.proofs.Plain as plain
use Rattle.case_file.proofs.Plain.{Plain, buffer_of}
use Rattle.case_file.proofs.Good.{four_or_five}
use Rattle.case_file.proofs.Loaded.{reading_at}

-- the loader reads a content where it stands behind its kind
number_behind : (n x : ℕ) (l : List ℕ) (at : ℕ) → number_at n (x ∷ l) (suc at) ≡ number_at n l at
unfolding number_at
number_behind zero x l at = refl
number_behind (suc n) x l at = ap (λ (m : ℕ). get_or l at 0 + 256 * m) (number_behind n x l (suc at))

type-behind : (c : List ℕ) → get_or c 0 0 ≡ type_of c
unfolding type_of
type-behind c = refl

start-behind : (x : ℕ) (c : List ℕ) → number_at 2 (x ∷ c) 2 ≡ start_of c
unfolding start_of
start-behind x c = number_behind 2 x c 1

count-behind : (x : ℕ) (c : List ℕ) → number_at 2 (x ∷ c) 4 ≡ count_of c
unfolding count_of
count-behind x c = number_behind 2 x c 3

dword-behind : (x : ℕ) (c : List ℕ) → number_at 4 (x ∷ c) 1 ≡ dword_of c
unfolding dword_of
dword-behind x c = number_behind 4 x c 0

elements-behind : (x : ℕ) (c : List ℕ) → predicate_count (x ∷ c) ≡ predicate_count_of c
unfolding predicate_count predicate_count_of
elements-behind x c = refl

base-behind : (x : ℕ) (c : List ℕ) → number_at 8 (x ∷ c) 1 ≡ base_of c
unfolding base_of
base-behind x c = number_behind 8 x c 0

memory-behind : (c : List ℕ) → drop 8 c ≡ memory_of c
unfolding memory_of
memory-behind c = refl

memory-none : memory_of [] ≡ []
unfolding memory_of
memory-none = refl

pub flatten-more : (cs : List (List ℕ)) (c : List ℕ) → flatten (cs ++ (c ∷ [])) ≡ flatten cs ++ c
unfolding flatten
flatten-more [] c = append-nil c
flatten-more (x ∷ cs) c = ap (λ (l : List ℕ). x ++ l) (flatten-more cs c) ∙ sym (append_assoc x (flatten cs) c)

module _ (z : Contents) (t : Tables) (g : Kinds) (n : ℕ) (c : List ℕ) where
  -- a content of bytes, with room for it and without
  pub content-read : (k : ℕ) (p : Plain k) → g k ≡ [] → length c ≤ length (buffer_of k p z) → frame_read k (k ∷ c) (reading_at z t g n) ≡ reading_at z t (added k c g) (next n)
  unfolding frame_read once_read content_read met_of counted sized good_line first_of
  content-read k plain.registers e room = rw (e, fits-once z.registers c room, stored-once z.registers c room) refl
  content-read k plain.kernel e room = rw (e, fits-once z.kernel c room, stored-once z.kernel c room) refl
  content-read k plain.register_taint e room = rw (e, fits-once z.register_taint c room, stored-once z.register_taint c room) refl
  content-read k plain.surface_taint e room = rw (e, fits-once z.surface_taint c room, stored-once z.surface_taint c room) refl
  content-read k plain.memory_taint e room = rw (e, fits-once z.memory_taint c room, stored-once z.memory_taint c room) refl

  pub content-full : (k : ℕ) (p : Plain k) → g k ≡ [] → length (buffer_of k p z) < length c → (frame_read k (k ∷ c) (reading_at z t g n)).case.full ≡ true
  unfolding frame_read once_read content_read met_of counted sized good_line first_of
  content-full k plain.registers e h = rw (e, no_room z.registers c h) refl
  content-full k plain.kernel e h = rw (e, no_room z.kernel c h) refl
  content-full k plain.register_taint e h = rw (e, no_room z.register_taint c h) refl
  content-full k plain.surface_taint e h = rw (e, no_room z.surface_taint c h) refl
  content-full k plain.memory_taint e h = rw (e, no_room z.memory_taint c h) refl

  pub memory-read : g 5 ≡ [] → 8 ≤ length c → length (memory_of c) ≤ length z.memory → frame_read 5 (5 ∷ c) (reading_at z t g n) ≡ reading_at z t (added 5 c g) (next n)
  unfolding frame_read once_read memory_read content_read met_of counted sized based good_line first_of
  memory-read e eight room =
      rw (e, le-ltb (length c) 8 eight, memory-behind c, memory-none, base-behind 5 c, fits-once z.memory (memory_of c) room, stored-once z.memory (memory_of c) room) refl

  pub memory-full : g 5 ≡ [] → 8 ≤ length c → length z.memory < length (memory_of c) → (frame_read 5 (5 ∷ c) (reading_at z t g n)).case.full ≡ true
  unfolding frame_read once_read memory_read content_read met_of counted sized based good_line first_of
  memory-full e eight h = rw (e, le-ltb (length c) 8 eight, memory-behind c, memory-none, no_room z.memory (memory_of c) h) refl

  pub mask-read : g 6 ≡ [] → length c ≡ 4 → frame_read 6 (6 ∷ c) (reading_at z t g n) ≡ reading_at z t (added 6 c g) (next n)
  unfolding frame_read once_read mask_read met_of counted masked good_line first_of
  mask-read e four = rw (e, four, dword-behind 6 c) refl

  pub register-size-read : g 11 ≡ [] → length c ≡ 1 → frame_read 11 (11 ∷ c) (reading_at z t g n) ≡ reading_at z t (added 11 c g) (next n)
  unfolding frame_read once_read register_size_read met_of counted registers_sized good_line register_size_of
  register-size-read e one = rw (e, one) refl

  pub variable-read : length c ≡ 5 → length (g 2) < length t.types → length (g 2) < length t.starts → length (g 2) < length t.counts →
      frame_read 2 (2 ∷ c) (reading_at z t g n) ≡ reading_at z t (added 2 c g) (next n)
  unfolding frame_read variable_read met_of counted good_line
  variable-read five r₁ r₂ r₃ =
      rw (five, length-table type_of t.types (g 2) (omega (arith, r₁)), length-table start_of t.starts (g 2) (omega (arith, r₂)), length-table count_of t.counts (g 2) (omega (arith, r₃)), lt-ltb _ _ r₁, lt-ltb _ _ r₂, lt-ltb _ _ r₃, one_more (g 2) c, ← set-table type_of t.types (g 2) c r₁, ← set-table start_of t.starts (g 2) c r₂, ← set-table count_of t.counts (g 2) c r₃, type-behind c, start-behind 2 c, count-behind 2 c) refl

  pub variable-full : length c ≡ 5 → length (g 2) ≡ length t.types → (frame_read 2 (2 ∷ c) (reading_at z t g n)).case.full ≡ true
  unfolding frame_read variable_read met_of counted good_line
  variable-full five h =
      let l = padded t.types (map type_of (g 2)) in
      let r : ltb (length (g 2)) (length l) ≡ false = le-ltb (length (g 2)) (length l) (omega (arith, h, length-table type_of t.types (g 2) (omega (arith, h)))) in
      rw (five, r) refl

  pub predicate-read : four_or_five c ≡ true → length (g 3) < length t.predicate_bits → length (g 3) < length t.predicate_counts →
      frame_read 3 (3 ∷ c) (reading_at z t g n) ≡ reading_at z t (added 3 c g) (next n)
  unfolding frame_read predicate_read predicate_sized met_of counted good_line
  predicate-read long r₁ r₂ =
      rw (long, length-table dword_of t.predicate_bits (g 3) (omega (arith, r₁)), length-table predicate_count_of t.predicate_counts (g 3) (omega (arith, r₂)), lt-ltb _ _ r₁, lt-ltb _ _ r₂, one_more (g 3) c, ← set-table dword_of t.predicate_bits (g 3) c r₁, ← set-table predicate_count_of t.predicate_counts (g 3) c r₂, dword-behind 3 c, elements-behind 3 c) refl

  pub predicate-full : four_or_five c ≡ true → length (g 3) ≡ length t.predicate_bits → (frame_read 3 (3 ∷ c) (reading_at z t g n)).case.full ≡ true
  unfolding frame_read predicate_read predicate_sized met_of counted good_line
  predicate-full long h =
      let l = padded t.predicate_bits (map dword_of (g 3)) in
      let r : ltb (length (g 3)) (length l) ≡ false = le-ltb (length (g 3)) (length l) (omega (arith, h, length-table dword_of t.predicate_bits (g 3) (omega (arith, h)))) in
      rw (long, r) refl

  pub surface-read : length c ≤ 1024 → length (g 4) < length t.lengths → length (flatten (g 4)) + length c ≤ length t.surfaces →
      frame_read 4 (4 ∷ c) (reading_at z t g n) ≡ reading_at z t (added 4 c g) (next n)
  unfolding frame_read surface_read met_of length_of counted sized good_line
  surface-read small r₁ r₂ =
      rw (le-leb _ _ small, length-table {A = List ℕ} length t.lengths (g 4) (omega (arith, r₁)), lt-ltb _ _ r₁, fits-padded t.surfaces (flatten (g 4)) c r₂, stored-padded t.surfaces (flatten (g 4)) c r₂, one_more (g 4) c, flatten-more (g 4) c, length-append (flatten (g 4)) c, ← set-table {A = List ℕ} length t.lengths (g 4) c r₁) refl

  pub surface-long : 1024 < length c → (frame_read 4 (4 ∷ c) (reading_at z t g n)).case.full ≡ true
  unfolding frame_read surface_read met_of length_of counted sized good_line
  surface-long h = rw (lt-leb (length c) 1024 h) refl

  pub surface-full : length c ≤ 1024 → length (g 4) ≡ length t.lengths → (frame_read 4 (4 ∷ c) (reading_at z t g n)).case.full ≡ true
  unfolding frame_read surface_read met_of length_of counted sized good_line
  surface-full small h =
      let l = padded t.lengths (map length (g 4)) in
      let r : ltb (length (g 4)) (length l) ≡ false = le-ltb (length (g 4)) (length l) (omega (arith, h, length-table {A = List ℕ} length t.lengths (g 4) (omega (arith, h)))) in
      rw (le-leb (length c) 1024 small, r) refl
