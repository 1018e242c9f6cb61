-- Buffers that keep their lengths; and that whatever is fed, each of them does.
use mathlib.Core.Path.{◌≡◌, refl, sym, ap, subst, ◌∙◌}
use mathlib.Core.Bool.{◌&&◌}
use mathlib.Core.List.{List, [], ◌∷◌}
use Prim.Native.Nat.{ℕ}
use lib.Dec.{ltb, leb, eqb}
use lib.ListN.{length, get_or, take, drop, length-set}
use Rattle.hex_text.specs.Bytes.{is_hex, hex_bytes}
use Rattle.hex_text.specs.Storing.{fits, stored}
use Rattle.hex_text.proofs.DigitLaws.{cond_both}
use Rattle.hex_text.proofs.StoringLaws.{length-placed}
use Rattle.tally.specs.declared.Case.{Case}
use Rattle.tally.specs.Mirror.Reading.{Contents, Reading, only}
use Rattle.tally.specs.Mirror.Lines.{bad_line, long_line, met_of, length_of}
use Rattle.table_frames.specs.Mirror.Repeated.{Variables, variables, variable_read, Predicates, predicates, predicate_sized, predicate_read, Surfaces, surfaces, surface_read}
use Rattle.once_frames.specs.Mirror.Once.{Kept as OneKept, kept, content_read, memory_read, Once, once, once_read}
use Rattle.frames.specs.Mirror.Frames.{frame_read, line_read}
use Rattle.line_blocks.specs.Mirror.Rows.{Row, pushed, is_begun}
use Rattle.feeding.specs.Mirror.Feeding.{Machine, ended, byte_fed, fed, finished}

pub record Kept (r s : Reading) : Type 0 where
  pub registers : length s.contents.registers ≡ length r.contents.registers
  pub memory : length s.contents.memory ≡ length r.contents.memory
  pub kernel : length s.contents.kernel ≡ length r.contents.kernel
  pub register_taint : length s.contents.register_taint ≡ length r.contents.register_taint
  pub surface_taint : length s.contents.surface_taint ≡ length r.contents.surface_taint
  pub memory_taint : length s.contents.memory_taint ≡ length r.contents.memory_taint
  pub types : length s.tables.types ≡ length r.tables.types
  pub starts : length s.tables.starts ≡ length r.tables.starts
  pub counts : length s.tables.counts ≡ length r.tables.counts
  pub predicate_bits : length s.tables.predicate_bits ≡ length r.tables.predicate_bits
  pub predicate_counts : length s.tables.predicate_counts ≡ length r.tables.predicate_counts
  pub surfaces : length s.tables.surfaces ≡ length r.tables.surfaces
  pub lengths : length s.tables.lengths ≡ length r.tables.lengths

-- the same as a call says it that was lent the thirteen buffers, and then a state, of which there is nothing to say
abbrev pub Told : Reading → Reading → Type 0
Told r s =
    (length s.contents.registers ≡ length r.contents.registers)
    × ((length s.contents.memory ≡ length r.contents.memory)
    × ((length s.contents.kernel ≡ length r.contents.kernel)
    × ((length s.contents.register_taint ≡ length r.contents.register_taint)
    × ((length s.contents.surface_taint ≡ length r.contents.surface_taint)
    × ((length s.contents.memory_taint ≡ length r.contents.memory_taint)
    × ((length s.tables.types ≡ length r.tables.types)
    × ((length s.tables.starts ≡ length r.tables.starts)
    × ((length s.tables.counts ≡ length r.tables.counts)
    × ((length s.tables.predicate_bits ≡ length r.tables.predicate_bits)
    × ((length s.tables.predicate_counts ≡ length r.tables.predicate_counts)
    × ((length s.tables.surfaces ≡ length r.tables.surfaces)
    × ((length s.tables.lengths ≡ length r.tables.lengths)
    × (Unit {0} × Unit {0})))))))))))))

-- with no call on the way
pub kept-none : (r : Reading) (case : Case) → Kept r (only case r)
kept-none r case =
    record { registers = refl; memory = refl; kernel = refl; register_taint = refl; surface_taint = refl; memory_taint = refl; types = refl; starts = refl; counts = refl; predicate_bits = refl; predicate_counts = refl; surfaces = refl; lengths = refl }

pub kept_more : (q r s : Reading) → Kept q r → Told r s → Kept q s
kept_more q r s k t =
    record {
      registers = t.0 ∙ k.registers;
      memory = t.1.0 ∙ k.memory;
      kernel = t.1.1.0 ∙ k.kernel;
      register_taint = t.1.1.1.0 ∙ k.register_taint;
      surface_taint = t.1.1.1.1.0 ∙ k.surface_taint;
      memory_taint = t.1.1.1.1.1.0 ∙ k.memory_taint;
      types = t.1.1.1.1.1.1.0 ∙ k.types;
      starts = t.1.1.1.1.1.1.1.0 ∙ k.starts;
      counts = t.1.1.1.1.1.1.1.1.0 ∙ k.counts;
      predicate_bits = t.1.1.1.1.1.1.1.1.1.0 ∙ k.predicate_bits;
      predicate_counts = t.1.1.1.1.1.1.1.1.1.1.0 ∙ k.predicate_counts;
      surfaces = t.1.1.1.1.1.1.1.1.1.1.1.0 ∙ k.surfaces;
      lengths = t.1.1.1.1.1.1.1.1.1.1.1.1.0 ∙ k.lengths;
    }

-- one after the other, and from the same buffers
kept-then : (q r s : Reading) → Kept q r → Kept r s → Kept q s
kept-then q r s k l =
    record {
      registers = l.registers ∙ k.registers;
      memory = l.memory ∙ k.memory;
      kernel = l.kernel ∙ k.kernel;
      register_taint = l.register_taint ∙ k.register_taint;
      surface_taint = l.surface_taint ∙ k.surface_taint;
      memory_taint = l.memory_taint ∙ k.memory_taint;
      types = l.types ∙ k.types;
      starts = l.starts ∙ k.starts;
      counts = l.counts ∙ k.counts;
      predicate_bits = l.predicate_bits ∙ k.predicate_bits;
      predicate_counts = l.predicate_counts ∙ k.predicate_counts;
      surfaces = l.surfaces ∙ k.surfaces;
      lengths = l.lengths ∙ k.lengths;
    }

kept-back : (q r s : Reading) → Kept q s → Kept r s → Kept q r
kept-back q r s k l =
    record {
      registers = sym l.registers ∙ k.registers;
      memory = sym l.memory ∙ k.memory;
      kernel = sym l.kernel ∙ k.kernel;
      register_taint = sym l.register_taint ∙ k.register_taint;
      surface_taint = sym l.surface_taint ∙ k.surface_taint;
      memory_taint = sym l.memory_taint ∙ k.memory_taint;
      types = sym l.types ∙ k.types;
      starts = sym l.starts ∙ k.starts;
      counts = sym l.counts ∙ k.counts;
      predicate_bits = sym l.predicate_bits ∙ k.predicate_bits;
      predicate_counts = sym l.predicate_counts ∙ k.predicate_counts;
      surfaces = sym l.surfaces ∙ k.surfaces;
      lengths = sym l.lengths ∙ k.lengths;
    }

-- ---- what a frame does to its own buffers

stored-length : (bytes : List ℕ) (at : ℕ) (buffer : List ℕ) → length (stored bytes at buffer) ≡ length buffer
unfolding stored
stored-length bytes at buffer = cond_both (λ (l : List ℕ). length l ≡ length buffer) (fits bytes at buffer) (λ _. length-placed buffer at bytes) (λ _. refl)

record VariablesKept (v w : Variables) : Type 0 where
  types : length w.types ≡ length v.types
  starts : length w.starts ≡ length v.starts
  counts : length w.counts ≡ length v.counts

variables-stay : (v : Variables) (c : Case) → VariablesKept v (variables c v.types v.starts v.counts)
variables-stay v c = record { types = refl; starts = refl; counts = refl }

variable-keeps : (bytes : List ℕ) (v : Variables) → VariablesKept v (variable_read bytes v)
unfolding variable_read
variable-keeps bytes v =
    let m = met_of 2 v.case in
    cond_both (VariablesKept v) (eqb (length (drop 1 bytes)) 5)
    (λ _. cond_both (VariablesKept v) (ltb m (length v.types) && ltb m (length v.starts) && ltb m (length v.counts))
    (λ _. record { types = length-set v.types m _; starts = length-set v.starts m _; counts = length-set v.counts m _ })
    (λ _. variables-stay v _))
    (λ _. variables-stay v _)

record PredicatesKept (p q : Predicates) : Type 0 where
  bits : length q.bits ≡ length p.bits
  counts : length q.counts ≡ length p.counts

predicates-stay : (p : Predicates) (c : Case) → PredicatesKept p (predicates c p.bits p.counts)
predicates-stay p c = record { bits = refl; counts = refl }

predicate-keeps : (bytes : List ℕ) (p : Predicates) → PredicatesKept p (predicate_read bytes p)
unfolding predicate_read
predicate-keeps bytes p =
    let m = met_of 3 p.case in
    cond_both (PredicatesKept p) (predicate_sized bytes)
    (λ _. cond_both (PredicatesKept p) (ltb m (length p.bits) && ltb m (length p.counts))
    (λ _. record { bits = length-set p.bits m _; counts = length-set p.counts m _ })
    (λ _. predicates-stay p _))
    (λ _. predicates-stay p _)

record SurfacesKept (s t : Surfaces) : Type 0 where
  bytes : length t.bytes ≡ length s.bytes
  lengths : length t.lengths ≡ length s.lengths

surfaces-stay : (s : Surfaces) (c : Case) → SurfacesKept s (surfaces c s.bytes s.lengths)
surfaces-stay s c = record { bytes = refl; lengths = refl }

surface-keeps : (bytes : List ℕ) (s : Surfaces) → SurfacesKept s (surface_read bytes s)
unfolding surface_read
surface-keeps bytes s =
    cond_both (SurfacesKept s) (leb (length (drop 1 bytes)) 1024 && ltb (met_of 4 s.case) (length s.lengths))
    (λ _. cond_both (SurfacesKept s) (fits (drop 1 bytes) (length_of 4 s.case) s.bytes)
    (λ _. record { bytes = stored-length (drop 1 bytes) (length_of 4 s.case) s.bytes; lengths = length-set s.lengths (met_of 4 s.case) _ })
    (λ _. surfaces-stay s _))
    (λ _. surfaces-stay s _)

content-keeps : (kind : ℕ) (bytes : List ℕ) (k : OneKept) → length (content_read kind bytes k).buffer ≡ length k.buffer
unfolding content_read
content-keeps kind bytes k = stored-length bytes 0 k.buffer

memory-keeps : (bytes : List ℕ) (k : OneKept) → length (memory_read bytes k).buffer ≡ length k.buffer
unfolding memory_read
memory-keeps bytes k = cond_both (λ (x : OneKept). length x.buffer ≡ length k.buffer) (ltb (length (drop 1 bytes)) 8) (λ _. refl) (λ _. content-keeps 5 (drop 9 bytes) k)

record ContentsKept (b c : Contents) : Type 0 where
  registers : length c.registers ≡ length b.registers
  memory : length c.memory ≡ length b.memory
  kernel : length c.kernel ≡ length b.kernel
  register_taint : length c.register_taint ≡ length b.register_taint
  surface_taint : length c.surface_taint ≡ length b.surface_taint
  memory_taint : length c.memory_taint ≡ length b.memory_taint

abbrev OnceKept : Once → Once → Type 0
OnceKept o p = ContentsKept o.contents p.contents

contents-stay : (b : Contents) → ContentsKept b b
contents-stay b = record { registers = refl; memory = refl; kernel = refl; register_taint = refl; surface_taint = refl; memory_taint = refl }

once-keeps : (kind : ℕ) (bytes : List ℕ) (o : Once) → OnceKept o (once_read kind bytes o)
unfolding once_read
once-keeps kind bytes o =
    let b = o.contents in
    cond_both (OnceKept o) (ltb 0 (met_of kind o.case)) (λ _. contents-stay b)
    (λ _. cond_both (OnceKept o) (eqb kind 1) (λ _. record { registers = content-keeps 1 (drop 1 bytes) (kept o.case b.registers); memory = refl; kernel = refl; register_taint = refl; surface_taint = refl; memory_taint = refl })
    (λ _. cond_both (OnceKept o) (eqb kind 5) (λ _. record { registers = refl; memory = memory-keeps bytes (kept o.case b.memory); kernel = refl; register_taint = refl; surface_taint = refl; memory_taint = refl })
    (λ _. cond_both (OnceKept o) (eqb kind 6) (λ _. contents-stay b)
    (λ _. cond_both (OnceKept o) (eqb kind 7) (λ _. record { registers = refl; memory = refl; kernel = content-keeps 7 (drop 1 bytes) (kept o.case b.kernel); register_taint = refl; surface_taint = refl; memory_taint = refl })
    (λ _. cond_both (OnceKept o) (eqb kind 8) (λ _. record { registers = refl; memory = refl; kernel = refl; register_taint = content-keeps 8 (drop 1 bytes) (kept o.case b.register_taint); surface_taint = refl; memory_taint = refl })
    (λ _. cond_both (OnceKept o) (eqb kind 9) (λ _. record { registers = refl; memory = refl; kernel = refl; register_taint = refl; surface_taint = content-keeps 9 (drop 1 bytes) (kept o.case b.surface_taint); memory_taint = refl })
    (λ _. cond_both (OnceKept o) (eqb kind 10) (λ _. record { registers = refl; memory = refl; kernel = refl; register_taint = refl; surface_taint = refl; memory_taint = content-keeps 10 (drop 1 bytes) (kept o.case b.memory_taint) })
    (λ _. cond_both (OnceKept o) (eqb kind 11) (λ _. contents-stay b)
    (λ _. contents-stay b)))))))))

-- ---- a frame, a line, a byte and a block

frame-keeps : (kind : ℕ) (bytes : List ℕ) (r : Reading) → Kept r (frame_read kind bytes r)
unfolding frame_read
frame-keeps kind bytes r =
    let v = variable-keeps bytes (variables r.case r.tables.types r.tables.starts r.tables.counts) in
    let p = predicate-keeps bytes (predicates r.case r.tables.predicate_bits r.tables.predicate_counts) in
    let s = surface-keeps bytes (surfaces r.case r.tables.surfaces r.tables.lengths) in
    let o = once-keeps kind bytes (once r.case r.contents) in
    cond_both (Kept r) (eqb kind 2) (λ _. record { registers = refl; memory = refl; kernel = refl; register_taint = refl; surface_taint = refl; memory_taint = refl; types = v.types; starts = v.starts; counts = v.counts; predicate_bits = refl; predicate_counts = refl; surfaces = refl; lengths = refl })
    (λ _. cond_both (Kept r) (eqb kind 3) (λ _. record { registers = refl; memory = refl; kernel = refl; register_taint = refl; surface_taint = refl; memory_taint = refl; types = refl; starts = refl; counts = refl; predicate_bits = p.bits; predicate_counts = p.counts; surfaces = refl; lengths = refl })
    (λ _. cond_both (Kept r) (eqb kind 4) (λ _. record { registers = refl; memory = refl; kernel = refl; register_taint = refl; surface_taint = refl; memory_taint = refl; types = refl; starts = refl; counts = refl; predicate_bits = refl; predicate_counts = refl; surfaces = s.bytes; lengths = s.lengths })
    (λ _. record { registers = o.registers; memory = o.memory; kernel = o.kernel; register_taint = o.register_taint; surface_taint = o.surface_taint; memory_taint = o.memory_taint; types = refl; starts = refl; counts = refl; predicate_bits = refl; predicate_counts = refl; surfaces = refl; lengths = refl })))

-- a line of any characters
pub line-kept : (line : List ℕ) (r : Reading) → Kept r (line_read line r)
unfolding line_read
line-kept line r =
    cond_both (Kept r) (ltb 0 r.case.bad) (λ _. kept-none r r.case)
    (λ _. cond_both (Kept r) (is_hex line) (λ _. frame-keeps (get_or (hex_bytes line) 0 0) (hex_bytes line) r) (λ _. kept-none r (bad_line r.case)))

ended-keeps : (m : Machine) → Kept m.reading (ended m).reading
unfolding ended
ended-keeps m = cond_both (Kept m.reading) m.row.long (λ _. kept-none m.reading (long_line m.reading.case)) (λ _. line-kept (take m.row.used m.row.line) m.reading)

ended-row : (m : Machine) → length (ended m).row.line ≡ length m.row.line
unfolding ended
ended-row m = refl

pushed-row : (b : ℕ) (w : Row) → length (pushed b w).line ≡ length w.line
unfolding pushed
pushed-row b w = cond_both (λ (x : Row). length x.line ≡ length w.line) (ltb w.used (length w.line)) (λ _. length-set w.line w.used b) (λ _. refl)

-- the line buffer and the thirteen others, of a machine before and after
pub record KeptAll (m n : Machine) : Type 0 where
  pub line : length n.row.line ≡ length m.row.line
  pub kept : Kept m.reading n.reading

byte-keeps : (b : ℕ) (m : Machine) → KeptAll m (byte_fed b m)
unfolding byte_fed
byte-keeps b m =
    cond_both (KeptAll m) (ltb 0 m.reading.case.bad) (λ _. record { line = refl; kept = kept-none m.reading m.reading.case })
    (λ _. cond_both (KeptAll m) (eqb b 10) (λ _. record { line = ended-row m; kept = ended-keeps m }) (λ _. record { line = pushed-row b m.row; kept = kept-none m.reading m.reading.case }))

-- whatever a machine is fed, no buffer has another length
pub fed-kept : (block : List ℕ) (m : Machine) → KeptAll m (fed block m)
unfolding fed
fed-kept [] m = record { line = refl; kept = kept-none m.reading m.reading.case }
fed-kept (b ∷ block) m =
    let n = byte_fed b m in
    let one = byte-keeps b m in
    let rest = fed-kept block n in
    record { line = rest.line ∙ one.line; kept = kept-then m.reading n.reading (fed block n).reading one.kept rest.kept }

-- nor at the end of the file
pub finished-kept : (m : Machine) → KeptAll m (finished m)
unfolding finished
finished-kept m =
    cond_both (KeptAll m) (is_begun m.row.used m.row.long) (λ _. record { line = ended-row m; kept = ended-keeps m }) (λ _. record { line = refl; kept = kept-none m.reading m.reading.case })

-- two machines that come to the same by feeding have buffers of the same lengths
pub fed-alike : (a b : List ℕ) (m n : Machine) → fed a n ≡ fed b m → KeptAll m n
fed-alike a b m n e =
    let first = fed-kept b m in
    let last = fed-kept a n in
    record {
      line = sym last.line ∙ (ap (λ (x : Machine). length x.row.line) e ∙ first.line);
      kept = kept-back m.reading n.reading (fed b m).reading first.kept (subst (λ (x : Machine). Kept n.reading x.reading) e last.kept);
    }
