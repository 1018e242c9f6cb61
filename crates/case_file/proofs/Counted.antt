-- A good frame leaves no line bad and a full case full, and is counted: of the kinds that come once at most the loader's counters are the frames'.
use mathlib.Core.Path.{◌≡◌, refl, sym, ap, ◌∙◌}
use mathlib.Core.Bool.{Bool, true, false, cond, true≢false, ◌&&◌, ◌||◌}
use mathlib.Core.List.{List, [], ◌∷◌, ◌++◌}
use Prim.Native.Nat.{ℕ, ◌<◌}
use native.Mathlib.Omega.{arith}
use lib.ListN.{length, get_or, set, length-set}
use lib.Seq.{get_or-set_same, get_or-set_other, set-get_or}
use lib.Dec.{eqb, ltb, leb}
use borrow.Author.Tests.{lt-ltb, le-ltb, eqb-true, eqb-false}
use Rattle.hex_text.specs.Storing.{fits}
use Rattle.hex_text.proofs.DigitLaws.{cond_both}
use Rattle.tally.specs.declared.Case.{Case}
use Rattle.tally.specs.Mirror.Reading.{Reading}
use Rattle.tally.specs.Mirror.Lines.{KINDS, next, good_line, met_of, length_of, counted, sized, based, masked, registers_sized}
use Rattle.table_frames.specs.Mirror.Repeated.{Variables, variable_read, Predicates, predicate_sized, predicate_read, Surfaces, surface_read}
use Rattle.once_frames.specs.Mirror.Once.{content_read, memory_read, mask_read, register_size_read, once_read}
use Rattle.frames.specs.Mirror.Frames.{frame_read}
use Rattle.case_file.specs.Frames.{kind_of, content_of}
use Rattle.case_file.specs.BadLine.{repeats}
use Rattle.case_file.proofs.ByKind.{Kinds, added, none_yet}
use Rattle.case_file.proofs.Plain as plain
use Rattle.case_file.proofs.Plain.{Plain, plain-listed, plain-once, either_true}
use Rattle.case_file.proofs.Good as good
use Rattle.case_file.proofs.Good.{Good, four_or_five}

-- what a good frame of this kind makes of a case
record Made (kind : ℕ) (c d : Case) : Type 0 where
  bad : d.bad ≡ c.bad
  lines : d.lines ≡ next c.lines
  full : c.full ≡ true → d.full ≡ true
  count : ℕ
  met : d.met ≡ set c.met kind count
  once : repeats kind ≡ false → count ≡ 1

stays : (a b : Bool) → a ≡ true → (a || b) ≡ true
stays a b e = rw e refl

-- one more of a kind that repeats, or one for which there is no room
again : (kind n : ℕ) (c : Case) → repeats kind ≡ true → Made kind c (counted kind n (good_line true c))
unfolding counted good_line
again kind n c h = record { bad = refl; lines = refl; full = stays c.full false; count = n; met = refl; once = λ e. absurd (true≢false (sym h ∙ e)) }

uncounted : (kind : ℕ) (c : Case) → repeats kind ≡ true → Made kind c (good_line false c)
unfolding good_line
uncounted kind c h =
    record { bad = refl; lines = refl; full = stays c.full true; count = get_or c.met kind 0; met = sym (set-get_or c.met kind 0); once = λ e. absurd (true≢false (sym h ∙ e)) }

-- the first of a kind
first : (kind : ℕ) (fit : Bool) (c : Case) → Made kind c (counted kind 1 (good_line fit c))
unfolding counted good_line
first kind fit c = record { bad = refl; lines = refl; full = stays c.full _; count = 1; met = refl; once = λ _. refl }

module _ (kind : ℕ) (c d : Case) (m : Made kind c d) where
  with_size : (k n : ℕ) → Made kind c (sized k n d)
  unfolding sized
  with_size k n = record { bad = m.bad; lines = m.lines; full = m.full; count = m.count; met = m.met; once = m.once }

  with-base : (n : ℕ) → Made kind c (based n d)
  unfolding based
  with-base n = record { bad = m.bad; lines = m.lines; full = m.full; count = m.count; met = m.met; once = m.once }

  with-mask : (n : ℕ) → Made kind c (masked n d)
  unfolding masked
  with-mask n = record { bad = m.bad; lines = m.lines; full = m.full; count = m.count; met = m.met; once = m.once }

  with-register-size : (n : ℕ) → Made kind c (registers_sized n d)
  unfolding registers_sized
  with-register-size n = record { bad = m.bad; lines = m.lines; full = m.full; count = m.count; met = m.met; once = m.once }

module _ (r : Reading) where
  abbrev M : ℕ → Case → Type 0
  M kind d = Made kind r.case d

  content-made : (kind n : ℕ) (fit : Bool) → M kind (sized kind n (counted kind 1 (good_line fit r.case)))
  content-made kind n fit = with_size kind r.case _ (first kind fit r.case) kind n

  variable-made : (c : List ℕ) → length c ≡ 5 → M 2 (frame_read 2 (2 ∷ c) r).case
  unfolding frame_read variable_read repeats
  variable-made c five =
      rw five
      (cond_both (λ (v : Variables). M 2 v.case)
      (ltb (met_of 2 r.case) (length r.tables.types) && ltb (met_of 2 r.case) (length r.tables.starts) && ltb (met_of 2 r.case) (length r.tables.counts))
      (λ _. again 2 _ r.case refl) (λ _. uncounted 2 r.case refl))

  predicate-made : (c : List ℕ) → four_or_five c ≡ true → M 3 (frame_read 3 (3 ∷ c) r).case
  unfolding frame_read predicate_read predicate_sized repeats
  predicate-made c long =
      rw long
      (cond_both (λ (p : Predicates). M 3 p.case)
      (ltb (met_of 3 r.case) (length r.tables.predicate_bits) && ltb (met_of 3 r.case) (length r.tables.predicate_counts))
      (λ _. again 3 _ r.case refl) (λ _. uncounted 3 r.case refl))

  surface-made : (c : List ℕ) → M 4 (frame_read 4 (4 ∷ c) r).case
  unfolding frame_read surface_read repeats
  surface-made c =
      let P : Surfaces → Type 0 = λ s. M 4 s.case in
      cond_both P (leb (length c) 1024 && ltb (met_of 4 r.case) (length r.tables.lengths))
      (λ _. cond_both P (fits c (length_of 4 r.case) r.tables.surfaces)
      (λ _. with_size 4 r.case _ (again 4 _ r.case refl) 4 _) (λ _. uncounted 4 r.case refl))
      (λ _. uncounted 4 r.case refl)

  plain-made : (k : ℕ) (p : Plain k) (c : List ℕ) → met_of k r.case ≡ 0 → M k (frame_read k (k ∷ c) r).case
  unfolding frame_read once_read content_read
  plain-made k plain.registers c none = rw none (content-made 1 (length c) _)
  plain-made k plain.kernel c none = rw none (content-made 7 (length c) _)
  plain-made k plain.register_taint c none = rw none (content-made 8 (length c) _)
  plain-made k plain.surface_taint c none = rw none (content-made 9 (length c) _)
  plain-made k plain.memory_taint c none = rw none (content-made 10 (length c) _)

  frame_made : (f : List ℕ) → Good f → (repeats (kind_of f) ≡ false → met_of (kind_of f) r.case ≡ 0) → M (kind_of f) (frame_read (kind_of f) f r).case
  unfolding frame_read once_read content_read memory_read mask_read register_size_read repeats
  frame_made f (good.content k p c) none = plain-made k p c (none (plain-once k p))
  frame_made f (good.variable c five) none = variable-made c five
  frame_made f (good.predicate c long) none = predicate-made c long
  frame_made f (good.surface c) none = surface-made c
  frame_made f (good.memory c eight) none = rw (none refl, le-ltb (length c) 8 eight) (with-base 5 r.case _ (content-made 5 _ _) _)
  frame_made f (good.mask c four) none = rw (none refl, four) (with-mask 6 r.case _ (first 6 true r.case) _)
  frame_made f (good.register_size c one) none = rw (none refl, one) (with-register-size 11 r.case _ (first 11 true r.case) _)

-- what decides which line is bad: how many lines there were, and how many frames of the kinds that come once at most
pub record Judges (g : Kinds) (n : ℕ) (c : Case) : Type 0 where
  pub places : length c.met ≡ KINDS
  pub met : (k : ℕ) → k < KINDS → repeats k ≡ false → met_of k c ≡ length (g k)
  pub bad : c.bad ≡ 0
  pub lines : c.lines ≡ n

listed : (f : List ℕ) → Good f → kind_of f < KINDS
listed f (good.content k p c) = plain-listed k p
listed f (good.variable c e) = omega arith
listed f (good.predicate c e) = omega arith
listed f (good.surface c) = omega arith
listed f (good.memory c e) = omega arith
listed f (good.mask c e) = omega arith
listed f (good.register_size c e) = omega arith

met_at : (k : ℕ) (c : Case) → k < KINDS → met_of k c ≡ get_or c.met k 0
unfolding met_of
met_at k c h = rw (lt-ltb k KINDS h) refl

module _ (kind : ℕ) (content : List ℕ) (g : Kinds) (n : ℕ) (c d : Case) (j : Judges g n c) (m : Made kind c d) (none : repeats kind ≡ false → g kind ≡ []) where
  met-more : (k : ℕ) → k < KINDS → repeats k ≡ false → met_of k d ≡ length (added kind content g k)
  met-more k h once = met_at k d h ∙ (ap (λ (l : List ℕ). get_or l k 0) m.met ∙ told (eqb kind k) refl)
    where
      told : (q : Bool) → eqb kind k ≡ q → get_or (set c.met kind m.count) k 0 ≡ length (cond q (g k ++ (content ∷ [])) (g k))
      told true e =
          let same : kind ≡ k = eqb-true kind k e in
          let single : repeats kind ≡ false = ap repeats same ∙ once in
          ap (λ (i : ℕ). get_or (set c.met kind m.count) i 0) (sym same)
          ∙ (get_or-set_same c.met kind m.count 0 (omega (arith, h, same, j.places))
          ∙ (m.once single ∙ sym (ap (λ (l : List (List ℕ)). length (l ++ (content ∷ []))) (ap g (sym same) ∙ none single))))
      told false e =
          let other : (k ≡ kind) → ⊥ = λ x. eqb-false kind k e (sym x) in
          get_or-set_other c.met kind k m.count 0 other ∙ (sym (met_at k c h) ∙ j.met k h once)

  judges-more : Judges (added kind content g) (next n) d
  judges-more =
      record {
        places = ap length m.met ∙ (length-set c.met kind m.count ∙ j.places);
        met = met-more;
        bad = m.bad ∙ j.bad;
        lines = m.lines ∙ ap next j.lines;
      }

module _ (g : Kinds) (n : ℕ) (r : Reading) (j : Judges g n r.case) (f : List ℕ) (good : Good f) (once : (repeats (kind_of f) || eqb (length (g (kind_of f))) 0) ≡ true) where
  none_before : repeats (kind_of f) ≡ false → g (kind_of f) ≡ []
  none_before e = none_yet (g (kind_of f)) (either_true (repeats (kind_of f)) _ once e)

  made : Made (kind_of f) r.case (frame_read (kind_of f) f r).case
  made = frame_made r f good (λ e. j.met (kind_of f) (listed f good) e ∙ ap (λ (l : List (List ℕ)). length l) (none_before e))

  pub frame-judges : Judges (added (kind_of f) (content_of f) g) (next n) (frame_read (kind_of f) f r).case
  frame-judges = judges-more (kind_of f) (content_of f) g n r.case (frame_read (kind_of f) f r).case j made none_before

  pub frame-full : r.case.full ≡ true → (frame_read (kind_of f) f r).case.full ≡ true
  frame-full = made.full
