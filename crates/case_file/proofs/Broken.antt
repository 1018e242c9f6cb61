-- What has no room in the loader's buffers breaks a size: with it, and whatever follows, the case is number 13.
use mathlib.Core.Path.{◌≡◌, refl}
use mathlib.Core.Bool.{Bool, true, false, cond}
use mathlib.Core.List.{List, [], ◌∷◌, ◌++◌, map, map-append}
use Prim.Native.Nat.{ℕ, ◌≤◌, ◌<◌}
use native.Mathlib.Omega.{arith}
use lib.ListN.{length, get_or, get_or-append}
use lib.Dec.{eqb}
use Rattle.tables.specs.Tables.{tables_good}
use Rattle.tables.proofs.Laws.{limited, counted, surface-small, surfaces-small}
use Rattle.surface_table.proofs.SurfacePlaces.{length-is}
use Rattle.step.specs.State.{lengths_of}
use Rattle.case_file.specs.Frames.{of_kind, first_of}
use Rattle.case_file.specs.Case.{type_of, dword_of, memory_of, marks_of, case_setup, case_state}
use Rattle.case_file.proofs.Padded.{length-map}
use Rattle.case_file.proofs.ByKind.{Kinds, kinds_of, added, one_more}
use Rattle.case_file.proofs.Plain as plain
use Rattle.case_file.proofs.Plain.{Plain, size_of}

pub data Broken (g : Kinds) : Type 0 where
  content : (k : ℕ) (p : Plain k) → size_of k p < length (first_of (g k)) → Broken g
  variables : 256 < length (g 2) → Broken g
  predicates : 64 < length (g 3) → Broken g
  surfaces : 8 < length (g 4) → Broken g
  surface : (k : ℕ) → k < length (g 4) → 1024 < get_or (map length (g 4)) k 0 → Broken g
  memory : 4096 < length (memory_of (first_of (g 5))) → Broken g

-- marks that are there have their own length
marks-long : (most : ℕ) (cs : List (List ℕ)) (bytes : List ℕ) → most < length (first_of cs) → length (marks_of cs bytes) ≡ length bytes → length bytes ≤ most → ⊥
unfolding first_of marks_of
marks-long most [] bytes h e k = omega arith
marks-long most (c ∷ cs) bytes h e k = omega arith

module _ (frames : List (List ℕ)) where
  abbrev good : Bool
  good = tables_good (lengths_of (case_setup frames) (case_state frames)) (case_setup frames).tables

  content-refuted : (k : ℕ) (p : Plain k) → size_of k p < length (first_of (of_kind k frames)) → good ≡ true → ⊥
  unfolding case_setup case_state
  content-refuted k plain.registers h e = omega (arith, h, (limited _ _ e).registers-small)
  content-refuted k plain.kernel h e = omega (arith, h, (limited _ _ e).kernel-small)
  content-refuted k plain.register_taint h e = let l = limited _ _ e in marks-long 4096 (of_kind 8 frames) _ h l.registers-taint l.registers-small
  content-refuted k plain.surface_taint h e = marks-long 8192 (of_kind 9 frames) _ h (limited _ _ e).surfaces-taint (surfaces-small _ _ e)
  content-refuted k plain.memory_taint h e = let l = limited _ _ e in marks-long 4096 (of_kind 10 frames) _ h l.memory-taint l.memory-small

  refuted : Broken (kinds_of frames) → good ≡ true → ⊥
  unfolding case_setup case_state
  refuted (content k p h) e = content-refuted k p h e
  refuted (variables h) e = omega (arith, h, (counted _ _ e).variables-few, length-map type_of (of_kind 2 frames))
  refuted (predicates h) e = omega (arith, h, (counted _ _ e).predicates-few, length-map dword_of (of_kind 3 frames))
  refuted (surfaces h) e = omega (arith, h, (counted _ _ e).surfaces-few, length-map {A = List ℕ} length (of_kind 4 frames))
  refuted (surface k h m) e =
      omega (arith, m, length-is (record { lengths = map length (of_kind 4 frames) }) k, surface-small _ _ e k (rw (length-map {A = List ℕ} length (of_kind 4 frames)) h))
  refuted (memory h) e = omega (arith, h, (limited _ _ e).memory-small)

  pub broken-bad : Broken (kinds_of frames) → good ≡ false
  broken-bad b = told good refl
    where
      told : (q : Bool) → good ≡ q → q ≡ false
      told false e = refl
      told true e = absurd (refuted b e)

-- a frame more mends nothing, whatever its kind
module _ (q : Bool) (c : List ℕ) where
  abbrev more : List (List ℕ) → List (List ℕ)
  more l = cond q (l ++ (c ∷ [])) l

  first_more : (P : List ℕ → Type 0) (l : List (List ℕ)) → (P [] → ⊥) → P (first_of l) → P (first_of (more l))
  unfolding first_of
  first_more P [] none p = absurd (none p)
  first_more P (x ∷ l) none p = kept q
    where
      kept : (b : Bool) → P (first_of (cond b ((x ∷ l) ++ (c ∷ [])) (x ∷ l)))
      kept true = p
      kept false = p

  long-more : (most : ℕ) (l : List (List ℕ)) → most < length (first_of l) → most < length (first_of (more l))
  long-more most l = first_more (λ (x : List ℕ). most < length x) l (λ (h : most < length {A = ℕ} []). omega arith)

count-more : (q : Bool) (c : List ℕ) (most : ℕ) (l : List (List ℕ)) → most < length l → most < length (more q c l)
count-more true c most l h = omega (arith, h, one_more l c)
count-more false c most l h = h

length-stays : (q : Bool) (c : List ℕ) (k : ℕ) (l : List (List ℕ)) → k < length l → get_or (map {A = List ℕ} length (more q c l)) k 0 ≡ get_or (map {A = List ℕ} length l) k 0
length-stays true c k l h =
    rw (map-append {A = List ℕ} length l (c ∷ [])) (get_or-append (map length l) (length c ∷ []) 0 k (omega (arith, h, length-map {A = List ℕ} length l)))
length-stays false c k l h = refl

no-memory : 4096 < length (memory_of []) → ⊥
unfolding memory_of
no-memory h = omega arith

pub broken-more : (kind : ℕ) (c : List ℕ) (g : Kinds) → Broken g → Broken (added kind c g)
broken-more kind c g (content k p x) = content k p (long-more (eqb kind k) c (size_of k p) (g k) x)
broken-more kind c g (variables x) = variables (count-more (eqb kind 2) c 256 (g 2) x)
broken-more kind c g (predicates x) = predicates (count-more (eqb kind 3) c 64 (g 3) x)
broken-more kind c g (surfaces x) = surfaces (count-more (eqb kind 4) c 8 (g 4) x)
broken-more kind c g (surface k x y) = surface k (count-more (eqb kind 4) c k (g 4) x) (rw (length-stays (eqb kind 4) c k (g 4) x) y)
broken-more kind c g (memory x) = memory (first_more (eqb kind 5) c (λ (l : List ℕ). 4096 < length (memory_of l)) (g 5) no-memory x)
