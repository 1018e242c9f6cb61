-- Buffers cut to what was read.
use mathlib.Core.Path.{◌≡◌, sym, ap, ◌∙◌}
use mathlib.Core.Bool.{Bool, true, false, cond}
use mathlib.Core.List.{List, [], ◌∷◌}
use Prim.Native.Nat.{ℕ, zero, suc, min, ◌≤◌}
use native.Mathlib.Nat.{zero-min, min-zero, suc-min-suc, min-le_right}
use native.Mathlib.Omega.{arith}
use lib.Dec.{ltb}
use lib.ListN.{length, take, replicate, length-replicate}
use lib.Seq.{length-take-le}
use Rattle.little_endian.specs.LittleEndian.{Bytes}
use Rattle.tables.specs.Tables as whole
use Rattle.tally.specs.declared.Case.{Case}
use Rattle.tally.specs.Mirror.Reading.{contents, Tables, tables}
use Rattle.tally.specs.Mirror.Lines.{met_of, length_of}
use Rattle.tally.specs.Mirror.Verdicts.{taint_length}
use Rattle.step.specs.State.{setup, State, state}
use Rattle.run.specs.Run.{Outcome, run}
use Rattle.run.proofs.Within.{run-within}
use Rattle.answering.specs.Mirror.Setting.{setup_of, taint_of, state_of}

bytes_take : (n : ℕ) (l : List ℕ) → Bytes l → Bytes (take n l)
bytes_take zero l b k = omega arith
bytes_take (suc n) [] b k = omega arith
bytes_take (suc n) (x ∷ l) b zero = b 0
bytes_take (suc n) (x ∷ l) b (suc k) = bytes_take n l (λ i. b (suc i)) k

-- no more of a buffer than it has
take_min : (n : ℕ) (l : List ℕ) → take (min n (length l)) l ≡ take n l
take_min zero l = rw (zero-min (length l))
take_min (suc n) [] = rw (min-zero (suc n))
take_min (suc n) (x ∷ l) = rw (suc-min-suc n (length l)) (ap (λ (y : List ℕ). x ∷ y) (take_min n l))

take-cut : (k n size : ℕ) (l : List ℕ) → k ≡ min n size → length l ≡ size → take k l ≡ take n l
take-cut k n size l e h = rw (e, sym h) (take_min n l)

pub cut_fits : (k n size : ℕ) (l : List ℕ) → k ≡ min n size → length l ≡ size → k ≤ length l
cut_fits k n size l e h = omega (arith, e, h, min-le_right n size)

pub cut-length : (k n size : ℕ) (l : List ℕ) → k ≡ min n size → length l ≡ size → k ≡ length (take k l)
cut-length k n size l e h = sym (length-take-le k l (cut_fits k n size l e h))

pub length-taint : (size kind : ℕ) (c : Case) (taint t : List ℕ) → length taint ≡ size → t ≡ taint_of size kind c taint → length t ≡ size
unfolding taint_of
length-taint size kind c taint t h e = ap (λ (l : List ℕ). length l) e ∙ told (ltb 0 (met_of kind c))
  where
    told : (q : Bool) → length (cond q taint (replicate size 0)) ≡ size
    told true = h
    told false = length-replicate {A = ℕ} size 0

pub setup-cut : (c : Case) (kernel types starts counts bits elements surfaces lengths k t s n p q l : List ℕ) (bytes variables words numbers : ℕ) →
    bytes ≡ length_of 7 c → variables ≡ met_of 2 c → numbers ≡ met_of 3 c → words ≡ met_of 4 c →
    k ≡ take bytes kernel → t ≡ take variables types → s ≡ take variables starts → n ≡ take variables counts → p ≡ take numbers bits → q ≡ take numbers elements → l ≡ take words lengths →
    setup k (whole.tables (record { types = t; starts = s; counts = n }) (record { bits = p; counts = q }) (record { lengths = l })) (record { base = c.settings.base; mask = c.settings.mask; register_size = c.settings.register_size }) ≡ setup_of c kernel (tables types starts counts bits elements surfaces lengths)
unfolding setup_of
setup-cut c kernel types starts counts bits elements surfaces lengths k t s n p q l bytes variables words numbers a b d e f g h i j m o =
    rw (f, g, h, i, j, m, o, a, b, d, e)

kernel-bytes : (c : Case) (kernel : List ℕ) (t : Tables) → Bytes kernel → Bytes (setup_of c kernel t).kernel
unfolding setup_of
kernel-bytes c kernel t b = bytes_take (length_of 7 c) kernel b

-- the answer of a run over what is cut is small
pub run-small : (c : Case) (kernel : List ℕ) (t : Tables) (s : State) (o : Outcome) → Bytes kernel → o ≡ run (setup_of c kernel t) s →
    (o.answer.completed ≤ 4096) × (o.answer.position ≤ 4096)
run-small c kernel t s o b g =
    let w = run-within (setup_of c kernel t) s (kernel-bytes c kernel t b) in
    let p : o.answer.completed ≡ (run (setup_of c kernel t) s).answer.completed = ap (λ (y : Outcome). y.answer.completed) g in
    let q : o.answer.position ≡ (run (setup_of c kernel t) s).answer.position = ap (λ (y : Outcome). y.answer.position) g in
    (omega (arith, p, w.before, w.inside), omega (arith, q, w.inside))

pub state-cut : (c : Case) (registers memory kernel register_taint surface_taint memory_taint surfaces : List ℕ) (file window file_taint window_taint bytes marks : ℕ) (t u v w x : List ℕ) →
    length registers ≡ 4096 → length memory ≡ 4096 → length register_taint ≡ 4096 → length memory_taint ≡ 4096 →
    file ≡ min (length_of 1 c) 4096 → window ≡ min (length_of 5 c) 4096 → file_taint ≡ min (taint_length 8 1 c) 4096 → window_taint ≡ min (taint_length 10 5 c) 4096 →
    t ≡ taint_of 4096 8 c register_taint → u ≡ taint_of 4096 10 c memory_taint → v ≡ taint_of 8192 9 c surface_taint →
    bytes ≡ length_of 4 c → marks ≡ taint_length 9 4 c → w ≡ take bytes surfaces → x ≡ take marks v →
    state (take file registers) (take file_taint t) w x (take window memory) (take window_taint u)
    ≡ state_of c (contents registers memory kernel register_taint surface_taint memory_taint) surfaces
unfolding state_of
state-cut c registers memory kernel register_taint surface_taint memory_taint surfaces file window file_taint window_taint bytes marks t u v w x h i j k d e f g l m n o q y z =
    rw (
      take-cut file (length_of 1 c) 4096 registers d h,
      take-cut file_taint (taint_length 8 1 c) 4096 t f (length-taint 4096 8 c register_taint t j l),
      take-cut window (length_of 5 c) 4096 memory e i,
      take-cut window_taint (taint_length 10 5 c) 4096 u g (length-taint 4096 10 c memory_taint u k m),
      y,
      z,
      l,
      m,
      n,
      o,
      q,
    )
