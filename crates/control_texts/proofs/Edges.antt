-- Parts at their edges: texts that are read, and the position (from 0) at which others stop.
use mathlib.Core.Path.{◌≡◌, refl}
use Prim.Native.Nat.{ℕ}
use Prim.Native.String.{String}
use Rattle.hex_text.specs.Digits.{is_decimal, is_letter, character_of}
use Rattle.formats.specs.Text.{text}
use Rattle.formats.specs.Format.{Out, got, stop, Format, pair, through, blank}
use Rattle.formats.specs.Words.{words, word_at, one_of, before}
use Rattle.formats.specs.Numerals.{digits}
use Rattle.formats.specs.Numbers.{number}
use Rattle.formats.specs.Whole.{whole}
use Rattle.formats.specs.Mirror.Scan.{common, better, scan, chosen, word_in}
use Rattle.formats.specs.Mirror.Digits.{value_of, goes_on, more_digits, begins, number_in}
use Rattle.control_texts.specs.Mirror.Predicate.{ending, id_and_ending, predicate}
use Rattle.control_texts.specs.Mirror.Exec.{mask_parts, mask, exec_from, exec, scatter_exec}

-- ---- the predicate

unfoldable predicate-at : String → Out ℕ
unfolding whole pair through blank words one_of word_in scan better chosen common number number_in begins goes_on more_digits value_of is_decimal is_letter ending id_and_ending predicate
predicate-at t = whole predicate (text t)

predicates : (predicate-at "" ≡ got 0 0) × (predicate-at "(!P3.any) " ≡ got 40963 10) × (predicate-at "(P0.all) " ≡ got 16384 9) × (predicate-at "(P4095) " ≡ got 4095 8) × (predicate-at "(!P0) " ≡ got 32768 6)
unfolding predicate-at
predicates = (refl, refl, refl, refl, refl)

-- `(P0)` stops at its bracket, since `(P0.any)` goes on; no leading zero, no id past 4095
no-predicates : (predicate-at "(P0) " ≡ stop 3) × (predicate-at "(P00" ≡ stop 3) × (predicate-at "(P4096) " ≡ stop 5) × (predicate-at "(P3.an) " ≡ stop 6) × (predicate-at "(P) " ≡ stop 2) × (predicate-at "(p3) " ≡ stop 1)
unfolding predicate-at
no-predicates = (refl, refl, refl, refl, refl, refl)

predicate-texts : (predicate.print 0 ≡ text "") × (predicate.print 40963 ≡ text "(!P3.any) ") × (predicate.print 16384 ≡ text "(P0.all) ")
unfolding predicate id_and_ending ending pair through blank one_of words word_at number digits character_of
predicate-texts = (refl, refl, refl)

-- ---- the exec byte

unfoldable exec-at : Format ℕ → String → Out ℕ
unfolding whole pair through before words one_of word_in scan better chosen common number number_in begins goes_on more_digits value_of is_decimal is_letter mask_parts mask exec_from exec scatter_exec
exec-at f t = whole f (text t)

execs : (exec-at exec "(M1,8) " ≡ got 3 7) × (exec-at exec "(M2_NM,16) " ≡ got 148 11) × (exec-at exec "(M8,32) " ≡ got 117 8) × (exec-at scatter_exec "(M8_NM,16) " ≡ got 244 11)
unfolding exec-at exec scatter_exec exec_from mask mask_parts pair through before one_of word_in number
execs = (refl, refl, refl, refl)

-- 3 goes on as 32, and a scatter's 1 as 16
no-execs : (exec-at exec "(M1,3) " ≡ stop 5) × (exec-at exec "(M1,16" ≡ stop 6) × (exec-at exec "(M1,64) " ≡ stop 4) × (exec-at exec "(M0,8) " ≡ stop 2) × (exec-at exec "(M9,8) " ≡ stop 2) × (exec-at scatter_exec "(M1,1) " ≡ stop 5) × (exec-at scatter_exec "(M1,4) " ≡ stop 4)
unfolding exec-at exec scatter_exec exec_from mask mask_parts pair through before one_of word_in number
no-execs = (refl, refl, refl, refl, refl, refl, refl)
