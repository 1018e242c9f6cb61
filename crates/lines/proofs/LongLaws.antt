-- A text of more than 128 characters is no line, and its column is that of its first 128.
use mathlib.Core.Path.{◌≡◌, sym, ap, subst}
use mathlib.Core.List.{List}
use mathlib.Core.Logic.{◌⊎◌, inl, inr}
use Prim.Native.Nat.{ℕ, ◌+◌, ◌-◌, ◌≤◌, ◌<◌}
use native.Mathlib.Omega.{arith}
use lib.ListN.{length, take, length-append}
use lib.Seq.{length-take-le, take-take}
use Rattle.lines.specs.Reading.{reading_of}
use Rattle.lines.specs.Claims.{LineBegins, IsColumn}
use Rattle.lines.proofs.Statements.{line-length, read-line, column, reading-then, column-read}

-- what begins a line is short
begins-short : (p : List ℕ) → LineBegins p → length p ≤ 123
begins-short p b = omega (arith, line-length b.of b.encodes, ap length b.text, length-append p b.rest)

module _ (t : List ℕ) (long : 128 < length t) where
  whole-start : length (take 128 t) ≡ 128
  whole-start = length-take-le 128 t (omega (arith, long))

  -- the column of the first 128 characters is among them, and that of all
  column-of-start : (k : ℕ) → IsColumn (take 128 t) k → IsColumn t k
  column-of-start k c =
      record {
        none = λ i e p. omega (arith, line-length i e, ap length p, long);
        first = c.first;
        last = omega (arith, near, long);
        before = subst LineBegins (take-take (k - 1) 128 t (omega (arith, near))) c.before;
        here = inr (on c.here);
      }
    where
      near : k ≤ 124
      near = omega (arith, begins-short (take (k - 1) (take 128 t)) c.before, length-take-le (k - 1) (take 128 t) (omega (arith, c.last)))

      on : (k ≡ length (take 128 t) + 1) ⊎ (LineBegins (take k (take 128 t)) → ⊥) → LineBegins (take k t) → ⊥
      on (inl e) b = omega (arith, e, near, whole-start)
      on (inr n) b = n (subst LineBegins (sym (take-take k 128 t (omega (arith, near)))) b)

  pub long-text : reading_of t ≡ reading_of (take 128 t)
  long-text =
      reading-then (take 128 t) (λ r. reading_of t ≡ r)
      (λ i p. let x = read-line (take 128 t) i p in absurd (omega (arith, line-length i x.0, ap length x.1, whole-start)))
      (λ k p. column-read t k (column-of-start k (column (take 128 t) k p)))
