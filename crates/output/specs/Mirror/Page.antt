-- A buffer of the caller's that is written from its start on: what does not fit is lost.
use Rattle.std.specs.Prelude.{ℕ, ◌+◌, cond, List, [], ◌∷◌, ltb, length, set}

-- the buffer, and how much of it is written
pub record Page : Type 0 where
  pub buffer : List ℕ
  pub used : ℕ

abbrev pub page : List ℕ → ℕ → Page
page buffer used = record { buffer = buffer; used = used }

unfoldable pub pushed : ℕ → Page → Page
pushed c p = cond (ltb p.used (length p.buffer)) (page (set p.buffer p.used c) (p.used + 1)) p

unfoldable pub written : List ℕ → Page → Page
written [] p = p
written (c ∷ cs) p = written cs (pushed c p)
