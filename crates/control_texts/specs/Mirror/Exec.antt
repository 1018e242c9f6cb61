-- An exec byte's text, `(M1,8) ` or `(M2_NM,16) `, with the space that follows it.
use Rattle.std.specs.Prelude.{ℕ, ◌+◌, ◌*◌, ◌-◌, ◌/◌, ◌%◌, List, Bool, cond, ◌&&◌, eqb, ltb}
use Rattle.formats.specs.Text.{text}
use Rattle.formats.specs.Format.{Format, pair, through}
use Rattle.formats.specs.Words.{table, before}
use Rattle.formats.specs.Numbers.{number}
use Rattle.exec_byte.specs.declared.Exec.{Exec}
use Rattle.exec_byte.specs.Exec.{exec_size, exec_of}
use Rattle.fields.specs.Rules.{exec_good, scatter_exec_good}

abbrev pub mask_endings : List ℕ
mask_endings = text ",|_NM,|"

abbrev pub sizes : List ℕ
sizes = text "1) |2) |4) |8) |16) |32) |"

abbrev pub scatter_sizes : List ℕ
scatter_sizes = text "8) |16) |"

unfoldable pub mask_parts : Format (ℕ × ℕ)
mask_parts = before (text "(M|") (pair (number 10 1 8) (λ _. table mask_endings))

-- "bits 4-7 M1..M8, then M1_NM..M8_NM"
unfoldable pub mask : Format ℕ
mask = through (λ v. v.0 - 1 + 8 * v.1) (λ m. (m % 8 + 1, m / 8)) (λ m. ltb m 16) mask_parts

-- the place of a mask among M1..M8, M1_NM..M8_NM, and of a size among 1, 2, 4, 8, 16, 32
unfoldable pub mask_place : Exec → ℕ
mask_place e = e.offset / 4 + cond e.unmasked 8 0

unfoldable pub size_place : ℕ → ℕ
size_place size = cond (eqb size 1) 0 (cond (eqb size 2) 1 (cond (eqb size 4) 2 (cond (eqb size 8) 3 (cond (eqb size 16) 4 (cond (eqb size 32) 5 6)))))

-- "bits 0-2 sizes 1, 2, 4, 8, 16, 32": those of a table whose first word is size code `first`
unfoldable pub exec_from : ℕ → List ℕ → (ℕ → Bool) → Format ℕ
exec_from first p fits = through (λ v. v.0 * 16 + (first + v.1)) (λ e. (mask_place (exec_of e), size_place (exec_size e) - first)) fits (pair mask (λ _. table p))

-- a byte that the encoder takes
unfoldable pub exec_fits : ℕ → Bool
exec_fits e = ltb e 256 && exec_good e

unfoldable pub exec : Format ℕ
exec = exec_from 0 sizes exec_fits

unfoldable pub scatter_exec_fits : ℕ → Bool
scatter_exec_fits e = ltb e 256 && scatter_exec_good e

-- "scatter 8 and 16 only": codes 3 and 4
unfoldable pub scatter_exec : Format ℕ
scatter_exec = exec_from 3 scatter_sizes scatter_exec_fits
