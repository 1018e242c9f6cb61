-- A predicate's text: nothing for the word 0, else `(P3) `, `(!P3) `, `(P3.any) ` and so on, with the space that follows it.
-- `(P0) ` is the text of no word, since the word of predicate 0, not inverted, none of any and all, is 0.
use Rattle.std.specs.Prelude.{ℕ, ◌+◌, ◌*◌, ◌-◌, ◌/◌, ◌%◌, List, Bool, cond, ◌&&◌, ltb, eqb}
use Rattle.formats.specs.Text.{text}
use Rattle.formats.specs.Format.{Format, pair, through, blank}
use Rattle.formats.specs.Words.{table}
use Rattle.formats.specs.Numbers.{number}
use Rattle.fields.specs.Rules.{predicate_good}

abbrev pub openings : List ℕ
openings = text "|(P|(!P|"

abbrev pub endings : List ℕ
endings = text ".any) |.all) |) |"

abbrev pub group_endings : List ℕ
group_endings = text ".any) |.all) |"

abbrev pub zeros : ℕ × ℕ → Bool
zeros v = eqb v.0 0 && eqb v.1 0

abbrev pub nothing : Format (ℕ × ℕ)
nothing = blank (0, 0) zeros

-- what may end a predicate of this opening and id
unfoldable pub ending : ℕ → ℕ → Format ℕ
ending opening id = cond (eqb opening 1 && eqb id 0) (table group_endings) (table endings)

unfoldable pub id_and_ending : ℕ → Format (ℕ × ℕ)
id_and_ending opening = cond (eqb opening 0) nothing (pair (number 10 0 4095) (λ id. ending opening id))

-- "bits 0-11 id, 12 zero, 13-14 none/any/all/reserved, 15 inverse": the endings in the order any, all, none
abbrev pub predicate_to : ℕ × (ℕ × ℕ) → ℕ
predicate_to v = cond (eqb v.0 0) 0 ((v.0 - 1) * 32768 + (v.1.1 + 1) % 3 * 8192 + v.1.0)

abbrev pub predicate_from : ℕ → ℕ × (ℕ × ℕ)
predicate_from p = cond (eqb p 0) (0, (0, 0)) (1 + p / 32768, (p % 4096, (p / 8192 % 4 + 2) % 3))

-- a word that the encoder takes
unfoldable pub predicate_fits : ℕ → Bool
predicate_fits p = ltb p 65536 && predicate_good p

unfoldable pub predicate : Format ℕ
predicate = through predicate_to predicate_from predicate_fits (pair (table openings) id_and_ending)
