-- An entry of the table of exec bytes: looked up, and taken apart.
use Rattle.std.specs.Prelude.{ℕ, ◌/◌, ◌%◌, List, eqb, leb, get_or}
use Rattle.exec_byte.specs.declared.Exec.{Exec}

unfoldable pub entry_at : List ℕ → ℕ → ℕ
entry_at table exec = get_or table exec 0

abbrev pub exec_coded : ℕ → Exec
exec_coded code = record { reserved = eqb code 0; size = code % 64; offset = code / 64 % 64; unmasked = leb 4096 code }
