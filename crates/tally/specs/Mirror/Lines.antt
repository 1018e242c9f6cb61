-- How a line changes the state of the case. Lines are counted from 1; the first bad one is number 14's position.
use Rattle.std.specs.Prelude.{ℕ, ◌+◌, Bool, false, cond, not, ◌||◌, ltb, get_or, set, replicate}
use Rattle.tally.specs.declared.Settings.{Settings}
use Rattle.tally.specs.declared.Case.{Case}

-- a place for each kind from 0x00 to 0x0b
abbrev pub KINDS : ℕ
KINDS = 12

-- "absent means empty, base 0, EM 0"; document 02, request 5, of the register size: "absent means 32"
unfoldable pub nothing : Case
nothing = record { lines = 0; bad = 0; full = false; met = replicate KINDS 0; lengths = replicate KINDS 0; settings = record { base = 0; mask = 0; register_size = 32 } }

-- the number of the line after n lines; it stays at the largest ud
unfoldable pub next : ℕ → ℕ
next n = cond (ltb n 4294967295) (n + 1) 4294967295

-- "Anything else .. is 14, at the first such line": a bad line
unfoldable pub bad_line : Case → Case
bad_line c = record { lines = next c.lines; bad = next c.lines; full = c.full; met = c.met; lengths = c.lengths; settings = c.settings }

-- "one over 16,386 characters"; after the first bad line nothing counts
unfoldable pub long_line : Case → Case
long_line c = cond (ltb 0 c.bad) c (bad_line c)

-- a good line; what does not fit its buffer breaks the sizes, which is 13
unfoldable pub good_line : Bool → Case → Case
good_line fits c = record { lines = next c.lines; bad = c.bad; full = c.full || not fits; met = c.met; lengths = c.lengths; settings = c.settings }

-- how many frames of a kind were met, and how many bytes their contents have together; none of a kind that has no place
unfoldable pub met_of : ℕ → Case → ℕ
met_of kind c = cond (ltb kind KINDS) (get_or c.met kind 0) 0

unfoldable pub length_of : ℕ → Case → ℕ
length_of kind c = cond (ltb kind KINDS) (get_or c.lengths kind 0) 0

unfoldable pub counted : ℕ → ℕ → Case → Case
counted kind n c = record { lines = c.lines; bad = c.bad; full = c.full; met = set c.met kind n; lengths = c.lengths; settings = c.settings }

unfoldable pub sized : ℕ → ℕ → Case → Case
sized kind n c = record { lines = c.lines; bad = c.bad; full = c.full; met = c.met; lengths = set c.lengths kind n; settings = c.settings }

abbrev with_settings : Settings → Case → Case
with_settings settings c = record { lines = c.lines; bad = c.bad; full = c.full; met = c.met; lengths = c.lengths; settings = settings }

unfoldable pub based : ℕ → Case → Case
based base c = with_settings (record { base = base; mask = c.settings.mask; register_size = c.settings.register_size }) c

unfoldable pub masked : ℕ → Case → Case
masked mask c = with_settings (record { base = c.settings.base; mask = mask; register_size = c.settings.register_size }) c

unfoldable pub registers_sized : ℕ → Case → Case
registers_sized size c = with_settings (record { base = c.settings.base; mask = c.settings.mask; register_size = size }) c
