-- The byte that a frame of each kind begins with.
use Rattle.std.specs.Prelude.{◌≡◌, ℕ, ◌<◌, Result, MatchResult}
use Rattle.tally.specs.declared.Kind.{Kind}
use Rattle.tally.specs.declared.Kind.TheVariants as kind
use Rattle.tally.specs.declared.UnknownKind.{UnknownKind}

abbrev pub code_of : Kind → ℕ
code_of kind.Registers = 1
code_of kind.Variable = 2
code_of kind.Predicate = 3
code_of kind.Surface = 4
code_of kind.Memory = 5
code_of kind.Mask = 6
code_of kind.Kernel = 7
code_of kind.RegisterTaint = 8
code_of kind.SurfaceTaint = 9
code_of kind.MemoryTaint = 10
code_of kind.RegisterSize = 11

-- a byte that is 0 or above 11
abbrev pub IsNoKind : ℕ → Type 0
IsNoKind code = 0 < code → 11 < code

-- the result is the kind with this byte, or there is none
abbrev pub Decodes : ℕ → Result Kind UnknownKind → Type 0
Decodes code r = MatchResult r (λ kind. code_of kind ≡ code) (λ e. IsNoKind code)
