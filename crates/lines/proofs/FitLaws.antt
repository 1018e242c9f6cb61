-- What the line of each instruction asks of it, test by test.
use mathlib.Core.Path.{◌≡◌, refl}
use mathlib.Core.List.{List, [], ◌∷◌}
use mathlib.Core.Bool.{Bool, true, ◌&&◌}
use lib.Dec.{ltb, leb, eqb}
use Rattle.fields.specs.Rules.{channels_good}
use Rattle.decoder.specs.declared.Shl.{Shl}
use Rattle.decoder.specs.declared.Gather.{Gather}
use Rattle.decoder.specs.declared.Scatter.{Scatter}
use Rattle.decoder.specs.declared.RawSend.{RawSend}
use Rattle.formats.proofs.Tests.{both, both_left, both_right}
use Rattle.control_texts.specs.Mirror.Predicate.{predicate_fits}
use Rattle.control_texts.specs.Mirror.Exec.{exec_fits, scatter_exec_fits}
use Rattle.operand_texts.specs.Mirror.Operand.{general_operand_fits, operand_fits}
use Rattle.line_parts.specs.Mirror.Braces.{gather_braces_fit}
use Rattle.line_parts.specs.Mirror.Parts.{scalar_and_raws_fit, message_fits}

abbrev pub All : List Bool → Bool
All [] = true
All (a ∷ []) = a
All (a ∷ b ∷ ts) = a && All (b ∷ ts)

abbrev pub Each : List Bool → Type 0
Each [] = Unit
Each (a ∷ ts) = (a ≡ true) × Each ts

pub all-each : (ts : List Bool) → All ts ≡ true → Each ts
all-each [] h = tt
all-each (a ∷ []) h = (h, tt)
all-each (a ∷ b ∷ ts) h = (both_left a (All (b ∷ ts)) h, all-each (b ∷ ts) (both_right a (All (b ∷ ts)) h))

pub each_all : (ts : List Bool) → Each ts → All ts ≡ true
each_all [] h = refl
each_all (a ∷ []) h = h.0
each_all (a ∷ b ∷ ts) h = both a (All (b ∷ ts)) h.0 (each_all (b ∷ ts) h.1)

abbrev pub shl_tests : Shl → List Bool
shl_tests x =
    predicate_fits x.control.pred ∷ eqb x.control.pred x.control.pred ∷ exec_fits x.control.exec ∷ general_operand_fits x.destination ∷ operand_fits x.source ∷ operand_fits x.count ∷ []

abbrev pub gather_tests : Gather → List Bool
gather_tests x =
    predicate_fits x.control.pred ∷ eqb x.control.pred x.control.pred ∷ ltb x.access.num_blocks 3 ∷ exec_fits x.control.exec ∷ leb x.access.surface 255 ∷ scalar_and_raws_fit x.offset x.element_offset x.destination ∷ gather_braces_fit (x.access.block_size, x.access.scale) ∷ []

abbrev pub scatter_tests : Scatter → List Bool
scatter_tests x =
    predicate_fits x.control.pred ∷ eqb x.control.pred x.control.pred ∷ channels_good x.channels ∷ scatter_exec_fits x.control.exec ∷ scalar_and_raws_fit x.address x.element_offset x.source ∷ leb x.scale 65535 ∷ []

abbrev pub raw_send_tests : RawSend → List Bool
raw_send_tests x =
    predicate_fits x.control.pred ∷ eqb x.control.pred x.control.pred ∷ ltb x.modifiers 2 ∷ exec_fits x.control.exec ∷ message_fits x.message.extended x.message.num_src x.message.num_dst ∷ scalar_and_raws_fit x.descriptor x.source x.destination ∷ []
