-- What stands behind the name of each instruction, in the order of its page's Text line. `pred` is the predicate's word, which stands before the name.
use Rattle.std.specs.Prelude.{ℕ, ◌+◌, ◌-◌, List, Bool, false, ◌&&◌, ltb, leb, eqb}
use Rattle.formats.specs.Text.{text}
use Rattle.formats.specs.Format.{Format, pair, through}
use Rattle.formats.specs.Words.{table, after}
use Rattle.fields.specs.Rules.{channels_good}
use Rattle.operand_fields.specs.declared.Raw.{Raw}
use Rattle.operand_fields.specs.declared.Operand.{Operand}
use Rattle.operand_fields.specs.declared.Operand.TheVariants as operand
use Rattle.decoder.specs.declared.Instruction.{Instruction}
use Rattle.decoder.specs.declared.Instruction.TheVariants as instruction
use Rattle.control_texts.specs.Mirror.Exec.{exec_fits, exec, scatter_exec_fits, scatter_exec}
use Rattle.operand_texts.specs.Mirror.Operand.{general_operand_fits, operand_fits, source, destination}
use Rattle.line_parts.specs.Mirror.Braces.{gather_braces_fit, gather_braces, scatter_braces}
use Rattle.line_parts.specs.Mirror.Parts.{space, scalar_and_raws, scalar_and_raws_fit, blocks, surface, send_endings, message, message_fits}

-- values for an instruction that is not of the kind; nothing depends on them
abbrev pub no_operand : Operand
no_operand = operand.General (record { index = 0; row = 0; column = 0; region = 0 })

abbrev pub no_raw : Raw
no_raw = record { index = 0; offset = 0 }

-- ---- page 004: `SHL (M1,8) v1(0,0)<1> v0(0,0)<8;8,1> 0x1:uw`

unfoldable pub shl_parts : Format (ℕ × (Operand × (Operand × Operand)))
shl_parts = pair exec (λ _. pair (after destination space) (λ _. pair (after source space) (λ _. source)))

abbrev pub shl_to : ℕ → ℕ × (Operand × (Operand × Operand)) → Instruction
shl_to pred v = instruction.Shl (record { control = record { exec = v.0; pred = pred }; destination = v.1.0; source = v.1.1.0; count = v.1.1.1 })

unfoldable pub shl_from : Instruction → ℕ × (Operand × (Operand × Operand))
shl_from (instruction.Shl x) = (x.control.exec, (x.destination, (x.source, x.count)))
shl_from (instruction.Gather x) = (0, (no_operand, (no_operand, no_operand)))
shl_from (instruction.Scatter x) = (0, (no_operand, (no_operand, no_operand)))
shl_from (instruction.RawSend x) = (0, (no_operand, (no_operand, no_operand)))

unfoldable pub shl_fits : ℕ → Instruction → Bool
shl_fits pred (instruction.Shl x) =
    eqb x.control.pred pred && (exec_fits x.control.exec && (general_operand_fits x.destination && (operand_fits x.source && operand_fits x.count)))
shl_fits pred (instruction.Gather x) = false
shl_fits pred (instruction.Scatter x) = false
shl_fits pred (instruction.RawSend x) = false

unfoldable pub shl : ℕ → Format Instruction
shl pred = through (shl_to pred) shl_from (shl_fits pred) shl_parts

-- ---- page 001: `GATHER_SCALED.2 (M1,8) T1 0x10:ud v4.0 v5.32 {1,0}`; "Num_blocks codes 0, 1, 2 are 1, 2, 4 bytes"

unfoldable pub gather_parts : Format (ℕ × (ℕ × (ℕ × ((Operand × (Raw × Raw)) × (ℕ × ℕ)))))
gather_parts = pair (table blocks) (λ _. pair exec (λ _. pair surface (λ _. pair scalar_and_raws (λ _. gather_braces))))

abbrev pub gather_to : ℕ → ℕ × (ℕ × (ℕ × ((Operand × (Raw × Raw)) × (ℕ × ℕ)))) → Instruction
gather_to pred v =
    instruction.Gather (record {
      control = record { exec = v.1.0; pred = pred };
      access = record { block_size = v.1.1.1.1.0; num_blocks = v.0; scale = v.1.1.1.1.1; surface = v.1.1.0 };
      offset = v.1.1.1.0.0;
      element_offset = v.1.1.1.0.1.0;
      destination = v.1.1.1.0.1.1;
    })

unfoldable pub gather_from : Instruction → ℕ × (ℕ × (ℕ × ((Operand × (Raw × Raw)) × (ℕ × ℕ))))
gather_from (instruction.Shl x) = (0, (0, (0, ((no_operand, (no_raw, no_raw)), (0, 0)))))
gather_from (instruction.Gather x) =
    (x.access.num_blocks, (x.control.exec, (x.access.surface, ((x.offset, (x.element_offset, x.destination)), (x.access.block_size, x.access.scale)))))
gather_from (instruction.Scatter x) = (0, (0, (0, ((no_operand, (no_raw, no_raw)), (0, 0)))))
gather_from (instruction.RawSend x) = (0, (0, (0, ((no_operand, (no_raw, no_raw)), (0, 0)))))

unfoldable pub gather_fits : ℕ → Instruction → Bool
gather_fits pred (instruction.Shl x) = false
gather_fits pred (instruction.Gather x) =
    eqb x.control.pred pred
    && (ltb x.access.num_blocks 3
    && (exec_fits x.control.exec
    && (leb x.access.surface 255
    && (scalar_and_raws_fit x.offset x.element_offset x.destination
    && gather_braces_fit (x.access.block_size, x.access.scale)))))
gather_fits pred (instruction.Scatter x) = false
gather_fits pred (instruction.RawSend x) = false

unfoldable pub gather : ℕ → Format Instruction
gather pred = through (gather_to pred) gather_from (gather_fits pred) gather_parts

-- ---- page 000: `SVM_SCATTER4_SCALED.GA (M3,8) 0x1000:uq v1.0 v2.0 {5}`; R is bit 0, so that word k is of the channels k + 1

abbrev pub letters : List ℕ
letters = text "R |G |RG |B |RB |GB |RGB |A |RA |GA |RGA |BA |RBA |GBA |RGBA |"

unfoldable pub scatter_parts : Format (ℕ × (ℕ × ((Operand × (Raw × Raw)) × ℕ)))
scatter_parts = pair (table letters) (λ _. pair scatter_exec (λ _. pair scalar_and_raws (λ _. scatter_braces)))

abbrev pub scatter_to : ℕ → ℕ × (ℕ × ((Operand × (Raw × Raw)) × ℕ)) → Instruction
scatter_to pred v =
    instruction.Scatter (record {
      control = record { exec = v.1.0; pred = pred };
      channels = v.0 + 1;
      scale = v.1.1.1;
      address = v.1.1.0.0;
      element_offset = v.1.1.0.1.0;
      source = v.1.1.0.1.1;
    })

unfoldable pub scatter_from : Instruction → ℕ × (ℕ × ((Operand × (Raw × Raw)) × ℕ))
scatter_from (instruction.Shl x) = (0, (0, ((no_operand, (no_raw, no_raw)), 0)))
scatter_from (instruction.Gather x) = (0, (0, ((no_operand, (no_raw, no_raw)), 0)))
scatter_from (instruction.Scatter x) = (x.channels - 1, (x.control.exec, ((x.address, (x.element_offset, x.source)), x.scale)))
scatter_from (instruction.RawSend x) = (0, (0, ((no_operand, (no_raw, no_raw)), 0)))

unfoldable pub scatter_fits : ℕ → Instruction → Bool
scatter_fits pred (instruction.Shl x) = false
scatter_fits pred (instruction.Gather x) = false
scatter_fits pred (instruction.Scatter x) =
    eqb x.control.pred pred
    && (channels_good x.channels
    && (scatter_exec_fits x.control.exec
    && (scalar_and_raws_fit x.address x.element_offset x.source
    && leb x.scale 65535)))
scatter_fits pred (instruction.RawSend x) = false

unfoldable pub scatter : ℕ → Format Instruction
scatter pred = through (scatter_to pred) scatter_from (scatter_fits pred) scatter_parts

-- ---- page 002: `raw_sendc (M1,1) 0x1a 1 0 v0(0,0)<0;1,0> v1.8 v2.0`; bit 0 of Modifiers is the `c`

unfoldable pub raw_send_parts : Format (ℕ × (ℕ × ((ℕ × (ℕ × ℕ)) × (Operand × (Raw × Raw)))))
raw_send_parts = pair (table send_endings) (λ _. pair exec (λ _. pair message (λ _. scalar_and_raws)))

abbrev pub raw_send_to : ℕ → ℕ × (ℕ × ((ℕ × (ℕ × ℕ)) × (Operand × (Raw × Raw)))) → Instruction
raw_send_to pred v =
    instruction.RawSend (record {
      modifiers = v.0;
      control = record { exec = v.1.0; pred = pred };
      message = record { extended = v.1.1.0.0; num_src = v.1.1.0.1.0; num_dst = v.1.1.0.1.1 };
      descriptor = v.1.1.1.0;
      source = v.1.1.1.1.0;
      destination = v.1.1.1.1.1;
    })

unfoldable pub raw_send_from : Instruction → ℕ × (ℕ × ((ℕ × (ℕ × ℕ)) × (Operand × (Raw × Raw))))
raw_send_from (instruction.Shl x) = (0, (0, ((0, (0, 0)), (no_operand, (no_raw, no_raw)))))
raw_send_from (instruction.Gather x) = (0, (0, ((0, (0, 0)), (no_operand, (no_raw, no_raw)))))
raw_send_from (instruction.Scatter x) = (0, (0, ((0, (0, 0)), (no_operand, (no_raw, no_raw)))))
raw_send_from (instruction.RawSend x) =
    (x.modifiers, (x.control.exec, ((x.message.extended, (x.message.num_src, x.message.num_dst)), (x.descriptor, (x.source, x.destination)))))

unfoldable pub raw_send_fits : ℕ → Instruction → Bool
raw_send_fits pred (instruction.Shl x) = false
raw_send_fits pred (instruction.Gather x) = false
raw_send_fits pred (instruction.Scatter x) = false
raw_send_fits pred (instruction.RawSend x) =
    eqb x.control.pred pred
    && (ltb x.modifiers 2
    && (exec_fits x.control.exec
    && (message_fits x.message.extended x.message.num_src x.message.num_dst
    && scalar_and_raws_fit x.descriptor x.source x.destination)))

unfoldable pub raw_send : ℕ → Format Instruction
raw_send pred = through (raw_send_to pred) raw_send_from (raw_send_fits pred) raw_send_parts
