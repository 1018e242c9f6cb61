-- All that a run tests of an instruction before it reads data. Document 01, "The numbers given back":
-- "A run then tests 8; predicate 5; surface 5; each operand in order 5, 4 (type), 6, 7; 9; ..", and document 02, request 3: 17 "directly after
-- the predicate's 5". An operand's own tests are those of `Operands` (20 to 25 in the place of 6); here is their order, and each operand's
-- "place in field order, from 1, surfaces not counted" (document 02, request 2). No data, execution mask or taint is asked for; of the card, the
-- size of its registers.
use Rattle.std.specs.Prelude.{ℕ, cond, not, List, [], ◌∷◌, ltb, length}
use Rattle.element_types.specs.Types.{UD, UQ}
use Rattle.tables.specs.Tables.{Tables}
use Rattle.surface_table.specs.Surfaces.{Surfaces, surface_length, surface_start}
use Rattle.refusal.specs.declared.Detail.TheVariants as detail
use Rattle.decoder.specs.declared.Shl.{Shl}
use Rattle.decoder.specs.declared.Gather.{Gather}
use Rattle.decoder.specs.declared.Scatter.{Scatter}
use Rattle.decoder.specs.declared.RawSend.{RawSend}
use Rattle.decoder.specs.declared.Instruction.{Instruction}
use Rattle.decoder.specs.declared.Instruction.TheVariants as instruction
use Rattle.operands.specs.Located.{Located}
use Rattle.region_rules.specs.declared.Role.TheVariants as role
use Rattle.operands.specs.declared.TypeRule.TheVariants as rule
use Rattle.tables.specs.Variables.{Variables}
use Rattle.operands.specs.Operands.{located_vector, located_raw}
use Rattle.plan.specs.Part.{Part}
use Rattle.plan.specs.Plan.{Plan}
use Rattle.controls.specs.Control.{predicate_for, control_refusal, bits_named}
use Rattle.plan.specs.Control.{control_of}
use Rattle.payloads.specs.Needed.{elements_needed, channel_stride, scatter_needed, registers_needed, block_bytes}
use Rattle.plan.specs.Plans.{refused_plan, tested, tested_from, shl_plan, gather_plan, scatter_plan}

-- SHL: Dst, Src0, Src1
unfoldable pub shl_dst : ℕ → Variables → Shl → Located
shl_dst register_size t i = located_vector register_size t role.Destination rule.Shift i.control.exec i.destination

unfoldable pub shl_src0 : ℕ → Variables → Shl → Located
shl_src0 register_size t i = located_vector register_size t role.Source rule.Shift i.control.exec i.source

unfoldable pub shl_src1 : ℕ → Variables → Shl → Located
shl_src1 register_size t i = located_vector register_size t role.Source rule.Shift i.control.exec i.count

abbrev pub shl_operands : ℕ → Variables → Shl → List Located
shl_operands register_size t i = shl_dst register_size t i ∷ shl_src0 register_size t i ∷ shl_src1 register_size t i ∷ []

unfoldable pub checked_shl : ℕ → Variables → ℕ → Shl → Plan
checked_shl register_size t bits i =
    tested_from 1 (shl_operands register_size t i)
    (shl_plan i.control bits (shl_src0 register_size t i).elements (shl_src1 register_size t i).elements (shl_dst register_size t i).elements)

-- GATHER_SCALED: the surface, then Offset, Element_offset, Dst
unfoldable pub gather_offset : ℕ → Variables → Gather → Located
gather_offset register_size t i = located_vector register_size t role.Scalar rule.Offset i.control.exec i.offset

unfoldable pub gather_element_offset : Variables → Gather → Located
gather_element_offset t i = located_raw t rule.Offset (elements_needed i.control.exec UD) i.element_offset

unfoldable pub gather_dst : Variables → Gather → Located
gather_dst t i = located_raw t rule.Dword (elements_needed i.control.exec UD) i.destination

abbrev pub gather_operands : ℕ → Variables → Gather → List Located
gather_operands register_size t i = gather_offset register_size t i ∷ gather_element_offset t i ∷ gather_dst t i ∷ []

unfoldable pub checked_gather_operands : ℕ → Variables → ℕ → Part → Gather → Plan
checked_gather_operands register_size t bits part i =
    tested_from 1 (gather_operands register_size t i)
    (gather_plan i.control bits (gather_offset register_size t i).elements (gather_element_offset t i).elements (gather_dst t i).elements
    (block_bytes i.access.num_blocks) part)

-- the part of the surface buffer that is this surface's
unfoldable pub surface_part : Surfaces → ℕ → Part
surface_part t index = record { start = surface_start t index; length = surface_length t index }

-- 5: "surface not in its table", before the operands
unfoldable pub checked_gather : ℕ → Variables → Surfaces → ℕ → Gather → Plan
checked_gather register_size t surfaces bits i =
    cond (not (ltb i.access.surface (length surfaces.lengths))) (refused_plan 5 detail.None)
    (checked_gather_operands register_size t bits (surface_part surfaces i.access.surface) i)

-- SVM SCATTER4_SCALED: Address, Element_offset, Src
unfoldable pub scatter_address : ℕ → Variables → Scatter → Located
scatter_address register_size t i = located_vector register_size t role.Scalar rule.Address i.control.exec i.address

unfoldable pub scatter_element_offset : Variables → Scatter → Located
scatter_element_offset t i = located_raw t rule.Address (elements_needed i.control.exec UQ) i.element_offset

unfoldable pub scatter_src : ℕ → Variables → Scatter → Located
scatter_src register_size t i = located_raw t rule.Dword (scatter_needed (channel_stride register_size i.control.exec) i.control.exec i.channels) i.source

abbrev pub scatter_operands : ℕ → Variables → Scatter → List Located
scatter_operands register_size t i = scatter_address register_size t i ∷ scatter_element_offset t i ∷ scatter_src register_size t i ∷ []

unfoldable pub checked_scatter : ℕ → Variables → ℕ → Scatter → Plan
checked_scatter register_size t bits i =
    tested_from 1 (scatter_operands register_size t i)
    (scatter_plan i.control bits (scatter_address register_size t i).elements (scatter_element_offset t i).elements (scatter_src register_size t i).elements
    i.channels (channel_stride register_size i.control.exec))

-- RAW_SEND: Desc, Src, Dst; and 9: "RAW_SEND, otherwise good"
unfoldable pub send_desc : ℕ → Variables → RawSend → Located
send_desc register_size t i = located_vector register_size t role.Scalar rule.Offset i.control.exec i.descriptor

unfoldable pub send_src : ℕ → Variables → RawSend → Located
send_src register_size t i = located_raw t rule.Any (registers_needed register_size i.message.num_src) i.source

unfoldable pub send_dst : ℕ → Variables → RawSend → Located
send_dst register_size t i = located_raw t rule.Any (registers_needed register_size i.message.num_dst) i.destination

abbrev pub send_operands : ℕ → Variables → RawSend → List Located
send_operands register_size t i = send_desc register_size t i ∷ send_src register_size t i ∷ send_dst register_size t i ∷ []

unfoldable pub checked_send : ℕ → Variables → RawSend → Plan
checked_send register_size t i = tested_from 1 (send_operands register_size t i) (refused_plan 9 detail.None)

-- surface 5 for a gather, the operands in field order, 9 for RAW_SEND
unfoldable pub checked_operands : ℕ → Tables → ℕ → Instruction → Plan
checked_operands register_size t bits (instruction.Shl i) = checked_shl register_size t.variables bits i
checked_operands register_size t bits (instruction.Gather i) = checked_gather register_size t.variables t.surfaces bits i
checked_operands register_size t bits (instruction.Scatter i) = checked_scatter register_size t.variables bits i
checked_operands register_size t bits (instruction.RawSend i) = checked_send register_size t.variables i

-- 8, the predicate's 5 and 17 come first
unfoldable pub checked : ℕ → Tables → Instruction → Plan
checked register_size t i =
    tested (control_refusal (predicate_for t.predicates (control_of i)) (control_of i)) detail.None
    (checked_operands register_size t (bits_named (predicate_for t.predicates (control_of i)) (control_of i).pred) i)
