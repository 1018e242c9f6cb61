-- The definitions that a run is computed from, to be opened by one name.
use Rattle.little_endian.specs.LittleEndian.{number_at}
use Rattle.reader.specs.Reading.{whole_at, read_at}
use Rattle.fields.specs.Reading.{judged_read, byte_field_at, word_field_at, dword_field_at}
use Rattle.fields.specs.Rules.{judged, exec_good, scatter_exec_good, predicate_good, channels_good, source_count_good, class_good, tag_good, tag_refusal, byte_refusal, word_refusal}
use Rattle.field_groups.specs.Reading.{control_at, access_at, message_at}
use Rattle.operand_fields.specs.Reading.{high_word_at, operand_at, scalar_and_raws_at}
use Rattle.decoder.specs.Decoding.{shl_at, gather_at, scatter_at, svm_at, raw_send_at, instruction_at}
use Rattle.element_types.specs.Types.{size_of, is_listed, is_signed, has_high_word}
use Rattle.bits.specs.Below.{some_below, every_below}
use Rattle.bits.specs.Bits.{bit, bit_field}
use Rattle.exec_byte.specs.Exec.{exec_reserved, exec_size, mask_control, mask_number, exec_offset, no_mask}
use Rattle.channels.specs.Lanes.{any_bit, all_bits, combined, inverted, predicate_agrees, mask_allows, lane_on}
use Rattle.predicate_field.specs.Predicate.{has_predicate, predicate_id, predicate_combine, predicate_reserved, predicate_inverse}
use Rattle.lengths.specs.Lengths.{register_size_good, chosen_size, registers_good, addresses_good, taint_good, lengths_good}
use Rattle.predicate_table.specs.Predicates.{predicate_at, count_good, count_good_at, predicates_good}
use Rattle.surface_table.specs.Surfaces.{surface_length, surface_start, surface_good_at, surfaces_good}
use Rattle.tables.specs.Tables.{tables_good}
use Rattle.tables.specs.Variables.{line_good, variable_good, variable_good_at, variables_good}
use Rattle.regions.specs.Positions.{filled, lane_positions, element_byte}
use Rattle.regions.specs.Reach.{highest, inside_variable, two_registers, reach_good, elements_good}
use Rattle.region_rules.specs.RegionWord.{vertical_code, width_code, horizontal_code, stride_of, between, scalar_region_good}
use Rattle.regions.specs.Regions.{row_elements, first_element, source_element, element_of}
use Rattle.region_rules.specs.RegionRules.{is_number, stands_for, width_zero_or_32, stride_over_four, width_over_exec_size, destination_stride_zero, null_out_of_place, scalar_region_wrong, first_broken, region_refusal}
use Rattle.operands.specs.Allowed.{shift_type, dword_type, type_allowed}
use Rattle.operands.specs.Elements.{register_elements, low_bytes, immediate_element, refused_operand}
use Rattle.operands.specs.Operands.{general_of, located_general, immediate_of, located_immediate, located_vector, raw_good, raw_of, located_raw}
use Rattle.operands.specs.Variables.{in_table, variable_at}
use Rattle.plan.specs.Checked.{shl_dst, shl_src0, shl_src1, checked_shl, gather_offset, gather_element_offset, gather_dst, checked_gather_operands, surface_part, checked_gather, scatter_address, scatter_element_offset, scatter_src, checked_scatter, send_desc, send_src, send_dst, checked_send, checked_operands, checked}
use Rattle.controls.specs.Control.{predicate_refusal, control_refusal, bits_named}
use Rattle.plan.specs.Control.{control_of}
use Rattle.payloads.specs.Needed.{elements_needed, enabled_below, channel_stride, scatter_needed, registers_needed, block_bytes}
use Rattle.plan.specs.Plans.{refused_plan, tested, shl_plan, gather_plan, scatter_plan}
use Rattle.cells.specs.Buffer.{is_tainted, mark_of, any_tainted}
use Rattle.refusal.specs.Details.{is_some, names_operand, operand_detail}
use Rattle.cells.specs.Effect.{unless}
use Rattle.cells.specs.Over.{among_from, among, each, some, first_lane, first_pair}
use Rattle.cells.specs.Writes.{written_all, number_writes, copy_writes}
use Rattle.shift.specs.Exact.{span, exactly, modulo, shifted}
use Rattle.staging.specs.Lanes.{lanes_on}
use Rattle.staging.specs.Sources.{element_value, element_tainted, either_tainted}
use Rattle.shl_effect.specs.Shl.{shl_value, shl_mark, shl_lane, shl_effect}
use Rattle.gather_effect.specs.Gather.{gather_address, is_read, gathered_byte, gathered_mark, gather_writes, gather_lane, gather_effect}
use Rattle.scatter_effect.specs.Scatter.{channels_on, target_address, target, source_byte, misaligned, outside, scatter_pair, first_offending, scatter_effect}
use Rattle.step.specs.Step.{acted, plan_effect, step_at}
use Rattle.run.specs.Run.{run_from, run}
use Rattle.fields.specs.Rules as rules
use Rattle.operand_fields.specs.Reading as operands
use Rattle.regions.specs.Reach as reach
use Rattle.shift.specs.Exact as exact

unfoldable pub opened : Type 0
unfolding number_at whole_at read_at judged_read byte_field_at word_field_at dword_field_at judged exec_good scatter_exec_good predicate_good rules.region_good channels_good source_count_good class_good tag_good tag_refusal byte_refusal word_refusal control_at operands.general_at high_word_at operands.immediate_at operand_at operands.raw_at scalar_and_raws_at access_at message_at shl_at gather_at scatter_at svm_at raw_send_at instruction_at size_of is_listed is_signed has_high_word some_below every_below bit bit_field exec_reserved exec_size mask_control mask_number exec_offset no_mask any_bit all_bits combined inverted predicate_agrees mask_allows lane_on has_predicate predicate_id predicate_combine predicate_reserved predicate_inverse register_size_good chosen_size registers_good addresses_good taint_good lengths_good predicate_at count_good count_good_at predicates_good surface_length surface_start surface_good_at surfaces_good tables_good line_good variable_good variable_good_at variables_good shift_type dword_type type_allowed filled lane_positions element_byte register_elements low_bytes immediate_element refused_operand elements_good general_of located_general immediate_of located_immediate located_vector raw_good raw_of located_raw reach.lowest highest inside_variable two_registers reach_good vertical_code width_code horizontal_code stride_of between scalar_region_good is_number stands_for width_zero_or_32 stride_over_four width_over_exec_size destination_stride_zero null_out_of_place scalar_region_wrong first_broken region_refusal row_elements first_element source_element element_of in_table variable_at shl_dst shl_src0 shl_src1 checked_shl gather_offset gather_element_offset gather_dst checked_gather_operands surface_part checked_gather scatter_address scatter_element_offset scatter_src checked_scatter send_desc send_src send_dst checked_send checked_operands checked control_of predicate_refusal control_refusal bits_named elements_needed enabled_below channel_stride scatter_needed registers_needed block_bytes refused_plan tested shl_plan gather_plan scatter_plan is_tainted mark_of any_tainted is_some names_operand operand_detail unless among_from among each some first_lane first_pair written_all number_writes copy_writes span exact.lowest exactly modulo shifted lanes_on element_value element_tainted either_tainted shl_value shl_mark shl_lane shl_effect gather_address is_read gathered_byte gathered_mark gather_writes gather_lane gather_effect channels_on target_address target source_byte misaligned outside scatter_pair first_offending scatter_effect run_from run acted plan_effect step_at
opened = Unit {0}
