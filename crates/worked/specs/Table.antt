-- Document 01, "The bench table": its starred lines, whole and in their order. Tables are types, starts and counts of the variables,
-- bits and counts of the predicates, and lengths of the surfaces.
use Rattle.std.specs.Prelude.{List, [], ◌∷◌}
use Rattle.tables.specs.Variables.{variables}
use Rattle.predicate_table.specs.Predicates.{predicates}
use Rattle.surface_table.specs.Surfaces.{surfaces}
use Rattle.tables.specs.Tables.{tables}
use Rattle.exec_byte.specs.Exec.{exec_size, exec_offset}
use Rattle.predicate_field.specs.Predicate.{predicate_id}
use Rattle.worked.specs.Region.{word_region, last_byte, registers_touched}
use Rattle.worked.specs.Case.{hex, zeros, Row, is, runs, over_registers, completes, refuses}

abbrev pub table : List Row
table =
    -- "Empty kernel: 0, none completed, position 0."
    (runs (record {
      kernel = [];
      tables = tables (variables [] [] []) (predicates [] []) (surfaces []);
      registers = [];
      surfaces = [];
      base = 0;
      memory = [];
      mask = 0;
    })
    (record { number = 0; completed = 0; position = 0; registers = []; memory = [] }))
    -- "Exec 0x23: size 8, offset 8."
    ∷ (is (exec_size 0x23) 8)
    ∷ (is (exec_offset 0x23) 8)
    -- as a run: EM bits 8 to 15 are those of the eight lanes. SHL of 1 by 1 to UB elements, here and in the next five runs
    ∷ (runs (over_registers (hex 23 0x2423000000000000000002050401000000050401000000) (tables (variables (4 ∷ []) (0 ∷ []) (32 ∷ [])) (predicates [] []) (surfaces [])) (zeros 32) 0xffff5aff)
    (completes 23 (hex 32 0x0002000202000200000000000000000000000000000000000000000000000000)))
    -- "0x15: 8 (4+32)."
    ∷ (is (exec_offset 0x15) 4)
    ∷ (is (exec_size 0x15) 32)
    ∷ (runs (over_registers (hex 23 0x2415000000000000000002050401000000050401000000) (tables (variables (4 ∷ []) (0 ∷ []) (32 ∷ [])) (predicates [] []) (surfaces [])) (zeros 32) 0xffffffff)
    (refuses 8 (zeros 32)))
    -- "0x06: 3."
    ∷ (runs (over_registers (hex 23 0x2406000000000000000002050401000000050401000000) (tables (variables (4 ∷ []) (0 ∷ []) (32 ∷ [])) (predicates [] []) (surfaces [])) (zeros 32) 0xffffffff)
    (refuses 3 (zeros 32)))
    -- "0xf4: 8."
    ∷ (runs (over_registers (hex 23 0x24f4000000000000000002050401000000050401000000) (tables (variables (4 ∷ []) (0 ∷ []) (32 ∷ [])) (predicates [] []) (surfaces [])) (zeros 32) 0xffffffff)
    (refuses 8 (zeros 32)))
    -- "Pred 0x8000: predicate 0 inverted."
    ∷ (is (predicate_id 0x8000) 0)
    -- as a run: predicate 0 has the low four bits, so the other four lanes are on
    ∷ (runs (over_registers (hex 23 0x2403008000000000000002050401000000050401000000) (tables (variables (4 ∷ []) (0 ∷ []) (32 ∷ [])) (predicates (0xf ∷ []) (32 ∷ [])) (surfaces [])) (zeros 32) 0xffffffff)
    (completes 23 (hex 32 0x0000000002020202000000000000000000000000000000000000000000000000)))
    -- "any, size 8, bits 0x80, EM 0x01: only lane 0 on."
    ∷ (runs (over_registers (hex 23 0x2403002000000000000002050401000000050401000000) (tables (variables (4 ∷ []) (0 ∷ []) (32 ∷ [])) (predicates (0x80 ∷ []) (32 ∷ [])) (surfaces [])) (zeros 32) 0x1)
    (completes 23 (hex 32 0x0200000000000000000000000000000000000000000000000000000000000000)))
    -- "UB 0x81 by 1: UB 0x02, .."
    ∷ (runs (over_registers (hex 24 0x240000000001000000000200000000002101050401000000) (tables (variables (4 ∷ 4 ∷ []) (0 ∷ 16 ∷ []) (1 ∷ 1 ∷ [])) (predicates [] []) (surfaces [])) (hex 32 0x8100000000000000000000000000000000000000000000000000000000000000) 0x1)
    (completes 24 (hex 32 0x8100000000000000000000000000000002000000000000000000000000000000)))
    -- ".. UW 0x0102."
    ∷ (runs (over_registers (hex 24 0x240000000001000000000200000000002101050401000000) (tables (variables (4 ∷ 2 ∷ []) (0 ∷ 16 ∷ []) (1 ∷ 1 ∷ [])) (predicates [] []) (surfaces [])) (hex 32 0x8100000000000000000000000000000000000000000000000000000000000000) 0x1)
    (completes 24 (hex 32 0x8100000000000000000000000000000002010000000000000000000000000000)))
    -- "B 0x81 into W: 0xff02." (by 1)
    ∷ (runs (over_registers (hex 24 0x240000000001000000000200000000002101050401000000) (tables (variables (5 ∷ 3 ∷ []) (0 ∷ 16 ∷ []) (1 ∷ 1 ∷ [])) (predicates [] []) (surfaces [])) (hex 32 0x8100000000000000000000000000000000000000000000000000000000000000) 0x1)
    (completes 24 (hex 32 0x8100000000000000000000000000000002ff0000000000000000000000000000)))
    -- "UD 1 by 33: 2."
    ∷ (runs (over_registers (hex 24 0x240000000001000000000200000000002101050421000000) (tables (variables (0 ∷ 0 ∷ []) (0 ∷ 16 ∷ []) (1 ∷ 1 ∷ [])) (predicates [] []) (surfaces [])) (hex 32 0x0100000000000000000000000000000000000000000000000000000000000000) 0x1)
    (completes 24 (hex 32 0x0100000000000000000000000000000002000000000000000000000000000000)))
    -- "UB 1 by 8 into UB: 0."
    ∷ (runs (over_registers (hex 24 0x240000000001000000000200000000002101050408000000) (tables (variables (4 ∷ 4 ∷ []) (0 ∷ 16 ∷ []) (1 ∷ 1 ∷ [])) (predicates [] []) (surfaces [])) (hex 32 0x01000000000000000000000000000000ff000000000000000000000000000000) 0x1)
    (completes 24 (hex 32 0x0100000000000000000000000000000000000000000000000000000000000000)))
    -- "UW <16;8,2>, size 16, start 0: last byte 61, good."
    ∷ (is (last_byte 32 (word_region 6 5 3) 16) 61)
    -- as a run: a variable of 31 elements ends with byte 61.
    ∷ (runs (over_registers (hex 24 0x240400000001000000000200000000005603050400000000) (tables (variables (2 ∷ 2 ∷ []) (0 ∷ 64 ∷ []) (31 ∷ 16 ∷ [])) (predicates [] []) (surfaces [])) (hex 96 0x0100020003000400050006000700080009000a000b000c000d000e000f0010001100120013001400150016001700180019001a001b001c001d001e001f0000000000000000000000000000000000000000000000000000000000000000000000) 0xffff)
    (completes 24 (hex 96 0x0100020003000400050006000700080009000a000b000c000d000e000f0010001100120013001400150016001700180019001a001b001c001d001e001f000000010003000500070009000b000d000f00110013001500170019001b001d001f00)))
    -- with one element less it is refused
    ∷ (runs (over_registers (hex 24 0x240400000001000000000200000000005603050400000000) (tables (variables (2 ∷ 2 ∷ []) (0 ∷ 64 ∷ []) (30 ∷ 16 ∷ [])) (predicates [] []) (surfaces [])) (hex 96 0x0100020003000400050006000700080009000a000b000c000d000e000f0010001100120013001400150016001700180019001a001b001c001d001e001f0000000000000000000000000000000000000000000000000000000000000000000000) 0xffff)
    (refuses 7 (hex 96 0x0100020003000400050006000700080009000a000b000c000d000e000f0010001100120013001400150016001700180019001a001b001c001d001e001f0000000000000000000000000000000000000000000000000000000000000000000000)))
    -- "<32;8,2>: last byte 93, three registers, 7."
    ∷ (is (last_byte 32 (word_region 7 5 3) 16) 93)
    ∷ (is (registers_touched 32 (word_region 7 5 3) 16) 3)
    -- as a run: a variable of 47 elements ends with byte 93.
    ∷ (runs (over_registers (hex 24 0x240400000001000000000200000000005703050400000000) (tables (variables (2 ∷ 2 ∷ []) (0 ∷ 96 ∷ []) (47 ∷ 16 ∷ [])) (predicates [] []) (surfaces [])) (zeros 128) 0xffff)
    (refuses 7 (zeros 128)))
    -- "Gather offset 0xffffffff, element 2: address 1." Four bytes of a surface of six.
    ∷ (runs (record {
      kernel = hex 23 0x7800000000020000000500ffffffff0000000001000000;
      tables = tables (variables (0 ∷ 0 ∷ []) (0 ∷ 16 ∷ []) (1 ∷ 1 ∷ [])) (predicates [] []) (surfaces (6 ∷ []));
      registers = hex 32 0x0200000000000000000000000000000000000000000000000000000000000000;
      surfaces = hex 6 0x101112131415;
      base = 0;
      memory = [];
      mask = 0x1;
    })
    (completes 23 (hex 32 0x0200000000000000000000000000000011121314000000000000000000000000)))
    -- "Surface of 10, four bytes at 8: two bytes, two zeros."
    ∷ (runs (record {
      kernel = hex 23 0x7800000000020000000500080000000000000001000000;
      tables = tables (variables (0 ∷ 0 ∷ []) (0 ∷ 16 ∷ []) (1 ∷ 1 ∷ [])) (predicates [] []) (surfaces (10 ∷ []));
      registers = hex 32 0x00000000000000000000000000000000ffffffff000000000000000000000000;
      surfaces = hex 10 0x10111213141516171819;
      base = 0;
      memory = [];
      mask = 0x1;
    })
    (completes 23 (hex 32 0x0000000000000000000000000000000018190000000000000000000000000000)))
    -- "Scatter channels 1010, size 8: channel 1 takes dwords 0-7 to +4, channel 3 dwords 8-15 to +12." Dword d holds d + 1; lane i goes to 16 i.
    ∷ (runs (record {
      kernel = hex 26 0x4e070300000a0000050b00100000000000000000000001000000;
      tables = tables (variables (11 ∷ 0 ∷ []) (0 ∷ 64 ∷ []) (8 ∷ 16 ∷ [])) (predicates [] []) (surfaces []);
      registers = hex 128 0x000000000000000010000000000000002000000000000000300000000000000040000000000000005000000000000000600000000000000070000000000000000100000002000000030000000400000005000000060000000700000008000000090000000a0000000b0000000c0000000d0000000e0000000f00000010000000;
      surfaces = [];
      base = 0x1000;
      memory = zeros 128;
      mask = 0xff;
    })
    (record { number = 0; completed = 1; position = 26; registers = hex 128 0x000000000000000010000000000000002000000000000000300000000000000040000000000000005000000000000000600000000000000070000000000000000100000002000000030000000400000005000000060000000700000008000000090000000a0000000b0000000c0000000d0000000e0000000f00000010000000; memory = hex 128 0x000000000100000000000000090000000000000002000000000000000a0000000000000003000000000000000b0000000000000004000000000000000c0000000000000005000000000000000d0000000000000006000000000000000e0000000000000007000000000000000f00000000000000080000000000000010000000 }))
    ∷ []
