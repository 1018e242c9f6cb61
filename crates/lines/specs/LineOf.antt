-- The line of an instruction, to be held beside the Text line of its page: "single spaces, decimal unless hex is shown, no line end". Nothing of reading
-- is used here; proofs/PrintLaws.antt says that the format prints it. The texts of predicate and exec byte have the space that follows them.
use Rattle.std.specs.Prelude.{ℕ, ◌^◌, List, ◌++◌, not, ◌&&◌, eqb}
use Rattle.formats.specs.Text.{text}
use Rattle.formats.specs.Numerals.{digits_of}
use Rattle.bits.specs.Bits.{bit}
use Rattle.field_groups.specs.declared.Access.{Access}
use Rattle.decoder.specs.declared.Shl.{Shl}
use Rattle.decoder.specs.declared.Gather.{Gather}
use Rattle.decoder.specs.declared.Scatter.{Scatter}
use Rattle.decoder.specs.declared.RawSend.{RawSend}
use Rattle.decoder.specs.declared.Instruction.{Instruction}
use Rattle.decoder.specs.declared.Instruction.TheVariants as instruction
use Rattle.control_texts.specs.Texts.{optional, predicate_text, exec_text}
use Rattle.text_parts.specs.Texts.{raw_text}
use Rattle.operand_texts.specs.Texts.{operand_text, destination_text}

-- a part with the space that follows it
abbrev pub spaced : List ℕ → List ℕ
spaced t = t ++ text " "

-- page 004: SHL, exec, Dst, Src0, Src1
unfoldable pub shl_line : Shl → List ℕ
shl_line x =
    predicate_text x.control.pred
    ++ (text "SHL "
    ++ (exec_text x.control.exec
    ++ (spaced (destination_text x.destination)
    ++ (spaced (operand_text x.source)
    ++ operand_text x.count))))

-- ` {1,0}`: "ignored fields, and those that a page's text leaves out, follow as `{1,0}` in byte order if one is not zero"
unfoldable pub gather_braces_text : Access → List ℕ
gather_braces_text a =
    optional (not (eqb a.block_size 0 && eqb a.scale 0))
    (text " {" ++ (digits_of 10 a.block_size ++ (text "," ++ (digits_of 10 a.scale ++ text "}"))))

-- page 001: bytes at each address, exec, Surface, Offset, Element_offset, Dst, ignored fields
unfoldable pub gather_line : Gather → List ℕ
gather_line x =
    predicate_text x.control.pred
    ++ (text "GATHER_SCALED."
    ++ (spaced (digits_of 10 (2 ^ x.access.num_blocks))
    ++ (exec_text x.control.exec
    ++ (text "T"
    ++ (spaced (digits_of 10 x.access.surface)
    ++ (spaced (operand_text x.offset)
    ++ (spaced (raw_text x.element_offset)
    ++ (raw_text x.destination
    ++ gather_braces_text x.access))))))))

-- "channels as letters of RGBA"; page 000: "with R being bit 0 and A bit 3"
unfoldable pub letters_text : ℕ → List ℕ
letters_text channels =
    optional (bit channels 0) (text "R") ++ (optional (bit channels 1) (text "G") ++ (optional (bit channels 2) (text "B") ++ optional (bit channels 3) (text "A")))

unfoldable pub scatter_braces_text : ℕ → List ℕ
scatter_braces_text scale = optional (not (eqb scale 0)) (text " {" ++ (digits_of 10 scale ++ text "}"))

-- page 000: channels, exec, Address, Element_offset, Src, the ignored field
unfoldable pub scatter_line : Scatter → List ℕ
scatter_line x =
    predicate_text x.control.pred
    ++ (text "SVM_SCATTER4_SCALED."
    ++ (spaced (letters_text x.channels)
    ++ (exec_text x.control.exec
    ++ (spaced (operand_text x.address)
    ++ (spaced (raw_text x.element_offset)
    ++ (raw_text x.source
    ++ scatter_braces_text x.scale))))))

-- page 002: send or sendc by bit 0 of Modifiers, exec, ExMsgDesc, NumSrc, NumDst, Desc, Src, Dst
unfoldable pub raw_send_line : RawSend → List ℕ
raw_send_line x =
    predicate_text x.control.pred
    ++ (text "raw_send"
    ++ (spaced (optional (bit x.modifiers 0) (text "c"))
    ++ (exec_text x.control.exec
    ++ (text "0x"
    ++ (spaced (digits_of 16 x.message.extended)
    ++ (spaced (digits_of 10 x.message.num_src)
    ++ (spaced (digits_of 10 x.message.num_dst)
    ++ (spaced (operand_text x.descriptor)
    ++ (spaced (raw_text x.source)
    ++ raw_text x.destination)))))))))

unfoldable pub line_of : Instruction → List ℕ
line_of (instruction.Shl x) = shl_line x
line_of (instruction.Gather x) = gather_line x
line_of (instruction.Scatter x) = scatter_line x
line_of (instruction.RawSend x) = raw_send_line x
