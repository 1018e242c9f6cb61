-- What a program says where it ends with work undone, behind its name.
use Rattle.std.specs.Prelude.{List, ℕ, codes}
use Rattle.streams.specs.declared.Failure.{Failure}
use Rattle.streams.specs.declared.Failure.TheVariants.{Unread, Unwritten}

abbrev pub failure_text : Failure → List ℕ
failure_text Unread = codes "standard input cannot be read"
failure_text Unwritten = codes "standard output cannot be written"
