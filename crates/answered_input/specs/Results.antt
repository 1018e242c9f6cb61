-- What a call that answers an input gives: an input that was not read to its end gives no bytes.
use Rattle.std.specs.Prelude.{List, [], ℕ, Result, Ok, Err}
use Rattle.std.specs.Borrow.{Bor}
use Rattle.streams.specs.declared.Failure.{Failure}

-- how many bytes of the buffer are used
abbrev pub count_of : Result ℕ Failure → ℕ
count_of (Ok used) = used
count_of (Err failure) = 0

-- the bytes that are handed on to be written
abbrev pub bytes_of : Result (Bor (List ℕ)) Failure → List ℕ
bytes_of (Ok bytes) = bytes.now
bytes_of (Err failure) = []
