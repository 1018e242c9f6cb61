-- What a lent buffer holds, and what a call makes of it.
use Rattle.std.specs.Prelude.{◌≡◌, List}
use Rattle.cells.specs.declared.Buffer as lent
use Rattle.cells.specs.declared.View.{View}
use Rattle.cells.specs.Buffer.{Buffer, buffer}
use Rattle.cells.specs.Writes.{Write, written_all}

abbrev pub viewed : View → Buffer
viewed v = buffer v.bytes.now v.taint.now

abbrev pub held : lent.Buffer → Buffer
held b = buffer b.bytes.now b.taint.now

-- the same two loans, and behind them this
pub record Becomes (old new : lent.Buffer) (what : Buffer) : Type 0 where
  pub bytes : new.bytes.ghost_name ≡ old.bytes.ghost_name
  pub taint : new.taint.ghost_name ≡ old.taint.ghost_name
  pub content : held new ≡ what

-- the same two loans, and these writes, made now, give what those give that are made at once
pub record Leads (old new : lent.Buffer) (left all : List Write) : Type 0 where
  pub bytes : new.bytes.ghost_name ≡ old.bytes.ghost_name
  pub taint : new.taint.ghost_name ≡ old.taint.ghost_name
  pub rest : written_all left (held new) ≡ written_all all (held old)
