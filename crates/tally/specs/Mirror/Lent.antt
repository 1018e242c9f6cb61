-- What stands in the buffers that a function of the loader is lent.
use Rattle.std.specs.Prelude.{◌≡◌}
use Rattle.tally.specs.declared.ContentBuffers.{ContentBuffers}
use Rattle.tally.specs.declared.TableBuffers.{TableBuffers}
use Rattle.tally.specs.declared.TableViews.{TableViews}
use Rattle.tally.specs.Mirror.Reading.{Contents, contents, Tables, tables}

abbrev pub contents_of : ContentBuffers → Contents
contents_of b = contents b.registers.now b.memory.now b.kernel.now b.register_taint.now b.surface_taint.now b.memory_taint.now

abbrev pub tables_of : TableBuffers → Tables
tables_of b = tables b.types.now b.starts.now b.counts.now b.predicate_bits.now b.predicate_counts.now b.surface_bytes.now b.surface_lengths.now

abbrev pub tables_seen : TableViews → Tables
tables_seen v = tables v.types.now v.starts.now v.counts.now v.predicate_bits.now v.predicate_counts.now v.surface_bytes.now v.surface_lengths.now

-- The references that were lent.
pub record SameContents (old new : ContentBuffers) : Type 0 where
  pub registers : new.registers.ghost_name ≡ old.registers.ghost_name
  pub memory : new.memory.ghost_name ≡ old.memory.ghost_name
  pub kernel : new.kernel.ghost_name ≡ old.kernel.ghost_name
  pub register_taint : new.register_taint.ghost_name ≡ old.register_taint.ghost_name
  pub surface_taint : new.surface_taint.ghost_name ≡ old.surface_taint.ghost_name
  pub memory_taint : new.memory_taint.ghost_name ≡ old.memory_taint.ghost_name

pub record SameTables (old new : TableBuffers) : Type 0 where
  pub types : new.types.ghost_name ≡ old.types.ghost_name
  pub starts : new.starts.ghost_name ≡ old.starts.ghost_name
  pub counts : new.counts.ghost_name ≡ old.counts.ghost_name
  pub predicate_bits : new.predicate_bits.ghost_name ≡ old.predicate_bits.ghost_name
  pub predicate_counts : new.predicate_counts.ghost_name ≡ old.predicate_counts.ghost_name
  pub surface_bytes : new.surface_bytes.ghost_name ≡ old.surface_bytes.ghost_name
  pub surface_lengths : new.surface_lengths.ghost_name ≡ old.surface_lengths.ghost_name
