-- Where 17 is given, and tables by which it never is. Document 02, request 3.
use Rattle.std.specs.Prelude.{◌≡◌, Bool, ◌&&◌, ltb, leb, length, get_or, replicate}
use Rattle.predicate_field.specs.Predicate.{has_predicate, predicate_id}
use Rattle.field_groups.specs.declared.Control.{Control}
use Rattle.predicate_table.specs.Predicates.{Predicates}
use Rattle.controls.specs.Control.{lanes_end}

-- 8 does not stand, a predicate is named and in its table, and "offset plus ExecSize over the count"
unfoldable pub past_count : Predicates → Control → Bool
past_count p control =
    leb (lanes_end control.exec) 32
    && has_predicate control.pred
    && ltb (predicate_id control.pred) (length p.bits)
    && ltb (get_or p.counts (predicate_id control.pred) 0) (lanes_end control.exec)

-- every count is 32, as of old frames: "an old four-byte frame means 32"
abbrev pub AllThirtyTwo : Predicates → Type 0
AllThirtyTwo p = p.counts ≡ replicate (length p.bits) 32
