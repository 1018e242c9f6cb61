-- A line that was too long, an empty one, one that is no hex, and a kernel.
use Rattle.std.proofs.Common.{rules}
use Rattle.listing.proofs.LoadLaws.{load-long, load-empty, not_so, is-so, load-bad, load-good}
use Rattle.listing.proofs.load.Goals as goal

pub returns-then-long : goal.returns-then-long
returns-then-long c = let p = load-long _ _ c.if-long.true in record { good = p.0; bytes = p.1 }

pub returns-then-is_empty : goal.returns-then-is_empty
returns-then-is_empty c = let p = load-empty _ c.args.characters.now c.if-long.false (search rules) in record { good = p.0; bytes = p.1 }

pub returns-then-not-is_hex : goal.returns-then-not-is_hex
returns-then-not-is_hex c =
    let p = load-bad _ _ c.if-long.false (search rules) (not_so _ _ c.is_hex.ensures c.if-not-is_hex.true-raw) in
    record { good = p.0; bytes = p.1 }

pub returns : goal.returns
returns c =
    let p = load-good _ _ _ _ _ c.if-long.false (search rules) (is-so _ _ c.is_hex.ensures c.if-not-is_hex.false-raw) c.requires c.store.ensures.1 c.content_length.ensures in
    record { good = p.0; bytes = p.1 }
