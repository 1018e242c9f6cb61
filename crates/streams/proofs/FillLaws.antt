-- A buffer that a reader fills from a place on.
use Rattle.std.proofs.Common.{◌≡◌, sym, ap, ◌∙◌, ℕ, ◌+◌, ◌≤◌, le_refl, List, ◌++◌, length, take, drop, drop_at, length-take-le}
use Rattle.std.proofs.Math.Seq.{take-add}
use Rattle.std.proofs.lemmas.List.{take-append-le}
use Rattle.std.proofs.lemmas.Slice.{take-put_mid_below}
use borrow.Rule.Slice.PartMut.{put_mid, post_of}

-- what was given stands behind what stood there before
pub filled-more : (at k n : ℕ) (before given : List ℕ) → at ≤ length before → n ≤ length given → take at before ++ take n given ≡ take (at + n) (put_mid at k before given)
filled-more at k n before given inside some =
    let after = put_mid at k before given in
    let behind : take n (drop at after) ≡ take n given =
    ap (take n) (drop_at (take at before) (given ++ post_of at k before) at (length-take-le at before inside)) ∙ take-append-le n given (post_of at k before) some in
    ap (λ l. l ++ take n given) (sym (take-put_mid_below at k before given at (le_refl at) inside)) ∙ ap (λ l. take at after ++ l) (sym behind) ∙ sym (take-add at n after)
