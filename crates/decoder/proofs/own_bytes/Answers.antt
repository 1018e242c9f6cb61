-- `decoder::own_bytes` meets its contract: an accepted instruction ends past its start and within the kernel.
use Rattle.std.proofs.Common.{sym, arith}
use Rattle.decoder.proofs.Laws.{accepted-within}
use Rattle.decoder.proofs.own_bytes.Goals as goal

pub slice_bounds-result-count : goal.slice_bounds-result-count
slice_bounds-result-count c =
    let h = accepted-within _ _ _ _ (λ k. (c.type_inv.kernel k).fits) (sym c.in-Ok.ensures) in
    omega (arith, h.past)

pub slice_bounds-result-start : goal.slice_bounds-result-start
slice_bounds-result-start c =
    let h = accepted-within _ _ _ _ (λ k. (c.type_inv.kernel k).fits) (sym c.in-Ok.ensures) in
    omega (arith, h.past)

pub slice_bounds-result-end : goal.slice_bounds-result-end
slice_bounds-result-end c =
    let h = accepted-within _ _ _ _ (λ k. (c.type_inv.kernel k).fits) (sym c.in-Ok.ensures) in
    omega (arith, h.inside)
