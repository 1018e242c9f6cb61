-- Laws of lent buffers that become something: one call after the other, and the turns of a loop that writes to one.
use Prim.Native.Nat.{ℕ, ◌+◌, ◌-◌, ◌≤◌, ◌<◌}
use mathlib.Core.Path.{◌≡◌, refl, sym, ap, ◌∙◌}
use mathlib.Core.Bool.{Bool, true, false, cond}
use mathlib.Core.List.{List, [], ◌∷◌, ◌++◌}
use Rattle.cells.specs.declared.Buffer as lent
use Rattle.cells.specs.Buffer.{Buffer}
use Rattle.cells.specs.Writes.{Write, written, written_all}
use Rattle.cells.specs.Over.{among_from, each}
use Rattle.cells.specs.Lent.{held, Becomes, Leads}
use lib.ListN.{length}
use Rattle.cells.proofs.WriteLaws.{written_none, written-append, bytes-kept, taint-kept, writes-turn, writes-over}
use Rattle.cells.proofs.LaneLaws.{lanes-turn, lanes-over}

-- told in other words
pub becomes-is : (a b : lent.Buffer) (x y : Buffer) → x ≡ y → Becomes a b x → Becomes a b y
becomes-is a b x y e h = record { bytes = h.bytes; taint = h.taint; content = h.content ∙ e }

-- nothing is done
pub becomes-same : (a : lent.Buffer) (x : Buffer) → held a ≡ x → Becomes a a x
becomes-same a x e = record { bytes = refl; taint = refl; content = e }

-- writes, and then other writes
pub becomes-more : (a b c : lent.Buffer) (ws vs us : List Write) → us ≡ ws ++ vs → Becomes a b (written_all ws (held a)) → Becomes b c (written_all vs (held b)) → Becomes a c (written_all us (held a))
becomes-more a b c ws vs us e h g =
    record {
      bytes = g.bytes ∙ h.bytes;
      taint = g.taint ∙ h.taint;
      content = g.content ∙ (ap (written_all vs) h.content ∙ (sym (written-append ws vs (held a)) ∙ ap (λ (xs : List Write). written_all xs (held a)) (sym e)));
    }

-- the lengths stay
module _ (a b : lent.Buffer) (us : List Write) (h : Becomes a b (written_all us (held a))) where
  pub bytes-stay : length b.bytes.now ≡ length a.bytes.now
  bytes-stay = ap (λ (x : Buffer). length x.bytes) h.content ∙ bytes-kept us (held a)

  pub taint-stay : length b.taint.now ≡ length a.taint.now
  taint-stay = ap (λ (x : Buffer). length x.taint) h.content ∙ taint-kept us (held a)

-- ---- a loop that makes writes one by one
pub leads-begun : (a : lent.Buffer) (ws vs : List Write) → vs ≡ ws → Leads a a vs ws
leads-begun a ws vs e = record { bytes = refl; taint = refl; rest = ap (λ (xs : List Write). written_all xs (held a)) e }

pub leads-turn : (a b c : lent.Buffer) (ws : List Write) (x : Write) (xs : List Write) (us : List Write) → ws ≡ x ∷ xs → Becomes b c (written x (held b)) → Leads a b ws us → Leads a c xs us
leads-turn a b c ws x xs us e made l =
    record { bytes = made.bytes ∙ l.bytes; taint = made.taint ∙ l.taint; rest = writes-turn ws x xs (held b) (held c) _ e made.content l.rest }

-- several at once
pub leads-several : (a b c : lent.Buffer) (ws vs xs us : List Write) → ws ≡ vs ++ xs → Becomes b c (written_all vs (held b)) → Leads a b ws us → Leads a c xs us
leads-several a b c ws vs xs us e made l =
    record {
      bytes = made.bytes ∙ l.bytes;
      taint = made.taint ∙ l.taint;
      rest = ap (written_all xs) made.content ∙ (sym (written-append vs xs (held b)) ∙ (ap (λ (ys : List Write). written_all ys (held b)) (sym e) ∙ l.rest));
    }

pub leads-over : (a b : lent.Buffer) (ws : List Write) (us : List Write) → ws ≡ [] → Leads a b ws us → Becomes a b (written_all us (held a))
leads-over a b ws us e l = record { bytes = l.bytes; taint = l.taint; content = writes-over ws (held b) _ e l.rest }

module _ (a b : lent.Buffer) (ws us : List Write) (l : Leads a b ws us) where
  pub leads-bytes : length b.bytes.now ≡ length a.bytes.now
  leads-bytes = sym (bytes-kept ws (held b)) ∙ (ap (λ (x : Buffer). length x.bytes) l.rest ∙ bytes-kept us (held a))

  pub leads-taint : length b.taint.now ≡ length a.taint.now
  leads-taint = sym (taint-kept ws (held b)) ∙ (ap (λ (x : Buffer). length x.taint) l.rest ∙ taint-kept us (held a))

-- ---- a loop over lanes, each of which writes if it is on
module _ (f : ℕ → List Write) (p : ℕ → Bool) where
  pub lanes-lead : (i n : ℕ) (on : Bool) (a b c : lent.Buffer) (us : List Write) → i < n → on ≡ p i → Becomes b c (written_all (cond on (f i) []) (held b)) → Leads a b (each f (among_from p i (n - i))) us → Leads a c (each f (among_from p (i + 1) (n - (i + 1)))) us
  lanes-lead i n on a b c us h told made l =
      record {
        bytes = made.bytes ∙ l.bytes;
        taint = made.taint ∙ l.taint;
        rest = lanes-turn f p i n on (held b) (held c) _ h told made.content l.rest;
      }

  pub lanes-led : (i n : ℕ) (a b : lent.Buffer) (us : List Write) → n ≤ i → Leads a b (each f (among_from p i (n - i))) us → Becomes a b (written_all us (held a))
  lanes-led i n a b us h l = record { bytes = l.bytes; taint = l.taint; content = lanes-over f p i n (held b) _ h l.rest }

-- a lane that is on, and one that is off
pub lane-becomes : (on : Bool) (ws : List Write) (a b : lent.Buffer) → on ≡ true → Becomes a b (written_all ws (held a)) → Becomes a b (written_all (cond on ws []) (held a))
lane-becomes on ws a b e h = rw e h

pub lane-stays : (on : Bool) (ws : List Write) (a : lent.Buffer) → on ≡ false → Becomes a a (written_all (cond on ws []) (held a))
lane-stays on ws a e = becomes-same a _ (rw e (sym (written_none (held a))))
