-- What follows from the law for a whole text: printing then reading, reading then printing, and the column.
use mathlib.Core.Path.{◌≡◌, refl, sym, ap, ◌∙◌, subst}
use mathlib.Core.List.{List, [], ◌∷◌, ◌++◌, append-nil}
use mathlib.Core.Logic.{◌⊎◌, inl, inr, ⊎_elim}
use mathlib.Core.Bool.{Bool, true, false, cond}
use Prim.Native.Nat.{ℕ, zero, suc, ◌+◌, ◌≤◌, ◌<◌}
use native.Mathlib.Omega.{arith}
use lib.Dec.{eqb}
use lib.ListN.{length, take, drop, length-append, drop_of_length-le, take-append-drop}
use borrow.Author.Tests.{eqb-true, eqb-false, eq-eqb}
use Rattle.formats.specs.Format.{Out, got, stop, on_out, Format}
use Rattle.formats.specs.Whole.{whole, Viable, Column}
use Rattle.formats.specs.Mirror.Scan.{common}
use Rattle.formats.proofs.Tests.{cond-then}
use Rattle.formats.proofs.Agree.{same, same-append, common-append, common-left, common-take}
use Rattle.formats.proofs.Law.{Got, Right, Lawful}

same_self : (t : List ℕ) → same t t ≡ suc (length t)
unfolding same
same_self [] = refl
same_self (c ∷ t) = rw (eq-eqb c c refl, same_self t)

same-nil : (t : List ℕ) → (length t ≡ 0 → ⊥) → same t [] ≡ 0
unfolding same
same-nil [] h = absurd (h refl)
same-nil (c ∷ t) h = refl

-- agreement up to the first k + 1 characters
same-take : (t r : List ℕ) (k : ℕ) → k < length t → k < same t (take (suc k) t ++ r)
unfolding same
same-take [] r k h = absurd (omega arith)
same-take (c ∷ t) r zero h = rw (eq-eqb c c refl) (omega arith)
same-take (c ∷ t) r (suc k) h = rw (eq-eqb c c refl) (omega (arith, same-take t r k (omega arith)))

module _ {A : Type 0} (f : Format A) (m : ℕ → Bool) (law : Lawful f m) where
  -- the one value whose text it is, or the place by which it parts from every value's text
  pub record Read (t : List ℕ) (v : A) (e : ℕ) : Type 0 where
    pub fine : f.good v ≡ true
    pub text : t ≡ f.print v
    pub end : e ≡ length t
    pub only : (w : A) → f.good w ≡ true → t ≡ f.print w → w ≡ v

  pub record Apart (t : List ℕ) (k : ℕ) : Type 0 where
    pub most : A
    pub fine : f.good most ≡ true
    pub reach : k ≤ common t (f.print most)
    pub none : (w : A) → f.good w ≡ true → same t (f.print w) ≤ k

  abbrev Whole : List ℕ → Out A → Type 0
  Whole t (got v e) = Read t v e
  Whole t (stop k) = Apart t k

  near : (t : List ℕ) (k : ℕ) (w : A) → 0 + same t (f.print w ++ []) ≤ k → same t (f.print w) ≤ k
  near t k w q = let y : 0 + same t (f.print w) ≤ k = rw (append-nil (f.print w)) at q in omega (arith, y)

  module _ (t : List ℕ) where
    all_read : (v : A) (e : ℕ) → Got f m t 0 v e → eqb e (length t) ≡ true → Read t v e
    all_read v e r z =
        let n : e ≡ length t = eqb-true e (length t) z in
        let x : t ≡ f.print v = r.text ∙ ap (λ (l : List ℕ). f.print v ++ l) (drop_of_length-le t {i = e} (omega (arith, n))) ∙ append-nil (f.print v) in
        record {
          fine = r.fine;
          text = x;
          end = n;
          only = λ w h p. ⊎_elim (λ q. q) (λ q. absurd (far w p q n)) (r.only w [] h refl);
        }
      where
        far : (w : A) → t ≡ f.print w → 0 + same t (f.print w ++ []) ≤ e → e ≡ length t → ⊥
        far w p q n =
            let y : same t (f.print w ++ []) ≡ suc (length t) = rw (append-nil (f.print w), ← p) (same_self t) in
            omega (arith, q, n, y)

    more-stands : (v : A) (e : ℕ) → Got f m t 0 v e → eqb e (length t) ≡ false → Apart t e
    more-stands v e r z =
        let l : length t ≡ length (f.print v) + length (drop e t) = ap length r.text ∙ length-append (f.print v) (drop e t) in
        record {
          most = v;
          fine = r.fine;
          reach = reaches;
          none = λ w h. ⊎_elim
              (λ q. rw (q) (parts (λ n. eqb-false e (length t) z (omega (arith, l, n, r.end)))))
              (near t e w)
              (r.only w [] h refl);
        }
      where
        reaches : e ≤ common t (f.print v)
        reaches =
            let x : common (f.print v ++ drop e t) (f.print v ++ []) ≡ length (f.print v) + common (drop e t) [] = common-append (f.print v) (drop e t) [] in
            let y : common t (f.print v) ≡ length (f.print v) + common (drop e t) [] = ap (λ (l : List ℕ). common l (f.print v)) r.text ∙ ap (λ (l : List ℕ). common (f.print v ++ drop e t) l) (sym (append-nil (f.print v))) ∙ x in
            omega (arith, y, r.end)

        parts : (length (drop e t) ≡ 0 → ⊥) → same t (f.print v) ≤ e
        parts h =
            let x : same t (f.print v) ≡ length (f.print v) + same (drop e t) [] = ap (λ (l : List ℕ). same l (f.print v)) r.text ∙ ap (λ (l : List ℕ). same (f.print v ++ drop e t) l) (sym (append-nil (f.print v))) ∙ same-append (f.print v) (drop e t) [] in
            omega (arith, x, same-nil (drop e t) h, r.end)

    whole_out : (o : Out A) → Right f m t 0 o → Whole t (on_out o stop (λ v e. cond (eqb e (length t)) (got v e) (stop e)))
    whole_out (got v e) r = cond-then (Whole t) (eqb e (length t)) (all_read v e r) (more-stands v e r)
    whole_out (stop k) r =
        record { most = r.most; fine = r.fine; reach = omega (arith, r.reach); none = λ w h. near t k w (r.none w [] h refl) }

    whole-right : Whole t (whole f t)
    unfolding whole
    whole-right = whole_out (f.read t 0) (law.right t 0)

  -- what is printed is read back: no two good values have the same text
  pub print-read : (v : A) → f.good v ≡ true → whole f (f.print v) ≡ got v (length (f.print v))
  print-read v h = told (whole f (f.print v)) (whole-right (f.print v))
    where
      told : (o : Out A) → Whole (f.print v) o → o ≡ got v (length (f.print v))
      told (got w e) r = rw (r.end, r.only v h refl)
      told (stop k) r = absurd (omega (arith, r.reach, r.none v h, same_self (f.print v), common-left (f.print v) (f.print r.most)))

  -- a text that is read is the text of the value read
  pub read-print : (t : List ℕ) (v : A) (e : ℕ) → whole f t ≡ got v e → (f.good v ≡ true) × (t ≡ f.print v)
  read-print t v e x = let r : Read t v e = subst (Whole t) x (whole-right t) in (r.fine, r.text)

  -- the first character with which no value's text goes on
  pub read-column : (t : List ℕ) (k : ℕ) → whole f t ≡ stop k → Column f t k
  read-column t k x =
      let r : Apart t k = subst (Whole t) x (whole-right t) in
      record {
        inside = omega (arith, r.reach, common-left t (f.print r.most));
        before = record {
          value = r.most;
          fine = r.fine;
          rest = drop k (f.print r.most);
          text = sym (take-append-drop k (f.print r.most)) ∙ ap (λ (l : List ℕ). l ++ drop k (f.print r.most)) (sym (common-take t (f.print r.most) k r.reach));
        };
        here = told (eqb k (length t)) refl r;
      }
    where
      none : Apart t k → k < length t → Viable f (take (suc k) t) → ⊥
      none r h y =
          let q : k < same t (f.print y.value) = rw y.text (same-take t y.rest k h) in
          omega (arith, q, r.none y.value y.fine)

      told : (b : Bool) → eqb k (length t) ≡ b → Apart t k → (k ≡ length t) ⊎ (Viable f (take (suc k) t) → ⊥)
      told true e r = inl (eqb-true k (length t) e)
      told false e r = inr (none r (under (eqb-false k (length t) e) (omega (arith, r.reach, common-left t (f.print r.most)))))
        where
          under : (k ≡ length t → ⊥) → k ≤ length t → k < length t
          under h g = omega (arith, h, g)
