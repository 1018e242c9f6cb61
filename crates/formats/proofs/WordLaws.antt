-- A table of words is a lawful format. Where a word begins another, the character with which that goes on may not follow.
use mathlib.Core.Path.{◌≡◌, refl, sym, ap, ◌∙◌, subst}
use mathlib.Core.List.{List, [], ◌∷◌, ◌++◌}
use mathlib.Core.Logic.{◌⊎◌, inl, inr, ⊎_elim}
use mathlib.Core.Bool.{Bool, true, false, cond, ◌&&◌, not, true≢false}
use Prim.Native.Nat.{ℕ, suc, ◌+◌, ◌-◌, ◌≤◌, ◌<◌}
use native.Mathlib.Omega.{arith}
use lib.Dec.{eqb, ltb}
use lib.ListN.{length, drop, length-drop}
use borrow.Author.Tests.{eqb-true, eqb-false, eq-eqb, ltb-true, ltb-false, lt-ltb}
use Rattle.formats.specs.Words.{words, word_at, one_of, table}
use Rattle.formats.specs.Mirror.Scan.{common, better, scan, no_word, chosen, word_in}
use Rattle.formats.specs.declared.Best.{Best}
use Rattle.formats.proofs.Tests.{both, both_left, both_right, cond-then}
use Rattle.formats.proofs.Agree.{same, ends, past, common-left, common-right}
use Rattle.formats.proofs.Law.{Right, Lawful}
use Rattle.formats.proofs.Following.{Begins}
use Rattle.formats.proofs.TableTests.{separable, separated, sound, opens, separated-at, heads-at}

-- ---- a word and the text

-- a word that the text has in part
partly : (t w u : List ℕ) → common t w < length w → same t (w ++ u) ≤ common t w
unfolding common same
partly [] [] u h = absurd (omega arith)
partly [] (d ∷ w) u h = omega arith
partly (c ∷ t) [] u h = absurd (omega arith)
partly (c ∷ t) (d ∷ w) u h = on (eqb c d) h (λ g. partly t w u g)
  where
    on : (b : Bool) → cond b (suc (common t w)) 0 < suc (length w) → (common t w < length w → same t (w ++ u) ≤ common t w) → cond b (suc (same t (w ++ u))) 0 ≤ cond b (suc (common t w)) 0
    on true g r = omega (arith, r (omega arith))
    on false g r = omega arith

-- a word that the text has whole, where it has more of another
wholly : (m : ℕ → Bool) (t v w u : List ℕ) → common t v ≡ length v → length v < common t w → separable m v w ≡ true → ends m u ≡ true → same t (v ++ u) ≤ length v
unfolding common same separable
wholly m [] [] w u p q k z = absurd (omega arith)
wholly m [] (x ∷ v) w u p q k z = absurd (omega arith)
wholly m (c ∷ t) [] [] u p q k z = absurd (omega arith)
wholly m (c ∷ t) [] (d ∷ w) [] p q k z = omega arith
wholly m (c ∷ t) [] (d ∷ w) (x ∷ u) p q k z = on (eqb c d) refl (eqb c x) refl q
  where
    on : (b : Bool) → eqb c d ≡ b → (a : Bool) → eqb c x ≡ a → 0 < cond b (suc (common t w)) 0 → cond a (suc (same t u)) 0 ≤ 0
    on false e a f h = absurd (omega arith)
    on true e false f h = omega arith
    on true e true f h =
        let y : m x ≡ true = ap m (sym (eqb-true c x f) ∙ eqb-true c d e) ∙ k in
        absurd (true≢false (sym z ∙ ap not y))
wholly m (c ∷ t) (x ∷ v) [] u p q k z = absurd (omega arith)
wholly m (c ∷ t) (x ∷ v) (d ∷ w) u p q k z = on (eqb c x) refl (eqb c d) refl p q (λ a b j. wholly m t v w u a b j z)
  where
    on : (a : Bool) → eqb c x ≡ a → (b : Bool) → eqb c d ≡ b → cond a (suc (common t v)) 0 ≡ suc (length v) → suc (length v) < cond b (suc (common t w)) 0 →
        (common t v ≡ length v → length v < common t w → separable m v w ≡ true → same t (v ++ u) ≤ length v) → cond a (suc (same t (v ++ u))) 0 ≤ suc (length v)
    on false e b f g h r = omega arith
    on true e false f g h r = absurd (omega arith)
    on true e true f g h r =
        let y : eqb x d ≡ true = eq-eqb x d (sym (eqb-true c x e) ∙ eqb-true c d f) in
        let j : separable m v w ≡ true = rw y at k in
        omega (arith, r (omega arith) (omega arith) j)

-- the text has no two words of one length
twice : (m : ℕ → Bool) (t v w : List ℕ) → common t v ≡ length v → common t w ≡ length w → length v ≡ length w → separable m v w ≡ true → ⊥
unfolding common separable
twice m t [] [] p q n k = true≢false (sym k)
twice m t [] (d ∷ w) p q n k = omega arith
twice m t (x ∷ v) [] p q n k = omega arith
twice m [] (x ∷ v) (d ∷ w) p q n k = omega arith
twice m (c ∷ t) (x ∷ v) (d ∷ w) p q n k = on (eqb c x) refl (eqb c d) refl p q (λ a b j. twice m t v w a b (omega arith) j)
  where
    on : (a : Bool) → eqb c x ≡ a → (b : Bool) → eqb c d ≡ b → cond a (suc (common t v)) 0 ≡ suc (length v) → cond b (suc (common t w)) 0 ≡ suc (length w) →
        (common t v ≡ length v → common t w ≡ length w → separable m v w ≡ true → ⊥) → ⊥
    on false e b f g h r = omega arith
    on true e false f g h r = omega arith
    on true e true f g h r =
        let y : eqb x d ≡ true = eq-eqb x d (sym (eqb-true c x e) ∙ eqb-true c d f) in
        let j : separable m v w ≡ true = rw y at k in
        r (omega arith) (omega arith) j

-- a text that has a word whole begins with it
starts : (t w : List ℕ) → common t w ≡ length w → t ≡ w ++ drop (length w) t
unfolding common
starts t [] p = refl
starts [] (d ∷ w) p = absurd (omega arith)
starts (c ∷ t) (d ∷ w) p = on (eqb c d) refl p (λ h. starts t w h)
  where
    on : (b : Bool) → eqb c d ≡ b → cond b (suc (common t w)) 0 ≡ suc (length w) → (common t w ≡ length w → t ≡ w ++ drop (length w) t) → c ∷ t ≡ d ∷ (w ++ drop (length w) t)
    on true e g r = λ i. eqb-true c d e i ∷ r (omega arith) i
    on false e g r = absurd (omega arith)

-- ---- the walk over the table

record Reached (w : ℕ → List ℕ) (t : List ℕ) (i n : ℕ) : Type 0 where
  word : ℕ
  inside : word < i
  reach : n ≤ common t (w word)

-- what is kept after the words before i
record Walked (w : ℕ → List ℕ) (t : List ℕ) (i : ℕ) (b : Best) : Type 0 where
  each : (j : ℕ) → j < i → common t (w j) ≤ b.reach
  some : (b.reach ≡ 0) ⊎ Reached w t i b.reach
  is : b.full ≡ true → (b.word < i) × (length (w b.word) ≡ b.reach) × (common t (w b.word) ≡ b.reach)
  none : b.full ≡ false → (j : ℕ) → j < i → length (w j) ≡ b.reach → common t (w j) ≡ b.reach → ⊥

module _ (w : ℕ → List ℕ) (t : List ℕ) (i : ℕ) (b : Best) (k : Walked w t i b) where
  -- of the words before i and word i
  upto : (P : ℕ → Type 0) → P i → ((j : ℕ) → j < i → P j) → (j : ℕ) → j < suc i → P j
  upto P here earlier j g = told (eqb j i) refl
    where
      under : (j ≡ i → ⊥) → j < suc i → j < i
      under n h = omega (arith, n, h)

      told : (x : Bool) → eqb j i ≡ x → P j
      told true e = subst P (sym (eqb-true j i e)) here
      told false e = earlier j (under (eqb-false j i e) g)

  abbrev n : ℕ
  n = common t (w i)

  abbrev full : Bool
  full = eqb n (length (w i))

  longer : b.reach < n → Walked w t (suc i) (record { reach = n; full = full; word = i })
  longer h =
      record {
        each = upto (λ (j : ℕ). common t (w j) ≤ n) (omega arith) (λ j g. omega (arith, k.each j g, h));
        some = inr (record { word = i; inside = omega arith; reach = omega arith });
        is = λ f. (omega arith, sym (eqb-true n (length (w i)) f), refl);
        none = λ f. upto (λ (j : ℕ). length (w j) ≡ n → common t (w j) ≡ n → ⊥) (λ p q. eqb-false n (length (w i)) f (sym p)) (λ j g p q. omega (arith, k.each j g, h, q));
      }

  first : n ≡ b.reach → full ≡ true → Walked w t (suc i) (record { reach = n; full = true; word = i })
  first e f =
      record {
        each = upto (λ (j : ℕ). common t (w j) ≤ n) (omega arith) (λ j g. omega (arith, k.each j g, e));
        some = inr (record { word = i; inside = omega arith; reach = omega arith });
        is = λ _. (omega arith, sym (eqb-true n (length (w i)) f), refl);
        none = λ x. absurd (true≢false x);
      }

  kept : n ≤ b.reach → (eqb n b.reach && (full && not b.full)) ≡ false → Walked w t (suc i) b
  kept h e =
      record {
        each = upto (λ (j : ℕ). common t (w j) ≤ b.reach) h k.each;
        some = ⊎_elim inl (λ r. inr (record { word = r.word; inside = omega (arith, r.inside); reach = r.reach })) k.some;
        is = λ f. let r = k.is f in (omega (arith, r.0), r.1, r.2);
        none = λ f. upto (λ (j : ℕ). length (w j) ≡ b.reach → common t (w j) ≡ b.reach → ⊥) (λ p q. true≢false (sym (all f p q) ∙ e)) (k.none f);
      }
    where
      all : b.full ≡ false → length (w i) ≡ b.reach → common t (w i) ≡ b.reach → (eqb n b.reach && (full && not b.full)) ≡ true
      all f p q = both (eqb n b.reach) (full && not b.full) (eq-eqb n b.reach q) (both full (not b.full) (eq-eqb n (length (w i)) (q ∙ sym p)) (ap not f))

  walk-on : Walked w t (suc i) (better b n full i)
  unfolding better
  walk-on =
      cond-then (Walked w t (suc i)) (ltb b.reach n)
      (λ h. longer (ltb-true b.reach n h))
      (λ h. cond-then (Walked w t (suc i)) (eqb n b.reach && (full && not b.full))
      (λ e. first (eqb-true n b.reach (both_left (eqb n b.reach) (full && not b.full) e)) (both_left full (not b.full) (both_right (eqb n b.reach) (full && not b.full) e)))
      (λ e. kept (ltb-false b.reach n h) e))

walk : (ws : List (List ℕ)) (w : ℕ → List ℕ) (t : List ℕ) (i : ℕ) (b : Best) → ((j : ℕ) → j < length ws → word_at ws j ≡ w (i + j)) → Walked w t i b → Walked w t (i + length ws) (scan ws t i b)
unfolding scan word_at
walk [] w t i b e k = subst (λ (n : ℕ). Walked w t n b) (omega arith) k
walk (v ∷ ws) w t i b e k =
    subst (λ (n : ℕ). Walked w t n (scan ws t (suc i) (better b (common t v) (eqb (common t v) (length v)) i))) (omega arith)
    (walk ws w t (suc i) (better b (common t v) (eqb (common t v) (length v)) i)
    (λ j h. e (suc j) (omega arith) ∙ ap w (shift j))
    (subst (λ (x : List ℕ). Walked w t (suc i) (better b (common t x) (eqb (common t x) (length x)) i)) (sym (e 0 (omega arith) ∙ ap w (zeros i))) (walk-on w t i b k)))
  where
    shift : (j : ℕ) → i + suc j ≡ suc i + j
    shift j = omega arith

    zeros : (i : ℕ) → i + 0 ≡ i
    zeros i = omega arith

walked : (ws : List (List ℕ)) (t : List ℕ) → Walked (word_at ws) t (length ws) (scan ws t 0 no_word)
walked ws t =
    subst (λ (n : ℕ). Walked (word_at ws) t n (scan ws t 0 no_word)) (omega arith)
    (walk ws (word_at ws) t 0 no_word (λ j h. ap (word_at ws) (omega arith))
    (record { each = λ j h. absurd (omega arith); some = inl refl; is = λ f. absurd (true≢false (sym f)); none = λ f j h. absurd (omega arith) }))

-- no more of the text than there is
pub scan-inside : (ws : List (List ℕ)) (s : List ℕ) (at : ℕ) (b : Best) → b ≡ scan ws (drop at s) 0 no_word → b.reach ≤ length s - at
scan-inside ws s at b e =
    let k = walked ws (drop at s) in
    let n : ℕ = (scan ws (drop at s) 0 no_word).reach in
    let h : n ≤ length (drop at s) = ⊎_elim (λ z. omega (arith, z)) (λ r. omega (arith, r.reach, common-left (drop at s) (word_at ws r.word))) k.some in
    omega (arith, h, length-drop at s, ap (λ (x : Best). x.reach) e)

-- ---- the format

module _ (ws : List (List ℕ)) (m : ℕ → Bool) (nonempty : 0 < length ws) (apart : separated m ws ≡ true) (s : List ℕ) (at : ℕ) (b : Best) (k : Walked (word_at ws) (drop at s) (length ws) b) where
  top : Reached (word_at ws) (drop at s) (length ws) b.reach
  top = ⊎_elim (λ e. record { word = 0; inside = nonempty; reach = omega (arith, e) }) (λ r. r) k.some

  -- a word that is not just the longest start parts from the text by the end of it
  below : (j : ℕ) (u : List ℕ) → j < length ws → ends m u ≡ true → (length (word_at ws j) ≡ b.reach → common (drop at s) (word_at ws j) ≡ b.reach → ⊥) → same (drop at s) (word_at ws j ++ u) ≤ b.reach
  below j u h z n = told (ltb (common t v) (length v)) refl
    where
      t : List ℕ
      t = drop at s

      v : List ℕ
      v = word_at ws j

      shorter : common t v ≡ length v → length v < b.reach → same t (v ++ u) ≤ b.reach
      shorter e g =
          let d : length v < common t (word_at ws top.word) = omega (arith, g, top.reach) in
          let x : j ≡ top.word → ⊥ = λ p. omega (arith, d, e, ap (λ (i : ℕ). common t (word_at ws i)) p) in
          omega (arith, wholly m t v (word_at ws top.word) u e d (separated-at m ws j top.word apart h top.inside x) z, g)

      level : (a : Bool) → eqb (length v) b.reach ≡ a → common t v ≡ length v → same t (v ++ u) ≤ b.reach
      level true f e = absurd (n (eqb-true (length v) b.reach f) (e ∙ eqb-true (length v) b.reach f))
      level false f e = shorter e (smaller (eqb-false (length v) b.reach f) (k.each j h))
        where
          smaller : (length v ≡ b.reach → ⊥) → common t v ≤ b.reach → length v < b.reach
          smaller f g = omega (arith, f, g, e)

      told : (a : Bool) → ltb (common t v) (length v) ≡ a → same t (v ++ u) ≤ b.reach
      told true e = omega (arith, partly t v u (ltb-true (common t v) (length v) e), k.each j h)
      told false e = level (eqb (length v) b.reach) refl (le_antisym (ltb-false (common t v) (length v) e) (common-right t v))
        where
          le_antisym : length v ≤ common t v → common t v ≤ length v → common t v ≡ length v
          le_antisym f g = omega (arith, f, g)

  word-right : Right (one_of ws) m s at (chosen at b)
  unfolding one_of chosen
  word-right =
      cond-then (Right (one_of ws) m s at) b.full
      (λ f.
      let r = k.is f in
      let v = word_at ws b.word in
      let y : drop at s ≡ v ++ drop (length v) (drop at s) = starts (drop at s) v (r.2 ∙ sym r.1) in
      let z : at + b.reach ≡ at + length v = ap (λ (n : ℕ). at + n) (sym r.1) in
      record {
        fine = lt-ltb b.word (length ws) r.0;
        end = z;
        text = y ∙ ap (λ (l : List ℕ). v ++ l) (sym (ap (λ (n : ℕ). drop n s) z ∙ past s at v (drop (length v) (drop at s)) y));
        only = λ j u h g. only f j u (ltb-true j (length ws) h) g (eqb j b.word) refl;
      })
      (λ f. record {
        most = top.word;
        fine = lt-ltb top.word (length ws) top.inside;
        reach = omega (arith, top.reach);
        none = λ j u h z. let i = ltb-true j (length ws) h in omega (arith, below j u i z (k.none f j i));
      })
    where
      only : b.full ≡ true → (j : ℕ) (u : List ℕ) → j < length ws → ends m u ≡ true → (x : Bool) → eqb j b.word ≡ x → (j ≡ b.word) ⊎ (at + same (drop at s) (word_at ws j ++ u) ≤ at + b.reach)
      only f j u h g true e = inl (eqb-true j b.word e)
      only f j u h g false e =
          let r = k.is f in
          let d = below j u h g (λ p q. twice m (drop at s) (word_at ws j) (word_at ws b.word) (q ∙ sym p) (r.2 ∙ sym r.1) (p ∙ sym r.1) (separated-at m ws j b.word apart h r.0 (eqb-false j b.word e))) in
          inr (omega (arith, d))

pub one-of-lawful : (ws : List (List ℕ)) (m : ℕ → Bool) → 0 < length ws → separated m ws ≡ true → Lawful (one_of ws) m
unfolding one_of word_in
one-of-lawful ws m h k =
    record {
      right = λ s at. word-right ws m h k s at (scan ws (drop at s) 0 no_word) (walked ws (drop at s));
      some = 0;
      fine = lt-ltb 0 (length ws) h;
    }

pub table-lawful : (p : List ℕ) (m : ℕ → Bool) → sound m p ≡ true → Lawful (table p) m
unfolding sound
table-lawful p m e =
    one-of-lawful (words p) m
    (ltb-true 0 (length (words p)) (both_left (ltb 0 (length (words p))) (separated m (words p)) e))
    (both_right (ltb 0 (length (words p))) (separated m (words p)) e)

pub begins-table : (p : List ℕ) (m : ℕ → Bool) → opens m p ≡ true → Begins m (table p)
unfolding opens one_of
begins-table p m e = record { apart = λ i u h. heads-at m (words p) i u e (ltb-true i (length (words p)) h) }
