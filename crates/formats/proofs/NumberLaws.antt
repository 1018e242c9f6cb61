-- Numbers of a range are a lawful format, behind which no digit may stand: once over the base and the range.
use mathlib.Core.Path.{◌≡◌, refl, sym, ap, ◌∙◌, subst}
use mathlib.Core.List.{List, [], ◌∷◌, ◌++◌, append_assoc, append-nil}
use mathlib.Core.Logic.{◌⊎◌, inl, inr, ⊎_elim}
use mathlib.Core.Bool.{Bool, true, false, cond, ◌&&◌, not, true≢false}
use Prim.Native.Nat.{ℕ, zero, suc, ◌+◌, ◌*◌, ◌-◌, ◌/◌, ◌%◌, ◌≤◌, ◌<◌}
use native.Mathlib.Omega.{arith}
use native.Mathlib.Nat.{div-lt_self, mul-add-div_right, div-eq_of_lt, mod-eq-sub-div-mul, div-add-mod', le-div_iff_mul-le, mul-le-mul_right, mod-lt}
use lib.Dec.{eqb, ltb, leb}
use lib.ListN.{length, drop}
use borrow.Author.Tests.{eqb-true, eqb-false, ne_eqb, ltb-true, ltb-false, lt-ltb, le-ltb, le-leb, lt-leb, leb-true}
use Rattle.hex_text.specs.Digits.{is_decimal, is_letter, character_of}
use Rattle.hex_text.proofs.DigitLaws.{decimal-between, letter-between}
use Rattle.formats.specs.Format.{Out, got, stop}
use Rattle.formats.specs.Numerals.{digits, digits_of}
use Rattle.formats.specs.Numbers.{number}
use Rattle.formats.specs.Mirror.Digits.{value_of, is_digit, goes_on, more_digits, begins, number_in}
use Rattle.formats.proofs.Tests.{both, both_left, both_right, cond-then}
use Rattle.formats.proofs.Agree.{same, ends, past}
use Rattle.formats.proofs.Law.{Got, Stopped, Right, Lawful}
use Rattle.formats.proofs.Following.{Begins}

-- ---- digits and their values undo each other

pub value-character : (d : ℕ) → d < 16 → value_of (character_of d) ≡ d
unfolding character_of value_of is_decimal is_letter
value-character d h =
    let P : ℕ → Type 0 = λ c. cond (leb 48 c && leb c 57) (c - 48) (cond (leb 97 c && leb c 102) (c - 97 + 10) 16) ≡ d in
    cond-then P (ltb d 10)
    (λ e. let k : d < 10 = ltb-true d 10 e in rw (le-leb 48 (48 + d) (omega arith), le-leb (48 + d) 57 (omega arith)) (omega arith))
    (λ e.
    let k : 10 ≤ d = ltb-false d 10 e in
    rw (lt-ltb d 16 h, le-leb 48 (97 + (d - 10)) (omega arith), lt-leb (97 + (d - 10)) 57 (omega arith), le-leb 97 (97 + (d - 10)) (omega arith), le-leb (97 + (d - 10)) 102 (omega arith))
    (omega arith))

character-value : (c : ℕ) → value_of c < 16 → character_of (value_of c) ≡ c
unfolding value_of character_of
character-value c =
    cond-then (λ (d : ℕ). d < 16 → character_of d ≡ c) (is_decimal c)
    (λ e h. let k = decimal-between c e in rw (lt-ltb (c - 48) 10 (omega (arith, k.1))) (omega (arith, k.0)))
    (λ _. cond-then (λ (d : ℕ). d < 16 → character_of d ≡ c) (is_letter c)
    (λ e h. let k = letter-between c e in rw (le-ltb (c - 97 + 10) 10 (omega arith), lt-ltb (c - 97 + 10) 16 h) (omega (arith, k.0)))
    (λ _ h. absurd (omega (arith, h))))

module _ (b : ℕ) (two : 2 ≤ b) (small : b ≤ 16) where
  quotient : (v d : ℕ) → d < b → (v * b + d) / b ≡ v
  quotient v d h = mul-add-div_right (omega (arith, two)) v d ∙ ap (λ (x : ℕ). v + x) (div-eq_of_lt h) ∙ omega arith

  remainder : (v d : ℕ) → d < b → (v * b + d) % b ≡ d
  remainder v d h = mod-eq-sub-div-mul (v * b + d) b ∙ ap (λ (x : ℕ). v * b + d - x * b) (quotient v d h) ∙ omega arith

  many : (v : ℕ) → 0 < v → b ≤ v * b
  many v h = let k : 1 * b ≤ v * b = mul-le-mul_right b h in omega (arith, k)

  grows : (v d : ℕ) → v ≤ v * b + d
  grows v d = let k : v * 1 ≤ v * b = more v in omega (arith, k)
    where
      more : (v : ℕ) → v * 1 ≤ v * b
      more zero = omega arith
      more (suc v) = omega (arith, more v, two)

  -- as many turns as the number or more
  pub digits-turns : (k j n : ℕ) → n ≤ k → n ≤ j → digits b k n ≡ digits b j n
  unfolding digits
  digits-turns zero zero n h g = refl
  digits-turns zero (suc j) n h g = rw (lt-ltb n b (omega (arith, h, two)))
  digits-turns (suc k) zero n h g = rw (lt-ltb n b (omega (arith, g, two)))
  digits-turns (suc k) (suc j) n h g = on (ltb n b) refl (λ x y. digits-turns k j (n / b) x y)
    where
      on : (a : Bool) → ltb n b ≡ a → (n / b ≤ k → n / b ≤ j → digits b k (n / b) ≡ digits b j (n / b)) →
          cond a (character_of n ∷ []) (digits b k (n / b) ++ (character_of (n % b) ∷ [])) ≡ cond a (character_of n ∷ []) (digits b j (n / b) ++ (character_of (n % b) ∷ []))
      on true e r = refl
      on false e r =
          let d : n / b < n = div-lt_self (omega (arith, ltb-false n b e, two)) two in
          rw (r (omega (arith, d, h)) (omega (arith, d, g)))

  -- one digit more
  pub digits_more : (v d : ℕ) → 0 < v → d < b → digits_of b (v * b + d) ≡ digits_of b v ++ (character_of d ∷ [])
  unfolding digits
  digits_more v d h k =
      digits-turns (v * b + d) (suc (v * b + d)) (v * b + d) (omega arith) (omega arith)
      ∙ rw (le-ltb (v * b + d) b (omega (arith, many v h)), quotient v d k, remainder v d k, digits-turns (v * b + d) v v (grows v d) (omega arith))

  -- ---- the characters of a number

  all_digits : List ℕ → Bool
  all_digits [] = true
  all_digits (c ∷ q) = is_digit b c && all_digits q

  value : ℕ → List ℕ → ℕ
  value v [] = v
  value v (c ∷ q) = value (v * b + value_of c) q

  all_snoc : (q : List ℕ) (x : ℕ) → all_digits q ≡ true → is_digit b x ≡ true → all_digits (q ++ (x ∷ [])) ≡ true
  unfolding all_digits
  all_snoc [] x h k = both (is_digit b x) true k refl
  all_snoc (c ∷ q) x h k = both (is_digit b c) (all_digits (q ++ (x ∷ []))) (both_left (is_digit b c) (all_digits q) h) (all_snoc q x (both_right (is_digit b c) (all_digits q) h) k)

  value-snoc : (v : ℕ) (q : List ℕ) (x : ℕ) → value v (q ++ (x ∷ [])) ≡ value v q * b + value_of x
  unfolding value
  value-snoc v [] x = refl
  value-snoc v (c ∷ q) x = value-snoc (v * b + value_of c) q x

  value-least : (v : ℕ) (q : List ℕ) → v ≤ value v q
  unfolding value
  value-least v [] = omega arith
  value-least v (c ∷ q) = omega (arith, grows v (value_of c), value-least (v * b + value_of c) q)

  record Shape (n : ℕ) (t : List ℕ) : Type 0 where
    first : ℕ
    rest : List ℕ
    is : t ≡ first ∷ rest
    digit : is_digit b first ≡ true
    digits : all_digits rest ≡ true
    sum : value (value_of first) rest ≡ n
    lead : 0 < n → 0 < value_of first

  char-digit : (d : ℕ) → d < b → is_digit b (character_of d) ≡ true
  unfolding is_digit
  char-digit d h = rw (value-character d (omega (arith, h, small))) (lt-ltb d b h)

  shape_one : (n : ℕ) → n < b → Shape n (character_of n ∷ [])
  unfolding all_digits value
  shape_one n h =
      let e = value-character n (omega (arith, h, small)) in
      record { first = character_of n; rest = []; is = refl; digit = char-digit n h; digits = refl; sum = e; lead = λ k. omega (arith, e, k) }

  shape : (k n : ℕ) → n ≤ k → Shape n (digits b k n)
  unfolding digits
  shape zero n h = shape_one n (omega (arith, h, two))
  shape (suc k) n h =
      cond-then (Shape n) (ltb n b)
      (λ e. shape_one n (ltb-true n b e))
      (λ e.
      let d : n / b < n = div-lt_self (omega (arith, ltb-false n b e, two)) two in
      let r = shape k (n / b) (omega (arith, d, h)) in
      let l : n % b < b = mod-lt n (omega (arith, two)) in
      let x = value-character (n % b) (omega (arith, l, small)) in
      record {
        first = r.first;
        rest = r.rest ++ (character_of (n % b) ∷ []);
        is = ap (λ (t : List ℕ). t ++ (character_of (n % b) ∷ [])) r.is;
        digit = r.digit;
        digits = all_snoc r.rest (character_of (n % b)) r.digits (char-digit (n % b) l);
        sum = value-snoc (value_of r.first) r.rest (character_of (n % b)) ∙ rw (r.sum, x) (div-add-mod' n b);
        lead = λ _. r.lead ((le-div_iff_mul-le (omega (arith, two))).1 (omega (arith, ltb-false n b e)));
      })

  shaped : (n : ℕ) → Shape n (digits_of b n)
  shaped n = shape n n (omega arith)

  -- ---- reading on

  module _ (high : ℕ) where
    record Run (v at : ℕ) (t : List ℕ) (w e : ℕ) : Type 0 where
      read : List ℕ
      left : List ℕ
      split : t ≡ read ++ left
      end : e ≡ at + length read
      print : digits_of b w ≡ digits_of b v ++ read
      low : v ≤ w
      top : w ≤ high
      only : (x u : List ℕ) → all_digits x ≡ true → value v x ≤ high → ends (is_digit b) u ≡ true → (value v x ≡ w) ⊎ (at + same t (x ++ u) ≤ e)

    abbrev RunOk : ℕ → ℕ → List ℕ → Out ℕ → Type 0
    RunOk v at t (got w e) = Run v at t w e
    RunOk v at t (stop k) = ⊥

    apart : (c y : ℕ) → is_digit b c ≡ true → not (is_digit b y) ≡ true → eqb c y ≡ false
    apart c y h k = ne_eqb c y (λ p. true≢false (sym k ∙ ap not (sym (ap (is_digit b) p) ∙ h)))

    run-stops : (v at : ℕ) (t : List ℕ) → v ≤ high → ((c : ℕ) (r x : List ℕ) → t ≡ c ∷ r → all_digits (c ∷ x) ≡ true → value v (c ∷ x) ≤ high → ⊥) → Run v at t v at
    unfolding same value
    run-stops v at t h never =
        record { read = []; left = t; split = refl; end = omega arith; print = sym (append-nil (digits_of b v)); low = omega arith; top = h; only = only t never }
      where
        only : (t : List ℕ) → ((c : ℕ) (r x : List ℕ) → t ≡ c ∷ r → all_digits (c ∷ x) ≡ true → value v (c ∷ x) ≤ high → ⊥) → (x u : List ℕ) → all_digits x ≡ true → value v x ≤ high → ends (is_digit b) u ≡ true → (value v x ≡ v) ⊎ (at + same t (x ++ u) ≤ at)
        only t bad [] u p q z = inl refl
        only [] bad (y ∷ x) u p q z = inr (omega arith)
        only (c ∷ r) bad (y ∷ x) u p q z = inr (told (eqb c y) refl)
          where
            told : (a : Bool) → eqb c y ≡ a → at + cond a (suc (same r (x ++ u))) 0 ≤ at
            told false e = omega arith
            told true e = absurd (bad y r x (ap (λ (k : ℕ). k ∷ r) (eqb-true c y e)) p q)

    run-goes : (v at c : ℕ) (t : List ℕ) → 0 < v → is_digit b c ≡ true → (o : Out ℕ) → RunOk (v * b + value_of c) (at + 1) t o → RunOk v at (c ∷ t) o
    unfolding same value all_digits is_digit
    run-goes v at c t h k (stop n) r = absurd r
    run-goes v at c t h k (got w e) r =
        let d : value_of c < b = ltb-true (value_of c) b k in
        let x : character_of (value_of c) ≡ c = character-value c (omega (arith, d, small)) in
        record {
          read = c ∷ r.read;
          left = r.left;
          split = ap (λ (l : List ℕ). c ∷ l) r.split;
          end = omega (arith, r.end);
          print = r.print ∙ ap (λ (l : List ℕ). l ++ r.read) (digits_more v (value_of c) h d ∙ ap (λ (y : ℕ). digits_of b v ++ (y ∷ [])) x) ∙ append_assoc (digits_of b v) (c ∷ []) r.read;
          low = omega (arith, r.low, grows v (value_of c));
          top = r.top;
          only = only;
        }
      where
        far : (x u : List ℕ) (y : ℕ) → all_digits x ≡ true → value (v * b + value_of y) x ≤ high → ends (is_digit b) u ≡ true → (a : Bool) → eqb c y ≡ a → (value (v * b + value_of y) x ≡ w) ⊎ (at + cond a (suc (same t (x ++ u))) 0 ≤ e)
        far x u y p q z false f = inr (omega (arith, r.end))
        far x u y p q z true f =
            let i : c ≡ y = eqb-true c y f in
            let q' : value (v * b + value_of c) x ≤ high = rw i q in
            ⊎_elim (λ g. inl (ap (λ (n : ℕ). value (v * b + value_of n) x) (sym i) ∙ g)) (λ g. inr (omega (arith, g))) (r.only x u p q' z)

        only : (x u : List ℕ) → all_digits x ≡ true → value v x ≤ high → ends (is_digit b) u ≡ true → (value v x ≡ w) ⊎ (at + same (c ∷ t) (x ++ u) ≤ e)
        only [] [] p q z = inr (omega (arith, r.end))
        only [] (y ∷ u) p q z = inr (rw (apart c y k z) (omega (arith, r.end)))
        only (y ∷ x) u p q z = far x u y (both_right (is_digit b y) (all_digits x) p) q z (eqb c y) refl

    -- no turn where the test fails
    ends-here : (v c y : ℕ) (t r x : List ℕ) → 0 < v → goes_on b high v (value_of c) ≡ false → ◌≡◌ {A = List ℕ} (c ∷ t) (y ∷ r) → all_digits (y ∷ x) ≡ true → value v (y ∷ x) ≤ high → ⊥
    unfolding goes_on is_digit all_digits value
    ends-here v c y t r x h f e p q =
        let i : c ≡ y = ap (first_or c) e in
        let d : is_digit b y ≡ true = both_left (is_digit b y) (all_digits x) p in
        let l : leb (v * b + value_of y) high ≡ true = le-leb (v * b + value_of y) high (omega (arith, value-least (v * b + value_of y) x, q)) in
        let g : goes_on b high v (value_of y) ≡ true = both (is_digit b y) (leb (v * b + value_of y) high) d l in
        true≢false (sym g ∙ ap (λ (x : ℕ). goes_on b high v (value_of x)) (sym i) ∙ f)
      where
        first_or : ℕ → List ℕ → ℕ
        first_or z [] = z
        first_or z (a ∷ l) = a

    run_ok : (v at : ℕ) (t : List ℕ) → 0 < v → v ≤ high → RunOk v at t (more_digits b high v at t)
    unfolding more_digits goes_on is_digit
    run_ok v at [] h k = run-stops v at [] k (λ c r x e p q. nil-cons c r e)
      where
        is_nil : List ℕ → Type 0
        is_nil [] = Unit {0}
        is_nil (a ∷ l) = ⊥

        nil-cons : (c : ℕ) (r : List ℕ) → [] ≡ c ∷ r → ⊥
        nil-cons c r e = subst is_nil e tt
    run_ok v at (c ∷ t) h k =
        cond-then (RunOk v at (c ∷ t)) (goes_on b high v (value_of c))
        (λ g. run-goes v at c t h (goes-digit v c g) (more_digits b high (v * b + value_of c) (at + 1) t)
        (run_ok (v * b + value_of c) (at + 1) t (omega (arith, grows v (value_of c), h)) (goes-top v c g)))
        (λ f. run-stops v at (c ∷ t) k (λ y r x e p q. ends-here v c y t r x h f e p q))
      where
        goes-digit : (v c : ℕ) → goes_on b high v (value_of c) ≡ true → is_digit b c ≡ true
        goes-digit v c g = both_left (is_digit b c) (leb (v * b + value_of c) high) g

        goes-top : (v c : ℕ) → goes_on b high v (value_of c) ≡ true → v * b + value_of c ≤ high
        goes-top v c g = leb-true (v * b + value_of c) high (both_right (is_digit b c) (leb (v * b + value_of c) high) g)

    module _ (low : ℕ) (one : low ≤ 1) (some : low ≤ high) (s : List ℕ) (at : ℕ) where
      -- a printed number begins with a character that `begins` takes
      begun : (w : ℕ) → (number b low high).good w ≡ true → begins b low high (value_of (shaped w).first) ≡ true
      unfolding number begins is_digit
      begun w h =
          let r = shaped w in
          let l = leb-true low w (both_left (leb low w) (leb w high) h) in
          let k = leb-true w high (both_right (leb low w) (leb w high) h) in
          both (is_digit b r.first) (leb low (value_of r.first) && leb (value_of r.first) high) r.digit
          (both (leb low (value_of r.first)) (leb (value_of r.first) high)
          (le-leb low (value_of r.first) (least w r l))
          (le-leb (value_of r.first) high (omega (arith, value-least (value_of r.first) r.rest, r.sum, k))))
        where
          least : (w : ℕ) (r : Shape w (digits_of b w)) → low ≤ w → low ≤ value_of r.first
          least zero r l = omega (arith, l)
          least (suc w) r l = omega (arith, r.lead (omega arith), one)

      none-begins : (t : List ℕ) → drop at s ≡ t → ((c : ℕ) (r : List ℕ) → t ≡ c ∷ r → begins b low high (value_of c) ≡ false) → Stopped (number b low high) (is_digit b) s at at
      unfolding number same
      none-begins t e never =
          record {
            most = low;
            fine = both (leb low low) (leb low high) (le-leb low low (omega arith)) (le-leb low high some);
            reach = omega arith;
            none = λ w u h z. rw (e, (shaped w).is) (far t never w u h);
          }
        where
          far : (t : List ℕ) → ((c : ℕ) (r : List ℕ) → t ≡ c ∷ r → begins b low high (value_of c) ≡ false) → (w : ℕ) (u : List ℕ) → (number b low high).good w ≡ true → at + same t ((shaped w).first ∷ ((shaped w).rest ++ u)) ≤ at
          far [] bad w u h = omega arith
          far (c ∷ r) bad w u h = told (eqb c (shaped w).first) refl
            where
              told : (a : Bool) → eqb c (shaped w).first ≡ a → at + cond a (suc (same r ((shaped w).rest ++ u))) 0 ≤ at
              told false f = omega arith
              told true f = absurd (true≢false (sym (begun w h) ∙ ap (λ (x : ℕ). begins b low high (value_of x)) (sym (eqb-true c (shaped w).first f)) ∙ bad c r refl))

      -- a first digit, and what was read on
      read-on : (c : ℕ) (t : List ℕ) (w e : ℕ) → drop at s ≡ c ∷ t → is_digit b c ≡ true → low ≤ value_of c → Run (value_of c) (at + 1) t w e → ((v : ℕ) → (number b low high).good v ≡ true → ((shaped v).first ≡ c) → value (value_of c) (shaped v).rest ≡ v) → Got (number b low high) (is_digit b) s at w e
      unfolding number same digits is_digit
      read-on c t w e p d l r sums =
          let k : value_of c < b = ltb-true (value_of c) b d in
          let o : digits_of b (value_of c) ≡ c ∷ [] = digits-turns (value_of c) (suc (value_of c)) (value_of c) (omega arith) (omega arith) ∙ rw (lt-ltb (value_of c) b k, character-value c (omega (arith, k, small))) in
          let y : digits_of b w ≡ c ∷ r.read = r.print ∙ ap (λ (x : List ℕ). x ++ r.read) o in
          let n : e ≡ at + length (digits_of b w) = omega (arith, r.end, ap length y) in
          let x : drop at s ≡ digits_of b w ++ r.left = p ∙ ap (λ (x : List ℕ). c ∷ x) r.split ∙ sym (ap (λ (x : List ℕ). x ++ r.left) y) in
          record {
            fine = both (leb low w) (leb w high) (le-leb low w (omega (arith, r.low, l))) (le-leb w high r.top);
            end = n;
            text = x ∙ ap (λ (x : List ℕ). digits_of b w ++ x) (sym (ap (λ (i : ℕ). drop i s) n ∙ past s at (digits_of b w) r.left x));
            only = λ v u h z. rw (p, (shaped v).is) (told v u h z (eqb c (shaped v).first) refl);
          }
        where
          told : (v : ℕ) (u : List ℕ) → (number b low high).good v ≡ true → ends (is_digit b) u ≡ true → (a : Bool) → eqb c (shaped v).first ≡ a → (v ≡ w) ⊎ (at + cond a (suc (same t ((shaped v).rest ++ u))) 0 ≤ e)
          told v u h z false f = inr (omega (arith, r.end))
          told v u h z true f =
              let q = sums v h (sym (eqb-true c (shaped v).first f)) in
              let g : value (value_of c) (shaped v).rest ≤ high = rw q (leb-true v high (both_right (leb low v) (leb v high) h)) in
              ⊎_elim (λ i. inl (sym q ∙ i)) (λ i. inr (omega (arith, i))) (r.only (shaped v).rest u (shaped v).digits g z)

      sums-to : (c v : ℕ) → (shaped v).first ≡ c → value (value_of c) (shaped v).rest ≡ v
      sums-to c v e = ap (λ (x : ℕ). value (value_of x) (shaped v).rest) (sym e) ∙ (shaped v).sum

      -- 0 is read alone
      read-zero : (c : ℕ) (t : List ℕ) → drop at s ≡ c ∷ t → is_digit b c ≡ true → low ≤ value_of c → value_of c ≡ 0 → Got (number b low high) (is_digit b) s at 0 (at + 1)
      unfolding number same digits is_digit
      read-zero c t p d l z =
          let o : digits_of b 0 ≡ c ∷ [] = ap (λ (x : ℕ). character_of x ∷ []) (sym z) ∙ ap (λ (x : ℕ). x ∷ []) (character-value c (omega (arith, z))) in
          record {
            fine = both (leb low 0) (leb 0 high) (le-leb low 0 (omega (arith, l, z))) (le-leb 0 high (omega arith));
            end = refl;
            text = p ∙ ap (λ (x : List ℕ). x ++ t) (sym o) ∙ ap (λ (x : List ℕ). digits_of b 0 ++ x) (sym (past s at (c ∷ []) t p));
            only = λ v u h y. rw (p, (shaped v).is) (told v u (eqb c (shaped v).first) refl);
          }
        where
          told : (v : ℕ) (u : List ℕ) (a : Bool) → eqb c (shaped v).first ≡ a → (v ≡ 0) ⊎ (at + cond a (suc (same t ((shaped v).rest ++ u))) 0 ≤ at + 1)
          told v u false f = inr (omega arith)
          told zero u true f = inl refl
          told (suc v) u true f = absurd (omega (arith, (shaped (suc v)).lead (omega arith), ap value_of (eqb-true c (shaped (suc v)).first f), z))

      run-right : (c : ℕ) (t : List ℕ) → drop at s ≡ c ∷ t → is_digit b c ≡ true → low ≤ value_of c → (o : Out ℕ) → RunOk (value_of c) (at + 1) t o → Right (number b low high) (is_digit b) s at o
      run-right c t e d l (stop k) r = absurd r
      run-right c t e d l (got w n) r = read-on c t w n e d l r (λ v h p. sums-to c v p)

      number-out : (t : List ℕ) → drop at s ≡ t → Right (number b low high) (is_digit b) s at (number_in b low high at t)
      unfolding number_in begins is_digit
      number-out [] e = none-begins [] e (λ c r p. absurd (nil-cons c r p))
        where
          is_nil : List ℕ → Type 0
          is_nil [] = Unit {0}
          is_nil (a ∷ l) = ⊥

          nil-cons : (c : ℕ) (r : List ℕ) → [] ≡ c ∷ r → ⊥
          nil-cons c r p = subst is_nil p tt
      number-out (c ∷ t) e =
          cond-then (Right (number b low high) (is_digit b) s at) (begins b low high (value_of c))
          (λ h. taken h)
          (λ h. none-begins (c ∷ t) e (λ y r p. ap (λ (x : ℕ). begins b low high (value_of x)) (sym (ap (first_or c) p)) ∙ h))
        where
          first_or : ℕ → List ℕ → ℕ
          first_or z [] = z
          first_or z (a ∷ l) = a

          taken : begins b low high (value_of c) ≡ true → Right (number b low high) (is_digit b) s at (cond (eqb (value_of c) 0) (got 0 (at + 1)) (more_digits b high (value_of c) (at + 1) t))
          taken h =
              let d = both_left (is_digit b c) (leb low (value_of c) && leb (value_of c) high) h in
              let r = both_right (is_digit b c) (leb low (value_of c) && leb (value_of c) high) h in
              let l = leb-true low (value_of c) (both_left (leb low (value_of c)) (leb (value_of c) high) r) in
              let k = leb-true (value_of c) high (both_right (leb low (value_of c)) (leb (value_of c) high) r) in
              cond-then (Right (number b low high) (is_digit b) s at) (eqb (value_of c) 0)
              (λ z. read-zero c t e d l (eqb-true (value_of c) 0 z))
              (λ z. run-right c t e d l (more_digits b high (value_of c) (at + 1) t) (run_ok (value_of c) (at + 1) t (positive (eqb-false (value_of c) 0 z)) k))
            where
              positive : (value_of c ≡ 0 → ⊥) → 0 < value_of c
              positive n = omega (arith, n)

pub number-lawful : (b low high : ℕ) → 2 ≤ b → b ≤ 16 → low ≤ 1 → low ≤ high → Lawful (number b low high) (is_digit b)
unfolding number
number-lawful b low high two small one some =
    record {
      right = λ s at. number-out b two small high low one some s at (drop at s) refl;
      some = low;
      fine = both (leb low low) (leb low high) (le-leb low low (omega arith)) (le-leb low high some);
    }

pub begins-number : (b low high : ℕ) (m : ℕ → Bool) → 2 ≤ b → b ≤ 16 → ((c : ℕ) → is_digit b c ≡ true → m c ≡ false) → Begins m (number b low high)
unfolding number
begins-number b low high m two small apart =
    record { apart = λ n u h. let r = shaped b two small n in rw (r.is, apart r.first r.digit) }

pub number-under : (b low high n : ℕ) → (number b low high).good n ≡ true → (low ≤ n) × (n ≤ high)
unfolding number
number-under b low high n h = (leb-true low n (both_left (leb low n) (leb n high) h), leb-true n high (both_right (leb low n) (leb n high) h))

-- which characters are digits
pub digit-characters : (b c : ℕ) → b ≤ 16 → is_digit b c ≡ true → ((48 ≤ c) × (c ≤ 57)) ⊎ ((97 ≤ c) × (c ≤ 102))
unfolding is_digit value_of
digit-characters b c small =
    let P : ℕ → Type 0 = λ d. ltb d b ≡ true → ((48 ≤ c) × (c ≤ 57)) ⊎ ((97 ≤ c) × (c ≤ 102)) in
    cond-then P (is_decimal c) (λ e _. inl (decimal-between c e))
    (λ _. cond-then P (is_letter c) (λ e _. inr (letter-between c e)) (λ _ h. absurd (omega (arith, small, ltb-true 16 b h))))

pub decimal-characters : (c : ℕ) → is_digit 10 c ≡ true → (48 ≤ c) × (c ≤ 57)
unfolding is_digit value_of
decimal-characters c =
    let P : ℕ → Type 0 = λ d. ltb d 10 ≡ true → (48 ≤ c) × (c ≤ 57) in
    cond-then P (is_decimal c) (λ e _. decimal-between c e)
    (λ _. cond-then P (is_letter c) (λ e h. absurd (omega (arith, ltb-true (c - 97 + 10) 10 h))) (λ _ h. absurd (true≢false (sym h))))
