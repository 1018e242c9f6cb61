-- The bytes of a line, by their places, and the line written for them.
use mathlib.Core.Path.{◌≡◌, refl, ap, ◌∙◌}
use mathlib.Core.Bool.{false}
use mathlib.Core.List.{List, [], ◌∷◌, ◌++◌}
use Prim.Native.Nat.{ℕ, zero, suc, ◌+◌, ◌*◌, ◌/◌, ◌%◌, ◌-◌, ◌<◌, ◌≤◌}
use native.Mathlib.Omega.{arith}
use lib.ListN.{length, get_or, drop, length-drop, get_or-eq_default}
use Rattle.little_endian.specs.LittleEndian.{number_at}
use Rattle.std.specs.Int.{w16, w32, w64, from_le_bytes}
use Rattle.hex_text.specs.Digits.{digit_of, character_of}
use Rattle.hex_text.specs.Bytes.{is_hex, hex_bytes, hex_of}
use Rattle.hex_text.proofs.DigitLaws.{digit-character}

pub empty-not-hex : is_hex [] ≡ false
unfolding is_hex
empty-not-hex = refl

pub length-hex : (line : List ℕ) → length (hex_bytes line) ≡ length line / 2
unfolding hex_bytes
length-hex [] = refl
length-hex (c ∷ []) = refl
length-hex (h ∷ l ∷ cs) = ap suc (length-hex cs) ∙ omega arith

-- byte k has the digits 2k and 2k + 1
pub hex-at : (line : List ℕ) (k : ℕ) → k < length line / 2 → get_or (hex_bytes line) k 0 ≡ digit_of (get_or line (2 * k) 0) * 16 + digit_of (get_or line (2 * k + 1) 0)
unfolding hex_bytes
hex-at [] k h = absurd (omega arith)
hex-at (c ∷ []) k h = absurd (omega arith)
hex-at (a ∷ b ∷ cs) zero h = refl
hex-at (a ∷ b ∷ cs) (suc k) h =
    let m : 2 * suc k ≡ suc (suc (2 * k)) = omega arith in
    let n : suc (suc (2 * k)) + 1 ≡ suc (suc (2 * k + 1)) = omega arith in
    rw (m, n) (hex-at cs k (omega arith))

pub hex-past : (line : List ℕ) (k : ℕ) → length line / 2 ≤ k → get_or (hex_bytes line) k 0 ≡ 0
hex-past line k h = get_or-eq_default (hex_bytes line) 0 (omega (arith, length-hex line))

-- how many bytes follow the first n
pub length_rest : (line : List ℕ) (n : ℕ) → length (drop n (hex_bytes line)) ≡ length line / 2 - n
length_rest line n = length-drop n (hex_bytes line) ∙ ap (λ (m : ℕ). m - n) (length-hex line)

pub no-rest : (line : List ℕ) (n : ℕ) → length line / 2 ≤ n → length (drop n (hex_bytes line)) ≡ 0
no-rest line n h = length_rest line n ∙ omega arith

-- numbers of the same bytes
pub number_same : (n : ℕ) (a b : List ℕ) (i j : ℕ) → ((k : ℕ) → k < n → get_or a (i + k) 0 ≡ get_or b (j + k) 0) → number_at n a i ≡ number_at n b j
unfolding number_at
number_same zero a b i j same = refl
number_same (suc n) a b i j same =
    let first : get_or a (i + 0) 0 ≡ get_or b (j + 0) 0 = same 0 (omega arith) in
    let rest : number_at n a (suc i) ≡ number_at n b (suc j) =
    number_same n a b (suc i) (suc j) (λ k h. let e : i + suc k ≡ suc i + k = omega arith in let f : j + suc k ≡ suc j + k = omega arith in rw (← e, ← f) (same (suc k) (omega arith))) in
    let p : i + 0 ≡ i = omega arith in
    let q : j + 0 ≡ j = omega arith in
    cc

pub le_number_2 : (bs : List ℕ) → from_le_bytes w16 bs ≡ number_at 2 bs 0
unfolding number_at
le_number_2 bs = omega arith

pub le_number_4 : (bs : List ℕ) → from_le_bytes w32 bs ≡ number_at 4 bs 0
unfolding number_at
le_number_4 bs = omega arith

pub le_number_8 : (bs : List ℕ) → from_le_bytes w64 bs ≡ number_at 8 bs 0
unfolding number_at
le_number_8 bs = omega arith

-- reading what was written for bytes gives the bytes
pub hex-again : (bs : List ℕ) → ((k : ℕ) → get_or bs k 0 < 256) → hex_bytes (hex_of bs) ≡ bs
unfolding hex_bytes hex_of
hex-again [] h = refl
hex-again (b ∷ bs) h =
    let k : b < 256 = h 0 in
    rw (digit-character (b / 16) (omega arith), digit-character (b % 16) (omega arith), hex-again bs (λ i. h (suc i)))
    (ap (λ (x : ℕ). x ∷ bs) (omega arith))

pub length-written : (bs : List ℕ) → length (hex_of bs) ≡ 2 * length bs
unfolding hex_of
length-written [] = refl
length-written (b ∷ bs) = ap (λ (n : ℕ). suc (suc n)) (length-written bs) ∙ omega arith

-- what is written for bytes, one after the other
pub hex-none : hex_of [] ≡ []
unfolding hex_of
hex-none = refl

pub hex-more : (b : ℕ) (bs : List ℕ) → hex_of (b ∷ bs) ≡ character_of (b / 16) ∷ character_of (b % 16) ∷ hex_of bs
unfolding hex_of
hex-more b bs = refl

pub hex-append : (a b : List ℕ) → hex_of (a ++ b) ≡ hex_of a ++ hex_of b
unfolding hex_of
hex-append [] b = refl
hex-append (x ∷ a) b = ap (λ (l : List ℕ). character_of (x / 16) ∷ character_of (x % 16) ∷ l) (hex-append a b)
