-- Feeding is a fold: how a text is cut into blocks does not matter.
use mathlib.Core.Path.{◌≡◌, refl, sym, ap, ap₂, ◌∙◌}
use mathlib.Core.Bool.{Bool, true, false, cond}
use mathlib.Core.List.{List, [], ◌∷◌, ◌++◌, flatten}
use Prim.Native.Nat.{ℕ, ◌+◌, ◌-◌, ◌^◌, ◌≤◌, ◌<◌}
use native.Mathlib.Omega.{arith}
use native.Mathlib.Numerals.{add-one}
use lib.ListN.{length, get_or, take, drop, drop_of_length-le}
use lib.Dec.{ltb}
use lib.Seq.{drop-cons, drop-drop}
use mir.Val.{Fits}
use mir.Syntax.{w64}
use borrow.Author.Tests.{eq-eqb}
use Rattle.tally.specs.Mirror.Reading.{Reading}
use Rattle.frames.specs.Mirror.Frames.{line_read}
use Rattle.line_blocks.specs.declared.Begun.{Begun}
use Rattle.line_blocks.specs.Mirror.Rows.{Row, row, all_pushed, line_length}
use Rattle.line_blocks.proofs.PartLaws.{part-inside}
use Rattle.feeding.specs.Mirror.Feeding.{Machine, ended, byte_fed, read_on, fed}
use Rattle.feeding.proofs.EndLaws.{over_nothing, line-ended}
use Rattle.feeding.proofs.PartLaws.{line-pushed}
use Rattle.feeding.proofs.KeptLaws.{KeptAll, fed-alike}

-- the place after one inside a block
pub next_fits : (i n : ℕ) → i < n → n < 2 ^ 64 → Fits w64 (i + 1)
next_fits i n h f = omega (arith, h, f)

pub end-nearer : (i k n : ℕ) → i < n → n ≤ k → n - k < n - i
end-nearer i k n h l = omega (arith, h, l)

-- nearer to the block's end: at it, or past the line's end
pub on-nearer : (i k j n bad : ℕ) → i < n → i ≤ k → k < n → j ≡ read_on bad (k + 1) n → n - j < n - i
unfolding read_on
on-nearer i k j n bad h l m e = told (ltb 0 bad) e
  where
    told : (q : Bool) → j ≡ cond q n (k + 1) → n - j < n - i
    told true e = omega (arith, h, e)
    told false e = omega (arith, l, m, e)

-- one byte more of those from i on
fed-turn : (block : List ℕ) (i : ℕ) (m n : Machine) → i < length block → n ≡ byte_fed (get_or block i 0) m → fed (drop (i + 1) block) n ≡ fed (drop i block) m
unfolding fed
fed-turn block i m n h e = rw (add-one i, drop-cons block i 0 h, e)

-- the line's end
end-fed : (b : ℕ) (m n : Machine) → ltb 0 m.reading.case.bad ≡ false → b ≡ 10 → n ≡ ended m → n ≡ byte_fed b m
unfolding byte_fed
end-fed b m n g t e = rw (g, eq-eqb b 10 t, e)

-- after a bad line no byte counts
pub fed-stays : (block : List ℕ) (m : Machine) → ltb 0 m.reading.case.bad ≡ true → fed block m ≡ m
unfolding fed byte_fed
fed-stays [] m h = refl
fed-stays (b ∷ block) m h = rw h (fed-stays block m h)

fed-over : (block : List ℕ) (i : ℕ) (m : Machine) → length block ≤ i → fed (drop i block) m ≡ m
unfolding fed
fed-over block i m h = rw (drop_of_length-le block h)

-- of a block that a machine is fed, the bytes before i are: the rest makes of it what the block makes of the first; while bytes are left no
-- line was bad
pub record Fed (block : List ℕ) (i : ℕ) (m n : Machine) : Type 0 where
  pub inside : i ≤ length block
  pub rest : fed (drop i block) n ≡ fed block m
  pub good : i < length block → ltb 0 n.reading.case.bad ≡ false

-- and no buffer has another length
pub fed-keeps : (block : List ℕ) (i : ℕ) (m n : Machine) → Fed block i m n → KeptAll m n
fed-keeps block i m n f = fed-alike (drop i block) block m n f.rest

-- feeding goes on at i, or at the block's end if a line was bad
on-fed : (block : List ℕ) (i j : ℕ) (m n : Machine) → i ≤ length block → fed (drop i block) n ≡ fed block m → j ≡ read_on n.reading.case.bad i (length block) → Fed block j m n
unfolding read_on
on-fed block i j m n h rest e = told (ltb 0 n.reading.case.bad) refl e
  where
    told : (q : Bool) → ltb 0 n.reading.case.bad ≡ q → j ≡ cond q (length block) i → Fed block j m n
    told true b e =
        record {
          inside = omega (arith, e);
          rest = fed-over block j n (omega (arith, e)) ∙ (sym (fed-stays (drop i block) n b) ∙ rest);
          good = λ l. absurd (omega (arith, e, l));
        }
    told false b e =
        record {
          inside = omega (arith, e, h);
          rest = ap (λ (k : ℕ). fed (drop k block) n) e ∙ rest;
          good = λ _. b;
        }

pub none-fed : (block : List ℕ) (i : ℕ) (m : Machine) → i ≡ read_on m.reading.case.bad 0 (length block) → Fed block i m m
none-fed block i m e = on-fed block 0 i m m (omega arith) refl e

module _ (block : List ℕ) (i : ℕ) (m n : Machine) (f : Fed block i m n) (h : i < length block) where
  -- the characters up to the next 0x0a
  pub part-more : (end : ℕ) (w : Row) → end ≡ i + line_length (drop i block) → w ≡ all_pushed (take (end - i) (drop i block)) n.row →
      Fed block end m (record { row = w; reading = n.reading })
  part-more end w e we =
      let k : end - i ≡ line_length (drop i block) = omega (arith, e) in
      let row_is : w ≡ all_pushed (take (line_length (drop i block)) (drop i block)) n.row = we ∙ ap (λ (j : ℕ). all_pushed (take j (drop i block)) n.row) k in
      let rest_is : drop end block ≡ drop (line_length (drop i block)) (drop i block) = ap (λ (j : ℕ). drop j block) e ∙ sym (drop-drop (line_length (drop i block)) i block) in
      record {
        inside = part-inside block i end h e;
        rest = ap₂ (λ (x : List ℕ) (y : Row). fed x (record { row = y; reading = n.reading })) rest_is row_is ∙ (sym (line-pushed (drop i block) n (f.good h)) ∙ f.rest);
        good = λ _. f.good h;
      }

  pub line-more : (r : Reading) (b : Begun) (characters : List ℕ) (j : ℕ) → get_or block i 0 ≡ 10 → characters ≡ cond n.row.long [] (take n.row.used n.row.line) →
      r ≡ line_read characters n.reading → b ≡ record { used = 0; long = false } → j ≡ read_on r.case.bad (i + 1) (length block) →
      Fed block j m (record { row = row n.row.line b.used b.long; reading = r })
  line-more r b characters j t c e k =
      let o : Machine = record { row = row n.row.line b.used b.long; reading = r } in
      on-fed block (i + 1) j m o (omega (arith, h))
      (fed-turn block i n o h (end-fed (get_or block i 0) n o (f.good h) t (over_nothing n r b k ∙ line-ended n r characters c e)) ∙ f.rest)

pub all-fed : (block : List ℕ) (i : ℕ) (m n : Machine) → Fed block i m n → length block ≤ i → n ≡ fed block m
all-fed block i m n f h = sym (fed-over block i n h) ∙ f.rest

pub fed-none : (m : Machine) → fed [] m ≡ m
unfolding fed
fed-none m = refl

pub fed-append : (a b : List ℕ) (m : Machine) → fed (a ++ b) m ≡ fed b (fed a m)
unfolding fed
fed-append [] b m = refl
fed-append (c ∷ a) b m = fed-append a b (byte_fed c m)

-- blocks, one after the other
unfoldable pub blocks_fed : List (List ℕ) → Machine → Machine
blocks_fed [] m = m
blocks_fed (block ∷ blocks) m = blocks_fed blocks (fed block m)

pub blocks-fed : (blocks : List (List ℕ)) (m : Machine) → blocks_fed blocks m ≡ fed (flatten blocks) m
unfolding blocks_fed flatten fed
blocks-fed [] m = refl
blocks-fed (block ∷ blocks) m = blocks-fed blocks (fed block m) ∙ sym (fed-append block (flatten blocks) m)
