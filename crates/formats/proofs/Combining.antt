-- Formats made of lawful ones are lawful.
use mathlib.Core.Path.{◌≡◌, refl, sym, ap, ◌∙◌, subst}
use mathlib.Core.List.{List, [], ◌++◌, append_assoc}
use mathlib.Core.Logic.{◌⊎◌, inl, inr, ⊎_elim}
use mathlib.Core.Bool.{Bool, true, false, cond, ◌&&◌}
use Prim.Native.Nat.{ℕ, ◌+◌, ◌≤◌}
use native.Mathlib.Omega.{arith}
use lib.ListN.{length, drop, length-append}
use Rattle.formats.specs.Format.{Out, got, stop, on_out, Format, pair, through, blank}
use Rattle.formats.specs.Mirror.Scan.{common}
use Rattle.formats.proofs.Tests.{both, both_left, both_right}
use Rattle.formats.proofs.Agree.{same, ends, same-append, common-append, common-more}
use Rattle.formats.proofs.Law.{Got, Stopped, Right, Lawful}
use Rattle.formats.proofs.Following.{Follows, Matches}

-- ---- one after another

module _ {A B : Type 0} (f : Format A) (g : A → Format B) (m n : ℕ → Bool) (first : Lawful f m) (second : (a : A) → Lawful (g a) n) (follows : Follows f g m n) (s : List ℕ) (at : ℕ) where
  shut : (k : ℕ) → Stopped f m s at k → Stopped (pair f g) n s at k
  unfolding pair
  shut k r =
      record {
        most = (r.most, (second r.most).some);
        fine = both (f.good r.most) ((g r.most).good (second r.most).some) r.fine (second r.most).fine;
        reach = omega (arith, r.reach, common-more (drop at s) (f.print r.most) ((g r.most).print (second r.most).some));
        none = λ w u h e.
            let l = both_left (f.good w.0) ((g w.0).good w.1) h in
            rw (append_assoc (f.print w.0) ((g w.0).print w.1) u)
            (r.none w.0 ((g w.0).print w.1 ++ u) l (follows.apart w.0 w.1 u l (both_right (f.good w.0) ((g w.0).good w.1) h) e));
      }

  -- the second's reading, where the first has been read
  module _ (a : A) (e : ℕ) (r : Got f m s at a e) where
    further : (x : List ℕ) → at + same (drop at s) (f.print a ++ x) ≡ e + same (drop e s) x
    further x = rw (r.text, same-append (f.print a) (drop e s) x, r.end) (omega arith)

    -- of any pair that is printed: it is the first's value, or the texts part within it
    either : (P : A × B → Type 0) → ((b : B) → (g a).good b ≡ true → P (a, b)) → (w : A × B) (u : List ℕ) → f.good w.0 && (g w.0).good w.1 ≡ true → ends n u ≡ true → ((at + same (drop at s) ((f.print w.0 ++ (g w.0).print w.1) ++ u) ≤ e) → P w) → P w
    either P here w u h z there =
        let l = both_left (f.good w.0) ((g w.0).good w.1) h in
        let k = both_right (f.good w.0) ((g w.0).good w.1) h in
        ⊎_elim
        (λ p. subst (λ (x : A). (g x).good w.1 ≡ true → P (x, w.1)) (sym p) (here w.1) k)
        (λ q. there (rw (append_assoc (f.print w.0) ((g w.0).print w.1) u) q))
        (r.only w.0 ((g w.0).print w.1 ++ u) l (follows.apart w.0 w.1 u l k z))

    shut-second : (k : ℕ) → Stopped (g a) n s e k → Stopped (pair f g) n s at k
    unfolding pair
    shut-second k q =
        let d : e + same (drop e s) ((g a).print (second a).some ++ []) ≤ k = q.none (second a).some [] (second a).fine refl in
        record {
          most = (a, q.most);
          fine = both (f.good a) ((g a).good q.most) r.fine q.fine;
          reach = rw (r.text, common-append (f.print a) (drop e s) ((g a).print q.most)) (omega (arith, q.reach, r.end));
          none = λ w u h z.
              either (λ w. at + same (drop at s) ((f.print w.0 ++ (g w.0).print w.1) ++ u) ≤ k)
              (λ b j. rw (append_assoc (f.print a) ((g a).print b) u, further ((g a).print b ++ u)) (q.none b u j z))
              w u h z (λ x. omega (arith, x, d));
        }

    read-both : (b : B) (d : ℕ) → Got (g a) n s e b d → Got (pair f g) n s at (a, b) d
    unfolding pair
    read-both b d q =
        record {
          fine = both (f.good a) ((g a).good b) r.fine q.fine;
          end = rw (length-append (f.print a) ((g a).print b)) (omega (arith, q.end, r.end));
          text = r.text ∙ ap (λ (l : List ℕ). f.print a ++ l) q.text ∙ sym (append_assoc (f.print a) ((g a).print b) (drop d s));
          only = λ w u h z.
              either (λ w. (w ≡ (a, b)) ⊎ (at + same (drop at s) ((f.print w.0 ++ (g w.0).print w.1) ++ u) ≤ d))
              (λ c j. ⊎_elim
              (λ p. inl (λ i. (a, p i)))
              (λ x. inr (rw (append_assoc (f.print a) ((g a).print c) u, further ((g a).print c ++ u)) x))
              (q.only c u j z))
              w u h z (λ x. inr (omega (arith, x, q.end)));
        }

    after_first : (o : Out B) → Right (g a) n s e o → Right (pair f g) n s at (on_out o stop (λ b d. got (a, b) d))
    after_first (got b d) q = read-both b d q
    after_first (stop k) q = shut-second k q

  pair-out : (o : Out A) → Right f m s at o → Right (pair f g) n s at (on_out o stop (λ a e. on_out ((g a).read s e) stop (λ b d. got (a, b) d)))
  pair-out (got a e) r = after_first a e r ((g a).read s e) ((second a).right s e)
  pair-out (stop k) r = shut k r

pub pair-lawful : {A B : Type 0} {f : Format A} {g : A → Format B} {m n : ℕ → Bool} → Lawful f m → ((a : A) → Lawful (g a) n) → Follows f g m n → Lawful (pair f g) n
unfolding pair
pair-lawful {f} {g} {m} {n} first second follows =
    record {
      right = λ s at. pair-out f g m n first second follows s at (f.read s at) (first.right s at);
      some = (first.some, (second first.some).some);
      fine = both (f.good first.some) ((g first.some).good (second first.some).some) first.fine (second first.some).fine;
    }

-- ---- the same texts for other values

module _ {A B : Type 0} (to : A → B) (from : B → A) (good : B → Bool) (f : Format A) (m : ℕ → Bool) (matches : Matches to from good f) (s : List ℕ) (at : ℕ) where
  through-out : (o : Out A) → Right f m s at o → Right (through to from good f) m s at (on_out o stop (λ a e. got (to a) e))
  unfolding through
  through-out (got a e) r =
      let i = matches.into a r.fine in
      let p : f.print a ≡ f.print (from (to a)) = ap f.print (sym i.1) in
      record {
        fine = i.0;
        end = r.end ∙ ap (λ (l : List ℕ). at + length l) p;
        text = r.text ∙ ap (λ (l : List ℕ). l ++ drop e s) p;
        only = λ w u h z.
            let o = matches.out w h in
            ⊎_elim (λ p. inl (sym o.1 ∙ ap to p)) inr (r.only (from w) u o.0 z);
      }
  through-out (stop k) r =
      let i = matches.into r.most r.fine in
      record {
        most = to r.most;
        fine = i.0;
        reach = subst (λ (x : A). k ≤ at + common (drop at s) (f.print x)) (sym i.1) r.reach;
        none = λ w u h z. r.none (from w) u (matches.out w h).0 z;
      }

pub through-lawful : {A B : Type 0} {to : A → B} {from : B → A} {good : B → Bool} {f : Format A} {m : ℕ → Bool} → Lawful f m → Matches to from good f → Lawful (through to from good f) m
unfolding through
through-lawful {to} {from} {good} {f} {m} law matches =
    record {
      right = λ s at. through-out to from good f m matches s at (f.read s at) (law.right s at);
      some = to law.some;
      fine = (matches.into law.some law.fine).0;
    }

-- ---- no text, and one of two formats

pub blank-lawful : {A : Type 0} (v : A) (test : A → Bool) (m : ℕ → Bool) → test v ≡ true → ((w : A) → test w ≡ true → w ≡ v) → Lawful (blank v test) m
unfolding blank
blank-lawful v test m h unique =
    record { right = λ s at. record { fine = h; end = omega arith; text = refl; only = λ w u g z. inl (unique w g) }; some = v; fine = h }

pub cond-lawful : {A : Type 0} {f g : Format A} {m : ℕ → Bool} (b : Bool) → Lawful f m → Lawful g m → Lawful (cond b f g) m
cond-lawful true p q = p
cond-lawful false p q = q
