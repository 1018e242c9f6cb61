-- What the text and the end of calls say that may follow each other.
use Rattle.std.proofs.Common.{◌≡◌, refl, sym, ap, ◌∙◌, Bool, true, false, ◌||◌, List, [], ◌∷◌, ◌++◌, append_assoc, ℕ, arith, length, take, Result, Ok}
use mathlib.Core.Bool.{true≢false}
use mathlib.Core.List.{append-nil, flatten}
use Rattle.std.proofs.Math.ListN.{length-append}
use Rattle.std.specs.declared.io.Error.{Error}
use Rattle.input.specs.declared.Answer.{Answer}
use Rattle.input.specs.declared.Answer.TheVariants.{Bytes, End, Failed}
use Rattle.input.specs.Answers.{answer_of, on_answer, gave_bytes, met_end}
use Rattle.input.specs.Calls.{Call, bytes_of, Moved, Possible, text_of, ended_by}
use Rattle.input.proofs.AnswersLaws.{end-zero}

-- a call that gave bytes
pub record Gave (c : Call) : Type 0 where
  pub moved : Moved 65536 c.got
  pub room : length c.block ≡ 65536
  pub gave : gave_bytes c.got ≡ true

abbrev pub AllGave : List Call → Type 0
AllGave [] = Unit
AllGave (c ∷ calls) = Gave c × AllGave calls

gave-no-end : (got : Result ℕ Error) → gave_bytes got ≡ true → met_end got ≡ false
unfolding gave_bytes met_end
gave-no-end got = told (answer_of got)
  where
    told : (a : Answer) → on_answer a (λ n. true) false false ≡ true → on_answer a (λ n. false) true false ≡ false
    told (Bytes n) g = refl
    told End g = absurd (true≢false (sym g))
    told Failed g = refl

pub some-gave : (c : Call) → (length (bytes_of c) ≡ 0 → ⊥) → gave_bytes c.got ≡ true
unfolding bytes_of gave_bytes
some-gave c = told (answer_of c.got)
  where
    told : (a : Answer) → (length (on_answer a (λ n. take n c.block) [] []) ≡ 0 → ⊥) → on_answer a (λ n. true) false false ≡ true
    told (Bytes n) h = refl
    told End h = absurd (h refl)
    told Failed h = absurd (h refl)

pub one-text : (c : Call) → text_of (c ∷ []) ≡ bytes_of c
unfolding text_of flatten
one-text c = append-nil (bytes_of c)

pub one_end : (c : Call) → ended_by (c ∷ []) ≡ met_end c.got
unfolding ended_by
one_end c = told (met_end c.got)
  where
    told : (b : Bool) → (b || false) ≡ b
    told true = refl
    told false = refl

pub text-append : (a b : List Call) → text_of (a ++ b) ≡ text_of a ++ text_of b
unfolding text_of flatten
text-append [] b = refl
text-append (c ∷ a) b =
    ap (λ (t : List ℕ). bytes_of c ++ t) (text-append a b) ∙ sym (append_assoc (bytes_of c) (text_of a) (text_of b))

pub end-append : (a b : List Call) → AllGave a → ended_by (a ++ b) ≡ ended_by b
unfolding ended_by
end-append [] b g = refl
end-append (c ∷ a) b g = rw (gave-no-end c.got g.0.gave) (end-append a b g.1)

pub gave-append : (a b : List Call) → AllGave a → AllGave b → AllGave (a ++ b)
gave-append [] b g h = h
gave-append (c ∷ a) b g h = (g.0, gave-append a b g.1 h)

pub possible-append : (a b : List Call) → AllGave a → Possible b → Possible (a ++ b)
possible-append [] b g p = p
possible-append (c ∷ a) b g p =
    (g.0.moved, (g.0.room, ((λ f. absurd (true≢false (sym g.0.gave ∙ f))), possible-append a b g.1 p)))

-- the input has ended: the last call answered 0, and those before it gave bytes
pub record Ended (calls : List Call) : Type 0 where
  pub before : List Call
  pub last : Call
  pub are : calls ≡ before ++ (last ∷ [])
  pub gave : AllGave before
  pub zero : last.got ≡ Ok 0

pub ended-at-zero : (calls : List Call) → Possible calls → ended_by calls ≡ true → Ended calls
unfolding gave_bytes met_end ended_by
ended-at-zero [] p t = absurd (true≢false (sym t))
ended-at-zero (c ∷ calls) p t = told (answer_of c.got) refl p.1.1.0 t (ended-at-zero calls p.1.1.1)
  where
    told : (a : Answer) → answer_of c.got ≡ a → (on_answer a (λ n. true) false false ≡ false → calls ≡ []) →
        (on_answer a (λ n. false) true false || ended_by calls) ≡ true → (ended_by calls ≡ true → Ended calls) → Ended (c ∷ calls)
    told (Bytes n) g q t on =
        let r = on t in
        record {
          before = c ∷ r.before;
          last = r.last;
          are = ap (λ (l : List Call). c ∷ l) r.are;
          gave = (record { moved = p.0; room = p.1.0; gave = rw g refl }, r.gave);
          zero = r.zero;
        }
    told End g q t on =
        record { before = []; last = c; are = ap (λ (l : List Call). c ∷ l) (q refl); gave = tt; zero = end-zero c.got g }
    told Failed g q t on = absurd (true≢false (sym t ∙ ap ended_by (q refl)))

some_left : (a b : List Call) (c : Call) → a ++ (c ∷ b) ≡ [] → ⊥
some_left a b c e =
    let n : length (a ++ (c ∷ b)) ≡ 0 = ap (λ (l : List Call). length l) e in
    omega (arith, n, length-append a (c ∷ b))

-- a read that failed is not the end of the input
pub failed-not-ended : (before after : List Call) (c : Call) → Possible (before ++ (c ∷ after)) → answer_of c.got ≡ Failed → ended_by (before ++ (c ∷ after)) ≡ false
unfolding gave_bytes met_end ended_by
failed-not-ended [] after c p g = rw g (ap ended_by (p.1.1.0 (rw g refl)))
failed-not-ended (d ∷ before) after c p g = told (answer_of d.got) p.1.1.0 (failed-not-ended before after c p.1.1.1 g)
  where
    told : (a : Answer) → (on_answer a (λ n. true) false false ≡ false → before ++ (c ∷ after) ≡ []) → ended_by (before ++ (c ∷ after)) ≡ false →
        (on_answer a (λ n. false) true false || ended_by (before ++ (c ∷ after))) ≡ false
    told (Bytes n) q h = h
    told End q h = absurd (some_left before after c (q refl))
    told Failed q h = h
